-- The events around the units, and the keys of units.
use Rattle.std.proofs.Common.{◌≡◌, ◌<◌, ◌≤◌, ℕ, zero, suc, ◌⊎◌, inl, inr, ⊎_elim, refl, List, []}
use Rattle.std.proofs.Common.{◌∷◌, ◌++◌, length, get_or, Option, Some, slice_get, sym, ap, ap₂, ◌∙◌}
use Rattle.std.proofs.Common.{subst, append-nil, arith}
use Rattle.std.proofs.lemmas.Bool.{cases_lt}
use Rattle.std.proofs.lemmas.List.Elements.{All-weaker}
use Rattle.tk_ids.specs.IdText.{SegmentView}
use Rattle.tk_ids.specs.Table.{AreDifferent}
use Rattle.tk_events.specs.declared.events.Event.{Event}
use Rattle.tk_queue_session.specs.Emission.{entries_by}
use Rattle.tk_query_lifecycle.specs.Lifecycle.{HasId}
use Rattle.tk_query_lifecycle.specs.KeepsLifecycle.{KeepsLifecycle}
use Rattle.tk_plan.specs.Cutting.{Piece, pieces_of}
use Rattle.tk_plan.specs.Numbers.{IsNumbered}
use Rattle.tk_plan.specs.Planned.{IsPlanned, Outline}
use Rattle.tk_plan.specs.Trees.{forest, number_of}
use Rattle.tk_engine_execute.specs.Engines.{IsStaticEvent}
use Rattle.tk_run_laws.specs.Spines.{ArePlaced, end_of, IsOfUnit, IsOnSpine, IsSpineEvent}
use Rattle.tk_run_laws.specs.Spines.{SpineEmits, SpineKeepsLifecycle, SpineRuns}
use Rattle.tk_engine_lifecycle.specs.Units.{KeepsAround, UnitsKeepLifecycle, run_alone}
use Rattle.tk_engine_unit_events.specs.Owners.{AreOwners}
use Rattle.tk_engine_unit_events.specs.Shapes.{HavePlaces, IsInUnit, ShapeView, count_units, frame}
use Rattle.tk_engine_unit_events.specs.Shapes.{end_in, first_in, keys_in, may_emit}
use Rattle.tk_engine_unit_events.specs.Units.{UnitKeys}
use Rattle.tk_base.proofs.Lists.{get_below}
use Rattle.tk_engine_unit_events.proofs.Owned.{owner_static}
use Rattle.tk_engine_unit_events.proofs.UnitsOfKeys.{unit_below}
use Rattle.tk_engine_unit_events.proofs.UnitStates.{described_id}
use Rattle.tk_query_lifecycle.proofs.IdMapLemmas.{at_id}

-- a number of a list, or else the one past its end
either : (xs : List ℕ) (i none : ℕ) → ((x : ℕ) × (slice_get xs i ≡ Some x) × (get_or xs i none ≡ x))
    ⊎ (get_or xs i none ≡ none)
either [] i none = inr refl
either (x ∷ xs) zero none = inl (x, refl, refl)
either (x ∷ xs) (suc i) none = either xs i none

-- a key on the spine belongs to no unit
common_owner : (s : ShapeView) (key : ℕ) → AreOwners s.plan s.owners
    → ArePlaced s.plan.nodes s.plan.table → IsOnSpine s.plan.nodes key
    → count_units s ≤ get_or s.owners key (count_units s)
common_owner s key owners places spine = ⊎_elim
    (λ (f : (x : ℕ) × (slice_get s.owners key ≡ Some x)
    × (get_or s.owners key (count_units s) ≡ x)).
    ⊎_elim
    (λ low. absurd (places.apart f.0 key spine (owners.owned key f.0 f.1 low)))
    (λ high. subst (λ n. count_units s ≤ n) (sym f.2) high)
    (cases_lt f.0 (count_units s)))
    (λ none. subst (λ n. count_units s ≤ n) (sym none) (omega arith))
    (either s.owners key (count_units s))

pub keeps_around : (s : ShapeView) → IsPlanned s.plan.nodes s.plan.table → IsNumbered s.plan.nodes
    → AreDifferent s.plan.table → AreOwners s.plan s.owners
    → ArePlaced s.plan.nodes s.plan.table → SpineEmits → SpineKeepsLifecycle → KeepsAround (frame s)
keeps_around s planned numbers different owners places emits keeps =
    let f = frame s in
    let each = emits s.plan.nodes s.plan.table planned numbers in
    record {
      keeps = subst (λ l. KeepsLifecycle
          (record { table = f.table; entries = l ++ entries_by 0 f.after }))
          (sym (append-nil (entries_by 0 f.before)))
          (keeps s.plan.nodes s.plan.table planned numbers);
      static = All-weaker (IsSpineEvent s.plan.nodes s.plan.table) (IsStaticEvent (length f.table))
          (λ e h. (h.1, h.2)) (f.before ++ f.after) each;
      common = All-weaker (IsSpineEvent s.plan.nodes s.plan.table)
          (λ e. (id : List SegmentView) × HasId (run_alone f 0 []) e.key id
          × (f.units ≤ f.owner id))
          (λ e h.
          let d = get_below f.table e.key h.1 in (
            d.0.id,
            described_id (run_alone f 0 []) e.key d.0 d.1,
            subst (λ n. f.units ≤ n)
                (sym (owner_static f.table s.owners f.units e.key d.0.id different
                (at_id f.table e.key d.0 d.1))) (common_owner s e.key owners places h.0),
          ))
          (f.before ++ f.after) each;
    }

-- a key of a plan's unit is one of the unit's
in_unit : (s : ShapeView) (unit key : ℕ) → IsOfUnit s.plan.nodes unit key → IsInUnit s key
in_unit s unit key h = (
  unit,
  unit_below s.plan unit h.piece h.its,
  subst (λ o. first_in o ≤ key) (sym h.its) h.from_first,
  subst (λ o. key < end_in o) (sym h.its) h.before_end,
)

pub have_places : (s : ShapeView) → ArePlaced s.plan.nodes s.plan.table → SpineRuns → HavePlaces s
have_places s places runs key low =
    ⊎_elim (λ a. inr (runs s.plan.nodes key a)) (λ b. inl (in_unit s b.0 key b.1))
    (places.placed key low)

-- the keys of a unit, by its tree
pub keys_are : (s : ShapeView) (plan : Outline) (unit first end : ℕ) (piece : Piece) → plan ≡ s.plan
    → slice_get (pieces_of (forest plan.nodes)) unit ≡ Some piece
    → first ≡ number_of piece.tree → end ≡ end_of piece.tree
    → ◌≡◌ {A = UnitKeys} (record { unit = unit; first = first; end = end }) (keys_in s unit)
keys_are s plan unit first end piece same its at_first at_end =
    let keys : Option Piece
    → UnitKeys = λ o. record { unit = unit; first = first_in o; end = end_in o } in
    let as_keys : ℕ → ℕ → UnitKeys = λ a b. record { unit = unit; first = a; end = b } in
    subst (λ (o : Outline). as_keys first end ≡ keys (slice_get (pieces_of (forest o.nodes)) unit))
    same
    (ap₂ as_keys at_first at_end ∙ sym (ap keys its))

-- ---- the law

pub kept_units : (s : ShapeView) (may_step : Event → Type 0) → KeepsAround (frame s)
    → UnitsKeepLifecycle (frame s) (may_emit s may_step)
kept_units s may_step around =
    record { around = around; each = λ unit worker earlier events low runs. runs.keeps }

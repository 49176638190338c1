-- The units of static keys.
use Rattle.std.proofs.Common.{◌≡◌, ◌<◌, ◌≤◌, ◌+◌, ◌-◌, ◌^◌, ℕ, ⊎_elim}
use Rattle.std.proofs.Common.{true, if◌then◌else◌, List, [], ◌∷◌, ◌++◌, length, take, get_or}
use Rattle.std.proofs.Common.{set, min, Some, slice_get, sym, ap, ◌∙◌, subst}
use Rattle.std.proofs.Common.{arith}
use Rattle.std.proofs.lemmas.Bool.{cases_lt}
use Rattle.std.proofs.lemmas.Option.{same_Some, slice_get_within}
use Rattle.std.proofs.lemmas.List.{length-map, take_more}
use Rattle.tk_plan.specs.Cutting.{Piece, pieces_of, units_of}
use Rattle.tk_plan.specs.Numbers.{of_kind}
use Rattle.tk_plan.specs.Planned.{IsPlanned, Outline}
use Rattle.tk_plan.specs.Trees.{IsForest, Tree, forest, number_of, tree_of}
use Rattle.tk_plan.specs.declared.trees.nodes.NumberedNode.{NumberedNode}
use Rattle.tk_run_laws.specs.Spines.{ArePlaced, IsOfUnit, count_static, end_of}
use Rattle.tk_engine_unit_events.specs.Owners.{AreOwners}
use Rattle.tk_run_laws.proofs.SpinePlaces.{count-append}

-- ---- counting

least_more : (a b most : ℕ) → min (min a most + b) most ≡ min (a + b) most
least_more a b most = omega arith

-- the end of the first nodes' keys, and of one more
pub ends_more : (first : ℕ) (top : NumberedNode) (xs : List NumberedNode) (i : ℕ) (x : NumberedNode)
    (end new : ℕ) → i < length xs → x ≡ get_or xs i x
    → end ≡ min (first + count_static (top ∷ take i xs)) (2 ^ 32 - 1)
    → new ≡ min (end + count_static (x ∷ [])) (2 ^ 32 - 1)
    → new ≡ min (first + count_static (top ∷ take (i + 1) xs)) (2 ^ 32 - 1)
ends_more first top xs i x end new low is old more =
    let longer : take (i + 1) xs ≡ take i xs ++ x ∷ [] = take_more xs i x low
    ∙ ap (λ y. take i xs ++ y ∷ []) (sym is) in
    let count : count_static (top ∷ take (i + 1) xs) ≡ count_static (top ∷ take i xs) + count_static
    (x ∷ [])
    = ap (λ l. count_static (top ∷ l)) longer ∙ count-append (top ∷ take i xs) (x ∷ []) in
    let least = least_more (first + count_static (top ∷ take i xs)) (count_static (x ∷ []))
    (2 ^ 32 - 1) in
    more ∙ ap (λ n. min (n + count_static (x ∷ [])) (2 ^ 32 - 1)) old ∙ least
    ∙ ap (λ n. min n (2 ^ 32 - 1)) (omega (arith, count))

-- the end of a tree's keys, by its nodes
pub end_is : (top : NumberedNode) (below : List NumberedNode) → IsForest below
    → end_of (tree_of top below) ≡ top.number + count_static (top ∷ below)
unfolding IsForest
end_is top below is = ap
    (λ ns. top.number + length
    (if top.node.is_static then top.node ∷ of_kind true ns else of_kind true ns)) (sym is)

-- ---- a loop that sets a range

-- the numbers from `first` on and below `key` are set, and the others are as they were
pub record AreSet (old new : List ℕ) (first key unit : ℕ) : Type 0 where
  pub count : length new ≡ length old
  pub own : (k : ℕ) → first ≤ k → k < key → slice_get new k ≡ Some unit
  pub before : (k : ℕ) → k < first → slice_get new k ≡ slice_get old k
  pub after : (k : ℕ) → key ≤ k → slice_get new k ≡ slice_get old k

-- ---- the units of a plan

abbrev pub count_units_of : Outline → ℕ
count_units_of plan = length (units_of (forest plan.nodes))

pub unit_below : (plan : Outline) (unit : ℕ) (piece : Piece)
    → slice_get (pieces_of (forest plan.nodes)) unit ≡ Some piece → unit < count_units_of plan
unit_below plan unit piece its =
    subst (λ n. unit < n)
    (sym (length-map (pieces_of (forest plan.nodes)) (λ (u : Piece). number_of u.tree)))
    (slice_get_within (pieces_of (forest plan.nodes)) unit piece its)

-- the numbers of the first n units' keys are theirs, and any other is the number of the units
pub record OwnedSoFar (plan : Outline) (n : ℕ) (owners : List ℕ) : Type 0 where
  pub count : length owners ≡ length plan.table
  pub owned : (key unit : ℕ) → slice_get owners key ≡ Some unit → unit < count_units_of plan
      → (unit < n) × IsOfUnit plan.nodes unit key
  pub known : (key unit : ℕ) → unit < n → IsOfUnit plan.nodes unit key → (owner : ℕ)
      × (slice_get owners key ≡ Some owner) × (owner < count_units_of plan)

-- where the keys of the next unit are set to its number, n + 1 units have theirs
pub next_owned : (plan : Outline) (n : ℕ) (old new : List ℕ) (piece : Piece) (first end : ℕ)
    → OwnedSoFar plan n old → slice_get (pieces_of (forest plan.nodes)) n ≡ Some piece
    → first ≡ number_of piece.tree → end ≡ end_of piece.tree → AreSet old new first end n
    → OwnedSoFar plan (n + 1) new
next_owned plan n old new piece first end are its at_first at_end set = record {
  count = set.count ∙ are.count;
  owned = λ key unit at low.
      let kept : slice_get new key ≡ slice_get old key → (unit < n + 1)
      × IsOfUnit plan.nodes unit key = λ same.
      let o = are.owned key unit (sym same ∙ at) low in
      let less = o.0 in (omega (arith, less), o.1) in
      ⊎_elim
      (λ less. kept (set.before key less))
      (λ from. ⊎_elim
      (λ below.
      let same : n ≡ unit = same_Some _ _ (sym (set.own key from below) ∙ at) in (
        omega (arith, same),
        subst (λ u. IsOfUnit plan.nodes u key) same (record {
          piece = piece;
          its = its;
          from_first = omega (arith, from, at_first);
          before_end = omega (arith, below, at_end);
        }),
      ))
      (λ past. kept (set.after key past))
      (cases_lt key end))
      (cases_lt key first);
  known = λ key unit low of.
      let top = unit_below plan n piece its in
      ⊎_elim
      (λ earlier.
      let o = are.known key unit earlier of in
      let kept : slice_get new key ≡ slice_get old key → (owner : ℕ)
      × (slice_get new key ≡ Some owner)
      × (owner < count_units_of plan) = λ same. (o.0, same ∙ o.1, o.2) in
      ⊎_elim
      (λ less. kept (set.before key less))
      (λ from. ⊎_elim (λ below. (n, set.own key from below, top))
      (λ past. kept (set.after key past)) (cases_lt key end))
      (cases_lt key first))
      (λ last.
      let same : unit ≡ n = omega (arith, low, last) in
      let own : of.piece ≡ piece = same_Some _ _
      (sym of.its ∙ ap (slice_get (pieces_of (forest plan.nodes))) same ∙ its) in
      let above = subst (λ (q : Piece). number_of q.tree ≤ key) own of.from_first in
      let from : first ≤ key = omega (arith, above, at_first) in
      let under = subst (λ (q : Piece). key < end_of q.tree) own of.before_end in
      let below : key < end = omega (arith, under, at_end) in
      (n, set.own key from below, top))
      (cases_lt unit n);
}

-- with all units the numbers are as they have to be
pub all_owned : (plan : Outline) (owners : List ℕ) → ArePlaced plan.nodes plan.table
    → OwnedSoFar plan (count_units_of plan) owners → AreOwners plan owners
all_owned plan owners places are = record {
  owned = λ key unit at low. (are.owned key unit at low).1;
  others = λ key unit at high.
      let low : key < length plan.table = subst (λ n. key < n) are.count
      (slice_get_within owners key unit at) in
      ⊎_elim (λ spine. spine)
      (λ of.
      let o = are.known key of.0 (unit_below plan of.0 of.1.piece of.1.its) of.1 in
      let same : o.0 ≡ unit = same_Some _ _ (sym o.1 ∙ at) in
      let small = o.2 in
      absurd (omega (arith, same, small, high)))
      (places.placed key low);
}

-- the end of a unit's keys is a small number
pub end_exact : (plan : Outline) (unit end : ℕ) (piece : Piece) → IsPlanned plan.nodes plan.table
    → ArePlaced plan.nodes plan.table → slice_get (pieces_of (forest plan.nodes)) unit ≡ Some piece
    → end ≡ min (end_of piece.tree) (2 ^ 32 - 1) → end ≡ end_of piece.tree
end_exact plan unit end piece planned places its is =
    let few = planned.few_static in
    let within_table = places.within unit piece its in
    omega (arith, few, within_table, is)

pub first_before_end : (t : Tree) → number_of t ≤ end_of t
first_before_end t = omega arith

-- The ids that the registrations of a run emit.
use Rattle.std.proofs.Common.{◌≡◌, ◌≤◌, ◌<◌, ℕ, zero, suc, ◌+◌, ◌*◌, Bool, true, false, ◌&&◌, List, [], ◌∷◌, ◌++◌, All, map, length, flat_map, Option, Some, None, slice_get, option_map, refl, sym, ap, ap₂, ◌∙◌, arith, tests, if◌then◌else◌, ◌==◌, length-append}
use Rattle.std.specs.Option.{option_or}
use Rattle.std.proofs.lemmas.List.{map-append}
use Rattle.std.proofs.lemmas.List.Elements.{All-head, All-tail}
use Rattle.std.proofs.lemmas.Grind.{flat_map-append}
use Rattle.std.proofs.lemmas.List.Recursion.{is_count_by}
use Rattle.tk_record.specs.Entries.{desc_in, described}
use Rattle.tk_plan.specs.Cutting.{script_of}
use Rattle.tk_plan.specs.Events.{IsStatic}
use Rattle.tk_plan.specs.StepEvents.{kind_of}
use Rattle.tk_plan.specs.Trees.{forest}
use Rattle.tk_plan.specs.declared.trees.nodes.NumberedNode.{NumberedNode}
use Rattle.tk_plan.specs.declared.scripts.steps.Act.{Act}
use Rattle.tk_plan.specs.declared.scripts.steps.Act.TheVariants.{File, Finish, Register, Report, Skip, Start}
use Rattle.tk_plan.specs.declared.scripts.steps.Step.{Step}
use Rattle.tk_events.specs.Event.{kind_code}
use Rattle.tk_events.specs.declared.events.Entry.{Entry}
use Rattle.tk_events.specs.declared.events.Event.{Event}
use Rattle.tk_events.specs.declared.kinds.Kind.TheVariants.{Dynamic}
use Rattle.tk_events.specs.declared.payloads.Payload.{Payload}
use Rattle.tk_events.specs.declared.payloads.Payload.TheVariants.{Described, Nothing, Outcome, Path, Reason, Report as Reported}
use Rattle.tk_ids.specs.IdText.{SegmentView}
use Rattle.tk_ids.specs.Table.{ids_of}
use Rattle.tk_ids.specs.declared.descriptors.Descriptor.{Descriptor}
use Rattle.tk_report_text.specs.Labels.{events, id_in}
use Rattle.tk_claims.specs.Run.{Emits}
use Rattle.tk_queue_session.specs.Emission.{is_dynamic, registrations}
use Rattle.tk_run_laws.proofs.MoveLabels.{drawn_ids, ids_emitted}
use Rattle.tk_run_laws.proofs.SpineEvents.{unregistered}
use Rattle.tk_run_laws.specs.Scripts.{ArePlayable, IsPlayable, id_at, is_registration, known_after, may, payload_of_node, played, step_event}

-- those that have that key, where the first has key b
abbrev pub hits : ℕ → ℕ → List ℕ → List ℕ
hits k b [] = []
hits k b (x ∷ xs) = if b == k then x ∷ hits k (b + 1) xs else hits k (b + 1) xs

-- the id that a registration emits
abbrev id_emitted : Payload → List (List SegmentView)
id_emitted (Described d) = d.id ∷ []
id_emitted Nothing = []
id_emitted (Reason r) = []
id_emitted (Outcome o) = []
id_emitted (Reported e) = []
id_emitted (Path p) = []

abbrev pub id_under : ℕ → Event → List (List SegmentView)
id_under k e = if is_dynamic e && (e.key == k) then id_emitted e.payload else []

-- the ids that are registered under that key
abbrev pub ids_under : ℕ → List Event → List (List SegmentView)
ids_under k es = flat_map (id_under k) es

abbrev pub first : {A : Type 0} → List A → Option A
first [] = None
first (x ∷ xs) = Some x

hits-append : (k b : ℕ) (xs ys : List ℕ) → hits k b (xs ++ ys) ≡ hits k b xs ++ hits k (b + length xs) ys
hits-append k b [] ys = ap (λ c. hits k c ys) (let e : b ≡ b + 0 = omega arith in e)
hits-append k b (x ∷ xs) ys =
    let e : b + 1 + length xs ≡ b + suc (length xs) = omega arith in
    let h = hits-append k (b + 1) xs ys ∙ ap (λ c. hits k (b + 1) xs ++ hits k c ys) e in
    elim (b == k) as (λ t. (if t then x ∷ hits k (b + 1) (xs ++ ys) else hits k (b + 1) (xs ++ ys)) ≡ (if t then x ∷ hits k (b + 1) xs else hits k (b + 1) xs) ++ hits k (b + suc (length xs)) ys)
    [ true ↦ ap (λ l. x ∷ l) h | false ↦ h ]

pub hits_below : (k b : ℕ) (xs : List ℕ) → k < b → hits k b xs ≡ []
hits_below k b [] h = refl
hits_below k b (x ∷ xs) h = let differ : (b == k) ≡ false = grind (arith, tests, h) in rw differ (hits_below k (b + 1) xs (omega (arith, h)))

pub hits_above : (k b : ℕ) (xs : List ℕ) → b + length xs ≤ k → hits k b xs ≡ []
hits_above k b [] h = refl
hits_above k b (x ∷ xs) h = let l : b < k = omega (arith, h) in let differ : (b == k) ≡ false = grind (arith, tests, l) in rw differ (hits_above k (b + 1) xs (omega (arith, h)))

pub hit_at : (g : ℕ → List SegmentView) (k b j : ℕ) (xs : List ℕ) (x : ℕ) → k ≡ b + j → slice_get xs j ≡ Some x → first (map g (hits k b xs)) ≡ Some (g x)
hit_at g k b j [] x e s = cc
hit_at g k b zero (y ∷ ys) x e s = let same : (b == k) ≡ true = grind (arith, tests, e) in rw same (let i : y ≡ x = cc in ap (λ z. Some (g z)) i)
hit_at g k b (suc j) (y ∷ ys) x e s = let l : b < k = omega (arith, e) in let differ : (b == k) ≡ false = grind (arith, tests, l) in rw differ (hit_at g k (b + 1) j ys x (omega (arith, e)) s)

-- ---- descriptors

found_by : (b : Bool) (m : Payload) (o : Option Descriptor) (l : List (List SegmentView)) → option_map (λ d. d.id) o ≡ first l
    → option_map (λ d. d.id) (option_or (if b then described m else None) o) ≡ first ((if b then id_emitted m else []) ++ l)
found_by false m o l e = e
found_by true (Described d) o l e = refl
found_by true Nothing o l e = e
found_by true (Reason r) o l e = e
found_by true (Outcome r) o l e = e
found_by true (Reported p) o l e = e
found_by true (Path p) o l e = e

-- a key that is registered has the first id under it
pub found_in : (k : ℕ) (es : List Entry) → option_map (λ d. d.id) (desc_in es k) ≡ first (ids_under k (events es))
found_in k [] = refl
found_in k (e ∷ es) = found_by (is_dynamic e.event && (e.event.key == k)) e.event.payload (desc_in es k) (ids_under k (events es)) (found_in k es)

pub in_table : (table : List Descriptor) (k : ℕ) (x : List SegmentView) (o : Option Descriptor) → slice_get (ids_of table) k ≡ Some x → option_map (λ d. d.id) (option_or (slice_get table k) o) ≡ Some x
in_table [] k x o e = cc
in_table (d ∷ ds) zero x o e = e
in_table (d ∷ ds) (suc k) x o e = in_table ds k x o e

pub id_is : (o : Option Descriptor) (x : List SegmentView) → option_map (λ d. d.id) o ≡ Some x → id_in o ≡ x
id_is None x e = cc
id_is (Some d) x e = cc

-- ---- what is played registers its ids in order

pub ids_under-append : (k : ℕ) (xs ys : List Event) → ids_under k (xs ++ ys) ≡ ids_under k xs ++ ids_under k ys
ids_under-append k xs ys = flat_map-append (id_under k) xs ys

dynamic_kind : (a : Act) → (kind_code (kind_of a) == kind_code Dynamic) ≡ is_registration a
dynamic_kind (Register p) = refl
dynamic_kind Skip = refl
dynamic_kind Start = refl
dynamic_kind (Report i) = refl
dynamic_kind (File i) = refl
dynamic_kind Finish = refl

-- static events register none
pub static_under : (table : List Descriptor) (k : ℕ) (es : List Event) → All (IsStatic table) es → ids_under k es ≡ []
static_under table k [] h = refl
static_under table k (e ∷ es) h =
    ap (λ b. (if b && (e.key == k) then id_emitted e.payload else []) ++ ids_under k es) (unregistered e.kind (All-head (IsStatic table) e es h).registers_none)
    ∙ static_under table k es (All-tail (IsStatic table) e es h)

-- how many of the events are registrations
abbrev pub registered : List Event → ℕ
registered [] = 0
registered (e ∷ es) = if is_dynamic e then 1 + registered es else registered es

registrations_is : (es : List Event) → registered es ≡ registrations es
registrations_is = is_count_by registered is_dynamic refl (λ e es. refl)

emitted_first : (g : ℕ → List SegmentView) (k b : ℕ) (x : ℕ) (l : List (List SegmentView)) (xs : List ℕ) → l ≡ map g (hits k (b + 1) xs) → (if b == k then g x ∷ [] else []) ++ l ≡ map g (hits k b (x ∷ xs))
emitted_first g k b x l xs e = elim (b == k) as (λ t. (if t then g x ∷ [] else []) ++ l ≡ map g (if t then x ∷ hits k (b + 1) xs else hits k (b + 1) xs)) [ true ↦ ap (λ m. g x ∷ m) e | false ↦ e ]

module _ (all : List NumberedNode) (table : List Descriptor) where
  tells_act : (k base p : ℕ) (known : List ℕ) (n : ℕ) (a : Act) → IsPlayable all table known n a
      → id_under k (step_event all (length table) base known (record { node = n; stamp = p; act = a })) ≡ (if is_registration a && (base + length known == k) then id_at all n ∷ [] else [])
  tells_act k base p known n (Register q) h = ap (λ o. if base + length known == k then id_emitted (payload_of_node o (id_at all n) (Register q)) else []) h.1.1
  tells_act k base p known n Skip h = refl
  tells_act k base p known n Start h = refl
  tells_act k base p known n (Report i) h = refl
  tells_act k base p known n (File i) h = refl
  tells_act k base p known n Finish h = refl

  pub emitted_played : (k base : ℕ) (ids : List ℕ) (ss : List Step) → ArePlayable all table ids ss
      → ids_under k (played all (length table) base ids ss) ≡ map (id_at all) (hits k (base + length ids) (ids_emitted ss))
  emitted_played k base ids [] h = refl
  emitted_played k base ids (s ∷ ss) h =
      let len : base + length (ids ++ s.node ∷ []) ≡ base + length ids + 1 = omega (arith, length-append ids (s.node ∷ [])) in
      ap (λ l. l ++ ids_under k (played all (length table) base (known_after ids s) ss)) (tells_act k base s.stamp ids s.node s.act h.0)
      ∙ elim (is_registration s.act) as (λ d.
      ArePlayable all table (if d then ids ++ s.node ∷ [] else ids) ss
      → (if d && (base + length ids == k) then id_at all s.node ∷ [] else []) ++ ids_under k (played all (length table) base (if d then ids ++ s.node ∷ [] else ids) ss)
      ≡ map (id_at all) (hits k (base + length ids) ((if d then s.node ∷ [] else []) ++ ids_emitted ss))) [
        | true ↦ (λ more. emitted_first (id_at all) k (base + length ids) s.node _ (ids_emitted ss) (emitted_played k base (ids ++ s.node ∷ []) ss more ∙ ap (λ c. map (id_at all) (hits k c (ids_emitted ss))) len))
        | false ↦ (λ more. emitted_played k base ids ss more)
      ] h.1

  registered_by : (d : Bool) (n : ℕ) (x : ℕ) (xs : List ℕ) → n ≡ length xs → (if d then 1 + n else n) ≡ length ((if d then x ∷ [] else []) ++ xs)
  registered_by true n x xs e = omega (arith, e)
  registered_by false n x xs e = e

  registered_played : (base : ℕ) (ids : List ℕ) (ss : List Step) → registered (played all (length table) base ids ss) ≡ length (ids_emitted ss)
  registered_played base ids [] = refl
  registered_played base ids (s ∷ ss) =
      let rest = registered (played all (length table) base (known_after ids s) ss) in
      ap (λ d. if d then 1 + rest else rest) (dynamic_kind s.act)
      ∙ registered_by (is_registration s.act) rest s.node (ids_emitted ss) (registered_played base (known_after ids s) ss)

  -- a worker that plays a script registers as many
  pub registrations_played : (base : ℕ) (ss : List Step) (es : List Event) → es ≡ played all (length table) base [] ss → registrations es ≡ length (ids_emitted ss)
  registrations_played base ss es is = sym (registrations_is es) ∙ (ap registered is ∙ registered_played base [] ss)

  pub emitted_emitted : ((u : ℕ) → ArePlayable all table [] (script_of (forest all) u))
      → (k w n : ℕ) (us : List ℕ) (l : List Event) → Emits (may all table) w n us l → ids_under k l ≡ map (id_at all) (hits k (65536 * w + n) (drawn_ids all us))
  emitted_emitted plays k w n [] l e = ap (ids_under k) e
  emitted_emitted plays k w n (u ∷ us) l (a, b, whole, run, rest) =
      let ids = ids_emitted (script_of (forest all) u) in
      let count = registrations_played (65536 * w + n) (script_of (forest all) u) a run in
      let more = emitted_emitted plays k w (n + registrations a) us b rest in
      let base : 65536 * w + (n + registrations a) ≡ 65536 * w + n + length ids = omega (arith, count) in
      let base0 : 65536 * w + n + 0 ≡ 65536 * w + n = omega arith in
      ap (ids_under k) whole ∙ (ids_under-append k a b ∙ (ap₂ (λ c d. c ++ d)
      (ap (ids_under k) run ∙ (emitted_played k (65536 * w + n) [] (script_of (forest all) u) (plays u) ∙ ap (λ c. map (id_at all) (hits k c ids)) base0))
      (more ∙ ap (λ c. map (id_at all) (hits k c (drawn_ids all us))) base)
      ∙ (sym (map-append (id_at all) (hits k (65536 * w + n) ids) (hits k (65536 * w + n + length ids) (drawn_ids all us)))
      ∙ ap (map (id_at all)) (sym (hits-append k (65536 * w + n) ids (drawn_ids all us))))))

-- No two nodes of a plan have one id.
use Rattle.std.proofs.Common.{◌≡◌, ℕ, zero, suc, ◌+◌, ◌⊎◌, inl, inr, List, [], ◌∷◌, ◌++◌, length, map, flat_map, Bool, true, false, ◌||◌, Option, Some, None, option_map, nat_lt, nat_le, slice_get, refl, sym, ap, ap₂, ◌∙◌, subst, arith, append_assoc, append-nil, length-append}
use Rattle.std.specs.List.{list_any, count_by}
use Rattle.std.specs.Str.{bytes_eq}
use Rattle.std.specs.Cmp.Lexicographic.{bytes_decides}
use Rattle.std.proofs.lemmas.Bool.{true≢false}
use Rattle.tk_base.proofs.Options.{option_or_none_left, option_or_none_right}
use Rattle.serde_json.specs.Data.{Data}
use Rattle.tk_ids.specs.IdText.{SegmentView}
use Rattle.tk_ids.specs.declared.tables.TableFault.TheVariants.{Twice, Full}
use Rattle.tk_plan.specs.declared.trees.nodes.Node.{Node}
use Rattle.tk_plan.specs.Trees.{Tree, tree, Forest, no_trees, more}
use Rattle.tk_plan.specs.Ids.{ids, ids_below, AreDistinct}
use Rattle.tk_plan_json.specs.Checks.{first}
use Rattle.tk_plan_json.specs.NodeInputs.{NodeInput, NodeArray, repeats_key, segment_in, segment_of, node_of, below, node_inputs, node_inputs_in, children_in, dynamic_in, children_of, dynamic_of, grown, forest_of}
use Rattle.tk_plan_json.specs.Verdicts.{checks, verdict, same_segment, node_check, id_fault, is_kind, when}
use Rattle.tk_ids.specs.declared.tables.TheConstants.{MAX_DESCRIPTORS}
use Rattle.tk_plan.specs.declared.units.needs.TheConstants.{MAX_KEYS}
use Rattle.tk_plan_json.specs.declared.limits.TheConstants.{MAX_LEVELS}
use Rattle.tk_plan.specs.Keys.{lock_keys}
use Rattle.tk_plan_json.specs.declared.faults.PlanFault.{PlanFault}
use Rattle.tk_plan_json.specs.declared.faults.PlanFault.TheVariants.{Field, Id, Table, TooManyResources, EntryKeyTwice, Deep}
use Rattle.tk_plan_json.proofs.Verdicts.{verdict-append, verdict-cons}

-- ---- trees whose siblings have different segments

abbrev pub segment_at : Tree → SegmentView
segment_at (tree n k f) = n.segment

abbrev mutual
  pub IsApart : Tree → Type 0
  IsApart (tree n k f) = AreApart [] f

  pub AreApart : List SegmentView → Forest → Type 0
  AreApart earlier no_trees = Unit {0}
  AreApart earlier (more t f) = (list_any (same_segment (segment_at t)) earlier ≡ false) × IsApart t × AreApart (earlier ++ segment_at t ∷ []) f

segment_grown : (n : ℕ) (s : NodeInput) → segment_at (grown n s) ≡ segment_of s
unfolding grown
segment_grown zero s = refl
segment_grown (suc n) s = refl

-- each site knows the segments of those before it
abbrev pub IsRun : List SegmentView → List NodeInput → Type 0
IsRun earlier [] = Unit {0}
IsRun earlier (x ∷ xs) = (x.earlier ≡ earlier) × IsRun (earlier ++ segment_of x ∷ []) xs

run_in : (array : NodeArray) (i : ℕ) (earlier : List SegmentView) (ds : List Data) → IsRun earlier (node_inputs_in array i earlier ds)
run_in array i earlier [] = tt
run_in array i earlier (d ∷ ds) = (refl, run_in array (i + 1) (earlier ++ segment_in d ∷ []) ds)

segments_in : (array : NodeArray) (i : ℕ) (earlier : List SegmentView) (ds : List Data) → map segment_of (node_inputs_in array i earlier ds) ≡ map segment_in ds
segments_in array i earlier [] = refl
segments_in array i earlier (d ∷ ds) = ap (λ l. segment_in d ∷ l) (segments_in array (i + 1) (earlier ++ segment_in d ∷ []) ds)

run_append : (earlier : List SegmentView) (xs ys : List NodeInput) → IsRun earlier xs → IsRun (earlier ++ map segment_of xs) ys → IsRun earlier (xs ++ ys)
run_append earlier [] ys r q = subst (λ e. IsRun e ys) (append-nil earlier) q
run_append earlier (x ∷ xs) ys r q =
    (r.0, run_append (earlier ++ segment_of x ∷ []) xs ys r.1 (subst (λ e. IsRun e ys) (sym (append_assoc earlier (segment_of x ∷ []) (map segment_of xs))) q))

run_below : (s : NodeInput) → IsRun [] (below s)
run_below s =
    let cs = children_of s.is_static s.value in
    let here : map segment_of (children_in s cs) ≡ map segment_in cs = segments_in _ _ _ cs in
    run_append [] (children_in s cs) (dynamic_in s cs (dynamic_of s.value)) (run_in _ _ _ cs)
    (subst (λ e. IsRun e (dynamic_in s cs (dynamic_of s.value))) (sym here) (run_in _ _ (map segment_in cs) (dynamic_of s.value)))

-- ---- from a verdict

when_none : (b : Bool) (f : PlanFault) → when b f ≡ None → b ≡ false
when_none true f e = cc
when_none false f e = refl

fifth_none : (a b c d e f g : Option PlanFault) → first (a ∷ b ∷ c ∷ d ∷ e ∷ f ∷ g ∷ []) ≡ None → e ≡ None
fifth_none None None None None None f g h = refl
fifth_none None None None None (Some x) f g h = h
fifth_none None None None (Some x) e f g h = cc
fifth_none None None (Some x) d e f g h = cc
fifth_none None (Some x) c d e f g h = cc
fifth_none (Some x) b c d e f g h = cc

new_here : (before : List Node) (s : NodeInput) → first (checks before s) ≡ None → list_any (same_segment (segment_of s)) s.earlier ≡ false
unfolding checks
new_here before s e =
    when_none _ (Table Twice) (fifth_none
    (when (nat_lt MAX_LEVELS s.level) Deep) (option_map Field (node_check s)) (when (repeats_key s.value) EntryKeyTwice) (option_map Id (id_fault s.above (segment_of s)))
    (when (list_any (same_segment (segment_of s)) s.earlier) (Table Twice))
    (when (nat_le MAX_DESCRIPTORS (count_by (is_kind s.is_static) before)) (Table Full))
    (when (nat_lt MAX_KEYS (length (lock_keys (before ++ node_of s ∷ [])))) TooManyResources) e)

check_none : (n : ℕ) (before : List Node) (s : NodeInput) → verdict before (node_inputs n s) ≡ None → first (checks before s) ≡ None
unfolding node_inputs
check_none zero before s e = option_or_none_left _ _ (sym (verdict-cons before s []) ∙ e)
check_none (suc n) before s e = option_or_none_left _ _ (sym (verdict-cons before s (flat_map (node_inputs n) (below s))) ∙ e)

apart_all : (n : ℕ) → ((before : List Node) (s : NodeInput) → verdict before (node_inputs n s) ≡ None → IsApart (grown n s)) → (before : List Node) (earlier : List SegmentView) (xs : List NodeInput) → IsRun earlier xs
    → verdict before (flat_map (node_inputs n) xs) ≡ None → AreApart earlier (forest_of (map (grown n) xs))
apart_all n each before earlier [] r e = tt
apart_all n each before earlier (x ∷ xs) r e =
    let both = sym (verdict-append before (node_inputs n x) (flat_map (node_inputs n) xs)) ∙ e in
    let mine : verdict before (node_inputs n x) ≡ None = option_or_none_left _ _ both in
    let segment = segment_grown n x in (
      ap₂ (λ s l. list_any (same_segment s) l) segment (sym r.0) ∙ new_here before x (check_none n before x mine),
      each before x mine,
      subst (λ s. AreApart (earlier ++ s ∷ []) (forest_of (map (grown n) xs))) (sym segment)
          (apart_all n each (before ++ map node_of (node_inputs n x)) (earlier ++ segment_of x ∷ []) xs r.1 (option_or_none_right _ _ both)),
    )

pub apart_grown : (n : ℕ) (before : List Node) (s : NodeInput) → verdict before (node_inputs n s) ≡ None → IsApart (grown n s)
unfolding grown node_inputs
apart_grown zero before s e = tt
apart_grown (suc n) before s e =
    apart_all n (apart_grown n) (before ++ node_of s ∷ []) [] (below s) (run_below s) (option_or_none_right _ _ (sym (verdict-cons before s (flat_map (node_inputs n) (below s))) ∙ e))

-- ---- ids

abbrev pub Among : List SegmentView → List (List SegmentView) → Type 0
Among id [] = ⊥
Among id (x ∷ xs) = (id ≡ x) ⊎ Among id xs

abbrev pub Distinct : List (List SegmentView) → Type 0
Distinct [] = Unit {0}
Distinct (x ∷ xs) = ¬ Among x xs × Distinct xs

pub among_split : (id : List SegmentView) (xs ys : List (List SegmentView)) → Among id (xs ++ ys) → Among id xs ⊎ Among id ys
among_split id [] ys a = inr a
among_split id (x ∷ xs) ys (inl e) = inl (inl e)
among_split id (x ∷ xs) ys (inr a) = by (among_split id xs ys a)
  where
    by : Among id xs ⊎ Among id ys → ((id ≡ x) ⊎ Among id xs) ⊎ Among id ys
    by (inl b) = inl (inr b)
    by (inr b) = inr b

distinct_append : (xs ys : List (List SegmentView)) → Distinct xs → Distinct ys → ((id : List SegmentView) → Among id xs → Among id ys → ⊥) → Distinct (xs ++ ys)
distinct_append [] ys d e apart = e
distinct_append (x ∷ xs) ys d e apart = (
  λ a. no (among_split x xs ys a),
  distinct_append xs ys d.1 e (λ id a b. apart id (inr a) b),
)
  where
    no : Among x xs ⊎ Among x ys → ⊥
    no (inl a) = d.0 a
    no (inr a) = apart x (inl refl) a

pub among_at : (id : List SegmentView) (xs : List (List SegmentView)) (j : ℕ) → slice_get xs j ≡ Some id → Among id xs
among_at id [] j e = cc
among_at id (x ∷ xs) zero e = inl (let back : x ≡ id = cc in sym back)
among_at id (x ∷ xs) (suc j) e = inr (among_at id xs j e)

pub are_distinct : (xs : List (List SegmentView)) → Distinct xs → AreDistinct xs
are_distinct [] d j k id a b = cc
are_distinct (x ∷ xs) d zero zero id a b = refl
are_distinct (x ∷ xs) d zero (suc k) id a b = absurd (d.0 (subst (λ y. Among y xs) (let back : id ≡ x = cc in back) (among_at id xs k b)))
are_distinct (x ∷ xs) d (suc j) zero id a b = absurd (d.0 (subst (λ y. Among y xs) (let back : id ≡ x = cc in back) (among_at id xs j a)))
are_distinct (x ∷ xs) d (suc j) (suc k) id a b = ap suc (are_distinct xs d.1 j k id a b)

pub same_next : (above x y : List SegmentView) (a b : SegmentView) → above ++ a ∷ x ≡ above ++ b ∷ y → a ≡ b
same_next [] x y a b e = cc
same_next (p ∷ above) x y a b e = same_next above x y a b (let tails : above ++ a ∷ x ≡ above ++ b ∷ y = cc in tails)

pub same_self : (s : SegmentView) → same_segment s s ≡ true
same_self s = rw (equal s.tag, equal s.value) refl
  where
    equal : (x : List ℕ) → bytes_eq x x ≡ true
    equal x = grind (arith, bytes_decides)

pub any_right : (s : SegmentView) (es fs : List SegmentView) → list_any (same_segment s) fs ≡ true → list_any (same_segment s) (es ++ fs) ≡ true
any_right s [] fs h = h
any_right s (e ∷ es) fs h = ap (λ b. same_segment s e || b) (any_right s es fs h) ∙ or_true (same_segment s e)
  where
    or_true : (b : Bool) → b || true ≡ true
    or_true true = refl
    or_true false = refl

pub any_left : (s : SegmentView) (es fs : List SegmentView) → list_any (same_segment s) es ≡ true → list_any (same_segment s) (es ++ fs) ≡ true
any_left s [] fs h = cc
any_left s (e ∷ es) fs h = by (same_segment s e) (list_any (same_segment s) es) (list_any (same_segment s) (es ++ fs)) h (λ r. any_left s es fs r)
  where
    by : (a b c : Bool) → a || b ≡ true → (b ≡ true → c ≡ true) → a || c ≡ true
    by true b c h f = refl
    by false b c h f = f h

-- an id in a tree begins with that of its root
pub record Begins (above : List SegmentView) (s : SegmentView) (id : List SegmentView) : Type 0 where
  pub rest : List SegmentView
  pub is : id ≡ above ++ s ∷ rest

pub begins_below : (above : List SegmentView) (s t : SegmentView) (id : List SegmentView) → Begins (above ++ s ∷ []) t id → Begins above s id
begins_below above s t id b = record { rest = t ∷ b.rest; is = b.is ∙ append_assoc above (s ∷ []) (t ∷ b.rest) }

pub record BeginsSome (above : List SegmentView) (id : List SegmentView) : Type 0 where
  pub segment : SegmentView
  pub begins : Begins above segment id

mutual
  pub begins_in : (above id : List SegmentView) (t : Tree) → Among id (ids above t) → Begins above (segment_at t) id
  begins_in above id (tree n k f) (inl e) = record { rest = []; is = e }
  begins_in above id (tree n k f) (inr a) = let some = begins_some (above ++ n.segment ∷ []) id f a in begins_below above n.segment some.segment id some.begins

  begins_some : (above id : List SegmentView) (f : Forest) → Among id (ids_below above f) → BeginsSome above id
  begins_some above id no_trees a = absurd a
  begins_some above id (more t f) a =
      elim (among_split id (ids above t) (ids_below above f) a) [ inl b ↦ record { segment = segment_at t; begins = begins_in above id t b } | inr b ↦ begins_some above id f b ]

not_there : (t : Tree) (earlier : List SegmentView) (s : SegmentView) → list_any (same_segment (segment_at t)) earlier ≡ false → list_any (same_segment s) earlier ≡ true → (above id : List SegmentView) → Begins above s id
    → Begins above (segment_at t) id → ⊥
not_there t earlier s h e above id b own =
    let same : s ≡ segment_at t = same_next above b.rest own.rest s (segment_at t) (sym b.is ∙ own.is) in
    true≢false (sym (subst (λ x. list_any (same_segment x) earlier ≡ true) same e) ∙ h)

-- no id in the trees begins with an earlier segment
apart_from : (above id : List SegmentView) (earlier : List SegmentView) (f : Forest) (s : SegmentView) → AreApart earlier f → Among id (ids_below above f) → Begins above s id → list_any (same_segment s) earlier ≡ true → ⊥
apart_from above id earlier no_trees s h a b e = a
apart_from above id earlier (more t f) s h a b e =
    elim (among_split id (ids above t) (ids_below above f) a) [
      | inl c ↦ not_there t earlier s h.0 e above id b (begins_in above id t c)
      | inr c ↦ apart_from above id (earlier ++ segment_at t ∷ []) f s h.2 c b (any_left s earlier (segment_at t ∷ []) e)
    ]

pub longer : (id : List SegmentView) (s : SegmentView) (rest : List SegmentView) → id ≡ id ++ s ∷ rest → ⊥
longer id s rest e = let n = ap length e ∙ length-append id (s ∷ rest) in omega (arith, n)

mutual
  pub distinct_in : (above : List SegmentView) (t : Tree) → IsApart t → Distinct (ids above t)
  distinct_in above (tree n k f) h = (
    λ a. (let some = begins_some (above ++ n.segment ∷ []) (above ++ n.segment ∷ []) f a in longer (above ++ n.segment ∷ []) some.segment some.begins.rest some.begins.is),
    distinct_below (above ++ n.segment ∷ []) [] f h,
  )

  pub distinct_below : (above : List SegmentView) (earlier : List SegmentView) (f : Forest) → AreApart earlier f → Distinct (ids_below above f)
  distinct_below above earlier no_trees h = tt
  distinct_below above earlier (more t f) h =
      distinct_append (ids above t) (ids_below above f) (distinct_in above t h.1) (distinct_below above (earlier ++ segment_at t ∷ []) f h.2)
      (λ id a b. apart_from above id (earlier ++ segment_at t ∷ []) f (segment_at t) h.2 b (begins_in above id t a) (any_right (segment_at t) earlier (segment_at t ∷ []) (last (segment_at t))))
    where
      last : (s : SegmentView) → list_any (same_segment s) (s ∷ []) ≡ true
      last s = ap (λ b. b || false) (same_self s)

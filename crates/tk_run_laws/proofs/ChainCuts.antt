-- A plan's script, cut: on a chain nothing changes its place.
use Rattle.std.proofs.Common.{◌≡◌, ℕ, ◌+◌, ◌⊎◌, Bool, true, false, List, [], ◌∷◌, ◌++◌, length, flat_map, is_some, refl, sym, ap, ap₂, ◌∙◌, arith, subst, append_assoc, append-nil, if◌then◌else◌, inl, inr, ⊎_elim}
use Rattle.std.proofs.lemmas.Grind.{flat_map-append}
use Rattle.tk_base.proofs.Lists.{nil_left, nil_right}
use Rattle.tk_plan.specs.Cutting.{Part, Piece, from_each, moves_of, on_spine, parts, parts_below, piece, spine_begins, spine_ends, whole_unit}
use Rattle.tk_plan.specs.Script.{move, moves, moves_below, opening, registration}
use Rattle.tk_plan.specs.Trees.{Forest, Tree, flat, flats, more, no_trees, tree}
use Rattle.tk_plan.specs.declared.trees.nodes.Node.{Node}
use Rattle.tk_plan.specs.declared.trees.nodes.NumberedNode.{NumberedNode}
use Rattle.tk_plan.specs.declared.scripts.steps.Act.{Act}
use Rattle.tk_plan.specs.declared.scripts.steps.Act.TheVariants.{File, Finish, Register, Report, Skip, Start}
use Rattle.tk_plan.proofs.Cuts.{from_each-append, parts-moves}
use Rattle.tk_ids.specs.IdText.{SegmentView}
use Rattle.tk_report_text.specs.Labels.{Label}
use Rattle.tk_run_laws.proofs.Lists.{AllNil, AtMostOne, all_nil, count-append, one_after, one_before}
use Rattle.tk_run_laws.proofs.MoveLabels.{HasNone, IsChain, IsChainBelow, Move, count_ids, moves_in, of_publications, publications, shown, shown-append, shown_more}
use Rattle.tk_run_laws.specs.Scripts.{id_at}

-- what a part does where a spine node begins, in a unit, and where a spine node ends
abbrev pub begin_moves : Part → List Move
begin_moves (spine_begins n k) = opening n k
begin_moves (whole_unit t) = []
begin_moves (spine_ends n k) = []

abbrev pub unit_moves : Part → List Move
unit_moves (spine_begins n k) = []
unit_moves (whole_unit t) = moves t
unit_moves (spine_ends n k) = []

abbrev pub end_moves : Part → List Move
end_moves (spine_begins n k) = []
end_moves (whole_unit t) = []
end_moves (spine_ends n k) = move k Finish ∷ []

-- three parts of two lists of which one is empty
shuffle : {A : Type 0} (a b c x y z : List A) → ((a ++ (b ++ c) ≡ []) ⊎ (x ++ (y ++ z) ≡ [])) → (a ++ (b ++ c)) ++ (x ++ (y ++ z)) ≡ (a ++ x) ++ ((b ++ y) ++ (c ++ z))
shuffle a b c x y z (inl h) =
    let more = nil_right a (b ++ c) h in
    rw (nil_left a (b ++ c) h, nil_left b c more, nil_right b c more) refl
shuffle a b c x y z (inr h) =
    let more = nil_right x (y ++ z) h in
    rw (nil_left x (y ++ z) h, nil_left y z more, nil_right y z more)
    (append-nil (a ++ (b ++ c)) ∙ sym (ap₂ (λ u v. u ++ v) (append-nil a) (ap₂ (λ u v. u ++ v) (append-nil b) (append-nil c))))

-- three parts of a list between two others
between : {A : Type 0} (o m b u d e : List A) → m ≡ b ++ (u ++ d) → o ++ (m ++ e) ≡ (o ++ b) ++ (u ++ (d ++ e))
between o m b u d e h =
    ap (λ l. o ++ (l ++ e)) h
    ∙ (ap (λ l. o ++ l) (append_assoc b (u ++ d) e ∙ ap (λ l. b ++ l) (append_assoc u d e)) ∙ sym (append_assoc o b (u ++ (d ++ e))))

module _ (all : List NumberedNode) (q : List SegmentView → Bool) where
  pub none_head : (k n : ℕ) → (if q (id_at all k) then 1 + n else n) ≡ 0 → (q (id_at all k) ≡ false) × (n ≡ 0)
  none_head k n h = elim (q (id_at all k)) as (λ b. (if b then 1 + n else n) ≡ 0 → (b ≡ false) × (n ≡ 0))
      [ true ↦ (λ e. let no : ⊥ = omega (arith, e) in absurd no) | false ↦ (λ e. (refl, e)) ] h

  none_append : (xs ys : List NumberedNode) → HasNone all q (xs ++ ys) → HasNone all q xs × HasNone all q ys
  none_append xs ys h = let e = count-append (λ p. q (id_at all p.number)) xs ys in (omega (arith, e, h), omega (arith, e, h))

  -- ---- a set with none of a tree's ids

  pub shown_not : (k : ℕ) (a : Act) (ms : List Move) → q (id_at all k) ≡ false → shown all q ms ≡ [] → shown all q (move k a ∷ ms) ≡ []
  shown_not k a ms e h = rw e h

  pub shown_opening : (n : Node) (k : ℕ) → q (id_at all k) ≡ false → shown all q (opening n k) ≡ []
  shown_opening n k e =
      shown_not k Start (publications n k) e
      (of_publications (λ ms. shown all q ms ≡ []) n k (λ i ms h. shown_not k (Report i) ms e h) (λ i ms h. shown_not k (File i) ms e h) refl)

  shown_registration : (parent : ℕ) (t : Tree) → HasNone all q (flat t) → shown all q (registration parent t) ≡ []
  shown_registration parent (tree n k f) h =
      let e = (none_head k (count_ids all q (flats f)) h).0 in
      elim n.is_static as (λ b. shown all q (if b then [] else move k (Register parent) ∷ []) ≡ []) [ true ↦ refl | false ↦ shown_not k (Register parent) [] e refl ]

  mutual
    pub shown_none : (t : Tree) → HasNone all q (flat t) → shown all q (moves t) ≡ []
    shown_none (tree n k f) h =
        let e = none_head k (count_ids all q (flats f)) h in
        elim (is_some n.skip) as (λ b. shown all q (if b then move k Skip ∷ [] else opening n k ++ (moves_below k f ++ move k Finish ∷ [])) ≡ []) [
          | true ↦ shown_not k Skip [] e.0 refl
          | false ↦ shown-append all q (opening n k) (moves_below k f ++ move k Finish ∷ []) ∙ ap₂ (λ a b. a ++ b) (shown_opening n k e.0)
              (shown-append all q (moves_below k f) (move k Finish ∷ []) ∙ ap₂ (λ a b. a ++ b) (shown_none_below k f e.1) (shown_not k Finish [] e.0 refl))
        ]

    pub shown_none_below : (parent : ℕ) (f : Forest) → HasNone all q (flats f) → shown all q (moves_below parent f) ≡ []
    shown_none_below parent no_trees h = refl
    shown_none_below parent (more t f) h =
        let e = none_append (flat t) (flats f) h in
        shown_more all q parent t f
        ∙ ap₂ (λ a b. a ++ b) (shown-append all q (registration parent t) (moves t) ∙ ap₂ (λ a b. a ++ b) (shown_registration parent t e.0) (shown_none t e.0)) (shown_none_below parent f e.1)

  pub shown_none_in : (parent : ℕ) (t : Tree) → HasNone all q (flat t) → shown all q (moves_in parent t) ≡ []
  shown_none_in parent t h = shown-append all q (registration parent t) (moves t) ∙ ap₂ (λ a b. a ++ b) (shown_registration parent t h) (shown_none t h)

  mutual
    chain_none : (t : Tree) → HasNone all q (flat t) → IsChain all q t
    chain_none (tree n k f) h = chain_none_below f (none_head k (count_ids all q (flats f)) h).1

    chain_none_below : (f : Forest) → HasNone all q (flats f) → IsChainBelow all q f
    chain_none_below no_trees h = tt
    chain_none_below (more t f) h = let e = none_append (flat t) (flats f) h in inl (e.0, chain_none_below f e.1)

  -- ---- cutting

  -- what the parts show is what they show where they begin, then in the units, then where they end
  abbrev pub ShowsInTurn : List Part → Type 0
  ShowsInTurn ps = shown all q (flat_map moves_of ps) ≡ shown all q (flat_map begin_moves ps) ++ (shown all q (flat_map unit_moves ps) ++ shown all q (flat_map end_moves ps))

  shown_parts : (g : Part → List Move) (xs ys : List Part) → shown all q (flat_map g (xs ++ ys)) ≡ shown all q (flat_map g xs) ++ shown all q (flat_map g ys)
  shown_parts g xs ys = ap (shown all q) (flat_map-append g xs ys) ∙ shown-append all q (flat_map g xs) (flat_map g ys)

  cut-append : (xs ys : List Part) → ShowsInTurn xs → ShowsInTurn ys → ((shown all q (flat_map moves_of xs) ≡ []) ⊎ (shown all q (flat_map moves_of ys) ≡ [])) → ShowsInTurn (xs ++ ys)
  cut-append xs ys h g e =
      shown_parts moves_of xs ys ∙ (ap₂ (λ u v. u ++ v) h g
      ∙ (shuffle (shown all q (flat_map begin_moves xs)) (shown all q (flat_map unit_moves xs)) (shown all q (flat_map end_moves xs))
      (shown all q (flat_map begin_moves ys)) (shown all q (flat_map unit_moves ys)) (shown all q (flat_map end_moves ys))
      (⊎_elim (λ n. inl (sym h ∙ n)) (λ n. inr (sym g ∙ n)) e)
      ∙ sym (ap₂ (λ u v. u ++ v) (shown_parts begin_moves xs ys) (ap₂ (λ u v. u ++ v) (shown_parts unit_moves xs ys) (shown_parts end_moves xs ys)))))

  cut_open : (n : Node) (k : ℕ) (ps : List Part) → ShowsInTurn ps → ShowsInTurn (spine_begins n k ∷ (ps ++ spine_ends n k ∷ []))
  cut_open n k ps h =
      let ends = spine_ends n k ∷ [] in
      let o = shown all q (opening n k) in
      let e = shown all q (move k Finish ∷ []) in
      let whole : shown all q (opening n k ++ flat_map moves_of (ps ++ ends)) ≡ o ++ (shown all q (flat_map moves_of ps) ++ e)
      = shown-append all q (opening n k) (flat_map moves_of (ps ++ ends)) ∙ ap (λ l. o ++ l) (shown_parts moves_of ps ends) in
      let first : shown all q (opening n k ++ flat_map begin_moves (ps ++ ends)) ≡ o ++ shown all q (flat_map begin_moves ps)
      = shown-append all q (opening n k) (flat_map begin_moves (ps ++ ends)) ∙ ap (λ l. o ++ l) (shown_parts begin_moves ps ends ∙ append-nil (shown all q (flat_map begin_moves ps))) in
      let middle : shown all q (flat_map unit_moves (ps ++ ends)) ≡ shown all q (flat_map unit_moves ps)
      = shown_parts unit_moves ps ends ∙ append-nil (shown all q (flat_map unit_moves ps)) in
      whole ∙ (between o (shown all q (flat_map moves_of ps)) (shown all q (flat_map begin_moves ps)) (shown all q (flat_map unit_moves ps)) (shown all q (flat_map end_moves ps)) e h
      ∙ sym (ap₂ (λ x y. x ++ y) first (ap₂ (λ x y. x ++ y) middle (shown_parts end_moves ps ends))))

  -- parts of trees that have none of the ids show nothing
  nothing : (b : Bool) (t : Tree) → HasNone all q (flat t) → shown all q (flat_map moves_of (parts b t)) ≡ []
  nothing b t h = ap (shown all q) (parts-moves b t) ∙ shown_none t h

  nothing_below : (b : Bool) (f : Forest) → HasNone all q (flats f) → shown all q (flat_map moves_of (parts_below b f)) ≡ []
  nothing_below b no_trees h = refl
  nothing_below b (more t f) h =
      let e = none_append (flat t) (flats f) h in
      shown_parts moves_of (parts b t) (parts_below b f) ∙ ap₂ (λ x y. x ++ y) (nothing b t e.0) (nothing_below b f e.1)

  mutual
    cut : (b : Bool) (t : Tree) → IsChain all q t → ShowsInTurn (parts b t)
    cut b (tree n k f) c =
        let inner = cut_open n k (parts_below false f) (cut_below false f c) in
        elim (on_spine b n f) as (λ s. ShowsInTurn (if s then spine_begins n k ∷ (parts_below false f ++ spine_ends n k ∷ []) else whole_unit (tree n k f) ∷ []))
        [ true ↦ inner | false ↦ sym (append-nil (shown all q (moves (tree n k f) ++ []))) ]

    pub cut_below : (b : Bool) (f : Forest) → IsChainBelow all q f → ShowsInTurn (parts_below b f)
    cut_below b no_trees c = refl
    cut_below b (more t f) (inl c) = cut-append (parts b t) (parts_below b f) (cut b t (chain_none t c.0)) (cut_below b f c.1) (inl (nothing b t c.0))
    cut_below b (more t f) (inr c) = cut-append (parts b t) (parts_below b f) (cut b t c.0) (cut_below b f (chain_none_below f c.1)) (inr (nothing_below b f c.1))

  -- what the parts show around the units
  abbrev pub around_units : List Part → List Label
  around_units ps = shown all q (flat_map begin_moves ps) ++ shown all q (flat_map end_moves ps)

  none_around : (ps : List Part) → ShowsInTurn ps → shown all q (flat_map moves_of ps) ≡ [] → around_units ps ≡ []
  none_around ps h n =
      let begins = shown all q (flat_map begin_moves ps) in
      let units = shown all q (flat_map unit_moves ps) in
      let ends = shown all q (flat_map end_moves ps) in
      let none : begins ++ (units ++ ends) ≡ [] = sym h ∙ n in
      ap₂ (λ a b. a ++ b) (nil_left begins (units ++ ends) none) (nil_right units ends (nil_right begins (units ++ ends) none))

  pub around_none : (b : Bool) (t : Tree) → HasNone all q (flat t) → around_units (parts b t) ≡ []
  around_none b t h = none_around (parts b t) (cut b t (chain_none t h)) (nothing b t h)

  pub around_none_below : (b : Bool) (f : Forest) → HasNone all q (flats f) → around_units (parts_below b f) ≡ []
  around_none_below b f h = none_around (parts_below b f) (cut_below b f (chain_none_below f h)) (nothing_below b f h)

  pub around_first : (xs ys : List Part) → around_units ys ≡ [] → around_units (xs ++ ys) ≡ around_units xs
  around_first xs ys none =
      let first = shown all q (flat_map begin_moves ys) in
      let last = shown all q (flat_map end_moves ys) in
      ap₂ (λ a b. a ++ b)
      (shown_parts begin_moves xs ys ∙ (ap (λ l. shown all q (flat_map begin_moves xs) ++ l) (nil_left first last none) ∙ append-nil (shown all q (flat_map begin_moves xs))))
      (shown_parts end_moves xs ys ∙ (ap (λ l. shown all q (flat_map end_moves xs) ++ l) (nil_right first last none) ∙ append-nil (shown all q (flat_map end_moves xs))))

  pub around_second : (xs ys : List Part) → around_units xs ≡ [] → around_units (xs ++ ys) ≡ around_units ys
  around_second xs ys none =
      let first = shown all q (flat_map begin_moves xs) in
      let last = shown all q (flat_map end_moves xs) in
      ap₂ (λ a b. a ++ b)
      (shown_parts begin_moves xs ys ∙ ap (λ l. l ++ shown all q (flat_map begin_moves ys)) (nil_left first last none))
      (shown_parts end_moves xs ys ∙ ap (λ l. l ++ shown all q (flat_map end_moves ys)) (nil_right first last none))

  -- a spine node opens before what its parts show, and finishes after that
  pub around_open : (n : Node) (k : ℕ) (ps : List Part)
      → around_units (spine_begins n k ∷ (ps ++ spine_ends n k ∷ [])) ≡ shown all q (opening n k) ++ (around_units ps ++ shown all q (move k Finish ∷ []))
  around_open n k ps =
      let o = shown all q (opening n k) in
      let b = shown all q (flat_map begin_moves ps) in
      let e = shown all q (flat_map end_moves ps) in
      let last = shown all q (move k Finish ∷ []) in
      ap₂ (λ x y. x ++ y)
      (shown-append all q (opening n k) (flat_map begin_moves (ps ++ spine_ends n k ∷ [])) ∙ ap (λ l. o ++ l) (shown_parts begin_moves ps (spine_ends n k ∷ []) ∙ append-nil b))
      (shown_parts end_moves ps (spine_ends n k ∷ []))
      ∙ (append_assoc o b (e ++ last) ∙ ap (λ l. o ++ l) (sym (append_assoc b e last)))

  -- ---- at most one unit has nodes of a chain

  abbrev pub shows : Piece → List Label
  shows x = shown all q (moves x.tree)

  pub pieces_shown : (i : ℕ) (ps : List Part) → flat_map shows (from_each piece i ps) ≡ shown all q (flat_map unit_moves ps)
  pieces_shown i [] = refl
  pieces_shown i (spine_begins n k ∷ ps) = pieces_shown (i + length (moves_of (spine_begins n k))) ps
  pieces_shown i (whole_unit t ∷ ps) =
      ap (λ l. shown all q (moves t) ++ l) (pieces_shown (i + length (moves t)) ps) ∙ sym (shown-append all q (moves t) (flat_map unit_moves ps))
  pieces_shown i (spine_ends n k ∷ ps) = pieces_shown (i + length (moves_of (spine_ends n k))) ps

  none_of_pieces : (i : ℕ) (ps : List Part) → ShowsInTurn ps → shown all q (flat_map moves_of ps) ≡ [] → AllNil shows (from_each piece i ps)
  none_of_pieces i ps h n =
      all_nil shows (from_each piece i ps)
      (pieces_shown i ps ∙ nil_left (shown all q (flat_map unit_moves ps)) (shown all q (flat_map end_moves ps)) (nil_right (shown all q (flat_map begin_moves ps)) _ (sym h ∙ n)))

  mutual
    one_part : (b : Bool) (t : Tree) → IsChain all q t → (i : ℕ) → AtMostOne shows (from_each piece i (parts b t))
    one_part b (tree n k f) c i =
        let j = i + length (opening n k) in
        let inner = subst (AtMostOne shows) (sym (from_each-append piece j (parts_below false f) (spine_ends n k ∷ []) ∙ append-nil (from_each piece j (parts_below false f)))) (one_part_below false f c j) in
        elim (on_spine b n f) as (λ s. AtMostOne shows (from_each piece i (if s then spine_begins n k ∷ (parts_below false f ++ spine_ends n k ∷ []) else whole_unit (tree n k f) ∷ [])))
        [ true ↦ inner | false ↦ inr tt ]

    pub one_part_below : (b : Bool) (f : Forest) → IsChainBelow all q f → (i : ℕ) → AtMostOne shows (from_each piece i (parts_below b f))
    one_part_below b no_trees c i = tt
    one_part_below b (more t f) c i =
        let j = i + length (flat_map moves_of (parts b t)) in
        subst (AtMostOne shows) (sym (from_each-append piece i (parts b t) (parts_below b f))) (⊎_elim
        (λ (h : HasNone all q (flat t) × IsChainBelow all q f).
        one_after shows (from_each piece i (parts b t)) (from_each piece j (parts_below b f))
        (none_of_pieces i (parts b t) (cut b t (chain_none t h.0)) (nothing b t h.0)) (one_part_below b f h.1 j))
        (λ (h : IsChain all q t × HasNone all q (flats f)).
        one_before shows (from_each piece i (parts b t)) (from_each piece j (parts_below b f))
        (one_part b t h.0 i) (none_of_pieces j (parts_below b f) (cut_below b f (chain_none_below f h.1)) (nothing_below b f h.1)))
        c)

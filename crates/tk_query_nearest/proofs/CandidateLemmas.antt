-- Candidates, and the positions of the events that come nearest.
use Rattle.std.proofs.Common.{◌≡◌, ℕ, zero, suc, ◌+◌, ◌<◌, ◌≤◌, ◌⊎◌, min, Bool, true, false, List, [], ◌∷◌, length, get_or, map, take, Option, Some, None, refl, sym, ap, ◌∙◌, subst, arith, inl, inr}
use Rattle.std.specs.List.{slice_get}
use Rattle.std.proofs.lemmas.Bool.{cases_lt, lt-ltb, le-ltb, true≢false}
use Rattle.std.proofs.lemmas.List.{length-take, take-map, take-take}
use Rattle.std.proofs.lemmas.Option.{none-some}
use Rattle.tk_base.proofs.Lists.{get_below}
use Rattle.tk_lanes.specs.Flags.{IsNextSet, IsNoneSet}
use Rattle.tk_events.specs.declared.events.Entry.{Entry}
use Rattle.tk_record.specs.Recorded.{Recorded}
use Rattle.tk_record.specs.Selections.{Selected}
use Rattle.tk_query_conditions.specs.Cond.{Cond}
use Rattle.tk_query.specs.Asked.{event_at}
use Rattle.tk_query.proofs.AskedLemmas.{AreFlags, asked_set, asked_clear}
use Rattle.tk_query_nearest.specs.Parts.{missing}
use Rattle.tk_query_nearest.specs.declared.candidates.Candidate.{Candidate}
use Rattle.tk_query_nearest.specs.steps.{counted_to, inserted}
use Rattle.tk_query_nearest.specs.declared.parts.TheConstants.{MAX_DISTANCE}
use Rattle.tk_query_nearest.specs.Nearness.{IsAskedFrom, IsNearest, IsNearer, distance_at, distance_of}
use Rattle.tk_query_nearest.proofs.RankLemmas.{Has, Near, Ranked, put, all_of, first_or_past, has_contains, has_take, put_has, put_has_only, ranked_pairs, ranked_put, ranked_take}

abbrev position_of : Candidate → ℕ
position_of a = a.position

module _ (d : ℕ → ℕ) where
  abbrev pub candidate : ℕ → Candidate
  candidate p = record { distance = d p; position = p }

  -- what is counted up to a limit stands where all of it does
  put_counted : (n q most k : ℕ) (ps : List ℕ) → n ≡ min (d q) most → ((x : ℕ) → Has (take k ps) x → d x ≤ most) → (k ≤ length ps) ⊎ (d q ≤ most)
      → take k (inserted (record { distance = n; position = q }) (take k (map candidate ps))) ≡ take k (map candidate (put d q ps))
  put_counted n q most zero ps is within enough = refl
  put_counted n q most (suc k) [] is within enough =
      let same : n ≡ d q = elim enough [ inl none ↦ absurd (omega arith) | inr le ↦ omega arith ] in
      rw same refl
  put_counted n q most (suc k) (p ∷ ps) is within enough =
      let le = within p (inl refl) in
      elim (cases_lt (d q) (d p)) [
        | inl lt ↦
            let same : n ≡ d q = omega arith in
            rw (same, lt-ltb (d q) (d p) lt) (ap (λ l. candidate q ∷ l) (take-take k (suc k) (map candidate (p ∷ ps)) (omega arith)))
        | inr ge ↦
            rw (le-ltb n (d p) (omega arith), le-ltb (d q) (d p) ge)
            (ap (λ l. candidate p ∷ l) (put_counted n q most k ps is (λ x has. within x (inr has)) (elim enough [ inl long ↦ inl (omega arith) | inr fits ↦ inr fits ])))
      ]

  no_farther : (p q : ℕ) → Near d p q → d p ≤ d q
  no_farther p q (inl lt) = omega arith
  no_farther p q (inr same) = omega arith

  module _ (bound : (x : ℕ) → d x ≤ MAX_DISTANCE) where
    within_limit : (ps : List ℕ) → Ranked d ps → (x : ℕ) → Has (take 3 ps) x → d x ≤ counted_to (take 3 (map candidate ps))
    within_limit (a ∷ b ∷ c ∷ ps) ranked x (inl e) = subst (λ y. d y ≤ d c) e (no_farther a c (ranked.0 c (inr (inl refl))))
    within_limit (a ∷ b ∷ c ∷ ps) ranked x (inr (inl e)) = subst (λ y. d y ≤ d c) e (no_farther b c (ranked.1.0 c (inl refl)))
    within_limit (a ∷ b ∷ c ∷ ps) ranked x (inr (inr (inl e))) = subst (λ y. d y ≤ d c) e (omega arith)
    within_limit (a ∷ b ∷ c ∷ ps) ranked x (inr (inr (inr none))) = absurd none
    within_limit (a ∷ b ∷ []) ranked x has = bound x
    within_limit (a ∷ []) ranked x has = bound x
    within_limit [] ranked x has = bound x

    counted_or_full : (q : ℕ) (ps : List ℕ) → (3 ≤ length ps) ⊎ (d q ≤ counted_to (take 3 (map candidate ps)))
    counted_or_full q (a ∷ b ∷ c ∷ ps) = inl (omega arith)
    counted_or_full q (a ∷ b ∷ []) = inr (bound q)
    counted_or_full q (a ∷ []) = inr (bound q)
    counted_or_full q [] = inr (bound q)

    -- the first three with one position more
    pub with_more : (n q : ℕ) (ps : List ℕ) (old new : List Candidate) → Ranked d ps → old ≡ take 3 (map candidate ps) → n ≡ min (d q) (counted_to old)
        → new ≡ take 3 (inserted (record { distance = n; position = q }) old) → new ≡ take 3 (map candidate (put d q ps))
    with_more n q ps old new ranked is counted new_is =
        new_is ∙ ap (λ l. take 3 (inserted (record { distance = n; position = q }) l)) is
        ∙ put_counted n q (counted_to (take 3 (map candidate ps))) 3 ps (counted ∙ ap (λ l. min (d q) (counted_to l)) is) (within_limit ps ranked) (counted_or_full q ps)

  same_positions : (ps : List ℕ) → map position_of (map candidate ps) ≡ ps
  same_positions [] = refl
  same_positions (p ∷ ps) = ap (λ l. p ∷ l) (same_positions ps)

  pub first_positions : (ps : List ℕ) (list : List Candidate) → list ≡ take 3 (map candidate ps) → take 3 ps ≡ map position_of list
  first_positions ps list is = sym (ap (map position_of) (is ∙ take-map candidate 3 ps) ∙ same_positions (take 3 ps))

distance_within : (asked : Selected) (c : Cond) (at : ℕ) → distance_at asked c at ≤ MAX_DISTANCE
distance_within asked c at = by_event (event_at asked.kept at)
  where
    capped : (n : ℕ) → min n MAX_DISTANCE ≤ MAX_DISTANCE
    capped n = omega arith

    by_event : (o : Option Entry) → distance_of asked.recorded c o ≤ MAX_DISTANCE
    by_event None = omega arith
    by_event (Some e) = capped (missing asked.recorded c e)

-- the candidates are the nearest of the events up to a position
pub record AreNearest (asked : Selected) (first : ℕ) (c : Cond) (low : ℕ) (list : List Candidate) : Type 0 where
  pub on : first ≤ low
  -- all of these events, the nearest first
  pub all : List ℕ
  pub ranked : Ranked (distance_at asked c) all
  pub each : (x : ℕ) → Has all x → IsAskedFrom asked first x × (x < low)
  pub others : (x : ℕ) → IsAskedFrom asked first x → x < low → Has all x
  pub list_is : list ≡ take 3 (map (candidate (distance_at asked c)) all)

pub nearest_none : (asked : Selected) (first : ℕ) (c : Cond) → AreNearest asked first c first []
nearest_none asked first c = record {
  on = omega arith;
  all = [];
  ranked = tt;
  each = λ x none. absurd none;
  others = λ x is_asked below. let from = is_asked.from in absurd (omega arith);
  list_is = refl;
}

module _ (asked : Selected) (flags : List Bool) (are : AreFlags asked flags) (size : length flags ≡ length asked.recorded.entries) (first : ℕ) (c : Cond) (low : ℕ) (list : List Candidate) (so_far : AreNearest asked first c low list) where
  not_asked : (x : ℕ) → get_or flags x false ≡ false → IsAskedFrom asked first x → ⊥
  not_asked x clear h = none-some h.event (sym (asked_clear asked flags are x clear) ∙ h.event_is)

  set_within : (flags : List Bool) (x : ℕ) → get_or flags x false ≡ true → x < length flags
  set_within [] x set = absurd (true≢false (sym set))
  set_within (f ∷ flags) zero set = omega arith
  set_within (f ∷ flags) (suc x) set = let rest = set_within flags x set in omega arith

  -- the event at the next flag is one more
  pub nearest_more : (at n : ℕ) (new : List Candidate) (r : Recorded) → IsNextSet low flags at → r ≡ asked.recorded
      → n ≡ min (distance_of r c (slice_get r.entries at)) (counted_to list) → new ≡ take 3 (inserted (record { distance = n; position = at }) list)
      → AreNearest asked first c (at + 1) new
  nearest_more at n new r next same far new_is =
      let d = distance_at asked c in
      let on = so_far.on in
      let from = next.from in
      let entry = get_below asked.recorded.entries at (let within = set_within flags at next.set in omega arith) in
      let stands = asked_set asked flags are at next.set in
      let here : IsAskedFrom asked first at = record { from = omega arith; event = entry.0; event_is = stands ∙ entry.1 } in
      let counted = far ∙ ap (λ (s : Recorded). min (distance_of s c (slice_get s.entries at)) (counted_to list)) same
      ∙ ap (λ o. min (distance_of asked.recorded c o) (counted_to list)) (sym stands) in
      record {
        on = omega arith;
        all = put d at so_far.all;
        ranked = ranked_put d at so_far.all so_far.ranked (λ x has. let below = (so_far.each x has).1 in omega arith);
        each = λ x has. elim (put_has_only d at so_far.all x has) [
          | inl last ↦ (subst (IsAskedFrom asked first) last here, omega arith)
          | inr old ↦ let seen = so_far.each x old in let below = seen.1 in (seen.0, omega arith)
        ];
        others = λ x is_asked below. put_has d at so_far.all x (elim (cases_lt x low) [
          | inl old ↦ inr (so_far.others x is_asked old)
          | inr high ↦ elim (cases_lt x at) [
            | inl before ↦ absurd (not_asked x (next.least x high before) is_asked)
            | inr after ↦ inl (omega arith)
          ]
        ]);
        list_is = with_more d (distance_within asked c) n at so_far.all list new so_far.ranked so_far.list_is counted new_is;
      }

  pub nearest_all : IsNoneSet low flags → IsNearest asked first c (map position_of list)
  nearest_all none =
      let d = distance_at asked c in
      let all = so_far.all in
      let ps = take 3 all in
      let below = λ (x : ℕ) (h : IsAskedFrom asked first x). below_low x h (cases_lt x low) in
      let past = λ (x : ℕ) (h : IsAskedFrom asked first x). first_or_past d 3 all x so_far.ranked (so_far.others x h (below x h)) in
      subst (IsNearest asked first c) (first_positions d all list so_far.list_is) (record {
        asked_from = all_of (IsAskedFrom asked first) ps (λ x has. (so_far.each x (has_take 3 all x has)).0);
        order = ranked_pairs d ps (ranked_take d 3 all so_far.ranked);
        others = λ q h not_in. elim (past q h) [
          | inl has ↦ absurd (not_in (has_contains ps q has))
          | inr far ↦ all_of (λ p. IsNearer asked c p q) ps far.1
        ];
        at_most = omega (arith, length-take 3 all);
        all_if_fewer = λ fewer q h. elim (past q h) [
          | inl has ↦ has_contains ps q has
          | inr far ↦ let full = far.0 in absurd (omega arith)
        ];
      })
    where
      below_low : (x : ℕ) → IsAskedFrom asked first x → (x < low) ⊎ (low ≤ x) → x < low
      below_low x h (inl lt) = lt
      below_low x h (inr le) = absurd (not_asked x (none.none x le) h)

-- The first places that serve are the least ones.
use Rattle.std.proofs.Common.{◌≡◌, ℕ, ◌+◌, ◌<◌, ◌≤◌, ◌⊎◌, Bool, true, List, [], ◌∷◌, ◌++◌, length, take, get_or, refl, sym, ap, ◌∙◌, subst, arith, inl, inr, ⊎_elim}
use Rattle.std.proofs.lemmas.List.{append-nil, append_assoc, take_more}
use Rattle.std.proofs.lemmas.Bool.{cases_lt, true≢false}
use Rattle.std.proofs.Math.Seq.{take-length}
use Rattle.tk_query.specs.InOrder.{HoldInTurn, CanHoldInTurn, IsNotAfter, IsLeastInTurn, IsFirstStuck, IsNextFit, HasNoFit}

-- no place is after the one at the same index
abbrev AreNoGreater : List ℕ → List ℕ → Type 0
AreNoGreater [] [] = Unit {0}
AreNoGreater (p ∷ ps) (q ∷ qs) = (p ≤ q) × AreNoGreater ps qs
AreNoGreater _ _ = ⊥

not_after : (ps qs : List ℕ) → AreNoGreater ps qs → IsNotAfter ps qs
not_after [] qs h = tt
not_after (p ∷ ps) [] h = absurd h
not_after (p ∷ ps) (q ∷ qs) h = ⊎_elim {C = (p < q) ⊎ ((p ≡ q) × IsNotAfter ps qs)} (λ (lt : p < q). inl lt) (λ (le : q ≤ p). inr (omega arith, not_after ps qs h.1)) (cases_lt p q)

one_more : (ps qs : List ℕ) (p q : ℕ) → AreNoGreater ps qs → p ≤ q → AreNoGreater (ps ++ p ∷ []) (qs ++ q ∷ [])
one_more [] [] p q h le = (le, tt)
one_more [] (x ∷ qs) p q h le = absurd h
one_more (x ∷ ps) [] p q h le = absurd h
one_more (x ∷ ps) (y ∷ qs) p q h le = (h.0, one_more ps qs p q h.1 le)

-- where a list of places ends: the next one may stand there
abbrev after : ℕ → List ℕ → ℕ
after from [] = from
after from (p ∷ ps) = after (p + 1) ps

after_more : (from : ℕ) (ps : List ℕ) (p : ℕ) → after from (ps ++ p ∷ []) ≡ p + 1
after_more from [] p = refl
after_more from (q ∷ ps) p = after_more (q + 1) ps p

module _ {C : Type 0} (fits : C → ℕ → Bool) where
  earlier : (from low : ℕ) (cs : List C) (ps : List ℕ) → low ≤ from → HoldInTurn fits from cs ps → HoldInTurn fits low cs ps
  earlier from low [] [] le h = tt
  earlier from low [] (p ∷ ps) le h = absurd h
  earlier from low (c ∷ cs) [] le h = absurd h
  earlier from low (c ∷ cs) (p ∷ ps) le h = (omega arith, h.1, h.2)

  hold_more : (from : ℕ) (cs : List C) (ps : List ℕ) (c : C) (p : ℕ) → HoldInTurn fits from cs ps → after from ps ≤ p → fits c p ≡ true → HoldInTurn fits from (cs ++ c ∷ []) (ps ++ p ∷ [])
  hold_more from [] [] c p h le f = (le, f, tt)
  hold_more from [] (q ∷ ps) c p h le f = absurd h
  hold_more from (d ∷ cs) [] c p h le f = absurd h
  hold_more from (d ∷ cs) (q ∷ ps) c p h le f = (h.0, h.1, hold_more (q + 1) cs ps c p h.2 le f)

  -- a place list for more conditions is one for the first ones, and the rest of it
  pub record IsSplit (cs : List C) (ps qs : List ℕ) (next : ℕ) : Type 0 where
    pub prefix : List ℕ
    pub rest : List ℕ
    pub whole : qs ≡ prefix ++ rest
    pub prefix_first : AreNoGreater ps prefix
    pub rest_holds : HoldInTurn fits next cs rest

  -- After the first k conditions: they hold at these places, and no other places leave more room.
  pub record IsReached (cs : List C) (k next : ℕ) (ps : List ℕ) : Type 0 where
    pub within : k ≤ length cs
    pub here : HoldInTurn fits 0 (take k cs) ps
    pub end : after 0 ps ≡ next
    pub least : (more : List C) (qs : List ℕ) → HoldInTurn fits 0 (take k cs ++ more) qs → IsSplit more ps qs next
    pub before : (j : ℕ) → j < k → CanHoldInTurn fits (take (j + 1) cs)

  pub reached_none : (cs : List C) → IsReached cs 0 0 []
  reached_none cs =
      record {
        within = omega arith;
        here = tt;
        end = refl;
        least = λ more qs h. record { prefix = []; rest = qs; whole = refl; prefix_first = tt; rest_holds = h };
        before = λ j h. absurd (omega arith);
      }

  fits_apart : (c : C) (p q from : ℕ) → IsNextFit fits c from p → from ≤ q → fits c q ≡ true → p ≤ q
  fits_apart c p q from fit from_on here =
      ⊎_elim {C = p ≤ q} (λ (lt : q < p). absurd (true≢false (sym here ∙ fit.first q from_on lt))) (λ (le : p ≤ q). le) (cases_lt q p)

  split_step : (c : C) (more : List C) (ps prefix rest : List ℕ) (next p : ℕ) → IsNextFit fits c next p → AreNoGreater ps prefix → HoldInTurn fits next (c ∷ more) rest → IsSplit more (ps ++ p ∷ []) (prefix ++ rest) (p + 1)
  split_step c more ps prefix [] next p fit no_greater h = absurd h
  split_step c more ps prefix (q ∷ rest) next p fit no_greater h =
      let le : p ≤ q = fits_apart c p q next fit h.0 h.1 in
      record {
        prefix = prefix ++ q ∷ [];
        rest = rest;
        whole = sym (append_assoc prefix (q ∷ []) rest);
        prefix_first = one_more ps prefix p q no_greater le;
        rest_holds = earlier (q + 1) (p + 1) more rest (omega arith) h.2;
      }

  taken_more : (cs : List C) (k : ℕ) (d : C) (more : List C) → k < length cs → take (k + 1) cs ++ more ≡ take k cs ++ (get_or cs k d ∷ more)
  taken_more cs k d more h = ap (λ prefix. prefix ++ more) (take_more cs k d h) ∙ append_assoc (take k cs) (get_or cs k d ∷ []) more

  pub reached_more : (cs : List C) (k next : ℕ) (ps : List ℕ) (d : C) (p : ℕ) → IsReached cs k next ps → k < length cs → IsNextFit fits (get_or cs k d) next p → IsReached cs (k + 1) (p + 1) (ps ++ p ∷ [])
  reached_more cs k next ps d p r h fit =
      let c = get_or cs k d in
      let here : HoldInTurn fits 0 (take (k + 1) cs) (ps ++ p ∷ []) =
      subst (λ prefix. HoldInTurn fits 0 prefix (ps ++ p ∷ [])) (sym (take_more cs k d h)) (hold_more 0 (take k cs) ps c p r.here (subst (λ n. n ≤ p) (sym r.end) fit.from_on) fit.fit) in
      record {
        within = omega arith;
        here = here;
        end = after_more 0 ps p;
        least = λ more qs hold.
            let s = r.least (c ∷ more) qs (subst (λ prefix. HoldInTurn fits 0 prefix qs) (taken_more cs k d more h) hold) in
            subst (λ list. IsSplit more (ps ++ p ∷ []) list (p + 1)) (sym s.whole) (split_step c more ps s.prefix s.rest next p fit s.prefix_first s.rest_holds);
        before = λ j lt. ⊎_elim {C = CanHoldInTurn fits (take (j + 1) cs)}
            (λ (below : j < k). r.before j below)
            (λ (above : k ≤ j). let same : k ≡ j = omega arith in subst (λ n. CanHoldInTurn fits (take (n + 1) cs)) same (ps ++ p ∷ [], here))
            (cases_lt j k);
      }

  none_fits : (c : C) (next : ℕ) (rest : List ℕ) → HasNoFit fits c next → HoldInTurn fits next (c ∷ []) rest → ⊥
  none_fits c next [] none h = h
  none_fits c next (q ∷ rest) none h = true≢false (sym h.1 ∙ none q h.0)

  pub reached_stuck : (cs : List C) (k next : ℕ) (ps : List ℕ) (d : C) → IsReached cs k next ps → k < length cs → HasNoFit fits (get_or cs k d) next → IsFirstStuck fits cs k
  reached_stuck cs k next ps d r h none =
      record {
        within = h;
        stuck = λ can.
            let s = r.least (get_or cs k d ∷ []) can.0 (subst (λ prefix. HoldInTurn fits 0 prefix can.0) (take_more cs k d h) can.1) in
            none_fits (get_or cs k d) next s.rest none s.rest_holds;
        before = r.before;
      }

  nothing_left : (next : ℕ) (rest : List ℕ) → HoldInTurn fits next [] rest → rest ≡ []
  nothing_left next [] h = refl
  nothing_left next (q ∷ rest) h = absurd h

  pub reached_end : (cs : List C) (k next : ℕ) (ps : List ℕ) → IsReached cs k next ps → k ≡ length cs → IsLeastInTurn fits cs ps
  reached_end cs k next ps r e =
      let all : take k cs ≡ cs = ap (λ n. take n cs) e ∙ take-length cs in
      record {
        holds = subst (λ prefix. HoldInTurn fits 0 prefix ps) all r.here;
        least = λ qs h.
            let s = r.least [] qs (subst (λ prefix. HoldInTurn fits 0 prefix qs) (sym (append-nil (take k cs) ∙ all)) h) in
            let same : qs ≡ s.prefix = s.whole ∙ ap (λ list. s.prefix ++ list) (nothing_left next s.rest s.rest_holds) ∙ append-nil s.prefix in
            subst (λ list. IsNotAfter ps list) (sym same) (not_after ps s.prefix s.prefix_first);
      }

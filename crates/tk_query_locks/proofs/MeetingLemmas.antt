-- Executions that meet are those that conflict and overlap.
use Rattle.std.proofs.Common.{◌≡◌, ℕ, ◌<◌, ◌≤◌, true, false, ◌⊎◌, ⊎_elim, List, length, Option, Some, None, sym, ap, subst, arith}
use Rattle.std.specs.Prelude.{is_some}
use Rattle.std.proofs.lemmas.Bool.{cases_lt, cases_order, false≢true}
use Rattle.tk_record.specs.Recorded.{Recorded}
use Rattle.tk_record.specs.Selections.{Selected}
use Rattle.tk_query.specs.Ends.{AreEnds}
use Rattle.tk_query.proofs.EndLemmas.{start_is}
use Rattle.tk_query.proofs.ExclusionLemmas.{overlap_swap, overlaps, runs}
use Rattle.tk_query_locks.specs.declared.answers.LockAnswer.TheVariants.{Yes, NoPair}
use Rattle.tk_query_locks.specs.declared.holders.Holders.{Holders}
use Rattle.tk_query_locks.specs.Conflicts.{ConflictAt, descriptor_at}
use Rattle.tk_query_locks.specs.LockAnswers.{Collide, Conflict, IsFirstCollision, IsLockAnswer, SomeConflict}
use Rattle.tk_query_locks.specs.steps.Holders.{AreForgotten, IsFirstMeeting, IsLeastAt, IsMeeting, Meet, MeetsNone, end_of}
use Rattle.tk_query_locks.proofs.ConflictLemmas.{at_swap, not_itself}
use Rattle.tk_query_locks.proofs.HolderLemmas.{start_within}

module _ (asked : Selected) (h : Holders) (is_record : h.conflicts ≡ asked.recorded) (are : AreEnds asked h.ends.items) where
  meets : (name : List ℕ) (p q : ℕ) → Collide asked name p q → Meet h p q
  meets name p q c =
      let later = are.later q c.conflict.second in
      record {
        running = runs asked h.ends.items are p q c.overlap;
        starts = omega arith;
        name = name;
        conflict = subst (λ (r : Recorded). ConflictAt r name p q) (sym is_record) c.conflict.over;
      }

  collides : (name : List ℕ) (p q : ℕ) → p < q → q < end_of h p → 0 < end_of h q → ConflictAt asked.recorded name p q → Collide asked name p q
  collides name p q order running starts over =
      let second = start_is asked h.ends.items are q starts in
      record {
        conflict = record { first = start_is asked h.ends.items are p (omega arith); second = second; over = over };
        overlap = overlaps asked h.ends.items are p q order running second;
      }

  pub first_collision : (p q : ℕ) (name : List ℕ) → IsFirstMeeting h (p, q) → IsLeastAt h.conflicts p q name → IsFirstCollision asked p q name
  first_collision p q name first least = record {
    order = first.met.order;
    collide = collides name p q first.met.order first.met.met.running first.met.met.starts
        (subst (λ (r : Recorded). ConflictAt r name p q) is_record least.over);
    least_second = λ other i j order c. ⊎_elim {C = q ≤ j}
        (λ (lower : j < q). absurd (first.before j lower i order (meets other i j c)))
        (λ (le : q ≤ j). le)
        (cases_lt j q);
    least_first = λ other i order c. ⊎_elim {C = p ≤ i}
        (λ (lower : i < p). absurd (first.met.first i lower (meets other i q c)))
        (λ (le : p ≤ i). le)
        (cases_lt i p);
    least_name = λ other c. least.least other (subst (λ (r : Recorded). ConflictAt r other p q) (sym is_record) c.conflict.over);
  }

  swap : (name : List ℕ) (p q : ℕ) → Conflict asked name p q → Conflict asked name q p
  swap name p q c = record { first = c.second; second = c.first; over = at_swap asked.recorded name p q c.over }

  pub none_collide : ((q : ℕ) → MeetsNone h q) → (name : List ℕ) (p q : ℕ) → ¬ Collide asked name p q
  none_collide none name p q c = ⊎_elim {C = ⊥}
      (λ (same : p ≡ q). not_itself asked.recorded name p q c.conflict.over (ap (descriptor_at asked.recorded) same))
      (λ (apart : (p < q) ⊎ (q < p)). ⊎_elim {C = ⊥}
      (λ (before : p < q). none q p before (meets name p q c))
      (λ (after : q < p). none p q after
      (meets name q p (record { conflict = swap name p q c.conflict; overlap = overlap_swap asked p q c.overlap })))
      apart)
      (cases_order p q)

  -- executions that all last to the end
  module _ (n : Holders) (same_record : n.conflicts ≡ asked.recorded) (forgotten : AreForgotten h.ends.items n.ends.items) where
    some_conflict : (p q : ℕ) → Meet n p q → SomeConflict asked
    some_conflict p q met =
        let running = met.running in
        record {
          name = met.name;
          p = p;
          q = q;
          conflict = record {
            first = start_is asked h.ends.items are p (forgotten.only p (omega arith));
            second = start_is asked h.ends.items are q (forgotten.only q met.starts);
            over = subst (λ (r : Recorded). ConflictAt r met.name p q) same_record met.conflict;
          };
        }

    meet : (name : List ℕ) (p q : ℕ) → Conflict asked name p q → Meet n p q
    meet name p q c =
        let first = are.later p c.first in
        let second = are.later q c.second in
        let p_end = forgotten.some p (omega arith) in
        let q_end = forgotten.some q (omega arith) in
        let within : q < length h.ends.items = start_within h q (omega arith) in
        record {
          running = omega arith;
          starts = omega arith;
          name = name;
          conflict = subst (λ (r : Recorded). ConflictAt r name p q) (sym same_record) c.over;
        }

    none_conflict : ((q : ℕ) → MeetsNone n q) → (name : List ℕ) (p q : ℕ) → ¬ Conflict asked name p q
    none_conflict none name p q c = ⊎_elim {C = ⊥}
        (λ (same : p ≡ q). not_itself asked.recorded name p q c.over (ap (descriptor_at asked.recorded) same))
        (λ (apart : (p < q) ⊎ (q < p)). ⊎_elim {C = ⊥}
        (λ (before : p < q). none q p before (meet name p q c))
        (λ (after : q < p). none p q after (meet name q p (swap name p q c)))
        apart)
        (cases_order p q)

    pub yes_is :
        (found : Option (ℕ × ℕ)) → is_some found ≡ true → IsMeeting n found →
        ((q : ℕ) → MeetsNone h q) → IsLockAnswer asked Yes
    yes_is None some met none = absurd (false≢true some)
    yes_is (Some at) some met none = (some_conflict at.0 at.1 met.met.met, none_collide none)

    pub no_pair_is :
        (found : Option (ℕ × ℕ)) → is_some found ≡ false → IsMeeting n found →
        IsLockAnswer asked NoPair
    no_pair_is None none met = none_conflict met
    no_pair_is (Some at) none met = absurd (false≢true (sym none))

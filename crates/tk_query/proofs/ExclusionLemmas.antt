-- Executions that conflict and overlap, by the positions of their starts.
use Rattle.std.proofs.Common.{◌≡◌, ℕ, zero, suc, ◌<◌, ◌≤◌, ◌⊎◌, Bool, true, false, ◌&&◌, ◌||◌, List, [], ◌∷◌, length, get_or, refl, sym, ◌∙◌, arith, ⊎_elim}
use Rattle.std.specs.Prelude.{nat_lt}
use Rattle.std.proofs.lemmas.Bool.{cases_lt, cases_order, cases_eq, true≢false, ltb-true, lt-ltb, and_parts, and_from, or_cases, or_left, or_right}
use Rattle.tk_record.specs.Selections.{Selected}
use Rattle.tk_query_conditions.specs.declared.conditions.Condition.{Condition}
use Rattle.tk_query.specs.declared.answers.Exclusive.{Exclusive}
use Rattle.tk_query.specs.declared.answers.Exclusive.TheVariants.{Yes, No, NoPair}
use Rattle.tk_query.specs.declared.exclusion.Holders.{Holders}
use Rattle.tk_query.specs.Asked.{fits}
use Rattle.tk_query.specs.Ends.{AreEnds, Overlap, is_start}
use Rattle.tk_query.specs.Exclusive.{ArePair, Collide, IsExclusive, SomePair, conflict}
use Rattle.tk_query.specs.Fitting.{TellFits}
use Rattle.tk_query.specs.steps.Holders.{HasOther, HavePair, IsAnswerOf, MeetsNone, end_of, holds_any, is_held, is_written, meet, reads, writes}
use Rattle.tk_query.proofs.EndLemmas.{end_is, start_is}

-- a value above 0 stands within the list
within_list : (xs : List ℕ) (p : ℕ) → 0 < get_or xs p 0 → p < length xs
within_list [] p h = absurd (omega arith)
within_list (x ∷ xs) zero h = omega arith
within_list (x ∷ xs) (suc p) h = let lt = within_list xs p h in omega arith

abbrev conflict_in : Holders → ℕ → ℕ → Bool
conflict_in h p q = (writes h p && holds_any h q) || (writes h q && holds_any h p)

or_swap : (a b : Bool) → (a || b) ≡ true → (b || a) ≡ true
or_swap true b e = or_right b true refl
or_swap false b e = or_left b false e

pub overlap_swap : (asked : Selected) (p q : ℕ) → Overlap asked p q → Overlap asked q p
overlap_swap asked p q o = record {
  p_end = o.q_end;
  q_end = o.p_end;
  first_ends = o.second_ends;
  second_ends = o.first_ends;
  first_starts = o.second_starts;
  second_starts = o.first_starts;
}

module _ (asked : Selected) (ends : List ℕ) (are : AreEnds asked ends) where
  -- an execution that starts before another one, and ends after its start, overlaps it
  pub overlaps : (p q : ℕ) → p < q → q < get_or ends p 0 → is_start asked q ≡ true → Overlap asked p q
  overlaps p q order running start =
      let later = are.later q start in
      record {
        p_end = get_or ends p 0;
        q_end = get_or ends q 0;
        first_ends = are.each p (start_is asked ends are p (omega arith));
        second_ends = are.each q start;
        first_starts = omega arith;
        second_starts = running;
      }

  -- of two executions that overlap the first ends after the start of the second
  pub runs : (p q : ℕ) → Overlap asked p q → q < get_or ends p 0
  runs p q o = let same = end_is asked ends are p o.p_end o.first_ends in let lt = o.second_starts in omega arith

module _ (asked : Selected) (w r : Condition) (h : Holders) (are : AreEnds asked h.ends.items) (writers : TellFits asked w h.writers) (readers : TellFits asked r h.readers) where
  conflict_is : (p q : ℕ) → conflict asked w r p q ≡ conflict_in h p q
  conflict_is p q = rw (writers.tell p, writers.tell q, readers.tell p, readers.tell q) refl

  -- each execution has an end
  has_end : (p : ℕ) → is_start asked p ≡ true → nat_lt 0 (end_of h p) ≡ true
  has_end p is = let later = are.later p is in lt-ltb 0 (end_of h p) (omega arith)

  starts : (p : ℕ) → nat_lt 0 (end_of h p) ≡ true → is_start asked p ≡ true
  starts p some = start_is asked h.ends.items are p (ltb-true 0 (end_of h p) some)

  meets : (p q : ℕ) → Collide asked w r p q → meet h p q ≡ true
  meets p q c =
      and_from (nat_lt q (end_of h p) && nat_lt 0 (end_of h q)) (conflict_in h p q)
      (and_from (nat_lt q (end_of h p)) (nat_lt 0 (end_of h q)) (lt-ltb q (end_of h p) (runs asked h.ends.items are p q c.overlap)) (has_end q c.pair.second))
      (sym (conflict_is p q) ∙ c.pair.conflicts)

  collides : (p q : ℕ) → p < q → meet h p q ≡ true → Collide asked w r p q
  collides p q order met =
      let parts = and_parts (nat_lt q (end_of h p) && nat_lt 0 (end_of h q)) (conflict_in h p q) met in
      let both = and_parts (nat_lt q (end_of h p)) (nat_lt 0 (end_of h q)) parts.0 in
      let running : q < end_of h p = ltb-true q (end_of h p) both.0 in
      let second = starts q both.1 in
      record {
        pair = record {
          first = start_is asked h.ends.items are p (omega arith);
          second = second;
          different = λ same. omega arith;
          conflicts = conflict_is p q ∙ parts.1;
        };
        overlap = overlaps asked h.ends.items are p q order running second;
      }

  swap_pair : (p q : ℕ) → ArePair asked w r p q → ArePair asked w r q p
  swap_pair p q pair = record {
    first = pair.second;
    second = pair.first;
    different = λ same. pair.different (sym same);
    conflicts = or_swap (fits asked w p && (fits asked w q || fits asked r q))
        (fits asked w q && (fits asked w p || fits asked r p)) pair.conflicts;
  }

  none_in_order : ((q : ℕ) → q < length h.ends.items → MeetsNone h q) → (p q : ℕ) → p < q → ¬ Collide asked w r p q
  none_in_order none p q order c =
      let later = are.later q c.pair.second in
      true≢false (sym (meets p q c) ∙ none q (within_list h.ends.items q (omega arith)) p order)

  none_collide : ((q : ℕ) → q < length h.ends.items → MeetsNone h q) → (p q : ℕ) → ¬ Collide asked w r p q
  none_collide none p q c = ⊎_elim {C = ⊥}
      (λ (same : p ≡ q). c.pair.different same)
      (λ (apart : (p < q) ⊎ (q < p)). ⊎_elim {C = ⊥}
      (λ (before : p < q). none_in_order none p q before c)
      (λ (after : q < p). none_in_order none q p after (record { pair = swap_pair p q c.pair; overlap = overlap_swap asked p q c.overlap }))
      apart)
      (cases_order p q)

  -- an execution of a writer, and one of a writer or a reader, conflict
  some_pair : HavePair h → SomePair asked w r
  some_pair have =
      let p = have.writer in
      let q = have.beside.other in
      let one = and_parts (nat_lt 0 (end_of h p)) (writes h p) have.written in
      let two = and_parts (nat_lt 0 (end_of h q)) (holds_any h q) have.beside.held in
      record {
        p = p;
        q = q;
        pair = record {
          first = starts p one.0;
          second = starts q two.0;
          different = λ same. have.beside.different (sym same);
          conflicts = conflict_is p q ∙ or_left (writes h p && holds_any h q) (writes h q && holds_any h p)
              (and_from (writes h p) (holds_any h q) one.1 two.1);
        };
      }

  -- an execution of a writer, and another of a writer or a reader
  one_writes : (p q : ℕ) → ArePair asked w r p q → (writes h p && holds_any h q) ≡ true → HavePair h
  one_writes p q pair both =
      let parts = and_parts (writes h p) (holds_any h q) both in
      record {
        writer = p;
        written = and_from (nat_lt 0 (end_of h p)) (writes h p) (has_end p pair.first) parts.0;
        beside = record {
          other = q;
          held = and_from (nat_lt 0 (end_of h q)) (holds_any h q) (has_end q pair.second) parts.1;
          different = λ same. pair.different (sym same);
        };
      }

  have_pair : (p q : ℕ) → ArePair asked w r p q → HavePair h
  have_pair p q pair = ⊎_elim {C = HavePair h}
      (λ (a : (writes h p && holds_any h q) ≡ true). one_writes p q pair a)
      (λ (b : (writes h q && holds_any h p) ≡ true). one_writes q p (swap_pair p q pair) b)
      (or_cases (writes h p && holds_any h q) (writes h q && holds_any h p)
      (sym (conflict_is p q) ∙ pair.conflicts))

  pub exclusive_is : (answer : Exclusive) → IsAnswerOf h answer → IsExclusive asked w r answer
  exclusive_is Yes (have, none) = (some_pair have, none_collide none)
  exclusive_is NoPair none = λ p q pair. none (have_pair p q pair)
  exclusive_is (No p q) (met, before) = record {
    order = met.order;
    collide = collides p q met.order met.met;
    least_second = λ i j order c. ⊎_elim {C = q ≤ j}
        (λ (lower : j < q). absurd (true≢false (sym (meets i j c) ∙ before j lower i order)))
        (λ (le : q ≤ j). le)
        (cases_lt j q);
    least_first = λ i order c. ⊎_elim {C = p ≤ i}
        (λ (lower : i < p). absurd (true≢false (sym (meets i q c) ∙ met.first i lower)))
        (λ (le : p ≤ i). le)
        (cases_lt i p);
  }

-- ---- whether two executions conflict

-- another execution of a writer or a reader, where this one isn't the first writer's
pub other_pair :
    (h : Holders) (writer : ℕ) → is_written h writer ≡ true → HavePair h → HasOther h writer
other_pair h writer written have = ⊎_elim {C = HasOther h writer}
    (λ (same : have.writer ≡ writer). record {
      other = have.beside.other;
      held = have.beside.held;
      different = λ e. have.beside.different (e ∙ sym same);
    })
    (λ (apart : have.writer ≡ writer → ⊥). record {
      other = have.writer;
      held = held have.writer have.written;
      different = apart;
    })
    (cases_eq have.writer writer)
  where
    held : (p : ℕ) → is_written h p ≡ true → is_held h p ≡ true
    held p is =
        let parts = and_parts (nat_lt 0 (end_of h p)) (writes h p) is in
        and_from (nat_lt 0 (end_of h p)) (holds_any h p) parts.0
        (or_left (writes h p) (reads h p) parts.1)

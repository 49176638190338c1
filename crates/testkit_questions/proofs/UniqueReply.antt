-- A question has one answer about a record.
use Rattle.std.proofs.Common.{◌≡◌, ◌<◌, ◌+◌, ◌++◌, ◌∷◌, [], ℕ, zero, suc, Bool, ◌&&◌, List, length, take, Some, refl, sym, ap, ap₂, subst, ◌∙◌}
use Rattle.std.specs.Prelude.{codes}
use Rattle.std.specs.List.{slice_get, flat_map, list_all}
use Rattle.std.specs.Fmt.{decimal}
use Rattle.std.proofs.lemmas.Option.{same_Some, none-some}
use Rattle.std.proofs.lemmas.List.Elements.{filter_agree}
use Rattle.tk_events.specs.declared.events.Entry.{Entry}
use Rattle.tk_record.specs.declared.selections.Selection.{Selection}
use Rattle.tk_record.specs.Recorded.{Recorded}
use Rattle.tk_record.specs.Selections.{PositionedEntry, Selected, all_of, events_of, positioned, selects}
use Rattle.tk_record.specs.Lines.{event_list}
use Rattle.tk_query_conditions.specs.declared.conditions.Condition.{Condition}
use Rattle.tk_query_conditions.specs.Cond.{Cond}
use Rattle.tk_query_conditions.specs.CondOf.{cond_of}
use Rattle.tk_query.specs.declared.answers.Exact.{Exact}
use Rattle.tk_query.specs.declared.answers.Exact.TheVariants as exact
use Rattle.tk_query.specs.declared.answers.Exclusive.{Exclusive}
use Rattle.tk_query.specs.declared.answers.Exclusive.TheVariants as exclusives
use Rattle.tk_query.specs.declared.answers.Loose.{Loose}
use Rattle.tk_query.specs.declared.answers.Loose.TheVariants as loose
use Rattle.tk_query.specs.declared.answers.InOrder.{InOrder}
use Rattle.tk_query.specs.declared.answers.InOrder.TheVariants as in_order
use Rattle.tk_query.specs.declared.execution.Execution.{Execution}
use Rattle.tk_query.specs.Asked.{event_at, is_there, fits}
use Rattle.tk_query.specs.Exclusive.{ArePair, Collide, IsExclusive, SomePair, conflict}
use Rattle.tk_query.specs.Holds.{cond_holds, holds}
use Rattle.tk_query.specs.InOrder.{HoldInTurn, IsLeastInTurn}
use Rattle.tk_query.specs.Laws as laws
use Rattle.tk_query.specs.Matches.{HoldsAt, IsFirstUnlike, IsExact, HoldsSomewhere, IsFirstNowhere, IsLoose, IsInOrder}
use Rattle.tk_query.proofs.AnswerIsUnique.{one_exact, one_loose, one_in_order, one_list, one_exclusive}
use Rattle.testkit_questions.specs.declared.questions.Mode.{Mode}
use Rattle.testkit_questions.specs.declared.questions.Mode.TheVariants.{Exactly, Loosely, InOrder as InTheirOrder}
use Rattle.testkit_questions.specs.declared.questions.Question.{Question}
use Rattle.testkit_questions.specs.declared.questions.Question.TheVariants as questions
use Rattle.tk_query_lifecycle.specs.declared.lifecycle_rules.Lifecycle.{Lifecycle}
use Rattle.tk_query_lifecycle.proofs.LifecycleIsUnique.{lifecycle_is_unique}
use Rattle.tk_query_locks.specs.AnswerTexts.{lock_answer_yes}
use Rattle.tk_query_locks.specs.declared.answers.LockAnswer.{LockAnswer}
use Rattle.tk_query_locks.proofs.AnswerIsUnique.{one_answer as one_lock_answer}
use Rattle.tk_query.specs.AnswerTexts.{exact_yes, exclusive_yes, in_order_yes, loose_yes, position_text}
use Rattle.testkit_questions.specs.Answers.{IsAnswerTo, IsExclusiveAnswer, IsMatchAnswer, events_where}
use Rattle.testkit_questions.specs.Answers.{exact_line, exclusive_line, execution_line, in_order_line}
use Rattle.testkit_questions.specs.Answers.{lifecycle_line, lifecycle_yes, lock_answer_line, loose_line, picked}
use Rattle.testkit_questions.proofs.UniqueReading.{AreAlike, AreSame, alike_itself, equal, excluding}
use Rattle.testkit_questions.proofs.UniqueReading.{listing, matching}

-- ---- conditions that say the same hold alike

pub as_many : (cs ds : List Condition) → AreAlike cs ds → length cs ≡ length ds
as_many [] [] h = refl
as_many [] (d ∷ ds) h = absurd h
as_many (c ∷ cs) [] h = absurd h
as_many (c ∷ cs) (d ∷ ds) h = ap suc (as_many cs ds h.1)

back : (cs ds : List Condition) → AreAlike cs ds → AreAlike ds cs
back [] [] h = tt
back [] (d ∷ ds) h = absurd h
back (c ∷ cs) [] h = absurd h
back (c ∷ cs) (d ∷ ds) h = (sym h.0, back cs ds h.1)

pub prefix : (n : ℕ) (cs ds : List Condition) → AreAlike cs ds → AreAlike (take n cs) (take n ds)
prefix zero cs ds h = tt
prefix (suc n) [] [] h = tt
prefix (suc n) [] (d ∷ ds) h = absurd h
prefix (suc n) (c ∷ cs) [] h = absurd h
prefix (suc n) (c ∷ cs) (d ∷ ds) h = (h.0, prefix n cs ds h.1)

pub like_at : (cs ds : List Condition) (k : ℕ) (c : Condition) → AreAlike cs ds → slice_get cs k ≡ Some c → (d : Condition) × (slice_get ds k ≡ Some d) × (cond_of c ≡ cond_of d)
like_at [] ds k c h e = absurd (none-some c e)
like_at (x ∷ cs) [] k c h e = absurd h
like_at (x ∷ cs) (y ∷ ds) zero c h e = (y, refl, ap (λ (z : Condition). cond_of z) (sym (same_Some x c e)) ∙ h.0)
like_at (x ∷ cs) (y ∷ ds) (suc k) c h e = like_at cs ds k c h.1 e

pub same_holds : (r : Recorded) (c d : Condition) (e : Entry) → cond_of c ≡ cond_of d → holds r c e ≡ holds r d e
same_holds r c d e same = ap (λ (x : Cond). cond_holds r x e) same

pub same_fits : (asked : Selected) (c d : Condition) (position : ℕ) → cond_of c ≡ cond_of d → fits asked c position ≡ fits asked d position
same_fits asked c d position same = ap (λ (x : Cond). is_there (λ (e : Entry). cond_holds asked.recorded x e) (event_at asked.kept position)) same

module _ (cs ds : List Condition) (like : AreAlike cs ds) where
  below : (k : ℕ) → k < length ds → k < length cs
  below k lt = subst (λ (n : ℕ). k < n) (sym (as_many cs ds like)) lt

  holds_at : (r : Recorded) (l : List Entry) (k : ℕ) → HoldsAt r cs l k → HoldsAt r ds l k
  holds_at r l k h =
      let d = like_at cs ds k h.0 like h.2 in
      (d.0, h.1, d.1, h.3, sym (same_holds r h.0 d.0 h.1 d.2) ∙ h.4)

  unlike : (r : Recorded) (l : List Entry) (k : ℕ) → IsFirstUnlike r cs l k → IsFirstUnlike r ds l k
  unlike r l k u =
      let d = like_at cs ds k u.condition like u.condition_is in
      record {
        condition = d.0;
        event = u.event;
        condition_is = d.1;
        event_is = u.event_is;
        fails = sym (same_holds r u.condition d.0 u.event d.2) ∙ u.fails;
        before = λ j lt. holds_at r l j (u.before j lt);
      }

  pub exact_too : (asked : Selected) (a : Exact) → IsExact asked cs a → IsExact asked ds a
  exact_too asked exact.Yes h = (sym (as_many cs ds like) ∙ h.0, λ k lt. holds_at asked.recorded (events_of asked) k (h.1 k (below k lt)))
  exact_too asked exact.WrongCount h = λ e. h (as_many cs ds like ∙ e)
  exact_too asked (exact.No k) h = (sym (as_many cs ds like) ∙ h.0, unlike asked.recorded (events_of asked) k h.1)

  somewhere : (asked : Selected) (k : ℕ) → HoldsSomewhere asked cs k → HoldsSomewhere asked ds k
  somewhere asked k h =
      let d = like_at cs ds k h.0 like h.2 in
      (d.0, h.1, d.1, sym (same_fits asked h.0 d.0 h.1 d.2) ∙ h.3)

  nowhere : (asked : Selected) (k : ℕ) → IsFirstNowhere asked cs k → IsFirstNowhere asked ds k
  nowhere asked k u =
      let d = like_at cs ds k u.condition like u.condition_is in
      record {
        condition = d.0;
        condition_is = d.1;
        nowhere = λ position. sym (same_fits asked u.condition d.0 position d.2) ∙ u.nowhere position;
        before = λ j lt. somewhere asked j (u.before j lt);
      }

  pub loose_too : (asked : Selected) (a : Loose) → IsLoose asked cs a → IsLoose asked ds a
  loose_too asked loose.Yes h = λ k lt. somewhere asked k (h k (below k lt))
  loose_too asked (loose.No k) h = nowhere asked k h

in_turn : (asked : Selected) (from : ℕ) (cs ds : List Condition) (ps : List ℕ) → AreAlike cs ds → HoldInTurn (fits asked) from cs ps → HoldInTurn (fits asked) from ds ps
in_turn asked from [] [] ps like h = h
in_turn asked from [] (d ∷ ds) ps like h = absurd like
in_turn asked from (c ∷ cs) [] ps like h = absurd like
in_turn asked from (c ∷ cs) (d ∷ ds) [] like h = absurd h
in_turn asked from (c ∷ cs) (d ∷ ds) (p ∷ ps) like h = (h.0, sym (same_fits asked c d p like.0) ∙ h.1, in_turn asked (p + 1) cs ds ps like.1 h.2)

pub least_too : (asked : Selected) (cs ds : List Condition) (ps : List ℕ) → AreAlike cs ds → IsLeastInTurn (fits asked) cs ps → IsLeastInTurn (fits asked) ds ps
least_too asked cs ds ps like h = record {
  holds = in_turn asked 0 cs ds ps like h.holds;
  least = λ qs k. h.least qs (in_turn asked 0 ds cs qs (back cs ds like) k);
}

pub in_order_too : (asked : Selected) (cs ds : List Condition) (a : InOrder) → AreAlike cs ds → IsInOrder asked cs a → IsInOrder asked ds a
in_order_too asked cs ds (in_order.Yes ps) like h = least_too asked cs ds ps.items like h
in_order_too asked cs ds (in_order.No k) like h = record {
  within = subst (λ (n : ℕ). k < n) (as_many cs ds like) h.within;
  stuck = λ can. h.stuck (can.0, in_turn asked 0 (take (k + 1) ds) (take (k + 1) cs) can.0 (prefix (k + 1) ds cs (back cs ds like)) can.1);
  before = λ j lt. let can = h.before j lt in (can.0, in_turn asked 0 (take (j + 1) cs) (take (j + 1) ds) can.0 (prefix (j + 1) cs ds like) can.1);
}

-- the same events pass a selection and conditions that say the same
all_alike : (r : Recorded) (cs ds : List Condition) (e : Entry) → AreAlike cs ds → list_all (λ c. holds r c e) cs ≡ list_all (λ d. holds r d e) ds
all_alike r [] [] e like = refl
all_alike r [] (d ∷ ds) e like = absurd like
all_alike r (c ∷ cs) [] e like = absurd like
all_alike r (c ∷ cs) (d ∷ ds) e like = ap₂ (λ x y. x && y) (same_holds r c d e like.0) (all_alike r cs ds e like.1)

pub same_events : (s : Selection) (cs ds : List Condition) (r : Recorded) → AreAlike cs ds → events_where s cs r ≡ events_where s ds r
same_events s cs ds r like =
    ap (λ (kept : List PositionedEntry). record { recorded = r; kept = kept })
    (filter_agree (λ x. selects s r x.entry && list_all (λ c. holds r c x.entry) cs) (λ x. selects s r x.entry && list_all (λ d. holds r d x.entry) ds)
    (λ x. ap (λ b. selects s r x.entry && b) (all_alike r cs ds x.entry like)) (positioned r.entries))

-- ---- conditions of writers and of readers that say the same

module _ (asked : Selected) (w v r s : Condition) (writers : cond_of w ≡ cond_of v) (readers : cond_of r ≡ cond_of s) where
  conflict_same : (p q : ℕ) → conflict asked w r p q ≡ conflict asked v s p q
  conflict_same p q = rw (same_fits asked w v p writers, same_fits asked w v q writers, same_fits asked r s p readers, same_fits asked r s q readers) refl

  pair_too : (p q : ℕ) → ArePair asked w r p q → ArePair asked v s p q
  pair_too p q c = record {
    first = c.first;
    second = c.second;
    different = c.different;
    conflicts = sym (conflict_same p q) ∙ c.conflicts;
  }

  some_too : SomePair asked w r → SomePair asked v s
  some_too some = record { p = some.p; q = some.q; pair = pair_too some.p some.q some.pair }

  collide_too : (p q : ℕ) → Collide asked w r p q → Collide asked v s p q
  collide_too p q c = record { pair = pair_too p q c.pair; overlap = c.overlap }

pub exclusive_too : (asked : Selected) (w v r s : Condition) → cond_of w ≡ cond_of v → cond_of r ≡ cond_of s → (a : Exclusive) → IsExclusive asked w r a → IsExclusive asked v s a
exclusive_too asked w v r s writers readers exclusives.Yes h = (
  some_too asked w v r s writers readers h.0,
  λ p q c. h.1 p q (collide_too asked v w s r (sym writers) (sym readers) p q c),
)
exclusive_too asked w v r s writers readers exclusives.NoPair h =
    λ p q c. h p q (pair_too asked v w s r (sym writers) (sym readers) p q c)
exclusive_too asked w v r s writers readers (exclusives.No p q) h = record {
  order = h.order;
  collide = collide_too asked w v r s writers readers p q h.collide;
  least_second = λ i j order c. h.least_second i j order (collide_too asked v w s r (sym writers) (sym readers) i j c);
  least_first = λ i order c. h.least_first i order (collide_too asked v w s r (sym writers) (sym readers) i q c);
}

-- ---- answers

in_order_same : (a b : InOrder) → laws.AreAlike a b → (in_order_yes a ≡ in_order_yes b) × (in_order_line a ≡ in_order_line b)
in_order_same (in_order.Yes p) (in_order.Yes q) e = (refl, ap (λ (l : List ℕ). (codes "yes" ++ flat_map position_text l) ++ 10 ∷ []) e)
in_order_same (in_order.Yes p) (in_order.No k) e = absurd e
in_order_same (in_order.No j) (in_order.Yes q) e = absurd e
in_order_same (in_order.No j) (in_order.No k) e = (refl, ap (λ (n : ℕ). codes "no " ++ decimal n ++ 10 ∷ []) e)

one_match_answer : (m : Mode) (asked : Selected) (cs ds : List Condition) (y z : Bool)
    (o p : List ℕ) → AreAlike cs ds → IsMatchAnswer m asked cs y o → IsMatchAnswer m asked ds z p
    → (y ≡ z) × (o ≡ p)
one_match_answer Exactly asked cs ds y z o p like a b =
    let e = one_exact asked ds a.0 b.0 (exact_too cs ds like asked a.0 a.1) b.1 in (
      a.2 ∙ ap (λ (x : Exact). exact_yes x) e ∙ sym b.2,
      a.3 ∙ ap (λ (x : Exact). exact_line x) e ∙ sym b.3,
    )
one_match_answer Loosely asked cs ds y z o p like a b =
    let e = one_loose asked ds a.0 b.0 (loose_too cs ds like asked a.0 a.1) b.1 in (
      a.2 ∙ ap (λ (x : Loose). loose_yes x) e ∙ sym b.2,
      a.3 ∙ ap (λ (x : Loose). loose_line x) e ∙ sym b.3,
    )
one_match_answer InTheirOrder asked cs ds y z o p like a b =
    let e = in_order_same a.0 b.0
    (one_in_order asked ds a.0 b.0 (in_order_too asked cs ds a.0 like a.1) b.1) in
    (a.2 ∙ e.0 ∙ sym b.2, a.3 ∙ e.1 ∙ sym b.3)

one_exclusive_answer : (w v x s : Condition) (r : Recorded) (y z : Bool) (o p : List ℕ)
    → cond_of w ≡ cond_of v → cond_of x ≡ cond_of s
    → IsExclusiveAnswer w x r y o → IsExclusiveAnswer v s r z p → (y ≡ z) × (o ≡ p)
one_exclusive_answer w v x s r y z o p writers readers a b =
    let e = one_exclusive (all_of r) v s a.0 b.0
    (exclusive_too (all_of r) w v x s writers readers a.0 a.1) b.1 in (
      a.2 ∙ ap (λ (t : Exclusive). exclusive_yes t) e ∙ sym b.2,
      a.3 ∙ ap (λ (t : Exclusive). exclusive_line t) e ∙ sym b.3,
    )

-- a question has one answer
pub one_answer : (q : Question) (r : Recorded) (y z : Bool) (o u : List ℕ)
    → IsAnswerTo q r y o → IsAnswerTo q r z u → (y ≡ z) × (o ≡ u)
one_answer (questions.Stats s e) r y z o u a b = (a.0 ∙ sym b.0, a.1 ∙ sym b.1)
one_answer (questions.Count s) r y z o u a b = (a.0 ∙ sym b.0, a.1 ∙ sym b.1)
one_answer (questions.Match s m cs) r y z o u a b =
    one_match_answer m (picked s r) cs.items cs.items y z o u (alike_itself cs.items) a b
one_answer (questions.List s cs) r y z o u a b = (a.0 ∙ sym b.0, a.1 ∙ sym b.1)
one_answer (questions.Exclusive w x) r y z o u a b =
    one_exclusive_answer w w x x r y z o u refl refl a b
one_answer (questions.Executions s) r y z o u a b =
    let e = one_list (picked s r) a.0 b.0 a.1 b.1 in
    (a.2 ∙ sym b.2, a.3 ∙ ap (λ (xs : List Execution). flat_map execution_line xs) e ∙ sym b.3)
one_answer questions.Lifecycle r y z o u a b =
    let e = lifecycle_is_unique r a.0 b.0 a.1 b.1 in (
      a.2 ∙ ap (λ (x : Lifecycle). lifecycle_yes x) e ∙ sym b.2,
      a.3 ∙ ap (λ (x : Lifecycle). lifecycle_line x) e ∙ sym b.3,
    )
one_answer questions.Locks r y z o u a b =
    let e = one_lock_answer (all_of r) a.0 b.0 a.1 b.1 in (
      a.2 ∙ ap (λ (x : LockAnswer). lock_answer_yes x) e ∙ sym b.2,
      a.3 ∙ ap (λ (x : LockAnswer). lock_answer_line x) e ∙ sym b.3,
    )
one_answer questions.Report r y z o u a b = (a.0 ∙ sym b.0, a.1 ∙ sym b.1)

-- questions that ask the same have one answer
pub one_reply : (p q : Question) (r : Recorded) (y z : Bool) (o u : List ℕ) → AreSame p q
    → IsAnswerTo p r y o → IsAnswerTo q r z u → (y ≡ z) × (o ≡ u)
one_reply p q r y z o u (equal e) a b =
    one_answer q r y z o u (subst (λ (x : Question). IsAnswerTo x r y o) e a) b
one_reply p q r y z o u (matching s m cs ds like e f) a b =
    one_match_answer m (picked s r) cs.items ds.items y z o u like
    (subst (λ (x : Question). IsAnswerTo x r y o) e a)
    (subst (λ (x : Question). IsAnswerTo x r z u) f b)
one_reply p q r y z o u (listing s cs ds like e f) a b =
    let c = subst (λ (x : Question). IsAnswerTo x r y o) e a in
    let d = subst (λ (x : Question). IsAnswerTo x r z u) f b in
    (c.0 ∙ sym d.0, c.1 ∙ ap event_list (same_events s cs.items ds.items r like) ∙ sym d.1)
one_reply p q r y z o u (excluding w x v s writers readers e f) a b =
    one_exclusive_answer w v x s r y z o u writers readers
    (subst (λ (t : Question). IsAnswerTo t r y o) e a)
    (subst (λ (t : Question). IsAnswerTo t r z u) f b)

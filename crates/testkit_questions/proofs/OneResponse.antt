-- What words ask for has one response about a record.
use Rattle.std.proofs.Common.{◌≡◌, ℕ, Bool, true, false, List, subst}
use Rattle.tk_record.specs.Recorded.{Recorded}
use Rattle.tk_record.specs.Selections.{Selected, all_of}
use Rattle.tk_query_conditions.specs.declared.conditions.Condition.{Condition}
use Rattle.tk_explanations.specs.Laws.{ExplanationsAreUnique}
use Rattle.tk_explanations.specs.Lists.{ExplainsList}
use Rattle.testkit_questions.specs.declared.questions.Mode.{Mode}
use Rattle.testkit_questions.specs.declared.questions.Mode.TheVariants.{Exactly, Loosely, InOrder}
use Rattle.testkit_questions.specs.declared.questions.Question.{Question}
use Rattle.testkit_questions.specs.declared.questions.Question.TheVariants as questions
use Rattle.testkit_questions.specs.declared.questions.Request.{Request}
use Rattle.testkit_questions.specs.Answers.{events_where, picked}
use Rattle.testkit_questions.specs.Explanations.{Explains, ExplainsMatch, IsResponse, IsResponseTo}
use Rattle.testkit_questions.proofs.LikeExplanations.{exactly_too, holders_too, in_turn_too, loosely_too}
use Rattle.testkit_questions.proofs.UniqueReading.{AreAlike, AreSame, alike_itself, equal, excluding}
use Rattle.testkit_questions.proofs.UniqueReading.{listing, matching}
use Rattle.testkit_questions.proofs.UniqueReply.{one_answer, one_reply, same_events}
use Rattle.testkit_questions.proofs.OneRequest.{AreSameRequests}

module _ (unique : ExplanationsAreUnique) where
  one_match : (m : Mode) (asked : Selected) (cs ds : List Condition) (y z : Bool) (o u : List ℕ)
      → AreAlike cs ds → ExplainsMatch m asked cs y o → ExplainsMatch m asked ds z u
      → (y ≡ z) × (o ≡ u)
  one_match Exactly asked cs ds y z o u like a b =
      unique.exactly asked ds y z o u (exactly_too asked cs ds y o like a) b
  one_match Loosely asked cs ds y z o u like a b =
      unique.loosely asked ds y z o u (loosely_too asked cs ds y o like a) b
  one_match InOrder asked cs ds y z o u like a b =
      unique.in_order asked ds y z o u (in_turn_too asked cs ds y o like a) b

  one_question : (q : Question) (r : Recorded) (y z : Bool) (o u : List ℕ)
      → Explains q r y o → Explains q r z u → (y ≡ z) × (o ≡ u)
  one_question (questions.Stats s e) r y z o u a b =
      unique.statistics (picked s r) e y z o u a b
  one_question (questions.Count s) r y z o u a b = one_answer (questions.Count s) r y z o u a b
  one_question (questions.Match s m cs) r y z o u a b =
      one_match m (picked s r) cs.items cs.items y z o u (alike_itself cs.items) a b
  one_question (questions.List s cs) r y z o u a b =
      unique.listed (events_where s cs.items r) y z o u a b
  one_question (questions.Exclusive w x) r y z o u a b =
      unique.exclusive (all_of r) w x y z o u a b
  one_question (questions.Executions s) r y z o u a b =
      unique.executions (picked s r) y z o u a b
  one_question questions.Lifecycle r y z o u a b = unique.lifecycle r y z o u a b
  one_question questions.Locks r y z o u a b = unique.locks (all_of r) y z o u a b
  one_question questions.Report r y z o u a b = one_answer questions.Report r y z o u a b

  one_explanation : (p q : Question) (r : Recorded) (y z : Bool) (o u : List ℕ) → AreSame p q
      → Explains p r y o → Explains q r z u → (y ≡ z) × (o ≡ u)
  one_explanation p q r y z o u (equal e) a b =
      one_question q r y z o u (subst (λ (x : Question). Explains x r y o) e a) b
  one_explanation p q r y z o u (matching s m cs ds like e f) a b =
      one_match m (picked s r) cs.items ds.items y z o u like
      (subst (λ (x : Question). Explains x r y o) e a)
      (subst (λ (x : Question). Explains x r z u) f b)
  one_explanation p q r y z o u (listing s cs ds like e f) a b =
      let c = subst (λ (x : Question). Explains x r y o) e a in
      unique.listed (events_where s ds.items r) y z o u
      (subst (λ (x : Selected). ExplainsList x y o) (same_events s cs.items ds.items r like) c)
      (subst (λ (x : Question). Explains x r z u) f b)
  one_explanation p q r y z o u (excluding w x v s writers readers e f) a b =
      unique.exclusive (all_of r) v s y z o u
      (holders_too (all_of r) w v x s y o writers readers
      (subst (λ (t : Question). Explains t r y o) e a))
      (subst (λ (t : Question). Explains t r z u) f b)

  one_of : (flag : Bool) (p q : Question) (r : Recorded) (y z : Bool) (o u : List ℕ)
      → AreSame p q → IsResponse flag p r y o → IsResponse flag q r z u → (y ≡ z) × (o ≡ u)
  one_of true p q r y z o u same a b = one_explanation p q r y z o u same a b
  one_of false p q r y z o u same a b = one_reply p q r y z o u same a b

  -- requests for the same have one response
  pub one_response : (p q : Request) (r : Recorded) (y z : Bool) (o u : List ℕ)
      → AreSameRequests p q → IsResponseTo p r y o → IsResponseTo q r z u → (y ≡ z) × (o ≡ u)
  one_response p q r y z o u same a b =
      one_of q.is_explained p.question q.question r y z o u same.1
      (subst (λ (flag : Bool). IsResponse flag p.question r y o) same.0 a) b

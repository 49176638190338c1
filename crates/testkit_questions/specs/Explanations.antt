-- What words that ask for something are answered.
use Rattle.std.specs.Prelude.{ℕ, Bool, true, false, List}
use Rattle.tk_record.specs.Recorded.{Recorded}
use Rattle.tk_record.specs.Selections.{Selected, all_of}
use Rattle.tk_query_conditions.specs.declared.conditions.Condition.{Condition}
use Rattle.tk_explanations.specs.Collisions.{ExplainsExclusive}
use Rattle.tk_explanations.specs.Lifecycles.{ExplainsLifecycle}
use Rattle.tk_explanations.specs.Lists.{ExplainsExecutions, ExplainsList}
use Rattle.tk_explanations.specs.LockCollisions.{ExplainsLocks}
use Rattle.tk_explanations.specs.Matches.{ExplainsExactly, ExplainsInOrder, ExplainsLoosely}
use Rattle.tk_explanations.specs.Statistics.{ExplainsStatistics}
use Rattle.testkit_questions.specs.declared.questions.Mode.{Mode}
use Rattle.testkit_questions.specs.declared.questions.Mode.TheVariants.{Exactly, Loosely, InOrder}
use Rattle.testkit_questions.specs.declared.questions.Question.{Question}
use Rattle.testkit_questions.specs.declared.questions.Question.TheVariants.{Stats, Match}
use Rattle.testkit_questions.specs.declared.questions.Question.TheVariants.{List as Listed}
use Rattle.testkit_questions.specs.declared.questions.Question.TheVariants.{Exclusive, Executions}
use Rattle.testkit_questions.specs.declared.questions.Question.TheVariants.{Lifecycle, Locks}
use Rattle.testkit_questions.specs.declared.questions.Request.{Request}
use Rattle.testkit_questions.specs.Answers.{IsAnswerTo, events_where, picked}

-- the explanation of what a mode's matcher answers of these events
abbrev pub ExplainsMatch : Mode → Selected → List Condition → Bool → List ℕ → Type 0
ExplainsMatch Exactly asked conditions = ExplainsExactly asked conditions
ExplainsMatch Loosely asked conditions = ExplainsLoosely asked conditions
ExplainsMatch InOrder asked conditions = ExplainsInOrder asked conditions

-- The explanation of an answer about a record: whether the answer is a yes, and the output. Of a
-- number and of a report it is the answer itself.
abbrev pub Explains : Question → Recorded → Bool → List ℕ → Type 0
Explains (Stats selection expected) r = ExplainsStatistics (picked selection r) expected
Explains (Match selection mode conditions) r =
    ExplainsMatch mode (picked selection r) conditions.items
Explains (Listed selection conditions) r =
    ExplainsList (events_where selection conditions.items r)
Explains (Exclusive writers readers) r = ExplainsExclusive (all_of r) writers readers
Explains (Executions selection) r = ExplainsExecutions (picked selection r)
Explains Lifecycle r = ExplainsLifecycle r
Explains Locks r = ExplainsLocks (all_of r)
Explains question r = IsAnswerTo question r

-- an answer about a record, with its explanation or without
abbrev pub IsResponse : Bool → Question → Recorded → Bool → List ℕ → Type 0
IsResponse true question r = Explains question r
IsResponse false question r = IsAnswerTo question r

-- what is answered to a request about a record: whether it is a yes, and the output
abbrev pub IsResponseTo : Request → Recorded → Bool → List ℕ → Type 0
IsResponseTo request r = IsResponse request.is_explained request.question r

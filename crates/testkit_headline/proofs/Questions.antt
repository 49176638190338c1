-- That what `ask` writes is the one answer.
use Rattle.std.proofs.Common.{◌≡◌, ℕ, Bool, List, ◌++◌, Option, Some, None, Result, Ok, Err, IfOk, IfSome, ap, sym, ◌∙◌}
use Rattle.std.specs.Io.KnownBytes.{Appends}
use Rattle.testkit_questions.specs.declared.faults.AskFault.{AskFault}
use Rattle.testkit_questions.specs.Asked.{AddsAnswer}
use Rattle.testkit_questions.specs.Laws.{AnswerIsUnique, Answered}
use Rattle.testkit_headline.specs.Answers.{IsTheAnswer}

pub answered :
    (law : AnswerIsUnique) (words : List (List ℕ)) (remaining old new : Option (List ℕ))
    (answer : Result Bool AskFault)
    → IfOk answer (λ is_yes. IfSome remaining (λ input. AddsAnswer words input is_yes old new))
    → IfOk answer (λ is_yes. IfSome remaining (λ input. IsTheAnswer words input is_yes old new))
answered law words None old new (Ok is_yes) h = h
answered law words (Some input) old new (Ok is_yes) h = record {
  output = h.0;
  written = h.2;
  promised = h.1;
  only = λ other settled is. law words input other (Answered is_yes h.0) settled tt is h.1;
}
answered law words remaining old new (Err fault) h = h

-- what is written to known bytes leaves one content
written_once :
    (old output : List ℕ) (new : Option (List ℕ))
    → Appends (Some old) new output → new ≡ Some (old ++ output)
written_once old output None h = absurd h
written_once old output (Some bytes) h = ap Some h

pub one_answer :
    (words : List (List ℕ)) (input old : List ℕ) (a b : Bool) (new other : Option (List ℕ))
    → IsTheAnswer words input a (Some old) new → IsTheAnswer words input b (Some old) other
    → (a ≡ b) × (new ≡ other)
one_answer words input old a b new other first second =
    let same : Answered b second.output ≡ Answered a first.output =
    first.only (Answered b second.output) tt second.promised in
    let output : second.output ≡ first.output = cc in (
      cc,
      written_once old first.output new first.written ∙ ap (λ o. Some (old ++ o)) (sym output)
          ∙ sym (written_once old second.output other second.written),
    )

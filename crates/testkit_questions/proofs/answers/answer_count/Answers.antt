use Rattle.std.proofs.Common.{rules, ◌≡◌, ◌++◌, ◌∷◌, [], ℕ, length, string_bytes, ap, ◌∙◌}
use Rattle.std.specs.Fmt.{decimal}
use Rattle.tk_record.specs.Selections.{Selected, selects}
use Rattle.testkit_questions.proofs.AnswerLemmas.{kept_count}
use Rattle.testkit_questions.proofs.answers.answer_count.Goals as goal

pub returns : goal.returns
returns c =
    let r = c.args.«record».now in
    let number = c.count-count.ensures ∙ ap (λ (s : Selected). length s.kept) c.in_ok-picked.ensures
    ∙ kept_count (selects c.args.selection r) 0 r.entries in
    let text : string_bytes c.in_ok-text.text ≡ decimal c.count-count.result ++ 10 ∷ [] =
    search rules in (
      c.new.ensures.is_yes,
      c.new.ensures.text ∙ text ∙ ap (λ (n : ℕ). decimal n ++ 10 ∷ []) number,
    )

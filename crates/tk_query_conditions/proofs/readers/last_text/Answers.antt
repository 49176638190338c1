use Rattle.std.proofs.Common.{ℕ, List, length, Some, sym, ap, ◌∙◌, ◌⊎◌, inl, inr, ◌<◌, ◌==◌}
use Rattle.tk_query_conditions.specs.Cond.{NoPairs, HasPairs}
use Rattle.tk_query_conditions.specs.CondOf.{pairs_from}
use Rattle.tk_query_conditions.specs.steps.Reader.{groups_of}
use Rattle.tk_query_conditions.specs.steps.Reading.{After, last_text}
use Rattle.tk_query_conditions.proofs.ReaderLemmas.{pairs_push, last_none, not_empty}
use Rattle.tk_query_conditions.proofs.readers.last_text.Goals as goal
use Rattle.tk_query_conditions.proofs.readers.last_text.Goals.{else-is_empty-via-then-is_empty+else-is_empty-2, else-is_empty-via-else-is_empty}

pub returns-in_ok-push-in-Some : goal.returns-in_ok-push-in-Some
returns-in_ok-push-in-Some c =
    let stack = groups_of c.args.stack.items in
    ap (λ k. last_text stack (pairs_from NoPairs c.args.pairs) k c.args.text) c.in-Some.is
    ∙ ap (λ ps. Some (After stack (HasPairs ps))) (sym (ap (pairs_from NoPairs) c.in_ok-push-in-Some.ensures.ok ∙ pairs_push NoPairs c.args.pairs c.in-Some.key c.args.text))
    ∙ ap (λ s. Some s) (sym c.after.ensures)

pub returns-else-is_empty : goal.returns-else-is_empty
returns-else-is_empty c =
    let some : (0 < length c.args.pairs) ⊎ (0 < length c.args.text) = elim c.else-is_empty.branch [
      | else-is_empty-via-then-is_empty+else-is_empty-2 w ↦
          inl (not_empty c.args.pairs _ (w.is_empty-then-is_empty.ensures ∙ ap (λ (xs : List (List ℕ × List ℕ)). length xs == 0) w.as_slice.ensures) w.if-is_empty-2.false)
      | else-is_empty-via-else-is_empty w ↦ inr (not_empty c.args.text _ c.is_empty.ensures w.if-is_empty.false)
    ] in
    last_none (groups_of c.args.stack.items) c.args.pairs c.args.key c.args.text c.in-None.is some

use Rattle.std.proofs.Common.{◌≡◌, ◌∙◌, [], length, map, sym, ap, subst, append-nil}
use Rattle.std.specs.Vec.Iter.{into_iter_items}
use Rattle.tk_base.proofs.Lists.{nil_from_length}
use Rattle.tk_queue_session.specs.steps.{pass_of_token}
use Rattle.tk_queue_session.specs.PassViews.{IsReader, pass_of_receiver}
use Rattle.tk_queue_session.specs.SessionRule.{Concludes}
use Rattle.tk_queue_session.proofs.CloseConclusions.{mixes, ends_with_marks, sent_by_tokens}
use Rattle.tk_queue_session.proofs.RuleSteps.{merges_own, learns_own, may_take_in}
use Rattle.tk_queue_session.proofs.receivers.Receiver.join.Goals as goal

pub absorb-requires-clause-rule : goal.absorb-requires-clause-rule
absorb-requires-clause-rule c = merges_own _ _ _ _ (may_take_in _ _ _ _ _ _ _ _ _ c.loop-token.invariant.known c.into_pass.ensures.known)

pub learn_as-requires-clause-rule : goal.learn_as-requires-clause-rule
learn_as-requires-clause-rule c = learns_own _ _ (subst IsReader (sym c.loop-token.invariant.known) tt)

pub returns-clause-marks : goal.returns-clause-marks
returns-clause-marks c =
    let at = c.loop-token in
    let empty : into_iter_items at.token-iterator ≡ [] = nil_from_length _ (sym at.invariant.left ∙ c.in-None.ensures.steps.0) in
    let all : at.yielded ≡ c.args.ended.items = sym (append-nil at.yielded) ∙ rw empty at at.invariant.rest ∙ c.into_iter-token-iterator.ensures.into_iter_gives.0 in
    let rule = c.learn_as.ensures.rule in
    ends_with_marks (length c.args.self.table) c.args.self.workers c.args.self.taken c.args.ended.items rule.0 c.requires.complete.once c.requires.complete.drained
    (subst (λ v. Concludes v rule.0) (at.invariant.known ∙ ap (λ l. pass_of_receiver (length c.args.self.table) c.args.self.workers c.args.self.taken (map pass_of_token l)) all) rule.1)

pub returns-clause-mix : goal.returns-clause-mix
returns-clause-mix c =
    let at = c.loop-token in
    let empty : into_iter_items at.token-iterator ≡ [] = nil_from_length _ (sym at.invariant.left ∙ c.in-None.ensures.steps.0) in
    let all : at.yielded ≡ c.args.ended.items = sym (append-nil at.yielded) ∙ rw empty at at.invariant.rest ∙ c.into_iter-token-iterator.ensures.into_iter_gives.0 in
    let rule = c.learn_as.ensures.rule in
    mixes (length c.args.self.table) c.args.self.workers c.args.self.taken c.args.ended.items rule.0 c.requires.complete.once c.requires.complete.drained
    (subst (λ v. Concludes v rule.0) (at.invariant.known ∙ ap (λ l. pass_of_receiver (length c.args.self.table) c.args.self.workers c.args.self.taken (map pass_of_token l)) all) rule.1)

pub returns-clause-sent : goal.returns-clause-sent
returns-clause-sent c =
    let at = c.loop-token in
    let empty : into_iter_items at.token-iterator ≡ [] =
    nil_from_length _ (sym at.invariant.left ∙ c.in-None.ensures.steps.0) in
    let all : at.yielded ≡ c.args.ended.items =
    sym (append-nil at.yielded) ∙ rw empty at at.invariant.rest
    ∙ c.into_iter-token-iterator.ensures.into_iter_gives.0 in
    sent_by_tokens _ _ _ (length c.args.self.table) c.args.self.workers c.args.self.taken
    (c.learn_as.ensures.queue.1 ∙ at.invariant.known) all

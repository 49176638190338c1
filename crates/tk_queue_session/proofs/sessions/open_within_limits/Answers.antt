use Rattle.std.proofs.Common.{◌≡◌, ◌+◌, [], sym, refl, ap, subst, ◌∙◌, rules}
use Rattle.std.specs.Arc.{arc_value}
use Rattle.atomic_table.specs.Seated.{TableId}
use Rattle.tk_queue_session.specs.PassViews.{IsReader, with_worker}
use Rattle.tk_queue_session.specs.Receivers.{ReceiverView}
use Rattle.tk_queue_session.proofs.SenderSteps.{fresh_more}
use Rattle.tk_queue_session.proofs.RuleSteps.{begins, forks_own}
use Rattle.tk_queue_session.proofs.sessions.open_within_limits.Goals as goal

pub ruled-requires-clause-rule : goal.ruled-requires-clause-rule
ruled-requires-clause-rule c = begins

pub another-next-requires-clause-rule : goal.another-next-requires-clause-rule
another-next-requires-clause-rule c = forks_own _ _ (subst IsReader (sym c.loop-done.invariant.known) tt)

pub loop-done-preserved : goal.loop-done-preserved
loop-done-preserved c =
    let q = c.another-next.ensures.queue in
    let sid : c.another-next.result.table_id ≡ c.another-next.new.pass.table_id = search rules in
    let same_table : arc_value c.in_ok-own_table.own_table ≡ arc_value c.args.table = search rules in
    record {
      same = search rules;
      known = c.another-next.ensures.rule.0 ∙ ap with_worker c.loop-done.invariant.known;
      made = fresh_more _ _ _ _ _ _ _ (sym q.0.0) c.loop-done.invariant.made c.in_ok-push.ensures.items (c.with_pass.ensures ∙ (λ i. record { session = sid i; table = same_table i; worker = c.loop-done.done + 1; sent = [] }));
    }

pub returns-clause-of_capacity : goal.returns-clause-of_capacity
returns-clause-of_capacity c =
    let same : arc_value c.in_ok-shared_queue.shared_queue ≡ c.in_ok-queue.queue = c.in_ok-shared_queue.ensures.ok in
    let below : (arc_value c.in_ok-shared_queue.shared_queue).table.shared.table_id ≡ c.in_ok-queue.queue.table.shared.table_id = rw same refl in
    ap (λ (r : ReceiverView). r.session.slots) c.with_pass-2.ensures ∙ ap (λ (t : TableId). t.slots) (c.loop-done.invariant.same.0 ∙ below) ∙ c.in_ok-queue.queue.sized.1 ∙ c.in_ok-queue.ensures.0

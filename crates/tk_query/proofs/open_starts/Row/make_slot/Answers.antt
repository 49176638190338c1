use Rattle.std.proofs.Common.{None, ap, ◌∙◌, length, length-append, arith}
use Rattle.std.specs.Prelude.{get_or}
use Rattle.tk_query_lifecycle.proofs.ListLemmas.{get_or_more}
use Rattle.tk_query.proofs.open_starts.Row.make_slot.Goals as goal

pub loop-self-preserved : goal.loop-self-preserved
loop-self-preserved c =
    let long = ap length c.in_ok-push.ensures.items in
    let had = c.loop-self.invariant.0 in
    (omega (arith, had, simp length-append at long), λ i. ap (λ l. get_or l i None) c.in_ok-push.ensures.items ∙ get_or_more c.loop-self.self-inside.slots.items None i ∙ c.loop-self.invariant.1 i)

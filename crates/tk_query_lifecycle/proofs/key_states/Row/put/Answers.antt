use Rattle.std.proofs.Common.{rules, ap, ◌∙◌, arith, set}
use Rattle.tk_query_lifecycle.proofs.RowLemmas.{padded_push, padded_set}
use Rattle.tk_query_lifecycle.proofs.key_states.Row.put.Goals as goal

pub loop-self-preserved : goal.loop-self-preserved
loop-self-preserved c = (
  search rules,
  padded_push 65536 c.loop-self.self-inside.items.items c.push.new.self.items c.idle.result c.in_ok-push.ensures.items c.idle.ensures ∙ c.loop-self.invariant.1,
)

pub returns : goal.returns
returns c =
    padded_set 65536 c.loop-self.self-inside.items.items c.args.index c.args.state (omega arith)
    ∙ ap (λ l. set l c.args.index c.args.state) c.loop-self.invariant.1

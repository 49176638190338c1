use Rattle.std.proofs.Common.{option_map, sym, ap, ◌∙◌}
use Rattle.tk_plan_nodes.proofs.BodyCalls.{none_found}
use Rattle.tk_plan_nodes.proofs.body_calls.first_id.Goals as goal

pub returns-in-None-clause-none : goal.returns-in-None-clause-none
returns-in-None-clause-none c = λ none. none_found c.args.call c.args.nodes.now (sym c.first.ensures ∙ ap (option_map (λ n. n.now)) c.in-None.is)

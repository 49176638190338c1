use Rattle.std.proofs.Common.{ap, ◌∙◌}
use Rattle.tk_query_lifecycle.specs.steps.KeyStates.{by_key}
use Rattle.tk_query_lifecycle.proofs.RowLemmas.{none_by_key}
use Rattle.tk_query_lifecycle.proofs.key_states.KeyStates.new.Goals as goal

pub returns : goal.returns
returns c = ap by_key c.new.ensures.items ∙ none_by_key

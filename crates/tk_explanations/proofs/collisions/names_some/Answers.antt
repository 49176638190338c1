use Rattle.std.proofs.Common.{sym, ap, ◌∙◌}
use Rattle.std.specs.Prelude.{not}
use Rattle.tk_query_conditions.specs.CondOf.{cond_of}
use Rattle.tk_query_conditions.specs.declared.conditions.Condition.{Condition}
use Rattle.tk_explanations.specs.Collisions.{names_some}
use Rattle.tk_explanations.proofs.Readers.{any_names}
use Rattle.tk_explanations.proofs.collisions.names_some.Goals as goal

pub returns-in-Any : goal.returns-in-Any
returns-in-Any c =
    ap not c.is_empty.ensures ∙ any_names c.in-Any.members
    ∙ ap (λ (r : Condition). names_some (cond_of r)) (sym c.in-Any.is)

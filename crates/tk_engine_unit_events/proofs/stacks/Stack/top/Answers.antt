use Rattle.std.proofs.Common.{◌∙◌, ap, reverse}
use Rattle.tk_engine_unit_events.specs.Stacks.{StackView}
use Rattle.tk_engine_unit_events.proofs.Reversed.{last_on_top}
use Rattle.tk_engine_unit_events.proofs.stacks.Stack.top.Goals as goal

pub returns-clause-some : goal.returns-clause-some
returns-clause-some g c =
    last_on_top c.as_slice.result.now _ c.last.result c.last.ensures.value
    (ap reverse c.as_slice.ensures.value ∙ ap (λ (s : StackView _). s.elements) c.self.view_is)

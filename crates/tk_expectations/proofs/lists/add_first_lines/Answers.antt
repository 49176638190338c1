use Rattle.std.proofs.Common.{◌++◌, string_bytes, sym, ap, ◌∙◌}
use Rattle.std.specs.List.{flat_map}
use Rattle.std.proofs.lemmas.Iterator.{YieldsList-from_take}
use Rattle.std.proofs.lemmas.Iterator.Consumers.{YieldsList-end}
use Rattle.std.proofs.lemmas.Iterator.Splits.{YieldsList-from_lines}
use Rattle.std.proofs.lemmas.List.Folds.{flat_map-map}
use Rattle.tk_expectations.specs.Lists.{indented}
use Rattle.tk_expectations.proofs.lists.add_first_lines.Goals as goal

pub returns : goal.returns
returns c =
    let lines = YieldsList-from_lines c.args.lines.now cc in
    let end = YieldsList-end (YieldsList-from_take 20 lines cc)
    c.loop-line.yielded _ c.loop-line.yielded_by _ _ c.in-None.is c.next.ensures.steps in
    c.loop-line.invariant
    ∙ ap (λ l. string_bytes c.args.text.now ++ l)
    (sym (flat_map-map indented (λ line. line.now) c.loop-line.yielded)
    ∙ ap (flat_map indented) end.0)

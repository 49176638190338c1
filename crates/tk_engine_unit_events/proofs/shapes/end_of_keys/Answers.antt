use Rattle.std.proofs.Common.{◌+◌, ◌-◌, ◌^◌, ◌∷◌, min, sym, ap, ◌∙◌}
use Rattle.std.proofs.lemmas.List.{take_all}
use Rattle.tk_run_laws.specs.Spines.{count_static}
use Rattle.tk_engine_unit_events.proofs.UnitsOfKeys.{end_is, ends_more}
use Rattle.tk_engine_unit_events.proofs.shapes.end_of_keys.Goals as goal

pub loop-numbered_node-preserved : goal.loop-numbered_node-preserved
loop-numbered_node-preserved c =
    ends_more c.args.tree.top.now.number c.args.tree.top.now c.args.tree.below.now
    c.loop-numbered_node.numbered_node-index c.numbered_node-item.result
    c.loop-numbered_node.end c.key_after-end-in-loop-numbered_node.result
    c.loop-numbered_node-test.true c.numbered_node-item.is c.loop-numbered_node.invariant
    c.key_after-end-in-loop-numbered_node.ensures

pub returns : goal.returns
returns c =
    let top = c.args.tree.top.now in
    let below = c.args.tree.below.now in
    c.loop-numbered_node.invariant
    ∙ ap (λ l. min (top.number + count_static (top ∷ l)) (2 ^ 32 - 1))
    (take_all c.loop-numbered_node.numbered_node-index below c.loop-numbered_node-test.false)
    ∙ ap (λ n. min n (2 ^ 32 - 1)) (sym (end_is top below c.requires))

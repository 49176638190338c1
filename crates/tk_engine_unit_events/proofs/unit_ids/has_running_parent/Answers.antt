use Rattle.std.proofs.Common.{arith, inr}
use Rattle.std.proofs.lemmas.Bool.{eqb-true}
use Rattle.tk_engine_unit_events.proofs.UnitStates.{innermost_among, innermost_parent, none_innermost}
use Rattle.tk_engine_unit_events.proofs.UnitStates.{parent_above}
use Rattle.tk_engine_unit_events.proofs.unit_ids.has_running_parent.Goals as goal

pub returns-then-key-eq0-clause-among : goal.returns-then-key-eq0-clause-among
returns-then-key-eq0-clause-among c = λ is more. absurd
    (omega (arith, c.starts_root.ensures.root is, more))

pub returns-then-key-eq0-clause-innermost : goal.returns-then-key-eq0-clause-innermost
returns-then-key-eq0-clause-innermost c =
    λ is. none_innermost c.args.shape.now c.args.running.now.elements c.args.id.now
    (c.starts_root.ensures.rests is)

pub returns-in-Some-top-clause-among : goal.returns-in-Some-top-clause-among
returns-in-Some-top-clause-among c = λ same.
    let s = c.args.shape.now in
    let above = c.in-Some.parent in
    let first = c.in-Some-top.ensures.some in
    let k = c.in-Some-top.innermost.now in
    let p = parent_above s.plan.table c.args.key above c.args.id.now c.requires
    (c.in-Some.ensures (omega arith)) in
    innermost_among s c.args.running.now.elements first.0 k above c.args.id.now first.1
    (eqb-true k.key above same) p

pub returns-in-Some-top-clause-innermost : goal.returns-in-Some-top-clause-innermost
returns-in-Some-top-clause-innermost c = λ same.
    let s = c.args.shape.now in
    let above = c.in-Some.parent in
    let first = c.in-Some-top.ensures.some in
    let k = c.in-Some-top.innermost.now in
    let p = parent_above s.plan.table c.args.key above c.args.id.now c.requires
    (c.in-Some.ensures (omega arith)) in
    innermost_parent s c.args.running.now.elements first.0 k above c.args.id.now first.1
    (eqb-true k.key above same) p

pub returns-in-None-clause-among : goal.returns-in-None-clause-among
returns-in-None-clause-among c = λ runs more.
    let s = c.args.shape.now in
    let above = c.in-Some.parent in
    let p = parent_above s.plan.table c.args.key above c.args.id.now c.requires
    (c.in-Some.ensures (omega arith)) in
    (above, p.1, inr (c.runs_before.ensures runs))

pub returns-in-None-clause-innermost : goal.returns-in-None-clause-innermost
returns-in-None-clause-innermost c =
    λ _. none_innermost c.args.shape.now c.args.running.now.elements c.args.id.now
    c.in-None.ensures.none

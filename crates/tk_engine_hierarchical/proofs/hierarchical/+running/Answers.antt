use Rattle.std.proofs.Common.{◌-◌, length, arith}
use Rattle.tk_engine_hierarchical.specs.steps.{MayStepAs}
use Rattle.tk_engine_hierarchical.proofs.Stepped.{others_few, split_others}
use Rattle.tk_engine_hierarchical.proofs.TreeRuns.{first_ran, may_finish, nothing_ran, ran_node}
use Rattle.tk_engine_hierarchical.proofs.hierarchical.+running.Goals as goal

pub run_all-loop-rest-preserved : goal.run_all-loop-rest-preserved
run_all-loop-rest-preserved g t c =
    let s = c.split.ensures in
    let i = c.loop-rest.invariant in (
      s.second,
      others_few c.numbered_node-item.result _ 1 c.loop-rest.rest.now _ _ _ s i.1,
      split_others (MayStepAs g.K.UnitRun.unit.frame.table
          (g.T.Tests.may_end c.args.tests.now) g.K.UnitRun.unit.may_step)
          c.numbered_node-item.result _ 1 c.loop-rest.rest.now _ _ s i.2,
      λ new h. i.3 new (first_ran g.K.UnitRun.unit.frame.table
          (g.T.Tests.may_run c.args.tests.now) c.numbered_node-item.result
          (length c.loop-rest.rest.now - 1) c.loop-rest.rest.now _ _ _ _ new c.numbered_node-item.is
          c.in-len1-up.len_at_least (omega arith) s c.in_ok-run_tree.ensures h),
    )

pub run_all-returns : goal.run_all-returns
run_all-returns g t c =
    c.loop-rest.invariant.3 c.loop-rest.unit
    (nothing_ran g.K.UnitRun.unit.frame.table
    (g.T.Tests.may_run c.args.tests.now) c.loop-rest.rest.now c.loop-rest.unit
    c.in_default.len_below)

pub run_started-finish-requires-clause-other : goal.run_started-finish-requires-clause-other
run_started-finish-requires-clause-other g t c =
    may_finish g.K.UnitRun.unit.frame.table
    (g.T.Tests.may_end c.args.tests.now) g.K.UnitRun.unit.may_step c.args.numbered_node.now
    c.in_ok-key.key c.in_ok-ended.ended c.requires.may c.requires.runs
    c.in_ok-key.ensures.number c.in_ok-ended.ensures.other

pub run_started-returns : goal.run_started-returns
run_started-returns g t c =
    ran_node c.finish.result g.K.UnitRun.unit.frame.table
    (g.T.Tests.may_run c.args.tests.now) c.args.numbered_node.now.node
    c.args.numbered_node.now.number c.in_ok-key.key _ _
    c.start.new.self c.run_body.new.self.unit c.in_ok-ended.ended
    c.run_body.new.self c.publish.new.self c.run_all.new.unit _
    c.in_ok-key.ensures.start c.in_ok-ended.ensures.body c.run_body.ensures.next
    c.in_ok-publish.ensures c.in_ok-run_all.ensures c.finish.ensures

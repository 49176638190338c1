use Rattle.std.proofs.Common.{ap, ◌∙◌}
use Rattle.std.proofs.lemmas.Result.{IfOk-weaker}
use Rattle.tk_record.specs.Selections.{events_of}
use Rattle.testkit_headline.proofs.Records.{filters}
use Rattle.testkit_headline.proofs.laws.pick_events.Goals as goal

pub returns : goal.returns
returns c =
    IfOk-weaker c.pick.result _ _
    (λ picked is. ap events_of is ∙ filters c.args.events.now c.args.selection) c.pick.ensures

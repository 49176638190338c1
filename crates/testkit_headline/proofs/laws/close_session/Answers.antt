use Rattle.std.proofs.lemmas.Result.{IfOk-weaker}
use Rattle.tk_queue_session.specs.Closing.{IsComplete}
use Rattle.testkit_headline.proofs.Sessions.{ends_with_marks}
use Rattle.testkit_headline.proofs.laws.close_session.Goals as goal

pub returns-clause-completes : goal.returns-clause-completes
returns-clause-completes c =
    IfOk-weaker c.close.result _ _
    (λ _ (complete : IsComplete c.args.receiver c.args.ended.items). complete.drained)
    c.close.ensures.complete

pub returns-clause-marks : goal.returns-clause-marks
returns-clause-marks c =
    IfOk-weaker c.close.result _ _
    (λ _ ends. ends_with_marks c.args.receiver c.args.ended.items ends) c.close.ensures.marks

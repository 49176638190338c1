use Rattle.std.proofs.Common.{subst, sym, ap, Err}
use Rattle.std.specs.Prelude.{map, string_bytes}
use Rattle.testkit_command_line.specs.declared.jobs.Job.{Job}
use Rattle.testkit_program.specs.declared.faults.Fault.TheVariants as faults
use Rattle.testkit_program.specs.Jobs.{IsAskFault, IsDone, IsPartlyReplayed, IsRefused, devices, transfer}
use Rattle.testkit_program.proofs.Replays.{partly_replayed, replay_broken, replay_fault, replay_untouched}
use Rattle.testkit_program.proofs.jobs.do_job.Goals as goal

pub returns-in-Ok-clause-done : goal.returns-in-Ok-clause-done
returns-in-Ok-clause-done g c =
    let old = g.T.Target.contents c.args.target.now in
    let new = g.T.Target.contents c.ask.new.target in
    subst (λ (j : Job). IsDone j (transfer (g.S.Source.remaining c.args.source.now) old new) c.in-Ok.is_yes) (sym c.in-Ask.is) c.in-Ok.ensures.answer

pub returns-in-Err-clause-refused : goal.returns-in-Err-clause-refused
returns-in-Err-clause-refused g c =
    let input = g.S.Source.remaining c.args.source.now in
    let old = g.T.Target.contents c.args.target.now in
    let new = g.T.Target.contents c.ask.new.target in
    let stated : IsAskFault (map string_bytes c.in-Ask.question.now) (transfer input old new) c.in-Err.fault = (c.in-Err.ensures.refusal, λ is. c.in-Err.ensures.prefix (ap Err is)) in
    subst (λ (j : Job). IsRefused j (transfer input old new) (faults.Ask c.in-Err.fault)) (sym c.in-Ask.is) stated

pub returns-in-Err-replay_text-clause-refused : goal.returns-in-Err-replay_text-clause-refused
returns-in-Err-replay_text-clause-refused g c =
    let input = g.S.Source.remaining c.args.source.now in
    let old = g.T.Target.contents c.args.target.now in
    let new = g.T.Target.contents c.replay_text.new.target in
    let fault = c.in-Err-replay_text.fault in
    let partly : IsPartlyReplayed (transfer input old new) = partly_replayed g.T.Target.contents input c.args.target.now c.replay_text.new.target c.in-Err-replay_text.ensures.prefix in
    subst (λ (j : Job). IsRefused j (transfer input old new) (faults.Replay fault)) (sym c.in-Replay.is) (replay_fault (transfer input old new) fault c.in-Err-replay_text.ensures.answer partly)

pub returns-in-Err-replay_text-clause-device : goal.returns-in-Err-replay_text-clause-device
returns-in-Err-replay_text-clause-device g c =
    replay_broken (devices (g.S.Source.broken c.replay_text.new.source) (g.T.Target.broken c.replay_text.new.target))
    (transfer (g.S.Source.remaining c.args.source.now) (g.T.Target.contents c.args.target.now) (g.T.Target.contents c.replay_text.new.target))
    c.in-Err-replay_text.fault c.in-Err-replay_text.ensures.device c.in-Err-replay_text.ensures.last

pub returns-in-Err-replay_text-clause-unwritten : goal.returns-in-Err-replay_text-clause-unwritten
returns-in-Err-replay_text-clause-unwritten g c = replay_untouched c.in-Err-replay_text.fault _ c.in-Err-replay_text.ensures.nothing

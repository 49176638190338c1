use Rattle.std.proofs.Common.{map}
use Rattle.std.specs.Prelude.{string_bytes}
use Rattle.testkit_command_line.proofs.Commands.{asked_or_refused}
use Rattle.testkit_command_line.proofs.parsing.other_job.Goals as goal

pub returns : goal.returns
returns c =
    let words = map string_bytes c.args.words.now in
    record { job = asked_or_refused words c.matches_of-matches.result c.job_of_matches.result c.matches_of-matches.ensures.matches c.matches_of-matches.ensures.kinds c.job_of_matches.ensures.refused c.job_of_matches.ensures.found }

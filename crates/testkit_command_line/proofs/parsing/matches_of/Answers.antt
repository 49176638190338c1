use Rattle.std.proofs.Common.{map}
use Rattle.std.specs.Prelude.{string_bytes}
use Rattle.clap.specs.Words.{app_of}
use Rattle.testkit_command_line.proofs.Commands.{fails_by}
use Rattle.testkit_command_line.proofs.parsing.matches_of.Goals as goal

pub returns-clause-kinds : goal.returns-clause-kinds
returns-clause-kinds c =
    fails_by (map string_bytes c.args.words.now) (app_of c.in_ok-command.field-0) c.in_ok-command.ensures.app c.try_get_matches_from.result c.try_get_matches_from.ensures.kinds

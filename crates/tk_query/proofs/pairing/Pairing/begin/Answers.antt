use Rattle.std.proofs.Common.{refl}
use Rattle.tk_query.proofs.Paired.{all_to_come}
use Rattle.tk_query.proofs.pairing.Pairing.begin.Goals as goal

pub returns-clause-all : goal.returns-clause-all
returns-clause-all c =
    all_to_come c.args.events.now c.flags-flags.result.now (record { kept = c.flags-flags.ensures.kept }) c.flags-flags.ensures.size
    (record { starts = c.in_ok-for_record.field-0; next = 0 }) c.in_ok-for_record.ensures.none refl

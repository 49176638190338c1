use Rattle.std.proofs.Common.{◌≡◌, Err, ap}
use Rattle.tk_engine_execute.specs.declared.run_faults.RunFault.{RunFault}
use Rattle.tk_engine_execute.specs.declared.run_faults.RunFault.TheVariants.{Engine}
use Rattle.tk_engine_execute.proofs.runs.many.execute_many.Goals as goal

pub returns-in-Err-clause-unit : goal.returns-in-Err-clause-unit
returns-in-Err-clause-unit g c = λ unit why is.
    let same : c.in-Err.fault ≡ Engine unit why = cc in
    c.in-Err.ensures.unit unit why (ap (λ (f : RunFault). Err f) same)

-- The text of each fault.
use Rattle.std.specs.Prelude.{ℕ, List, codes}
use Rattle.tk_plan_reading.specs.FaultTexts.{plan_fault_text}
use Rattle.tk_engine_execute.specs.FaultTexts.{run_fault_text}
use Rattle.tk_plan_runs.specs.declared.faults.ReportFault.{ReportFault}
use Rattle.tk_plan_runs.specs.declared.faults.ReportFault.TheVariants.{Plan, Run, Device, Memory}

abbrev pub report_fault_text : ReportFault → List ℕ
report_fault_text (Plan fault) = plan_fault_text fault
report_fault_text (Run fault) = run_fault_text fault
report_fault_text Device = codes "device failed"
report_fault_text Memory = codes "out of memory"

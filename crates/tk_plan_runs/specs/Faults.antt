-- The fault of a report that comes of a fault of the plan or of its run.
use Rattle.tk_plan_json.specs.declared.faults.PlanFault.{PlanFault}
use Rattle.tk_plan_json.specs.declared.faults.PlanFault.TheVariants as plans
use Rattle.tk_engine_execute.specs.declared.run_faults.RunFault.{RunFault}
use Rattle.tk_engine_execute.specs.declared.run_faults.RunFault.TheVariants as runs
use Rattle.tk_plan_runs.specs.declared.faults.ReportFault.{ReportFault}
use Rattle.tk_plan_runs.specs.declared.faults.ReportFault.TheVariants.{Plan, Run, Memory}

-- a plan's fault, but memory that was refused is the report's own fault
abbrev pub fault_of_plan : PlanFault → ReportFault
fault_of_plan plans.Memory = Memory
fault_of_plan fault = Plan fault

-- a run's fault, with the unit that failed and its cause, but memory that was refused is the
-- report's own fault
abbrev pub fault_of_run : RunFault → ReportFault
fault_of_run runs.Memory = Memory
fault_of_run fault = Run fault

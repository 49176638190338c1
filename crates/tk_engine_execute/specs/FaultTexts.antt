-- The texts of the faults.
use Rattle.std.specs.Prelude.{ℕ, List, ◌++◌, codes, if◌then◌else◌, nat_eq}
use Rattle.std.specs.Fmt.{decimal}
use Rattle.tk_queue_session.specs.FaultTexts.{register_fault_text, send_fault_text}
use Rattle.tk_engine_execute.specs.declared.sinks.SinkFault.{SinkFault}
use Rattle.tk_engine_execute.specs.declared.sinks.SinkFault.TheVariants as sinks
use Rattle.tk_engine_execute.specs.declared.engines.TheConstants.{OUT_OF_ORDER, TWICE}
use Rattle.tk_engine_execute.specs.declared.engines.UnitFault.{UnitFault}
use Rattle.tk_engine_execute.specs.declared.engines.UnitFault.TheVariants as units
use Rattle.tk_engine_execute.specs.declared.run_faults.RunFault.{RunFault}
use Rattle.tk_engine_execute.specs.declared.run_faults.RunFault.TheVariants as runs

abbrev pub sink_fault_text : SinkFault → List ℕ
sink_fault_text (sinks.Send fault) = send_fault_text fault
sink_fault_text (sinks.Register fault) = register_fault_text fault

-- what a unit's fault of this number says: two numbers have a meaning
abbrev pub own_fault_text : ℕ → List ℕ
own_fault_text number =
    if nat_eq number OUT_OF_ORDER then codes "it breaks the order of its tests"
    else (if nat_eq number TWICE then codes "it registers a dynamic id twice"
    else codes "engine fault " ++ decimal number)

abbrev pub unit_fault_text : UnitFault → List ℕ
unit_fault_text (units.Sink fault) = sink_fault_text fault
unit_fault_text units.Memory = codes "out of memory"
unit_fault_text (units.Own number) = own_fault_text number
unit_fault_text (units.Text text) = text.now

abbrev pub run_fault_text : RunFault → List ℕ
run_fault_text runs.Workers = codes "workers must be 1 to 15"
run_fault_text runs.Capacity = codes "capacity must be 1 to 1024"
run_fault_text (runs.Engine unit why) =
    codes "unit " ++ decimal unit ++ codes " failed: " ++ unit_fault_text why
run_fault_text runs.Memory = codes "out of memory"
run_fault_text runs.Threads = codes "no thread"

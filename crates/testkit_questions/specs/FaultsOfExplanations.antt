-- What a fault of an explanation is of asking for it.
use Rattle.tk_explanations.specs.declared.faults.ExplainFault.{ExplainFault}
use Rattle.tk_explanations.specs.declared.faults.ExplainFault.TheVariants.{Device, Memory}
use Rattle.testkit_questions.specs.declared.faults.AskFault.{AskFault}
use Rattle.testkit_questions.specs.declared.faults.AskFault.TheVariants as faults

abbrev pub ask_fault_of : ExplainFault → AskFault
ask_fault_of Device = faults.Device
ask_fault_of Memory = faults.Memory

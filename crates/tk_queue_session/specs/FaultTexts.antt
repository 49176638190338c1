-- The texts of the faults.
use Rattle.std.specs.Prelude.{ℕ, List, ◌++◌, codes}
use Rattle.std.specs.Fmt.{decimal}
use Rattle.tk_ids.specs.FaultTexts.{id_fault_text}
use Rattle.tk_queue_session.specs.declared.close_faults.CloseReason.{CloseReason}
use Rattle.tk_queue_session.specs.declared.close_faults.CloseReason.TheVariants as closes
use Rattle.tk_queue_session.specs.declared.cores.CoreFault.{CoreFault}
use Rattle.tk_queue_session.specs.declared.cores.CoreFault.TheVariants as cores
use Rattle.tk_queue_session.specs.declared.sender_faults.SendFault.{SendFault}
use Rattle.tk_queue_session.specs.declared.sender_faults.SendFault.TheVariants as sends
use Rattle.tk_queue_session.specs.declared.sender_faults.RegisterFault.{RegisterFault}
use Rattle.tk_queue_session.specs.declared.sender_faults.RegisterFault.TheVariants as registers
use Rattle.tk_queue_session.specs.declared.sessions.OpenFault.{OpenFault}
use Rattle.tk_queue_session.specs.declared.sessions.OpenFault.TheVariants as opens

abbrev pub core_fault_text : CoreFault → List ℕ
core_fault_text cores.Worker = codes "no such worker"
core_fault_text cores.AfterEnd = codes "worker has ended"
core_fault_text cores.Memory = codes "out of memory"

abbrev pub send_fault_text : SendFault → List ℕ
send_fault_text (sends.UnknownNode event) = codes "unknown key " ++ decimal event.key
send_fault_text (sends.Unlawful event) = codes "event is unlawful"
send_fault_text (sends.Limit event) = codes "event is one too many"
send_fault_text (sends.Full event) = codes "queue is full"

abbrev pub register_fault_text : RegisterFault → List ℕ
register_fault_text registers.UnknownNode = codes "parent has an unknown key"
register_fault_text registers.Limit = codes "registration is one too many"
register_fault_text (registers.Id fault) = id_fault_text fault
register_fault_text registers.Memory = codes "out of memory"

abbrev pub open_fault_text : OpenFault → List ℕ
open_fault_text opens.Workers = codes "workers must be 1 to 15"
open_fault_text opens.Capacity = codes "capacity must be 1 to 1024"
open_fault_text opens.Memory = codes "out of memory"

abbrev pub close_reason_text : CloseReason → List ℕ
close_reason_text (closes.Missing worker) =
    codes "worker " ++ decimal worker ++ codes " has no token"
close_reason_text (closes.Twice worker) =
    codes "worker " ++ decimal worker ++ codes " has more than one token"
close_reason_text (closes.NotDrained worker) =
    codes "worker " ++ decimal worker ++ codes " has an end mark that was not taken"

-- The texts of the faults.
use Rattle.std.specs.Prelude.{ℕ, List, ◌++◌, codes}
use Rattle.std.specs.Fmt.{decimal}
use Rattle.tk_record.specs.FaultTexts.{append_fault_text}
use Rattle.tk_queue_replay.specs.declared.replays.ReplayFault.{ReplayFault}
use Rattle.tk_queue_replay.specs.declared.replays.ReplayFault.TheVariants as replays

abbrev pub replay_fault_text : ReplayFault → List ℕ
replay_fault_text replays.NoHeader = codes "no header"
replay_fault_text (replays.BadLine line) = codes "line " ++ decimal line ++ codes " is bad"
replay_fault_text (replays.AfterEnd step) =
    codes "step " ++ decimal step ++ codes " comes after the end mark"
replay_fault_text (replays.Append step fault) =
    codes "step " ++ decimal step ++ codes " " ++ append_fault_text fault
replay_fault_text replays.TooLarge = codes "input too large"
replay_fault_text replays.Device = codes "device failed"
replay_fault_text replays.Memory = codes "out of memory"

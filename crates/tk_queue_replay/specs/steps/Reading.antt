-- What each step of reading a replay text finds, or why it finds nothing.
use Rattle.std.specs.Prelude.{◌≡◌, ◌≢◌, ◌+◌, ◌⊎◌, ℕ, List, [], ◌++◌, length, codes}
use Rattle.tk_ids.specs.declared.descriptors.Descriptor.{Descriptor}
use Rattle.tk_events.specs.declared.events.Entry.{Entry}
use Rattle.tk_record.specs.Lines.{with_line_feed}
use Rattle.tk_record_text.specs.Text.{nodes_text, entries_text}
use Rattle.tk_record_text.specs.NodeLines.{LacksNodeLine}
use Rattle.tk_queue_replay.specs.declared.turns.Turn.{Turn}
use Rattle.tk_queue_replay.specs.declared.replays.ReplayFault.{ReplayFault}
use Rattle.tk_queue_replay.specs.declared.replays.ReplayFault.TheVariants as faults
use Rattle.tk_queue_replay.specs.Script.{AreTurns, turns_line}
use Rattle.tk_queue_replay.specs.ReplayText.{TextHead, AreListed, AreOwn, IsBadAfter, NoCount}

-- no line of an entry stands at the start
abbrev pub LacksEntryStart : List ℕ → Type 0
LacksEntryStart rest = (more : List ℕ) → rest ≢ codes "E|" ++ more

-- the input begins with the lines of these entries, and no further such line
pub record IsEntriesPrefix (head : TextHead) (input : List ℕ) (entries : List Entry)
    (rest : List ℕ) : Type 0 where
  pub prefix : input ≡ entries_text entries ++ rest
  pub own : AreOwn head entries
  pub no_node : entries ≡ [] → LacksNodeLine rest
  pub no_entry : LacksEntryStart rest

-- the fault of the line with the number of workers
abbrev pub IsCountFault : List ℕ → ReplayFault → Type 0
IsCountFault input (faults.BadLine k) = (k ≡ 2) × NoCount input
IsCountFault input _ = ⊥

-- the fault of a line after the number of workers
abbrev pub IsListFault : TextHead → List ℕ → ReplayFault → Type 0
IsListFault head input (faults.BadLine k) = IsBadAfter head input k
IsListFault head input faults.Memory = Unit {0}
IsListFault head input _ = ⊥

-- the fault of a line after those of `nodes` descriptors
abbrev pub IsFaultAfter : TextHead → ℕ → List ℕ → ReplayFault → Type 0
IsFaultAfter head nodes input fault =
    (table : List Descriptor) → AreListed table → length table ≡ nodes
    → IsListFault head (nodes_text table ++ input) fault

-- the input is the lines of these entries, and then the line of these turns
pub record IsRest (head : TextHead) (input : List ℕ) (entries : List Entry) (turns : List Turn)
    : Type 0 where
  pub last : List ℕ
  pub own : IsEntriesPrefix head input entries last
  pub ends : AreTurns head.workers turns × (last ≡ with_line_feed (turns_line turns))

-- no line of turns stands at the start
abbrev pub NoTurns : ℕ → List ℕ → Type 0
NoTurns n rest =
    (turns : List Turn) (more : List ℕ) → AreTurns n turns
    → rest ≢ with_line_feed (turns_line turns) ++ more

-- the line of the turns is followed by something
abbrev pub IsFollowed : ℕ → List ℕ → Type 0
IsFollowed n input =
    (turns : List Turn) × (rest : List ℕ) × AreTurns n turns
    × (input ≡ with_line_feed (turns_line turns) ++ rest) × (rest ≢ [])

-- the fault of the line of the turns, which has this number
abbrev pub IsEndFault : ℕ → ℕ → List ℕ → ReplayFault → Type 0
IsEndFault n number input (faults.BadLine k) =
    ((k ≡ number) × NoTurns n input) ⊎ ((k ≡ number + 1) × IsFollowed n input)
IsEndFault n number input faults.Memory = Unit {0}
IsEndFault n number input _ = ⊥

-- The text of a replay, and what playing an input answers.
use Rattle.std.specs.Prelude.{◌≡◌, ◌≢◌, ◌≤◌, ◌<◌, ◌+◌, ◌⊎◌, ℕ, zero, suc, List, [], ◌∷◌, ◌++◌}
use Rattle.std.specs.Prelude.{length, codes, Option, Some, Result, Ok, Err, false}
use Rattle.std.specs.List.{AllByRecursion}
use Rattle.std.specs.Io.KnownBytes.{Appends}
use Rattle.tk_ids.specs.declared.descriptors.Descriptor.{Descriptor}
use Rattle.tk_ids.specs.Table.{TakesNext}
use Rattle.tk_events.specs.declared.events.Event.{Event}
use Rattle.tk_events.specs.declared.events.Entry.{Entry}
use Rattle.tk_record.specs.Recorded.{Recorded}
use Rattle.tk_record.specs.Mixing.{IsWorkerOf, of_worker}
use Rattle.tk_record_text.specs.declared.reading.TheConstants.{MAX_TEXT}
use Rattle.tk_record_text.specs.declared.versions.Version.{Version}
use Rattle.tk_record_text.specs.Versions.{HasLineIn, has_locks, header_of}
use Rattle.tk_record_text.specs.NodeLines.{DeclareNoLock}
use Rattle.tk_record.specs.Lines.{entry_line, with_line_feed}
use Rattle.tk_record_text.specs.Spelling.{node_line, IsDescriptor}
use Rattle.tk_record_text.specs.Text.{nodes_text, entries_text, AreNodes, text}
use Rattle.tk_record_text.specs.declared.reading.node_lines.NodesFault.{NodesFault}
use Rattle.tk_record_text.specs.declared.reading.node_lines.NodesFault.TheVariants as listing
use Rattle.tk_record_text.specs.declared.writing.WriteFault.{WriteFault}
use Rattle.tk_record_text.specs.declared.writing.WriteFault.TheVariants as writing
use Rattle.tk_streams.specs.Stream.{AppendsPrefix}
use Rattle.tk_streams.specs.declared.transfers.LoadFault.{LoadFault}
use Rattle.tk_streams.specs.declared.transfers.LoadFault.TheVariants as loading
use Rattle.tk_queue_replay.specs.declared.turns.Turn.{Turn}
use Rattle.tk_queue_replay.specs.declared.replays.ReplayFault.{ReplayFault}
use Rattle.tk_queue_replay.specs.declared.replays.ReplayFault.TheVariants as faults
use Rattle.tk_queue_replay.specs.Script.{IsCount, workers_line, AreTurns, turns_line}
use Rattle.tk_queue_replay.specs.Replay.{Moment, Faulty, Refuses, plays, start, ReplayInput}
use Rattle.tk_queue_replay.specs.Replay.{StopsAt}

-- what a replay text says
pub record Scenario : Type 0 where
  pub version : Version
  pub workers : ℕ
  pub table : List Descriptor
  pub entries : List Entry
  pub turns : List Turn

-- a version of replay texts: one without locks
abbrev pub IsReplayVersion : Version → Type 0
IsReplayVersion version = has_locks version ≡ false

-- each of the descriptors has a line, may stand after those before it, and declares no lock
abbrev pub AreListed : List Descriptor → Type 0
AreListed table = AreNodes [] table × DeclareNoLock table

-- the header line of a version
unfoldable pub header : Version → List ℕ
header version = header_of (codes "testkit-replay|") version

-- the header, the number of workers, the static descriptors, the entries, and the turns, each line
-- with its line feed
abbrev pub replay_text : Scenario → List ℕ
replay_text p =
    header p.version
    ++ (with_line_feed (workers_line p.workers)
    ++ (nodes_text p.table
    ++ (entries_text p.entries
    ++ with_line_feed (turns_line p.turns))))

-- what the first two lines of a replay text say: its version and the number of workers
pub record TextHead : Type 0 where
  pub version : Version
  pub workers : ℕ

abbrev pub text_head : Version → ℕ → TextHead
text_head version workers = record { version = version; workers = workers }

-- the entry has a line in the version, and is of one of the workers
abbrev pub IsOwn : TextHead → Entry → Type 0
IsOwn head e = HasLineIn head.version e × IsWorkerOf head.workers e.worker

abbrev pub AreOwn : TextHead → List Entry → Type 0
AreOwn head entries = AllByRecursion (λ e. IsOwn head e) entries

-- the scenario has a text: each part has its lines
pub record HasReplayText (p : Scenario) : Type 0 where
  pub version : IsReplayVersion p.version
  pub count : IsCount p.workers
  pub nodes : AreListed p.table
  pub own : AreOwn (text_head p.version p.workers) p.entries
  pub turns : AreTurns p.workers p.turns

-- the scripts of the workers 1 to n: each worker's is its entries in order
abbrev pub scripts_by : List Entry → ℕ → List (List Event)
scripts_by entries zero = []
scripts_by entries (suc n) = scripts_by entries n ++ of_worker (suc n) entries ∷ []

-- ---- a line that may not stand where it stands

-- no line of a number of workers stands at the start
abbrev pub NoCount : List ℕ → Type 0
NoCount rest = (n : ℕ) (more : List ℕ) → IsCount n → rest ≢ with_line_feed (workers_line n) ++ more

-- no line that may follow these descriptors and entries stands at the start
pub record NoLineOf (head : TextHead) (table : List Descriptor) (entries : List Entry)
    (rest : List ℕ) : Type 0 where
  pub node :
      (d : Descriptor) (more : List ℕ) → entries ≡ [] → IsDescriptor d → TakesNext table d
      → rest ≢ with_line_feed (node_line d) ++ more
  pub entry :
      (e : Entry) (more : List ℕ) → IsOwn head e
      → rest ≢ with_line_feed (entry_line e) ++ more
  pub turns :
      (turns : List Turn) (more : List ℕ) → AreTurns head.workers turns
      → rest ≢ with_line_feed (turns_line turns) ++ more

-- after the number of workers, line k is none that may follow the descriptors and entries before
-- it, or is missing
pub record IsBadLine (head : TextHead) (input : List ℕ) (k : ℕ) : Type 0 where
  pub table : List Descriptor
  pub entries : List Entry
  pub rest : List ℕ
  pub prefix : input ≡ nodes_text table ++ (entries_text entries ++ rest)
  pub nodes : AreListed table
  pub own : AreOwn head entries
  pub none : NoLineOf head table entries rest
  pub number : k ≡ length table + length entries + 3

-- after the number of workers, line k stands after the turns
pub record IsLineAfter (head : TextHead) (input : List ℕ) (k : ℕ) : Type 0 where
  pub table : List Descriptor
  pub entries : List Entry
  pub turns : List Turn
  pub rest : List ℕ
  pub prefix :
      input ≡ nodes_text table
      ++ (entries_text entries ++ (with_line_feed (turns_line turns) ++ rest))
  pub nodes : AreListed table
  pub own : AreOwn head entries
  pub are : AreTurns head.workers turns
  pub more : rest ≢ []
  pub number : k ≡ length table + length entries + 4

-- the first line after the number of workers that may not stand there is line k
abbrev pub IsBadAfter : TextHead → List ℕ → ℕ → Type 0
IsBadAfter head input k = IsBadLine head input k ⊎ IsLineAfter head input k

-- the first line after the header that may not stand there is line k: the one of the number of
-- workers, or a later one
abbrev pub IsBad : Version → List ℕ → ℕ → Type 0
IsBad version input k =
    ((k ≡ 2) × NoCount input)
    ⊎ ((n : ℕ) × (rest : List ℕ) × IsCount n
    × (input ≡ with_line_feed (workers_line n) ++ rest) × IsBadAfter (text_head version n) rest k)

-- the input is the text of this replay
abbrev pub IsTextOf : List ℕ → Scenario → Type 0
IsTextOf input p = HasReplayText p × (input ≡ replay_text p)

-- what the replay of a text is given
abbrev pub input_of : Scenario → ReplayInput
input_of p =
    record { table = p.table; scripts = scripts_by p.entries p.workers; turns = p.turns }

-- what playing an input within the limit answers, with the record of what is taken; `Memory`
-- may always come
abbrev pub IsPlayed : List ℕ → Result Recorded ReplayFault → Type 0
IsPlayed input (Ok r) =
    (p : Scenario) × (m : Moment) × IsTextOf input p
    × (plays (scripts_by p.entries p.workers) p.turns (start p.table p.workers) ≡ Some m)
    × (r ≡ m.taken)
IsPlayed input (Err faults.NoHeader) =
    (version : Version) (rest : List ℕ) → IsReplayVersion version → input ≢ header version ++ rest
IsPlayed input (Err (faults.BadLine k)) =
    (version : Version) × (rest : List ℕ) × IsReplayVersion version
    × (input ≡ header version ++ rest) × IsBad version rest k
IsPlayed input (Err (faults.AfterEnd i)) =
    (p : Scenario) × IsTextOf input p × StopsAt (input_of p) i Faulty
IsPlayed input (Err (faults.Append i fault)) =
    (p : Scenario) × IsTextOf input p × StopsAt (input_of p) i (Refuses fault)
IsPlayed input (Err faults.TooLarge) = ⊥
IsPlayed input (Err faults.Device) = ⊥
IsPlayed input (Err faults.Memory) = Unit {0}

-- what playing an input answers, a broken device aside
abbrev pub IsAnswer : List ℕ → Result Unit ReplayFault → Type 0
IsAnswer input (Ok _) = (length input ≤ MAX_TEXT) × ((r : Recorded) × IsPlayed input (Ok r))
IsAnswer input (Err faults.TooLarge) = MAX_TEXT < length input
IsAnswer input (Err faults.Memory) = Unit {0}
IsAnswer input (Err fault) = (length input ≤ MAX_TEXT) × IsPlayed input (Err fault)

-- the fault is one of the input, and not of memory or of a device
abbrev pub IsOfInput : ReplayFault → Type 0
IsOfInput faults.Memory = ⊥
IsOfInput faults.Device = ⊥
IsOfInput _ = Unit {0}

-- the record of what is taken was written
abbrev pub IsWritten : List ℕ → Option (List ℕ) → Option (List ℕ) → Type 0
IsWritten input old new = (r : Recorded) × IsPlayed input (Ok r) × Appends old new (text r)

-- the input is within the limit, and no turn of it stops
abbrev pub Plays : List ℕ → Type 0
Plays input = (length input ≤ MAX_TEXT) × ((r : Recorded) × IsPlayed input (Ok r))

-- a prefix of the record of what is taken was written
abbrev pub IsPartlyWritten : List ℕ → Option (List ℕ) → Option (List ℕ) → Type 0
IsPartlyWritten input old new =
    (length input ≤ MAX_TEXT)
    × ((r : Recorded) × IsPlayed input (Ok r) × AppendsPrefix old new (text r))

-- faults of loading, of single steps and of writing, as faults of replays
abbrev pub load_fault : LoadFault → ReplayFault
load_fault loading.TooLarge = faults.TooLarge
load_fault loading.Device = faults.Device
load_fault loading.Memory = faults.Memory

abbrev pub nodes_fault : NodesFault → ReplayFault
nodes_fault (listing.BadLine n) = faults.BadLine n
nodes_fault listing.Memory = faults.Memory

abbrev pub write_fault : WriteFault → ReplayFault
write_fault writing.Device = faults.Device
write_fault writing.Memory = faults.Memory

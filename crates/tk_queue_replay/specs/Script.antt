-- The lines of a replay text that no record text has: the number of workers, and the turns.
use Rattle.std.specs.Prelude.{ℕ, List, [], ◌∷◌, codes, map}
use Rattle.std.specs.List.{AllByRecursion}
use Rattle.std.specs.Fmt.{decimal}
use Rattle.tk_record.specs.Mixing.{IsWorkerOf}
use Rattle.tk_record.specs.Lines.{joined}
use Rattle.tk_queue_replay.specs.declared.turns.Turn.{Turn}
use Rattle.tk_queue_replay.specs.declared.turns.Turn.TheVariants.{Worker, Take}
use Rattle.tk_queue_session.specs.Limits.{most_workers}
use Rattle.tk_queue_replay.specs.Replay.{IsTurn}

-- `W|n`
abbrev pub workers_fields : ℕ → List (List ℕ)
workers_fields n = codes "W" ∷ decimal n ∷ []

abbrev pub workers_line : ℕ → List ℕ
workers_line n = joined (workers_fields n)

-- a number of workers that a session may have
abbrev pub IsCount : ℕ → Type 0
IsCount n = IsWorkerOf most_workers n

-- `S`, and for each turn the number of its worker, or `t`
abbrev pub turn_field : Turn → List ℕ
turn_field (Worker w) = decimal w
turn_field Take = codes "t"

abbrev pub turns_fields : List Turn → List (List ℕ)
turns_fields turns = codes "S" ∷ map turn_field turns

abbrev pub turns_line : List Turn → List ℕ
turns_line turns = joined (turns_fields turns)

-- turns of a session of n workers
abbrev pub AreTurns : ℕ → List Turn → Type 0
AreTurns n turns = AllByRecursion (IsTurn n) turns

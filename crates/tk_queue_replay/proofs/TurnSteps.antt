-- Reading the turns of a line, one field at a time.
use Rattle.std.proofs.Common.{List, ◌++◌, option_map, Option}
use Rattle.tk_queue_replay.specs.declared.turns.Turn.{Turn}

-- what the turns so far and those of the fields to come make
abbrev pub joined_with : List Turn → Option (List Turn) → Option (List Turn)
joined_with done more = option_map (λ m. done ++ m) more

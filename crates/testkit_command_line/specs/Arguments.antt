-- The words of a program's arguments.
use Rattle.std.specs.Prelude.{◌≡◌, ℕ, List, map, string_bytes, Option, Some, None, Result, Ok, Err}
use Rattle.std.specs.Prelude.{String}
use Rattle.std.specs.Global.{Global}
use Rattle.std.specs.declared.io.Error.{Error}
use Rattle.std.specs.declared.io.ErrorKind.{ErrorKind}
use Rattle.std.specs.declared.io.ErrorKind.TheVariants as io
use Rattle.std.specs.declared.vec.IntoIter.{IntoIter}
use Rattle.std.specs.IoError.{error_kind}
use Rattle.std.specs.Vec.Iter.{into_iter_items}
use Rattle.testkit_command_line.specs.declared.faults.CommandLineFault.{CommandLineFault}
use Rattle.testkit_command_line.specs.declared.faults.CommandLineFault.TheVariants as faults

-- why the arguments are not read: an allocation failed, or one is no text
abbrev pub fault_of_arguments : ErrorKind → CommandLineFault
fault_of_arguments io.OutOfMemory = faults.Memory
fault_of_arguments _ = faults.BadWords

-- what reading a program's arguments answered
abbrev pub Arguments : Type 0
Arguments = Result (IntoIter (String Global) Global) Error

-- the words of all arguments in their order, where the arguments were read
abbrev pub given_words : Arguments → Option (List (List ℕ))
given_words (Ok given) = Some (map string_bytes (into_iter_items given))
given_words (Err error) = None

-- the fault is that of the reading, or an allocation failed
abbrev pub IsArgumentsFault : Arguments → CommandLineFault → Type 0
IsArgumentsFault (Ok given) fault = fault ≡ faults.Memory
IsArgumentsFault (Err error) fault = fault ≡ fault_of_arguments (error_kind error)

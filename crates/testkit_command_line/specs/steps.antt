-- What private clauses and proofs alone name.
use Rattle.clap.specs.declared.error.kind.ErrorKind.{ErrorKind as ParseKind}
use Rattle.testkit_command_line.specs.declared.faults.CommandLineFault.{CommandLineFault}
use Rattle.clap.specs.declared.error.kind.ErrorKind.TheVariants as parse
use Rattle.testkit_command_line.specs.declared.faults.CommandLineFault.TheVariants as faults

-- why the command-line crate refuses words: an allocation failed, or the words are bad
abbrev pub fault_of_parse : ParseKind → CommandLineFault
fault_of_parse parse.OutOfMemory = faults.Memory
fault_of_parse _ = faults.BadWords

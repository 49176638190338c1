use Rattle.tk_locks.proofs.HeldWords.{readers, writer, last}
use Rattle.tk_locks.proofs.laws.lanes_of_held_words.Goals as goal

pub returns-clause-readers : goal.returns-clause-readers
returns-clause-readers c = readers

pub returns-clause-writer : goal.returns-clause-writer
returns-clause-writer c = writer

pub returns-clause-last : goal.returns-clause-last
returns-clause-last c = last

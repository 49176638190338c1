use Rattle.std.proofs.Common.{◌∙◌}
use Rattle.tk_locks.proofs.GatheredSeats.{empty_sum}
use Rattle.tk_locks.proofs.books.Book.close.Goals as goal

pub returns : goal.returns
returns c = c.into_word.ensures.word ∙ empty_sum _ c.requires.empty

use Rattle.tk_ids.proofs.escapes.byte_of_digits.Goals as goal

pub returns-in-53-eq68 : goal.returns-in-53-eq68
returns-in-53-eq68 c = rw (c.in-53-eq68.is-0, c.in-53-eq68.is-1)

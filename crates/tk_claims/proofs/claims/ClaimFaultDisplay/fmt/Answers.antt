use Rattle.tk_claims.proofs.claims.ClaimFaultDisplay.fmt.Goals as goal

pub returns-in-Seats-clause-writes : goal.returns-in-Seats-clause-writes
returns-in-Seats-clause-writes g c = rw c.in-Seats.is c.write_str.ensures.writes

-- What the workers of a run have left, part by part.
use Rattle.std.specs.Prelude.{◌≡◌, ℕ, ◌≤◌, List, [], ◌∷◌, map, Option, None, vec_capacity}
use Rattle.std.specs.Option.{option_or}
use Rattle.tk_claims.specs.Claims.{ClaimSeatView}
use Rattle.tk_queue_session.specs.Senders.{SenderView}
use Rattle.tk_engine_execute.specs.declared.workers.parts.WorkerParts.{WorkerParts}
use Rattle.tk_engine_execute.specs.declared.engines.UnitFault.{UnitFault}
use Rattle.tk_engine_execute.specs.declared.workers.WorkerEnd.{WorkerEnd}

-- the tokens of these ends
abbrev pub tokens_in : List WorkerEnd → List SenderView
tokens_in os = map (λ (o : WorkerEnd). o.ended) os

-- the seats of these ends
abbrev pub seats_in : List WorkerEnd → List ClaimSeatView
seats_in os = map (λ (o : WorkerEnd). o.claim_seat) os

-- the first failure of these ends
abbrev pub first_failure : List WorkerEnd → Option (ℕ × UnitFault)
first_failure [] = None
first_failure (o ∷ os) = option_or o.failure (first_failure os)

-- there is room for the parts of n workers, and none is there yet
pub record HasRoomFor (n : ℕ) (p : WorkerParts) : Type 0 where
  pub tokens : p.tokens.items ≡ []
  pub seats : p.seats.items ≡ []
  pub failure : p.failure ≡ None
  pub token_room : n ≤ vec_capacity p.tokens
  pub seat_room : n ≤ vec_capacity p.seats

-- the parts are those of these ends
pub record AreParts (os : List WorkerEnd) (p : WorkerParts) : Type 0 where
  pub tokens : p.tokens.items ≡ tokens_in os
  pub seats : p.seats.items ≡ seats_in os
  pub failure : p.failure ≡ first_failure os

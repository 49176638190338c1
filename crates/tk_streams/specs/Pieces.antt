-- What goes to a target in pieces.
use Rattle.std.specs.Prelude.{◌≡◌, ℕ, Bool, List, ◌++◌, Option, MatchBool}
use Rattle.std.specs.Io.KnownBytes.{Appends}
use Rattle.tk_streams.specs.Stream.{AppendsPrefix}

-- what a target took, where that is known, whether it is broken, and the bytes that wait for it
pub record Outgoing : Type 0 where
  pub contents : Option (List ℕ)
  pub broken : Bool
  pub waiting : List ℕ

abbrev pub outgoing : Option (List ℕ) → Bool → List ℕ → Outgoing
outgoing contents broken waiting =
    record { contents = contents; broken = broken; waiting = waiting }

-- Since the target held `start`, it took the text but for the bytes that wait, or it broke after
-- a prefix of the text.
abbrev pub IsSent : Option (List ℕ) → List ℕ → Outgoing → Type 0
IsSent start text o =
    MatchBool o.broken (AppendsPrefix start o.contents text)
    ((sent : List ℕ) × Appends start o.contents sent × (sent ++ o.waiting ≡ text))

-- the bytes follow all that was to be written before
pub record Adds (old new : Outgoing) (bytes : List ℕ) : Type 0 where
  pub follow : (start : Option (List ℕ)) (text : List ℕ) →
      IsSent start text old → IsSent start (text ++ bytes) new

-- a target and its piece took the bytes after all that was to be written before
abbrev pub AddsTo : {T : Type 0} → (T → Option (List ℕ)) → (T → Bool) →
    T → T → List ℕ → List ℕ → List ℕ → Type 0
AddsTo contents broken target target' waiting waiting' bytes =
    Adds (outgoing (contents target) (broken target) waiting)
    (outgoing (contents target') (broken target') waiting') bytes

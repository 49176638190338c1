-- What a try to take a need says of the words that the seat read.
use Rattle.std.specs.Prelude.{◌≡◌, ◌≢◌, ℕ, ◌+◌, List, [], ◌∷◌, ◌++◌, All, Some, flat_map}
use Rattle.tk_lanes.specs.Lanes.{Admits}
use Rattle.tk_locks.specs.NeedView.{NeedView}
use Rattle.tk_locks.specs.Needs.{word_of}
use Rattle.tk_locks.specs.Holdings.{WereHeld}
use Rattle.tk_locks.specs.declared.books.Busy.{Busy}
use Rattle.tk_locks.specs.declared.books.Busy.TheVariants.{Held, Moved}

-- the words that a refused try read
abbrev pub words_read : Busy → List ℕ
words_read (Held word) = word ∷ []
words_read (Moved word found) = word ∷ found ∷ []

-- a refusal has a cause: the word that was read has no room for the need, or it has room and the
-- exchange found another word
abbrev pub HasCause : ℕ → Busy → Type 0
HasCause need (Held word) = ¬ Admits word need
HasCause need (Moved word found) = Admits word need × (found ≢ word)

-- one word was read, and it has room for the need
abbrev pub WasFree : List ℕ → List ℕ → ℕ → Type 0
WasFree old new need = (word : ℕ) × (new ≡ old ++ word ∷ []) × Admits word need

-- one try was refused for a cause, and no word was read beside it
abbrev pub WasBusy : List ℕ → List ℕ → ℕ → Busy → Type 0
WasBusy old new need busy = (new ≡ old ++ words_read busy) × HasCause need busy

-- any number of tries were refused, each for a cause, and no word was read beside them
abbrev pub WereBusy : List ℕ → List ℕ → ℕ → Type 0
WereBusy old new need =
    (refusals : List Busy) × (new ≡ old ++ flat_map words_read refusals)
    × All (HasCause need) refusals

-- any number of tries were refused, each for a cause, and the try after them read one word, which
-- has room for the need
abbrev pub WasFreeAtLast : List ℕ → List ℕ → ℕ → Type 0
WasFreeAtLast old new need =
    (tried : List ℕ) × WereBusy old tried need × WasFree tried new need

-- The need was added to the word that was read last, and the sum is the word of what all `seats`
-- seats of a book then held: one of them the need, which conflicts with no other seat's.
abbrev pub TookLast : ℕ → List ℕ → NeedView → Type 0
TookLast seats read n =
    (earlier : List ℕ) × (seen : ℕ) × (read ≡ earlier ++ seen ∷ [])
    × WereHeld seats (Some n) (seen + word_of n)

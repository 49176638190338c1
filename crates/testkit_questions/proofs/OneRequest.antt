-- Words ask for one thing.
use Rattle.std.proofs.Common.{◌≡◌, ◌≢◌, Bool, true, false, ℕ, List, Result, Ok, Err, sym, ap}
use Rattle.std.proofs.Common.{subst, ◌∙◌, inl, inr}
use Rattle.testkit_questions.specs.declared.faults.AskFault.{AskFault}
use Rattle.testkit_questions.specs.declared.faults.AskFault.TheVariants as faults
use Rattle.testkit_questions.specs.declared.questions.Request.{Request}
use Rattle.testkit_questions.specs.Requests.{IsExplainedAs, IsFlagged, IsRequestedAs, explain_word}
use Rattle.testkit_questions.specs.Requests.{reading_of}
use Rattle.testkit_questions.proofs.UniqueReading.{AreSame, IsOfWords, SameReading}
use Rattle.testkit_questions.proofs.UniqueReading.{one_explained, one_reading, tails}

-- requests for the same
abbrev pub AreSameRequests : Request → Request → Type 0
AreSameRequests p q = (p.is_explained ≡ q.is_explained) × AreSame p.question q.question

abbrev pub SameRequest : Result Request AskFault → Result Request AskFault → Type 0
SameRequest (Ok p) (Ok q) = AreSameRequests p q
SameRequest (Err f) (Err g) = f ≡ g
SameRequest _ _ = ⊥

ok_memory : (p : Request) → reading_of (Ok p) ≢ Err faults.Memory
ok_memory p e = cc

err_memory : (f : AskFault) → reading_of (Err f) ≡ Err faults.Memory → f ≡ faults.Memory
err_memory f e = cc

of_words : (a : Result Request AskFault) → IsOfWords a → IsOfWords (reading_of a)
of_words (Ok p) s e = ok_memory p e
of_words (Err f) s e = s (ap (λ (g : AskFault). Err g) (err_memory f e))

with_flag : (flag : Bool) (a b : Result Request AskFault) → IsFlagged flag a → IsFlagged flag b
    → SameReading (reading_of a) (reading_of b) → SameRequest a b
with_flag flag (Ok p) (Ok q) f g same = (f ∙ sym g, same)
with_flag flag (Ok p) (Err g) f h same = absurd same
with_flag flag (Err f) (Ok q) g h same = absurd same
with_flag flag (Err f) (Err g) h k same = same

-- the same words never ask for two things
pub one_request : (words : List (List ℕ)) (a b : Result Request AskFault) → IsOfWords a
    → IsOfWords b → IsRequestedAs words a → IsRequestedAs words b → SameRequest a b
one_request words a b s t (inl (rest, is, f, h)) (inl (more, too, g, k)) =
    let same = tails explain_word explain_word more rest (sym too ∙ is) in
    with_flag true a b f g
    (one_explained (reading_of a) (reading_of b) (of_words a s) (of_words b t) rest h
    (subst (λ (l : List (List ℕ)). IsExplainedAs l (reading_of b)) same k))
one_request words a b s t (inl (rest, is, f, h)) (inr (other, g, k)) = absurd (other rest is)
one_request words a b s t (inr (other, f, h)) (inl (rest, is, g, k)) = absurd (other rest is)
one_request words a b s t (inr (other, f, h)) (inr (another, g, k)) =
    with_flag false a b f g
    (one_reading (reading_of a) (reading_of b) (of_words a s) (of_words b t) words h k)

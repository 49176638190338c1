-- The words of a command line.
use Rattle.std.proofs.Common.{◌≡◌, ◌≤◌, ◌-◌, ℕ, List, [], ◌∷◌, length, take, drop, get_or, sym, ap, ap₂, ◌∙◌, arith}
use Rattle.std.specs.Prelude.{map}
use Rattle.testkit_command_line.specs.CommandLines.{IsAskLine}
use Rattle.std.proofs.lemmas.List.{take_all}

-- a list of two words or more, seen by its second
pub by_second : {A B : Type 0} (f : A → B) (words : List A) (second : A) (word : B) → 2 ≤ length words → second ≡ get_or words 1 second → f second ≡ word
    → (first : B) × (map f words ≡ first ∷ word ∷ map f (take (length words - 2) (drop 2 words)))
by_second f [] second word long is same = absurd (omega arith)
by_second f (x ∷ []) second word long is same = absurd (omega arith)
by_second f (x ∷ y ∷ rest) second word long is same =
    let few : length rest ≡ length (x ∷ y ∷ rest) - 2 = omega arith in
    let all : rest ≡ take (length (x ∷ y ∷ rest) - 2) rest = sym (take_all (length rest) rest (omega arith)) ∙ ap (λ n. take n rest) few in
    (f x, ap₂ (λ w ws. f x ∷ w ∷ ws) (ap f (sym is) ∙ same) (ap (map f) all))

-- a command line asks one question
pub one_question : (words asked question : List (List ℕ)) → IsAskLine words asked → IsAskLine words question → asked ≡ question
one_question words asked question a b = cc

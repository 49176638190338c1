-- The texts of conditions, one after the other.
use Rattle.std.proofs.Common.{◌≡◌, ℕ, List, [], ◌∷◌, ◌++◌, refl, sym, ap, ◌∙◌}
use Rattle.std.specs.Prelude.{codes}
use Rattle.std.specs.List.{flat_map}
use Rattle.std.proofs.lemmas.List.{append_assoc, append-nil}
use Rattle.tk_query_conditions.specs.Cond.{Test, Id, Cond, Plain, With, cond_text}
use Rattle.tk_query_nearest.specs.Members.{joined}
use Rattle.tk_query_nearest.specs.steps.{separated, appended}

-- no condition's text is empty
first_of : (c : Cond) → (b : ℕ) × (rest : List ℕ) × (cond_text c ≡ b ∷ rest)
first_of (Plain Test) = (_, _, refl)
first_of (Plain bare) = (_, _, refl)
first_of (With Id text) = (_, _, refl)
first_of (With text_atom text) = (_, _, refl)
first_of c = (_, _, refl)

abbrev further : Cond → List ℕ
further c = codes ", " ++ cond_text c

-- after a text that isn't empty
appended_after : (b : ℕ) (text : List ℕ) (cs : List Cond) → appended (b ∷ text) cs ≡ (b ∷ text) ++ flat_map further cs
appended_after b text [] = sym (append-nil (b ∷ text))
appended_after b text (c ∷ cs) =
    appended_after b ((text ++ codes ", ") ++ cond_text c) cs
    ∙ ap (λ t. (b ∷ t) ++ flat_map further cs) (append_assoc text (codes ", ") (cond_text c))
    ∙ append_assoc (b ∷ text) (further c) (flat_map further cs)

pub appended_joined : (cs : List Cond) → appended [] cs ≡ joined cs
appended_joined [] = refl
appended_joined (c ∷ cs) =
    let first = first_of c in
    ap (λ t. appended t cs) first.2 ∙ appended_after first.0 first.1 cs ∙ ap (λ t. t ++ flat_map further cs) (sym first.2)

pub appended-append : (text : List ℕ) (xs ys : List Cond) → appended text (xs ++ ys) ≡ appended (appended text xs) ys
appended-append text [] ys = refl
appended-append text (x ∷ xs) ys = appended-append (separated text ++ cond_text x) xs ys

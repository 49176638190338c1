-- Whether a condition of readers stands.
use Rattle.std.proofs.Common.{◌≡◌, true, List, [], ◌∷◌, length, Vec, vec_len, Global, refl, sym, ap, ◌∙◌, arith}
use Rattle.std.specs.Prelude.{◌==◌, not}
use Rattle.std.proofs.lemmas.Bool.{ne_eqb}
use Rattle.tk_query_conditions.specs.Cond.{Any, Conds, Nothing, More, Cond}
use Rattle.tk_query_conditions.specs.CondOf.{cond_of}
use Rattle.tk_query_conditions.specs.steps.Reader.{conds_from}
use Rattle.tk_query_conditions.specs.declared.conditions.Condition as real
use Rattle.tk_query_conditions.specs.declared.conditions.Condition.{Condition}
use Rattle.tk_query_conditions.proofs.Members.{cond_of-Any}
use Rattle.tk_explanations.specs.Collisions.{names_some}

-- members after others
some_more :
    (cs : Conds) (c : Cond) (members : List Condition) →
    names_some (Any (conds_from (More cs c) members)) ≡ true
some_more cs c [] = refl
some_more cs c (m ∷ members) = some_more (More cs c) (cond_of m) members

some_of :
    (members : List Condition) →
    not (length members == 0) ≡ names_some (Any (conds_from Nothing members))
some_of [] = refl
some_of (m ∷ members) =
    ap not (ne_eqb (length (m ∷ members)) 0 (λ e. omega (arith, e)))
    ∙ sym (some_more Nothing (cond_of m) members)

pub any_names :
    (members : Vec Condition Global) →
    not (vec_len members == 0) ≡ names_some (cond_of (real.Any members))
any_names members =
    let ok = members.ok in
    let same : vec_len members ≡ length members.items = omega arith in
    ap (λ n. not (n == 0)) same
    ∙ some_of members.items ∙ sym (ap names_some (cond_of-Any members))

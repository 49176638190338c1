-- The members of a condition, as the list in their vector.
use Rattle.std.proofs.Common.{◌≡◌, List, [], ◌∷◌, ◌++◌, Vec, Global, refl, ap, ◌∙◌}
use mathlib.Core.Former.{Count}
use Rattle.tk_query_conditions.specs.declared.conditions.Condition as real
use Rattle.tk_query_conditions.specs.declared.conditions.Condition.{Condition, All', Any', Row_of-Condition, end_of-Condition, more_of-Condition, items-the_row-Condition, items_hidden-the_row-Condition-0}
use Rattle.tk_query_conditions.specs.Cond.{All, Any, Conds, Nothing, More}
use Rattle.tk_query_conditions.specs.CondOf.{cond_of, row_from}
use Rattle.tk_query_conditions.specs.steps.Reader.{conds_from}

abbrev row_of : Condition → (n : Count) × Row_of-Condition n
row_of (All' _ row) = (_, row)
row_of (Any' _ row) = (_, row)
row_of _ = (_, end_of-Condition)

row_is : (cs : Conds) (n : _) (row : Row_of-Condition n) → row_from cs row ≡ conds_from cs (items-the_row-Condition n row)
row_is cs n end_of-Condition = refl
row_is cs n (more_of-Condition member rest) = row_is (More cs (cond_of member)) _ rest

pub cond_of-All : (members : Vec Condition Global) → cond_of (real.All members) ≡ All (conds_from Nothing members.items)
cond_of-All members =
    let row = row_of (real.All members) in
    ap All (row_is Nothing row.0 row.1 ∙ ap (conds_from Nothing) (items_hidden-the_row-Condition-0 members))

pub cond_of-Any : (members : Vec Condition Global) → cond_of (real.Any members) ≡ Any (conds_from Nothing members.items)
cond_of-Any members =
    let row = row_of (real.Any members) in
    ap Any (row_is Nothing row.0 row.1 ∙ ap (conds_from Nothing) (items_hidden-the_row-Condition-0 members))

pub conds_more : (cs : Conds) (members : List Condition) (c : Condition) → conds_from cs (members ++ c ∷ []) ≡ More (conds_from cs members) (cond_of c)
conds_more cs [] c = refl
conds_more cs (m ∷ members) c = conds_more (More cs (cond_of m)) members c

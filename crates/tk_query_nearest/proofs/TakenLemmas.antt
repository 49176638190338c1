-- The first conditions of a list, as members of `all(..)`.
use Rattle.std.proofs.Common.{◌≡◌, ℕ, ◌+◌, ◌-◌, ◌<◌, ◌≤◌, min, List, [], ◌∷◌, ◌++◌, length, take, drop, get_or, not, Vec, Global, refl, sym, ap, ◌∙◌, subst, arith}
use Rattle.std.proofs.lemmas.List.{take_more, take_all, take-append-drop}
use Rattle.std.proofs.lemmas.List.Elements.{filter-append}
use Rattle.tk_events.specs.declared.events.Entry.{Entry}
use Rattle.tk_record.specs.Recorded.{Recorded}
use Rattle.tk_query_conditions.specs.declared.conditions.Condition as real
use Rattle.tk_query_conditions.specs.declared.conditions.Condition.{Condition}
use Rattle.tk_query_conditions.specs.Cond.{Cond, All, Any, Conds, Nothing, More}
use Rattle.tk_query_conditions.specs.CondOf.{cond_of}
use Rattle.tk_query_conditions.specs.steps.Reader.{conds_from}
use Rattle.tk_query_conditions.proofs.Members.{cond_of-All, cond_of-Any, conds_more}
use Rattle.tk_query_conditions.proofs.ReaderLemmas.{conds_some}
use Rattle.tk_query.specs.Holds.{cond_holds}
use Rattle.tk_query_nearest.specs.Members.{members, members_of, lacking}
use Rattle.tk_query_nearest.specs.Parts.{missing, missing_of_all}
use Rattle.tk_query_nearest.specs.steps.{lowered, appended}
use Rattle.tk_query_nearest.proofs.WritingLemmas.{appended-append}

pub all_is : (c : Condition) (vec : Vec Condition Global) (list : List Condition) → c ≡ real.All vec → list ≡ vec.items → All (conds_from Nothing list) ≡ cond_of c
all_is c vec list is items = ap (λ l. All (conds_from Nothing l)) items ∙ sym (cond_of-All vec) ∙ sym (ap cond_of is)

pub any_is : (c : Condition) (vec : Vec Condition Global) (list : List Condition)
    → c ≡ real.Any vec → list ≡ vec.items → Any (conds_from Nothing list) ≡ cond_of c
any_is c vec list is items =
    ap (λ l. Any (conds_from Nothing l)) items ∙ sym (cond_of-Any vec) ∙ sym (ap cond_of is)

taken_more : (list : List Condition) (at : ℕ) (m : Condition) → at < length list → m ≡ get_or list at m → conds_from Nothing (take (at + 1) list) ≡ More (conds_from Nothing (take at list)) (cond_of m)
taken_more list at m lt is =
    ap (conds_from Nothing) (take_more list at m lt ∙ ap (λ (x : Condition). take at list ++ x ∷ []) (sym is)) ∙ conds_more Nothing (take at list) m

-- the conditions of a list, its first ones before the others
from_append : (cs : Conds) (xs ys : List Condition)
    → conds_from cs (xs ++ ys) ≡ conds_from (conds_from cs xs) ys
from_append cs [] ys = refl
from_append cs (x ∷ xs) ys = from_append (More cs (cond_of x)) xs ys

rest_after : (list : List Condition) (at : ℕ)
    → conds_from Nothing list ≡ conds_from (conds_from Nothing (take at list)) (drop at list)
rest_after list at =
    ap (conds_from Nothing) (sym (take-append-drop at list))
    ∙ from_append Nothing (take at list) (drop at list)

module _ (r : Recorded) (e : Entry) (most : ℕ) where
  -- of all of the conditions

  abbrev pub IsTotal : Conds → ℕ → Type 0
  IsTotal cs total = total ≡ min (missing r (All cs) e) most

  pub total_taken : (list : List Condition) (at : ℕ) (m : Condition) (total more new : ℕ)
      → at < length list → m ≡ get_or list at m → IsTotal (conds_from Nothing (take at list)) total
      → more ≡ min (missing r (cond_of m) e) (most - total) → new ≡ total + more
      → IsTotal (conds_from Nothing (take (at + 1) list)) new
  total_taken list at m total more new lt is f g h =
      let cs = conds_from Nothing (take at list) in
      let sum : total + more ≡ min (missing_of_all r cs e + missing r (cond_of m) e) most = omega arith in
      h ∙ sum ∙ ap (λ all. min (missing r (All all) e) most) (sym (taken_more list at m lt is))

  grows : (cs : Conds) (rest : List Condition)
      → missing_of_all r cs e ≤ missing_of_all r (conds_from cs rest) e
  grows cs [] = omega arith
  grows cs (x ∷ rest) =
      let later = grows (More cs (cond_of x)) rest in
      omega (arith, later)

  -- the count has come to its end
  pub total_full : (list : List Condition) (at total : ℕ)
      → IsTotal (conds_from Nothing (take at list)) total → total ≡ most
      → IsTotal (conds_from Nothing list) most
  total_full list at total f full =
      let cs = conds_from Nothing (take at list) in
      let le = grows cs (drop at list) in
      let all : most ≡ min (missing_of_all r (conds_from cs (drop at list)) e) most = omega arith in
      subst (λ all. IsTotal all most) (sym (rest_after list at)) all

  -- of the condition of which the fewest don't hold

  abbrev pub IsFewest : Conds → ℕ → Type 0
  IsFewest cs fewest = fewest ≡ min (missing r (Any cs) e) most

  pub fewest_taken : (list : List Condition) (at : ℕ) (m : Condition) (fewest new : ℕ)
      → at < length list → m ≡ get_or list at m
      → fewest ≡ lowered r most (conds_from Nothing (take at list)) e
      → new ≡ min (missing r (cond_of m) e) fewest
      → new ≡ lowered r most (conds_from Nothing (take (at + 1) list)) e
  fewest_taken list at m fewest new lt is f g =
      let cs = conds_from Nothing (take at list) in
      let least : new ≡ min (lowered r most cs e) (missing r (cond_of m) e) = omega arith in
      least ∙ ap (λ all. lowered r most all e) (sym (taken_more list at m lt is))

  lowered_is : (cs : Conds) (c : Cond) → IsFewest (More cs c) (lowered r most (More cs c) e)
  lowered_is Nothing c = omega arith
  lowered_is (More cs d) c = omega (arith, lowered_is cs d)

  pub fewest_is : (list : List Condition) (fewest : ℕ) → 0 < length list
      → fewest ≡ lowered r most (conds_from Nothing list) e
      → IsFewest (conds_from Nothing list) fewest
  fewest_is [] fewest lt f = absurd (omega arith)
  fewest_is (x ∷ list) fewest lt f =
      let some = conds_some Nothing (cond_of x) list in
      f ∙ ap (λ all. lowered r most all e) some.2 ∙ lowered_is some.0 some.1
      ∙ ap (λ all. min (missing r (Any all) e) most) (sym some.2)

  -- each has been counted
  pub fewest_all : (list : List Condition) (at fewest : ℕ) → 0 < length list → length list ≤ at
      → fewest ≡ lowered r most (conds_from Nothing (take at list)) e
      → IsFewest (conds_from Nothing list) fewest
  fewest_all list at fewest lt le f =
      fewest_is list fewest lt
      (f ∙ ap (λ xs. lowered r most (conds_from Nothing xs) e) (take_all at list le))

  falls : (cs : Conds) (rest : List Condition)
      → lowered r most (conds_from cs rest) e ≤ lowered r most cs e
  falls cs [] = omega arith
  falls cs (x ∷ rest) =
      let later = falls (More cs (cond_of x)) rest in
      omega (arith, later)

  -- nothing is less
  pub fewest_none : (list : List Condition) (at fewest : ℕ) → 0 < length list
      → fewest ≡ lowered r most (conds_from Nothing (take at list)) e → fewest ≡ 0
      → IsFewest (conds_from Nothing list) 0
  fewest_none list at fewest lt f none =
      let cs = conds_from Nothing (take at list) in
      let le = falls cs (drop at list) in
      let least : 0 ≡ lowered r most (conds_from cs (drop at list)) e = omega arith in
      fewest_is list 0 lt (subst (λ all. 0 ≡ lowered r most all e) (sym (rest_after list at)) least)

pub lacking_taken : (r : Recorded) (list : List Condition) (at : ℕ) (m : Condition) (e : Entry) (start out new : List ℕ) → at < length list → m ≡ get_or list at m
    → out ≡ appended start (lacking r (All (conds_from Nothing (take at list))) e) → new ≡ appended out (lacking r (cond_of m) e)
    → new ≡ appended start (lacking r (All (conds_from Nothing (take (at + 1) list))) e)
lacking_taken r list at m e start out new lt is f g =
    let cs = conds_from Nothing (take at list) in
    let fails = λ (n : Cond). not (cond_holds r n e) in
    g ∙ ap (λ t. appended t (lacking r (cond_of m) e)) f
    ∙ sym (appended-append start (lacking r (All cs) e) (lacking r (cond_of m) e))
    ∙ ap (appended start) (sym (filter-append fails (members_of cs) (members (cond_of m))))
    ∙ ap (λ all. appended start (lacking r (All all) e)) (sym (taken_more list at m lt is))

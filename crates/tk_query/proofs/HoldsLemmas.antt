-- What conditions say of an event.
use Rattle.std.proofs.Common.{◌≡◌, ℕ, Bool, true, false, ◌&&◌, ◌||◌, eq-eqb, ◌↔◌, List, [], ◌∷◌, ◌++◌, Vec, Global, IsTrue, refl, sym, ap, ◌∙◌, ⊎_elim}
use Rattle.std.specs.Prelude.{codes}
use Rattle.std.specs.List.{list_all, list_any}
use Rattle.std.specs.Str.Iter.{HasSubslice}
use Rattle.std.proofs.lemmas.List.{append_assoc, append-nil}
use Rattle.std.proofs.lemmas.Bool.{or_cases, or_left, or_right}
use Rattle.std.proofs.lemmas.Slice.Eq.{bytes_eq-Decides}
use Rattle.tk_base.proofs.Truth.{and-true, or-false}
use Rattle.tk_ids.specs.IdText.{SegmentView, IsEngine}
use Rattle.tk_events.specs.declared.events.Entry.{Entry}
use Rattle.tk_record.specs.Recorded.{Recorded}
use Rattle.tk_query_conditions.specs.declared.conditions.Condition as real
use Rattle.tk_query_conditions.specs.declared.conditions.Condition.{Condition}
use Rattle.tk_query_conditions.specs.Cond.{Conds, Nothing, More, Pairs, NoPairs, MorePairs}
use Rattle.tk_query_conditions.specs.CondOf.{cond_of, pairs_from}
use Rattle.tk_query_conditions.specs.steps.Reader.{conds_from}
use Rattle.tk_query_conditions.proofs.Members.{cond_of-All, cond_of-Any}
use Rattle.tk_query_conditions.specs.Reading.{begins_with}
use Rattle.tk_query.specs.Holds.{has_within, is_engine, pairs_list, cond_holds, all_hold, any_holds, holds}
use Rattle.tk_query_conditions.proofs.Prefixes.{begins_rest}

-- two tests that are true where the other is
pub same_bool : (a b : Bool) → (a ≡ true → b ≡ true) → (b ≡ true → a ≡ true) → a ≡ b
same_bool true b f g = sym (f refl)
same_bool false true f g = g refl
same_bool false false f g = refl

-- the text of an engine
engine_true : (id : List SegmentView) → is_engine id ≡ true → IsEngine id
engine_true [] e = cc
engine_true (s ∷ []) e = let tag = (bytes_eq-Decides s.tag (codes "engine")).0 e in (s.value, ap (λ (t : List ℕ). let p : SegmentView = record { tag = t; value = s.value } in p ∷ []) tag)
engine_true (s ∷ t ∷ id) e = cc

true_engine : (id : List SegmentView) → IsEngine id → is_engine id ≡ true
true_engine id h = ap is_engine h.1

pub engine_is : (id : List SegmentView) (b : Bool) → (IsTrue b ↔ IsEngine id) → b ≡ is_engine id
engine_is id b h = same_bool b (is_engine id) (λ e. true_engine id (h.0 e)) (λ e. h.1 (engine_true id e))

begun : (prefix rest : List ℕ) → begins_with prefix (prefix ++ rest) ≡ true
begun [] rest = refl
begun (b ∷ prefix) rest = ap (λ t. t && begins_with prefix (prefix ++ rest)) (eq-eqb b b refl) ∙ begun prefix rest

within_begun : (part text : List ℕ) → begins_with part text ≡ true → has_within part text ≡ true
within_begun part [] e = e
within_begun part (b ∷ text) e = or_left (begins_with part (b ∷ text)) (has_within part text) e

within_after : (part prefix text : List ℕ) → has_within part text ≡ true → has_within part (prefix ++ text) ≡ true
within_after part [] text e = e
within_after part (b ∷ prefix) text e = or_right (begins_with part (b ∷ (prefix ++ text))) (has_within part (prefix ++ text)) (within_after part prefix text e)

within_true : (part text : List ℕ) → HasSubslice text part → has_within part text ≡ true
within_true part text h = ap (has_within part) h.2 ∙ within_after part h.0 (part ++ h.1) (within_begun part (part ++ h.1) (begun part h.1))

true_within : (part text : List ℕ) → has_within part text ≡ true → HasSubslice text part
true_within part [] e = let r = begins_rest part [] e in ([], r.0, r.1)
true_within part (b ∷ text) e = ⊎_elim {C = HasSubslice (b ∷ text) part}
    (λ (h : begins_with part (b ∷ text) ≡ true). let r = begins_rest part (b ∷ text) h in ([], r.0, r.1))
    (λ (h : has_within part text ≡ true). let r = true_within part text h in (b ∷ r.0, r.1, ap (λ l. b ∷ l) r.2))
    (or_cases (begins_with part (b ∷ text)) (has_within part text) e)

pub within_is : (part text : List ℕ) (b : Bool) → ((b ≡ true) ↔ HasSubslice text part) → b ≡ has_within part text
within_is part text b h = same_bool b (has_within part text) (λ e. within_true part text (h.0 e)) (λ e. h.1 (true_within part text e))

-- the pairs of an entry
pairs_after : (pairs : Pairs) (rest : List (List ℕ × List ℕ)) → pairs_list (pairs_from pairs rest) ≡ pairs_list pairs ++ rest
pairs_after pairs [] = sym (append-nil (pairs_list pairs))
pairs_after pairs (p ∷ rest) = pairs_after (MorePairs pairs p.0 p.1) rest ∙ append_assoc (pairs_list pairs) (p ∷ []) rest

pub pairs_are : (rest : List (List ℕ × List ℕ)) → pairs_list (pairs_from NoPairs rest) ≡ rest
pairs_are rest = pairs_after NoPairs rest

-- the members of a condition
and_assoc : (a b c : Bool) → ((a && b) && c) ≡ (a && (b && c))
and_assoc true b c = refl
and_assoc false b c = refl

or_assoc : (a b c : Bool) → ((a || b) || c) ≡ (a || (b || c))
or_assoc true b c = refl
or_assoc false b c = refl

all_after : (r : Recorded) (e : Entry) (cs : Conds) (members : List Condition) → all_hold r (conds_from cs members) e ≡ (all_hold r cs e && list_all (λ m. holds r m e) members)
all_after r e cs [] = sym (and-true (all_hold r cs e))
all_after r e cs (m ∷ members) = all_after r e (More cs (cond_of m)) members ∙ and_assoc (all_hold r cs e) (holds r m e) (list_all (λ n. holds r n e) members)

any_after : (r : Recorded) (e : Entry) (cs : Conds) (members : List Condition) → any_holds r (conds_from cs members) e ≡ (any_holds r cs e || list_any (λ m. holds r m e) members)
any_after r e cs [] = sym (or-false (any_holds r cs e))
any_after r e cs (m ∷ members) = any_after r e (More cs (cond_of m)) members ∙ or_assoc (any_holds r cs e) (holds r m e) (list_any (λ n. holds r n e) members)

pub holds-All : (r : Recorded) (members : Vec Condition Global) (e : Entry) → holds r (real.All members) e ≡ list_all (λ m. holds r m e) members.items
holds-All r members e = ap (λ c. cond_holds r c e) (cond_of-All members) ∙ all_after r e Nothing members.items

pub holds-Any : (r : Recorded) (members : Vec Condition Global) (e : Entry) → holds r (real.Any members) e ≡ list_any (λ m. holds r m e) members.items
holds-Any r members e = ap (λ c. cond_holds r c e) (cond_of-Any members) ∙ any_after r e Nothing members.items

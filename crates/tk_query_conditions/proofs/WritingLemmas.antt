-- What is written of a condition's text.
use Rattle.std.proofs.Common.{◌≡◌, ◌≢◌, ℕ, zero, suc, ◌+◌, ◌/◌, ◌%◌, ◌<◌, ◌≤◌, List, [], ◌∷◌, ◌++◌, length, take, get_or, Bool, true, false, cond, Result, Ok, Err, is_ok, OnOk, Vec, Box, Global, Some, None, refl, sym, ap, ◌∙◌, arith, append_assoc}
use Rattle.std.specs.Prelude.{codes}
use Rattle.std.proofs.lemmas.List.{take_more}
use lib.Utf8.{encode, next}
use lib.Dec.{ltb}
use Rattle.std.proofs.lemmas.Bool.{ne_eqb}
use Rattle.tk_query_conditions.specs.declared.conditions.Condition as real
use Rattle.tk_query_conditions.specs.declared.conditions.Condition.{Condition, All', Any', Not', roll-Condition, roll-out-Condition}
use Rattle.tk_query_conditions.specs.declared.conditions.Condition.TheVariants.{outs-All', outs-Any', outs-Not', rolls-All, rolls-Any, rolls-Not}
use Rattle.tk_events.specs.declared.kinds.Kind.{Kind}
use Rattle.tk_events.specs.declared.kinds.Kind.TheVariants as event
use Rattle.tk_query_conditions.specs.Cond.{spelled_by, escaped, Pairs, NoPairs, MorePairs, pairs_text, pairs_lead, Cond, All, Any, Conds, Nothing, More, kind_text, cond_text, list_text, lead_text}
use Rattle.tk_query_conditions.specs.CondOf.{cond_of, pairs_from}
use Rattle.tk_query_conditions.specs.steps.Reader.{conds_from}
use Rattle.tk_query_conditions.specs.steps.Writing.{separator, word_of, operand_text}
use Rattle.tk_query_conditions.proofs.Members.{cond_of-All, cond_of-Any, conds_more}
use Rattle.tk_query_conditions.proofs.ReaderLemmas.{pairs_push}
use Rattle.tk_query_conditions.proofs.Prefixes.{escaped_append}

-- Characters: no byte of one that stands as it is has an escape.

record IsPlain (b : ℕ) : Type 0 where
  pub percent : b ≢ 37
  pub opening : b ≢ 40
  pub closing : b ≢ 41
  pub comma : b ≢ 44

spelled_plain : (b : ℕ) (rest : List ℕ) → IsPlain b → spelled_by b ++ rest ≡ b ∷ rest
spelled_plain b rest h = rw (ne_eqb b 37 h.percent, ne_eqb b 40 h.opening, ne_eqb b 41 h.closing, ne_eqb b 44 h.comma) refl

spelled_above : (x y : ℕ) (rest : List ℕ) → 128 ≤ y → spelled_by (y + x) ++ rest ≡ (y + x) ∷ rest
spelled_above x y rest le = spelled_plain (y + x) rest record { percent = λ e. omega arith; opening = λ e. omega arith; closing = λ e. omega arith; comma = λ e. omega arith }

by_width : (a b d : Bool) (c : ℕ) → IsPlain c
    → let e = cond a (c ∷ []) (cond b ((192 + c / 64) ∷ next c ∷ []) (cond d ((224 + c / 4096) ∷ next (c / 64) ∷ next c ∷ []) ((240 + c / 262144) ∷ next (c / 4096) ∷ next (c / 64) ∷ next c ∷ []))) in escaped e ≡ e
by_width true b d c h = spelled_plain c [] h
by_width false true d c h = spelled_above (c / 64) 192 _ (omega arith) ∙ ap (λ l. (192 + c / 64) ∷ l) (spelled_above (c % 64) 128 [] (omega arith))
by_width false false true c h = spelled_above (c / 4096) 224 _ (omega arith) ∙ ap (λ l. (224 + c / 4096) ∷ l) (spelled_above ((c / 64) % 64) 128 _ (omega arith) ∙ ap (λ l. next (c / 64) ∷ l) (spelled_above (c % 64) 128 [] (omega arith)))
by_width false false false c h =
    spelled_above (c / 262144) 240 _ (omega arith) ∙ ap (λ l. (240 + c / 262144) ∷ l) (spelled_above ((c / 4096) % 64) 128 _ (omega arith)
    ∙ ap (λ l. next (c / 4096) ∷ l) (spelled_above ((c / 64) % 64) 128 _ (omega arith) ∙ ap (λ l. next (c / 64) ∷ l) (spelled_above (c % 64) 128 [] (omega arith))))

plain_character : (c : ℕ) → IsPlain c → escaped (encode c) ≡ encode c
unfolding encode
plain_character c h = by_width (ltb c 128) (ltb c 2048) (ltb c 65536) c h

pub plain_pushed : {A E : Type 0} (r : Result A E) (old new : List ℕ) (c : ℕ) → c ≢ 37 → c ≢ 40 → c ≢ 41 → c ≢ 44 → new ≡ cond (is_ok r) (old ++ encode c) old → OnOk r (new ≡ old ++ escaped (encode c))
plain_pushed (Ok x) old new c h i j k e = e ∙ ap (λ l. old ++ l) (sym (plain_character c record { percent = h; opening = i; closing = j; comma = k }))
plain_pushed (Err x) old new c h i j k e = tt

-- one more character is written, escaped
pub character_written : (c : ℕ) (before after rest left whole : List ℕ) → before ++ escaped rest ≡ whole → rest ≡ encode c ++ left
    → after ≡ before ++ escaped (encode c) → after ++ escaped left ≡ whole
character_written c before after rest left whole i s p =
    rw p (append_assoc before (escaped (encode c)) (escaped left) ∙ ap (λ e. before ++ e) (sym (escaped_append (encode c) left))
    ∙ ap (λ r. before ++ escaped r) (sym s) ∙ i)

-- Lists: what stands between two of them.

lead_from : (cs : Conds) (c : Cond) (rest : List Condition) → lead_text (conds_from (More cs c) rest) ≡ list_text (conds_from (More cs c) rest) ++ 44 ∷ []
lead_from cs c [] = refl
lead_from cs c (m ∷ rest) = lead_from (More cs c) (cond_of m) rest

lead_at : (members : List Condition) (at : ℕ) → at ≤ length members → lead_text (conds_from Nothing (take at members)) ≡ list_text (conds_from Nothing (take at members)) ++ separator at
lead_at members zero le = refl
lead_at [] (suc n) le = absurd (omega arith)
lead_at (m ∷ members) (suc n) le = lead_from Nothing (cond_of m) (take n members)

-- one more member is written
pub member_written : (members : List Condition) (at : ℕ) (m : Condition) (start out next new : List ℕ) → at < length members → m ≡ get_or members at m
    → out ≡ start ++ list_text (conds_from Nothing (take at members)) → next ≡ out ++ separator at → new ≡ next ++ cond_text (cond_of m)
    → new ≡ start ++ list_text (conds_from Nothing (take (at + 1) members))
member_written members at m start out next new lt is e f g =
    let cs = conds_from Nothing (take at members) in
    let text = cond_text (cond_of m) in
    let more = conds_more Nothing (take at members) m in
    g ∙ ap (λ l. l ++ text) (f ∙ ap (λ l. l ++ separator at) e ∙ append_assoc start (list_text cs) (separator at) ∙ ap (λ l. start ++ l) (sym (lead_at members at (omega arith))))
    ∙ append_assoc start (lead_text cs) text
    ∙ ap (λ all. start ++ list_text all) (sym more)
    ∙ ap (λ (x : Condition). start ++ list_text (conds_from Nothing (take at members ++ x ∷ []))) is
    ∙ ap (λ ms. start ++ list_text (conds_from Nothing ms)) (sym (take_more members at m lt))

pair_lead_from : (ps : Pairs) (key value : List ℕ) (rest : List (List ℕ × List ℕ)) → pairs_lead (pairs_from (MorePairs ps key value) rest) ≡ pairs_text (pairs_from (MorePairs ps key value) rest) ++ 44 ∷ []
pair_lead_from ps key value [] = refl
pair_lead_from ps key value (p ∷ rest) = pair_lead_from (MorePairs ps key value) p.0 p.1 rest

pair_lead_at : (pairs : List (List ℕ × List ℕ)) (at : ℕ) → at ≤ length pairs → pairs_lead (pairs_from NoPairs (take at pairs)) ≡ pairs_text (pairs_from NoPairs (take at pairs)) ++ separator at
pair_lead_at pairs zero le = refl
pair_lead_at [] (suc n) le = absurd (omega arith)
pair_lead_at (p ∷ pairs) (suc n) le = pair_lead_from NoPairs p.0 p.1 (take n pairs)

-- one more pair is written
pub pair_written : (pairs : List (List ℕ × List ℕ)) (at : ℕ) (p : List ℕ × List ℕ) (start out next key mid new : List ℕ) → at < length pairs → p ≡ get_or pairs at p
    → out ≡ start ++ pairs_text (pairs_from NoPairs (take at pairs)) → next ≡ out ++ separator at
    → key ≡ next ++ escaped p.0 → mid ≡ key ++ 44 ∷ [] → new ≡ mid ++ escaped p.1
    → new ≡ start ++ pairs_text (pairs_from NoPairs (take (at + 1) pairs))
pair_written pairs at p start out next key mid new lt is e f g h k =
    let ps = pairs_from NoPairs (take at pairs) in
    let text = escaped p.0 ++ 44 ∷ escaped p.1 in
    let lead : next ≡ start ++ pairs_lead ps = f ∙ ap (λ l. l ++ separator at) e ∙ append_assoc start (pairs_text ps) (separator at) ∙ ap (λ l. start ++ l) (sym (pair_lead_at pairs at (omega arith))) in
    let whole : new ≡ next ++ text = k ∙ ap (λ l. l ++ escaped p.1) (h ∙ ap (λ l. l ++ 44 ∷ []) g) ∙ append_assoc (next ++ escaped p.0) (44 ∷ []) (escaped p.1) ∙ append_assoc next (escaped p.0) (44 ∷ escaped p.1) in
    whole ∙ ap (λ l. l ++ text) lead
    ∙ append_assoc start (pairs_lead ps) text
    ∙ ap (λ all. start ++ pairs_text all) (sym (pairs_push NoPairs (take at pairs) p.0 p.1))
    ∙ ap (λ (x : List ℕ × List ℕ). start ++ pairs_text (pairs_from NoPairs (take at pairs ++ x ∷ []))) is
    ∙ ap (λ qs. start ++ pairs_text (pairs_from NoPairs qs)) (sym (take_more pairs at p lt))

-- Conditions: a word, and what stands after it.

-- what stands after the word is written too
pub written_after : {A E : Type 0} (r : Result A E) (c : Cond) (out next new word rest : List ℕ) → next ≡ out ++ word → word ≡ word_of c → word_of c ++ rest ≡ cond_text c
    → OnOk r (new ≡ next ++ rest) → OnOk r (new ≡ out ++ cond_text c)
written_after (Ok x) c out next new word rest e f g h = h ∙ ap (λ l. l ++ rest) (e ∙ ap (λ w. out ++ w) f) ∙ append_assoc out (word_of c) rest ∙ ap (λ l. out ++ l) g
written_after (Err x) c out next new word rest e f g h = tt

pub all_text : (c : Condition) (members : Vec Condition Global) (items : List Condition) → c ≡ real.All members → items ≡ members.items
    → word_of (cond_of c) ++ (40 ∷ list_text (conds_from Nothing items) ++ 41 ∷ []) ≡ cond_text (cond_of c)
all_text c members items e f =
    let is : cond_of c ≡ All (conds_from Nothing items) = ap cond_of e ∙ cond_of-All members ∙ ap (λ xs. All (conds_from Nothing xs)) (sym f) in
    ap (λ d. word_of d ++ (40 ∷ list_text (conds_from Nothing items) ++ 41 ∷ [])) is ∙ ap cond_text (sym is)

pub any_text : (c : Condition) (members : Vec Condition Global) (items : List Condition) → c ≡ real.Any members → items ≡ members.items
    → word_of (cond_of c) ++ (40 ∷ list_text (conds_from Nothing items) ++ 41 ∷ []) ≡ cond_text (cond_of c)
any_text c members items e f =
    let is : cond_of c ≡ Any (conds_from Nothing items) = ap cond_of e ∙ cond_of-Any members ∙ ap (λ xs. Any (conds_from Nothing xs)) (sym f) in
    ap (λ d. word_of d ++ (40 ∷ list_text (conds_from Nothing items) ++ 41 ∷ [])) is ∙ ap cond_text (sym is)

kind_unescaped : (kind : Kind) → escaped (kind_text kind) ≡ kind_text kind
kind_unescaped event.Dynamic = refl
kind_unescaped event.Skipped = refl
kind_unescaped event.Started = refl
kind_unescaped event.Finished = refl
kind_unescaped event.Reporting = refl
kind_unescaped event.File = refl

-- a condition without members
pub atom_text : (c : Condition) → ((members : Vec Condition Global) → c ≡ real.All members → ⊥) → ((members : Vec Condition Global) → c ≡ real.Any members → ⊥)
    → ((member : Box Condition Global) → c ≡ real.Not member → ⊥) → word_of (cond_of c) ++ operand_text (cond_of c) ≡ cond_text (cond_of c)
atom_text (All' shape row) not_all _ _ = absurd (not_all _ (sym (roll-out-Condition (All' shape row)) ∙ ap roll-Condition (outs-All' shape row) ∙ rolls-All _))
atom_text (Any' shape row) _ not_any _ = absurd (not_any _ (sym (roll-out-Condition (Any' shape row)) ∙ ap roll-Condition (outs-Any' shape row) ∙ rolls-Any _))
atom_text (Not' position member) _ _ not_not = absurd (not_not _ (sym (roll-out-Condition (Not' position member)) ∙ ap roll-Condition (outs-Not' position member) ∙ rolls-Not _))
atom_text (real.Kind kind) _ _ _ = ap (λ text. codes "kind(" ++ text ++ 41 ∷ []) (kind_unescaped kind)
atom_text real.Test _ _ _ = refl
atom_text real.Container _ _ _ = refl
atom_text real.Engine _ _ _ = refl
atom_text (real.Id text) _ _ _ = refl
atom_text (real.Segment tag value) _ _ _ = refl
atom_text (real.Name text) _ _ _ = refl
atom_text (real.Skipped text) _ _ _ = refl
atom_text real.Started _ _ _ = refl
atom_text real.Succeeded _ _ _ = refl
atom_text (real.Failed None) _ _ _ = refl
atom_text (real.Failed (Some text)) _ _ _ = refl
atom_text (real.Aborted None) _ _ _ = refl
atom_text (real.Aborted (Some text)) _ _ _ = refl
atom_text (real.Message text) _ _ _ = refl
atom_text (real.File text) _ _ _ = refl
atom_text (real.Entry pairs) _ _ _ = refl

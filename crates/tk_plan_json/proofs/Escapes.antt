-- A character other than `~` and `/` has no escape.
use Rattle.std.proofs.Common.{◌≡◌, ◌≢◌, ℕ, ◌+◌, ◌/◌, ◌%◌, ◌≤◌, nat_eq, List, [], ◌∷◌, ◌++◌, Bool, true, false, cond, Result, Ok, Err, is_ok, OnOk, flat_map, refl, sym, ap, ◌∙◌, arith, append_assoc}
use Rattle.std.proofs.lemmas.Grind.{flat_map-append}
use Rattle.std.proofs.lemmas.Bool.Decides.{nat_tests}
use lib.Utf8.{encode, next}
use lib.Dec.{ltb}
use Rattle.tk_plan_json.specs.Checks.{escape}

not_equal : (x y : ℕ) → x ≢ y → nat_eq x y ≡ false
not_equal x y h = grind (arith, nat_tests)

pub escape_plain : (x : ℕ) → x ≢ 126 → x ≢ 47 → escape x ≡ x ∷ []
escape_plain x h k = rw (not_equal x 126 h, not_equal x 47 k) refl

escape_high : (x : ℕ) → escape (128 + x) ≡ (128 + x) ∷ []
escape_high x = let h : 128 + x ≢ 126 = omega arith in let k : 128 + x ≢ 47 = omega arith in escape_plain (128 + x) h k

escape_above : (x y : ℕ) → 128 ≤ y → escape (y + x) ≡ (y + x) ∷ []
escape_above x y m = let h : y + x ≢ 126 = omega arith in let k : y + x ≢ 47 = omega arith in escape_plain (y + x) h k

by_width : (a b d : Bool) (c : ℕ) → c ≢ 126 → c ≢ 47
    → let e = cond a (c ∷ []) (cond b ((192 + c / 64) ∷ next c ∷ []) (cond d ((224 + c / 4096) ∷ next (c / 64) ∷ next c ∷ []) ((240 + c / 262144) ∷ next (c / 4096) ∷ next (c / 64) ∷ next c ∷ []))) in flat_map escape e ≡ e
by_width true b d c h k = rw (escape_plain c h k) refl
by_width false true d c h k = rw (escape_above (c / 64) 192 (omega arith), escape_high (c % 64)) refl
by_width false false true c h k = rw (escape_above (c / 4096) 224 (omega arith), escape_high ((c / 64) % 64), escape_high (c % 64)) refl
by_width false false false c h k = rw (escape_above (c / 262144) 240 (omega arith), escape_high ((c / 4096) % 64), escape_high ((c / 64) % 64), escape_high (c % 64)) refl

plain_character : (c : ℕ) → c ≢ 126 → c ≢ 47 → flat_map escape (encode c) ≡ encode c
unfolding encode
plain_character c h k = by_width (ltb c 128) (ltb c 2048) (ltb c 65536) c h k

pub plain_pushed : {A E : Type 0} (r : Result A E) (old new : List ℕ) (c : ℕ) → c ≢ 126 → c ≢ 47 → new ≡ cond (is_ok r) (old ++ encode c) old → OnOk r (new ≡ old ++ flat_map escape (encode c))
plain_pushed (Ok x) old new c h k e = e ∙ ap (λ l. old ++ l) (sym (plain_character c h k))
plain_pushed (Err x) old new c h k e = tt

-- one more character is written, escaped
pub character_written : (c : ℕ) (before after rest left whole : List ℕ) → before ++ flat_map escape rest ≡ whole → rest ≡ encode c ++ left
    → after ≡ before ++ flat_map escape (encode c) → after ++ flat_map escape left ≡ whole
character_written c before after rest left whole i s p =
    rw p (append_assoc before (flat_map escape (encode c)) (flat_map escape left) ∙ ap (λ e. before ++ e) (sym (flat_map-append escape (encode c) left))
    ∙ ap (λ r. before ++ flat_map escape r) (sym s) ∙ i)

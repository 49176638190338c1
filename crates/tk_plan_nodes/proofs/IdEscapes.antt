-- The escapes of an id's text, one character after another.
use Rattle.std.proofs.Common.{◌≡◌, ◌≢◌, ℕ, ◌+◌, ◌/◌, ◌%◌, ◌≤◌, nat_eq, List, [], ◌∷◌, ◌++◌, Bool, true, false, cond, Result, Ok, Err, is_ok, OnOk, refl, sym, ap, ◌∙◌, arith, append_assoc}
use Rattle.std.proofs.lemmas.Grind.{flat_map-append}
use Rattle.std.proofs.lemmas.Bool.Decides.{nat_tests}
use lib.Utf8.{encode, next}
use lib.Dec.{ltb}
use Rattle.tk_ids.specs.IdText.{digits_of, spelled_by, escaped}

abbrev spelled : ℕ → List ℕ
spelled b = spelled_by b (digits_of b)

not_equal : (x y : ℕ) → x ≢ y → nat_eq x y ≡ false
not_equal x y h = grind (arith, nat_tests)

-- none of the six characters that are escaped
pub record IsPlain (x : ℕ) : Type 0 where
  pub percent_sign : x ≢ 37
  pub plus_sign : x ≢ 43
  pub open_bracket : x ≢ 91
  pub close_bracket : x ≢ 93
  pub colon : x ≢ 58
  pub slash : x ≢ 47

spelled_plain : (x : ℕ) → IsPlain x → spelled x ≡ x ∷ []
spelled_plain x p = rw (not_equal x 37 p.percent_sign, not_equal x 43 p.plus_sign, not_equal x 91 p.open_bracket, not_equal x 93 p.close_bracket, not_equal x 58 p.colon, not_equal x 47 p.slash) refl

spelled_above : (x y : ℕ) → 128 ≤ y → spelled (y + x) ≡ (y + x) ∷ []
spelled_above x y m = spelled_plain (y + x) (record { percent_sign = omega arith; plus_sign = omega arith; open_bracket = omega arith; close_bracket = omega arith; colon = omega arith; slash = omega arith })

spelled_high : (x : ℕ) → spelled (128 + x) ≡ (128 + x) ∷ []
spelled_high x = spelled_above x 128 (omega arith)

by_width : (a b d : Bool) (c : ℕ) → IsPlain c
    → let e = cond a (c ∷ []) (cond b ((192 + c / 64) ∷ next c ∷ []) (cond d ((224 + c / 4096) ∷ next (c / 64) ∷ next c ∷ []) ((240 + c / 262144) ∷ next (c / 4096) ∷ next (c / 64) ∷ next c ∷ []))) in escaped e ≡ e
by_width true b d c p = rw (spelled_plain c p) refl
by_width false true d c p = rw (spelled_above (c / 64) 192 (omega arith), spelled_high (c % 64)) refl
by_width false false true c p = rw (spelled_above (c / 4096) 224 (omega arith), spelled_high ((c / 64) % 64), spelled_high (c % 64)) refl
by_width false false false c p = rw (spelled_above (c / 262144) 240 (omega arith), spelled_high ((c / 4096) % 64), spelled_high ((c / 64) % 64), spelled_high (c % 64)) refl

plain_character : (c : ℕ) → IsPlain c → escaped (encode c) ≡ encode c
unfolding encode
plain_character c p = by_width (ltb c 128) (ltb c 2048) (ltb c 65536) c p

pub plain_pushed : {A E : Type 0} (r : Result A E) (old new : List ℕ) (c : ℕ) → IsPlain c → new ≡ cond (is_ok r) (old ++ encode c) old → OnOk r (new ≡ old ++ escaped (encode c))
plain_pushed (Ok x) old new c p e = e ∙ ap (λ l. old ++ l) (sym (plain_character c p))
plain_pushed (Err x) old new c p e = tt

-- one more character is written
pub character_written : (c : ℕ) (before after rest left whole : List ℕ) → before ++ escaped rest ≡ whole → rest ≡ encode c ++ left
    → after ≡ before ++ escaped (encode c) → after ++ escaped left ≡ whole
character_written c before after rest left whole i s p =
    rw p (append_assoc before (escaped (encode c)) (escaped left) ∙ ap (λ e. before ++ e) (sym (flat_map-append spelled (encode c) left))
    ∙ ap (λ r. before ++ escaped r) (sym s) ∙ i)

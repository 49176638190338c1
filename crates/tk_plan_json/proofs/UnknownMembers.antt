-- Members with none of some names.
use Rattle.std.proofs.Common.{◌≡◌, ◌||◌, ℕ, List, [], ◌∷◌, map, Bool, true, false, cond, Option, Some, None, String, Global, string_bytes, refl, ap, ◌∙◌}
use Rattle.std.specs.List.{list_any}
use Rattle.std.specs.Map.{keys_of}
use Rattle.std.specs.Str.{bytes_eq}
use Rattle.serde_json.specs.View.{members_view}
use Rattle.serde_json.proofs.Views.{Entry}
use Rattle.tk_plan_json.specs.Checks.{unknown_in, member_at}

abbrev pub is_known : List (List ℕ) → List ℕ → Bool
is_known names k = list_any (λ n. bytes_eq n k) names

pub list_any-map : {X Y : Type 0} (p : X → Bool) (h : Y → X) (ys : List Y) → list_any p (map h ys) ≡ list_any (λ y. p (h y)) ys
list_any-map p h [] = refl
list_any-map p h (y ∷ ys) = ap (λ b. p (h y) || b) (list_any-map p h ys)

-- the first of these names that is unknown
abbrev pub unknown_among : List (List ℕ) → List ℕ → List (String Global) → Option (List ℕ)
unknown_among names at [] = None
unknown_among names at (k ∷ ks) = cond (is_known names (string_bytes k)) (unknown_among names at ks) (Some (member_at at (string_bytes k)))

pub unknown_by_name : (names : List (List ℕ)) (at : List ℕ) (es : List Entry) → unknown_in names at (members_view es) ≡ unknown_among names at (keys_of es)
unknown_by_name names at [] = refl
unknown_by_name names at (e ∷ es) = ap (λ r. cond (is_known names (string_bytes e.0)) r (Some (member_at at (string_bytes e.0)))) (unknown_by_name names at es)

module _ (names : List (List ℕ)) (at : List ℕ) (whole : Option (List ℕ)) (left : List (String Global)) (k : String Global) (ks : List (String Global))
    (goes : whole ≡ unknown_among names at left) (split : left ≡ k ∷ ks) where
  next_by : (b : Bool) → is_known names (string_bytes k) ≡ b → whole ≡ cond b (unknown_among names at ks) (Some (member_at at (string_bytes k)))
  next_by b e = goes ∙ ap (unknown_among names at) split ∙ ap (λ c. cond c (unknown_among names at ks) (Some (member_at at (string_bytes k)))) e

  -- the next name is unknown, and so the first
  pub next_unknown : is_known names (string_bytes k) ≡ false → whole ≡ Some (member_at at (string_bytes k))
  unfolding next_by
  next_unknown e = next_by false e

  pub next_known : is_known names (string_bytes k) ≡ true → whole ≡ unknown_among names at ks
  unfolding next_by
  next_known e = next_by true e

-- An array, as the list of its items.
use Rattle.std.proofs.Common.{◌≡◌, ◌≢◌, ◌==◌, ℕ, ◌+◌, ◌<◌, List, [], ◌∷◌, length, drop, get_or, map, Option, Some, None, option_map, IfSome, Bor, cond, refl, sym, ap, ◌∙◌, arith}
use Rattle.std.proofs.lemmas.List.{drop_more}
use Rattle.serde_json.specs.Data.{Data, null, boolean, number, string, array, object, Items}
use Rattle.serde_json.specs.Find.{as_array}
use Rattle.serde_json.specs.View.{view, items_view}
use Rattle.serde_json.specs.declared.value.Value.{Value}
use Rattle.tk_plan_json.specs.Checks.{Check, list_of, items_wrong, pair_of, any_array, array_of}
use Rattle.tk_plan_json.specs.Contents.{listed}

pub list_of-items_view : (vs : List Value) → list_of (items_view vs) ≡ map view vs
list_of-items_view [] = refl
list_of-items_view (v ∷ vs) = ap (λ ds. view v ∷ ds) (list_of-items_view vs)

pub is_array : (d : Data) (ds : Items) → Some ds ≡ as_array d → d ≡ array ds
is_array null ds e = cc
is_array (boolean b) ds e = cc
is_array (number n) ds e = cc
is_array (string s) ds e = cc
is_array (array es) ds e = cc
is_array (object ms) ds e = cc

pub listed_items : (d : Data) (vs : List Value) → Some (items_view vs) ≡ as_array d → listed (Some d) ≡ map view vs
listed_items d vs e = ap (λ x. listed (Some x)) (is_array d (items_view vs) e) ∙ list_of-items_view vs

pub is_any_array : (d : Data) (vs : List Value) (at : List ℕ) → Some (items_view vs) ≡ as_array d → any_array at d ≡ None
is_any_array d vs at e = ap (any_array at) (is_array d (items_view vs) e)

pair_of_list : (check : Check) (at : List ℕ) (d : Data) (vs : List Value) → Some (items_view vs) ≡ as_array d
    → pair_of check at d ≡ cond (length (map view vs) == 2) (items_wrong check at 0 (map view vs)) (Some at)
pair_of_list check at d vs e = ap (pair_of check at) (is_array d (items_view vs) e) ∙ ap (λ ds. cond (length ds == 2) (items_wrong check at 0 ds) (Some at)) (list_of-items_view vs)

pub not_a_pair : (check : Check) (at : List ℕ) (d : Data) (vs : List Value) → Some (items_view vs) ≡ as_array d → length vs ≢ 2 → pair_of check at d ≡ Some at
not_a_pair check at d [] e h = pair_of_list check at d [] e
not_a_pair check at d (a ∷ []) e h = pair_of_list check at d (a ∷ []) e
not_a_pair check at d (a ∷ b ∷ []) e h = absurd (h refl)
not_a_pair check at d (a ∷ b ∷ x ∷ vs) e h = pair_of_list check at d (a ∷ b ∷ x ∷ vs) e ∙ grind arith

no_list : (check : Check) (at : List ℕ) (d : Data) → None ≡ as_array d → pair_of check at d ≡ Some at
no_list check at null e = refl
no_list check at (boolean b) e = refl
no_list check at (number n) e = refl
no_list check at (string s) e = refl
no_list check at (array ds) e = absurd (cc)
no_list check at (object ms) e = refl

-- no array, or one of another length than two
pub not_two : (check : Check) (at : List ℕ) (d : Data) (o : Option (Bor (List Value))) → option_map (λ vs. items_view vs.now) o ≡ as_array d → IfSome o (λ vs. length vs.now ≢ 2)
    → pair_of check at d ≡ Some at
not_two check at d None e h = no_list check at d e
not_two check at d (Some vs) e h = not_a_pair check at d vs.now e h

pub array_items : (check : Check) (at : List ℕ) (d : Data) (vs : List Value) → Some (items_view vs) ≡ as_array d → array_of check at d ≡ items_wrong check at 0 (map view vs)
array_items check at d vs e = ap (array_of check at) (is_array d (items_view vs) e) ∙ ap (items_wrong check at 0) (list_of-items_view vs)

-- the values that are left, from the next on
pub values_next : (vs : List Value) (i : ℕ) (v : Value) → i < length vs → v ≡ get_or vs i v → map view (drop i vs) ≡ view v ∷ map view (drop (i + 1) vs)
values_next vs i v h e = ap (map view) (drop_more vs i v h ∙ ap (λ y. y ∷ drop (i + 1) vs) (sym e))

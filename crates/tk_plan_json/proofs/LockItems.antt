-- The locks of a node, or its files, one after another.
use Rattle.std.proofs.Common.{◌≡◌, ℕ, ◌+◌, ◌<◌, List, [], ◌∷◌, ◌++◌, length, take, get_or, map, None, sym, ap, ◌∙◌}
use Rattle.std.proofs.lemmas.List.{take_more, map-append}
use Rattle.std.specs.Option.{option_or}
use Rattle.serde_json.specs.Data.{Data}
use Rattle.serde_json.specs.View.{view}
use Rattle.serde_json.specs.declared.value.Value.{Value}
use Rattle.tk_plan_json.specs.Checks.{Check, items_wrong, array_of, item_at}
use Rattle.tk_plan_json.specs.Contents.{json_lock}

-- the items that are left are still to be checked
pub items_next : (check : Check) (at : List ℕ) (d : Data) (i : ℕ) (left : List Data) (x : Data) (rest : List Data) → array_of check at d ≡ items_wrong check at i left
    → left ≡ x ∷ rest → check (item_at at i) x ≡ None → array_of check at d ≡ items_wrong check at (i + 1) rest
items_next check at d i left x rest g split w = g ∙ ap (items_wrong check at i) split ∙ ap (λ o. option_or o (items_wrong check at (i + 1) rest)) w

pub taken_next : {A : Type 0} (g : Data → A) (vs : List Value) (i : ℕ) (v : Value) → i < length vs → v ≡ get_or vs i v → map g (map view (take (i + 1) vs)) ≡ map g (map view (take i vs)) ++ g (view v) ∷ []
taken_next g vs i v h e =
    ap (λ l. map g (map view l)) (take_more vs i v h ∙ ap (λ x. take i vs ++ x ∷ []) (sym e))
    ∙ ap (map g) (map-append view (take i vs) (v ∷ []))
    ∙ map-append g (map view (take i vs)) (view v ∷ [])

pub locks_next : (vs : List Value) (i : ℕ) (v : Value) → i < length vs → v ≡ get_or vs i v → map json_lock (map view (take (i + 1) vs)) ≡ map json_lock (map view (take i vs)) ++ json_lock (view v) ∷ []
locks_next = taken_next json_lock

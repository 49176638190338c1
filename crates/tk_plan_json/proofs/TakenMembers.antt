-- Members that are taken out of an object.
use Rattle.std.proofs.Common.{◌≡◌, ℕ, List, [], ◌∷◌, Bool, true, false, cond, Option, Some, BTreeMap, String, Global, string_bytes, nat_cmp, is_eq, option_map, refl, sym, ap, ◌∙◌}
use Rattle.std.specs.Cmp.Lexicographic.{slice_cmp, texts_ties, bytes_decides}
use Rattle.std.specs.Map.{lookup, remove_entry}
use Rattle.std.specs.BTreeMap.{is_at}
use Rattle.serde_json.specs.Find.{get, get_member}
use Rattle.serde_json.specs.View.{view, members_view}
use Rattle.serde_json.specs.declared.value.Value.{Value, Object}
use Rattle.serde_json.proofs.Views.{Entry, view-Object, view-lookup}

-- whether an entry has this name
abbrev has_name : List ℕ → String Global → Bool
has_name name = is_at (λ k. slice_cmp nat_cmp name (string_bytes k))

one_name : (first second k : List ℕ) → (first ≡ second → ⊥) → is_eq (slice_cmp nat_cmp first k) ≡ true → is_eq (slice_cmp nat_cmp second k) ≡ true → ⊥
one_name first second k other a b = other ((bytes_decides first k).0 (texts_ties first k ∙ a) ∙ sym ((bytes_decides second k).0 (texts_ties second k ∙ b)))

past : (a b : Bool) (e : Entry) (es less : List Entry) (name : List ℕ) → (a ≡ true → b ≡ true → ⊥) → lookup (has_name name) less ≡ lookup (has_name name) es
    → has_name name e.0 ≡ b → lookup (has_name name) (cond a es (e ∷ less)) ≡ cond b (Some e.1) (lookup (has_name name) es)
past true true e es less name apart later is = absurd (apart refl refl)
past true false e es less name apart later is = refl
past false b e es less name apart later is = ap (λ c. cond c (Some e.1) (lookup (has_name name) less)) is ∙ ap (cond b (Some e.1)) later

-- the value of a name stays where another name is taken out
other_stays : (first second : List ℕ) → (first ≡ second → ⊥) → (es : List Entry) → lookup (has_name second) (remove_entry (has_name first) es) ≡ lookup (has_name second) es
other_stays first second other [] = refl
other_stays first second other (e ∷ es) =
    past (has_name first e.0) (has_name second e.0) e es _ second (one_name first second (string_bytes e.0) other) (other_stays first second other es) refl

module _ (first second : List ℕ) (object : Value) (m : BTreeMap (String Global) Value) (is : object ≡ Object m) where
  members_are : (name : List ℕ) → get_member name (members_view m.entries) ≡ get name (view object)
  members_are name = sym (ap (λ v. get name (view v)) is ∙ ap (get name) (view-Object m))

  pub first_taken : (v : Option Value) → v ≡ lookup (has_name first) m.entries → option_map view v ≡ get first (view object)
  unfolding members_are
  first_taken v e = ap (option_map view) e ∙ view-lookup first m.entries ∙ members_are first

  pub second_taken : (v : Option Value) (left : List Entry) → (first ≡ second → ⊥) → left ≡ remove_entry (has_name first) m.entries → v ≡ lookup (has_name second) left
      → option_map view v ≡ get second (view object)
  unfolding members_are
  second_taken v left other rest e =
      ap (option_map view) (e ∙ ap (lookup (has_name second)) rest ∙ other_stays first second other m.entries) ∙ view-lookup second m.entries ∙ members_are second

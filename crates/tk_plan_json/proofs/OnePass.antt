-- Members that are found in one pass over an object.
use Rattle.std.proofs.Common.{◌≡◌, ◌≢◌, ℕ, suc, codes, List, [], ◌∷◌, Bool, true, false, cond, Option, Some, None, BTreeMap, String, Global, string_bytes, nat_cmp, option_map, Bor, refl, sym, ap, ◌∙◌, subst, arith}
use Rattle.std.specs.List.{All}
use Rattle.std.specs.Str.{bytes_eq}
use Rattle.std.specs.Cmp.Lexicographic.{slice_cmp, texts_ties, bytes_decides}
use Rattle.std.specs.Map.{lookup}
use Rattle.std.specs.BTreeMap.{is_at}
use Rattle.serde_json.specs.Find.{get}
use Rattle.serde_json.specs.View.{view}
use Rattle.serde_json.specs.declared.value.Value.{Value, Object}
use Rattle.serde_json.proofs.Views.{Entry, view-Object, view-lookup}
use Rattle.tk_plan_json.specs.steps.Fields.{AreMembers}
use Rattle.tk_plan_json.specs.declared.node_members.NodeMembers.{NodeMembers}

-- whether an entry has this name
abbrev has_name : List ℕ → String Global → Bool
has_name name = is_at (λ k. slice_cmp nat_cmp name (string_bytes k))

-- the value of a name: what was found, or else what the entries that are left have
abbrev found_or : Option (Bor Value) → List ℕ → List Entry → Option Value
found_or (Some v) name left = Some v.now
found_or None name left = lookup (has_name name) left

-- a name has what was found of it, or what the entries that are left have of it
abbrev pub Slot : List Entry → List Entry → List ℕ → Option (Bor Value) → Type 0
Slot es left name o = found_or o name left ≡ lookup (has_name name) es

-- each entry is the one that its name finds
abbrev pub Alone : List Entry → List Entry → Type 0
Alone es left = All (λ e. lookup (has_name (string_bytes e.0)) es ≡ Some e.1) left

module _ (es left : List Entry) (k : String Global) (v : Value) (rest : List Entry) (split : left ≡ (k, v) ∷ rest) where
  past : (name : List ℕ) (o : Option (Bor Value)) → bytes_eq name (string_bytes k) ≡ false → found_or o name left ≡ found_or o name rest
  past name (Some w) other = refl
  past name None other = ap (lookup (has_name name)) split ∙ ap (λ b. cond b (Some v) (lookup (has_name name) rest)) (sym (texts_ties name (string_bytes k)) ∙ other)

  pub slot_past : (name : List ℕ) (o : Option (Bor Value)) → bytes_eq name (string_bytes k) ≡ false → Slot es left name o → Slot es rest name o
  unfolding past
  slot_past name o other s = sym (past name o other) ∙ s

  pub alone_here : Alone es left → lookup (has_name (string_bytes k)) es ≡ Some v
  alone_here a = subst (Alone es) split a 0 (k, v) (omega arith)

  pub alone_next : Alone es left → Alone es rest
  alone_next a = λ i d h. subst (Alone es) split a (suc i) d (omega arith)

  module _ (key : List ℕ) (is : string_bytes k ≡ key) (b : Bor Value) (here : b.now ≡ v) (a : Alone es left) where
    by : (name : List ℕ) (o : Option (Bor Value)) (same : Bool) → bytes_eq name key ≡ same → Slot es left name o → Slot es rest name (cond same (Some b) o)
    by name o true e s = ap Some here ∙ sym (alone_here a) ∙ ap (λ n. lookup (has_name n) es) (is ∙ sym ((bytes_decides name key).0 e))
    by name o false e s = slot_past name o (ap (bytes_eq name) is ∙ e) s

    -- the entry of a key was found
    pub slot_next : (name : List ℕ) (o : Option (Bor Value)) → Slot es left name o → Slot es rest name (cond (bytes_eq name key) (Some b) o)
    unfolding by
    slot_next name o s = by name o (bytes_eq name key) refl s

-- the value of a member, where all entries were looked at
module _ (value : Value) (m : BTreeMap (String Global) Value) (is : value ≡ Object m) (left : List Entry) (none : left ≡ []) where
  at_end : (name : List ℕ) (o : Option (Bor Value)) → found_or o name left ≡ option_map (λ b. b.now) o
  at_end name (Some w) = refl
  at_end name None = ap (lookup (has_name name)) none

  viewed_by : (o : Option (Bor Value)) → option_map (λ b. view b.now) o ≡ option_map view (option_map (λ b. b.now) o)
  viewed_by None = refl
  viewed_by (Some b) = refl

  pub slot_end : (name : List ℕ) (o : Option (Bor Value)) → Slot m.entries left name o → option_map (λ b. view b.now) o ≡ get name (view value)
  unfolding at_end viewed_by
  slot_end name o s =
      viewed_by o ∙ ap (option_map view) (sym (at_end name o) ∙ s) ∙ view-lookup name m.entries ∙ sym (ap (λ v. get name (view v)) is ∙ ap (get name) (view-Object m))

-- what was found of a node's members, where these entries are left
pub record FoundSoFar (es left : List Entry) (m : NodeMembers) : Type 0 where
  pub dtype : Slot es left (codes "type") m.dtype
  pub segment : Slot es left (codes "segment") m.segment
  pub name : Slot es left (codes "name") m.name
  pub mode : Slot es left (codes "mode") m.mode
  pub isolated : Slot es left (codes "isolated") m.isolated
  pub locks : Slot es left (codes "locks") m.locks
  pub skip : Slot es left (codes "skip") m.skip
  pub result : Slot es left (codes "result") m.result
  pub entries : Slot es left (codes "entries") m.entries
  pub children : Slot es left (codes "children") m.children
  pub dynamic : Slot es left (codes "dynamic") m.dynamic
  pub alone : Alone es left

-- what was found, with the entry of a key
abbrev pub with_entry : List ℕ → Bor Value → NodeMembers → NodeMembers
with_entry key b m = record {
  value = m.value;
  dtype = cond (bytes_eq (codes "type") key) (Some b) m.dtype;
  segment = cond (bytes_eq (codes "segment") key) (Some b) m.segment;
  name = cond (bytes_eq (codes "name") key) (Some b) m.name;
  mode = cond (bytes_eq (codes "mode") key) (Some b) m.mode;
  isolated = cond (bytes_eq (codes "isolated") key) (Some b) m.isolated;
  locks = cond (bytes_eq (codes "locks") key) (Some b) m.locks;
  skip = cond (bytes_eq (codes "skip") key) (Some b) m.skip;
  result = cond (bytes_eq (codes "result") key) (Some b) m.result;
  entries = cond (bytes_eq (codes "entries") key) (Some b) m.entries;
  children = cond (bytes_eq (codes "children") key) (Some b) m.children;
  dynamic = cond (bytes_eq (codes "dynamic") key) (Some b) m.dynamic;
}

module _ (es left : List Entry) (k : String Global) (v : Bor Value) (rest : List Entry) (split : left ≡ (k, v.now) ∷ rest) (m : NodeMembers) (f : FoundSoFar es left m) where
  pub found_next : (key : List ℕ) → string_bytes k ≡ key → FoundSoFar es rest (with_entry key v m)
  found_next key is = record {
    dtype = slot_next es left k v.now rest split key is v refl f.alone (codes "type") m.dtype f.dtype;
    segment = slot_next es left k v.now rest split key is v refl f.alone (codes "segment") m.segment f.segment;
    name = slot_next es left k v.now rest split key is v refl f.alone (codes "name") m.name f.name;
    mode = slot_next es left k v.now rest split key is v refl f.alone (codes "mode") m.mode f.mode;
    isolated = slot_next es left k v.now rest split key is v refl f.alone (codes "isolated") m.isolated f.isolated;
    locks = slot_next es left k v.now rest split key is v refl f.alone (codes "locks") m.locks f.locks;
    skip = slot_next es left k v.now rest split key is v refl f.alone (codes "skip") m.skip f.skip;
    result = slot_next es left k v.now rest split key is v refl f.alone (codes "result") m.result f.result;
    entries = slot_next es left k v.now rest split key is v refl f.alone (codes "entries") m.entries f.entries;
    children = slot_next es left k v.now rest split key is v refl f.alone (codes "children") m.children f.children;
    dynamic = slot_next es left k v.now rest split key is v refl f.alone (codes "dynamic") m.dynamic f.dynamic;
    alone = alone_next es left k v.now rest split f.alone;
  }

  -- the entry has none of the names
  pub found_past : bytes_eq (codes "type") (string_bytes k) ≡ false → bytes_eq (codes "segment") (string_bytes k) ≡ false → bytes_eq (codes "name") (string_bytes k) ≡ false → bytes_eq (codes "mode") (string_bytes k) ≡ false → bytes_eq (codes "isolated") (string_bytes k) ≡ false → bytes_eq (codes "locks") (string_bytes k) ≡ false → bytes_eq (codes "skip") (string_bytes k) ≡ false → bytes_eq (codes "result") (string_bytes k) ≡ false → bytes_eq (codes "entries") (string_bytes k) ≡ false → bytes_eq (codes "children") (string_bytes k) ≡ false → bytes_eq (codes "dynamic") (string_bytes k) ≡ false → FoundSoFar es rest m
  found_past no_dtype no_segment no_name no_mode no_isolated no_locks no_skip no_result no_entries no_children no_dynamic = record {
    dtype = slot_past es left k v.now rest split (codes "type") m.dtype no_dtype f.dtype;
    segment = slot_past es left k v.now rest split (codes "segment") m.segment no_segment f.segment;
    name = slot_past es left k v.now rest split (codes "name") m.name no_name f.name;
    mode = slot_past es left k v.now rest split (codes "mode") m.mode no_mode f.mode;
    isolated = slot_past es left k v.now rest split (codes "isolated") m.isolated no_isolated f.isolated;
    locks = slot_past es left k v.now rest split (codes "locks") m.locks no_locks f.locks;
    skip = slot_past es left k v.now rest split (codes "skip") m.skip no_skip f.skip;
    result = slot_past es left k v.now rest split (codes "result") m.result no_result f.result;
    entries = slot_past es left k v.now rest split (codes "entries") m.entries no_entries f.entries;
    children = slot_past es left k v.now rest split (codes "children") m.children no_children f.children;
    dynamic = slot_past es left k v.now rest split (codes "dynamic") m.dynamic no_dynamic f.dynamic;
    alone = alone_next es left k v.now rest split f.alone;
  }

-- all members were found
pub found_all : (m : NodeMembers) (o : BTreeMap (String Global) Value) → m.value.now ≡ Object o → (es left : List Entry) → es ≡ o.entries → left ≡ [] → FoundSoFar es left m → AreMembers m
found_all m o is es left all none f = record {
  dtype = slot_end m.value.now o is left none (codes "type") m.dtype (f.dtype ∙ ap (lookup (has_name (codes "type"))) all);
  segment = slot_end m.value.now o is left none (codes "segment") m.segment (f.segment ∙ ap (lookup (has_name (codes "segment"))) all);
  name = slot_end m.value.now o is left none (codes "name") m.name (f.name ∙ ap (lookup (has_name (codes "name"))) all);
  mode = slot_end m.value.now o is left none (codes "mode") m.mode (f.mode ∙ ap (lookup (has_name (codes "mode"))) all);
  isolated = slot_end m.value.now o is left none (codes "isolated") m.isolated (f.isolated ∙ ap (lookup (has_name (codes "isolated"))) all);
  locks = slot_end m.value.now o is left none (codes "locks") m.locks (f.locks ∙ ap (lookup (has_name (codes "locks"))) all);
  skip = slot_end m.value.now o is left none (codes "skip") m.skip (f.skip ∙ ap (lookup (has_name (codes "skip"))) all);
  result = slot_end m.value.now o is left none (codes "result") m.result (f.result ∙ ap (lookup (has_name (codes "result"))) all);
  entries = slot_end m.value.now o is left none (codes "entries") m.entries (f.entries ∙ ap (lookup (has_name (codes "entries"))) all);
  children = slot_end m.value.now o is left none (codes "children") m.children (f.children ∙ ap (lookup (has_name (codes "children"))) all);
  dynamic = slot_end m.value.now o is left none (codes "dynamic") m.dynamic (f.dynamic ∙ ap (lookup (has_name (codes "dynamic"))) all);
}

pub is_key : (k : String Global) (key text : List ℕ) → text ≡ string_bytes k → text ≡ key → string_bytes k ≡ key
is_key k key text t e = sym t ∙ e

pub is_other : (k : String Global) (key text : List ℕ) → text ≡ string_bytes k → text ≢ key → bytes_eq key (string_bytes k) ≡ false
is_other k key text t other = decided (bytes_eq key (string_bytes k)) refl
  where
    decided : (c : Bool) → bytes_eq key (string_bytes k) ≡ c → bytes_eq key (string_bytes k) ≡ false
    decided false h = h
    decided true h = absurd (other (t ∙ sym ((bytes_decides key (string_bytes k)).0 h)))

-- no entry was looked at
abbrev pub none_found : Bor Value → NodeMembers
none_found value = record {
  value = value;
  dtype = None;
  segment = None;
  name = None;
  mode = None;
  isolated = None;
  locks = None;
  skip = None;
  result = None;
  entries = None;
  children = None;
  dynamic = None;
}

pub found_first : (m : BTreeMap (String Global) Value) (es : List Entry) (value : Bor Value) → es ≡ m.entries → Alone m.entries m.entries → FoundSoFar es es (none_found value)
found_first m es value is a = record {
  dtype = refl;
  segment = refl;
  name = refl;
  mode = refl;
  isolated = refl;
  locks = refl;
  skip = refl;
  result = refl;
  entries = refl;
  children = refl;
  dynamic = refl;
  alone = subst (λ l. Alone l l) (sym is) a;
}

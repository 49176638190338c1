-- The descriptors that have a child, and the texts of their ids.
use Rattle.std.proofs.Common.{◌≡◌, ℕ, zero, suc, ◌+◌, ◌-◌, ◌<◌, ◌≤◌, ◌⊎◌, inl, inr, ⊎_elim, Bool, true, false, cond, ◌&&◌, List, [], ◌∷◌, ◌++◌, length, get_or, Option, Some, None, nat_eq, refl, sym, ap, ◌∙◌, subst, arith, eqb-true}
use Rattle.std.specs.Prelude.{◌==◌, if◌then◌else◌, slice_get}
use Rattle.std.specs.List.{Contains}
use Rattle.std.specs.Option.{option_or}
use Rattle.std.specs.Cmp.Lexicographic.{bytes_decides, pointwise}
use Rattle.std.proofs.lemmas.Bool.{cases_lt, true≢false}
use Rattle.std.proofs.lemmas.List.{take_more, take_all, length-append}
use Rattle.std.proofs.lemmas.Option.{same_Some, none-some}
use Rattle.tk_ids.specs.IdText.{SegmentView, IsId, id_text, parent_of}
use Rattle.tk_ids.specs.declared.descriptors.Descriptor.{Descriptor}
use Rattle.tk_ids.proofs.ReadingLemmas.{text_is_unique}
use Rattle.tk_ids.specs.declared.locks.Lock.{Lock}
use Rattle.tk_events.specs.Event.{is_lawful}
use Rattle.tk_events.specs.declared.kinds.Kind.{Kind}
use Rattle.tk_events.specs.declared.kinds.Kind.TheVariants.{Dynamic}
use Rattle.tk_events.specs.declared.kinds.Kind.TheVariants as kind
use Rattle.tk_events.specs.declared.payloads.Payload.{Payload}
use Rattle.tk_events.specs.declared.payloads.Payload.TheVariants as payload
use Rattle.tk_events.specs.declared.events.Entry.{Entry}
use Rattle.tk_record.specs.Entries.{of_kind, described, registered, desc_in, desc}
use Rattle.tk_record.specs.Recorded.{Recorded}
use Rattle.tk_record.specs.Record.{IsRecord}
use Rattle.tk_query_locks.specs.Conflicts.{HasChild, Writes}
use Rattle.tk_query_locks.specs.declared.parents.Parents.{Parents}
use Rattle.tk_query_locks.specs.steps.Parents.{AreParents, AreParentsOnly, HasChildUnder, HasParentOf, IsParentText, IsUnwritten, has_text}
use Rattle.tk_query.proofs.AnswerIsUnique.{within_list}
use Rattle.tk_ids.proofs.ParentIds.{parent_of-child}

-- an entry registers the descriptor under the key
pub record IsRegistered (es : List Entry) (key : ℕ) (d : Descriptor) : Type 0 where
  pub position : ℕ
  pub entry : Entry
  pub stands : slice_get es position ≡ Some entry
  pub dynamic : of_kind Dynamic entry ≡ true
  pub of_key : entry.event.key ≡ key
  pub describes : described entry.event.payload ≡ Some d

registered_here : (e : Entry) (es : List Entry) (key : ℕ) (d : Descriptor) (dynamic same : Bool) → of_kind Dynamic e ≡ dynamic → (e.event.key == key) ≡ same → (if dynamic && same then described e.event.payload else None) ≡ Some d → IsRegistered (e ∷ es) key d
registered_here e es key d true true is same some = record {
  position = 0;
  entry = e;
  stands = refl;
  dynamic = is;
  of_key = eqb-true e.event.key key same;
  describes = some;
}
registered_here e es key d true false is same some = absurd (none-some d some)
registered_here e es key d false same is at some = absurd (none-some d some)

registered_later : (e : Entry) (es : List Entry) (key : ℕ) (d : Descriptor) → IsRegistered es key d → IsRegistered (e ∷ es) key d
registered_later e es key d r = record {
  position = suc r.position;
  entry = r.entry;
  stands = r.stands;
  dynamic = r.dynamic;
  of_key = r.of_key;
  describes = r.describes;
}

-- what has a registered descriptor is registered by an entry
pub registered_by : (es : List Entry) (key : ℕ) (d : Descriptor) → desc_in es key ≡ Some d → IsRegistered es key d
registered_by [] key d is = absurd (none-some d is)
registered_by (e ∷ es) key d is = by (registered key e) refl is (registered_by es key d)
  where
    by : (o : Option Descriptor) → registered key e ≡ o → option_or o (desc_in es key) ≡ Some d →
        (desc_in es key ≡ Some d → IsRegistered es key d) → IsRegistered (e ∷ es) key d
    by (Some x) here some later =
        registered_here e es key d (of_kind Dynamic e) (e.event.key == key) refl refl (here ∙ some)
    by None here some later = registered_later e es key d (later some)

-- a key's descriptor is static, or registered by an entry
pub static_or_registered : (r : Recorded) (key : ℕ) (d : Descriptor) → desc r key ≡ Some d → (slice_get r.table key ≡ Some d) ⊎ IsRegistered r.entries key d
static_or_registered r key d is = by (slice_get r.table key) refl is
  where
    by : (o : Option Descriptor) → slice_get r.table key ≡ o → option_or o (desc_in r.entries key) ≡ Some d → (slice_get r.table key ≡ Some d) ⊎ IsRegistered r.entries key d
    by (Some x) here some = inl (here ∙ some)
    by None here some = inr (registered_by r.entries key d some)

-- an id of more than one segment is the one above it and a segment more
more_than_parent : (id : List SegmentView) (d : SegmentView) → 1 < length id → id ≡ parent_of id ++ get_or id (length id - 1) d ∷ []
more_than_parent id d more =
    sym (take_all (length id - 1 + 1) id (omega arith)) ∙ take_more id (length id - 1) d (omega arith)

module _ (r : Recorded) (parents : Parents) (are : AreParents r parents) (id : List SegmentView) (is_id : IsId id) where
  pub child_from_text : has_text parents (id_text id) ≡ true → HasChild r id
  child_from_text has =
      let under = are.only (id_text id) has in
      let same : id ≡ parent_of under.child.id = text_is_unique id (parent_of under.child.id) is_id under.parent.id under.parent.spells in
      let d : SegmentView = record { tag = []; value = [] } in
      record {
        key = under.key;
        child = under.child;
        segment = get_or under.child.id (length under.child.id - 1) d;
        described = under.described;
        below = more_than_parent under.child.id d under.parent.below
            ∙ ap (λ (l : List SegmentView). l ++ get_or under.child.id (length under.child.id - 1) d ∷ []) (sym same);
      }

  pub text_from_child : HasChild r id → has_text parents (id_text id) ≡ true
  text_from_child has =
      let above : parent_of has.child.id ≡ id = ap parent_of has.below ∙ parent_of-child id has.segment in
      let size : length has.child.id ≡ length id + 1 = ap length has.below ∙ length-append id (has.segment ∷ []) in
      let some = is_id.0 in
      are.each has.key (id_text id) has.child has.described (record {
        below = omega (arith, size, some);
        id = subst IsId (sym above) is_id;
        spells = ap id_text (sym above);
      })

-- one text more, that of a parent
pub only_more : (r : Recorded) (old new : Parents) (key : ℕ) (d : Descriptor) (value : List ℕ) → AreParentsOnly r old → desc r key ≡ Some d → IsParentText value d →
    ((text : List ℕ) → has_text new text ≡ cond (pointwise nat_eq value text) true (has_text old text)) → AreParentsOnly r new
only_more r old new key d value only described is updates text has = by (pointwise nat_eq value text) refl (sym (updates text) ∙ has)
  where
    by : (b : Bool) → pointwise nat_eq value text ≡ b → cond b true (has_text old text) ≡ true → HasChildUnder r text
    by true same e = record {
      key = key;
      child = d;
      described = described;
      parent = subst (λ t. IsParentText t d) ((bytes_decides value text).0 same) is;
    }
    by false other e = only text e

-- what has its text keeps it
pub parent_kept : (r : Recorded) (old new : Parents) (key : ℕ) → ((text : List ℕ) → has_text old text ≡ true → has_text new text ≡ true) → HasParentOf r old key → HasParentOf r new key
parent_kept r old new key kept has text d described is = kept text (has text d described is)

-- the texts of the parents of the static descriptors before a key
pub record AreStatics (r : Recorded) (parents : Parents) (before : ℕ) : Type 0 where
  pub only : AreParentsOnly r parents
  pub each : (key : ℕ) → key < before → HasParentOf r parents key

-- the texts of the parents of the static descriptors, and of those that entries before a position
-- register
pub record AreRegistered (r : Recorded) (parents : Parents) (before : ℕ) : Type 0 where
  pub only : AreParentsOnly r parents
  pub statics : (key : ℕ) → key < length r.table → HasParentOf r parents key
  pub each : (i : ℕ) (e : Entry) → i < before → slice_get r.entries i ≡ Some e → of_kind Dynamic e ≡ true → HasParentOf r parents e.event.key

pub statics_more : (r : Recorded) (old new : Parents) (key : ℕ) → AreStatics r old key → AreParentsOnly r new →
    ((text : List ℕ) → has_text old text ≡ true → has_text new text ≡ true) → HasParentOf r new key → AreStatics r new (key + 1)
statics_more r old new key are only kept own = record {
  only = only;
  each = λ k lt. ⊎_elim {C = HasParentOf r new k}
      (λ (before : k < key). parent_kept r old new k kept (are.each k before))
      (λ (from : key ≤ k). let same : key ≡ k = omega arith in subst (HasParentOf r new) same own)
      (cases_lt k key);
}

pub registered_first : (r : Recorded) (parents : Parents) (count : ℕ) → AreStatics r parents count → length r.table ≤ count → AreRegistered r parents 0
registered_first r parents count are all = record {
  only = are.only;
  statics = λ key lt. are.each key (omega arith);
  each = λ i e lt at dynamic. absurd (omega arith);
}

pub registered_more : (r : Recorded) (old new : Parents) (position : ℕ) → AreRegistered r old position → AreParentsOnly r new →
    ((text : List ℕ) → has_text old text ≡ true → has_text new text ≡ true) →
    ((e : Entry) → slice_get r.entries position ≡ Some e → of_kind Dynamic e ≡ true → HasParentOf r new e.event.key) → AreRegistered r new (position + 1)
registered_more r old new position are only kept own = record {
  only = only;
  statics = λ key lt. parent_kept r old new key kept (are.statics key lt);
  each = λ i e lt at dynamic. ⊎_elim {C = HasParentOf r new e.event.key}
      (λ (before : i < position). parent_kept r old new e.event.key kept (are.each i e before at dynamic))
      (λ (from : position ≤ i). let same : i ≡ position = omega arith in own e (subst (λ n. slice_get r.entries n ≡ Some e) same at) dynamic)
      (cases_lt i position);
}

pub parents_all : (r : Recorded) (parents : Parents) (count : ℕ) → AreRegistered r parents count → length r.entries ≤ count → AreParents r parents
parents_all r parents count are all = record {
  only = are.only;
  each = λ key text d described is. ⊎_elim {C = has_text parents text ≡ true}
      (λ (static : slice_get r.table key ≡ Some d). are.statics key (within_list r.table key d static) text d described is)
      (λ (by : IsRegistered r.entries key d).
      let lt = within_list r.entries by.position by.entry by.stands in
      let of_key = by.of_key in
      subst (HasParentOf r parents) of_key (are.each by.position by.entry (omega arith) by.stands by.dynamic) text d described is)
      (static_or_registered r key d described);
}

no_lock : (locks : List Lock) → (length locks == 0) ≡ true → locks ≡ []
no_lock [] e = refl
no_lock (l ∷ locks) e = let same = eqb-true (length (l ∷ locks)) 0 e in absurd (omega (arith, same))

-- a descriptor in a lawful registration has no locks
lawful_locks : (k : Kind) (p : Payload) (d : Descriptor) → described p ≡ Some d → is_lawful k p ≡ true → d.locks ≡ []
lawful_locks k payload.Nothing d is ok = absurd (none-some d is)
lawful_locks k (payload.Reason text) d is ok = absurd (none-some d is)
lawful_locks k (payload.Outcome outcome) d is ok = absurd (none-some d is)
lawful_locks k (payload.Report pairs) d is ok = absurd (none-some d is)
lawful_locks k (payload.Path path) d is ok = absurd (none-some d is)
lawful_locks kind.Dynamic (payload.Described x) d is ok =
    subst (λ (y : Descriptor). y.locks ≡ []) (same_Some x d is) (no_lock x.locks ok)
lawful_locks kind.Started (payload.Described x) d is ok = absurd (true≢false (sym ok))
lawful_locks kind.Skipped (payload.Described x) d is ok = absurd (true≢false (sym ok))
lawful_locks kind.Finished (payload.Described x) d is ok = absurd (true≢false (sym ok))
lawful_locks kind.Reporting (payload.Described x) d is ok = absurd (true≢false (sym ok))
lawful_locks kind.File (payload.Described x) d is ok = absurd (true≢false (sym ok))

place_is : (es : List Entry) (i : ℕ) (e : Entry) → slice_get es i ≡ Some e → get_or es i e ≡ e
place_is [] i e at = absurd (none-some e at)
place_is (x ∷ es) zero e at = same_Some x e at
place_is (x ∷ es) (suc i) e at = place_is es i e at

-- a descriptor that an entry registers has no locks
no_locks : (r : Recorded) (key : ℕ) (d : Descriptor) → IsRecord r → IsRegistered r.entries key d → d.locks ≡ []
no_locks r key d is by =
    lawful_locks by.entry.event.kind by.entry.event.payload d by.describes
    (subst (λ (e : Entry). is_lawful e.event.kind e.event.payload ≡ true) (place_is r.entries by.position by.entry by.stands)
    (is.lawful by.position by.entry (within_list r.entries by.position by.entry by.stands)))

-- a descriptor with a lock is static
pub lock_within : (r : Recorded) (key : ℕ) (d : Descriptor) → IsRecord r → desc r key ≡ Some d → {k : Lock} → Contains d.locks k → key < length r.table
lock_within r key d is described has = ⊎_elim {C = key < length r.table}
    (λ (static : slice_get r.table key ≡ Some d). within_list r.table key d static)
    (λ (by : IsRegistered r.entries key d). absurd (let lt = has.1 in let size = ap length (no_locks r key d is by) in omega arith))
    (static_or_registered r key d described)

-- where no static descriptor holds a lock for writing, none does
pub unwritten : (r : Recorded) (name : List ℕ) (count : ℕ) → IsRecord r →
    ((key : ℕ) (d : Descriptor) → key < count → desc r key ≡ Some d → ¬ Writes name d) →
    length r.table ≤ count → IsUnwritten r name
unwritten r name count is none all key d described writes =
    let within = lock_within r key d is described writes in
    none key d (omega arith) described writes

-- The keys of ids: what a look-up finds, and what a registration adds.
use Rattle.std.proofs.Common.{◌≡◌, ℕ, zero, suc, ◌⊎◌, inl, inr, ⊎_elim, Bool, true, false, ◌&&◌, List, [], ◌∷◌, Option, Some, None, refl, sym, ap, ◌∙◌, subst, eqb-true}
use Rattle.std.specs.Prelude.{◌==◌, if◌then◌else◌, bytes_eq, slice_get}
use Rattle.std.specs.Option.{option_or}
use Rattle.std.proofs.lemmas.Option.{same_Some, none-some}
use Rattle.std.proofs.lemmas.Slice.Eq.{bytes_eq-Decides}
use Rattle.tk_ids.specs.IdText.{SegmentView, IsId, id_text}
use Rattle.tk_ids.specs.Table as table
use Rattle.tk_ids.specs.Table.{ids_of, AreDifferent}
use Rattle.tk_ids.specs.declared.descriptors.Descriptor.{Descriptor}
use Rattle.tk_ids.proofs.ReadingLemmas.{text_is_unique}
use Rattle.tk_events.specs.declared.kinds.Kind.TheVariants.{Dynamic}
use Rattle.tk_events.specs.declared.events.Entry.{Entry}
use Rattle.tk_record.specs.Entries.{of_kind, described, registered, desc_in, desc, with_entry}
use Rattle.tk_record.specs.Recorded.{Recorded, without_entries}
use Rattle.tk_record.proofs.Registrations.{desc_more}
use Rattle.tk_query_lifecycle.specs.Lifecycle.{HasId}
use Rattle.tk_query_lifecycle.specs.steps.KeyStates.{key_under}
use Rattle.tk_query_lifecycle.specs.steps.Progress.{AreIds, AreNoted, IsFound}
use Rattle.tk_query_lifecycle.proofs.FirstEntries.{has_id_more, one_id}

-- the id of a static descriptor
id_at : (ds : List Descriptor) (key : ℕ) (id : List SegmentView) → slice_get (ids_of ds) key ≡ Some id → (d : Descriptor) × (slice_get ds key ≡ Some d) × (d.id ≡ id)
id_at [] key id at = absurd (none-some id at)
id_at (d ∷ ds) zero id at = (d, refl, same_Some d.id id at)
id_at (d ∷ ds) (suc key) id at = id_at ds key id at

pub at_id : (ds : List Descriptor) (key : ℕ) (d : Descriptor) → slice_get ds key ≡ Some d → slice_get (ids_of ds) key ≡ Some d.id
at_id [] key d at = absurd (none-some d at)
at_id (x ∷ ds) zero d at = ap (λ (o : Descriptor). Some o.id) (same_Some x d at)
at_id (x ∷ ds) (suc key) d at = at_id ds key d at

pub static_desc : (r : Recorded) (key : ℕ) (d : Descriptor) → slice_get r.table key ≡ Some d → desc r key ≡ Some d
static_desc r key d is = ap (λ o. option_or o (desc_in r.entries key)) is

pub found_static : (r : Recorded) (ds : List Descriptor) (id : List SegmentView) (key : ℕ) → r.table ≡ ds → slice_get (ids_of ds) key ≡ Some id → HasId r key id
found_static r ds id key same at =
    let d = id_at ds key id at in
    record { descriptor = d.0; described = static_desc r key d.0 (ap (λ l. slice_get l key) same ∙ d.1); id_is = d.2 }

pub found_registered : (r : Recorded) (ds : List Descriptor) (ids : List (List ℕ × ℕ)) (id : List SegmentView) (found : Option ℕ) → r.table ≡ ds → AreIds r ids → ¬ table.HasId ds id → IsId id → found ≡ key_under ids (id_text id) → IsFound r id found
found_registered r ds ids id (Some key) same are static is_id is = are.some id key is_id (sym is)
found_registered r ds ids id None same are static is_id is = λ key h.
    let d = are.none id key is_id (sym is) h in
    let own : h.descriptor ≡ d.0 = same_Some h.descriptor d.0 (sym h.described ∙ static_desc r key d.0 d.1) in
    let id_is : d.0.id ≡ id = sym (ap (λ (x : Descriptor). x.id) own) ∙ h.id_is in
    static (key, at_id ds key d.0 (ap (λ l. slice_get l key) (sym same) ∙ d.1) ∙ ap (λ i. Some i) id_is)

-- a record without an entry
pub ids_first : (ds : List Descriptor) (ids : List (List ℕ × ℕ)) → ids ≡ [] → AreDifferent ds → AreIds (without_entries ds) ids
ids_first ds ids empty different = record {
  some = λ id key is_id under. absurd (none-some key (ap (λ l. key_under l (id_text id)) (sym empty) ∙ under));
  none = λ id key is_id under h. (h.descriptor, in_option (slice_get ds key) h.descriptor h.described);
  unique = λ id j k h g. different j k id (id_in j id h) (id_in k id g);
}
  where
    in_option : (o : Option Descriptor) (d : Descriptor) → option_or o None ≡ Some d → o ≡ Some d
    in_option None d is = is
    in_option (Some x) d is = is

    id_in : (key : ℕ) (id : List SegmentView) → HasId (without_entries ds) key id → slice_get (ids_of ds) key ≡ Some id
    id_in key id h = at_id ds key h.descriptor (in_option (slice_get ds key) h.descriptor h.described) ∙ ap (λ i. Some i) h.id_is

-- a descriptor after an event was known before it, or is the one that the event registers
pub known_or_new : (past : Recorded) (e : Entry) (key : ℕ) (id : List SegmentView) → HasId (with_entry past e) key id → HasId past key id ⊎ ((of_kind Dynamic e ≡ true) × (e.event.key ≡ key))
known_or_new past e key id h = by (desc past key) refl (sym (desc_more past e key) ∙ h.described)
  where
    new : (dynamic same : Bool) → of_kind Dynamic e ≡ dynamic → (e.event.key == key) ≡ same → (if dynamic && same then described e.event.payload else None) ≡ Some h.descriptor → (of_kind Dynamic e ≡ true) × (e.event.key ≡ key)
    new true true is same some = (is, eqb-true e.event.key key same)
    new true false is same some = absurd (none-some h.descriptor some)
    new false same is at some = absurd (none-some h.descriptor some)

    by : (o : Option Descriptor) → desc past key ≡ o → option_or (desc past key) (registered key e) ≡ Some h.descriptor → HasId past key id ⊎ ((of_kind Dynamic e ≡ true) × (e.event.key ≡ key))
    by (Some d) is some = inl (record { descriptor = d; described = is; id_is = ap (λ (x : Descriptor). x.id) (same_Some d h.descriptor (sym (ap (λ o. option_or o (registered key e)) is) ∙ some)) ∙ h.id_is })
    by None is some = inr (new (of_kind Dynamic e) (e.event.key == key) refl refl (sym (ap (λ o. option_or o (registered key e)) is) ∙ some))

module _ (past : Recorded) (e : Entry) (own : List SegmentView) (ids new : List (List ℕ × ℕ)) (are : AreIds past ids)
    (its : HasId (with_entry past e) e.event.key own) (own_id : IsId own) (noted : AreNoted ids new e own)
    (fresh : of_kind Dynamic e ≡ true → (key : ℕ) → ¬ HasId past key own) where
  some_more : (id : List SegmentView) (key : ℕ) → IsId id → (dynamic same : Bool) → of_kind Dynamic e ≡ dynamic → bytes_eq (id_text id) (id_text own) ≡ same
      → (if dynamic && same then Some e.event.key else key_under ids (id_text id)) ≡ Some key → HasId (with_entry past e) key id
  some_more id key is_id true true dynamic same some =
      let text = (bytes_eq-Decides (id_text id) (id_text own)).0 same in
      subst (λ k. HasId (with_entry past e) k id) (same_Some e.event.key key some)
      (subst (HasId (with_entry past e) e.event.key) (sym (text_is_unique id own is_id own_id text)) its)
  some_more id key is_id true false dynamic same some = has_id_more past e key id (are.some id key is_id some)
  some_more id key is_id false same dynamic is some = has_id_more past e key id (are.some id key is_id some)

  old_none : (id : List SegmentView) (dynamic same : Bool) → (if dynamic && same then Some e.event.key else key_under ids (id_text id)) ≡ None → key_under ids (id_text id) ≡ None
  old_none id true true none = absurd (none-some e.event.key (sym none))
  old_none id true false none = none
  old_none id false same none = none

  same_text : (id : List SegmentView) → id ≡ own → bytes_eq (id_text id) (id_text own) ≡ true
  same_text id is = (bytes_eq-Decides (id_text id) (id_text own)).1 (ap id_text is)

  none_more : (id : List SegmentView) (key : ℕ) → IsId id → key_under new (id_text id) ≡ None → HasId (with_entry past e) key id → (d : Descriptor) × (slice_get past.table key ≡ Some d)
  none_more id key is_id under h =
      let clear = sym (noted (id_text id)) ∙ under in
      ⊎_elim {C = (d : Descriptor) × (slice_get past.table key ≡ Some d)}
      (λ (known : HasId past key id). are.none id key is_id (old_none id (of_kind Dynamic e) (bytes_eq (id_text id) (id_text own)) clear) known)
      (λ (made : (of_kind Dynamic e ≡ true) × (e.event.key ≡ key)).
      let is : id ≡ own = one_id (with_entry past e) key id own h (subst (λ k. HasId (with_entry past e) k own) made.1 its) in
      absurd (none-some e.event.key (sym clear ∙ ap (λ b. if b && bytes_eq (id_text id) (id_text own) then Some e.event.key else key_under ids (id_text id)) made.0
      ∙ ap (λ b. if b then Some e.event.key else key_under ids (id_text id)) (same_text id is))))
      (known_or_new past e key id h)

  not_both : (id : List SegmentView) (j k : ℕ) → HasId past j id → HasId (with_entry past e) k id → (of_kind Dynamic e ≡ true) × (e.event.key ≡ k) → ⊥
  not_both id j k known h made =
      let is : id ≡ own = one_id (with_entry past e) k id own h (subst (λ x. HasId (with_entry past e) x own) made.1 its) in
      fresh made.0 j (subst (HasId past j) is known)

  pub ids_more : AreIds (with_entry past e) new
  ids_more = record {
    some = λ id key is_id under. some_more id key is_id (of_kind Dynamic e) (bytes_eq (id_text id) (id_text own)) refl refl (sym (noted (id_text id)) ∙ under);
    none = none_more;
    unique = λ id j k h g. ⊎_elim {C = j ≡ k}
        (λ (a : HasId past j id). ⊎_elim {C = j ≡ k}
        (λ (b : HasId past k id). are.unique id j k a b)
        (λ (b : (of_kind Dynamic e ≡ true) × (e.event.key ≡ k)). absurd (not_both id j k a g b))
        (known_or_new past e k id g))
        (λ (a : (of_kind Dynamic e ≡ true) × (e.event.key ≡ j)). ⊎_elim {C = j ≡ k}
        (λ (b : HasId past k id). absurd (not_both id k j b h a))
        (λ (b : (of_kind Dynamic e ≡ true) × (e.event.key ≡ k)). sym a.1 ∙ b.1)
        (known_or_new past e k id g))
        (known_or_new past e j id h);
  }

-- The first entries of a record, one more entry, and the descriptors that they have.
use Rattle.std.proofs.Common.{◌≡◌, ℕ, zero, suc, ◌+◌, Bool, true, false, ◌&&◌, List, [], ◌∷◌, ◌++◌, take, Option, Some, None, is_some, refl, sym, ap, ◌∙◌, arith, eq-eqb, append-nil, append_assoc}
use Rattle.std.specs.Prelude.{◌==◌, if◌then◌else◌, slice_get}
use Rattle.std.specs.Option.{option_or}
use Rattle.std.proofs.lemmas.Option.{same_Some, none-some}
use Rattle.std.proofs.lemmas.Bool.{true≢false}
use Rattle.tk_ids.specs.IdText.{SegmentView}
use Rattle.tk_ids.specs.declared.descriptors.Descriptor.{Descriptor}
use Rattle.tk_events.specs.declared.kinds.Kind.{Kind}
use Rattle.tk_events.specs.declared.kinds.Kind.TheVariants.{Dynamic}
use Rattle.tk_events.specs.declared.payloads.Payload.{Payload}
use Rattle.tk_events.specs.declared.payloads.Payload.TheVariants.{Described}
use Rattle.tk_events.specs.declared.events.Entry.{Entry}
use Rattle.tk_events.specs.Event.{is_lawful, kind_code}
use Rattle.tk_record.specs.Entries.{of_kind, described, registered, desc_in, desc, with_entry}
use Rattle.tk_record.specs.Recorded.{Recorded, without_entries}
use Rattle.tk_record.specs.Record.{fault_of, is_known, AreAppended, IsRecord}
use Rattle.tk_record.proofs.Registrations.{desc_more}
use Rattle.tk_record.proofs.AppendedEntries.{unknown_fault, plain_known}
use Rattle.tk_query_lifecycle.specs.Lifecycle.{HasId, first_entries}
use Rattle.tk_base.proofs.Lists.{All_at}

take_one_more : (es : List Entry) (p : ℕ) (e : Entry) → slice_get es p ≡ Some e → take (suc p) es ≡ take p es ++ e ∷ []
take_one_more [] p e at = absurd (none-some e at)
take_one_more (x ∷ es) zero e at = ap (λ y. y ∷ []) (same_Some x e at)
take_one_more (x ∷ es) (suc p) e at = ap (λ l. x ∷ l) (take_one_more es p e at)

-- the first entries and the one after them
pub first_more : (r : Recorded) (p : ℕ) (e : Entry) → slice_get r.entries p ≡ Some e → with_entry (first_entries p r) e ≡ first_entries (p + 1) r
first_more r p e at =
    let next : suc p ≡ p + 1 = omega arith in
    let same = sym (take_one_more r.entries p e at) ∙ ap (λ n. take n r.entries) next in
    ap (λ l. let x : Recorded = record { table = r.table; entries = l } in x) same

desc_in_first : (p : ℕ) (es : List Entry) (key : ℕ) (d : Descriptor) → desc_in (take p es) key ≡ Some d → desc_in es key ≡ Some d
desc_in_first zero es key d is = absurd (none-some d is)
desc_in_first (suc p) [] key d is = absurd (none-some d is)
desc_in_first (suc p) (e ∷ es) key d is =
    elim (registered key e) as (λ o. option_or o (desc_in (take p es) key) ≡ Some d → option_or o (desc_in es key) ≡ Some d) [
      | Some x ↦ λ h. h
      | None ↦ λ h. desc_in_first p es key d h
    ] is

-- a descriptor that the first entries have is the record's
pub desc_first : (r : Recorded) (p key : ℕ) (d : Descriptor) → desc (first_entries p r) key ≡ Some d → desc r key ≡ Some d
desc_first r p key d is =
    elim (slice_get r.table key) as (λ o. option_or o (desc_in (take p r.entries) key) ≡ Some d → option_or o (desc_in r.entries key) ≡ Some d) [
      | Some x ↦ λ h. h
      | None ↦ λ h. desc_in_first p r.entries key d h
    ] is

appended_at : (r : Recorded) (es : List Entry) (p : ℕ) (e : Entry) → AreAppended r es → slice_get es p ≡ Some e → fault_of (record { table = r.table; entries = r.entries ++ take p es }) e ≡ None
unfolding AreAppended
appended_at r [] p e a at = absurd (none-some e at)
appended_at r (x ∷ es) zero e a at =
    ap (λ l. fault_of (record { table = r.table; entries = l }) e) (append-nil r.entries) ∙ ap (fault_of r) (sym (same_Some x e at)) ∙ a.0
appended_at r (x ∷ es) (suc p) e a at =
    ap (λ l. fault_of (record { table = r.table; entries = l }) e) (sym (append_assoc r.entries (x ∷ []) (take p es)))
    ∙ appended_at (with_entry r x) es p e a.1 at

no_fault_known : (r : Recorded) (e : Entry) (b : Bool) → is_known r e ≡ b → fault_of r e ≡ None → b ≡ true
no_fault_known r e true is none = refl
no_fault_known r e false is none = absurd (none-some _ (sym none ∙ unknown_fault r e (λ known. sym is ∙ known)))

lawful_described : (kind : Kind) (payload : Payload) → is_lawful kind payload ≡ true → (kind_code kind == kind_code Dynamic) ≡ true → is_some (described payload) ≡ true
lawful_described Dynamic (Described d) lawful dynamic = refl
lawful_described kind payload lawful dynamic = cc

or_some : (a b : Option Descriptor) → is_some b ≡ true → is_some (option_or a b) ≡ true
or_some None b some = some
or_some (Some d) b some = refl

or_first : (a b : Option Descriptor) → is_some a ≡ true → is_some (option_or a b) ≡ true
or_first None b some = absurd (true≢false (sym some))
or_first (Some d) b some = refl

known_with : (past : Recorded) (e : Entry) (dynamic : Bool) → of_kind Dynamic e ≡ dynamic → is_known past e ≡ true → is_lawful e.event.kind e.event.payload ≡ true → is_some (desc (with_entry past e) e.event.key) ≡ true
known_with past e true dynamic known lawful =
    let reg : registered e.event.key e ≡ described e.event.payload =
    ap (λ b. if b && (e.event.key == e.event.key) then described e.event.payload else None) dynamic
    ∙ ap (λ b. if b then described e.event.payload else None) (eq-eqb e.event.key e.event.key refl) in
    ap is_some (desc_more past e e.event.key)
    ∙ or_some (desc past e.event.key) (registered e.event.key e) (ap is_some reg ∙ lawful_described e.event.kind e.event.payload lawful dynamic)
known_with past e false dynamic known lawful =
    ap is_some (desc_more past e e.event.key)
    ∙ or_first (desc past e.event.key) (registered e.event.key e) (sym (plain_known past e (desc past e.event.key) dynamic refl) ∙ known)

-- the key of an event has a descriptor
pub known_here : (r : Recorded) (p : ℕ) (e : Entry) → IsRecord r → slice_get r.entries p ≡ Some e → is_some (desc (with_entry (first_entries p r) e) e.event.key) ≡ true
known_here r p e is at =
    let past = first_entries p r in
    known_with past e (of_kind Dynamic e) refl
    (no_fault_known past e (is_known past e) refl (appended_at (without_entries r.table) r.entries p e is.appended at))
    (All_at (λ (x : Entry). is_lawful x.event.kind x.event.payload ≡ true) r.entries p e is.lawful at)

-- a descriptor that is known stays
pub desc_kept : (past : Recorded) (e : Entry) (key : ℕ) (d : Descriptor) → desc past key ≡ Some d → desc (with_entry past e) key ≡ Some d
desc_kept past e key d is = desc_more past e key ∙ ap (λ o. option_or o (registered key e)) is

pub has_id_more : (past : Recorded) (e : Entry) (key : ℕ) (id : List SegmentView) → HasId past key id → HasId (with_entry past e) key id
has_id_more past e key id h = record { descriptor = h.descriptor; described = desc_kept past e key h.descriptor h.described; id_is = h.id_is }

pub one_id : (r : Recorded) (key : ℕ) (i j : List SegmentView) → HasId r key i → HasId r key j → i ≡ j
one_id r key i j h k = sym h.id_is ∙ ap (λ (d : Descriptor). d.id) (same_Some h.descriptor k.descriptor (sym h.described ∙ k.described)) ∙ k.id_is

some_of : (o : Option Descriptor) → is_some o ≡ true → (d : Descriptor) × (o ≡ Some d)
some_of None some = absurd (true≢false (sym some))
some_of (Some d) some = (d, refl)

-- the descriptor that the record has for the key of an event is the one after the event
pub its_id : (r : Recorded) (p : ℕ) (e : Entry) (d : Descriptor) → IsRecord r → slice_get r.entries p ≡ Some e → desc r e.event.key ≡ Some d → HasId (with_entry (first_entries p r) e) e.event.key d.id
its_id r p e d is at described =
    let after = with_entry (first_entries p r) e in
    let known = some_of (desc after e.event.key) (known_here r p e is at) in
    let full = desc_first r (p + 1) e.event.key known.0 (ap (λ x. desc x e.event.key) (sym (first_more r p e at)) ∙ known.1) in
    let same : known.0 ≡ d = same_Some known.0 d (sym full ∙ described) in
    record { descriptor = known.0; described = known.1; id_is = ap (λ (x : Descriptor). x.id) same }

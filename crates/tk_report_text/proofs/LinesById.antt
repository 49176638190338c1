-- The lines that are kept for each id, while events are added.
use Rattle.std.proofs.Common.{◌≡◌, ◌<◌, ℕ, zero, suc, arith, Bool, true, false, cond, List, [], ◌∷◌, ◌++◌, map, length, set, get_or, Some, None, bytes_eq, nat_eq, refl, sym, ap, ap₂, subst, ◌∙◌, append-nil, append_assoc, Result, Ok, Err, get_or-set_same, inl, inr, Vec, Global, BuildHasherDefault, FoldHasher}
use Rattle.std.specs.Prelude.{OnOk, All, is_some, ◌⊎◌, slice_get}
use Rattle.std.specs.List.{flat_map, AllByRecursion}
use Rattle.std.specs.Option.{unwrap_or, option_map, option_or}
use Rattle.std.specs.Cmp.Lexicographic.{bytes_decides}
use Rattle.std.specs.Map.{lookup}
use Rattle.std.specs.HashMap.{HashMap}
use Rattle.std.proofs.lemmas.Bool.{true≢false, eqb-true}
use Rattle.std.proofs.lemmas.Option.{none-some, same_Some, slice_get-get_or, slice_get-map, slice_get_cases, slice_get_within}
use Rattle.std.proofs.lemmas.List.{length-map}
use Rattle.std.proofs.lemmas.List.Elements.{All-head, All-rest}
use Rattle.tk_events.specs.declared.events.Entry.{Entry}
use Rattle.tk_ids.specs.declared.descriptors.Descriptor.{Descriptor}
use Rattle.tk_ids.specs.IdText.{SegmentView, IsId, id_text}
use Rattle.tk_ids.specs.Table.{AreDifferent, HasId, ids_of}
use Rattle.tk_ids.proofs.ReadingLemmas.{text_is_unique}
use Rattle.tk_record.specs.declared.records.EntryView.{EntryView}
use Rattle.tk_record.specs.Recorded.{Recorded}
use Rattle.tk_record.specs.Entries.{desc, desc_in}
use Rattle.tk_record.specs.Record.{entry_of_view}
use Rattle.tk_record.specs.Lines.{joined, tail}
use Rattle.tk_report_text.specs.declared.grouping.LinesById.{LinesById}
use Rattle.tk_report_text.specs.Labels.{Label, events, id_in, label, labels, name}
use Rattle.tk_report_text.specs.Reports.{label_line, labels_of_id}
use Rattle.tk_report_text.specs.GroupedLines.{BorrowedText, IdLines}
use Rattle.tk_report_text.specs.steps.{texts, dynamic_index, lines_in, tail_line, text_of, AddsEvent, IndexesId, IsAt, IsGrouped, IsKept}
use Rattle.tk_events.proofs.KindLemmas.{same_bytes}

pub on_ok : {T E A B : Type 0} (r : Result T E) → (A → B) → OnOk r A → OnOk r B
on_ok (Ok x) f a = f a
on_ok (Err e) f a = tt

is_itself : (x : List ℕ) → bytes_eq x x ≡ true
is_itself x = (bytes_decides x x).1 refl

-- ---- ids and their indexes

is_at_end : (ids : List IdLines) (e : IdLines) → IsAt (ids ++ e ∷ []) e.0.now (length ids)
is_at_end [] e = refl
is_at_end (d ∷ ids) e = is_at_end ids e

stays_at : (ids : List IdLines) (e : IdLines) (x : List ℕ) (i : ℕ) → IsAt ids x i → IsAt (ids ++ e ∷ []) x i
stays_at [] e x i at = absurd (none-some x at)
stays_at (d ∷ ids) e x zero at = at
stays_at (d ∷ ids) e x (suc i) at = stays_at ids e x i at

was_at : (ids : List IdLines) (e : IdLines) (x : List ℕ) (i : ℕ) → IsAt (ids ++ e ∷ []) x i → IsAt ids x i ⊎ ((i ≡ length ids) × (x ≡ e.0.now))
was_at [] e x zero at = inr (refl, sym (same_Some e.0.now x at))
was_at [] e x (suc i) at = absurd (none-some x at)
was_at (d ∷ ids) e x zero at = inl at
was_at (d ∷ ids) e x (suc i) at = elim (was_at ids e x i at) [ inl before ↦ inl before | inr end ↦ inr (ap suc end.0, end.1) ]

within : (ids : List IdLines) (x : List ℕ) (i : ℕ) → IsAt ids x i → i < length ids
within ids x i at = omega (arith, slice_get_within (texts ids) i x at, length-map ids (λ (e : IdLines). e.0.now))

-- an id without a line changes no lines
lines_same : (ids : List IdLines) (id : BorrowedText) (x : List ℕ) → lines_in (ids ++ (id, []) ∷ []) x ≡ lines_in ids x
lines_same [] id x = by (bytes_eq x id.now)
  where
    by : (b : Bool) → unwrap_or {T = List ℕ} (cond b (Some []) None) [] ≡ []
    by true = refl
    by false = refl
lines_same (e ∷ ids) id x = by (bytes_eq x e.0.now) (lines_same ids id x)
  where
    by : (b : Bool) → lines_in (ids ++ (id, []) ∷ []) x ≡ lines_in ids x
        → unwrap_or (cond b (Some e.1) (lookup (λ k. bytes_eq x k.now) (ids ++ (id, []) ∷ []))) [] ≡ unwrap_or (cond b (Some e.1) (lookup (λ k. bytes_eq x k.now) ids)) []
    by true rest = refl
    by false rest = rest

-- ---- the ids of the table

ids_at : (table : List Descriptor) (key : ℕ) (d : Descriptor) → AllByRecursion (λ d. IsId d.id) table → slice_get table key ≡ Some d → IsId d.id
ids_at [] key d all at = absurd (none-some d at)
ids_at (e ∷ table) zero d all at = subst (λ (d : Descriptor). IsId d.id) (same_Some e d at) all.0
ids_at (e ∷ table) (suc key) d all at = ids_at table key d all.1 at

-- the table has a descriptor at the key
pub record HasKey (r : Recorded) (key : ℕ) (d : Descriptor) : Type 0 where
  pub at : slice_get r.table key ≡ Some d
  pub text : text_of r key ≡ id_text d.id

has_key : (r : Recorded) (key : ℕ) (d : Descriptor) → slice_get r.table key ≡ Some d → HasKey r key d
has_key r key d at = record { at = at; text = ap (λ o. id_text (id_in (option_or o (desc_in r.entries key)))) at }

key_below : (r : Recorded) (key : ℕ) → key < length r.table → (d : Descriptor) × HasKey r key d
key_below r key lt = elim (slice_get_cases r.table key).1 [ inl found ↦ (found.0, has_key r key found.0 found.2) | inr past ↦ absurd (omega (arith, lt, past.0)) ]

id_at : (r : Recorded) (key : ℕ) (d : Descriptor) → HasKey r key d → slice_get (ids_of r.table) key ≡ Some d.id
id_at r key d h = slice_get-map (λ (d : Descriptor). d.id) r.table key ∙ ap (option_map (λ (d : Descriptor). d.id)) h.at

text_at : (r : Recorded) (key : ℕ) (d : Descriptor) → HasKey r key d → slice_get (map (λ d. id_text d.id) r.table) key ≡ Some (id_text d.id)
text_at r key d h = slice_get-map (λ (d : Descriptor). id_text d.id) r.table key ∙ ap (option_map (λ (d : Descriptor). id_text d.id)) h.at

-- the table's ids were made into the first ones, and others follow
pub record Follows (table : List Descriptor) (ids : List IdLines) (left : List Descriptor) : Type 0 where
  pub whole : texts ids ++ map (λ d. id_text d.id) left ≡ map (λ d. id_text d.id) table
  pub empty : (x : List ℕ) → lines_in ids x ≡ []
  pub lawful : AllByRecursion (λ d. IsId d.id) left → AllByRecursion (λ d. IsId d.id) table

pub follows_none : (table left : List Descriptor) (ids : List IdLines) → ids ≡ [] → left ≡ table → Follows table ids left
follows_none table left ids none whole = record {
  whole = ap₂ (λ (is : List IdLines) (ds : List Descriptor). texts is ++ map (λ d. id_text d.id) ds) none whole;
  empty = λ x. ap (λ (is : List IdLines). lines_in is x) none;
  lawful = λ all. subst (AllByRecursion (λ (d : Descriptor). IsId d.id)) whole all;
}

texts_push : (ids : List IdLines) (e : IdLines) (more : List (List ℕ)) → texts (ids ++ e ∷ []) ++ more ≡ texts ids ++ e.0.now ∷ more
texts_push [] e more = refl
texts_push (d ∷ ids) e more = ap (λ (t : List (List ℕ)). d.0.now ∷ t) (texts_push ids e more)

pub follows_next : (table left rest : List Descriptor) (ids new : List IdLines) (d : Descriptor) (id : BorrowedText) → Follows table ids left → left ≡ d ∷ rest → id.now ≡ id_text d.id → IsId d.id
    → new ≡ ids ++ (id, []) ∷ [] → Follows table new rest
follows_next table left rest ids new d id f first is ok pushed = record {
  whole = ap (λ (is : List IdLines). texts is ++ map (λ d. id_text d.id) rest) pushed ∙ texts_push ids (id, []) (map (λ d. id_text d.id) rest)
      ∙ ap (λ (t : List ℕ). texts ids ++ t ∷ map (λ d. id_text d.id) rest) is ∙ ap (λ (ds : List Descriptor). texts ids ++ map (λ d. id_text d.id) ds) (sym first) ∙ f.whole;
  empty = λ x. ap (λ (is : List IdLines). lines_in is x) pushed ∙ lines_same ids id x ∙ f.empty x;
  lawful = λ all. f.lawful (subst (AllByRecursion (λ (d : Descriptor). IsId d.id)) (sym first) (ok, all));
}

-- at the start each id of the table is there, and no other one
pub grouped_first : (r : Recorded) (kept : LinesById) (left : List Descriptor) → Follows r.table kept.ids.items left → left ≡ [] → AreDifferent r.table
    → kept.dynamic_ids.entries ≡ [] → kept.dynamic_keys.entries ≡ [] → IsGrouped r kept
grouped_first r kept left f done different ids keys = record {
  ids = all;
  apart = λ x i j at_i at_j.
      let p = from i x at_i in
      let q = from j x at_j in
      let one = text_is_unique q.0.id p.0.id (ids_at r.table j q.0 all q.1.at) (ids_at r.table i p.0 all p.1.at) (q.2 ∙ sym p.2) in
      different i j p.0.id (id_at r i p.0 p.1) (id_at r j q.0 q.1 ∙ ap Some one);
  table = λ key lt. let p = key_below r key lt in ap (λ (ts : List (List ℕ)). slice_get ts key) whole ∙ text_at r key p.0 p.1 ∙ ap Some (sym p.1.text);
  dynamic = λ x i at. absurd (none-some i (sym (ap (λ (es : List (BorrowedText × ℕ)). lookup (λ k. bytes_eq x k.now) es) ids) ∙ at));
  all = λ x i at. let p = from i x at in inl (slice_get_within r.table i p.0 p.1.at);
  keys = λ q i at. absurd (none-some i (sym (ap (lookup (nat_eq q)) keys) ∙ at));
}
  where
    all : AllByRecursion (λ d. IsId d.id) r.table
    all = f.lawful (subst (AllByRecursion (λ (d : Descriptor). IsId d.id)) (sym done) tt)

    whole : texts kept.ids.items ≡ map (λ d. id_text d.id) r.table
    whole = sym (append-nil (texts kept.ids.items)) ∙ ap (λ (ds : List Descriptor). texts kept.ids.items ++ map (λ d. id_text d.id) ds) (sym done) ∙ f.whole

    from : (i : ℕ) (x : List ℕ) → IsAt kept.ids.items x i → (d : Descriptor) × HasKey r i d × (id_text d.id ≡ x)
    from i x at =
        let read = ap (λ (ts : List (List ℕ)). slice_get ts i) (sym whole) ∙ at in
        let lt : i < length r.table = omega (arith, slice_get_within (map (λ d. id_text d.id) r.table) i x read, length-map r.table (λ (d : Descriptor). id_text d.id)) in
        let p = key_below r i lt in
        (p.0, p.1, same_Some (id_text p.0.id) x (sym (text_at r i p.0 p.1) ∙ read))

-- ---- an index for an id

-- an id that is there has its index already
pub unchanged : (r : Recorded) (kept : LinesById) (x : List ℕ) (i : ℕ) → IsGrouped r kept → IsAt kept.ids.items x i → IndexesId r kept kept x i
unchanged r kept x i g at = record { grouped = g; index = at; lines = λ y. refl }

-- an id of the table is at its key
pub table_id : (r : Recorded) (kept : LinesById) (key : ℕ) (id : List SegmentView) → IsGrouped r kept → slice_get (ids_of r.table) key ≡ Some id → IsAt kept.ids.items (id_text id) key
table_id r kept key id g at =
    let lt : key < length r.table = omega (arith, slice_get_within (ids_of r.table) key id at, length-map r.table (λ (d : Descriptor). d.id)) in
    let p = key_below r key lt in
    g.table key lt ∙ ap Some (p.1.text ∙ ap id_text (same_Some p.0.id id (sym (id_at r key p.0 p.1) ∙ at)))

module _ (r : Recorded) (old : LinesById) (dynamic_ids : HashMap BorrowedText ℕ (BuildHasherDefault FoldHasher)) (ids : Vec IdLines Global) (id : BorrowedText) (i : ℕ) (segments : List SegmentView)
    (g : IsGrouped r old) (absent : ¬ HasId r.table segments) (ok : IsId segments) (is : id.now ≡ id_text segments) (none : dynamic_index old id.now ≡ None) (next : i ≡ length old.ids.items)
    (found : (q : BorrowedText) → lookup (λ k. bytes_eq q.now k.now) dynamic_ids.entries ≡ cond (bytes_eq id.now q.now) (Some i) (dynamic_index old q.now))
    (more : ids.items ≡ old.ids.items ++ (id, []) ∷ []) where
  abbrev after : LinesById
  after = record { ids = ids; dynamic_ids = dynamic_ids; dynamic_keys = old.dynamic_keys }

  abbrev Was : List ℕ → ℕ → Type 0
  Was x j = IsAt old.ids.items x j ⊎ ((j ≡ i) × (x ≡ id.now))

  -- no id with the text was there
  is_new : (j : ℕ) → IsAt old.ids.items id.now j → ⊥
  is_new j at = by (g.all id.now j at)
    where
      by : (j < length r.table) ⊎ (dynamic_index old id.now ≡ Some j) → ⊥
      by (inl lt) =
          let p = key_below r j lt in
          let same : text_of r j ≡ id.now = same_Some (text_of r j) id.now (sym (g.table j lt) ∙ at) in
          absent (j, id_at r j p.0 p.1 ∙ ap Some (text_is_unique p.0.id segments (ids_at r.table j p.0 g.ids p.1.at) ok (sym p.1.text ∙ same ∙ is)))
      by (inr there) = none-some j (sym none ∙ there)

  here : IsAt ids.items id.now i
  here = subst (λ (es : List IdLines). IsAt es id.now i) (sym more) (subst (λ n. IsAt (old.ids.items ++ (id, []) ∷ []) id.now n) (sym next) (is_at_end old.ids.items (id, [])))

  stays : (x : List ℕ) (j : ℕ) → IsAt old.ids.items x j → IsAt ids.items x j
  stays x j at = subst (λ (es : List IdLines). IsAt es x j) (sym more) (stays_at old.ids.items (id, []) x j at)

  was : (x : List ℕ) (j : ℕ) → IsAt ids.items x j → Was x j
  was x j at = elim (was_at old.ids.items (id, []) x j (subst (λ (es : List IdLines). IsAt es x j) more at)) [ inl before ↦ inl before | inr end ↦ inr (end.0 ∙ sym next, end.1) ]

  index_at : (x : List ℕ) (b : Bool) → bytes_eq id.now x ≡ b → dynamic_index after x ≡ cond b (Some i) (dynamic_index old x)
  index_at x b e = found (record { ref_ptr = id.ref_ptr; now = x }) ∙ ap (λ t. cond t (Some i) (dynamic_index old x)) e

  index_stays : (x : List ℕ) (j : ℕ) → dynamic_index old x ≡ Some j → dynamic_index after x ≡ Some j
  index_stays x j at = by (bytes_eq id.now x) refl
    where
      by : (b : Bool) → bytes_eq id.now x ≡ b → dynamic_index after x ≡ Some j
      by true e = absurd (none-some j (sym none ∙ ap (dynamic_index old) (same_bytes id.now x e) ∙ at))
      by false e = index_at x false e ∙ at

  -- a new id that isn't in the table got the next index
  pub id_added : IndexesId r old after (id_text segments) i
  id_added = record {
    grouped = record {
      ids = g.ids;
      apart = λ x j k at_j at_k. apart x j k (was x j at_j) (was x k at_k);
      table = λ key lt. stays (text_of r key) key (g.table key lt);
      dynamic = λ x j at. dynamic x j at (bytes_eq id.now x) refl;
      all = λ x j at. all x j (was x j at);
      keys = λ key j at. stays (text_of r key) j (g.keys key j at);
    };
    index = subst (λ x. IsAt ids.items x i) is here;
    lines = λ x. ap (λ (es : List IdLines). lines_in es x) more ∙ lines_same old.ids.items id x;
  }
    where
      apart : (x : List ℕ) (j k : ℕ) → Was x j → Was x k → j ≡ k
      apart x j k (inl a) (inl b) = g.apart x j k a b
      apart x j k (inl a) (inr b) = absurd (is_new j (subst (λ y. IsAt old.ids.items y j) b.1 a))
      apart x j k (inr a) (inl b) = absurd (is_new k (subst (λ y. IsAt old.ids.items y k) a.1 b))
      apart x j k (inr a) (inr b) = a.0 ∙ sym b.0

      dynamic : (x : List ℕ) (j : ℕ) → dynamic_index after x ≡ Some j → (b : Bool) → bytes_eq id.now x ≡ b → IsAt ids.items x j
      dynamic x j at true e = subst (λ n. IsAt ids.items x n) (same_Some i j (sym (index_at x true e) ∙ at)) (subst (λ y. IsAt ids.items y i) (same_bytes id.now x e) here)
      dynamic x j at false e = stays x j (g.dynamic x j (sym (index_at x false e) ∙ at))

      all : (x : List ℕ) (j : ℕ) → Was x j → (j < length r.table) ⊎ (dynamic_index after x ≡ Some j)
      all x j (inl before) = elim (g.all x j before) [ inl lt ↦ inl lt | inr there ↦ inr (index_stays x j there) ]
      all x j (inr end) = inr (index_at x true (ap (bytes_eq id.now) end.1 ∙ is_itself id.now) ∙ ap Some (sym end.0))

-- ---- an index for a key

same_key : (x y : ℕ) → nat_eq x y ≡ true → x ≡ y
same_key x y at = eqb-true x y at

-- another dynamic key got the index of its id
pub key_added : (r : Recorded) (old new : LinesById) (keys : HashMap ℕ ℕ (BuildHasherDefault FoldHasher)) (key i : ℕ) (id : List ℕ) → IndexesId r old new id i → id ≡ text_of r key
    → ((q : ℕ) → lookup (nat_eq q) keys.entries ≡ cond (nat_eq key q) (Some i) (lookup (nat_eq q) new.dynamic_keys.entries))
    → IndexesId r old (record { ids = new.ids; dynamic_ids = new.dynamic_ids; dynamic_keys = keys }) (text_of r key) i
key_added r old new keys key i id h is found = record {
  grouped = record {
    ids = h.grouped.ids;
    apart = h.grouped.apart;
    table = h.grouped.table;
    dynamic = h.grouped.dynamic;
    all = h.grouped.all;
    keys = λ q j at. by q j at (nat_eq key q) refl;
  };
  index = here;
  lines = h.lines;
}
  where
    here : IsAt new.ids.items (text_of r key) i
    here = subst (λ x. IsAt new.ids.items x i) is h.index

    by : (q j : ℕ) → lookup (nat_eq q) keys.entries ≡ Some j → (b : Bool) → nat_eq key q ≡ b → IsAt new.ids.items (text_of r q) j
    by q j at true e =
        let same : i ≡ j = same_Some i j (sym (found q ∙ ap (λ (t : Bool). cond t (Some i) (lookup (nat_eq q) new.dynamic_keys.entries)) e) ∙ at) in
        subst (λ n. IsAt new.ids.items (text_of r q) n) same (subst (λ k. IsAt new.ids.items (text_of r k) i) (same_key key q e) here)
    by q j at false e = h.grouped.keys q j (sym (found q ∙ ap (λ (t : Bool). cond t (Some i) (lookup (nat_eq q) new.dynamic_keys.entries)) e) ∙ at)

-- ---- a line for an event

texts_set : (ids : List IdLines) (i : ℕ) (e : IdLines) → IsAt ids e.0.now i → texts (set ids i e) ≡ texts ids
texts_set [] i e at = refl
texts_set (d ∷ ids) zero e at = ap (λ (t : List ℕ). t ∷ texts ids) (sym (same_Some d.0.now e.0.now at))
texts_set (d ∷ ids) (suc i) e at = ap (λ (ts : List (List ℕ)). d.0.now ∷ ts) (texts_set ids i e at)

-- an id has the lines that stand beside it
lines_at : (ids : List IdLines) (x : List ℕ) (i : ℕ) (d : IdLines) → IsAt ids x i → ((j : ℕ) → IsAt ids x j → j ≡ i) → lines_in ids x ≡ (get_or ids i d).1
lines_at [] x i d at only = absurd (none-some x at)
lines_at (e ∷ ids) x zero d at only = ap (λ b. unwrap_or (cond b (Some e.1) (lookup (λ k. bytes_eq x k.now) ids)) []) (ap (bytes_eq x) (same_Some e.0.now x at) ∙ is_itself x)
lines_at (e ∷ ids) x (suc i) d at only = by (bytes_eq x e.0.now) refl (λ later. lines_at ids x i d at later)
  where
    by : (b : Bool) → bytes_eq x e.0.now ≡ b → (((j : ℕ) → IsAt ids x j → j ≡ i) → lines_in ids x ≡ (get_or ids i d).1) → unwrap_or (cond (bytes_eq x e.0.now) (Some e.1) (lookup (λ k. bytes_eq x k.now) ids)) [] ≡ (get_or ids i d).1
    by true same rest = absurd (omega (arith, only 0 (ap Some (sym (same_bytes x e.0.now same)))))
    by false other rest = ap (λ b. unwrap_or (cond b (Some e.1) (lookup (λ k. bytes_eq x k.now) ids)) []) other ∙ rest (λ j here. omega (arith, only (suc j) here))

-- another id has the lines that it had
lines_other : (ids : List IdLines) (x : List ℕ) (i : ℕ) (e : IdLines) → IsAt ids e.0.now i → bytes_eq x e.0.now ≡ false → lines_in (set ids i e) x ≡ lines_in ids x
lines_other [] x i e at other = refl
lines_other (d ∷ ids) x zero e at other =
    ap (λ b. unwrap_or (cond b (Some e.1) (lookup (λ k. bytes_eq x k.now) ids)) []) other
    ∙ sym (ap (λ b. unwrap_or (cond b (Some d.1) (lookup (λ k. bytes_eq x k.now) ids)) []) (ap (bytes_eq x) (same_Some d.0.now e.0.now at) ∙ other))
lines_other (d ∷ ids) x (suc i) e at other = by (bytes_eq x d.0.now) (lines_other ids x i e at other)
  where
    by : (b : Bool) → lines_in (set ids i e) x ≡ lines_in ids x
        → unwrap_or (cond b (Some d.1) (lookup (λ k. bytes_eq x k.now) (set ids i e))) [] ≡ unwrap_or (cond b (Some d.1) (lookup (λ k. bytes_eq x k.now) ids)) []
    by true rest = refl
    by false rest = rest

-- the line of an event was added to those at the index of its key
pub line_added : (r : Recorded) (old new : LinesById) (ids : Vec IdLines Global) (v : EntryView) (i : ℕ) (e : IdLines) → IndexesId r old new (text_of r v.key) i
    → e ≡ get_or new.ids.items i e → ids.items ≡ set new.ids.items i (e.0, e.1 ++ tail_line (joined (tail v.kind v.payload.now)))
    → AddsEvent r old (record { ids = ids; dynamic_ids = new.dynamic_ids; dynamic_keys = new.dynamic_keys }) v
line_added r old new ids v i e h e_is put = record {
  grouped = record {
    ids = h.grouped.ids;
    apart = λ x j k at_j at_k. h.grouped.apart x j k (before x j at_j) (before x k at_k);
    table = λ key lt. after (text_of r key) key (h.grouped.table key lt);
    dynamic = λ x j at. after x j (h.grouped.dynamic x j at);
    all = λ x j at. h.grouped.all x j (before x j at);
    keys = λ key j at. after (text_of r key) j (h.grouped.keys key j at);
  };
  lines = λ x. by x (bytes_eq (text_of r v.key) x) refl;
}
  where
    text : List ℕ
    text = text_of r v.key

    line : List ℕ
    line = tail_line (joined (tail v.kind v.payload.now))

    next : IdLines
    next = (e.0, e.1 ++ line)

    lt : i < length new.ids.items
    lt = within new.ids.items text i h.index

    is_text : e.0.now ≡ text
    is_text =
        ap (λ (x : IdLines). x.0.now) e_is
        ∙ same_Some (get_or new.ids.items i e).0.now text (sym (slice_get-map (λ (x : IdLines). x.0.now) new.ids.items i ∙ ap (option_map (λ (x : IdLines). x.0.now)) (slice_get-get_or new.ids.items i e lt)) ∙ h.index)

    here : IsAt new.ids.items e.0.now i
    here = subst (λ x. IsAt new.ids.items x i) (sym is_text) h.index

    same : texts ids.items ≡ texts new.ids.items
    same = ap texts put ∙ texts_set new.ids.items i next here

    before : (x : List ℕ) (j : ℕ) → IsAt ids.items x j → IsAt new.ids.items x j
    before x j at = ap (λ (ts : List (List ℕ)). slice_get ts j) (sym same) ∙ at

    after : (x : List ℕ) (j : ℕ) → IsAt new.ids.items x j → IsAt ids.items x j
    after x j at = ap (λ (ts : List (List ℕ)). slice_get ts j) same ∙ at

    lines_there : lines_in ids.items text ≡ lines_in new.ids.items text ++ line
    lines_there =
        lines_at ids.items text i next (after text i h.index) (λ j at. h.grouped.apart text j i (before text j at) h.index)
        ∙ ap (λ (is : List IdLines). (get_or is i next).1) put ∙ ap (λ (x : IdLines). x.1) (get_or-set_same new.ids.items i next next lt)
        ∙ ap (λ (t : List ℕ). t ++ line) (ap (λ (x : IdLines). x.1) e_is ∙ sym (lines_at new.ids.items text i e h.index (λ j at. h.grouped.apart text j i at h.index)))

    by : (x : List ℕ) (b : Bool) → bytes_eq text x ≡ b → lines_in ids.items x ≡ cond (bytes_eq text x) (lines_in old.ids.items x ++ line) (lines_in old.ids.items x)
    by x true eq =
        ap (lines_in ids.items) (sym (same_bytes text x eq)) ∙ lines_there ∙ ap (λ (t : List ℕ). t ++ line) (h.lines text)
        ∙ ap (λ (y : List ℕ). lines_in old.ids.items y ++ line) (same_bytes text x eq) ∙ sym (ap (λ b. cond b (lines_in old.ids.items x ++ line) (lines_in old.ids.items x)) eq)
    by x false eq =
        ap (λ (is : List IdLines). lines_in is x) put ∙ lines_other new.ids.items x i next here (other x eq) ∙ h.lines x
        ∙ sym (ap (λ b. cond b (lines_in old.ids.items x ++ line) (lines_in old.ids.items x)) eq)
      where
        other : (x : List ℕ) → bytes_eq text x ≡ false → bytes_eq x e.0.now ≡ false
        other x eq = differs (bytes_eq x e.0.now) refl
          where
            differs : (b : Bool) → bytes_eq x e.0.now ≡ b → b ≡ false
            differs false is = refl
            differs true is = absurd (true≢false (sym ((bytes_decides text x).1 (sym is_text ∙ sym (same_bytes x e.0.now is))) ∙ eq))

-- ---- event after event

abbrev labels_of : Recorded → List Entry → List Label
labels_of r es = map (label (name r)) (events es)

-- what is kept, with the entries to come, gives what the record says
pub record Gathers (r : Recorded) (kept : LinesById) (left : List Entry) : Type 0 where
  pub grouped : IsGrouped r kept
  pub known : All (λ e. is_some (desc r e.event.key) ≡ true) left
  pub lines : (x : List ℕ) → lines_in kept.ids.items x ++ flat_map label_line (labels_of_id x (labels_of r left)) ≡ flat_map label_line (labels_of_id x (labels r))

-- no line is kept before the first entry
pub gathers_none : (r : Recorded) (kept : LinesById) (left : List Entry) → IsGrouped r kept → ((x : List ℕ) → lines_in kept.ids.items x ≡ []) → left ≡ r.entries
    → All (λ e. is_some (desc r e.event.key) ≡ true) r.entries → Gathers r kept left
gathers_none r kept left g empty whole known = record {
  grouped = g;
  known = subst (All (λ (e : Entry). is_some (desc r e.event.key) ≡ true)) (sym whole) known;
  lines = λ x. ap₂ (λ (t : List ℕ) (es : List Entry). t ++ flat_map label_line (labels_of_id x (labels_of r es))) (empty x) whole;
}

-- the first entry to come was added
pub gathers_next : (r : Recorded) (old new : LinesById) (left rest : List Entry) (v : EntryView) → Gathers r old left → left ≡ entry_of_view v ∷ rest → AddsEvent r old new v → Gathers r new rest
gathers_next r old new left rest v g first h = record {
  grouped = h.grouped;
  known = All-rest (λ (e : Entry). is_some (desc r e.event.key) ≡ true) (entry_of_view v) rest left first g.known;
  lines = λ x. ap (λ (t : List ℕ). t ++ flat_map label_line (labels_of_id x (labels_of r rest))) (h.lines x) ∙ by x (bytes_eq (text_of r v.key) x)
      ∙ ap (λ (es : List Entry). lines_in old.ids.items x ++ flat_map label_line (labels_of_id x (labels_of r es))) (sym first) ∙ g.lines x;
}
  where
    l : Label
    l = label (name r) (entry_of_view v).event

    by : (x : List ℕ) (b : Bool) → cond b (lines_in old.ids.items x ++ label_line l) (lines_in old.ids.items x) ++ flat_map label_line (labels_of_id x (labels_of r rest))
        ≡ lines_in old.ids.items x ++ flat_map label_line (cond b (l ∷ labels_of_id x (labels_of r rest)) (labels_of_id x (labels_of r rest)))
    by x true = append_assoc (lines_in old.ids.items x) (label_line l) (flat_map label_line (labels_of_id x (labels_of r rest)))
    by x false = refl

-- the key of the first entry to come has a descriptor
pub next_known : (r : Recorded) (kept : LinesById) (left rest : List Entry) (v : EntryView) → Gathers r kept left → left ≡ entry_of_view v ∷ rest → is_some (desc r v.key) ≡ true
next_known r kept left rest v g first =
    All-head (λ (e : Entry). is_some (desc r e.event.key) ≡ true) (entry_of_view v) rest (subst (All (λ (e : Entry). is_some (desc r e.event.key) ≡ true)) first g.known)

-- all that is kept
pub gathers_all : (r : Recorded) (kept : LinesById) (left : List Entry) → Gathers r kept left → left ≡ [] → IsKept (labels r) kept.ids.items
gathers_all r kept left g done = record {
  apart = g.grouped.apart;
  lines = λ x. sym (append-nil (lines_in kept.ids.items x)) ∙ ap (λ (es : List Entry). lines_in kept.ids.items x ++ flat_map label_line (labels_of_id x (labels_of r es))) (sym done) ∙ g.lines x;
}

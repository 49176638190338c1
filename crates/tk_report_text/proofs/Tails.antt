-- Records whose ids have the same tails say the same of each id.
use Rattle.std.proofs.Common.{◌≡◌, ℕ, true, false, List, [], ◌∷◌, All, map, bytes_eq, refl, sym, ap₂, ◌∙◌, if◌then◌else◌}
use Rattle.std.specs.List.{AllByRecursion}
use Rattle.std.proofs.lemmas.List.Elements.{All-head, All-tail, All-from_recursion}
use Rattle.std.specs.Cmp.Lexicographic.{bytes_decides}
use Rattle.tk_ids.specs.IdText.{SegmentView, id_text}
use Rattle.tk_events.specs.declared.kinds.Kind.{Kind}
use Rattle.tk_events.specs.declared.payloads.Payload.{Payload}
use Rattle.tk_events.specs.declared.events.Entry.{Entry}
use Rattle.tk_record.specs.Recorded.{Recorded, without_entries}
use Rattle.tk_record.specs.Entries.{with_entry}
use Rattle.tk_record.specs.Lines.{joined, tail}
use Rattle.tk_record_text.specs.Spelling.{HasTail}
use Rattle.tk_record_text.specs.declared.versions.Version.{Version}
use Rattle.tk_record_text.specs.Text.{AreEntries, version_of}
use Rattle.tk_record_text.proofs.TailLines.{one_tail}
use Rattle.tk_report_text.specs.Labels.{Label, events, label, labels, name}
use Rattle.tk_report_text.specs.Reports.{labels_of_id}
use Rattle.tk_report_text.specs.Laws.{ReportIsOfTails, TextHasTails}
use Rattle.tk_report_text.proofs.Ids.{text_is_unique}
use Rattle.tk_report_text.proofs.SameReports.{report_same}

abbrev HasOne : Label → Type 0
HasOne l = HasTail l.kind l.payload

abbrev line : Label → List ℕ
line l = joined (tail l.kind l.payload)

-- the label's event has a tail, and its id has the text
record IsOf (x : List ℕ) (l : Label) : Type 0 where
  has : HasTail l.kind l.payload
  is : bytes_eq (id_text l.id) x ≡ true

abbrev EventHasTail : Entry → Type 0
EventHasTail e = HasTail e.event.kind e.event.payload

lines_have : (version : Version) (r : Recorded) (es : List Entry) → AreEntries version r es → AllByRecursion EventHasTail es
unfolding AreEntries
lines_have version r [] h = tt
lines_have version r (e ∷ es) h = (h.0.line.tail, lines_have version (with_entry r e) es h.2)

pub text_has_tails : TextHasTails
text_has_tails r h = All-from_recursion EventHasTail r.entries (lines_have (version_of r) (without_entries r.table) r.entries h.entries)

have : (names : ℕ → List SegmentView) (es : List Entry) → All EventHasTail es → AllByRecursion HasOne (map (label names) (events es))
have names [] h = tt
have names (e ∷ es) h = (All-head EventHasTail e es h, have names es (All-tail EventHasTail e es h))

own : (x : List ℕ) (ls : List Label) → AllByRecursion HasOne ls → AllByRecursion (IsOf x) (labels_of_id x ls)
own x [] h = tt
own x (l ∷ ls) h =
    elim (bytes_eq (id_text l.id) x) as (λ b. bytes_eq (id_text l.id) x ≡ b → AllByRecursion (IsOf x) (if b then l ∷ labels_of_id x ls else labels_of_id x ls)) [
      | true ↦ (λ e. (record { has = h.0; is = e }, own x ls h.1))
      | false ↦ (λ e. own x ls h.1)
    ] refl

one : (x : List ℕ) (a b : Label) → IsOf x a → IsOf x b → line a ≡ line b → a ≡ b
one x a b p q e =
    let same = one_tail (a.kind, a.payload) (b.kind, b.payload) p.has q.has e in
    let id = text_is_unique a.id b.id ((bytes_decides (id_text a.id) x).0 p.is ∙ sym ((bytes_decides (id_text b.id) x).0 q.is)) in
    ap₂ (λ (i : List SegmentView) (k : Kind × Payload). (let l : Label = record { id = i; kind = k.0; payload = k.1 } in l)) id same

all : (x : List ℕ) (ls ks : List Label) → AllByRecursion (IsOf x) ls → AllByRecursion (IsOf x) ks → map line ls ≡ map line ks → ls ≡ ks
all x [] [] h i e = refl
all x [] (b ∷ ks) h i e = cc
all x (a ∷ ls) [] h i e = cc
all x (a ∷ ls) (b ∷ ks) h i e =
    let first : line a ≡ line b = cc in
    let rest : map line ls ≡ map line ks = cc in
    ap₂ (λ l rest. l ∷ rest) (one x a b h.0 i.0 first) (all x ls ks h.1 i.1 rest)

pub report_is_of_tails : ReportIsOfTails
report_is_of_tails r s p q same = report_same r s (λ x.
    all x (labels_of_id x (labels r)) (labels_of_id x (labels s))
    (own x (labels r) (have (name r) r.entries p)) (own x (labels s) (have (name s) s.entries q)) (same x))

-- The rows of explanations, as text.
use Rattle.std.specs.Prelude.{◌≡◌, ℕ, Bool, List, [], ◌∷◌, ◌++◌, codes, Option, Some, None}
use Rattle.std.specs.Prelude.{if◌then◌else◌, length, nat_lt, slice_get}
use Rattle.std.specs.List.{flat_map}
use Rattle.std.specs.Fmt.{decimal}
use Rattle.tk_events.specs.declared.events.Entry.{Entry}
use Rattle.tk_events.specs.Fields.{field_text, line_feed}
use Rattle.tk_record.specs.Entries.{desc}
use Rattle.tk_record.specs.Recorded.{Recorded}
use Rattle.tk_record.specs.Lines.{entry_line}
use Rattle.tk_query.specs.AnswerTexts.{blank}
pub use Rattle.tk_explanations.specs.DescriptorTexts.{quotation_mark, id_field, descriptor_text}
use Rattle.tk_explanations.specs.Sentences.{sentence_text}
use Rattle.tk_explanations.specs.declared.rows.Note.{Note}
use Rattle.tk_explanations.specs.declared.rows.Note.TheVariants.{Nothing, Lacks, NotAfter}
use Rattle.tk_explanations.specs.declared.rows.Row.{Row}
use Rattle.tk_explanations.specs.declared.rows.Span.{Span}
use Rattle.tk_explanations.specs.declared.rows.Row.TheVariants.{Line, Condition, Event, NoneLeft}
use Rattle.tk_explanations.specs.declared.rows.Row.TheVariants.{Counts, Overlap, OverlapOver}
use Rattle.tk_explanations.specs.declared.rows.Row.TheVariants.{Executions, More, Sentence}
use Rattle.tk_explanations.specs.declared.rows.Writers.{Writers}
use Rattle.tk_explanations.specs.declared.rows.Writers.TheVariants.{Unsaid, First, Second, Both}

-- the line of an event in a record's text, three blanks, and its descriptor
abbrev pub event_text : Recorded → Entry → List ℕ
event_text r e = entry_line e ++ codes "   " ++ descriptor_text (desc r e.event.key)

-- what is said of an event: the members that don't hold of it, or the event that it isn't after
abbrev pub note_text : Note → List ℕ
note_text Nothing = []
note_text (Lacks members) = codes "   does not hold: " ++ members
note_text (NotAfter q) = codes "   holds, but is not after " ++ decimal q

-- four blanks, the position of the entry and its text, and what is said of it
abbrev pub event_row : Recorded → ℕ → Option Entry → Note → List ℕ
event_row r position None note = []
event_row r position (Some e) note =
    codes "    " ++ decimal position ++ codes ": " ++ event_text r e ++ note_text note

-- the descriptor of an entry
abbrev pub descriptor_of : Recorded → Option Entry → List ℕ
descriptor_of r None = []
descriptor_of r (Some e) = descriptor_text (desc r e.event.key)

-- the position at which an execution ends, or that it lasts to the end of the record
abbrev pub end_text : Recorded → ℕ → List ℕ
end_text r n = if nat_lt n (length r.entries) then decimal n else codes "the end"

-- the descriptor of an execution, the position of its start, and where it ends
abbrev pub span_text : Recorded → Span → List ℕ
span_text r x =
    descriptor_of r (slice_get r.entries x.start) ++ codes " (" ++ decimal x.start
    ++ codes " to " ++ end_text r x.end ++ codes ")"

-- which of two executions are writers'
abbrev pub writers_text : Writers → List ℕ
writers_text Unsaid = []
writers_text First = codes ", the first as a writer"
writers_text Second = codes ", the second as a writer"
writers_text Both = codes ", both as writers"

-- that two executions overlap
abbrev pub overlap_text : Recorded → Span → Span → List ℕ
overlap_text r x y = span_text r x ++ codes " and " ++ span_text r y ++ codes " overlap"

abbrev pub row_text : Recorded → Row → List ℕ
row_text r (Line text) = text
row_text r (Condition k text) = decimal k ++ blank ∷ text
row_text r (Event position note) = event_row r position (slice_get r.entries position) note
row_text r NoneLeft = codes "    no event is left"
row_text r (Counts n m) = decimal n ++ codes " conditions, " ++ decimal m ++ codes " events"
row_text r (Overlap x y said) = overlap_text r x y ++ writers_text said
row_text r (OverlapOver x y name) = overlap_text r x y ++ codes ", over " ++ field_text name
row_text r (Executions n) = codes "    " ++ decimal n ++ codes " executions"
row_text r (More n) = codes "    and " ++ decimal n ++ codes " more"
row_text r (Sentence sentence) = sentence_text r sentence

-- a row as a line
abbrev pub row_line : Recorded → Row → List ℕ
row_line r row = row_text r row ++ line_feed ∷ []

-- rows as lines
abbrev pub rows_text : Recorded → List Row → List ℕ
rows_text r rows = flat_map (row_line r) rows

-- rows that explain an answer, which is a yes or not, as text
abbrev pub AsText : (Bool → List Row → Type 0) → Recorded → Bool → List ℕ → Type 0
AsText Explains r is_yes text =
    (rows : List Row) × Explains is_yes rows × (text ≡ rows_text r rows)

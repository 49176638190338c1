-- What private clauses and proofs alone name.
use Rattle.std.specs.Prelude.{◌≡◌, ℕ, Bool, List, Option, Result, Ok, Err, [], if◌then◌else◌}
use Rattle.std.specs.Prelude.{◌++◌}
use Rattle.std.specs.Io.KnownBytes.{Appends}
use Rattle.tk_streams.specs.Stream.{AppendsPrefix}
use Rattle.tk_explanations.specs.declared.faults.ExplainFault.{ExplainFault}
use Rattle.tk_explanations.specs.declared.faults.ExplainFault.TheVariants.{Device, Memory}
use Rattle.tk_events.specs.declared.events.Entry.{Entry}
use Rattle.tk_record.specs.Recorded.{Recorded}
use Rattle.tk_explanations.specs.Lists.{listed_event}
use Rattle.tk_explanations.specs.declared.rows.Row.{Row}
use Rattle.tk_events.specs.declared.kinds.Kind.TheVariants.{Started}
use Rattle.tk_query_lifecycle.specs.Lifecycle.{is_event}
use Rattle.tk_explanations.specs.EventSearches.{begins, steps, succeeds}
use Rattle.tk_explanations.specs.declared.event_searches.EventTest.{EventTest}
use Rattle.tk_explanations.specs.declared.event_searches.EventTest.TheVariants.{Starts, Begins}
use Rattle.tk_explanations.specs.declared.event_searches.EventTest.TheVariants.{Steps, Succeeds}

-- the text was added, or a prefix of it, and the target broke
abbrev pub IsWritten :
    Bool → List ℕ → Option (List ℕ) → Option (List ℕ) → Result Bool ExplainFault → Type 0
IsWritten is_yes text old new (Ok answer) = (answer ≡ is_yes) × Appends old new text
IsWritten is_yes text old new (Err Device) = AppendsPrefix old new text
IsWritten is_yes text old new (Err Memory) = ⊥

-- the line of an entry where its flag is true, and else nothing
abbrev pub listed_where : Recorded → Bool → ℕ → Entry → List ℕ
listed_where r flag position e =
    if flag then listed_event r (record { position = position; entry = e }) else []

-- rows of which P holds were added
abbrev pub AddsRows : (List Row → Type 0) → List Row → List Row → Type 0
AddsRows P old new = (below : List Row) × P below × (new ≡ old ++ below)

-- whether the event passes the test
abbrev pub passes : EventTest → Entry → Bool
passes (Starts key) e = is_event Started key e
passes (Begins key) e = begins key e
passes (Steps key) e = steps key e
passes (Succeeds key) e = succeeds key e

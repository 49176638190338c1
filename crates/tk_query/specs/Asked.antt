-- The events that are asked, at their positions in the record.
use Rattle.std.specs.Prelude.{ℕ, Bool, false, ◌==◌, if◌then◌else◌, List, [], ◌∷◌, Option, Some}
use Rattle.std.specs.Prelude.{None, MatchOption}
use Rattle.tk_events.specs.declared.events.Entry.{Entry}
use Rattle.tk_record.specs.Selections.{PositionedEntry, Selected}
use Rattle.tk_query_conditions.specs.declared.conditions.Condition.{Condition}
use Rattle.tk_query.specs.Holds.{holds}
use Rattle.tk_query.specs.InOrder.{HasNoFit, IsNextFit}

-- the event that stands at this position
abbrev pub event_at : List PositionedEntry → ℕ → Option Entry
event_at [] position = None
event_at (x ∷ kept) position =
    if x.position == position then Some x.entry else event_at kept position

-- whether there is an event, and it passes the test
abbrev pub is_there : (Entry → Bool) → Option Entry → Bool
is_there p None = false
is_there p (Some e) = p e

-- one of the events asked stands at this position of the record, and the condition holds of it
abbrev pub fits : Selected → Condition → ℕ → Bool
fits asked c position = is_there (holds asked.recorded c) (event_at asked.kept position)

-- the first position at which an event asked stands of which the condition holds, if there is one
abbrev pub IsFirstFit : Selected → Condition → Option ℕ → Type 0
IsFirstFit asked c found =
    MatchOption found (HasNoFit (fits asked) c 0) (IsNextFit (fits asked) c 0)

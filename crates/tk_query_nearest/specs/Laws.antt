-- What follows from the definitions of members, parts and the nearest events.
use Rattle.std.specs.Prelude.{◌≡◌, ℕ, ◌↔◌, true, false, List, Contains}
use Rattle.tk_events.specs.declared.events.Entry.{Entry}
use Rattle.tk_record.specs.Recorded.{Recorded}
use Rattle.tk_record.specs.Selections.{Selected}
use Rattle.tk_query_conditions.specs.Cond.{Cond}
use Rattle.tk_query.specs.Holds.{cond_holds}
use Rattle.tk_query_nearest.specs.Members.{members, lacking}
use Rattle.tk_query_nearest.specs.Parts.{distance}
use Rattle.tk_query_nearest.specs.Nearness.{IsNearest}

-- what is lacking are the members that don't hold
abbrev pub LackingIsExact : Type 0
LackingIsExact =
    (r : Recorded) (c : Cond) (e : Entry) (member : Cond) →
    Contains (lacking r c e) member
    ↔ (Contains (members c) member × (cond_holds r member e ≡ false))

-- a condition holds of an event exactly where none of its parts fails to hold
abbrev pub NoneMissingHolds : Type 0
NoneMissingHolds =
    (r : Recorded) (c : Cond) (e : Entry) → (distance r c e ≡ 0) ↔ (cond_holds r c e ≡ true)

-- the same events and the same condition have one list of nearest events
abbrev pub NearestIsUnique : Type 0
NearestIsUnique =
    (asked : Selected) (first : ℕ) (c : Cond) (ps qs : List ℕ) →
    IsNearest asked first c ps → IsNearest asked first c qs → ps ≡ qs

-- The lists of events that a failure shows.
use Rattle.std.specs.Prelude.{ℕ, ◌-◌, ◌==◌, List, [], ◌∷◌, ◌++◌, codes, if◌then◌else◌, length, take}
use Rattle.std.specs.Fmt.{decimal}
use Rattle.std.specs.List.{flat_map}
use Rattle.std.specs.Str.Lines.{lines}
use Rattle.tk_record.specs.Selections.{Selected}
use Rattle.tk_explanations.specs.Lists.{listed_event}
use Rattle.testkit_questions.specs.Characters.{line_feed}
use Rattle.tk_expectations.specs.declared.lists.TheConstants.{MAX_SHOWN_EVENTS}

-- a line of a list: four blanks, and the text
abbrev pub indented : List ℕ → List ℕ
indented text = codes "    " ++ text ++ line_feed ∷ []

-- the first lines of a text
abbrev pub first_lines : List ℕ → List ℕ
first_lines text = flat_map indented (take MAX_SHOWN_EVENTS (lines text))

-- a line that says how many there are more, where there are more
abbrev pub more_line : ℕ → List ℕ
more_line more = if more == 0 then [] else indented (codes "and " ++ decimal more ++ codes " more")

-- the text of `ask list`
abbrev pub list_text : Selected → List ℕ
list_text events = flat_map (listed_event events.recorded) events.kept

-- the first events as `ask list` writes them, and how many there are more
abbrev pub shown_list : Selected → List ℕ
shown_list events =
    first_lines (list_text events) ++ more_line (length events.kept - MAX_SHOWN_EVENTS)

-- The explanations of lists: of events, and of executions.
use Rattle.std.specs.Prelude.{◌≡◌, ℕ, Bool, true, List, [], ◌∷◌, ◌++◌}
use Rattle.std.specs.List.{flat_map}
use Rattle.std.specs.Fmt.{decimal}
use Rattle.tk_events.specs.Fields.{line_feed}
use Rattle.tk_record.specs.Entries.{desc}
use Rattle.tk_record.specs.Recorded.{Recorded}
use Rattle.tk_record.specs.Selections.{PositionedEntry, Selected}
use Rattle.tk_query.specs.AnswerTexts.{blank, ending_name}
use Rattle.tk_query.specs.ExecutionSteps.{step_at}
use Rattle.tk_query.specs.Executions.{AreExecutions}
use Rattle.tk_query.specs.declared.execution.Execution.{Execution}
use Rattle.tk_explanations.specs.Rows.{event_text, id_field}

-- the position of an event, a blank, its line in a record's text, three blanks, and its descriptor
abbrev pub listed_event : Recorded → PositionedEntry → List ℕ
listed_event r x =
    decimal x.position ++ (blank ∷ []) ++ event_text r x.entry ++ (line_feed ∷ [])

-- a line for each of the events, in their order
abbrev pub ExplainsList : Selected → Bool → List ℕ → Type 0
ExplainsList asked is_yes text =
    (is_yes ≡ true) × (text ≡ flat_map (listed_event asked.recorded) asked.kept)

-- the key of an execution, its ending and its two stamps, each with a blank after it
abbrev pub execution_head : Execution → List ℕ
execution_head x =
    decimal x.key ++ blank ∷ ending_name x.ending ++ blank ∷ decimal x.start
    ++ blank ∷ decimal x.stop ++ blank ∷ []

-- the key of an execution, its ending, its two stamps, and the id of its descriptor
abbrev pub listed_execution : Recorded → Execution → List ℕ
listed_execution r x = execution_head x ++ id_field (desc r x.key) ++ (line_feed ∷ [])

-- a line for each execution that the events show, in the order of their ends
abbrev pub ExplainsExecutions : Selected → Bool → List ℕ → Type 0
ExplainsExecutions asked is_yes text =
    (xs : List Execution) × AreExecutions (step_at asked) xs
    × (is_yes ≡ true) × (text ≡ flat_map (listed_execution asked.recorded) xs)

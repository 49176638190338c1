-- What holds of each run of a plan.
use Rattle.std.specs.Prelude.{◌≡◌, ◌↔◌, ℕ, List, [], ◌++◌, Some, slice_get, length, option_map}
use Rattle.tk_ids.specs.Table.{AreDifferent}
use Rattle.tk_ids.specs.declared.descriptors.Descriptor.{Descriptor}
use Rattle.tk_events.specs.declared.events.Event.{Event}
use Rattle.tk_record.specs.Recorded.{Recorded}
use Rattle.tk_record.specs.Record.{IsRecord}
use Rattle.tk_record.specs.Entries.{desc}
use Rattle.tk_query_lifecycle.specs.KeepsLifecycle.{KeepsLifecycle}
use Rattle.tk_query_lifecycle.specs.NeverRan.{EachDueKeyRuns}
use Rattle.tk_query_lifecycle.specs.Lifecycle.{IsLifecycle}
use Rattle.tk_query_lifecycle.specs.declared.lifecycle_rules.Lifecycle.{Lifecycle}
use Rattle.tk_query_lifecycle.specs.declared.lifecycle_rules.Lifecycle.TheVariants.{Kept}
use Rattle.tk_plan.specs.declared.trees.nodes.NumberedNode.{NumberedNode}
use Rattle.tk_plan.specs.declared.scripts.steps.Step.{Step}
use Rattle.tk_plan.specs.Trees.{Forest, forest}
use Rattle.tk_plan.specs.Cutting.{root_script, script_of}
use Rattle.tk_plan.specs.Numbers.{IsNumbered}
use Rattle.tk_plan.specs.Planned.{IsPlanned}
use Rattle.tk_report_text.specs.Labels.{labels}
use Rattle.tk_run_laws.specs.Scripts.{IsRunOf, ArePlayable, HasKey, id_at, key_of, known_in}
use Rattle.tk_run_laws.specs.Scripts.{record_played, next_key, NextKeysAreFree}
use Rattle.tk_report_text.specs.Reports.{report_of_record}
use Rattle.tk_run_laws.specs.Reports.{report_of_plan}
use Rattle.tk_run_laws.specs.Listening.{Listens}

-- a step's stamp is its position in the root's script
abbrev pub StampsArePositions : Type 0
StampsArePositions =
    (root : Forest) (i : ℕ) (s : Step) → slice_get (root_script root) i ≡ Some s → s.stamp ≡ i

-- in a unit's script each step has what it needs to be played
abbrev pub ScriptsArePlayable : Type 0
ScriptsArePlayable =
    (nodes : List NumberedNode) (table : List Descriptor) (unit : ℕ)
    → IsPlanned nodes table → IsNumbered nodes
    → ArePlayable nodes table [] (script_of (forest nodes) unit)

-- A worker that sent some events and then played the first steps of a unit's script, whose
-- registrations have keys that were free before, finds the id of each node that has a key there.
abbrev pub NodesAreFound : Type 0
NodesAreFound =
    (nodes : List NumberedNode) (table : List Descriptor) (unit worker node : ℕ)
    (sent : List Event) (prefix back : List Step)
    → IsPlanned nodes table → IsNumbered nodes
    → NextKeysAreFree table worker sent (length (known_in [] prefix))
    → script_of (forest nodes) unit ≡ prefix ++ back
    → HasKey nodes table (known_in [] prefix) node
    → option_map (λ d. d.id)
    (desc (record_played nodes table worker sent prefix)
    (key_of (length table) (next_key worker sent) (known_in [] prefix) node))
    ≡ Some (id_at nodes node)

-- In each record that keeps the lifecycle, over a table without two descriptors of one id, the ids
-- keep the order that a listener may rely on.
abbrev pub LifecycleIsReliedOn : Type 0
LifecycleIsReliedOn =
    (r : Recorded) → IsRecord r → AreDifferent r.table → KeepsLifecycle r → Listens (labels r)

-- P holds of a plan, its table and the record of each of its runs, for any number of workers
abbrev pub OfEachRun : (List NumberedNode → List Descriptor → Recorded → Type 0) → Type 0
OfEachRun P =
    (nodes : List NumberedNode) (table : List Descriptor) (workers : ℕ) (r : Recorded)
    → IsPlanned nodes table → IsNumbered nodes
    → IsRunOf nodes table workers r → P nodes table r

-- the record of a run has the plan's report
abbrev pub ReportIsUnique : Type 0
ReportIsUnique = OfEachRun (λ nodes table r. report_of_record r ≡ report_of_plan nodes table)

-- in the record of a run the descriptors' ids keep the order that a listener may rely on
abbrev pub Listener : Type 0
Listener = OfEachRun (λ nodes table r. Listens (labels r))

-- the record of a run keeps the lifecycle
abbrev pub RunsKeepLifecycle : Type 0
RunsKeepLifecycle = OfEachRun (λ nodes table r. KeepsLifecycle r)

-- In the record of a run each static key that is due starts or is skipped: the root, and each child
-- of what finishes successfully.
abbrev pub DueKeysRun : Type 0
DueKeysRun = OfEachRun (λ nodes table r. EachDueKeyRuns r)

-- `Kept` is what is said of the record's lifecycle, and nothing else is
abbrev pub IsKept : Recorded → Type 0
IsKept r = (answer : Lifecycle) → IsLifecycle r answer ↔ (answer ≡ Kept)

-- of the record of a run `Kept` is said, and nothing else
abbrev pub RunsAreKept : Type 0
RunsAreKept = OfEachRun (λ nodes table r. IsKept r)

-- What is counted, filtered and matched of a record, and the report of a plan's bytes.
use Rattle.std.proofs.Common.{◌≡◌, ◌↔◌, ℕ, zero, suc, ◌+◌, Bool, true, false, true≢false, cond, List, [], ◌∷◌, map, take, filter, All, Option, Some, Result, Ok, Err, OnOk, sym, refl, ap, subst, ◌∙◌}
use Rattle.std.specs.Io.KnownBytes.{Appends}
use Rattle.std.proofs.lemmas.List.Elements.{All-from_recursion}
use Rattle.tk_events.specs.declared.events.Entry.{Entry}
use Rattle.tk_record.specs.Recorded.{Recorded}
use Rattle.tk_record.specs.Statistics.{statistics_of, statistic_rows}
use Rattle.tk_record.specs.Selections.{PositionedEntry, positioned_from, Selected, all_of, events_of, filtered_by, selects}
use Rattle.tk_record.specs.declared.selections.Selection.{Selection}
use Rattle.tk_query_conditions.specs.declared.conditions.Condition.{Condition}
use Rattle.tk_query.specs.declared.answers.InOrder.{InOrder}
use Rattle.tk_query.specs.declared.answers.InOrder.TheVariants.{Yes, No}
use Rattle.tk_query.specs.Asked.{fits}
use Rattle.tk_query.specs.InOrder.{HoldInTurn, CanHoldInTurn}
use Rattle.tk_query.specs.Matches.{IsInOrder}
use Rattle.tk_plan.specs.Trees.{Tree}
use Rattle.tk_plan_json.specs.declared.faults.PlanFault.{PlanFault}
use Rattle.tk_plan_reading.specs.PlanAnswers.{plan_in}
use Rattle.tk_plan_runs.specs.Answers.{plan_text, IsReported}
use Rattle.tk_query.specs.AnswerTexts.{in_order_yes}
use Rattle.tk_plan_runs.specs.declared.faults.ReportFault.{ReportFault}
use Rattle.testkit_headline.specs.Counting.{IsCount}
use Rattle.testkit_headline.specs.PlanReports.{report_of, report_in}

-- what passes of the events asked is what passes of their entries
filtered :
    (p : Entry → Bool) (kept : List PositionedEntry)
    → map (λ (x : PositionedEntry). x.entry) (filter (λ (x : PositionedEntry). p x.entry) kept)
    ≡ filter p (map (λ (x : PositionedEntry). x.entry) kept)
filtered p [] = refl
filtered p (x ∷ kept) =
    let rest = filter (λ (y : PositionedEntry). p y.entry) kept in
    elim (p x.entry) as
    (λ b. map (λ (y : PositionedEntry). y.entry) (cond b (x ∷ rest) rest)
    ≡ cond b (x.entry ∷ filter p (map (λ (y : PositionedEntry). y.entry) kept))
    (filter p (map (λ (y : PositionedEntry). y.entry) kept)))
    [ true ↦ ap (λ l. x.entry ∷ l) (filtered p kept) | false ↦ filtered p kept ]

pub counts :
    (asked : Selected) → All (IsCount asked) (statistic_rows (statistics_of (events_of asked)))
counts asked =
    All-from_recursion (IsCount asked) (statistic_rows (statistics_of (events_of asked)))
    (refl, (refl, (refl, (refl, (refl, (refl, (refl, (refl, (refl, tt)))))))))

pub filters :
    (asked : Selected) (s : Selection)
    → events_of (filtered_by (selects s asked.recorded) asked)
    ≡ filter (selects s asked.recorded) (events_of asked)
filters asked s = filtered (selects s asked.recorded) asked.kept

module _ {C : Type 0} (fits : C → ℕ → Bool) where
  -- what holds in turn holds so as far as any of the conditions
  hold_prefix :
      (from n : ℕ) (cs : List C) (ps : List ℕ)
      → HoldInTurn fits from cs ps → HoldInTurn fits from (take n cs) (take n ps)
  hold_prefix from zero cs ps h = tt
  hold_prefix from (suc n) [] [] h = tt
  hold_prefix from (suc n) [] (p ∷ ps) h = absurd h
  hold_prefix from (suc n) (c ∷ cs) [] h = absurd h
  hold_prefix from (suc n) (c ∷ cs) (p ∷ ps) h = (h.0, h.1, hold_prefix (p + 1) n cs ps h.2)

pub yes_exactly :
    (asked : Selected) (cs : List Condition) (answer : InOrder)
    → IsInOrder asked cs answer → (in_order_yes answer ≡ true) ↔ CanHoldInTurn (fits asked) cs
yes_exactly asked cs (Yes positions) h = ((λ _. (positions.items, h.holds)), (λ _. refl))
yes_exactly asked cs (No k) h = (
  (λ e. absurd (true≢false (sym e))),
  (λ can. absurd (h.stuck
      (take (k + 1) can.0, hold_prefix (fits asked) 0 (k + 1) cs can.0 can.1))),
)

pub reported :
    (bytes : List ℕ) (workers : ℕ) (old new : Option (List ℕ))
    → IsReported bytes workers old new (Ok tt)
    → (text : List ℕ) × (report_in bytes ≡ Some text) × Appends old new text
reported bytes workers old new h = (plan_text h.0.0, ap report_of h.0.1, h.0.2)

-- what a report that was written is, by its answer
pub reported_on :
    (bytes : List ℕ) (workers : ℕ) (old new : Option (List ℕ)) (answer : Result (Unit {0}) ReportFault)
    → IsReported bytes workers old new answer
    → OnOk answer ((text : List ℕ) × (report_in bytes ≡ Some text) × Appends old new text)
reported_on bytes workers old new (Ok u) h = reported bytes workers old new h
reported_on bytes workers old new (Err fault) h = tt

-- a result has a report exactly where it is a plan
of_tree :
    (r : Result Tree PlanFault) (text : List ℕ)
    → (report_of r ≡ Some text) ↔ ((t : Tree) × (r ≡ Ok t) × (plan_text t ≡ text))
of_tree (Ok t) text = (
  λ e. (t, refl, (cc)),
  λ h. (let same : t ≡ h.0 = cc in ap (λ (x : Tree). Some (plan_text x)) same ∙ ap Some h.2),
)
of_tree (Err fault) text = ((λ e. (cc)), (λ h. let no = h.1 in (cc)))

pub of_the_plan :
    (bytes text : List ℕ)
    → (report_in bytes ≡ Some text)
    ↔ ((t : Tree) × (plan_in bytes ≡ Ok t) × (plan_text t ≡ text))
of_the_plan bytes text = of_tree (plan_in bytes) text

-- The events that a question counts.
use Rattle.std.proofs.Common.{◌≡◌, ℕ, ◌+◌, ◌<◌, Bool, true, false, cond, ◌&&◌, List, [], ◌∷◌, ◌++◌, length, take, get_or, count_by, refl, sym, ap, ◌∙◌, arith}
use Rattle.std.specs.Prelude.{filter, ◌==◌}
use Rattle.std.proofs.lemmas.List.Sums.{sum_by-cons}
use Rattle.tk_events.specs.declared.events.Entry.{Entry}
use Rattle.std.specs.List.{flat_map, list_all}
use Rattle.std.proofs.lemmas.List.Elements.{filter_agree}
use Rattle.std.proofs.lemmas.List.Folds.{list_all_more}
use Rattle.tk_base.proofs.Truth.{and-true}
use Rattle.tk_record.specs.Recorded.{Recorded}
use Rattle.tk_record.specs.Selections.{PositionedEntry, positioned_from, positioned, Selected, filtered_by, selects}
use Rattle.tk_record.specs.declared.selections.Selection.{Selection}
use Rattle.tk_query_conditions.specs.declared.conditions.Condition.{Condition}
use Rattle.tk_query.specs.Holds.{holds}
use Rattle.tk_record.specs.Selections.{events_of}
use Rattle.tk_record.specs.Statistics.{mismatches, statistics_of}
use Rattle.tk_record.specs.declared.statistics.Expected.{Expected}
use Rattle.tk_record.specs.declared.statistics.Mismatch.{Mismatch}
use Rattle.tk_record.specs.declared.statistics.Statistics.{Statistics}
use Rattle.tk_record.specs.StatisticTexts.{statistics_text}
use Rattle.testkit_questions.specs.Answers.{IsAnswerTo, events_where, mismatch_line, picked}
use Rattle.testkit_questions.specs.declared.answers.Answer.{Answer}
use Rattle.testkit_questions.specs.declared.questions.Question.TheVariants.{Stats}

-- those kept are as many as the entries that pass
pub kept_count : (p : Entry → Bool) (n : ℕ) (es : List Entry) → length (filter (λ (x : PositionedEntry). p x.entry) (positioned_from n es)) ≡ count_by p es
unfolding positioned_from
kept_count p n [] = refl
kept_count p n (e ∷ es) = by (p e) (kept_count p (n + 1) es) ∙ sym (sum_by-cons (λ x. cond (p x) 1 0) e es)
  where
    by : (b : Bool) → length (filter (λ (x : PositionedEntry). p x.entry) (positioned_from (n + 1) es)) ≡ count_by p es
        → length (cond b (record { position = n; entry = e } ∷ filter (λ (x : PositionedEntry). p x.entry) (positioned_from (n + 1) es)) (filter (λ (x : PositionedEntry). p x.entry) (positioned_from (n + 1) es))) ≡ cond {A = ℕ} b 1 0 + count_by p es
    by true rest = omega (arith, rest)
    by false rest = omega (arith, rest)

-- the answer about statistics, from its parts
pub stats_are : (selection : Selection) (e : Expected) (r : Recorded) (events : Selected)
    (s : Statistics) (ms : List Mismatch) (answer : Answer) → events ≡ picked selection r
    → s ≡ statistics_of (events_of events) → ms ≡ mismatches e (statistics_of (events_of events))
    → (answer.is_yes ≡ (length ms == 0))
    × (answer.text.items ≡ statistics_text s ++ flat_map mismatch_line ms)
    → IsAnswerTo (Stats selection e) r answer.is_yes answer.text.items
stats_are selection e r events s ms answer is s_is ms_is said =
    let all = ap (λ (x : Selected). statistics_of (events_of x)) is in
    let m = ms_is ∙ ap (mismatches e) all in (
      said.0 ∙ ap (λ (l : List Mismatch). length l == 0) m,
      said.1
          ∙ ap (λ (t : Statistics). statistics_text t ++ flat_map mismatch_line ms) (s_is ∙ all)
          ∙ ap (λ (l : List Mismatch).
          statistics_text (statistics_of (events_of (picked selection r)))
          ++ flat_map mismatch_line l) m,
    )

-- ---- events that a selection picks and of which conditions hold

and_both : (a b c : Bool) → (a && (b && c)) ≡ ((a && b) && c)
and_both true b c = refl
and_both false b c = refl

-- a filter of what a filter keeps
filter_both : {X : Type 0} (p q both : X → Bool) → ((x : X) → both x ≡ (p x && q x)) → (xs : List X) → filter q (filter p xs) ≡ filter both xs
filter_both {X = X} p q both is [] = refl
filter_both {X = X} p q both is (x ∷ xs) = by (p x) (q x) refl (filter_both p q both is xs) ∙ ap (λ (b : Bool). cond b (x ∷ filter both xs) (filter both xs)) (sym (is x))
  where
    by : (a b : Bool) → q x ≡ b → filter q (filter p xs) ≡ filter both xs → filter q (cond a (x ∷ filter p xs) (filter p xs)) ≡ cond (a && b) (x ∷ filter both xs) (filter both xs)
    by true true e rest = ap (λ (b : Bool). cond b (x ∷ filter q (filter p xs)) (filter q (filter p xs))) e ∙ ap (λ (l : List X). x ∷ l) rest
    by true false e rest = ap (λ (b : Bool). cond b (x ∷ filter q (filter p xs)) (filter q (filter p xs))) e ∙ rest
    by false b e rest = rest

-- before the first condition
pub where_none : (s : Selection) (r : Recorded) (events : Selected) → events ≡ picked s r
    → events ≡ events_where s [] r
where_none s r events is =
    is ∙ ap (λ (kept : List PositionedEntry). record { recorded = r; kept = kept })
    (filter_agree (λ x. selects s r x.entry) (λ x. selects s r x.entry && true)
    (λ x. sym (and-true (selects s r x.entry))) (positioned r.entries))

-- one condition more
pub where_more : (s : Selection) (cs : List Condition) (i : ℕ) (c : Condition) (r : Recorded) (before after : Selected) → i < length cs → c ≡ get_or cs i c → before ≡ events_where s (take i cs) r
    → after ≡ filtered_by (holds before.recorded c) before → after ≡ events_where s (take (i + 1) cs) r
where_more s cs i c r before after lt at before_is is =
    is ∙ ap (λ (e : Selected). filtered_by (holds e.recorded c) e) before_is
    ∙ ap (λ (kept : List PositionedEntry). record { recorded = r; kept = kept })
    (filter_both (λ x. selects s r x.entry && list_all (λ d. holds r d x.entry) (take i cs)) (λ x. holds r c x.entry) (λ x. selects s r x.entry && list_all (λ d. holds r d x.entry) (take (i + 1) cs)) both (positioned r.entries))
  where
    both : (x : PositionedEntry) → (selects s r x.entry && list_all (λ d. holds r d x.entry) (take (i + 1) cs)) ≡ ((selects s r x.entry && list_all (λ d. holds r d x.entry) (take i cs)) && holds r c x.entry)
    both x =
        ap (λ (b : Bool). selects s r x.entry && b)
        (list_all_more (λ d. holds r d x.entry) cs i c lt ∙ ap (λ (d : Condition). list_all (λ f. holds r f x.entry) (take i cs) && holds r d x.entry) (sym at))
        ∙ and_both (selects s r x.entry) (list_all (λ d. holds r d x.entry) (take i cs)) (holds r c x.entry)

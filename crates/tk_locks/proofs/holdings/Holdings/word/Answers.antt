use Rattle.std.proofs.Common.{◌≡◌, ℕ, ◌≤◌, ◌<◌, ◌^◌, ◌↔◌, sum_by, count_by, is_some, take, get_or, All, List, Option, Some, arith, subst, ap, sym, ◌∙◌}
use Rattle.std.proofs.lemmas.List.Sums.{sum_by_more_le}
use Rattle.std.proofs.lemmas.Grind.{common_steps}
use Rattle.tk_locks.specs.NeedView.{NeedView}
use Rattle.tk_lanes.specs.Lanes.{Admits}
use Rattle.tk_locks.specs.Needs.{word_of}
use Rattle.tk_locks.specs.Holdings.{IsCompatible, AreCompatible, held_word}
use Rattle.tk_locks.proofs.LaneConflicts.{admits_exactly, sum_fits}
use Rattle.tk_locks.proofs.holdings.Holdings.word.Goals as goal

pub overflow_add-word : goal.overflow_add-word
overflow_add-word c = let xs : List (Option NeedView) = c.deref-held-items.result.now in let i : ℕ = c.loop-held.held-index in
    let few : count_by is_some xs ≤ 14 = subst (λ (l : List (Option NeedView)). count_by is_some l ≤ 14) (sym (c.deref-held-items.ensures.value ∙ c.self.view_is)) c.requires.few in
    let more = sum_by_more_le held_word xs i c.held-item.result c.loop-held-test.true in
    let fits : sum_by held_word xs < 2 ^ 64 = sum_fits xs (subst AreCompatible (sym c.deref-held-items.ensures.value) c.self.invariant) (omega arith) in
    let item : held_word (get_or xs i c.held-item.result) ≡ word_of c.in-Some.need = ap held_word (sym c.held-item.is ∙ c.in-Some.is) in
    let so_far : c.loop-held.word ≡ sum_by held_word (take i xs) = c.loop-held.invariant in let new = c.word-word.ensures in omega arith

pub returns-clause-exactly : goal.returns-clause-exactly
returns-clause-exactly c = λ n. let xs : List (Option NeedView) = c.deref-held-items.result.now in
    let few : count_by is_some xs ≤ 14 = subst (λ (l : List (Option NeedView)). count_by is_some l ≤ 14) (sym (c.deref-held-items.ensures.value ∙ c.self.view_is)) c.requires.few in
    let total : sum_by held_word xs ≡ c.loop-held.word = grind (arith, common_steps, c.loop-held.invariant) in
    subst (λ (p : ℕ × List (Option NeedView)). Admits p.0 (word_of n) ↔ All (IsCompatible (Some n)) p.1) (λ k. (total k, (c.deref-held-items.ensures.value ∙ c.self.view_is) k))
    (admits_exactly xs n (subst AreCompatible (sym c.deref-held-items.ensures.value) c.self.invariant) few)

-- A record has one answer about its lifecycle, and an event that breaks a rule spoils each record that begins so.
use Rattle.std.proofs.Common.{◌≡◌, ℕ, zero, suc, ◌+◌, ◌<◌, ◌≤◌, ⊎_elim, List, [], ◌∷◌, length, take, Some, refl, sym, ap, ◌∙◌, subst, arith}
use Rattle.std.specs.Prelude.{slice_get}
use Rattle.std.proofs.lemmas.Bool.{true≢false, cases_lt}
use Rattle.std.proofs.lemmas.Option.{same_Some, slice_get_within}
use Rattle.tk_events.specs.declared.events.Entry.{Entry}
use Rattle.tk_record.specs.Recorded.{Recorded}
use Rattle.tk_query_lifecycle.specs.Lifecycle.{Breaks, BreaksFirst, NoneBreaks, IsBrokenAt, first_entries, rank}
use Rattle.tk_query_lifecycle.specs.LifecycleLaws.{LifecycleIsUnique, BreakIsFinal}
use Rattle.tk_query_lifecycle.specs.declared.lifecycle_rules.Lifecycle.TheVariants.{Kept, Broken, Unfinished, NeverRan}
use Rattle.tk_query_lifecycle.specs.declared.lifecycle_rules.LifecycleRule.{LifecycleRule}
use Rattle.tk_query_lifecycle.specs.declared.lifecycle_rules.LifecycleRule.TheVariants.{IdKnown, ParentUnknown, ParentNotRunning, RanAlready, NotRunning, ChildRunning}

pub between : (a b : ℕ) → (a < b → ⊥) → (b < a → ⊥) → a ≡ b
between a b f g = ⊎_elim {C = a ≡ b} (λ (lt : a < b). absurd (f lt))
    (λ (le : b ≤ a). ⊎_elim {C = a ≡ b} (λ (lt : b < a). absurd (g lt)) (λ (ge : a ≤ b). omega (arith, le, ge)) (cases_lt b a))
    (cases_lt a b)

-- the rules have different ranks
same_rank : (a b : LifecycleRule) → rank a ≡ rank b → a ≡ b
same_rank IdKnown IdKnown e = refl
same_rank ParentUnknown ParentUnknown e = refl
same_rank ParentNotRunning ParentNotRunning e = refl
same_rank RanAlready RanAlready e = refl
same_rank NotRunning NotRunning e = refl
same_rank ChildRunning ChildRunning e = refl
same_rank a b e = cc

broken_not : (r : Recorded) (p n : ℕ) (rule : LifecycleRule) → IsBrokenAt r p rule → NoneBreaks r n → p < n → ⊥
broken_not r p n rule b none lt = none p b.event lt b.stands rule b.breaks.broken

broken_kept : (r : Recorded) (p : ℕ) (rule : LifecycleRule) → IsBrokenAt r p rule → NoneBreaks r (length r.entries) → ⊥
broken_kept r p rule b none = broken_not r p (length r.entries) rule b none (slice_get_within r.entries p b.event b.stands)

one_rule : (r : Recorded) (p q : ℕ) (a b : LifecycleRule) → IsBrokenAt r p a → IsBrokenAt r q b → p ≡ q → a ≡ b
one_rule r p q a b h k same =
    let event : k.event ≡ h.event = same_Some k.event h.event (sym k.stands ∙ ap (slice_get r.entries) (sym same) ∙ h.stands) in
    let there : BreaksFirst (first_entries p r) h.event b = subst (λ n. BreaksFirst (first_entries n r) h.event b) (sym same) (subst (λ e. BreaksFirst (first_entries q r) e b) event k.breaks) in
    same_rank a b (between (rank a) (rank b) (λ lt. there.first a lt h.breaks.broken) (λ lt. h.breaks.first b lt there.broken))

pair_same : (p q : ℕ) (a b : LifecycleRule) → p ≡ q → a ≡ b → Broken p a ≡ Broken q b
pair_same p q a b e f = ap (λ n. Broken n a) e ∙ ap (Broken q) f

pub lifecycle_is_unique : LifecycleIsUnique
lifecycle_is_unique r Kept Kept h k = refl
lifecycle_is_unique r Kept (Broken q b) h k = absurd (broken_kept r q b k h.0.none)
lifecycle_is_unique r Kept (Unfinished key) h k = absurd (true≢false (sym k.1 ∙ h.0.at_rest key))
lifecycle_is_unique r Kept (NeverRan key) h k = absurd (h.1 key k.1.never)
lifecycle_is_unique r (Broken p a) Kept h k = absurd (broken_kept r p a h k.0.none)
lifecycle_is_unique r (Broken p a) (Broken q b) h k =
    let same = between p q (λ lt. broken_not r p q a h k.before lt) (λ lt. broken_not r q p b k h.before lt) in
    pair_same p q a b same (one_rule r p q a b h k same)
lifecycle_is_unique r (Broken p a) (Unfinished key) h k = absurd (broken_kept r p a h k.0)
lifecycle_is_unique r (Broken p a) (NeverRan key) h k = absurd (broken_kept r p a h k.0.none)
lifecycle_is_unique r (Unfinished key) Kept h k = absurd (true≢false (sym h.1 ∙ k.0.at_rest key))
lifecycle_is_unique r (Unfinished key) (Broken q b) h k = absurd (broken_kept r q b k h.0)
lifecycle_is_unique r (Unfinished i) (Unfinished j) h k = ap Unfinished (between i j (λ lt. true≢false (sym h.1 ∙ k.2 i lt)) (λ lt. true≢false (sym k.1 ∙ h.2 j lt)))
lifecycle_is_unique r (Unfinished key) (NeverRan j) h k = absurd (true≢false (sym h.1 ∙ k.0.at_rest key))
lifecycle_is_unique r (NeverRan key) Kept h k = absurd (k.1 key h.1.never)
lifecycle_is_unique r (NeverRan key) (Broken q b) h k = absurd (broken_kept r q b k h.0.none)
lifecycle_is_unique r (NeverRan i) (Unfinished key) h k = absurd (true≢false (sym k.1 ∙ h.0.at_rest key))
lifecycle_is_unique r (NeverRan i) (NeverRan j) h k = ap NeverRan (between i j (λ lt. k.1.first i lt h.1.never) (λ lt. h.1.first j lt k.1.never))

-- an event within the first ones
first_at : (es ds : List Entry) (p : ℕ) (e : Entry) → take (suc p) ds ≡ take (suc p) es → slice_get es p ≡ Some e → slice_get ds p ≡ Some e
first_at es ds p e same at = sym (at_take ds p) ∙ ap (λ l. slice_get l p) same ∙ at_take es p ∙ at
  where
    at_take : (l : List Entry) (n : ℕ) → slice_get (take (suc n) l) n ≡ slice_get l n
    at_take [] n = refl
    at_take (x ∷ l) zero = refl
    at_take (x ∷ l) (suc n) = at_take l n

take_less : (es ds : List Entry) (p : ℕ) → take (suc p) ds ≡ take (suc p) es → take p ds ≡ take p es
take_less es ds p same = sym (less ds p) ∙ ap (take p) same ∙ less es p
  where
    less : (l : List Entry) (n : ℕ) → take n (take (suc n) l) ≡ take n l
    less l zero = refl
    less [] (suc n) = refl
    less (x ∷ l) (suc n) = ap (λ t. x ∷ t) (less l n)

pub break_is_final : BreakIsFinal
break_is_final r s p rule b table same kept =
    let next : p + 1 ≡ suc p = omega arith in
    let firsts = subst (λ n. take n s.entries ≡ take n r.entries) next same in
    let at = first_at r.entries s.entries p b.event firsts b.stands in
    let past : first_entries p r ≡ first_entries p s =
    ap (λ t. let x : Recorded = record { table = t; entries = take p r.entries } in x) (sym table)
    ∙ ap (λ l. let x : Recorded = record { table = s.table; entries = l } in x) (sym (take_less r.entries s.entries p firsts)) in
    kept.0.none p b.event (slice_get_within s.entries p b.event at) at rule (subst (λ x. Breaks x b.event rule) past b.breaks.broken)

-- The entries of one worker, and of no other.
use Rattle.std.proofs.Common.{◌≡◌, ◌≢◌, ◌==◌, ℕ, ◌<◌, Bool, if◌then◌else◌, List, [], ◌∷◌, ◌++◌, map, refl, ap, ap₂, ◌∙◌, arith, append-nil, eq-eqb, ne_eqb}
use Rattle.std.specs.Prelude.{filter, All}
use Rattle.std.proofs.lemmas.List.Elements.{All-head, All-tail}
use Rattle.tk_events.specs.declared.events.Event.{Event}
use Rattle.tk_events.specs.declared.events.Entry.{Entry}
use Rattle.tk_record.specs.Mixing.{IsWorkerOf, of_worker}
use Rattle.tk_queue_session.specs.Emission.{entry_by, entries_by}
use Rattle.tk_queue_session.proofs.ReceiverSteps.{of_worker-append}
use Rattle.tk_claims.specs.Parts.{EachHasItsList}

-- what a worker emitted is its own
pub own_events : (w : ℕ) (es : List Event) → of_worker w (entries_by w es) ≡ es
own_events w [] = refl
own_events w (e ∷ es) =
    ap (λ (b : Bool). map (λ (x : Entry). x.event) (if b then entry_by w e ∷ filter (λ x. x.worker == w) (entries_by w es) else filter (λ x. x.worker == w) (entries_by w es))) (eq-eqb w w refl)
    ∙ ap (λ l. e ∷ l) (own_events w es)

-- and of no other
pub no_events : (w v : ℕ) (es : List Event) → v ≢ w → of_worker w (entries_by v es) ≡ []
no_events w v [] apart = refl
no_events w v (e ∷ es) apart =
    ap (λ (b : Bool). map (λ (x : Entry). x.event) (if b then entry_by v e ∷ filter (λ x. x.worker == w) (entries_by v es) else filter (λ x. x.worker == w) (entries_by v es))) (ne_eqb v w apart)
    ∙ no_events w v es apart

-- worker 0 has nothing among the entries of the workers from 1 on
pub nothing_of_zero : (n : ℕ) (es : List Entry) → All (λ e. IsWorkerOf n e.worker) es → of_worker 0 es ≡ []
nothing_of_zero n [] all = refl
nothing_of_zero n (e ∷ es) all =
    let own : 0 < e.worker = (All-head (λ (x : Entry). IsWorkerOf n x.worker) e es all).0 in
    ap (λ (b : Bool). map (λ (x : Entry). x.event) (if b then e ∷ filter (λ x. x.worker == 0) es else filter (λ x. x.worker == 0) es)) (ne_eqb e.worker 0 (λ same. absurd (omega arith)))
    ∙ nothing_of_zero n es (All-tail (λ (x : Entry). IsWorkerOf n x.worker) e es all)

-- the three parts of a run
parts : (w : ℕ) (a b c : List Entry) → of_worker w (a ++ b ++ c) ≡ of_worker w a ++ of_worker w b ++ of_worker w c
parts w a b c = of_worker-append w (a ++ b) c ∙ ap (λ l. l ++ of_worker w c) (of_worker-append w a b)

-- what one of the workers has in a run, it has in the middle
pub in_the_middle : (w : ℕ) (before after : List Event) (mid : List Entry) → 0 < w → of_worker w (entries_by 0 before ++ mid ++ entries_by 0 after) ≡ of_worker w mid
in_the_middle w before after mid low =
    let apart : 0 ≢ w = λ same. absurd (omega arith) in
    parts w (entries_by 0 before) mid (entries_by 0 after)
    ∙ ap₂ (λ (x y : List Event). x ++ of_worker w mid ++ y) (no_events w 0 before apart) (no_events w 0 after apart)
    ∙ append-nil (of_worker w mid)

pub each_has_its_list : EachHasItsList
each_has_its_list before after workers mid lists mix = (
  parts 0 (entries_by 0 before) mid (entries_by 0 after)
      ∙ ap₂ (λ (x y : List Event). x ++ y ++ of_worker 0 (entries_by 0 after)) (own_events 0 before) (nothing_of_zero workers mid mix.workers)
      ∙ ap₂ (λ (x y : List Event). x ++ y) (append-nil before) (own_events 0 after),
  λ w own. in_the_middle w before after mid own.0 ∙ mix.each w own,
)

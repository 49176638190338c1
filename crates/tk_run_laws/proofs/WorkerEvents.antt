-- The events of one worker among those of all.
use Rattle.std.proofs.Common.{◌≡◌, ◌≢◌, ◌<◌, ℕ, suc, ◌⊎◌, Bool, true, false, cond, List, [], ◌∷◌, ◌++◌, flat_map, filter, All, refl, sym, ap, ◌∙◌, arith, tests, ⊎_elim, ◌==◌}
use Rattle.std.proofs.lemmas.Bool.{cases_Bool}
use Rattle.std.proofs.lemmas.List.{map-append}
use Rattle.tk_base.proofs.Lists.{nil_left, nil_right}
use Rattle.tk_record.specs.Mixing.{IsWorkerOf, of_worker}
use Rattle.tk_events.specs.declared.events.Entry.{Entry}
use Rattle.tk_events.specs.declared.events.Event.{Event}
use Rattle.tk_report_text.specs.Labels.{events}
use Rattle.tk_queue_session.specs.Emission.{entries_by}

nil_of_cond : {B : Type 0} (b : Bool) (f : Event → List B) (x : Entry) (xs : List Entry) → flat_map f (events (cond b (x ∷ xs) xs)) ≡ [] → flat_map f (events xs) ≡ []
nil_of_cond true f x xs h = nil_right (f x.event) _ h
nil_of_cond false f x xs h = h

-- where the events of all other workers give nothing, the whole gives what the events of one worker give
pub mix_one : {B : Type 0} (f : Event → List B) (w : ℕ) (r : List Entry) → ((v : ℕ) → v ≢ w → flat_map f (of_worker v r) ≡ [])
    → flat_map f (events r) ≡ flat_map f (of_worker w r)
mix_one f w [] h = refl
mix_one f w (x ∷ xs) h =
    let more = mix_one f w xs (λ v n. nil_of_cond (x.worker == v) f x (filter (λ e. e.worker == v) xs) (h v n)) in
    ⊎_elim
    (λ e. ap (λ l. f x.event ++ l) more ∙ ap (λ b. flat_map f (events (cond b (x ∷ filter (λ e. e.worker == w) xs) (filter (λ e. e.worker == w) xs)))) (sym e))
    (λ e.
    let n : x.worker ≢ w = grind (arith, tests, e) in
    let own : (x.worker == x.worker) ≡ true = grind (arith, tests) in
    let nothing : flat_map f (x.event ∷ of_worker x.worker xs) ≡ []
    = ap (λ b. flat_map f (events (cond b (x ∷ filter (λ e. e.worker == x.worker) xs) (filter (λ e. e.worker == x.worker) xs)))) (sym own) ∙ h x.worker n in
    ap (λ l. l ++ flat_map f (events xs)) (nil_left (f x.event) _ nothing)
    ∙ (more ∙ ap (λ b. flat_map f (events (cond b (x ∷ filter (λ e. e.worker == w) xs) (filter (λ e. e.worker == w) xs)))) (sym e)))
    (cases_Bool (x.worker == w))

-- a worker that is none of them has no event
pub no_events : (n w : ℕ) (r : List Entry) → All (λ e. IsWorkerOf n e.worker) r → ((w ≡ 0) ⊎ (n < w)) → of_worker w r ≡ []
no_events n w [] h o = refl
no_events n w (x ∷ xs) h o =
    let more = no_events n w xs (λ k d l. h (suc k) d (omega (arith, l))) o in
    let within = h 0 x (omega arith) in
    let differ : (x.worker == w) ≡ false = ⊎_elim (λ z. grind (arith, tests, z, within.0)) (λ z. grind (arith, tests, z, within.1)) o in
    ap (λ b. events (cond b (x ∷ filter (λ e. e.worker == w) xs) (filter (λ e. e.worker == w) xs))) differ ∙ more

pub events-append : (xs ys : List Entry) → events (xs ++ ys) ≡ events xs ++ events ys
events-append xs ys = map-append (λ (x : Entry). x.event) xs ys

pub events_by : (w : ℕ) (es : List Event) → events (entries_by w es) ≡ es
events_by w [] = refl
events_by w (e ∷ es) = ap (λ l. e ∷ l) (events_by w es)

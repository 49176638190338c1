-- What workers emit, unit by unit.
use Rattle.std.proofs.Common.{◌≡◌, ℕ, ◌+◌, List, [], ◌∷◌, ◌++◌, refl, sym, arith, append_assoc, append-nil}
use Rattle.std.proofs.lemmas.List.Sums.{sum_by-append}
use Rattle.std.specs.Prelude.{cond}
use Rattle.tk_events.specs.declared.events.Event.{Event}
use Rattle.tk_queue_session.specs.Emission.{is_dynamic, registrations}
use Rattle.tk_claims.specs.Run.{Emits}

pub registrations-append : (xs ys : List Event) → registrations (xs ++ ys) ≡ registrations xs + registrations ys
registrations-append xs ys = sum_by-append (λ (e : Event). cond {A = ℕ} (is_dynamic e) 1 0) xs ys

-- one unit more
pub emits_more : (may : ℕ → ℕ → ℕ → List Event → Type 0) (w k : ℕ) (us : List ℕ) (l : List Event) (u : ℕ) (a : List Event)
    → Emits may w k us l → may u w (k + registrations l) a → Emits may w k (us ++ u ∷ []) (l ++ a)
emits_more may w k [] l u a none new =
    let e : k + registrations l ≡ k = rw none (omega arith) in
    (a, [], rw none (sym (append-nil a)), rw e at new, refl)
emits_more may w k (v ∷ us) l u a (x, y, cut, first, rest) new =
    let e : k + registrations l ≡ (k + registrations x) + registrations y = rw cut (omega (arith, registrations-append x y)) in
    (x, y ++ a, rw cut (append_assoc x y a), first, emits_more may w (k + registrations x) us y u a rest (rw e at new))

pub emits_along : (may : ℕ → ℕ → ℕ → List Event → Type 0) (w v : ℕ) (us vs : List ℕ) (l m : List Event) → w ≡ v → us ≡ vs → l ≡ m → Emits may v 0 vs m → Emits may w 0 us l
emits_along may w v us vs l m w_is us_is l_is h = rw (w_is, us_is, l_is) h

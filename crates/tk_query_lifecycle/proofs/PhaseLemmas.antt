-- What one more event does to the phases of keys.
use Rattle.std.proofs.Common.{◌≡◌, ℕ, Bool, true, false, ◌&&◌, ◌||◌, not, List, [], ◌∷◌, ◌++◌, None, refl, sym, ap, ◌∙◌, subst, eq-eqb}
use Rattle.std.specs.Prelude.{◌==◌}
use Rattle.std.proofs.lemmas.List.Folds.{list_any-append}
use Rattle.tk_base.proofs.Truth.{or-false, and-true}
use Rattle.tk_events.specs.declared.kinds.Kind.{Kind}
use Rattle.tk_events.specs.declared.kinds.Kind.TheVariants.{Dynamic, Skipped, Started, Finished, Reporting, File}
use Rattle.tk_events.specs.declared.events.Entry.{Entry}
use Rattle.tk_events.specs.declared.statuses.Status.TheVariants.{Successful}
use Rattle.tk_events.specs.Event.{kind_code}
use Rattle.tk_record.specs.Entries.{of_status}
use Rattle.tk_query_lifecycle.specs.Lifecycle.{is_event, has_event, has_run}
use Rattle.tk_query_lifecycle.specs.steps.KeyStates.{phase_after, refusal}
use Rattle.tk_query_lifecycle.specs.steps.Progress.{IsPhase, has_success, is_success}
use Rattle.tk_query_lifecycle.specs.declared.key_states.KeyState.{KeyState}
use Rattle.tk_query_lifecycle.specs.declared.key_states.Phase.{Phase}
use Rattle.tk_query_lifecycle.specs.declared.key_states.Phase.TheVariants.{Idle, Running, Ended}

has_more : (kind : Kind) (key : ℕ) (es : List Entry) (e : Entry) → has_event kind key (es ++ e ∷ []) ≡ (has_event kind key es || is_event kind key e)
has_more kind key es e = list_any-append (is_event kind key) es (e ∷ []) ∙ ap (λ b. has_event kind key es || b) (or-false (is_event kind key e))

and_nothing : (b : Bool) → (b && false) ≡ false
and_nothing true = refl
and_nothing false = refl

-- an event of another key
has_other : (kind : Kind) (key : ℕ) (es : List Entry) (e : Entry) → (e.event.key == key) ≡ false → has_event kind key (es ++ e ∷ []) ≡ has_event kind key es
has_other kind key es e other =
    has_more kind key es e ∙ ap (λ b. has_event kind key es || ((kind_code e.event.kind == kind_code kind) && b)) other
    ∙ ap (λ b. has_event kind key es || b) (and_nothing (kind_code e.event.kind == kind_code kind)) ∙ or-false (has_event kind key es)

-- an event of the key
has_same : (kind : Kind) (es : List Entry) (e : Entry) (is : Kind) → e.event.kind ≡ is → has_event kind e.event.key (es ++ e ∷ []) ≡ (has_event kind e.event.key es || (kind_code is == kind_code kind))
has_same kind es e is at =
    has_more kind e.event.key es e
    ∙ ap (λ b. has_event kind e.event.key es || ((kind_code e.event.kind == kind_code kind) && b)) (eq-eqb e.event.key e.event.key refl)
    ∙ ap (λ b. has_event kind e.event.key es || b) (and-true (kind_code e.event.kind == kind_code kind))
    ∙ ap (λ k. has_event kind e.event.key es || (kind_code k == kind_code kind)) at

-- the phase of a key that was started, skipped, finished
abbrev pub IsPhaseOf : Bool → Bool → Bool → Phase → Type 0
IsPhaseOf started skipped finished Idle = ((started || skipped) ≡ false) × (finished ≡ false)
IsPhaseOf started skipped finished Running = ((started && not finished) ≡ true) × ((started || skipped) ≡ true)
IsPhaseOf started skipped finished Ended = ((started && not finished) ≡ false) × ((started || skipped) ≡ true)

to_phase : (es : List Entry) (key : ℕ) (phase : Phase) → IsPhaseOf (has_event Started key es) (has_event Skipped key es) (has_event Finished key es) phase → IsPhase es key phase
to_phase es key Idle h = h
to_phase es key Running h = h
to_phase es key Ended h = h

from_phase : (es : List Entry) (key : ℕ) (phase : Phase) → IsPhase es key phase → IsPhaseOf (has_event Started key es) (has_event Skipped key es) (has_event Finished key es) phase
from_phase es key Idle h = h
from_phase es key Running h = h
from_phase es key Ended h = h

moved : (a b c x y z : Bool) (phase : Phase) → a ≡ x → b ≡ y → c ≡ z → IsPhaseOf x y z phase → IsPhaseOf a b c phase
moved a b c x y z phase e f g h = subst (λ s. IsPhaseOf s b c phase) (sym e) (subst (λ s. IsPhaseOf x s c phase) (sym f) (subst (λ s. IsPhaseOf x y s phase) (sym g) h))

pub phase_other : (es : List Entry) (e : Entry) (key : ℕ) (phase : Phase) → (e.event.key == key) ≡ false → IsPhase es key phase → IsPhase (es ++ e ∷ []) key phase
phase_other es e key phase other h = to_phase (es ++ e ∷ []) key phase
    (moved _ _ _ _ _ _ phase (has_other Started key es e other) (has_other Skipped key es e other) (has_other Finished key es e other) (from_phase es key phase h))

pub run_other : (es : List Entry) (e : Entry) (key : ℕ) → (e.event.key == key) ≡ false → has_run key (es ++ e ∷ []) ≡ has_run key es
run_other es e key other = ap (λ b. b || has_event Skipped key (es ++ e ∷ [])) (has_other Started key es e other) ∙ ap (λ b. has_event Started key es || b) (has_other Skipped key es e other)

started : (s k f : Bool) → (s || k) ≡ false → f ≡ false → IsPhaseOf (s || true) (k || false) (f || false) Running
started false false false e g = (refl, refl)
started s k f e g = cc

skipped : (s k f : Bool) → (s || k) ≡ false → f ≡ false → IsPhaseOf (s || false) (k || true) (f || false) Ended
skipped false false false e g = (refl, refl)
skipped s k f e g = cc

finished : (s k f : Bool) → (s && not f) ≡ true → (s || k) ≡ true → IsPhaseOf (s || false) (k || false) (f || true) Ended
finished true false false e g = (refl, refl)
finished true true false e g = (refl, refl)
finished s k f e g = cc

same : (s k f : Bool) (phase : Phase) → IsPhaseOf s k f phase → IsPhaseOf (s || false) (k || false) (f || false) phase
same s k f phase h = moved _ _ _ s k f phase (or-false s) (or-false k) (or-false f) h

stepped : (kind : Kind) (s k f : Bool) (state : KeyState) (phase : Phase) → state.phase ≡ phase → refusal kind state ≡ None → IsPhaseOf s k f phase
    → IsPhaseOf (s || (kind_code kind == kind_code Started)) (k || (kind_code kind == kind_code Skipped)) (f || (kind_code kind == kind_code Finished)) (phase_after kind phase)
stepped Started s k f state Idle is none h = started s k f h.0 h.1
stepped Started s k f state Running is none h = cc
stepped Started s k f state Ended is none h = cc
stepped Skipped s k f state Idle is none h = skipped s k f h.0 h.1
stepped Skipped s k f state Running is none h = cc
stepped Skipped s k f state Ended is none h = cc
stepped Finished s k f state Idle is none h = cc
stepped Finished s k f state Running is none h = finished s k f h.0 h.1
stepped Finished s k f state Ended is none h = cc
stepped Dynamic s k f state phase is none h = same s k f phase h
stepped Reporting s k f state phase is none h = same s k f phase h
stepped File s k f state phase is none h = same s k f phase h

-- a successful finish of another key
pub success_other : (es : List Entry) (e : Entry) (key : ℕ) → (e.event.key == key) ≡ false → has_success key (es ++ e ∷ []) ≡ has_success key es
success_other es e key other =
    list_any-append (is_success key) es (e ∷ [])
    ∙ ap (λ b. has_success key es || b) (or-false (is_success key e) ∙ ap (λ b. of_status Successful e && b) other ∙ and_nothing (of_status Successful e))
    ∙ or-false (has_success key es)

-- a successful finish of the key, or another event of it
pub success_same : (es : List Entry) (e : Entry) → has_success e.event.key (es ++ e ∷ []) ≡ (has_success e.event.key es || of_status Successful e)
success_same es e =
    list_any-append (is_success e.event.key) es (e ∷ [])
    ∙ ap (λ b. has_success e.event.key es || b)
    (or-false (is_success e.event.key e) ∙ ap (λ b. of_status Successful e && b) (eq-eqb e.event.key e.event.key refl) ∙ and-true (of_status Successful e))

pub phase_same : (es : List Entry) (e : Entry) (state : KeyState) → refusal e.event.kind state ≡ None → IsPhase es e.event.key state.phase → IsPhase (es ++ e ∷ []) e.event.key (phase_after e.event.kind state.phase)
phase_same es e state none h =
    let key = e.event.key in
    to_phase (es ++ e ∷ []) key (phase_after e.event.kind state.phase)
    (moved _ _ _ _ _ _ (phase_after e.event.kind state.phase) (has_same Started es e e.event.kind refl) (has_same Skipped es e e.event.kind refl) (has_same Finished es e e.event.kind refl)
    (stepped e.event.kind _ _ _ state state.phase refl none (from_phase es key state.phase h)))

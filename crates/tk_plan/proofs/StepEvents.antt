-- The spine's events are its steps.
use Rattle.std.proofs.Common.{◌≡◌, ℕ, ◌+◌, List, [], ◌∷◌, ◌++◌, unwrap_or, map, flat_map, length, slice_get, true, Bool, Some, refl, sym, ap, ap₂, ◌∙◌, arith, length-append, append_assoc}
use Rattle.std.proofs.lemmas.List.{map-append}
use Rattle.tk_base.proofs.Lists.{get_at_seam}
use Rattle.tk_events.specs.declared.kinds.Kind.{Kind}
use Rattle.tk_events.specs.declared.kinds.Kind.TheVariants as kinds
use Rattle.tk_events.specs.declared.payloads.Payload.{Payload}
use Rattle.tk_events.specs.declared.payloads.Payload.TheVariants as payloads
use Rattle.tk_plan.specs.declared.trees.nodes.Node.{Node}
use Rattle.tk_plan.specs.declared.scripts.steps.Act.{Act}
use Rattle.tk_plan.specs.declared.scripts.steps.Act.TheVariants.{Report, File, Finish}
use Rattle.tk_plan.specs.Trees.{Forest}
use Rattle.tk_plan.specs.Script.{move, each_act, opening, stamped}
use Rattle.tk_plan.specs.Events.{event, published, entry_event, file_event, opening_events, finish_event}
use Rattle.tk_plan.specs.StepEvents.{kind_of, payload_of, event_of_step}
use Rattle.tk_plan.specs.Cutting.{Part, parts_below, moves_of, from_each, all_static, root_script}
use Rattle.tk_plan.proofs.TreeMoves.{length-acts}
use Rattle.tk_plan.proofs.PlanParts.{stamped-append}
use Rattle.tk_plan.proofs.Cuts.{parts_below-moves}

-- the events of some things that a node publishes are those of its acts
acts_emitted : {A : Type 0} (kind : Kind) (payload : A → Payload) (act : ℕ → Act) (k : ℕ) (n : Node) → ((j : ℕ) → kind_of (act j) ≡ kind)
    → (all : List A) → ((j : ℕ) (x : A) → slice_get all j ≡ Some x → payload_of n (act j) ≡ payload x)
    → (prefix xs : List A) (i j : ℕ) → all ≡ prefix ++ xs → j ≡ length prefix
    → published (λ j y. event kind k j (payload y)) i xs ≡ map (event_of_step n) (stamped i (each_act act k j xs))
acts_emitted kind payload act k n is all says prefix [] i j f g = refl
acts_emitted kind payload act k n is all says prefix (x ∷ xs) i j f g =
    ap₂ (λ e l. e ∷ l)
    (ap₂ (λ d p. event d k i p) (sym (is j)) (sym (says j x (ap (λ l. slice_get l j) f ∙ get_at_seam prefix xs x j g))))
    (acts_emitted kind payload act k n is all says (prefix ++ x ∷ []) xs (i + 1) (j + 1) (f ∙ sym (append_assoc prefix (x ∷ []) xs)) (omega (arith, g, length-append prefix (x ∷ []))))

entries_emitted : (n : Node) (k i : ℕ) → published (entry_event k) i n.entries ≡ map (event_of_step n) (stamped i (each_act Report k 0 n.entries))
entries_emitted n k i =
    acts_emitted kinds.Reporting payloads.Report Report k n (λ j. refl) n.entries (λ j x e. ap (λ o. payloads.Report (unwrap_or o [])) e) [] n.entries i 0 refl refl

files_emitted : (n : Node) (k i : ℕ) → published (file_event k) i n.files ≡ map (event_of_step n) (stamped i (each_act File k 0 n.files))
files_emitted n k i =
    acts_emitted kinds.File payloads.Path File k n (λ j. refl) n.files (λ j x e. ap (λ o. payloads.Path (unwrap_or o [])) e) [] n.files i 0 refl refl

begun_emitted : (n : Node) (k i : ℕ) → opening_events k i n ≡ map (event_of_step n) (stamped i (opening n k))
begun_emitted n k i =
    let es = each_act Report k 0 n.entries in
    let fs = each_act File k 0 n.files in
    ap (λ l. event kinds.Started k i payloads.Nothing ∷ l)
    (ap₂ (λ a b. a ++ b) (entries_emitted n k (i + 1)) (files_emitted n k (i + 1 + length n.entries))
    ∙ ap (λ m. map (event_of_step n) (stamped (i + 1) es) ++ map (event_of_step n) (stamped (i + 1 + m) fs)) (sym (length-acts Report k 0 n.entries))
    ∙ sym (map-append (event_of_step n) (stamped (i + 1) es) (stamped (i + 1 + length es) fs))
    ∙ ap (map (event_of_step n)) (sym (stamped-append (i + 1) es fs)))

pub spine_events_are_steps : (n : Node) (k i : ℕ) → (opening_events k i n ≡ map (event_of_step n) (stamped i (opening n k))) × (finish_event k i n ∷ [] ≡ map (event_of_step n) (stamped i (move k Finish ∷ [])))
spine_events_are_steps n k i = (begun_emitted n k i, refl)

each_stamped : (i : ℕ) (ps : List Part) → from_each (λ i p. stamped i (moves_of p)) i ps ≡ stamped i (flat_map moves_of ps)
each_stamped i [] = refl
each_stamped i (p ∷ ps) =
    ap (λ l. stamped i (moves_of p) ++ l) (each_stamped (i + length (moves_of p)) ps) ∙ sym (stamped-append i (moves_of p) (flat_map moves_of ps))

pub keeps_stamps : (is_root : Bool) (f : Forest) → all_static f ≡ true → from_each (λ i p. stamped i (moves_of p)) 0 (parts_below is_root f) ≡ root_script f
keeps_stamps b f e = each_stamped 0 (parts_below b f) ∙ ap (stamped 0) (parts_below-moves b 0 f e)

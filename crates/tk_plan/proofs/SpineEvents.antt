-- The events of nodes that stand at spots.
use Rattle.std.proofs.Common.{◌≡◌, ℕ, ◌+◌, ◌≤◌, ◌<◌, List, [], ◌∷◌, ◌++◌, length, drop, get_or, All, slice_index_or, sym, ap, ◌∙◌, subst, arith, append_assoc, append-nil, length-drop}
use Rattle.std.proofs.lemmas.List.{drop_more, drop_all, get_or-drop}
use Rattle.tk_base.specs.declared.limits.TheConstants.{MAX_EVENTS}
use Rattle.tk_events.specs.declared.events.Event.{Event}
use Rattle.tk_plan.specs.declared.trees.nodes.NumberedNode.{NumberedNode}
use Rattle.tk_plan.specs.declared.units.cuttings.SpineStamp.{SpineStamp}
use Rattle.tk_plan.specs.Events.{opening_events, finish_event}
use Rattle.tk_plan.specs.Weights.{publications}
use Rattle.tk_plan.specs.CuttingSteps.{HasStampAt, HasNode, begin_events_of_spine, end_events_of_spine, begin_events_at, end_events_at}

pub node_within : (all : List NumberedNode) (s : SpineStamp) → HasNode all s → s.position < length all
node_within all s h = omega (arith, ap length h.2, length-drop s.position all)

pub sits_node : (all : List NumberedNode) (s : SpineStamp) → HasStampAt all s → HasNode all s
sits_node all s h = (h.top, h.rest, h.position)

top_is : (all : List NumberedNode) (s : SpineStamp) (p q : NumberedNode) (rest : List NumberedNode) → drop s.position all ≡ q ∷ rest → p ≡ get_or all s.position p → p ≡ q
top_is all s p q rest e f = f ∙ ap (λ i. get_or all i p) (omega arith) ∙ sym (get_or-drop s.position all 0 p) ∙ ap (λ ps. get_or ps 0 p) e

pub stamps_small : (all : List NumberedNode) (s : SpineStamp) (p : NumberedNode) → HasStampAt all s → p ≡ get_or all s.position p → s.stamp + publications p.node ≤ MAX_EVENTS
stamps_small all s p h e = subst (λ q. s.stamp + publications q.node ≤ MAX_EVENTS) (sym (top_is all s p h.top h.rest h.position e)) h.limit

next : (olds news xs ys zs : List Event) → news ≡ olds ++ xs → ys ≡ xs ++ zs → olds ++ ys ≡ news ++ zs
next olds news xs ys zs e f = ap (λ l. olds ++ l) f ∙ sym (append_assoc olds xs zs) ∙ ap (λ l. l ++ zs) (sym e)

pub heads_end : (all : List NumberedNode) (spine_stamps : List SpineStamp) (i : ℕ) (made whole : List Event) → length spine_stamps ≤ i → begin_events_of_spine all spine_stamps ≡ made ++ begin_events_of_spine all (drop i spine_stamps) → begin_events_of_spine all spine_stamps ≡ whole → made ≡ whole
heads_end all spine_stamps i made whole h e f = sym (append-nil made) ∙ ap (λ l. made ++ begin_events_of_spine all l) (sym (drop_all i spine_stamps h)) ∙ sym e ∙ f

pub tails_end : (all : List NumberedNode) (spine_stamps : List SpineStamp) (i : ℕ) (made whole : List Event) → length spine_stamps ≤ i → end_events_of_spine all spine_stamps ≡ made ++ end_events_of_spine all (drop i spine_stamps) → end_events_of_spine all spine_stamps ≡ whole → made ≡ whole
tails_end all spine_stamps i made whole h e f = sym (append-nil made) ∙ ap (λ l. made ++ end_events_of_spine all l) (sym (drop_all i spine_stamps h)) ∙ sym e ∙ f

pub heads_next : (all : List NumberedNode) (spine_stamps : List SpineStamp) (i : ℕ) (olds news : List Event) (p : NumberedNode) (d : SpineStamp) (whole : List Event) → All (HasStampAt all) spine_stamps → i < length spine_stamps
    → p ≡ get_or all (slice_index_or spine_stamps i d).position p
    → news ≡ olds ++ opening_events p.number (slice_index_or spine_stamps i d).stamp p.node
    → whole ≡ olds ++ begin_events_of_spine all (drop i spine_stamps) → whole ≡ news ++ begin_events_of_spine all (drop (i + 1) spine_stamps)
heads_next all spine_stamps i olds news p d whole sits h e made so_far =
    let s = slice_index_or spine_stamps i d in
    let at = sits i d h in
    let here : begin_events_at (drop s.position all) s.stamp ≡ opening_events p.number s.stamp p.node
    = ap (λ ps. begin_events_at ps s.stamp) at.position ∙ ap (λ q. opening_events q.number s.stamp q.node) (sym (top_is all s p at.top at.rest at.position e)) in
    so_far ∙ next olds news _ _ _ made (ap (begin_events_of_spine all) (drop_more spine_stamps i d h) ∙ ap (λ l. l ++ begin_events_of_spine all (drop (i + 1) spine_stamps)) here)

pub tails_next : (all : List NumberedNode) (spine_stamps : List SpineStamp) (i : ℕ) (olds news : List Event) (p : NumberedNode) (d : SpineStamp) (whole : List Event) → All (HasNode all) spine_stamps → i < length spine_stamps
    → p ≡ get_or all (slice_index_or spine_stamps i d).position p
    → news ≡ olds ++ finish_event p.number (slice_index_or spine_stamps i d).stamp p.node ∷ []
    → whole ≡ olds ++ end_events_of_spine all (drop i spine_stamps) → whole ≡ news ++ end_events_of_spine all (drop (i + 1) spine_stamps)
tails_next all spine_stamps i olds news p d whole stands h e made so_far =
    let s = slice_index_or spine_stamps i d in
    let at = stands i d h in
    let here : end_events_at (drop s.position all) s.stamp ≡ finish_event p.number s.stamp p.node ∷ []
    = ap (λ ps. end_events_at ps s.stamp) at.2 ∙ ap (λ q. finish_event q.number s.stamp q.node ∷ []) (sym (top_is all s p at.0 at.1 at.2 e)) in
    so_far ∙ next olds news _ _ _ made (ap (end_events_of_spine all) (drop_more spine_stamps i d h) ∙ ap (λ l. l ++ end_events_of_spine all (drop (i + 1) spine_stamps)) here)

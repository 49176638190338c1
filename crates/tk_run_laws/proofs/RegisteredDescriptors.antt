-- What a worker registered in a unit it finds there.
use Rattle.std.proofs.Common.{◌≡◌, ◌<◌, ℕ, ◌+◌, ◌*◌, true, false, nat_lt, List, [], ◌∷◌, ◌++◌, length, Some, None, slice_get, option_map, sym, ap, ◌∙◌, subst, arith, tests, append_assoc, append-nil, if◌then◌else◌, inl, inr}
use Rattle.std.specs.Option.{option_or}
use Rattle.std.proofs.lemmas.List.{map-append}
use Rattle.std.proofs.lemmas.Option.{slice_get_within}
use Rattle.tk_base.proofs.Options.{option_or_none_left, option_or_none_right}
use Rattle.tk_record.specs.Entries.{desc, desc_in}
use Rattle.tk_plan.specs.Cutting.{script_of}
use Rattle.tk_plan.specs.Numbers.{IsNumbered}
use Rattle.tk_plan.specs.Planned.{IsPlanned}
use Rattle.tk_plan.specs.Trees.{forest}
use Rattle.tk_plan.specs.declared.scripts.steps.Step.{Step}
use Rattle.tk_plan.specs.declared.trees.nodes.NumberedNode.{NumberedNode}
use Rattle.tk_events.specs.declared.events.Event.{Event}
use Rattle.tk_ids.specs.declared.descriptors.Descriptor.{Descriptor}
use Rattle.tk_queue_session.specs.Emission.{entries_by, entry_by, registrations}
use Rattle.tk_run_laws.proofs.MoveLabels.{ids_emitted}
use Rattle.tk_run_laws.proofs.PlanTrees.{plan_tree}
use Rattle.tk_run_laws.proofs.PlayedScripts.{unit_plays}
use Rattle.tk_run_laws.proofs.RegisteredIds.{emitted_played, first, found_in, hit_at, ids_under, in_table}
use Rattle.tk_run_laws.proofs.WorkerEvents.{events_by}
use Rattle.tk_run_laws.specs.Scripts.{ArePlayable, HasKey, id_at, is_registration, key_of, known_after, known_in, position, played, record_played}
pub use Rattle.tk_queue_session.proofs.KnownKeys.{desc_in-append}

-- the prefix of a script can be played
plays_prefix : (all : List NumberedNode) (table : List Descriptor) (ids : List ℕ) (xs ys : List Step) → ArePlayable all table ids (xs ++ ys) → ArePlayable all table ids xs
plays_prefix all table ids [] ys h = tt
plays_prefix all table ids (x ∷ xs) ys h = (h.0, plays_prefix all table (known_after ids x) xs ys h.1)

known_emitted : (ids : List ℕ) (ss : List Step) → known_in ids ss ≡ ids ++ ids_emitted ss
known_emitted ids [] = sym (append-nil ids)
known_emitted ids (s ∷ ss) =
    elim (is_registration s.act) as (λ d. known_in (if d then ids ++ s.node ∷ [] else ids) ss ≡ ids ++ ((if d then s.node ∷ [] else []) ++ ids_emitted ss)) [
      | true ↦ known_emitted (ids ++ s.node ∷ []) ss ∙ append_assoc ids (s.node ∷ []) (ids_emitted ss)
      | false ↦ known_emitted ids ss
    ]

pub nodes_found : (all : List NumberedNode) (table : List Descriptor) (unit w k : ℕ) (sent : List Event) (prefix back : List Step) → IsPlanned all table → IsNumbered all
    → ((j : ℕ) → j < length (known_in [] prefix) → desc (record { table = table; entries = entries_by w sent }) (65536 * w + registrations sent + j) ≡ None)
    → script_of (forest all) unit ≡ prefix ++ back → HasKey all table (known_in [] prefix) k
    → option_map (λ d. d.id) (desc (record_played all table w sent prefix) (key_of (length table) (65536 * w + registrations sent) (known_in [] prefix) k)) ≡ Some (id_at all k)
nodes_found all table unit w k sent prefix back p numbers old is (inl h) =
    let less = h.0 in
    let lt : nat_lt k (length table) ≡ true = grind (arith, tests, less) in
    ap (λ b. option_map (λ d. d.id) (desc (record_played all table w sent prefix) (if b then k else 65536 * w + registrations sent + position k (known_in [] prefix)))) lt
    ∙ in_table table k (id_at all k) _ h.1
nodes_found all table unit w k sent prefix back p numbers old is (inr h) =
    let base = 65536 * w + registrations sent in
    let known = known_in [] prefix in
    let key = base + position k known in
    let less = h.0 in
    let lt : nat_lt k (length table) ≡ false = grind (arith, tests, less) in
    let plays = plays_prefix all table [] prefix back (subst (ArePlayable all table []) is (unit_plays all table (plan_tree all table p numbers) unit)) in
    let l = played all (length table) base [] prefix in
    let none = old (position k known) (slice_get_within known (position k known) k h.1) in
    let not_static = option_or_none_left (slice_get table key) (desc_in (entries_by w sent) key) none in
    let not_sent = option_or_none_right (slice_get table key) (desc_in (entries_by w sent) key) none in
    let at : slice_get (ids_emitted prefix) (position k known) ≡ Some k = ap (λ i. slice_get i (position k known)) (sym (known_emitted [] prefix)) ∙ h.1 in
    ap (λ b. option_map (λ d. d.id) (desc (record_played all table w sent prefix) (if b then k else key))) lt
    ∙ (ap (λ o. option_map (λ d. d.id) (option_or o (desc_in (entries_by w (sent ++ l)) key))) not_static
    ∙ (ap (λ es. option_map (λ d. d.id) (desc_in es key)) (map-append (entry_by w) sent l)
    ∙ (ap (option_map (λ d. d.id)) (desc_in-append (entries_by w sent) (entries_by w l) key ∙ ap (λ o. option_or o (desc_in (entries_by w l) key)) not_sent)
    ∙ (found_in key (entries_by w l)
    ∙ (ap first (ap (ids_under key) (events_by w l) ∙ emitted_played all table key base [] prefix plays)
    ∙ hit_at (id_at all) key (base + 0) (position k known) (ids_emitted prefix) k (omega arith) at)))))

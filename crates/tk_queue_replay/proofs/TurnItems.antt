-- One turn more gives its item, after those of the turns before it.
use Rattle.std.proofs.Common.{◌≡◌, ◌≢◌, ◌==◌, ◌<◌, ◌+◌, ℕ, zero, suc, Bool, true, false, if◌then◌else◌, cond, List, [], ◌∷◌, ◌++◌, length, map, slice_get, Some, refl, sym, ap, subst, ◌∙◌, ⊎_elim, append-nil, length-append, eq-eqb, ne_eqb, arith}
use Rattle.std.specs.Prelude.{count_by}
use Rattle.std.proofs.lemmas.Bool.{cases_eq}
use Rattle.std.proofs.lemmas.List.{length-map}
use Rattle.std.proofs.lemmas.List.Sums.{sum_by_push, sum_by-append, sum_by-cons}
use Rattle.std.proofs.lemmas.Option.{same_Some, none-some}
use Rattle.std.proofs.lemmas.List.Elements.{filter-append}
use Rattle.tk_record.proofs.Registrations.{slice_get_prefix, slice_get_last}
use Rattle.tk_events.specs.declared.events.Event.{Event}
use Rattle.tk_queue_session.specs.declared.items.Item.{Item}
use Rattle.tk_queue_session.specs.declared.items.Item.TheVariants.{End}
use Rattle.tk_queue_replay.specs.declared.turns.Turn.{Turn}
use Rattle.tk_queue_replay.specs.declared.turns.Turn.TheVariants.{Worker, Take}
use Rattle.tk_queue_session.specs.Core.{worker_of, items_of, entry, script}
use Rattle.tk_queue_replay.specs.TurnItems.{is_worker_turn, is_turn_of, item_after, AreItemsOf}
use Rattle.tk_queue_session.proofs.ListCuts.{cut_last}
use Rattle.tk_queue_session.proofs.CoreInvariant.{items_of-own, items_of-foreign}
use Rattle.tk_base.proofs.Lists.{no_split}

count_last : {X : Type 0} (p : X → Bool) (xs : List X) (x : X) → count_by p (xs ++ x ∷ []) ≡ count_by p xs + cond {A = ℕ} (p x) 1 0
count_last p xs x = sum_by_push (λ y. if p y then 1 else 0) xs x

count_before : {X : Type 0} (p : X → Bool) (before : List X) (e : X) (rest : List X) → p e ≡ true → count_by p before < count_by p (before ++ e ∷ rest)
count_before p before e rest holds =
    let one : cond {A = ℕ} (p e) 1 0 ≡ 1 = ap (λ (b : Bool). cond {A = ℕ} b 1 0) holds in
    omega (arith, one, sum_by-append (λ y. if p y then 1 else 0) before (e ∷ rest), sum_by-cons (λ y. if p y then 1 else 0) e rest)

-- the items are those of the turns, and each worker has one for each of its turns
pub record Ordered (scripts : List (List Event)) (turns : List Turn) (items : List Item) : Type 0 where
  pub are : AreItemsOf scripts turns items
  pub counted : (w : ℕ) → count_by (is_turn_of w) turns ≡ length (items_of w items)

pub none_ordered : (scripts : List (List Event)) → Ordered scripts [] []
none_ordered scripts = record { are = record { number = refl; each = λ before w after h. absurd (no_split before (Worker w) after h) }; counted = λ w. refl }

same_worker : (v w : ℕ) → Worker v ≡ Worker w → v ≡ w
same_worker v w e = cc

not_take : (v : ℕ) → Worker v ≡ Take → ⊥
not_take v e = cc

-- a worker's turn puts its item at the back
pub worker_ordered : (scripts : List (List Event)) (turns : List Turn) (items : List Item) (w : ℕ) (x : Item) → Ordered scripts turns items → worker_of x ≡ w → item_after scripts turns w ≡ Some x → Ordered scripts (turns ++ Worker w ∷ []) (items ++ x ∷ [])
worker_ordered scripts turns items w x o own is = record {
  are = record {
    number = let n : count_by is_worker_turn (turns ++ Worker w ∷ []) ≡ count_by is_worker_turn turns + 1 = count_last is_worker_turn turns (Worker w) in let m = o.are.number in omega (arith, n, m, length-append items (x ∷ []));
    each = λ before v after whole. ⊎_elim
        (λ (t : (before ≡ turns) × (Worker v ≡ Worker w)).
        subst (λ (y : List Turn × ℕ). slice_get (items ++ x ∷ []) (count_by is_worker_turn y.0) ≡ item_after scripts y.0 y.1) (λ i. (sym t.0 i, sym (same_worker v w t.1) i))
        (slice_get_last items x (count_by is_worker_turn turns) (sym o.are.number) ∙ sym is))
        (λ (t : (rest : List Turn) × (turns ≡ before ++ Worker v ∷ rest)).
        let lt : count_by is_worker_turn before < count_by is_worker_turn (before ++ Worker v ∷ t.0) = count_before is_worker_turn before (Worker v) t.0 refl in
        let all : count_by is_worker_turn turns ≡ count_by is_worker_turn (before ++ Worker v ∷ t.0) = ap (count_by is_worker_turn) t.1 in
        let within : count_by is_worker_turn before < length items = let n = o.are.number in omega arith in
        slice_get_prefix items (x ∷ []) (count_by is_worker_turn before) within ∙ o.are.each before v t.0 t.1)
        (cut_last turns (Worker w) before (Worker v) after whole);
  };
  counted = λ v.
      let split : items_of v (items ++ x ∷ []) ≡ items_of v items ++ items_of v (x ∷ []) = filter-append (λ y. worker_of y == v) items (x ∷ []) in
      let n = o.counted v in
      ⊎_elim
      (λ (same : w ≡ v).
      let one : items_of v (x ∷ []) ≡ x ∷ [] = items_of-own v x (own ∙ same) in
      let more : count_by (is_turn_of v) (turns ++ Worker w ∷ []) ≡ count_by (is_turn_of v) turns + 1 = count_last (is_turn_of v) turns (Worker w) ∙ ap (λ (b : Bool). count_by (is_turn_of v) turns + cond {A = ℕ} b 1 0) (eq-eqb w v same) in
      let long : length (items_of v (items ++ x ∷ [])) ≡ length (items_of v items) + 1 = ap length split ∙ length-append (items_of v items) (items_of v (x ∷ [])) ∙ ap (λ l. length (items_of v items) + length l) one in
      omega arith)
      (λ (apart : w ≢ v).
      let none : items_of v (x ∷ []) ≡ [] = items_of-foreign v x (λ e. apart (sym own ∙ e)) in
      let more : count_by (is_turn_of v) (turns ++ Worker w ∷ []) ≡ count_by (is_turn_of v) turns + 0 = count_last (is_turn_of v) turns (Worker w) ∙ ap (λ (b : Bool). count_by (is_turn_of v) turns + cond {A = ℕ} b 1 0) (ne_eqb w v apart) in
      let long : length (items_of v (items ++ x ∷ [])) ≡ length (items_of v items) + 0 = ap length split ∙ length-append (items_of v items) (items_of v (x ∷ [])) ∙ ap (λ l. length (items_of v items) + length l) none in
      omega arith)
      (cases_eq w v);
}

-- a turn that takes gives no item
pub take_ordered : (scripts : List (List Event)) (turns : List Turn) (items : List Item) → Ordered scripts turns items → Ordered scripts (turns ++ Take ∷ []) items
take_ordered scripts turns items o = record {
  are = record {
    number = let n : count_by is_worker_turn (turns ++ Take ∷ []) ≡ count_by is_worker_turn turns + 0 = count_last is_worker_turn turns Take in let m = o.are.number in omega arith;
    each = λ before v after whole. ⊎_elim
        (λ (t : (before ≡ turns) × (Worker v ≡ Take)). absurd (not_take v t.1))
        (λ (t : (rest : List Turn) × (turns ≡ before ++ Worker v ∷ rest)). o.are.each before v t.0 t.1)
        (cut_last turns Take before (Worker v) after whole);
  };
  counted = λ v. let n : count_by (is_turn_of v) (turns ++ Take ∷ []) ≡ count_by (is_turn_of v) turns + 0 = count_last (is_turn_of v) turns Take in let m = o.counted v in omega arith;
}

-- ---- an item of a script and its mark

pub scripted_event : (w : ℕ) (events : List Event) (k : ℕ) (e : Event) → slice_get events k ≡ Some e → slice_get (script w events true) k ≡ Some (entry w e)
scripted_event w [] k e h = absurd (none-some e h)
scripted_event w (x ∷ xs) zero e h = ap (λ y. Some (entry w y)) (same_Some x e h)
scripted_event w (x ∷ xs) (suc k) e h = scripted_event w xs k e h

pub scripted_mark : (w : ℕ) (events : List Event) (k : ℕ) → k ≡ length events → slice_get (script w events true) k ≡ Some (End w)
scripted_mark w events k is = slice_get_last (map (entry w) events) (End w) k (is ∙ sym (length-map events (entry w)))

pub script_long : (w : ℕ) (events : List Event) (b : Bool) → length (script w events b) ≡ length events + cond {A = ℕ} b 1 0
script_long w events true = length-append (map (entry w) events) (End w ∷ []) ∙ ap (λ n. n + 1) (length-map events (entry w))
script_long w events false = ap length (append-nil (map (entry w) events)) ∙ length-map events (entry w) ∙ plus_zero (length events) where
  plus_zero : (n : ℕ) → n ≡ n + 0
  plus_zero n = omega arith

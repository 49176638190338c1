-- The steps of the core keep it lawful.
use Rattle.std.proofs.Common.{◌≡◌, ◌≢◌, ◌==◌, ℕ, Bool, true, false, if◌then◌else◌, List, [], ◌∷◌, ◌++◌, map, sym, refl, ap, ◌∙◌, subst, ⊎_elim, append_assoc, append-nil, eq-eqb, ne_eqb}
use Rattle.std.proofs.lemmas.List.{map-append}
use Rattle.std.proofs.lemmas.Bool.{cases_eq}
use Rattle.std.proofs.lemmas.List.Elements.{filter-append}
use Rattle.tk_events.specs.declared.events.Event.{Event}
use Rattle.tk_record.specs.Mixing.{IsWorkerOf}
use Rattle.tk_queue_session.specs.declared.items.Item.{Item}
use Rattle.tk_queue_session.specs.declared.items.Item.TheVariants.{Entry as Emitted, End}
use Rattle.tk_queue_session.specs.Core.{Core, IsCore, worker_of, items_of, entry, script, put, emit, finish, push, take_first}

pub put-same : {X : Type 0} (f : ℕ → X) (w : ℕ) (x : X) → put f w x w ≡ x
put-same {X} f w x = ap (λ (b : Bool). if b then x else f w) (eq-eqb w w refl)

pub put-other : {X : Type 0} (f : ℕ → X) (w : ℕ) (x : X) (v : ℕ) → v ≢ w → put f w x v ≡ f v
put-other {X} f w x v n = ap (λ (b : Bool). if b then x else f v) (ne_eqb v w n)

-- one item is all of its worker's, and none of another's
pub items_of-own : (v : ℕ) (x : Item) → worker_of x ≡ v → items_of v (x ∷ []) ≡ x ∷ []
items_of-own v x e = ap (λ (b : Bool). if b then x ∷ [] else []) (eq-eqb (worker_of x) v e)

pub items_of-foreign : (v : ℕ) (x : Item) → worker_of x ≢ v → items_of v (x ∷ []) ≡ []
items_of-foreign v x n = ap (λ (b : Bool). if b then x ∷ [] else []) (ne_eqb (worker_of x) v n)

-- the list of v after x was put at the back
snoc-items : (c : Core) (v : ℕ) (x : Item) → items_of v (c.taken ++ (c.waiting ++ x ∷ [])) ≡ items_of v (c.taken ++ c.waiting) ++ items_of v (x ∷ [])
snoc-items c v x = ap (items_of v) (sym (append_assoc c.taken c.waiting (x ∷ []))) ∙ filter-append (λ y. worker_of y == v) (c.taken ++ c.waiting) (x ∷ [])

pub emits : (n w : ℕ) (e : Event) (c : Core) → IsWorkerOf n w → c.ended w ≡ false → IsCore n c → IsCore n (emit w e c)
emits n w e c is open' k = record {
  kept = λ v. ⊎_elim
      (λ (same : v ≡ w).
      let own : items_of v (entry w e ∷ []) ≡ entry w e ∷ [] = items_of-own v (entry w e) (sym same) in
      let before : items_of v (c.taken ++ c.waiting) ≡ map (entry w) (c.sent w) =
      k.kept v ∙ ap (λ u. script u (c.sent u) (c.ended u)) same ∙ ap (script w (c.sent w)) open' ∙ append-nil (map (entry w) (c.sent w)) in
      let after : script v (put c.sent w (c.sent w ++ e ∷ []) v) (c.ended v) ≡ map (entry w) (c.sent w ++ e ∷ []) =
      ap (λ u. script u (put c.sent w (c.sent w ++ e ∷ []) u) (c.ended u)) same ∙ ap (λ l. script w l (c.ended w)) (put-same c.sent w (c.sent w ++ e ∷ [])) ∙ ap (script w (c.sent w ++ e ∷ [])) open'
      ∙ append-nil (map (entry w) (c.sent w ++ e ∷ [])) in
      snoc-items c v (entry w e) ∙ ap (λ l. l ++ items_of v (entry w e ∷ [])) before ∙ ap (λ l. map (entry w) (c.sent w) ++ l) own ∙ sym (map-append (entry w) (c.sent w) (e ∷ [])) ∙ sym after)
      (λ (apart : v ≢ w).
      let own : items_of v (entry w e ∷ []) ≡ [] = items_of-foreign v (entry w e) (λ h. apart (sym h)) in
      snoc-items c v (entry w e) ∙ ap (λ l. items_of v (c.taken ++ c.waiting) ++ l) own ∙ append-nil (items_of v (c.taken ++ c.waiting)) ∙ k.kept v
      ∙ ap (λ l. script v l (c.ended v)) (sym (put-other c.sent w (c.sent w ++ e ∷ []) v apart)))
      (cases_eq v w);
  others = λ v not_one.
      let apart : v ≢ w = λ h. not_one (subst (IsWorkerOf n) (sym h) is) in
      (put-other c.sent w (c.sent w ++ e ∷ []) v apart ∙ (k.others v not_one).0, (k.others v not_one).1);
}

pub finishes : (n w : ℕ) (c : Core) → IsWorkerOf n w → c.ended w ≡ false → IsCore n c → IsCore n (finish w c)
finishes n w c is open' k = record {
  kept = λ v. ⊎_elim
      (λ (same : v ≡ w).
      let own : items_of v (End w ∷ []) ≡ End w ∷ [] = items_of-own v (End w) (sym same) in
      let before : items_of v (c.taken ++ c.waiting) ≡ map (entry w) (c.sent w) =
      k.kept v ∙ ap (λ u. script u (c.sent u) (c.ended u)) same ∙ ap (script w (c.sent w)) open' ∙ append-nil (map (entry w) (c.sent w)) in
      let after : script v (c.sent v) (put c.ended w true v) ≡ map (entry w) (c.sent w) ++ End w ∷ [] =
      ap (λ u. script u (c.sent u) (put c.ended w true u)) same ∙ ap (script w (c.sent w)) (put-same c.ended w true) in
      snoc-items c v (End w) ∙ ap (λ l. l ++ items_of v (End w ∷ [])) before ∙ ap (λ l. map (entry w) (c.sent w) ++ l) own ∙ sym after)
      (λ (apart : v ≢ w).
      let own : items_of v (End w ∷ []) ≡ [] = items_of-foreign v (End w) (λ h. apart (sym h)) in
      snoc-items c v (End w) ∙ ap (λ l. items_of v (c.taken ++ c.waiting) ++ l) own ∙ append-nil (items_of v (c.taken ++ c.waiting)) ∙ k.kept v
      ∙ ap (script v (c.sent v)) (sym (put-other c.ended w true v apart)))
      (cases_eq v w);
  others = λ v not_one.
      let apart : v ≢ w = λ h. not_one (subst (IsWorkerOf n) (sym h) is) in
      ((k.others v not_one).0, put-other c.ended w true v apart ∙ (k.others v not_one).1);
}

-- a push by a worker that has not ended
pub pushes_core : (n : ℕ) (x : Item) (c : Core) → IsWorkerOf n (worker_of x) → c.ended (worker_of x) ≡ false → IsCore n c → IsCore n (push x c)
pushes_core n (Emitted e) c is open' k = emits n e.worker e.event c is open' k
pushes_core n (End w) c is open' k = finishes n w c is open' k

pub takes : (n : ℕ) (x : Item) (xs : List Item) (c : Core) → c.waiting ≡ x ∷ xs → IsCore n c → IsCore n (take_first x xs c)
takes n x xs c waits k = record {
  kept = λ v. ap (items_of v) (append_assoc c.taken (x ∷ []) xs ∙ ap (λ l. c.taken ++ l) (sym waits)) ∙ k.kept v;
  others = k.others;
}

-- Registrations in a record: each has a key of its own.
use Rattle.std.proofs.Common.{◌≡◌, ◌<◌, ◌≤◌, ◌+◌, ◌*◌, not, ℕ, Bool, true, false, cond, if◌then◌else◌, List, [], ◌∷◌, ◌++◌, length, filter}
use Rattle.std.proofs.Common.{length-append, Option, Some, None, count_by, refl, sym, ap, ◌∙◌, subst, append_assoc, append-nil, arith}
use Rattle.std.proofs.Common.{tests}
use Rattle.std.proofs.lemmas.List.Elements.{filter-append}
use Rattle.std.proofs.lemmas.List.Sums.{length-filter}
use Rattle.tk_events.specs.declared.kinds.Kind.TheVariants.{Dynamic}
use Rattle.tk_events.specs.declared.events.Entry.{Entry}
use Rattle.tk_ids.specs.declared.tables.TheConstants.{MAX_DESCRIPTORS}
use Rattle.tk_events.specs.Registration.{registered_key}
use Rattle.tk_record.specs.Recorded.{Recorded, without_entries}
use Rattle.tk_record.specs.Entries.{of_kind, registers, with_entry}
use Rattle.tk_record.specs.Record.{AreAppended, IsRecord, fault_of, is_known, is_next}
use Rattle.tk_record.specs.declared.records.AppendFault.{AppendFault}
use Rattle.tk_record.specs.declared.records.AppendFault.TheVariants.{UnknownKey}
use Rattle.tk_engine_lifecycle.proofs.ByKey.{is_dynamic}

no_fault : (k : Bool) (r : Recorded) (e : Entry) (rest : Option AppendFault) → (if not k then Some (UnknownKey e) else rest) ≡ None → k ≡ true
no_fault true r e rest h = refl
no_fault false r e rest h = cc

known_now : (r : Recorded) (e : Entry) → fault_of r e ≡ None → is_known r e ≡ true
known_now r e h = no_fault (is_known r e) r e _ h

-- each entry was known when it came
known_at : (r : Recorded) (xs : List Entry) (e : Entry) (ys : List Entry) → AreAppended r (xs ++ e ∷ ys)
    → is_known (record { table = r.table; entries = r.entries ++ xs }) e ≡ true
unfolding AreAppended
known_at r [] e ys h = subst (λ l. is_known (record { table = r.table; entries = l }) e ≡ true) (sym (append-nil r.entries)) (known_now r e h.0)
known_at r (x ∷ xs) e ys h =
    subst (λ l. is_known (record { table = r.table; entries = l }) e ≡ true) (append_assoc r.entries (x ∷ []) xs)
    (known_at (with_entry r x) xs e ys h.1)

-- the number of a registration among those of its worker
pub record IsNumbered (past : List Entry) (e : Entry) : Type 0 where
  pub own : 0 < e.worker
  pub few : count_by (registers e.worker) past < MAX_DESCRIPTORS
  pub key : e.event.key ≡ registered_key e.worker (count_by (registers e.worker) past)

next_when : (b : Bool) (r : Recorded) (e : Entry) (other : Bool) → of_kind Dynamic e ≡ b → b ≡ true → (if b then is_next r e else other) ≡ true → is_next r e ≡ true
next_when true r e other is d h = h
next_when false r e other is d h = cc

numbered_next : (r : Recorded) (e : Entry) → is_next r e ≡ true → IsNumbered r.entries e
numbered_next r e h =
    record { own = grind (arith, tests, h); few = grind (arith, tests, h); key = grind (arith, tests, h) }

pub numbered : (r : Recorded) (xs : List Entry) (e : Entry) (ys : List Entry) → IsRecord r → r.entries ≡ xs ++ e ∷ ys → is_dynamic e.event ≡ true → IsNumbered xs e
numbered r xs e ys rec is dyn =
    let known = known_at (without_entries r.table) xs e ys (subst (AreAppended (without_entries r.table)) is rec.appended) in
    numbered_next (record { table = r.table; entries = xs }) e (next_when (is_dynamic e.event) (record { table = r.table; entries = xs }) e _ refl dyn known)

-- a registration's key tells its worker, and is none of the static ones
pub worker_of_key : (r : Recorded) (xs : List Entry) (e : Entry) (ys : List Entry) → IsRecord r → r.entries ≡ xs ++ e ∷ ys → is_dynamic e.event ≡ true
    → (MAX_DESCRIPTORS * e.worker ≤ e.event.key) × (e.event.key < MAX_DESCRIPTORS * e.worker + MAX_DESCRIPTORS) × (0 < e.worker)
worker_of_key r xs e ys rec is dyn = let n = numbered r xs e ys rec is dyn in (omega (arith, n.few, n.key), omega (arith, n.few, n.key), n.own)

same_worker_step : (a b k : ℕ) → 65536 * a ≤ k → k < 65536 * a + 65536 → 65536 * b ≤ k → k < 65536 * b + 65536 → a ≡ b
same_worker_step a b k p q s t = omega (arith, p, q, s, t)

-- registrations of one key are of one worker
pub same_worker : (r : Recorded) (xs : List Entry) (e : Entry) (ys xs' : List Entry) (e' : Entry) (ys' : List Entry) → IsRecord r
    → r.entries ≡ xs ++ e ∷ ys → r.entries ≡ xs' ++ e' ∷ ys' → is_dynamic e.event ≡ true → is_dynamic e'.event ≡ true → e.event.key ≡ e'.event.key → e.worker ≡ e'.worker
same_worker r xs e ys xs' e' ys' rec is is' dyn dyn' same =
    let a = worker_of_key r xs e ys rec is dyn in
    let b = worker_of_key r xs' e' ys' rec is' dyn' in
    same_worker_step e.worker e'.worker e.event.key a.0 a.1 (omega (arith, b.0, same)) (omega (arith, b.1, same))

counted : (test : Entry → Bool) (e : Entry) (ys : List Entry) → test e ≡ true → 0 < length (filter test (e ∷ ys))
counted test e ys passes = subst (λ b. 0 < length (cond b (e ∷ filter test ys) (filter test ys))) (sym passes) (omega arith)

count_one : (test : Entry → Bool) (xs : List Entry) (e : Entry) (ys : List Entry) → test e ≡ true → count_by test xs < count_by test (xs ++ e ∷ ys)
count_one test xs e ys passes =
    let parts : length (filter test (xs ++ e ∷ ys)) ≡ length (filter test xs) + length (filter test (e ∷ ys))
    = ap length (filter-append test xs (e ∷ ys)) ∙ length-append (filter test xs) (filter test (e ∷ ys)) in
    let one = counted test e ys passes in
    let a = length-filter test xs in
    let b = length-filter test (xs ++ e ∷ ys) in
    omega (arith, parts, one, a, b)

-- no key is registered twice
pub once : (r : Recorded) (xs : List Entry) (e : Entry) (ys : List Entry) (e' : Entry) (zs : List Entry) → IsRecord r
    → r.entries ≡ xs ++ e ∷ (ys ++ e' ∷ zs) → is_dynamic e.event ≡ true → is_dynamic e'.event ≡ true → e.event.key ≡ e'.event.key → ⊥
once r xs e ys e' zs rec is dyn dyn' same =
    let is' : r.entries ≡ (xs ++ e ∷ ys) ++ e' ∷ zs = is ∙ sym (append_assoc xs (e ∷ ys) (e' ∷ zs)) in
    let n = numbered r xs e (ys ++ e' ∷ zs) rec is dyn in
    let n' = numbered r (xs ++ e ∷ ys) e' zs rec is' dyn' in
    let worker = same_worker r xs e (ys ++ e' ∷ zs) (xs ++ e ∷ ys) e' zs rec is is' dyn dyn' same in
    let registers_it : registers e.worker e ≡ true = grind (arith, tests, dyn) in
    let more = count_one (registers e.worker) xs e ys registers_it in
    let same_key : registered_key e.worker (count_by (registers e.worker) (xs ++ e ∷ ys)) ≡ registered_key e.worker (count_by (registers e.worker) xs)
    = sym (subst (λ w. e'.event.key ≡ registered_key w (count_by (registers w) (xs ++ e ∷ ys))) (sym worker) n'.key) ∙ (sym same ∙ n.key) in
    omega (arith, more, same_key)

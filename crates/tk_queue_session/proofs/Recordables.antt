-- What is taken from a session can be recorded.
use Rattle.std.proofs.Common.{◌≡◌, ◌≢◌, ◌==◌, ℕ, zero, suc, ◌<◌, ◌≤◌, ◌+◌, ◌*◌, Bool, true, false, ◌||◌, ◌&&◌, not, cond, ltb, if◌then◌else◌, List, [], ◌∷◌, ◌++◌, length, map, sym, refl, ap, ◌∙◌, subst, ⊎_elim, arith, length-append, eq-eqb, ne_eqb}
use Rattle.std.specs.Prelude.{filter, nat_lt, nat_le, Some, None, is_some, All, count_by}
use Rattle.std.proofs.lemmas.Bool.{cases_eq, lt-ltb, le-ltb, or_right}
use Rattle.std.proofs.lemmas.List.Elements.{All-nil, All-cons, All-head, All-tail, All-push}
use Rattle.std.proofs.lemmas.List.Sums.{sum_by-cons, sum_by-append}
use Rattle.tk_base.proofs.Options.{is_some-option_or}
use Rattle.tk_ids.specs.declared.descriptors.Descriptor.{Descriptor}
use Rattle.tk_ids.specs.declared.tables.TheConstants.{MAX_DESCRIPTORS}
use Rattle.tk_events.specs.declared.kinds.Kind.TheVariants.{Dynamic}
use Rattle.tk_events.specs.declared.events.Entry.{Entry}
use Rattle.tk_events.specs.Event.{is_lawful}
use Rattle.tk_events.specs.Registration.{registered_key}
use Rattle.tk_record.specs.declared.records.TheConstants.{MAX_ENTRIES}
use Rattle.tk_record.specs.declared.records.AppendFault.TheVariants as appends
use Rattle.tk_record.specs.Entries.{of_kind, registers, registered, desc_in}
use Rattle.tk_record.specs.Record.{is_next, is_known}
use Rattle.tk_record.specs.Mixing.{IsWorkerOf, of_worker}
use Rattle.tk_queue_session.specs.Limits.{most_workers, most_events}
use Rattle.tk_queue_session.specs.Recordable.{IsNeverRefused, IsShort}
use Rattle.tk_queue_session.proofs.KnownKeys.{known_after}
use Rattle.tk_queue_session.proofs.ReceiverSteps.{few_more}

-- the entries of workers other than w
abbrev without : ℕ → List Entry → List Entry
without w es = filter (λ e. not (e.worker == w)) es

length_without : (w : ℕ) (es : List Entry) → length es ≡ length (of_worker w es) + length (without w es)
length_without w [] = refl
length_without w (e ∷ es) =
    elim (e.worker == w) as (λ b. length (e ∷ es) ≡ length (map (λ (x : Entry). x.event) (if b then e ∷ filter (λ x. x.worker == w) es else filter (λ x. x.worker == w) es)) + length (if not b then e ∷ without w es else without w es))
    [ true ↦ (let h = length_without w es in omega arith) | false ↦ (let h = length_without w es in omega arith) ]

-- a worker's events stay when those of another go
kept_without : (w v : ℕ) (es : List Entry) → v ≢ w → of_worker v (without w es) ≡ of_worker v es
kept_without w v [] apart = refl
kept_without w v (e ∷ es) apart = ⊎_elim
    (λ (same : e.worker ≡ w).
    ap (λ (b : Bool). of_worker v (if not b then e ∷ without w es else without w es)) (eq-eqb e.worker w same) ∙ kept_without w v es apart
    ∙ sym (ap (λ (b : Bool). map (λ (x : Entry). x.event) (if b then e ∷ filter (λ x. x.worker == v) es else filter (λ x. x.worker == v) es)) (ne_eqb e.worker v (λ is. apart (sym is ∙ same)))))
    (λ (other : e.worker ≢ w).
    ap (λ (b : Bool). of_worker v (if not b then e ∷ without w es else without w es)) (ne_eqb e.worker w other)
    ∙ elim (e.worker == v) as (λ b. map (λ (x : Entry). x.event) (if b then e ∷ filter (λ x. x.worker == v) (without w es) else filter (λ x. x.worker == v) (without w es)) ≡ map (λ (x : Entry). x.event) (if b then e ∷ filter (λ x. x.worker == v) es else filter (λ x. x.worker == v) es))
    [ true ↦ ap (λ l. e.event ∷ l) (kept_without w v es apart) | false ↦ kept_without w v es apart ])
    (cases_eq e.worker w)

fewer_workers : (n : ℕ) (es : List Entry) → All (λ e. IsWorkerOf (suc n) e.worker) es → All (λ e. IsWorkerOf n e.worker) (without (suc n) es)
fewer_workers n [] all = All-nil (λ e. IsWorkerOf n e.worker)
fewer_workers n (e ∷ es) all =
    let head = All-head (λ (x : Entry). IsWorkerOf (suc n) x.worker) e es all in
    let rest = fewer_workers n es (All-tail (λ (x : Entry). IsWorkerOf (suc n) x.worker) e es all) in
    ⊎_elim
    (λ (same : e.worker ≡ suc n). subst (λ (b : Bool). All (λ x. IsWorkerOf n x.worker) (if not b then e ∷ without (suc n) es else without (suc n) es)) (sym (eq-eqb e.worker (suc n) same)) rest)
    (λ (other : e.worker ≢ suc n). subst (λ (b : Bool). All (λ x. IsWorkerOf n x.worker) (if not b then e ∷ without (suc n) es else without (suc n) es)) (sym (ne_eqb e.worker (suc n) other))
    (All-cons (λ x. IsWorkerOf n x.worker) e (without (suc n) es) (let low : 0 < e.worker = head.0 in let high : e.worker ≤ suc n = head.1 in (omega arith, omega arith)) rest))
    (cases_eq e.worker (suc n))

-- n workers emit together no more than n times what one may emit
short_by : (n most : ℕ) (es : List Entry) → All (λ e. IsWorkerOf n e.worker) es → ((w : ℕ) → length (of_worker w es) ≤ most) → length es ≤ n * most
short_by zero most [] all few = omega arith
short_by zero most (e ∷ es) all few = let head = All-head (λ (x : Entry). IsWorkerOf zero x.worker) e es all in absurd (let low : 0 < e.worker = head.0 in let high : e.worker ≤ 0 = head.1 in omega arith)
short_by (suc n) most es all few =
    let fewer : (w : ℕ) → length (of_worker w (without (suc n) es)) ≤ most = λ w. ⊎_elim
    (λ (same : w ≡ suc n). subst (λ l. length l ≤ most) (sym (ap (λ v. of_worker v (without (suc n) es)) same ∙ gone (suc n) es)) (omega arith))
    (λ (apart : w ≢ suc n). subst (λ l. length l ≤ most) (sym (kept_without (suc n) w es apart)) (few w))
    (cases_eq w (suc n)) in
    let h = short_by n most (without (suc n) es) (fewer_workers n es all) fewer in
    let one = few (suc n) in
    let all_of = length_without (suc n) es in
    more n most (length es) (length (of_worker (suc n) es)) (length (without (suc n) es)) h one all_of
  where
    more : (n most all own others : ℕ) → others ≤ n * most → own ≤ most → all ≡ own + others → all ≤ suc n * most
    more n most all own others h one is = grind arith

    gone : (w : ℕ) (es : List Entry) → of_worker w (without w es) ≡ []
    gone w [] = refl
    gone w (e ∷ es) = elim (e.worker == w) as (λ b. e.worker == w ≡ b → of_worker w (if not b then e ∷ without w es else without w es) ≡ []) [
      | true ↦ λ _. gone w es
      | false ↦ λ is. ap (λ (b : Bool). map (λ (x : Entry). x.event) (if b then e ∷ filter (λ x. x.worker == w) (without w es) else filter (λ x. x.worker == w) (without w es))) is ∙ gone w es
    ] refl

pub is_short : IsShort
is_short n taken r = short_by n most_events taken r.workers r.few

-- ---- after entries of worker 0

none_in_prefix : (w : ℕ) (prefix : List Entry) → All (λ x. x.worker ≡ 0) prefix → 0 < w → count_by (registers w) prefix ≡ 0
none_in_prefix w [] all low = refl
none_in_prefix w (x ∷ xs) all low =
    let rest = none_in_prefix w xs (All-tail (λ (y : Entry). y.worker ≡ 0) x xs all) low in
    let zero' : x.worker ≡ 0 = All-head (λ (y : Entry). y.worker ≡ 0) x xs all in
    let other : (x.worker == w) ≡ false = ne_eqb x.worker w (λ same. absurd (omega arith)) in
    let one : cond {A = ℕ} (registers w x) 1 0 ≡ 0 = ap (λ (b : Bool). cond {A = ℕ} b 1 0) (ap (λ b. of_kind Dynamic x && b) other ∙ and_false (of_kind Dynamic x)) in
    omega (arith, one, rest, sum_by-cons (λ (y : Entry). cond {A = ℕ} (registers w y) 1 0) x xs) where
      and_false : (b : Bool) → (b && false) ≡ false
      and_false true = refl
      and_false false = refl

counted_after : (w : ℕ) (prefix taken : List Entry) → All (λ x. x.worker ≡ 0) prefix → 0 < w → count_by (registers w) (prefix ++ taken) ≡ count_by (registers w) taken
counted_after w prefix taken all low = omega (arith, none_in_prefix w prefix all low, sum_by-append (λ (y : Entry). cond {A = ℕ} (registers w y) 1 0) prefix taken)

some_after : (prefix taken : List Entry) (key : ℕ) → is_some (desc_in taken key) ≡ true → is_some (desc_in (prefix ++ taken) key) ≡ true
some_after [] taken key h = h
some_after (x ∷ xs) taken key h = is_some-option_or (registered key x) (desc_in (xs ++ taken) key) ∙ ap (λ b. is_some (registered key x) || b) (some_after xs taken key h) ∙ or_right (is_some (registered key x)) true refl

known_past : (table : List Descriptor) (prefix taken : List Entry) (e : Entry) → All (λ x. x.worker ≡ 0) prefix → 0 < e.worker → is_known (record { table = table; entries = taken }) e ≡ true
    → is_known (record { table = table; entries = prefix ++ taken }) e ≡ true
known_past table prefix taken e all low h = known_after table (prefix ++ taken) e ∙ by_kind (of_kind Dynamic e) (sym (known_after table taken e) ∙ h)
  where
    n : ℕ
    n = length table

    or_mono : (a b c : Bool) → (b ≡ true → c ≡ true) → (a || b) ≡ true → (a || c) ≡ true
    or_mono true b c f h = refl
    or_mono false b c f h = f h

    by_kind : (k : Bool) → (if k then is_next (record { table = []; entries = taken }) e else (nat_lt e.event.key n || is_some (desc_in taken e.event.key))) ≡ true
        → (if k then is_next (record { table = []; entries = prefix ++ taken }) e else (nat_lt e.event.key n || is_some (desc_in (prefix ++ taken) e.event.key))) ≡ true
    by_kind true h = subst (λ c. ((ltb 0 e.worker && nat_le e.worker most_workers && nat_lt c MAX_DESCRIPTORS) && (e.event.key == registered_key e.worker c)) ≡ true) (sym (counted_after e.worker prefix taken all low)) h
    by_kind false h = or_mono (nat_lt e.event.key n) (is_some (desc_in taken e.event.key)) (is_some (desc_in (prefix ++ taken) e.event.key)) (some_after prefix taken e.event.key) h

pub is_never_refused : IsNeverRefused
is_never_refused n table prefix taken e zeros short r own may =
    let known = known_past table prefix taken e zeros own.0 may.known in
    let within : length (taken ++ e ∷ []) ≤ n * most_events = short_by n most_events (taken ++ e ∷ []) (All-push (λ x. IsWorkerOf n x.worker) taken e r.workers own) (few_more taken e r.few may.room) in
    let limit = r.limit in
    let high : e.worker ≤ n = own.1 in
    let room : nat_lt (length (prefix ++ taken)) MAX_ENTRIES ≡ true = lt-ltb (length (prefix ++ taken)) MAX_ENTRIES (omega (arith, length-append prefix taken, length-append taken (e ∷ []))) in
    let worker : nat_lt most_workers e.worker ≡ false = le-ltb most_workers e.worker (omega arith) in
    no_fault (is_known (record { table = table; entries = prefix ++ taken }) e) (nat_lt most_workers e.worker) (is_lawful e.event.kind e.event.payload) (nat_lt (length (prefix ++ taken)) MAX_ENTRIES) known worker may.lawful room
  where
    no_fault : (k w l room : Bool) → k ≡ true → w ≡ false → l ≡ true → room ≡ true
        → (if not k then Some (appends.UnknownKey e) else if w || not l then Some (appends.Unlawful e) else if not room then Some (appends.Full e) else None) ≡ None
    no_fault k w l room p q r t = λ i. if not (p i) then Some (appends.UnknownKey e) else if q i || not (r i) then Some (appends.Unlawful e) else if not (t i) then Some (appends.Full e) else None

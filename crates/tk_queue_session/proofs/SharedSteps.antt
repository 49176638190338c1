-- What the core's states say of each worker's items.
use Rattle.std.proofs.Common.{◌≡◌, ◌≢◌, ◌⊎◌, ◌||◌, ◌==◌, ℕ, zero, suc, ◌<◌, ◌≤◌, ◌+◌, Bool, true, false, if◌then◌else◌, List, [], ◌∷◌, ◌++◌, map, sym, refl, ap, ◌∙◌, inl, inr, ⊎_elim, eq-eqb, ne_eqb, arith}
use Rattle.std.proofs.lemmas.Bool.{cases_eq, cases_lt}
use Rattle.std.specs.Prelude.{filter}
use Rattle.std.proofs.lemmas.List.Elements.{filter-append}
use Rattle.tk_events.specs.declared.events.Event.{Event}
use Rattle.tk_events.specs.declared.events.Entry.{Entry}
use Rattle.tk_record.specs.Mixing.{IsWorkerOf, of_worker}
use Rattle.tk_queue_session.specs.declared.items.Item.{Item}
use Rattle.tk_queue_session.specs.declared.items.Item.TheVariants.{Entry as Emitted, End}
use Rattle.tk_queue_session.specs.Core.{Core, IsCore, worker_of, items_of, entry, script, entries}
use Rattle.tk_queue_session.specs.Marks.{is_mark_of, is_marked}

-- a further worker, which has sent nothing
pub widens : (n : ℕ) (c : Core) → IsCore n c → IsCore (n + 1) c
widens n c k = record { kept = k.kept; others = λ v not_one. k.others v (λ is. not_one (is.0, omega arith)) }

worker_cases : (n w : ℕ) → IsWorkerOf n w ⊎ (¬ IsWorkerOf n w)
worker_cases n zero = inr (λ is. omega arith)
worker_cases n (suc w) = ⊎_elim (λ (lt : n < suc w). inr (λ is. absurd (let le = is.1 in omega arith))) (λ (le : suc w ≤ n). inl (omega arith, le)) (cases_lt n (suc w))

pub cons_ne_nil : (x : Item) (xs : List Item) → x ∷ xs ≢ []
cons_ne_nil x xs e = cc

pub append_cons_ne_nil : (xs : List Item) (x : Item) (ys : List Item) → xs ++ (x ∷ ys) ≢ []
append_cons_ne_nil [] x ys e = cc
append_cons_ne_nil (y ∷ xs) x ys e = cc

-- whoever sent an item of the session is a worker of it
pub holder_worker : (n : ℕ) (before : List Item) (x : Item) (after : List Item) (c : Core) → c.taken ++ c.waiting ≡ before ++ (x ∷ after) → IsCore n c → IsWorkerOf n (worker_of x)
holder_worker n before x after c whole k = ⊎_elim (λ is. is)
    (λ (not_one : ¬ IsWorkerOf n (worker_of x)).
    let w = worker_of x in
    let none = k.others w not_one in
    let nothing : items_of w (c.taken ++ c.waiting) ≡ [] = k.kept w ∙ ap (λ l. script w l (c.ended w)) none.0 ∙ ap (script w []) none.1 in
    let split : items_of w (c.taken ++ c.waiting) ≡ items_of w before ++ (x ∷ items_of w after) =
    ap (items_of w) whole ∙ filter-append (λ y. worker_of y == w) before (x ∷ after)
    ∙ ap (λ l. items_of w before ++ l) (ap (λ (b : Bool). if b then x ∷ items_of w after else items_of w after) (eq-eqb w w refl)) in
    absurd (append_cons_ne_nil (items_of w before) x (items_of w after) (sym split ∙ nothing)))
    (worker_cases n (worker_of x))

pub waiting_worker : (n : ℕ) (x : Item) (xs : List Item) (c : Core) → c.waiting ≡ x ∷ xs → IsCore n c → IsWorkerOf n (worker_of x)
waiting_worker n x xs c waits k = holder_worker n c.taken x xs c (ap (λ l. c.taken ++ l) waits) k

-- the events of the entries among the items
abbrev pub events_in : List Item → List Event
events_in [] = []
events_in (Emitted e ∷ xs) = e.event ∷ events_in xs
events_in (End w ∷ xs) = events_in xs

pub events_among : (w : ℕ) (xs : List Item) → of_worker w (entries xs) ≡ events_in (items_of w xs)
events_among w [] = refl
events_among w (Emitted e ∷ xs) =
    elim (e.worker == w) as (λ b. map (λ (a : Entry). a.event) (if b then e ∷ filter (λ a. a.worker == w) (entries xs) else filter (λ a. a.worker == w) (entries xs)) ≡ events_in (if b then Emitted e ∷ items_of w xs else items_of w xs))
    [ true ↦ ap (λ l. e.event ∷ l) (events_among w xs) | false ↦ events_among w xs ]
events_among w (End v ∷ xs) =
    elim (v == w) as (λ b. of_worker w (entries xs) ≡ events_in (if b then End v ∷ items_of w xs else items_of w xs)) [ true ↦ events_among w xs | false ↦ events_among w xs ]

pub events_in-append : (xs ys : List Item) → events_in (xs ++ ys) ≡ events_in xs ++ events_in ys
events_in-append [] ys = refl
events_in-append (Emitted e ∷ xs) ys = ap (λ l. e.event ∷ l) (events_in-append xs ys)
events_in-append (End w ∷ xs) ys = events_in-append xs ys

pub events_scripted : (w : ℕ) (es : List Event) (b : Bool) → events_in (script w es b) ≡ es
events_scripted w [] true = refl
events_scripted w [] false = refl
events_scripted w (e ∷ es) b = ap (λ l. e ∷ l) (events_scripted w es b)

-- ---- marks

-- the mark of a worker is among its own items exactly where it is among all
pub marked_among : (w : ℕ) (xs : List Item) → is_marked w (items_of w xs) ≡ is_marked w xs
marked_among w [] = refl
marked_among w (Emitted e ∷ xs) =
    elim (e.worker == w) as (λ b. is_marked w (if b then Emitted e ∷ items_of w xs else items_of w xs) ≡ is_marked w xs) [ true ↦ marked_among w xs | false ↦ marked_among w xs ]
marked_among w (End v ∷ xs) = ⊎_elim
    (λ (e : v ≡ w). let yes = eq-eqb v w e in
    ap (λ (b : Bool). is_marked w (if b then End v ∷ items_of w xs else items_of w xs)) yes ∙ ap (λ (b : Bool). b || is_marked w (items_of w xs)) yes ∙ sym (ap (λ (b : Bool). b || is_marked w xs) yes))
    (λ (n : v ≢ w). let no = ne_eqb v w n in
    ap (λ (b : Bool). is_marked w (if b then End v ∷ items_of w xs else items_of w xs)) no ∙ marked_among w xs ∙ sym (ap (λ (b : Bool). b || is_marked w xs) no))
    (cases_eq v w)

-- before an item of a worker its mark does not stand
before_last : (w : ℕ) (es : List Event) (b : Bool) (xs : List Item) (x : Item) (ys : List Item) → xs ++ (x ∷ ys) ≡ script w es b → is_marked w xs ≡ false
before_last w es b [] x ys e = refl
before_last w [] true (y ∷ xs) x ys e = let tail : xs ++ (x ∷ ys) ≡ [] = cc in absurd (append_cons_ne_nil xs x ys tail)
before_last w [] false (y ∷ xs) x ys e = absurd (cons_ne_nil y (xs ++ (x ∷ ys)) e)
before_last w (a ∷ es) b (y ∷ xs) x ys e =
    let head : y ≡ entry w a = cc in
    let tail : xs ++ (x ∷ ys) ≡ script w es b = cc in
    ap (λ z. is_mark_of w z || is_marked w xs) head ∙ before_last w es b xs x ys tail

-- the first waiting item is of a worker whose mark was not taken
pub unmarked : (n : ℕ) (x : Item) (xs : List Item) (c : Core) → c.waiting ≡ x ∷ xs → IsCore n c → is_marked (worker_of x) c.taken ≡ false
unmarked n x xs c waits k =
    let w = worker_of x in
    let own : items_of w (x ∷ xs) ≡ x ∷ items_of w xs = ap (λ (b : Bool). if b then x ∷ items_of w xs else items_of w xs) (eq-eqb w w refl) in
    let whole : items_of w c.taken ++ (x ∷ items_of w xs) ≡ script w (c.sent w) (c.ended w) =
    ap (λ l. items_of w c.taken ++ l) (sym own) ∙ sym (filter-append (λ y. worker_of y == w) c.taken (x ∷ xs)) ∙ ap (λ l. items_of w (c.taken ++ l)) (sym waits) ∙ k.kept w in
    sym (marked_among w c.taken) ∙ before_last w (c.sent w) (c.ended w) (items_of w c.taken) x (items_of w xs) whole

-- What the state of a session comes to.
use Rattle.std.proofs.Common.{◌≡◌, ◌≢◌, ◌↔◌, ◌==◌, ℕ, Bool, true, false, ◌||◌, if◌then◌else◌, true≢false, List, [], ◌∷◌, ◌++◌, All, sym, refl, ap, ◌∙◌, subst, ⊎_elim, append_assoc, append-nil, eq-eqb, ne_eqb}
use Rattle.std.proofs.lemmas.Bool.{cases_eq, or_left}
use Rattle.std.proofs.lemmas.List.Elements.{filter-append, All-nil, All-cons}
use Rattle.tk_events.specs.declared.events.Event.{Event}
use Rattle.tk_record.specs.Mixing.{IsWorkerOf, of_worker, Mix}
use Rattle.tk_queue_session.specs.declared.items.Item.{Item}
use Rattle.tk_queue_session.specs.declared.items.Item.TheVariants.{Entry as Emitted, End}
use Rattle.tk_queue_session.specs.Core.{Core, IsCore, worker_of, items_of, entries, script}
use Rattle.tk_queue_session.specs.Marks.{is_marked}
use Rattle.tk_queue_session.proofs.SharedSteps.{append_cons_ne_nil, holder_worker, events_in, events_among, events_scripted, marked_among}
use Rattle.tk_queue_session.specs.Senders.{SenderView}
use Rattle.tk_queue_session.specs.Receivers.{ReceiverView}
use Rattle.tk_queue_session.specs.Tokens.{sent_by}
use Rattle.tk_queue_session.specs.Closing.{EndWithMarks}
use Rattle.testkit_headline.specs.Recordings.{Completes, NothingAfterMarks}

-- in a script nothing comes after the mark
last_mark :
    (w : ℕ) (es : List Event) (ended : Bool) (before after : List Item)
    → script w es ended ≡ before ++ End w ∷ after → after ≡ []
last_mark w [] true [] after e = cc
last_mark w [] true (x ∷ before) after e = absurd (append_cons_ne_nil before (End w) after (cc))
last_mark w [] false before after e = absurd (append_cons_ne_nil before (End w) after (sym e))
last_mark w (a ∷ es) ended [] after e = cc
last_mark w (a ∷ es) ended (x ∷ before) after e = last_mark w es ended before after (cc)

-- of two lists one after the other
items_of-append :
    (w : ℕ) (xs ys : List Item) → items_of w (xs ++ ys) ≡ items_of w xs ++ items_of w ys
items_of-append w xs ys = filter-append (λ x. worker_of x == w) xs ys

-- the mark of w is an item of w
items_of-mark : (w : ℕ) (xs : List Item) → items_of w (End w ∷ xs) ≡ End w ∷ items_of w xs
items_of-mark w xs =
    ap (λ (b : Bool). if b then End w ∷ items_of w xs else items_of w xs) (eq-eqb w w refl)

-- where a worker's items are a script, none of them comes after its mark
after_mark :
    (w : ℕ) (es : List Event) (ended : Bool) (xs before after : List Item)
    → items_of w xs ≡ script w es ended → xs ≡ before ++ End w ∷ after → items_of w after ≡ []
after_mark w es ended xs before after are is =
    let split : items_of w xs ≡ items_of w before ++ End w ∷ items_of w after =
    ap (items_of w) is ∙ items_of-append w before (End w ∷ after)
    ∙ ap (λ l. items_of w before ++ l) (items_of-mark w after) in
    last_mark w es ended (items_of w before) (items_of w after) (sym are ∙ split)

-- the mark of w stands in the list, between these
abbrev HasMark : ℕ → List Item → Type 0
HasMark w xs = (before : List Item) × (after : List Item) × (xs ≡ before ++ End w ∷ after)

mark_at : (w : ℕ) (xs : List Item) → is_marked w xs ≡ true → HasMark w xs
mark_at w [] marked = absurd (true≢false (sym marked))
mark_at w (Emitted e ∷ xs) marked =
    let rest = mark_at w xs marked in
    (Emitted e ∷ rest.0, rest.1, ap (λ l. Emitted e ∷ l) rest.2)
mark_at w (End v ∷ xs) marked = ⊎_elim {C = HasMark w (End v ∷ xs)}
    (λ (same : v ≡ w). ([], xs, ap (λ u. End u ∷ xs) same))
    (λ (apart : v ≢ w).
    let no = ap (λ (b : Bool). b || is_marked w xs) (ne_eqb v w apart) in
    let rest = mark_at w xs (sym no ∙ marked) in
    (End v ∷ rest.0, rest.1, ap (λ l. End v ∷ l) rest.2))
    (cases_eq v w)

suffix_nil : (xs ys : List Item) → xs ++ ys ≡ [] → ys ≡ []
suffix_nil [] ys e = e
suffix_nil (x ∷ xs) ys e = cc

-- where the mark of w was taken, nothing of w waits
none_waits :
    (n w : ℕ) (c : Core) → IsCore n c → is_marked w c.taken ≡ true → items_of w c.waiting ≡ []
none_waits n w c k marked =
    let mark = mark_at w c.taken marked in
    let whole = ap (λ l. l ++ c.waiting) mark.2 ∙ append_assoc mark.0 (End w ∷ mark.1) c.waiting in
    let later : items_of w (mark.1 ++ c.waiting) ≡ [] =
    after_mark w (c.sent w) (c.ended w) (c.taken ++ c.waiting) mark.0 (mark.1 ++ c.waiting)
    (k.kept w) whole in
    suffix_nil (items_of w mark.1) (items_of w c.waiting)
    (sym (items_of-append w mark.1 c.waiting) ∙ later)

-- what was taken of a worker whose mark was taken is all that it sent
taken_is_sent :
    (n w : ℕ) (c : Core) → IsCore n c → is_marked w c.taken ≡ true
    → of_worker w (entries c.taken) ≡ c.sent w
taken_is_sent n w c k marked =
    let all : items_of w c.taken ≡ script w (c.sent w) (c.ended w) =
    sym (append-nil (items_of w c.taken))
    ∙ ap (λ l. items_of w c.taken ++ l) (sym (none_waits n w c k marked))
    ∙ sym (items_of-append w c.taken c.waiting) ∙ k.kept w in
    events_among w c.taken ∙ ap events_in all ∙ events_scripted w (c.sent w) (c.ended w)

-- each entry that was taken is of one of the workers
all_workers :
    (n : ℕ) (c : Core) → IsCore n c → (before xs : List Item) → c.taken ≡ before ++ xs
    → All (λ e. IsWorkerOf n e.worker) (entries xs)
all_workers n c k before [] whole = All-nil (λ e. IsWorkerOf n e.worker)
all_workers n c k before (Emitted e ∷ xs) whole =
    let more = ap (λ l. l ++ c.waiting) whole ∙ append_assoc before (Emitted e ∷ xs) c.waiting in
    All-cons (λ a. IsWorkerOf n a.worker) e (entries xs)
    (holder_worker n before (Emitted e) (xs ++ c.waiting) c more k)
    (all_workers n c k (before ++ Emitted e ∷ []) xs
    (whole ∙ sym (append_assoc before (Emitted e ∷ []) xs)))
all_workers n c k before (End w ∷ xs) whole =
    all_workers n c k (before ++ End w ∷ []) xs
    (whole ∙ sym (append_assoc before (End w ∷ []) xs))

pub mixes : (n : ℕ) (c : Core) → IsCore n c → Completes n c.taken → Mix n (entries c.taken) c.sent
mixes n c k completes = record {
  workers = all_workers n c k [] c.taken refl;
  each = λ w is. taken_is_sent n w c k (completes w is);
}

pub nothing_after : (n : ℕ) (c : Core) → IsCore n c → NothingAfterMarks n (c.taken ++ c.waiting)
nothing_after n c k w before after worker is =
    after_mark w (c.sent w) (c.ended w) (c.taken ++ c.waiting) before after (k.kept w) is

-- what was taken ends with the marks of the workers
pub ends_with_marks :
    (r : ReceiverView) (tokens : List SenderView) → EndWithMarks r tokens
    → NothingAfterMarks r.workers r.taken
ends_with_marks r tokens ends w before after worker is =
    after_mark w (sent_by tokens w) true r.taken before after (ends w worker) is

-- the items of a worker that has a mark, and nothing after it, are events and then the mark
scripted :
    (w : ℕ) (xs : List Item) → is_marked w xs ≡ true
    → ((before after : List Item) → xs ≡ before ++ End w ∷ after → items_of w after ≡ [])
    → (es : List Event) × (items_of w xs ≡ script w es true)
scripted w [] marked last = absurd (true≢false (sym marked))
scripted w (Emitted e ∷ xs) marked last =
    let rest = scripted w xs marked
    (λ before after is. last (Emitted e ∷ before) after (ap (λ l. Emitted e ∷ l) is)) in
    ⊎_elim {C = (es : List Event) × (items_of w (Emitted e ∷ xs) ≡ script w es true)}
    (λ (same : e.worker ≡ w). (
      e.event ∷ rest.0,
      ap (λ (b : Bool). if b then Emitted e ∷ items_of w xs else items_of w xs)
          (eq-eqb e.worker w same)
          ∙ (λ i. Emitted (record { worker = same i; event = e.event }) ∷ rest.1 i),
    ))
    (λ (apart : e.worker ≢ w). (
      rest.0,
      ap (λ (b : Bool). if b then Emitted e ∷ items_of w xs else items_of w xs)
          (ne_eqb e.worker w apart)
          ∙ rest.1,
    ))
    (cases_eq e.worker w)
scripted w (End v ∷ xs) marked last =
    ⊎_elim {C = (es : List Event) × (items_of w (End v ∷ xs) ≡ script w es true)}
    (λ (same : v ≡ w). (
      [],
      ap (λ (b : Bool). if b then End v ∷ items_of w xs else items_of w xs) (eq-eqb v w same)
          ∙ (λ i. End (same i) ∷ last [] xs (ap (λ u. End u ∷ xs) same) i),
    ))
    (λ (apart : v ≢ w).
    let no = ap (λ (b : Bool). b || is_marked w xs) (ne_eqb v w apart) in
    let rest = scripted w xs (sym no ∙ marked)
    (λ before after is. last (End v ∷ before) after (ap (λ l. End v ∷ l) is)) in (
      rest.0,
      ap (λ (b : Bool). if b then End v ∷ items_of w xs else items_of w xs) (ne_eqb v w apart)
          ∙ rest.1,
    ))
    (cases_eq v w)

-- a script with a mark is marked
marked_script : (w : ℕ) (es : List Event) → is_marked w (script w es true) ≡ true
marked_script w [] = or_left (w == w) false (eq-eqb w w refl)
marked_script w (e ∷ es) = marked_script w es

pub marks :
    (n : ℕ) (items : List Item)
    → (Completes n items × NothingAfterMarks n items)
    ↔ ((w : ℕ) → IsWorkerOf n w
    → (es : List Event) × (items_of w items ≡ script w es true))
marks n items = (
  λ both w own. scripted w items (both.0 w own) (λ before after is. both.1 w before after own is),
  λ each. (
    λ w own. sym (marked_among w items) ∙ ap (is_marked w) (each w own).1
        ∙ marked_script w (each w own).0,
    λ w before after own is. after_mark w (each w own).0 true items before after (each w own).1 is,
  ),
)

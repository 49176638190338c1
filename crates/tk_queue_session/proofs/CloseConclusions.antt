-- What `close` looks for, and what it concludes.
use Rattle.std.proofs.Common.{◌≡◌, ◌≢◌, ◌==◌, ℕ, ◌<◌, ◌≤◌, ◌+◌, Bool, true, false, ◌||◌, if◌then◌else◌, true≢false, List, [], ◌∷◌, ◌++◌, map, sym, refl, ap, ◌∙◌, subst, ⊎_elim, append_assoc, eq-eqb, ne_eqb, arith}
use Rattle.std.specs.Prelude.{All, slice_index_or, IfNone, Option, Some, None}
use Rattle.std.proofs.lemmas.Bool.{cases_eq, true_from_ne_false}
use Rattle.std.proofs.lemmas.List.Elements.{filter-append, All-nil, All-cons, All-head, All-tail}
use Rattle.std.proofs.lemmas.List.Sums.{sum_by-cons}
use Rattle.tk_record.specs.Mixing.{IsWorkerOf, Mix}
use Rattle.tk_queue_session.specs.Limits.{most_workers, worker_slots}
use Rattle.tk_queue_session.specs.Core.{Core, IsCore, worker_of, items_of, entry, entries, script}
use Rattle.tk_queue_session.specs.SessionRule.{Stands, Concludes}
use Rattle.tk_queue_session.specs.PassViews.{pass_of_receiver}
use Rattle.tk_queue_session.specs.Closing.{Least, list_of, lists_of}
use Rattle.tk_queue_session.specs.declared.session_rules.SenderPass.{SenderPass}
use Rattle.tk_queue_session.specs.declared.session_rules.PassView.{PassView}
use Rattle.tk_queue_session.specs.Senders.{SenderView}
use Rattle.tk_queue_session.specs.Tokens.{sent_by, tokens_of}
use Rattle.tk_queue_session.specs.steps.{pass_of_token}
use Rattle.tk_queue_session.specs.Receivers.{is_marked, is_mark_of}
use Rattle.tk_events.specs.declared.events.Event.{Event}
use Rattle.tk_queue_session.specs.declared.items.Item.{Item}
use Rattle.tk_queue_session.specs.declared.items.Item.TheVariants.{Entry as Emitted, End}
use Rattle.tk_queue_session.proofs.SharedSteps.{holder_worker, marked_among, events_in, events_among, events_scripted}

-- P holds at none of the workers below worker n
abbrev pub NoneBelow : ℕ → (ℕ → Type 0) → Type 0
NoneBelow n P = (w : ℕ) → 0 < w → w < n → ¬ P w

pub none_more : (P : ℕ → Type 0) (n : ℕ) → NoneBelow n P → ¬ P n → NoneBelow (n + 1) P
none_more P n below here w some few = ⊎_elim (λ (e : w ≡ n). subst (λ v. ¬ P v) (sym e) here) (λ (apart : w ≢ n). below w some (omega arith)) (cases_eq w n)

pub none_of : (P : ℕ → Type 0) (n : ℕ) → NoneBelow n P → ¬ P n → (w : ℕ) → IsWorkerOf n w → ¬ P w
none_of P n below here w is = let at_most : w ≤ n = is.1 in none_more P n below here w is.0 (omega arith)

pub some_token : (n : ℕ) (tokens : List SenderView) → ((w : ℕ) → IsWorkerOf n w → ¬ (tokens_of w tokens ≡ 0)) → (w : ℕ) → IsWorkerOf n w → 0 < tokens_of w tokens
some_token n tokens there w is = let not_none : ¬ (tokens_of w tokens ≡ 0) = there w is in let k = tokens_of w tokens in positive k not_none where
  positive : (k : ℕ) → ¬ (k ≡ 0) → 0 < k
  positive k some = omega arith

pub one_token : (n : ℕ) (tokens : List SenderView) → ((w : ℕ) → IsWorkerOf n w → ¬ (tokens_of w tokens ≡ 0)) → ((w : ℕ) → IsWorkerOf n w → ¬ (1 < tokens_of w tokens)) → (w : ℕ) → IsWorkerOf n w → tokens_of w tokens ≡ 1
one_token n tokens there once w is = only (tokens_of w tokens) (there w is) (once w is) where
  only : (k : ℕ) → ¬ (k ≡ 0) → ¬ (1 < k) → k ≡ 1
  only k some few = omega arith

-- the row of marks says which marks were taken
pub marks_missing : (n : ℕ) (marked : List Bool) (taken : List Item) → n ≤ most_workers → ((w : ℕ) → w < worker_slots → slice_index_or marked w false ≡ is_marked w taken) → (w : ℕ)
    → Least n (λ v. slice_index_or marked v false ≡ false) w → Least n (λ v. is_marked v taken ≡ false) w
marks_missing n marked taken few marks w least = record {
  worker = least.worker;
  holds = let at_most : w ≤ n = least.worker.1 in sym (marks w (omega arith)) ∙ least.holds;
  below = λ v is lt unmarked. let at_most : v ≤ n = is.1 in least.below v is lt (marks v (omega arith) ∙ unmarked);
}

pub marks_whole : (n : ℕ) (marked : List Bool) (taken : List Item) → n ≤ most_workers → ((w : ℕ) → w < worker_slots → slice_index_or marked w false ≡ is_marked w taken)
    → ((w : ℕ) → IsWorkerOf n w → ¬ (slice_index_or marked w false ≡ false)) → (w : ℕ) → IsWorkerOf n w → is_marked w taken ≡ true
marks_whole n marked taken few marks none w is = let at_most : w ≤ n = is.1 in sym (marks w (omega arith)) ∙ true_from_ne_false (slice_index_or marked w false) (none w is)

-- ---- what the receiver knows once it took in all tokens

same_if : (w : ℕ) (t : SenderView) (ts : List SenderView) → t.worker ≡ w → sent_by (t ∷ ts) w ≡ t.sent
same_if w t ts e = ap (λ (b : Bool). if b then t.sent else sent_by ts w) (eq-eqb t.worker w e)

other_if : (w : ℕ) (t : SenderView) (ts : List SenderView) → t.worker ≢ w → sent_by (t ∷ ts) w ≡ sent_by ts w
other_if w t ts n = ap (λ (b : Bool). if b then t.sent else sent_by ts w) (ne_eqb t.worker w n)

other_count : (w : ℕ) (t : SenderView) (ts : List SenderView) → t.worker ≢ w → tokens_of w (t ∷ ts) ≡ tokens_of w ts
other_count w t ts n = sum_by-cons (λ (u : SenderView). if u.worker == w then 1 else 0) t ts ∙ ap (λ (b : Bool). (if b then 1 else 0) + tokens_of w ts) (ne_eqb t.worker w n) ∙ zero_plus (tokens_of w ts) where
  zero_plus : (k : ℕ) → 0 + k ≡ k
  zero_plus k = omega arith

-- a token of w has what w sent, and w has ended
found : (c : Core) (w : ℕ) (tokens : List SenderView) → All (Stands c) (map pass_of_token tokens) → 0 < tokens_of w tokens → (c.ended w ≡ true) × (sent_by tokens w ≡ c.sent w)
found c w [] all some = absurd (omega arith)
found c w (t ∷ ts) all some = ⊎_elim
    (λ (e : t.worker ≡ w).
    let head = All-head (Stands c) (pass_of_token t) (map pass_of_token ts) all in
    (ap c.ended (sym e) ∙ head.0, same_if w t ts e ∙ head.1 ∙ ap c.sent e))
    (λ (n : t.worker ≢ w).
    let rest = found c w ts (All-tail (Stands c) (pass_of_token t) (map pass_of_token ts) all) (subst (λ k. 0 < k) (other_count w t ts n) some) in
    (rest.0, other_if w t ts n ∙ rest.1))
    (cases_eq t.worker w)

prefix_nil : (xs ys : List Item) → xs ++ ys ≡ [] → xs ≡ []
prefix_nil [] ys e = refl
prefix_nil (x ∷ xs) ys e = cc

-- what has the mark is all of it
upto_mark : (w : ℕ) (es : List Event) (xs ys : List Item) → xs ++ ys ≡ map (entry w) es ++ End w ∷ [] → is_marked w xs ≡ true → xs ≡ map (entry w) es ++ End w ∷ []
upto_mark w es [] ys e marked = absurd (true≢false (sym marked))
upto_mark w [] (x ∷ xs) ys e marked =
    let none : xs ≡ [] = prefix_nil xs ys (cc) in
    let head : x ≡ End w = cc in
    cc
upto_mark w (a ∷ es) (x ∷ xs) ys e marked =
    let head : x ≡ entry w a = cc in
    let rest : xs ++ ys ≡ map (entry w) es ++ End w ∷ [] = cc in
    let later : is_marked w xs ≡ true = sym (ap (λ y. is_mark_of w y || is_marked w xs) head) ∙ marked in
    let all = upto_mark w es xs ys rest later in
    cc

-- the events of entries alone, in order
all_workers : (n : ℕ) (c : Core) → IsCore n c → (before xs : List Item) → c.taken ≡ before ++ xs → All (λ e. IsWorkerOf n e.worker) (entries xs)
all_workers n c k before [] whole = All-nil (λ e. IsWorkerOf n e.worker)
all_workers n c k before (Emitted e ∷ xs) whole =
    All-cons (λ a. IsWorkerOf n a.worker) e (entries xs)
    (holder_worker n before (Emitted e) (xs ++ c.waiting) c (ap (λ l. l ++ c.waiting) whole ∙ append_assoc before (Emitted e ∷ xs) c.waiting) k)
    (all_workers n c k (before ++ Emitted e ∷ []) xs (whole ∙ sym (append_assoc before (Emitted e ∷ []) xs)))
all_workers n c k before (End w ∷ xs) whole = all_workers n c k (before ++ End w ∷ []) xs (whole ∙ sym (append_assoc before (End w ∷ []) xs))

-- where each worker has a token and its mark was taken, what was taken of each is what its token
-- has, and then its mark
pub ends_with_marks : (statics n : ℕ) (taken : List Item) (tokens : List SenderView) (items : List Item)
    → ((w : ℕ) → IsWorkerOf n w → tokens_of w tokens ≡ 1) → ((w : ℕ) → IsWorkerOf n w → is_marked w taken ≡ true)
    → Concludes (pass_of_receiver statics n taken (map pass_of_token tokens)) items → (w : ℕ) → IsWorkerOf n w → items_of w taken ≡ script w (sent_by tokens w) true
ends_with_marks statics n taken tokens items once drained concludes w is =
    let c = concludes.0 in
    let k = concludes.1 in
    let same : c.taken ≡ taken = concludes.3 in
    let t = found c w tokens concludes.4 (let one = once w is in omega arith) in
    let whole : items_of w taken ++ items_of w c.waiting ≡ map (entry w) (c.sent w) ++ End w ∷ [] =
    ap (λ l. items_of w l ++ items_of w c.waiting) (sym same) ∙ sym (filter-append (λ x. worker_of x == w) c.taken c.waiting) ∙ k.kept w ∙ ap (script w (c.sent w)) t.0 in
    let mine : items_of w taken ≡ map (entry w) (c.sent w) ++ End w ∷ [] = upto_mark w (c.sent w) (items_of w taken) (items_of w c.waiting) whole (marked_among w taken ∙ drained w is) in
    mine ∙ ap (λ l. script w l true) (sym t.1)

-- and what was taken mixes the lists of the tokens
pub mixes : (statics n : ℕ) (taken : List Item) (tokens : List SenderView) (items : List Item)
    → ((w : ℕ) → IsWorkerOf n w → tokens_of w tokens ≡ 1) → ((w : ℕ) → IsWorkerOf n w → is_marked w taken ≡ true)
    → Concludes (pass_of_receiver statics n taken (map pass_of_token tokens)) items → Mix n (entries taken) (sent_by tokens)
mixes statics n taken tokens items once drained concludes = record {
  workers = all_workers n concludes.0 concludes.1 [] taken concludes.3;
  each = λ w is. events_among w taken ∙ ap events_in (ends_with_marks statics n taken tokens items once drained concludes w is) ∙ events_scripted w (sent_by tokens w) true;
}

pub if_none_from : {A : Type 0} (o : Option A) (P : Type 0) → P → IfNone o P
if_none_from None P p = p
if_none_from (Some x) P p = tt

-- the lists of the tokens are what their workers sent
lists_of_tokens :
    (w : ℕ) (ts : List SenderView)
    → list_of (map (λ (s : SenderPass). (s.worker, s.sent)) (map pass_of_token ts)) w ≡ sent_by ts w
lists_of_tokens w [] = refl
lists_of_tokens w (t ∷ ts) =
    ap (λ (l : List Event). if t.worker == w then t.sent else l) (lists_of_tokens w ts)

-- where a pass took in these tokens, its lists are what their workers sent
pub sent_by_tokens :
    (v : PassView) (ts us : List SenderView) (statics workers : ℕ) (taken : List Item)
    → v ≡ pass_of_receiver statics workers taken (map pass_of_token ts) → ts ≡ us
    → (w : ℕ) → list_of (lists_of v) w ≡ sent_by us w
sent_by_tokens v ts us statics workers taken known all w =
    ap (λ (p : PassView). list_of (lists_of p) w) known ∙ lists_of_tokens w ts
    ∙ ap (λ (l : List SenderView). sent_by l w) all

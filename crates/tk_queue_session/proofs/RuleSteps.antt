-- Each step of the queue keeps the rule of the session.
use Rattle.std.proofs.Common.{◌≡◌, ◌≢◌, ◌⊎◌, ◌==◌, ℕ, zero, suc, ◌<◌, ◌≤◌, ◌+◌, ◌*◌, Bool, true, false, if◌then◌else◌, eq-eqb, length-append, true≢false, List, [], ◌∷◌, ◌++◌, length, set, sym, refl, ap, ◌∙◌, subst, inl, inr, ⊎_elim, arith}
use Rattle.std.specs.Prelude.{⊤}
use Rattle.std.proofs.lemmas.Bool.{cases_eq}
use Rattle.std.proofs.lemmas.List.Elements.{filter-append, All-nil, All-push, All-weaker}
use mathlib.Core.Option.{some, some-injective, some-ne-none}
use lib.ListN.{get_elem?}
use Rattle.crossbeam_queue.specs.Fifo.{Pushes, Forks, Merges, Learns}
use Rattle.crossbeam_queue.specs.Fifo.{Pops as PopsUnder}
use Rattle.crossbeam_queue.proofs.Lists.{at_set}
use Rattle.tk_events.specs.declared.events.Event.{Event}
use Rattle.tk_queue_session.specs.declared.items.Item.{Item}
use Rattle.tk_queue_session.specs.declared.items.Item.TheVariants.{Entry as Emitted, End}
use Rattle.tk_queue_session.specs.declared.session_rules.SenderPass.{SenderPass}
use Rattle.tk_queue_session.specs.declared.session_rules.ReceiverPass.{ReceiverPass}
use Rattle.tk_queue_session.specs.declared.session_rules.PassView.{PassView}
use Rattle.tk_queue_session.specs.declared.session_rules.PassView.TheVariants.{Sends, Takes, Spent}
use Rattle.tk_record.specs.Mixing.{IsWorkerOf, of_worker}
use Rattle.tk_queue_session.specs.Core.{Core, IsCore, worker_of, push, put, take_first, items_of, entries}
use Rattle.tk_queue_session.specs.Limits.{most_events}
use Rattle.tk_queue_session.specs.SessionRule.{SessionLayout, Session, Fits, Stands, Concludes}
use Rattle.tk_queue_session.specs.PassViews.{pass_of_receiver, pass_of_sender, new_receiver, pushed, popped, Pops, with_worker, next_sender, with_token, MayPush, MayTake, IsNext, IsReader, IsFirst, MayTakeIn, MayBeEmittedNext, with_bit}
use Rattle.tk_queue_session.specs.CoreSteps.{IsStateOf, HoldsStates, fresh_core, BeginsFresh, PushIsStep, FullIsNone, TakeIsStep, EmptyIsNone, SplitIsNone, BitIsNone, JoinIsNone}
use Rattle.tk_queue_session.specs.Emission.{MayEmit, Emission}
use Rattle.tk_queue_session.proofs.KnownKeys.{emission_none, emission_more}
use Rattle.tk_queue_session.proofs.CoreInvariant.{pushes_core, takes, put-same, put-other}
use Rattle.tk_queue_session.proofs.SharedSteps.{events_in, events_in-append, events_among, events_scripted, widens, waiting_worker, unmarked}
use Rattle.tk_queue_session.specs.Marks.{is_marked}

-- F of each pass
abbrev Each : (ℕ → PassView → Type 0) → List PassView → Type 0
Each F views = (pass : ℕ) (v : PassView) → get_elem? views pass ≡ some v → F pass v

each_set : (F : ℕ → PassView → Type 0) (views : List PassView) (pass : ℕ) (w : PassView) → F pass w → ((j : ℕ) (u : PassView) → j ≢ pass → get_elem? views j ≡ some u → F j u) → Each F (set views pass w)
each_set F views pass w mine others j u e = ⊎_elim (λ (x : (j ≡ pass) × (w ≡ u)). subst (λ (y : ℕ × PassView). F y.0 y.1) (λ i. (sym x.0 i, x.1 i)) mine)
    (λ (x : (j ≢ pass) × (get_elem? views j ≡ some u)). others j u x.0 x.1) (at_set views pass j w u e)

at_end : (l : List PassView) (a b : PassView) (j : ℕ) → get_elem? (l ++ a ∷ []) j ≡ some b → (get_elem? l j ≡ some b) ⊎ ((j ≡ length l) × (a ≡ b))
at_end [] a b zero e = inr (refl, some-injective a b e)
at_end [] a b (suc j) e = absurd (some-ne-none b (sym e))
at_end (x ∷ xs) a b zero e = inl e
at_end (x ∷ xs) a b (suc j) e = ⊎_elim (λ h. inl h) (λ (h : (j ≡ length xs) × (a ≡ b)). inr (ap suc h.0, h.1)) (at_end xs a b j e)

each_snoc : (F : ℕ → PassView → Type 0) (views : List PassView) (w : PassView) → Each F views → F (length views) w → Each F (views ++ w ∷ [])
each_snoc F views w old new j u e = ⊎_elim (λ (h : get_elem? views j ≡ some u). old j u h)
    (λ (h : (j ≡ length views) × (w ≡ u)). subst (λ (y : ℕ × PassView). F y.0 y.1) (λ i. (sym h.0 i, h.1 i)) new) (at_end views w u j e)

-- the core changed for worker w alone, who had not ended, and the list of what was taken stayed
record Moves (w : ℕ) (c d : Core) : Type 0 where
  taken : d.taken ≡ c.taken
  was : c.ended w ≡ false
  others : (v : ℕ) → v ≢ w → (d.sent v ≡ c.sent v) × (d.ended v ≡ c.ended v)

token_stays : (w : ℕ) (c d : Core) → Moves w c d → (t : SenderPass) → Stands c t → Stands d t
token_stays w c d m t st =
    let apart : t.worker ≢ w = λ h. true≢false (sym st.0 ∙ ap c.ended h ∙ m.was) in
    let o = m.others t.worker apart in (o.1 ∙ st.0, st.1 ∙ sym o.0)

fits_stays : (layout : SessionLayout) (w : ℕ) (c d : Core) → Moves w c d → (pass : ℕ) (u : PassView) → pass ≢ layout.pass_of w → Fits layout c pass u → Fits layout d pass u
fits_stays layout w c d m pass (Sends s) apart f =
    let other : s.worker ≢ w = λ h. apart (f.0 ∙ ap layout.pass_of h) in
    let o = m.others s.worker other in (f.0, f.1, f.2 ∙ sym o.0, f.3 ∙ sym o.1, f.4)
fits_stays layout w c d m pass (Takes r) apart f = (f.0, f.1, f.2 ∙ sym m.taken, All-weaker (Stands c) (Stands d) (token_stays w c d m) r.tokens f.3, f.4)
fits_stays layout w c d m pass Spent apart f = tt

push_moves : (x : Item) (c : Core) → c.ended (worker_of x) ≡ false → Moves (worker_of x) c (push x c)
push_moves (Emitted e) c was = record { taken = refl; was = was; others = λ v n. (put-other c.sent e.worker (c.sent e.worker ++ e.event ∷ []) v n, refl) }
push_moves (End w) c was = record { taken = refl; was = was; others = λ v n. (refl, put-other c.ended w true v n) }

push_waits : (x : Item) (c : Core) → (push x c).waiting ≡ c.waiting ++ x ∷ []
push_waits (Emitted e) c = refl
push_waits (End w) c = refl

push_fits : (layout : SessionLayout) (c : Core) (pass : ℕ) (s : SenderPass) (x : Item) → worker_of x ≡ s.worker → Fits layout c pass (Sends s)
    → Fits layout (push x c) pass (pushed (Sends s) x)
push_fits layout c pass s (Emitted e) own f =
    (f.0, f.1, ap (λ l. l ++ e.event ∷ []) f.2 ∙ sym (ap (put c.sent e.worker (c.sent e.worker ++ e.event ∷ [])) (sym own) ∙ put-same c.sent e.worker (c.sent e.worker ++ e.event ∷ []) ∙ ap (λ w. c.sent w ++ e.event ∷ []) own), f.3, f.4)
push_fits layout c pass s (End w) own f = (f.0, f.1, f.2, sym (ap (put c.ended w true) (sym own) ∙ put-same c.ended w true), f.4)

own_worker : (s : SenderPass) (x : Item) → IsNext s x → worker_of x ≡ s.worker
own_worker s (Emitted e) next = next.0
own_worker s (End w) next = next

-- what each worker sent may be emitted, after the push too
push_emitted : (statics : ℕ) (c : Core) (s : SenderPass) (x : Item) → IsNext s x → s.sent ≡ c.sent s.worker → s.statics ≡ statics → ((w : ℕ) → Emission statics w (c.sent w)) → (w : ℕ) → Emission statics w ((push x c).sent w)
push_emitted statics c s (Emitted e) next same k m w = ⊎_elim
    (λ (is : w ≡ e.worker).
    let mine : c.sent e.worker ≡ s.sent = ap c.sent next.0 ∙ sym same in
    let may : MayEmit statics e.worker s.sent e.event = subst (λ (y : ℕ × ℕ). MayEmit y.0 y.1 s.sent e.event) (λ i. (k i, sym next.0 i)) next.1 in
    let before : Emission statics e.worker s.sent = subst (Emission statics e.worker) mine (m e.worker) in
    subst (λ v. Emission statics v (put c.sent e.worker (c.sent e.worker ++ e.event ∷ []) v)) (sym is)
    (subst (Emission statics e.worker) (sym (put-same c.sent e.worker (c.sent e.worker ++ e.event ∷ []) ∙ ap (λ l. l ++ e.event ∷ []) mine)) (emission_more statics e.worker s.sent e.event before may next.2)))
    (λ (apart : w ≢ e.worker). subst (Emission statics w) (sym (put-other c.sent e.worker (c.sent e.worker ++ e.event ∷ []) w apart)) (m w))
    (cases_eq w e.worker)
push_emitted statics c s (End v) next same k m w = m w

-- a push is the core's step, and the pass of its sender is the only one whose view changes
pub push_step : (pass : ℕ) (s : SenderPass) (x : Item) → s.ended ≡ false → IsNext s x → (items : List Item) (views : List PassView) (h : Session items views) → get_elem? views pass ≡ some (Sends s)
    → (t : Session (items ++ x ∷ []) (set views pass (pushed (Sends s) x))) × (t.core ≡ push x h.core)
push_step pass s x open' next items views h at =
    let own = own_worker s x next in
    let mine = h.fits pass (Sends s) at in
    let was : h.core.ended (worker_of x) ≡ false = ap h.core.ended own ∙ sym mine.3 ∙ open' in
    let d : Core = push x h.core in
    let m : Moves (worker_of x) h.core d = push_moves x h.core was in (
      record {
        core = d;
        layout = h.layout;
        waits = push_waits x h.core ∙ ap (λ l. l ++ x ∷ []) h.waits;
        lawful = pushes_core h.layout.workers x h.core (subst (IsWorkerOf h.layout.workers) (sym own) mine.1) was h.lawful;
        emitted = push_emitted h.layout.statics h.core s x next mine.2 mine.4 h.emitted;
        fits = each_set (Fits h.layout d) views pass (pushed (Sends s) x) (push_fits h.layout h.core pass s x own mine)
            (λ j u other e. fits_stays h.layout (worker_of x) h.core d m j u (λ i. other (i ∙ ap h.layout.pass_of own ∙ sym mine.0)) (h.fits j u e));
      },
      refl,
    )

-- a sender that has not ended may push an entry of its own, or its mark
pub pushes : (n pass : ℕ) (s : SenderPass) (x : Item) → s.ended ≡ false → IsNext s x → Pushes Session n pass (Sends s) x (λ w. w ≡ pushed (Sends s) x)
pushes n pass s x open' next items views _ h at = (pushed (Sends s) x, (push_step pass s x open' next items views h at).0, refl)

-- no other pass sees what was taken
take_fits : (layout : SessionLayout) (x : Item) (xs : List Item) (c : Core) (pass : ℕ) (u : PassView) → pass ≢ layout.receiver → Fits layout c pass u
    → Fits layout (take_first x xs c) pass u
take_fits layout x xs c pass (Sends s) apart f = f
take_fits layout x xs c pass (Takes r) apart f = absurd (apart f.0)
take_fits layout x xs c pass Spent apart f = tt

-- the first waiting item follows what was taken of its worker
follows : (statics n : ℕ) (x : Item) (xs : List Item) (c : Core) → c.waiting ≡ x ∷ xs → IsCore n c → ((w : ℕ) → Emission statics w (c.sent w)) → MayBeEmittedNext statics c.taken x
follows statics n (Emitted e) xs c waits k m =
    let w = e.worker in
    let before = of_worker w (entries c.taken) in
    let split : c.sent w ≡ before ++ (e.event ∷ events_in (items_of w xs)) =
    sym (events_scripted w (c.sent w) (c.ended w)) ∙ ap events_in (sym (k.kept w)) ∙ ap events_in (filter-append (λ y. worker_of y == w) c.taken c.waiting)
    ∙ ap (λ l. events_in (items_of w c.taken ++ items_of w l)) waits ∙ ap (λ (b : Bool). events_in (items_of w c.taken ++ (if b then Emitted e ∷ items_of w xs else items_of w xs))) (eq-eqb w w refl)
    ∙ events_in-append (items_of w c.taken) (Emitted e ∷ items_of w xs) ∙ ap (λ l. l ++ (e.event ∷ events_in (items_of w xs))) (sym (events_among w c.taken)) in
    let all = m w in
    (all.each before e.event (events_in (items_of w xs)) split, shorter before e.event (events_in (items_of w xs)) (subst (λ l. length l ≤ most_events) split all.few)) where
      shorter : (before : List Event) (e : Event) (after : List Event) → length (before ++ e ∷ after) ≤ most_events → length before < most_events
      shorter before e after few = omega (arith, length-append before (e ∷ after))
follows statics n (End w) xs c waits k m = tt

-- a pop is the core's step
pub take_step : (pass : ℕ) (r : ReceiverPass) (x : Item) (items : List Item) (views : List PassView) (h : Session (x ∷ items) views) → get_elem? views pass ≡ some (Takes r)
    → (t : Session items (set views pass (popped (Takes r) x))) × (t.core ≡ take_first x items h.core)
take_step pass r x items views h at =
    let mine = h.fits pass (Takes r) at in
    let d : Core = take_first x items h.core in (
      record {
        core = d;
        layout = h.layout;
        waits = refl;
        lawful = takes h.layout.workers x items h.core h.waits h.lawful;
        emitted = h.emitted;
        fits = each_set (Fits h.layout d) views pass (popped (Takes r) x) (mine.0, mine.1, ap (λ l. l ++ x ∷ []) mine.2, mine.3, mine.4)
            (λ j u other e. take_fits h.layout x items h.core j u (λ i. other (i ∙ sym mine.0)) (h.fits j u e));
      },
      refl,
    )

-- what the receiver learns of the first waiting item
may_take : (pass : ℕ) (r : ReceiverPass) (x : Item) (items : List Item) (views : List PassView) (h : Session (x ∷ items) views) → get_elem? views pass ≡ some (Takes r) → MayTake (Takes r) x
may_take pass r x items views h at =
    let mine = h.fits pass (Takes r) at in (
      subst (λ n. IsWorkerOf n (worker_of x)) (sym mine.1) (waiting_worker h.layout.workers x items h.core h.waits h.lawful),
      subst (λ (y : ℕ × List Item). MayBeEmittedNext y.0 y.1 x) (λ i. (sym mine.4 i, sym mine.2 i)) (follows h.layout.statics h.layout.workers x items h.core h.waits h.lawful h.emitted),
      subst (λ l. is_marked (worker_of x) l ≡ false) (sym mine.2) (unmarked h.layout.workers x items h.core h.waits h.lawful),
    )

-- the receiver may take
pub pops : (pass : ℕ) (r : ReceiverPass) → PopsUnder Session pass (Takes r) (Pops (Takes r))
pops pass r x items views h at = (popped (Takes r) x, (take_step pass r x items views h at).0, (refl, may_take pass r x items views h at))

-- the first state of a session, which has no worker yet
pub begins_fresh : BeginsFresh new_receiver
begins_fresh = (
  record {
    core = fresh_core;
    layout = record { statics = 0; workers = 0; receiver = 0; pass_of = λ w. 0 };
    waits = refl;
    lawful = record { kept = λ w. refl; others = λ w n. (refl, refl) };
    emitted = emission_none 0;
    fits = each_snoc (Fits (record { statics = 0; workers = 0; receiver = 0; pass_of = λ w. 0 }) fresh_core) [] new_receiver (λ j u e. absurd (some-ne-none u (sym e))) (refl, refl, refl, All-nil _, refl);
  },
  refl,
)

pub begins : Session [] (new_receiver ∷ [])
begins = begins_fresh.0

-- one worker more, with this pass
abbrev widened : SessionLayout → ℕ → SessionLayout
widened layout new = record {
  statics = layout.statics;
  workers = layout.workers + 1;
  receiver = layout.receiver;
  pass_of = put layout.pass_of (layout.workers + 1) new;
}

-- a further worker's seat is no other pass
fork_fits : (layout : SessionLayout) (new : ℕ) (c : Core) (pass : ℕ) (u : PassView) → pass ≢ layout.receiver → Fits layout c pass u → Fits (widened layout new) c pass u
fork_fits layout new c pass (Sends s) apart f =
    let is = f.1 in
    let other : s.worker ≢ layout.workers + 1 = λ h. absurd (let le : s.worker ≤ layout.workers = is.1 in omega arith) in
    (f.0 ∙ sym (put-other layout.pass_of (layout.workers + 1) new s.worker other), (is.0, omega arith), f.2, f.3, f.4)
fork_fits layout new c pass (Takes r) apart f = absurd (apart f.0)
fork_fits layout new c pass Spent apart f = tt

-- the receiver may make the next sender
pub fork_step : (pass : ℕ) (r : ReceiverPass) (items : List Item) (views : List PassView) (h : Session items views) → get_elem? views pass ≡ some (Takes r)
    → (t : Session items (set views pass (with_worker (Takes r)) ++ next_sender (Takes r) ∷ [])) × (t.core ≡ h.core)
fork_step pass r items views h at =
    let mine = h.fits pass (Takes r) at in
    let left : PassView = with_worker (Takes r) in
    let vs : List PassView = set views pass left in
    let pass_of : ℕ → ℕ = put h.layout.pass_of (h.layout.workers + 1) (length vs) in
    let F : ℕ → PassView → Type 0 = Fits (widened h.layout (length vs)) h.core in
    let w : r.workers + 1 ≡ h.layout.workers + 1 = ap (λ n. n + 1) mine.1 in
    let fresh = h.lawful.others (h.layout.workers + 1) (λ is. absurd (let le : h.layout.workers + 1 ≤ h.layout.workers = is.1 in omega arith)) in
    let old : Each F vs = each_set F views pass left (mine.0, w, mine.2, mine.3, mine.4)
    (λ j u other e. fork_fits h.layout (length vs) h.core j u (λ i. other (i ∙ sym mine.0)) (h.fits j u e)) in (
      record {
        core = h.core;
        layout = widened h.layout (length vs);
        waits = h.waits;
        lawful = widens h.layout.workers h.core h.lawful;
        emitted = h.emitted;
        fits = each_snoc F vs (next_sender (Takes r)) old
            (sym (ap pass_of w ∙ put-same h.layout.pass_of (h.layout.workers + 1) (length vs)), subst (IsWorkerOf (h.layout.workers + 1)) (sym w) (omega arith, omega arith), sym (ap h.core.sent w ∙ fresh.0), sym (ap h.core.ended w ∙ fresh.1), mine.4);
      },
      refl,
    )

pub forks : (pass : ℕ) (r : ReceiverPass) → Forks Session pass (Takes r) (with_worker (Takes r)) (next_sender (Takes r))
forks pass r items views h at = (fork_step pass r items views h at).0

-- before there is a sender, the number of static descriptors may be any
abbrev with_statics : SessionLayout → ℕ → SessionLayout
with_statics layout new = record { statics = new; workers = 0; receiver = layout.receiver; pass_of = layout.pass_of }

bit_fits : (layout : SessionLayout) (new : ℕ) (c : Core) (pass : ℕ) (u : PassView) → layout.workers ≡ 0 → pass ≢ layout.receiver → Fits layout c pass u → Fits (with_statics layout new) c pass u
bit_fits layout new c pass (Sends s) none apart f = let is = f.1 in absurd (let low : 0 < s.worker = is.0 in let high : s.worker ≤ layout.workers = is.1 in omega (arith, none))
bit_fits layout new c pass (Takes r) none apart f = absurd (apart f.0)
bit_fits layout new c pass Spent none apart f = tt

-- the number of static descriptors may be set bit by bit
pub bit_step : (b pass : ℕ) (r : ReceiverPass) → r.workers ≡ 0 → (items : List Item) (views : List PassView) (h : Session items views) → get_elem? views pass ≡ some (Takes r)
    → (t : Session items (set views pass (with_bit b (Takes r)) ++ Spent ∷ [])) × (t.core ≡ h.core)
bit_step b pass r none items views h at =
    let mine = h.fits pass (Takes r) at in
    let left : PassView = with_bit b (Takes r) in
    let vs : List PassView = set views pass left in
    let new : ℕ = 2 * r.statics + b in
    let zero' : h.layout.workers ≡ 0 = sym mine.1 ∙ none in
    let F : ℕ → PassView → Type 0 = Fits (with_statics h.layout new) h.core in
    let k : IsCore 0 h.core = subst (λ n. IsCore n h.core) zero' h.lawful in (
      record {
        core = h.core;
        layout = with_statics h.layout new;
        waits = h.waits;
        lawful = k;
        emitted = λ w. subst (Emission new w) (sym (k.others w (λ is. absurd (let low = is.0 in let high = is.1 in omega arith))).0) (emission_none new w);
        fits = each_snoc F vs Spent
            (each_set F views pass left (mine.0, none, mine.2, mine.3, refl)
            (λ j u other e. bit_fits h.layout new h.core j u zero' (λ i. other (i ∙ sym mine.0)) (h.fits j u e)))
            tt;
      },
      refl,
    )

pub bits : (b pass : ℕ) (r : ReceiverPass) → r.workers ≡ 0 → Forks Session pass (Takes r) (with_bit b (Takes r)) Spent
bits b pass r none items views h at = (bit_step b pass r none items views h at).0

-- the receiver may take in a sender that has ended
pub merge_step : (pass : ℕ) (r : ReceiverPass) (other : ℕ) (s : SenderPass) → s.ended ≡ true → (items : List Item) (views : List PassView) (h : Session items views) → get_elem? views pass ≡ some (Takes r) → ¬ (other ≡ pass)
    → get_elem? (set views pass (with_token (Takes r) (Sends s))) other ≡ some (Sends s)
    → (t : Session items (set (set views pass (with_token (Takes r) (Sends s))) other Spent)) × (t.core ≡ h.core)
merge_step pass r other s done items views h at two at' =
    let both : PassView = with_token (Takes r) (Sends s) in
    let vs : List PassView = set views pass both in
    let mine = h.fits pass (Takes r) at in
    let was : get_elem? views other ≡ some (Sends s) = ⊎_elim (λ (x : (other ≡ pass) × (both ≡ Sends s)). absurd (two x.0)) (λ (x : (other ≢ pass) × (get_elem? views other ≡ some (Sends s))). x.1) (at_set views pass other both (Sends s) at') in
    let theirs = h.fits other (Sends s) was in
    let F : ℕ → PassView → Type 0 = Fits h.layout h.core in
    let token : Stands h.core s = (sym theirs.3 ∙ done, theirs.2) in (
      record {
        core = h.core;
        layout = h.layout;
        waits = h.waits;
        lawful = h.lawful;
        emitted = h.emitted;
        fits = each_set F vs other Spent tt (λ j u _ e. each_set F views pass both (mine.0, mine.1, mine.2, All-push (Stands h.core) r.tokens s mine.3 token, mine.4) (λ i y _ q. h.fits i y q) j u e);
      },
      refl,
    )

pub merges : (pass : ℕ) (r : ReceiverPass) (other : ℕ) (s : SenderPass) → s.ended ≡ true → Merges Session pass (Takes r) other (Sends s) (with_token (Takes r) (Sends s)) Spent
merges pass r other s done items views h at two at' = (merge_step pass r other s done items views h at two at').0

-- what the receiver learns of the whole
pub learns : (pass : ℕ) (r : ReceiverPass) → Learns Session pass (Takes r) (Concludes (Takes r))
learns pass r items views h at =
    let mine = h.fits pass (Takes r) at in
    (h.core, subst (λ n. IsCore n h.core) (sym mine.1) h.lawful, h.waits, sym mine.2, mine.3)

pub learns_nothing : (pass : ℕ) (v : PassView) → Learns Session pass v (λ items. ⊤)
learns_nothing pass v items views h at = tt

pub pushes_own : (n pass : ℕ) (v : PassView) (x : Item) → MayPush v x → Pushes Session n pass v x (λ w. w ≡ pushed v x)
pushes_own n pass (Sends s) x may = pushes n pass s x may.0 may.1
pushes_own n pass (Takes r) x may = absurd may
pushes_own n pass Spent x may = absurd may

pub pops_own : (pass : ℕ) (v : PassView) → IsReader v → PopsUnder Session pass v (Pops v)
pops_own pass (Takes r) may = pops pass r
pops_own pass (Sends s) may = absurd may
pops_own pass Spent may = absurd may

pub forks_own : (pass : ℕ) (v : PassView) → IsReader v → Forks Session pass v (with_worker v) (next_sender v)
forks_own pass (Takes r) may = forks pass r
forks_own pass (Sends s) may = absurd may
forks_own pass Spent may = absurd may

pub bits_own : (b pass : ℕ) (v : PassView) → IsFirst v → Forks Session pass v (with_bit b v) Spent
bits_own b pass (Takes r) none = bits b pass r none
bits_own b pass (Sends s) none = absurd none
bits_own b pass Spent none = absurd none

pub merges_own : (pass : ℕ) (v : PassView) (other : ℕ) (w : PassView) → MayTakeIn v w → Merges Session pass v other w (with_token v w) Spent
merges_own pass (Takes r) other (Sends s) may = merges pass r other s may
merges_own pass (Takes r) other (Takes q) may = absurd may
merges_own pass (Takes r) other Spent may = absurd may
merges_own pass (Sends s) other w may = absurd may
merges_own pass Spent other w may = absurd may

pub learns_own : (pass : ℕ) (v : PassView) → IsReader v → Learns Session pass v (Concludes v)
learns_own pass (Takes r) may = learns pass r
learns_own pass (Sends s) may = absurd may
learns_own pass Spent may = absurd may

pub may_take_in : (v w : PassView) (k n : ℕ) (taken : List Item) (tokens : List SenderPass) (j worker : ℕ) (sent : List Event) → v ≡ pass_of_receiver k n taken tokens → w ≡ pass_of_sender j worker sent true → MayTakeIn v w
may_take_in v w k n taken tokens j worker sent e f = subst (λ (y : PassView × PassView). MayTakeIn y.0 y.1) (λ i. (sym e i, sym f i)) refl

pub holds_states : HoldsStates Session
holds_states items views = ((λ h. (h.core, (h, refl))), λ h. h.1.0)

pub push_is_step : PushIsStep (λ v x w. w ≡ pushed v x)
push_is_step c items views pass (Sends s) x h at may =
    let t = push_step pass s x may.0 may.1 items views h.0 at in (pushed (Sends s) x, (refl, λ u e. e), (t.0, t.1 ∙ ap (push x) h.1))
push_is_step c items views pass (Takes r) x h at may = absurd may
push_is_step c items views pass Spent x h at may = absurd may

pub take_is_step : TakeIsStep Pops
take_is_step c x items views pass (Takes r) h at may =
    let t = take_step pass r x items views h.0 at in
    (popped (Takes r) x, ((refl, may_take pass r x items views h.0 at), λ u e. e.0), (t.0, t.1 ∙ ap (take_first x items) h.1))
take_is_step c x items views pass (Sends s) h at may = absurd may
take_is_step c x items views pass Spent h at may = absurd may

pub split_is_none : SplitIsNone with_worker next_sender
split_is_none c items views pass (Takes r) h at may = let t = fork_step pass r items views h.0 at in (t.0, t.1 ∙ h.1)
split_is_none c items views pass (Sends s) h at may = absurd may
split_is_none c items views pass Spent h at may = absurd may

pub bit_is_none : (bit : ℕ) → BitIsNone (with_bit bit) (λ v. Spent)
bit_is_none bit c items views pass (Takes r) h at may = let t = bit_step bit pass r may items views h.0 at in (t.0, t.1 ∙ h.1)
bit_is_none bit c items views pass (Sends s) h at may = absurd may
bit_is_none bit c items views pass Spent h at may = absurd may

pub join_is_none : JoinIsNone with_token Spent
join_is_none c items views pass (Takes r) other (Sends s) h at two at' may = let t = merge_step pass r other s may items views h.0 at two at' in (t.0, t.1 ∙ h.1)
join_is_none c items views pass (Takes r) other (Takes q) h at two at' may = absurd may
join_is_none c items views pass (Takes r) other Spent h at two at' may = absurd may
join_is_none c items views pass (Sends s) other w h at two at' may = absurd may
join_is_none c items views pass Spent other w h at two at' may = absurd may

set_same : (views : List PassView) (pass : ℕ) (v : PassView) → get_elem? views pass ≡ some v → set views pass v ≡ views
set_same [] pass v at = absurd (some-ne-none v (sym at))
set_same (u ∷ us) zero v at = ap (λ x. x ∷ us) (sym (some-injective u v at))
set_same (u ∷ us) (suc pass) v at = ap (λ l. u ∷ l) (set_same us pass v at)

pub full_is_none : FullIsNone
full_is_none c items views pass v h at = subst (IsStateOf c items) (sym (set_same views pass v at)) h

pub empty_is_none : EmptyIsNone
empty_is_none c views pass v h at = subst (IsStateOf c []) (sym (set_same views pass v at)) h

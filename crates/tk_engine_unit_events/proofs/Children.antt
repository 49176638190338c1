-- A unit that registers a child below its innermost running key, then starts or skips it.
use Rattle.std.proofs.Common.{◌≡◌, ◌||◌, ℕ, true}
use Rattle.std.proofs.Common.{false, List, [], ◌∷◌, ◌++◌, Some, None}
use Rattle.std.proofs.Common.{refl, sym, ap, ◌∙◌, subst}
use Rattle.std.specs.Prelude.{Ok, bytes_eq}
use Rattle.std.proofs.lemmas.Bool.{or_left, or_right}
use Rattle.std.proofs.lemmas.List.Elements.{All-cons, All-head}
use Rattle.std.proofs.lemmas.Slice.Eq.{bytes_eq-Decides}
use Rattle.tk_ids.specs.IdText.{SegmentView, id_text}
use Rattle.tk_ids.specs.declared.descriptors.Descriptor.{Descriptor}
use Rattle.tk_ids.specs.Table.{HasId as TableHasId}
use Rattle.tk_events.specs.declared.events.Event.{Event}
use Rattle.tk_events.specs.declared.kinds.Kind.TheVariants.{Skipped, Started}
use Rattle.tk_record.specs.Entries.{desc}
use Rattle.tk_queue_session.specs.Registering.{IsRegisteredAs, RegisterRequest, child_of}
use Rattle.tk_queue_session.specs.Registering.{registration}
use Rattle.tk_queue_session.specs.Senders.{SenderView, record_of_sender, sends}
use Rattle.tk_query_lifecycle.specs.Lifecycle.{HasId}
use Rattle.tk_engine_lifecycle.specs.Units.{Frame}
use Rattle.tk_engine_lifecycle.specs.UnderWay.{so_far}
use Rattle.tk_engine_lifecycle.proofs.ByKey.{one_id}
use Rattle.tk_engine_lifecycle.proofs.UnitProgress.{kept_id}
use Rattle.tk_engine_unit_events.specs.Emitting.{IsEmitting, since}
use Rattle.tk_ids.specs.IdText.{IsBelow}
use Rattle.tk_engine_unit_events.specs.Events.{HaveIds, IsNesting, IsRunning, progress}
use Rattle.tk_engine_unit_events.specs.RegisteredIds.{is_registered}
use Rattle.tk_engine_unit_events.specs.declared.running_keys.RunningKey.{RunningKey}
use Rattle.tk_engine_unit_events.specs.Running.{RunningId, keys_of, with_id, with_ids}
use Rattle.tk_engine_unit_events.specs.Shapes.{ShapeView, frame}
use Rattle.tk_engine_unit_events.proofs.KeySpans.{Adds, IsNext}
use Rattle.tk_engine_unit_events.proofs.KeySpans.{nesting_plain, nesting_start}
use Rattle.tk_engine_unit_events.proofs.KeySpans.{within_all}
use Rattle.tk_engine_unit_events.proofs.Owned.{owner_child}
use Rattle.tk_engine_unit_events.proofs.Emitted.{Registered, Registering}
use Rattle.tk_engine_unit_events.proofs.Emitted.{emitted_registration}
use Rattle.tk_engine_unit_events.proofs.Emitted.{registered_skip, registered_start}
use Rattle.tk_engine_unit_events.proofs.Emitted.{sender_later, sender_now}
use Rattle.tk_engine_unit_events.proofs.UnitStates.{adds, dynamic_is_not, innermost_is, later_ids}
use Rattle.tk_engine_unit_events.proofs.UnitStates.{nests_more, same_more, skip_is_not}

-- a unit after it registered a descriptor below the innermost running key
pub record HasRegistered (f : Frame) (unit : ℕ) (start now : SenderView) (running : List RunningId)
    (registered : List (List ℕ)) (next key : ℕ) (id : List SegmentView) : Type 0 where
  pub registration : Registered f unit start now (progress running registered next) key
  pub ids : HaveIds now running
  pub own : HasId (record_of_sender now) key id
  pub nesting : IsNesting (so_far f start.worker registration.emitting.events)
      registration.emitting.events running
  pub there : HasId (so_far f start.worker registration.emitting.events) key id
  pub next_is : IsNext running id

pub first_id : (s : SenderView) (first : RunningId) (rest running : List RunningId)
    → running ≡ first ∷ rest → HaveIds s running → HasId (record_of_sender s) first.key first.id
first_id s first rest running is h = All-head (λ k. HasId (record_of_sender s) k.key k.id) first
    rest (subst (HaveIds s) is h)

noted_more : (registered noted : List (List ℕ)) (own : List ℕ)
    → ((text : List ℕ) → is_registered noted text ≡
    (bytes_eq text own || is_registered registered text))
    → (text : List ℕ) → is_registered registered text ≡ true → is_registered noted text ≡ true
noted_more registered noted own all text h = all text ∙ ap (λ b. bytes_eq text own || b) h
    ∙ or_right (bytes_eq text own) true refl

noted_own : (registered noted : List (List ℕ)) (own : List ℕ)
    → ((text : List ℕ) → is_registered noted text ≡
    (bytes_eq text own || is_registered registered text))
    → is_registered noted own ≡ true
noted_own registered noted own all = all own
    ∙ or_left (bytes_eq own own) (is_registered registered own) ((bytes_eq-Decides own own).1 refl)

pub ran_registration : (s : ShapeView) (unit : ℕ) (start old now : SenderView)
    (running rest : List RunningId) (registered noted : List (List ℕ)) (next key : ℕ)
    (first : RunningId) (id : List SegmentView) (ask : RegisterRequest)
    → IsRunning (frame s) unit start old running registered next → running ≡ first ∷ rest
    → IsRegisteredAs old now ask (Ok key)
    → ask.parent ≡ first.key → id ≡ first.id ++ ask.segment ∷ []
    → ¬ TableHasId s.plan.table id → is_registered registered (id_text id) ≡ false
    → ((text : List ℕ) → is_registered noted text ≡
    (bytes_eq text (id_text id) || is_registered registered text))
    → HasRegistered (frame s) unit start now running noted next key id
ran_registration s unit start old now running rest registered noted next key first id ask r is a
    parent made static fresh all =
    let i = r.emitting in
    let f = frame s in
    let above : Descriptor = a.0 in
    let d = child_of ask above in
    let e = registration old ask.stamp d in
    let its = first_id old first rest running is r.ids in
    let there : HasId (record_of_sender old) first.key above.id =
    record {
      descriptor = above;
      described = subst (λ k. desc (record_of_sender old) k ≡ Some above) parent a.1;
      id_is = refl;
    } in
    let same : above.id ≡ first.id = one_id (record_of_sender old) first.key above.id first.id there
    its in
    let id_is : d.id ≡ id = ap (λ x. x ++ ask.segment ∷ []) same ∙ sym made in
    let now_is : now ≡ sends old e = a.5 in
    let key_is : key ≡ e.key = a.4 in
    let g : Registering f unit start old (progress running registered next) i e d = record {
      kind = refl;
      payload = refl;
      free = subst (λ k. desc (record_of_sender old) k ≡ None) key_is a.6;
      above = first.key;
      runs = innermost_is running rest first is;
      id = above.id;
      above_is = there;
      segment = ask.segment;
      child = refl;
      not_static = subst (λ x. ¬ TableHasId s.plan.table x) (sym id_is) static;
      not_registered = subst (λ x. is_registered registered (id_text x) ≡ false) (sym id_is) fresh;
      owner = owner_child s.plan.table s.owners (frame s).units above.id ask.segment
          (subst (λ x. ¬ TableHasId s.plan.table x) (sym id_is) static);
    } in
    let done = emitted_registration f unit start old (progress running registered next) e d i g
    (is_registered noted) (noted_more registered noted (id_text id) all)
    (subst (λ x. is_registered noted (id_text x) ≡ true) (sym id_is)
    (noted_own registered noted (id_text id) all)) in
    let l = i.events in
    let w = start.worker in
    let own : HasId (record_of_sender (sends old e)) e.key d.id = sender_now old e d refl refl
    (subst (λ k. desc (record_of_sender old) k ≡ None) key_is a.6) in
    let b = done.may_begin in
    let here : HasId (so_far f w done.emitting.events) e.key d.id
    = subst (HasId (so_far f w done.emitting.events) e.key)
    (one_id (record_of_sender (sends old e)) e.key b.id d.id
    (done.emitting.known e.key b.id b.its) own) b.its in
    let below : IsBelow first.id d.id = (ask.segment, [], ap (λ x. x ++ ask.segment ∷ []) same) in
    let next_is : IsNext running d.id = subst (λ m. IsNext m d.id) (sym is) below in
    let more : Adds (so_far f w l) (so_far f w (l ++ e ∷ [])) running e d.id = record {
      later = kept_id f w l e;
      named = subst (λ m. HasId (so_far f w m) e.key d.id)
          (sym (same_more f unit start old (progress running registered next)
          (progress running noted next) e i done.emitting)) here;
      within = within_all running d.id r.nesting.chain next_is;
    } in
    let at : HasRegistered f unit start (sends old e) running noted next e.key d.id = record {
      registration = done;
      ids = later_ids old e running r.ids;
      own = own;
      nesting = nests_more f unit start old (progress running registered next)
          (progress running noted next) e running i done.emitting
          (nesting_plain (so_far f w l) (so_far f w (l ++ e ∷ [])) l e running d.id r.nesting more
          (dynamic_is_not e.kind refl));
      there = here;
      next_is = next_is;
    } in
    subst (λ x. HasRegistered f unit start now running noted next key x) id_is
    (subst (λ k. HasRegistered f unit start now running noted next k d.id) (sym key_is)
    (subst (λ v. HasRegistered f unit start v running noted next e.key d.id) (sym now_is) at))

-- what was registered and didn't begin
pub ran_registered : (f : Frame) (unit : ℕ) (start now : SenderView) (running : List RunningId)
    (registered : List (List ℕ)) (next key : ℕ) (id : List SegmentView)
    → HasRegistered f unit start now running registered next key id
    → IsRunning f unit start now running registered next
ran_registered f unit start now running registered next key id h =
    record { emitting = h.registration.emitting; ids = h.ids; nesting = h.nesting }

-- what was registered starts
pub ran_child : (f : Frame) (unit : ℕ) (start old now : SenderView)
    (running pushed : List RunningId) (registered : List (List ℕ)) (next key : ℕ)
    (id : List SegmentView) (e : Event)
    → now ≡ sends old e → pushed ≡ record { key = key; id = id } ∷ running → e.kind ≡ Started
    → e.key ≡ key
    → HasRegistered f unit start old running registered next key id
    → IsRunning f unit start now pushed registered next
ran_child f unit start old now running pushed registered next key id e sent push kind own h =
    let i = h.registration.emitting in
    let l = i.events in
    let w = start.worker in
    let p = progress running registered next in
    let j : IsEmitting f unit (since start (sends old e))
    (progress (record { key = key; id = id } ∷ running) registered next)
    = subst (λ k. IsEmitting f unit (since start (sends old e))
    (record {
      running = k ∷ keys_of running;
      registered = is_registered registered;
      next = next;
    })) own
    (registered_start f unit start old p e
    (subst (Registered f unit start old p) (sym own) h.registration) kind) in
    let started : IsRunning f unit start (sends old e)
    (record { key = key; id = id } ∷ running) registered next = record {
      emitting = j;
      ids = All-cons (λ k. HasId (record_of_sender (sends old e)) k.key k.id)
          (record { key = key; id = id }) running (sender_later old e key id h.own)
          (later_ids old e running h.ids);
      nesting = nests_more f unit start old p
          (progress (record { key = key; id = id } ∷ running) registered next) e
          (record { key = key; id = id } ∷ running) i j
          (nesting_start (so_far f w l) (so_far f w (l ++ e ∷ [])) l e running key id h.nesting
          (adds f w l e running key id h.there own
          (within_all running id h.nesting.chain h.next_is)) own h.next_is);
    } in
    subst (λ s. IsRunning f unit start s pushed registered next) (sym sent)
    (subst (λ m. IsRunning f unit start (sends old e) m registered next) (sym push) started)

-- what was registered is skipped
pub ran_child_skip : (f : Frame) (unit : ℕ) (start old now : SenderView) (running : List RunningId)
    (registered : List (List ℕ)) (next key : ℕ) (id : List SegmentView) (e : Event)
    → now ≡ sends old e → e.kind ≡ Skipped → e.key ≡ key
    → HasRegistered f unit start old running registered next key id
    → IsRunning f unit start now running registered next
ran_child_skip f unit start old now running registered next key id e sent kind own h =
    let i = h.registration.emitting in
    let l = i.events in
    let w = start.worker in
    let p = progress running registered next in
    let j = registered_skip f unit start old p e
    (subst (Registered f unit start old p) (sym own) h.registration) kind in
    let skips : IsRunning f unit start (sends old e) running registered next = record {
      emitting = j;
      ids = later_ids old e running h.ids;
      nesting = nests_more f unit start old p p e running i j
          (nesting_plain (so_far f w l) (so_far f w (l ++ e ∷ [])) l e running id h.nesting
          (adds f w l e running key id h.there own
          (within_all running id h.nesting.chain h.next_is)) (skip_is_not e.kind kind));
    } in
    subst (λ s. IsRunning f unit start s running registered next) (sym sent) skips

-- a unit after the registration of a child
pub registered_child : (s : ShapeView) (f : Frame) (unit : ℕ) (start old now : SenderView)
    (running rest : List RunningId) (registered noted : List (List ℕ)) (next key : ℕ)
    (first : RunningId) (id : List SegmentView) (ask : RegisterRequest) → frame s ≡ f
    → IsRunning f unit start old running registered next → running ≡ first ∷ rest
    → IsRegisteredAs old now ask (Ok key)
    → ask.parent ≡ first.key → id ≡ first.id ++ ask.segment ∷ []
    → ¬ TableHasId s.plan.table id → is_registered registered (id_text id) ≡ false
    → ((text : List ℕ) → is_registered noted text ≡
    (bytes_eq text (id_text id) || is_registered registered text))
    → HasRegistered f unit start now running noted next key id
registered_child s f unit start old now running rest registered noted next key first id ask same r
    is a parent made static fresh all =
    subst (λ g. HasRegistered g unit start now running noted next key id) same
    (ran_registration s unit start old now running rest registered noted next key first id ask
    (subst (λ g. IsRunning g unit start old running registered next) (sym same) r) is a parent
    made static fresh all)

-- where the innermost running key is this one
pub registered_below : (s : ShapeView) (f : Frame) (unit : ℕ) (start old now : SenderView)
    (running rest : List RunningKey) (registered noted : List (List ℕ)) (next key : ℕ)
    (first : RunningKey) (id : List SegmentView) (ask : RegisterRequest) → frame s ≡ f
    → IsRunning f unit start old (with_ids f.table running) registered next → running ≡ first ∷ rest
    → IsRegisteredAs old now ask (Ok key)
    → ask.parent ≡ first.key → id ≡ (with_id s.plan.table first).id ++ ask.segment ∷ []
    → ¬ TableHasId s.plan.table id → is_registered registered (id_text id) ≡ false
    → ((text : List ℕ) → is_registered noted text ≡
    (bytes_eq text (id_text id) || is_registered registered text))
    → HasRegistered f unit start now (with_ids f.table running) noted next key id
registered_below s f unit start old now running rest registered noted next key first id ask same r
    is a parent made static fresh all =
    registered_child s f unit start old now (with_ids f.table running)
    (with_ids f.table rest) registered noted next key (with_id f.table first) id ask same r
    (ap (with_ids f.table) is) a parent
    (subst (λ (g : Frame). id ≡ (with_id g.table first).id ++ ask.segment ∷ []) same made) static
    fresh all

use Rattle.std.proofs.Common.{◌≡◌, ℕ, ◌∷◌, ◌++◌, List, [], None, Some, length, length-append, ap, sym, refl, ◌∙◌, arith, rules, append_assoc, append-nil}
use Rattle.std.specs.Prelude.{Option}
use Rattle.std.specs.Option.{option_or}
use Rattle.std.specs.Vec.Iter.{into_iter_items}
use Rattle.tk_base.proofs.Lists.{nil_from_length}
use Rattle.tk_engine_execute.specs.declared.engines.UnitFault.{UnitFault}
use Rattle.tk_engine_execute.specs.declared.workers.WorkerEnd.{WorkerEnd}
use Rattle.tk_engine_execute.specs.steps.WorkerParts.{tokens_in, seats_in, first_failure}
use Rattle.tk_engine_execute.proofs.workers.parts.WorkerParts.with_all.Goals as goal

or_assoc : (a b c : Option (ℕ × UnitFault)) → option_or (option_or a b) c ≡ option_or a (option_or b c)
or_assoc None b c = refl
or_assoc (Some x) b c = refl

or_none : (a : Option (ℕ × UnitFault)) → option_or a None ≡ a
or_none None = refl
or_none (Some x) = refl

pub loop-worker_end-init : goal.loop-worker_end-init
loop-worker_end-init c =
    let all = c.into_iter-worker_end-iterator.ensures.into_iter_gives.0 in
    let room = c.requires.token_room in
    let seat_room = c.requires.seat_room in
    let token_len = c.args.self.tokens.ok.0 in
    let seat_len = c.args.self.seats.ok.0 in
    let no_tokens = ap (λ l. length l) c.requires.tokens in
    let no_seats = ap (λ l. length l) c.requires.seats in
    let long = ap (λ (l : List WorkerEnd). length l) all in record {
      tokens = rw (c.requires.tokens, all) refl;
      seats = rw (c.requires.seats, all) refl;
      failure = rw (c.requires.failure, all) refl;
      token_room = omega (arith, room, token_len, no_tokens, long);
      seat_room = omega (arith, seat_room, seat_len, no_seats, long);
    }

pub loop-worker_end-preserved : goal.loop-worker_end-preserved
loop-worker_end-preserved c =
    let was = c.loop-worker_end.invariant in
    let old = c.loop-worker_end.parts in
    let o = c.in-Some.worker_end in
    let rest = into_iter_items c.next.new.self in
    let first = c.in-Some.ensures.steps.0 in
    let added = c.add.ensures in
    let long = ap (λ (l : List WorkerEnd). length l) first in
    let token_room = was.token_room in
    let seat_room = was.seat_room in
    let token_capacity = added.token_capacity in
    let seat_capacity = added.seat_capacity in
    let tokens = ap (λ l. length l) added.tokens ∙ length-append old.tokens.items (o.ended ∷ []) in
    let seats = ap (λ l. length l) added.seats ∙ length-append old.seats.items (o.claim_seat ∷ []) in
    let new = c.add.new.self in record {
      tokens = ap (λ l. l ++ tokens_in rest) added.tokens ∙ append_assoc old.tokens.items (o.ended ∷ []) (tokens_in rest) ∙ ap (λ l. old.tokens.items ++ tokens_in l) (sym first) ∙ was.tokens;
      seats = ap (λ l. l ++ seats_in rest) added.seats ∙ append_assoc old.seats.items (o.claim_seat ∷ []) (seats_in rest) ∙ ap (λ l. old.seats.items ++ seats_in l) (sym first) ∙ was.seats;
      failure = ap (λ f. option_or f (first_failure rest)) added.failure ∙ or_assoc old.failure o.failure (first_failure rest) ∙ ap (λ l. option_or old.failure (first_failure l)) (sym first) ∙ was.failure;
      token_room = omega (arith, long, token_room, token_capacity, tokens, old.tokens.ok.0, new.tokens.ok.0);
      seat_room = omega (arith, long, seat_room, seat_capacity, seats, old.seats.ok.0, new.seats.ok.0);
    }

pub add-requires-clause-token_room : goal.add-requires-clause-token_room
add-requires-clause-token_room c =
    let room = c.loop-worker_end.invariant.token_room in
    let long = ap (λ (l : List WorkerEnd). length l) c.in-Some.ensures.steps.0 in
    omega (arith, room, long)

pub add-requires-clause-seat_room : goal.add-requires-clause-seat_room
add-requires-clause-seat_room c =
    let room = c.loop-worker_end.invariant.seat_room in
    let long = ap (λ (l : List WorkerEnd). length l) c.in-Some.ensures.steps.0 in
    omega (arith, room, long)

pub returns : goal.returns
returns c =
    let steps = c.in-None.ensures.steps in
    let len : length (into_iter_items c.loop-worker_end.worker_end-iterator) ≡ 0 = search rules in
    let rest : into_iter_items c.loop-worker_end.worker_end-iterator ≡ [] = nil_from_length _ len in
    let parts = c.loop-worker_end.parts in
    let was = c.loop-worker_end.invariant in record {
      tokens = sym (append-nil parts.tokens.items) ∙ ap (λ l. parts.tokens.items ++ tokens_in l) (sym rest) ∙ was.tokens;
      seats = sym (append-nil parts.seats.items) ∙ ap (λ l. parts.seats.items ++ seats_in l) (sym rest) ∙ was.seats;
      failure = sym (or_none parts.failure) ∙ ap (λ l. option_or parts.failure (first_failure l)) (sym rest) ∙ was.failure;
    }

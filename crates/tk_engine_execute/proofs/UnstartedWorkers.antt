-- The last of the workers, and the others.
use Rattle.std.proofs.Common.{◌≡◌, ℕ, zero, suc, ◌+◌, List, [], ◌∷◌, ◌++◌, length, refl, ap, sym, ◌∙◌, arith, length-append}
use Rattle.std.specs.Prelude.{vec_len}
use Rattle.atomic_table.specs.Seated.{TableId}
use Rattle.tk_ids.specs.declared.descriptors.Descriptor.{Descriptor}
use Rattle.tk_locks.specs.Books.{BookSeatView, empty}
use Rattle.tk_claims.specs.Claims.{ClaimSeatView, fresh}
use Rattle.tk_queue_session.specs.Senders.{SenderView, fresh_senders}
use Rattle.tk_engine_execute.specs.declared.workers.unstarted.UnstartedWorkers.{UnstartedWorkers}
use Rattle.tk_engine_execute.specs.declared.workers.WorkerHandles.{WorkerHandles}
use Rattle.tk_engine_execute.specs.steps.Workers.{SharedParts, IsReady, AreUnstarted, IsLastWorker}
use Rattle.tk_engine_execute.proofs.Positions.{all_prefix, all_last, same_last}

-- two lists are as long without their last
shorter : {X : Type 0} {Y : Type 0} (all rest : List X) (x : X) (alls rests : List Y) (y : Y) → all ≡ rest ++ x ∷ [] → alls ≡ rests ++ y ∷ []
    → length alls ≡ length all → length rests ≡ length rest
shorter all rest x alls rests y cut cuts same =
    let e = ap (λ l. length l) cut in let es = ap (λ l. length l) cuts in omega (arith, length-append rest (x ∷ []), length-append rests (y ∷ []))

-- the senders before the last, and the last
senders_cut : (session : TableId) (table : List Descriptor) (all rest : List SenderView) (s : SenderView) → all ≡ rest ++ s ∷ [] → all ≡ fresh_senders session table (length all)
    → (rest ≡ fresh_senders session table (length rest)) × (s ≡ record { session = session; table = table; worker = length rest + 1; sent = [] })
senders_cut session table all rest s cut fresh =
    let n : length all ≡ suc (length rest) = (let e = ap (λ l. length l) cut in omega (arith, length-append rest (s ∷ []))) in
    let whole : rest ++ s ∷ [] ≡ fresh_senders session table (length rest) ++ record { session = session; table = table; worker = suc (length rest); sent = [] } ∷ [] = sym cut ∙ fresh ∙ ap (fresh_senders session table) n in
    let h = same_last rest (fresh_senders session table (length rest)) s (record { session = session; table = table; worker = suc (length rest); sent = [] }) whole in
    let one : suc (length rest) ≡ length rest + 1 = omega arith in
    (h.0, h.1 ∙ ap (λ w. record { session = session; table = table; worker = w; sent = [] }) one)

module _ (session : TableId) (shared : SharedParts) (all rest : UnstartedWorkers) (h : WorkerHandles) (cut : IsLastWorker all rest h) (c : AreUnstarted session shared all) where
  pub unstarted_rest : AreUnstarted session shared rest
  unstarted_rest = record {
    senders = (senders_cut session shared.table all.senders.items rest.senders.items h.sender cut.sender c.senders).0;
    as_many_claim_seats = shorter _ _ _ _ _ _ cut.sender cut.claim_seat c.as_many_claim_seats;
    as_many_book_seats = shorter _ _ _ _ _ _ cut.sender cut.book_seat c.as_many_book_seats;
    claim_seats = all_prefix (λ s. s ≡ fresh shared.claim) rest.claim_seats.items h.claim_seat (rw cut.claim_seat at c.claim_seats);
    book_seats = all_prefix (λ s. s ≡ empty shared.book) rest.book_seats.items h.book_seat (rw cut.book_seat at c.book_seats);
  }

  pub unstarted_sender : h.sender ≡ record { session = session; table = shared.table; worker = length rest.senders.items + 1; sent = [] }
  unstarted_sender = (senders_cut session shared.table all.senders.items rest.senders.items h.sender cut.sender c.senders).1

  pub unstarted_ready : IsReady shared h
  unstarted_ready =
      let k : h.claim_seat ≡ fresh shared.claim = all_last (λ s. s ≡ fresh shared.claim) rest.claim_seats.items h.claim_seat (rw cut.claim_seat at c.claim_seats) in
      let b : h.book_seat ≡ empty shared.book = all_last (λ s. s ≡ empty shared.book) rest.book_seats.items h.book_seat (rw cut.book_seat at c.book_seats) in
      record {
        table_is = ap (λ (x : SenderView). x.table) unstarted_sender;
        sent = ap (λ (x : SenderView). x.sent) unstarted_sender;
        claim_is = ap (λ (x : ClaimSeatView). x.claim) k;
        numbers = ap (λ (x : ClaimSeatView). x.numbers) k;
        book_is = ap (λ (x : BookSeatView). x.book) b;
        holds = ap (λ (x : BookSeatView). x.holds) b;
      }

-- there is one worker fewer
pub one_fewer : (all rest : UnstartedWorkers) (h : WorkerHandles) → IsLastWorker all rest h → vec_len all.senders ≡ vec_len rest.senders + 1
one_fewer all rest h cut = let long = ap (λ l. length l) cut.sender in omega (arith, all.senders.ok.0, rest.senders.ok.0, long, length-append rest.senders.items (h.sender ∷ []))

pub length-fresh : (session : TableId) (table : List Descriptor) (n : ℕ) → length (fresh_senders session table n) ≡ n
length-fresh session table zero = refl
length-fresh session table (suc n) = let h = length-fresh session table n in omega (arith, length-append (fresh_senders session table n) (record { session = session; table = table; worker = suc n; sent = [] } ∷ []))

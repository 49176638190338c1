use Rattle.std.proofs.Common.{subst, slice_index_or, length, ◌≡◌, ◌<◌, ◌≤◌, true, false}
use Rattle.std.specs.Prelude.{bytes_eq}
use Rattle.tk_ids.proofs.LockLemmas.{IsPlace, set_is_added, insert_is_added}
use Rattle.tk_ids.specs.declared.locks.Lock.{Lock}
use Rattle.tk_ids.proofs.locks.add_to.Goals as goal

pub returns-then-has_name_at-clause-ok : goal.returns-then-has_name_at-clause-ok
returns-then-has_name_at-clause-ok c =
    let i = c.place_of-place.result in
    let yes = c.has_name_at.ensures.yes c.if-has_name_at.true in
    let place : IsPlace c.args.locks.now.items c.args.lock.name i =
    subst (λ s. IsPlace s c.args.lock.name i) c.as_slice.ensures.value (subst (λ n. IsPlace c.as_slice.result.now n i) c.as_str.ensures c.place_of-place.ensures.place) in
    let named : (d : Lock) → bytes_eq (slice_index_or c.args.locks.now.items i d).name c.args.lock.name ≡ true =
    subst (λ s. (d : Lock) → bytes_eq (slice_index_or s i d).name c.args.lock.name ≡ true) c.as_slice-2.ensures.value (subst (λ n. (d : Lock) → bytes_eq (slice_index_or c.as_slice-2.result.now i d).name n ≡ true) c.as_str-2.ensures yes.1) in
    set_is_added c.args.locks.now.items c.args.lock i c.index_mut.result.now c.index.result.now c.stronger.result (subst (λ s. i < length s) c.as_slice-2.ensures.value yes.0) place named c.index_mut.ensures.value c.index.ensures c.stronger.ensures

pub returns-in_ok-insert-clause-ok : goal.returns-in_ok-insert-clause-ok
returns-in_ok-insert-clause-ok c =
    let i = c.place_of-place.result in
    let place : IsPlace c.args.locks.now.items c.args.lock.name i =
    subst (λ s. IsPlace s c.args.lock.name i) c.as_slice.ensures.value (subst (λ n. IsPlace c.as_slice.result.now n i) c.as_str.ensures c.place_of-place.ensures.place) in
    let named : (d : Lock) → i < length c.args.locks.now.items → bytes_eq (slice_index_or c.args.locks.now.items i d).name c.args.lock.name ≡ false =
    subst (λ s. (d : Lock) → i < length s → bytes_eq (slice_index_or s i d).name c.args.lock.name ≡ false) c.as_slice-2.ensures.value (subst (λ n. (d : Lock) → i < length c.as_slice-2.result.now → bytes_eq (slice_index_or c.as_slice-2.result.now i d).name n ≡ false) c.as_str-2.ensures (c.has_name_at.ensures.no c.if-has_name_at.false)) in
    rw c.in_ok-insert.ensures.items (insert_is_added c.args.locks.now.items c.args.lock i (subst (λ s. i ≤ length s) c.as_slice.ensures.value c.place_of-place.ensures.within) place named)

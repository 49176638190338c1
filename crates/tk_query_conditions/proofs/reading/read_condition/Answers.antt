use Rattle.std.proofs.Common.{◌≡◌, length, Ok, Err, option_map, sym, ap, ◌∙◌, subst, arith}
use Rattle.tk_query_conditions.specs.declared.faults.CondFault.TheVariants.{BadAtom, Deep}
use Rattle.tk_query_conditions.specs.Answer.{IsReadAs}
use Rattle.tk_query_conditions.specs.steps.Reader.{state_of}
use Rattle.tk_query_conditions.proofs.EndLemmas.{HasRead, bad_here, bad_at_end, good_at_end}
use Rattle.tk_query_conditions.proofs.ReaderLemmas.{IsRead, read_none, read_goes, read_more, read_deep}
use Rattle.tk_query_conditions.proofs.reading.read_condition.Goals as goal

pub returns-in-None : goal.returns-in-None
returns-in-None c =
    let bytes = c.as_bytes-bytes.result.now in
    let stuck = c.in_ok-next.ensures ∙ ap (option_map state_of) c.in-None.is in
    subst (λ t. IsReadAs t (Err (BadAtom c.loop-at.at))) c.as_bytes-bytes.ensures.value (bad_here bytes c.loop-at.at _ c.loop-at.invariant.has c.loop-at-test.true stuck)

pub returns-then-depth-gt-MAX_DEPTH : goal.returns-then-depth-gt-MAX_DEPTH
returns-then-depth-gt-MAX_DEPTH c =
    let bytes = c.as_bytes-bytes.result.now in
    let goes = c.in_ok-next.ensures ∙ ap (option_map state_of) c.in-Some.is in
    subst (λ t. IsReadAs t (Err Deep)) c.as_bytes-bytes.ensures.value (read_deep bytes c.loop-at.at _ _ c.loop-at.invariant c.loop-at-test.true goes (omega arith))

pub loop-at-preserved : goal.loop-at-preserved
loop-at-preserved c =
    let goes = c.in_ok-next.ensures ∙ ap (option_map state_of) c.in-Some.is in
    read_more c.as_bytes-bytes.result.now c.loop-at.at _ _ c.loop-at.invariant c.loop-at-test.true goes (omega arith)

pub returns-in-Some-end : goal.returns-in-Some-end
returns-in-Some-end c =
    let bytes = c.as_bytes-bytes.result.now in
    let s = state_of c.loop-at.reader in
    let low = c.loop-at.invariant.has.within in
    let end : c.loop-at.at ≡ length bytes = omega arith in
    let whole : HasRead bytes (length bytes) s = subst (λ n. HasRead bytes n s) end c.loop-at.invariant.has in
    subst (λ t. IsReadAs t (Ok c.in-Some-end.condition)) c.as_bytes-bytes.ensures.value (good_at_end bytes s c.in-Some-end.condition whole c.in-Some-end.ensures)

pub returns-in-None-end : goal.returns-in-None-end
returns-in-None-end c =
    let bytes = c.as_bytes-bytes.result.now in
    let s = state_of c.loop-at.reader in
    let low = c.loop-at.invariant.has.within in
    let end : c.loop-at.at ≡ length bytes = omega arith in
    let whole : HasRead bytes (length bytes) s = subst (λ n. HasRead bytes n s) end c.loop-at.invariant.has in
    subst (λ t. IsReadAs t (Err (BadAtom (length bytes)))) c.as_bytes-bytes.ensures.value (bad_at_end bytes s whole c.in-None-end.ensures)

pub loop-at-init : goal.loop-at-init
loop-at-init c =
    let bytes = c.as_bytes-bytes.result.now in
    subst (IsRead bytes 0) (sym c.new-reader.ensures) (read_none bytes c.as_bytes-bytes.ensures.utf8)

pub feed-requires : goal.feed-requires
feed-requires c = record { text = read_goes c.as_bytes-bytes.result.now c.loop-at.at (state_of c.loop-at.reader) c.loop-at.invariant c.loop-at-test.true }

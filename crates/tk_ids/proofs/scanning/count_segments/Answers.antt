use Rattle.std.proofs.Common.{◌≡◌, ℕ, ◌+◌, ◌<◌, List, length, get_or, Some, sym, ◌∙◌, subst, arith}
use Rattle.std.proofs.lemmas.Bool.{false≢true}
use Rattle.tk_ids.specs.declared.scanning.ScanState.{ScanState}
use Rattle.tk_ids.specs.Answer.{IsBadAt}
use Rattle.tk_ids.specs.steps.Scanning.{state_after, ended_segments, HasSegments}
use Rattle.tk_ids.proofs.ScanningLemmas.{IsScanned, scan_none, scan_more, scan_plain, scan_stuck, scan_end, scan_open}
use Rattle.tk_ids.proofs.scanning.count_segments.Goals as goal

pub bytes-init : goal.bytes-init
bytes-init c = (omega arith, scan_none c.as_bytes-bytes.result.now c.as_bytes-bytes.ensures.utf8)

byte_more : (text : List ℕ) (n count : ℕ) (state next : ScanState) (ended : ℕ) → IsScanned text n state count → n < length text → state_after state (get_or text n 0) ≡ Some next → ended ≡ ended_segments next → IsScanned text (n + 1) next (count + ended)
byte_more text n count state next ended h lt e counted =
    subst (λ k. IsScanned text (n + 1) next (count + k)) (sym counted) (scan_more text n count state next h lt e)

pub returns-in_default : goal.returns-in_default
returns-in_default c =
    subst (λ text. IsBadAt text c.bytes.at) c.as_bytes-bytes.ensures.value
    (scan_stuck c.as_bytes-bytes.result.now c.bytes.at c.bytes.count c.bytes.state c.bytes.invariant.1 c.bytes-test.true (sym c.next_state.ensures ∙ c.in_default.is))

pub bytes-preserved-then-keeps_plain_bytes : goal.bytes-preserved-then-keeps_plain_bytes
bytes-preserved-then-keeps_plain_bytes c =
    let plain = c.end_of_plain_bytes-at.ensures in
    let more = byte_more c.as_bytes-bytes.result.now c.bytes.at c.bytes.count c.bytes.state c.in-Some.next c.ended_segments-count.result c.bytes.invariant.1 c.bytes-test.true (sym c.next_state.ensures ∙ c.in-Some.is) c.ended_segments-count.ensures in
    (plain.within, scan_plain c.as_bytes-bytes.result.now (c.bytes.at + 1) c.end_of_plain_bytes-at.result (c.bytes.count + c.ended_segments-count.result) c.in-Some.next more (c.keeps_plain_bytes.ensures c.if-keeps_plain_bytes.true) plain)

pub bytes-preserved : goal.bytes-preserved
bytes-preserved c =
    (omega (arith, c.bytes-test.true), byte_more c.as_bytes-bytes.result.now c.bytes.at c.bytes.count c.bytes.state c.in-Some.next c.ended_segments-count.result c.bytes.invariant.1 c.bytes-test.true (sym c.next_state.ensures ∙ c.in-Some.is) c.ended_segments-count.ensures)

pub returns-else-is_end : goal.returns-else-is_end
returns-else-is_end c =
    let bytes = c.as_bytes-bytes.result.now in
    subst (λ text. IsBadAt text (length bytes)) c.as_bytes-bytes.ensures.value
    (scan_open bytes c.bytes.at c.bytes.count c.bytes.state c.bytes.invariant.1 (omega (arith, c.as_bytes-bytes.ensures.len)) c.bytes-test.false (λ e. false≢true (sym c.if-is_end.false ∙ c.is_end.ensures.1 e)))

pub returns-then-is_end : goal.returns-then-is_end
returns-then-is_end c =
    subst (λ text. HasSegments text c.bytes.count) c.as_bytes-bytes.ensures.value
    (scan_end c.as_bytes-bytes.result.now c.bytes.at c.bytes.count c.bytes.state c.bytes.invariant.1 c.bytes-test.false (c.is_end.ensures.0 c.if-is_end.true))

use Rattle.std.proofs.Common.{◌≡◌, ◌<◌, ◌≤◌, ⊎_elim, arith, ap, sym, ◌∙◌, get_or, length}
use Rattle.std.specs.Prelude.{if◌then◌else◌}
use Rattle.std.proofs.lemmas.Bool.{cases_lt}
use Rattle.tk_record.specs.Recorded.{Recorded}
use Rattle.tk_query.specs.Ends.{is_start}
use Rattle.tk_query.proofs.AskedLemmas.{AreFlags}
use Rattle.tk_query.proofs.EndLemmas.{none_past}
use Rattle.tk_query.proofs.exclusion.never_finished.Goals as goal

pub returns-clause-ends : goal.returns-clause-ends
returns-clause-ends c = λ p.
    let asked = c.args.events.now in
    let flags = c.flags-flags.result.now in
    let are : AreFlags asked flags = record { kept = c.flags-flags.ensures.kept } in
    let past = c.loop-start-test.false in
    let len = c.len-len.ensures.value in
    let within = c.loop-start.auto.start-end in
    let record_is = ap (λ (r : Recorded). length r.entries) c.«record».ensures in
    ⊎_elim {C = get_or c.loop-start.ends.items p 0 ≡ (if is_start asked p then length asked.recorded.entries else 0)}
    (λ (lt : p < length asked.recorded.entries).
    c.loop-start.invariant.below p (omega (arith, past, len, record_is))
    ∙ ap (λ n. if is_start asked p then n else 0) (len ∙ record_is))
    (λ (le : length asked.recorded.entries ≤ p).
    c.loop-start.invariant.above p (omega (arith, within, len, record_is))
    ∙ ap (λ b. if b then length asked.recorded.entries else 0) (sym (none_past asked flags are c.flags-flags.ensures.size p le)))
    (cases_lt p (length asked.recorded.entries))

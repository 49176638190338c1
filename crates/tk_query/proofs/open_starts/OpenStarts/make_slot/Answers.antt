use Rattle.std.proofs.Common.{rules, ◌≡◌, ◌<◌, length, get_or, [], ◌∷◌, ◌++◌, None, ap, ◌∙◌}
use Rattle.std.specs.Prelude.{◌/◌, ◌%◌}
use Rattle.std.proofs.lemmas.List.{get_or_default}
use Rattle.tk_query_lifecycle.proofs.ListLemmas.{get_or_more}
use Rattle.tk_query.proofs.KeyLemmas.{on_ok_from, slot_there, slots_kept, starts_kept}
use Rattle.tk_query.proofs.open_starts.OpenStarts.make_slot.Goals as goal

pub loop-alloc-preserved : goal.loop-alloc-preserved
loop-alloc-preserved c k =
    ap (λ l. get_or l k []) (c.in_ok-push.ensures.items ∙ ap (λ row. c.loop-alloc.self-inside.rows.items ++ row ∷ []) c.new.ensures)
    ∙ get_or_more c.loop-alloc.self-inside.rows.items [] k ∙ c.loop-alloc.invariant k

pub returns : goal.returns
returns c =
    let old = c.args.self.now in
    let rows = c.loop-alloc.self-inside.rows.items in
    let at = c.args.key / 65536 in
    let within : at < length rows = search rules in
    let row : c.index_mut.result.now ≡ get_or old at [] = c.index_mut.ensures.value ∙ get_or_default rows at c.index_mut.result.now [] within ∙ c.loop-alloc.invariant at in
    let new = c.make_slot.new.self in
    record {
      slot = on_ok_from c.make_slot.result (slot_there old rows c.loop-alloc.invariant at new within (c.args.key % 65536)) c.make_slot.ensures.slot;
      kept = on_ok_from c.make_slot.result (λ long. slots_kept old rows c.loop-alloc.invariant at new within (rw (← row) long)) c.make_slot.ensures.longer;
      starts = on_ok_from c.make_slot.result (λ same. starts_kept old rows c.loop-alloc.invariant at new within (λ i. same i ∙ ap (λ l. get_or l i None) row)) c.make_slot.ensures.starts;
    }

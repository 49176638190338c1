use Rattle.std.proofs.Common.{rules, ◌≡◌, ◌<◌, [], ap, ◌∙◌, length, get_or, set, subst}
use Rattle.std.specs.Prelude.{◌/◌, ◌%◌}
use Rattle.std.proofs.lemmas.List.{get_or_default}
use Rattle.std.proofs.lemmas.Result.{on_ok_weaker}
use Rattle.tk_query_lifecycle.specs.steps.KeyStates.{by_key, padded, ArePut}
use Rattle.tk_query_lifecycle.proofs.RowLemmas.{filled_push, put_in_row}
use Rattle.tk_query_lifecycle.proofs.key_states.KeyStates.put.Goals as goal

pub loop-alloc-preserved : goal.loop-alloc-preserved
loop-alloc-preserved c = (
  search rules,
  filled_push c.self.inside.rows.items c.loop-alloc.self-inside.rows.items c.push.new.self.items c.new.result c.loop-alloc.invariant.1 c.in_ok-push.ensures.items c.new.ensures,
)

pub returns : goal.returns
returns c =
    let old = c.self.inside.rows.items in
    let rows = c.loop-alloc.self-inside.rows.items in
    let key = c.args.key in
    let within : key / 65536 < length rows = search rules in
    let row : c.index_mut.result.now ≡ get_or rows (key / 65536) [] = c.index_mut.ensures.value ∙ get_or_default rows (key / 65536) c.index_mut.result.now [] within in
    on_ok_weaker c.put.result
    (λ put. subst (λ states. ArePut states (by_key (set rows (key / 65536) c.put.new.self)) key c.args.state) c.self.view_is
    (put_in_row old rows key c.put.new.self c.args.state c.loop-alloc.invariant.1 within
    (put ∙ ap (λ l. set (padded 65536 l) (key % 65536) c.args.state) row)))
    c.put.ensures

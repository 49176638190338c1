use Rattle.std.proofs.Common.{Some, None, sym, ap, ◌∙◌, if◌then◌else◌, option_map, arith}
use Rattle.tk_query_conditions.specs.Cond.{NoPairs}
use Rattle.tk_query_conditions.specs.CondOf.{pairs_from}
use Rattle.tk_query_conditions.specs.steps.Reader.{groups_of}
use Rattle.tk_query_conditions.specs.steps.Reading.{InPairs}
use Rattle.tk_query_conditions.proofs.ReaderLemmas.{ended_part, step_made, pairs_comma, pairs_close, pairs_go}
use Rattle.tk_query_conditions.proofs.readers.feed_pairs.Goals as goal

pub into_text-requires : goal.into_text-requires
into_text-requires c = ended_part c.args.pairs.partial 44 c.args.byte (omega arith) (sym c.ends.ensures ∙ c.if-ends.true) c.requires.text

pub into_text-requires-then-ends-2 : goal.into_text-requires-then-ends-2
into_text-requires-then-ends-2 c = ended_part c.args.pairs.partial 41 c.args.byte (omega arith) (sym c.ends-else-ends.ensures ∙ c.if-ends-2.true) c.requires.text

pub returns-then-ends : goal.returns-then-ends
returns-then-ends c =
    step_made c.next_text.result _ _
    (pairs_comma (groups_of c.args.stack.items) (pairs_from NoPairs c.args.pairs.whole) c.args.pairs.key c.args.pairs.partial c.args.byte c.into_text.result (sym c.ends.ensures ∙ c.if-ends.true) c.into_text.ensures)
    c.next_text.ensures

pub returns-then-ends-2 : goal.returns-then-ends-2
returns-then-ends-2 c =
    step_made c.last_text.result _ _
    (pairs_close (groups_of c.args.stack.items) (pairs_from NoPairs c.args.pairs.whole) c.args.pairs.key c.args.pairs.partial c.args.byte c.into_text-then-ends-2.result
    (sym c.ends.ensures ∙ c.if-ends.false) (sym c.ends-else-ends.ensures ∙ c.if-ends-2.true) c.into_text-then-ends-2.ensures)
    c.last_text.ensures

pub returns-then-branch : goal.returns-then-branch
returns-then-branch c =
    let groups = groups_of c.args.stack.items in
    let pairs = pairs_from NoPairs c.args.pairs.whole in
    pairs_go groups pairs c.args.pairs.key c.args.pairs.partial c.args.byte _ (sym c.ends.ensures ∙ c.if-ends.false) (sym c.ends-else-ends.ensures ∙ c.if-ends-2.false) c.in_ok-feed.ensures
    ∙ ap (λ accepted. option_map (InPairs groups pairs c.args.pairs.key) (if accepted then Some c.feed.new.self else None)) c.if-branch.true

pub returns-else-branch : goal.returns-else-branch
returns-else-branch c =
    let groups = groups_of c.args.stack.items in
    let pairs = pairs_from NoPairs c.args.pairs.whole in
    pairs_go groups pairs c.args.pairs.key c.args.pairs.partial c.args.byte _ (sym c.ends.ensures ∙ c.if-ends.false) (sym c.ends-else-ends.ensures ∙ c.if-ends-2.false) c.in_ok-feed.ensures
    ∙ ap (λ accepted. option_map (InPairs groups pairs c.args.pairs.key) (if accepted then Some c.feed.new.self else None)) c.if-branch.false

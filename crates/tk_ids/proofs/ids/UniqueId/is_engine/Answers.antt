use Rattle.std.proofs.Common.{sym, ◌∙◌}
use Rattle.tk_ids.proofs.IdSegmentLemmas.{engine_exact}
use Rattle.tk_ids.proofs.ids.UniqueId.is_engine.Goals as goal

pub returns-then-segment_count-eq1 : goal.returns-then-segment_count-eq1
returns-then-segment_count-eq1 c =
    engine_exact c.args.self.now c.as_bytes.result.now c.starts_with.result c.as_bytes.ensures.id c.as_bytes.ensures.text (sym c.segment_count.ensures ∙ c.if-segment_count-eq1.true) c.starts_with.ensures.value

use Rattle.tk_plan_nodes.proofs.IdEscapes.{character_written}
use Rattle.tk_plan_nodes.proofs.node_ids.push_escaped.Goals as goal

pub loop-character-preserved : goal.loop-character-preserved
loop-character-preserved c =
    character_written c.in-Some.character _ _ _ _ _ c.loop-character.invariant c.in-Some.ensures.steps.0 c.in_ok-push_character.ensures

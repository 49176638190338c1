use Rattle.std.proofs.Common.{◌∷◌, ◌++◌, [], option_map, ap, sym, ◌∙◌}
use Rattle.tk_ids.specs.Table.{child_id}
use Rattle.tk_ids.proofs.tables.Table.id_below.Goals as goal

pub returns-in_ok-descriptor-in-Some : goal.returns-in_ok-descriptor-in-Some
returns-in_ok-descriptor-in-Some c =
    let segment = c.args.segment.now in (
      c.in_ok-descriptor-in-Some.descriptor.now.id ++ segment ∷ [],
      ap (λ parent. child_id c.args.self.now parent segment) c.in-Some.is ∙ sym (ap (option_map (λ d. d.id ++ segment ∷ [])) c.in_ok-descriptor-in-Some.ensures),
      c.append.ensures,
    )

pub returns-in-None : goal.returns-in-None
returns-in-None c = (c.args.segment.now ∷ [], ap (λ parent. child_id c.args.self.now parent c.args.segment.now) c.in-None.is, c.of.ensures)

use Rattle.std.proofs.Common.{List, ◌++◌, ◌∷◌, [], length, sym, ap, ◌∙◌, subst, arith, append_assoc}
use Rattle.std.proofs.Common.{length-append}
use Rattle.tk_ids.specs.declared.descriptors.Descriptor.{Descriptor}
use Rattle.tk_plan_reading.specs.steps.{Follow}
use Rattle.tk_plan_reading.proofs.plan_reading.table_of.Goals as goal

pub append-requires : goal.append-requires
append-requires c =
    let table : List Descriptor = c.loop-descriptor.table in
    let left : List Descriptor = c.loop-descriptor.descriptor-iterator.rest.items in
    let follow = subst (Follow table) c.in-Some.ensures.steps.0 c.loop-descriptor.invariant.1 in
    record {
      parent = follow.0;
      absent = follow.1;
      room = omega (arith, length-append table left, ap length c.loop-descriptor.invariant.0, ap length c.in-Some.ensures.steps.0, c.requires.few);
    }

pub loop-descriptor-preserved : goal.loop-descriptor-preserved
loop-descriptor-preserved c =
    let table : List Descriptor = c.loop-descriptor.table in
    let steps = c.in-Some.ensures.steps.0 in
    let added = c.in_ok-append.ensures.ok in
    let left : List Descriptor = c.next.new.self.rest.items in
    let follow = subst (Follow table) steps c.loop-descriptor.invariant.1 in (
      ap (λ t. t ++ left) added ∙ append_assoc table (c.in-Some.descriptor ∷ []) left ∙ ap (λ l. table ++ l) (sym steps) ∙ c.loop-descriptor.invariant.0,
      subst (λ t. Follow t left) (sym added) follow.2,
    )

use Rattle.std.proofs.Common.{false}
use Rattle.tk_record.proofs.PickedEntries.{if_ok_then}
use Rattle.tk_query.specs.declared.rules.Rule.TheVariants.{Column, Payload, Descriptor, Members}
use Rattle.tk_query.proofs.MaskLemmas.{mask_first, rule_mask_same}
use Rattle.tk_query.proofs.masks.rule_mask.Goals as goal

pub returns-in-Column : goal.returns-in-Column
returns-in-Column c = rule_mask_same c.args.«record».now c.args.rule (Column c.in-Column.test) c.flags.result c.in-Column.is c.flags.ensures

pub returns-in-Payload : goal.returns-in-Payload
returns-in-Payload c = rule_mask_same c.args.«record».now c.args.rule (Payload c.in-Payload.test c.in-Payload.payload_test) c.payload_mask.result c.in-Payload.is c.payload_mask.ensures

pub returns-in-Descriptor : goal.returns-in-Descriptor
returns-in-Descriptor c = rule_mask_same c.args.«record».now c.args.rule (Descriptor c.in-Descriptor.test) c.key_mask.result c.in-Descriptor.is c.key_mask.ensures

pub returns-in-Members : goal.returns-in-Members
returns-in-Members c =
    let r = c.args.«record».now in
    rule_mask_same r c.args.rule Members c.none.result c.in-Members.is
    (if_ok_then c.none.result _ _ (λ flags clear. mask_first false c.len.result r.entries flags clear c.len.ensures.value) c.none.ensures)

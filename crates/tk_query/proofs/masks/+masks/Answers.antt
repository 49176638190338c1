use Rattle.std.proofs.Common.{true, false, not, map, sym, ap, ◌∙◌}
use Rattle.std.specs.List.{list_all, list_any}
use Rattle.std.proofs.lemmas.Result.{err_from_is_err_and}
use Rattle.tk_record.proofs.PickedEntries.{if_ok_same}
use Rattle.tk_query.specs.Holds.{holds}
use Rattle.tk_query.specs.steps.Rules.{rule_holds}
use Rattle.tk_query.proofs.AskedLemmas.{map_same}
use Rattle.tk_query.proofs.HoldsLemmas.{holds-All, holds-Any}
use Rattle.tk_query.proofs.MaskLemmas.{same_length, all_of_first, any_of_first, mask_first, all_more, any_more, all_done, any_done, map-map}
use Rattle.tk_query.proofs.masks.+masks.Goals as goal

pub all_mask-loop-member-init : goal.all_mask-loop-member-init
all_mask-loop-member-init t c = mask_first true c.len.result c.args.«record».now.entries c.in_ok-flags.flags c.in_ok-flags.ensures c.len.ensures.value

pub all_mask-loop-member-preserved : goal.all_mask-loop-member-preserved
all_mask-loop-member-preserved t c =
    all_more c.args.«record».now c.args.members.now c.loop-member.member-index c.member-item.result c.loop-member.flags c.in_ok-mask.field-0 c.and.new.self c.loop-member-test.true c.member-item.is c.loop-member.invariant c.in_ok-mask.ensures c.and.ensures

pub all_mask-returns : goal.all_mask-returns
all_mask-returns t c = all_done c.args.«record».now c.args.members.now c.loop-member.member-index c.loop-member.flags c.loop-member-test.false c.loop-member.invariant

pub any_mask-loop-member-init : goal.any_mask-loop-member-init
any_mask-loop-member-init t c = mask_first false c.len.result c.args.«record».now.entries c.in_ok-flags.flags c.in_ok-flags.ensures c.len.ensures.value

pub any_mask-loop-member-preserved : goal.any_mask-loop-member-preserved
any_mask-loop-member-preserved t c =
    any_more c.args.«record».now c.args.members.now c.loop-member.member-index c.member-item.result c.loop-member.flags c.in_ok-mask.field-0 c.or.new.self c.loop-member-test.true c.member-item.is c.loop-member.invariant c.in_ok-mask.ensures c.or.ensures

pub any_mask-returns : goal.any_mask-returns
any_mask-returns t c = any_done c.args.«record».now c.args.members.now c.loop-member.member-index c.loop-member.flags c.loop-member-test.false c.loop-member.invariant

pub mask-returns-in-All : goal.mask-returns-in-All
mask-returns-in-All t c =
    let r = c.args.«record».now in
    if_ok_same c.all_mask.result _ (map (holds r c.args.condition.now) r.entries)
    (map_same (λ e. list_all (λ m. holds r m e) c.deref.result.now) (holds r c.args.condition.now) r.entries
    (λ e. ap (list_all (λ m. holds r m e)) c.deref.ensures.value ∙ sym (holds-All r c.in-All.members e) ∙ ap (λ d. holds r d e) (sym c.in-All.is)))
    c.all_mask.ensures

pub mask-returns-in-Any : goal.mask-returns-in-Any
mask-returns-in-Any t c =
    let r = c.args.«record».now in
    if_ok_same c.any_mask.result _ (map (holds r c.args.condition.now) r.entries)
    (map_same (λ e. list_any (λ m. holds r m e) c.deref-in-Any.result.now) (holds r c.args.condition.now) r.entries
    (λ e. ap (list_any (λ m. holds r m e)) c.deref-in-Any.ensures.value ∙ sym (holds-Any r c.in-Any.members e) ∙ ap (λ d. holds r d e) (sym c.in-Any.is)))
    c.any_mask.ensures

pub mask-returns-in_ok-flags-in-Not : goal.mask-returns-in_ok-flags-in-Not
mask-returns-in_ok-flags-in-Not t c =
    let r = c.args.«record».now in
    c.invert.ensures ∙ ap (map not) (c.in_ok-flags-in-Not.ensures ∙ ap (λ d. map (holds r d) r.entries) c.deref-in-Not.ensures) ∙ map-map not (holds r c.in-Not.member.value) r.entries
    ∙ map_same (λ e. not (holds r c.in-Not.member.value e)) (holds r c.args.condition.now) r.entries (λ e. ap (λ d. holds r d e) (sym c.in-Not.is))

pub mask-returns-in_default : goal.mask-returns-in_default
mask-returns-in_default t c =
    let r = c.args.«record».now in
    let d = c.in_default in
    if_ok_same c.rule_mask.result _ (map (holds r c.args.condition.now) r.entries)
    (map_same (rule_holds c.rule_of.result r) (holds r c.args.condition.now) r.entries
    (λ e. sym (c.rule_of.ensures.judges (record { not_all = d.not-All; not_any = d.not-Any; not_not = d.not-Not }) r e)))
    c.rule_mask.ensures

pub mask-returns-in_err-flags-in-Not : goal.mask-returns-in_err-flags-in-Not
mask-returns-in_err-flags-in-Not t c = let p = err_from_is_err_and c.from_residual.result c.from_residual.ensures.1 in rw p.1 tt

pub all_mask-returns-in_err-flags : goal.all_mask-returns-in_err-flags
all_mask-returns-in_err-flags t c = let p = err_from_is_err_and c.from_residual.result c.from_residual.ensures.1 in rw p.1 tt

pub all_mask-returns-in_err-mask : goal.all_mask-returns-in_err-mask
all_mask-returns-in_err-mask t c = let p = err_from_is_err_and c.from_residual-in_err-mask.result c.from_residual-in_err-mask.ensures.1 in rw p.1 tt

pub any_mask-returns-in_err-flags : goal.any_mask-returns-in_err-flags
any_mask-returns-in_err-flags t c = let p = err_from_is_err_and c.from_residual.result c.from_residual.ensures.1 in rw p.1 tt

pub any_mask-returns-in_err-mask : goal.any_mask-returns-in_err-mask
any_mask-returns-in_err-mask t c = let p = err_from_is_err_and c.from_residual-in_err-mask.result c.from_residual-in_err-mask.ensures.1 in rw p.1 tt

pub all_mask-and-requires : goal.all_mask-and-requires
all_mask-and-requires t c = same_length (all_of_first c.args.«record».now c.args.members.now c.loop-member.member-index) (holds c.args.«record».now c.member-item.result) c.args.«record».now.entries c.loop-member.flags c.in_ok-mask.field-0 c.loop-member.invariant c.in_ok-mask.ensures

pub any_mask-or-requires : goal.any_mask-or-requires
any_mask-or-requires t c = same_length (any_of_first c.args.«record».now c.args.members.now c.loop-member.member-index) (holds c.args.«record».now c.member-item.result) c.args.«record».now.entries c.loop-member.flags c.in_ok-mask.field-0 c.loop-member.invariant c.in_ok-mask.ensures

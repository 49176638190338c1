use Rattle.std.proofs.Common.{[], ◌∷◌, Some, None, if◌then◌else◌, option_map, sym, ap, ◌∙◌}
use Rattle.tk_query_conditions.specs.CondOf.{cond_of}
use Rattle.tk_query_conditions.specs.steps.Reader.{group_of, groups_of}
use Rattle.tk_query_conditions.specs.steps.Reading.{Word, After, close}
use Rattle.tk_query_conditions.proofs.ReaderLemmas.{popped, close_group, step_made}
use Rattle.tk_query_conditions.proofs.readers.close.Goals as goal

pub returns-in_ok-close-in-41 : goal.returns-in_ok-close-in-41
returns-in_ok-close-in-41 c =
    let rest = groups_of c.pop.new.self.items in
    let f = group_of c.in-Some.group in
    let d = cond_of c.args.condition in
    ap (λ s. close s d c.args.byte) (popped c.args.stack.items c.pop.new.self.items c.in-Some.group c.in-Some.ensures.items)
    ∙ ap (close (f ∷ rest) d) c.in-41.is ∙ close_group f rest d 41
    ∙ ap (λ x. Some (After rest x)) (sym c.in_ok-close-in-41.ensures) ∙ ap (λ s. Some s) (sym c.after.ensures)

pub returns-then-branch : goal.returns-then-branch
returns-then-branch c =
    let rest = groups_of c.pop.new.self.items in
    let f = group_of c.in-Some.group in
    let d = cond_of c.args.condition in
    step_made c.within.result _ _
    (ap (λ s. close s d c.args.byte) (popped c.args.stack.items c.pop.new.self.items c.in-Some.group c.in-Some.ensures.items)
    ∙ ap (close (f ∷ rest) d) c.in-44.is ∙ close_group f rest d 44
    ∙ ap (option_map (λ g. Word (g ∷ rest) [])) (c.in_ok-join-in-44.ensures ∙ ap (λ may_follow. if may_follow then Some (group_of c.join.new.self) else None) c.if-branch.true))
    c.within.ensures

pub returns-else-branch : goal.returns-else-branch
returns-else-branch c =
    let rest = groups_of c.pop.new.self.items in
    let f = group_of c.in-Some.group in
    let d = cond_of c.args.condition in
    ap (λ s. close s d c.args.byte) (popped c.args.stack.items c.pop.new.self.items c.in-Some.group c.in-Some.ensures.items)
    ∙ ap (close (f ∷ rest) d) c.in-44.is ∙ close_group f rest d 44
    ∙ ap (option_map (λ g. Word (g ∷ rest) [])) (c.in_ok-join-in-44.ensures ∙ ap (λ may_follow. if may_follow then Some (group_of c.join.new.self) else None) c.if-branch.false)

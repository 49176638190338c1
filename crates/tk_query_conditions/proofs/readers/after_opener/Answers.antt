use Rattle.std.proofs.Common.{[], ◌∷◌, Some, None, sym, ap, ◌∙◌}
use Rattle.tk_query_conditions.specs.declared.partial_texts.Escape.TheVariants.{Outside}
use Rattle.tk_query_conditions.specs.Cond.{NoPairs, Nothing}
use Rattle.tk_query_conditions.specs.CondOf.{pairs_from}
use Rattle.tk_query_conditions.specs.steps.Reader.{conds_from, groups_of, opener_of, text_atom_of}
use Rattle.tk_query_conditions.specs.steps.Reading.{OpenAll, OpenAny, Word, InText, InKind, InTag, InPairs, opened}
use Rattle.tk_query_conditions.proofs.ReaderLemmas.{step_made}
use Rattle.tk_query_conditions.proofs.readers.after_opener.Goals as goal

pub returns-in-Text : goal.returns-in-Text
returns-in-Text c =
    let groups = groups_of c.args.stack.items in
    ap (λ o. Some (opened groups (opener_of o))) c.in-Text.is ∙ ap (λ partial. Some (InText groups (text_atom_of c.in-Text.text_atom) partial)) (sym c.new.ensures)

pub returns-in-Kind : goal.returns-in-Kind
returns-in-Kind c =
    let groups = groups_of c.args.stack.items in
    ap (λ o. Some (opened groups (opener_of o))) c.in-Kind.is ∙ ap (λ word. Some (InKind groups word)) (sym c.new-in-Kind.ensures.items)

pub returns-in-Segment : goal.returns-in-Segment
returns-in-Segment c =
    let groups = groups_of c.args.stack.items in
    ap (λ o. Some (opened groups (opener_of o))) c.in-Segment.is
    ∙ ap (λ partial. Some (InTag groups partial)) (sym c.new-in-Segment.ensures)

pub returns-in-Entry : goal.returns-in-Entry
returns-in-Entry c =
    let groups = groups_of c.args.stack.items in
    ap (λ o. Some (opened groups (opener_of o))) c.in-Entry.is
    ∙ ap (λ pairs. Some (InPairs groups (pairs_from NoPairs pairs) None ([], Outside))) (sym c.new-in-Entry.ensures)
    ∙ ap (λ partial. Some (InPairs groups (pairs_from NoPairs c.new-in-Entry.result) None partial)) (sym c.new-in-Entry-2.ensures)

pub returns-in-All : goal.returns-in-All
returns-in-All c =
    let groups = groups_of c.args.stack.items in
    step_made c.within.result _ _
    (ap (λ o. Some (opened groups (opener_of o))) c.in-All.is ∙ ap (λ members. Some (Word (OpenAll (conds_from Nothing members) ∷ groups) [])) (sym c.new-in-All.ensures.items)) c.within.ensures

pub returns-in-Any : goal.returns-in-Any
returns-in-Any c =
    let groups = groups_of c.args.stack.items in
    step_made c.within-in-Any.result _ _
    (ap (λ o. Some (opened groups (opener_of o))) c.in-Any.is ∙ ap (λ members. Some (Word (OpenAny (conds_from Nothing members) ∷ groups) [])) (sym c.new-in-Any.ensures.items)) c.within-in-Any.ensures

pub returns-in-Not : goal.returns-in-Not
returns-in-Not c =
    let groups = groups_of c.args.stack.items in
    step_made c.within-in-Not.result _ _ (ap (λ o. Some (opened groups (opener_of o))) c.in-Not.is) c.within-in-Not.ensures

use Rattle.std.proofs.Common.{ap, sym, ◌∙◌}
use Rattle.std.specs.Cmp.Lexicographic.{bytes_decides}
use Rattle.std.proofs.lemmas.Bool.{false≢true}
use Rattle.tk_ids.specs.IdText.{id_text}
use Rattle.tk_ids.proofs.ReadingLemmas.{text_is_unique}
use Rattle.tk_query_locks.proofs.DescentLemmas.{apart_from, below_begins, not_apart_itself, not_told, told_not}
use Rattle.tk_query_locks.proofs.descent.are_apart.Goals as goal

pub returns-then-eq : goal.returns-then-eq
returns-then-eq c = (
  λ yes. absurd (false≢true yes),
  λ apart.
      let bytes = (bytes_decides c.as_text.result.now c.as_text-2.result.now).0 (sym c.eq.ensures ∙ c.if-eq.true) in
      absurd (not_apart_itself c.args.a.now c.args.b.now
      (text_is_unique c.args.a.now c.args.b.now c.as_text.ensures.id c.as_text-2.ensures.id
      (sym c.as_text.ensures.text ∙ bytes ∙ c.as_text-2.ensures.text)) apart),
)

pub returns-then-is_below : goal.returns-then-is_below
returns-then-is_below c = (
  λ yes. absurd (false≢true yes),
  λ apart. absurd (apart.not_above (below_begins c.args.b.now c.args.a.now (c.is_below.ensures.0 c.if-is_below.true))),
)

pub returns : goal.returns
returns c = (
  λ yes. apart_from c.args.a.now c.args.b.now
      (λ same. false≢true (sym c.if-eq.false ∙ c.eq.ensures
      ∙ (bytes_decides c.as_text.result.now c.as_text-2.result.now).1
      (c.as_text.ensures.text ∙ ap id_text same ∙ sym c.as_text-2.ensures.text)))
      (told_not c.is_below-2.result c.is_below-2.ensures yes)
      (λ below. false≢true (sym c.if-is_below.false ∙ c.is_below.ensures.1 below)),
  λ apart. not_told c.is_below-2.result c.is_below-2.ensures
      (λ below. apart.not_below (below_begins c.args.a.now c.args.b.now below)),
)

-- Executions by their starts and ends.
use Rattle.std.proofs.Common.{◌≡◌, ℕ, true, List, get_or, sym, ap, ◌∙◌, subst}
use Rattle.tk_record.specs.Selections.{Selected}
use Rattle.tk_query.specs.Ends.{AreEnds, EndsAt, is_start}
use Rattle.tk_explanations.specs.Collisions.{StartsAt}
use Rattle.tk_explanations.specs.declared.rows.Span.{Span}

-- the execution that starts at a position ends where the list of ends says
pub span_starts : (asked : Selected) (ends list : List ℕ) (p : ℕ) (x : Span) → AreEnds asked ends → is_start asked p ≡ true → list ≡ ends
    → x ≡ record { start = p; end = get_or list p 0 } → StartsAt asked p x
span_starts asked ends list p x are starts same is = record {
  start_is = ap (λ (s : Span). s.start) is;
  ends = subst (EndsAt asked p) (sym (ap (λ (s : Span). s.end) is ∙ ap (λ (l : List ℕ). get_or l p 0) same)) (are.each p starts);
}

use Rattle.std.proofs.Common.{subst, rules}
use Rattle.std.specs.List.Sorted.{IsPermutation}
use Rattle.std.proofs.lemmas.Fn.{always_returns_same, filter_same}
use Rattle.tk_report_text.specs.steps.{has_lines}
use Rattle.tk_report_text.proofs.grouping.in_order.Goals as goal

pub returns : goal.returns
returns c =
    let kept = filter_same _ has_lines _ (λ e b f said. search rules) c.args.ids.items c.retain.new.self.items c.retain.ensures.filtered in
    record {
      same = subst (λ es. IsPermutation es c.sort_by_key.new.self.items) kept c.sort_by_key.ensures.permutation;
      ordered = c.in_ok-sort_by_key.ensures.sorted (λ e. e.0) (always_returns_same _ _ _ (λ a r f said. search rules));
    }

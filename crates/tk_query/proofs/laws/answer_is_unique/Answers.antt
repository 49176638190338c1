use Rattle.tk_query.proofs.AnswerIsUnique.{one_exact, one_loose, one_in_order, one_list, one_exclusive}
use Rattle.tk_query.proofs.EndLemmas.{one_end}
use Rattle.tk_query.proofs.laws.answer_is_unique.Goals as goal

pub returns : goal.returns
returns c = record {
  exact = one_exact;
  loose = one_loose;
  in_order = one_in_order;
  executions = one_list;
  ends = one_end;
  exclusive = one_exclusive;
}

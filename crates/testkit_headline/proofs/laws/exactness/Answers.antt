use Rattle.std.proofs.Common.{◌∙◌, sym}
use Rattle.testkit_headline.proofs.Questions.{one_answer}
use Rattle.testkit_headline.proofs.Records.{of_the_plan}
use Rattle.testkit_headline.proofs.Runs.{one_list}
use Rattle.testkit_headline.proofs.Sessions.{marks}
use Rattle.testkit_headline.proofs.laws.exactness.Goals as goal

pub returns : goal.returns
returns c = record {
  completes_with_nothing_after_marks = marks;
  held_lists_are_unique = one_list c.each_worker_has_its_list.ensures;
  count_is_unique = λ asked s m n first second. first ∙ sym second;
  answer_is_unique = one_answer;
  report_is_of_the_plan = of_the_plan;
}

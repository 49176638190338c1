use Rattle.std.proofs.Common.{rules, Err, ap}
use Rattle.testkit_questions.proofs.AskLemmas.{same_read, no_read, no_fault, memory_fault, source_fault}
use Rattle.testkit_questions.proofs.asking.read_input.Goals as goal

pub returns-in-Ok : goal.returns-in-Ok
returns-in-Ok g c = record {
  answer = c.in-Ok.ensures.answer (λ e. absurd (no_read _ _ e));
  end = c.in-Ok.ensures.ok;
  refusal = tt;
  device = λ e. absurd (no_fault _ _ e);
  stops = tt;
}

pub returns-in-Err-Memory : goal.returns-in-Err-Memory
returns-in-Err-Memory g c = record {
  answer = tt;
  end = tt;
  refusal = tt;
  device = λ e. absurd (memory_fault e);
  stops = c.in-Err-Memory.ensures.stops;
}

pub returns-in-Err : goal.returns-in-Err
returns-in-Err g c = record {
  answer = tt;
  end = tt;
  refusal = (search rules, λ other. c.in-Err.ensures.answer (λ e. other (same_read _ _ e)));
  device = λ e. c.in-Err.ensures.device (ap (λ f. Err f) (source_fault _ e));
  stops = c.in-Err.ensures.stops;
}

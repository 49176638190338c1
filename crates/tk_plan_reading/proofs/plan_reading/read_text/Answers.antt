use Rattle.std.proofs.Common.{subst, sym}
use Rattle.std.proofs.lemmas.Bool.{false≢true}
use Rattle.serde_json.specs.View.{view}
use Rattle.tk_plan_reading.specs.steps.{IsReadFrom}
use Rattle.tk_plan_reading.proofs.Values.{value_here, no_value}
use Rattle.tk_plan_reading.proofs.plan_reading.read_text.Goals as goal

pub returns-in-Ok : goal.returns-in-Ok
returns-in-Ok c =
    subst (λ r. IsReadFrom r c.nodes_of.result) (sym (value_here c.args.bytes.now (view c.in-Ok.value) c.in-Ok.ensures.ok.0 c.in-Ok.ensures.ok.1)) c.nodes_of.ensures.plan

pub returns-in-Err-2 : goal.returns-in-Err-2
returns-in-Err-2 c = rw c.from-in-Err-2.ensures (no_value c.args.bytes.now (c.in-Err.ensures.err (λ memory. false≢true (c.if-is_memory.ensures.1 memory))))

use Rattle.std.proofs.Common.{subst}
use Rattle.std.specs.Prelude.{IfOk}
use Rattle.tk_query_lifecycle.specs.Lifecycle.{IsLifecycle}
use Rattle.tk_engine_execute.specs.Results.{RunResults}
use Rattle.tk_engine_execute.proofs.results.Results.lifecycle.Goals as goal

pub returns : goal.returns
returns c = subst (λ (v : RunResults). IfOk c.lifecycle.result (IsLifecycle v.recorded)) c.self.view_is c.lifecycle.ensures

use Rattle.tk_engine_unit_events.proofs.Emissions.{grew_registered_as}
use Rattle.tk_engine_unit_events.proofs.calls.register.Goals as goal

pub returns-clause-grew : goal.returns-clause-grew
returns-clause-grew g c = grew_registered_as _ _ (record { parent = c.args.parent; segment = c.args.segment.now; name = c.args.name.now; dtype = c.args.dtype; stamp = c.args.stamp }) _ c.in_ok-register.ensures.ok

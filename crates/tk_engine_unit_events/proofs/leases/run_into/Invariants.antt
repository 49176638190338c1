use Rattle.tk_engine_unit_events.proofs.leases.run_into.Given as goal

abbrev pub ghosts-run_lent : goal.ghosts-run_lent
ghosts-run_lent g a = record {
  unit = g.K.UnitRun.unit;
  since = g.S.Sink.view a.lease.sink.now;
  name = a.lease.sink.ghost_name;
}

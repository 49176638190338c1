use Rattle.std.specs.Prelude.{ℕ, Vec}
use Rattle.std.specs.Global.{Global}
use Rattle.testkit_program.specs.Jobs.{devices, transfer}
use Rattle.testkit_program.proofs.Runs.{run_broken, run_done, run_refused, run_stops, run_unread}
use Rattle.testkit_program.proofs.jobs.do_run.Goals as goal

pub returns : goal.returns
returns g c =
    let items : Vec ℕ Global → _ = λ bytes. bytes.items in
    let input = g.S.Source.remaining c.args.source.now in
    let left = g.S.Source.remaining c.load-loaded.new.source in
    let old = g.T.Target.contents c.args.target.now in
    let new = g.T.Target.contents c.run_loaded.new.target in
    let loaded = c.load-loaded.ensures in
    let ran = c.run_loaded.ensures in
    let refused = run_refused items c.args.options input left old new c.load-loaded.result c.run_loaded.result loaded.ok loaded.within loaded.too_large ran.not_loaded ran.loaded in
    let broken = devices (g.S.Source.broken c.load-loaded.new.source) (g.T.Target.broken c.run_loaded.new.target) in
    record {
      reported = run_done items c.args.options input left old new c.load-loaded.result c.run_loaded.result loaded.ok loaded.within ran.not_loaded ran.loaded;
      unread = run_unread c.args.options (transfer input old new) c.run_loaded.result _ refused;
      refused = refused;
      unwritten = ran.unwritten;
      device = run_broken items c.args.options input left old new broken c.load-loaded.result c.run_loaded.result loaded.device ran.device ran.not_loaded ran.loaded;
      stops = run_stops items c.args.options input left old new c.load-loaded.result c.run_loaded.result _ loaded.stops ran.loaded;
    }

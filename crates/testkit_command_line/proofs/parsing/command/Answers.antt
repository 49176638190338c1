use Rattle.std.proofs.Common.{◌≡◌, ◌∙◌, ap, ap₂, codes, true}
use Rattle.clap.specs.Simple.{app_of_fields, on_top}
use Rattle.clap.specs.Words.{App, app_of, new_app, with_subcommand}
use Rattle.testkit_command_line.specs.CommandLines.{commands, run_command}
use Rattle.testkit_command_line.proofs.parsing.command.Goals as goal

pub returns-clause-app : goal.returns-clause-app
unfolding commands
returns-clause-app c =
    let top : app_of c.subcommand_required.result ≡ on_top (λ s. record s { subcommand_required = true }) (new_app (codes "testkit")) =
    ap app_of_fields c.subcommand_required.ensures ∙ ap (on_top (λ s. record s { subcommand_required = true })) c.new.ensures.app in
    let with_run : app_of c.in_ok-command.command ≡ with_subcommand (on_top (λ s. record s { subcommand_required = true }) (new_app (codes "testkit"))) run_command.top =
    c.in_ok-command.ensures.shape c.in_ok-run.ensures.local ∙ ap₂ with_subcommand top (ap (λ (a : App). a.top) c.in_ok-run.ensures.app) in
    let with_replay : app_of c.in_ok-command-2.command ≡ with_subcommand (with_subcommand (on_top (λ s. record s { subcommand_required = true }) (new_app (codes "testkit"))) run_command.top) (new_app (codes "replay")).top =
    c.in_ok-command-2.ensures.shape c.new-2.ensures.local ∙ ap₂ with_subcommand with_run (ap (λ (a : App). a.top) c.new-2.ensures.app) in
    c.in_ok-subcommand.ensures.shape c.new-3.ensures.local ∙ ap₂ with_subcommand with_replay (ap (λ (a : App). a.top) c.new-3.ensures.app)

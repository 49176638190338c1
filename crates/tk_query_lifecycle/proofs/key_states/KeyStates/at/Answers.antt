use Rattle.std.proofs.Common.{ap, sym, ◌∙◌, length}
use Rattle.std.specs.Prelude.{◌/◌}
use Rattle.std.proofs.lemmas.Bool.{ltb-true, ltb-false}
use Rattle.tk_query_lifecycle.specs.steps.KeyStates.{by_key, state_of}
use Rattle.tk_query_lifecycle.proofs.RowLemmas.{read_found, read_missing}
use Rattle.tk_query_lifecycle.proofs.key_states.KeyStates.at.Goals as goal

pub returns-in-Some : goal.returns-in-Some
returns-in-Some c =
    let rows = c.deref.result.now in
    let within = ltb-true (c.args.key / 65536) (length rows) (sym c.in-Some.ensures.lookup.0) in
    c.at.ensures ∙ read_found rows c.args.key c.in-Some.row.now within c.in-Some.ensures.lookup.1
    ∙ ap (λ l. state_of (by_key l) c.args.key) c.deref.ensures.value ∙ ap (λ l. state_of l c.args.key) c.self.view_is

pub returns-in-None : goal.returns-in-None
returns-in-None c =
    let rows = c.deref.result.now in
    let past = ltb-false (c.args.key / 65536) (length rows) (sym c.in-None.ensures.lookup.0) in
    c.idle.ensures ∙ read_missing rows c.args.key past
    ∙ ap (λ l. state_of (by_key l) c.args.key) c.deref.ensures.value ∙ ap (λ l. state_of l c.args.key) c.self.view_is

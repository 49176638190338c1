use Rattle.std.proofs.Common.{refl, sym, ap, ◌∙◌}
use Rattle.std.specs.Option.{option_copied}
use Rattle.tk_record.specs.Record.{entry_of_view}
use Rattle.tk_query_lifecycle.specs.Lifecycle.{first_entries}
use Rattle.tk_query_lifecycle.proofs.FirstEntries.{its_id}
use Rattle.tk_query_lifecycle.proofs.EventLemmas.{room_for_child}
use Rattle.tk_query_lifecycle.proofs.TakeLemmas.{taken, taken_broken}
use Rattle.tk_query_lifecycle.proofs.progress.Progress.take.Goals as goal

pub note-requires : goal.note-requires
note-requires c = room_for_child c.args.record.now c.args.position (entry_of_view c.args.event.now) c.args.self.now.states c.shows_record.ensures c.requires.stands c.requires.progress.states_are

pub returns-in-Err : goal.returns-in-Err
returns-in-Err c =
    let r = c.args.record.now in
    let e = entry_of_view c.args.event.now in
    let past = first_entries c.args.position r in
    let its = its_id r c.args.position e c.in-Some.descriptor.now c.shows_record.ensures c.requires.stands (sym c.describe.ensures ∙ ap option_copied c.in-Some.is) in
    taken_broken past e c.in-Some.descriptor.now.id c.args.self.now.states c.in_ok-rule.field-0 c.in-Err.rule (c.in_ok-rule.ensures past refl c.requires.progress its) c.in-Err.is

pub returns-in_ok-note-in-Ok : goal.returns-in_ok-note-in-Ok
returns-in_ok-note-in-Ok c =
    let r = c.args.record.now in
    let e = entry_of_view c.args.event.now in
    let past = first_entries c.args.position r in
    let its = its_id r c.args.position e c.in-Some.descriptor.now c.shows_record.ensures c.requires.stands (sym c.describe.ensures ∙ ap option_copied c.in-Some.is) in
    taken past e c.in-Some.descriptor.now.id c.args.self.now.states c.note.new.self.states c.args.self.now.ids c.note.new.self.ids c.in_ok-rule.field-0 c.in-Ok.parent
    c.requires.progress its c.in_ok-note-in-Ok.ensures.id (c.in_ok-rule.ensures past refl c.requires.progress its) c.in-Ok.is c.in_ok-note-in-Ok.ensures.ids c.in_ok-note-in-Ok.ensures.states

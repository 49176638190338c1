use Rattle.std.proofs.Common.{◌≡◌, ◌<◌, ◌⊎◌, length, take, drop, get_or, suc, sym, ap, ◌∙◌, subst}
use Rattle.std.specs.Prelude.{IsSome, Some}
use Rattle.tk_plan.specs.declared.scripts.steps.Act.TheVariants.{Register}
use Rattle.tk_engine_scripted.specs.steps.{kept, key_found, IsPlayed, begun}
use Rattle.tk_engine_scripted.proofs.ScriptSteps.{emitted_found, emitted_plays, emitted_same, registered_found, registered_plays, plain_act, cut_at, take_more}
use Rattle.tk_engine_scripted.proofs.playing.play.Goals as goal

pub key_of-above-requires : goal.key_of-above-requires
key_of-above-requires g c =
    let planned = c.requires.1.1.1.0 in let script = c.requires.1.1.1.1.0 in
    let s = c.args.sink.now in let steps = c.args.steps.now in let at = c.args.at in
    let statics : c.len-statics.result ≡ length c.args.plan.now.table = c.len-statics.ensures.len ∙ ap length (c.deref.ensures ∙ c.table.ensures.table) in
    subst (λ n. (c.in-Register.parent < n) ⊎ IsSome (kept c.args.keys.now c.in-Register.parent)) (sym statics)
    (registered_found c.args.plan.now.nodes c.args.plan.now.table planned.0 planned.1 c.scripts_are_playable.ensures c.nodes_are_found.ensures
    script.0 (take at steps) (drop (suc at) steps) g.sent (g.S.Sink.view s) (g.S.Sink.view s) (kept c.args.keys.now) c.requires.1.1.1.1.1.1.1
    _ c.in-Register.parent c.in-Register.is (sym script.1 ∙ cut_at steps at _ c.requires.1.1.0))

pub key_of-key-requires : goal.key_of-key-requires
key_of-key-requires g c =
    let planned = c.requires.1.1.1.0 in let script = c.requires.1.1.1.1.0 in
    let s = c.args.sink.now in let steps = c.args.steps.now in let at = c.args.at in
    let statics : c.len-statics.result ≡ length c.args.plan.now.table = c.len-statics.ensures.len ∙ ap length (c.deref.ensures ∙ c.table.ensures.table) in
    let node = (get_or steps at (record { node = 0; stamp = 0; act = Register 0 })).node in
    subst (λ n. (node < n) ⊎ IsSome (kept c.args.keys.now node)) (sym statics)
    (emitted_found c.args.plan.now.nodes c.args.plan.now.table planned.0 planned.1 c.scripts_are_playable.ensures c.nodes_are_found.ensures
    script.0 (take at steps) (drop (suc at) steps) g.sent (g.S.Sink.view s) (g.S.Sink.view s) (kept c.args.keys.now) c.requires.1.1.1.1.1.1.1
    _ (sym script.1 ∙ cut_at steps at _ c.requires.1.1.0) (plain_act _ c.in-Skip.is))

pub returns-in_ok-note-in-Register-clause-ok : goal.returns-in_ok-note-in-Register-clause-ok
returns-in_ok-note-in-Register-clause-ok g c =
    let planned = c.requires.1.1.1.0 in let script = c.requires.1.1.1.1.0 in
    let s = c.args.sink.now in let steps = c.args.steps.now in let at = c.args.at in
    let statics : c.len-statics.result ≡ length c.args.plan.now.table = c.len-statics.ensures.len ∙ ap length (c.deref.ensures ∙ c.table.ensures.table) in
    subst (λ prefix. IsPlayed (begun c.args.plan.now.nodes c.args.plan.now.table (g.S.Sink.view s).worker g.sent) prefix (g.S.Sink.view c.register.new.sink).sent (kept c.note.new.self)) (sym (take_more steps at _ c.requires.1.1.0))
    (registered_plays c.args.plan.now.nodes c.args.plan.now.table planned.0 planned.1 c.scripts_are_playable.ensures c.nodes_are_found.ensures
    script.0 (take at steps) (drop (suc at) steps) g.sent (g.S.Sink.view s) (g.S.Sink.view c.register.new.sink) (kept c.args.keys.now) c.requires.1.1.1.1.1.1.1
    _ c.in-Register.parent c.key_of-above.result c.in_ok-key-in-Register.key (kept c.note.new.self) c.in-Register.is (sym script.1 ∙ cut_at steps at _ c.requires.1.1.0)
    c.requires.1.1.1.1.1.1.0 (subst (λ n. key_found n (kept c.args.keys.now) c.in-Register.parent ≡ Some c.key_of-above.result) statics c.key_of-above.ensures)
    c.in_ok-key-in-Register.ensures.ok c.in_ok-note-in-Register.ensures)

pub returns-in_ok-emit_step-in-Skip : goal.returns-in_ok-emit_step-in-Skip
returns-in_ok-emit_step-in-Skip g c =
    let planned = c.requires.1.1.1.0 in let script = c.requires.1.1.1.1.0 in
    let s = c.args.sink.now in let steps = c.args.steps.now in let at = c.args.at in
    let statics : c.len-statics.result ≡ length c.args.plan.now.table = c.len-statics.ensures.len ∙ ap length (c.deref.ensures ∙ c.table.ensures.table) in
    let step = get_or steps at (record { node = 0; stamp = 0; act = Register 0 }) in
    let event_of_step = c.in_ok-emit_step-in-Skip.ensures.ok in
    record {
      same = emitted_same c.args.plan.now.nodes (g.S.Sink.view s) (g.S.Sink.view c.emit_step.new.sink) step c.key_of-key.result event_of_step;
      ok = subst (λ prefix. IsPlayed (begun c.args.plan.now.nodes c.args.plan.now.table (g.S.Sink.view s).worker g.sent) prefix (g.S.Sink.view c.emit_step.new.sink).sent (kept c.args.keys.now)) (sym (take_more steps at _ c.requires.1.1.0))
          (emitted_plays c.args.plan.now.nodes c.args.plan.now.table planned.0 planned.1 c.scripts_are_playable.ensures c.nodes_are_found.ensures
          script.0 (take at steps) (drop (suc at) steps) g.sent (g.S.Sink.view s) (g.S.Sink.view c.emit_step.new.sink) (kept c.args.keys.now) c.requires.1.1.1.1.1.1.1
          step c.key_of-key.result (sym script.1 ∙ cut_at steps at _ c.requires.1.1.0) (plain_act step.act c.in-Skip.is)
          (subst (λ n. key_found n (kept c.args.keys.now) step.node ≡ Some c.key_of-key.result) statics c.key_of-key.ensures) event_of_step);
      err = tt;
      cause = tt;
    }

use Rattle.std.proofs.Common.{◌≡◌, ◌<◌, ◌≤◌, ℕ, length, map, Ok, Err, sym, ap, subst, ◌∙◌, refl}
use Rattle.std.specs.List.{AllByRecursion}
use Rattle.std.proofs.lemmas.List.Elements.{All-from_recursion}
use Rattle.std.proofs.lemmas.Result.{err_from_is_err_and}
use Rattle.tk_base.specs.declared.limits.TheConstants.{MAX_WORKERS}
use Rattle.tk_queue_replay.specs.Replay.{IsTurn}
use Rattle.tk_queue_replay.specs.ReplayText.{scripts_by}
use Rattle.tk_queue_replay.proofs.TextSteps.{scripts_count, replay_here, replay_fault, replay_done}
use Rattle.tk_queue_replay.proofs.texts.play_turns.Goals as goal

pub replay-requires-clause-workers : goal.replay-requires-clause-workers
replay-requires-clause-workers c =
    let n : length c.as_slice.result.now ≡ c.args.workers = ap length c.as_slice.ensures.value ∙ scripts_count (λ s. s.items) c.in_ok-scripts.scripts.items _ _ c.in_ok-scripts.ensures in
    subst (λ (k : ℕ). (0 < k) × (k ≤ MAX_WORKERS)) (sym n) c.requires.count

pub replay-requires-clause-turns : goal.replay-requires-clause-turns
replay-requires-clause-turns c =
    let n : length c.as_slice.result.now ≡ c.args.workers = ap length c.as_slice.ensures.value ∙ scripts_count (λ s. s.items) c.in_ok-scripts.scripts.items _ _ c.in_ok-scripts.ensures in
    All-from_recursion (IsTurn (length c.as_slice.result.now)) c.args.turns.now (subst (λ (k : ℕ). AllByRecursion (IsTurn k) c.args.turns.now) (sym n) c.requires.turns)

pub returns-in_err-replayed : goal.returns-in_err-replayed
returns-in_err-replayed c =
    let p = err_from_is_err_and c.from_residual-in_err-replayed.result c.from_residual-in_err-replayed.ensures.1 in
    rw (p.1, p.2) (replay_fault c.args.table (scripts_by c.args.entries.now c.args.workers) c.args.turns.now c.in_err-replayed.field-0.0
    (replay_here _ _ _ _ c.args.turns.now c.args.turns.now (Err c.in_err-replayed.field-0.0) c.in_ok-table.ensures.ok (ap (map (λ s. s.items)) c.as_slice.ensures.value ∙ c.in_ok-scripts.ensures) refl c.in_err-replayed.ensures))

pub returns : goal.returns
returns c =
    replay_done c.args.table (scripts_by c.args.entries.now c.args.workers) c.args.turns.now c.in_ok-replayed.replayed
    (replay_here _ _ _ _ c.args.turns.now c.args.turns.now (Ok c.in_ok-replayed.replayed) c.in_ok-table.ensures.ok (ap (map (λ s. s.items)) c.as_slice.ensures.value ∙ c.in_ok-scripts.ensures) refl c.in_ok-replayed.ensures)

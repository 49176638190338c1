-- What a replay's fault says is what the job says of it.
use Rattle.std.proofs.Common.{◌≡◌, ◌⊎◌, ℕ, Bool, true, false, List, Option, Err, refl, ap, inl, inr}
use Rattle.std.specs.Prelude.{IfSome, IsErrOf}
use Rattle.testkit_program.specs.declared.faults.Fault.TheVariants as faults
use Rattle.testkit_program.specs.Jobs.{Devices, IsBroken, IsInWriting, IsPartlyReplayed, IsReplayFault, Transfer, transfer}
use Rattle.tk_queue_replay.specs.declared.replays.ReplayFault.{ReplayFault}
use Rattle.tk_queue_replay.specs.declared.replays.ReplayFault.TheVariants as replays
use Rattle.tk_queue_replay.specs.ReplayText.{IsOfInput, IsPartlyWritten, Plays}
use Rattle.tk_queue_replay.specs.ReplayText.{IsAnswer as IsPlayedAs}

-- of the bytes that a target holds
pub partly_replayed : {A : Type 0} (contents : A → Option (List ℕ)) (input : Option (List ℕ)) (old new : A)
    → (new ≡ old) ⊎ IfSome input (λ bytes. IsPartlyWritten bytes (contents old) (contents new)) → IsPartlyReplayed (transfer input (contents old) (contents new))
partly_replayed contents input old new (inl same) = inl (ap contents same)
partly_replayed contents input old new (inr prefix) = inr prefix

-- the cause, and what was written
pub replay_fault : (t : Transfer) (fault : ReplayFault) → (¬ (IsErrOf {T = Unit {0}} (Err fault) replays.Device) → IfSome t.input (λ bytes. IsPlayedAs bytes (Err fault)))
    → IsPartlyReplayed t → IsReplayFault t fault
replay_fault t replays.NoHeader cause partly = (cause (λ e. cc), partly)
replay_fault t (replays.BadLine line) cause partly = (cause (λ e. cc), partly)
replay_fault t (replays.AfterEnd step) cause partly = (cause (λ e. cc), partly)
replay_fault t (replays.Append step why) cause partly = (cause (λ e. cc), partly)
replay_fault t replays.TooLarge cause partly = (cause (λ e. cc), partly)
replay_fault t replays.Device cause partly = partly
replay_fault t replays.Memory cause partly = (cause (λ e. cc), partly)

-- where a fault is for the input, nothing was written
pub replay_untouched : (fault : ReplayFault) (Same : Type 0) → (IsOfInput fault → Same) → IsInWriting (faults.Replay fault) ⊎ Same
replay_untouched replays.NoHeader Same nothing = inr (nothing tt)
replay_untouched (replays.BadLine line) Same nothing = inr (nothing tt)
replay_untouched (replays.AfterEnd step) Same nothing = inr (nothing tt)
replay_untouched (replays.Append step why) Same nothing = inr (nothing tt)
replay_untouched replays.TooLarge Same nothing = inr (nothing tt)
replay_untouched replays.Device Same nothing = inl tt
replay_untouched replays.Memory Same nothing = inl tt

-- the source broke, or the target where the source is whole
either : (source target : Bool) (P : Type 0) → (source ≡ true) ⊎ (target ≡ true) → (source ≡ false → P) → (source ≡ true) ⊎ ((target ≡ true) × P)
either true target P broken plays = inl refl
either false target P (inl is) plays = inl is
either false target P (inr is) plays = inr (is, plays refl)

-- a broken device is the source, or the target once the script was played
pub replay_broken : (d : Devices) (t : Transfer) (fault : ReplayFault) → (IsErrOf {T = Unit {0}} (Err fault) replays.Device → (d.source ≡ true) ⊎ (d.target ≡ true))
    → (IsErrOf {T = Unit {0}} (Err fault) replays.Device → d.source ≡ false → IfSome t.input Plays) → IsBroken d t (faults.Replay fault)
replay_broken d t replays.NoHeader broken plays = tt
replay_broken d t (replays.BadLine line) broken plays = tt
replay_broken d t (replays.AfterEnd step) broken plays = tt
replay_broken d t (replays.Append step why) broken plays = tt
replay_broken d t replays.TooLarge broken plays = tt
replay_broken d t replays.Device broken plays = either d.source d.target _ (broken refl) (plays refl)
replay_broken d t replays.Memory broken plays = tt

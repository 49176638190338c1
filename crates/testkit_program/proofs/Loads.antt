-- What a fault of loading says is what the job says of it.
use Rattle.std.proofs.Common.{◌≡◌, ◌<◌, ℕ, true, refl, length}
use Rattle.std.specs.Prelude.{IfSome}
use Rattle.testkit_command_line.specs.declared.jobs.Job.TheVariants as jobs
use Rattle.testkit_command_line.specs.declared.jobs.RunOptions.{RunOptions}
use Rattle.testkit_program.specs.declared.faults.Fault.TheVariants as faults
use Rattle.testkit_program.specs.Jobs.{Devices, IsBroken, IsRefused, Transfer}
use Rattle.tk_record_text.specs.declared.reading.TheConstants.{MAX_TEXT}
use Rattle.tk_streams.specs.declared.transfers.LoadFault.{LoadFault}
use Rattle.tk_streams.specs.declared.transfers.LoadFault.TheVariants as loads

-- what is too large is so
pub load_refused : (options : RunOptions) (t : Transfer) (fault : LoadFault)
    → (fault ≡ loads.TooLarge → IfSome t.input (λ bytes. MAX_TEXT < length bytes)) → IsRefused (jobs.Run options) t (faults.Load fault)
load_refused options t loads.TooLarge large = large refl
load_refused options t loads.Device large = tt
load_refused options t loads.Memory large = tt

-- a broken device is the source
pub load_broken : (d : Devices) (t : Transfer) (fault : LoadFault) → (fault ≡ loads.Device → d.source ≡ true) → IsBroken d t (faults.Load fault)
load_broken d t loads.TooLarge broken = tt
load_broken d t loads.Device broken = broken refl
load_broken d t loads.Memory broken = tt

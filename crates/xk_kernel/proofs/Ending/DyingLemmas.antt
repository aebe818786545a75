-- What is told first, and then what comes of it.
use Rattle.std.proofs.Common.{◌≡◌, [], ◌∷◌, ap, ◌∙◌}
use Rattle.machine_model.specs.State.Changes.{Told}
use Rattle.machine_model.specs.State.Machine.{Machine}
use Rattle.machine_model.specs.Stepping.Step.{after}
use Rattle.sv32_space.specs.Tie.{Held}
use Rattle.xk_base.specs.Log.{LogState}
use Rattle.xk_base.specs.declared.records.What.{What}
use Rattle.xk_kernel.specs.State.{machine_of}
use Rattle.xk_kernel.specs.Telling.{Tells, log_with}
use Rattle.xk_kernel.specs.declared.kernel.Kernel.{Kernel}
use Rattle.xk_kernel.proofs.Calling.LogLemmas.{log_with-next}
use Rattle.xk_kernel.proofs.Acting.ThreadLemmas.{machine_of_log}

-- the kernel tells one record, and then what its machine makes of it
pub tells_after : {W : Type 0} (held : W → Held) (old new : Kernel W) (first : LogState) (what : What) (told : Machine → Told)
    → first ≡ log_with (what ∷ []) old.log
    → Tells held (record old { log = first }) new (told (machine_of held (record old { log = first }))) → Tells held old new (after what (told (machine_of held old)))
tells_after held old new first what told pushed tells = record {
  machine = tells.machine ∙ ap (λ m. (told m).machine) (machine_of_log held old first);
  log =
      log_with-next (what ∷ []) _ old.log first new.log pushed tells.log
      ∙ ap (λ m. log_with (what ∷ (told m).told) old.log) (machine_of_log held old first);
}

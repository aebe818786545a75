-- The machine that a run of a command starts from is matched.
use Rattle.std.proofs.Common.{◌≤◌, ℕ, None, IfSome, refl, sym, ap, ◌∙◌, subst}
use Rattle.demo_load.proofs.LoadImageLemmas.{load_has_no_fault, load_spells}
use Rattle.demo_load.specs.Events.{load_machine}
use Rattle.demo_load.specs.Image.{load_args, load_image}
use Rattle.demo_load.specs.declared.TheConstants.{CLIENT_LIMIT}
use Rattle.machine_model.specs.Runs.Matched.{Matched}
use Rattle.xk_base.specs.declared.limits.TheConstants.{SLOT_LIMIT}
use Rattle.xous_program.specs.Outcome.Said.{IsInLimits, Run, Starts, StartsOnImage, StartsOnLoad, StartsOnState}
use Rattle.xous_program.specs.Outcome.Sides.{Told}
use Rattle.xous_program.specs.Words.{Command, Plays, Checks, Converts, Demo, Suspends, Resumes, Play, Resume}
use Rattle.xous_program.proofs.Images.MatchedLemmas.{booted_matched}

image_matched : (file : Told) (play : Play) (run : Run) → IfSome play.slots (λ n. n ≤ SLOT_LIMIT) → StartsOnImage file play run → Matched run.booted.machine
image_matched file play run few starts =
    subst Matched (sym (ap (λ b. b.machine) starts.booted)) (booted_matched starts.image.bytes play.slots starts.machine few starts.image.boots)

state_matched : (file : Told) (resume : Resume) (run : Run) → StartsOnState file resume run → Matched run.booted.machine
state_matched file resume run starts =
    subst Matched (sym (ap (λ b. b.machine) starts.booted ∙ starts.state.restores.resumed)) starts.state.restores.sound.resumable.matched

load_matched : (clients : ℕ) (run : Run) → clients ≤ CLIENT_LIMIT → StartsOnLoad clients run → Matched run.booted.machine
load_matched clients run few starts =
    subst Matched (sym (ap (λ b. b.machine) starts.booted))
    (booted_matched (load_image clients) None (load_machine clients) tt (record {
      args = load_args clients;
      sound = record { spelled = load_spells clients few; no_fault = load_has_no_fault clients few };
      start = refl;
    }))

pub started_matched : (file : Told) (command : Command) (run : Run) → IsInLimits command → Starts file command run → Matched run.booted.machine
started_matched file (Plays play) run limits starts = image_matched file play run limits starts
started_matched file (Suspends suspend) run limits starts = image_matched file _ run limits starts
started_matched file (Resumes resume) run limits starts = state_matched file resume run starts
started_matched file (Demo clients) run limits starts = load_matched clients run limits starts
started_matched file (Checks check) run limits starts = absurd starts
started_matched file (Converts image) run limits starts = absurd starts

use Rattle.std.proofs.Common.{◌≡◌, refl}
use Rattle.std.specs.Prelude.{◌≤◌}
use Rattle.machine_laws.specs.Reserved.{IsReservedByThread}
use Rattle.machine_model.specs.Runs.Matched.{Matched}
use Rattle.machine_model.specs.State.Machine.{Machine}
use Rattle.save_path.specs.Written.{IsSaved}
use Rattle.suspend_image.specs.Saveable.{IsSaveable}
use Rattle.suspend_image.specs.Sheets.{with_bytes}
use Rattle.suspend_image.specs.StateBytes.{saved_bytes}
use Rattle.vm_memory.proofs.Changing.SoundMemoryLemmas.{sound-tied}
use Rattle.vm_memory.specs.Bytes.{MeansBytes}
use Rattle.xk_kernel.proofs.Memory.SavedLemmas.{comes_saved, none_saved, of_kernel, of_saved, out_saved, sound_saved}
use Rattle.xk_kernel.specs.State.{machine_of}
use Rattle.xk_kernel.proofs.kernel.Kernel.save.Goals as goal

pub save-saved-requires-clause-matched : goal.save-saved-requires-clause-matched
save-saved-requires-clause-matched g c =
    of_saved g.W.SwapStore.held c.args.self.now c.compare.result c.compare.ensures (λ (m : Machine). Matched m) c.args.self.now.mem
    (c.requires.sound.matched c.requires.usable)

pub save-saved-requires-clause-room : goal.save-saved-requires-clause-room
unfolding machine_of
save-saved-requires-clause-room g c = c.requires.room

pub returns-in-Ok-clause-sound : goal.returns-in-Ok-clause-sound
returns-in-Ok-clause-sound g c =
    sound_saved g.W.SwapStore c.args.self.now c.save-saved.new.mem c.save-saved.ensures.brings c.requires.usable
    (comes_saved g.W.SwapStore.held c.args.self.now c.compare.result c.compare.ensures c.save-saved.new.mem c.save-saved.ensures.machine) c.requires.sound

pub returns-in-Ok-clause-machine : goal.returns-in-Ok-clause-machine
returns-in-Ok-clause-machine g c =
    comes_saved g.W.SwapStore.held c.args.self.now c.compare.result c.compare.ensures c.save-saved.new.mem c.save-saved.ensures.machine

pub returns-in-Ok-clause-means : goal.returns-in-Ok-clause-means
returns-in-Ok-clause-means g c = c.save-saved.ensures.brings.means

pub returns-in-Ok-clause-none : goal.returns-in-Ok-clause-none
returns-in-Ok-clause-none g c = none_saved g.W.SwapStore c.args.self.now c.save-saved.new.mem c.save-saved.ensures.brings c.requires.usable

pub returns-in-Ok-clause-tie : goal.returns-in-Ok-clause-tie
returns-in-Ok-clause-tie g c = sound-tied g.W.SwapStore c.save-saved.new.mem c.save-saved.ensures.brings.sound

pub returns-in-Ok-clause-keeps : goal.returns-in-Ok-clause-keeps
returns-in-Ok-clause-keeps g c = record { size = c.save-saved.ensures.brings.size; store = c.save-saved.ensures.brings.store; room = refl }

pub returns-in-Err-clause-sound : goal.returns-in-Err-clause-sound
returns-in-Err-clause-sound g c =
    sound_saved g.W.SwapStore c.args.self.now c.save-saved.new.mem c.save-saved.ensures.brings c.requires.usable
    (comes_saved g.W.SwapStore.held c.args.self.now c.compare.result c.compare.ensures c.save-saved.new.mem c.save-saved.ensures.machine) c.requires.sound

pub returns-in-Err-clause-machine : goal.returns-in-Err-clause-machine
returns-in-Err-clause-machine g c =
    comes_saved g.W.SwapStore.held c.args.self.now c.compare.result c.compare.ensures c.save-saved.new.mem c.save-saved.ensures.machine

pub returns-in-Err-clause-means : goal.returns-in-Err-clause-means
returns-in-Err-clause-means g c = c.save-saved.ensures.brings.means

pub returns-in-Err-clause-none : goal.returns-in-Err-clause-none
returns-in-Err-clause-none g c = none_saved g.W.SwapStore c.args.self.now c.save-saved.new.mem c.save-saved.ensures.brings c.requires.usable

pub returns-in-Err-clause-tie : goal.returns-in-Err-clause-tie
returns-in-Err-clause-tie g c = sound-tied g.W.SwapStore c.save-saved.new.mem c.save-saved.ensures.brings.sound

pub returns-in-Err-clause-keeps : goal.returns-in-Err-clause-keeps
returns-in-Err-clause-keeps g c = record { size = c.save-saved.ensures.brings.size; store = c.save-saved.ensures.brings.store; room = refl }

pub returns-in-Ok-clause-saved : goal.returns-in-Ok-clause-saved
returns-in-Ok-clause-saved g c = λ means.
    of_kernel g.W.SwapStore.held c.args.self.now c.compare.result c.compare.ensures
    (λ (m : Machine). c.save-saved.new.sheet ≡ with_bytes (saved_bytes m) c.args.sheet.now) c.save-saved.new.mem (c.in-Ok.ensures.saved means)

pub returns-in-Ok-clause-alike : goal.returns-in-Ok-clause-alike
returns-in-Ok-clause-alike g c =
    of_kernel g.W.SwapStore.held c.args.self.now c.compare.result c.compare.ensures
    (λ (m : Machine). IsSaved (MeansBytes g.W.SwapStore c.args.self.now.mem) m c.save-saved.new.sheet.bytes) c.save-saved.new.mem c.in-Ok.ensures.alike

pub returns-in-Ok-clause-saveable : goal.returns-in-Ok-clause-saveable
returns-in-Ok-clause-saveable g c =
    of_kernel g.W.SwapStore.held c.args.self.now c.compare.result c.compare.ensures
    (λ (m : Machine). m.steps ≤ 4000000000 → IsReservedByThread m → IsSaveable m) c.save-saved.new.mem c.in-Ok.ensures.saveable

pub returns-in-Err-clause-out : goal.returns-in-Err-clause-out
returns-in-Err-clause-out g c = out_saved g.W.SwapStore c.args.self.now c.save-saved.new.mem c.save-saved.ensures.brings c.requires.usable c.in-Err.ensures.failed

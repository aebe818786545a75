use Rattle.std.proofs.Common.{◌≡◌, ◌≤◌, ap, arith}
use Rattle.suspend_image.specs.Sheets.{SheetBytes, room_for}
use Rattle.vm_memory.specs.Memory.{capacity_of}
use Rattle.xk_kernel.specs.State.{machine_of}
use Rattle.save_path.proofs.SavingLemmas.{few_pages}
use Rattle.kernel_tests.proofs.first_run.saved.Goals as goal

pub save-requires-clause-room : goal.save-requires-clause-room
unfolding machine_of
save-requires-clause-room g c =
    let few = c.requires.sound.whole.mem.few in
    let pages : capacity_of c.args.kernel.now.mem ≤ 32768 = few_pages g.W.SwapStore c.args.kernel.now.mem c.requires.sound.whole.mem in
    let room : c.in-Ok.sheet.room ≡ room_for 64 32768 = ap (λ (s : SheetBytes). s.room) c.in-Ok.ensures in
    omega arith

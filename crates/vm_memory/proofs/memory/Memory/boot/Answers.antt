use Rattle.std.proofs.Common.{◌≡◌, List, length, sym, ap, subst, arith}
use Rattle.std.specs.Prelude.{All}
use Rattle.boot_plan.specs.Capacity.{capacity}
use Rattle.boot_plan.specs.Lawful.{IsLawfulProcess}
use Rattle.boot_plan.specs.declared.plans.ProcPlan.{ProcPlan}
use Rattle.vm_memory.specs.Memory.{Size, capacity_of, ledger}
use Rattle.vm_memory.specs.Starting.{page_count}
use Rattle.vm_memory.proofs.Booting.BootLemmas.{booted_rights, booted_whole}
use Rattle.vm_memory.proofs.Booting.PlacingLemmas.{unlent_fresh}
use Rattle.vm_memory.proofs.Changing.SoundMemoryLemmas.{sound-tied}
use Rattle.vm_memory.proofs.memory.Memory.boot.Goals as goal

pub place_processes-requires-clause-room : goal.place_processes-requires-clause-room
place_processes-requires-clause-room g c =
    let room : capacity_of c.in_ok-memory.memory ≡ capacity c.args.plan.now.frames (length c.args.plan.now.procs) c.args.plan.now.slots =
    ap (λ (s : Size). capacity s.area.frames s.procs s.slots) c.in_ok-memory.ensures.size in
    let all : page_count c.as_slice.result.now ≡ page_count c.args.plan.now.procs =
    ap page_count c.as_slice.ensures in
    omega (arith, room, all, c.in_ok-memory.ensures.none, c.requires.lawful.fits)

pub place_processes-requires-clause-lawful : goal.place_processes-requires-clause-lawful
place_processes-requires-clause-lawful g c = subst (λ (ps : List ProcPlan). All (IsLawfulProcess (length c.args.file.now)) ps) (sym c.as_slice.ensures) c.requires.lawful.procs

pub place_processes-requires-clause-order : goal.place_processes-requires-clause-order
place_processes-requires-clause-order g c =
    record { first = λ few. c.in_ok-memory.ensures.free; past = λ over. absurd (omega (arith, over, c.in_ok-memory.ensures.none)) }

pub close-requires-clause-no_loan : goal.close-requires-clause-no_loan
close-requires-clause-no_loan g c = unlent_fresh (ledger g.W.SwapStore.held c.place_processes.new.self) c.place_processes.ensures.keeps.unlent

pub returns-in-Ok-clause-rights : goal.returns-in-Ok-clause-rights
returns-in-Ok-clause-rights g c = booted_rights g.W.SwapStore c.args.file.now c.args.plan.now
    c.in_ok-memory.memory c.place_processes.new.self (page_count c.as_slice.result.now) c.as_slice.result.now c.as_slice.ensures
    c.in_ok-memory.ensures.ledger c.requires.lawful.procs c.in-Ok.ensures.placed

pub returns-in-Ok-clause-whole : goal.returns-in-Ok-clause-whole
returns-in-Ok-clause-whole g c = booted_whole g.W.SwapStore c.args.file.now c.args.plan.now
    c.in_ok-memory.memory c.place_processes.new.self (page_count c.as_slice.result.now) c.as_slice.result.now c.as_slice.ensures
    c.in_ok-memory.ensures.ledger c.requires.lawful.procs c.in-Ok.ensures.placed
    c.in_ok-memory.ensures.free.none

pub returns-in-Ok-clause-tie : goal.returns-in-Ok-clause-tie
returns-in-Ok-clause-tie g c = sound-tied g.W.SwapStore c.place_processes.new.self c.place_processes.ensures.keeps.sound

use Rattle.std.proofs.Common.{◌≡◌, ◌≢◌, ◌<◌, ◌≤◌, ◌+◌, List, length, get_or, take, sym, ap, subst, ◌∙◌, arith}
use Rattle.std.specs.Prelude.{All, AllPairs}
use Rattle.boot_plan.specs.Lawful.{IsLawfulPage}
use Rattle.boot_plan.specs.declared.plans.PagePlan.{PagePlan}
use Rattle.boot_plan.specs.declared.plans.ProcPlan.{ProcPlan}
use Rattle.swap_map.proofs.ExchangeLemmas.{on_err}
use Rattle.vm_memory.specs.Memory.{capacity_of, frames_for_pages}
use Rattle.vm_memory.specs.Starting.{PlacesPages, page_count, place_pages, place_processes}
use Rattle.vm_memory.proofs.Booting.BootLemmas.{all_booted, kept_booted, next_booted, next_has_none, next_process, next_process_full, next_process_room, next_unlent, nothing_booted}
use Rattle.vm_memory.proofs.Booting.PlacingLemmas.{kept_then}
use Rattle.vm_memory.proofs.memory.Memory.place_processes.Goals as goal

pub processes-init : goal.processes-init
processes-init g c = nothing_booted g.W.SwapStore c.args.file.now c.args.plan.now c.args.self.now
    c.requires.sound c.requires.processes c.requires.empty
    c.requires.order c.requires.usable

pub place_process-requires-clause-process : goal.place_process-requires-clause-process
place_process-requires-clause-process g c = next_process g.W.SwapStore c.args.file.now c.args.plan.now c.args.self.now
    c.requires.sound c.requires.processes c.requires.empty
    c.processes.self c.processes.k c.processes-test.true c.index-plan-k.result c.processes.invariant

pub place_process-requires-clause-unlent : goal.place_process-requires-clause-unlent
place_process-requires-clause-unlent g c = next_unlent g.W.SwapStore c.args.file.now c.args.plan.now c.args.self.now
    c.requires.sound c.requires.processes c.requires.empty
    c.processes.self c.processes.k c.processes-test.true c.index-plan-k.result c.processes.invariant

pub place_process-requires-clause-free : goal.place_process-requires-clause-free
place_process-requires-clause-free g c = next_has_none g.W.SwapStore c.args.file.now c.args.plan.now c.args.self.now
    c.requires.sound c.requires.processes c.requires.empty
    c.processes.self c.processes.k c.processes-test.true c.index-plan-k.result c.processes.invariant

pub place_process-requires-clause-room : goal.place_process-requires-clause-room
place_process-requires-clause-room g c =
    let same : c.as_slice.result.now ≡ (get_or c.args.plan.now c.processes.k c.index-plan-k.result).pages = c.as_slice.ensures ∙ ap (λ (p : ProcPlan). p.pages) c.index-plan-k.is in
    subst (λ (xs : List PagePlan). c.processes.self.pages + length xs ≤ capacity_of c.processes.self) (sym same)
    (next_process_room g.W.SwapStore c.args.file.now c.args.plan.now c.args.self.now
    c.requires.sound c.requires.processes c.requires.empty
    c.processes.self c.processes.k c.processes-test.true c.index-plan-k.result c.processes.invariant
    c.requires.room)

pub place_process-requires-clause-lawful : goal.place_process-requires-clause-lawful
place_process-requires-clause-lawful g c =
    let same : c.as_slice.result.now ≡ (get_or c.args.plan.now c.processes.k c.index-plan-k.result).pages = c.as_slice.ensures ∙ ap (λ (p : ProcPlan). p.pages) c.index-plan-k.is in
    subst (λ (xs : List PagePlan). All (IsLawfulPage (length c.args.file.now)) xs) (sym same) (c.requires.lawful c.processes.k c.index-plan-k.result c.processes-test.true).pages

pub place_process-requires-clause-different : goal.place_process-requires-clause-different
place_process-requires-clause-different g c =
    let same : c.as_slice.result.now ≡ (get_or c.args.plan.now c.processes.k c.index-plan-k.result).pages = c.as_slice.ensures ∙ ap (λ (p : ProcPlan). p.pages) c.index-plan-k.is in
    subst (λ (xs : List PagePlan). AllPairs (λ (a b : PagePlan). a.vpn.0 ≢ b.vpn.0) xs) (sym same) (c.requires.lawful c.processes.k c.index-plan-k.result c.processes-test.true).different

pub processes-preserved : goal.processes-preserved
processes-preserved g c =
    let same : c.as_slice.result.now ≡ (get_or c.args.plan.now c.processes.k c.index-plan-k.result).pages = c.as_slice.ensures ∙ ap (λ (p : ProcPlan). p.pages) c.index-plan-k.is in
    next_booted g.W.SwapStore c.args.file.now c.args.plan.now c.args.self.now
    c.requires.sound c.requires.processes c.requires.empty
    c.processes.self c.processes.k c.processes-test.true c.index-plan-k.result c.processes.invariant
    c.place_process.new.self
    (subst (λ (xs : List PagePlan). PlacesPages g.W.SwapStore c.processes.self c.place_process.new.self
    (length xs) (place_pages c.args.file.now (record { 0 = c.processes.k + 2 }) xs)) same c.in_ok-place_process.ensures.placed)
    c.in_ok-place_process.ensures.order c.in_ok-place_process.ensures.usable

pub returns-in_err-place_process-clause-keeps : goal.returns-in_err-place_process-clause-keeps
returns-in_err-place_process-clause-keeps g c = kept_then g.W.SwapStore c.args.self.now c.processes.self c.place_process.new.self
    (page_count (take c.processes.k c.args.plan.now)) (place_processes c.args.file.now 2 (take c.processes.k c.args.plan.now))
    c.processes.invariant.placed c.place_process.ensures.keeps

pub returns-in_err-place_process-clause-full : goal.returns-in_err-place_process-clause-full
returns-in_err-place_process-clause-full g c =
    let same : c.as_slice.result.now ≡ (get_or c.args.plan.now c.processes.k c.index-plan-k.result).pages = c.as_slice.ensures ∙ ap (λ (p : ProcPlan). p.pages) c.index-plan-k.is in
    on_err c.from_residual.result (frames_for_pages c.args.self.now < c.args.self.now.pages + page_count c.args.plan.now)
    (next_process_full g.W.SwapStore c.args.file.now c.args.plan.now c.args.self.now
    c.requires.sound c.requires.processes c.requires.empty
    c.processes.self c.processes.k c.processes-test.true c.index-plan-k.result c.processes.invariant
    (subst (λ (xs : List PagePlan). frames_for_pages c.processes.self < c.processes.self.pages + length xs) same c.in_err-place_process.ensures.full))

pub returns-clause-keeps : goal.returns-clause-keeps
returns-clause-keeps g c = kept_booted g.W.SwapStore c.args.file.now c.args.plan.now c.args.self.now
    c.requires.sound c.requires.processes c.requires.empty
    c.processes.self c.processes.k c.processes.invariant

pub returns-clause-placed : goal.returns-clause-placed
returns-clause-placed g c = all_booted g.W.SwapStore c.args.file.now c.args.plan.now c.args.self.now
    c.requires.sound c.requires.processes c.requires.empty
    c.processes.self c.processes.k (omega arith) c.processes.invariant

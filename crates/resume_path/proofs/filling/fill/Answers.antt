use Rattle.std.proofs.Common.{ap, length, ◌∙◌}
use Rattle.ledger_model.proofs.Stepping.WritingLemmas.{bare-loans}
use Rattle.vm_memory.specs.Loaning.Lending.{with_bytes_at}
use Rattle.vm_memory.specs.Memory.{Size, ledger, processes}
use Rattle.vm_memory.specs.Using.Access.{reaches_bytes}
use Rattle.xk_base.specs.declared.pages.Access.TheVariants.{Store}
use Rattle.resume_path.proofs.Homes.ComingLemmas.{fill_comes, fill_rights, on_failed, reached_alike}
use Rattle.resume_path.proofs.filling.fill.Goals as goal

-- src/filling.rt
pub returns-in_err-reach-clause-failed : goal.returns-in_err-reach-clause-failed
returns-in_err-reach-clause-failed g c =
    on_failed g.W.SwapStore c.from_residual.result c.args.mem.now c.reach.new.self c.in_err-reach.ensures.sound
    (bare-loans (ledger g.W.SwapStore.held c.args.mem.now) (ledger g.W.SwapStore.held c.reach.new.self) c.in_err-reach.ensures.rights)
    c.in_err-reach.ensures.cause

pub bytes_mut-requires-clause-may : goal.bytes_mut-requires-clause-may
bytes_mut-requires-clause-may g c =
    reached_alike (processes c.reach.new.self) (ledger g.W.SwapStore.held c.args.mem.now) (ledger g.W.SwapStore.held c.reach.new.self) c.args.at Store c.in_ok-reach.ensures.rights
    ∙ (ap (λ (s : Size). reaches_bytes s.procs (ledger g.W.SwapStore.held c.args.mem.now) c.args.at Store) c.in_ok-reach.ensures.size ∙ c.requires.may)

pub returns-clause-comes : goal.returns-clause-comes
returns-clause-comes g c =
    let long = ap length c.copy_from_slice.ensures.after ∙ c.requires.whole in
    fill_comes g.W.SwapStore c.args.mem.now c.reach.new.self
    (with_bytes_at c.reach.new.self c.args.at c.copy_from_slice.new.self) c.args.at c.args.bytes.now c.copy_from_slice.new.self
    (record { size = c.in_ok-reach.ensures.size; store = c.in_ok-reach.ensures.store }) c.in_ok-reach.ensures.rights c.requires.home c.copy_from_slice.ensures.after
    (c.bytes_mut.ensures.writes c.copy_from_slice.new.self long) c.in_ok-reach.ensures.sound c.in_ok-reach.ensures.usable c.in_ok-reach.ensures.whole c.in_ok-reach.ensures.none
    (c.bytes_mut.ensures.size c.copy_from_slice.new.self) (c.bytes_mut.ensures.store c.copy_from_slice.new.self) (c.bytes_mut.ensures.sound c.copy_from_slice.new.self long)
    (c.bytes_mut.ensures.usable c.copy_from_slice.new.self) (c.bytes_mut.ensures.none c.copy_from_slice.new.self)

pub returns-clause-rights : goal.returns-clause-rights
returns-clause-rights g c =
    let long = ap length c.copy_from_slice.ensures.after ∙ c.requires.whole in
    fill_rights g.W.SwapStore c.args.mem.now c.reach.new.self
    (with_bytes_at c.reach.new.self c.args.at c.copy_from_slice.new.self) c.args.at c.args.bytes.now c.copy_from_slice.new.self
    (record { size = c.in_ok-reach.ensures.size; store = c.in_ok-reach.ensures.store }) c.in_ok-reach.ensures.rights c.requires.home c.copy_from_slice.ensures.after
    (c.bytes_mut.ensures.writes c.copy_from_slice.new.self long)

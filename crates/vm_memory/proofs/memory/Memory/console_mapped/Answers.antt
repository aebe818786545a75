use Rattle.std.proofs.Common.{arith, below_more, sym, ◌∙◌, ◌+◌, ◌≡◌, true}
use Rattle.xk_base.specs.Tables.Circle.{is_pid}
use Rattle.vm_memory.specs.Memory.{ledger, processes}
use Rattle.vm_memory.proofs.Changing.ConsoleRunLemmas.{console_by_entries, mapped_found, mapped_missed, pid_there}
use Rattle.vm_memory.proofs.memory.Memory.console_mapped.Goals as goal

pub maps_console-requires : goal.maps_console-requires
maps_console-requires g c = record {
  made = c.requires.sound.agree.made (2 + c.loop-k.k)
      (pid_there (processes c.args.self.now) c.loop-k.k (omega (arith, c.loop-k-test.true, c.requires.sound.procs)));
}

pub returns-then-maps_console : goal.returns-then-maps_console
returns-then-maps_console g c =
    let process : is_pid (processes c.args.self.now) (2 + c.loop-k.k) ≡ true =
    pid_there (processes c.args.self.now) c.loop-k.k (omega (arith, c.loop-k-test.true, c.requires.sound.procs)) in
    sym (mapped_found (processes c.args.self.now) (ledger g.W.SwapStore.held c.args.self.now) (record { 0 = 2 + c.loop-k.k }) process
    (sym (console_by_entries g.W.SwapStore.held c.args.self.now (record { 0 = 2 + c.loop-k.k }))
    ∙ (sym (c.maps_console.ensures (processes c.args.self.now) process) ∙ c.if-maps_console.true)))

pub loop-k-preserved : goal.loop-k-preserved
loop-k-preserved g c = below_more _ _ c.loop-k.invariant
    (sym (console_by_entries g.W.SwapStore.held c.args.self.now (record { 0 = 2 + c.loop-k.k }))
    ∙ (sym (c.maps_console.ensures (processes c.args.self.now)
    (pid_there (processes c.args.self.now) c.loop-k.k (omega (arith, c.loop-k-test.true, c.requires.sound.procs)))) ∙ c.if-maps_console.false))

pub returns : goal.returns
returns g c = sym (mapped_missed g.W.SwapStore c.args.self.now c.requires.sound
    (λ j low. c.loop-k.invariant j (omega (arith, low, c.loop-k-test.false, c.requires.sound.procs))))

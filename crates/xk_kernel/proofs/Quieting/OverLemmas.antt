-- An instruction of a thread in hand over its memory, while that is lent, is the quiet step of every kernel around it, or isn't done.
use Rattle.xk_ports.specs.declared.store.SwapStore.{Ghosts as SwapStore}
use Rattle.std.proofs.Common.{◌≡◌, ℕ, ◌+◌, true, false, Option, sym, ap, subst, ◌∙◌, inl, inr}
use Rattle.rv32_atomics.specs.Performing.{Core, Performs, PerformsOrLeaves, core_left}
use Rattle.rv32_hart.specs.declared.ran.Ran.{Ran}
use Rattle.rv32_hart.specs.declared.ran.Ran.TheVariants as ran
use Rattle.xk_parts.specs.Shown.{thread_of}
use Rattle.thread_table.specs.States.{is_ready_state}
use Rattle.thread_table.specs.declared.thread.Thread.{Thread as TableThread}
use Rattle.vm_memory.specs.Using.UserView.{KeepsRest}
use Rattle.vm_memory.specs.declared.memory.Memory.{Memory}
use Rattle.xk_base.specs.declared.ids.Pid.{Pid}
use Rattle.xk_base.specs.declared.ids.ThreadId.{ThreadId}
use Rattle.xk_kernel.specs.Quiet.{StepsIfQuiet, in_hand}
use Rattle.xk_kernel.specs.QuietOver.{Lent, StepsOver, around}
use Rattle.xk_kernel.specs.State.{machine_of}
use Rattle.xk_kernel.specs.declared.kernel.Kernel.{Kernel}
use Rattle.xk_kernel.proofs.Quieting.InstructionLemmas.{IsOther, has_done, next_done, next_is_quiet, other_done, other_is_loud, view_of}

-- what is lent, with a thread of the table in hand
abbrev pub lent : {W : Type 0} → Memory W → TableThread → Option ℕ → Lent W
lent mem t reserved = record { mem = mem; thread = thread_of t; reserved = reserved }

abbrev pub core_of : TableThread → Option ℕ → Core
core_of t reserved = record { regs = t.regs; reserved = reserved }

-- what it has afterwards, by the answer
left_by_next : (old done new : Core) (answer : Ran) (next : ℕ) → answer ≡ ran.Next next → new ≡ core_left old done answer → new ≡ done
left_by_next old done new answer next is e = e ∙ ap (core_left old done) is

left_by_other : (old done new : Core) (answer : Ran) → IsOther answer → new ≡ core_left old done answer → new ≡ old
left_by_other old done new answer (inl is) e = e ∙ ap (core_left old done) is
left_by_other old done new answer (inr (inl is)) e = e ∙ ap (core_left old done) is.2
left_by_other old done new answer (inr (inr is)) e = e ∙ ap (core_left old done) is.3

module _ {W : Type 0} (S : SwapStore W)
    (who : ThreadId) (old : Memory W) (t : TableThread) (ready : is_ready_state t.state ≡ true) (reserved : Option ℕ) where
  -- the process of the memory is the thread's, then and now
  module _ (pid other : Pid) (own : pid ≡ who.pid) (same : other ≡ pid) (new : Memory W)
      (kept : KeepsRest S pid old new) (core : Core) (answer : Ran)
      (run : PerformsOrLeaves (view_of S old pid) (view_of S new other) (core_of t reserved) core t.pc answer) where
    rest : KeepsRest S who.pid old new
    rest = subst (λ p. KeepsRest S p old new) own kept

    performs : Performs (view_of S old who.pid) (view_of S new other) (core_of t reserved) run.done t.pc answer
    performs = subst (λ p. Performs (view_of S old p) (view_of S new other) (core_of t reserved) run.done t.pc answer) own run.does

    -- an instruction by which the thread doesn't go on isn't done
    pub other_over : IsOther answer
        → StepsOver S who (lent old t reserved) (lent new (record t { regs = core.regs }) core.reserved) false
    other_over is k may n undue means =
        let a : Kernel W = around old who k in
        let done = has_done S a new other (same ∙ own) may.whole may.matched rest
        (core_of t reserved) run.done t.pc answer performs (other_done answer is) means in
        subst (λ (c : Core). StepsIfQuiet false (in_hand who (thread_of t) reserved n (machine_of S.held (around old who k)))
        (in_hand who (thread_of (record t { regs = c.regs })) c.reserved n (machine_of S.held (around new who k))))
        (sym (left_by_other (core_of t reserved) run.done core answer is run.core))
        (other_is_loud S a new other (same ∙ own) may.whole may.matched rest t ready reserved n
        run.done answer done is)

    -- any other is the quiet step
    pub next_over : (next : ℕ) → answer ≡ ran.Next next
        → StepsOver S who (lent old t reserved) (lent new (record t { regs = core.regs; pc = next }) core.reserved) true
    next_over next is k may n undue means =
        let a : Kernel W = around old who k in
        let done = has_done S a new other (same ∙ own) may.whole may.matched rest
        (core_of t reserved) run.done t.pc answer performs (next_done answer next is) means in
        subst (λ (c : Core). StepsIfQuiet true (in_hand who (thread_of t) reserved n (machine_of S.held (around old who k)))
        (in_hand who (thread_of (record t { regs = c.regs; pc = next })) c.reserved (n + 1) (machine_of S.held (around new who k))))
        (sym (left_by_next (core_of t reserved) run.done core answer next is run.core))
        (next_is_quiet S a new other (same ∙ own) may.whole may.matched rest t ready reserved n
        run.done answer done next is undue)

-- A thread at `jal x0, 0` jumps to itself, whatever it has reserved, and however many steps are done.
use Rattle.std.proofs.Common.{◌≡◌, ℕ, ◌+◌, ◌<◌, Bool, true, false, List, Option, None, refl, sym, ap, ◌∙◌, arith}
use Rattle.std.specs.Prelude.{◌%◌, ◌&&◌, ◌||◌, is_some, if◌then◌else◌}
use Rattle.std.proofs.lemmas.Bool.{eq-eqb}
use Rattle.xk_base.specs.declared.ids.ThreadId.{ThreadId}
use Rattle.xk_base.specs.declared.pages.Access.TheVariants.{Fetch}
use Rattle.xk_base.specs.declared.pages.Width.TheVariants.{Word}
use Rattle.xk_base.specs.UserMemory.{Memory, number_at, timer_at}
use Rattle.rv32_words.specs.Reading.{insn_at}
use Rattle.ledger_model.specs.Reach.{reach, role_at}
use Rattle.machine_model.specs.Hart.Atomics.{atomic_at, execute, execute_at, leaving, perform}
use Rattle.machine_model.specs.Hart.Instructions.{Next, Traps, execute_base, fetch_page_fault, jumps, target_misaligned}
use Rattle.machine_model.specs.State.Machine.{Machine}
use Rattle.machine_model.specs.State.Threads.{first_thread}
use Rattle.machine_model.specs.State.Views.{memory_of, page_reached, timer_of}
use Rattle.machine_model.specs.Worked.Rows.{id_of, small_machine}
use Rattle.laws.specs.Spinning.{IsAtJump, JumpSpins, SomeIsAtRisk, jump_to_itself, jumping_machine}

-- ---- the instruction

module _ (mem : Memory) (regs : List ℕ) (pc : ℕ) (aligned : pc % 4 ≡ 0) (fits : pc < 4294967296) where
  target : (pc + 0) % 4294967296 ≡ pc
  target = omega (arith, fits)

  by_table : execute_base regs pc jump_to_itself mem ≡ Next regs pc
  unfolding execute_base insn_at
  by_table = ap (jumps regs pc 0) target ∙ ap (λ b. if b then Next regs pc else Traps target_misaligned pc) (eq-eqb (pc % 4) 0 aligned)

  not_atomic : atomic_at jump_to_itself ≡ None
  unfolding atomic_at
  not_atomic = refl

  module _ (reserved : Option ℕ) (fetches : mem.may Fetch pc ≡ true) (word : number_at mem.byte pc Word ≡ jump_to_itself) where
    pub jumps_to_itself : (execute_at regs pc reserved mem).executed ≡ Next regs pc
    unfolding execute_at execute
    jumps_to_itself =
        ap
        (λ b. (if b then perform mem regs pc (number_at mem.byte pc Word) reserved (atomic_at (number_at mem.byte pc Word))
        else leaving reserved (Traps fetch_page_fault pc)).executed) fetches
        ∙ (ap (λ w. (perform mem regs pc w reserved (atomic_at w)).executed) word
        ∙ (ap (λ o. (perform mem regs pc jump_to_itself reserved o).executed) not_atomic ∙ by_table))

-- ---- the memory, however many steps are done

never_timer : (a b : Bool) → ((a && false) || b) ≡ b
never_timer true b = refl
never_timer false b = refl

module _ (m : Machine) (who : ThreadId) (steps pc : ℕ) where
  same_fetch : (memory_of (record m { steps = steps }) who.pid).may Fetch pc ≡ (memory_of m who.pid).may Fetch pc
  unfolding memory_of
  same_fetch =
      never_timer (is_some (timer_at (timer_of (record m { steps = steps }) who.pid) pc)) (is_some (page_reached m who.pid Fetch pc))
      ∙ sym (never_timer (is_some (timer_at (timer_of m who.pid) pc)) (is_some (page_reached m who.pid Fetch pc)))

  same_bytes : number_at (memory_of (record m { steps = steps }) who.pid).byte pc Word ≡ number_at (memory_of m who.pid).byte pc Word
  unfolding memory_of
  same_bytes = refl

pub jump_spins : JumpSpins
jump_spins m who at = record {
  thread = at.thread;
  there = at.there;
  ready = at.ready;
  thread_goes_on = at.thread_goes_on;
  handler_goes_on = at.handler_goes_on;
  jumps = λ reserved steps.
      jumps_to_itself (memory_of (record m { steps = steps }) who.pid) at.thread.regs at.thread.pc at.aligned at.fits reserved
      (same_fetch m who steps at.thread.pc ∙ at.fetches) (same_bytes m who steps at.thread.pc ∙ at.word);
}

-- ---- a witness

at_the_jump : IsAtJump (id_of 2 2) jumping_machine
unfolding small_machine memory_of reach role_at
at_the_jump = record {
  thread = first_thread 65536;
  there = refl;
  ready = refl;
  thread_goes_on = refl;
  handler_goes_on = refl;
  fetches = refl;
  word = refl;
  aligned = refl;
  fits = omega arith;
}

pub some_is_at_risk : SomeIsAtRisk
unfolding small_machine
some_is_at_risk = record { spins = jump_spins jumping_machine (id_of 2 2) at_the_jump; unarmed = refl; ready = refl; apart = refl }

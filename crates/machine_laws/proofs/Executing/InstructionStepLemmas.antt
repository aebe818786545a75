-- The step of an instruction keeps the machine matched, and stores to one page at most.
use Rattle.std.proofs.Common.{◌≡◌, ℕ, ◌+◌, Bool, true, false, ◌⊎◌, inl, inr, List, Option, Some, None, refl, sym, subst, arith}
use Rattle.std.specs.Prelude.{◌%◌, if◌then◌else◌, is_some}
use Rattle.std.specs.Option.{option_and_then, option_map, option_map_or}
use Rattle.std.proofs.lemmas.Bool.{false≢true, eqb-true}
use Rattle.std.proofs.lemmas.Option.{none-some, same_Some}
use Rattle.xk_base.specs.declared.ids.Pid.{Pid}
use Rattle.xk_base.specs.declared.ids.ThreadId.{ThreadId}
use Rattle.xk_base.specs.declared.limits.TheConstants.{TIMER_INTERRUPT}
use Rattle.xk_base.specs.declared.pages.Access.TheVariants.{Store}
use Rattle.xk_base.specs.declared.pages.Width.{Width}
use Rattle.xk_base.specs.Tables.Circle.{same_thread}
use Rattle.xk_base.specs.Tables.Counting.{put_at}
use Rattle.xk_base.specs.UserMemory.{Timer, compare_stored, low_bytes, size_of}
use Rattle.ledger_model.specs.Ledger.{PageName}
use Rattle.machine_model.specs.Stepping.Acts.{does_instruction, executes, is_instruction}
use Rattle.machine_model.specs.Stepping.Interrupts.{is_claim_of}
use Rattle.machine_model.specs.Stepping.Reservations.{reserved_by}
use Rattle.machine_model.specs.Hart.Instructions.{Executed, Next, Stores, StoresToConsole, StoresToTimer, CallsKernel, Traps}
use Rattle.machine_model.specs.Runs.Isolation.{InstructionStoresOnePage, IsOneStore}
use Rattle.machine_model.specs.Runs.Kept.{Settles}
use Rattle.machine_model.specs.Runs.Matched.{Matched}
use Rattle.machine_model.specs.State.Machine.{Claim, Machine, Thread}
use Rattle.machine_model.specs.State.Order.{actor}
use Rattle.machine_model.specs.Stepping.Step.{step, acted, executed, ends_thread, ends_handler, performed}
use Rattle.machine_model.specs.State.Threads.{with_registers}
use Rattle.machine_model.specs.State.Views.{memory_of, page_reached, stored, timer_of, timer_set, write_to}
use Rattle.machine_laws.proofs.Threading.ChangedThreadLemmas.{like_changed}
use Rattle.machine_laws.proofs.Executing.InstructionEffectLemmas.{IsSound, execute_at_sound}
use Rattle.machine_laws.proofs.Calling.PageChangeLemmas.{on_ledger, matched_on}
use Rattle.machine_laws.proofs.Stepping.StepKindLemmas.{acted_as_executed}
use Rattle.machine_laws.proofs.Threading.LikeThreadLemmas.{matched_with}
use Rattle.machine_laws.proofs.Threading.ThreadMoveLemmas.{matched_claimed}
use Rattle.machine_laws.proofs.Threading.ThreadStepLemmas.{step_keeps, step_ledger, turned_to}
use Rattle.machine_laws.proofs.Executing.StoredByteLemmas.{may_store, like_written}

-- ---- what an instruction leaves

-- What is to be shown of a step by an instruction.
record IsKept (m : Machine) (who : ThreadId) (after : Machine) : Type 0 where
  matched : Settles m after
  ledger : (after.ledger ≡ m.ledger) ⊎ IsOneStore who.pid m after.ledger

module _ (m : Machine) (who : ThreadId) (h : Matched m) where
  next_matched : (regs : List ℕ) (pc : ℕ) → pc % 4 ≡ 0
      → Matched (record m { cursor = who; steps = m.steps + 1; threads = put_at same_thread m.threads who (option_map (with_registers regs pc) (m.threads who)) })
  next_matched regs pc al =
      matched_with (put_at same_thread m.threads who (option_map (with_registers regs pc) (m.threads who))) m
      (like_changed m who (with_registers regs pc) h (λ t e. record { state = refl; pc = al })) h who (m.steps + 1) (omega arith)

  -- the ledger of a store
  store_matched : (address : ℕ) (width : Width) (value : ℕ) → address % size_of width ≡ 0 → (o : Option PageName)
      → page_reached m who.pid Store address ≡ o
      → Matched (on_ledger (write_to o (address % 4096) (low_bytes width value) m.ledger) m)
  store_matched address width value al None e = h
  store_matched address width value al (Some page) e =
      matched_on (write_to (Some page) (address % 4096) (low_bytes width value) m.ledger) m
      (like_written m page (address % 4096) (low_bytes width value) h (may_store m who.pid address width value page e al)) h

  store_one : (address : ℕ) (width : Width) (value : ℕ) → address % size_of width ≡ 0 → (o : Option PageName)
      → page_reached m who.pid Store address ≡ o
      → (write_to o (address % 4096) (low_bytes width value) m.ledger ≡ m.ledger)
      ⊎ IsOneStore who.pid m (write_to o (address % 4096) (low_bytes width value) m.ledger)
  store_one address width value al None e = inl refl
  store_one address width value al (Some page) e = inr (record {
    page = page;
    offset = address % 4096;
    bytes = low_bytes width value;
    store = may_store m who.pid address width value page e al;
    own = refl;
    written = refl;
  })

-- a store to the timer's page, by the process that has claimed its interrupt
timer_is_claimed : (pid : Pid) (o : Option Claim) (steps : ℕ) (compare : Option ℕ)
    → is_some {T = Timer} (if is_claim_of pid o then Some (record { steps = steps; compare = compare }) else None) ≡ true → is_some o ≡ true
timer_is_claimed pid None steps compare e = absurd (false≢true e)
timer_is_claimed pid (Some claim) steps compare e = refl

timer_matched : (m : Machine) (pid : Pid) → Matched m → is_some (timer_of m pid) ≡ true → (compare : Option ℕ)
    → Matched (record m { compare = compare })
timer_matched m pid h there compare =
    matched_claimed m h m.claims m.pending compare (record {
      handlers = h.rest.handlers;
      claims = h.rest.claims;
      timer = λ e. timer_is_claimed pid (m.claims TIMER_INTERRUPT) m.steps m.compare there;
    })

module _ (m : Machine) (who : ThreadId) (h : Matched m) (t : Thread) where
  executed_kept : (e : Executed) → IsSound (memory_of m who.pid) e → is_instruction e ≡ true → IsKept m who (executed (turned_to who m) t e).machine
  unfolding stored timer_set memory_of
  executed_kept (Next regs pc) sound i = record { matched = next_matched m who h regs pc sound.0; ledger = inl refl }
  executed_kept (StoresToConsole offset value regs pc) sound i = record { matched = next_matched m who h regs pc sound.0; ledger = inl refl }
  executed_kept (StoresToTimer offset width value regs pc) sound i = record {
    matched = next_matched (record m { compare = compare_stored offset width value m.compare }) who
        (timer_matched m who.pid h sound.2 (compare_stored offset width value m.compare)) regs pc sound.0;
    ledger = inl refl;
  }
  executed_kept (Stores address width value regs pc) sound i =
      let al : address % size_of width ≡ 0 = eqb-true (address % size_of width) 0 sound.1 in
      record {
        matched = next_matched
            (on_ledger (write_to (page_reached m who.pid Store address) (address % 4096) (low_bytes width value) m.ledger) m) who
            (store_matched m who h address width value al (page_reached m who.pid Store address) refl) regs pc sound.0;
        ledger = store_one m who h address width value al (page_reached m who.pid Store address) refl;
      }
  executed_kept CallsKernel sound i = absurd (false≢true i)
  executed_kept (Traps cause value) sound i = absurd (false≢true i)

  -- what is executed is sound
  executes_sound : m.threads who ≡ Some t → (e : Executed) → executes m who t ≡ Some e → IsSound (memory_of m who.pid) e
  executes_sound there e x =
      go (ends_thread who t.pc) (ends_handler who t.pc) (performed m who t).executed x
      (execute_at_sound t.regs t.pc (reserved_by who m.reserved) (memory_of m who.pid) (h.body.threads.pcs who t there))
    where
      go : (a b : Bool) (y : Executed) → (if a then None else (if b then None else Some y)) ≡ Some e
          → IsSound (memory_of m who.pid) y → IsSound (memory_of m who.pid) e
      go true b y q sound = absurd (none-some e q)
      go false true y q sound = absurd (none-some e q)
      go false false y q sound = subst (IsSound (memory_of m who.pid)) (same_Some y e q) sound

  acted_kept : m.threads who ≡ Some t → (e : Executed) → executes m who t ≡ Some e → is_instruction e ≡ true
      → IsKept m who (acted (turned_to who m) t).machine
  acted_kept there e x i =
      subst (λ told. IsKept m who told.machine) (sym (acted_as_executed m who t e x)) (executed_kept e (executes_sound there e x) i)

-- the thread that does the instruction
record DoesInstruction (m : Machine) (who : ThreadId) : Type 0 where
  thread : Thread
  there : m.threads who ≡ Some thread
  executed : Executed
  does : executes m who thread ≡ Some executed
  is : is_instruction executed ≡ true

does_which : (m : Machine) (who : ThreadId) → does_instruction m who ≡ true → DoesInstruction m who
unfolding does_instruction
does_which m who d = go (m.threads who) refl d
  where
    of_thread : (t : Thread) → m.threads who ≡ Some t → (o : Option Executed) → executes m who t ≡ o → option_map_or is_instruction o false ≡ true
        → DoesInstruction m who
    of_thread t q None r i = absurd (false≢true i)
    of_thread t q (Some e) r i = record { thread = t; there = q; executed = e; does = r; is = i }

    go : (o : Option Thread) → m.threads who ≡ o → option_map_or is_instruction (option_and_then (executes m who) o) false ≡ true
        → DoesInstruction m who
    go None q r = absurd (false≢true r)
    go (Some t) q r = of_thread t q (executes m who t) refl r

pub instruction_matched : (m : Machine) (who : ThreadId) → Matched m → actor m ≡ Some who → does_instruction m who ≡ true
    → Matched (step m).machine
instruction_matched m who h e d =
    let by : DoesInstruction m who = does_which m who d in
    step_keeps m who by.thread e by.there (acted_kept m who h by.thread by.there by.executed by.does by.is).matched

pub instruction_stores : InstructionStoresOnePage
instruction_stores m who h e d =
    let by : DoesInstruction m who = does_which m who d in
    subst (λ ledger. (ledger ≡ m.ledger) ⊎ IsOneStore who.pid m ledger) (sym (step_ledger m who by.thread e by.there))
    (acted_kept m who h by.thread by.there by.executed by.does by.is).ledger

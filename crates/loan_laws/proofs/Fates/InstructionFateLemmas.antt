-- The fate of a number in the step of an instruction: its loan is kept, and only its holder changes bytes of its pages, under Exclusive.
use Rattle.std.proofs.Common.{◌≡◌, ◌≢◌, ℕ, ◌<◌, ◌≤◌, true, Some, refl, sym, ap, ◌∙◌, ◌⊎◌, inl, inr, arith, subst}
use Rattle.std.proofs.lemmas.Bool.{false≢true}
use Rattle.xk_base.specs.declared.ids.Number.{Number}
use Rattle.xk_base.specs.declared.ids.Pid.{Pid}
use Rattle.xk_base.specs.declared.ids.ThreadId.{ThreadId}
use Rattle.xk_base.specs.declared.pages.LoanKind.TheVariants.{Exclusive}
use Rattle.ledger_model.specs.Ledger.{contents_of}
use Rattle.ledger_model.specs.Loans.{LoanRun, IsFresh, Stands, loans}
use Rattle.ledger_model.proofs.ReachingLemmas.{write_others}
use Rattle.ledger_model.proofs.Stepping.WritingLemmas.{write_loans}
use Rattle.machine_model.specs.Hart.Instructions.{Executed, Next, Stores, StoresToConsole, StoresToTimer, CallsKernel, Traps}
use Rattle.machine_model.specs.Runs.Isolation.{IsOneStore}
use Rattle.machine_model.specs.Runs.LoanSpan.{IsIn, IsInstructionOf, IsOut, page_bytes, page_name, right_of_name}
use Rattle.machine_model.specs.Runs.Matched.{Matched}
use Rattle.machine_model.specs.Runs.Moments.{ByStep, Moment, moment_of}
use Rattle.machine_model.specs.State.Machine.{Machine, Thread}
use Rattle.machine_model.specs.State.Order.{actor}
use Rattle.machine_model.specs.State.Views.{stored, timer_set}
use Rattle.machine_model.specs.Stepping.Acts.{does_instruction, executes, is_instruction}
use Rattle.machine_model.specs.Stepping.Step.{executed, step}
use Rattle.machine_model.proofs.Runs.SpanLemmas.{out_or_in}
use Rattle.machine_laws.proofs.Executing.InstructionStepLemmas.{instruction_stores}
use Rattle.machine_laws.proofs.Stepping.StepKindLemmas.{acted_as_executed, is_done}
use Rattle.machine_laws.proofs.Threading.ThreadStepLemmas.{turned_to}
use Rattle.loan_laws.specs.Fates.{Fate, IsKept}
use Rattle.loan_laws.specs.Leaving.{Leaves}
use Rattle.loan_laws.proofs.Fates.FateLemmas.{fate_in, fate_left, fate_out}
use Rattle.loan_laws.proofs.Fates.LikeLemmas.{step_like}
use Rattle.loan_laws.proofs.Leaving.NumberPageLemmas.{leaves_itself}
use Rattle.loan_laws.proofs.Leaving.StoredPageLemmas.{IsHolders, names_tell, right_written, stored_by}

module _ (number : Number) (m : Machine) (h : Matched m) (moment : Moment) (who : ThreadId) where
  abbrev later : Machine
  later = moment.machine

  same_place_of_page : (pid : Pid) (s : IsOneStore pid m later.ledger) → loans later.ledger ≡ loans m.ledger
  same_place_of_page pid s = ap loans s.written ∙ write_loans s.page s.offset s.bytes m.ledger

  store_kept : (s : IsOneStore who.pid m later.ledger) (a : LoanRun) → IsOut number m a
      → ((pid : Pid) → who.pid ≡ pid → IsInstructionOf pid m moment) → IsKept number m moment a a
  store_kept s a out instruction = record {
    kind = refl;
    count = refl;
    lender = λ home e. e;
    rights = λ home k e low.
        sym (right_written s.page (page_name a k) s.offset s.bytes m.ledger) ∙ ap (λ l. right_of_name l (page_name a k)) (sym s.written);
    holder = inl refl;
    bytes = λ k low. bytes k low (names_tell (page_name a k) s.page);
  }
    where
      bytes : (k : ℕ) → k < a.count → (page_name a k ≡ s.page) ⊎ (page_name a k ≢ s.page)
          → (page_bytes m a k ≡ page_bytes later a k) ⊎ ((a.kind ≡ Exclusive) × IsInstructionOf a.holder.pid m moment)
      bytes k low (inr other) =
          inl (sym (write_others s.page (page_name a k) s.offset s.bytes m.ledger other) ∙ ap (λ l. contents_of l (page_name a k)) (sym s.written))
      bytes k low (inl this) =
          let by : IsHolders a s.store.place =
          stored_by m.processes m.capacity m.ledger h.body.ledger.lawful a out.stands k low s.store.place (s.store.reached ∙ ap Some (sym this)) in
          inr (by.kind, instruction a.holder.pid (sym s.own ∙ by.own))

  store_fate : IsOneStore who.pid m later.ledger → ((pid : Pid) → who.pid ≡ pid → IsInstructionOf pid m moment)
      → m.next_number ≤ later.next_number → Fate number m moment
  store_fate s instruction climbs = go (out_or_in m number h)
    where
      same : loans later.ledger ≡ loans m.ledger
      same = same_place_of_page who.pid s

      go : IsIn number m ⊎ ((loan : LoanRun) × IsOut number m loan) → Fate number m moment
      go (inl fresh) = fate_in number m moment fresh (subst (λ x. IsFresh x number) (sym same) fresh) climbs
      go (inr (a, out)) =
          fate_out number m moment a a out
          (record { numbered = out.numbered; some = out.some; stands = subst (λ x. Stands x a) (sym same) out.stands })
          (store_kept s a out instruction) climbs

  instruction_fate : (later.ledger ≡ m.ledger) ⊎ IsOneStore who.pid m later.ledger
      → ((pid : Pid) → who.pid ≡ pid → IsInstructionOf pid m moment) → m.next_number ≤ later.next_number → Fate number m moment
  instruction_fate (inl same) instruction climbs =
      fate_left number m moment h (subst (λ l. Leaves number m.ledger l) (sym same) (leaves_itself number m.ledger)) climbs
  instruction_fate (inr s) instruction climbs = store_fate s instruction climbs

-- no number is taken
executed_number : (m : Machine) (t : Thread) (x : Executed) → is_instruction x ≡ true → (executed m t x).machine.next_number ≡ m.next_number
unfolding stored timer_set
executed_number m t (Next regs pc) i = refl
executed_number m t (Stores address width value regs pc) i = refl
executed_number m t (StoresToConsole offset value regs pc) i = refl
executed_number m t (StoresToTimer offset width value regs pc) i = refl
executed_number m t CallsKernel i = absurd (false≢true i)
executed_number m t (Traps cause value) i = absurd (false≢true i)

pub instruction_has_fates : (m : Machine) (number : Number) (who : ThreadId) (t : Thread) (x : Executed) → Matched m → actor m ≡ Some who
    → m.threads who ≡ Some t → executes m who t ≡ Some x → is_instruction x ≡ true → Fate number m (moment_of ByStep m)
instruction_has_fates m number who t x h acts there does i =
    let done : does_instruction m who ≡ true = is_done m who t there x does i in
    let same : (step m).machine.next_number ≡ m.next_number =
    (step_like m who t acts there).number
    ∙ (ap (λ told. told.machine.next_number) (acted_as_executed m who t x does) ∙ executed_number (turned_to who m) t x i) in
    instruction_fate number m h (moment_of ByStep m) who (instruction_stores m who h acts done)
    (λ pid e. record { who = who; step = refl; by_who = acts; of_process = e; instruction = done })
    (omega arith)

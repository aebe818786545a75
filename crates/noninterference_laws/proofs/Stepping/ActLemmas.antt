-- A step of the group is told and seen by its act alone.
use Rattle.std.proofs.Common.{◌≡◌, ℕ, Bool, true, false, List, [], ◌∷◌, Option, Some, None, refl, sym, ap, ◌∙◌}
use Rattle.std.specs.Prelude.{◌==◌, ◌%◌, if◌then◌else◌}
use Rattle.std.specs.Option.{option_map}
use Rattle.xk_base.specs.declared.ids.ThreadId.{ThreadId}
use Rattle.xk_base.specs.declared.pages.Access.TheVariants.{Store}
use Rattle.xk_base.specs.declared.records.What.TheVariants.{Byte, Call, End, Fault}
use Rattle.xk_base.specs.Calls.Registers.{reg_at}
use Rattle.xk_base.specs.Tables.Circle.{same_thread}
use Rattle.xk_base.specs.Tables.Counting.{put_at}
use Rattle.xk_base.specs.UserMemory.{compare_stored, low_bytes}
use Rattle.ledger_model.specs.Ledger.{Ledger, PageName}
use Rattle.ledger_model.specs.Steps.{write}
use Rattle.ledger_model.proofs.Stepping.WritingLemmas.{write_bare}
use Rattle.machine_model.specs.Calling.Calls.{call}
use Rattle.machine_model.specs.Ending.Ends.{death, handler_ended, thread_ended}
use Rattle.machine_model.specs.Hart.Instructions.{CallsKernel, Executed, Next, Stores, StoresToConsole, StoresToTimer, Traps}
use Rattle.machine_model.specs.State.Changes.{Told, call_settled, settled}
use Rattle.machine_model.specs.State.Machine.{Machine, Thread}
use Rattle.machine_model.specs.State.Threads.{with_registers}
use Rattle.machine_model.specs.State.Views.{page_reached, stored, timer_set, write_to}
use Rattle.machine_model.specs.Stepping.Step.{after, executed}
use Rattle.machine_laws.proofs.Threading.ThreadStepLemmas.{turned_to}
use Rattle.confidentiality_laws.proofs.Isolating.StepLemmas.{acts}
use Rattle.confidentiality_laws.proofs.Ledgers.OtherBytesLemmas.{bare_is, no_bytes, through}
use Rattle.noninterference_laws.specs.Acting.{Act, Arms, Calls, EndsHandler, EndsThread, Faults, Prints, Silent, act_of_executed}
use Rattle.noninterference_laws.specs.Inside.{Group, hidden_threads}
use Rattle.noninterference_laws.proofs.Stepping.ShadeLemmas.{called_shade, death_shade, ended_shade, handled_shade, shade, told_shade}
use Rattle.noninterference_laws.proofs.Veiling.VeilLemmas.{own_change}

-- what an act makes of a machine, but for what is hidden
abbrev pub did : Machine → ThreadId → Act → Told
did m who Silent = record { machine = turned_to who m; told = [] }
did m who (Prints byte) = record { machine = turned_to who m; told = Byte who byte ∷ [] }
did m who (Arms compare) = record { machine = record (turned_to who m) { compare = compare }; told = [] }
did m who (Calls words) = after (Call who words) (call_settled (turned_to who m) (call (turned_to who m) words))
did m who (Faults cause value) = after (Fault who cause value) (settled (death who.pid (turned_to who m)))
did m who (EndsThread a0) = after (End who) (settled (thread_ended who a0 (turned_to who m)))
did m who EndsHandler = after (End who) (settled (handler_ended who.pid (turned_to who m)))

-- the act of a thread that ends, ends its handler or executes this
abbrev pub act_by : Machine → Thread → Bool → Bool → Executed → Act
act_by m t a b x = if a then EndsThread (reg_at t.regs 10) else (if b then EndsHandler else act_of_executed m t x)

pub written_bare : (o : Option PageName) (offset : ℕ) (bytes : List ℕ) (l : Ledger)
    → through no_bytes (write_to o offset bytes l) ≡ through no_bytes l
written_bare None offset bytes l = refl
written_bare (Some page) offset bytes l =
    sym (bare_is (write page offset bytes l)) ∙ (write_bare page offset bytes l ∙ bare_is l)

module _ (group : Group) where
  -- ---- an act does the same

  pub did_alike : (m n : Machine) (who : ThreadId) → shade group m ≡ shade group n → (act : Act)
      → told_shade group (did m who act) ≡ told_shade group (did n who act)
  did_alike m n who e Silent = λ i. record { machine = turned_to who (e i); told = [] }
  did_alike m n who e (Prints byte) = λ i. record { machine = turned_to who (e i); told = Byte who byte ∷ [] }
  did_alike m n who e (Arms compare) = λ i. record { machine = record (turned_to who (e i)) { compare = compare }; told = [] }
  did_alike m n who e (Calls words) =
      ap (after (Call who words)) (called_shade group words (turned_to who m) (turned_to who n) (ap (turned_to who) e))
  did_alike m n who e (Faults cause value) =
      ap (after (Fault who cause value)) (death_shade group who.pid (turned_to who m) (turned_to who n) (ap (turned_to who) e))
  did_alike m n who e (EndsThread a0) =
      ap (after (End who)) (ended_shade group who a0 (turned_to who m) (turned_to who n) (ap (turned_to who) e))
  did_alike m n who e EndsHandler =
      ap (after (End who)) (handled_shade group who.pid (turned_to who m) (turned_to who n) (ap (turned_to who) e))

  -- ---- a step of the group does its act

  module _ (m : Machine) (who : ThreadId) (own : group who.pid.0 ≡ true) (t : Thread) where
    own_registers : (regs : List ℕ) (pc : ℕ)
        → hidden_threads group (put_at same_thread m.threads who (option_map (with_registers regs pc) (m.threads who)))
        ≡ hidden_threads group m.threads
    own_registers regs pc = own_change group (with_registers regs pc) (λ x. refl) m.threads who own

    console_does : (b : Bool) (value : ℕ) (regs : List ℕ) (pc : ℕ)
        → told_shade group (record (executed (turned_to who m) t (Next regs pc)) { told = if b then Byte who (value % 256) ∷ [] else [] })
        ≡ told_shade group (did m who (if b then Prints (value % 256) else Silent))
    console_does true value regs pc = λ i. record {
      machine = record (shade group (turned_to who m)) { threads = own_registers regs pc i };
      told = Byte who (value % 256) ∷ [];
    }
    console_does false value regs pc = λ i. record {
      machine = record (shade group (turned_to who m)) { threads = own_registers regs pc i };
      told = [];
    }

    executed_does : (x : Executed)
        → told_shade group (executed (turned_to who m) t x) ≡ told_shade group (did m who (act_of_executed m t x))
    unfolding stored timer_set
    executed_does (Next regs pc) = λ i. record {
      machine = record (shade group (turned_to who m)) { threads = own_registers regs pc i };
      told = [];
    }
    executed_does (Stores address width value regs pc) = λ i. record {
      machine = record (shade group (turned_to who m)) {
        threads = own_registers regs pc i;
        ledger = written_bare (page_reached m who.pid Store address) (address % 4096) (low_bytes width value) m.ledger i;
      };
      told = [];
    }
    executed_does (StoresToConsole offset value regs pc) = console_does (offset == 0) value regs pc
    executed_does (StoresToTimer offset width value regs pc) = λ i. record {
      machine = record (shade group (turned_to who m)) {
        threads = own_registers regs pc i;
        compare = compare_stored offset width value m.compare;
      };
      told = [];
    }
    executed_does CallsKernel = refl
    executed_does (Traps cause value) = refl

    pub own_does : (a b : Bool) (x : Executed)
        → told_shade group (acts m who t a b x) ≡ told_shade group (did m who (act_by m t a b x))
    own_does true b x = refl
    own_does false true x = refl
    own_does false false x = executed_does x

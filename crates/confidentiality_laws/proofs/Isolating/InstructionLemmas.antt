-- What is executed does the same, but for bytes, from machines that are the same but for bytes.
use Rattle.ledger_model.specs.Steps.{write}
use Rattle.std.proofs.Common.{◌≡◌, ℕ, List, Option, Some, None, refl, sym, ap, ◌∙◌}
use Rattle.std.specs.Prelude.{◌%◌}
use Rattle.xk_base.specs.declared.pages.Access.TheVariants.{Store}
use Rattle.xk_base.specs.declared.pages.Width.{Width}
use Rattle.xk_base.specs.declared.records.What.TheVariants.{Call, Fault}
use Rattle.xk_base.specs.Calls.Registers.{arguments_of}
use Rattle.xk_base.specs.UserMemory.{low_bytes}
use Rattle.ledger_model.specs.Ledger.{Ledger, PageName}
use Rattle.ledger_model.proofs.Stepping.WritingLemmas.{write_bare}
use Rattle.machine_model.specs.Calling.Calls.{call}
use Rattle.machine_model.specs.Ending.Ends.{death}
use Rattle.machine_model.specs.Hart.Instructions.{Executed, Next, Stores, StoresToConsole, StoresToTimer, CallsKernel, Traps}
use Rattle.machine_model.specs.State.Changes.{call_settled, settled}
use Rattle.machine_model.specs.State.Machine.{Machine, Thread}
use Rattle.machine_model.specs.State.Views.{page_reached, stored, timer_set, write_to}
use Rattle.machine_model.specs.Stepping.Step.{after, executed}
use Rattle.confidentiality_laws.proofs.Carrying.CallTableLemmas.{call_blind}
use Rattle.confidentiality_laws.proofs.Carrying.ChangeLemmas.{told_through, call_settled_through, settled_through}
use Rattle.confidentiality_laws.proofs.Carrying.EndLemmas.{death_through}
use Rattle.confidentiality_laws.proofs.Ledgers.OtherBytesLemmas.{machine_through, no_bytes, through, alike_without, bare_is}

written_bare : (o : Option PageName) (offset : ℕ) (bytes : List ℕ) (l : Ledger)
    → through no_bytes (write_to o offset bytes l) ≡ through no_bytes l
written_bare None offset bytes l = refl
written_bare (Some page) offset bytes l =
    sym (bare_is (write page offset bytes l)) ∙ (write_bare page offset bytes l ∙ bare_is l)

-- the low bytes of a store are left out
stored_bare : (m : Machine) (t : Thread) (address : ℕ) (width : Width) (value : ℕ) (regs : List ℕ) (pc : ℕ)
    → told_through no_bytes (executed m t (Stores address width value regs pc))
    ≡ executed (machine_through no_bytes m) t (Next regs pc)
unfolding stored
stored_bare m t address width value regs pc =
    ap (λ l. executed (record m { ledger = l }) t (Next regs pc))
    (written_bare (page_reached m m.cursor.pid Store address) (address % 4096) (low_bytes width value) m.ledger)

trap_bare : (m : Machine) (t : Thread) (cause value : ℕ)
    → told_through no_bytes (executed m t (Traps cause value)) ≡ executed (machine_through no_bytes m) t (Traps cause value)
trap_bare m t cause value =
    ap (after (Fault m.cursor cause value))
    (settled_through no_bytes (death m.cursor.pid m) ∙ ap settled (death_through no_bytes m.cursor.pid m))

module _ (m n : Machine) (e : machine_through no_bytes m ≡ machine_through no_bytes n) (t : Thread) where
  called_alike : told_through no_bytes (executed m t CallsKernel) ≡ told_through no_bytes (executed n t CallsKernel)
  called_alike =
      ap (after (Call m.cursor words)) (call_settled_through no_bytes m (call m words))
      ∙ ((λ i. after (Call (e i).cursor words) (call_settled (e i) (call_blind m n words (alike_without m n e) i)))
      ∙ ap (after (Call n.cursor words)) (sym (call_settled_through no_bytes n (call n words))))
    where
      words : List ℕ
      words = arguments_of t.regs

  pub executed_alike : (x : Executed) → told_through no_bytes (executed m t x) ≡ told_through no_bytes (executed n t x)
  unfolding timer_set
  executed_alike (Next regs pc) = ap (λ x. executed x t (Next regs pc)) e
  executed_alike (Stores address width value regs pc) =
      stored_bare m t address width value regs pc
      ∙ (ap (λ x. executed x t (Next regs pc)) e ∙ sym (stored_bare n t address width value regs pc))
  executed_alike (StoresToConsole offset value regs pc) = ap (λ x. executed x t (StoresToConsole offset value regs pc)) e
  executed_alike (StoresToTimer offset width value regs pc) =
      ap (λ x. executed x t (StoresToTimer offset width value regs pc)) e
  executed_alike CallsKernel = called_alike
  executed_alike (Traps cause value) =
      trap_bare m t cause value ∙ (ap (λ x. executed x t (Traps cause value)) e ∙ sym (trap_bare n t cause value))

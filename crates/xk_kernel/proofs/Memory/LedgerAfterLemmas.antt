-- The ledger after an instruction of a process, from what the process sees.
use Rattle.xk_ports.specs.declared.store.SwapStore.{Ghosts as SwapStore}
use Rattle.std.proofs.Common.{◌≡◌, ℕ, ◌%◌, true, false, not, List, Option, Some, None, refl, sym, ap, subst, ◌∙◌}
use Rattle.std.specs.Prelude.{is_some}
use Rattle.std.specs.Option.{option_and_then, option_map_or}
use Rattle.std.proofs.lemmas.Bool.{false≢true}
use Rattle.xk_base.specs.declared.ids.Pid.{Pid}
use Rattle.xk_base.specs.declared.pages.Access.TheVariants.{Load, Store}
use Rattle.xk_base.specs.declared.pages.Width.{Width}
use Rattle.xk_base.specs.UserMemory.{size_of, with_number, low_bytes}
use Rattle.ledger_model.specs.Ledger.{Ledger, Contents, Console, Bytes, PageName, contents_of, has_bytes}
use Rattle.ledger_model.specs.Reach.{reach}
use Rattle.ledger_model.proofs.ReachingLemmas.{reached_contents}
use Rattle.machine_model.specs.Hart.Instructions.{Executed, Next, Stores, StoresToConsole, StoresToTimer, CallsKernel, Traps}
use Rattle.machine_model.specs.State.Views.{write_to}
use Rattle.rv32_hart.specs.Running.{bytes_after}
use Rattle.vm_memory.specs.declared.memory.Memory.{Memory}
use Rattle.xk_base.specs.Numbers.Windows.{page_of}
use Rattle.vm_memory.specs.Bytes.{MeansBytes}
use Rattle.vm_memory.specs.Memory.{Size, processes, ledger}
use Rattle.vm_memory.specs.Sound.{IsSound}
use Rattle.vm_memory.specs.Using.UserView.{KeepsRest, contents_seen, seen_memory, user_view}
use Rattle.vm_memory.proofs.Bytes.LedgerByteLemmas.{IsSeenAt, IsTold, same_by_bytes, written_by_bytes, stored_is_loaded}
use Rattle.vm_memory.proofs.Using.SeenPageLemmas.{told}
use Rattle.xk_kernel.proofs.Memory.StoreLemmas.{StoresAllowed}

-- ---- the page of a store

no_console : (o : Option Contents) → option_map_or (λ (c : Contents). not (has_bytes c)) o false ≡ false → (c : Contents) → o ≡ Some c
    → (bytes : List ℕ) × (c ≡ Bytes bytes)
no_console o n Console e = absurd (false≢true (sym n ∙ ap (λ x. option_map_or (λ (c : Contents). not (has_bytes c)) x false) e))
no_console o n (Bytes bytes) e = (bytes, refl)

record IsStoredAt (procs : ℕ) (l : Ledger) (pid : Pid) (a : ℕ) : Type 0 where
  name : PageName
  bytes : List ℕ
  reached : reach procs l (page_of pid a) Store ≡ Some name
  seen : IsSeenAt procs l pid name a (Bytes bytes)

named : {A : Type 0} (o : Option A) → is_some o ≡ true → (x : A) × (o ≡ Some x)
named None e = absurd (false≢true e)
named (Some x) e = (x, refl)

stored_at : (procs : ℕ) (l : Ledger) (pid : Pid) (a : ℕ) → (seen_memory procs l pid).may Store a ≡ true → (seen_memory procs l pid).console a ≡ false
    → IsStoredAt procs l pid a
unfolding seen_memory
stored_at procs l pid a may console =
    let page : (name : PageName) × (reach procs l (page_of pid a) Store ≡ Some name) = named (reach procs l (page_of pid a) Store) may in
    let load : reach procs l (page_of pid a) Load ≡ Some page.0 = stored_is_loaded procs l (page_of pid a) page.0 page.1 in
    let there : (c : Contents) × (contents_of l page.0 ≡ Some c) = reached_contents procs l (page_of pid a) Load page.0 load in
    let bytes : (bytes : List ℕ) × (there.0 ≡ Bytes bytes) = no_console (contents_seen procs l pid a) console there.0 (ap (option_and_then (contents_of l)) load ∙ there.1) in
    record {
      name = page.0;
      bytes = bytes.0;
      reached = page.1;
      seen = record { reached = load; holds = there.1 ∙ ap Some bytes.1 };
    }

-- ---- the ledger afterwards

-- what an instruction leaves of the ledger: a store alone changes it
abbrev pub ledger_after : ℕ → Pid → Ledger → Executed → Ledger
ledger_after procs pid l (Next regs pc) = l
ledger_after procs pid l (Stores address width value regs pc) = write_to (reach procs l (page_of pid address) Store) (address % 4096) (low_bytes width value) l
ledger_after procs pid l (StoresToConsole offset value regs pc) = l
ledger_after procs pid l (StoresToTimer offset width value regs pc) = l
ledger_after procs pid l CallsKernel = l
ledger_after procs pid l (Traps cause value) = l

module _ {W : Type 0} (S : SwapStore W)
    (pid : Pid) (old new : Memory W) (sound : IsSound S.slot_count old) (means : MeansBytes S old) (rest : KeepsRest S pid old new) where
  abbrev n : ℕ
  n = processes old

  abbrev L : Ledger
  L = ledger S.held old

  abbrev M : Ledger
  M = ledger S.held new

  pub same_processes : processes new ≡ processes old
  same_processes = ap (λ (s : Size). s.procs) rest.sizes

  told_new : IsTold n M pid
  told_new = subst (λ k. IsTold k M pid) same_processes (told S new (rest.sound sound) pid)

  told_old : IsTold n L pid
  told_old = told S old sound pid

  module _ (byte : ℕ → ℕ) (seen : (user_view S.held new pid).byte ≡ byte) where
    seen_new : (seen_memory n M pid).byte ≡ byte
    seen_new = ap (λ k. (seen_memory k M pid).byte) (sym same_processes) ∙ seen

    same_ledger : byte ≡ (user_view S.held old pid).byte → M ≡ L
    same_ledger e = same_by_bytes n L M pid rest.rights told_old told_new (rest.unseen means) (seen_new ∙ e)

    stored_ledger : (address : ℕ) (width : Width) (value : ℕ) → (user_view S.held old pid).may Store address ≡ true → (user_view S.held old pid).console address ≡ false
        → address % size_of width ≡ 0 → byte ≡ with_number (user_view S.held old pid).byte address width value
        → M ≡ write_to (reach n L (page_of pid address) Store) (address % 4096) (low_bytes width value) L
    stored_ledger address width value may console aligned e =
        let at : IsStoredAt n L pid address = stored_at n L pid address may console in
        written_by_bytes n L M pid rest.rights told_old told_new (rest.unseen means)
        address width value aligned at.name at.bytes at.seen (seen_new ∙ e)
        ∙ ap (λ o. write_to o (address % 4096) (low_bytes width value) L) (sym at.reached)

    pub ledger_by_bytes : (x : Executed) → StoresAllowed (user_view S.held old pid).may (user_view S.held old pid).console x → byte ≡ bytes_after (user_view S.held old pid).byte x
        → M ≡ ledger_after n pid L x
    ledger_by_bytes (Next regs pc) so e = same_ledger e
    ledger_by_bytes (Stores address width value regs pc) so e = stored_ledger address width value so.0 so.1 so.2 e
    ledger_by_bytes (StoresToConsole offset value regs pc) so e = same_ledger e
    ledger_by_bytes (StoresToTimer offset width value regs pc) so e = same_ledger e
    ledger_by_bytes CallsKernel so e = same_ledger e
    ledger_by_bytes (Traps cause value) so e = same_ledger e

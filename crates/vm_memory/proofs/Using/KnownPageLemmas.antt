-- What is known of a process's pages, over the accesses of a process.
use Rattle.xk_ports.specs.declared.store.SwapStore.{Ghosts as SwapStore}
use Rattle.std.proofs.Common.{◌≡◌, ℕ, ◌/◌, ◌%◌, if◌then◌else◌, Bool, true, false, Option, Some, None, refl, sym, ap, subst, ◌∙◌}
use Rattle.std.specs.Prelude.{◌==◌, Result, Ok, Err, OnOk, OnErr}
use Rattle.std.proofs.lemmas.Bool.{eqb-true, false≢true}
use Rattle.std.proofs.lemmas.Option.{same_Some}
use Rattle.xk_base.specs.UserMemory.{size_of}
use Rattle.xk_base.specs.declared.ids.Frame.{Frame}
use Rattle.xk_base.specs.declared.ids.Pid.{Pid}
use Rattle.xk_base.specs.declared.pages.Access.{Access}
use Rattle.xk_base.specs.declared.pages.Access.TheVariants.{Fetch, Load, Store}
use Rattle.xk_base.specs.declared.pages.Stored.{Stored}
use Rattle.xk_base.specs.declared.pages.Stored.TheVariants.{Done, Device, Fault}
use Rattle.xk_base.specs.declared.pages.Width.{Width}
use Rattle.sv32_space.specs.SpelledEntries.{entries}
use Rattle.sv32_space.specs.Tie.{Held}
use Rattle.xk_base.specs.Numbers.Windows.{page_of}
use Rattle.vm_memory.specs.declared.memory.Memory.{Memory}
use Rattle.page_views.specs.declared.targets.Target.TheVariants.{Page}
use Rattle.page_views.specs.declared.known.KnownPage.{KnownPage}
use Rattle.page_views.specs.declared.known.KnownPages.{KnownPages}
use Rattle.vm_memory.specs.Memory.{IsUsable, has_failed, processes}
use Rattle.vm_memory.specs.Sound.{IsSound}
use Rattle.page_views.specs.EntryAccess.{entry_target}
use Rattle.vm_memory.specs.Using.Known.{Remembers}
use Rattle.page_views.specs.Known.{frame_if_page, known_page, no_pages}
use Rattle.vm_memory.specs.Using.UserStores.{DoesStore}
use Rattle.vm_memory.proofs.Using.UserStoringLemmas.{entries_stay}

-- a store changes no entry
pub remembers_stored : {W : Type 0} (S : SwapStore W) (m : Memory W) (sound : IsSound S.slot_count m) (pid : Pid)
    (va : ℕ) (width : Width) (value : ℕ) (aligned : va % size_of width ≡ 0) (known : KnownPages) (k : Memory W) (stored : Stored)
    → DoesStore (record { pid = pid; address = va; width = width; value = value }) m k stored → Remembers m pid known → Remembers k pid known
remembers_stored S m sound pid va width value aligned known k Done h remembers =
    subst (λ x. Remembers x pid known) (sym h.stored) (λ access page e.
    ap (λ E. entry_target (E (record { pid = pid; vpn = page.vpn })) access) (entries_stay S m sound pid va width value aligned h.frame h.target)
    ∙ remembers access page e)
remembers_stored S m sound pid va width value aligned known k (Device offset) h remembers =
    subst (λ x. Remembers x pid known) (sym h.2) remembers
remembers_stored S m sound pid va width value aligned known k Fault h remembers =
    subst (λ x. Remembers x pid known) (sym h.1) remembers

-- an access leads to the frame that is known
pub known_leads : {W : Type 0} (m : Memory W) (pid : Pid) (va : ℕ) (access : Access) (known : KnownPages) (frame : Frame) → Remembers m pid known
    → frame_if_page (record { 0 = va / 4096 }) (known_page known access) ≡ Some frame
    → entry_target (entries (processes m) m.ram (page_of pid va)) access ≡ Page frame
known_leads m pid va access known frame remembers found = go (known_page known access) refl found
  where
    by_number : (page : KnownPage) → known_page known access ≡ Some page → (b : Bool) → (page.vpn.0 == va / 4096) ≡ b
        → (if b then Some page.frame else None) ≡ Some frame → entry_target (entries (processes m) m.ram (page_of pid va)) access ≡ Page frame
    by_number page e true same is =
        ap (λ n. entry_target (entries (processes m) m.ram (record { pid = pid; vpn = record { 0 = n } })) access) (sym (eqb-true page.vpn.0 (va / 4096) same))
        ∙ remembers access page e ∙ ap Page (same_Some page.frame frame is)
    by_number page e false same is = cc

    go : (o : Option KnownPage) → known_page known access ≡ o → frame_if_page (record { 0 = va / 4096 }) o ≡ Some frame
        → entry_target (entries (processes m) m.ram (page_of pid va)) access ≡ Page frame
    go None e is = cc
    go (Some page) e is = by_number page e (page.vpn.0 == va / 4096) refl is

-- nothing is known of no page
pub remembers_none : {W : Type 0} (m : Memory W) (pid : Pid) → Remembers m pid no_pages
remembers_none m pid Fetch page e = absurd cc
remembers_none m pid Load page e = absurd cc
remembers_none m pid Store page e = absurd cc

-- ---- it is fit on Ok alone

pub known_fit : {W A E : Type 0} (slot_count : W → ℕ) (m : Memory W) (pid : Pid) (known : KnownPages) (r : Result A E)
    → IsSound slot_count m → Remembers m pid known → OnOk r (IsUsable m) → OnOk r (IsSound slot_count m × IsUsable m × Remembers m pid known)
known_fit slot_count m pid known (Ok x) sound remembers usable = (sound, usable, remembers)
known_fit slot_count m pid known (Err e) sound remembers usable = tt

pub known_unfit : {W A E : Type 0} (slot_count : W → ℕ) (m : Memory W) (pid : Pid) (known : KnownPages) (r : Result A E)
    → OnErr r (has_failed m ≡ true) → OnErr r (IsSound slot_count m × IsUsable m × Remembers m pid known → ⊥)
known_unfit slot_count m pid known (Ok x) failed = tt
known_unfit slot_count m pid known (Err e) failed = λ fit. false≢true (sym fit.1 ∙ failed)

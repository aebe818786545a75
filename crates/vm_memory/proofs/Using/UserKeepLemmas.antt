-- What accesses keep, and what a store leaves, as a process's memory promises it.
use Rattle.xk_ports.specs.declared.store.SwapStore.{Ghosts as SwapStore}
use Rattle.std.proofs.Common.{◌≡◌, ℕ, ◌%◌, if◌then◌else◌, Bool, true, false, Some, None, refl, sym, ap, subst, ◌∙◌, arith}
use Rattle.xk_base.specs.UserMemory.{Content, Seen, StoresAsTold, StoresNumber, KeepsContent, size_of, with_number}
use Rattle.xk_base.specs.declared.ids.Pid.{Pid}
use Rattle.xk_base.specs.declared.pages.Access.TheVariants.{Store}
use Rattle.xk_base.specs.declared.pages.Stored.{Stored}
use Rattle.xk_base.specs.declared.pages.Stored.TheVariants.{Done, Device, Fault}
use Rattle.xk_base.specs.declared.pages.Width.{Width}
use Rattle.sv32_space.specs.SpelledEntries.{entries}
use Rattle.sv32_space.specs.Tie.{Held}
use Rattle.sv32_space.specs.EntryReach.{entry_may}
use Rattle.vm_memory.specs.declared.memory.Memory.{Memory}
use Rattle.vm_memory.specs.Bytes.{means_bytes, none_out}
use Rattle.xk_base.specs.Numbers.Windows.{page_of}
use Rattle.vm_memory.specs.Memory.{IsUsable, processes}
use Rattle.vm_memory.specs.Sound.{IsSound}
use Rattle.vm_memory.specs.Using.UserStores.{DoesStore, StoresBytes, UserStore, store_target}
use Rattle.page_views.specs.EntryAccess.{is_given_target}
use Rattle.vm_memory.specs.Using.UserView.{KeepsRest, user_view, user_content}
use Rattle.vm_memory.proofs.Changing.SoundMemoryLemmas.{sound-tied}
use Rattle.vm_memory.proofs.Using.UserLemmas.{IsDeviceTarget, device_target, is_device, may_by, console_by, nothing_given}
use Rattle.vm_memory.proofs.Using.UserStoringLemmas.{stored_sound, stored_size, stored_may, stored_console, stored_bytes, stored_rights, stored_unseen, store_given, store_no_console}

pub rest_same : {W : Type 0} (S : SwapStore W) (pid : Pid) (m : Memory W)
    → KeepsRest S pid m m
rest_same S pid m = record {
  rights = refl;
  sizes = refl;
  means = λ h. h;
  unseen = λ h name unseen. refl;
  sound = λ s. s;
  tie = λ s. sound-tied S m s;
  out = λ none usable. usable;
  none = λ none. none;
  no_more = omega arith;
  still = λ none. refl;
  store = record { honest = refl; told = refl; slots = refl; preparations = refl; never_falls = omega arith };
}

keeps_same : (c : Content) → KeepsContent c c
keeps_same None = tt
keeps_same (Some byte) = refl

module _ {W : Type 0} (S : SwapStore W)
    (m : Memory W) (sound : IsSound S.slot_count m) (pid : Pid) (va : ℕ) (width : Width) (value : ℕ) (aligned : va % size_of width ≡ 0) where
  abbrev store : UserStore
  store = record { pid = pid; address = va; width = width; value = value }

  rest_written : (k : Memory W) → StoresBytes store m k → KeepsRest S pid m k
  unfolding none_out
  rest_written k h = subst (λ x. KeepsRest S pid m x) (sym h.stored) (record {
    rights = stored_rights S m sound pid va width value aligned h.frame h.target;
    sizes = stored_size S m sound pid va width value aligned h.frame h.target;
    means = λ means. means;
    unseen = λ means name unseen. stored_unseen S m sound pid va width value aligned h.frame h.target name unseen;
    sound = λ s. stored_sound S m sound pid va width value aligned h.frame h.target;
    tie = λ s. sound-tied S _ (stored_sound S m sound pid va width value aligned h.frame h.target);
    out = λ none usable. usable;
    none = λ none. none;
    no_more = omega arith;
    still = λ none. refl;
    store = record { honest = refl; told = refl; slots = refl; preparations = refl; never_falls = omega arith };
  })

  pub rest_stored : (k : Memory W) (stored : Stored) → DoesStore store m k stored → KeepsRest S pid m k
  rest_stored k Done h = rest_written k h
  rest_stored k (Device offset) h = subst (λ x. KeepsRest S pid m x) (sym h.2) (rest_same S pid m)
  rest_stored k Fault h = subst (λ x. KeepsRest S pid m x) (sym h.1) (rest_same S pid m)

  -- it stays fit
  pub fit_stored : (k : Memory W) (stored : Stored) → IsUsable m → DoesStore store m k stored → IsSound S.slot_count k × IsUsable k
  fit_stored k Done usable h = subst (λ x. IsSound S.slot_count x × IsUsable x) (sym h.stored)
      (stored_sound S m sound pid va width value aligned h.frame h.target, usable)
  fit_stored k (Device offset) usable h = subst (λ x. IsSound S.slot_count x × IsUsable x) (sym h.2) (sound, usable)
  fit_stored k Fault usable h = subst (λ x. IsSound S.slot_count x × IsUsable x) (sym h.1) (sound, usable)

  pub may_stored : (k : Memory W) (stored : Stored) → DoesStore store m k stored → (user_view S.held k pid).may ≡ (user_view S.held m pid).may
  may_stored k Done h = ap (λ x. (user_view S.held x pid).may) h.stored ∙ stored_may S m sound pid va width value aligned h.frame h.target
  may_stored k (Device offset) h = ap (λ x. (user_view S.held x pid).may) h.2
  may_stored k Fault h = ap (λ x. (user_view S.held x pid).may) h.1

  pub console_stored : (k : Memory W) (stored : Stored) → DoesStore store m k stored → (user_view S.held k pid).console ≡ (user_view S.held m pid).console
  console_stored k Done h = ap (λ x. (user_view S.held x pid).console) h.stored ∙ stored_console S m sound pid va width value aligned h.frame h.target
  console_stored k (Device offset) h = ap (λ x. (user_view S.held x pid).console) h.2
  console_stored k Fault h = ap (λ x. (user_view S.held x pid).console) h.1

  -- ---- what stands in memory

  number_told : (old new : Bool) (byte after : ℕ → ℕ) → new ≡ old → after ≡ with_number byte va width value
      → StoresNumber (if old then Some byte else None) (if new then Some after else None) va width value
  number_told true new byte after e is = ap (λ b. if b then Some after else None) e ∙ ap (λ a. Some a) is
  number_told false new byte after e is = tt

  content_written : (k : Memory W) → StoresBytes store m k
      → StoresNumber (user_content S m pid) (user_content S k pid) va width value
  unfolding none_out
  content_written k h = subst (λ x. StoresNumber (user_content S m pid) (user_content S x pid) va width value) (sym h.stored)
      (number_told (means_bytes S m) (means_bytes S m) _ _ refl (stored_bytes S m sound pid va width value aligned h.frame h.target))

  content_kept : (k : Memory W) → k ≡ m → KeepsContent (user_content S m pid) (user_content S k pid)
  content_kept k e = subst (λ x. KeepsContent (user_content S m pid) (user_content S x pid)) (sym e) (keeps_same (user_content S m pid))

  -- what a process is told, without a timer
  abbrev told : Memory W → Seen
  told x = record { content = user_content S x pid; timer = None }

  pub stores_told : (k : Memory W) (stored : Stored) → is_given_target (store_target m pid va) ≡ entry_may (entries (processes m) m.ram (page_of pid va)) Store
      → DoesStore store m k stored
      → StoresAsTold ((user_view S.held m pid).may Store va) ((user_view S.held m pid).console va) (told m) (told k) va width value stored
  stores_told k Done ready h = (
    store_given S m sound pid va width value aligned h.frame h.target,
    store_no_console S m sound pid va width value aligned h.frame h.target,
    (content_written k h, refl),
  )
  stores_told k (Device offset) ready h =
      let t : IsDeviceTarget (entries (processes m) m.ram (page_of pid va)) Store = device_target (entries (processes m) m.ram (page_of pid va)) Store h.0 in (
        may_by S m sound pid va Store ∙ ap (λ o. entry_may o Store) t.entry ∙ t.given,
        console_by S m sound pid va ∙ ap is_device t.entry,
        h.1,
        (content_kept k h.2, refl),
      )
  stores_told k Fault ready h = (nothing_given S m sound pid va Store ready h.0, (content_kept k h.1, refl))

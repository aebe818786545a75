-- Places past the address space.
use Rattle.xk_ports.specs.declared.store.SwapStore.{Ghosts as SwapStore}
use Rattle.xk_base.specs.Tables.Circle.{is_pid}
use Rattle.std.proofs.Common.{◌≡◌, ℕ, ◌≤◌, ◌^◌, Bool, true, false, ◌&&◌, None, refl, sym, ap, ◌∙◌, arith}
use Rattle.std.specs.Prelude.{is_some}
use Rattle.std.specs.Option.{option_and_then}
use Rattle.std.proofs.lemmas.Bool.Decides.{nat_tests}
use Rattle.xk_base.specs.Numbers.Windows.{window_at}
use Rattle.xk_base.specs.declared.ids.Place.{Place}
use Rattle.xk_base.specs.declared.pages.Right.{Right}
use Rattle.phys_pages.specs.Owners.{infos}
use Rattle.ledger_model.specs.Places.{in_run, is_user_place}
use Rattle.ledger_model.specs.Steps.{reduce, remove}
use Rattle.sv32_space.specs.EntryLedger.{ledger_of, page_of_entry}
use Rattle.sv32_space.specs.SpelledEntries.{entries}
use Rattle.sv32_space.specs.Tie.{bytes_at}
use Rattle.sv32_space.proofs.EntryLemmas.{no_entry_elsewhere}
use Rattle.sv32_space.proofs.RunLemmas.{remove_nothing}
use Rattle.page_views.specs.declared.places.Here.TheVariants.{Nothing}
use Rattle.vm_memory.specs.declared.memory.Memory.{Memory}
use Rattle.page_views.specs.Here.{here_at, here_of}
use Rattle.vm_memory.specs.Memory.{blank_ledger, ledger, processes}
use Rattle.vm_memory.specs.Sound.{IsSound}
use Rattle.sv32_space.proofs.Agreeing.EntryRoleLemmas.{role-entry}
use Rattle.vm_memory.proofs.Changing.OnePlaceLemmas.{in_one, reduce_nothing}

no_window : (v : ℕ) → 2 ^ 32 ≤ v → window_at v ≡ None
no_window v past = grind (arith, nat_tests)

pub no_user : (procs : ℕ) (p : Place) → 2 ^ 32 ≤ p.vpn.0 → is_user_place procs p ≡ false
no_user procs p past = ap (λ o. is_pid procs p.pid.0 && is_some o) (no_window p.vpn.0 past) ∙ never (is_pid procs p.pid.0)
  where
    never : (b : Bool) → (b && false) ≡ false
    never true = refl
    never false = refl

module _ {W : Type 0} (S : SwapStore W) (m : Memory W) (sound : IsSound S.slot_count m) (p : Place) (past : 2 ^ 32 ≤ p.vpn.0) where
  no_entry : entries (processes m) m.ram p ≡ None
  no_entry = no_entry_elsewhere (processes m) m.ram p (no_user (processes m) p past)

  -- nothing is there
  pub nowhere_here : Nothing ≡ here_at (processes m) (ledger S.held m) p
  unfolding ledger blank_ledger
  nowhere_here = sym (ap here_of (role-entry (processes m) (entries (processes m) m.ram) (infos m.owners)
      (bytes_at m.ram (S.held m.store)) sound.agree.entries p None no_entry))

  nowhere_home : (ledger S.held m).home p ≡ None
  unfolding ledger ledger_of
  nowhere_home = ap (option_and_then (page_of_entry (infos m.owners) (bytes_at m.ram (S.held m.store)))) no_entry

  pub nowhere_removed : ledger S.held m ≡ remove (in_run p 1) (ledger S.held m)
  nowhere_removed = sym (remove_nothing (in_run p 1) (ledger S.held m) (λ q there. ap (λ r. (ledger S.held m).home r) (in_one p q there) ∙ nowhere_home))

  pub nowhere_reduced : (right : Right) → ledger S.held m ≡ reduce (in_run p 1) right (ledger S.held m)
  nowhere_reduced right = reduce_nothing p right (ledger S.held m) nowhere_home

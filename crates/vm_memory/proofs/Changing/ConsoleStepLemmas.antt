-- What the calls on the console write, as steps of the memory.
use Rattle.xk_ports.specs.declared.store.SwapStore.{Ghosts as SwapStore}
use Rattle.std.proofs.Common.{◌≡◌, Bool, true, false, not, ◌||◌, Option, Some, None, refl, sym, ap, ◌∙◌}
use Rattle.std.specs.Option.{option_and_then}
use Rattle.std.proofs.lemmas.Bool.{and_parts, both_ways}
use Rattle.xk_base.specs.declared.ids.Place.{Place}
use Rattle.xk_base.specs.declared.pages.Right.{Right}
use Rattle.xk_base.specs.declared.windows.Window.TheVariants.{Map}
use Rattle.phys_pages.specs.Owners.{infos}
use Rattle.phys_pages.specs.Ram.{RamBytes}
use Rattle.ledger_model.specs.Conditions.{CanMakeConsole, is_console, is_within}
use Rattle.ledger_model.specs.Ledger.{Console}
use Rattle.ledger_model.specs.Places.{in_run}
use Rattle.ledger_model.specs.RunTests.{asks_more}
use Rattle.ledger_model.specs.Steps.{make_console, reduce, remove}
use Rattle.ledger_model.proofs.Loans.NumberingLemmas.{is_place_in-user}
use Rattle.ledger_model.proofs.Stepping.MakingLemmas.{make_console_lawful, make_console_pages}
use Rattle.ledger_model.proofs.Stepping.RemovingLemmas.{remove_lawful, reduce_lawful, reduce_pages}
use Rattle.sv32_space.specs.declared.sides.Side.TheVariants.{Own, LentOut, LentIn, MutOut, MutIn}
use Rattle.sv32_space.specs.Agreement.{Infos}
use Rattle.sv32_space.specs.declared.sides.Entry.{Entry}
use Rattle.sv32_space.specs.declared.sides.Entry.TheVariants.{Free, At, OnConsole}
use Rattle.sv32_space.specs.Entries.{Entries}
use Rattle.sv32_space.specs.EntryLedger.{SeatBytes, ledger_of, page_of_entry}
use Rattle.sv32_space.specs.SpelledEntries.{entries}
use Rattle.sv32_space.specs.Tie.{bytes_at}
use Rattle.sv32_space.proofs.Ledgers.EntryLedgerLemmas.{home_at}
use Rattle.sv32_space.proofs.Agreeing.PageAgreementLemmas.{map_console_agrees, unmap_console_agrees, reduce_console_agrees}
use Rattle.sv32_space.proofs.Ledgers.PageLedgerLemmas.{map_console_ledger, unmap_console_ledger, reduce_console_ledger}
use Rattle.sv32_space.proofs.Agreeing.RoleLemmas.{free_by_entry}
use Rattle.vm_memory.specs.declared.memory.Memory.{Memory}
use Rattle.vm_memory.specs.Memory.{blank_ledger, capacity_of, ledger, processes}
use Rattle.vm_memory.specs.Sound.{IsSound}
use Rattle.vm_memory.proofs.Changing.ChangedLemmas.{IsStep, no_bytes}
use Rattle.vm_memory.proofs.Changing.OnePlaceLemmas.{lone_page, can_remove, can_reduce, none_less}
use Rattle.vm_memory.proofs.Changing.PageStepLemmas.{IsWritten, entry_last, entry_process, free_entry, user_process, within_of, written_step}

-- the console's right has no x
no_fetch : (asked : Right) (w : Bool) → is_within asked (record { w = w; x = false }) ≡ true → asked.x ≡ false
no_fetch asked w e = by_x asked.x (and_parts (not asked.w || w) (not asked.x || false) e).1
  where
    by_x : (x : Bool) → (not x || false) ≡ true → x ≡ false
    by_x false h = refl
    by_x true h = absurd (both_ways false refl h)

-- whether a page is the console doesn't depend on bytes
pub console_told : (I : Infos) (C D : SeatBytes) (o : Option Entry) → is_console (option_and_then (page_of_entry I C) o) ≡ is_console (option_and_then (page_of_entry I D) o)
console_told I C D None = refl
console_told I C D (Some Free) = refl
console_told I C D (Some (At (Own r) s)) = refl
console_told I C D (Some (At (LentOut r) s)) = refl
console_told I C D (Some (At LentIn s)) = refl
console_told I C D (Some (At (MutOut x) s)) = refl
console_told I C D (Some (At MutIn s)) = refl
console_told I C D (Some (OnConsole w)) = refl

abbrev console_right : Bool → Right
console_right w = record { w = w; x = false }

module _ {W : Type 0} (S : SwapStore W) (m : Memory W) (sound : IsSound S.slot_count m) (at : Place) where
  abbrev E : Entries
  E = entries (processes m) m.ram

  abbrev I : Infos
  I = infos m.owners

  abbrev B : SeatBytes
  B = bytes_at m.ram (S.held m.store)

  console_page : (w : Bool) → E at ≡ Some (OnConsole w) → (blank_ledger m).home at ≡ Some (lone_page (console_right w) Console)
  unfolding blank_ledger
  console_page w here = home_at E I no_bytes at (OnConsole w) here

  pub console_gone_step : (new : RamBytes) (w : Bool) → E at ≡ Some (OnConsole w) → IsWritten m.ram new at Free
      → IsStep S m (record m { ram = new }) (remove (in_run at 1))
  console_gone_step new w here k =
      written_step S m sound at new m.owners m.pages m.hand Free I (entry_process S m sound at (OnConsole w) here) k refl refl
      (remove (in_run at 1)) (unmap_console_agrees (processes m) E I at w sound.agree.entries here)
      (remove_lawful (processes m) (capacity_of m) (in_run at 1) (blank_ledger m) sound.lawful
      (can_remove (processes m) (blank_ledger m) at (console_right w) Console (console_page w here)))
      (sound.pages ∙ sym (none_less (processes m) (blank_ledger m) at (console_right w) Console (console_page w here) refl))
      (λ f free. free) (entry_last S m sound at new k.area)
      (λ C. unmap_console_ledger E I C at w here)

  console_within : (w : Bool) (new : Right) → E at ≡ Some (OnConsole w) → asks_more new ((ledger S.held m).home at) ≡ false
      → is_within new (console_right w) ≡ true
  unfolding ledger
  console_within w new here asked = within_of new (console_right w) (sym (ap (asks_more new) (home_at E I B at (OnConsole w) here)) ∙ asked)

  pub console_reduced_step : (new_ram : RamBytes) (w : Bool) (new : Right) → E at ≡ Some (OnConsole w)
      → asks_more new ((ledger S.held m).home at) ≡ false
      → IsWritten m.ram new_ram at (OnConsole new.w)
      → IsStep S m (record m { ram = new_ram }) (reduce (in_run at 1) new)
  console_reduced_step new_ram w new here asked k =
      let within : is_within new (console_right w) ≡ true = console_within w new here asked in
      written_step S m sound at new_ram m.owners m.pages m.hand (OnConsole new.w) I (entry_process S m sound at (OnConsole w) here) k refl refl
      (reduce (in_run at 1) new) (reduce_console_agrees (processes m) E I at w new.w sound.agree.entries here)
      (reduce_lawful (processes m) (capacity_of m) (in_run at 1) new (blank_ledger m) sound.lawful
      (can_reduce (processes m) (blank_ledger m) at (console_right w) Console (console_page w here) new within))
      (sound.pages ∙ sym (reduce_pages (processes m) (in_run at 1) new (blank_ledger m)))
      (λ f free. free) (entry_last S m sound at new_ram k.area)
      (λ C. reduce_console_ledger E I C at w new here (no_fetch new w within))

  blank_can : CanMakeConsole (processes m) (ledger S.held m) at → CanMakeConsole (processes m) (blank_ledger m) at
  unfolding blank_ledger ledger ledger_of
  blank_can can = record {
    lies = can.lies;
    free = free_by_entry (processes m) E I no_bytes sound.agree.entries at ∙ (sym (free_by_entry (processes m) E I B sound.agree.entries at) ∙ can.free);
    first = λ p. console_told I no_bytes B (E p) ∙ can.first p;
  }

  pub console_made_step : (new_ram : RamBytes) (w : Bool) → CanMakeConsole (processes m) (ledger S.held m) at
      → IsWritten m.ram new_ram at (OnConsole w)
      → IsStep S m (record m { ram = new_ram }) (make_console at w)
  console_made_step new_ram w can k =
      let user = is_place_in-user (processes m) Map at can.lies in
      let free : E at ≡ Some Free = free_entry S m sound at user can.free in
      written_step S m sound at new_ram m.owners m.pages m.hand (OnConsole w) I (user_process (processes m) at user) k refl refl
      (make_console at w) (map_console_agrees (processes m) E I at w sound.agree.entries free)
      (make_console_lawful (processes m) (capacity_of m) at w (blank_ledger m) sound.lawful (blank_can can))
      (sound.pages ∙ sym (make_console_pages (processes m) at w (blank_ledger m) (blank_can can)))
      (λ f free. free) (entry_last S m sound at new_ram k.area)
      (λ C. map_console_ledger E I C at w free)

-- What is reached in a sound memory, by the entry of the place.
use Rattle.xk_ports.specs.declared.store.SwapStore.{Ghosts as SwapStore}
use Rattle.std.proofs.Common.{◌≡◌, ℕ, if◌then◌else◌, Bool, true, false, List, Option, Some, None, refl, sym, ap, ◌∙◌}
use Rattle.std.specs.Prelude.{is_some}
use Rattle.std.specs.Option.{option_and_then, option_map_or}
use Rattle.std.proofs.lemmas.Bool.{false≢true}
use Rattle.xk_base.specs.declared.ids.Place.{Place}
use Rattle.xk_base.specs.declared.pages.Access.{Access}
use Rattle.phys_pages.specs.declared.infos.Seat.{Seat}
use Rattle.phys_pages.specs.declared.infos.Seat.TheVariants.{Frame, Slot}
use Rattle.phys_pages.specs.Owners.{infos}
use Rattle.phys_pages.specs.Ram.{pages}
use Rattle.ledger_model.specs.Ledger.{Contents, Console, Bytes, PageName, Homed, contents_of, has_bytes}
use Rattle.ledger_model.specs.Places.{is_user_place}
use Rattle.ledger_model.specs.Reach.{owner_may, reach}
use Rattle.sv32_space.specs.declared.sides.Side.{Side}
use Rattle.sv32_space.specs.Agreement.{Infos}
use Rattle.sv32_space.specs.declared.sides.Entry.{Entry}
use Rattle.sv32_space.specs.declared.sides.Entry.TheVariants.{Free, At, OnConsole}
use Rattle.sv32_space.specs.Entries.{Entries}
use Rattle.sv32_space.specs.EntryLedger.{SeatBytes}
use Rattle.sv32_space.specs.EntryReach.{entry_may, side_may, entry_name, side_name}
use Rattle.sv32_space.specs.SpelledEntries.{entries}
use Rattle.sv32_space.specs.Tie.{bytes_at}
use Rattle.xk_base.specs.declared.ids.Frame.{Frame as FrameNumber}
use Rattle.vm_memory.specs.declared.memory.Memory.{Memory}
use Rattle.page_views.specs.declared.targets.Target.TheVariants.{Page, Nothing, Console as OnDevice}
use Rattle.vm_memory.specs.Using.Access.{contents_reached, reaches_bytes}
use Rattle.vm_memory.specs.Bytes.{names_frame, is_near}
use Rattle.page_views.specs.EntryAccess.{entry_target, is_given_target, is_page_target}
use Rattle.vm_memory.specs.Loaning.Lending.{frame_named}
use Rattle.vm_memory.specs.Memory.{processes, ledger, blank_ledger}
use Rattle.vm_memory.specs.Sound.{IsSound}
use Rattle.sv32_space.proofs.Agreeing.EntryRoleLemmas.{reach-entry, reach-none, contents-entry, contents-console}

-- ---- the frame of a near place

pub near-named : {W : Type 0} (m : Memory W) (p : Place) → is_near m p ≡ true → names_frame (entries (processes m) m.ram p) ≡ true
unfolding is_near
near-named m p near = near

pub near-place : {W : Type 0} (slot_count : W → ℕ) (m : Memory W) (p : Place) → IsSound slot_count m → is_near m p ≡ true
    → is_user_place (processes m) p ≡ true
unfolding is_near
near-place slot_count m p sound near = by_entry (entries (processes m) m.ram p) refl
  where
    by_entry : (o : Option Entry) → entries (processes m) m.ram p ≡ o → is_user_place (processes m) p ≡ true
    by_entry None e = absurd (false≢true (sym (ap names_frame e) ∙ near))
    by_entry (Some entry) e = sym (sound.agree.entries.spelled p) ∙ ap is_some e

module _ {W : Type 0} (S : SwapStore W) (m : Memory W) (sound : IsSound S.slot_count m) where
  abbrev E : Entries
  E = entries (processes m) m.ram

  abbrev I : Infos
  I = infos m.owners

  abbrev B : SeatBytes
  B = bytes_at m.ram (S.held m.store)

  -- what is reached, by the entry
  pub reach_by : (p : Place) (e : Entry) (access : Access) → E p ≡ Some e
      → reach (processes m) (ledger S.held m) p access ≡ (if entry_may (Some e) access then Some (entry_name I p e) else None)
  unfolding ledger blank_ledger
  reach_by p e access h = reach-entry (processes m) E I B sound.agree.entries p e access h

  pub reach_nowhere : (p : Place) (access : Access) → E p ≡ None → reach (processes m) (ledger S.held m) p access ≡ None
  unfolding ledger blank_ledger
  reach_nowhere p access h = reach-none (processes m) E I B sound.agree.entries p access h

  pub contents_by : (p : Place) (side : Side) (s : Seat) → E p ≡ Some (At side s) → contents_of (ledger S.held m) (side_name I p side s) ≡ Some (Bytes (B s))
  unfolding ledger blank_ledger
  contents_by p side s h = contents-entry (processes m) E I B sound.agree.entries p side s h

  pub console_by : (p : Place) (w : Bool) → E p ≡ Some (OnConsole w) → contents_of (ledger S.held m) (Homed p) ≡ Some Console
  unfolding ledger blank_ledger
  console_by p w h = contents-console (processes m) E I B sound.agree.entries p w h

  -- what the reached page holds, where the entry gives the access
  given_contents : (given : Bool) (name : PageName) (c : Contents) → contents_of (ledger S.held m) name ≡ Some c
      → option_and_then (contents_of (ledger S.held m)) (if given then Some name else None) ≡ (if given then Some c else None)
  given_contents true name c h = h
  given_contents false name c h = refl

  pub seat_contents : (p : Place) (side : Side) (s : Seat) (access : Access) → E p ≡ Some (At side s)
      → contents_reached (processes m) (ledger S.held m) p access ≡ (if side_may side access then Some (Bytes (B s)) else None)
  seat_contents p side s access h =
      ap (option_and_then (contents_of (ledger S.held m))) (reach_by p (At side s) access h)
      ∙ given_contents (side_may side access) (side_name I p side s) (Bytes (B s)) (contents_by p side s h)

  pub console_contents : (p : Place) (w : Bool) (access : Access) → E p ≡ Some (OnConsole w)
      → contents_reached (processes m) (ledger S.held m) p access ≡ (if owner_may (record { w = w; x = false }) access then Some Console else None)
  console_contents p w access h =
      ap (option_and_then (contents_of (ledger S.held m))) (reach_by p (OnConsole w) access h)
      ∙ given_contents (owner_may (record { w = w; x = false }) access) (Homed p) Console (console_by p w h)

  bytes_if : (given : Bool) (bytes : List ℕ) → option_map_or has_bytes (if given then Some (Bytes bytes) else None) false ≡ given
  bytes_if true bytes = refl
  bytes_if false bytes = refl

  console_if : (given : Bool) → option_map_or has_bytes (if given then Some Console else None) false ≡ false
  console_if true = refl
  console_if false = refl

  frame_if : (given : Bool) (f : FrameNumber) → is_page_target (if given then Page f else Nothing) ≡ given
  frame_if true f = refl
  frame_if false f = refl

  on_console_if : (given : Bool) → is_page_target (if given then OnDevice else Nothing) ≡ false
  on_console_if true = refl
  on_console_if false = refl

  page_by : (p : Place) (access : Access) (o : Option Entry) → E p ≡ o → is_given_target (entry_target o access) ≡ entry_may o access
      → reaches_bytes (processes m) (ledger S.held m) p access ≡ is_page_target (entry_target o access)
  page_by p access None e ready = ap (λ r. option_map_or has_bytes (option_and_then (contents_of (ledger S.held m)) r) false) (reach_nowhere p access e)
  page_by p access (Some Free) e ready = ap (λ r. option_map_or has_bytes (option_and_then (contents_of (ledger S.held m)) r) false) (reach_by p Free access e)
  page_by p access (Some (At side (Frame f))) e ready =
      ap (λ c. option_map_or has_bytes c false) (seat_contents p side (Frame f) access e)
      ∙ (bytes_if (side_may side access) (B (Frame f)) ∙ sym (frame_if (side_may side access) f))
  page_by p access (Some (At side (Slot s))) e ready =
      ap (λ c. option_map_or has_bytes c false) (seat_contents p side (Slot s) access e)
      ∙ (bytes_if (side_may side access) (B (Slot s)) ∙ sym ready)
  page_by p access (Some (OnConsole w)) e ready =
      ap (λ c. option_map_or has_bytes c false) (console_contents p w access e)
      ∙ (console_if (owner_may (record { w = w; x = false }) access) ∙ sym (on_console_if (owner_may (record { w = w; x = false }) access)))

  -- THE PAGE: where no page that the access reaches is out, the process has the access to a page exactly where the entry leads to one
  pub page_reached : (p : Place) (access : Access) → is_given_target (entry_target (E p) access) ≡ entry_may (E p) access
      → is_page_target (entry_target (E p) access) ≡ reaches_bytes (processes m) (ledger S.held m) p access
  page_reached p access ready = sym (page_by p access (E p) refl ready)

  -- .. and then the place is near
  pub reached_near : (p : Place) (access : Access) → is_page_target (entry_target (E p) access) ≡ true → is_near m p ≡ true
  unfolding is_near
  reached_near p access = by_entry (E p)
    where
      by_entry : (o : Option Entry) → is_page_target (entry_target o access) ≡ true → names_frame o ≡ true
      by_entry None h = absurd (false≢true h)
      by_entry (Some Free) h = absurd (false≢true h)
      by_entry (Some (At side (Frame f))) h = refl
      by_entry (Some (At side (Slot s))) h = absurd (false≢true h)
      by_entry (Some (OnConsole w)) h = absurd (false≢true (sym (on_console_if (owner_may (record { w = w; x = false }) access)) ∙ h))

  -- a page is reached where its entry's side gives the access
  pub seat_given : (p : Place) (side : Side) (s : Seat) (access : Access) → E p ≡ Some (At side s)
      → reaches_bytes (processes m) (ledger S.held m) p access ≡ true → side_may side access ≡ true
  seat_given p side s access e may =
      sym (bytes_if (side_may side access) (B s)) ∙ (sym (ap (λ x. option_map_or has_bytes x false) (seat_contents p side s access e)) ∙ may)

  -- the bytes of a near place are those of the frame that its entry names
  pub near_contents : (p : Place) (access : Access) → is_near m p ≡ true → reaches_bytes (processes m) (ledger S.held m) p access ≡ true
      → contents_reached (processes m) (ledger S.held m) p access ≡ Some (Bytes (pages m.ram (frame_named (E p))))
  unfolding is_near
  near_contents p access = by_entry (E p) refl
    where
      by_entry : (o : Option Entry) → E p ≡ o → names_frame o ≡ true → reaches_bytes (processes m) (ledger S.held m) p access ≡ true
          → contents_reached (processes m) (ledger S.held m) p access ≡ Some (Bytes (pages m.ram (frame_named o)))
      by_entry None e near may = absurd (false≢true near)
      by_entry (Some Free) e near may = absurd (false≢true near)
      by_entry (Some (At side (Slot s))) e near may = absurd (false≢true near)
      by_entry (Some (OnConsole w)) e near may = absurd (false≢true near)
      by_entry (Some (At side (Frame f))) e near may =
          seat_contents p side (Frame f) access e
          ∙ ap (λ b. if b then Some (Bytes (B (Frame f))) else None) (seat_given p side (Frame f) access e may)

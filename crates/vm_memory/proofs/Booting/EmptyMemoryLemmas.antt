-- A memory without a page is sound.
use Rattle.xk_ports.specs.declared.store.SwapStore.{Ghosts as SwapStore}
use Rattle.xk_base.specs.Tables.Circle.{is_pid}
use Rattle.std.proofs.Common.{◌≡◌, ℕ, ◌+◌, ◌-◌, ◌*◌, ◌/◌, ◌≤◌, true, false, Some, None, refl, sym, ap, subst, ◌∙◌, inl, inr, arith}
use Rattle.std.specs.Prelude.{is_some}
use Rattle.std.specs.Option.{option_and_then}
use Rattle.std.proofs.lemmas.Bool.{cases_Bool}
use Rattle.std.proofs.lemmas.Option.{none-some}
use Rattle.xk_base.specs.Tables.Counting.{count_below}
use Rattle.xk_base.proofs.CountingLemmas.{count_below-none}
use Rattle.xk_base.specs.declared.ids.Place.{Place}
use Rattle.xk_base.specs.Numbers.Limits.{table_frames}
use Rattle.phys_pages.specs.declared.infos.Seat.{Seat}
use Rattle.phys_pages.specs.declared.infos.Seat.TheVariants.{Slot}
use Rattle.phys_pages.specs.Owners.{Extent, extent, infos, no_infos, frame_seat}
use Rattle.phys_pages.specs.Ram.{IsPlaced, area}
use Rattle.ledger_model.specs.Lawful.{IsLawful}
use Rattle.ledger_model.specs.Ledger.{empty_ledger, pages}
use Rattle.ledger_model.specs.Loans.{loans}
use Rattle.ledger_model.specs.Places.{count_places, is_user_place}
use Rattle.ledger_model.specs.Steps.{zero_page}
use Rattle.ledger_model.proofs.LedgerLemmas.{same_ledger}
use Rattle.sv32_space.specs.Agreement.{EntriesAgree, procs_of}
use Rattle.sv32_space.specs.declared.sides.Entry.TheVariants.{Free}
use Rattle.sv32_space.specs.Entries.{Entries}
use Rattle.sv32_space.specs.EntryLedger.{SeatBytes, ledger_of, page_of_entry, orphan_of_entry}
use Rattle.sv32_space.specs.Spaces.{IsMade}
use Rattle.sv32_space.specs.SpelledEntries.{entries}
use Rattle.sv32_space.specs.Tie.{Held, bytes_at}
use Rattle.sv32_space.proofs.Agreeing.EmptyAgreementLemmas.{empty_agrees}
use Rattle.sv32_space.proofs.EntryLemmas.{no_entry_elsewhere}
use Rattle.vm_memory.specs.declared.memory.Memory.{Memory}
use Rattle.vm_memory.specs.Bytes.{used_frames, used_slots}
use Rattle.vm_memory.specs.Memory.{processes, capacity_of, ledger, blank_ledger}
use Rattle.vm_memory.specs.Sound.{IsSound}
use Rattle.vm_memory.specs.Starting.{FillsFirstFrames}
use Rattle.vm_memory.proofs.Changing.CallLemmas.{slots-none_out}

-- ---- an empty ledger is lawful

no_pages : (procs : ℕ) → pages procs empty_ledger ≡ 0
unfolding pages count_places
no_pages procs =
    let homes : count_below (20464 * procs) (λ k. false) ≡ 0 = count_below-none (20464 * procs) (λ k. false) (λ k low. refl) in
    omega arith

pub empty_lawful : (procs capacity : ℕ) → IsLawful procs capacity empty_ledger
unfolding loans
empty_lawful procs capacity = record {
  home_lies = λ p page e. absurd (none-some page e);
  holder_lies = λ p loan e. absurd (none-some loan e);
  orphan_lies = λ p orphan e. absurd (none-some orphan e);
  holders_differ = λ p q a b e f h. absurd (none-some a e);
  holder_no_home = λ p loan e. refl;
  holder_no_orphan = λ p loan e. refl;
  orphan_no_home = λ p orphan e. refl;
  one_console = λ p q a b e f g h. absurd (none-some a e);
  console_lies = λ p page e h. absurd (none-some page e);
  console_no_loan = λ p page e h. absurd (none-some page e);
  console_no_fetch = λ p page e h. absurd (none-some page e);
  within = omega (arith, no_pages procs);
  one_run = λ number. inl (record { homes = λ p. refl; orphans = λ p. refl });
  exclusive_writable = λ p page loan e f h. absurd (none-some page e);
}

-- ---- free entries and free seats

module _ (procs : ℕ) (E : Entries) (free : (q : Place) → is_user_place procs q ≡ true → E q ≡ Some Free)
    (elsewhere : (q : Place) → is_user_place procs q ≡ false → E q ≡ None) where
  empty_ledger_of : (B : SeatBytes) → ledger_of E no_infos B ≡ empty_ledger
  unfolding ledger_of
  empty_ledger_of B = same_ledger (ledger_of E no_infos B) empty_ledger
      (λ q. elim (cases_Bool (is_user_place procs q)) [
        | inl user ↦ ap (option_and_then (page_of_entry no_infos B)) (free q user)
        | inr not_user ↦ ap (option_and_then (page_of_entry no_infos B)) (elsewhere q not_user)
      ])
      (λ q. elim (cases_Bool (is_user_place procs q)) [
        | inl user ↦ ap (option_and_then (orphan_of_entry no_infos B)) (free q user)
        | inr not_user ↦ ap (option_and_then (orphan_of_entry no_infos B)) (elsewhere q not_user)
      ])

-- ---- the memory

-- a memory with free entries and free seats, and so many slots
pub record IsEmpty {W : Type 0} (slot_count : W → ℕ) (m : Memory W) (procs frames count : ℕ) : Type 0 where
  pub extent : extent m.owners ≡ record { first = 21 * procs; frames = frames - 21 * procs; slots = count }
  pub infos : infos m.owners ≡ no_infos
  pub counted : (area m.ram).frames ≡ frames
  pub placed : IsPlaced (area m.ram)
  pub made : (pid : ℕ) → is_pid procs pid ≡ true → IsMade m.ram pid
  pub free : (q : Place) → is_user_place procs q ≡ true → entries procs m.ram q ≡ Some Free
  pub some : 1 ≤ procs
  pub few : procs ≤ 64
  pub tables : table_frames procs + 2 ≤ frames
  pub made_for : m.procs ≡ procs
  pub slots : m.slots ≡ count
  pub few_slots : count ≤ 16384
  pub store : count ≤ slot_count m.store
  pub pages : m.pages ≡ 0

module _ {W : Type 0} (S : SwapStore W) (m : Memory W) (procs frames count : ℕ) (e : IsEmpty S.slot_count m procs frames count) where
  same_procs : processes m ≡ procs
  same_procs = ap procs_of e.extent ∙ back
    where
      back : 21 * procs / 21 ≡ procs
      back = omega arith

  free_m : (q : Place) → is_user_place (processes m) q ≡ true → entries (processes m) m.ram q ≡ Some Free
  free_m = subst (λ k. (q : Place) → is_user_place k q ≡ true → entries k m.ram q ≡ Some Free) (sym same_procs) e.free

  elsewhere_m : (q : Place) → is_user_place (processes m) q ≡ false → entries (processes m) m.ram q ≡ None
  elsewhere_m q h = no_entry_elsewhere (processes m) m.ram q h

  agree_m : EntriesAgree (processes m) (entries (processes m) m.ram) (infos m.owners)
  agree_m = subst (λ I. EntriesAgree (processes m) (entries (processes m) m.ram) I) (sym e.infos)
      (empty_agrees (processes m) (entries (processes m) m.ram) free_m elsewhere_m)

  first_m : (extent m.owners).first ≡ 21 * procs
  first_m = ap (λ (x : Extent). x.first) e.extent

  frames_m : (extent m.owners).frames ≡ frames - 21 * procs
  frames_m = ap (λ (x : Extent). x.frames) e.extent

  slots_m : (extent m.owners).slots ≡ count
  slots_m = ap (λ (x : Extent). x.slots) e.extent

  blank_m : blank_ledger m ≡ empty_ledger
  unfolding blank_ledger
  blank_m = ap (λ I. ledger_of (entries (processes m) m.ram) I (λ s. zero_page)) e.infos
      ∙ empty_ledger_of (processes m) (entries (processes m) m.ram) free_m elsewhere_m (λ s. zero_page)

  pub empty_has_none : ledger S.held m ≡ empty_ledger
  unfolding ledger
  empty_has_none = ap (λ I. ledger_of (entries (processes m) m.ram) I (bytes_at m.ram (S.held m.store))) e.infos
      ∙ empty_ledger_of (processes m) (entries (processes m) m.ram) free_m elsewhere_m (bytes_at m.ram (S.held m.store))

  none_used : (s : Seat) → is_some (infos m.owners s) ≡ false
  none_used s = ap (λ I. is_some (I s)) e.infos

  count_none : used_frames m.owners + used_slots m.owners ≡ 0
  count_none =
      let a : used_frames m.owners ≡ 0 = count_below-none _ _ (λ k low. none_used _) in
      let b : used_slots m.owners ≡ 0 = count_below-none _ _ (λ k low. none_used _) in
      omega arith

  pub empty_sound : IsSound S.slot_count m
  empty_sound = record {
    agree = record {
      first = omega (arith, first_m, same_procs);
      last = omega (arith, first_m, frames_m, e.counted, e.tables);
      made = subst (λ k. (pid : ℕ) → is_pid k pid ≡ true → IsMade m.ram pid) (sym same_procs) e.made;
      entries = agree_m;
    };
    procs = e.made_for ∙ sym same_procs;
    slots = e.slots ∙ sym slots_m;
    few = omega (arith, e.few, same_procs);
    few_slots = omega (arith, e.slots, e.few_slots);
    tables = omega (arith, e.tables, e.counted, same_procs);
    placed = e.placed;
    store = omega (arith, e.slots, e.store);
    lawful = subst (λ l. IsLawful (processes m) (capacity_of m) l) (sym blank_m) (empty_lawful (processes m) (capacity_of m));
    pages = e.pages ∙ sym (ap (pages (processes m)) blank_m ∙ no_pages (processes m));
    seats = count_none ∙ sym e.pages;
    room = λ usable. record {
      frame = 21 * procs;
      within = (omega (arith, first_m), omega (arith, first_m, frames_m, e.tables));
      free = ap (λ I. I (frame_seat (21 * procs))) e.infos;
    };
    last = λ unused at over. absurd (omega (arith, over, e.pages));
  }

  pub empty_fills : FillsFirstFrames m
  empty_fills = record {
    none = slots-none_out m (λ s. ap (λ I. I (Slot s)) e.infos);
    free = λ k low high. ap (λ I. I (frame_seat ((extent m.owners).first + k))) e.infos;
  }

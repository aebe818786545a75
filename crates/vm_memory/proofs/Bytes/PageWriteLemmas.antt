-- A page of a memory is written. Nothing else of the memory changes.
use Rattle.xk_ports.specs.declared.store.SwapStore.{Ghosts as SwapStore}
use Rattle.std.proofs.Common.{◌≡◌, ℕ, ◌+◌, ◌*◌, ◌<◌, ◌≤◌, if◌then◌else◌, true, List, [], ◌++◌, length, drop, nat_eq, Option, Some, None, refl, sym, ap, subst, ◌∙◌, arith}
use Rattle.std.proofs.lemmas.Bool.{false≢true}
use Rattle.std.proofs.lemmas.List.{drop_all, append-nil}
use Rattle.xk_base.specs.Tables.Counting.{put_at}
use Rattle.xk_base.specs.declared.ids.Frame.{Frame as FrameNumber}
use Rattle.xk_base.specs.declared.ids.Place.{Place}
use Rattle.xk_base.specs.declared.pages.Access.{Access}
use Rattle.phys_pages.specs.declared.infos.Seat.{Seat}
use Rattle.phys_pages.specs.declared.infos.Seat.TheVariants.{Frame, Slot}
use Rattle.phys_pages.specs.Owners.{extent, infos}
use Rattle.phys_pages.specs.Ram.{RamBytes, Area, IsPlaced, area, pages as page_of_frame, with_page}
use Rattle.phys_pages.proofs.PageLemmas.{length-pages, pages-with_page, area-with_page}
use Rattle.boot_plan.specs.Capacity.{capacity, page_frames}
use Rattle.xk_base.specs.Numbers.Limits.{table_frames}
use Rattle.ledger_model.specs.Lawful.{IsLawful}
use Rattle.ledger_model.specs.Ledger.{pages}
use Rattle.ledger_model.specs.Reach.{reach}
use Rattle.ledger_model.specs.Steps.{zero_page, write, written}
use Rattle.sv32_space.specs.declared.sides.Side.{Side}
use Rattle.sv32_space.specs.Agreement.{Infos, EntriesAgree}
use Rattle.sv32_space.specs.declared.sides.Entry.{Entry}
use Rattle.sv32_space.specs.declared.sides.Entry.TheVariants.{Free, At, OnConsole}
use Rattle.sv32_space.specs.Entries.{Entries}
use Rattle.sv32_space.specs.EntryLedger.{SeatBytes, ledger_of}
use Rattle.sv32_space.specs.PageChanges.{with_bytes}
use Rattle.sv32_space.specs.SpelledEntries.{entries}
use Rattle.sv32_space.specs.Tie.{Held, agrees, bytes_at}
use Rattle.sv32_space.proofs.EntryLemmas.{entries_after_page}
use Rattle.sv32_space.proofs.SpaceLemmas.{made_after_page}
use Rattle.vm_memory.specs.declared.memory.Memory.{Memory}
use Rattle.vm_memory.specs.Using.Access.{reaches_bytes, write_page}
use Rattle.vm_memory.specs.Bytes.{names_frame, is_near, used_frames}
use Rattle.sv32_space.specs.EntryReach.{side_name}
use Rattle.vm_memory.specs.Loaning.Lending.{frame_named, with_bytes_at}
use Rattle.vm_memory.specs.Memory.{size, processes, capacity_of, ledger, blank_ledger}
use Rattle.vm_memory.specs.Sound.{IsSound}
use Rattle.vm_memory.proofs.Using.ReachedLemmas.{reach_by, seat_given}
use Rattle.vm_memory.proofs.Bytes.SeatWriteLemmas.{write-seat}
use Rattle.vm_memory.proofs.Using.WalkTargetLemmas.{IsPageFrame, page_frame}

-- ---- any change of RAM that is one of a page

module _ {W : Type 0} (S : SwapStore W) (m : Memory W) (sound : IsSound S.slot_count m)
    (ram : RamBytes) (f : FrameNumber) (page : List ℕ) (same_area : area ram ≡ area m.ram)
    (now : page_of_frame ram ≡ put_at nat_eq (page_of_frame m.ram) f.0 page) (behind : 21 * processes m ≤ f.0) where
  abbrev n : Memory W
  n = record m { ram = ram }

  abbrev E : Entries
  E = entries (processes m) m.ram

  abbrev I : Infos
  I = infos m.owners

  abbrev B : SeatBytes
  B = bytes_at m.ram (S.held m.store)

  pub same_entries : entries (processes m) ram ≡ E
  same_entries = entries_after_page (processes m) m.ram ram f.0 page same_area now behind

  agrees_after : agrees ram m.owners
  agrees_after = record {
    first = sound.agree.first;
    last = sound.agree.last ∙ ap (λ (a : Area). a.frames) (sym same_area);
    made = λ pid process. made_after_page m.ram ram (processes m) f.0 page same_area now behind pid process (sound.agree.made pid process);
    entries = subst (λ F. EntriesAgree (processes m) F I) (sym same_entries) sound.agree.entries;
  }

  blank_after : blank_ledger n ≡ blank_ledger m
  unfolding blank_ledger
  blank_after = ap (λ F. ledger_of F I (λ s. zero_page)) same_entries

  pub sound_after : IsSound S.slot_count n
  sound_after = record {
    agree = agrees_after;
    procs = sound.procs;
    slots = sound.slots;
    few = sound.few;
    few_slots = sound.few_slots;
    tables = subst (λ (a : Area). table_frames (processes m) + 2 ≤ a.frames) (sym same_area) sound.tables;
    placed = subst (λ a. IsPlaced a) (sym same_area) sound.placed;
    store = sound.store;
    lawful = subst (λ l. IsLawful (processes m) (capacity_of n) l) (sym blank_after)
        (subst (λ (a : Area). IsLawful (processes m) (capacity a.frames (processes m) (extent m.owners).slots) (blank_ledger m)) (sym same_area) sound.lawful);
    pages = sound.pages ∙ ap (pages (processes m)) (sym blank_after);
    seats = sound.seats;
    room = sound.room;
    last = λ unused at over. subst (λ (a : Area). page_frames a.frames (processes m) ≤ used_frames m.owners) (sym same_area)
        (sound.last unused at (subst (λ (a : Area). page_frames a.frames (processes m) < m.pages) same_area over));
  }

  pub size_after : size n ≡ size m
  size_after = ap (λ a. record { procs = processes m; area = a; slots = (extent m.owners).slots }) same_area

  bytes_after : (s : Seat) → bytes_at ram (S.held m.store) s ≡ with_bytes B (Frame f) page s
  bytes_after (Frame g) = ap (λ P. P g.0) now
  bytes_after (Slot s) = refl

  ledger_after : ledger S.held n ≡ ledger_of E I (with_bytes B (Frame f) page)
  unfolding ledger
  ledger_after = ap (λ F. ledger_of F I (bytes_at ram (S.held m.store))) same_entries ∙ (λ i. ledger_of E I (λ s. bytes_after s i))

  -- bytes written from an offset on
  pub written_after : (p : Place) (side : Side) → E p ≡ Some (At side (Frame f)) → (offset : ℕ) (bytes : List ℕ)
      → page ≡ written (page_of_frame m.ram f.0) offset bytes → ledger S.held n ≡ write (side_name I p side (Frame f)) offset bytes (ledger S.held m)
  unfolding ledger
  written_after p side e offset bytes is =
      ledger_after ∙ ap (λ w. ledger_of E I (with_bytes B (Frame f) w)) is
      ∙ write-seat (processes m) E I sound.agree.entries B (Frame f) offset bytes p side e

-- ---- the bytes of a near place, as they are lent out

-- the entry of a near place
pub near_entry : {W : Type 0} (m : Memory W) (p : Place) → is_near m p ≡ true
    → (side : Side) × (f : FrameNumber) × (entries (processes m) m.ram p ≡ Some (At side (Frame f)))
unfolding is_near
near_entry m p near = by_entry (entries (processes m) m.ram p) refl near
  where
    by_entry : (o : Option Entry) → entries (processes m) m.ram p ≡ o → names_frame o ≡ true
        → (side : Side) × (f : FrameNumber) × (entries (processes m) m.ram p ≡ Some (At side (Frame f)))
    by_entry None e h = absurd (false≢true h)
    by_entry (Some Free) e h = absurd (false≢true h)
    by_entry (Some (At side (Frame f))) e h = (side, f, e)
    by_entry (Some (At side (Slot s))) e h = absurd (false≢true h)
    by_entry (Some (OnConsole w)) e h = absurd (false≢true h)

pub whole_page : (old page : List ℕ) → length old ≡ 4096 → length page ≡ 4096 → page ≡ written old 0 page
whole_page old page a b =
    let rest : drop (0 + length page) old ≡ [] = drop_all (0 + length page) old (omega arith) in
    sym (ap (λ r. page ++ r) rest ∙ append-nil page)

module _ {W : Type 0} (S : SwapStore W) (m : Memory W) (sound : IsSound S.slot_count m)
    (p : Place) (side : Side) (f : FrameNumber) (e : entries (processes m) m.ram p ≡ Some (At side (Frame f))) (page : List ℕ) where
  pub lent_is : with_bytes_at m p page ≡ record m { ram = with_page m.ram f.0 page }
  unfolding with_bytes_at
  lent_is = ap (λ o. record m { ram = with_page m.ram (frame_named o) page }) e

  there : IsPageFrame (processes m) (area m.ram).frames f.0
  there = page_frame S.slot_count m sound p side f e

  now_there : length page ≡ 4096 → page_of_frame (with_page m.ram f.0 page) ≡ put_at nat_eq (page_of_frame m.ram) f.0 page
  now_there whole = pages-with_page m.ram f.0 page there.inside whole

  pub lent_sound : length page ≡ 4096 → IsSound S.slot_count (with_bytes_at m p page)
  lent_sound whole = subst (λ n. IsSound S.slot_count n) (sym lent_is)
      (sound_after S m sound (with_page m.ram f.0 page) f page (area-with_page m.ram f.0 page) (now_there whole) there.no_table)

  lent_write : length page ≡ 4096 → ledger S.held (with_bytes_at m p page) ≡ write (side_name (infos m.owners) p side (Frame f)) 0 page (ledger S.held m)
  lent_write whole = ap (ledger S.held) lent_is
      ∙ written_after S m sound (with_page m.ram f.0 page) f page (area-with_page m.ram f.0 page) (now_there whole) there.no_table
      p side e 0 page (whole_page (page_of_frame m.ram f.0) page (length-pages m.ram f.0 there.inside) whole)

  pub lent_ledger : (access : Access) → reaches_bytes (processes m) (ledger S.held m) p access ≡ true → length page ≡ 4096
      → ledger S.held (with_bytes_at m p page) ≡ write_page (reach (processes m) (ledger S.held m) p access) page (ledger S.held m)
  lent_ledger access may whole = lent_write whole ∙ sym (ap (λ r. write_page r page (ledger S.held m)) reached)
    where
      reached : reach (processes m) (ledger S.held m) p access ≡ Some (side_name (infos m.owners) p side (Frame f))
      reached = reach_by S m sound p (At side (Frame f)) access e
          ∙ ap (λ b. if b then Some (side_name (infos m.owners) p side (Frame f)) else None) (seat_given S m sound p side (Frame f) access e may)

pub lent_size : {W : Type 0} (m : Memory W) (p : Place) (page : List ℕ) → size (with_bytes_at m p page) ≡ size m
unfolding with_bytes_at
lent_size m p page = ap (λ a. record { procs = processes m; area = a; slots = (extent m.owners).slots }) (area-with_page m.ram (frame_named (entries (processes m) m.ram p)) page)

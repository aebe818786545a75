-- What the calls on one page write, as steps of the memory.
use Rattle.xk_ports.specs.declared.store.SwapStore.{Ghosts as SwapStore}
use Rattle.xk_base.specs.Tables.Circle.{is_pid}
use Rattle.std.proofs.Common.{◌≡◌, ℕ, ◌+◌, ◌-◌, ◌*◌, ◌<◌, ◌≤◌, Bool, true, false, not, List, replicate, length, Option, Some, None, refl, sym, ap, subst, ◌∙◌, inl, inr, arith}
use Rattle.std.specs.Prelude.{is_some, nat_eq}
use Rattle.std.specs.Option.{option_and_then}
use Rattle.std.proofs.lemmas.Bool.{and_parts, both_ways, cond-true, cond-false, ne_eqb, eq-eqb, not-false}
use Rattle.std.proofs.lemmas.List.{length-replicate}
use Rattle.std.proofs.lemmas.Option.{none-some}
use Rattle.xk_base.specs.Tables.Counting.{put_at}
use Rattle.xk_base.specs.Numbers.Windows.{window_at}
use Rattle.xk_base.specs.declared.ids.Frame.{Frame as FrameNumber}
use Rattle.xk_base.specs.declared.ids.Place.{Place}
use Rattle.xk_base.specs.declared.pages.Right.{Right}
use Rattle.phys_pages.specs.declared.infos.PageInfo.{PageInfo}
use Rattle.phys_pages.specs.declared.infos.Seat.{Seat}
use Rattle.phys_pages.specs.declared.infos.Seat.TheVariants.{Frame, Slot}
use Rattle.phys_pages.specs.Owners.{OwnerTable, extent, frame_seat, infos, HasSeat, seat_eq}
use Rattle.phys_pages.specs.Ram.{RamBytes, area, pages as page_of_frame, with_page}
use Rattle.phys_pages.proofs.OwnerLemmas.{infos-within, seat_tells}
use Rattle.phys_pages.proofs.PageLemmas.{pages-with_page}
use Rattle.ledger_model.specs.Conditions.{CanMake, is_within}
use Rattle.ledger_model.specs.Lawful.{IsLawful}
use Rattle.ledger_model.specs.Ledger.{Ledger, Bytes, pages}
use Rattle.ledger_model.specs.Places.{in_run, is_user_place}
use Rattle.ledger_model.specs.Reach.{is_free, role_at}
use Rattle.ledger_model.specs.RunTests.{asks_more, is_on_loan}
use Rattle.ledger_model.specs.Steps.{make, reduce, remove, zero_page}
use Rattle.ledger_model.proofs.Stepping.MakingLemmas.{make_lawful, make_pages}
use Rattle.ledger_model.proofs.Stepping.RemovingLemmas.{remove_lawful, reduce_lawful, reduce_pages}
use Rattle.sv32_space.specs.declared.sides.Side.TheVariants.{Own, LentOut, LentIn, MutOut, MutIn}
use Rattle.sv32_space.specs.Agreement.{EntriesAgree, Infos, owned_by}
use Rattle.sv32_space.specs.declared.sides.Entry.{Entry}
use Rattle.sv32_space.specs.declared.sides.Entry.TheVariants.{Free, At, OnConsole}
use Rattle.sv32_space.specs.Entries.{Entries}
use Rattle.sv32_space.specs.EntryLedger.{SeatBytes, is_free_entry, ledger_of, page_of_entry}
use Rattle.sv32_space.specs.PageChanges.{with_bytes, with_entry, with_info}
use Rattle.sv32_space.specs.Spaces.{IsMade}
use Rattle.sv32_space.specs.SpelledEntries.{IsEntry, entries}
use Rattle.sv32_space.specs.Tie.{bytes_at}
use Rattle.sv32_space.proofs.EntryLemmas.{entries_after_page}
use Rattle.sv32_space.proofs.RunLemmas.{remove_nothing}
use Rattle.sv32_space.proofs.SpaceLemmas.{made_after_page}
use Rattle.sv32_space.proofs.Ledgers.EntryLedgerLemmas.{home_at}
use Rattle.sv32_space.proofs.Agreeing.PageAgreementLemmas.{make_agrees, remove_agrees, reduce_agrees}
use Rattle.sv32_space.proofs.Ledgers.PageLedgerLemmas.{make_ledger, remove_ledger, reduce_ledger}
use Rattle.sv32_space.proofs.Agreeing.RoleLemmas.{free_by_entry}
use Rattle.vm_memory.specs.declared.memory.Memory.{Memory}
use Rattle.vm_memory.specs.declared.memory.changes.Owned.{Owned}
use Rattle.vm_memory.specs.declared.memory.changes.Owned.TheVariants as owned
use Rattle.vm_memory.specs.Pages.Changing.{IsFrameAtHand, IsFreeFrame, owned_in}
use Rattle.vm_memory.specs.Memory.{blank_ledger, capacity_of, frames_for_pages, ledger, processes}
use Rattle.vm_memory.specs.Sound.{IsSound, KnowsLastFrame}
use Rattle.vm_memory.proofs.Changing.ChangedLemmas.{IsChanged, IsStep, no_bytes, frames_stay, room_kept, room_there, step_from, step_there}
use Rattle.vm_memory.proofs.Changing.LastFrameLemmas.{last_anew, last_kept, last_placed}
use Rattle.sv32_space.proofs.Agreeing.EntryRoleLemmas.{entry_role, role-entry}
use Rattle.vm_memory.proofs.Changing.OnePlaceLemmas.{in_one, lone_page, can_remove, can_reduce, one_less, reduce_nothing}

-- the zeroed page of a frame
pub cleared : (ram : RamBytes) (f n : ℕ) (page : List ℕ) → f < (area ram).frames → length page ≡ 4096 → page ≡ replicate n 0
    → page_of_frame (with_page ram f page) ≡ put_at nat_eq (page_of_frame ram) f zero_page
unfolding zero_page
cleared ram f n page within whole zeros =
    let size : n ≡ 4096 = sym (length-replicate {A = ℕ} n 0) ∙ (ap length (sym zeros) ∙ whole) in
    pages-with_page ram f page within whole ∙ ap (put_at nat_eq (page_of_frame ram) f) (zeros ∙ ap (λ k. replicate k 0) size)

-- the entry of one place, as it was written
pub record IsWritten (old new : RamBytes) (at : Place) (entry : Entry) : Type 0 where
  pub entries : (procs : ℕ) → is_pid procs at.pid.0 ≡ true
      → entries procs new ≡ with_entry (entries procs old) at entry
  pub pages : (procs f : ℕ) → is_pid procs at.pid.0 ≡ true → 21 * procs ≤ f → page_of_frame new f ≡ page_of_frame old f
  pub made : (pid : ℕ) → IsMade old pid → IsMade new pid
  pub area : area new ≡ area old

pub user_process : (procs : ℕ) (p : Place) → is_user_place procs p ≡ true → is_pid procs p.pid.0 ≡ true
user_process procs p user = (and_parts (is_pid procs p.pid.0) (is_some (window_at p.vpn.0)) user).0

-- ---- what an entry says

entry_of_owned : Owned → Option Entry
entry_of_owned owned.Nothing = None
entry_of_owned (owned.Page right s) = Some (At (Own right) s)
entry_of_owned (owned.Console w) = Some (OnConsole w)

pub page_entry : (o : Option Entry) (right : Right) (s : Seat) → owned_in o ≡ owned.Page right s → o ≡ Some (At (Own right) s)
unfolding entry_of_owned
page_entry None right s e = absurd cc
page_entry (Some Free) right s e = absurd cc
page_entry (Some (At (Own r) t)) right s e = ap entry_of_owned e
page_entry (Some (At (LentOut r) t)) right s e = absurd cc
page_entry (Some (At LentIn t)) right s e = absurd cc
page_entry (Some (At (MutOut x) t)) right s e = absurd cc
page_entry (Some (At MutIn t)) right s e = absurd cc
page_entry (Some (OnConsole w)) right s e = absurd cc

pub console_entry : (o : Option Entry) (w : Bool) → owned_in o ≡ owned.Console w → o ≡ Some (OnConsole w)
unfolding entry_of_owned
console_entry None w e = absurd cc
console_entry (Some Free) w e = absurd cc
console_entry (Some (At (Own r) t)) w e = absurd cc
console_entry (Some (At (LentOut r) t)) w e = absurd cc
console_entry (Some (At LentIn t)) w e = absurd cc
console_entry (Some (At (MutOut x) t)) w e = absurd cc
console_entry (Some (At MutIn t)) w e = absurd cc
console_entry (Some (OnConsole v)) w e = ap entry_of_owned e

-- a right that isn't asked for more is within the page's
pub within_of : (asked had : Right) → not (is_within asked had) ≡ false → is_within asked had ≡ true
within_of asked had e = not-false (is_within asked had) e

-- a seat that is free stays so where another goes free
pub seat_freed : (I : Infos) (s t : Seat) → I t ≡ None → put_at seat_eq I s None t ≡ None
seat_freed I s t free = elim (seat_tells t s) [
  | inl same ↦ cond-true (seat_eq t s) None (I t) same.1
  | inr apart ↦ cond-false (seat_eq t s) None (I t) apart.1 ∙ free
]

-- zeros at a seat are no change where it has zeros
zeros_put : (s : Seat) (B : SeatBytes) → B s ≡ zero_page → with_bytes B s zero_page ≡ B
zeros_put s B zero = λ i t. by_seat t i
  where
    by_seat : (t : Seat) → with_bytes B s zero_page t ≡ B t
    by_seat t = elim (seat_tells t s) [
      | inl same ↦ cond-true (seat_eq t s) zero_page (B t) same.1 ∙ sym (ap B same.0 ∙ zero)
      | inr apart ↦ cond-false (seat_eq t s) zero_page (B t) apart.1
    ]

module _ {W : Type 0} (S : SwapStore W) (m : Memory W) (sound : IsSound S.slot_count m) (at : Place) where
  abbrev E : Entries
  E = entries (processes m) m.ram

  abbrev I : Infos
  I = infos m.owners

  abbrev B : SeatBytes
  B = bytes_at m.ram (S.held m.store)

  -- ---- what stands at the place

  -- a place with an entry is a user place
  pub entry_user : (e : Entry) → E at ≡ Some e → is_user_place (processes m) at ≡ true
  entry_user e here = sym (sound.agree.entries.spelled at) ∙ ap is_some here

  pub entry_process : (e : Entry) → E at ≡ Some e → is_pid (processes m) at.pid.0 ≡ true
  entry_process e here = user_process (processes m) at (entry_user e here)

  pub entry_made : (e : Entry) → E at ≡ Some e → IsMade m.ram at.pid.0
  entry_made e here = sound.agree.made at.pid.0 (entry_process e here)

  -- a free place has a free entry
  pub free_entry : is_user_place (processes m) at ≡ true → is_free (processes m) (ledger S.held m) at ≡ true → E at ≡ Some Free
  unfolding ledger
  free_entry user free = by_entry (E at) refl (sym (free_by_entry (processes m) E I B sound.agree.entries at) ∙ free)
      (sound.agree.entries.spelled at ∙ user)
    where
      by_entry : (o : Option Entry) → E at ≡ o → is_free_entry o ≡ true → is_some o ≡ true → E at ≡ Some Free
      by_entry None e f s = absurd (both_ways false refl s)
      by_entry (Some Free) e f s = e
      by_entry (Some (At side seat)) e f s = absurd (both_ways false refl f)
      by_entry (Some (OnConsole w)) e f s = absurd (both_ways false refl f)

  -- a page that isn't on loan, by its entry
  own_page : (right : Right) (s : Seat) → E at ≡ Some (At (Own right) s) → (blank_ledger m).home at ≡ Some (lone_page right (Bytes zero_page))
  unfolding blank_ledger
  own_page right s here = home_at E I no_bytes at (At (Own right) s) here

  -- its seat is one of the table
  pub own_seat : (right : Right) (s : Seat) → E at ≡ Some (At (Own right) s) → HasSeat (extent m.owners) s
  own_seat right s here = infos-within m.owners s (owned_by at) (sound.agree.entries.own at right s here)

  -- .. and can be spelled
  pub own_entry : (right new : Right) (s : Seat) → E at ≡ Some (At (Own right) s) → IsEntry (area m.ram) (At (Own new) s)
  own_entry right new s here = by_seat s (own_seat right s here)
    where
      by_seat : (t : Seat) → HasSeat (extent m.owners) t → IsEntry (area m.ram) (At (Own new) t)
      by_seat (Frame f) seat =
          let last : (extent m.owners).first + (extent m.owners).frames ≡ (area m.ram).frames = sound.agree.last in
          omega (arith, seat.1, last)
      by_seat (Slot s) seat = omega (arith, seat, sound.slots, sound.few_slots)

  -- ---- one entry is written, and one seat of the table, but no byte of a page

  module _ (new : RamBytes) (owners : OwnerTable) (count hand : ℕ) (entry : Entry) (J : Infos)
      (process : is_pid (processes m) at.pid.0 ≡ true) (w : IsWritten m.ram new at entry)
      (told : infos owners ≡ J) (table : extent owners ≡ extent m.owners) where
    abbrev n : Memory W
    n = record m { ram = new; owners = owners; pages = count; hand = hand }

    changed : IsChanged m n (with_entry E at entry) J
    changed = record {
      entries = w.entries (processes m) process;
      infos = told;
      made = λ pid there made. w.made pid made;
      area = w.area;
      extent = table;
      store = refl;
      failed = refl;
      procs = refl;
      slots = refl;
    }

    pub written_step : (step : Ledger → Ledger) → EntriesAgree (processes m) (with_entry E at entry) J
        → IsLawful (processes m) (capacity_of m) (step (blank_ledger m)) → count ≡ pages (processes m) (step (blank_ledger m))
        → ((f : ℕ) → infos m.owners (frame_seat f) ≡ None → infos owners (frame_seat f) ≡ None) → KnowsLastFrame n
        → ((C : SeatBytes) → ledger_of (with_entry E at entry) J C ≡ step (ledger_of E I C)) → IsStep S m n step
    written_step step agree lawful counted free last each =
        step_there S m n (with_entry E at entry) J sound changed step agree lawful counted
        (λ usable. room_kept m n table free (sound.room usable)) (λ seats. last)
        (frames_stay S m n (with_entry E at entry) J sound changed (λ g low. w.pages (processes m) g process low)) each

  -- ---- a page goes

  page_less : (right : Right) (s : Seat) → E at ≡ Some (At (Own right) s)
      → pages (processes m) (remove (in_run at 1) (blank_ledger m)) + 1 ≡ pages (processes m) (blank_ledger m)
  page_less right s here =
      one_less (processes m) (blank_ledger m) at right (Bytes zero_page) (own_page right s here) (entry_user (At (Own right) s) here) refl

  -- where there is such a page, there is one
  pub some_page : (right : Right) (s : Seat) → E at ≡ Some (At (Own right) s) → 1 ≤ m.pages
  some_page right s here = omega (arith, sound.pages, page_less right s here)

  -- .. and the search for a frame goes on from the first, where more pages are left than stand in frames
  pub gone_step : (new : RamBytes) (owners : OwnerTable) (hand : ℕ) (right : Right) (s : Seat) → E at ≡ Some (At (Own right) s)
      → IsWritten m.ram new at Free
      → infos owners ≡ put_at seat_eq (infos m.owners) s None → extent owners ≡ extent m.owners
      → (frames_for_pages m < m.pages - 1 → hand ≡ 0)
      → IsStep S m (record m { ram = new; owners = owners; pages = m.pages - 1; hand = hand }) (remove (in_run at 1))
  gone_step new owners hand right s here w told table anew =
      written_step new owners (m.pages - 1) hand Free (with_info I s None) (entry_process (At (Own right) s) here) w told table
      (remove (in_run at 1)) (remove_agrees (processes m) E I at right s sound.agree.entries here)
      (remove_lawful (processes m) (capacity_of m) (in_run at 1) (blank_ledger m) sound.lawful
      (can_remove (processes m) (blank_ledger m) at right (Bytes zero_page) (own_page right s here)))
      (omega (arith, sound.pages, page_less right s here))
      (λ f free. ap (λ I. I (frame_seat f)) told ∙ seat_freed (infos m.owners) s (frame_seat f) free)
      (last_anew m (record m { ram = new; owners = owners; pages = m.pages - 1; hand = hand }) table w.area anew)
      (λ C. remove_ledger (processes m) E I C at right s sound.agree.entries here)

  -- where a place has no page of its own, and nothing on loan, there is no home
  pub nothing_there : is_on_loan (role_at (processes m) (ledger S.held m) at) ≡ false → owned_in (E at) ≡ owned.Nothing → (ledger S.held m).home at ≡ None
  unfolding ledger ledger_of blank_ledger
  nothing_there free e = by_entry (E at) refl e
    where
      role : (o : Option Entry) → E at ≡ o → is_on_loan (role_at (processes m) (ledger_of E I B) at) ≡ is_on_loan (entry_role I B at o)
      role o h = ap is_on_loan (role-entry (processes m) E I B sound.agree.entries at o h)

      by_entry : (o : Option Entry) → E at ≡ o → owned_in o ≡ owned.Nothing → option_and_then (page_of_entry I B) (E at) ≡ None
      by_entry None h n = ap (option_and_then (page_of_entry I B)) h
      by_entry (Some Free) h n = ap (option_and_then (page_of_entry I B)) h
      by_entry (Some (At (Own r) s)) h n = absurd cc
      by_entry (Some (At (LentOut r) s)) h n = absurd (both_ways (is_on_loan (role_at (processes m) (ledger_of E I B) at)) free
          (role (Some (At (LentOut r) s)) h))
      by_entry (Some (At LentIn s)) h n = ap (option_and_then (page_of_entry I B)) h
      by_entry (Some (At (MutOut x) s)) h n = absurd (both_ways (is_on_loan (role_at (processes m) (ledger_of E I B) at)) free
          (role (Some (At (MutOut x) s)) h))
      by_entry (Some (At MutIn s)) h n = ap (option_and_then (page_of_entry I B)) h
      by_entry (Some (OnConsole w)) h n = absurd cc

  pub nothing_gone : is_on_loan (role_at (processes m) (ledger S.held m) at) ≡ false → owned_in (E at) ≡ owned.Nothing
      → ledger S.held m ≡ remove (in_run at 1) (ledger S.held m)
  nothing_gone free e = sym (remove_nothing (in_run at 1) (ledger S.held m)
      (λ p there. ap (λ q. (ledger S.held m).home q) (in_one at p there) ∙ nothing_there free e))

  -- ---- a page gets another right

  -- the right that the entry tells has what is asked
  page_within : (right new : Right) (s : Seat) → E at ≡ Some (At (Own right) s) → asks_more new ((ledger S.held m).home at) ≡ false → is_within new right ≡ true
  unfolding ledger
  page_within right new s here asked = within_of new right (sym (ap (asks_more new) (home_at E I B at (At (Own right) s) here)) ∙ asked)

  -- what is known of the frame before that at hand stays where an entry alone changes
  pub entry_last : (new : RamBytes) → area new ≡ area m.ram → KnowsLastFrame (record m { ram = new })
  entry_last new same =
      last_kept m (record m { ram = new }) (record { hand = refl; table = refl; area = same }) (omega arith) (λ f free. free) sound.last

  pub reduced_step : (new_ram : RamBytes) (right new : Right) (s : Seat) → E at ≡ Some (At (Own right) s)
      → asks_more new ((ledger S.held m).home at) ≡ false
      → IsWritten m.ram new_ram at (At (Own new) s)
      → IsStep S m (record m { ram = new_ram }) (reduce (in_run at 1) new)
  reduced_step new_ram right new s here asked w =
      written_step new_ram m.owners m.pages m.hand (At (Own new) s) I (entry_process (At (Own right) s) here) w refl refl
      (reduce (in_run at 1) new) (reduce_agrees (processes m) E I at right new s sound.agree.entries here)
      (reduce_lawful (processes m) (capacity_of m) (in_run at 1) new (blank_ledger m) sound.lawful
      (can_reduce (processes m) (blank_ledger m) at right (Bytes zero_page) (own_page right s here) new (page_within right new s here asked)))
      (sound.pages ∙ sym (reduce_pages (processes m) (in_run at 1) new (blank_ledger m)))
      (λ f free. free) (entry_last new_ram w.area)
      (λ C. reduce_ledger (processes m) E I C at right new s sound.agree.entries here)

  pub nothing_reduced : (right : Right) → is_on_loan (role_at (processes m) (ledger S.held m) at) ≡ false → owned_in (E at) ≡ owned.Nothing
      → ledger S.held m ≡ reduce (in_run at 1) right (ledger S.held m)
  nothing_reduced right free e = reduce_nothing at right (ledger S.held m) (nothing_there free e)

  -- ---- a page comes

  pub frame_behind : (f : ℕ) → IsFreeFrame m.owners f → (21 * processes m ≤ f) × (f < (area m.ram).frames)
  frame_behind f frame =
      let first : (extent m.owners).first ≡ 21 * processes m = sound.agree.first in
      let last : (extent m.owners).first + (extent m.owners).frames ≡ (area m.ram).frames = sound.agree.last in
      (omega (arith, frame.within.0, first), omega (arith, frame.within.1, last))

  -- its frame, where there was none, holds zeros
  module _ (clean : RamBytes) (f : FrameNumber) (frame : IsFreeFrame m.owners f.0)
      (wiped : page_of_frame clean ≡ put_at nat_eq (page_of_frame m.ram) f.0 zero_page) (same : area clean ≡ area m.ram) where
    abbrev behind : 21 * processes m ≤ f.0
    behind = (frame_behind f.0 frame).0

    pub cleared_made : (pid : ℕ) → is_pid (processes m) pid ≡ true → IsMade m.ram pid → IsMade clean pid
    cleared_made = made_after_page m.ram clean (processes m) f.0 zero_page same wiped behind

    module _ (new : RamBytes) (owners : OwnerTable) (right : Right) (user : is_user_place (processes m) at ≡ true)
        (free : E at ≡ Some Free) (room : m.pages + 1 ≤ capacity_of m) (left : m.failed ≡ false → m.pages + 1 ≤ frames_for_pages m)
        (at_hand : frames_for_pages m ≤ m.pages → IsFrameAtHand m f.0)
        (w : IsWritten clean new at (At (Own right) (Frame f)))
        (told : infos owners ≡ put_at seat_eq (infos m.owners) (Frame f) (Some (owned_by at))) (table : extent owners ≡ extent m.owners) where
      abbrev p : Memory W
      p = record m { ram = new; owners = owners; pages = m.pages + 1 }

      abbrev E2 : Entries
      E2 = with_entry E at (At (Own right) (Frame f))

      abbrev I2 : Infos
      I2 = with_info I (Frame f) (Some (owned_by at))

      process : is_pid (processes m) at.pid.0 ≡ true
      process = user_process (processes m) at user

      placed : IsChanged m p E2 I2
      placed = record {
        entries = w.entries (processes m) process
            ∙ ap (λ F. with_entry F at (At (Own right) (Frame f))) (entries_after_page (processes m) m.ram clean f.0 zero_page same wiped behind);
        infos = told;
        made = λ pid there made. w.made pid (cleared_made pid there made);
        area = w.area ∙ same;
        extent = table;
        store = refl;
        failed = refl;
        procs = refl;
        slots = refl;
      }

      zeros : page_of_frame new f.0 ≡ zero_page
      zeros = w.pages (processes m) f.0 process behind
          ∙ (ap (λ P. P f.0) wiped ∙ cond-true (nat_eq f.0 f.0) zero_page (page_of_frame m.ram f.0) (eq-eqb f.0 f.0 refl))

      frame_taken : is_some (infos owners (Frame f)) ≡ true
      frame_taken = ap (λ J. is_some (J (Frame f))) told ∙ ap is_some (cond-true (seat_eq (Frame f) (Frame f)) (Some (owned_by at)) (I (Frame f)) (eq-eqb f.0 f.0 refl))

      stay : (g : ℕ) (info : PageInfo) → infos m.owners (frame_seat g) ≡ Some info → page_of_frame new g ≡ page_of_frame m.ram g
      stay g info i =
          let seat : HasSeat (extent m.owners) (frame_seat g) = infos-within m.owners (frame_seat g) info i in
          let first : (extent m.owners).first ≡ 21 * processes m = sound.agree.first in
          w.pages (processes m) g process (omega (arith, seat.0, first))
          ∙ (ap (λ P. P g) wiped ∙ cond-false (nat_eq g f.0) zero_page (page_of_frame m.ram g) (ne_eqb g f.0
          (λ e. none-some info (sym frame.free ∙ (ap (λ k. I (frame_seat k)) (sym e) ∙ i)))))

      can : CanMake (processes m) (capacity_of m) (blank_ledger m) at 1
      unfolding blank_ledger
      can = record {
        lies = λ q e. subst (λ r. is_user_place (processes m) r ≡ true) (sym (in_one at q e)) user;
        free = λ q e. subst (λ r. is_free (processes m) (ledger_of E I no_bytes) r ≡ true) (sym (in_one at q e))
            (free_by_entry (processes m) E I no_bytes sound.agree.entries at ∙ ap is_free_entry free);
        room = subst (λ k. k + 1 ≤ capacity_of m) sound.pages room;
      }

      from_zeros : (C : SeatBytes) → C (Frame f) ≡ zero_page → ledger_of E2 I2 C ≡ make at 1 right (ledger_of E I C)
      from_zeros C zero = ap (ledger_of E2 I2) (sym (zeros_put (Frame f) C zero)) ∙ make_ledger (processes m) E I C at right (Frame f) sound.agree.entries free frame.free

      agree_then : EntriesAgree (processes m) E2 I2
      agree_then = make_agrees (processes m) E I at right (Frame f) sound.agree.entries free frame.free

      counted_then : pages (processes m) (ledger_of E2 I2 no_bytes) ≡ pages (processes m) (blank_ledger m) + 1
      unfolding blank_ledger
      counted_then = ap (pages (processes m)) (from_zeros no_bytes refl) ∙ make_pages (processes m) (capacity_of m) at 1 right (blank_ledger m) can

      pub placed_step : IsStep S m p (make at 1 right)
      unfolding blank_ledger
      placed_step = step_from S m p E2 I2 sound placed (make at 1 right)
          agree_then
          (make_lawful (processes m) (capacity_of m) at 1 right (blank_ledger m) sound.lawful can)
          (ap (λ k. k + 1) sound.pages ∙ sym (make_pages (processes m) (capacity_of m) at 1 right (blank_ledger m) can))
          (λ usable. room_there S m p E2 I2 sound placed agree_then (omega (arith, left usable, counted_then, sound.pages)))
          (λ seats. last_placed m p f (owned_by at) (record { hand = refl; table = table; area = w.area ∙ same }) told frame_taken refl at_hand)
          stay (from_zeros no_bytes refl) (from_zeros (bytes_at new (S.held m.store)) zeros)

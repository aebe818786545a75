-- What a store leaves of a sound memory.
use Rattle.xk_ports.specs.declared.store.SwapStore.{Ghosts as SwapStore}
use Rattle.std.proofs.Common.{◌≡◌, ◌≢◌, ℕ, ◌+◌, ◌/◌, ◌%◌, ◌≤◌, if◌then◌else◌, Bool, true, false, List, length, nat_eq, Option, Some, None, refl, sym, ap, ◌∙◌, inl, inr, arith}
use Rattle.std.specs.Prelude.{slice_index}
use Rattle.std.proofs.lemmas.Bool.{cases_eq, cond-true, cond-false, eq-eqb, ne_eqb, false≢true}
use Rattle.xk_base.specs.Tables.Counting.{put_at}
use Rattle.xk_base.specs.UserMemory.{Memory as SeenMemory, size_of, with_number}
use Rattle.xk_base.specs.declared.ids.Frame.{Frame as FrameNumber}
use Rattle.xk_base.specs.declared.ids.Pid.{Pid}
use Rattle.xk_base.specs.declared.ids.Place.{Place}
use Rattle.xk_base.specs.declared.pages.Access.{Access}
use Rattle.xk_base.specs.declared.pages.Access.TheVariants.{Load, Store}
use Rattle.xk_base.specs.declared.pages.Width.{Width}
use Rattle.phys_pages.specs.declared.infos.Seat.{Seat}
use Rattle.phys_pages.specs.declared.infos.Seat.TheVariants.{Frame, Slot}
use Rattle.phys_pages.specs.Owners.{infos}
use Rattle.phys_pages.specs.Ram.{area, pages, with_page}
use Rattle.phys_pages.proofs.PageLemmas.{length-pages, pages-with_page, area-with_page}
use Rattle.ledger_model.specs.Ledger.{PageName, contents_of}
use Rattle.ledger_model.specs.Loans.{bare}
use Rattle.ledger_model.specs.Steps.{written, write}
use Rattle.ledger_model.proofs.ReachingLemmas.{write_others}
use Rattle.ledger_model.proofs.Stepping.WritingLemmas.{write_bare}
use Rattle.sv32_space.specs.declared.sides.Side.{Side}
use Rattle.sv32_space.specs.declared.sides.Side.TheVariants.{Own, LentOut, LentIn, MutOut, MutIn}
use Rattle.sv32_space.specs.Agreement.{Infos, EntriesAgree}
use Rattle.sv32_space.specs.declared.sides.Entry.{Entry}
use Rattle.sv32_space.specs.declared.sides.Entry.TheVariants.{Free, At, OnConsole}
use Rattle.sv32_space.specs.Entries.{Entries}
use Rattle.sv32_space.specs.EntryLedger.{SeatBytes}
use Rattle.sv32_space.specs.EntryReach.{entry_may, side_may, side_name}
use Rattle.sv32_space.specs.SpelledEntries.{entries}
use Rattle.sv32_space.specs.Tie.{Held, bytes_at}
use Rattle.sv32_space.proofs.Ledgers.EntryLedgerLemmas.{names_owned}
use Rattle.vm_memory.specs.declared.memory.Memory.{Memory}
use Rattle.page_views.specs.declared.targets.Target.TheVariants.{Page as ToPage}
use Rattle.page_views.specs.EntryAccess.{entry_target}
use Rattle.xk_base.specs.Numbers.Windows.{page_of}
use Rattle.vm_memory.specs.Memory.{processes, ledger, size}
use Rattle.vm_memory.specs.Sound.{IsSound}
use Rattle.xk_base.specs.UserMemory.{low_bytes}
use Rattle.vm_memory.specs.Using.UserView.{IsUnseen, seen_memory}
use Rattle.ledger_model.proofs.Pages.BareLemmas.{reach-bare}
use Rattle.vm_memory.proofs.Bytes.PageWriteLemmas.{sound_after, same_entries, size_after, written_after}
use Rattle.vm_memory.proofs.Using.ReachedLemmas.{reach_by}
use Rattle.vm_memory.proofs.Bytes.StoreLemmas.{there, elsewhere, written_size, low_size, stays_in_page}
use Rattle.vm_memory.proofs.Using.UserLemmas.{IsPageTarget, page_target, load_too, may_by, byte_seat, byte_by, console_by, entry_byte, is_device}
use Rattle.vm_memory.proofs.Using.WalkTargetLemmas.{IsPageFrame, page_frame}

-- a page that a process may store to at one place it can't load at another
one_place : (procs : ℕ) (E : Entries) (I : Infos) → EntriesAgree procs E I → (p q : Place) (side other : Side) (s : Seat)
    → E p ≡ Some (At side s) → side_may side Store ≡ true → E q ≡ Some (At other s) → side_may other Load ≡ true → q ≡ p
one_place procs E I agree p q (Own right) other s e may f load = names_owned procs E I agree p q other s (agree.own p right s e) f
one_place procs E I agree p q (LentOut right) other s e may f load = absurd (false≢true may)
one_place procs E I agree p q LentIn other s e may f load = absurd (false≢true may)
one_place procs E I agree p q (MutOut x) other s e may f load = absurd (false≢true may)
one_place procs E I agree p q MutIn (Own right) s e may f load = let a = agree.mut_in p s e in let b = agree.own q right s f in grind arith
one_place procs E I agree p q MutIn (LentOut right) s e may f load = let a = agree.mut_in p s e in let b = agree.lent_out q right s f in grind arith
one_place procs E I agree p q MutIn LentIn s e may f load = let a = agree.mut_in p s e in let b = agree.lent_in q s f in grind arith
one_place procs E I agree p q MutIn (MutOut x) s e may f load = absurd (false≢true load)
one_place procs E I agree p q MutIn MutIn s e may f load = let a = agree.mut_in p s e in let b = agree.mut_in q s f in grind arith

-- ---- the store

module _ {W : Type 0} (S : SwapStore W) (m : Memory W) (sound : IsSound S.slot_count m) (pid : Pid)
    (va : ℕ) (width : Width) (value : ℕ) (aligned : va % size_of width ≡ 0) (f : FrameNumber)
    (target : entry_target (entries (processes m) m.ram (page_of pid va)) Store ≡ ToPage f) where
  abbrev E : Entries
  E = entries (processes m) m.ram

  abbrev B : SeatBytes
  B = bytes_at m.ram (S.held m.store)

  abbrev V : SeenMemory
  V = seen_memory (processes m) (ledger S.held m) pid

  abbrev page : List ℕ
  page = written (pages m.ram f.0) (va % 4096) (low_bytes width value)

  abbrev n : Memory W
  n = record m { ram = with_page m.ram f.0 page }

  abbrev C : SeatBytes
  C = bytes_at n.ram (S.held m.store)

  abbrev U : SeenMemory
  U = seen_memory (processes m) (ledger S.held n) pid

  pub t : IsPageTarget (E (page_of pid va)) Store f
  t = page_target (E (page_of pid va)) Store f target

  load : side_may t.side Load ≡ true
  load = load_too t.side Store t.given

  frame : IsPageFrame (processes m) (area m.ram).frames f.0
  frame = page_frame S.slot_count m sound (page_of pid va) t.side f t.entry

  was_whole : length (pages m.ram f.0) ≡ 4096
  was_whole = length-pages m.ram f.0 frame.inside

  fits : va % 4096 + length (low_bytes width value) ≤ 4096
  fits = let k = stays_in_page width va aligned in let l = low_size width value in omega arith

  whole : length page ≡ 4096
  whole = written_size (pages m.ram f.0) (va % 4096) (low_bytes width value) fits was_whole

  now : pages n.ram ≡ put_at nat_eq (pages m.ram) f.0 page
  now = pages-with_page m.ram f.0 page frame.inside whole

  pub stored_sound : IsSound S.slot_count n
  stored_sound = sound_after S m sound n.ram f page (area-with_page m.ram f.0 page) now frame.no_table

  pub entries_stay : entries (processes m) n.ram ≡ E
  entries_stay = same_entries S m sound n.ram f page (area-with_page m.ram f.0 page) now frame.no_table

  pub stored_size : size n ≡ size m
  stored_size = size_after S m sound n.ram f page (area-with_page m.ram f.0 page) now frame.no_table

  -- the ledger is written
  pub stored_ledger : ledger S.held n ≡ write (side_name (infos m.owners) (page_of pid va) t.side (Frame f)) (va % 4096) (low_bytes width value) (ledger S.held m)
  stored_ledger = written_after S m sound n.ram f page (area-with_page m.ram f.0 page) now frame.no_table
      (page_of pid va) t.side t.entry (va % 4096) (low_bytes width value) refl

  -- ---- what is seen

  pub stored_may : U.may ≡ V.may
  stored_may = λ i access a. at access a i
    where
      at : (access : Access) (a : ℕ) → U.may access a ≡ V.may access a
      at access a = may_by S n stored_sound pid a access ∙ ap (λ F. entry_may (F (page_of pid a)) access) entries_stay ∙ sym (may_by S m sound pid a access)

  pub stored_console : U.console ≡ V.console
  stored_console = λ i a. at a i
    where
      at : (a : ℕ) → U.console a ≡ V.console a
      at a = console_by S n stored_sound pid a ∙ ap (λ F. is_device (F (page_of pid a))) entries_stay ∙ sym (console_by S m sound pid a)

  page_there : C (Frame f) ≡ page
  page_there = ap (λ P. P f.0) now ∙ cond-true (nat_eq f.0 f.0) page (pages m.ram f.0) (eq-eqb f.0 f.0 refl)

  pages_kept : (s : Seat) → s ≢ Frame f → C s ≡ B s
  pages_kept (Frame g) ne = ap (λ P. P g.0) now ∙ cond-false (nat_eq g.0 f.0) page (pages m.ram g.0) (ne_eqb g.0 f.0 (λ e. ne (ap (λ k. Frame (record { 0 = k })) e)))
  pages_kept (Slot s) ne = refl

  same_page : (a : ℕ) → a / 4096 ≡ va / 4096 → E (page_of pid a) ≡ Some (At t.side (Frame f))
  same_page a e = ap (λ v. E (record { pid = pid; vpn = record { 0 = v } })) e ∙ t.entry

  old_byte : (a : ℕ) → a / 4096 ≡ va / 4096 → V.byte a ≡ slice_index (pages m.ram f.0) (a % 4096)
  old_byte a e = byte_seat S m sound pid a t.side (Frame f) (same_page a e) load

  new_byte : (a : ℕ) → a / 4096 ≡ va / 4096 → U.byte a ≡ slice_index page (a % 4096)
  new_byte a e =
      byte_seat S n stored_sound pid a t.side (Frame f) (ap (λ F. F (page_of pid a)) entries_stay ∙ same_page a e) load
      ∙ ap (λ p. slice_index p (a % 4096)) page_there

  -- in another page no byte changes
  kept : (a : ℕ) → a / 4096 ≢ va / 4096 → (o : Option Entry) → E (page_of pid a) ≡ o → entry_byte C o (a % 4096) ≡ entry_byte B o (a % 4096)
  kept a apart None e = refl
  kept a apart (Some Free) e = refl
  kept a apart (Some (OnConsole w)) e = refl
  kept a apart (Some (At side s)) e = by_given (side_may side Load) refl
    where
      by_given : (b : Bool) → side_may side Load ≡ b → (if b then slice_index (C s) (a % 4096) else 0) ≡ (if b then slice_index (B s) (a % 4096) else 0)
      by_given false given = refl
      by_given true given = ap (λ p. slice_index p (a % 4096)) (pages_kept s (λ same. apart
          (ap (λ (p : Place). p.vpn.0) (one_place (processes m) E (infos m.owners) sound.agree.entries (page_of pid va) (page_of pid a) t.side side (Frame f)
          t.entry t.given (e ∙ ap (λ u. Some (At side u)) same) given))))

  pub stored_byte : (a : ℕ) → U.byte a ≡ with_number V.byte va width value a
  stored_byte a = elim (cases_eq (a / 4096) (va / 4096)) [
    | inl same ↦ new_byte a same ∙ there V.byte va width value aligned (pages m.ram f.0) was_whole old_byte a same
    | inr apart ↦
        byte_by S n stored_sound pid a ∙ ap (λ F. entry_byte C (F (page_of pid a)) (a % 4096)) entries_stay
        ∙ kept a apart (E (page_of pid a)) refl ∙ sym (byte_by S m sound pid a)
        ∙ sym (elsewhere V.byte va width value aligned (pages m.ram f.0) was_whole old_byte a apart)
  ]

  pub stored_bytes : U.byte ≡ with_number V.byte va width value
  stored_bytes = λ i a. stored_byte a i

  -- the process has the access there, and it isn't the console
  pub store_given : V.may Store va ≡ true
  store_given = may_by S m sound pid va Store ∙ ap (λ o. entry_may o Store) t.entry ∙ t.given

  pub store_no_console : V.console va ≡ false
  store_no_console = console_by S m sound pid va ∙ ap is_device t.entry

  -- ---- what is kept besides

  pub stored_rights : bare (ledger S.held n) ≡ bare (ledger S.held m)
  stored_rights = ap bare stored_ledger ∙ write_bare (side_name (infos m.owners) (page_of pid va) t.side (Frame f)) (va % 4096) (low_bytes width value) (ledger S.held m)

  pub stored_unseen : (name : PageName) → IsUnseen (processes m) (bare (ledger S.held m)) pid name → contents_of (ledger S.held n) name ≡ contents_of (ledger S.held m) name
  stored_unseen name unseen = ap (λ l. contents_of l name) stored_ledger
      ∙ write_others (side_name (infos m.owners) (page_of pid va) t.side (Frame f)) name (va % 4096) (low_bytes width value) (ledger S.held m)
      (λ same. unseen va (reach-bare (processes m) (ledger S.held m) (page_of pid va) Load
      ∙ (reach_by S m sound (page_of pid va) (At t.side (Frame f)) Load t.entry
      ∙ ap (λ b. if b then Some (side_name (infos m.owners) (page_of pid va) t.side (Frame f)) else None) load)
      ∙ ap Some (sym same)))

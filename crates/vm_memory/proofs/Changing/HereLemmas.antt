-- What `at` tells is what the ledger has at the place.
use Rattle.xk_ports.specs.declared.store.SwapStore.{Ghosts as SwapStore}
use Rattle.std.proofs.Common.{◌≡◌, ℕ, Bool, true, false, List, Option, Some, None, refl, sym, ap, ◌∙◌, inl, inr}
use Rattle.std.specs.Prelude.{is_some}
use Rattle.std.proofs.lemmas.Bool.{true≢false}
use Rattle.xk_base.specs.declared.ids.Place.{Place}
use Rattle.xk_base.specs.declared.pages.LoanKind.{LoanKind}
use Rattle.xk_base.specs.declared.pages.LoanKind.TheVariants.{Shared, Exclusive}
use Rattle.phys_pages.specs.declared.infos.PageInfo.{PageInfo}
use Rattle.phys_pages.specs.declared.infos.Seat.{Seat}
use Rattle.phys_pages.specs.Owners.{HasSeat, extent, infos}
use Rattle.phys_pages.proofs.OwnerLemmas.{infos-within}
use Rattle.ledger_model.specs.Places.{is_user_place}
use Rattle.ledger_model.proofs.LedgerLemmas.{cases_Option}
use Rattle.sv32_space.specs.declared.sides.Side.{Side}
use Rattle.sv32_space.specs.declared.sides.Side.TheVariants.{Own, LentOut, LentIn, MutOut, MutIn}
use Rattle.sv32_space.specs.Agreement.{Infos, home_in, loan_in, number_of}
use Rattle.sv32_space.specs.declared.sides.Entry.{Entry}
use Rattle.sv32_space.specs.declared.sides.Entry.TheVariants.{Free, At, OnConsole}
use Rattle.sv32_space.specs.Entries.{Entries}
use Rattle.sv32_space.specs.EntryLedger.{SeatBytes}
use Rattle.sv32_space.specs.SpelledEntries.{entries}
use Rattle.sv32_space.specs.Tie.{Held, bytes_at}
use Rattle.sv32_space.proofs.Ledgers.EntryLedgerLemmas.{names_free}
use Rattle.page_views.specs.declared.places.Here.TheVariants as here
use Rattle.vm_memory.specs.declared.memory.Memory.{Memory}
use Rattle.page_views.specs.EntryAccess.{side_here}
use Rattle.page_views.specs.Here.{here_of, here_at}
use Rattle.vm_memory.specs.Memory.{processes, ledger, blank_ledger}
use Rattle.vm_memory.specs.Sound.{IsSound}
use Rattle.sv32_space.proofs.Agreeing.EntryRoleLemmas.{held_role, side_role, entry_role, role-entry}

held_here : (p : Place) (kind : LoanKind) (bytes : List ℕ) (info : Option PageInfo) (h : Option Place)
    → here_of (held_role p kind bytes info h) ≡ here.Lent kind h (number_of (loan_in info))
held_here p kind bytes info None = refl
held_here p kind bytes info (Some home) = refl

module _ {W : Type 0} (S : SwapStore W) (m : Memory W) (sound : IsSound S.slot_count m) (p : Place) where
  abbrev E : Entries
  E = entries (processes m) m.ram

  abbrev I : Infos
  I = infos m.owners

  abbrev B : SeatBytes
  B = bytes_at m.ram (S.held m.store)

  here_by : (o : Option Entry) → E p ≡ o → here_at (processes m) (ledger S.held m) p ≡ here_of (entry_role I B p o)
  unfolding ledger blank_ledger
  here_by o e = ap here_of (role-entry (processes m) E I B sound.agree.entries p o e)

  pub here-free : E p ≡ Some Free → here.Nothing ≡ here_at (processes m) (ledger S.held m) p
  here-free e = sym (here_by (Some Free) e)

  pub here-nowhere : is_user_place (processes m) p ≡ false → here.Nothing ≡ here_at (processes m) (ledger S.held m) p
  here-nowhere outside = by_entry (E p) refl
    where
      by_entry : (o : Option Entry) → E p ≡ o → here.Nothing ≡ here_at (processes m) (ledger S.held m) p
      by_entry None e = sym (here_by None e)
      by_entry (Some entry) e = absurd (true≢false (sym (ap is_some e) ∙ (sound.agree.entries.spelled p ∙ outside)))

  -- where a side stands, the owner table's loan is of its kind
  side_tells : (side : Side) (s : Seat) → E p ≡ Some (At side s) → here_of (side_role p side (B s) (I s)) ≡ side_here side (I s)
  side_tells (Own right) s e = refl
  side_tells (LentOut right) s e = ap (here.Own right false) (sym (ap loan_in (sound.agree.entries.lent_out p right s e)))
  side_tells LentIn s e = held_here p Shared (B s) (I s) (home_in (I s))
  side_tells (MutOut x) s e = ap (here.Own (record { w = true; x = x }) false) (sym (ap loan_in (sound.agree.entries.mut_out p x s e)))
  side_tells MutIn s e = held_here p Exclusive (B s) (I s) (home_in (I s))

  pub here-side : (side : Side) (s : Seat) → E p ≡ Some (At side s) → side_here side (I s) ≡ here_at (processes m) (ledger S.held m) p
  here-side side s e = sym (here_by (Some (At side s)) e ∙ side_tells side s e)

  pub seat_there : (side : Side) (s : Seat) → E p ≡ Some (At side s) → HasSeat (extent m.owners) s
  seat_there side s e = elim (cases_Option (I s)) [
    | inl none ↦ absurd (names_free (processes m) E I sound.agree.entries p side s e none)
    | inr some ↦ infos-within m.owners s some.0 some.1
  ]

  pub here-console : (w : Bool) → E p ≡ Some (OnConsole w) → here.Own (record { w = w; x = false }) true None ≡ here_at (processes m) (ledger S.held m) p
  here-console w e = sym (here_by (Some (OnConsole w)) e)

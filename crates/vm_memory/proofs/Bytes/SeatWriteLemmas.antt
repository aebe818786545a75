-- Bytes that are written at the seat that an entry names are written to that entry's page.
use Rattle.std.proofs.Common.{◌≡◌, ℕ, List, Option, Some, None, refl, sym, ap, ◌∙◌}
use Rattle.xk_base.specs.declared.ids.Place.{Place}
use Rattle.xk_base.specs.declared.pages.LoanKind.{LoanKind}
use Rattle.xk_base.specs.declared.pages.LoanKind.TheVariants.{Shared, Exclusive}
use Rattle.phys_pages.specs.declared.infos.Seat.{Seat}
use Rattle.ledger_model.specs.Steps.{write, written}
use Rattle.sv32_space.specs.declared.sides.Side.{Side}
use Rattle.sv32_space.specs.declared.sides.Side.TheVariants.{Own, LentOut, LentIn, MutOut, MutIn}
use Rattle.sv32_space.specs.Agreement.{Infos, EntriesAgree, home_in, right_in, loan_to, on_loan, lender_side}
use Rattle.sv32_space.specs.declared.sides.Entry.TheVariants.{At}
use Rattle.sv32_space.specs.Entries.{Entries}
use Rattle.sv32_space.specs.EntryLedger.{SeatBytes, ledger_of}
use Rattle.sv32_space.specs.PageChanges.{with_bytes}
use Rattle.sv32_space.proofs.Ledgers.SeatByteLemmas.{write_ledger, write_orphan_ledger}
use Rattle.sv32_space.specs.EntryReach.{held_name, side_name}

module _ (procs : ℕ) (E : Entries) (I : Infos) (agree : EntriesAgree procs E I) (B : SeatBytes) (s : Seat) (offset : ℕ) (bytes : List ℕ) where
  abbrev C : SeatBytes
  C = with_bytes B s (written (B s) offset bytes)

  -- a holder's entry is of the lender's page, or of an orphan
  held_write : (p : Place) (kind : LoanKind) → I s ≡ Some (on_loan (home_in (I s)) (loan_to p kind (I s)))
      → ledger_of E I C ≡ write (held_name p (home_in (I s))) offset bytes (ledger_of E I B)
  held_write p kind i = by_home (home_in (I s)) refl
    where
      by_home : (h : Option Place) → home_in (I s) ≡ h → ledger_of E I C ≡ write (held_name p (home_in (I s))) offset bytes (ledger_of E I B)
      by_home (Some q) k =
          let there : I s ≡ Some (on_loan (Some q) (loan_to p kind (I s))) = i ∙ ap (λ h. Some (on_loan h (loan_to p kind (I s)))) k in
          write_ledger procs E I B q (lender_side kind (right_in (E q))) s offset bytes agree (agree.lender s q (loan_to p kind (I s)) there) k
          ∙ ap (λ h. write (held_name p h) offset bytes (ledger_of E I B)) (sym k)
      by_home None k =
          write_orphan_ledger procs E I B s (loan_to p kind (I s)) offset bytes agree (i ∙ ap (λ h. Some (on_loan h (loan_to p kind (I s)))) k)
          ∙ ap (λ h. write (held_name p h) offset bytes (ledger_of E I B)) (sym k)

  -- THE WRITE
  pub write-seat : (p : Place) (side : Side) → E p ≡ Some (At side s)
      → ledger_of E I C ≡ write (side_name I p side s) offset bytes (ledger_of E I B)
  write-seat p (Own right) e = write_ledger procs E I B p (Own right) s offset bytes agree e (ap home_in (agree.own p right s e))
  write-seat p (LentOut right) e = write_ledger procs E I B p (LentOut right) s offset bytes agree e (ap home_in (agree.lent_out p right s e))
  write-seat p LentIn e = held_write p Shared (agree.lent_in p s e)
  write-seat p (MutOut x) e = write_ledger procs E I B p (MutOut x) s offset bytes agree e (ap home_in (agree.mut_out p x s e))
  write-seat p MutIn e = held_write p Exclusive (agree.mut_in p s e)

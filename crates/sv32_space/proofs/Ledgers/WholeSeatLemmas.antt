-- The pages of a ledger are whole where the bytes of used seats are pages; those of slots always are.
use Rattle.std.proofs.Common.{◌≡◌, ℕ, if◌then◌else◌, List, Option, Some, None, refl, sym, subst, inl, inr}
use Rattle.std.specs.Prelude.{unwrap_or}
use Rattle.std.specs.Option.{option_and_then}
use Rattle.std.proofs.lemmas.Bool.{cases_Bool}
use Rattle.xk_base.specs.declared.ids.Place.{Place}
use Rattle.xk_base.specs.declared.pages.LoanKind.TheVariants.{Shared, Exclusive}
use Rattle.phys_pages.specs.declared.infos.LoanInfo.{LoanInfo}
use Rattle.phys_pages.specs.declared.infos.PageInfo.{PageInfo}
use Rattle.phys_pages.specs.declared.infos.Seat.{Seat}
use Rattle.ledger_model.specs.Steps.{zero_page}
use Rattle.ledger_model.specs.WholePages.{IsPage, HasWholePages, is_page}
use Rattle.ledger_model.proofs.Pages.WholePageLemmas.{WholePage, WholeOrphan, is_page-true, whole_from, zero_page-whole}
use Rattle.sv32_space.specs.declared.sides.Side.TheVariants.{Own, LentOut, LentIn, MutOut, MutIn}
use Rattle.sv32_space.specs.Agreement.{Infos, EntriesAgree, loan_told, on_loan, owned_by}
use Rattle.sv32_space.specs.declared.sides.Entry.{Entry}
use Rattle.sv32_space.specs.declared.sides.Entry.TheVariants.{Free, At, OnConsole}
use Rattle.sv32_space.specs.Entries.{Entries}
use Rattle.sv32_space.specs.EntryLedger.{SeatBytes, ledger_of, orphan_of_entry, orphan_of_info, page_of_entry}
use Rattle.sv32_space.specs.StandsFor.{told_page}
use Rattle.sv32_space.specs.Tie.{Held, slot_bytes}

page_or_zeros : (bytes : List ℕ) → IsPage (unwrap_or (told_page bytes) zero_page)
page_or_zeros bytes = elim (cases_Bool (is_page bytes)) [
  | inl t ↦ subst (λ b. IsPage (unwrap_or (if b then Some bytes else None) zero_page)) (sym t) (is_page-true bytes t)
  | inr f ↦ subst (λ b. IsPage (unwrap_or (if b then Some bytes else None) zero_page)) (sym f) zero_page-whole
]

-- whatever a store tells
pub slot_whole : (held : Held) (s : ℕ) → IsPage (slot_bytes held s)
slot_whole None s = zero_page-whole
slot_whole (Some slots) s = page_or_zeros (slots s)

module _ (procs : ℕ) (E : Entries) (I : Infos) (B : SeatBytes) (agree : EntriesAgree procs E I)
    (whole : (s : Seat) (info : PageInfo) → I s ≡ Some info → IsPage (B s)) where
  page_whole : (p : Place) (o : Option Entry) → E p ≡ o → WholePage (option_and_then (page_of_entry I B) o)
  page_whole p None e = tt
  page_whole p (Some Free) e = tt
  page_whole p (Some (At (Own right) s)) e = whole s (owned_by p) (agree.own p right s e)
  page_whole p (Some (At (LentOut right) s)) e = whole s (on_loan (Some p) (loan_told Shared (I s))) (agree.lent_out p right s e)
  page_whole p (Some (At LentIn s)) e = tt
  page_whole p (Some (At (MutOut x) s)) e = whole s (on_loan (Some p) (loan_told Exclusive (I s))) (agree.mut_out p x s e)
  page_whole p (Some (At MutIn s)) e = tt
  page_whole p (Some (OnConsole w)) e = tt

  orphan_whole : (s : Seat) (o : Option PageInfo) → I s ≡ o → WholeOrphan (option_and_then (orphan_of_info (B s)) o)
  orphan_whole s None e = tt
  orphan_whole s (Some info) e = by_parts info.home info.loan
    where
      by_parts : (home : Option Place) (loan : Option LoanInfo) → WholeOrphan (orphan_of_info (B s) (record { home = home; loan = loan }))
      by_parts (Some home) loan = tt
      by_parts None None = tt
      by_parts None (Some loan) = whole s info e

  held_whole : (o : Option Entry) → WholeOrphan (option_and_then (orphan_of_entry I B) o)
  held_whole None = tt
  held_whole (Some Free) = tt
  held_whole (Some (At (Own right) s)) = tt
  held_whole (Some (At (LentOut right) s)) = tt
  held_whole (Some (At LentIn s)) = orphan_whole s (I s) refl
  held_whole (Some (At (MutOut x) s)) = tt
  held_whole (Some (At MutIn s)) = orphan_whole s (I s) refl
  held_whole (Some (OnConsole w)) = tt

  pub ledger_whole : HasWholePages (ledger_of E I B)
  unfolding ledger_of
  ledger_whole = whole_from (ledger_of E I B) (λ p. page_whole p (E p) refl) (λ p. held_whole (E p))

-- Pages stay whole by each change of the ledger.
use Rattle.std.proofs.Common.{◌≡◌, ℕ, Bool, true, false, Option, Some, None}
use Rattle.std.specs.Prelude.{◌%◌, if◌then◌else◌}
use Rattle.std.specs.Option.{option_and_then, option_map, option_or}
use Rattle.xk_base.specs.declared.ids.Number.{Number}
use Rattle.xk_base.specs.declared.ids.Place.{Place}
use Rattle.xk_base.specs.declared.messages.MsgKind.TheVariants.{LendMut, Lend, Move, Scalar, BlockingScalar}
use Rattle.xk_base.specs.declared.pages.LoanKind.TheVariants.{Exclusive, Shared}
use Rattle.xk_base.specs.declared.pages.Width.{Width}
use Rattle.xk_base.specs.UserMemory.{low_bytes, size_of}
use Rattle.ledger_model.specs.Ledger.{Bytes, Console, Contents, Ledger, Orphan, Page, PageLoan, PageName}
use Rattle.ledger_model.specs.Places.{in_run}
use Rattle.ledger_model.specs.Reach.{lender_of}
use Rattle.ledger_model.specs.Steps.{orphan_with}
use Rattle.ledger_model.specs.WholePages.{HasWholePages}
use Rattle.ledger_model.proofs.Pages.WholePageLemmas.{WholeContents, WholeOrphan, WholePage, end_loan_whole, give_whole, lend_whole, make_console_whole, make_whole, pass_whole, reduce_whole, remove_whole, whole_from, whole_home, whole_orphan, write_whole}
use Rattle.machine_model.specs.Messaging.LoanSets.{end_loans, freed_but, is_lent_by, orphan_but, orphan_loans, orphan_of_page, page_but}
use Rattle.machine_model.specs.State.Views.{write_to}
use Rattle.machine_laws.proofs.Executing.StoredByteLemmas.{bytes_fit, each_of}
use Rattle.call_effects.specs.Effects.{PageStep, Maps, Removes, Reduces, Sends, Passes, Ends, paged}

-- ---- choices

chosen : (b : Bool) (x y : Option Page) → WholePage x → WholePage y → WholePage (if b then x else y)
chosen true x y f g = f
chosen false x y f g = g

chosen_orphan : (b : Bool) (x y : Option Orphan) → WholeOrphan x → WholeOrphan y → WholeOrphan (if b then x else y)
chosen_orphan true x y f g = f
chosen_orphan false x y f g = g

or_whole : (x y : Option Orphan) → WholeOrphan x → WholeOrphan y → WholeOrphan (option_or x y)
or_whole None y f g = g
or_whole (Some orphan) y f g = f

-- ---- loans of many messages

module _ (ends : Number → Bool) (l : Ledger) (h : HasWholePages l) where
  freed_whole : (o : Option Page) → WholePage o → WholePage (option_map (freed_but ends) o)
  freed_whole None f = tt
  freed_whole (Some page) f = f

  kept_whole : (o : Option Orphan) → WholeOrphan o → WholeOrphan (orphan_but ends o)
  kept_whole None f = tt
  kept_whole (Some orphan) f = chosen_orphan (ends orphan.number) None (Some orphan) tt f

  pub end_loans_whole : HasWholePages (end_loans ends l)
  unfolding end_loans
  end_loans_whole = whole_from (end_loans ends l) (λ p. freed_whole (l.home p) (whole_home l h p)) (λ p. kept_whole (l.orphan p) (whole_orphan l h p))

  home_whole : (o : Option Page) → WholePage o → WholePage (page_but ends o)
  home_whole None f = tt
  home_whole (Some page) f = chosen (is_lent_by ends page.loan) None (Some page) tt f

  bytes_whole : (loan : PageLoan) (c : Contents) → WholeContents c → WholeOrphan (orphan_with loan c)
  bytes_whole loan Console f = tt
  bytes_whole loan (Bytes bytes) f = f

  of_page : (o : Option Page) → WholePage o → WholeOrphan (option_and_then (orphan_of_page ends) o)
  of_page None f = tt
  of_page (Some page) f = by_loan page.loan
    where
      by_loan : (o : Option PageLoan) → WholeOrphan (option_and_then (λ loan. if ends loan.number then orphan_with loan page.contents else None) o)
      by_loan None = tt
      by_loan (Some loan) = chosen_orphan (ends loan.number) (orphan_with loan page.contents) None (bytes_whole loan page.contents f) tt

  of_lender : (o : Option Place) → WholePage (option_and_then l.home o)
  of_lender None = tt
  of_lender (Some p) = whole_home l h p

  pub orphan_loans_whole : (procs : ℕ) → HasWholePages (orphan_loans procs ends l)
  unfolding orphan_loans
  orphan_loans_whole procs = whole_from (orphan_loans procs ends l)
      (λ p. home_whole (l.home p) (whole_home l h p))
      (λ q. or_whole (option_and_then (orphan_of_page ends) (option_and_then l.home (lender_of procs l q))) (l.orphan q)
      (of_page (option_and_then l.home (lender_of procs l q)) (of_lender (lender_of procs l q))) (whole_orphan l h q))

-- ---- the steps of calls, and stores

pub paged_whole : (step : PageStep) (l : Ledger) → HasWholePages l → HasWholePages (paged step l)
paged_whole (Maps false first n right) l h = make_whole first n right l h
paged_whole (Maps true first n right) l h = make_console_whole first right.w l h
paged_whole (Removes first n) l h = remove_whole (in_run first n) l h
paged_whole (Reduces first n right) l h = reduce_whole (in_run first n) right l h
paged_whole (Sends LendMut from n to number) l h = lend_whole from n to Exclusive number l h
paged_whole (Sends Lend from n to number) l h = lend_whole from n to Shared number l h
paged_whole (Sends Move from n to number) l h = give_whole from n to l h
paged_whole (Sends Scalar from n to number) l h = h
paged_whole (Sends BlockingScalar from n to number) l h = h
paged_whole (Passes number from to) l h = pass_whole number from to l h
paged_whole (Ends number) l h = end_loan_whole number l h

pub stored_whole : (o : Option PageName) (address : ℕ) (width : Width) (value : ℕ) (l : Ledger) → address % size_of width ≡ 0
    → HasWholePages l → HasWholePages (write_to o (address % 4096) (low_bytes width value) l)
stored_whole None address width value l al h = h
stored_whole (Some page) address width value l al h =
    write_whole page (address % 4096) (low_bytes width value) l
    (record { fits = bytes_fit width address value al; each = each_of 0 (size_of width) value }) h

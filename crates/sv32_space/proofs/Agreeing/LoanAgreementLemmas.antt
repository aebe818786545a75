-- Changes of loans keep the agreement of entries and owners.
use Rattle.std.proofs.Common.{◌≡◌, ℕ, Some, None, arith}
use Rattle.xk_base.specs.declared.ids.Place.{Place}
use Rattle.xk_base.specs.declared.pages.Right.{Right}
use Rattle.phys_pages.specs.declared.infos.LoanInfo.{LoanInfo}
use Rattle.phys_pages.specs.declared.infos.Seat.{Seat}
use Rattle.phys_pages.proofs.OwnerLemmas.{seat_tells}
use Rattle.ledger_model.proofs.PlaceLemmas.{same_place_tells}
use Rattle.sv32_space.specs.declared.sides.Side.TheVariants.{Own}
use Rattle.sv32_space.specs.Agreement.{Infos, EntriesAgree, owned_by, on_loan}
use Rattle.sv32_space.specs.declared.sides.Entry.TheVariants.{Free, At}
use Rattle.sv32_space.specs.Entries.{Entries}
use Rattle.sv32_space.specs.PageChanges.{with_entry, with_info, lent_entries, ended_entries, passed_entries, held_at}

-- a page at its home goes on loan
pub lend_agrees : (procs : ℕ) (E : Entries) (I : Infos) (home : Place) (right : Right) (s : Seat) (loan : LoanInfo) → EntriesAgree procs E I
    → E home ≡ Some (At (Own right) s) → E loan.holder ≡ Some Free
    → EntriesAgree procs (lent_entries E home right s loan) (with_info I s (Some (on_loan (Some home) loan)))
lend_agrees procs E I home right s loan agree here free = record {
  spelled = λ p. let a = agree.spelled p in let x0 = same_place_tells p loan.holder in let x1 = same_place_tells p home in let b = agree.own home right s here in grind (arith, x0, x1);
  used = λ t. let a = agree.used t in let z0 = seat_tells t s in grind (arith, z0);
  home = λ t p e. let a = agree.home t p in let x0 = same_place_tells p loan.holder in let x1 = same_place_tells p home in let z0 = seat_tells t s in let b = agree.own home right s here in grind (arith, x0, x1, z0);
  lender = λ t p l e. let a = agree.lender t p l in let x0 = same_place_tells p loan.holder in let x1 = same_place_tells p home in let z0 = seat_tells t s in let b = agree.own home right s here in grind (arith, x0, x1, z0);
  holder = λ t p l e. let a = agree.holder t p l in let x0 = same_place_tells l.holder loan.holder in let x1 = same_place_tells l.holder home in let z0 = seat_tells t s in let b = agree.own home right s here in grind (arith, x0, x1, z0);
  own = λ q r t e. let a = agree.own q r t in let x0 = same_place_tells q loan.holder in let x1 = same_place_tells q home in let z0 = seat_tells t s in let b = agree.own home right s here in grind (arith, x0, x1, z0);
  lent_out = λ q r t e. let a = agree.lent_out q r t in let x0 = same_place_tells q loan.holder in let x1 = same_place_tells q home in let z0 = seat_tells t s in let b = agree.own home right s here in grind (arith, x0, x1, z0);
  mut_out = λ q x t e. let a = agree.mut_out q x t in let x0 = same_place_tells q loan.holder in let x1 = same_place_tells q home in let z0 = seat_tells t s in let b = agree.own home right s here in grind (arith, x0, x1, z0);
  lent_in = λ q t e. let a = agree.lent_in q t in let x0 = same_place_tells q loan.holder in let x1 = same_place_tells q home in let z0 = seat_tells t s in let b = agree.own home right s here in grind (arith, x0, x1, z0);
  mut_in = λ q t e. let a = agree.mut_in q t in let x0 = same_place_tells q loan.holder in let x1 = same_place_tells q home in let z0 = seat_tells t s in let b = agree.own home right s here in grind (arith, x0, x1, z0);
}

-- the loan of a page with a lender ends
pub end_agrees : (procs : ℕ) (E : Entries) (I : Infos) (home : Place) (right : Right) (s : Seat) (loan : LoanInfo) → EntriesAgree procs E I
    → I s ≡ Some (on_loan (Some home) loan)
    → EntriesAgree procs (ended_entries E home right s loan.holder) (with_info I s (Some (owned_by home)))
end_agrees procs E I home right s loan agree here = record {
  spelled = λ p. let a = agree.spelled p in let x0 = same_place_tells p loan.holder in let x1 = same_place_tells p home in let b = agree.lender s home loan here in let c = agree.holder s (Some home) loan here in grind (arith, x0, x1);
  used = λ t. let a = agree.used t in let z0 = seat_tells t s in grind (arith, z0);
  home = λ t p e. let a = agree.home t p in let x0 = same_place_tells p loan.holder in let x1 = same_place_tells p home in let z0 = seat_tells t s in let b = agree.lender s home loan here in let c = agree.holder s (Some home) loan here in grind (arith, x0, x1, z0);
  lender = λ t p l e. let a = agree.lender t p l in let x0 = same_place_tells p loan.holder in let x1 = same_place_tells p home in let z0 = seat_tells t s in let b = agree.lender s home loan here in let c = agree.holder s (Some home) loan here in grind (arith, x0, x1, z0);
  holder = λ t p l e. let a = agree.holder t p l in let x0 = same_place_tells l.holder loan.holder in let x1 = same_place_tells l.holder home in let z0 = seat_tells t s in let b = agree.lender s home loan here in let c = agree.holder s (Some home) loan here in grind (arith, x0, x1, z0);
  own = λ q r t e. let a = agree.own q r t in let x0 = same_place_tells q loan.holder in let x1 = same_place_tells q home in let z0 = seat_tells t s in let b = agree.lender s home loan here in let c = agree.holder s (Some home) loan here in grind (arith, x0, x1, z0);
  lent_out = λ q r t e. let a = agree.lent_out q r t in let x0 = same_place_tells q loan.holder in let x1 = same_place_tells q home in let z0 = seat_tells t s in let b = agree.lender s home loan here in let c = agree.holder s (Some home) loan here in grind (arith, x0, x1, z0);
  mut_out = λ q x t e. let a = agree.mut_out q x t in let x0 = same_place_tells q loan.holder in let x1 = same_place_tells q home in let z0 = seat_tells t s in let b = agree.lender s home loan here in let c = agree.holder s (Some home) loan here in grind (arith, x0, x1, z0);
  lent_in = λ q t e. let a = agree.lent_in q t in let x0 = same_place_tells q loan.holder in let x1 = same_place_tells q home in let z0 = seat_tells t s in let b = agree.lender s home loan here in let c = agree.holder s (Some home) loan here in grind (arith, x0, x1, z0);
  mut_in = λ q t e. let a = agree.mut_in q t in let x0 = same_place_tells q loan.holder in let x1 = same_place_tells q home in let z0 = seat_tells t s in let b = agree.lender s home loan here in let c = agree.holder s (Some home) loan here in grind (arith, x0, x1, z0);
}

-- an orphan is forgotten
pub forget_agrees : (procs : ℕ) (E : Entries) (I : Infos) (s : Seat) (loan : LoanInfo) → EntriesAgree procs E I
    → I s ≡ Some (on_loan None loan)
    → EntriesAgree procs (with_entry E loan.holder Free) (with_info I s None)
forget_agrees procs E I s loan agree here = record {
  spelled = λ p. let a = agree.spelled p in let x0 = same_place_tells p loan.holder in let c = agree.holder s None loan here in grind (arith, x0);
  used = λ t. let a = agree.used t in let z0 = seat_tells t s in grind (arith, z0);
  home = λ t p e. let a = agree.home t p in let x0 = same_place_tells p loan.holder in let z0 = seat_tells t s in let c = agree.holder s None loan here in grind (arith, x0, z0);
  lender = λ t p l e. let a = agree.lender t p l in let x0 = same_place_tells p loan.holder in let z0 = seat_tells t s in let c = agree.holder s None loan here in grind (arith, x0, z0);
  holder = λ t p l e. let a = agree.holder t p l in let x0 = same_place_tells l.holder loan.holder in let z0 = seat_tells t s in let c = agree.holder s None loan here in grind (arith, x0, z0);
  own = λ q r t e. let a = agree.own q r t in let x0 = same_place_tells q loan.holder in let z0 = seat_tells t s in let c = agree.holder s None loan here in grind (arith, x0, z0);
  lent_out = λ q r t e. let a = agree.lent_out q r t in let x0 = same_place_tells q loan.holder in let z0 = seat_tells t s in let c = agree.holder s None loan here in grind (arith, x0, z0);
  mut_out = λ q x t e. let a = agree.mut_out q x t in let x0 = same_place_tells q loan.holder in let z0 = seat_tells t s in let c = agree.holder s None loan here in grind (arith, x0, z0);
  lent_in = λ q t e. let a = agree.lent_in q t in let x0 = same_place_tells q loan.holder in let z0 = seat_tells t s in let c = agree.holder s None loan here in grind (arith, x0, z0);
  mut_in = λ q t e. let a = agree.mut_in q t in let x0 = same_place_tells q loan.holder in let z0 = seat_tells t s in let c = agree.holder s None loan here in grind (arith, x0, z0);
}

-- a page on loan becomes an orphan
pub orphan_agrees : (procs : ℕ) (E : Entries) (I : Infos) (home : Place) (s : Seat) (loan : LoanInfo) → EntriesAgree procs E I
    → I s ≡ Some (on_loan (Some home) loan)
    → EntriesAgree procs (with_entry E home Free) (with_info I s (Some (on_loan None loan)))
orphan_agrees procs E I home s loan agree here = record {
  spelled = λ p. let a = agree.spelled p in let x0 = same_place_tells p home in let b = agree.lender s home loan here in let c = agree.holder s (Some home) loan here in grind (arith, x0);
  used = λ t. let a = agree.used t in let z0 = seat_tells t s in grind (arith, z0);
  home = λ t p e. let a = agree.home t p in let x0 = same_place_tells p home in let z0 = seat_tells t s in let b = agree.lender s home loan here in let c = agree.holder s (Some home) loan here in grind (arith, x0, z0);
  lender = λ t p l e. let a = agree.lender t p l in let x0 = same_place_tells p home in let z0 = seat_tells t s in let b = agree.lender s home loan here in let c = agree.holder s (Some home) loan here in grind (arith, x0, z0);
  holder = λ t p l e. let a = agree.holder t p l in let x0 = same_place_tells l.holder home in let z0 = seat_tells t s in let b = agree.lender s home loan here in let c = agree.holder s (Some home) loan here in grind (arith, x0, z0);
  own = λ q r t e. let a = agree.own q r t in let x0 = same_place_tells q home in let z0 = seat_tells t s in let b = agree.lender s home loan here in let c = agree.holder s (Some home) loan here in grind (arith, x0, z0);
  lent_out = λ q r t e. let a = agree.lent_out q r t in let x0 = same_place_tells q home in let z0 = seat_tells t s in let b = agree.lender s home loan here in let c = agree.holder s (Some home) loan here in grind (arith, x0, z0);
  mut_out = λ q x t e. let a = agree.mut_out q x t in let x0 = same_place_tells q home in let z0 = seat_tells t s in let b = agree.lender s home loan here in let c = agree.holder s (Some home) loan here in grind (arith, x0, z0);
  lent_in = λ q t e. let a = agree.lent_in q t in let x0 = same_place_tells q home in let z0 = seat_tells t s in let b = agree.lender s home loan here in let c = agree.holder s (Some home) loan here in grind (arith, x0, z0);
  mut_in = λ q t e. let a = agree.mut_in q t in let x0 = same_place_tells q home in let z0 = seat_tells t s in let b = agree.lender s home loan here in let c = agree.holder s (Some home) loan here in grind (arith, x0, z0);
}

-- a page on loan goes on to another holder
pub pass_agrees : (procs : ℕ) (E : Entries) (I : Infos) (home : Place) (s : Seat) (loan : LoanInfo) (to : Place) → EntriesAgree procs E I
    → I s ≡ Some (on_loan (Some home) loan) → E to ≡ Some Free
    → EntriesAgree procs (passed_entries E s loan to) (with_info I s (Some (on_loan (Some home) (held_at to loan))))
pass_agrees procs E I home s loan to agree here free = record {
  spelled = λ p. let a = agree.spelled p in let x0 = same_place_tells p to in let x1 = same_place_tells p loan.holder in let b = agree.lender s home loan here in let c = agree.holder s (Some home) loan here in grind (arith, x0, x1);
  used = λ t. let a = agree.used t in let z0 = seat_tells t s in grind (arith, z0);
  home = λ t p e. let a = agree.home t p in let x0 = same_place_tells p to in let x1 = same_place_tells p loan.holder in let z0 = seat_tells t s in let b = agree.lender s home loan here in let c = agree.holder s (Some home) loan here in grind (arith, x0, x1, z0);
  lender = λ t p l e. let a = agree.lender t p l in let x0 = same_place_tells p to in let x1 = same_place_tells p loan.holder in let z0 = seat_tells t s in let b = agree.lender s home loan here in let c = agree.holder s (Some home) loan here in grind (arith, x0, x1, z0);
  holder = λ t p l e. let a = agree.holder t p l in let x0 = same_place_tells l.holder to in let x1 = same_place_tells l.holder loan.holder in let z0 = seat_tells t s in let b = agree.lender s home loan here in let c = agree.holder s (Some home) loan here in grind (arith, x0, x1, z0);
  own = λ q r t e. let a = agree.own q r t in let x0 = same_place_tells q to in let x1 = same_place_tells q loan.holder in let z0 = seat_tells t s in let b = agree.lender s home loan here in let c = agree.holder s (Some home) loan here in grind (arith, x0, x1, z0);
  lent_out = λ q r t e. let a = agree.lent_out q r t in let x0 = same_place_tells q to in let x1 = same_place_tells q loan.holder in let z0 = seat_tells t s in let b = agree.lender s home loan here in let c = agree.holder s (Some home) loan here in grind (arith, x0, x1, z0);
  mut_out = λ q x t e. let a = agree.mut_out q x t in let x0 = same_place_tells q to in let x1 = same_place_tells q loan.holder in let z0 = seat_tells t s in let b = agree.lender s home loan here in let c = agree.holder s (Some home) loan here in grind (arith, x0, x1, z0);
  lent_in = λ q t e. let a = agree.lent_in q t in let x0 = same_place_tells q to in let x1 = same_place_tells q loan.holder in let z0 = seat_tells t s in let b = agree.lender s home loan here in let c = agree.holder s (Some home) loan here in grind (arith, x0, x1, z0);
  mut_in = λ q t e. let a = agree.mut_in q t in let x0 = same_place_tells q to in let x1 = same_place_tells q loan.holder in let z0 = seat_tells t s in let b = agree.lender s home loan here in let c = agree.holder s (Some home) loan here in grind (arith, x0, x1, z0);
}

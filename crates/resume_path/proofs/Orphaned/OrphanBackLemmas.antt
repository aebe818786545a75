-- The orphans of a loan come back: pages for them are made in the Map window of their holder's process, which has no page, and lent.
use Rattle.std.proofs.Common.{◌≡◌, ℕ, ◌+◌, ◌-◌, ◌≤◌, ◌<◌, Bool, true, false, Option, Some, None, refl, sym, ap, subst, ◌∙◌, arith, inl, inr}
use Rattle.std.specs.Prelude.{◌≢◌, not, nat_le, nat_lt, is_some, if◌then◌else◌, Ok, Err}
use Rattle.std.specs.Option.{option_map}
use Rattle.std.proofs.lemmas.Bool.{and_from, and_parts, both_ways, cases_Bool, cond-false, cond-true, false_from_ne_true, le-leb, le-ltb, leb-true}
use Rattle.std.proofs.lemmas.Option.{none-some}
use Rattle.ledger_model.proofs.LedgerLemmas.{cases_Option, is_free-from, lender_of-None}
use Rattle.ledger_model.proofs.PlaceLemmas.{in_run-after, in_run-true, moved-in_run}
use Rattle.ledger_model.proofs.Loans.NumberingLemmas.{count_places-none, count_places-run, is_place_in-user}
use Rattle.ledger_model.proofs.Loans.OfNumberLemmas.{orphan_of_number-apart, stands-orphan}
use Rattle.ledger_model.proofs.Pages.BareLemmas.{bare-can_lend, bare-lawful}
use Rattle.ledger_model.proofs.Runs.RunTestLemmas.{none_passes}
use Rattle.ledger_model.proofs.Stepping.LendingLemmas.{lend_lawful}
use Rattle.ledger_model.proofs.Stepping.MakingLemmas.{make_lawful, make_loans}
use Rattle.ledger_model.specs.Conditions.{CanLend, CanMake, may_lend}
use Rattle.ledger_model.specs.Lawful.{IsLawful}
use Rattle.ledger_model.specs.Ledger.{Bytes, Ledger, Orphan, PageLoan, is_counted, loan_at, loan_of, pages}
use Rattle.ledger_model.specs.Loans.{Stands, bare, bare_page, loan_of_orphan, loans, of_number, orphan_of_number}
use Rattle.ledger_model.specs.Places.{count_places, in_run, is_place_in, is_user_place, moved, place_after}
use Rattle.ledger_model.specs.Reach.{is_free}
use Rattle.ledger_model.specs.RunTests.{any_used, fits_window}
use Rattle.ledger_model.specs.Steps.{lend, make, new_page, orphan_loan, zero_page}
use Rattle.vm_memory.specs.Pages.Making.{if_room, make_answer}
use Rattle.xk_base.specs.Numbers.Windows.{in_window}
use Rattle.xk_base.specs.Tables.Circle.{is_pid}
use Rattle.xk_base.specs.declared.errors.XousError.TheVariants.{BadAddress, MemoryInUse}
use Rattle.xk_base.specs.declared.ids.Number.{Number}
use Rattle.xk_base.specs.declared.ids.Place.{Place}
use Rattle.xk_base.specs.declared.pages.LoanKind.{LoanKind}
use Rattle.xk_base.specs.declared.pages.LoanKind.TheVariants.{Exclusive, Shared}
use Rattle.xk_base.specs.declared.windows.Window.TheVariants.{Map, Message}
use Rattle.resume_path.proofs.Lending.LendLemmas.{and_number, next_orphaned}
use Rattle.resume_path.proofs.Orphaned.OrphanLemmas.{IsOrphanOf, orphans_lent}
use Rattle.resume_path.proofs.Homes.StandingLemmas.{part_pages}
use Rattle.resume_path.specs.Standing.{filling_right, orphan_among, orphans_of, page_of_orphan, standing, with_orphan_pages, with_orphans}

-- ---- the windows

record IsInWindow (low high : ℕ) (procs : ℕ) (p : Place) : Type 0 where
  process : is_pid procs p.pid.0 ≡ true
  from : low ≤ p.vpn.0
  to : p.vpn.0 ≤ high

in_message : (procs : ℕ) (p : Place) → is_place_in procs Message p ≡ true → IsInWindow 0x40000 0x40FFF procs p
in_message procs p lies =
    let parts = and_parts (is_pid procs p.pid.0) (in_window Message p.vpn.0) lies in
    let window = and_parts (nat_le 0x40000 p.vpn.0) (nat_le p.vpn.0 0x40FFF) parts.1 in
    record { process = parts.0; from = leb-true 0x40000 p.vpn.0 window.0; to = leb-true p.vpn.0 0x40FFF window.1 }

orphan_of_none : (numbers : ℕ → Bool) (o : Option Orphan) → o ≡ None → orphan_among numbers o ≡ None
orphan_of_none numbers o e = ap (orphan_among numbers) e

-- an orphan that isn't among the numbers
not_among : (numbers : ℕ → Bool) (number : Number) (o : Option Orphan) (orphan : Orphan) → numbers number.0 ≡ false → o ≡ Some orphan → orphan.number ≡ number
    → orphan_among numbers o ≡ None
not_among numbers number o orphan fails is own =
    ap (orphan_among numbers) is
    ∙ cond-false (numbers orphan.number.0) (Some orphan) None (ap (λ (k : Number). numbers k.0) own ∙ fails)

module _ (procs capacity : ℕ) (whole : Ledger) (lawful : IsLawful procs capacity whole) (so_far : ℕ → Bool) (from : Place) (n : ℕ) (to : Place)
    (kind : LoanKind) (number : Number) (stands : Stands (loans whole) (record { lender = None; holder = to; count = n; kind = kind; number = number }))
    (some : 1 ≤ n) (not_yet : so_far number.0 ≡ false) (own : from.pid.0 ≡ to.pid.0) (first : from.vpn.0 ≡ 0x60000) where
  abbrev now : Ledger
  now = standing (orphans_of so_far) whole

  orphan_at : (p : Place) → in_run to n p ≡ true → (o : Orphan) × (whole.orphan p ≡ Some o) × (o.kind ≡ kind) × (o.number ≡ number)
  orphan_at p inside = stands-orphan whole (record { lender = None; holder = to; count = n; kind = kind; number = number }) p stands refl inside

  all_orphans : (p : Place) → in_run to n p ≡ true → IsOrphanOf whole kind number p
  all_orphans p inside = let o = orphan_at p inside in record { orphan = o.0; there = o.1; its_kind = o.2; its_number = o.3 }

  -- its places, which lie in the Message window
  pub orphan_there : (i : ℕ) → i < n → is_some (whole.orphan (place_after to i)) ≡ true
  orphan_there i low = ap is_some (orphan_at (place_after to i) (in_run-after to n i low)).1

  lies_to : (p : Place) → in_run to n p ≡ true → is_place_in procs Message p ≡ true
  lies_to p inside = let o = orphan_at p inside in lawful.orphan_lies p o.0 o.1

  at_first : IsInWindow 0x40000 0x40FFF procs (place_after to 0)
  at_first = in_message procs (place_after to 0) (lies_to (place_after to 0) (in_run-after to n 0 some))

  at_last : IsInWindow 0x40000 0x40FFF procs (place_after to (n - 1))
  at_last = in_message procs (place_after to (n - 1)) (lies_to (place_after to (n - 1)) (in_run-after to n (n - 1) (omega (arith, some))))

  pub few : n ≤ 4096
  few = let low = at_first in let high = at_last in omega (arith, low.from, high.to, some)

  pub process : is_pid procs from.pid.0 ≡ true
  process = ap (is_pid procs) own ∙ at_first.process

  -- the places of the pages that are made for them, which lie in the Map window
  map_place : (p : Place) → in_run from n p ≡ true → (0x60000 ≤ p.vpn.0) × (p.vpn.0 ≤ 0x60FFF) × (is_pid procs p.pid.0 ≡ true)
  map_place p inside =
      let run = in_run-true from n p inside in
      let fits = few in
      (omega (arith, run.from, first), omega (arith, run.to, first, fits), ap (is_pid procs) run.pid ∙ process)

  lies_from : (p : Place) → in_run from n p ≡ true → is_user_place procs p ≡ true
  lies_from p inside =
      let at = map_place p inside in
      is_place_in-user procs Map p (and_from (is_pid procs p.pid.0) (in_window Map p.vpn.0) at.2
      (and_from (nat_le 0x60000 p.vpn.0) (nat_le p.vpn.0 0x60FFF) (le-leb 0x60000 p.vpn.0 at.0) (le-leb p.vpn.0 0x60FFF at.1)))

  -- no orphan is there
  pub no_orphan : (p : Place) → in_run from n p ≡ true → whole.orphan p ≡ None
  no_orphan p inside = elim (cases_Option (whole.orphan p)) [
    | inl none ↦ none
    | inr found ↦
        let at = in_message procs p (lawful.orphan_lies p found.0 found.1) in
        let above = map_place p inside in
        absurd (omega (arith, at.to, above.0))
  ]

  no_loan_now : (p : Place) → loan_at now p ≡ None
  unfolding standing
  no_loan_now p = refl

  no_lender : (l : Ledger) → ((p : Place) → loan_at l p ≡ None) → (p q : Place) (loan : PageLoan) → loan_at l q ≡ Some loan → loan.holder ≢ p
  no_lender l none p q loan e = absurd (none-some loan (sym (none q) ∙ e))

  pub free_now : (p : Place) → in_run from n p ≡ true → is_free procs now p ≡ true
  unfolding standing
  free_now p inside = is_free-from procs now p (record {
    home = refl;
    orphan = orphan_of_none so_far (whole.orphan p) (no_orphan p inside);
    lender = lender_of-None procs now p (no_lender now no_loan_now p);
  })

  -- ---- there is room for them, within those that the whole has

  after_pages : pages procs (with_orphans whole to n now) ≡ pages procs now + n
  unfolding pages standing with_orphans
  after_pages =
      let homes : count_places procs (λ p. is_counted None) ≡ 0 = count_places-none procs (λ p. is_counted None) (λ p. refl) in
      let orphans : count_places procs (λ p. is_some (if in_run to n p then whole.orphan p else orphan_among so_far (whole.orphan p)))
      ≡ count_places procs (λ p. is_some (orphan_among so_far (whole.orphan p))) + n =
      count_places-run procs to n (λ p. is_some (if in_run to n p then whole.orphan p else orphan_among so_far (whole.orphan p)))
      (λ p. is_some (orphan_among so_far (whole.orphan p)))
      (λ i low. is_place_in-user procs Message (place_after to i) (lies_to (place_after to i) (in_run-after to n i low)))
      (λ p inside. (
      let o = orphan_at p inside in (
        ap is_some (cond-true (in_run to n p) (whole.orphan p) (orphan_among so_far (whole.orphan p)) inside ∙ o.1),
        ap is_some (not_among so_far number (whole.orphan p) o.0 not_yet o.1 o.3),
      )
      ))
      (λ p outside. ap is_some (cond-false (in_run to n p) (whole.orphan p) (orphan_among so_far (whole.orphan p)) outside)) in
      omega (arith, homes, orphans)

  pub room : pages procs now + n ≤ pages procs whole
  room =
      let after = after_pages in
      let next : pages procs (standing (orphans_of (and_number so_far number)) whole) ≡ pages procs (with_orphans whole to n now) =
      ap (pages procs) (next_orphaned whole so_far n to kind number stands) in
      let part = part_pages procs (orphans_of (and_number so_far number)) whole in
      omega (arith, after, next, part)

  can_make : (limit : ℕ) → pages procs now + n ≤ limit → CanMake procs limit now from n
  can_make limit fits = record { lies = lies_from; free = free_now; room = fits }

  none_used : (l : Ledger) → ((p : Place) → in_run from n p ≡ true → is_free procs l p ≡ true) → any_used procs l from n ≡ false
  unfolding any_used
  none_used l free = none_passes (λ p. not (is_free procs l p)) from n (λ i low. ap not (free (place_after from i) (in_run-after from n i low)))

  -- so they can be made in any ledger that is alike but for bytes
  pub made : (l : Ledger) → ((p : Place) → in_run from n p ≡ true → is_free procs l p ≡ true) → pages procs l + n ≤ capacity
      → make_answer (record { procs = procs; capacity = capacity }) l from.pid Map (Some from.vpn) n ≡ Ok from.vpn
  made l free fits =
      let limit = few in
      let over : nat_lt capacity (pages procs l + n) ≡ false = le-ltb capacity (pages procs l + n) fits in
      let window : fits_window Map from.vpn.0 n ≡ true =
      and_from (nat_le 0x60000 from.vpn.0) (nat_le (from.vpn.0 + n) 0x61000) (le-leb 0x60000 from.vpn.0 (omega (arith, first)))
      (le-leb (from.vpn.0 + n) 0x61000 (omega (arith, first, limit))) in
      let used : any_used procs l from n ≡ false = none_used l free in
      λ i. if_room (over i) (if not (window i) then Err BadAddress else (if used i then Err MemoryInUse else Ok from.vpn))

  -- ---- the pages, filled

  abbrev made_now : Ledger
  made_now = make from n filling_right now

  abbrev filled : Ledger
  filled = with_orphan_pages whole from n to now

  pub made_keeps : loans made_now ≡ loans now
  made_keeps = make_loans procs (pages procs now + n) from n filling_right now (can_make (pages procs now + n) (omega arith))

  pub filled_bare : bare filled ≡ bare made_now
  unfolding bare with_orphan_pages make standing
  filled_bare = λ i. record { home = λ p. (at_place p (in_run from n p) refl) i; orphan = (bare made_now).orphan }
    where
      filled_page : (o : Option Orphan) (orphan : Orphan) → o ≡ Some orphan
          → option_map bare_page (option_map page_of_orphan o) ≡ Some (bare_page (new_page filling_right (Bytes zero_page)))
      filled_page o orphan e = ap (λ x. option_map bare_page (option_map page_of_orphan x)) e

      at_place : (p : Place) (b : Bool) → in_run from n p ≡ b
          → option_map bare_page (if b then option_map page_of_orphan (whole.orphan (moved from to p)) else None)
          ≡ option_map bare_page (if b then Some (new_page filling_right (Bytes zero_page)) else None)
      at_place p true inside =
          let o = orphan_at (moved from to p) (moved-in_run from to p n inside) in
          filled_page (whole.orphan (moved from to p)) o.0 o.1
      at_place p false outside = refl

  new_lends : (k : LoanKind) → may_lend k (Some (new_page filling_right (Bytes zero_page))) ≡ true
  new_lends Shared = refl
  new_lends Exclusive = refl

  not_in_map : (p : Place) → in_run to n p ≡ true → in_run from n p ≡ false
  not_in_map p inside = false_from_ne_true (in_run from n p) (λ here.
      let at = in_message procs p (lies_to p inside) in
      let above = map_place p here in
      omega (arith, at.to, above.0))

  no_loan_made : (p : Place) → loan_at made_now p ≡ None
  unfolding make standing
  no_loan_made p = go (in_run from n p)
    where
      go : (b : Bool) → loan_of (if b then Some (new_page filling_right (Bytes zero_page)) else None) ≡ None
      go true = refl
      go false = refl

  can_lend_made : CanLend procs made_now from n to kind number
  unfolding make standing loans
  can_lend_made = record {
    pages = λ p inside. ap (λ b. may_lend kind (if b then Some (new_page filling_right (Bytes zero_page)) else None)) inside ∙ new_lends kind;
    free = λ p inside. is_free-from procs made_now p (record {
      home = ap (λ b. if b then Some (new_page filling_right (Bytes zero_page)) else None) (not_in_map p inside);
      orphan = (let o = orphan_at p inside in not_among so_far number (whole.orphan p) o.0 not_yet o.1 o.3);
      lender = lender_of-None procs made_now p (no_lender made_now no_loan_made p);
    });
    lies = lies_to;
    fresh = record {
      homes = λ p. ap (of_number number) (no_loan_made p);
      orphans = λ p. fresh_at (whole.orphan p);
    };
  }
    where
      fresh_at : (o : Option Orphan) → orphan_of_number number (option_map loan_of_orphan (orphan_among so_far o)) ≡ None
      fresh_at None = refl
      fresh_at (Some orphan) = elim (cases_Bool (so_far orphan.number.0)) [
        | inl before ↦
            ap (λ o. orphan_of_number number (option_map loan_of_orphan o)) (cond-true (so_far orphan.number.0) (Some orphan) None before)
            ∙ orphan_of_number-apart number (loan_of_orphan orphan) (λ same.
            both_ways (so_far number.0) not_yet (subst (λ (k : Number). so_far k.0 ≡ true) same before))
        | inr after ↦ ap (λ o. orphan_of_number number (option_map loan_of_orphan o)) (cond-false (so_far orphan.number.0) (Some orphan) None after)
      ]

  pub can_lend_filled : (l : Ledger) → bare l ≡ bare filled → CanLend procs l from n to kind number
  can_lend_filled l e = bare-can_lend procs made_now l (e ∙ filled_bare) from n to kind number can_lend_made

  no_home : (p : Place) → now.home p ≡ None
  unfolding standing
  no_home p = refl

  -- THE ORPHANS are those of the numbers so far, and of this one
  pub orphans_back : (limit : ℕ) → IsLawful procs limit now → pages procs now + n ≤ limit
      → orphan_loan procs number (lend from n to kind number filled) ≡ standing (orphans_of (and_number so_far number)) whole
  orphans_back limit lawful_now fits =
      let made_lawful = make_lawful procs limit from n filling_right now lawful_now (can_make limit fits) in
      let filled_lawful = bare-lawful procs limit made_now filled filled_bare made_lawful in
      let can = can_lend_filled filled refl in
      orphans_lent procs limit whole now from n to kind number no_home all_orphans (lend_lawful procs from n to kind number filled can limit filled_lawful)
      ∙ sym (next_orphaned whole so_far n to kind number stands)

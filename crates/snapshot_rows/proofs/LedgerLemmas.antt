-- Part 1 is what tests of the rows tell.
use Rattle.std.proofs.Common.{◌≡◌, ℕ, Bool, true, List, refl, ◌↔◌}
use Rattle.std.specs.Prelude.{◌&&◌, IsTrue, IfOk, Result}
use Rattle.std.specs.List.{list_all}
use Rattle.std.proofs.lemmas.Bool.{and_parts}
use Rattle.xk_base.specs.declared.errors.NoMemory.{NoMemory}
use Rattle.ledger_model.specs.Ledger.{Ledger}
use Rattle.machine_model.specs.Runs.Matched.{IsLedgerMatched, AreHomesLiving}
use Rattle.snapshot_rows.specs.declared.state.State.{State}
use Rattle.snapshot_rows.specs.Machines.{ledger_of, processes_of}
use Rattle.snapshot_rows.specs.PageParts.{is_page_placed, is_orphan_placed, is_only_console, is_holder_apart, is_orphan_apart}
use Rattle.snapshot_rows.specs.PageParts.{is_home_living, is_holder_living, AreHoldersApart, AreWithin, is_ledger_told}
use Rattle.snapshot_rows.proofs.Pages.PlacedLemmas.{ArePagesPlaced, HasOneConsole}
use Rattle.snapshot_rows.proofs.Pages.OrphanLemmas.{AreOrphansPlaced}
use Rattle.snapshot_rows.proofs.Pages.ApartLemmas.{ArePlacesApart}
use Rattle.snapshot_rows.proofs.Pages.HolderLemmas.{AreHoldersLiving}
use Rattle.snapshot_rows.specs.RunParts.{AreOneRuns}
use Rattle.snapshot_rows.specs.Order.{AreRowsInOrder}
use Rattle.snapshot_rows.proofs.LoanRuns.ToldLemmas.{if_ok}
use Rattle.snapshot_rows.proofs.Pages.ApartLemmas.{places_apart_told}
use Rattle.snapshot_rows.proofs.Pages.HolderLemmas.{holders_told}
use Rattle.snapshot_rows.proofs.Pages.OrphanLemmas.{orphans_placed_told}
use Rattle.snapshot_rows.proofs.Pages.PageLemmas.{homes_told}
use Rattle.snapshot_rows.proofs.Pages.PlacedLemmas.{pages_placed_told, one_console_told}

pub all_six : (a b c d e f : Bool) → a ≡ true → b ≡ true → c ≡ true → d ≡ true → e ≡ true → f ≡ true → (a && (b && (c && (d && (e && f))))) ≡ true
all_six a b c d e f p q r s t u = rw (p, q, r, s, t, u) refl

module _ (file : List ℕ) (s : State) (rows : AreRowsInOrder s) where
  abbrev ledger : Ledger
  ledger = ledger_of file s.pages s.orphans

  placed : IsTrue (list_all (is_page_placed s.n) s.pages) ↔ ArePagesPlaced s.n ledger
  placed = pages_placed_told s.n file s.orphans s.pages (list_all (is_page_placed s.n) s.pages) rows.pages refl

  orphans : IsTrue (list_all (is_orphan_placed s.n s.procs) s.orphans) ↔ AreOrphansPlaced s.n (processes_of s.procs) ledger
  orphans = orphans_placed_told s.n file s.pages s.procs s.orphans (list_all (is_orphan_placed s.n s.procs) s.orphans) rows.orphans refl

  console : IsTrue (list_all (is_only_console s.pages) s.pages) ↔ HasOneConsole ledger
  console = one_console_told file s.orphans s.pages (list_all (is_only_console s.pages) s.pages) rows.pages refl

  apart : IsTrue (list_all (is_holder_apart s.pages s.orphans) s.pages && list_all (is_orphan_apart s.pages) s.orphans) ↔ ArePlacesApart ledger
  apart = places_apart_told file s.pages s.orphans
      (list_all (is_holder_apart s.pages s.orphans) s.pages && list_all (is_orphan_apart s.pages) s.orphans) rows.pages rows.orphans refl

  homes : IsTrue (list_all (is_home_living s.procs) s.pages) ↔ AreHomesLiving (processes_of s.procs) ledger
  homes = homes_told file s.orphans s.procs s.pages (list_all (is_home_living s.procs) s.pages) rows.pages refl

  holders : IsTrue (list_all (is_holder_living s.procs) s.pages) ↔ AreHoldersLiving (processes_of s.procs) ledger
  holders = holders_told file s.orphans s.procs s.pages (list_all (is_holder_living s.procs) s.pages) rows.pages refl

  pub ledger_right : is_ledger_told s ≡ true → AreWithin s.n s.cap ledger → AreHoldersApart ledger → AreOneRuns ledger
      → IsLedgerMatched s.n s.cap (processes_of s.procs) ledger
  ledger_right told within alone runs =
      let one = and_parts (list_all (is_page_placed s.n) s.pages) _ told in
      let two = and_parts (list_all (is_orphan_placed s.n s.procs) s.orphans) _ one.1 in
      let three = and_parts (list_all (is_only_console s.pages) s.pages) _ two.1 in
      let four = and_parts (list_all (is_holder_apart s.pages s.orphans) s.pages && list_all (is_orphan_apart s.pages) s.orphans) _ three.1 in
      let five = and_parts (list_all (is_home_living s.procs) s.pages) (list_all (is_holder_living s.procs) s.pages) four.1 in
      let pages = placed.0 one.0 in
      let left = orphans.0 two.0 in
      let places = apart.0 four.0 in
      record {
        lawful = record {
          home_lies = pages.home_lies;
          holder_lies = pages.holder_lies;
          orphan_lies = left.orphan_lies;
          holders_differ = alone;
          holder_no_home = places.holder_no_home;
          holder_no_orphan = places.holder_no_orphan;
          orphan_no_home = places.orphan_no_home;
          one_console = console.0 three.0;
          console_lies = pages.console_lies;
          console_no_loan = pages.console_no_loan;
          console_no_fetch = pages.console_no_fetch;
          within = within;
          one_run = runs;
          exclusive_writable = pages.exclusive_writable;
        };
        homes_live = homes.0 five.0;
        holders_live = holders.0 five.1;
        orphans_live = left.orphans_live;
      }

  pub ledger_told : IsLedgerMatched s.n s.cap (processes_of s.procs) ledger → is_ledger_told s ≡ true
  ledger_told matched =
      let lawful = matched.lawful in
      all_six _ _ _ _ _ _ (placed.1 (record {
        home_lies = lawful.home_lies;
        holder_lies = lawful.holder_lies;
        console_lies = lawful.console_lies;
        console_no_loan = lawful.console_no_loan;
        console_no_fetch = lawful.console_no_fetch;
        exclusive_writable = lawful.exclusive_writable;
      })) (orphans.1 (record { orphan_lies = lawful.orphan_lies; orphans_live = matched.orphans_live })) (console.1 lawful.one_console)
      (apart.1 (record { holder_no_home = lawful.holder_no_home; holder_no_orphan = lawful.holder_no_orphan; orphan_no_home = lawful.orphan_no_home }))
      (homes.1 matched.homes_live) (holders.1 matched.holders_live)

  -- where all else of part 1 holds, runs tell it
  pub runs_told : is_ledger_told s ≡ true → AreWithin s.n s.cap ledger → AreHoldersApart ledger → (r : Result Bool NoMemory)
      → IfOk r (λ told. IsTrue told ↔ AreOneRuns ledger)
      → IfOk r (λ told. IsTrue told ↔ IsLedgerMatched s.n s.cap (processes_of s.procs) ledger)
  runs_told told within alone r is =
      if_ok (λ b. IsTrue b ↔ AreOneRuns ledger) (λ b. IsTrue b ↔ IsLedgerMatched s.n s.cap (processes_of s.procs) ledger) r
      (λ b runs. (λ holds. ledger_right told within alone (runs.0 holds), λ matched. runs.1 matched.lawful.one_run)) is

-- The steps of the ledger. Each is one equation on the two maps, and all that it doesn't name stays.
use Rattle.std.specs.Prelude.{ℕ, ◌+◌, Bool, false, ◌==◌, if◌then◌else◌, List, ◌++◌, take, drop, length, replicate, Option, Some, None}
use Rattle.std.specs.Option.{option_and_then, option_map, option_or}
use Rattle.xk_base.specs.declared.ids.Number.{Number}
use Rattle.xk_base.specs.declared.ids.Pid.{Pid}
use Rattle.xk_base.specs.declared.ids.Place.{Place}
use Rattle.xk_base.specs.declared.pages.LoanKind.{LoanKind}
use Rattle.xk_base.specs.declared.pages.Right.{Right}
use Rattle.ledger_model.specs.Ledger.{Ledger, Contents, Console, Bytes, Page, PageLoan, Orphan, PageName, Homed, Orphaned}
use Rattle.ledger_model.specs.Loans.{same_number}
use Rattle.ledger_model.specs.Places.{same_place, in_run, moved}
use Rattle.ledger_model.specs.Reach.{lender_of}

-- ---- make

-- 4096 bytes of 0
unfoldable pub zero_page : List ℕ
zero_page = replicate 4096 0

abbrev pub new_page : Right → Contents → Page
new_page right contents = record { right = right; contents = contents; loan = None }

-- n pages of zeros at the run from `first` on, with that right and without a loan
unfoldable pub make : Place → ℕ → Right → Ledger → Ledger
make first n right ledger = record ledger {
  home = λ p. if in_run first n p then Some (new_page right (Bytes zero_page)) else ledger.home p;
}

-- the console as a page at that place; it can't be executed
unfoldable pub make_console : Place → Bool → Ledger → Ledger
make_console place w ledger = record ledger {
  home = λ p. if same_place p place then Some (new_page (record { w = w; x = false }) Console) else ledger.home p;
}

-- ---- write

-- the bytes of a page after these bytes were written from an offset on
abbrev pub written : List ℕ → ℕ → List ℕ → List ℕ
written old offset bytes = take offset old ++ (bytes ++ drop (offset + length bytes) old)

abbrev pub written_contents : ℕ → List ℕ → Contents → Contents
written_contents offset bytes Console = Console
written_contents offset bytes (Bytes old) = Bytes (written old offset bytes)

abbrev pub written_page : ℕ → List ℕ → Page → Page
written_page offset bytes page = record page { contents = written_contents offset bytes page.contents }

abbrev pub written_orphan : ℕ → List ℕ → Orphan → Orphan
written_orphan offset bytes orphan = record orphan { bytes = written orphan.bytes offset bytes }

-- these bytes of that page
unfoldable pub write : PageName → ℕ → List ℕ → Ledger → Ledger
write (Homed place) offset bytes ledger = record ledger {
  home = λ p. if same_place p place then option_map (written_page offset bytes) (ledger.home p) else ledger.home p;
}
write (Orphaned place) offset bytes ledger = record ledger {
  orphan = λ p. if same_place p place then option_map (written_orphan offset bytes) (ledger.orphan p) else ledger.orphan p;
}

-- ---- remove and reduce

-- the pages at these homes go
unfoldable pub remove : (Place → Bool) → Ledger → Ledger
remove places ledger = record ledger { home = λ p. if places p then None else ledger.home p }

abbrev pub with_right : Right → Page → Page
with_right right page = record page { right = right }

-- the pages at these homes have that right
unfoldable pub reduce : (Place → Bool) → Right → Ledger → Ledger
reduce places right ledger = record ledger {
  home = λ p. if places p then option_map (with_right right) (ledger.home p) else ledger.home p;
}

-- ---- lend and end

abbrev pub with_loan : PageLoan → Page → Page
with_loan loan page = record page { loan = Some loan }

-- page i of the run at `from` gets a loan to place i of the run at `to`, of that kind and number; its right stays
unfoldable pub lend : Place → ℕ → Place → LoanKind → Number → Ledger → Ledger
lend from n to kind number ledger = record ledger {
  home = λ p. if in_run from n p
      then option_map (with_loan (record { holder = moved from to p; kind = kind; number = number })) (ledger.home p)
      else ledger.home p;
}

-- the loan of a page, but for one of that number
abbrev pub loan_without : Number → Option PageLoan → Option PageLoan
loan_without number o = option_and_then (λ loan. if same_number loan.number number then None else Some loan) o

abbrev pub freed : Number → Page → Page
freed number page = record page { loan = loan_without number page.loan }

abbrev pub orphan_without : Number → Option Orphan → Option Orphan
orphan_without number o = option_and_then (λ orphan. if same_number orphan.number number then None else Some orphan) o

-- loans of that number become none, and orphans of that number go
unfoldable pub end_loan : Number → Ledger → Ledger
end_loan number ledger = record {
  home = λ p. option_map (freed number) (ledger.home p);
  orphan = λ p. orphan_without number (ledger.orphan p);
}

-- ---- pass

-- a loan of that number has its holder at the place of the run at `to` where it was in the run at `from`
abbrev pub passed_loan : Number → Place → Place → PageLoan → PageLoan
passed_loan number from to loan = if same_number loan.number number then record loan { holder = moved from to loan.holder } else loan

abbrev pub passed : Number → Place → Place → Page → Page
passed number from to page = record page { loan = option_map (passed_loan number from to) page.loan }

-- Loans of that number go on to another holder: loan i of their run, whose first holder place was `from`,
-- gets the holder place i of the run at `to`. Home, right, kind and number stay.
unfoldable pub pass : Number → Place → Place → Ledger → Ledger
pass number from to ledger = record ledger { home = λ p. option_map (passed number from to) (ledger.home p) }

-- ---- give

-- page i of the run at `from` has its home at place i of the run at `to`, with its right and its bytes
unfoldable pub give : Place → ℕ → Place → Ledger → Ledger
give from n to ledger = record ledger {
  home = λ p. if in_run to n p then ledger.home (moved to from p) else (if in_run from n p then None else ledger.home p);
}

-- ---- orphan

abbrev pub has_number : Number → Option PageLoan → Bool
has_number number None = false
has_number number (Some loan) = same_number loan.number number

-- a page, unless it is on loan by that number
abbrev pub page_without : Number → Option Page → Option Page
page_without number o = option_and_then (λ page. if has_number number page.loan then None else Some page) o

-- the orphan that a page on loan by that number becomes; the console is never on loan
abbrev pub orphan_with : PageLoan → Contents → Option Orphan
orphan_with loan Console = None
orphan_with loan (Bytes bytes) = Some (record { kind = loan.kind; bytes = bytes; number = loan.number })

abbrev pub orphan_from : Number → Page → Option Orphan
orphan_from number page =
    option_and_then (λ loan. if same_number loan.number number then orphan_with loan page.contents else None) page.loan

-- homes of that number go, and their holder places become orphans of the same kind, bytes and number
unfoldable pub orphan_loan : ℕ → Number → Ledger → Ledger
orphan_loan procs number ledger = record {
  home = λ p. page_without number (ledger.home p);
  orphan = λ q. option_or
      (option_and_then (orphan_from number) (option_and_then ledger.home (lender_of procs ledger q)))
      (ledger.orphan q);
}

-- ---- forget

-- all pages with a home of that process go
unfoldable pub forget : Pid → Ledger → Ledger
forget pid ledger = record ledger { home = λ p. if p.pid.0 == pid.0 then None else ledger.home p }

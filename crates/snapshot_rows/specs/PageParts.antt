-- What the invariant of the machine asks of its ledger, as tests of the rows of pages and orphans.
use Rattle.std.specs.Prelude.{◌≡◌, ℕ, ◌/◌, ◌%◌, ◌==◌, ◌&&◌, ◌||◌, ◌≤◌, not, nat_lt, Bool, if◌then◌else◌}
use Rattle.std.specs.Prelude.{List, [], ◌∷◌, Some}
use Rattle.std.specs.List.{list_all, list_any}
use Rattle.xk_base.specs.declared.ids.Place.{Place}
use Rattle.xk_base.specs.declared.windows.Window.TheVariants.{Message, Map}
use Rattle.ledger_model.specs.Ledger.{PageLoan, Ledger, loan_at, pages}
use Rattle.ledger_model.specs.Places.{is_user_place, is_place_in}
use Rattle.machine_model.specs.Runs.Matched.{IsLedgerMatched}
use Rattle.snapshot_rows.specs.declared.state.OrphanRow.{OrphanRow}
use Rattle.snapshot_rows.specs.declared.state.PageRow.{PageRow}
use Rattle.snapshot_rows.specs.declared.state.ProcRow.{ProcRow}
use Rattle.snapshot_rows.specs.declared.state.State.{State}
use Rattle.snapshot_rows.specs.Machines.{place_at, processes_of, ledger_of}

-- the home of a page is in a living process
abbrev pub is_home_living : List ProcRow → PageRow → Bool
is_home_living procs p = (processes_of procs p.pid).alive

-- a page on loan has its holder's place in a living process
abbrev pub is_holder_living : List ProcRow → PageRow → Bool
is_holder_living procs p = p.kind == 0 || (processes_of procs p.holder_pid).alive

-- ---- where pages may stand, each looked at alone

-- the home of a page lies in a window of one of n processes
abbrev pub is_home_placed : ℕ → PageRow → Bool
is_home_placed n p = is_user_place n (place_at p.pid p.page)

-- a page on loan has its holder's place in the Message window
abbrev pub is_holder_placed : ℕ → PageRow → Bool
is_holder_placed n p = p.kind == 0 || is_place_in n Message (place_at p.holder_pid p.holder_page)

-- the console lies in the Map window, and is neither on loan nor executable
abbrev pub is_console_placed : ℕ → PageRow → Bool
is_console_placed n p = nat_lt p.right 4 || (is_place_in n Map (place_at p.pid p.page) && (p.kind == 0 && not (p.right / 2 % 2 == 1)))

-- a page under an Exclusive loan is writable
abbrev pub is_lent_writable : PageRow → Bool
is_lent_writable p = p.kind == 0 || (p.kind == 1 || p.right % 2 == 1)

abbrev pub is_page_placed : ℕ → PageRow → Bool
is_page_placed n p = is_home_placed n p && (is_holder_placed n p && (is_console_placed n p && is_lent_writable p))

-- the place of an orphan lies in the Message window of a living process
abbrev pub is_orphan_placed : ℕ → List ProcRow → OrphanRow → Bool
is_orphan_placed n procs o = is_place_in n Message (place_at o.pid o.page) && (processes_of procs o.pid).alive

-- ---- pages beside one another

-- it isn't the console, or stands at the place of the other
abbrev pub is_console_at : PageRow → PageRow → Bool
is_console_at c p = nat_lt p.right 4 || (p.pid == c.pid && p.page == c.page)

-- it isn't the console, or no other page is
abbrev pub is_only_console : List PageRow → PageRow → Bool
is_only_console rows c = nat_lt c.right 4 || list_all (is_console_at c) rows

-- no page has its home at this place, and no orphan stands there
abbrev pub has_no_home : List PageRow → ℕ → ℕ → Bool
has_no_home pages pid page = not (list_any (λ p. p.pid == pid && p.page == page) pages)

abbrev pub has_no_orphan : List OrphanRow → ℕ → ℕ → Bool
has_no_orphan orphans pid page = not (list_any (λ o. o.pid == pid && o.page == page) orphans)

-- a page isn't on loan, or its holder's place is neither a home nor an orphan's
abbrev pub is_holder_apart : List PageRow → List OrphanRow → PageRow → Bool
is_holder_apart pages orphans p =
    p.kind == 0 || (has_no_home pages p.holder_pid p.holder_page && has_no_orphan orphans p.holder_pid p.holder_page)

-- the place of an orphan is no home
abbrev pub is_orphan_apart : List PageRow → OrphanRow → Bool
is_orphan_apart pages o = has_no_home pages o.pid o.page

-- ---- holders

-- two keys of two numbers are one
abbrev pub same_key : ℕ × ℕ → ℕ × ℕ → Bool
same_key a b = a.0 == b.0 && a.1 == b.1

-- the place at which its holder has a page
abbrev pub holder_key : PageRow → ℕ × ℕ
holder_key p = (p.holder_pid, p.holder_page)

-- .. where it is on loan, as a list of at most one
abbrev pub holder_of : PageRow → List (ℕ × ℕ)
holder_of p = if p.kind == 0 then [] else holder_key p ∷ []

-- part 1 of holders' places: no two pages on loan have one
abbrev pub AreHoldersApart : Ledger → Type 0
AreHoldersApart ledger =
    (p q : Place) (a b : PageLoan) → loan_at ledger p ≡ Some a → loan_at ledger q ≡ Some b → a.holder ≡ b.holder → p ≡ q

-- ---- the capacity

-- a page that counts: it has a place of the machine and isn't the console
abbrev pub is_counted_page : ℕ → PageRow → Bool
is_counted_page n p = is_home_placed n p && nat_lt p.right 4

-- .. and an orphan that does
abbrev pub is_counted_orphan : ℕ → OrphanRow → Bool
is_counted_orphan n o = is_user_place n (place_at o.pid o.page)

-- part 1 of the capacity: there is room for all pages and orphans
abbrev pub AreWithin : ℕ → ℕ → Ledger → Type 0
AreWithin n capacity ledger = pages n ledger ≤ capacity

-- ---- the ledger

-- part 1 as tests of the rows, without the capacity, two pages of one holder's place, and runs
abbrev pub is_ledger_told : State → Bool
is_ledger_told s =
    list_all (is_page_placed s.n) s.pages && (list_all (is_orphan_placed s.n s.procs) s.orphans
    && (list_all (is_only_console s.pages) s.pages
    && ((list_all (is_holder_apart s.pages s.orphans) s.pages && list_all (is_orphan_apart s.pages) s.orphans)
    && (list_all (is_home_living s.procs) s.pages && list_all (is_holder_living s.procs) s.pages))))

-- part 1 of the machine that a state says
abbrev pub IsLedgerRight : List ℕ → State → Type 0
IsLedgerRight file s = IsLedgerMatched s.n s.cap (processes_of s.procs) (ledger_of file s.pages s.orphans)

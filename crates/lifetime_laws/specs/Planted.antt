-- Wrong kernels that the law of one moment refuses: a move that doubles a page, a death that forgets one, and an orphan at a wrong place.
use Rattle.std.specs.Prelude.{◌≡◌, ◌≢◌, ℕ, true, if◌then◌else◌, Some, None}
use Rattle.xk_base.specs.declared.ids.Number.{Number}
use Rattle.xk_base.specs.declared.ids.Pid.{Pid}
use Rattle.xk_base.specs.declared.ids.Place.{Place}
use Rattle.xk_base.specs.declared.messages.MsgKind.TheVariants.{Move}
use Rattle.ledger_model.specs.Ledger.{Ledger, Orphan, Page, PageLoan, loan_at}
use Rattle.ledger_model.specs.Places.{in_run, moved}
use Rattle.machine_model.specs.Messaging.MessageCounts.{HasNone}
use Rattle.machine_model.specs.Messaging.Messages.{is_lend_of}
use Rattle.machine_model.specs.Runs.Matched.{is_living}
use Rattle.machine_model.specs.Runs.Moments.{ByKill, Moment}
use Rattle.machine_model.specs.State.Machine.{Machine}
use Rattle.lifetime_laws.specs.Causes.{IsSentBy}
use Rattle.lifetime_laws.specs.Lives.{PagesLive}

-- `give` that leaves each page where it was, too
abbrev pub doubled : Place → ℕ → Place → Ledger → Ledger
doubled from n to ledger = record ledger { home = λ p. if in_run to n p then ledger.home (moved to from p) else ledger.home p }

-- a move to free places after which a page stands at both
abbrev pub DoublingIsRefused : Type 0
DoublingIsRefused =
    (before : Machine) (moment : Moment) (from : Place) (n : ℕ) (to p : Place) (page : Page) (number : Number)
    → moment.machine.ledger ≡ doubled from n to before.ledger → ((q : Place) → in_run to n q ≡ true → before.ledger.home q ≡ None)
    → in_run from n p ≡ true → before.ledger.home p ≡ Some page → IsSentBy p.pid to.pid Move number before moment
    → PagesLive before moment → ⊥

-- a kill after which a page of a living process is gone
abbrev pub ForgettingIsRefused : Type 0
ForgettingIsRefused =
    (before : Machine) (moment : Moment) (pid : Pid) (p : Place) (page : Page) → moment.cause ≡ ByKill pid
    → before.ledger.home p ≡ Some page → moment.machine.ledger.home p ≡ None → is_living moment.machine p.pid ≡ true
    → PagesLive before moment → ⊥

-- .. and one after which a page that was on loan is gone, no orphan stands where it was lent, and a server still has its message
abbrev pub LosingIsRefused : Type 0
LosingIsRefused =
    (before : Machine) (moment : Moment) (pid : Pid) (p : Place) (page : Page) (loan : PageLoan) → moment.cause ≡ ByKill pid
    → before.ledger.home p ≡ Some page → page.loan ≡ Some loan → moment.machine.ledger.home p ≡ None
    → moment.machine.ledger.orphan loan.holder ≡ None → (HasNone moment.machine.servers (is_lend_of loan.number) → ⊥)
    → PagesLive before moment → ⊥

-- an orphan at a place where none stood and to which no page was lent
abbrev pub MisplacingIsRefused : Type 0
MisplacingIsRefused =
    (before : Machine) (moment : Moment) (q : Place) (orphan : Orphan) → before.ledger.orphan q ≡ None
    → ((home : Place) (loan : PageLoan) → loan_at before.ledger home ≡ Some loan → loan.holder ≢ q)
    → moment.machine.ledger.orphan q ≡ Some orphan → PagesLive before moment → ⊥

-- Where pages are traced, those that stood and those that are new are as many as those that stand and those that are gone.
use Rattle.std.proofs.Common.{◌≡◌, ℕ, ◌+◌, ◌<◌, ◌≤◌, Bool, ◌&&◌, true, List, [], ◌∷◌, length, Option, Some, None, is_some, refl, sym, ap, ◌∙◌, inl, inr, arith, subst}
use Rattle.std.specs.Prelude.{nat_le, nat_lt, not}
use Rattle.std.proofs.lemmas.Bool.{and_from, and_parts, false≢true, lt-ltb, ltb-true}
use Rattle.std.proofs.lemmas.Option.{same_Some}
use Rattle.xk_base.specs.declared.ids.Place.{Place}
use Rattle.xk_base.specs.declared.limits.TheConstants.{PROCESS_LIMIT}
use Rattle.xk_base.specs.declared.windows.Window.TheVariants.{Message}
use Rattle.xk_base.specs.Tables.Circle.{is_pid}
use Rattle.xk_base.specs.Numbers.Windows.{window_at}
use Rattle.ledger_model.specs.Ledger.{Homed, Orphan, Orphaned, Page, PageName}
use Rattle.ledger_model.specs.Places.{count_places, is_user_place}
use Rattle.ledger_model.proofs.Loans.NumberingLemmas.{count_places-split, is_place_in-user}
use Rattle.machine_model.specs.Runs.Matched.{Matched}
use Rattle.machine_model.specs.Runs.Moments.{IsRun, Moment, state_at}
use Rattle.machine_model.specs.State.Machine.{Machine}
use Rattle.machine_laws.specs.HistoryMoments.{moments_of}
use Rattle.machine_laws.proofs.Histories.MomentLemmas.{history_is_run}
use Rattle.machine_laws.proofs.Stepping.EveryStepLemmas.{every_cause_keeps}
use Rattle.lifetime_laws.specs.Counts.{EveryHistoryBalances, EveryRunBalances, IsCounted, count_names, gone_in, made_in, page_count}
use Rattle.lifetime_laws.specs.Deeds.{stands}
use Rattle.lifetime_laws.specs.Lives.{PagesLive}
use Rattle.lifetime_laws.proofs.Lives.CountLemmas.{ArePaired, paired_counts, place_of}
use Rattle.lifetime_laws.proofs.Lives.RunLemmas.{moment_lives}

-- ---- what stands lies at places of at most 64 processes

wider_pid : (procs pid : ℕ) → procs ≤ 64 → is_pid procs pid ≡ true → is_pid 64 pid ≡ true
wider_pid procs pid few e =
    let parts = and_parts (nat_le 2 pid) (nat_lt pid (procs + 2)) e in
    let below : pid < procs + 2 = ltb-true pid (procs + 2) parts.1 in
    and_from (nat_le 2 pid) (nat_lt pid 66) parts.0 (lt-ltb pid 66 (omega arith))

wider : (procs : ℕ) (p : Place) → procs ≤ 64 → is_user_place procs p ≡ true → is_user_place PROCESS_LIMIT p ≡ true
wider procs p few e =
    let parts = and_parts (is_pid procs p.pid.0) (is_some (window_at p.vpn.0)) e in
    and_from (is_pid 64 p.pid.0) (is_some (window_at p.vpn.0)) (wider_pid procs p.pid.0 few parts.0) parts.1

pub stands_lies : (m : Machine) → Matched m → (name : PageName) → stands m.ledger name ≡ true → is_user_place PROCESS_LIMIT (place_of name) ≡ true
stands_lies m h (Homed p) e = go (m.ledger.home p) refl e
  where
    go : (o : Option Page) → m.ledger.home p ≡ o → is_some o ≡ true → is_user_place PROCESS_LIMIT p ≡ true
    go None q f = absurd (false≢true f)
    go (Some page) q f = wider m.processes p h.body.processes.few (h.body.ledger.lawful.home_lies p page q)
stands_lies m h (Orphaned q) e = go (m.ledger.orphan q) refl e
  where
    go : (o : Option Orphan) → m.ledger.orphan q ≡ o → is_some o ≡ true → is_user_place PROCESS_LIMIT q ≡ true
    go None f g = absurd (false≢true g)
    go (Some orphan) f g =
        wider m.processes q h.body.processes.few (is_place_in-user m.processes Message q (h.body.ledger.lawful.orphan_lies q orphan f))

-- ---- names that pass a test and another or not

pub split_names : (f g : PageName → Bool)
    → count_names PROCESS_LIMIT f ≡ count_names PROCESS_LIMIT (λ x. f x && g x) + count_names PROCESS_LIMIT (λ x. f x && not (g x))
split_names f g =
    four (count_places PROCESS_LIMIT (λ p. f (Homed p))) (count_places PROCESS_LIMIT (λ q. f (Orphaned q)))
    (count_places PROCESS_LIMIT (λ p. f (Homed p) && g (Homed p))) (count_places PROCESS_LIMIT (λ q. f (Orphaned q) && g (Orphaned q)))
    (count_places PROCESS_LIMIT (λ p. f (Homed p) && not (g (Homed p)))) (count_places PROCESS_LIMIT (λ q. f (Orphaned q) && not (g (Orphaned q))))
    (count_places-split PROCESS_LIMIT (λ p. f (Homed p)) (λ p. g (Homed p)))
    (count_places-split PROCESS_LIMIT (λ q. f (Orphaned q)) (λ q. g (Orphaned q)))
  where
    four : (x y a b c d : ℕ) → x ≡ a + c → y ≡ b + d → x + y ≡ (a + b) + (c + d)
    four x y a b c d e f = omega arith

-- ---- one moment

module _ (before : Machine) (moment : Moment) (h : Matched before) (then_ : Matched moment.machine) (live : PagesLive before moment) where
  abbrev lived : PageName → Bool
  lived old = stands before.ledger old && is_some (live.to old)

  abbrev lives : PageName → Bool
  lives new = stands moment.machine.ledger new && is_some (live.from new)

  abbrev Pair : PageName → PageName → Type 0
  Pair old new = (live.to old ≡ Some new) × (live.from new ≡ Some old)

  pairs : ArePaired PROCESS_LIMIT Pair lived lives
  pairs = record {
    left = λ old e.
        let parts = and_parts (stands before.ledger old) (is_some (live.to old)) e in
        elim (live.goes old parts.0) [
          | inl new ↦ (
            new.0,
            and_from (stands moment.machine.ledger new.0) (is_some (live.from new.0)) new.1 (ap is_some new.2.back),
            (new.2.forth, new.2.back),
          )
          | inr gone ↦ absurd (false≢true (sym (ap is_some gone.0) ∙ parts.1))
        ];
    right = λ new e.
        let parts = and_parts (stands moment.machine.ledger new) (is_some (live.from new)) e in
        elim (live.comes new parts.0) [
          | inl old ↦ (
            old.0,
            and_from (stands before.ledger old.0) (is_some (live.to old.0)) old.1 (ap is_some old.2.forth),
            (old.2.forth, old.2.back),
          )
          | inr made ↦ absurd (false≢true (sym (ap is_some made.0) ∙ parts.1))
        ];
    left_lies = λ old e. stands_lies before h old (and_parts (stands before.ledger old) (is_some (live.to old)) e).0;
    right_lies = λ new e. stands_lies moment.machine then_ new (and_parts (stands moment.machine.ledger new) (is_some (live.from new)) e).0;
  }

  same_number : count_names PROCESS_LIMIT lives ≡ count_names PROCESS_LIMIT lived
  same_number =
      paired_counts PROCESS_LIMIT Pair (λ x y z a b. same_Some y z (sym a.0 ∙ b.0)) (λ x y z a b. same_Some x y (sym a.1 ∙ b.1))
      (count_names PROCESS_LIMIT lived) lived lives pairs refl

  moment_balances : page_count before.ledger + made_in before moment live ≡ page_count moment.machine.ledger + gone_in before moment live
  moment_balances =
      sums (page_count before.ledger) (page_count moment.machine.ledger) (count_names PROCESS_LIMIT lives) (count_names PROCESS_LIMIT lived)
      (made_in before moment live) (gone_in before moment live)
      (split_names (stands before.ledger) (λ x. is_some (live.to x)))
      (split_names (stands moment.machine.ledger) (λ x. is_some (live.from x))) same_number
    where
      sums : (x y a b made gone : ℕ) → x ≡ b + gone → y ≡ a + made → a ≡ b → x + made ≡ y + gone
      sums x y a b made gone e f g = omega arith

-- ---- runs

-- so many are made and go in the run, and the pages add up
abbrev Balances : Machine → List Moment → Type 0
Balances start moments =
    (made : ℕ) × (gone : ℕ) × IsCounted start moments made gone
    × (page_count start.ledger + made ≡ page_count (state_at start moments (length moments)).ledger + gone)

balanced_then : (start : Machine) (moment : Moment) (moments : List Moment) → Matched start → Matched moment.machine → PagesLive start moment
    → Balances moment.machine moments → Balances start (moment ∷ moments)
unfolding IsCounted state_at
balanced_then start moment moments h then_ live rest = (
  made_in start moment live + rest.0,
  gone_in start moment live + rest.1,
  (live, rest.0, rest.1, rest.2, refl, refl),
  sums (page_count start.ledger) (page_count moment.machine.ledger) (page_count (state_at moment.machine moments (length moments)).ledger)
      (made_in start moment live) rest.0 (gone_in start moment live) rest.1 (moment_balances start moment h then_ live) rest.3,
)
  where
    sums : (x y z made later gone went : ℕ) → x + made ≡ y + gone → y + later ≡ z + went → x + (made + later) ≡ z + (gone + went)
    sums x y z made later gone went e f = omega arith

pub every_run_balances : EveryRunBalances
unfolding IsRun IsCounted state_at
every_run_balances start [] h run = (0, 0, (refl, refl), refl)
every_run_balances start (moment ∷ moments) h run =
    balanced_then start moment moments h (subst Matched (sym run.0) (every_cause_keeps moment.cause start h))
    (moment_lives start moment h (λ i. record { cause = moment.cause; machine = run.0 i }))
    (every_run_balances moment.machine moments (subst Matched (sym run.0) (every_cause_keeps moment.cause start h)) run.1)

pub every_history_balances : EveryHistoryBalances
every_history_balances events limit start h =
    every_run_balances start (moments_of events limit start) h (history_is_run events limit start)

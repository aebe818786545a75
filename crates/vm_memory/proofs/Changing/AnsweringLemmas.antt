-- What an answer of `make` or `make_console` tells of its run.
use Rattle.xk_ports.specs.declared.store.SwapStore.{Ghosts as SwapStore}
use Rattle.xk_base.specs.Tables.Circle.{is_pid}
use Rattle.std.proofs.Common.{◌≡◌, ℕ, ◌+◌, ◌-◌, ◌<◌, ◌≤◌, if◌then◌else◌, Bool, true, false, not, Option, Some, None, refl, sym, ap, subst, ◌∙◌, inl, inr, arith}
use Rattle.std.specs.Prelude.{is_some, nat_le, nat_lt, Result, Ok, Err}
use Rattle.std.proofs.lemmas.Bool.{and_from, and_parts, both_ways, false_from_ne_true, leb-true, le-leb, ltb-false}
use Rattle.std.proofs.lemmas.Option.{none-some, same_Some}
use Rattle.xk_base.specs.Numbers.Windows.{first_page, in_window, last_page}
use Rattle.xk_base.specs.declared.errors.XousError.{XousError}
use Rattle.xk_base.specs.declared.errors.XousError.TheVariants.{BadAddress, MemoryInUse}
use Rattle.xk_base.specs.declared.ids.Pid.{Pid}
use Rattle.xk_base.specs.declared.ids.Place.{Place}
use Rattle.xk_base.specs.declared.ids.Vpn.{Vpn}
use Rattle.xk_base.specs.declared.windows.Window.{Window}
use Rattle.xk_base.specs.declared.windows.Window.TheVariants.{Map}
use Rattle.ledger_model.specs.Conditions.{CanMake, CanMakeConsole, is_console}
use Rattle.ledger_model.specs.LeastRun.{IsLeastRun, least_run}
use Rattle.ledger_model.specs.Ledger.{Ledger, pages}
use Rattle.ledger_model.specs.Places.{first_place, is_place_in, is_user_place, place_after}
use Rattle.ledger_model.specs.Reach.{is_free}
use Rattle.ledger_model.specs.RunTests.{any_used, console_mapped, fits_window}
use Rattle.ledger_model.proofs.Runs.LeastRunLemmas.{is_free_run-each, least_run-Some}
use Rattle.ledger_model.proofs.LedgerLemmas.{cases_Option}
use Rattle.ledger_model.proofs.Loans.NumberingLemmas.{first_place-none, is_place_in-user}
use Rattle.ledger_model.proofs.PlaceLemmas.{in_run-index, place_from}
use Rattle.sv32_space.specs.Tie.{Held}
use Rattle.vm_memory.specs.declared.memory.Memory.{Memory}
use Rattle.vm_memory.specs.Pages.Making.{if_room, make_answer, page_place, run_found, run_place}
use Rattle.vm_memory.specs.Memory.{ledger, processes}
use Rattle.vm_memory.specs.Sound.{IsSound}
use Rattle.vm_memory.proofs.Changing.ConsoleRunLemmas.{console_in_map}
use Rattle.vm_memory.proofs.Changing.RunLemmas.{each_used}

served : Result Vpn XousError → Option Vpn
served (Ok v) = Some v
served (Err e) = None

served_found : (o : Option Vpn) → served (run_found o) ≡ o
unfolding served
served_found None = refl
served_found (Some v) = refl

-- the run that was answered: it lies in the window, and its places are free
pub record IsRunPlace (procs : ℕ) (l : Ledger) (pid : Pid) (window : Window) (n : ℕ) (first : Vpn) : Type 0 where
  pub low : first_page window ≤ first.0
  pub high : first.0 + n ≤ last_page window + 1
  pub free : (i : ℕ) → i < n → is_free procs l (place_after (page_place pid first) i) ≡ true

by_name : (procs : ℕ) (l : Ledger) (pid : Pid) (window : Window) (n : ℕ) (v first : Vpn) (f u : Bool)
    → fits_window window v.0 n ≡ f → any_used procs l (page_place pid v) n ≡ u
    → (if not f then Err BadAddress else (if u then Err MemoryInUse else Ok v)) ≡ Ok first → IsRunPlace procs l pid window n first
unfolding served
by_name procs l pid window n v first false u p q e = absurd (none-some first (ap served e))
by_name procs l pid window n v first true true p q e = absurd (none-some first (ap served e))
by_name procs l pid window n v first true false p q e =
    let parts : (nat_le (first_page window) v.0 ≡ true) × (nat_le (v.0 + n) (last_page window + 1) ≡ true) =
    and_parts (nat_le (first_page window) v.0) (nat_le (v.0 + n) (last_page window + 1)) p in
    let same : v ≡ first = same_Some v first (ap served e) in
    subst (λ x. IsRunPlace procs l pid window n x) same (record {
      low = leb-true (first_page window) v.0 parts.0;
      high = leb-true (v.0 + n) (last_page window + 1) parts.1;
      free = λ i low. each_used procs l (page_place pid v) n q i low;
    })

pub run_answered : (procs : ℕ) (l : Ledger) (pid : Pid) (window : Window) (at : Option Vpn) (n : ℕ) (first : Vpn)
    → run_place procs l pid window at n ≡ Ok first → IsRunPlace procs l pid window n first
unfolding served
run_answered procs l pid window None n first e =
    let there : least_run procs l pid window n ≡ Some first = sym (served_found (least_run procs l pid window n)) ∙ ap served e in
    let least : IsLeastRun procs l pid window n first = least_run-Some procs l pid window n first there in
    record { low = least.low; high = least.high; free = λ i low. is_free_run-each procs l (page_place pid first) n least.free i low }
run_answered procs l pid window (Some v) n first e =
    by_name procs l pid window n v first (fits_window window v.0 n) (any_used procs l (page_place pid v) n) refl refl e

room_of : (over : Bool) (r : Result Vpn XousError) (first : Vpn) → if_room over r ≡ Ok first → (over ≡ false) × (r ≡ Ok first)
unfolding served
room_of true (Ok v) first e = absurd (none-some first (ap served e))
room_of false (Ok v) first e = (refl, e)
room_of over (Err x) first e = absurd (none-some first (ap served e))

place_in : (procs : ℕ) (pid : Pid) (window : Window) (vpn : ℕ) → is_pid procs pid.0 ≡ true → first_page window ≤ vpn → vpn ≤ last_page window
    → is_place_in procs window (record { pid = pid; vpn = record { 0 = vpn } }) ≡ true
place_in procs pid window vpn process low high =
    and_from (is_pid procs pid.0) (in_window window vpn) process
    (and_from (nat_le (first_page window) vpn) (nat_le vpn (last_page window)) (le-leb (first_page window) vpn low) (le-leb vpn (last_page window) high))

-- MAKE may make what it answered
pub can_answered : (procs capacity : ℕ) (l : Ledger) (pid : Pid) (window : Window) (at : Option Vpn) (n : ℕ) (first : Vpn)
    → is_pid procs pid.0 ≡ true → make_answer (record { procs = procs; capacity = capacity }) l pid window at n ≡ Ok first → CanMake procs capacity l (page_place pid first) n
can_answered procs capacity l pid window at n first process e =
    let parts : (nat_lt capacity (pages procs l + n) ≡ false) × (run_place procs l pid window at n ≡ Ok first) =
    room_of (nat_lt capacity (pages procs l + n)) (run_place procs l pid window at n) first e in
    let run : IsRunPlace procs l pid window n first = run_answered procs l pid window at n first parts.1 in
    record {
      lies = λ p there.
          let up : (p.vpn.0 - first.0 < n) × (p ≡ place_after (page_place pid first) (p.vpn.0 - first.0)) = in_run-index (page_place pid first) n p there in
          subst (λ q. is_user_place procs q ≡ true) (sym up.1)
          (is_place_in-user procs window (place_after (page_place pid first) (p.vpn.0 - first.0))
          (place_in procs pid window (first.0 + (p.vpn.0 - first.0)) process (omega (arith, run.low)) (omega (arith, run.high, up.0))));
      free = λ p there.
          let up : (p.vpn.0 - first.0 < n) × (p ≡ place_after (page_place pid first) (p.vpn.0 - first.0)) = in_run-index (page_place pid first) n p there in
          subst (λ q. is_free procs l q ≡ true) (sym up.1) (run.free (p.vpn.0 - first.0) up.0);
      room = ltb-false capacity (pages procs l + n) parts.0;
    }

-- .. and so may MAKE_CONSOLE
pub can_console : {W : Type 0} (S : SwapStore W) (m : Memory W) → IsSound S.slot_count m → (pid : Pid) (at : Option Vpn) (first : Vpn)
    → is_pid (processes m) pid.0 ≡ true → console_mapped (processes m) (ledger S.held m) ≡ false → run_place (processes m) (ledger S.held m) pid Map at 1 ≡ Ok first
    → CanMakeConsole (processes m) (ledger S.held m) (page_place pid first)
unfolding console_mapped
can_console S m sound pid at first process none e =
    let run : IsRunPlace (processes m) (ledger S.held m) pid Map 1 first = run_answered (processes m) (ledger S.held m) pid Map at 1 first e in
    let here : place_after (page_place pid first) 0 ≡ page_place pid first = place_from (place_after (page_place pid first) 0) (page_place pid first) refl (omega arith) in
    record {
      lies = place_in (processes m) pid Map first.0 process run.low (omega (arith, run.high));
      free = subst (λ q. is_free (processes m) (ledger S.held m) q ≡ true) here (run.free 0 (omega arith));
      first = λ p. false_from_ne_true (is_console ((ledger S.held m).home p)) (λ t. both_ways (is_console ((ledger S.held m).home p))
          (nowhere p (is_place_in-user (processes m) Map p (console_in_map S m sound p t))) t);
    }
  where
    nowhere : (p : Place) → is_user_place (processes m) p ≡ true → is_console ((ledger S.held m).home p) ≡ false
    nowhere p user = elim (cases_Option (first_place (processes m) (λ p. is_console ((ledger S.held m).home p)))) [
      | inl nothing ↦ first_place-none (processes m) (λ p. is_console ((ledger S.held m).home p)) nothing p user
      | inr some ↦ absurd (both_ways (is_some (first_place (processes m) (λ p. is_console ((ledger S.held m).home p)))) none (ap is_some some.1))
    ]

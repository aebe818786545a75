-- The run that is found for a message's pages at its receiver: its places are free, and lie in the Message window of that process.
use Rattle.std.proofs.Common.{le_trans, ◌≡◌, ℕ, ◌+◌, ◌-◌, ◌<◌, ◌≤◌, true, Some, ap, ◌∙◌, arith}
use Rattle.std.specs.Prelude.{nat_le}
use Rattle.std.proofs.lemmas.Bool.{and_from, le-leb}
use Rattle.xk_base.specs.declared.ids.Pid.{Pid}
use Rattle.xk_base.specs.declared.ids.Place.{Place}
use Rattle.xk_base.specs.declared.ids.Vpn.{Vpn}
use Rattle.xk_base.specs.declared.windows.Window.TheVariants.{Message as MessageWindow}
use Rattle.xk_base.specs.Tables.Circle.{is_pid}
use Rattle.xk_base.specs.Numbers.Windows.{in_window}
use Rattle.ledger_model.specs.LeastRun.{IsLeastRun, least_run}
use Rattle.ledger_model.specs.Places.{in_run, is_place_in}
use Rattle.ledger_model.specs.Reach.{is_free}
use Rattle.ledger_model.proofs.Runs.LeastRunLemmas.{is_free_run-each, least_run-Some}
use Rattle.ledger_model.proofs.PlaceLemmas.{IsInRun, in_run-index, in_run-true}
use Rattle.machine_model.specs.Runs.Matched.{Matched, is_living}
use Rattle.machine_model.specs.State.Machine.{Machine}

module _ (m : Machine) (h : Matched m) (pid : Pid) (lives : is_living m pid ≡ true) (n : ℕ) (first : Vpn)
    (found : least_run m.processes m.ledger pid MessageWindow n ≡ Some first) where
  abbrev to : Place
  to = record { pid = pid; vpn = first }

  run : IsLeastRun m.processes m.ledger pid MessageWindow n first
  run = least_run-Some m.processes m.ledger pid MessageWindow n first found

  pub run_free : (p : Place) → in_run to n p ≡ true → is_free m.processes m.ledger p ≡ true
  run_free p inside =
      let at = in_run-index to n p inside in
      ap (is_free m.processes m.ledger) at.1 ∙ is_free_run-each m.processes m.ledger to n run.free (p.vpn.0 - first.0) at.0

  pub run_lies : (p : Place) → in_run to n p ≡ true → is_place_in m.processes MessageWindow p ≡ true
  run_lies p inside =
      let at : IsInRun to n p = in_run-true to n p inside in
      let low : 262144 ≤ first.0 = run.low in
      let high : first.0 + n ≤ 266240 = run.high in
      let after : first.0 ≤ p.vpn.0 = at.from in
      let before : p.vpn.0 < first.0 + n = at.to in
      let last : p.vpn.0 ≤ 266239 = omega (arith, high, before) in
      and_from (is_pid m.processes p.pid.0) (in_window MessageWindow p.vpn.0)
      (ap (is_pid m.processes) at.pid ∙ h.body.processes.pids pid lives)
      (and_from (nat_le 262144 p.vpn.0) (nat_le p.vpn.0 266239) (le-leb 262144 p.vpn.0 (le_trans low after)) (le-leb p.vpn.0 266239 last))

-- Where only the first pages of a run were made, every loan is kept.
use Rattle.std.proofs.Common.{◌≡◌, ℕ, ◌+◌, ◌≤◌, ◌<◌, true, Option, ◌∙◌, arith}
use Rattle.xk_base.specs.Tables.Circle.{is_pid}
use Rattle.xk_base.specs.declared.ids.Pid.{Pid}
use Rattle.xk_base.specs.declared.ids.Place.{Place}
use Rattle.xk_base.specs.declared.ids.Vpn.{Vpn}
use Rattle.xk_base.specs.declared.pages.Right.{Right}
use Rattle.xk_base.specs.declared.windows.Window.{Window}
use Rattle.ledger_model.specs.Conditions.{CanMake}
use Rattle.ledger_model.specs.Ledger.{Ledger, pages}
use Rattle.ledger_model.specs.Loans.{loans}
use Rattle.ledger_model.specs.Places.{in_run}
use Rattle.ledger_model.specs.Steps.{make}
use Rattle.ledger_model.proofs.PlaceLemmas.{IsInRun, in_run-from, in_run-true}
use Rattle.ledger_model.proofs.Stepping.MakingLemmas.{make_loans}
use Rattle.ledger_model.proofs.Stepping.WritingLemmas.{bare-loans}
use Rattle.vm_memory.specs.Pages.Making.{HasMadeFirst, make_answer, page_place}
use Rattle.vm_memory.proofs.Changing.AnsweringLemmas.{can_answered}

in_wider : (first : Place) (i n : ℕ) (p : Place) → i ≤ n → in_run first i p ≡ true → in_run first n p ≡ true
in_wider first i n p few e =
    let r : IsInRun first i p = in_run-true first i p e in
    let high : p.vpn.0 < first.vpn.0 + i = r.to in
    in_run-from first n p (record { pid = r.pid; from = r.from; to = omega (arith, high, few) })

pub made_first_keeps : {Known : Type 0} (procs capacity : ℕ) (pid : Pid) (window : Window) (at : Option Vpn) (n : ℕ) (right : Right) (old new : Ledger)
    → is_pid procs pid.0 ≡ true → HasMadeFirst Known (make_answer (record { procs = procs; capacity = capacity }) old pid window at n) pid n right old new → loans new ≡ loans old
made_first_keeps procs capacity pid window at n right old new process h =
    let at_first = page_place pid h.first in
    let can : CanMake procs capacity old at_first n = can_answered procs capacity old pid window at n h.first process h.served in
    bare-loans (make at_first h.count right old) new h.rights
    ∙ make_loans procs capacity at_first h.count right old (record {
      lies = λ p e. can.lies p (in_wider at_first h.count n p h.few e);
      free = λ p e. can.free p (in_wider at_first h.count n p h.few e);
      room = let fits : pages procs old + n ≤ capacity = can.room in let few : h.count ≤ n = h.few in omega (arith, fits, few);
    })

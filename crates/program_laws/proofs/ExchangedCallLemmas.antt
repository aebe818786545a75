-- Calls that play the same events on images of one plan end alike where the pages of a group alone differ, and it acts alike.
use Rattle.std.proofs.Common.{◌≡◌, ◌∙◌, ap, sym, subst, refl, ℕ, All, List, length, None}
use Rattle.boot_plan.specs.Faults.{plan_fault}
use Rattle.boot_plan.specs.Lawful.{CanStart, IsLawfulPlan}
use Rattle.boot_plan.specs.declared.plans.BootPlan.{BootPlan}
use Rattle.boot_plan.proofs.LawfulPlanLemmas.{lawful_plan, plan_can_start}
use Rattle.event_player.specs.History.{History, run_of}
use Rattle.event_player.specs.Telling.{output}
use Rattle.event_player.specs.declared.telling.Telling.{Telling}
use Rattle.machine_model.specs.State.Machine.{Machine}
use Rattle.program_laws.specs.Exchanged.{WriteAlike}
use Rattle.program_laws.proofs.OutputLemmas.{outputs_alike}
use Rattle.xk_kernel.specs.Start.{start}
use Rattle.xk_ports.specs.Told.{Grows}
use Rattle.program_laws.specs.ExchangedCalls.{Exchange, HasPlan, IsExchange}
use Rattle.xous_program.specs.Outcome.Said.{status_of}
use Rattle.xous_program.specs.Outcome.Sides.{Call}
use Rattle.xous_program.specs.Outcome.SplitCalls.{EndAlike, PlaysOn}
use Rattle.xous_program.specs.Outcome.Splits.{Setup}
use Rattle.xous_program.specs.Headline.{IsComplete}
use Rattle.xous_program.specs.Words.{Play, Plays}
use Rattle.xous_program.proofs.Images.MatchedLemmas.{no_plan_fault}
use Rattle.program_laws.proofs.CompleteLemmas.{PlayedOut, out_of}
use Rattle.program_laws.proofs.Splitting.SplitLemmas.{only_start}

-- a call on a setup of this plan plays the events on the plan's start
module _ (setup : Setup) (plan : BootPlan) (events : List ℕ) (play : Play) (call : Call) (has : HasPlan setup plan)
    (plays : PlaysOn setup events play call) (complete : IsComplete (Plays play) call) where
  out : PlayedOut setup events play call
  out = out_of setup events play call plays complete

  starts : out.machine ≡ start plan setup.image
  starts = only_start setup out.machine has.args has.sound out.boots ∙ ap (λ (p : BootPlan). start p setup.image) (sym has.planned)

  abbrev run_at : ℕ → History
  run_at limit = run_of limit (start plan setup.image) events

  same_run : (limit : ℕ) → play.limit ≡ limit → run_of play.limit out.machine events ≡ run_at limit
  same_run limit same =
      ap (λ (m : Machine). run_of play.limit m events) starts ∙ ap (λ (l : ℕ). run_of l (start plan setup.image) events) same

  status_is : (limit : ℕ) → play.limit ≡ limit → call.status ≡ status_of limit (run_at limit).ending
  status_is limit same =
      out.status ∙ ap (λ (h : History). status_of play.limit h.ending) (same_run limit same)
      ∙ ap (λ (l : ℕ). status_of l (run_at limit).ending) same

  written_is : (tells : Telling) (limit : ℕ) → play.tells ≡ tells → play.limit ≡ limit
      → Grows call.out.written call.out.written_after (output tells (run_at limit))
  written_is tells limit telling same =
      subst (λ (bytes : List ℕ). Grows call.out.written call.out.written_after bytes)
      (ap (output play.tells) (same_run limit same) ∙ ap (λ (t : Telling). output t (run_at limit)) telling) out.written

-- what is told of both starts is the same
module _ (exchange : Exchange) (is : IsExchange exchange) where
  no_fault : plan_fault is.planned.args exchange.one.image exchange.one.asked ≡ None
  no_fault = no_plan_fault exchange.one.image exchange.one.asked is.planned.args is.planned.sound.spelled is.planned.sound.no_fault

  lawful : IsLawfulPlan (length exchange.one.image) exchange.plan
  lawful =
      subst (λ (plan : BootPlan). IsLawfulPlan (length exchange.one.image) plan) (sym is.planned.planned)
      (lawful_plan is.planned.args exchange.one.image exchange.one.asked is.planned.sound.spelled.sound is.few no_fault)

  can_start : All CanStart exchange.plan.procs
  can_start =
      subst (λ (plan : BootPlan). All CanStart plan.procs) (sym is.planned.planned)
      (plan_can_start is.planned.args exchange.one.image exchange.one.asked no_fault)

  write_alike : WriteAlike exchange.plan exchange.one.image exchange.other.image exchange.events exchange.limit
  write_alike =
      outputs_alike exchange.group exchange.plan exchange.one.image exchange.other.image exchange.events exchange.limit
      (record { lawful = lawful; can_start = can_start; differ = is.differ; acts = is.acts })

pub exchanged_end_alike : (exchange : Exchange) (play twin : Play) (call answer : Call) → IsExchange exchange
    → PlaysOn exchange.one exchange.events play call → PlaysOn exchange.other exchange.events twin answer
    → IsComplete (Plays play) call → IsComplete (Plays twin) answer
    → play.tells ≡ twin.tells → play.limit ≡ exchange.limit → twin.limit ≡ exchange.limit → EndAlike call answer
exchanged_end_alike exchange play twin call answer is plays twin_plays complete twin_complete tells limit twin_limit =
    let alike = write_alike exchange is in
    record {
      status =
          status_is exchange.one exchange.plan exchange.events play call is.planned plays complete exchange.limit limit
          ∙ ap (status_of exchange.limit) alike.ended
          ∙ sym (status_is exchange.other exchange.plan exchange.events twin answer is.other_planned twin_plays twin_complete exchange.limit twin_limit);
      text = output play.tells (run_of exchange.limit (start exchange.plan exchange.one.image) exchange.events);
      written = written_is exchange.one exchange.plan exchange.events play call is.planned plays complete play.tells exchange.limit refl limit;
      other_written =
          subst (λ (bytes : List ℕ). Grows answer.out.written answer.out.written_after bytes) (sym (alike.written play.tells))
          (written_is exchange.other exchange.plan exchange.events twin answer is.other_planned twin_plays twin_complete play.tells exchange.limit (sym tells) twin_limit);
    }

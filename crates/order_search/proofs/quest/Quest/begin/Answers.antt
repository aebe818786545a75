use Rattle.std.proofs.Common.{ℕ, List, ap, refl}
use Rattle.event_player.specs.History.{run_of}
use Rattle.graph_search.specs.Edges.{HasCause}
use Rattle.order_search.specs.Faults.{IsRunFault}
use Rattle.order_search.proofs.FaultLemmas.{before_caused, exit_says}
use Rattle.xk_base.specs.declared.limits.TheConstants.{STEP_LIMIT}
use Rattle.order_search.proofs.RunLemmas.{begun, starts_low}
use Rattle.xk_kernel.specs.Start.{start}
use Rattle.order_search.proofs.quest.Quest.begin.Goals as goal

pub play_before-requires-clause-within : goal.play_before-requires-clause-within
play_before-requires-clause-within c =
    starts_low _ c.args.self.now.subject.plan c.args.self.now.subject.file.items c.requires.booted.machine

pub returns-clause-point : goal.returns-clause-point
returns-clause-point c =
    let there = c.in_ok-trail.ensures.plays (start c.args.self.now.subject.plan c.args.self.now.subject.file.items) c.requires.booted.begins in
    begun c.args.self.now.subject (start c.args.self.now.subject.plan c.args.self.now.subject.file.items) _ c.deref.result.now _ _ _ _ refl
    c.deref.ensures.value there.machine there.console_is c.in-Ok.ensures.came c.in-Ok.ensures.ends c.in-Ok.ensures.preempted

pub returns-in_err-trail-clause-fault : goal.returns-in_err-trail-clause-fault
returns-in_err-trail-clause-fault c =
    let s = c.args.self.now.subject in
    let m = start s.plan s.file.items in
    exit_says c.from_residual.result _ (HasCause (IsRunFault s)) c.from_residual.ensures.1
    (before_caused s (run_of STEP_LIMIT m c.deref.result.now).ending (ap (λ (e : List ℕ). (run_of STEP_LIMIT m e).ending) c.deref.ensures.value) _
    (c.in_err-trail.ensures.fault m c.requires.booted.begins))

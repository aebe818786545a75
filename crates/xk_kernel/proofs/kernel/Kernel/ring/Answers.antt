use Rattle.std.proofs.Common.{◌+◌, ◌<◌, ◌≤◌, Bool, length, None, refl, sym, ap, subst, ◌∙◌, arith}
use Rattle.std.specs.Prelude.{IsTrue, if◌then◌else◌}
use Rattle.irq_claims.specs.ClaimsOf.{claims_of}
use Rattle.vm_memory.specs.Memory.{processes}
use Rattle.xk_base.specs.Tables.Circle.{is_thread_id}
use Rattle.xk_base.specs.declared.limits.TheConstants.{RECORD_LIMIT, TIMER_INTERRUPT}
use Rattle.xk_kernel.specs.State.{machine_of}
use Rattle.xk_kernel.proofs.Acting.OrderLemmas.{cursor_whole}
use Rattle.xk_kernel.proofs.Ending.EventLemmas.{pushed_whole}
use Rattle.xk_kernel.proofs.Interrupting.ClaimLemmas.{same_claims}
use Rattle.xk_kernel.proofs.Interrupting.RaiseLemmas.{machine_unclaimed, not_claimed, nothing_pends}
use Rattle.xk_kernel.proofs.Ringing.RingLemmas.{few_told, handler_valid, ring_pends, ring_starts, rings_not, rings_unclaimed, step_told, timer_off, timer_stays}
use Rattle.xk_kernel.proofs.kernel.Kernel.ring.Goals as goal

-- src/kernel/ringing.rt
pub returns-then-not-due-clause-rings : goal.returns-then-not-due-clause-rings
returns-then-not-due-clause-rings g c told tells =
    let no = sym c.due.ensures.due ∙ c.if-not-due.true in
    rings_not g.W.SwapStore.held c.args.self.now told tells no (record c.args.self.now { timer = c.due.new.self })
    (timer_stays g.W.SwapStore.held c.args.self.now c.due.new.self (c.due.ensures.after ∙ ap (λ (b : Bool). if b then None else c.args.self.now.timer) no)) refl

pub returns-in_default-clause-rings : goal.returns-in_default-clause-rings
returns-in_default-clause-rings g c told tells =
    let none = not_claimed (claims_of c.args.self.now.claims TIMER_INTERRUPT) (sym c.in_default.is ∙ c.pend.ensures.answer) in
    rings_unclaimed g.W.SwapStore.held c.args.self.now told tells (sym c.due.ensures.due ∙ c.if-not-due.false) (machine_unclaimed g.W.SwapStore.held c.args.self.now TIMER_INTERRUPT none)
    (record c.args.self.now { timer = c.due.new.self; claims = c.pend.new.self })
    (same_claims g.W.SwapStore.held (record c.args.self.now { timer = c.due.new.self }) c.pend.new.self (nothing_pends c.args.self.now.claims c.pend.new.self TIMER_INTERRUPT none c.pend.ensures.after)
    ∙ timer_off g.W.SwapStore.held c.args.self.now c.due.new.self (c.due.ensures.after ∙ ap (λ (b : Bool). if b then None else c.args.self.now.timer) (sym c.due.ensures.due ∙ c.if-not-due.false))) refl

pub place_irq-requires-clause-few : goal.place_irq-requires-clause-few
place_irq-requires-clause-few g c =
    let few : length c.deliver.new.self.log.records ≤ length c.args.self.now.log.records + 1 = few_told g.W.SwapStore.held c.args.self.now.log (machine_of g.W.SwapStore.held (record c.args.self.now { timer = c.due.new.self; claims = c.pend.new.self })) c.in-Some.pid c.deliver.new.self.log c.deliver.ensures.tells.log in
    let less : length c.args.self.now.log.records < RECORD_LIMIT = c.requires.few in
    omega (arith, few, less)

pub place_irq-requires-clause-room : goal.place_irq-requires-clause-room
place_irq-requires-clause-room g c =
    let few : length c.deliver.new.self.log.records ≤ length c.args.self.now.log.records + 1 = few_told g.W.SwapStore.held c.args.self.now.log (machine_of g.W.SwapStore.held (record c.args.self.now { timer = c.due.new.self; claims = c.pend.new.self })) c.in-Some.pid c.deliver.new.self.log c.deliver.ensures.tells.log in
    let less : length c.args.self.now.log.records < RECORD_LIMIT = c.requires.few in
    let room : RECORD_LIMIT ≤ c.deliver.new.self.log.room = c.deliver.ensures.whole.room in
    omega (arith, few, less, room)

pub place_irq-requires-clause-step : goal.place_irq-requires-clause-step
place_irq-requires-clause-step g c =
    step_told g.W.SwapStore.held c.args.self.now.log (machine_of g.W.SwapStore.held (record c.args.self.now { timer = c.due.new.self; claims = c.pend.new.self })) c.in-Some.pid c.deliver.new.self.log c.deliver.ensures.tells.log c.requires.step

pub returns-then-deliver-clause-whole : goal.returns-then-deliver-clause-whole
returns-then-deliver-clause-whole g c =
    pushed_whole g.W.SwapStore (record c.deliver.new.self { cursor = c.handler_id-self.result }) c.place_irq.new.log
    (cursor_whole g.W.SwapStore c.deliver.new.self c.handler_id-self.result c.deliver.ensures.whole
    (subst (λ mem. IsTrue (is_thread_id (processes mem) c.handler_id-self.result)) (sym c.deliver.ensures.mem)
    (ap (λ id. is_thread_id (processes c.args.self.now.mem) id) c.handler_id-self.ensures
    ∙ handler_valid g.W.SwapStore.held c.args.self.now c.in-Some.pid (sym c.in-Some.is ∙ c.pend.ensures.answer) c.requires.claim)))
    c.place_irq.ensures.room

pub returns-then-deliver-clause-rings : goal.returns-then-deliver-clause-rings
returns-then-deliver-clause-rings g c told tells =
    ring_starts g.W.SwapStore.held c.args.self.now told tells (sym c.due.ensures.due ∙ c.if-not-due.false) c.in-Some.pid
    (sym c.in-Some.is ∙ c.pend.ensures.answer) c.pend.new.self c.pend.ensures.after c.due.new.self
    (c.due.ensures.after ∙ ap (λ (b : Bool). if b then None else c.args.self.now.timer)
    (sym c.due.ensures.due ∙ c.if-not-due.false)) c.deliver.new.self c.deliver.result
    (record { tells = c.deliver.ensures.tells; starts = c.deliver.ensures.starts })
    c.if-deliver.true c.handler_id-self.result c.handler_id-self.ensures c.place_irq.new.log c.place_irq.ensures.place

pub returns-else-deliver-clause-rings : goal.returns-else-deliver-clause-rings
returns-else-deliver-clause-rings g c told tells =
    ring_pends g.W.SwapStore.held c.args.self.now told tells (sym c.due.ensures.due ∙ c.if-not-due.false) c.in-Some.pid
    (sym c.in-Some.is ∙ c.pend.ensures.answer) c.pend.new.self c.pend.ensures.after c.due.new.self
    (c.due.ensures.after ∙ ap (λ (b : Bool). if b then None else c.args.self.now.timer)
    (sym c.due.ensures.due ∙ c.if-not-due.false)) c.deliver.new.self c.deliver.result
    (record { tells = c.deliver.ensures.tells; starts = c.deliver.ensures.starts }) c.if-deliver.false

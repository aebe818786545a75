-- The event does what the machine makes of it.
use Rattle.std.proofs.Common.{None, sym, ap, subst, ◌∙◌}
use Rattle.machine_model.specs.Stepping.Events.{killed, nothing, picked, raised}
use Rattle.vm_memory.proofs.Changing.SoundMemoryLemmas.{sound-tied}
use Rattle.vm_memory.specs.Memory.{store_of}
use Rattle.xk_kernel.specs.State.{machine_of}
use Rattle.xk_kernel.specs.Stepping.{Becomes, event_done}
use Rattle.xk_kernel.proofs.Ending.EventLemmas.{became_sound, dying_matched, irq_matched, kill_matched, killed_done, left_matched, lives, logged_whole, nothing_done, pick_matched, picked_done, spared_done, unreserved_whole}
use Rattle.xk_kernel.proofs.kernel.Kernel.event_start.Goals as goal

-- ---- tick

pub returns-in-Tick-clause-sound : goal.returns-in-Tick-clause-sound
returns-in-Tick-clause-sound g c =
    became_sound g.W.SwapStore c.args.self.now (record c.args.self.now { log = c.clear.new.self }) c.requires.sound c.requires.usable (nothing (machine_of g.W.SwapStore.held c.args.self.now)) (logged_whole g.W.SwapStore c.args.self.now c.args.self.now c.requires.sound c.requires.usable c.clear.new.self c.clear.ensures)
    (nothing_done g.W.SwapStore c.args.self.now c.args.self.now c.requires.sound c.requires.usable c.clear.new.self c.clear.ensures) (left_matched g.W.SwapStore c.args.self.now c.args.self.now c.requires.sound c.requires.usable)

pub returns-in-Tick-clause-does : goal.returns-in-Tick-clause-does
returns-in-Tick-clause-does g c =
    subst (λ e. Becomes g.W.SwapStore.held (record c.args.self.now { log = c.clear.new.self }) (event_done e (machine_of g.W.SwapStore.held c.args.self.now))) (sym c.in-Tick.is) (nothing_done g.W.SwapStore c.args.self.now c.args.self.now c.requires.sound c.requires.usable c.clear.new.self c.clear.ensures)

pub returns-in-Tick-clause-tie : goal.returns-in-Tick-clause-tie
returns-in-Tick-clause-tie g c = sound-tied g.W.SwapStore c.args.self.now.mem c.requires.sound.whole.mem

-- ---- pick

pub returns-in-Pick-clause-sound : goal.returns-in-Pick-clause-sound
unfolding machine_of
returns-in-Pick-clause-sound g c =
    became_sound g.W.SwapStore c.args.self.now c.pick.new.self c.requires.sound c.requires.usable (picked (record { pid = c.in-Pick.pid; tid = c.in-Pick.tid }) (machine_of g.W.SwapStore.held c.args.self.now)) c.pick.ensures.whole
    (picked_done g.W.SwapStore c.args.self.now c.pick.new.self c.requires.sound c.requires.usable (record { pid = c.in-Pick.pid; tid = c.in-Pick.tid }) c.pick.ensures.machine (c.pick.ensures.log ∙ c.clear.ensures)) (pick_matched g.W.SwapStore c.args.self.now c.args.self.now c.requires.sound c.requires.usable (record { pid = c.in-Pick.pid; tid = c.in-Pick.tid }))

pub returns-in-Pick-clause-does : goal.returns-in-Pick-clause-does
unfolding machine_of
returns-in-Pick-clause-does g c =
    subst (λ e. Becomes g.W.SwapStore.held c.pick.new.self (event_done e (machine_of g.W.SwapStore.held c.args.self.now))) (sym c.in-Pick.is)
    (picked_done g.W.SwapStore c.args.self.now c.pick.new.self c.requires.sound c.requires.usable (record { pid = c.in-Pick.pid; tid = c.in-Pick.tid }) c.pick.ensures.machine (c.pick.ensures.log ∙ c.clear.ensures))

pub returns-in-Pick-clause-tie : goal.returns-in-Pick-clause-tie
returns-in-Pick-clause-tie g c = sound-tied g.W.SwapStore c.pick.new.self.mem c.pick.ensures.whole.mem

pub returns-in-Pick-clause-store : goal.returns-in-Pick-clause-store
returns-in-Pick-clause-store g c = ap (λ mem. store_of mem) c.pick.ensures.mem

-- ---- irq

pub raise-requires-clause-whole : goal.raise-requires-clause-whole
raise-requires-clause-whole g c =
    logged_whole g.W.SwapStore c.args.self.now c.args.self.now c.requires.sound c.requires.usable c.clear.new.self c.clear.ensures

pub raise-requires-clause-matched : goal.raise-requires-clause-matched
unfolding machine_of
raise-requires-clause-matched g c = left_matched g.W.SwapStore c.args.self.now c.args.self.now c.requires.sound c.requires.usable

pub returns-in-Irq-clause-sound : goal.returns-in-Irq-clause-sound
unfolding machine_of
returns-in-Irq-clause-sound g c =
    became_sound g.W.SwapStore c.args.self.now c.raise.new.self c.requires.sound c.requires.usable
    (raised c.in-Irq.number (machine_of g.W.SwapStore.held c.args.self.now)) c.raise.ensures.whole c.raise.ensures.becomes
    (irq_matched g.W.SwapStore c.args.self.now c.args.self.now c.requires.sound c.requires.usable c.in-Irq.number)

pub returns-in-Irq-clause-does : goal.returns-in-Irq-clause-does
unfolding machine_of
returns-in-Irq-clause-does g c =
    subst (λ e. Becomes g.W.SwapStore.held c.raise.new.self (event_done e (machine_of g.W.SwapStore.held c.args.self.now))) (sym c.in-Irq.is) c.raise.ensures.becomes

pub returns-in-Irq-clause-tie : goal.returns-in-Irq-clause-tie
returns-in-Irq-clause-tie g c = sound-tied g.W.SwapStore c.raise.new.self.mem c.raise.ensures.whole.mem

pub returns-in-Irq-clause-store : goal.returns-in-Irq-clause-store
returns-in-Irq-clause-store g c = ap (λ mem. store_of mem) c.raise.ensures.mem

-- ---- kill

-- a process that lives

pub kill-requires-clause-whole : goal.kill-requires-clause-whole
kill-requires-clause-whole g c =
    unreserved_whole g.W.SwapStore (record c.args.self.now { log = c.clear.new.self }) (logged_whole g.W.SwapStore c.args.self.now c.args.self.now c.requires.sound c.requires.usable c.clear.new.self c.clear.ensures)

pub kill-requires-clause-matched : goal.kill-requires-clause-matched
kill-requires-clause-matched g c = dying_matched g.W.SwapStore c.args.self.now c.args.self.now c.requires.sound c.requires.usable c.clear.new.self

pub kill-requires-clause-alive : goal.kill-requires-clause-alive
unfolding machine_of
kill-requires-clause-alive g c = lives g.W.SwapStore c.args.self.now c.args.self.now c.requires.sound c.requires.usable c.in-Kill.pid c.alive.result c.alive.ensures ∙ c.if-alive.true

pub returns-then-alive-clause-sound : goal.returns-then-alive-clause-sound
returns-then-alive-clause-sound g c =
    let alive = lives g.W.SwapStore c.args.self.now c.args.self.now c.requires.sound c.requires.usable c.in-Kill.pid c.alive.result c.alive.ensures ∙ c.if-alive.true in
    became_sound g.W.SwapStore c.args.self.now c.kill.new.self c.requires.sound c.requires.usable
    (killed c.in-Kill.pid (machine_of g.W.SwapStore.held c.args.self.now)) c.kill.ensures.stays.whole
    (killed_done g.W.SwapStore c.args.self.now c.kill.new.self c.requires.sound c.requires.usable c.in-Kill.pid c.clear.new.self alive c.clear.ensures
    c.kill.ensures.tells)
    (kill_matched g.W.SwapStore c.args.self.now c.args.self.now c.requires.sound c.requires.usable c.in-Kill.pid)

pub returns-then-alive-clause-does : goal.returns-then-alive-clause-does
returns-then-alive-clause-does g c =
    let alive = lives g.W.SwapStore c.args.self.now c.args.self.now c.requires.sound c.requires.usable c.in-Kill.pid c.alive.result c.alive.ensures ∙ c.if-alive.true in
    subst (λ e. Becomes g.W.SwapStore.held c.kill.new.self (event_done e (machine_of g.W.SwapStore.held c.args.self.now))) (sym c.in-Kill.is)
    (killed_done g.W.SwapStore c.args.self.now c.kill.new.self c.requires.sound c.requires.usable c.in-Kill.pid c.clear.new.self alive c.clear.ensures
    c.kill.ensures.tells)

pub returns-then-alive-clause-tie : goal.returns-then-alive-clause-tie
returns-then-alive-clause-tie g c = sound-tied g.W.SwapStore c.kill.new.self.mem c.kill.ensures.stays.whole.mem

pub returns-then-alive-clause-store : goal.returns-then-alive-clause-store
returns-then-alive-clause-store g c = c.kill.ensures.store

-- one that doesn't

pub returns-else-alive-clause-sound : goal.returns-else-alive-clause-sound
returns-else-alive-clause-sound g c =
    became_sound g.W.SwapStore c.args.self.now (record c.args.self.now { log = c.clear.new.self; reserved = None }) c.requires.sound c.requires.usable (killed c.in-Kill.pid (machine_of g.W.SwapStore.held c.args.self.now))
    (unreserved_whole g.W.SwapStore (record c.args.self.now { log = c.clear.new.self }) (logged_whole g.W.SwapStore c.args.self.now c.args.self.now c.requires.sound c.requires.usable c.clear.new.self c.clear.ensures))
    (spared_done g.W.SwapStore c.args.self.now c.args.self.now c.requires.sound c.requires.usable c.in-Kill.pid c.clear.new.self (lives g.W.SwapStore c.args.self.now c.args.self.now c.requires.sound c.requires.usable c.in-Kill.pid c.alive.result c.alive.ensures ∙ c.if-alive.false) c.clear.ensures)
    (kill_matched g.W.SwapStore c.args.self.now c.args.self.now c.requires.sound c.requires.usable c.in-Kill.pid)

pub returns-else-alive-clause-does : goal.returns-else-alive-clause-does
returns-else-alive-clause-does g c =
    subst (λ e. Becomes g.W.SwapStore.held (record c.args.self.now { log = c.clear.new.self; reserved = None }) (event_done e (machine_of g.W.SwapStore.held c.args.self.now))) (sym c.in-Kill.is)
    (spared_done g.W.SwapStore c.args.self.now c.args.self.now c.requires.sound c.requires.usable c.in-Kill.pid c.clear.new.self (lives g.W.SwapStore c.args.self.now c.args.self.now c.requires.sound c.requires.usable c.in-Kill.pid c.alive.result c.alive.ensures ∙ c.if-alive.false) c.clear.ensures)

pub returns-else-alive-clause-tie : goal.returns-else-alive-clause-tie
returns-else-alive-clause-tie g c = sound-tied g.W.SwapStore c.args.self.now.mem c.requires.sound.whole.mem

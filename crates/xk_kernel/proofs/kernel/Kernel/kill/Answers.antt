-- The death over the parts is the machine's, and its end is told last.
use Rattle.std.proofs.Common.{sym, ap, ◌∙◌, arith, rules}
use Rattle.machine_model.specs.Stepping.Interrupts.{disarmed_if}
use Rattle.send_path.proofs.Taken.{parts_of}
use Rattle.kill_path.proofs.TakenAll.{DeathParts}
use Rattle.xk_kernel.proofs.Ending.EventLemmas.{pushed_whole}
use Rattle.xk_kernel.proofs.Ending.KillLemmas.{alive_told, all_sound, dead_keeps, dead_whole, death_tells, room_left, with_all}
use Rattle.xk_kernel.proofs.kernel.Kernel.kill.Goals as goal

pub kill-requires-clause-alive : goal.kill-requires-clause-alive
kill-requires-clause-alive g c =
    sym (alive_told g.W.SwapStore.held c.args.self.now c.args.pid) ∙ c.requires.alive

pub kill-requires-clause-sound : goal.kill-requires-clause-sound
kill-requires-clause-sound g c =
    (c.args.self.now.cursor, all_sound g.W.SwapStore c.args.self.now c.requires.whole c.requires.matched)

pub push-requires : goal.push-requires
push-requires g c =
    let new : DeathParts _ = record { parts = parts_of c.kill.new.mem c.kill.new.threads c.kill.new.servers c.kill.new.queues c.kill.new.log; procs = c.kill.new.procs; claims = c.kill.new.claims } in
    let disarmed = c.end_claim.ensures ∙ ap (λ b. disarmed_if b c.args.self.now.timer) c.has_timer-timed.ensures in
    room_left g.W.SwapStore c.args.self.now c.requires.whole c.args.pid new
    c.kill.ensures.death c.kill.ensures.sound.0 c.kill.ensures.sound.1 c.kill.ensures.mem c.end_claim.new.timer disarmed (omega arith)

pub returns-clause-stays : goal.returns-clause-stays
returns-clause-stays g c =
    let new : DeathParts _ = record { parts = parts_of c.kill.new.mem c.kill.new.threads c.kill.new.servers c.kill.new.queues c.kill.new.log; procs = c.kill.new.procs; claims = c.kill.new.claims } in
    let disarmed = c.end_claim.ensures ∙ ap (λ b. disarmed_if b c.args.self.now.timer) c.has_timer-timed.ensures in
    let keeps = dead_keeps g.W.SwapStore c.args.self.now c.requires.whole c.args.pid new
    c.kill.ensures.death c.kill.ensures.sound.0 c.kill.ensures.sound.1 c.kill.ensures.mem c.end_claim.new.timer disarmed in
    record {
      whole = pushed_whole g.W.SwapStore (with_all c.args.self.now c.end_claim.new.timer new) c.push.new.self
          (dead_whole g.W.SwapStore c.args.self.now c.requires.whole c.args.pid new
          c.kill.ensures.death c.kill.ensures.sound.0 c.kill.ensures.sound.1 c.kill.ensures.mem c.end_claim.new.timer disarmed) (ap (λ log. log.room) c.push.ensures);
      usable = search rules;
      none = search rules;
      keeps = record { size = keeps.size; store = keeps.store; room = ap (λ log. log.room) c.push.ensures ∙ keeps.room };
    }

pub returns-clause-tells : goal.returns-clause-tells
returns-clause-tells g c =
    let new : DeathParts _ = record { parts = parts_of c.kill.new.mem c.kill.new.threads c.kill.new.servers c.kill.new.queues c.kill.new.log; procs = c.kill.new.procs; claims = c.kill.new.claims } in
    let disarmed = c.end_claim.ensures ∙ ap (λ b. disarmed_if b c.args.self.now.timer) c.has_timer-timed.ensures in
    death_tells g.W.SwapStore c.args.self.now c.requires.whole c.args.pid new
    c.kill.ensures.death c.kill.ensures.sound.0 c.kill.ensures.sound.1 c.kill.ensures.mem c.end_claim.new.timer disarmed c.push.new.self c.push.ensures

pub returns-clause-store : goal.returns-clause-store
returns-clause-store g c = c.kill.ensures.mem.store

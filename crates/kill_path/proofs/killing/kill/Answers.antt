use Rattle.std.proofs.Common.{◌≡◌, None, refl, ap, sym, ◌∙◌}
use Rattle.process_table.specs.Shown.{process_count as made_for}
use Rattle.send_path.proofs.Taken.{parts_of}
use Rattle.thread_table.specs.Shown.{process_count}
use Rattle.vm_memory.specs.Memory.{Size, ledger, processes}
use Rattle.xk_base.proofs.CircleLemmas.{is_pid-bounds}
use Rattle.xk_base.specs.Tables.Circle.{is_pid}
use Rattle.kill_path.specs.Closing.{Closable, closable}
use Rattle.kill_path.specs.Noted.{noted}
use Rattle.kill_path.specs.Telling.{told_to}
use Rattle.kill_path.proofs.KeepLemmas.{kept_both}
use Rattle.kill_path.proofs.Deaths.KillLemmas.{HasForgotten, all_of, all_open, closed_first, died, died_sound, few, no_loan, noted_known, pid_known}
use Rattle.kill_path.proofs.killing.kill.Goals as goal

pub close_servers-requires-clause-messages : goal.close_servers-requires-clause-messages
close_servers-requires-clause-messages g c =
    let old = all_of (parts_of c.args.mem.now c.args.threads.now c.args.servers.now c.args.queues.now c.args.log.now) c.args.procs.now c.args.claims.now in
    all_open g.W.SwapStore c.args.pid old c.requires.sound.0 c.requires.sound.1 c.requires.alive

pub tell-requires-clause-known : goal.tell-requires-clause-known
tell-requires-clause-known g c =
    let old = all_of (parts_of c.args.mem.now c.args.threads.now c.args.servers.now c.args.queues.now c.args.log.now) c.args.procs.now c.args.claims.now in
    let after : Closable = closable (ledger g.W.SwapStore.held c.close_servers.new.mem) c.close_servers.new.servers c.close_servers.new.queues (noted c.close_servers.new.answered) in
    let closed = closed_first g.W.SwapStore c.args.pid old c.requires.sound.0 c.requires.sound.1 c.requires.alive (noted c.new-noted_ids.result) after
    c.new-noted_ids.ensures c.close_servers.ensures.closed in
    noted_known g.W.SwapStore c.args.pid old c.requires.sound.0 c.requires.sound.1 c.requires.alive after closed

pub tell-requires-clause-few : goal.tell-requires-clause-few
tell-requires-clause-few g c =
    let old = all_of (parts_of c.args.mem.now c.args.threads.now c.args.servers.now c.args.queues.now c.args.log.now) c.args.procs.now c.args.claims.now in
    few g.W.SwapStore c.args.pid old c.requires.sound.0 c.requires.sound.1 c.requires.alive

pub end_process-requires : goal.end_process-requires
end_process-requires g c =
    let old = all_of (parts_of c.args.mem.now c.args.threads.now c.args.servers.now c.args.queues.now c.args.log.now) c.args.procs.now c.args.claims.now in
    is_pid-bounds (process_count c.tell.new.threads) c.args.pid.0
    (ap (λ n. is_pid n c.args.pid.0) c.tell.ensures.count ∙ pid_known g.W.SwapStore c.args.pid old c.requires.sound.0 c.requires.sound.1 c.requires.alive)

pub forget_process-requires-clause-process : goal.forget_process-requires-clause-process
forget_process-requires-clause-process g c =
    let old = all_of (parts_of c.args.mem.now c.args.threads.now c.args.servers.now c.args.queues.now c.args.log.now) c.args.procs.now c.args.claims.now in
    ap (λ n. is_pid n c.args.pid.0)
    (ap (λ (s : Size). s.procs) (c.leave_servers.ensures.stays.keeps.size ∙ c.close_servers.ensures.stays.keeps.size) ∙ sym c.requires.sound.1.processes)
    ∙ pid_known g.W.SwapStore c.args.pid old c.requires.sound.0 c.requires.sound.1 c.requires.alive

pub forget_process-requires-clause-no_loan : goal.forget_process-requires-clause-no_loan
forget_process-requires-clause-no_loan g c =
    let old = all_of (parts_of c.args.mem.now c.args.threads.now c.args.servers.now c.args.queues.now c.args.log.now) c.args.procs.now c.args.claims.now in
    let after : Closable = closable (ledger g.W.SwapStore.held c.close_servers.new.mem) c.close_servers.new.servers c.close_servers.new.queues (noted c.close_servers.new.answered) in
    let closed = closed_first g.W.SwapStore c.args.pid old c.requires.sound.0 c.requires.sound.1 c.requires.alive (noted c.new-noted_ids.result) after
    c.new-noted_ids.ensures c.close_servers.ensures.closed in
    let procs : processes c.close_servers.new.mem ≡ process_count c.args.threads.now =
    ap (λ (s : Size). s.procs) c.close_servers.ensures.stays.keeps.size ∙ sym c.requires.sound.1.processes in
    no_loan g.W.SwapStore c.args.pid old c.requires.sound.0 c.requires.sound.1 c.requires.alive after closed (processes c.close_servers.new.mem) procs (ledger g.W.SwapStore.held c.leave_servers.new.mem) c.leave_servers.new.queues c.leave_servers.ensures.left

pub end-requires-2 : goal.end-requires-2
end-requires-2 g c =
    let old = all_of (parts_of c.args.mem.now c.args.threads.now c.args.servers.now c.args.queues.now c.args.log.now) c.args.procs.now c.args.claims.now in
    is_pid-bounds (made_for c.args.procs.now) c.args.pid.0
    (ap (λ n. is_pid n c.args.pid.0) c.requires.sound.1.procs ∙ pid_known g.W.SwapStore c.args.pid old c.requires.sound.0 c.requires.sound.1 c.requires.alive)

pub returns-clause-death : goal.returns-clause-death
returns-clause-death g c =
    let old = all_of (parts_of c.args.mem.now c.args.threads.now c.args.servers.now c.args.queues.now c.args.log.now) c.args.procs.now c.args.claims.now in
    let new = all_of (parts_of c.forget_process.new.self c.end_process.new.self c.close_servers.new.servers c.leave_servers.new.queues c.tell.new.log) c.end-2.new.self c.end.new.self in
    let after : Closable = closable (ledger g.W.SwapStore.held c.close_servers.new.mem) c.close_servers.new.servers c.close_servers.new.queues (noted c.close_servers.new.answered) in
    let closed = closed_first g.W.SwapStore c.args.pid old c.requires.sound.0 c.requires.sound.1 c.requires.alive (noted c.new-noted_ids.result) after
    c.new-noted_ids.ensures c.close_servers.ensures.closed in
    let procs : processes c.close_servers.new.mem ≡ process_count c.args.threads.now =
    ap (λ (s : Size). s.procs) c.close_servers.ensures.stays.keeps.size ∙ sym c.requires.sound.1.processes in
    let gone : HasForgotten g.W.SwapStore.held c.args.pid (told_to None after.noted) (ledger g.W.SwapStore.held c.leave_servers.new.mem) old new = record {
      told = c.tell.new.threads;
      answers = c.tell.ensures.after;
      threads = c.end_process.ensures.after;
      count = c.end_process.ensures.count ∙ c.tell.ensures.count;
      log = c.tell.ensures.log;
      ledger = c.forget_process.ensures.ledger;
      size = c.forget_process.ensures.size ∙ c.leave_servers.ensures.stays.keeps.size ∙ c.close_servers.ensures.stays.keeps.size;
      process = c.end-2.ensures.after;
      claims = c.end.ensures;
    } in
    died g.W.SwapStore c.args.pid old c.requires.sound.0 c.requires.sound.1 c.requires.alive after closed (processes c.close_servers.new.mem) procs (ledger g.W.SwapStore.held c.leave_servers.new.mem) c.leave_servers.new.queues c.leave_servers.ensures.left new refl refl gone

pub returns-clause-sound : goal.returns-clause-sound
returns-clause-sound g c =
    let old = all_of (parts_of c.args.mem.now c.args.threads.now c.args.servers.now c.args.queues.now c.args.log.now) c.args.procs.now c.args.claims.now in
    let new = all_of (parts_of c.forget_process.new.self c.end_process.new.self c.close_servers.new.servers c.leave_servers.new.queues c.tell.new.log) c.end-2.new.self c.end.new.self in
    let after : Closable = closable (ledger g.W.SwapStore.held c.close_servers.new.mem) c.close_servers.new.servers c.close_servers.new.queues (noted c.close_servers.new.answered) in
    let closed = closed_first g.W.SwapStore c.args.pid old c.requires.sound.0 c.requires.sound.1 c.requires.alive (noted c.new-noted_ids.result) after
    c.new-noted_ids.ensures c.close_servers.ensures.closed in
    let procs : processes c.close_servers.new.mem ≡ process_count c.args.threads.now =
    ap (λ (s : Size). s.procs) c.close_servers.ensures.stays.keeps.size ∙ sym c.requires.sound.1.processes in
    let gone : HasForgotten g.W.SwapStore.held c.args.pid (told_to None after.noted) (ledger g.W.SwapStore.held c.leave_servers.new.mem) old new = record {
      told = c.tell.new.threads;
      answers = c.tell.ensures.after;
      threads = c.end_process.ensures.after;
      count = c.end_process.ensures.count ∙ c.tell.ensures.count;
      log = c.tell.ensures.log;
      ledger = c.forget_process.ensures.ledger;
      size = c.forget_process.ensures.size ∙ c.leave_servers.ensures.stays.keeps.size ∙ c.close_servers.ensures.stays.keeps.size;
      process = c.end-2.ensures.after;
      claims = c.end.ensures;
    } in (
      c.requires.sound.0,
      died_sound g.W.SwapStore c.args.pid old c.requires.sound.0 c.requires.sound.1 c.requires.alive after closed (processes c.close_servers.new.mem) procs (ledger g.W.SwapStore.held c.leave_servers.new.mem) c.leave_servers.new.queues c.leave_servers.ensures.left new refl refl gone
          c.forget_process.ensures.sound c.end-2.ensures.count c.leave_servers.ensures.messages,
    )

pub returns-clause-mem : goal.returns-clause-mem
returns-clause-mem g c =
    let usable = c.leave_servers.ensures.stays.keeps.failed ∙ c.close_servers.ensures.stays.keeps.failed ∙ c.requires.usable in
    kept_both g.W.SwapStore c.args.mem.now c.close_servers.new.mem c.forget_process.new.self
    c.close_servers.ensures.stays.keeps
    (kept_both g.W.SwapStore c.close_servers.new.mem c.leave_servers.new.mem c.forget_process.new.self
    c.leave_servers.ensures.stays.keeps (record {
      size = c.forget_process.ensures.size;
      store = c.forget_process.ensures.store;
      failed = c.forget_process.ensures.usable ∙ sym usable;
      none = c.forget_process.ensures.none;
      means = c.forget_process.ensures.means;
    }))

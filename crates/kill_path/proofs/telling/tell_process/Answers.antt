use Rattle.std.proofs.Common.{◌+◌, ◌≤◌, length, refl, ◌∙◌, arith}
use Rattle.xk_parts.specs.Shown.{threads_shown}
use Rattle.xk_base.specs.declared.records.What.TheVariants.{Reply}
use Rattle.kill_path.specs.Noted.{noted}
use Rattle.kill_path.specs.Telling.{words_for}
use Rattle.kill_path.specs.ThreadSets.{thread_of}
use Rattle.kill_path.proofs.Threads.NotedLemmas.{noted_known}
use Rattle.kill_path.proofs.Threads.ProcessLemmas.{log_done, log_first, log_on, one_written, own_noted, threads_done, threads_first, threads_on}
use Rattle.kill_path.proofs.telling.tell_process.Goals as goal

pub loop-tid-init : goal.loop-tid-init
loop-tid-init c =
    let set = noted c.args.noted_ids.now in
    let known = noted_known c.args.noted_ids.now in
    record {
      some = omega arith;
      few = omega arith;
      threads = threads_first c.args.served set known c.args.pid c.requires.pid (threads_shown c.args.threads.now);
      log = log_first c.args.served set known c.args.pid c.requires.pid c.args.log.now;
      written = omega arith;
      room = refl;
      count = refl;
    }

pub tell_thread-requires : goal.tell_thread-requires
tell_thread-requires c =
    let tid = c.in-Some.tid in
    let room : length c.args.log.now.records + 31 ≤ c.args.log.now.room =
    c.requires.room (thread_of c.args.pid tid)
    (own_noted c.args.served (noted c.args.noted_ids.now) (noted_known c.args.noted_ids.now) c.args.pid tid c.in-Some.ensures.found.2) in
    omega (arith, room, c.loop-tid.invariant.written, c.loop-tid.invariant.room, c.in-Some.ensures.found.0, c.in-Some.ensures.found.1)

pub loop-tid-preserved : goal.loop-tid-preserved
loop-tid-preserved c =
    let set = noted c.args.noted_ids.now in
    let known = noted_known c.args.noted_ids.now in
    let from = c.loop-tid.from in
    let tid = c.in-Some.tid in
    let found = c.in-Some.ensures.found in
    let one = one_written (Reply (thread_of c.args.pid tid) (words_for c.args.served (thread_of c.args.pid tid))) c.loop-tid.log c.tell_thread.new.log c.tell_thread.ensures.log in
    record {
      some = omega arith;
      few = omega (arith, found.1);
      threads = threads_on c.args.served set known c.args.pid c.requires.pid from tid (tid + 1) c.loop-tid.invariant.some found.0 found.1 refl found.2
          c.in-Some.ensures.first (threads_shown c.args.threads.now) (threads_shown c.loop-tid.threads) (threads_shown c.tell_thread.new.threads)
          c.loop-tid.invariant.threads c.tell_thread.ensures.after;
      log = log_on c.args.served set known c.args.pid c.requires.pid from tid (tid + 1) c.loop-tid.invariant.some found.0 found.1 refl found.2
          c.in-Some.ensures.first c.args.log.now c.loop-tid.log c.tell_thread.new.log c.loop-tid.invariant.log c.tell_thread.ensures.log;
      written = omega (arith, one.0, c.loop-tid.invariant.written, found.0);
      room = one.1 ∙ c.loop-tid.invariant.room;
      count = c.tell_thread.ensures.count ∙ c.loop-tid.invariant.count;
    }

pub returns-clause-after : goal.returns-clause-after
returns-clause-after c =
    threads_done c.args.served (noted c.args.noted_ids.now) (noted_known c.args.noted_ids.now) c.args.pid c.requires.pid
    c.loop-tid.from c.loop-tid.invariant.some c.loop-tid.invariant.few c.in_default.ensures.none
    (threads_shown c.args.threads.now) (threads_shown c.loop-tid.threads) c.loop-tid.invariant.threads

pub returns-clause-log : goal.returns-clause-log
returns-clause-log c =
    log_done c.args.served (noted c.args.noted_ids.now) (noted_known c.args.noted_ids.now) c.args.pid c.requires.pid
    c.loop-tid.from c.loop-tid.invariant.some c.loop-tid.invariant.few c.in_default.ensures.none c.args.log.now c.loop-tid.log c.loop-tid.invariant.log

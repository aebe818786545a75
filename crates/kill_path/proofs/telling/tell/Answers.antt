use Rattle.std.proofs.Common.{◌≡◌, ◌*◌, refl, sym, ap, ◌∙◌, arith}
use Rattle.xk_parts.specs.Shown.{threads_shown}
use Rattle.send_path.specs.Rows.{log_with}
use Rattle.xk_parts.specs.Threads.{answered}
use Rattle.thread_table.specs.Shown.{process_count}
use Rattle.kill_path.specs.Noted.{noted}
use Rattle.kill_path.specs.Telling.{told_to}
use Rattle.kill_path.proofs.Threads.NotedLemmas.{noted_known}
use Rattle.kill_path.proofs.Threads.ProcessLemmas.{log_of_process, noted_of, pid_of_row, room_for_process, row_pid, threads_of_process}
use Rattle.kill_path.proofs.Threads.TellLemmas.{all_below, all_records, below, log_none, no_replies, none_below, replies_below, told_noted}
use Rattle.kill_path.proofs.telling.tell.Goals as goal

pub loop-row-init : goal.loop-row-init
loop-row-init c =
    let answers = told_to c.args.served (noted c.args.noted_ids.now) in
    record {
      threads = sym (none_below (process_count c.args.threads.now) answers
          (λ id e. c.requires.known id (told_noted c.args.served (noted c.args.noted_ids.now) id e)) c.requires.few (threads_shown c.args.threads.now));
      log = sym (ap (λ told. log_with told c.args.log.now) (no_replies answers) ∙ log_none c.args.log.now);
      count = refl;
    }

pub tell_process-requires-clause-pid : goal.tell_process-requires-clause-pid
tell_process-requires-clause-pid c = pid_of_row c.loop-row.row c.loop-row-test.true

pub tell_process-requires-clause-room : goal.tell_process-requires-clause-room
tell_process-requires-clause-room c = λ id q.
    let set = noted c.args.noted_ids.now in
    room_for_process c.args.served set (noted_known c.args.noted_ids.now) (row_pid c.loop-row.row) (pid_of_row c.loop-row.row c.loop-row-test.true)
    c.loop-row.row (process_count c.args.threads.now) c.requires.few (λ who e. c.requires.known who (told_noted c.args.served set who e)) refl
    c.args.log.now c.loop-row.log c.loop-row.invariant.log c.requires.room id (c.requires.known id (noted_of (row_pid c.loop-row.row) set id q)) q

pub loop-row-preserved : goal.loop-row-preserved
loop-row-preserved c =
    let set = noted c.args.noted_ids.now in
    let row = c.loop-row.row in
    let pid = pid_of_row row c.loop-row-test.true in
    record {
      threads = threads_of_process c.args.served set (noted_known c.args.noted_ids.now) (row_pid row) pid row (process_count c.args.threads.now) c.requires.few
          (λ who e. c.requires.known who (told_noted c.args.served set who e)) refl
          (threads_shown c.args.threads.now) (threads_shown c.loop-row.threads) (threads_shown c.tell_process.new.threads)
          c.loop-row.invariant.threads c.tell_process.ensures.after;
      log = log_of_process c.args.served set (noted_known c.args.noted_ids.now) (row_pid row) pid row (process_count c.args.threads.now) c.requires.few
          (λ who e. c.requires.known who (told_noted c.args.served set who e)) refl
          c.args.log.now c.loop-row.log c.tell_process.new.log c.loop-row.invariant.log c.tell_process.ensures.log;
      count = c.tell_process.ensures.count ∙ c.loop-row.invariant.count;
    }

pub returns-clause-after : goal.returns-clause-after
returns-clause-after c =
    let done : c.loop-row.row * 31 ≡ 1984 = omega arith in
    c.loop-row.invariant.threads
    ∙ ap (λ k. answered (below k (told_to c.args.served (noted c.args.noted_ids.now))) (threads_shown c.args.threads.now)) done
    ∙ ap (λ a. answered a (threads_shown c.args.threads.now))
    (all_below (process_count c.args.threads.now) (told_to c.args.served (noted c.args.noted_ids.now))
    (λ id q. c.requires.known id (told_noted c.args.served (noted c.args.noted_ids.now) id q)) c.requires.few)

pub returns-clause-log : goal.returns-clause-log
returns-clause-log c =
    let done : c.loop-row.row * 31 ≡ 1984 = omega arith in
    c.loop-row.invariant.log
    ∙ ap (λ k. log_with (replies_below k (told_to c.args.served (noted c.args.noted_ids.now))) c.args.log.now) done
    ∙ ap (λ told. log_with told c.args.log.now)
    (all_records (process_count c.args.threads.now) (told_to c.args.served (noted c.args.noted_ids.now))
    (λ id q. c.requires.known id (told_noted c.args.served (noted c.args.noted_ids.now) id q)) c.requires.few)

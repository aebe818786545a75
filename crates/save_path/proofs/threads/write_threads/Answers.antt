use Rattle.std.proofs.Common.{◌≡◌, ◌∙◌, ◌*◌, length, Some, sym, ap, arith}
use Rattle.xk_parts.specs.Shown.{thread_of, threads_shown}
use Rattle.std.specs.Option.{option_map}
use Rattle.suspend_image.specs.Sheets.{appended}
use Rattle.suspend_image.specs.Spelling.{thread_bytes}
use Rattle.suspend_image.specs.Words.{word}
use Rattle.thread_table.specs.Shown.{threads_of}
use Rattle.xk_base.specs.Tables.Circle.{id_at}
use Rattle.save_path.specs.Fitting.{IsThreadFit}
use Rattle.save_path.specs.Rows.{thread_at}
use Rattle.save_path.proofs.FittingLemmas.{each_gone, each_none, each_this}
use Rattle.save_path.proofs.SheetLemmas.{fits_rows, next_has_room, written_done, written_first, written_more, written_skip}
use Rattle.save_path.proofs.SizeLemmas.{length-thread}
use Rattle.save_path.proofs.TableLemmas.{copied, copied_none, thread_gone, thread_there_as}
use Rattle.save_path.proofs.threads.write_threads.Goals.{in-Some, in_default}
use Rattle.save_path.proofs.threads.write_threads.Goals as goal

pub loop-k-init : goal.loop-k-init
loop-k-init c = record {
  written = written_first thread_bytes 144 (thread_at (threads_shown c.args.threads.now)) (appended (word 0) c.args.sheet.now) c.push_word.new.self
      c.push_word.ensures;
  fit = each_none (λ j. threads_shown c.args.threads.now (id_at j)) IsThreadFit;
}

pub write_thread-requires : goal.write_thread-requires
write_thread-requires c =
    let written = c.loop-k.invariant.written in
    next_has_room thread_bytes 144 (thread_at (threads_shown c.args.threads.now)) c.loop-k.k (c.args.procs * 31) (appended (word 0) c.args.sheet.now)
    c.loop-k.sheet c.loop-k.many c.thread_row.result written (omega (arith, written.below, c.loop-k-test.true))
    (fits_rows c.args.sheet.now (144 * (c.args.procs * 31)) c.requires.room) (length-thread c.thread_row.result c.thread_row.ensures.len)

pub loop-k-preserved : goal.loop-k-preserved
loop-k-preserved c =
    let row = thread_at (threads_shown c.args.threads.now) in
    let start = appended (word 0) c.args.sheet.now in
    let written = c.loop-k.invariant.written in
    let at : threads_of c.args.threads.now (id_at c.loop-k.k) ≡ threads_of c.args.threads.now c.id_at-id.result =
    ap (threads_of c.args.threads.now) (sym c.id_at-id.ensures) in
    elim c.match-get.branch [
      | in-Some w ↦
          let there = sym c.get.ensures ∙ copied c.get.result w.in-Some.thread w.in-Some.is in
          rw (w.sheet-is, w.many-is)
          (record {
            written = written_more thread_bytes 144 row c.loop-k.k start c.loop-k.sheet w.write_thread.new.sheet c.loop-k.many w.thread_row.result written
                (thread_there_as c.args.threads.now c.loop-k.k c.id_at-id.result w.in-Some.thread.now c.id_at-id.ensures
                there ∙ ap Some (sym w.thread_row.ensures.row))
                w.write_thread.ensures (length-thread w.thread_row.result w.thread_row.ensures.len);
            fit = each_this (λ j. threads_shown c.args.threads.now (id_at j)) IsThreadFit c.loop-k.k (thread_of w.in-Some.thread.now) c.loop-k.invariant.fit
                (ap (option_map thread_of) (at ∙ there)) w.thread_row.ensures.fit;
          })
      | in_default w ↦
          let gone = at ∙ sym c.get.ensures ∙ copied_none c.get.result w.in_default.is in
          rw (w.sheet-is, w.many-is)
          (record {
            written = written_skip thread_bytes 144 row c.loop-k.k start c.loop-k.sheet c.loop-k.many written (thread_gone c.args.threads.now c.loop-k.k gone);
            fit = each_gone (λ j. threads_shown c.args.threads.now (id_at j)) IsThreadFit c.loop-k.k c.loop-k.invariant.fit (ap (option_map thread_of) gone);
          })
    ]

pub returns-clause-rows : goal.returns-clause-rows
returns-clause-rows c =
    let written = c.loop-k.invariant.written in
    written_done thread_bytes 144 (thread_at (threads_shown c.args.threads.now)) c.loop-k.k (c.args.procs * 31) (c.args.procs * 31) c.args.sheet.now
    c.loop-k.sheet c.set_word.new.self c.loop-k.many (length c.as_slice.result.now) written (omega arith) (omega (arith, written.below))
    (ap length c.as_slice.ensures) c.set_word.ensures

pub returns-clause-fit : goal.returns-clause-fit
returns-clause-fit c k t low e = c.loop-k.invariant.fit k t (omega arith) e

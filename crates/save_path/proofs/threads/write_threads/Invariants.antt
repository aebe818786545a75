use Rattle.xk_parts.specs.Shown.{threads_shown}
use Rattle.suspend_image.specs.Sheets.{appended}
use Rattle.suspend_image.specs.Spelling.{thread_bytes}
use Rattle.suspend_image.specs.Words.{word}
use Rattle.save_path.proofs.SheetLemmas.{HasWritten}
use Rattle.xk_base.specs.Tables.Circle.{id_at}
use Rattle.save_path.specs.Fitting.{EachBelow, IsThreadFit}
use Rattle.save_path.specs.Rows.{thread_at}
use Rattle.save_path.proofs.threads.write_threads.Given as goal

-- the threads of the ids so far were appended, and each fits
abbrev pub invariant-loop-k : goal.invariant-loop-k
invariant-loop-k l = record {
  written : HasWritten thread_bytes 144 (thread_at (threads_shown l.threads)) l.k (appended (word 0) l.fn.sheet) l.sheet l.many;
  fit : EachBelow l.k (λ j. threads_shown l.threads (id_at j)) IsThreadFit;
}

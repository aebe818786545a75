use Rattle.std.proofs.Common.{◌-◌, ◌≤◌}
use Rattle.suspend_image.specs.Sheets.{appended}
use Rattle.suspend_image.specs.Words.{word}
use Rattle.vm_memory.specs.Bytes.{MeansBytes}
use Rattle.vm_memory.specs.Memory.{IsUsable, ledger}
use Rattle.save_path.proofs.TextLemmas.{HasTexts}
use Rattle.save_path.specs.Rows.{home_at}
use Rattle.save_path.specs.Written.{BringsPages}
use Rattle.save_path.proofs.pages.write_homes.Given as goal

-- what stands at the places so far was appended, and nothing stands up to the next
abbrev pub invariant-places : goal.invariant-places
invariant-places g l = record {
  brings : BringsPages g.W.SwapStore l.fn.mem l.mem;
  usable : IsUsable l.mem;
  texts : HasTexts (MeansBytes g.W.SwapStore l.fn.mem) (home_at (ledger g.W.SwapStore.held l.fn.mem)) l.number
      (appended (word 0) l.fn.sheet) l.sheet l.many;
  high : l.number ≤ l.end;
}

abbrev pub decreases-places : goal.decreases-places
decreases-places g l = l.end - l.number

use Rattle.std.proofs.Common.{◌≡◌, ◌≤◌, ◌+◌, ◌++◌, List, take}
use Rattle.xk_base.specs.declared.records.Rec.{Rec}
use Rattle.demo_load.specs.Totals.{totals_of}
use Rattle.demo_load.proofs.totals.Totals.count_all.Given as goal

abbrev pub invariant-loop-rec : goal.invariant-loop-rec
invariant-loop-rec l = record {
  counted : (before : List Rec) → l.fn.self ≡ totals_of before → l.self ≡ totals_of (before ++ take l.rec-index l.records);
  few : l.self.sends ≤ l.fn.self.sends + l.rec-index;
  few_gone : l.self.gone ≤ l.fn.self.gone + l.rec-index;
}

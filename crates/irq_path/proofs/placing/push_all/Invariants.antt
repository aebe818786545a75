use Rattle.std.proofs.Common.{◌≡◌, ◌++◌, take}
use Rattle.irq_path.proofs.placing.push_all.Given as goal

-- the records so far were appended
abbrev pub invariant-records : goal.invariant-records
invariant-records l = l.log ≡ record l.fn.log { records = l.fn.log.records ++ take l.k l.records }

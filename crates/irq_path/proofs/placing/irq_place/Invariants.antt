use Rattle.std.proofs.Common.{◌≡◌, ◌+◌, drop}
use Rattle.irq_path.specs.Placing.{irq_place}
use Rattle.irq_path.proofs.placing.irq_place.Given as goal

-- none of the records so far stands after
abbrev pub invariant-records : goal.invariant-records
invariant-records l = irq_place l.pid l.records ≡ l.k + irq_place l.pid (drop l.k l.records)

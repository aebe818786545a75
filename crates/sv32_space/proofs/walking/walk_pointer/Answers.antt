use Rattle.std.proofs.Common.{◌/◌, sym, ◌∙◌, arith}
use Rattle.sv32_space.proofs.WalkLemmas.{from_table}
use Rattle.sv32_space.proofs.walking.walk_pointer.Goals as goal

pub returns-in-Some : goal.returns-in-Some
returns-in-Some c =
    c.walk_last.ensures
    ∙ from_table c.args.ram.now c.args.entry c.args.va (c.args.entry / 1024) c.in-Some.last c.args.access (omega arith) (sym c.in-Some.is ∙ c.table_entry.ensures)

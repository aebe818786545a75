use Rattle.sv32_space.proofs.TableLemmas.{table_tells}
use Rattle.sv32_space.proofs.tables.table_of.Goals as goal

pub returns-clause-table : goal.returns-clause-table
returns-clause-table c = table_tells c.args.ram.now c.args.at c.table_at.result.0 c.page.result.now c.requires.made c.requires.window c.table_at.ensures.table c.page.ensures.value

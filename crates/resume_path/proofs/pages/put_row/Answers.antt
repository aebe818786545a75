use Rattle.std.proofs.Common.{arith}
use Rattle.resume_path.proofs.pages.put_row.Goals as goal

-- src/pages.rt
pub returns-then-row-ge-CONSOLE-clause-comes : goal.returns-then-row-ge-CONSOLE-clause-comes
returns-then-row-ge-CONSOLE-clause-comes g c = λ total l come fits. c.put_console.ensures.comes total l c.args.file.now come

pub returns-clause-comes : goal.returns-clause-comes
returns-clause-comes g c = λ total l come fits. c.put_page.ensures.comes total l come (fits (omega arith))

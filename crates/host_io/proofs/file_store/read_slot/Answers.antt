use Rattle.std.proofs.lemmas.Result.{on_ok_weaker}
use Rattle.host_io.proofs.PageFileLemmas.{GivesPage-read}
use Rattle.host_io.proofs.file_store.read_slot.Goals as goal

pub returns-clause-got : goal.returns-clause-got
returns-clause-got g c =
    on_ok_weaker
    c.read_page.result
    (GivesPage-read (g.F.PageFile.bytes c.args.file.now) c.args.s.0 c.offset_of.result c.read_page.new.into c.offset_of.ensures)
    c.read_page.ensures.read

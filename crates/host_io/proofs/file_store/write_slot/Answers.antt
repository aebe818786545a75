use Rattle.std.proofs.lemmas.Result.{on_ok_weaker, on_err_weaker}
use Rattle.host_io.proofs.PageFileLemmas.{slots_in-written_at, SpoilsSlot-written}
use Rattle.host_io.proofs.file_store.write_slot.Goals as goal

pub returns-clause-put : goal.returns-clause-put
returns-clause-put g c =
    on_ok_weaker
    c.write_page.result
    (slots_in-written_at (g.F.PageFile.bytes c.args.file.now) (g.F.PageFile.bytes c.write_page.new.self) c.args.s.0 c.offset_of.result c.args.page.now c.offset_of.ensures c.requires)
    c.write_page.ensures.written

pub returns-clause-spoilt : goal.returns-clause-spoilt
returns-clause-spoilt g c =
    on_err_weaker
    c.write_page.result
    (SpoilsSlot-written (g.F.PageFile.bytes c.args.file.now) (g.F.PageFile.bytes c.write_page.new.self) c.args.s.0 c.offset_of.result c.offset_of.ensures)
    c.write_page.ensures.spoilt

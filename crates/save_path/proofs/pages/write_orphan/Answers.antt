use Rattle.std.proofs.Common.{◌∙◌, None, sym, ap, rules}
use Rattle.xk_parts.proofs.LawfulLemmas.{sound_lawful}
use Rattle.ledger_model.specs.Ledger.{Ledger}
use Rattle.suspend_image.specs.Sheets.{appended}
use Rattle.suspend_image.specs.Spelling.{orphan_words}
use Rattle.snapshot_rows.specs.declared.state.OrphanRow.{OrphanRow}
use Rattle.vm_memory.specs.Memory.{capacity_of, ledger, processes}
use Rattle.save_path.specs.Rows.{orphan_at}
use Rattle.save_path.proofs.BringsLemmas.{brings_none, brings_procs}
use Rattle.save_path.proofs.PageReadLemmas.{lent_alone, lent_by, no_orphan, no_orphan_seen, none_written, orphan_may, orphan_reached, orphan_room, orphan_row_room, orphan_seen, orphan_written, told_at}
use Rattle.save_path.proofs.pages.write_orphan.Goals as goal

pub returns-in_default-clause-text : goal.returns-in_default-clause-text
returns-in_default-clause-text g c =
    let l : Ledger = ledger g.W.SwapStore.held c.args.mem.now in
    none_written (orphan_at l c.args.number) c.args.sheet.now
    (no_orphan l c.place_at-place.result c.args.number c.place_at-place.ensures
    (no_orphan_seen (processes c.args.mem.now) (capacity_of c.args.mem.now) l c.place_at-place.result c.at.result
    (sound_lawful g.W.SwapStore c.args.mem.now c.requires.sound) (sym c.at.ensures)
    (λ kind number is. c.in_default.not-Lent kind None number is)))

pub returns-in_default-clause-reads : goal.returns-in_default-clause-reads
returns-in_default-clause-reads g c =
    let brings = brings_none g.W.SwapStore c.args.mem.now c.requires.sound in
    search (rules, brings)

pub returns-then-is_some-clause-text : goal.returns-then-is_some-clause-text
returns-then-is_some-clause-text g c =
    let l : Ledger = ledger g.W.SwapStore.held c.args.mem.now in
    none_written (orphan_at l c.args.number) c.args.sheet.now
    (no_orphan l c.place_at-place.result c.args.number c.place_at-place.ensures
    (no_orphan_seen (processes c.args.mem.now) (capacity_of c.args.mem.now) l c.place_at-place.result c.at.result
    (sound_lawful g.W.SwapStore c.args.mem.now c.requires.sound) (sym c.at.ensures)
    (lent_by c.at.result c.in-Lent.kind c.in-Lent.lender c.in-Lent.message c.in-Lent.is (sym c.is_some.ensures ∙ c.if-is_some.true))))

pub returns-then-is_some-clause-reads : goal.returns-then-is_some-clause-reads
returns-then-is_some-clause-reads g c =
    let brings = brings_none g.W.SwapStore c.args.mem.now c.requires.sound in
    search (rules, brings)

pub write_orphan_words-requires : goal.write_orphan_words-requires
write_orphan_words-requires g c = orphan_row_room c.args.sheet.now c.orphan_row.result c.requires.room

pub write_contents-requires-clause-may : goal.write_contents-requires-clause-may
write_contents-requires-clause-may g c =
    orphan_may (ledger g.W.SwapStore.held c.args.mem.now) c.place_at-place.result c.in-Lent.kind c.in-Lent.message
    (orphan_seen (processes c.args.mem.now) (ledger g.W.SwapStore.held c.args.mem.now) c.place_at-place.result c.in-Lent.kind c.in-Lent.message
    (sym c.at.ensures ∙ lent_alone c.at.result c.in-Lent.kind c.in-Lent.lender c.in-Lent.message c.in-Lent.is (sym c.is_some.ensures ∙ c.if-is_some.false)))
    (processes c.args.mem.now) (capacity_of c.args.mem.now) (sound_lawful g.W.SwapStore c.args.mem.now c.requires.sound)

pub write_contents-requires-clause-room : goal.write_contents-requires-clause-room
write_contents-requires-clause-room g c = orphan_room c.args.sheet.now c.write_orphan_words.new.sheet c.orphan_row.result c.requires.room
    c.write_orphan_words.ensures

pub returns-clause-text : goal.returns-clause-text
returns-clause-text g c =
    let l : Ledger = ledger g.W.SwapStore.held c.args.mem.now in
    let seen = orphan_seen (processes c.args.mem.now) (ledger g.W.SwapStore.held c.args.mem.now) c.place_at-place.result c.in-Lent.kind c.in-Lent.message
    (sym c.at.ensures ∙ lent_alone c.at.result c.in-Lent.kind c.in-Lent.lender c.in-Lent.message c.in-Lent.is (sym c.is_some.ensures ∙ c.if-is_some.false))
    in
    let wrote = c.in_ok-write_contents.ensures in
    orphan_written l c.place_at-place.result c.in-Lent.kind c.in-Lent.message seen c.args.number c.place_at-place.ensures
    c.args.sheet.now c.write_orphan_words.new.sheet c.write_contents.new.sheet wrote.bytes.bytes
    (c.write_orphan_words.ensures ∙ ap (λ (row : OrphanRow). appended (orphan_words row) c.args.sheet.now) c.orphan_row.ensures)
    wrote.bytes.is wrote.bytes.size
    (λ means. sym (orphan_reached l c.place_at-place.result c.in-Lent.kind c.in-Lent.message seen (processes c.args.mem.now) (capacity_of c.args.mem.now)
    (sound_lawful g.W.SwapStore c.args.mem.now c.requires.sound))
    ∙ told_at (processes c.args.mem.now) (processes c.write_contents.new.mem) l (ledger g.W.SwapStore.held c.write_contents.new.mem) c.place_at-place.result _
    (brings_procs g.W.SwapStore c.args.mem.now
    c.write_contents.new.mem wrote.reads.brings)
    (wrote.reads.brings.whole means) wrote.bytes.page)

use Rattle.std.proofs.Common.{◌∙◌, sym, ap, rules}
use Rattle.xk_parts.proofs.LawfulLemmas.{sound_lawful}
use Rattle.ledger_model.specs.Ledger.{Ledger}
use Rattle.suspend_image.specs.Sheets.{appended}
use Rattle.suspend_image.specs.Spelling.{page_words}
use Rattle.snapshot_rows.specs.declared.state.PageRow.{PageRow}
use Rattle.vm_memory.specs.Memory.{capacity_of, ledger, processes}
use Rattle.vm_memory.specs.Using.Access.{reaches_bytes}
use Rattle.xk_base.specs.declared.ids.Place.{Place}
use Rattle.xk_base.specs.declared.pages.Access.TheVariants.{Load}
use Rattle.save_path.specs.Rows.{home_at}
use Rattle.save_path.proofs.BringsLemmas.{brings_none, brings_procs}
use Rattle.save_path.proofs.PageReadLemmas.{console_written, home_seen, no_home, none_seen, none_written, page_room, page_written, row_room, seen_may, seen_reached, told_by}
use Rattle.save_path.proofs.pages.write_home.Goals as goal

pub returns-in_default-clause-text : goal.returns-in_default-clause-text
returns-in_default-clause-text g c =
    let l : Ledger = ledger g.W.SwapStore.held c.args.mem.now in
    none_written (home_at l c.args.number) c.args.sheet.now
    (no_home l c.place_at-home.result c.args.number c.place_at-home.ensures
    (none_seen (processes c.args.mem.now) l c.place_at-home.result c.at.result (sym c.at.ensures)
    (λ r console info is. c.in_default.not-Own r console info is)))

pub returns-in_default-clause-reads : goal.returns-in_default-clause-reads
returns-in_default-clause-reads g c =
    let brings = brings_none g.W.SwapStore c.args.mem.now c.requires.sound in
    search (rules, brings)

pub write_page_words-requires : goal.write_page_words-requires
write_page_words-requires g c = row_room c.args.sheet.now c.page_row.result c.requires.room

pub write_contents-requires-clause-may : goal.write_contents-requires-clause-may
write_contents-requires-clause-may g c =
    let l : Ledger = ledger g.W.SwapStore.held c.args.mem.now in
    ap (λ (at : Place). reaches_bytes (processes c.args.mem.now) l at Load) c.reading_place.ensures
    ∙ seen_may l c.place_at-home.result c.in-Own.right c.in-Own.console c.in-Own.loan
    (home_seen (processes c.args.mem.now) (ledger g.W.SwapStore.held c.args.mem.now) c.place_at-home.result c.in-Own.right c.in-Own.console c.in-Own.loan
    (sym c.at.ensures ∙ c.in-Own.is))
    (processes c.args.mem.now) (capacity_of c.args.mem.now) (sound_lawful g.W.SwapStore c.args.mem.now c.requires.sound)
    c.if-not-console.true

pub write_contents-requires-clause-room : goal.write_contents-requires-clause-room
write_contents-requires-clause-room g c = page_room c.args.sheet.now c.write_page_words.new.sheet c.page_row.result c.requires.room c.write_page_words.ensures

pub returns-in_ok-write_contents-clause-text : goal.returns-in_ok-write_contents-clause-text
returns-in_ok-write_contents-clause-text g c =
    let l : Ledger = ledger g.W.SwapStore.held c.args.mem.now in
    let seen = home_seen (processes c.args.mem.now) (ledger g.W.SwapStore.held c.args.mem.now) c.place_at-home.result c.in-Own.right c.in-Own.console
    c.in-Own.loan (sym c.at.ensures ∙ c.in-Own.is) in
    let wrote = c.in_ok-write_contents.ensures in
    page_written l c.place_at-home.result c.in-Own.right c.in-Own.console c.in-Own.loan seen c.args.number c.place_at-home.ensures
    c.args.sheet.now c.write_page_words.new.sheet c.write_contents.new.sheet wrote.bytes.bytes
    (c.write_page_words.ensures ∙ ap (λ (row : PageRow). appended (page_words row) c.args.sheet.now) c.page_row.ensures)
    wrote.bytes.is wrote.bytes.size
    (λ means. sym (seen_reached l c.place_at-home.result c.in-Own.right c.in-Own.console c.in-Own.loan seen (processes c.args.mem.now)
    (capacity_of c.args.mem.now)
    (sound_lawful g.W.SwapStore c.args.mem.now c.requires.sound))
    ∙ told_by (processes c.args.mem.now) (processes c.write_contents.new.mem) l (ledger g.W.SwapStore.held c.write_contents.new.mem) _ c.reading_place.result _
    (brings_procs g.W.SwapStore c.args.mem.now
    c.write_contents.new.mem wrote.reads.brings)
    (wrote.reads.brings.whole means) c.reading_place.ensures wrote.bytes.page)

pub returns-else-not-console-clause-text : goal.returns-else-not-console-clause-text
returns-else-not-console-clause-text g c =
    let l : Ledger = ledger g.W.SwapStore.held c.args.mem.now in
    console_written l c.place_at-home.result c.in-Own.right c.in-Own.console c.in-Own.loan
    (home_seen (processes c.args.mem.now) (ledger g.W.SwapStore.held c.args.mem.now) c.place_at-home.result c.in-Own.right c.in-Own.console c.in-Own.loan
    (sym c.at.ensures ∙ c.in-Own.is)) c.args.number c.place_at-home.ensures
    c.args.sheet.now c.write_page_words.new.sheet c.if-not-console.false
    (c.write_page_words.ensures ∙ ap (λ (row : PageRow). appended (page_words row) c.args.sheet.now) c.page_row.ensures)

pub returns-else-not-console-clause-reads : goal.returns-else-not-console-clause-reads
returns-else-not-console-clause-reads g c =
    let brings = brings_none g.W.SwapStore c.args.mem.now c.requires.sound in
    search (rules, brings)

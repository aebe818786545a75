use Rattle.std.proofs.Common.{◌∙◌, ◌+◌, ◌*◌, length, refl, ap, arith, rules}
use Rattle.ledger_model.specs.Ledger.{Ledger}
use Rattle.suspend_image.specs.Sheets.{appended}
use Rattle.suspend_image.specs.Words.{word}
use Rattle.vm_memory.specs.Bytes.{MeansBytes}
use Rattle.vm_memory.specs.Memory.{ledger, store_of}
use Rattle.save_path.specs.Rows.{home_at, home_texts}
use Rattle.save_path.proofs.BringsLemmas.{brings_both, brings_none, brings_procs, on_err, rose_later}
use Rattle.save_path.proofs.SheetLemmas.{fits_rows}
use Rattle.save_path.proofs.TableLemmas.{byte_is}
use Rattle.save_path.proofs.TextLemmas.{home_alike, texts_counted, texts_done, texts_first, texts_room}
use Rattle.save_path.proofs.UsedLemmas.{home_gap, texts_gap}
use Rattle.save_path.proofs.pages.write_homes.Goals as goal

pub places-init : goal.places-init
places-init g c = record {
  brings = brings_none g.W.SwapStore c.args.mem.now
      c.requires.sound;
  usable = c.requires.usable;
  texts = texts_gap (MeansBytes g.W.SwapStore c.args.mem.now) (home_at (ledger g.W.SwapStore.held c.args.mem.now))
      (home_at (ledger g.W.SwapStore.held c.args.mem.now)) 0 c.next_used-number.result (appended (word 0) c.args.sheet.now) c.push_word.new.self 0
      (texts_first (MeansBytes g.W.SwapStore c.args.mem.now) (home_at (ledger g.W.SwapStore.held c.args.mem.now))
      (appended (word 0) c.args.sheet.now) c.push_word.new.self c.push_word.ensures)
      c.next_used-number.ensures.low (λ k. refl)
      (home_gap g.W.SwapStore.held c.args.mem.now 0 c.next_used-number.result c.next_used-number.ensures.free);
  high = c.next_used-number.ensures.high;
}

pub next_used-number-requires-in-places-clause-end : goal.next_used-number-requires-in-places-clause-end
next_used-number-requires-in-places-clause-end g c =
    let made = c.requires.made in
    let all = brings_procs g.W.SwapStore c.args.mem.now c.write_home.new.mem
    (brings_both g.W.SwapStore c.args.mem.now c.places.mem c.write_home.new.mem c.places.invariant.brings c.in_ok-write_home.ensures.reads.brings) in
    omega arith

pub write_home-requires-clause-room : goal.write_home-requires-clause-room
write_home-requires-clause-room g c =
    texts_room (MeansBytes g.W.SwapStore c.args.mem.now) (home_at (ledger g.W.SwapStore.held c.args.mem.now)) c.places.number
    (20464 * c.args.procs)
    (appended (word 0) c.args.sheet.now) c.places.sheet c.places.many c.places.invariant.texts (omega (arith, c.places-test.true))
    (fits_rows c.args.sheet.now (4124 * (length (home_texts c.args.procs (ledger g.W.SwapStore.held c.args.mem.now)) + 1)) c.requires.room)

pub places-preserved : goal.places-preserved
places-preserved g c =
    let old : Ledger = ledger g.W.SwapStore.held c.args.mem.now in
    let now : Ledger = ledger g.W.SwapStore.held c.places.mem in
    let new : Ledger = ledger g.W.SwapStore.held c.write_home.new.mem in
    let brought = c.places.invariant.brings in
    let wrote = c.in_ok-write_home.ensures in
    let brings = brings_both g.W.SwapStore c.args.mem.now c.places.mem c.write_home.new.mem brought wrote.reads.brings in
    let texts = texts_counted (MeansBytes g.W.SwapStore c.args.mem.now)
    (MeansBytes g.W.SwapStore c.places.mem)
    (home_at old) (home_at now) c.places.number (appended (word 0) c.args.sheet.now) c.places.sheet c.write_home.new.sheet
    c.places.many _ c.in_ok-write_home.field-0
    c.places.invariant.texts wrote.text (home_alike now old brought.rights c.places.number) brought.means
    (λ means. ap (λ (l : Ledger). home_at l c.places.number) (brought.whole means)) (c.from.ensures ∙ byte_is c.in_ok-write_home.field-0) in
    record {
      brings = brings;
      usable = wrote.reads.usable;
      texts = texts_gap (MeansBytes g.W.SwapStore c.args.mem.now) (home_at old) (home_at new) (c.places.number + 1) c.next_used-number-in-places.result
          (appended (word 0) c.args.sheet.now) c.write_home.new.sheet (c.places.many + c.from.result) texts c.next_used-number-in-places.ensures.low
          (home_alike new old brings.rights)
          (home_gap g.W.SwapStore.held c.write_home.new.mem (c.places.number + 1) c.next_used-number-in-places.result c.next_used-number-in-places.ensures.free);
      high = c.next_used-number-in-places.ensures.high;
    }

pub returns-in_err-write_home-clause-reads : goal.returns-in_err-write_home-clause-reads
returns-in_err-write_home-clause-reads g c = record {
  brings = brings_both g.W.SwapStore c.args.mem.now c.places.mem
      c.write_home.new.mem c.places.invariant.brings c.write_home.ensures.reads.brings;
  usable = search rules;
  failed = search rules;
  cause = on_err c.from_residual.result _
      (rose_later (g.W.SwapStore.faults (store_of c.args.mem.now)) (g.W.SwapStore.faults (store_of c.places.mem))
      (g.W.SwapStore.faults (store_of c.write_home.new.mem))
      c.places.invariant.brings.store.never_falls c.in_err-write_home.ensures.reads.cause);
}

pub returns-clause-texts : goal.returns-clause-texts
returns-clause-texts g c =
    texts_done (MeansBytes g.W.SwapStore c.args.mem.now) (home_at (ledger g.W.SwapStore.held c.args.mem.now)) c.places.number
    (20464 * c.args.procs)
    c.args.sheet.now c.places.sheet c.set_word.new.self c.places.many (length c.as_slice.result.now) c.places.invariant.texts (omega arith)
    (ap length c.as_slice.ensures)
    c.set_word.ensures

use Rattle.std.proofs.Common.{◌∙◌, ℕ, sym, subst, rules}
use Rattle.ledger_model.specs.Lawful.{IsLawful}
use Rattle.vm_memory.specs.Memory.{capacity_of, ledger, store_of}
use Rattle.xk_parts.proofs.LawfulLemmas.{sound_lawful}
use Rattle.save_path.proofs.BringsLemmas.{brings_both, brings_procs, rose_later}
use Rattle.save_path.proofs.PagesPartLemmas.{both_written, homes_room, on_err_to, on_ok_to, orphans_room}
use Rattle.save_path.proofs.saving.write_pages.Goals as goal

pub write_homes-requires-clause-room : goal.write_homes-requires-clause-room
write_homes-requires-clause-room g c =
    let mem = c.args.mem.now in
    homes_room c.args.sheet.now c.args.procs (capacity_of mem) (ledger g.W.SwapStore.held mem)
    (subst (λ (n : ℕ). IsLawful n (capacity_of mem) (ledger g.W.SwapStore.held mem)) (sym c.requires.procs)
    (sound_lawful g.W.SwapStore mem c.requires.sound))
    c.requires.room

pub write_orphans-requires-clause-room : goal.write_orphans-requires-clause-room
write_orphans-requires-clause-room g c =
    let mem = c.args.mem.now in
    orphans_room g.W.SwapStore mem c.write_homes.new.mem
    c.in_ok-write_homes.ensures.reads.brings c.args.procs (capacity_of mem) c.args.sheet.now c.write_homes.new.sheet
    (subst (λ (n : ℕ). IsLawful n (capacity_of mem) (ledger g.W.SwapStore.held mem)) (sym c.requires.procs)
    (sound_lawful g.W.SwapStore mem c.requires.sound))
    c.requires.room c.in_ok-write_homes.ensures.texts

pub returns-clause-reads : goal.returns-clause-reads
returns-clause-reads g c = record {
  brings = brings_both g.W.SwapStore c.args.mem.now
      c.write_homes.new.mem c.write_orphans.new.mem c.in_ok-write_homes.ensures.reads.brings c.write_orphans.ensures.reads.brings;
  usable = search rules;
  failed = search rules;
  cause = on_err_to c.write_orphans.result _ _
      (rose_later (g.W.SwapStore.faults (store_of c.args.mem.now)) (g.W.SwapStore.faults (store_of c.write_homes.new.mem))
      (g.W.SwapStore.faults (store_of c.write_orphans.new.mem))
      c.in_ok-write_homes.ensures.reads.brings.store.never_falls)
      c.write_orphans.ensures.reads.cause;
}

pub returns-clause-pages : goal.returns-clause-pages
returns-clause-pages g c =
    let mem = c.args.mem.now in
    on_ok_to c.write_orphans.result _ _
    (λ texts. both_written g.W.SwapStore mem
    c.write_homes.new.mem c.in_ok-write_homes.ensures.reads.brings c.args.procs c.write_orphans.new.mem c.write_orphans.ensures.reads.brings
    c.args.sheet.now c.write_homes.new.sheet c.write_orphans.new.sheet (capacity_of mem)
    (subst (λ (n : ℕ). IsLawful n (capacity_of mem) (ledger g.W.SwapStore.held mem)) (sym c.requires.procs)
    (sound_lawful g.W.SwapStore mem c.requires.sound))
    c.requires.room
    (c.requires.procs ∙ sym (brings_procs g.W.SwapStore
    mem c.write_orphans.new.mem
    (brings_both g.W.SwapStore mem c.write_homes.new.mem
    c.write_orphans.new.mem c.in_ok-write_homes.ensures.reads.brings c.write_orphans.ensures.reads.brings)))
    c.in_ok-write_homes.ensures.texts texts)
    c.write_orphans.ensures.texts

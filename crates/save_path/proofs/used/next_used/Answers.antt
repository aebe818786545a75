use Rattle.std.proofs.Common.{◌*◌, ◌%◌, ◌<◌, ap, refl, subst, sym, ◌∙◌, arith}
use Rattle.std.specs.Prelude.{is_some}
use Rattle.phys_pages.specs.Ram.{RamBytes}
use Rattle.sv32_space.specs.Spaces.{IsMade}
use Rattle.sv32_space.specs.Tables.{IsTableOf}
use Rattle.vm_memory.specs.Memory.{processes}
use Rattle.xk_base.specs.Numbers.Windows.{window_at}
use Rattle.xk_base.specs.Tables.Circle.{is_pid}
use Rattle.xk_base.specs.declared.ids.Place.{Place}
use Rattle.save_path.proofs.UsedLemmas.{none_so_far, place_pid, place_window, still_below}
use Rattle.save_path.proofs.used.next_used.Goals as goal

pub table_of-requires-clause-made : goal.table_of-requires-clause-made
table_of-requires-clause-made g c =
    let below : c.tables.number < 20464 * processes c.args.mem.now = let end = c.requires.end in omega (arith, c.tables-test.true) in
    subst (λ (ram : RamBytes). IsMade ram c.place_at-at.result.pid.0) (sym c.ram.ensures.bytes)
    (c.requires.sound.agree.made c.place_at-at.result.pid.0
    (ap (λ (p : Place). is_pid (processes c.args.mem.now) p.pid.0) c.place_at-at.ensures ∙ place_pid (processes c.args.mem.now) c.tables.number below))

pub table_of-requires-clause-window : goal.table_of-requires-clause-window
table_of-requires-clause-window g c =
    let below : c.tables.number < 20464 * processes c.args.mem.now = let end = c.requires.end in omega (arith, c.tables-test.true) in
    ap (λ (p : Place). is_some (window_at p.vpn.0)) c.place_at-at.ensures ∙ place_window (processes c.args.mem.now) c.tables.number below

pub returns-then-used-lt-ENTRIES-clause-high : goal.returns-then-used-lt-ENTRIES-clause-high
returns-then-used-lt-ENTRIES-clause-high g c =
    let below : c.tables.number < 20464 * processes c.args.mem.now = let end = c.requires.end in omega (arith, c.tables-test.true) in
    still_below (processes c.args.mem.now) c.tables.number (c.place_at-at.result.vpn.0 % 1024) c.used_entry-used.result c.args.end c.place_at-at.result
    c.place_at-at.ensures below refl c.used_entry-used.ensures.high c.requires.end

pub returns-then-used-lt-ENTRIES-clause-free : goal.returns-then-used-lt-ENTRIES-clause-free
returns-then-used-lt-ENTRIES-clause-free g c =
    let below : c.tables.number < 20464 * processes c.args.mem.now = let end = c.requires.end in omega (arith, c.tables-test.true) in
    none_so_far g.W.SwapStore.held c.args.mem.now c.args.from c.tables.number (c.place_at-at.result.vpn.0 % 1024) c.used_entry-used.result
    c.place_at-at.result c.table_of.result.now c.place_at-at.ensures below refl c.used_entry-used.ensures.high
    (subst (λ (ram : RamBytes). IsTableOf ram c.place_at-at.result c.table_of.result.now) c.ram.ensures.bytes c.table_of.ensures.table)
    c.used_entry-used.ensures.free c.tables.invariant.free

pub tables-preserved : goal.tables-preserved
tables-preserved g c =
    let below : c.tables.number < 20464 * processes c.args.mem.now = let end = c.requires.end in omega (arith, c.tables-test.true) in
    record {
      low = omega (arith, c.tables.invariant.low);
      high = still_below (processes c.args.mem.now) c.tables.number (c.place_at-at.result.vpn.0 % 1024) c.used_entry-used.result c.args.end
          c.place_at-at.result c.place_at-at.ensures below refl c.used_entry-used.ensures.high c.requires.end;
      free = none_so_far g.W.SwapStore.held c.args.mem.now c.args.from c.tables.number (c.place_at-at.result.vpn.0 % 1024) c.used_entry-used.result
          c.place_at-at.result c.table_of.result.now c.place_at-at.ensures below refl c.used_entry-used.ensures.high
          (subst (λ (ram : RamBytes). IsTableOf ram c.place_at-at.result c.table_of.result.now) c.ram.ensures.bytes c.table_of.ensures.table)
          c.used_entry-used.ensures.free c.tables.invariant.free;
    }

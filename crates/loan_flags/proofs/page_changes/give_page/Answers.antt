use Rattle.std.proofs.Common.{true, ℕ, ◌≡◌}
use Rattle.xk_base.specs.Tables.Circle.{is_pid}
use Rattle.sv32_space.specs.declared.sides.Entry.TheVariants.{At, Free}
use Rattle.sv32_space.specs.declared.sides.Side.TheVariants.{Own}
use Rattle.loan_flags.specs.Keeping.{processes, tables}
use Rattle.loan_flags.proofs.PageChangeLemmas.{entry_process, give_page_agrees, give_page_keeps, give_page_others, give_page_steps}
use Rattle.loan_flags.proofs.page_changes.give_page.Goals as goal

pub returns-clause-agrees : goal.returns-clause-agrees
returns-clause-agrees c =
    let procs : ℕ = processes (tables c.args.ram.now c.args.owners.now) in
    let from : is_pid (processes (tables c.args.ram.now c.args.owners.now)) c.args.from.pid.0 ≡ true =
    entry_process c.args.ram.now c.args.owners.now c.requires.agrees c.args.from (At (Own c.own_page-seat.result.0) c.own_page-seat.result.1) c.own_page-seat.ensures.entry in
    let to : is_pid (processes (tables c.args.ram.now c.args.owners.now)) c.args.to.pid.0 ≡ true =
    entry_process c.args.ram.now c.args.owners.now c.requires.agrees c.args.to Free c.requires.free in
    give_page_agrees c.args.ram.now c.set_entry.new.ram c.set_entry-2.new.ram c.args.owners.now c.set.new.self c.args.from c.args.to c.own_page-seat.result.0 c.own_page-seat.result.1 c.requires.agrees c.own_page-seat.ensures.entry c.requires.free
    (record {
      entries_are = c.set_entry.ensures.entries procs from;
      pages = λ f low. c.set_entry.ensures.pages procs f from low;
      made = c.set_entry.ensures.made;
      area_is = c.set_entry.ensures.area;
    })
    (record {
      entries_are = c.set_entry-2.ensures.entries procs to;
      pages = λ f low. c.set_entry-2.ensures.pages procs f to low;
      made = c.set_entry-2.ensures.made;
      area_is = c.set_entry-2.ensures.area;
    })
    c.set.ensures.infos c.set.ensures.extent

pub returns-clause-step : goal.returns-clause-step
returns-clause-step c =
    let procs : ℕ = processes (tables c.args.ram.now c.args.owners.now) in
    let from : is_pid (processes (tables c.args.ram.now c.args.owners.now)) c.args.from.pid.0 ≡ true =
    entry_process c.args.ram.now c.args.owners.now c.requires.agrees c.args.from (At (Own c.own_page-seat.result.0) c.own_page-seat.result.1) c.own_page-seat.ensures.entry in
    let to : is_pid (processes (tables c.args.ram.now c.args.owners.now)) c.args.to.pid.0 ≡ true =
    entry_process c.args.ram.now c.args.owners.now c.requires.agrees c.args.to Free c.requires.free in
    give_page_steps c.args.ram.now c.set_entry.new.ram c.set_entry-2.new.ram c.args.owners.now c.set.new.self c.args.from c.args.to c.own_page-seat.result.0 c.own_page-seat.result.1 c.requires.agrees c.own_page-seat.ensures.entry c.requires.free
    (record {
      entries_are = c.set_entry.ensures.entries procs from;
      pages = λ f low. c.set_entry.ensures.pages procs f from low;
      made = c.set_entry.ensures.made;
      area_is = c.set_entry.ensures.area;
    })
    (record {
      entries_are = c.set_entry-2.ensures.entries procs to;
      pages = λ f low. c.set_entry-2.ensures.pages procs f to low;
      made = c.set_entry-2.ensures.made;
      area_is = c.set_entry-2.ensures.area;
    })
    c.set.ensures.infos c.set.ensures.extent

pub returns-clause-others : goal.returns-clause-others
returns-clause-others c =
    let procs : ℕ = processes (tables c.args.ram.now c.args.owners.now) in
    let from : is_pid (processes (tables c.args.ram.now c.args.owners.now)) c.args.from.pid.0 ≡ true =
    entry_process c.args.ram.now c.args.owners.now c.requires.agrees c.args.from (At (Own c.own_page-seat.result.0) c.own_page-seat.result.1) c.own_page-seat.ensures.entry in
    let to : is_pid (processes (tables c.args.ram.now c.args.owners.now)) c.args.to.pid.0 ≡ true =
    entry_process c.args.ram.now c.args.owners.now c.requires.agrees c.args.to Free c.requires.free in
    give_page_others c.args.ram.now c.set_entry.new.ram c.set_entry-2.new.ram c.args.owners.now c.set.new.self c.args.from c.args.to c.own_page-seat.result.0 c.own_page-seat.result.1 c.requires.agrees c.own_page-seat.ensures.entry c.requires.free
    (record {
      entries_are = c.set_entry.ensures.entries procs from;
      pages = λ f low. c.set_entry.ensures.pages procs f from low;
      made = c.set_entry.ensures.made;
      area_is = c.set_entry.ensures.area;
    })
    (record {
      entries_are = c.set_entry-2.ensures.entries procs to;
      pages = λ f low. c.set_entry-2.ensures.pages procs f to low;
      made = c.set_entry-2.ensures.made;
      area_is = c.set_entry-2.ensures.area;
    })
    c.set.ensures.infos c.set.ensures.extent

pub returns-clause-keeps : goal.returns-clause-keeps
returns-clause-keeps c =
    let procs : ℕ = processes (tables c.args.ram.now c.args.owners.now) in
    let from : is_pid (processes (tables c.args.ram.now c.args.owners.now)) c.args.from.pid.0 ≡ true =
    entry_process c.args.ram.now c.args.owners.now c.requires.agrees c.args.from (At (Own c.own_page-seat.result.0) c.own_page-seat.result.1) c.own_page-seat.ensures.entry in
    let to : is_pid (processes (tables c.args.ram.now c.args.owners.now)) c.args.to.pid.0 ≡ true =
    entry_process c.args.ram.now c.args.owners.now c.requires.agrees c.args.to Free c.requires.free in
    give_page_keeps c.args.ram.now c.set_entry.new.ram c.set_entry-2.new.ram c.args.owners.now c.set.new.self c.args.from c.args.to c.own_page-seat.result.0 c.own_page-seat.result.1 c.requires.agrees c.own_page-seat.ensures.entry c.requires.free
    (record {
      entries_are = c.set_entry.ensures.entries procs from;
      pages = λ f low. c.set_entry.ensures.pages procs f from low;
      made = c.set_entry.ensures.made;
      area_is = c.set_entry.ensures.area;
    })
    (record {
      entries_are = c.set_entry-2.ensures.entries procs to;
      pages = λ f low. c.set_entry-2.ensures.pages procs f to low;
      made = c.set_entry-2.ensures.made;
      area_is = c.set_entry-2.ensures.area;
    })
    c.set.ensures.infos c.set.ensures.extent

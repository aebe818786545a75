use Rattle.std.proofs.Common.{ap, true, ℕ, ◌∙◌, ◌≡◌}
use Rattle.xk_base.specs.Tables.Circle.{is_pid}
use Rattle.sv32_space.specs.declared.sides.Entry.TheVariants.{At, Free}
use Rattle.sv32_space.specs.declared.sides.Side.TheVariants.{Own}
use Rattle.sv32_space.specs.PageChanges.{with_entry}
use Rattle.sv32_space.specs.SpelledEntries.{entries}
use Rattle.loan_flags.specs.Keeping.{processes, tables}
use Rattle.loan_flags.proofs.PageChangeLemmas.{entry_process, lend_page_agrees, lend_page_keeps, lend_page_others, lend_page_steps}
use Rattle.loan_flags.proofs.page_changes.lend_page.Goals as goal

pub returns-clause-agrees : goal.returns-clause-agrees
returns-clause-agrees c =
    let procs : ℕ = processes (tables c.args.ram.now c.args.owners.now) in
    let home : is_pid (processes (tables c.args.ram.now c.args.owners.now)) c.args.home.pid.0 ≡ true =
    entry_process c.args.ram.now c.args.owners.now c.requires.agrees c.args.home (At (Own c.own_page-seat.result.0) c.own_page-seat.result.1) c.own_page-seat.ensures.entry in
    let holder : is_pid (processes (tables c.args.ram.now c.args.owners.now)) c.args.loan.holder.pid.0 ≡ true =
    entry_process c.args.ram.now c.args.owners.now c.requires.agrees c.args.loan.holder Free c.requires.free in
    lend_page_agrees c.args.ram.now c.set_entry.new.ram c.set_entry-2.new.ram c.args.owners.now c.set.new.self c.args.home c.args.loan
    c.own_page-seat.result.0 c.own_page-seat.result.1 c.requires.agrees c.requires.page c.requires.free c.own_page-seat.ensures.entry
    (record {
      entries_are = c.set_entry.ensures.entries procs home ∙ ap (λ side. with_entry (entries procs c.args.ram.now) c.args.home (At side c.own_page-seat.result.1)) c.lender_side.ensures;
      pages = λ f low. c.set_entry.ensures.pages procs f home low;
      made = c.set_entry.ensures.made;
      area_is = c.set_entry.ensures.area;
    })
    (record {
      entries_are = c.set_entry-2.ensures.entries procs holder ∙ ap (λ side. with_entry (entries procs c.set_entry.new.ram) c.args.loan.holder (At side c.own_page-seat.result.1)) c.holder_side.ensures;
      pages = λ f low. c.set_entry-2.ensures.pages procs f holder low;
      made = c.set_entry-2.ensures.made;
      area_is = c.set_entry-2.ensures.area;
    })
    c.set.ensures.infos c.set.ensures.extent

pub returns-clause-step : goal.returns-clause-step
returns-clause-step c =
    let procs : ℕ = processes (tables c.args.ram.now c.args.owners.now) in
    let home : is_pid (processes (tables c.args.ram.now c.args.owners.now)) c.args.home.pid.0 ≡ true =
    entry_process c.args.ram.now c.args.owners.now c.requires.agrees c.args.home (At (Own c.own_page-seat.result.0) c.own_page-seat.result.1) c.own_page-seat.ensures.entry in
    let holder : is_pid (processes (tables c.args.ram.now c.args.owners.now)) c.args.loan.holder.pid.0 ≡ true =
    entry_process c.args.ram.now c.args.owners.now c.requires.agrees c.args.loan.holder Free c.requires.free in
    lend_page_steps c.args.ram.now c.set_entry.new.ram c.set_entry-2.new.ram c.args.owners.now c.set.new.self c.args.home c.args.loan
    c.own_page-seat.result.0 c.own_page-seat.result.1 c.requires.agrees c.requires.page c.requires.free c.own_page-seat.ensures.entry
    (record {
      entries_are = c.set_entry.ensures.entries procs home ∙ ap (λ side. with_entry (entries procs c.args.ram.now) c.args.home (At side c.own_page-seat.result.1)) c.lender_side.ensures;
      pages = λ f low. c.set_entry.ensures.pages procs f home low;
      made = c.set_entry.ensures.made;
      area_is = c.set_entry.ensures.area;
    })
    (record {
      entries_are = c.set_entry-2.ensures.entries procs holder ∙ ap (λ side. with_entry (entries procs c.set_entry.new.ram) c.args.loan.holder (At side c.own_page-seat.result.1)) c.holder_side.ensures;
      pages = λ f low. c.set_entry-2.ensures.pages procs f holder low;
      made = c.set_entry-2.ensures.made;
      area_is = c.set_entry-2.ensures.area;
    })
    c.set.ensures.infos c.set.ensures.extent

pub returns-clause-others : goal.returns-clause-others
returns-clause-others c =
    let procs : ℕ = processes (tables c.args.ram.now c.args.owners.now) in
    let home : is_pid (processes (tables c.args.ram.now c.args.owners.now)) c.args.home.pid.0 ≡ true =
    entry_process c.args.ram.now c.args.owners.now c.requires.agrees c.args.home (At (Own c.own_page-seat.result.0) c.own_page-seat.result.1) c.own_page-seat.ensures.entry in
    let holder : is_pid (processes (tables c.args.ram.now c.args.owners.now)) c.args.loan.holder.pid.0 ≡ true =
    entry_process c.args.ram.now c.args.owners.now c.requires.agrees c.args.loan.holder Free c.requires.free in
    lend_page_others c.args.ram.now c.set_entry.new.ram c.set_entry-2.new.ram c.args.owners.now c.set.new.self c.args.home c.args.loan
    c.own_page-seat.result.0 c.own_page-seat.result.1 c.requires.agrees c.requires.page c.requires.free c.own_page-seat.ensures.entry
    (record {
      entries_are = c.set_entry.ensures.entries procs home ∙ ap (λ side. with_entry (entries procs c.args.ram.now) c.args.home (At side c.own_page-seat.result.1)) c.lender_side.ensures;
      pages = λ f low. c.set_entry.ensures.pages procs f home low;
      made = c.set_entry.ensures.made;
      area_is = c.set_entry.ensures.area;
    })
    (record {
      entries_are = c.set_entry-2.ensures.entries procs holder ∙ ap (λ side. with_entry (entries procs c.set_entry.new.ram) c.args.loan.holder (At side c.own_page-seat.result.1)) c.holder_side.ensures;
      pages = λ f low. c.set_entry-2.ensures.pages procs f holder low;
      made = c.set_entry-2.ensures.made;
      area_is = c.set_entry-2.ensures.area;
    })
    c.set.ensures.infos c.set.ensures.extent

pub returns-clause-keeps : goal.returns-clause-keeps
returns-clause-keeps c =
    let procs : ℕ = processes (tables c.args.ram.now c.args.owners.now) in
    let home : is_pid (processes (tables c.args.ram.now c.args.owners.now)) c.args.home.pid.0 ≡ true =
    entry_process c.args.ram.now c.args.owners.now c.requires.agrees c.args.home (At (Own c.own_page-seat.result.0) c.own_page-seat.result.1) c.own_page-seat.ensures.entry in
    let holder : is_pid (processes (tables c.args.ram.now c.args.owners.now)) c.args.loan.holder.pid.0 ≡ true =
    entry_process c.args.ram.now c.args.owners.now c.requires.agrees c.args.loan.holder Free c.requires.free in
    lend_page_keeps c.args.ram.now c.set_entry.new.ram c.set_entry-2.new.ram c.args.owners.now c.set.new.self c.args.home c.args.loan
    c.own_page-seat.result.0 c.own_page-seat.result.1 c.requires.agrees c.requires.page c.requires.free c.own_page-seat.ensures.entry
    (record {
      entries_are = c.set_entry.ensures.entries procs home ∙ ap (λ side. with_entry (entries procs c.args.ram.now) c.args.home (At side c.own_page-seat.result.1)) c.lender_side.ensures;
      pages = λ f low. c.set_entry.ensures.pages procs f home low;
      made = c.set_entry.ensures.made;
      area_is = c.set_entry.ensures.area;
    })
    (record {
      entries_are = c.set_entry-2.ensures.entries procs holder ∙ ap (λ side. with_entry (entries procs c.set_entry.new.ram) c.args.loan.holder (At side c.own_page-seat.result.1)) c.holder_side.ensures;
      pages = λ f low. c.set_entry-2.ensures.pages procs f holder low;
      made = c.set_entry-2.ensures.made;
      area_is = c.set_entry-2.ensures.area;
    })
    c.set.ensures.infos c.set.ensures.extent

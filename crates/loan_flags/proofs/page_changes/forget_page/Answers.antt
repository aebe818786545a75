use Rattle.std.proofs.Common.{None, ap, true, ℕ, ◌∙◌, ◌≡◌}
use Rattle.xk_base.specs.Tables.Circle.{is_pid}
use Rattle.phys_pages.specs.Owners.{infos}
use Rattle.sv32_space.specs.Agreement.{holder_side, seat_in}
use Rattle.sv32_space.specs.PageChanges.{with_info}
use Rattle.sv32_space.specs.declared.sides.Entry.TheVariants.{At}
use Rattle.loan_flags.specs.Keeping.{entries_of, processes, tables}
use Rattle.loan_flags.proofs.PageChangeLemmas.{entry_process, forget_page_agrees, forget_page_infos, forget_page_keeps, forget_page_others, forget_page_steps}
use Rattle.loan_flags.proofs.page_changes.forget_page.Goals as goal

pub returns-clause-agrees : goal.returns-clause-agrees
returns-clause-agrees c =
    let procs : ℕ = processes (tables c.args.ram.now c.args.owners.now) in
    let holder : is_pid (processes (tables c.args.ram.now c.args.owners.now)) c.args.loan.holder.pid.0 ≡ true =
    entry_process c.args.ram.now c.args.owners.now c.requires.agrees c.args.loan.holder (At (holder_side c.args.loan.kind) (seat_in (entries_of (tables c.args.ram.now c.args.owners.now) c.args.loan.holder))) c.requires.orphan.held in
    forget_page_agrees c.args.ram.now c.set_entry.new.ram c.args.owners.now c.set.new.self c.args.loan c.requires.agrees c.requires.orphan
    (record {
      entries_are = c.set_entry.ensures.entries procs holder;
      pages = λ f low. c.set_entry.ensures.pages procs f holder low;
      made = c.set_entry.ensures.made;
      area_is = c.set_entry.ensures.area;
    })
    (c.set.ensures.infos ∙ ap (λ s. with_info (infos c.args.owners.now) s None) c.seat_at-seat.ensures.seat) c.set.ensures.extent

pub returns-clause-step : goal.returns-clause-step
returns-clause-step c =
    let procs : ℕ = processes (tables c.args.ram.now c.args.owners.now) in
    let holder : is_pid (processes (tables c.args.ram.now c.args.owners.now)) c.args.loan.holder.pid.0 ≡ true =
    entry_process c.args.ram.now c.args.owners.now c.requires.agrees c.args.loan.holder (At (holder_side c.args.loan.kind) (seat_in (entries_of (tables c.args.ram.now c.args.owners.now) c.args.loan.holder))) c.requires.orphan.held in
    forget_page_steps c.args.ram.now c.set_entry.new.ram c.args.owners.now c.set.new.self c.args.loan c.requires.agrees c.requires.orphan
    (record {
      entries_are = c.set_entry.ensures.entries procs holder;
      pages = λ f low. c.set_entry.ensures.pages procs f holder low;
      made = c.set_entry.ensures.made;
      area_is = c.set_entry.ensures.area;
    })
    (c.set.ensures.infos ∙ ap (λ s. with_info (infos c.args.owners.now) s None) c.seat_at-seat.ensures.seat) c.set.ensures.extent

pub returns-clause-others : goal.returns-clause-others
returns-clause-others c =
    let procs : ℕ = processes (tables c.args.ram.now c.args.owners.now) in
    let holder : is_pid (processes (tables c.args.ram.now c.args.owners.now)) c.args.loan.holder.pid.0 ≡ true =
    entry_process c.args.ram.now c.args.owners.now c.requires.agrees c.args.loan.holder (At (holder_side c.args.loan.kind) (seat_in (entries_of (tables c.args.ram.now c.args.owners.now) c.args.loan.holder))) c.requires.orphan.held in
    forget_page_others c.args.ram.now c.set_entry.new.ram c.args.owners.now c.set.new.self c.args.loan c.requires.agrees c.requires.orphan
    (record {
      entries_are = c.set_entry.ensures.entries procs holder;
      pages = λ f low. c.set_entry.ensures.pages procs f holder low;
      made = c.set_entry.ensures.made;
      area_is = c.set_entry.ensures.area;
    })
    (c.set.ensures.infos ∙ ap (λ s. with_info (infos c.args.owners.now) s None) c.seat_at-seat.ensures.seat) c.set.ensures.extent

pub returns-clause-infos : goal.returns-clause-infos
returns-clause-infos c =
    let procs : ℕ = processes (tables c.args.ram.now c.args.owners.now) in
    let holder : is_pid (processes (tables c.args.ram.now c.args.owners.now)) c.args.loan.holder.pid.0 ≡ true =
    entry_process c.args.ram.now c.args.owners.now c.requires.agrees c.args.loan.holder (At (holder_side c.args.loan.kind) (seat_in (entries_of (tables c.args.ram.now c.args.owners.now) c.args.loan.holder))) c.requires.orphan.held in
    forget_page_infos c.args.ram.now c.set_entry.new.ram c.args.owners.now c.set.new.self c.args.loan c.requires.agrees c.requires.orphan
    (record {
      entries_are = c.set_entry.ensures.entries procs holder;
      pages = λ f low. c.set_entry.ensures.pages procs f holder low;
      made = c.set_entry.ensures.made;
      area_is = c.set_entry.ensures.area;
    })
    (c.set.ensures.infos ∙ ap (λ s. with_info (infos c.args.owners.now) s None) c.seat_at-seat.ensures.seat) c.set.ensures.extent

pub returns-clause-keeps : goal.returns-clause-keeps
returns-clause-keeps c =
    let procs : ℕ = processes (tables c.args.ram.now c.args.owners.now) in
    let holder : is_pid (processes (tables c.args.ram.now c.args.owners.now)) c.args.loan.holder.pid.0 ≡ true =
    entry_process c.args.ram.now c.args.owners.now c.requires.agrees c.args.loan.holder (At (holder_side c.args.loan.kind) (seat_in (entries_of (tables c.args.ram.now c.args.owners.now) c.args.loan.holder))) c.requires.orphan.held in
    forget_page_keeps c.args.ram.now c.set_entry.new.ram c.args.owners.now c.set.new.self c.args.loan c.requires.agrees c.requires.orphan
    (record {
      entries_are = c.set_entry.ensures.entries procs holder;
      pages = λ f low. c.set_entry.ensures.pages procs f holder low;
      made = c.set_entry.ensures.made;
      area_is = c.set_entry.ensures.area;
    })
    (c.set.ensures.infos ∙ ap (λ s. with_info (infos c.args.owners.now) s None) c.seat_at-seat.ensures.seat) c.set.ensures.extent

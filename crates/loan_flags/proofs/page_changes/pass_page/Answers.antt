use Rattle.std.proofs.Common.{Some, ap, true, ℕ, ◌∙◌, ◌≡◌}
use Rattle.xk_base.specs.Tables.Circle.{is_pid}
use Rattle.phys_pages.specs.Owners.{infos}
use Rattle.sv32_space.specs.Agreement.{holder_side, on_loan, seat_in}
use Rattle.sv32_space.specs.PageChanges.{held_at, with_entry, with_info}
use Rattle.sv32_space.specs.SpelledEntries.{entries}
use Rattle.sv32_space.specs.declared.sides.Entry.TheVariants.{At, Free}
use Rattle.loan_flags.specs.Keeping.{entries_of, processes, tables}
use Rattle.loan_flags.proofs.PageChangeLemmas.{entry_process, pass_page_agrees, pass_page_infos, pass_page_keeps, pass_page_others, pass_page_steps}
use Rattle.loan_flags.proofs.page_changes.pass_page.Goals as goal

pub returns-clause-agrees : goal.returns-clause-agrees
returns-clause-agrees c =
    let procs : ℕ = processes (tables c.args.ram.now c.args.owners.now) in
    let to : is_pid (processes (tables c.args.ram.now c.args.owners.now)) c.args.to.pid.0 ≡ true =
    entry_process c.args.ram.now c.args.owners.now c.requires.agrees c.args.to Free c.requires.free in
    let holder : is_pid (processes (tables c.args.ram.now c.args.owners.now)) c.args.loan.holder.pid.0 ≡ true =
    entry_process c.args.ram.now c.args.owners.now c.requires.agrees c.args.loan.holder (At (holder_side c.args.loan.kind) (seat_in (entries_of (tables c.args.ram.now c.args.owners.now) c.args.home))) c.requires.lent.held in
    pass_page_agrees c.args.ram.now c.set_entry.new.ram c.set_entry-2.new.ram c.args.owners.now c.set.new.self c.args.home c.args.loan c.args.to c.requires.agrees c.requires.lent c.requires.free
    (record {
      entries_are = c.set_entry.ensures.entries procs holder;
      pages = λ f low. c.set_entry.ensures.pages procs f holder low;
      made = c.set_entry.ensures.made;
      area_is = c.set_entry.ensures.area;
    })
    (record {
      entries_are = c.set_entry-2.ensures.entries procs to ∙ (λ i. with_entry (entries procs c.set_entry.new.ram) c.args.to (At (c.holder_side.ensures i) (c.lent_page-seat.ensures.seat i)));
      pages = λ f low. c.set_entry-2.ensures.pages procs f to low;
      made = c.set_entry-2.ensures.made;
      area_is = c.set_entry-2.ensures.area;
    })
    (c.set.ensures.infos ∙ ap (λ s. with_info (infos c.args.owners.now) s (Some (on_loan (Some c.args.home) (held_at c.args.to c.args.loan)))) c.lent_page-seat.ensures.seat) c.set.ensures.extent

pub returns-clause-step : goal.returns-clause-step
returns-clause-step c =
    let procs : ℕ = processes (tables c.args.ram.now c.args.owners.now) in
    let to : is_pid (processes (tables c.args.ram.now c.args.owners.now)) c.args.to.pid.0 ≡ true =
    entry_process c.args.ram.now c.args.owners.now c.requires.agrees c.args.to Free c.requires.free in
    let holder : is_pid (processes (tables c.args.ram.now c.args.owners.now)) c.args.loan.holder.pid.0 ≡ true =
    entry_process c.args.ram.now c.args.owners.now c.requires.agrees c.args.loan.holder (At (holder_side c.args.loan.kind) (seat_in (entries_of (tables c.args.ram.now c.args.owners.now) c.args.home))) c.requires.lent.held in
    pass_page_steps c.args.ram.now c.set_entry.new.ram c.set_entry-2.new.ram c.args.owners.now c.set.new.self c.args.home c.args.loan c.args.to c.requires.agrees c.requires.lent c.requires.free
    (record {
      entries_are = c.set_entry.ensures.entries procs holder;
      pages = λ f low. c.set_entry.ensures.pages procs f holder low;
      made = c.set_entry.ensures.made;
      area_is = c.set_entry.ensures.area;
    })
    (record {
      entries_are = c.set_entry-2.ensures.entries procs to ∙ (λ i. with_entry (entries procs c.set_entry.new.ram) c.args.to (At (c.holder_side.ensures i) (c.lent_page-seat.ensures.seat i)));
      pages = λ f low. c.set_entry-2.ensures.pages procs f to low;
      made = c.set_entry-2.ensures.made;
      area_is = c.set_entry-2.ensures.area;
    })
    (c.set.ensures.infos ∙ ap (λ s. with_info (infos c.args.owners.now) s (Some (on_loan (Some c.args.home) (held_at c.args.to c.args.loan)))) c.lent_page-seat.ensures.seat) c.set.ensures.extent

pub returns-clause-others : goal.returns-clause-others
returns-clause-others c =
    let procs : ℕ = processes (tables c.args.ram.now c.args.owners.now) in
    let to : is_pid (processes (tables c.args.ram.now c.args.owners.now)) c.args.to.pid.0 ≡ true =
    entry_process c.args.ram.now c.args.owners.now c.requires.agrees c.args.to Free c.requires.free in
    let holder : is_pid (processes (tables c.args.ram.now c.args.owners.now)) c.args.loan.holder.pid.0 ≡ true =
    entry_process c.args.ram.now c.args.owners.now c.requires.agrees c.args.loan.holder (At (holder_side c.args.loan.kind) (seat_in (entries_of (tables c.args.ram.now c.args.owners.now) c.args.home))) c.requires.lent.held in
    pass_page_others c.args.ram.now c.set_entry.new.ram c.set_entry-2.new.ram c.args.owners.now c.set.new.self c.args.home c.args.loan c.args.to c.requires.agrees c.requires.lent c.requires.free
    (record {
      entries_are = c.set_entry.ensures.entries procs holder;
      pages = λ f low. c.set_entry.ensures.pages procs f holder low;
      made = c.set_entry.ensures.made;
      area_is = c.set_entry.ensures.area;
    })
    (record {
      entries_are = c.set_entry-2.ensures.entries procs to ∙ (λ i. with_entry (entries procs c.set_entry.new.ram) c.args.to (At (c.holder_side.ensures i) (c.lent_page-seat.ensures.seat i)));
      pages = λ f low. c.set_entry-2.ensures.pages procs f to low;
      made = c.set_entry-2.ensures.made;
      area_is = c.set_entry-2.ensures.area;
    })
    (c.set.ensures.infos ∙ ap (λ s. with_info (infos c.args.owners.now) s (Some (on_loan (Some c.args.home) (held_at c.args.to c.args.loan)))) c.lent_page-seat.ensures.seat) c.set.ensures.extent

pub returns-clause-infos : goal.returns-clause-infos
returns-clause-infos c =
    let procs : ℕ = processes (tables c.args.ram.now c.args.owners.now) in
    let to : is_pid (processes (tables c.args.ram.now c.args.owners.now)) c.args.to.pid.0 ≡ true =
    entry_process c.args.ram.now c.args.owners.now c.requires.agrees c.args.to Free c.requires.free in
    let holder : is_pid (processes (tables c.args.ram.now c.args.owners.now)) c.args.loan.holder.pid.0 ≡ true =
    entry_process c.args.ram.now c.args.owners.now c.requires.agrees c.args.loan.holder (At (holder_side c.args.loan.kind) (seat_in (entries_of (tables c.args.ram.now c.args.owners.now) c.args.home))) c.requires.lent.held in
    pass_page_infos c.args.ram.now c.set_entry.new.ram c.set_entry-2.new.ram c.args.owners.now c.set.new.self c.args.home c.args.loan c.args.to c.requires.agrees c.requires.lent c.requires.free
    (record {
      entries_are = c.set_entry.ensures.entries procs holder;
      pages = λ f low. c.set_entry.ensures.pages procs f holder low;
      made = c.set_entry.ensures.made;
      area_is = c.set_entry.ensures.area;
    })
    (record {
      entries_are = c.set_entry-2.ensures.entries procs to ∙ (λ i. with_entry (entries procs c.set_entry.new.ram) c.args.to (At (c.holder_side.ensures i) (c.lent_page-seat.ensures.seat i)));
      pages = λ f low. c.set_entry-2.ensures.pages procs f to low;
      made = c.set_entry-2.ensures.made;
      area_is = c.set_entry-2.ensures.area;
    })
    (c.set.ensures.infos ∙ ap (λ s. with_info (infos c.args.owners.now) s (Some (on_loan (Some c.args.home) (held_at c.args.to c.args.loan)))) c.lent_page-seat.ensures.seat) c.set.ensures.extent

pub returns-clause-keeps : goal.returns-clause-keeps
returns-clause-keeps c =
    let procs : ℕ = processes (tables c.args.ram.now c.args.owners.now) in
    let to : is_pid (processes (tables c.args.ram.now c.args.owners.now)) c.args.to.pid.0 ≡ true =
    entry_process c.args.ram.now c.args.owners.now c.requires.agrees c.args.to Free c.requires.free in
    let holder : is_pid (processes (tables c.args.ram.now c.args.owners.now)) c.args.loan.holder.pid.0 ≡ true =
    entry_process c.args.ram.now c.args.owners.now c.requires.agrees c.args.loan.holder (At (holder_side c.args.loan.kind) (seat_in (entries_of (tables c.args.ram.now c.args.owners.now) c.args.home))) c.requires.lent.held in
    pass_page_keeps c.args.ram.now c.set_entry.new.ram c.set_entry-2.new.ram c.args.owners.now c.set.new.self c.args.home c.args.loan c.args.to c.requires.agrees c.requires.lent c.requires.free
    (record {
      entries_are = c.set_entry.ensures.entries procs holder;
      pages = λ f low. c.set_entry.ensures.pages procs f holder low;
      made = c.set_entry.ensures.made;
      area_is = c.set_entry.ensures.area;
    })
    (record {
      entries_are = c.set_entry-2.ensures.entries procs to ∙ (λ i. with_entry (entries procs c.set_entry.new.ram) c.args.to (At (c.holder_side.ensures i) (c.lent_page-seat.ensures.seat i)));
      pages = λ f low. c.set_entry-2.ensures.pages procs f to low;
      made = c.set_entry-2.ensures.made;
      area_is = c.set_entry-2.ensures.area;
    })
    (c.set.ensures.infos ∙ ap (λ s. with_info (infos c.args.owners.now) s (Some (on_loan (Some c.args.home) (held_at c.args.to c.args.loan)))) c.lent_page-seat.ensures.seat) c.set.ensures.extent

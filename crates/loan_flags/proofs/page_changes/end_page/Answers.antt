use Rattle.std.proofs.Common.{Some, ap, true, ℕ, ◌∙◌, ◌≡◌}
use Rattle.xk_base.specs.Tables.Circle.{is_pid}
use Rattle.phys_pages.specs.Owners.{infos}
use Rattle.sv32_space.specs.Agreement.{holder_side, lender_side, owned_by, right_in, seat_in}
use Rattle.sv32_space.specs.PageChanges.{with_entry, with_info}
use Rattle.sv32_space.specs.SpelledEntries.{entries}
use Rattle.sv32_space.specs.declared.sides.Entry.TheVariants.{At}
use Rattle.sv32_space.specs.declared.sides.Side.TheVariants.{Own}
use Rattle.loan_flags.specs.Keeping.{entries_of, processes, tables}
use Rattle.loan_flags.proofs.PageChangeLemmas.{end_page_agrees, end_page_infos, end_page_keeps, end_page_others, end_page_steps, entry_process}
use Rattle.loan_flags.proofs.page_changes.end_page.Goals as goal

pub returns-clause-agrees : goal.returns-clause-agrees
returns-clause-agrees c =
    let procs : ℕ = processes (tables c.args.ram.now c.args.owners.now) in
    let home : is_pid (processes (tables c.args.ram.now c.args.owners.now)) c.args.home.pid.0 ≡ true =
    entry_process c.args.ram.now c.args.owners.now c.requires.agrees c.args.home (At (lender_side c.args.loan.kind (right_in (entries_of (tables c.args.ram.now c.args.owners.now) c.args.home))) (seat_in (entries_of (tables c.args.ram.now c.args.owners.now) c.args.home))) c.requires.lent.entry in
    let holder : is_pid (processes (tables c.args.ram.now c.args.owners.now)) c.args.loan.holder.pid.0 ≡ true =
    entry_process c.args.ram.now c.args.owners.now c.requires.agrees c.args.loan.holder (At (holder_side c.args.loan.kind) (seat_in (entries_of (tables c.args.ram.now c.args.owners.now) c.args.home))) c.requires.lent.held in
    end_page_agrees c.args.ram.now c.set_entry.new.ram c.set_entry-2.new.ram c.args.owners.now c.set.new.self c.args.home c.args.loan c.requires.agrees c.requires.lent
    (record {
      entries_are = c.set_entry.ensures.entries procs home ∙ (λ i. with_entry (entries procs c.args.ram.now) c.args.home (At (Own (c.lent_page-seat.ensures.right i)) (c.lent_page-seat.ensures.seat i)));
      pages = λ f low. c.set_entry.ensures.pages procs f home low;
      made = c.set_entry.ensures.made;
      area_is = c.set_entry.ensures.area;
    })
    (record {
      entries_are = c.set_entry-2.ensures.entries procs holder;
      pages = λ f low. c.set_entry-2.ensures.pages procs f holder low;
      made = c.set_entry-2.ensures.made;
      area_is = c.set_entry-2.ensures.area;
    })
    (c.set.ensures.infos ∙ ap (λ s. with_info (infos c.args.owners.now) s (Some (owned_by c.args.home))) c.lent_page-seat.ensures.seat) c.set.ensures.extent

pub returns-clause-step : goal.returns-clause-step
returns-clause-step c =
    let procs : ℕ = processes (tables c.args.ram.now c.args.owners.now) in
    let home : is_pid (processes (tables c.args.ram.now c.args.owners.now)) c.args.home.pid.0 ≡ true =
    entry_process c.args.ram.now c.args.owners.now c.requires.agrees c.args.home (At (lender_side c.args.loan.kind (right_in (entries_of (tables c.args.ram.now c.args.owners.now) c.args.home))) (seat_in (entries_of (tables c.args.ram.now c.args.owners.now) c.args.home))) c.requires.lent.entry in
    let holder : is_pid (processes (tables c.args.ram.now c.args.owners.now)) c.args.loan.holder.pid.0 ≡ true =
    entry_process c.args.ram.now c.args.owners.now c.requires.agrees c.args.loan.holder (At (holder_side c.args.loan.kind) (seat_in (entries_of (tables c.args.ram.now c.args.owners.now) c.args.home))) c.requires.lent.held in
    end_page_steps c.args.ram.now c.set_entry.new.ram c.set_entry-2.new.ram c.args.owners.now c.set.new.self c.args.home c.args.loan c.requires.agrees c.requires.lent
    (record {
      entries_are = c.set_entry.ensures.entries procs home ∙ (λ i. with_entry (entries procs c.args.ram.now) c.args.home (At (Own (c.lent_page-seat.ensures.right i)) (c.lent_page-seat.ensures.seat i)));
      pages = λ f low. c.set_entry.ensures.pages procs f home low;
      made = c.set_entry.ensures.made;
      area_is = c.set_entry.ensures.area;
    })
    (record {
      entries_are = c.set_entry-2.ensures.entries procs holder;
      pages = λ f low. c.set_entry-2.ensures.pages procs f holder low;
      made = c.set_entry-2.ensures.made;
      area_is = c.set_entry-2.ensures.area;
    })
    (c.set.ensures.infos ∙ ap (λ s. with_info (infos c.args.owners.now) s (Some (owned_by c.args.home))) c.lent_page-seat.ensures.seat) c.set.ensures.extent

pub returns-clause-others : goal.returns-clause-others
returns-clause-others c =
    let procs : ℕ = processes (tables c.args.ram.now c.args.owners.now) in
    let home : is_pid (processes (tables c.args.ram.now c.args.owners.now)) c.args.home.pid.0 ≡ true =
    entry_process c.args.ram.now c.args.owners.now c.requires.agrees c.args.home (At (lender_side c.args.loan.kind (right_in (entries_of (tables c.args.ram.now c.args.owners.now) c.args.home))) (seat_in (entries_of (tables c.args.ram.now c.args.owners.now) c.args.home))) c.requires.lent.entry in
    let holder : is_pid (processes (tables c.args.ram.now c.args.owners.now)) c.args.loan.holder.pid.0 ≡ true =
    entry_process c.args.ram.now c.args.owners.now c.requires.agrees c.args.loan.holder (At (holder_side c.args.loan.kind) (seat_in (entries_of (tables c.args.ram.now c.args.owners.now) c.args.home))) c.requires.lent.held in
    end_page_others c.args.ram.now c.set_entry.new.ram c.set_entry-2.new.ram c.args.owners.now c.set.new.self c.args.home c.args.loan c.requires.agrees c.requires.lent
    (record {
      entries_are = c.set_entry.ensures.entries procs home ∙ (λ i. with_entry (entries procs c.args.ram.now) c.args.home (At (Own (c.lent_page-seat.ensures.right i)) (c.lent_page-seat.ensures.seat i)));
      pages = λ f low. c.set_entry.ensures.pages procs f home low;
      made = c.set_entry.ensures.made;
      area_is = c.set_entry.ensures.area;
    })
    (record {
      entries_are = c.set_entry-2.ensures.entries procs holder;
      pages = λ f low. c.set_entry-2.ensures.pages procs f holder low;
      made = c.set_entry-2.ensures.made;
      area_is = c.set_entry-2.ensures.area;
    })
    (c.set.ensures.infos ∙ ap (λ s. with_info (infos c.args.owners.now) s (Some (owned_by c.args.home))) c.lent_page-seat.ensures.seat) c.set.ensures.extent

pub returns-clause-infos : goal.returns-clause-infos
returns-clause-infos c =
    let procs : ℕ = processes (tables c.args.ram.now c.args.owners.now) in
    let home : is_pid (processes (tables c.args.ram.now c.args.owners.now)) c.args.home.pid.0 ≡ true =
    entry_process c.args.ram.now c.args.owners.now c.requires.agrees c.args.home (At (lender_side c.args.loan.kind (right_in (entries_of (tables c.args.ram.now c.args.owners.now) c.args.home))) (seat_in (entries_of (tables c.args.ram.now c.args.owners.now) c.args.home))) c.requires.lent.entry in
    let holder : is_pid (processes (tables c.args.ram.now c.args.owners.now)) c.args.loan.holder.pid.0 ≡ true =
    entry_process c.args.ram.now c.args.owners.now c.requires.agrees c.args.loan.holder (At (holder_side c.args.loan.kind) (seat_in (entries_of (tables c.args.ram.now c.args.owners.now) c.args.home))) c.requires.lent.held in
    end_page_infos c.args.ram.now c.set_entry.new.ram c.set_entry-2.new.ram c.args.owners.now c.set.new.self c.args.home c.args.loan c.requires.agrees c.requires.lent
    (record {
      entries_are = c.set_entry.ensures.entries procs home ∙ (λ i. with_entry (entries procs c.args.ram.now) c.args.home (At (Own (c.lent_page-seat.ensures.right i)) (c.lent_page-seat.ensures.seat i)));
      pages = λ f low. c.set_entry.ensures.pages procs f home low;
      made = c.set_entry.ensures.made;
      area_is = c.set_entry.ensures.area;
    })
    (record {
      entries_are = c.set_entry-2.ensures.entries procs holder;
      pages = λ f low. c.set_entry-2.ensures.pages procs f holder low;
      made = c.set_entry-2.ensures.made;
      area_is = c.set_entry-2.ensures.area;
    })
    (c.set.ensures.infos ∙ ap (λ s. with_info (infos c.args.owners.now) s (Some (owned_by c.args.home))) c.lent_page-seat.ensures.seat) c.set.ensures.extent

pub returns-clause-keeps : goal.returns-clause-keeps
returns-clause-keeps c =
    let procs : ℕ = processes (tables c.args.ram.now c.args.owners.now) in
    let home : is_pid (processes (tables c.args.ram.now c.args.owners.now)) c.args.home.pid.0 ≡ true =
    entry_process c.args.ram.now c.args.owners.now c.requires.agrees c.args.home (At (lender_side c.args.loan.kind (right_in (entries_of (tables c.args.ram.now c.args.owners.now) c.args.home))) (seat_in (entries_of (tables c.args.ram.now c.args.owners.now) c.args.home))) c.requires.lent.entry in
    let holder : is_pid (processes (tables c.args.ram.now c.args.owners.now)) c.args.loan.holder.pid.0 ≡ true =
    entry_process c.args.ram.now c.args.owners.now c.requires.agrees c.args.loan.holder (At (holder_side c.args.loan.kind) (seat_in (entries_of (tables c.args.ram.now c.args.owners.now) c.args.home))) c.requires.lent.held in
    end_page_keeps c.args.ram.now c.set_entry.new.ram c.set_entry-2.new.ram c.args.owners.now c.set.new.self c.args.home c.args.loan c.requires.agrees c.requires.lent
    (record {
      entries_are = c.set_entry.ensures.entries procs home ∙ (λ i. with_entry (entries procs c.args.ram.now) c.args.home (At (Own (c.lent_page-seat.ensures.right i)) (c.lent_page-seat.ensures.seat i)));
      pages = λ f low. c.set_entry.ensures.pages procs f home low;
      made = c.set_entry.ensures.made;
      area_is = c.set_entry.ensures.area;
    })
    (record {
      entries_are = c.set_entry-2.ensures.entries procs holder;
      pages = λ f low. c.set_entry-2.ensures.pages procs f holder low;
      made = c.set_entry-2.ensures.made;
      area_is = c.set_entry-2.ensures.area;
    })
    (c.set.ensures.infos ∙ ap (λ s. with_info (infos c.args.owners.now) s (Some (owned_by c.args.home))) c.lent_page-seat.ensures.seat) c.set.ensures.extent

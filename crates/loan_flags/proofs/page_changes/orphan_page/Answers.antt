use Rattle.std.proofs.Common.{None, Some, ap, true, ℕ, ◌∙◌, ◌≡◌}
use Rattle.xk_base.specs.Tables.Circle.{is_pid}
use Rattle.phys_pages.specs.Owners.{infos}
use Rattle.sv32_space.specs.Agreement.{lender_side, on_loan, right_in, seat_in}
use Rattle.sv32_space.specs.PageChanges.{with_info}
use Rattle.sv32_space.specs.declared.sides.Entry.TheVariants.{At}
use Rattle.loan_flags.specs.Keeping.{entries_of, processes, tables}
use Rattle.loan_flags.proofs.PageChangeLemmas.{entry_process, orphan_page_agrees, orphan_page_infos, orphan_page_keeps, orphan_page_others, orphan_page_steps}
use Rattle.loan_flags.proofs.page_changes.orphan_page.Goals as goal

pub returns-clause-agrees : goal.returns-clause-agrees
returns-clause-agrees c =
    let procs : ℕ = processes (tables c.args.ram.now c.args.owners.now) in
    let home : is_pid (processes (tables c.args.ram.now c.args.owners.now)) c.args.home.pid.0 ≡ true =
    entry_process c.args.ram.now c.args.owners.now c.requires.agrees c.args.home (At (lender_side c.args.loan.kind (right_in (entries_of (tables c.args.ram.now c.args.owners.now) c.args.home))) (seat_in (entries_of (tables c.args.ram.now c.args.owners.now) c.args.home))) c.requires.lent.entry in
    orphan_page_agrees c.args.ram.now c.set_entry.new.ram c.args.owners.now c.set.new.self c.args.home c.args.loan c.requires.agrees c.requires.lent
    (record {
      entries_are = c.set_entry.ensures.entries procs home;
      pages = λ f low. c.set_entry.ensures.pages procs f home low;
      made = c.set_entry.ensures.made;
      area_is = c.set_entry.ensures.area;
    })
    (c.set.ensures.infos ∙ ap (λ s. with_info (infos c.args.owners.now) s (Some (on_loan None c.args.loan))) c.lent_page-seat.ensures.seat) c.set.ensures.extent

pub returns-clause-step : goal.returns-clause-step
returns-clause-step c =
    let procs : ℕ = processes (tables c.args.ram.now c.args.owners.now) in
    let home : is_pid (processes (tables c.args.ram.now c.args.owners.now)) c.args.home.pid.0 ≡ true =
    entry_process c.args.ram.now c.args.owners.now c.requires.agrees c.args.home (At (lender_side c.args.loan.kind (right_in (entries_of (tables c.args.ram.now c.args.owners.now) c.args.home))) (seat_in (entries_of (tables c.args.ram.now c.args.owners.now) c.args.home))) c.requires.lent.entry in
    orphan_page_steps c.args.ram.now c.set_entry.new.ram c.args.owners.now c.set.new.self c.args.home c.args.loan c.requires.agrees c.requires.lent
    (record {
      entries_are = c.set_entry.ensures.entries procs home;
      pages = λ f low. c.set_entry.ensures.pages procs f home low;
      made = c.set_entry.ensures.made;
      area_is = c.set_entry.ensures.area;
    })
    (c.set.ensures.infos ∙ ap (λ s. with_info (infos c.args.owners.now) s (Some (on_loan None c.args.loan))) c.lent_page-seat.ensures.seat) c.set.ensures.extent

pub returns-clause-others : goal.returns-clause-others
returns-clause-others c =
    let procs : ℕ = processes (tables c.args.ram.now c.args.owners.now) in
    let home : is_pid (processes (tables c.args.ram.now c.args.owners.now)) c.args.home.pid.0 ≡ true =
    entry_process c.args.ram.now c.args.owners.now c.requires.agrees c.args.home (At (lender_side c.args.loan.kind (right_in (entries_of (tables c.args.ram.now c.args.owners.now) c.args.home))) (seat_in (entries_of (tables c.args.ram.now c.args.owners.now) c.args.home))) c.requires.lent.entry in
    orphan_page_others c.args.ram.now c.set_entry.new.ram c.args.owners.now c.set.new.self c.args.home c.args.loan c.requires.agrees c.requires.lent
    (record {
      entries_are = c.set_entry.ensures.entries procs home;
      pages = λ f low. c.set_entry.ensures.pages procs f home low;
      made = c.set_entry.ensures.made;
      area_is = c.set_entry.ensures.area;
    })
    (c.set.ensures.infos ∙ ap (λ s. with_info (infos c.args.owners.now) s (Some (on_loan None c.args.loan))) c.lent_page-seat.ensures.seat) c.set.ensures.extent

pub returns-clause-infos : goal.returns-clause-infos
returns-clause-infos c =
    let procs : ℕ = processes (tables c.args.ram.now c.args.owners.now) in
    let home : is_pid (processes (tables c.args.ram.now c.args.owners.now)) c.args.home.pid.0 ≡ true =
    entry_process c.args.ram.now c.args.owners.now c.requires.agrees c.args.home (At (lender_side c.args.loan.kind (right_in (entries_of (tables c.args.ram.now c.args.owners.now) c.args.home))) (seat_in (entries_of (tables c.args.ram.now c.args.owners.now) c.args.home))) c.requires.lent.entry in
    orphan_page_infos c.args.ram.now c.set_entry.new.ram c.args.owners.now c.set.new.self c.args.home c.args.loan c.requires.agrees c.requires.lent
    (record {
      entries_are = c.set_entry.ensures.entries procs home;
      pages = λ f low. c.set_entry.ensures.pages procs f home low;
      made = c.set_entry.ensures.made;
      area_is = c.set_entry.ensures.area;
    })
    (c.set.ensures.infos ∙ ap (λ s. with_info (infos c.args.owners.now) s (Some (on_loan None c.args.loan))) c.lent_page-seat.ensures.seat) c.set.ensures.extent

pub returns-clause-keeps : goal.returns-clause-keeps
returns-clause-keeps c =
    let procs : ℕ = processes (tables c.args.ram.now c.args.owners.now) in
    let home : is_pid (processes (tables c.args.ram.now c.args.owners.now)) c.args.home.pid.0 ≡ true =
    entry_process c.args.ram.now c.args.owners.now c.requires.agrees c.args.home (At (lender_side c.args.loan.kind (right_in (entries_of (tables c.args.ram.now c.args.owners.now) c.args.home))) (seat_in (entries_of (tables c.args.ram.now c.args.owners.now) c.args.home))) c.requires.lent.entry in
    orphan_page_keeps c.args.ram.now c.set_entry.new.ram c.args.owners.now c.set.new.self c.args.home c.args.loan c.requires.agrees c.requires.lent
    (record {
      entries_are = c.set_entry.ensures.entries procs home;
      pages = λ f low. c.set_entry.ensures.pages procs f home low;
      made = c.set_entry.ensures.made;
      area_is = c.set_entry.ensures.area;
    })
    (c.set.ensures.infos ∙ ap (λ s. with_info (infos c.args.owners.now) s (Some (on_loan None c.args.loan))) c.lent_page-seat.ensures.seat) c.set.ensures.extent

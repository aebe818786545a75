use Rattle.std.proofs.Common.{rules, true, false, ◌∙◌, ◌≡◌, None, Some}
use Rattle.phys_pages.specs.Owners.{extent, infos}
use Rattle.sv32_space.specs.Agreement.{procs_of}
use Rattle.sv32_space.specs.declared.sides.Entry.TheVariants.{Free}
use Rattle.loan_flags.specs.Keeping.{entries_of, tables}
use Rattle.kernel_tests.proofs.SmallSpaceLemmas.{home_process, page_agrees}
use Rattle.kernel_tests.proofs.small_space.put.Goals as goal

pub invariant_of-s : goal.invariant_of-s
invariant_of-s c =
    let owners = c.s.inside.owners in
    let process = home_process owners c.place-home.result c.args.vpn c.s.invariant.1 c.place-home.ensures in
    let free : entries_of (tables c.s.inside.ram owners) c.place-home.result ≡ Some Free =
    c.entry_at.ensures.is (procs_of (extent owners)) process ∙ search rules in
    let empty : infos owners c.args.seat ≡ None = search rules in (
      page_agrees c.s.inside.ram c.set_entry.new.ram owners c.set.new.self c.place-home.result (record { w = true; x = false }) c.args.seat c.s.invariant.0
          free empty
          (record {
            entries_are = c.set_entry.ensures.entries (procs_of (extent owners)) process;
            pages = λ f. c.set_entry.ensures.pages (procs_of (extent owners)) f process;
            made = c.set_entry.ensures.made;
            area_is = c.set_entry.ensures.area;
          })
          c.set.ensures.infos c.set.ensures.extent,
      c.set.ensures.extent ∙ c.s.invariant.1,
    )

use Rattle.std.proofs.Common.{rules, sym, refl, ◌∙◌, ◌≡◌, Some}
use Rattle.sv32_space.specs.SpelledEntries.{entries}
use Rattle.xk_base.specs.declared.windows.Window.TheVariants.{Message}
use Rattle.loan_flags.specs.FreeRuns.{least_free}
use Rattle.kernel_tests.proofs.SmallSpaceLemmas.{places_free, places_lie, small_made}
use Rattle.kernel_tests.proofs.small_space.free_places.Goals as goal

pub free_run-requires-clause-made : goal.free_run-requires-clause-made
free_run-requires-clause-made c = small_made c.s.inside.ram c.s.inside.owners c.s.invariant.0 c.s.invariant.1

pub returns-clause-free : goal.returns-clause-free
returns-clause-free c =
    let least : least_free (entries 1 c.s.inside.ram) (record { 0 = 2 }) Message 2 ≡ Some c.in_ok-vpn.vpn = sym (c.free_run.ensures 1 refl) ∙ search rules in
    places_free c.args.s.now c.s.inside.ram c.s.inside.owners c.s.view_is c.s.invariant.0 c.s.invariant.1 c.in_ok-vpn.vpn c.place.result c.place.ensures least

pub returns-clause-lies : goal.returns-clause-lies
returns-clause-lies c =
    let least : least_free (entries 1 c.s.inside.ram) (record { 0 = 2 }) Message 2 ≡ Some c.in_ok-vpn.vpn = sym (c.free_run.ensures 1 refl) ∙ search rules in
    places_lie c.args.s.now c.s.inside.ram c.s.inside.owners c.s.view_is c.s.invariant.0 c.s.invariant.1 c.in_ok-vpn.vpn c.place.result c.place.ensures least

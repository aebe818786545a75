use Rattle.std.proofs.Common.{Some, sym, subst}
use Rattle.xk_ports.specs.Pages.{contents_of}
use Rattle.phys_pages.specs.Owners.{infos}
use Rattle.sv32_space.specs.EntryLoans.{StandsIn}
use Rattle.loan_flags.specs.Keeping.{entries_of}
use Rattle.kernel_tests.proofs.SmallSpaceLemmas.{loan_stands}
use Rattle.kernel_tests.proofs.small_space.goes_out.Goals as goal

pub returns : goal.returns
returns c = record {
  loans = λ loan stands.
      loan_stands c.s.inside.ram c.evict.new.ram c.s.inside.owners c.evict.new.owners c.s.invariant.0 c.evict.ensures.agrees
      (Some (contents_of c.args.store.now.pages.bytes)) (Some (contents_of c.evict.new.store.pages.bytes)) c.evict.ensures.rights loan
      (subst (λ t. StandsIn (entries_of t) (infos t.owners) loan) (sym c.s.view_is) stands);
}

use Rattle.std.proofs.Common.{ap, ◌∙◌}
use Rattle.phys_pages.specs.Ram.{Area}
use Rattle.phys_pages.proofs.PageLemmas.{area-with_page}
use Rattle.kernel_tests.proofs.SmallSpaceLemmas.{empty_space_agrees}
use Rattle.kernel_tests.proofs.small_space.empty.Goals as goal

pub invariant_of-result : goal.invariant_of-result
invariant_of-result c = (
  empty_space_agrees c.new_space.new.ram c.in_ok-owners.owners
      (ap (λ (a : Area). a.frames) (c.new_space.ensures.area ∙ (area-with_page _ _ _ ∙ c.in_ok-ram.ensures.area)))
      c.in_ok-owners.ensures.extent c.in_ok-owners.ensures.free c.new_space.ensures.made c.new_space.ensures.free,
  c.in_ok-owners.ensures.extent,
)

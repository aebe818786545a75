use Rattle.std.proofs.Common.{◌≡◌, ◌+◌, ◌++◌, drop}
use Rattle.kernel_args.specs.Loads.{file_sizes}
use Rattle.boot_plan.specs.FirstPages.{sections_pages}
use Rattle.boot_plan.proofs.pages.push_sections.Given as goal

-- what the sections left add completes the whole
abbrev pub invariant-loop-section : goal.invariant-loop-section
invariant-loop-section l = record {
  pages : l.rows ++ sections_pages l.offset (drop l.section-index l.section-items) ≡ l.fn.rows ++ sections_pages l.process.load l.process.sections;
  offset : l.offset + file_sizes (drop l.section-index l.section-items) ≡ l.process.load + file_sizes l.process.sections;
}

use Rattle.std.proofs.Common.{◌≡◌, replicate}
use Rattle.resume_path.specs.Resumable.{process_without_pages}
use Rattle.resume_path.proofs.sizes.empty_processes.Given as goal

abbrev pub invariant-procs : goal.invariant-procs
invariant-procs l = l.procs ≡ replicate l._process process_without_pages

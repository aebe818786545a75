use Rattle.std.proofs.Common.{◌∷◌, ◌++◌, [], ap, ◌∙◌, replicate, arith}
use Rattle.std.proofs.lemmas.List.{replicate_more}
use Rattle.resume_path.specs.Resumable.{process_without_pages}
use Rattle.resume_path.proofs.sizes.empty_processes.Goals as goal

-- src/sizes.rt
pub procs-init : goal.procs-init
procs-init c = c.new-procs.ensures

pub procs-preserved : goal.procs-preserved
procs-preserved c =
    c.in_ok-push.ensures.ok
    ∙ ((λ i. c.procs.invariant i ++ record { entry = 0; sections = 0; pages = c.new.ensures i } ∷ []) ∙ replicate_more c.procs._process process_without_pages)

pub returns : goal.returns
returns c = c.procs.invariant ∙ ap (λ n. replicate n process_without_pages) (omega (arith, c.procs-test.false, c.procs.auto._process-end))

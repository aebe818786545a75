use Rattle.std.proofs.Common.{rules, tests, ◌≡◌, sum_by, arith, ◌∙◌}
use Rattle.std.proofs.lemmas.Iterator.{YieldsList-from_slice, YieldsList-from_map}
use Rattle.std.proofs.lemmas.Iterator.Consumers.{sum_by_from_yields_List}
use Rattle.std.proofs.lemmas.List.Elements.{recursion_from_All}
use Rattle.std.specs.Prelude.{All}
use Rattle.kernel_args.specs.Contents.{IsProcess}
use Rattle.kernel_args.specs.Writing.{row_size}
use Rattle.kernel_args.proofs.WritingLemmas.{sizes_added}
use Rattle.kernel_args.proofs.writing.processes_size.Goals as goal

pub returns : goal.returns
returns c =
    let ps = c.args.processes.now in
    let each : All (IsProcess c.args.version) ps = search (rules, tests) in
    let sum : c.sum.result ≡ sum_by row_size ps = sum_by_from_yields_List row_size ps _ c.sum.result c.sum.ensures.ran
    (YieldsList-from_map _ row_size (YieldsList-from_slice ps (search rules)) c.map.ensures.closure (λ x r q k. search (rules, tests))) in
    let sizes = sizes_added c.args.version ps (recursion_from_All (IsProcess c.args.version) ps each) in
    let same = sizes.0 in
    let most = sizes.1 in
    (each, sum ∙ same, omega arith)

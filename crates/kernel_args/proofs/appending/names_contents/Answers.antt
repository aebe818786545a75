use Rattle.std.proofs.Common.{length, ap, arith}
use Rattle.kernel_args.specs.declared.args.ProcName.{ProcName}
use Rattle.kernel_args.proofs.WritingLemmas.{name_within}
use Rattle.kernel_args.proofs.appending.names_contents.Goals as goal

pub append_name-requires : goal.append_name-requires
append_name-requires c =
    let len = ap (λ (n : ProcName). length n.name) c.name-item.is in
    let within = name_within c.args.names.now c.loop-name.name-index c.name-item.result c.loop-name-test.true in
    omega arith

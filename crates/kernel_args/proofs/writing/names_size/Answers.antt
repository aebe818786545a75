use Rattle.std.proofs.Common.{length, ap, arith}
use Rattle.std.proofs.lemmas.List.Elements.{All-more}
use Rattle.kernel_args.specs.declared.args.ProcName.{ProcName}
use Rattle.kernel_args.specs.Writing.{HasPid}
use Rattle.kernel_args.proofs.WritingLemmas.{name_within, names_step}
use Rattle.kernel_args.proofs.writing.names_size.Goals as goal

pub returns-then-len-ge-CONTENTS_LIMIT : goal.returns-then-len-ge-CONTENTS_LIMIT
returns-then-len-ge-CONTENTS_LIMIT c =
    let len = ap (λ (n : ProcName). length n.name) c.name-item.is in
    let within = name_within c.args.names.now c.loop-name.name-index c.name-item.result c.loop-name-test.true in
    omega (arith, ap length c.as_slice-len.ensures)

pub returns-then-size-ge-CONTENTS_LIMIT : goal.returns-then-size-ge-CONTENTS_LIMIT
returns-then-size-ge-CONTENTS_LIMIT c =
    let len = ap (λ (n : ProcName). length n.name) c.name-item.is in
    let within = name_within c.args.names.now c.loop-name.name-index c.name-item.result c.loop-name-test.true in
    let size = c.loop-name.invariant.size in
    omega (arith, ap length c.as_slice-len.ensures)

pub loop-name-preserved : goal.loop-name-preserved
loop-name-preserved c =
    let len = ap (λ (n : ProcName). length n.name) c.name-item.is in
    let pid = ap (λ (n : ProcName). n.pid) c.name-item.is in
    let step = names_step c.args.names.now c.loop-name.name-index c.name-item.result c.loop-name-test.true in
    let size = c.loop-name.invariant.size in
    record {
      each = All-more HasPid c.args.names.now c.loop-name.name-index c.name-item.result c.loop-name-test.true c.loop-name.invariant.each (omega arith);
      size = omega (arith, ap length c.as_slice-len.ensures);
      few = c.if-size-ge-CONTENTS_LIMIT.false;
    }

use Rattle.std.proofs.Common.{arith}
use Rattle.kernel_args.proofs.NameLemmas.{names_more, names_end}
use Rattle.kernel_args.proofs.names.append_names.Goals as goal

pub loop-entry-preserved : goal.loop-entry-preserved
loop-entry-preserved c =
    let more = names_more c.args.contents.now c.loop-entry.rest.now c.args.names.now c.loop-entry.names c.in-Some.entry.pid c.in-Some.entry.name.now c.in-Some.after.now
    c.loop-entry.invariant (λ i. omega (arith, c.type_inv.contents i)) c.in-Some.ensures in
    rw (c.in_ok-push.ensures.ok, c.in_ok-name.ensures) more

pub returns : goal.returns
returns c = names_end c.args.contents.now c.loop-entry.rest.now c.args.names.now c.loop-entry.names c.is_empty.result c.loop-entry.invariant c.in_default.ensures c.is_empty.ensures

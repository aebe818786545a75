use Rattle.std.proofs.Common.{ap, ◌∙◌, sym, length}
use Rattle.std.proofs.lemmas.Result.{err_from_is_err_and}
use Rattle.kernel_args.specs.Reading.{tag_of}
use Rattle.kernel_args.proofs.ReadLemmas.{row_begins, row_more, fault_of_tag, fault_of_total, fault_of_none, some_left, none_left}
use Rattle.kernel_args.proofs.reading.read_row.Goals as goal

pub returns-in-None-clause-fault : goal.returns-in-None-clause-fault
returns-in-None-clause-fault c =
    rw c.fault.ensures (fault_of_total c.args.version c.args.row.now c.loop-rest.rest.now c.loop-rest.found c.loop-rest.invariant c.in-None.ensures
    (some_left c.is_empty.result (length c.loop-rest.rest.now) c.is_empty.ensures c.loop-rest-test.true))

pub returns-in_err-read_tag-in-Some-clause-fault :
    goal.returns-in_err-read_tag-in-Some-clause-fault
returns-in_err-read_tag-in-Some-clause-fault c =
    let p = err_from_is_err_and c.from_residual.result c.from_residual.ensures.1 in
    rw (p.1, p.2) (fault_of_tag c.args.version c.args.row.now c.loop-rest.rest.now c.loop-rest.found (tag_of c.in-Some.tag) c.in-Some.after.now
    c.in_err-read_tag-in-Some.field-0.0 c.loop-rest.invariant c.in-Some.ensures c.in_err-read_tag-in-Some.ensures.fault)

pub loop-rest-preserved : goal.loop-rest-preserved
loop-rest-preserved c =
    row_more c.args.version c.args.row.now c.loop-rest.rest.now (tag_of c.in-Some.tag) c.in-Some.after.now c.loop-rest.found c.read_tag.new.found
    c.loop-rest.invariant c.in-Some.ensures c.in_ok-read_tag-in-Some.ensures.ok

pub returns-then-is_empty-clause-fault : goal.returns-then-is_empty-clause-fault
returns-then-is_empty-clause-fault c =
    rw c.fault-then-is_empty.ensures (fault_of_none c.args.version c.args.row.now c.loop-rest.rest.now c.loop-rest.found c.loop-rest.invariant
    (none_left c.is_empty.result (length c.loop-rest.rest.now) c.is_empty.ensures c.loop-rest-test.false)
    (sym (ap length c.as_slice.ensures) ∙ none_left _ (length c.as_slice.result.now) c.is_empty-2.ensures c.if-is_empty.true))

pub loop-rest-init : goal.loop-rest-init
loop-rest-init c = row_begins c.args.version c.args.row.now c.new-found.result c.new-found.ensures

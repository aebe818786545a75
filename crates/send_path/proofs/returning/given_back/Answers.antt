use Rattle.std.proofs.Common.{sym, subst}
use Rattle.syscall_codec.specs.Calls.{Asks}
use Rattle.send_path.proofs.Receivers.ReturnLemmas.{memory_is, scalar1_is, scalar2_is}
use Rattle.send_path.proofs.returning.given_back.Goals as goal

pub returns-in-Ok-ReturnMemory : goal.returns-in-Ok-ReturnMemory
returns-in-Ok-ReturnMemory c = λ m.
    let call = c.in-Ok-ReturnMemory in
    sym (memory_is c.args.words call.token call.address call.size call.offset call.valid (subst (Asks c.args.words) call.field-0-is call.ensures.found) m)

pub returns-in-Ok-ReturnScalar1 : goal.returns-in-Ok-ReturnScalar1
returns-in-Ok-ReturnScalar1 c = λ m.
    let call = c.in-Ok-ReturnScalar1 in
    sym (scalar1_is c.args.words call.token call.value (subst (Asks c.args.words) call.field-0-is call.ensures.found) m)

pub returns-in-Ok-ReturnScalar2 : goal.returns-in-Ok-ReturnScalar2
returns-in-Ok-ReturnScalar2 c = λ m.
    let call = c.in-Ok-ReturnScalar2 in
    sym (scalar2_is c.args.words call.token call.value1 call.value2 (subst (Asks c.args.words) call.field-0-is call.ensures.found) m)

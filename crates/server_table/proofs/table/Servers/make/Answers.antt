use Rattle.std.proofs.Common.{◌≡◌, ◌==◌, length, None, true, false, is_some, is_none, ap, sym, ◌∙◌, arith}
use Rattle.xk_base.specs.declared.limits.TheConstants.{SERVER_LIMIT}
use Rattle.xk_base.specs.Tables.RowMap.{row_map}
use Rattle.xk_base.proofs.CountingLemmas.{least_below-none, least_below-passes}
use Rattle.server_table.specs.ServersOf.{servers_of}
use Rattle.server_table.specs.ServerState.{with_sid, live_count}
use Rattle.server_table.proofs.AnsweredLemmas.{state, with_sid_missing, full, not_full, answer_limit, answer_ok}
use Rattle.server_table.proofs.SerialLemmas.{position_is_least}
use Rattle.server_table.proofs.MadeLemmas.{made_apart, made_counted, made_state}
use Rattle.server_table.proofs.table.Servers.make.Goals as goal

pub returns-in_default-clause-answer : goal.returns-in_default-clause-answer
unfolding servers_of
returns-in_default-clause-answer c =
    let missing : is_some (with_sid c.args.sid (state c.args.self.now.seats.items c.args.self.now.next)) ≡ false = ap is_some (sym c.find.ensures) ∙ sym c.is_some.ensures ∙ c.if-is_some.false in
    let many : (live_count (state c.args.self.now.seats.items c.args.self.now.next) == SERVER_LIMIT) ≡ true =
    full c.args.self.now.seats.items c.args.self.now.next c.args.self.now.counted (least_below-none SERVER_LIMIT (λ i. is_none (row_map c.args.self.now.seats.items i)) (sym (position_is_least is_none c.args.self.now.seats.items SERVER_LIMIT (omega arith)) ∙ (sym c.empty_seat.ensures.found ∙ c.in_default.is))) in
    sym (answer_limit c.args.sid (state c.args.self.now.seats.items c.args.self.now.next) missing many)

pub overflow_add-self : goal.overflow_add-self
unfolding servers_of
overflow_add-self c = omega (arith, c.requires)

pub invariant_of-self-clause-apart : goal.invariant_of-self-clause-apart
unfolding servers_of
invariant_of-self-clause-apart c =
    let size : length c.args.self.now.seats.items ≡ SERVER_LIMIT = omega arith in
    let missing : is_some (with_sid c.args.sid (state c.args.self.now.seats.items c.args.self.now.next)) ≡ false = ap is_some (sym c.find.ensures) ∙ sym c.is_some.ensures ∙ c.if-is_some.false in
    let new : with_sid c.args.sid (state c.args.self.now.seats.items c.args.self.now.next) ≡ None = with_sid_missing c.args.sid (state c.args.self.now.seats.items c.args.self.now.next) missing in
    made_apart c.args.self.now.seats.items c.args.self.now.next c.in-Some.seat c.args.sid c.args.pid c.args.self.now.apart size c.in-Some.ensures.within new

pub invariant_of-self-clause-counted : goal.invariant_of-self-clause-counted
unfolding servers_of
invariant_of-self-clause-counted c =
    let size : length c.args.self.now.seats.items ≡ SERVER_LIMIT = omega arith in
    let missing : is_some (with_sid c.args.sid (state c.args.self.now.seats.items c.args.self.now.next)) ≡ false = ap is_some (sym c.find.ensures) ∙ sym c.is_some.ensures ∙ c.if-is_some.false in
    let new : with_sid c.args.sid (state c.args.self.now.seats.items c.args.self.now.next) ≡ None = with_sid_missing c.args.sid (state c.args.self.now.seats.items c.args.self.now.next) missing in
    made_counted c.args.self.now.seats.items c.args.self.now.next c.in-Some.seat c.args.sid c.args.pid c.args.self.now.apart size c.in-Some.ensures.within new

pub returns-clause-answer : goal.returns-clause-answer
unfolding servers_of
returns-clause-answer c =
    let missing : is_some (with_sid c.args.sid (state c.args.self.now.seats.items c.args.self.now.next)) ≡ false = ap is_some (sym c.find.ensures) ∙ sym c.is_some.ensures ∙ c.if-is_some.false in
    let few : (live_count (state c.args.self.now.seats.items c.args.self.now.next) == SERVER_LIMIT) ≡ false =
    not_full c.args.self.now.seats.items c.args.self.now.next c.in-Some.seat c.args.self.now.counted c.in-Some.ensures.within
    (least_below-passes SERVER_LIMIT (λ i. is_none (row_map c.args.self.now.seats.items i)) c.in-Some.seat (sym (position_is_least is_none c.args.self.now.seats.items SERVER_LIMIT (omega arith)) ∙ sym c.in-Some.ensures.found)) in
    sym (answer_ok c.args.sid (state c.args.self.now.seats.items c.args.self.now.next) missing few)

pub returns-clause-ok : goal.returns-clause-ok
unfolding servers_of
returns-clause-ok c =
    let size : length c.args.self.now.seats.items ≡ SERVER_LIMIT = omega arith in
    let missing : is_some (with_sid c.args.sid (state c.args.self.now.seats.items c.args.self.now.next)) ≡ false = ap is_some (sym c.find.ensures) ∙ sym c.is_some.ensures ∙ c.if-is_some.false in
    let new : with_sid c.args.sid (state c.args.self.now.seats.items c.args.self.now.next) ≡ None = with_sid_missing c.args.sid (state c.args.self.now.seats.items c.args.self.now.next) missing in
    made_state c.args.self.now.seats.items c.args.self.now.next c.in-Some.seat c.args.sid c.args.pid c.args.self.now.apart size c.in-Some.ensures.within new (sym (position_is_least is_none c.args.self.now.seats.items SERVER_LIMIT (omega arith)) ∙ sym c.in-Some.ensures.found)

use Rattle.std.proofs.Common.{◌≡◌, length, sym, ◌∙◌, arith}
use Rattle.xk_base.specs.declared.limits.TheConstants.{SERVER_LIMIT}
use Rattle.server_table.specs.ServersOf.{servers_of}
use Rattle.server_table.proofs.MadeLemmas.{removed_apart, removed_counted, removed_state, unknown_state}
use Rattle.server_table.proofs.table.Servers.remove.Goals as goal

pub invariant_of-self-clause-apart : goal.invariant_of-self-clause-apart
invariant_of-self-clause-apart c =
    let size : length c.args.self.now.seats.items ≡ SERVER_LIMIT = omega arith in
    removed_apart c.args.self.now.seats.items c.args.self.now.next c.in-Some.seat c.args.self.now.apart size c.in-Some.ensures.within

pub invariant_of-self-clause-counted : goal.invariant_of-self-clause-counted
invariant_of-self-clause-counted c =
    let size : length c.args.self.now.seats.items ≡ SERVER_LIMIT = omega arith in
    removed_counted c.args.self.now.seats.items c.args.self.now.next c.in-Some.seat c.args.self.now.apart size c.in-Some.ensures.within

pub returns-in-Some : goal.returns-in-Some
unfolding servers_of
returns-in-Some c =
    let size : length c.args.self.now.seats.items ≡ SERVER_LIMIT = omega arith in
    removed_state c.args.self.now.seats.items c.args.self.now.next c.args.s.0 c.in-Some.seat c.args.self.now.apart size c.in-Some.ensures.within (sym c.in-Some.ensures.found)

pub returns-in_default : goal.returns-in_default
unfolding servers_of
returns-in_default c = unknown_state c.args.self.now.seats.items c.args.self.now.next c.args.s.0 (sym c.seat_of.ensures.found ∙ c.in_default.is)

-- A server is made, and the caller is connected to it.
use Rattle.std.proofs.Common.{◌≡◌, true, false, is_some, sym, ap, ◌∙◌}
use Rattle.std.specs.Prelude.{◌==◌}
use Rattle.machine_model.specs.Calling.ServerCalls.{new_serial}
use Rattle.machine_model.specs.State.Changes.{Refused}
use Rattle.machine_model.specs.State.Connections.{own_connections}
use Rattle.machine_model.specs.State.Machine.{Machine}
use Rattle.machine_model.specs.State.Servers.{live_servers, with_sid as machine_with_sid}
use Rattle.server_table.specs.ServersOf.{servers_of}
use Rattle.server_table.specs.ServerState.{live_count, with_sid}
use Rattle.xk_base.specs.Tables.Connections.{has_room}
use Rattle.xk_base.specs.Tables.Sids.{serial_of}
use Rattle.xk_base.specs.declared.limits.TheConstants.{SERVER_LIMIT}
use Rattle.xk_kernel.specs.State.{machine_of}
use Rattle.xk_kernel.proofs.Calling.ServerCallLemmas.{count_told, created, created_is, exists_already, machine_served, made_err, made_ok, named_told, seat_left, served_whole, too_many, unconnected}
use Rattle.xk_kernel.proofs.kernel.Kernel.create_server.Goals as goal

-- src/kernel/server_calls.rt
pub returns-then-is_some-clause-outcome : goal.returns-then-is_some-clause-outcome
returns-then-is_some-clause-outcome g c =
    exists_already (machine_of g.W.SwapStore.held c.args.self.now) c.args.sid
    (ap is_some (sym (named_told g.W.SwapStore.held c.args.self.now c.args.sid) ∙ sym c.find.ensures) ∙ sym c.is_some.ensures ∙ c.if-is_some.true)

pub returns-then-not-has_room-clause-outcome : goal.returns-then-not-has_room-clause-outcome
unfolding machine_of
returns-then-not-has_room-clause-outcome g c =
    let m : Machine = machine_of g.W.SwapStore.held c.args.self.now in
    let new : is_some (machine_with_sid m c.args.sid) ≡ false =
    ap is_some (sym (named_told g.W.SwapStore.held c.args.self.now c.args.sid) ∙ sym c.find.ensures) ∙ sym c.is_some.ensures ∙ c.if-is_some.false in
    let next : c.next_serial.result ≡ new_serial m = (λ i. serial_of (c.next_serial.ensures i)) in
    unconnected m c.args.sid new (ap (λ s. has_room s (own_connections m)) (sym next) ∙ sym c.has_room.ensures ∙ c.if-not-has_room.true)

pub connect_caller-cid-requires-clause-room : goal.connect_caller-cid-requires-clause-room
unfolding machine_of
connect_caller-cid-requires-clause-room g c =
    let m : Machine = machine_of g.W.SwapStore.held c.args.self.now in
    let new : is_some (with_sid c.args.sid (servers_of c.args.self.now.servers)) ≡ false = ap is_some (sym c.find.ensures) ∙ sym c.is_some.ensures ∙ c.if-is_some.false in
    let serial : c.in-Ok.serial ≡ new_serial m =
    (made_ok c.args.sid (servers_of c.args.self.now.servers) new c.in-Ok.serial (sym c.in-Ok.is ∙ c.make.ensures.answer)).1 in
    let next : c.next_serial.result ≡ new_serial m = (λ i. serial_of (c.next_serial.ensures i)) in
    ap (λ s. has_room s (own_connections m)) (serial ∙ sym next) ∙ sym c.has_room.ensures ∙ c.if-not-has_room.false

pub connect_caller-cid-requires-clause-whole : goal.connect_caller-cid-requires-clause-whole
connect_caller-cid-requires-clause-whole g c =
    let old = c.args.self.now in
    let there : is_some (with_sid c.args.sid (servers_of old.servers)) ≡ false = ap is_some (sym c.find.ensures) ∙ sym c.is_some.ensures ∙ c.if-is_some.false in
    let made : ((live_count (servers_of old.servers) == SERVER_LIMIT) ≡ false) × (c.in-Ok.serial ≡ serial_of (servers_of old.servers).next) =
    made_ok c.args.sid (servers_of old.servers) there c.in-Ok.serial (sym c.in-Ok.is ∙ c.make.ensures.answer) in
    let seat = seat_left old.servers made.0 in
    served_whole g.W.SwapStore old c.requires.whole c.make.new.self c.args.sid seat.0 seat.1 c.in-Ok.ensures.ok
    c.requires.matched c.requires.ready
    (ap is_some (sym (named_told g.W.SwapStore.held old c.args.sid)) ∙ there)
    (ap (λ n. n == SERVER_LIMIT) (sym (count_told g.W.SwapStore.held old)) ∙ made.0)

pub returns-in-Ok-clause-outcome : goal.returns-in-Ok-clause-outcome
unfolding machine_of
returns-in-Ok-clause-outcome g c =
    let m : Machine = machine_of g.W.SwapStore.held c.args.self.now in
    let mid : Machine = machine_of g.W.SwapStore.held (record c.args.self.now { servers = c.make.new.self }) in
    let there : is_some (with_sid c.args.sid (servers_of c.args.self.now.servers)) ≡ false = ap is_some (sym c.find.ensures) ∙ sym c.is_some.ensures ∙ c.if-is_some.false in
    let new : is_some (machine_with_sid m c.args.sid) ≡ false = ap is_some (sym (named_told g.W.SwapStore.held c.args.self.now c.args.sid)) ∙ there in
    let made : ((live_count (servers_of c.args.self.now.servers) == SERVER_LIMIT) ≡ false) × (c.in-Ok.serial ≡ new_serial m) =
    made_ok c.args.sid (servers_of c.args.self.now.servers) there c.in-Ok.serial (sym c.in-Ok.is ∙ c.make.ensures.answer) in
    let few : (live_servers m == SERVER_LIMIT) ≡ false = ap (λ n. n == SERVER_LIMIT) (sym (count_told g.W.SwapStore.held c.args.self.now)) ∙ made.0 in
    let next : c.next_serial.result ≡ new_serial m = (λ i. serial_of (c.next_serial.ensures i)) in
    let room : has_room (new_serial m) (own_connections m) ≡ true = ap (λ s. has_room s (own_connections m)) (sym next) ∙ sym c.has_room.ensures ∙ c.if-not-has_room.false in
    let seat = seat_left c.args.self.now.servers made.0 in
    created_is m mid (machine_of g.W.SwapStore.held c.connect_caller-cid.new.self) c.args.sid c.in-Ok.serial c.connect_caller-cid.result.0
    (machine_served g.W.SwapStore c.args.self.now c.requires.whole c.make.new.self c.args.sid seat.0 seat.1 c.in-Ok.ensures.ok)
    made.1 c.connect_caller-cid.ensures.answer c.connect_caller-cid.ensures.machine
    ∙ created m c.args.sid new few room

pub returns-in-Err-clause-outcome : goal.returns-in-Err-clause-outcome
unfolding machine_of
returns-in-Err-clause-outcome g c =
    let m : Machine = machine_of g.W.SwapStore.held c.args.self.now in
    let there : is_some (with_sid c.args.sid (servers_of c.args.self.now.servers)) ≡ false = ap is_some (sym c.find.ensures) ∙ sym c.is_some.ensures ∙ c.if-is_some.false in
    let new : is_some (machine_with_sid m c.args.sid) ≡ false = ap is_some (sym (named_told g.W.SwapStore.held c.args.self.now c.args.sid)) ∙ there in
    let refused = made_err c.args.sid (servers_of c.args.self.now.servers) there c.in-Err.error (sym c.in-Err.is ∙ c.make.ensures.answer) in
    ap Refused refused.1
    ∙ too_many m c.args.sid new (ap (λ n. n == SERVER_LIMIT) (sym (count_told g.W.SwapStore.held c.args.self.now)) ∙ refused.0)

use Rattle.std.proofs.Common.{◌∙◌, refl, arith}
use Rattle.save_path.proofs.FrontLemmas.{given_of, connections_few, front_written, servers_many, write_claims_room, write_numbers_room, write_processes_room, write_servers_room, write_threads_room}
use Rattle.save_path.specs.Saved.{saved_machine, saved_parts}
use Rattle.save_path.proofs.SaveableLemmas.{front_fit}
use Rattle.save_path.proofs.saving.write_front.Goals as goal

pub write_numbers-requires-clause-room : goal.write_numbers-requires-clause-room
unfolding saved_machine
write_numbers-requires-clause-room g c =
    let k = given_of c.args.mem.now c.args.threads.now c.args.procs.now c.args.servers.now c.args.queues.now c.args.claims.now c.args.numbers in
    write_numbers_room g.W.SwapStore.held k c.args.sheet.now c.requires.room

pub write_processes-requires-clause-many : goal.write_processes-requires-clause-many
unfolding saved_machine
write_processes-requires-clause-many g c = c.procs-many.ensures

pub write_processes-requires-clause-limit : goal.write_processes-requires-clause-limit
unfolding saved_machine
write_processes-requires-clause-limit g c =
    let is = c.procs-many.ensures ∙ c.requires.procs in
    let few = c.requires.sound.few in
    omega arith

pub write_processes-requires-clause-few : goal.write_processes-requires-clause-few
unfolding saved_machine
write_processes-requires-clause-few g c =
    let k = given_of c.args.mem.now c.args.threads.now c.args.procs.now c.args.servers.now c.args.queues.now c.args.claims.now c.args.numbers in
    connections_few g.W.SwapStore.held k c.requires.matched

pub write_processes-requires-clause-room : goal.write_processes-requires-clause-room
unfolding saved_machine
write_processes-requires-clause-room g c =
    let k = given_of c.args.mem.now c.args.threads.now c.args.procs.now c.args.servers.now c.args.queues.now c.args.claims.now c.args.numbers in
    let parts = saved_parts c.args.mem.now c.args.threads.now c.args.procs.now c.args.servers.now c.args.queues.now c.args.claims.now in
    write_processes_room g.W.SwapStore.held k c.args.sheet.now c.write_numbers.new.sheet c.procs-many.result (c.procs-many.ensures ∙ c.requires.procs)
    c.requires.room (c.write_numbers.ensures.words parts refl refl)

pub write_threads-requires-clause-many : goal.write_threads-requires-clause-many
unfolding saved_machine
write_threads-requires-clause-many g c =
    let is = c.procs-many.ensures ∙ c.requires.procs in
    let few = c.requires.sound.few in
    omega arith

pub write_threads-requires-clause-room : goal.write_threads-requires-clause-room
unfolding saved_machine
write_threads-requires-clause-room g c =
    let k = given_of c.args.mem.now c.args.threads.now c.args.procs.now c.args.servers.now c.args.queues.now c.args.claims.now c.args.numbers in
    let parts = saved_parts c.args.mem.now c.args.threads.now c.args.procs.now c.args.servers.now c.args.queues.now c.args.claims.now in
    write_threads_room g.W.SwapStore.held k c.args.sheet.now c.write_numbers.new.sheet c.write_processes.new.sheet c.procs-many.result
    (c.procs-many.ensures ∙ c.requires.procs) c.requires.room
    (c.write_numbers.ensures.words parts refl refl) c.write_processes.ensures

pub write_servers-requires-clause-few : goal.write_servers-requires-clause-few
unfolding saved_machine
write_servers-requires-clause-few g c =
    let k = given_of c.args.mem.now c.args.threads.now c.args.procs.now c.args.servers.now c.args.queues.now c.args.claims.now c.args.numbers in
    servers_many g.W.SwapStore.held k c.requires.matched

pub write_servers-requires-clause-room : goal.write_servers-requires-clause-room
unfolding saved_machine
write_servers-requires-clause-room g c =
    let k = given_of c.args.mem.now c.args.threads.now c.args.procs.now c.args.servers.now c.args.queues.now c.args.claims.now c.args.numbers in
    let parts = saved_parts c.args.mem.now c.args.threads.now c.args.procs.now c.args.servers.now c.args.queues.now c.args.claims.now in
    write_servers_room g.W.SwapStore.held k c.args.sheet.now c.write_numbers.new.sheet c.write_processes.new.sheet c.write_threads.new.sheet
    c.procs-many.result (c.procs-many.ensures ∙ c.requires.procs) c.requires.room (c.write_numbers.ensures.words parts refl refl) c.write_processes.ensures c.write_threads.ensures.rows

pub write_claims-requires : goal.write_claims-requires
unfolding saved_machine
write_claims-requires g c =
    let k = given_of c.args.mem.now c.args.threads.now c.args.procs.now c.args.servers.now c.args.queues.now c.args.claims.now c.args.numbers in
    let parts = saved_parts c.args.mem.now c.args.threads.now c.args.procs.now c.args.servers.now c.args.queues.now c.args.claims.now in
    write_claims_room g.W.SwapStore.held k c.args.sheet.now c.write_numbers.new.sheet c.write_processes.new.sheet c.write_threads.new.sheet
    c.write_servers.new.sheet
    c.procs-many.result (c.procs-many.ensures ∙ c.requires.procs) c.requires.room (c.write_numbers.ensures.words parts refl refl) c.write_processes.ensures c.write_threads.ensures.rows
    c.write_servers.ensures.rows

pub returns-clause-parts : goal.returns-clause-parts
unfolding saved_machine
returns-clause-parts g c =
    let k = given_of c.args.mem.now c.args.threads.now c.args.procs.now c.args.servers.now c.args.queues.now c.args.claims.now c.args.numbers in
    let parts = saved_parts c.args.mem.now c.args.threads.now c.args.procs.now c.args.servers.now c.args.queues.now c.args.claims.now in
    front_written g.W.SwapStore.held k c.args.sheet.now c.write_numbers.new.sheet c.write_processes.new.sheet c.write_threads.new.sheet
    c.write_servers.new.sheet c.write_claims.new.sheet
    c.procs-many.result (c.procs-many.ensures ∙ c.requires.procs) (c.write_numbers.ensures.words parts refl refl) c.write_processes.ensures c.write_threads.ensures.rows
    c.write_servers.ensures.rows c.write_claims.ensures.rows

pub returns-clause-fit : goal.returns-clause-fit
unfolding saved_machine
returns-clause-fit g c =
    let k = given_of c.args.mem.now c.args.threads.now c.args.procs.now c.args.servers.now c.args.queues.now c.args.claims.now c.args.numbers in
    let parts = saved_parts c.args.mem.now c.args.threads.now c.args.procs.now c.args.servers.now c.args.queues.now c.args.claims.now in
    front_fit g.W.SwapStore.held k c.procs-many.result (c.procs-many.ensures ∙ c.requires.procs) (c.write_numbers.ensures.fit parts) c.write_threads.ensures.fit
    c.write_servers.ensures.fit c.write_claims.ensures.fit

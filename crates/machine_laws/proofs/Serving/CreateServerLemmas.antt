-- The step of a CreateServerWithAddress keeps the machine matched, served or refused.
use Rattle.std.proofs.Common.{◌≡◌, ℕ, ◌+◌, true, false, List, refl, arith}
use Rattle.std.specs.Prelude.{◌==◌, is_some, not}
use Rattle.xk_base.specs.declared.errors.XousError.TheVariants.{InvalidLimit, ServerExists}
use Rattle.xk_base.specs.declared.ids.Sid.{Sid}
use Rattle.xk_base.specs.declared.limits.TheConstants.{SERVER_LIMIT}
use Rattle.syscall_codec.specs.CallNumbers.{create_server_with_address}
use Rattle.xk_base.specs.Tables.Connections.{cid_for, has_room}
use Rattle.syscall_codec.specs.ReplyWords.{new_server_words}
use Rattle.machine_model.specs.Calling.ServerCalls.{create_server_call, create_server_refusals, create_server_served, named_sid, new_serial, new_server, with_server}
use Rattle.machine_model.specs.Runs.Matched.{Matched}
use Rattle.machine_model.specs.State.Changes.{Served}
use Rattle.machine_model.specs.State.Connections.{connect_caller, own_connections}
use Rattle.machine_model.specs.State.Machine.{Machine}
use Rattle.machine_model.specs.State.Order.{ready_at}
use Rattle.machine_model.specs.State.Servers.{live_servers, with_sid}
use Rattle.machine_laws.proofs.Calling.AnsweredCallLemmas.{Keeps}
use Rattle.machine_laws.proofs.Calling.CallStepLemmas.{of_call}
use Rattle.machine_laws.proofs.Serving.ConnectionLemmas.{caller_connected}
use Rattle.machine_laws.proofs.Calling.RunRefusalLemmas.{not_false}
use Rattle.machine_laws.proofs.Calling.ThreadCallLemmas.{three_passed, unless_refused_keeps}
use Rattle.machine_laws.proofs.Calling.CallRowLemmas.{KeepsNumber}
use Rattle.machine_laws.proofs.Serving.NewServerLemmas.{server_settles}
use Rattle.machine_laws.proofs.Threading.ThreadAnswerLemmas.{answered_call, ready_lives}

module _ (m : Machine) (w : List ℕ) (h : Matched m) (ready : ready_at m m.cursor ≡ true) where
  abbrev sid : Sid
  sid = named_sid w

  served_keeps : is_some (with_sid m sid) ≡ false → (live_servers m == SERVER_LIMIT) ≡ false
      → not (has_room (new_serial m) (own_connections m)) ≡ false → Keeps m (Served (create_server_served m sid))
  served_keeps fresh few room =
      answered_call m (connect_caller (new_serial m) (with_server (new_server m sid) m)) (new_server_words sid (cid_for (new_serial m) (own_connections m)))
      (caller_connected (record (with_server (new_server m sid) m) { steps = m.steps + 1 })
      (server_settles m h sid (record { live = ready_lives m h m.cursor ready; fresh = fresh; room = few }))
      (ready_lives m h m.cursor ready) (new_serial m)
      (record { low = omega arith; room = not_false (has_room (new_serial m) (own_connections m)) room }))
      ready

  pub create_server_keeps : Keeps m (create_server_call m w)
  unfolding create_server_call
  create_server_keeps =
      unless_refused_keeps m h (create_server_refusals m sid) (Served (create_server_served m sid))
      (λ none. let passed : (is_some (with_sid m sid) ≡ false) × ((live_servers m == SERVER_LIMIT) ≡ false)
      × (not (has_room (new_serial m) (own_connections m)) ≡ false) =
      three_passed (is_some (with_sid m sid)) (live_servers m == SERVER_LIMIT) (not (has_room (new_serial m) (own_connections m)))
      ServerExists InvalidLimit InvalidLimit none in
      served_keeps passed.0 passed.1 passed.2)

pub create_server_number_keeps : KeepsNumber create_server_with_address
create_server_number_keeps = of_call 14 create_server_call (λ m w. refl) create_server_keeps

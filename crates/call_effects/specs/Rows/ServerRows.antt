-- The verdicts on the calls that make, find and end servers.
use Rattle.std.specs.Prelude.{ℕ, ◌==◌, Bool, [], ◌∷◌}
use Rattle.xk_base.specs.declared.errors.XousError.TheVariants.{ServerNotFound}
use Rattle.syscall_codec.specs.ReplyWords.{connection_words, new_server_words, plain_words}
use Rattle.xk_base.specs.Tables.Connections.{cid_for}
use Rattle.machine_model.specs.Calling.ServerCalls.{connect_refusals, create_server_refusals, is_missing, named_server, named_sid}
use Rattle.machine_model.specs.Calling.ServerCalls.{new_serial, new_server, own_server_refusals}
use Rattle.machine_model.specs.Ending.Closing.{is_sender_at, refused_server}
use Rattle.machine_model.specs.Messaging.Receivers.{receiving_at}
use Rattle.machine_model.specs.State.Connections.{own_connections}
use Rattle.machine_model.specs.State.Threads.{answer_to, both_answers}
use Rattle.call_effects.specs.Effects.{ClosesServers, Connects, Founds}
use Rattle.call_effects.specs.Verdicts.{RefusedIf, RetriedIf, Row, answers_caller, answers_with}

-- CreateServerWithAddress: a server, and the caller is connected to it
abbrev pub create_server_row : Row
create_server_row m w =
    let words = new_server_words (named_sid w) (cid_for (new_serial m) (own_connections m)) in
    RefusedIf (create_server_refusals m (named_sid w))
    (answers_caller m words (Founds (new_server m (named_sid w)) ∷ Connects (new_serial m) ∷ []))

-- the caller is connected to the server
abbrev pub connected_row : Row
connected_row m w =
    let serial = named_server m (named_sid w) in
    answers_caller m (connection_words (cid_for serial (own_connections m))) (Connects serial ∷ [])

-- Connect: without a live server it is to be made again
abbrev pub connect_row : Row
connect_row m w =
    RetriedIf (is_missing m (named_sid w))
    (RefusedIf (connect_refusals m (named_sid w)) (connected_row m w))

-- TryConnect: without a live server it is refused
abbrev pub try_connect_row : Row
try_connect_row m w =
    RefusedIf ((is_missing m (named_sid w), ServerNotFound) ∷ connect_refusals m (named_sid w)) (connected_row m w)

-- DestroyServer: the server closes, and who waits there, for an answer or for a message, is answered
abbrev pub destroy_row : Row
destroy_row m w =
    let serial = named_server m (named_sid w) in
    let this : ℕ → Bool = λ n. n == serial.0 in
    let others = both_answers (refused_server (is_sender_at this m)) (refused_server (receiving_at m serial)) in
    RefusedIf (own_server_refusals m (named_sid w))
    (answers_with (both_answers (answer_to m.cursor plain_words) others) (ClosesServers this ∷ []))

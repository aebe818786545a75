-- A connection, where there is room for one.
use Rattle.std.proofs.Common.{sym, ◌∙◌}
use Rattle.machine_model.specs.State.Changes.{Served, answering}
use Rattle.machine_model.specs.State.Threads.{answer_to}
use Rattle.syscall_codec.specs.ReplyWords.{connection_words}
use Rattle.xk_kernel.specs.State.{machine_of}
use Rattle.xk_kernel.proofs.Calling.ServerCallLemmas.{has_no_room, has_room_for}
use Rattle.xk_kernel.proofs.kernel.Kernel.connect_to.Goals as goal

-- src/kernel/server_calls.rt
pub connect_caller-requires-clause-room : goal.connect_caller-requires-clause-room
connect_caller-requires-clause-room g c = sym c.has_room.ensures ∙ c.if-not-has_room.false

pub returns-then-not-has_room-clause-outcome : goal.returns-then-not-has_room-clause-outcome
returns-then-not-has_room-clause-outcome g c =
    has_no_room (machine_of g.W.SwapStore.held c.args.self.now) c.args.serial (sym c.has_room.ensures ∙ c.if-not-has_room.true)

pub returns-clause-outcome : goal.returns-clause-outcome
unfolding machine_of
returns-clause-outcome g c =
    (λ i. Served (answering (answer_to c.args.self.now.cursor (connection_words (c.connect_caller.ensures.answer i))) (c.connect_caller.ensures.machine i)))
    ∙ has_room_for (machine_of g.W.SwapStore.held c.args.self.now) c.args.serial (sym c.has_room.ensures ∙ c.if-not-has_room.false)

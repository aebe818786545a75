-- A call is refused to its caller, is one on messages, or is served before its caller is answered.
use Rattle.std.proofs.Common.{◌≡◌, false, sym, subst, ◌∙◌, arith}
use Rattle.machine_model.specs.Calling.Calls.{call}
use Rattle.machine_model.specs.State.Changes.{call_settled}
use Rattle.syscall_codec.specs.Calls.{Asks}
use Rattle.xk_kernel.specs.Calling.{is_refused_caller}
use Rattle.xk_kernel.specs.State.{machine_of}
use Rattle.xk_kernel.specs.Telling.{Tells}
use Rattle.xk_kernel.proofs.Calling.CallTableLemmas.{destroy_is, others_plain, receive_is, receiver_waits, refused_to_handler, row_is, terminate_is, try_receive_is}
use Rattle.xk_kernel.proofs.Calling.OverLemmas.{tells_exactly}
use Rattle.xk_kernel.proofs.kernel.Kernel.call_asked.Goals as goal

pub returns-then-is_refused-clause-tells : goal.returns-then-is_refused-clause-tells
returns-then-is_refused-clause-tells g c =
    let m = machine_of g.W.SwapStore.held c.args.self.now in
    tells_exactly g.W.SwapStore.held c.args.self.now c.refuse.new.self (call_settled m (call m c.args.words))
    (subst (λ o. Tells g.W.SwapStore.held c.args.self.now c.refuse.new.self (call_settled m o))
    (sym (refused_to_handler m c.args.words c.args.asked c.requires.asks (sym (c.is_refused.ensures c.args.words c.requires.asks) ∙ c.if-is_refused.true)))
    c.refuse.ensures.tells)

-- ---- messages

pub send_message-requires-clause-free : goal.send_message-requires-clause-free
send_message-requires-clause-free g c = sym (c.is_refused.ensures c.args.words c.requires.asks) ∙ c.if-is_refused.false

pub send_message-requires-in-TrySendMessage-clause-free : goal.send_message-requires-in-TrySendMessage-clause-free
send_message-requires-in-TrySendMessage-clause-free g c = sym (c.is_refused.ensures c.args.words c.requires.asks) ∙ c.if-is_refused.false

pub receive_message-requires-clause-free : goal.receive_message-requires-clause-free
unfolding machine_of
receive_message-requires-clause-free g c =
    receiver_waits (machine_of g.W.SwapStore.held c.args.self.now) c.args.words
    (sym (c.is_refused.ensures c.args.words c.requires.asks) ∙ c.if-is_refused.false) c.in-ReceiveMessage.sid
    (subst (Asks c.args.words) c.in-ReceiveMessage.is c.requires.asks)

pub returns-in-SendMessage-clause-tells : goal.returns-in-SendMessage-clause-tells
returns-in-SendMessage-clause-tells g c =
    let m = machine_of g.W.SwapStore.held c.args.self.now in
    let free : is_refused_caller m c.args.words ≡ false = sym (c.is_refused.ensures c.args.words c.requires.asks) ∙ c.if-is_refused.false in
    tells_exactly g.W.SwapStore.held c.args.self.now c.send_message.new.self (call_settled m (call m c.args.words))
    (subst (λ o. Tells g.W.SwapStore.held c.args.self.now c.send_message.new.self (call_settled m o))
    (row_is m c.args.words free c.args.asked c.requires.asks) c.send_message.ensures.tells)

pub returns-in-TrySendMessage-clause-tells : goal.returns-in-TrySendMessage-clause-tells
returns-in-TrySendMessage-clause-tells g c =
    let m = machine_of g.W.SwapStore.held c.args.self.now in
    let free : is_refused_caller m c.args.words ≡ false = sym (c.is_refused.ensures c.args.words c.requires.asks) ∙ c.if-is_refused.false in
    tells_exactly g.W.SwapStore.held c.args.self.now c.send_message-in-TrySendMessage.new.self (call_settled m (call m c.args.words))
    (subst (λ o. Tells g.W.SwapStore.held c.args.self.now c.send_message-in-TrySendMessage.new.self (call_settled m o))
    (row_is m c.args.words free c.args.asked c.requires.asks) c.send_message-in-TrySendMessage.ensures.tells)

pub returns-in-ReceiveMessage-clause-tells : goal.returns-in-ReceiveMessage-clause-tells
returns-in-ReceiveMessage-clause-tells g c =
    let m = machine_of g.W.SwapStore.held c.args.self.now in
    let free : is_refused_caller m c.args.words ≡ false = sym (c.is_refused.ensures c.args.words c.requires.asks) ∙ c.if-is_refused.false in
    tells_exactly g.W.SwapStore.held c.args.self.now c.receive_message.new.self (call_settled m (call m c.args.words))
    (subst (λ o. Tells g.W.SwapStore.held c.args.self.now c.receive_message.new.self (call_settled m o))
    (receive_is m c.args.words free c.in-ReceiveMessage.sid (subst (Asks c.args.words) c.in-ReceiveMessage.is c.requires.asks)) c.receive_message.ensures.tells)

pub returns-in-TryReceiveMessage-clause-tells : goal.returns-in-TryReceiveMessage-clause-tells
returns-in-TryReceiveMessage-clause-tells g c =
    let m = machine_of g.W.SwapStore.held c.args.self.now in
    let free : is_refused_caller m c.args.words ≡ false = sym (c.is_refused.ensures c.args.words c.requires.asks) ∙ c.if-is_refused.false in
    tells_exactly g.W.SwapStore.held c.args.self.now c.receive_message-in-TryReceiveMessage.new.self (call_settled m (call m c.args.words))
    (subst (λ o. Tells g.W.SwapStore.held c.args.self.now c.receive_message-in-TryReceiveMessage.new.self (call_settled m o))
    (try_receive_is m c.args.words free c.in-TryReceiveMessage.sid (subst (Asks c.args.words) c.in-TryReceiveMessage.is c.requires.asks))
    c.receive_message-in-TryReceiveMessage.ensures.tells)

pub returns-in-ReturnMemory-clause-tells : goal.returns-in-ReturnMemory-clause-tells
returns-in-ReturnMemory-clause-tells g c =
    let m = machine_of g.W.SwapStore.held c.args.self.now in
    let free : is_refused_caller m c.args.words ≡ false = sym (c.is_refused.ensures c.args.words c.requires.asks) ∙ c.if-is_refused.false in
    tells_exactly g.W.SwapStore.held c.args.self.now c.give_back_message.new.self (call_settled m (call m c.args.words))
    (subst (λ o. Tells g.W.SwapStore.held c.args.self.now c.give_back_message.new.self (call_settled m o))
    (row_is m c.args.words free c.args.asked c.requires.asks) c.give_back_message.ensures.tells)

pub returns-in-ForwardMessage-clause-tells : goal.returns-in-ForwardMessage-clause-tells
returns-in-ForwardMessage-clause-tells g c =
    let m = machine_of g.W.SwapStore.held c.args.self.now in
    let free : is_refused_caller m c.args.words ≡ false = sym (c.is_refused.ensures c.args.words c.requires.asks) ∙ c.if-is_refused.false in
    tells_exactly g.W.SwapStore.held c.args.self.now c.forward_message.new.self (call_settled m (call m c.args.words))
    (subst (λ o. Tells g.W.SwapStore.held c.args.self.now c.forward_message.new.self (call_settled m o))
    (row_is m c.args.words free c.args.asked c.requires.asks) c.forward_message.ensures.tells)

-- ---- ends

pub returns-in-TerminateProcess-clause-tells : goal.returns-in-TerminateProcess-clause-tells
unfolding machine_of
returns-in-TerminateProcess-clause-tells g c =
    let m = machine_of g.W.SwapStore.held c.args.self.now in
    let free : is_refused_caller m c.args.words ≡ false = sym (c.is_refused.ensures c.args.words c.requires.asks) ∙ c.if-is_refused.false in
    tells_exactly g.W.SwapStore.held c.args.self.now c.terminate.new.self (call_settled m (call m c.args.words))
    (subst (λ o. Tells g.W.SwapStore.held c.args.self.now c.terminate.new.self (call_settled m o))
    (terminate_is m c.args.words free c.in-TerminateProcess.exit (subst (Asks c.args.words) c.in-TerminateProcess.is c.requires.asks)) c.terminate.ensures.tells)

pub returns-in-DestroyServer-clause-tells : goal.returns-in-DestroyServer-clause-tells
returns-in-DestroyServer-clause-tells g c =
    let m = machine_of g.W.SwapStore.held c.args.self.now in
    let free : is_refused_caller m c.args.words ≡ false = sym (c.is_refused.ensures c.args.words c.requires.asks) ∙ c.if-is_refused.false in
    tells_exactly g.W.SwapStore.held c.args.self.now c.destroy_server.new.self (call_settled m (call m c.args.words))
    (subst (λ o. Tells g.W.SwapStore.held c.args.self.now c.destroy_server.new.self (call_settled m o))
    (destroy_is m c.args.words free c.in-DestroyServer.sid (subst (Asks c.args.words) c.in-DestroyServer.is c.requires.asks)) c.destroy_server.ensures.tells)

-- ---- other calls

pub call_plain-requires : goal.call_plain-requires
call_plain-requires g c = record {
  calls = c.requires.calls;
  asks = c.requires.asks;
  free = sym (c.is_refused.ensures c.args.words c.requires.asks) ∙ c.if-is_refused.false;
  plain = others_plain c.args.words c.args.asked c.requires.asks
      (record {
        send = c.in_default.not-SendMessage;
        try_send = c.in_default.not-TrySendMessage;
        receive = c.in_default.not-ReceiveMessage;
        try_receive = c.in_default.not-TryReceiveMessage;
        return_memory = c.in_default.not-ReturnMemory;
        return_scalar1 = c.in_default.not-ReturnScalar1;
        return_scalar2 = c.in_default.not-ReturnScalar2;
        forward = c.in_default.not-ForwardMessage;
        terminate = c.in_default.not-TerminateProcess;
        destroy = c.in_default.not-DestroyServer;
      });
  room = omega arith;
}

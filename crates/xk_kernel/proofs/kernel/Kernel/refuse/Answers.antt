-- A refused caller is past its call and has the error.
use Rattle.std.proofs.Common.{[], ◌∷◌, refl, ◌∙◌}
use Rattle.machine_model.specs.State.Changes.{Refused, call_settled}
use Rattle.machine_model.specs.State.Threads.{answer_to, change_thread, give_answers, passed}
use Rattle.syscall_codec.specs.ReplyWords.{refused_words}
use Rattle.xk_base.specs.declared.records.What.TheVariants.{Reply}
use Rattle.xk_kernel.specs.State.{machine_of}
use Rattle.xk_kernel.specs.Telling.{log_with}
use Rattle.xk_kernel.proofs.Calling.SettleLemmas.{ready_there, refused_is, tells_so, there_past}
use Rattle.xk_kernel.proofs.kernel.Kernel.refuse.Goals as goal

pub answer-requires-clause-there : goal.answer-requires-clause-there
answer-requires-clause-there g c =
    there_past (machine_of g.W.SwapStore.held c.args.self.now) (machine_of g.W.SwapStore.held c.pass.new.self) c.args.self.now.cursor c.pass.ensures.machine
    (ready_there (machine_of g.W.SwapStore.held c.args.self.now) c.args.self.now.cursor c.requires.ready)

pub returns-clause-tells : goal.returns-clause-tells
unfolding machine_of
returns-clause-tells g c =
    let m = machine_of g.W.SwapStore.held c.args.self.now in
    let who = c.args.self.now.cursor in
    tells_so g.W.SwapStore.held c.args.self.now c.answer.new.self (call_settled m (Refused c.args.error))
    (give_answers (answer_to who (refused_words c.args.error)) (change_thread who passed m)) (Reply who (refused_words c.args.error) ∷ [])
    (refused_is m c.args.error (Refused c.args.error) c.requires.ready refl)
    (c.answer.ensures.tells.machine ∙ (λ i. give_answers (answer_to who (c.reply_words.ensures i)) (c.pass.ensures.machine i)))
    (c.answer.ensures.tells.log ∙ (λ i. log_with (Reply who (c.reply_words.ensures i) ∷ []) (c.pass.ensures.log i)))

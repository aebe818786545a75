-- Each outcome of a call leaves and tells what the machine makes of it.
use Rattle.std.proofs.Common.{[], ◌∷◌, is_some, refl, sym, ap, subst, ◌∙◌, Ok}
use Rattle.machine_model.specs.Calling.Calls.{call}
use Rattle.machine_model.specs.State.Changes.{answering, call_settled}
use Rattle.machine_model.specs.State.Machine.{Machine}
use Rattle.machine_model.specs.State.Threads.{answer_to, change_thread, give_answers, passed}
use Rattle.syscall_codec.specs.Replies.{words_of}
use Rattle.vm_memory.specs.Bytes.{MeansBytesOver}
use Rattle.xk_base.specs.Tables.Circle.{is_thread_id}
use Rattle.xk_base.specs.declared.records.What.TheVariants.{Reply}
use Rattle.xk_kernel.specs.Calling.{ServesAs}
use Rattle.xk_kernel.specs.State.{machine_of}
use Rattle.xk_kernel.specs.Telling.{log_with}
use Rattle.xk_kernel.specs.declared.kernel.calls.CallerFate.TheVariants.{Answered, Waits}
use Rattle.xk_kernel.proofs.Calling.CallerLemmas.{served_there}
use Rattle.xk_kernel.proofs.Calling.OverLemmas.{tells_over}
use Rattle.xk_kernel.proofs.Calling.SettleLemmas.{answered_is, ready_there, there_past, waits_is}
use Rattle.xk_kernel.proofs.Calling.TellingLemmas.{told_nothing}
use Rattle.xk_kernel.proofs.kernel.Kernel.call_plain.Goals as goal

pub answer-requires-clause-there : goal.answer-requires-clause-there
unfolding machine_of
answer-requires-clause-there g c =
    let m = machine_of g.W.SwapStore.held c.args.self.now in
    let next = machine_of g.W.SwapStore.held c.serve.new.self in
    let who = c.args.self.now.cursor in
    let serves : ServesAs (MeansBytesOver g.W.SwapStore c.args.self.now.mem c.serve.new.self.mem) who next (call m c.args.words) (Ok (Answered c.in-Ok-Answered.reply)) =
    subst (λ r. ServesAs (MeansBytesOver g.W.SwapStore c.args.self.now.mem c.serve.new.self.mem) who next (call m c.args.words) r) (c.in-Ok-Answered.is ∙ ap Ok (rw c.in-Ok-Answered.is at c.in-Ok-Answered.field-0-is))
    (c.in_ok-outcome.ensures.outcome c.args.words c.requires.asks) in
    there_past next (machine_of g.W.SwapStore.held c.pass.new.self) who c.pass.ensures.machine
    (ap (λ (x : Machine). is_some (x.threads who)) serves.comes.alike
    ∙ served_there m c.args.words (ready_there m who c.requires.calls.ready) (answering (answer_to who (words_of c.in-Ok-Answered.reply)) serves.target) c.requires.plain serves.is)

pub returns-in-Ok-Answered-clause-tells : goal.returns-in-Ok-Answered-clause-tells
unfolding machine_of
returns-in-Ok-Answered-clause-tells g c =
    let m = machine_of g.W.SwapStore.held c.args.self.now in
    let next = machine_of g.W.SwapStore.held c.serve.new.self in
    let who = c.args.self.now.cursor in
    let words = words_of c.in-Ok-Answered.reply in
    let serves : ServesAs (MeansBytesOver g.W.SwapStore c.args.self.now.mem c.serve.new.self.mem) who next (call m c.args.words) (Ok (Answered c.in-Ok-Answered.reply)) =
    subst (λ r. ServesAs (MeansBytesOver g.W.SwapStore c.args.self.now.mem c.serve.new.self.mem) who next (call m c.args.words) r) (c.in-Ok-Answered.is ∙ ap Ok (rw c.in-Ok-Answered.is at c.in-Ok-Answered.field-0-is))
    (c.in_ok-outcome.ensures.outcome c.args.words c.requires.asks) in
    tells_over g.W.SwapStore.held c.args.self.now c.answer.new.self (λ known. subst (λ mem. MeansBytesOver g.W.SwapStore c.args.self.now.mem mem) (c.answer.ensures.mem ∙ c.pass.ensures.mem) known)
    next serves.target serves.comes (λ x. give_answers (answer_to who words) (change_thread who passed x)) (λ x. refl)
    (call_settled m (call m c.args.words)) (Reply who words ∷ [])
    (answered_is m serves.target words (call m c.args.words)
    (ap (λ (x : Machine). is_thread_id x.processes who) (sym serves.comes.alike)
    ∙ ap (λ s. is_thread_id s.procs who) c.in_ok-outcome.ensures.leaves.keeps.size ∙ c.requires.calls.whole.cursor) serves.is)
    (c.answer.ensures.tells.machine ∙ (λ i. give_answers (answer_to who (c.reply_words.ensures i)) (c.pass.ensures.machine i)))
    (c.answer.ensures.tells.log ∙ (λ i. log_with (Reply who (c.reply_words.ensures i) ∷ []) ((c.pass.ensures.log ∙ c.in_ok-outcome.ensures.log) i)))

pub returns-in-Ok-Waits-clause-tells : goal.returns-in-Ok-Waits-clause-tells
unfolding machine_of
returns-in-Ok-Waits-clause-tells g c =
    let m = machine_of g.W.SwapStore.held c.args.self.now in
    let next = machine_of g.W.SwapStore.held c.serve.new.self in
    let who = c.args.self.now.cursor in
    let serves : ServesAs (MeansBytesOver g.W.SwapStore c.args.self.now.mem c.serve.new.self.mem) who next (call m c.args.words) (Ok Waits) =
    subst (λ r. ServesAs (MeansBytesOver g.W.SwapStore c.args.self.now.mem c.serve.new.self.mem) who next (call m c.args.words) r) (c.in-Ok-Waits.is ∙ ap Ok (rw c.in-Ok-Waits.is at c.in-Ok-Waits.field-0-is))
    (c.in_ok-outcome.ensures.outcome c.args.words c.requires.asks) in
    tells_over g.W.SwapStore.held c.args.self.now c.pass-in-Ok-Waits.new.self (λ known. subst (λ mem. MeansBytesOver g.W.SwapStore c.args.self.now.mem mem) (c.pass-in-Ok-Waits.ensures.mem) known)
    next serves.target serves.comes (change_thread who passed) (λ x. refl)
    (call_settled m (call m c.args.words)) []
    (waits_is m serves.target (call m c.args.words) serves.is) c.pass-in-Ok-Waits.ensures.machine
    (c.pass-in-Ok-Waits.ensures.log ∙ c.in_ok-outcome.ensures.log ∙ sym (told_nothing c.args.self.now.log))

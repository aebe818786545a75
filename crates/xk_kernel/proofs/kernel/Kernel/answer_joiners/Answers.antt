use Rattle.std.proofs.Common.{◌≡◌, ◌+◌, subst, sym, ◌∙◌, arith}
use Rattle.vm_memory.specs.Memory.{processes}
use Rattle.xk_base.proofs.CircleLemmas.{is_pid-bounds}
use Rattle.xk_kernel.proofs.Calling.AnsweringLemmas.{HasAnswered, answered_all, answered_none, answered_not, answered_one}
use Rattle.xk_kernel.proofs.kernel.Kernel.answer_joiners.Goals as goal
use Rattle.xk_kernel.proofs.kernel.Kernel.answer_joiners.Goals.{then-is_joining, else-is_joining}

pub loop-k-init : goal.loop-k-init
loop-k-init g c =
    answered_none g.W.SwapStore c.args.self.now c.args.who c.args.a0 c.requires.whole
    (is_pid-bounds (processes c.args.self.now.mem) c.args.who.pid.0 c.requires.pid).0

pub loop-k-preserved : goal.loop-k-preserved
loop-k-preserved g c =
    let high = (is_pid-bounds (processes c.args.self.now.mem) c.args.who.pid.0 c.requires.pid).0 in
    elim c.if-is_joining.branch [
      | then-is_joining w ↦
          subst (λ x. HasAnswered g.W.SwapStore c.args.self.now x c.args.who c.args.a0 (c.loop-k.k + 1)) (sym w.self-is)
          (answered_one g.W.SwapStore c.args.self.now c.args.who c.args.a0 c.loop-k.k c.loop-k.self c.loop-k.invariant high c.loop-k-test.true
          w.answer.new.self w.reply_words.result (sym c.is_joining.ensures ∙ w.if-is_joining.true) w.reply_words.ensures w.answer.ensures.whole w.answer.ensures.tells w.answer.ensures.mem)
      | else-is_joining w ↦
          subst (λ x. HasAnswered g.W.SwapStore c.args.self.now x c.args.who c.args.a0 (c.loop-k.k + 1)) (sym w.self-is)
          (answered_not g.W.SwapStore c.args.self.now c.args.who c.args.a0 c.loop-k.k c.loop-k.self c.loop-k.invariant high c.loop-k-test.true
          (sym c.is_joining.ensures ∙ w.if-is_joining.false))
    ]

pub returns-clause-tells : goal.returns-clause-tells
returns-clause-tells g c =
    let end : c.loop-k.k ≡ 31 = omega arith in
    answered_all g.W.SwapStore c.args.self.now c.args.who c.args.a0 c.loop-k.self c.requires.whole c.requires.pid
    (subst (λ k. HasAnswered g.W.SwapStore c.args.self.now c.loop-k.self c.args.who c.args.a0 k) end c.loop-k.invariant)

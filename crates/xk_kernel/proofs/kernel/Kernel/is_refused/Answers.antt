use Rattle.std.proofs.Common.{sym, ap, ◌∙◌}
use Rattle.std.specs.Prelude.{◌==◌, ◌&&◌}
use Rattle.std.proofs.lemmas.Bool.{ne_eqb}
use Rattle.syscall_codec.specs.CallWords.{is_refused_to_handler}
use Rattle.xk_kernel.specs.State.{machine_of}
use Rattle.xk_kernel.proofs.kernel.Kernel.is_refused.Goals as goal

-- src/kernel/calls.rt
pub returns-then-self-eq1 : goal.returns-then-self-eq1
unfolding machine_of
returns-then-self-eq1 g c words asks =
    c.can_wait.ensures words asks ∙ sym (ap (λ n. n == 1 && is_refused_to_handler words) c.if-self-eq1.true)

pub returns-else-self-eq1 : goal.returns-else-self-eq1
unfolding machine_of
returns-else-self-eq1 g c words asks =
    ne_eqb c.args.self.now.cursor.tid.0 1 c.if-self-eq1.false
    ∙ sym (ap (λ b. b && is_refused_to_handler words) (ne_eqb c.args.self.now.cursor.tid.0 1 c.if-self-eq1.false))

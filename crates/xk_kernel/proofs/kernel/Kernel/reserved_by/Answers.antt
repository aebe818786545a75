-- The address is reserved by the thread where it is the one that holds the reservation.
use Rattle.std.proofs.Common.{◌≡◌, subst, sym, ◌∙◌}
use Rattle.xk_base.specs.Tables.Circle.{same_thread}
use Rattle.xk_base.specs.declared.ids.ThreadId.{ThreadId}
use Rattle.xk_kernel.specs.State.{machine_of}
use Rattle.xk_kernel.proofs.Running.RunLemmas.{nothing_reserved, reserved_by_another, reserved_own}
use Rattle.xk_kernel.proofs.kernel.Kernel.reserved_by.Goals as goal

pub returns-in-Some : goal.returns-in-Some
unfolding machine_of
returns-in-Some g c =
    let is : c.eq.result ≡ same_thread c.in-Some.holder c.args.who = subst (λ (h : ThreadId). c.eq.result ≡ same_thread h c.args.who) c.in-Some.holder-is c.eq.ensures in
    reserved_own c.args.who c.in-Some.holder c.in-Some.address c.args.self.now.reserved c.in-Some.is (sym is ∙ c.if-eq.true)

pub returns-in_default : goal.returns-in_default
unfolding machine_of
returns-in_default g c =
    let is : c.eq.result ≡ same_thread c.in-Some.holder c.args.who = subst (λ (h : ThreadId). c.eq.result ≡ same_thread h c.args.who) c.in-Some.holder-is c.eq.ensures in
    reserved_by_another c.args.who c.in-Some.holder c.in-Some.address c.args.self.now.reserved c.in-Some.is (sym is ∙ c.if-eq.false)

pub returns-in_default-2 : goal.returns-in_default-2
unfolding machine_of
returns-in_default-2 g c = nothing_reserved c.args.who c.args.self.now.reserved c.in_default.is

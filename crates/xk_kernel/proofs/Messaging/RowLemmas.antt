-- A call on messages is its row: what the kernel becomes and tells is what settles of it. One that isn't done leaves the kernel.
use Rattle.std.proofs.Common.{◌≡◌, sym, ap, subst, ◌∙◌}
use Rattle.machine_model.specs.State.Changes.{Outcome, call_settled}
use Rattle.machine_model.specs.State.Machine.{Machine}
use Rattle.send_path.specs.Rows.{IsServed}
use Rattle.sv32_space.specs.Tie.{Held}
use Rattle.xk_base.specs.Log.{LogState}
use Rattle.xk_kernel.specs.State.{machine_of}
use Rattle.xk_kernel.specs.Telling.{Tells}
use Rattle.xk_kernel.specs.declared.kernel.Kernel.{Kernel}

module _ {W : Type 0} (held : W → Held) (k : Kernel W) (row : Machine → Outcome) where
  -- what settles of the row
  abbrev pub settles : Kernel W → Type 0
  settles new = Tells held k new (call_settled (machine_of held k) (row (machine_of held k)))

  -- it was served
  pub served_settles : (new : Kernel W) (before after : Machine) → before ≡ machine_of held k → after ≡ machine_of held new
      → IsServed (row before) before after k.log new.log → settles new
  served_settles new before after was is served =
      let moved : IsServed (row (machine_of held k)) (machine_of held k) (machine_of held new) k.log new.log =
      subst (λ (b : Machine). IsServed (row b) b (machine_of held new) k.log new.log) was
      (subst (λ (a : Machine). IsServed (row before) before a k.log new.log) is served) in
      record { machine = moved.machine; log = moved.log }

  -- it wasn't done, and that was settled
  pub undone_settles : (mid new : Kernel W) (before : Machine) (o : Outcome) → mid ≡ k → before ≡ machine_of held k → row before ≡ o
      → Tells held mid new (call_settled (machine_of held mid) o) → settles new
  undone_settles mid new before o same was is tells =
      subst (λ (x : Outcome). Tells held k new (call_settled (machine_of held k) x)) (sym is ∙ ap row was)
      (subst (λ (m : Kernel W). Tells held m new (call_settled (machine_of held m) o)) same tells)

-- the room of the log stays
pub served_room : {o : Outcome} {before after : Machine} {old new : LogState} → IsServed o before after old new → new.room ≡ old.room
served_room served = ap (λ (log : LogState). log.room) served.log

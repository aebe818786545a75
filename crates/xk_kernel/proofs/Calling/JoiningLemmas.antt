-- Whether a thread of the table waits for the end of another.
use Rattle.std.proofs.Common.{◌≡◌, false, Option, Some, None, refl, sym, ap, ◌∙◌}
use Rattle.std.specs.Prelude.{◌==◌}
use Rattle.std.specs.Option.{option_map, option_map_or}
use Rattle.machine_model.specs.Ending.Ends.{is_joining}
use Rattle.sv32_space.specs.Tie.{Held}
use Rattle.thread_table.specs.Shown.{threads_of}
use Rattle.thread_table.specs.declared.thread.Thread.{Thread as TableThread}
use Rattle.thread_table.specs.declared.thread.ThreadState.{ThreadState as TableState}
use Rattle.thread_table.specs.declared.thread.ThreadState.TheVariants as table
use Rattle.xk_base.specs.declared.ids.ThreadId.{ThreadId}
use Rattle.xk_base.specs.declared.ids.Tid.{Tid}
use Rattle.xk_parts.specs.Shown.{state_of, thread_of}
use Rattle.xk_kernel.specs.State.{machine_of}
use Rattle.xk_kernel.specs.declared.kernel.Kernel.{Kernel}

pub joining_at : {W : Type 0} (held : W → Held) (k : Kernel W) (id : ThreadId) (tid : Tid) (o : Option TableThread) → threads_of k.threads id ≡ o
    → option_map_or (λ t. is_joining tid (thread_of t).state) o false ≡ option_map_or (λ t. is_joining tid t.state) ((machine_of held k).threads id) false
unfolding machine_of
joining_at held k id tid o e = through o ∙ sym (ap (λ x. option_map_or (λ t. is_joining tid t.state) (option_map thread_of x) false) e)
  where
    through : (o : Option TableThread) → option_map_or (λ t. is_joining tid (thread_of t).state) o false ≡ option_map_or (λ t. is_joining tid t.state) (option_map thread_of o) false
    through None = refl
    through (Some t) = refl

pub joins : (tid awaited : Tid) (s : TableState) → s ≡ table.Joining awaited → (awaited.0 == tid.0) ≡ is_joining tid (state_of s)
joins tid awaited s e = sym (ap (λ x. is_joining tid (state_of x)) e)

pub joins_not : (tid : Tid) (s : TableState) → ((awaited : Tid) → s ≡ table.Joining awaited → ⊥) → false ≡ is_joining tid (state_of s)
joins_not tid table.Ready h = refl
joins_not tid (table.Receiving serial) h = refl
joins_not tid (table.Waiting number) h = refl
joins_not tid (table.Joining other) h = absurd (h other refl)
joins_not tid table.Idle h = refl

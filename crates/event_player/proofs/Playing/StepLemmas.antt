-- A step of a kernel, as a run stands before and after it.
use Rattle.xk_ports.specs.declared.store.SwapStore.{Ghosts as SwapStore}
use Rattle.std.proofs.Common.{◌≡◌, ◌≢◌, ◌⊎◌, ◌∙◌, inl, inr, ℕ, Bool, true, false, List, refl, sym, subst}
use Rattle.std.proofs.lemmas.Bool.{false≢true}
use Rattle.machine_model.specs.Stepping.Step.{step}
use Rattle.sv32_space.specs.Tie.{Held}
use Rattle.vm_memory.specs.Bytes.{none_out}
use Rattle.xk_base.specs.declared.records.Rec.{Rec}
use Rattle.xk_kernel.specs.Knowing.{KnowsBytes}
use Rattle.xk_kernel.specs.Moments.{Stood}
use Rattle.xk_kernel.specs.Sound.{IsSound, IsUsable, Keeps}
use Rattle.xk_kernel.specs.State.{machine_of}
use Rattle.xk_kernel.specs.Stepping.{CountsStep, DoesStep, MayExchange, last_of}
use Rattle.xk_kernel.specs.declared.kernel.Kernel.{Kernel}
use Rattle.xk_kernel.specs.declared.kernel.Stepped.TheVariants.{Did}
use Rattle.event_player.specs.declared.telling.Telling.{Telling}
use Rattle.event_player.specs.Gathering.{Gathers, GathersPart, Text}
use Rattle.event_player.specs.Rooms.{IsFull}
use Rattle.event_player.specs.Standing.{room_in, stand}
use Rattle.event_player.specs.Telling.{told}
use Rattle.event_player.proofs.Playing.GatheringLemmas.{gathers_silent}
use Rattle.event_player.proofs.Playing.StandingLemmas.{near_knows, room_stays, trust_stays, trusted_knows}
use Rattle.event_player.proofs.Playing.StoodLemmas.{stood_here, stood_since}
use Rattle.event_player.proofs.Playing.TickLemmas.{DoesOne, FailsOne, StepsTo}

-- where no page is out before, none is out after, or the state after the step has more pages than there are frames for
pub near_or_full : {W : Type 0} (held : W → Held) (old new : Kernel W) (P : Type 0) → (none_out new.mem ≡ false → MayExchange held old) → none_out old.mem ≡ true
    → (none_out new.mem ≡ true → P) → ((none_out new.mem ≡ true) × P) ⊎ IsFull (room_in old) (step (machine_of held old)).machine
near_or_full held old new P out near known = go (none_out new.mem) refl
  where
    crowd : MayExchange held old → ((none_out new.mem ≡ true) × P) ⊎ IsFull (room_in old) (step (machine_of held old)).machine
    crowd (inl is) = absurd (false≢true (sym is ∙ near))
    crowd (inr full) = inr full

    go : (b : Bool) → none_out new.mem ≡ b → ((none_out new.mem ≡ true) × P) ⊎ IsFull (room_in old) (step (machine_of held old)).machine
    go true is = inl (is, known is)
    go false is = crowd (out is)

-- where a step may fail, no page was out only where the state after it has more pages than there are frames for
pub full_where_near : {W : Type 0} (held : W → Held) (old : Kernel W) → MayExchange held old → none_out old.mem ≡ true → IsFull (room_in old) (step (machine_of held old)).machine
full_where_near held old (inl is) near = absurd (false≢true (sym is ∙ near))
full_where_near held old (inr full) near = full

pub step_does : {W : Type 0} {S : SwapStore W} {old new : Kernel W} (tells : Telling) (limit : ℕ) (before after : Text)
    → IsSound S old → IsUsable old → Keeps S old new → CountsStep S.held old new Did → (machine_of S.held old).steps ≢ limit
    → (KnowsBytes S old new → DoesStep S.held old new Did) → (none_out new.mem ≡ false → MayExchange S.held old)
    → Gathers before after (told tells (last_of new))
    → DoesOne (Stood S old) (Stood S new) tells limit (stand S old before) (stand S new after)
step_does {S = S} {old = old} {new = new} tells limit before after sound usable keeps counts more does out gathered = record {
  here = stood_here sound usable;
  since = stood_since keeps;
  actor = counts.0;
  more = more;
  trust = trust_stays keeps;
  room = room_stays keeps;
  trusted = λ trusted. exact (does (trusted_knows keeps trusted));
  near = λ near. near_or_full S.held old new (StepsTo tells (stand S old before) (stand S new after)) out near (λ after. exact (does (near_knows S old new near after)));
  silent = gathers_silent tells before after (last_of new) gathered;
}
  where
    exact : DoesStep S.held old new Did → StepsTo tells (stand S old before) (stand S new after)
    exact done = record {
      machine = done.1.machine;
      gathered = (let G : List Rec → Type 0 = λ records. Gathers before after (told tells records) in subst G done.1.records gathered);
    }

pub step_unwritten : {W : Type 0} {S : SwapStore W} {old new : Kernel W} (tells : Telling) (limit : ℕ) (before after : Text)
    → Keeps S old new → CountsStep S.held old new Did → (machine_of S.held old).steps ≢ limit
    → (KnowsBytes S old new → DoesStep S.held old new Did) → (none_out new.mem ≡ false → MayExchange S.held old)
    → GathersPart before after (told tells (last_of new))
    → FailsOne tells limit (stand S old before) (stand S new after)
step_unwritten {S = S} {old = old} {new = new} tells limit before after keeps counts more does out part = record {
  actor = counts.0;
  more = more;
  trusted = λ trusted. exact (does (trusted_knows keeps trusted));
  near = λ near. near_or_full S.held old new (GathersPart before after (told tells (step (machine_of S.held old)).records)) out near (λ after. exact (does (near_knows S old new near after)));
}
  where
    exact : DoesStep S.held old new Did → GathersPart before after (told tells (step (machine_of S.held old)).records)
    exact done = let G : List Rec → Type 0 = λ records. GathersPart before after (told tells records) in subst G done.1.records part

-- the steps are those of the machine
pub steps_shown : {W : Type 0} (held : W → Held) (k : Kernel W) → (machine_of held k).steps ≡ k.steps
unfolding machine_of
steps_shown held k = refl

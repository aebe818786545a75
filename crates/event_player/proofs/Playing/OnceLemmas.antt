-- An event without steps.
use Rattle.std.proofs.Common.{◌≡◌, ◌⊎◌, inl, inr, ℕ, true, Ok, Err, refl, sym, ap, subst, ◌∙◌}
use Rattle.xk_base.specs.declared.events.Event.{Event}
use Rattle.xk_base.specs.declared.events.Event.TheVariants.{Pick, Irq, Kill}
use Rattle.xk_base.specs.declared.ids.Pid.{Pid}
use Rattle.xk_base.specs.declared.ids.Tid.{Tid}
use Rattle.machine_model.specs.State.Machine.{Machine}
use Rattle.machine_laws.specs.History as kernel
use Rattle.machine_laws.specs.HistoryMoments.{event_moments}
use Rattle.xk_kernel.specs.Moments.{Throughout}
use Rattle.xk_kernel.specs.Stepping.{event_done}
use Rattle.event_player.specs.declared.telling.Telling.{Telling}
use Rattle.event_player.specs.declared.ending.Ending.TheVariants.{Played}
use Rattle.event_player.specs.declared.events.PlayFault.TheVariants.{Write}
use Rattle.event_player.specs.Gathering.{Gathers, GathersPart}
use Rattle.event_player.specs.History.{with_ending}
use Rattle.event_player.specs.Playing.{Comes, Plays}
use Rattle.event_player.specs.Standing.{Stand}
use Rattle.event_player.specs.Telling.{told}
use Rattle.event_player.proofs.Playing.GatheringLemmas.{gathers_silent}
use Rattle.event_player.proofs.Playing.HistoryLemmas.{gathered_same, part_same, play_other}
use Rattle.event_player.proofs.Playing.StoodLemmas.{through_irq, through_kill, through_pick}

abbrev pub IsOther : Event → Type 0
IsOther event = ((pid : Pid) × (tid : Tid) × (event ≡ Pick pid tid)) ⊎ (((k : ℕ) × (event ≡ Irq k)) ⊎ ((pid : Pid) × (event ≡ Kill pid)))

through_once : (P : Machine → Type 0) (event : Event) (limit : ℕ) (m next : Machine) → IsOther event → P m → next ≡ (event_done event m).machine → P next
    → Throughout P m (event_moments event limit m)
through_once P event limit m next (inl (pid, tid, is)) here there stood =
    let A : Event → Type 0 = λ e. next ≡ (event_done e m).machine → Throughout P m (event_moments e limit m) in
    subst A (sym is) (λ to. through_pick P pid tid limit m next here to stood) there
through_once P event limit m next (inr (inl (k, is))) here there stood =
    let A : Event → Type 0 = λ e. next ≡ (event_done e m).machine → Throughout P m (event_moments e limit m) in
    subst A (sym is) (λ to. through_irq P k limit m next here to stood) there
through_once P event limit m next (inr (inr (pid, is))) here there stood =
    let A : Event → Type 0 = λ e. next ≡ (event_done e m).machine → Throughout P m (event_moments e limit m) in
    subst A (sym is) (λ to. through_kill P pid limit m next here to stood) there

pub plays_once : (P : Machine → Type 0) (tells : Telling) (event : Event) (limit : ℕ) (old new : Stand) → P old.machine → P new.machine → IsOther event
    → new.machine ≡ (event_done event old.machine).machine → (old.near ≡ true → new.near ≡ true)
    → Gathers old.text new.text (told tells (event_done event old.machine).records) → Plays P tells event limit old new (Ok Played)
plays_once P tells event limit old new here stood other there stays gathered = record {
  trusted = λ trusted. comes;
  near = λ near. inl (stays near, comes);
  ends = tt;
  silent = gathers_silent tells old.text new.text (event_done event old.machine).records gathered;
}
  where
    is : kernel.play event limit old.machine ≡ kernel.reached (event_done event old.machine)
    is = play_other event limit old.machine other

    comes : Comes P tells event limit old new (Ok Played)
    comes = (
      gathered_same tells old.text new.text _ _ Played (ap (with_ending Played) is) (refl, gathered),
      there ∙ sym (ap (λ (h : kernel.History). h.machine) is),
      through_once P event limit old.machine new.machine other here there stood,
    )

pub plays_once_unwritten : (P : Machine → Type 0) (tells : Telling) (event : Event) (limit : ℕ) (old new : Stand) → IsOther event
    → (old.near ≡ true → new.near ≡ true) → GathersPart old.text new.text (told tells (event_done event old.machine).records)
    → Plays P tells event limit old new (Err Write)
plays_once_unwritten P tells event limit old new other stays part =
    record { trusted = λ trusted. comes; near = λ near. inl (stays near, comes); ends = tt; silent = tt }
  where
    comes : Comes P tells event limit old new (Err Write)
    comes = part_same tells old.text new.text _ _ (ap (with_ending Played) (play_other event limit old.machine other)) part

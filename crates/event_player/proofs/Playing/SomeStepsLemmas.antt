-- What is told of a history up to a step limit that it meets.
use Rattle.std.proofs.Common.{◌≡◌, ◌≢◌, ◌≤◌, ◌∙◌, ℕ, Bool, true, false, List, ◌++◌, Option, Some, None, refl, sym, ap, append_assoc}
use Rattle.std.specs.Prelude.{if◌then◌else◌}
use Rattle.std.proofs.lemmas.Grind.{flat_map-append}
use Rattle.event_text.specs.EventFile.{Input, input_of}
use Rattle.machine_model.specs.State.Machine.{Machine}
use Rattle.machine_laws.specs.History as kernel
use Rattle.machine_laws.specs.History.{history}
use Rattle.event_player.specs.declared.telling.Telling.{Telling}
use Rattle.event_player.specs.declared.ending.Ending.{Ending}
use Rattle.event_player.specs.declared.ending.Ending.TheVariants.{LimitMet}
use Rattle.event_player.specs.History.{end_of, history_of, with_ending, run_of}
use Rattle.event_player.specs.Telling.{closing, output, told, told_of}
use Rattle.event_player.proofs.Playing.StepLimitLemmas.{met_records_first}

met_of : (last : Ending) (h : kernel.History) → (with_ending last h).ending ≡ LimitMet → last ≢ LimitMet → h.met ≡ true
met_of last h is other = go h.met refl
  where
    go : (b : Bool) → h.met ≡ b → h.met ≡ true
    go true e = e
    go false e = absurd (other (sym (ap (λ (met : Bool). if met then LimitMet else last) e) ∙ is))

no_limit : (bad : Option ℕ) → end_of bad ≢ LimitMet
no_limit None = λ e. cc
no_limit (Some line) = λ e. cc

-- what is told of so many steps is a front of what is told of all
pub some_first : (tells : Telling) (done limit : ℕ) (start : Machine) (input : Input) → done ≤ limit → (history_of input done start).ending ≡ LimitMet
    → (rest : List ℕ) × (told tells (history_of input limit start).records ≡ told tells (history_of input done start).records ++ rest)
some_first tells done limit start input within met =
    let first = met_records_first input.events done limit start within (met_of (end_of input.bad) (history input.events done start) met (no_limit input.bad)) in (
      told tells first.0,
      ap (told tells) first.1 ∙ flat_map-append (told_of tells) (history input.events done start).records first.0,
    )

-- .. and of all that is written
pub some_steps_first : (tells : Telling) (events : List ℕ) (machine : Machine) (done limit : ℕ) → done ≤ limit → (run_of done machine events).ending ≡ LimitMet
    → (rest : List ℕ) × (output tells (run_of limit machine events) ≡ told tells (run_of done machine events).records ++ rest)
some_steps_first tells events machine done limit within met =
    let h = run_of limit machine events in
    let first = some_first tells done limit machine (input_of events) within met in (
      first.0 ++ closing tells h.machine h.ending,
      ap (λ (text : List ℕ). text ++ closing tells h.machine h.ending) first.1 ∙ append_assoc (told tells (run_of done machine events).records) first.0 (closing tells h.machine h.ending),
    )

-- The run over two event files behind one another is that over the first, followed by that over the second from the last state of the first.
use Rattle.std.proofs.Common.{◌≡◌, ◌∙◌, ap, sym, subst, refl, ℕ, ◌+◌, Bool, true, false, List, ◌++◌, length, Option, Some, None, append_assoc}
use Rattle.std.specs.Prelude.{if◌then◌else◌}
use Rattle.std.specs.Option.{option_map}
use Rattle.std.proofs.lemmas.Grind.{flat_map-append}
use Rattle.event_text.specs.EventFile.{Input, input_of}
use Rattle.event_text.specs.Joined.{CanJoin, counted_on}
use Rattle.event_text.specs.Lines.{lines_of}
use Rattle.event_text.specs.Plays.{with_events}
use Rattle.event_text.proofs.JoinedLemmas.{files_joined}
use Rattle.machine_model.specs.State.Machine.{Machine}
use Rattle.machine_laws.specs.History as kernel
use Rattle.machine_laws.proofs.Histories.HistoryLemmas.{history_append}
use Rattle.xk_base.specs.declared.records.Rec.{Rec}
use Rattle.event_player.specs.declared.ending.Ending.{Ending}
use Rattle.event_player.specs.declared.ending.Ending.TheVariants.{Played, LimitMet, BadLine}
use Rattle.event_player.specs.declared.telling.Telling.TheVariants.{Trace}
use Rattle.event_player.specs.History.{History, end_of, history_of, run_of}
use Rattle.event_player.specs.Telling.{closing, output, told, told_of}
use Rattle.xous_program.specs.Outcome.Said.{status_of}
use Rattle.program_laws.specs.Resumed.{IsJoined}
use Rattle.xous_program.specs.Outcome.SuspendedCalls.{behind_lines}
use Rattle.program_laws.proofs.ResumedLemmas.{unmet_joined}

-- ---- endings

-- where all lines were played, no line is bad, and the limit isn't met
played_parts : (met : Bool) (bad : Option ℕ) → (if met then LimitMet else end_of bad) ≡ Played → (met ≡ false) × (bad ≡ None)
played_parts false None e = (refl, refl)
played_parts true bad e = absurd (let differ : LimitMet ≡ Played = e in cc)
played_parts false (Some line) e = absurd (let differ : BadLine line ≡ Played = e in cc)

-- an ending behind so many lines
abbrev pub ending_behind : ℕ → Ending → Ending
ending_behind lines Played = Played
ending_behind lines LimitMet = LimitMet
ending_behind lines (BadLine line) = BadLine (line + lines)

ending_counted : (lines : ℕ) (met : Bool) (bad : Option ℕ)
    → (if met then LimitMet else end_of (option_map (λ line. line + lines) bad)) ≡ ending_behind lines (if met then LimitMet else end_of bad)
ending_counted lines true bad = refl
ending_counted lines false None = refl
ending_counted lines false (Some line) = refl

pub status_behind : (lines limit : ℕ) (ending : Ending) → status_of limit (ending_behind lines ending) ≡ behind_lines lines (status_of limit ending)
status_behind lines limit Played = refl
status_behind lines limit LimitMet = refl
status_behind lines limit (BadLine line) = refl

closing_behind : (lines : ℕ) (m : Machine) (ending : Ending) → closing Trace m (ending_behind lines ending) ≡ closing Trace m ending
closing_behind lines m Played = refl
closing_behind lines m LimitMet = refl
closing_behind lines m (BadLine line) = refl

-- ---- runs

-- a history and then another, which ends so many lines behind
pub record IsBehind (lines : ℕ) (whole first second : History) : Type 0 where
  pub records : whole.records ≡ first.records ++ second.records
  pub machine : whole.machine ≡ second.machine
  pub ending : whole.ending ≡ ending_behind lines second.ending

module _ (before after : List ℕ) (join : CanJoin before after) (limit : ℕ) (m : Machine) (played : (run_of limit m before).ending ≡ Played) where
  abbrev one : Input
  one = input_of before

  abbrev two : Input
  two = input_of after

  abbrev ran : kernel.History
  ran = kernel.history one.events limit m

  parts : (ran.met ≡ false) × (one.bad ≡ None)
  parts = played_parts ran.met one.bad played

  joined : IsJoined (kernel.history (one.events ++ two.events) limit m) ran (kernel.history two.events limit ran.machine)
  joined =
      subst (λ (whole : kernel.History). IsJoined whole ran (kernel.history two.events limit ran.machine)) (sym (history_append one.events two.events limit m))
      (unmet_joined ran (kernel.history two.events limit) parts.0)

  counted : IsBehind (length (lines_of before)) (history_of (with_events one.events (counted_on (length (lines_of before)) two)) limit m)
      (run_of limit m before) (run_of limit (run_of limit m before).machine after)
  counted = record {
    records = joined.records;
    machine = joined.last;
    ending =
        ap (λ (met : Bool). if met then LimitMet else end_of (option_map (λ line. line + length (lines_of before)) two.bad)) joined.met
        ∙ ending_counted (length (lines_of before)) (kernel.history two.events limit ran.machine).met two.bad;
  }

  pub runs_behind : IsBehind (length (lines_of before)) (run_of limit m (before ++ after)) (run_of limit m before)
      (run_of limit (run_of limit m before).machine after)
  runs_behind =
      subst (λ (input : Input). IsBehind (length (lines_of before)) (history_of input limit m) (run_of limit m before)
      (run_of limit (run_of limit m before).machine after)) (sym (files_joined before after join parts.1)) counted

-- what `trace` tells of it
pub told_behind : (lines : ℕ) (whole first second : History) → IsBehind lines whole first second
    → output Trace whole ≡ told Trace first.records ++ output Trace second
told_behind lines whole first second is =
    let more = told Trace second.records in
    let last = closing Trace second.machine second.ending in
    ap (λ (records : List Rec). told Trace records ++ closing Trace whole.machine whole.ending) is.records
    ∙ (ap (λ (m : Machine). told Trace (first.records ++ second.records) ++ closing Trace m whole.ending) is.machine
    ∙ (ap (λ (ending : Ending). told Trace (first.records ++ second.records) ++ closing Trace second.machine ending) is.ending
    ∙ (ap (λ (text : List ℕ). told Trace (first.records ++ second.records) ++ text) (closing_behind lines second.machine second.ending)
    ∙ (ap (λ (text : List ℕ). text ++ last) (flat_map-append (told_of Trace) first.records second.records)
    ∙ append_assoc (told Trace first.records) more last))))

use Rattle.std.specs.List.{slice_get}
use Rattle.std.specs.Option.{option_map}
use Rattle.xk_parts.specs.Shown.{processes_shown}
use Rattle.suspend_image.specs.Words.{word}
use Rattle.xk_base.specs.declared.ids.Serial.{Serial}
use Rattle.save_path.proofs.SheetLemmas.{HasWritten}
use Rattle.save_path.proofs.processes.write_process.Given as goal

-- the serials so far were appended
abbrev pub invariant-loop-k : goal.invariant-loop-k
invariant-loop-k l =
    HasWritten word 4 (λ j. option_map (λ (s : Serial). s.0) (slice_get (processes_shown l.procs l.pid.0).connections j)) l.k l.initial.sheet l.sheet l.k

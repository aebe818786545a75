-- Complete calls that play the same events on setups of one capacity end alike.
use Rattle.std.proofs.Common.{◌≡◌, ◌∙◌, ap, sym, subst, ℕ, List}
use Rattle.event_player.specs.History.{History, run_of}
use Rattle.event_player.specs.Telling.{output}
use Rattle.xk_ports.specs.Told.{Grows}
use Rattle.xous_program.specs.Headline.{IsComplete, SwappingIsInvisible}
use Rattle.xous_program.specs.Outcome.Said.{status_of}
use Rattle.xous_program.specs.Outcome.SplitCalls.{EndAlike, IsOneCapacity, TwoSplits}
use Rattle.xous_program.specs.Words.{Plays}
use Rattle.program_laws.proofs.CompleteLemmas.{out_of}
use Rattle.program_laws.proofs.Splitting.SplitLemmas.{splits_play_alike}

calls_end_alike : (two : TwoSplits) → IsOneCapacity two → IsComplete (Plays two.play) two.call → IsComplete (Plays two.twin) two.answer
    → EndAlike two.call two.answer
calls_end_alike two is complete twin_complete =
    let a = out_of two.one two.events two.play two.call is.plays complete in
    let b = out_of two.other two.events two.twin two.answer is.twin_plays twin_complete in
    let same : run_of two.play.limit a.machine two.events ≡ run_of two.twin.limit b.machine two.events =
    splits_play_alike two.one two.other a.machine b.machine two.events two.play.limit is.capacity a.boots b.boots
    ∙ ap (λ (l : ℕ). run_of l b.machine two.events) is.limit in
    let text : output two.twin.tells (run_of two.twin.limit b.machine two.events) ≡ output two.play.tells (run_of two.play.limit a.machine two.events) =
    ap (λ t. output t (run_of two.twin.limit b.machine two.events)) (sym is.tells) ∙ ap (output two.play.tells) (sym same) in
    record {
      status =
          a.status ∙ ap (λ (h : History). status_of two.play.limit h.ending) same
          ∙ ap (λ (l : ℕ). status_of l (run_of two.twin.limit b.machine two.events).ending) is.limit ∙ sym b.status;
      text = output two.play.tells (run_of two.play.limit a.machine two.events);
      written = a.written;
      other_written = subst (λ (bytes : List ℕ). Grows two.answer.out.written two.answer.out.written_after bytes) text b.written;
    }

pub swapping_invisible : SwappingIsInvisible
swapping_invisible = calls_end_alike

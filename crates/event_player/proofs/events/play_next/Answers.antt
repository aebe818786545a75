use Rattle.std.proofs.Common.{◌≡◌, ◌∙◌, sym, ap, subst, rules, Result, Ok}
use Rattle.event_text.specs.Held.{Reader}
use Rattle.xk_kernel.specs.Moments.{Stood}
use Rattle.event_text.specs.Plays.{events_in}
use Rattle.event_text.specs.declared.event.NextEvent.{NextEvent}
use Rattle.event_text.proofs.PlayLemmas.{left_end, next_finished}
use Rattle.event_player.specs.declared.ending.Ending.{Ending}
use Rattle.event_player.specs.declared.ending.Ending.TheVariants.{Played}
use Rattle.event_player.specs.declared.events.Advance.{Advance}
use Rattle.event_player.specs.declared.events.Advance.TheVariants.{Ended}
use Rattle.event_player.specs.declared.events.PlayFault.{PlayFault}
use Rattle.event_player.specs.Gathering.{text}
use Rattle.event_player.specs.Playing.{HasPlayed, Plays, run_from}
use Rattle.event_player.specs.Standing.{Stand, stand}
use Rattle.event_player.proofs.Playing.EndingLemmas.{advances_err, ends_bad, ends_event, ends_whole, fails_event}
use Rattle.event_player.proofs.Playing.RestLemmas.{plays_since}
use Rattle.event_player.proofs.Playing.PlayingLemmas.{played_event, played_no_event}
use Rattle.event_player.proofs.Playing.StandingLemmas.{room_stays, trust_stays}
use Rattle.event_player.proofs.Playing.StoodLemmas.{stood_since}
use Rattle.event_player.proofs.events.play_next.Goals as goal

pub returns-in_err-ending-in-Event-clause-advances : goal.returns-in_err-ending-in-Event-clause-advances
returns-in_err-ending-in-Event-clause-advances g c = λ first start begun taken since p.
    let r : Reader = c.args.reader.now in
    let old : Stand = stand g.W.SwapStore c.args.kernel.now (text (g.K.Sink.written c.args.out.now) c.args.held.now.items) in
    let new : Stand = stand g.W.SwapStore c.play_event.new.kernel (text (g.K.Sink.written c.play_event.new.out) c.play_event.new.held.items) in
    let run = run_from g.W.SwapStore first c.args.tells c.args.limit start begun in
    let keeps = c.play_event.ensures.serves.keeps in
    advances_err run taken r.finished c.next.new.self new c.from_residual.result _ c.from_residual.ensures.1
    (fails_event run old new taken r c.in-Event.event _ (sym c.in-Event.ensures.answer) (trust_stays keeps) (room_stays keeps)
    (plays_since (Stood g.W.SwapStore first) (Stood g.W.SwapStore c.args.kernel.now) c.args.tells c.in-Event.event c.args.limit old new _ (stood_since since)
    c.in_err-ending-in-Event.ensures.plays) p)

pub returns-in_err-ending-in-Event-clause-answers : goal.returns-in_err-ending-in-Event-clause-answers
returns-in_err-ending-in-Event-clause-answers g c =
    let kept : c.next.new.self.finished ≡ c.args.reader.now.finished = ap (λ (r : Reader). r.finished) c.next.ensures.after ∙ next_finished c.args.reader.now in
    search (rules, kept)

pub returns-in-Played-clause-advances : goal.returns-in-Played-clause-advances
returns-in-Played-clause-advances g c = λ first start begun taken since p.
    let r : Reader = c.args.reader.now in
    let old : Stand = stand g.W.SwapStore c.args.kernel.now (text (g.K.Sink.written c.args.out.now) c.args.held.now.items) in
    let new : Stand = stand g.W.SwapStore c.play_event.new.kernel (text (g.K.Sink.written c.play_event.new.out) c.play_event.new.held.items) in
    let run = run_from g.W.SwapStore first c.args.tells c.args.limit start begun in
    let keeps = c.play_event.ensures.serves.keeps in
    let E : Ending → Type 0 = λ ending. Plays (Stood g.W.SwapStore c.args.kernel.now) c.args.tells c.in-Event.event c.args.limit old new (Ok ending) in
    let P : Reader → Type 0 = λ x. HasPlayed run taken x new in
    subst P (sym c.next.ensures.after)
    (played_event run old new taken r c.in-Event.event (sym c.in-Event.ensures.answer) (trust_stays keeps) (room_stays keeps)
    (plays_since (Stood g.W.SwapStore first) (Stood g.W.SwapStore c.args.kernel.now) c.args.tells c.in-Event.event c.args.limit old new (Ok Played) (stood_since since)
    (subst E c.in-Played.is c.in_ok-ending-in-Event.ensures.plays)) p)

pub returns-in-Played-clause-answers : goal.returns-in-Played-clause-answers
returns-in-Played-clause-answers g c =
    let kept : c.next.new.self.finished ≡ c.args.reader.now.finished = ap (λ (r : Reader). r.finished) c.next.ensures.after ∙ next_finished c.args.reader.now in
    search (rules, kept)

same_ending : (ending : Ending) → ◌≡◌ {A = Result Advance PlayFault} (Ok (Ended ending)) (Ok (Ended Played)) → ending ≡ Played
same_ending ending e = cc

pub returns-in_default : goal.returns-in_default
returns-in_default g c = record {
  advances = λ first start begun taken since p.
      let r : Reader = c.args.reader.now in
      let old : Stand = stand g.W.SwapStore c.args.kernel.now (text (g.K.Sink.written c.args.out.now) c.args.held.now.items) in
      let new : Stand = stand g.W.SwapStore c.play_event.new.kernel (text (g.K.Sink.written c.play_event.new.out) c.play_event.new.held.items) in
      let keeps = c.play_event.ensures.serves.keeps in
      ends_event (run_from g.W.SwapStore first c.args.tells c.args.limit start begun) old new taken r c.in-Event.event c.in_ok-ending-in-Event.ending (sym c.in-Event.ensures.answer)
      (trust_stays keeps) (room_stays keeps) c.in_default.not-Played
      (plays_since (Stood g.W.SwapStore first) (Stood g.W.SwapStore c.args.kernel.now) c.args.tells c.in-Event.event c.args.limit old new _ (stood_since since)
      c.in_ok-ending-in-Event.ensures.plays) p;
  answers = record {
    fewer = λ e. cc;
    waits = λ e. cc;
    offset = c.next.ensures.offset;
    finished = ap (λ (r : Reader). r.finished) c.next.ensures.after ∙ next_finished c.args.reader.now;
    end = λ e. absurd (c.in_default.not-Played (same_ending c.in_ok-ending-in-Event.ending e));
  };
  serves = record {
    sound = c.play_event.ensures.serves.sound;
    usable = c.in_ok-ending-in-Event.ensures.serves.usable;
    keeps = c.play_event.ensures.serves.keeps;
    within = c.in_ok-ending-in-Event.ensures.serves.within;
    write = λ e. cc;
    swap = λ e. cc;
    never_falls = c.play_event.ensures.serves.never_falls;
  };
}

pub returns-in-More-clause-advances : goal.returns-in-More-clause-advances
returns-in-More-clause-advances g c = λ first start begun taken since p.
    let now : Stand = stand g.W.SwapStore c.args.kernel.now (text (g.K.Sink.written c.args.out.now) c.args.held.now.items) in
    let run = run_from g.W.SwapStore first c.args.tells c.args.limit start begun in
    let P : Reader → Type 0 = λ x. HasPlayed run taken x now in
    subst P (sym c.next.ensures.after)
    (played_no_event run now taken c.args.reader.now (ap (λ (n : NextEvent). events_in n) (sym c.in-More.ensures.answer)) p)

pub returns-in-More-clause-answers : goal.returns-in-More-clause-answers
returns-in-More-clause-answers g c =
    let kept : c.next.new.self.finished ≡ c.args.reader.now.finished = ap (λ (r : Reader). r.finished) c.next.ensures.after ∙ next_finished c.args.reader.now in
    search (rules, kept)

pub returns-in-Bad-clause-advances : goal.returns-in-Bad-clause-advances
returns-in-Bad-clause-advances g c = λ first start begun taken since p.
    let now : Stand = stand g.W.SwapStore c.args.kernel.now (text (g.K.Sink.written c.args.out.now) c.args.held.now.items) in
    ends_bad (run_from g.W.SwapStore first c.args.tells c.args.limit start begun) now taken c.args.reader.now c.in-Bad.line (sym c.in-Bad.ensures.answer) p

pub returns-in-Bad-clause-answers : goal.returns-in-Bad-clause-answers
returns-in-Bad-clause-answers g c =
    let kept : c.next.new.self.finished ≡ c.args.reader.now.finished = ap (λ (r : Reader). r.finished) c.next.ensures.after ∙ next_finished c.args.reader.now in
    search (rules, kept)

pub returns-in-End-clause-advances : goal.returns-in-End-clause-advances
returns-in-End-clause-advances g c = λ first start begun taken since p.
    let now : Stand = stand g.W.SwapStore c.args.kernel.now (text (g.K.Sink.written c.args.out.now) c.args.held.now.items) in
    ends_whole (run_from g.W.SwapStore first c.args.tells c.args.limit start begun) now taken c.args.reader.now (sym c.in-End.ensures.answer) p

pub returns-in-End-clause-answers : goal.returns-in-End-clause-answers
returns-in-End-clause-answers g c =
    let kept : c.next.new.self.finished ≡ c.args.reader.now.finished = ap (λ (r : Reader). r.finished) c.next.ensures.after ∙ next_finished c.args.reader.now in
    record {
      fewer = λ e. cc;
      waits = λ e. cc;
      offset = c.next.ensures.offset;
      finished = kept;
      end = λ e. kept ∙ (left_end c.args.reader.now (sym c.in-End.ensures.answer)).0;
    }

use Rattle.std.proofs.Common.{◌≡◌, ◌∙◌, ◌++◌, ◌-◌, subst, sym, ap, false, List, Option, ℕ, Ok, take, drop, length, arith, append_assoc, append-nil, [], refl}
use Rattle.std.proofs.lemmas.Grind.{common_steps}
use Rattle.event_text.specs.Held.{Reader}
use Rattle.event_player.specs.declared.ending.Ending.{Ending}
use Rattle.event_player.specs.Gathering.{text}
use Rattle.event_player.specs.Playing.{Goes, HasPlayed, run_from}
use Rattle.event_player.specs.Standing.{Stand, stand}
use Rattle.event_player.proofs.Playing.KeptLemmas.{kept_after, kept_same}
use Rattle.event_player.proofs.Playing.EndingLemmas.{ends_longer, fails_longer, fed_offset, goes_err, piece_cut, piece_front}
use Rattle.event_player.proofs.Playing.PlayingLemmas.{played_bytes}
use Rattle.event_player.proofs.event_file.feed_piece.Goals as goal

pub returns-in_err-play_known-clause-goes : goal.returns-in_err-play_known-clause-goes
returns-in_err-play_known-clause-goes g c = λ first start begun taken since p.
    let front = c.rest.invariant.front in
    let t : ℕ = c.feed-taken.result in
    let rest : List ℕ = c.rest.rest.now in
    let run = run_from g.W.SwapStore first c.args.tells c.args.limit start begun in
    let mid : Stand = stand g.W.SwapStore c.rest.kernel (text (g.K.Sink.written c.rest.out) c.rest.held.items) in
    let new : Stand = stand g.W.SwapStore c.play_known.new.kernel (text (g.K.Sink.written c.play_known.new.out) c.play_known.new.held.items) in
    let fed : List ℕ = (taken ++ front.0) ++ take t rest in
    let P : Reader → Type 0 = λ r. HasPlayed run fed r mid in
    let q : P c.feed-taken.new.self =
    subst P (sym c.feed-taken.ensures.held) (played_bytes run mid (taken ++ front.0) c.rest.reader (take t rest) c.rest.invariant.waits.0.1 (front.2 first start begun taken since p)) in
    let unsaid : c.feed-taken.new.self.finished ≡ false = ap (λ (r : Reader). r.finished) c.feed-taken.ensures.held ∙ c.rest.invariant.waits.0.1 in
    goes_err run (taken ++ c.args.piece.now) false c.play_known.new.reader new c.from_residual.result _ c.from_residual.ensures.1
    (fails_longer run new fed (drop t rest) (taken ++ c.args.piece.now) c.feed-taken.new.self.finished _
    (piece_cut taken front.0 rest c.args.piece.now t front.1) unsaid
    (c.in_err-play_known.ensures.goes first start begun fed (kept_after since c.rest.invariant.keeps) q))

pub rest-init : goal.rest-init
rest-init g c =
    let now : Stand = stand g.W.SwapStore c.args.kernel.now (text (g.K.Sink.written c.args.out.now) c.args.held.now.items) in
    record {
      front = (
        [],
        refl,
        λ first start begun taken since p.
            let P : List ℕ → Type 0 = λ l. HasPlayed (run_from g.W.SwapStore first c.args.tells c.args.limit start begun) l c.args.reader.now now in
            subst P (sym (append-nil taken)) p,
      );
      waits = c.requires.waits;
      offset = refl;
      sound = c.requires.sound;
      usable = c.requires.usable;
      keeps = kept_same c.args.kernel.now;
      within = c.requires.within;
      later = omega arith;
    }

pub rest-preserved : goal.rest-preserved
rest-preserved g c =
    let front = c.rest.invariant.front in
    let t : ℕ = c.feed-taken.result in
    let rest : List ℕ = c.rest.rest.now in
    let mid : Stand = stand g.W.SwapStore c.rest.kernel (text (g.K.Sink.written c.rest.out) c.rest.held.items) in
    let new : Stand = stand g.W.SwapStore c.play_known.new.kernel (text (g.K.Sink.written c.play_known.new.out) c.play_known.new.held.items) in
    let whole : take (length rest - t) (drop t rest) ≡ drop t rest = grind (arith, common_steps) in
    let left : length (drop t rest) ≡ length rest - t = grind (arith, common_steps) in
    let waits = c.in_ok-play_known.ensures.answers.waits (ap (λ (o : Option Ending). Ok o) c.in-None.is) in
    let offset = fed_offset c.rest.reader c.feed-taken.new.self t rest c.feed-taken.ensures.held c.feed-taken.ensures.within in
    record {
      front = (
        front.0 ++ take t rest,
        rw whole (piece_front front.0 rest c.args.piece.now t front.1),
        λ first start begun taken since p.
            let run = run_from g.W.SwapStore first c.args.tells c.args.limit start begun in
            let fed : List ℕ = (taken ++ front.0) ++ take t rest in
            let P : Reader → Type 0 = λ r. HasPlayed run fed r mid in
            let q : P c.feed-taken.new.self =
            subst P (sym c.feed-taken.ensures.held) (played_bytes run mid (taken ++ front.0) c.rest.reader (take t rest) c.rest.invariant.waits.0.1 (front.2 first start begun taken since p)) in
            let Q : Option Ending → Type 0 = λ o. Goes run fed c.feed-taken.new.self.finished c.play_known.new.reader new (Ok o) in
            let W : List ℕ → Type 0 = λ l. HasPlayed run l c.play_known.new.reader new in
            subst W (append_assoc taken front.0 (take t rest)) (subst Q c.in-None.is (c.in_ok-play_known.ensures.goes first start begun fed (kept_after since c.rest.invariant.keeps) q)),
      );
      waits = waits;
      offset = rw whole (omega (arith, left, offset, c.play_known.ensures.answers.offset, c.rest.invariant.offset, c.feed-taken.ensures.within));
      sound = c.play_known.ensures.serves.sound;
      usable = c.in_ok-play_known.ensures.serves.usable;
      keeps = kept_after c.rest.invariant.keeps c.play_known.ensures.serves.keeps;
      within = c.in_ok-play_known.ensures.serves.within;
      later = omega (arith, c.rest.invariant.later, c.play_known.ensures.serves.never_falls);
    }

pub returns-in-Some-clause-goes : goal.returns-in-Some-clause-goes
returns-in-Some-clause-goes g c = λ first start begun taken since p.
    let front = c.rest.invariant.front in
    let t : ℕ = c.feed-taken.result in
    let rest : List ℕ = c.rest.rest.now in
    let run = run_from g.W.SwapStore first c.args.tells c.args.limit start begun in
    let mid : Stand = stand g.W.SwapStore c.rest.kernel (text (g.K.Sink.written c.rest.out) c.rest.held.items) in
    let new : Stand = stand g.W.SwapStore c.play_known.new.kernel (text (g.K.Sink.written c.play_known.new.out) c.play_known.new.held.items) in
    let fed : List ℕ = (taken ++ front.0) ++ take t rest in
    let P : Reader → Type 0 = λ r. HasPlayed run fed r mid in
    let q : P c.feed-taken.new.self =
    subst P (sym c.feed-taken.ensures.held) (played_bytes run mid (taken ++ front.0) c.rest.reader (take t rest) c.rest.invariant.waits.0.1 (front.2 first start begun taken since p)) in
    let unsaid : c.feed-taken.new.self.finished ≡ false = ap (λ (r : Reader). r.finished) c.feed-taken.ensures.held ∙ c.rest.invariant.waits.0.1 in
    let Q : Option Ending → Type 0 = λ o. Goes run fed c.feed-taken.new.self.finished c.play_known.new.reader new (Ok o) in
    ends_longer run new fed (drop t rest) (taken ++ c.args.piece.now) c.feed-taken.new.self.finished c.in-Some.ending
    (piece_cut taken front.0 rest c.args.piece.now t front.1) unsaid
    (subst Q c.in-Some.is (c.in_ok-play_known.ensures.goes first start begun fed (kept_after since c.rest.invariant.keeps) q))

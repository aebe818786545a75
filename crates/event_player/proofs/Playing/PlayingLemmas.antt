-- What was played so far, one answer of the reader further.
use Rattle.std.proofs.Common.{◌≡◌, ◌⊎◌, inl, inr, ℕ, Bool, true, false, List, [], ◌∷◌, ◌++◌, Ok, refl, sym, ap, ◌∙◌, subst, append-nil}
use Rattle.xk_kernel.specs.Moments.{Stood}
use Rattle.xk_kernel.specs.declared.kernel.Kernel.{Kernel}
use Rattle.xk_ports.specs.declared.store.SwapStore.{Ghosts as SwapStore}
use Rattle.event_player.specs.declared.telling.Telling.{Telling}
use Rattle.event_player.specs.Telling.{told}
use Rattle.machine_model.specs.Runs.Moments.{Moment}
use Rattle.machine_model.specs.State.Machine.{Machine}
use Rattle.machine_model.specs.Stepping.Events.{nothing}
use Rattle.xk_base.specs.declared.events.Event.{Event}
use Rattle.event_text.specs.declared.event.NextEvent.{NextEvent}
use Rattle.event_text.specs.declared.event.NextEvent.TheVariants as answer
use Rattle.event_text.specs.Held.{Reader, new_reader, with_bytes, answer_of, after_next}
use Rattle.event_text.specs.Plays.{Call, takes, ends, asks, Play, play_of, after_bytes, events_in, finished_reader}
use Rattle.event_player.specs.declared.ending.Ending.TheVariants.{Played}
use Rattle.machine_laws.specs.History as kernel
use Rattle.machine_laws.specs.History.{history, play}
use Rattle.machine_laws.specs.HistoryMoments.{event_moments, moments_of}
use Rattle.event_player.specs.History.{with_ending}
use Rattle.event_player.specs.Rooms.{ComesFull, IsFull, Room}
use Rattle.event_player.specs.Playing.{Comes, Follows, HasPlayed, Plays, Reaches, Run, StoodOver, run_from}
use Rattle.event_player.specs.Standing.{Begins, Stand}
use Rattle.event_player.specs.Gathering.{Gathered, Gathers, Text}
use Rattle.machine_laws.proofs.Histories.HistoryLemmas.{history_none}
use Rattle.event_player.proofs.Playing.FullLemmas.{events_full_front, events_full_later, first_event_full, full_start}
use Rattle.event_player.proofs.Playing.GatheringLemmas.{gathers_none, silent_after, silent_same}
use Rattle.event_player.proofs.Playing.HistoryLemmas.{gathered_behind, gathered_nothing, history_after, history_one, played_unmet}
use Rattle.event_player.proofs.Playing.StoodLemmas.{through_event, through_events, through_no_events}

-- ---- the start

start_with : (tells : Telling) (start : Machine) (out : Text) (h : kernel.History) → h ≡ kernel.reached (nothing start)
    → (h.met ≡ false) × (h.machine ≡ start) × Gathers out out (told tells h.records)
start_with tells start out h is =
    let P : kernel.History → Type 0 = λ x. (x.met ≡ false) × (x.machine ≡ start) × Gathers out out (told tells x.records) in
    subst P (sym is) (refl, refl, gathers_none out)

new_is : (play_of []).reader ≡ new_reader
unfolding play_of
new_is = refl

new_took : (play_of []).taken ≡ []
unfolding play_of
new_took = refl

new_answered : (play_of []).answered ≡ []
unfolding play_of
new_answered = refl

-- nothing was played yet
pub played_none : {W : Type 0} (S : SwapStore W) (first : Kernel W) (tells : Telling) (limit : ℕ) (start : Machine) (now : Stand)
    → Stood S first now.machine → Begins start now → HasPlayed (run_from S first tells limit start now.text) [] new_reader now
played_none S first tells limit start now stood begins = record {
  calls = [];
  is_reader = new_is;
  took = new_took;
  reaches = record { trusted = λ trusted. follows (begins.trusted trusted); near = go begins.near };
  silent = silent_same tells now.text now.text refl;
}
  where
    run : Run S
    run = run_from S first tells limit start now.text

    is : history (play_of []).answered limit start ≡ kernel.reached (nothing start)
    is = ap (λ (events : List Event). history events limit start) new_answered ∙ history_none limit start

    follows : now.machine ≡ start → Follows run (play_of []).answered now
    follows there =
        let all = start_with tells start now.text (history (play_of []).answered limit start) is in
        let none : List Event → Type 0 = λ events. StoodOver run events limit in
        record {
          unmet = all.0;
          there = all.1 ∙ sym there;
          gathered = all.2;
          stood = subst none (sym new_answered) (through_no_events (Stood S first) limit start (subst (Stood S first) there stood));
        }

    go : ((now.near ≡ true) × (now.machine ≡ start)) ⊎ IsFull now.room start
        → ((now.near ≡ true) × Follows run (play_of []).answered now) ⊎ ComesFull now.room start (moments_of (play_of []).answered limit start)
    go (inl both) = inl (both.0, follows both.1)
    go (inr full) = inr (full_start now.room start (moments_of (play_of []).answered limit start) full)

-- ---- bytes, and the end

took_bytes : (bytes : List ℕ) (calls : List Call) → (play_of calls).reader.finished ≡ false
    → play_of (takes bytes ∷ calls) ≡ record { reader = with_bytes (play_of calls).reader bytes; taken = (play_of calls).taken ++ bytes; answered = (play_of calls).answered }
unfolding play_of
took_bytes bytes calls unsaid = ap (λ (f : Bool). after_bytes f bytes (play_of calls)) unsaid

same_reached : {W : Type 0} {S : SwapStore W} (run : Run S) (now : Stand) (one other : List Event) → other ≡ one → Reaches run one now → Reaches run other now
same_reached run now one other same reaches =
    let R : List Event → Type 0 = λ events. Reaches run events now in subst R (sym same) reaches

-- the reader took more bytes
pub played_bytes : {W : Type 0} {S : SwapStore W} (run : Run S) (now : Stand) (taken : List ℕ) (r : Reader) (bytes : List ℕ) → r.finished ≡ false
    → HasPlayed run taken r now → HasPlayed run (taken ++ bytes) (with_bytes r bytes) now
played_bytes run now taken r bytes unsaid p =
    let is = took_bytes bytes p.calls (ap (λ (x : Reader). x.finished) p.is_reader ∙ unsaid) in
    record {
      calls = takes bytes ∷ p.calls;
      is_reader = ap (λ (x : Play). x.reader) is ∙ ap (λ (x : Reader). with_bytes x bytes) p.is_reader;
      took = ap (λ (x : Play). x.taken) is ∙ ap (λ (l : List ℕ). l ++ bytes) p.took;
      reaches = same_reached run now (play_of p.calls).answered (play_of (takes bytes ∷ p.calls)).answered (ap (λ (x : Play). x.answered) is) p.reaches;
      silent = p.silent;
    }

said_end : (calls : List Call) → play_of (ends ∷ calls) ≡ record { reader = finished_reader (play_of calls).reader; taken = (play_of calls).taken; answered = (play_of calls).answered }
unfolding play_of
said_end calls = refl

-- the end was said
pub played_end : {W : Type 0} {S : SwapStore W} (run : Run S) (now : Stand) (taken : List ℕ) (r : Reader) → HasPlayed run taken r now → HasPlayed run taken (finished_reader r) now
played_end run now taken r p =
    let is = said_end p.calls in
    record {
      calls = ends ∷ p.calls;
      is_reader = ap (λ (x : Play). x.reader) is ∙ ap finished_reader p.is_reader;
      took = ap (λ (x : Play). x.taken) is ∙ p.took;
      reaches = same_reached run now (play_of p.calls).answered (play_of (ends ∷ p.calls)).answered (ap (λ (x : Play). x.answered) is) p.reaches;
      silent = p.silent;
    }

-- ---- an answer

asked_next : (calls : List Call)
    → play_of (asks ∷ calls) ≡ record { reader = after_next (play_of calls).reader; taken = (play_of calls).taken; answered = (play_of calls).answered ++ events_in (answer_of (play_of calls).reader) }
unfolding play_of
asked_next calls = refl

-- an answer without an event
pub played_no_event : {W : Type 0} {S : SwapStore W} (run : Run S) (now : Stand) (taken : List ℕ) (r : Reader) → events_in (answer_of r) ≡ [] → HasPlayed run taken r now → HasPlayed run taken (after_next r) now
played_no_event run now taken r none p =
    let is = asked_next p.calls in
    let same : (play_of (asks ∷ p.calls)).answered ≡ (play_of p.calls).answered =
    ap (λ (x : Play). x.answered) is
    ∙ (ap (λ (events : List Event). (play_of p.calls).answered ++ events) (ap (λ (x : Reader). events_in (answer_of x)) p.is_reader ∙ none)
    ∙ append-nil (play_of p.calls).answered) in
    record {
      calls = asks ∷ p.calls;
      is_reader = ap (λ (x : Play). x.reader) is ∙ ap after_next p.is_reader;
      took = ap (λ (x : Play). x.taken) is ∙ p.took;
      reaches = same_reached run now (play_of p.calls).answered (play_of (asks ∷ p.calls)).answered same p.reaches;
      silent = p.silent;
    }

-- what is played behind a history that didn't meet the limit
one_more : (tells : Telling) (limit : ℕ) (start m next : Machine) (begun mid out : Text) (answered : List Event) (event : Event)
    → (history answered limit start).met ≡ false → (history answered limit start).machine ≡ m → Gathers begun mid (told tells (history answered limit start).records)
    → (play event limit m).met ≡ false → (play event limit m).machine ≡ next → Gathers mid out (told tells (play event limit m).records)
    → (h : kernel.History) → h ≡ history (answered ++ event ∷ []) limit start
    → (h.met ≡ false) × (h.machine ≡ next) × Gathers begun out (told tells h.records)
one_more tells limit start m next begun mid out answered event unmet there written over to grown h is =
    let A : kernel.History = history answered limit start in
    let p : kernel.History = play event limit m in
    let last : kernel.History = kernel.reached (nothing p.machine) in
    let whole : h ≡ kernel.behind A.records (kernel.behind p.records last) =
    is
    ∙ (history_after answered (event ∷ []) limit start unmet
    ∙ (ap (λ (x : Machine). kernel.behind A.records (history (event ∷ []) limit x)) there
    ∙ ap (kernel.behind A.records) (history_one event limit m over))) in
    let W : kernel.History → Type 0 = λ x. Gathered tells begun out (with_ending Played x) Played in
    let wrote : W h = subst W (sym whole)
    (gathered_behind tells begun mid out A.records (with_ending Played (kernel.behind p.records last)) Played written
    (gathered_behind tells mid out out p.records (with_ending Played last) Played grown (gathered_nothing tells out Played p.machine))) in (
      ap (λ (x : kernel.History). x.met) whole,
      ap (λ (x : kernel.History). x.machine) whole ∙ to,
      wrote.1,
    )

pub events_one : (found : NextEvent) (event : Event) → found ≡ answer.Event event → events_in found ≡ event ∷ []
events_one found event is = rw is refl

-- the run follows one event more
follows_more : {W : Type 0} {S : SwapStore W} (run : Run S) (mid next : Stand) (answered : List Event) (event : Event) → Follows run answered mid
    → Comes (Stood S run.first) run.tells event run.limit mid next (Ok Played) → Follows run (answered ++ event ∷ []) next
follows_more {S = S} run mid next answered event follows comes =
    let all = one_more run.tells run.limit run.start mid.machine next.machine run.begun mid.text next.text answered event follows.unmet follows.there follows.gathered
    (played_unmet (play event run.limit mid.machine) comes.0.0) (sym comes.1) comes.0.1
    (history (answered ++ event ∷ []) run.limit run.start) refl in
    record {
      unmet = all.0;
      there = all.1;
      gathered = all.2;
      stood = through_events (Stood S run.first) run.limit run.start mid.machine answered (event ∷ []) follows.unmet follows.there follows.stood
          (through_event (Stood S run.first) run.limit mid.machine event comes.2);
    }

-- an event comes full on a run
pub event_full : {W : Type 0} {S : SwapStore W} (run : Run S) (mid : Stand) (answered : List Event) (event : Event) (events : List Event) → Follows run answered mid
    → ComesFull mid.room mid.machine (event_moments event run.limit mid.machine)
    → ComesFull mid.room run.start (moments_of (answered ++ event ∷ events) run.limit run.start)
event_full run mid answered event events follows full =
    events_full_later mid.room run.limit run.start mid.machine answered (event ∷ events) follows.unmet follows.there
    (first_event_full mid.room run.limit mid.machine event events full)

pub same_room : (one other : Room) (start : Machine) (moments : List Moment) → other ≡ one → ComesFull one start moments → ComesFull other start moments
same_room one other start moments same full = let C : Room → Type 0 = λ room. ComesFull room start moments in subst C (sym same) full

reaches_more : {W : Type 0} {S : SwapStore W} (run : Run S) (mid next : Stand) (answered : List Event) (event : Event) → next.trusted ≡ mid.trusted → next.room ≡ mid.room
    → Plays (Stood S run.first) run.tells event run.limit mid next (Ok Played) → Reaches run answered mid → Reaches run (answered ++ event ∷ []) next
reaches_more {S = S} run mid next answered event trust room plays reaches = record {
  trusted = λ trusted.
      let before : mid.trusted ≡ true = sym trust ∙ trusted in
      follows_more run mid next answered event (reaches.trusted before) (plays.trusted before);
  near = go reaches.near;
}
  where
    moments : List Moment
    moments = moments_of (answered ++ event ∷ []) run.limit run.start

    played : Follows run answered mid
        → ((next.near ≡ true) × Comes (Stood S run.first) run.tells event run.limit mid next (Ok Played)) ⊎ ComesFull mid.room mid.machine (event_moments event run.limit mid.machine)
        → ((next.near ≡ true) × Follows run (answered ++ event ∷ []) next) ⊎ ComesFull next.room run.start (moments_of (answered ++ event ∷ []) run.limit run.start)
    played follows (inl both) = inl (both.0, follows_more run mid next answered event follows both.1)
    played follows (inr full) = inr (same_room mid.room next.room run.start _ room (event_full run mid answered event [] follows full))

    go : ((mid.near ≡ true) × Follows run answered mid) ⊎ ComesFull mid.room run.start (moments_of answered run.limit run.start)
        → ((next.near ≡ true) × Follows run (answered ++ event ∷ []) next) ⊎ ComesFull next.room run.start (moments_of (answered ++ event ∷ []) run.limit run.start)
    go (inl both) = played both.1 (plays.near both.0)
    go (inr full) = inr (same_room mid.room next.room run.start _ room (events_full_front mid.room run.limit run.start answered (event ∷ []) full))

-- an event that was played
pub played_event : {W : Type 0} {S : SwapStore W} (run : Run S) (mid next : Stand) (taken : List ℕ) (r : Reader) (event : Event) → answer_of r ≡ answer.Event event
    → next.trusted ≡ mid.trusted → next.room ≡ mid.room → Plays (Stood S run.first) run.tells event run.limit mid next (Ok Played)
    → HasPlayed run taken r mid → HasPlayed run taken (after_next r) next
played_event run mid next taken r event found trust room plays p =
    let is = asked_next p.calls in
    let more : (play_of (asks ∷ p.calls)).answered ≡ (play_of p.calls).answered ++ event ∷ [] =
    ap (λ (x : Play). x.answered) is
    ∙ ap (λ (events : List Event). (play_of p.calls).answered ++ events) (ap (λ (x : Reader). events_in (answer_of x)) p.is_reader ∙ events_one (answer_of r) event found) in
    record {
      calls = asks ∷ p.calls;
      is_reader = ap (λ (x : Play). x.reader) is ∙ ap after_next p.is_reader;
      took = ap (λ (x : Play). x.taken) is ∙ p.took;
      reaches = same_reached run next ((play_of p.calls).answered ++ event ∷ []) (play_of (asks ∷ p.calls)).answered more
          (reaches_more run mid next (play_of p.calls).answered event trust room plays p.reaches);
      silent = silent_after run.tells run.begun mid.text next.text p.silent plays.silent;
    }

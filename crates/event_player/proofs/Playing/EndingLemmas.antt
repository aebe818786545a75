-- How a run over a file ends, by what was played so far and the next answer of the reader.
use Rattle.std.proofs.Common.{◌≡◌, ◌≢◌, ◌≤◌, ◌⊎◌, ◌+◌, inl, inr, ℕ, arith, take, drop, length, length-append, length-take, Bool, true, false, List, [], ◌∷◌, ◌++◌, Option, Some, None, Result, Ok, Err, IsErrAnd, refl, sym, ap, ◌∙◌, subst, append_assoc, append-nil}
use Rattle.std.proofs.lemmas.List.{take-append-drop}
use Rattle.xk_kernel.specs.Moments.{Stood, Throughout}
use Rattle.xk_ports.specs.declared.store.SwapStore.{Ghosts as SwapStore}
use Rattle.event_player.specs.Telling.{told}
use Rattle.machine_model.specs.Runs.Moments.{Moment}
use Rattle.machine_model.specs.State.Machine.{Machine}
use Rattle.machine_model.specs.Stepping.Events.{nothing}
use Rattle.xk_base.specs.declared.events.Event.{Event}
use Rattle.event_text.specs.declared.event.NextEvent.TheVariants as answer
use Rattle.event_text.specs.EventFile.{Input, input_of}
use Rattle.event_text.specs.Held.{Reader, IsWaiting, with_bytes, answer_of, after_next}
use Rattle.event_text.specs.Lines.{whole_lines}
use Rattle.event_text.specs.Plays.{play_of, left_of, with_events, MayFollow}
use Rattle.event_text.proofs.PlayLemmas.{play_left, left_next, left_bad, left_end}
use Rattle.event_text.proofs.WholeLemmas.{play_whole}
use Rattle.event_player.specs.declared.ending.Ending.{Ending}
use Rattle.event_player.specs.declared.ending.Ending.TheVariants.{Played, BadLine, LimitMet}
use Rattle.event_player.specs.declared.events.Advance.{Advance}
use Rattle.event_player.specs.declared.events.PlayFault.{PlayFault}
use Rattle.event_player.specs.declared.events.PlayFault.TheVariants.{Write, Swap}
use Rattle.machine_laws.specs.History as kernel
use Rattle.machine_laws.specs.History.{history, play}
use Rattle.machine_laws.specs.HistoryMoments.{event_moments, moments_of}
use Rattle.event_player.specs.History.{History, MayEnd, with_ending, history_of, end_of}
use Rattle.event_player.specs.Rooms.{ComesFull}
use Rattle.event_player.specs.Playing.{Advances, Comes, EndsAtNoLine, EndsSo, FailsSo, Follows, ForEach, GathersSoon, Goes, HasPlayed, IsKnown, IsNearAtEnd, Plays, Reaches, Run, StaysNear, StoodOver}
use Rattle.event_player.specs.Standing.{Stand}
use Rattle.event_player.specs.Gathering.{Gathered, GatheredPart, Gathers, Text, put}
use Rattle.event_player.specs.Writing.{Wrote}
use Rattle.machine_laws.proofs.Histories.HistoryLemmas.{history_first, history_none}
use Rattle.event_player.proofs.Playing.FullLemmas.{events_full_front, events_full_later, first_event_full}
use Rattle.event_player.proofs.Playing.GatheringLemmas.{all_put, silent_after}
use Rattle.event_player.proofs.Playing.HistoryLemmas.{behind, gathered_behind, gathered_nothing, gathered_same, history_after, history_stops, met_ends, met_steps, other_met, part_behind, part_followed, part_same, unmet_ends}
use Rattle.event_player.proofs.Playing.StepLimitLemmas.{history_same, moments_same, play_grows}
use Rattle.event_player.proofs.Playing.PlayingLemmas.{event_full, events_one, same_room}
use Rattle.event_player.proofs.Playing.StoodLemmas.{through_events, through_last}

-- ---- the rest

-- the input of a file is what was answered, and behind it what the reader has left
pub left_is : {W : Type 0} {S : SwapStore W} (run : Run S) (now : Stand) (taken : List ℕ) (r : Reader) (more : List ℕ) → (r.finished ≡ true → more ≡ []) → (p : HasPlayed run taken r now)
    → with_events (play_of p.calls).answered (left_of r more) ≡ input_of (taken ++ more)
left_is run now taken r more may p =
    let follows : MayFollow (play_of p.calls) more = λ f. may (sym (ap (λ (x : Reader). x.finished) p.is_reader) ∙ f) in
    ap (λ (x : Reader). with_events (play_of p.calls).answered (left_of x more)) (sym p.is_reader)
    ∙ (play_left p.calls more follows
    ∙ ap (λ (l : List ℕ). input_of (l ++ more)) p.took)

-- the history of a file, up to a limit that what was played doesn't pass, is that of what was played, and behind it that of the rest
whole_at : {W : Type 0} {S : SwapStore W} (run : Run S) (now : Stand) (taken : List ℕ) (r : Reader) (more : List ℕ) (limit : ℕ) → (r.finished ≡ true → more ≡ [])
    → (p : HasPlayed run taken r now) → Follows run (play_of p.calls).answered now → now.machine.steps ≤ limit
    → history_of (input_of (taken ++ more)) limit run.start
    ≡ behind (history (play_of p.calls).answered run.limit run.start).records (history_of (left_of r more) limit now.machine)
whole_at run now taken r more limit may p follows within =
    let answered : List Event = (play_of p.calls).answered in
    let A : kernel.History = history answered run.limit run.start in
    let there : A.machine.steps ≡ now.machine.steps = ap (λ (x : Machine). x.steps) follows.there in
    let same : history answered limit run.start ≡ A = history_same answered run.limit limit run.start follows.unmet (omega (arith, there, within)) in
    ap (λ (input : Input). history_of input limit run.start) (sym (left_is run now taken r more may p))
    ∙ (ap (with_ending (end_of (left_of r more).bad)) (history_after answered (left_of r more).events limit run.start (ap (λ (h : kernel.History). h.met) same ∙ follows.unmet))
    ∙ (ap (λ (h : kernel.History). behind h.records (history_of (left_of r more) limit h.machine)) same
    ∙ ap (λ (x : Machine). behind A.records (history_of (left_of r more) limit x)) follows.there))

-- so it is up to the limit of the run
whole_is : {W : Type 0} {S : SwapStore W} (run : Run S) (now : Stand) (taken : List ℕ) (r : Reader) (more : List ℕ) → (r.finished ≡ true → more ≡ [])
    → (p : HasPlayed run taken r now) → Follows run (play_of p.calls).answered now
    → history_of (input_of (taken ++ more)) run.limit run.start
    ≡ behind (history (play_of p.calls).answered run.limit run.start).records (history_of (left_of r more) run.limit now.machine)
whole_is run now taken r more may p follows =
    ap (λ (input : Input). history_of input run.limit run.start) (sym (left_is run now taken r more may p))
    ∙ (ap (with_ending (end_of (left_of r more).bad)) (history_after (play_of p.calls).answered (left_of r more).events run.limit run.start follows.unmet)
    ∙ ap (λ (x : Machine). behind (history (play_of p.calls).answered run.limit run.start).records (history_of (left_of r more) run.limit x)) follows.there)

-- whatever is written for the rest completes the whole
completes : {W : Type 0} {S : SwapStore W} (run : Run S) (now : Stand) (out : Text) (taken : List ℕ) (r : Reader) (more : List ℕ) (ending : Ending) → (r.finished ≡ true → more ≡ [])
    → (p : HasPlayed run taken r now) → Follows run (play_of p.calls).answered now → (h : History) → history_of (left_of r more) run.limit now.machine ≡ h
    → Gathered run.tells now.text out h ending
    → Gathered run.tells run.begun out (history_of (input_of (taken ++ more)) run.limit run.start) ending
completes run now out taken r more ending may p follows h is wrote =
    let A : kernel.History = history (play_of p.calls).answered run.limit run.start in
    gathered_same run.tells run.begun out (history_of (input_of (taken ++ more)) run.limit run.start) (behind A.records h) ending
    (whole_is run now taken r more may p follows ∙ ap (behind A.records) is)
    (gathered_behind run.tells run.begun now.text out A.records h ending follows.gathered wrote)

pub part_completes : {W : Type 0} {S : SwapStore W} (run : Run S) (now : Stand) (out : Text) (taken : List ℕ) (r : Reader) (more : List ℕ) → (r.finished ≡ true → more ≡ [])
    → (p : HasPlayed run taken r now) → Follows run (play_of p.calls).answered now → (h : History) → history_of (left_of r more) run.limit now.machine ≡ h
    → GatheredPart run.tells now.text out h
    → GatheredPart run.tells run.begun out (history_of (input_of (taken ++ more)) run.limit run.start)
part_completes run now out taken r more may p follows h is part =
    let A : kernel.History = history (play_of p.calls).answered run.limit run.start in
    part_same run.tells run.begun out (history_of (input_of (taken ++ more)) run.limit run.start) (behind A.records h)
    (whole_is run now taken r more may p follows ∙ ap (behind A.records) is)
    (part_behind run.tells run.begun now.text out A.records h follows.gathered part)

ends_on : {W : Type 0} {S : SwapStore W} (run : Run S) (now : Stand) (taken : List ℕ) (r : Reader) (more : List ℕ) → (r.finished ≡ true → more ≡ [])
    → (p : HasPlayed run taken r now) → Follows run (play_of p.calls).answered now → (h : History) → history_of (left_of r more) run.limit now.machine ≡ h
    → h.machine ≡ (history_of (input_of (taken ++ more)) run.limit run.start).machine
ends_on run now taken r more may p follows h is =
    sym (ap (λ (x : History). x.machine) is) ∙ sym (ap (λ (x : History). x.machine) (whole_is run now taken r more may p follows))

-- ---- where what the pages hold is known

-- these are the events of the file
pub events_of : {W : Type 0} {S : SwapStore W} (run : Run S) (now : Stand) (taken : List ℕ) (r : Reader) (more : List ℕ) → (r.finished ≡ true → more ≡ []) → (p : HasPlayed run taken r now)
    → (input_of (taken ++ more)).events ≡ (play_of p.calls).answered ++ (left_of r more).events
events_of run now taken r more may p = sym (ap (λ (input : Input). input.events) (left_is run now taken r more may p))

-- the run follows its events
pub known_follows : {W : Type 0} {S : SwapStore W} (run : Run S) (now : Stand) (answered rest : List Event) (input : Input) → input.events ≡ answered ++ rest → Reaches run answered now
    → IsKnown run now input → Follows run answered now
known_follows run now answered rest input is reaches (inl trusted) = reaches.trusted trusted
known_follows run now answered rest input is reaches (inr never) = go reaches.near
  where
    go : ((now.near ≡ true) × Follows run answered now) ⊎ ComesFull now.room run.start (moments_of answered run.limit run.start) → Follows run answered now
    go (inl both) = both.1
    go (inr full) =
        let C : List Event → Type 0 = λ events. ComesFull now.room run.start (moments_of events run.limit run.start) in
        absurd (never (subst C (sym is) (events_full_front now.room run.limit run.start answered rest full)))

-- .. and the next of them comes so
known_comes : {W : Type 0} {S : SwapStore W} (run : Run S) (mid next : Stand) (answered rest : List Event) (event : Event) (input : Input) (result : Result Ending PlayFault)
    → input.events ≡ answered ++ event ∷ rest → next.trusted ≡ mid.trusted → next.room ≡ mid.room → Plays (Stood S run.first) run.tells event run.limit mid next result
    → Reaches run answered mid → IsKnown run next input → Follows run answered mid × Comes (Stood S run.first) run.tells event run.limit mid next result
known_comes run mid next answered rest event input result is trust room plays reaches (inl trusted) =
    let before : mid.trusted ≡ true = sym trust ∙ trusted in (reaches.trusted before, plays.trusted before)
known_comes {S = S} run mid next answered rest event input result is trust room plays reaches (inr never) = go reaches.near
  where
    at_most : ComesFull mid.room run.start (moments_of (answered ++ event ∷ rest) run.limit run.start) → ⊥
    at_most full =
        let C : List Event → Type 0 = λ events. ComesFull next.room run.start (moments_of events run.limit run.start) in
        never (subst C (sym is) (same_room mid.room next.room run.start (moments_of (answered ++ event ∷ rest) run.limit run.start) room full))

    played : Follows run answered mid
        → (StaysNear next result × Comes (Stood S run.first) run.tells event run.limit mid next result) ⊎ ComesFull mid.room mid.machine (event_moments event run.limit mid.machine)
        → Follows run answered mid × Comes (Stood S run.first) run.tells event run.limit mid next result
    played follows (inl both) = (follows, both.1)
    played follows (inr full) = absurd (at_most (event_full run mid answered event rest follows full))

    go : ((mid.near ≡ true) × Follows run answered mid) ⊎ ComesFull mid.room run.start (moments_of answered run.limit run.start)
        → Follows run answered mid × Comes (Stood S run.first) run.tells event run.limit mid next result
    go (inl both) = played both.1 (plays.near both.0)
    go (inr full) = absurd (at_most (events_full_front mid.room run.limit run.start answered (event ∷ rest) full))

-- ---- for each state there stood a kernel

-- where no events are left of the file
stood_whole : {W : Type 0} {S : SwapStore W} (run : Run S) (now : Stand) (answered rest : List Event) (input : Input) → input.events ≡ answered ++ rest
    → rest ≡ [] → Follows run answered now → StoodOver run input.events run.limit
stood_whole run now answered rest input is none follows =
    let A : List Event → Type 0 = λ events. StoodOver run events run.limit in
    subst A (sym (is ∙ (ap (λ (events : List Event). answered ++ events) none ∙ append-nil answered))) follows.stood

-- where the history ends at an event, by a limit that what was played before doesn't pass
stood_to : {W : Type 0} {S : SwapStore W} (run : Run S) (mid : Stand) (answered : List Event) (event : Event) (events : List Event) (limit : ℕ)
    → Follows run answered mid → mid.machine.steps ≤ limit → (play event limit mid.machine).met ≡ true
    → Throughout (Stood S run.first) mid.machine (event_moments event limit mid.machine) → StoodOver run (answered ++ event ∷ events) limit
stood_to {S = S} run mid answered event events limit follows within met through =
    through_events (Stood S run.first) limit run.start mid.machine answered (event ∷ events)
    (ap (λ (h : kernel.History). h.met) same ∙ follows.unmet) (ap (λ (h : kernel.History). h.machine) same ∙ follows.there)
    (subst A (sym (moments_same answered run.limit limit run.start follows.unmet most)) follows.stood)
    (through_last (Stood S run.first) limit mid.machine event events met through)
  where
    there : (history answered run.limit run.start).machine.steps ≡ mid.machine.steps
    there = ap (λ (x : Machine). x.steps) follows.there

    most : (history answered run.limit run.start).machine.steps ≤ limit
    most = omega (arith, there, within)

    same : history answered limit run.start ≡ history answered run.limit run.start
    same = history_same answered run.limit limit run.start follows.unmet most

    A : List Moment → Type 0
    A moments = Throughout (Stood S run.first) run.start moments

-- .. by its own limit
stood_at_limit : {W : Type 0} {S : SwapStore W} (run : Run S) (mid : Stand) (answered : List Event) (event : Event) (events : List Event)
    → Follows run answered mid → (play event run.limit mid.machine).met ≡ true
    → Throughout (Stood S run.first) mid.machine (event_moments event run.limit mid.machine) → StoodOver run (answered ++ event ∷ events) run.limit
stood_at_limit {S = S} run mid answered event events follows met through =
    through_events (Stood S run.first) run.limit run.start mid.machine answered (event ∷ events) follows.unmet follows.there follows.stood
    (through_last (Stood S run.first) run.limit mid.machine event events met through)

-- ---- how the run ends

-- so far no page is out, unless some state has more pages than there are frames for, whatever the rest of the file is
near_so_far : {W : Type 0} {S : SwapStore W} (run : Run S) (now : Stand) (taken : List ℕ) (r : Reader) → HasPlayed run taken r now
    → IsNearAtEnd run taken r.finished now
near_so_far run now taken r p = λ more may. go more may p.reaches.near
  where
    go : (more : List ℕ) → (r.finished ≡ true → more ≡ [])
        → ((now.near ≡ true) × Follows run (play_of p.calls).answered now)
        ⊎ ComesFull now.room run.start (moments_of (play_of p.calls).answered run.limit run.start)
        → (now.near ≡ true) ⊎ ComesFull now.room run.start (moments_of (input_of (taken ++ more)).events run.limit run.start)
    go more may (inl both) = inl both.0
    go more may (inr full) =
        let C : List Event → Type 0 = λ events. ComesFull now.room run.start (moments_of events run.limit run.start) in
        inr (subst C (ap (λ (input : Input). input.events) (left_is run now taken r more may p))
        (events_full_front now.room run.limit run.start (play_of p.calls).answered (left_of r more).events full))

-- what the rest of a file has as its bad line is that of the file
bad_of : {W : Type 0} {S : SwapStore W} (run : Run S) (now : Stand) (taken : List ℕ) (r : Reader) (more : List ℕ) (rest : Input) → (r.finished ≡ true → more ≡ [])
    → HasPlayed run taken r now → left_of r more ≡ rest → (input_of (taken ++ more)).bad ≡ rest.bad
bad_of run now taken r more rest may p left =
    sym (ap (λ (input : Input). input.bad) (left_is run now taken r more may p)) ∙ ap (λ (input : Input). input.bad) left

-- a bad line ends the history
pub ends_bad : {W : Type 0} {S : SwapStore W} (run : Run S) (now : Stand) (taken : List ℕ) (r : Reader) (line : ℕ) → answer_of r ≡ answer.Bad line
    → HasPlayed run taken r now → EndsSo run taken r.finished now (BadLine line)
ends_bad run now taken r line bad p = record {
  may = λ more may. bad_of run now taken r more (record { events = []; bad = Some line }) may p (left_bad r more line may bad);
  exact = λ more may known.
      let follows = known_follows run now (play_of p.calls).answered (left_of r more).events (input_of (taken ++ more)) (events_of run now taken r more may p) p.reaches known in
      let none : History = with_ending (BadLine line) (kernel.reached (nothing now.machine)) in
      let is : history_of (left_of r more) run.limit now.machine ≡ none =
      ap (λ (input : Input). history_of input run.limit now.machine) (left_bad r more line may bad) ∙ ap (with_ending (BadLine line)) (history_none run.limit now.machine) in (
        completes run now now.text taken r more (BadLine line) may p follows none is (gathered_nothing run.tells now.text (BadLine line) now.machine),
        ends_on run now taken r more may p follows none is,
        stood_whole run now (play_of p.calls).answered (left_of r more).events (input_of (taken ++ more)) (events_of run now taken r more may p)
            (ap (λ (input : Input). input.events) (left_bad r more line may bad)) follows,
      );
  near = λ e. cc;
  silent = p.silent;
}

-- .. and so does the end of the file
left_none : (r : Reader) (more : List ℕ) → answer_of r ≡ answer.End → (r.finished ≡ true → more ≡ []) → left_of r more ≡ record { events = []; bad = None }
left_none r more end may = let both = left_end r end in ap (left_of r) (may both.0) ∙ both.1

pub ends_whole : {W : Type 0} {S : SwapStore W} (run : Run S) (now : Stand) (taken : List ℕ) (r : Reader) → answer_of r ≡ answer.End
    → HasPlayed run taken r now → EndsSo run taken r.finished now Played
ends_whole run now taken r end p = record {
  may = λ more may. bad_of run now taken r more (record { events = []; bad = None }) may p (left_none r more end may);
  exact = λ more may known.
      let follows = known_follows run now (play_of p.calls).answered (left_of r more).events (input_of (taken ++ more)) (events_of run now taken r more may p) p.reaches known in
      let none : History = with_ending Played (kernel.reached (nothing now.machine)) in
      let is : history_of (left_of r more) run.limit now.machine ≡ none =
      ap (λ (input : Input). history_of input run.limit now.machine) (left_none r more end may) ∙ ap (with_ending Played) (history_none run.limit now.machine) in (
        completes run now now.text taken r more Played may p follows none is (gathered_nothing run.tells now.text Played now.machine),
        ends_on run now taken r more may p follows none is,
        stood_whole run now (play_of p.calls).answered (left_of r more).events (input_of (taken ++ more)) (events_of run now taken r more may p)
            (ap (λ (input : Input). input.events) (left_none r more end may)) follows,
      );
  near = λ e. near_so_far run now taken r p;
  silent = p.silent;
}

left_event : (r : Reader) (more : List ℕ) (event : Event) → (r.finished ≡ true → more ≡ []) → answer_of r ≡ answer.Event event
    → left_of r more ≡ with_events (event ∷ []) (left_of (after_next r) more)
left_event r more event may found =
    sym (left_next r more may) ∙ ap (λ (events : List Event). with_events events (left_of (after_next r) more)) (events_one (answer_of r) event found)

-- the events of the file, where this is the next
events_with : {W : Type 0} {S : SwapStore W} (run : Run S) (mid : Stand) (taken : List ℕ) (r : Reader) (event : Event) (more : List ℕ) → answer_of r ≡ answer.Event event
    → (r.finished ≡ true → more ≡ []) → (p : HasPlayed run taken r mid)
    → (input_of (taken ++ more)).events ≡ (play_of p.calls).answered ++ event ∷ (left_of (after_next r) more).events
events_with run mid taken r event more found may p =
    events_of run mid taken r more may p
    ∙ ap (λ (input : Input). (play_of p.calls).answered ++ input.events) (left_event r more event may found)

-- a file may end at the limit
may_stop : (ending : Ending) (input : Input) → EndsAtNoLine (Ok ending) → ending ≢ Played → MayEnd input ending
may_stop Played input line other = absurd (other refl)
may_stop LimitMet input line other = tt
may_stop (BadLine n) input line other = absurd line

-- an event at which the history ends
pub ends_event : {W : Type 0} {S : SwapStore W} (run : Run S) (mid next : Stand) (taken : List ℕ) (r : Reader) (event : Event) (ending : Ending) → answer_of r ≡ answer.Event event
    → next.trusted ≡ mid.trusted → next.room ≡ mid.room → ending ≢ Played → Plays (Stood S run.first) run.tells event run.limit mid next (Ok ending)
    → HasPlayed run taken r mid → EndsSo run taken r.finished next ending
ends_event {S = S} run mid next taken r event ending found trust room other plays p = record {
  may = λ more may. may_stop ending (input_of (taken ++ more)) plays.ends other;
  exact = λ more may known.
      let rest : Input = left_of (after_next r) more in
      let both = known_comes run mid next (play_of p.calls).answered rest.events event (input_of (taken ++ more)) (Ok ending)
      (events_with run mid taken r event more found may p) trust room plays p.reaches known in
      let follows : Follows run (play_of p.calls).answered mid = both.0 in
      let comes : Comes (Stood S run.first) run.tells event run.limit mid next (Ok ending) = both.1 in
      let played : kernel.History = play event run.limit mid.machine in
      let met : played.met ≡ true = other_met played ending comes.0.0 other in
      let is : history_of (left_of r more) run.limit mid.machine ≡ with_ending Played played =
      ap (λ (input : Input). history_of input run.limit mid.machine) (left_event r more event may found)
      ∙ (ap (with_ending (end_of rest.bad)) (history_stops event rest.events run.limit mid.machine met)
      ∙ met_ends (end_of rest.bad) Played played met) in (
        completes run mid next.text taken r more ending may p follows (with_ending Played played) is comes.0,
        comes.1 ∙ ends_on run mid taken r more may p follows (with_ending Played played) is,
        subst (λ (events : List Event). StoodOver run events run.limit) (sym (events_with run mid taken r event more found may p))
            (stood_at_limit run mid (play_of p.calls).answered event rest.events follows met comes.2),
      );
  near = λ e. absurd (other e);
  silent = silent_after run.tells run.begun mid.text next.text p.silent plays.silent;
}

-- an event whose records couldn't be written
fails_unwritten : {W : Type 0} {S : SwapStore W} (run : Run S) (mid next : Stand) (taken : List ℕ) (r : Reader) (event : Event) → answer_of r ≡ answer.Event event
    → next.trusted ≡ mid.trusted → next.room ≡ mid.room → Plays (Stood S run.first) run.tells event run.limit mid next (Err Write)
    → HasPlayed run taken r mid → FailsSo run taken r.finished next Write
fails_unwritten run mid next taken r event found trust room plays p = λ more may known.
    let rest : Input = left_of (after_next r) more in
    let both = known_comes run mid next (play_of p.calls).answered rest.events event (input_of (taken ++ more)) (Err Write)
    (events_with run mid taken r event more found may p) trust room plays p.reaches known in
    let is = ap (λ (input : Input). history_of input run.limit mid.machine) (left_event r more event may found)
    ∙ ap (with_ending (end_of rest.bad)) (history_first event rest.events run.limit mid.machine) in
    part_completes run mid next.text taken r more may p both.0 _ is
    (part_followed run.tells mid.text next.text (end_of rest.bad) (play event run.limit mid.machine) (history rest.events run.limit) both.1)

-- A run that follows its events, up to a limit that they don't pass, comes full in them or in the next.
soon_full : {W : Type 0} {S : SwapStore W} (run : Run S) (mid : Stand) (answered : List Event) (event : Event) (events : List Event) (limit : ℕ) → Follows run answered mid → mid.machine.steps ≤ limit
    → Reaches run answered mid → (mid.near ≡ true → ComesFull mid.room mid.machine (event_moments event limit mid.machine))
    → ComesFull mid.room run.start (moments_of (answered ++ event ∷ events) limit run.start)
soon_full run mid answered event events limit follows within reaches soon = go reaches.near
  where
    there : (history answered run.limit run.start).machine.steps ≡ mid.machine.steps
    there = ap (λ (x : Machine). x.steps) follows.there

    same : history answered limit run.start ≡ history answered run.limit run.start
    same = history_same answered run.limit limit run.start follows.unmet (omega (arith, there, within))

    go : ((mid.near ≡ true) × Follows run answered mid) ⊎ ComesFull mid.room run.start (moments_of answered run.limit run.start)
        → ComesFull mid.room run.start (moments_of (answered ++ event ∷ events) limit run.start)
    go (inl both) =
        events_full_later mid.room limit run.start mid.machine answered (event ∷ events)
        (ap (λ (h : kernel.History). h.met) same ∙ follows.unmet) (ap (λ (h : kernel.History). h.machine) same ∙ follows.there)
        (first_event_full mid.room limit mid.machine event events (soon both.0))
    go (inr full) =
        let C : List Moment → Type 0 = λ moments. ComesFull mid.room run.start moments in
        events_full_front mid.room limit run.start answered (event ∷ events)
        (subst C (sym (moments_same answered run.limit limit run.start follows.unmet (omega (arith, there, within)))) full)

-- an event in which the store failed
fails_swapped : {W : Type 0} {S : SwapStore W} (run : Run S) (mid next : Stand) (taken : List ℕ) (r : Reader) (event : Event) → answer_of r ≡ answer.Event event
    → next.trusted ≡ mid.trusted → next.room ≡ mid.room → Plays (Stood S run.first) run.tells event run.limit mid next (Err Swap)
    → HasPlayed run taken r mid → FailsSo run taken r.finished next Swap
fails_swapped {S = S} run mid next taken r event found trust room plays p = record {
  exact = λ more may trusted. some more may (sym trust ∙ trusted);
  full = λ more may. full more may;
  silent = silent_after run.tells run.begun mid.text next.text p.silent plays.silent;
}
  where
    some : (more : List ℕ) → (r.finished ≡ true → more ≡ []) → mid.trusted ≡ true → GathersSoon run next (input_of (taken ++ more))
    some more may before =
        let follows = p.reaches.trusted before in
        let comes = plays.trusted before in
        let done : ℕ = comes.some.done in
        let rest : Input = left_of (after_next r) more in
        let played : kernel.History = play event done mid.machine in
        let met : played.met ≡ true = other_met played LimitMet comes.some.met (λ e. cc) in
        let within : mid.machine.steps ≤ done = omega (arith, play_grows event done mid.machine, met_steps event done mid.machine comes.some.met) in
        let A : kernel.History = history (play_of p.calls).answered run.limit run.start in
        let is : history_of (left_of r more) done mid.machine ≡ with_ending Played played =
        ap (λ (input : Input). history_of input done mid.machine) (left_event r more event may found)
        ∙ (ap (with_ending (end_of rest.bad)) (history_stops event rest.events done mid.machine met)
        ∙ met_ends (end_of rest.bad) Played played met) in
        let wrote = gathered_same run.tells run.begun next.text (history_of (input_of (taken ++ more)) done run.start) (behind A.records (with_ending Played played)) LimitMet
        (whole_at run mid taken r more done may p follows within ∙ ap (behind A.records) is)
        (gathered_behind run.tells run.begun mid.text next.text A.records (with_ending Played played) LimitMet follows.gathered (comes.some.met, comes.some.gathered)) in
        let C : List Event → Type 0 = λ es. ComesFull mid.room run.start (moments_of es (done + 1) run.start) in
        record {
          some = record { done = done; within = comes.some.within; met = wrote.0; gathered = wrote.1 };
          stood = subst (λ (es : List Event). StoodOver run es done) (sym (events_with run mid taken r event more found may p))
              (stood_to run mid (play_of p.calls).answered event rest.events done follows within met comes.through);
          soon = same_room mid.room next.room run.start _ room (subst C (sym (events_with run mid taken r event more found may p))
              (soon_full run mid (play_of p.calls).answered event rest.events (done + 1) follows (omega (arith, within)) p.reaches comes.soon));
        }

    full : (more : List ℕ) → (r.finished ≡ true → more ≡ []) → ComesFull next.room run.start (moments_of (input_of (taken ++ more)).events run.limit run.start)
    full more may =
        let rest : Input = left_of (after_next r) more in
        let C : List Event → Type 0 = λ es. ComesFull mid.room run.start (moments_of es run.limit run.start) in
        same_room mid.room next.room run.start _ room
        (subst C (sym (events_with run mid taken r event more found may p)) (go p.reaches.near rest.events))
      where
        swapped : (events : List Event) → Follows run (play_of p.calls).answered mid
            → (⊥ × Comes (Stood S run.first) run.tells event run.limit mid next (Err Swap)) ⊎ ComesFull mid.room mid.machine (event_moments event run.limit mid.machine)
            → ComesFull mid.room run.start (moments_of ((play_of p.calls).answered ++ event ∷ events) run.limit run.start)
        swapped events follows (inl none) = absurd none.0
        swapped events follows (inr crowd) = event_full run mid (play_of p.calls).answered event events follows crowd

        go : ((mid.near ≡ true) × Follows run (play_of p.calls).answered mid) ⊎ ComesFull mid.room run.start (moments_of (play_of p.calls).answered run.limit run.start)
            → (events : List Event) → ComesFull mid.room run.start (moments_of ((play_of p.calls).answered ++ event ∷ events) run.limit run.start)
        go (inl both) events = swapped events both.1 (plays.near both.0)
        go (inr crowd) events = events_full_front mid.room run.limit run.start (play_of p.calls).answered (event ∷ events) crowd

pub fails_event : {W : Type 0} {S : SwapStore W} (run : Run S) (mid next : Stand) (taken : List ℕ) (r : Reader) (event : Event) (fault : PlayFault) → answer_of r ≡ answer.Event event
    → next.trusted ≡ mid.trusted → next.room ≡ mid.room → Plays (Stood S run.first) run.tells event run.limit mid next (Err fault)
    → HasPlayed run taken r mid → FailsSo run taken r.finished next fault
fails_event run mid next taken r event Write found trust room plays p = fails_unwritten run mid next taken r event found trust room plays p
fails_event run mid next taken r event Swap found trust room plays p = fails_swapped run mid next taken r event found trust room plays p

-- ---- more bytes of the same file

unsaid_end : (f : Bool) (more : List ℕ) → f ≡ false → f ≡ true → more ≡ []
unsaid_end f more unsaid said = cc

-- what holds whatever bytes follow holds whatever bytes follow later
longer : (P : Input → Type 0) (taken rest whole : List ℕ) (f : Bool) → whole ≡ taken ++ rest → f ≡ false → ForEach taken f P → ForEach whole false P
longer P taken rest whole f is unsaid each = λ more may.
    let Q : List ℕ → Type 0 = λ bytes. P (input_of bytes) in
    subst Q (sym (append_assoc taken rest more) ∙ ap (λ (l : List ℕ). l ++ more) (sym is)) (each (rest ++ more) (unsaid_end f (rest ++ more) unsaid))

pub ends_longer : {W : Type 0} {S : SwapStore W} (run : Run S) (now : Stand) (taken rest whole : List ℕ) (f : Bool) (ending : Ending) → whole ≡ taken ++ rest → f ≡ false
    → EndsSo run taken f now ending → EndsSo run whole false now ending
ends_longer run now taken rest whole f ending is unsaid p = record {
  may = longer (λ input. MayEnd input ending) taken rest whole f is unsaid p.may;
  exact = longer (λ input. IsKnown run now input
      → Gathered run.tells run.begun now.text (history_of input run.limit run.start) ending × (now.machine ≡ (history_of input run.limit run.start).machine)
      × StoodOver run input.events run.limit)
      taken rest whole f is unsaid p.exact;
  near = λ e. longer (λ input. (now.near ≡ true) ⊎ ComesFull now.room run.start (moments_of input.events run.limit run.start)) taken rest whole f is unsaid (p.near e);
  silent = p.silent;
}

pub fails_longer : {W : Type 0} {S : SwapStore W} (run : Run S) (now : Stand) (taken rest whole : List ℕ) (f : Bool) (fault : PlayFault) → whole ≡ taken ++ rest → f ≡ false
    → FailsSo run taken f now fault → FailsSo run whole false now fault
fails_longer run now taken rest whole f Write is unsaid p =
    longer (λ input. IsKnown run now input → GatheredPart run.tells run.begun now.text (history_of input run.limit run.start)) taken rest whole f is unsaid p
fails_longer run now taken rest whole f Swap is unsaid p = record {
  exact = longer (λ input. now.trusted ≡ true → GathersSoon run now input) taken rest whole f is unsaid p.exact;
  full = longer (λ input. ComesFull now.room run.start (moments_of input.events run.limit run.start)) taken rest whole f is unsaid p.full;
  silent = p.silent;
}

-- the bytes taken, those fed and those left of a piece
pub piece_cut : (taken done rest piece : List ℕ) (t : ℕ) → piece ≡ done ++ rest → taken ++ piece ≡ ((taken ++ done) ++ take t rest) ++ drop t rest
piece_cut taken done rest piece t cut =
    ap (λ (l : List ℕ). taken ++ l) cut
    ∙ (sym (append_assoc taken done rest)
    ∙ (ap (λ (l : List ℕ). (taken ++ done) ++ l) (sym (take-append-drop t rest))
    ∙ sym (append_assoc (taken ++ done) (take t rest) (drop t rest))))

pub piece_front : (done rest piece : List ℕ) (t : ℕ) → piece ≡ done ++ rest → piece ≡ (done ++ take t rest) ++ drop t rest
piece_front done rest piece t cut = piece_cut [] done rest piece t cut

pub fed_offset : (r fed : Reader) (t : ℕ) (rest : List ℕ) → fed ≡ with_bytes r (take t rest) → t ≤ length rest → fed.start + length fed.held ≡ r.start + length r.held + t
fed_offset r fed t rest is within = rw (is, length-append) (omega (arith, length-take t rest))

-- ---- answers that are faults

pub advances_err : {W : Type 0} {S : SwapStore W} (run : Run S) (taken : List ℕ) (finished : Bool) (r : Reader) (now : Stand) (result : Result Advance PlayFault) (fault : PlayFault)
    → IsErrAnd result (λ e. e ≡ fault) → FailsSo run taken finished now fault → Advances run taken finished r now result
advances_err run taken finished r now (Ok x) fault same fails = absurd same
advances_err run taken finished r now (Err e) fault same fails = let F : PlayFault → Type 0 = λ x. FailsSo run taken finished now x in subst F (sym same) fails

pub goes_err : {W : Type 0} {S : SwapStore W} (run : Run S) (taken : List ℕ) (finished : Bool) (r : Reader) (now : Stand) (result : Result (Option Ending) PlayFault) (fault : PlayFault)
    → IsErrAnd result (λ e. e ≡ fault) → FailsSo run taken finished now fault → Goes run taken finished r now result
goes_err run taken finished r now (Ok x) fault same fails = absurd same
goes_err run taken finished r now (Err e) fault same fails = let F : PlayFault → Type 0 = λ x. FailsSo run taken finished now x in subst F (sym same) fails

-- ---- the whole lines

-- they have these events, and none is bad
lines_are : {W : Type 0} {S : SwapStore W} (run : Run S) (now : Stand) (taken : List ℕ) (r : Reader) → IsWaiting r → (p : HasPlayed run taken r now)
    → input_of (whole_lines taken) ≡ record { events = (play_of p.calls).answered; bad = None }
lines_are run now taken r waiting p =
    let waits : IsWaiting (play_of p.calls).reader = subst (λ x. IsWaiting x) (sym p.is_reader) waiting in
    ap (λ (l : List ℕ). input_of (whole_lines l)) (sym p.took) ∙ play_whole p.calls waits

pub whole_lines_good : {W : Type 0} {S : SwapStore W} (run : Run S) (now : Stand) (taken : List ℕ) (r : Reader) → IsWaiting r → HasPlayed run taken r now → (input_of (whole_lines taken)).bad ≡ None
whole_lines_good run now taken r waiting p = ap (λ (input : Input). input.bad) (lines_are run now taken r waiting p)

-- what was played while the reader waits is the history of the whole lines that it took
pub whole_lines_played : {W : Type 0} {S : SwapStore W} (run : Run S) (now : Stand) (begun out : Option (List ℕ)) (taken : List ℕ) (r : Reader) → run.begun ≡ put begun → now.text ≡ put out → IsWaiting r
    → HasPlayed run taken r now → IsKnown run now (input_of (whole_lines taken))
    → Wrote run.tells begun out (history_of (input_of (whole_lines taken)) run.limit run.start) Played
    × StoodOver run (input_of (whole_lines taken)).events run.limit
whole_lines_played run now begun out taken r first last waiting p known =
    let input = lines_are run now taken r waiting p in
    let events : (input_of (whole_lines taken)).events ≡ (play_of p.calls).answered ++ [] =
    ap (λ (i : Input). i.events) input ∙ sym (append-nil (play_of p.calls).answered) in
    let follows = known_follows run now (play_of p.calls).answered [] (input_of (whole_lines taken)) events p.reaches known in
    let h : kernel.History = history (play_of p.calls).answered run.limit run.start in
    let A : Text → Type 0 = λ text. Gathers text now.text (told run.tells h.records) in
    let B : Text → Type 0 = λ text. Gathers (put begun) text (told run.tells h.records) in (
      all_put run.tells begun out (history_of (input_of (whole_lines taken)) run.limit run.start) Played
          (gathered_same run.tells (put begun) (put out) (history_of (input_of (whole_lines taken)) run.limit run.start) (with_ending Played h) Played
          (ap (λ (i : Input). history_of i run.limit run.start) input)
          (unmet_ends Played h follows.unmet, subst B last (subst A first follows.gathered))),
      stood_whole run now (play_of p.calls).answered [] (input_of (whole_lines taken)) events refl follows,
    )

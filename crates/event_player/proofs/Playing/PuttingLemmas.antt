-- What is held for the sink is put, or a part of it: how a run over a file ends then.
use Rattle.std.proofs.Common.{◌≡◌, ◌⊎◌, inl, inr, ℕ, Bool, true, List, [], ◌++◌, Option, Some, None, Ok, refl, sym, ◌∙◌, subst}
use Rattle.xk_ports.specs.declared.store.SwapStore.{Ghosts as SwapStore}
use Rattle.xk_ports.specs.Told.{GrowsByProperPrefix}
use Rattle.event_player.specs.Telling.{told}
use Rattle.xk_base.specs.declared.events.Event.{Event}
use Rattle.event_text.specs.EventFile.{Input, input_of}
use Rattle.event_text.specs.Held.{Reader}
use Rattle.event_text.specs.Plays.{play_of, left_of}
use Rattle.event_player.specs.declared.ending.Ending.{Ending}
use Rattle.event_player.specs.declared.events.PlayFault.{PlayFault}
use Rattle.event_player.specs.declared.events.PlayFault.TheVariants.{Write, Swap}
use Rattle.machine_laws.specs.HistoryMoments.{moments_of}
use Rattle.event_player.specs.History.{History, history_of}
use Rattle.event_player.specs.Rooms.{ComesFull}
use Rattle.event_player.specs.Playing.{FailsSo, Follows, Goes, IsKnown, Reaches, Run}
use Rattle.event_player.specs.Standing.{Stand}
use Rattle.event_player.specs.Gathering.{GatheredPart, GathersPart, Puts, PutsBefore, Text, put, text}
use Rattle.event_player.proofs.Playing.GatheringLemmas.{gathers_put, gathers_unput, part_longer, silent_put}
use Rattle.host_io.proofs.ToldLemmas.{front_longer}
use Rattle.event_player.proofs.Playing.SomeStepsLemmas.{some_first}
use Rattle.event_player.proofs.Playing.EndingLemmas.{events_of, known_follows, part_completes}

-- ---- what is held is put

-- the run as it stands once this stands on the sink and nothing is held
abbrev pub with_text : Stand → Text → Stand
with_text now text = record now { text = text }

put_reached : {W : Type 0} {S : SwapStore W} (run : Run S) (events : List Event) (now : Stand) (after : Option (List ℕ)) → Puts now.text.out after now.text.held → Reaches run events now
    → Reaches run events (with_text now (put after))
put_reached run events now after grown reaches = record { trusted = λ trusted. follows (reaches.trusted trusted); near = go reaches.near }
  where
    follows : Follows run events now → Follows run events (with_text now (put after))
    follows f = record {
      unmet = f.unmet;
      there = f.there;
      gathered = gathers_put run.begun now.text.out after now.text.held _ f.gathered grown;
      stood = f.stood;
    }

    go : ((now.near ≡ true) × Follows run events now) ⊎ ComesFull now.room run.start (moments_of events run.limit run.start)
        → ((now.near ≡ true) × Follows run events (with_text now (put after))) ⊎ ComesFull now.room run.start (moments_of events run.limit run.start)
    go (inl both) = inl (both.0, follows both.1)
    go (inr full) = inr full

-- all of it
pub put_goes : {W : Type 0} {S : SwapStore W} (run : Run S) (now : Stand) (after : Option (List ℕ)) (taken : List ℕ) (f : Bool) (r : Reader) (ended : Option Ending)
    → Puts now.text.out after now.text.held → Goes run taken f r now (Ok ended) → Goes run taken f r (with_text now (put after)) (Ok ended)
put_goes run now after taken f r None grown p = record {
  calls = p.calls;
  is_reader = p.is_reader;
  took = p.took;
  reaches = put_reached run (play_of p.calls).answered now after grown p.reaches;
  silent = silent_put run.tells run.begun now.text.out after now.text.held p.silent grown;
}
put_goes run now after taken f r (Some ending) grown p = record {
  may = p.may;
  exact = λ more may known.
      let so = p.exact more may known in ((so.0.0, gathers_put run.begun now.text.out after now.text.held _ so.0.1 grown), so.1, so.2);
  near = p.near;
  silent = silent_put run.tells run.begun now.text.out after now.text.held p.silent grown;
}

-- .. also where the store failed
pub put_swapped : {W : Type 0} {S : SwapStore W} (run : Run S) (now : Stand) (after : Option (List ℕ)) (taken : List ℕ) (f : Bool)
    → Puts now.text.out after now.text.held → FailsSo run taken f now Swap → FailsSo run taken f (with_text now (put after)) Swap
put_swapped run now after taken f grown p = record {
  exact = λ more may trusted.
      let all = p.exact more may trusted in
      let gathered = gathers_put run.begun now.text.out after now.text.held _ all.some.gathered grown in
      record {
        some = record { done = all.some.done; within = all.some.within; met = all.some.met; gathered = gathered };
        stood = all.stood;
        soon = all.soon;
      };
  full = p.full;
  silent = silent_put run.tells run.begun now.text.out after now.text.held p.silent grown;
}

-- .. or a part of it
pub unput_fails : {W : Type 0} {S : SwapStore W} (run : Run S) (now : Stand) (after : Option (List ℕ)) (taken : List ℕ) (f : Bool) (r : Reader) (ended : Option Ending)
    → (ended ≡ None → r.finished ≡ f) → GrowsByProperPrefix now.text.out after now.text.held → Goes run taken f r now (Ok ended) → FailsSo run taken f (with_text now (put after)) Write
unput_fails run now after taken f r None same front p = λ more may known.
    let left : History = history_of (left_of r more) run.limit now.machine in
    let in_time : r.finished ≡ true → more ≡ [] = λ said. may (sym (same refl) ∙ said) in
    part_completes run now (put after) taken r more in_time p
    (known_follows run now (play_of p.calls).answered (left_of r more).events (input_of (taken ++ more)) (events_of run now taken r more in_time p) p.reaches known)
    left refl (front_longer now.text.out after now.text.held (told run.tells left.records) front)
unput_fails run now after taken f r (Some ending) same front p = λ more may known.
    let so = p.exact more may known in gathers_unput run.begun now.text.out after now.text.held _ so.0.1 front

-- .. where some state is full, trust is all that makes the pages known
trusted_of : {W : Type 0} {S : SwapStore W} (run : Run S) (now : Stand) (input : Input) → ComesFull now.room run.start (moments_of input.events run.limit run.start) → IsKnown run now input
    → now.trusted ≡ true
trusted_of run now input full (inl trusted) = trusted
trusted_of run now input full (inr never) = absurd (never full)

pub unput_swapped : {W : Type 0} {S : SwapStore W} (run : Run S) (now : Stand) (after : Option (List ℕ)) (taken : List ℕ) (f : Bool)
    → GrowsByProperPrefix now.text.out after now.text.held → FailsSo run taken f now Swap → FailsSo run taken f (with_text now (put after)) Write
unput_swapped run now after taken f front p = λ more may known.
    let some = (p.exact more may (trusted_of run now (input_of (taken ++ more)) (p.full more may) known)).some in
    let first = some_first run.tells some.done run.limit run.start (input_of (taken ++ more)) some.within some.met in
    let P : List ℕ → Type 0 = λ text. GathersPart run.begun (put after) text in
    subst P (sym first.1) (part_longer run.begun (put after) _ first.0 (gathers_unput run.begun now.text.out after now.text.held _ some.gathered front))

-- ---- what comes of events, put, where this stood on the sink and was held

pub all_of_it_put : {W : Type 0} {S : SwapStore W} (run : Run S) (now : Stand) (out after : Option (List ℕ)) (held taken : List ℕ) (f : Bool) (r : Reader) (ended : Option Ending)
    → now.text ≡ text out held → Puts out after held → Goes run taken f r now (Ok ended) → Goes run taken f r (with_text now (put after)) (Ok ended)
all_of_it_put run now out after held taken f r ended same grown goes =
    let G : Text → Type 0 = λ t. Puts t.out after t.held in put_goes run now after taken f r ended (subst G (sym same) grown) goes

pub part_of_it_put : {W : Type 0} {S : SwapStore W} (run : Run S) (now : Stand) (out after : Option (List ℕ)) (held taken : List ℕ) (f : Bool) (r : Reader) (ended : Option Ending)
    → now.text ≡ text out held → (ended ≡ None → r.finished ≡ f) → GrowsByProperPrefix out after held → Goes run taken f r now (Ok ended)
    → FailsSo run taken f (with_text now (put after)) Write
part_of_it_put run now out after held taken f r ended same waits front goes =
    let G : Text → Type 0 = λ t. GrowsByProperPrefix t.out after t.held in unput_fails run now after taken f r ended waits (subst G (sym same) front) goes

-- where the store failed
steps_before_put : {W : Type 0} {S : SwapStore W} (run : Run S) (now : Stand) (out after : Option (List ℕ)) (held taken : List ℕ) (f : Bool)
    → now.text ≡ text out held → Puts out after held → FailsSo run taken f now Swap → FailsSo run taken f (with_text now (put after)) Swap
steps_before_put run now out after held taken f same grown fails =
    let G : Text → Type 0 = λ t. Puts t.out after t.held in put_swapped run now after taken f (subst G (sym same) grown) fails

steps_before_unput : {W : Type 0} {S : SwapStore W} (run : Run S) (now : Stand) (out after : Option (List ℕ)) (held taken : List ℕ) (f : Bool)
    → now.text ≡ text out held → GrowsByProperPrefix out after held → FailsSo run taken f now Swap → FailsSo run taken f (with_text now (put after)) Write
steps_before_unput run now out after held taken f same front fails =
    let G : Text → Type 0 = λ t. GrowsByProperPrefix t.out after t.held in unput_swapped run now after taken f (subst G (sym same) front) fails

-- a write failed before: nothing more is put
none_of_it_put : {W : Type 0} {S : SwapStore W} (run : Run S) (now : Stand) (out : Option (List ℕ)) (held taken : List ℕ) (f : Bool)
    → now.text ≡ text out held → FailsSo run taken f now Write → FailsSo run taken f (with_text now (put out)) Write
none_of_it_put run now out held taken f same fails = λ more may known.
    let P : Text → Type 0 = λ t. GatheredPart run.tells run.begun t (history_of (input_of (taken ++ more)) run.limit run.start) in
    let part : P (text out held) = subst P same (fails more may known) in
    part

-- whatever the fault was
pub held_put_before : {W : Type 0} {S : SwapStore W} (run : Run S) (now : Stand) (out after : Option (List ℕ)) (held taken : List ℕ) (f : Bool)
    (fault result : PlayFault) → now.text ≡ text out held → PutsBefore (text out held) after fault result → FailsSo run taken f now fault
    → FailsSo run taken f (with_text now (put after)) result
held_put_before run now out after held taken f Write Write same puts fails =
    let P : Option (List ℕ) → Type 0 = λ o. FailsSo run taken f (with_text now (put o)) Write in
    subst P (sym puts) (none_of_it_put run now out held taken f same fails)
held_put_before run now out after held taken f Write Swap same puts fails = absurd puts
held_put_before run now out after held taken f Swap Write same puts fails = steps_before_unput run now out after held taken f same puts fails
held_put_before run now out after held taken f Swap Swap same puts fails = steps_before_put run now out after held taken f same puts fails

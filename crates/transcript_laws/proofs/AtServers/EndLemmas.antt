-- Over a run: what isn't at a server in the end was over at the start, or was ended at the server that had it.
use Rattle.std.proofs.Common.{◌≡◌, ℕ, suc, ◌+◌, ◌<◌, ◌≤◌, ◌⊎◌, inl, inr, Bool, true, false, List, [], ◌∷◌, length, Option, Some, None, refl, sym, ap, ◌∙◌, subst, arith}
use Rattle.std.specs.Prelude.{if◌then◌else◌, slice_get}
use Rattle.std.specs.Option.{option_map}
use Rattle.std.proofs.lemmas.Bool.{eq-eqb}
use Rattle.std.proofs.lemmas.Option.{slice_get_within}
use Rattle.xk_base.specs.declared.events.Event.{Event}
use Rattle.xk_base.specs.declared.ids.Number.{Number}
use Rattle.xk_base.specs.declared.ids.Serial.{Serial}
use Rattle.xk_base.specs.declared.ids.ThreadId.{ThreadId}
use Rattle.xk_base.specs.declared.messages.Message.{Message}
use Rattle.xk_base.specs.Calls.Kinds.{is_answered}
use Rattle.call_effects.specs.Effects.{arriving, at_server}
use Rattle.machine_laws.specs.HistoryMoments.{moments_of}
use Rattle.machine_laws.proofs.Histories.MomentLemmas.{history_is_run}
use Rattle.machine_model.specs.Messaging.Messages.{is_of_number, new_message, new_number}
use Rattle.machine_model.specs.Messaging.Receivers.{receiver}
use Rattle.machine_model.specs.Runs.Matched.{IsServerAwaited, Matched}
use Rattle.machine_model.specs.Runs.Moments.{IsRun, Moment, caused, state_at}
use Rattle.machine_model.specs.State.Machine.{Machine, Server}
use Rattle.machine_model.proofs.Runs.KeptLemmas.{matched_at}
use Rattle.machine_laws.proofs.Stepping.EveryStepLemmas.{every_cause_keeps, every_run_keeps}
use Rattle.machine_laws.proofs.Threading.ThreadStepLemmas.{turned_to}
use Rattle.transcript_laws.specs.Accepting.{Accepts, GivesNumbers}
use Rattle.transcript_laws.specs.AtServers.{Brings, ByDelivery, EndsAt, EndsAtItsServer, EndsIn, HasItAt, IsAt, IsAtSince}
use Rattle.transcript_laws.specs.Following.{Held, Holds, Lacks, Over, Queued, Queues, Standing, Stands, Unsent, keeping}
use Rattle.transcript_laws.specs.Serving.{Arrives, AtOnce, IsSent}
use Rattle.transcript_laws.proofs.Accepting.AcceptedLemmas.{moment_gives}
use Rattle.transcript_laws.proofs.AtServers.LandLemmas.{Lands, accepted_lands}
use Rattle.transcript_laws.proofs.AtServers.PlaceLemmas.{IsElsewhere, number_of, server_goes}
use Rattle.transcript_laws.proofs.AtServers.SinceLemmas.{moment_leads, moment_step, run_since}
use Rattle.transcript_laws.proofs.Following.KeepLemmas.{queued_this}
use Rattle.transcript_laws.proofs.Following.SendLemmas.{arrival_kept}
use Rattle.transcript_laws.proofs.Following.StandLemmas.{holds_not_lacks, one_standing, queues_not_lacks, some_standing}
use Rattle.transcript_laws.proofs.Serving.ArrivalLemmas.{nothing_queued}
use Rattle.transcript_laws.proofs.Serving.ReceiverLemmas.{first_waiting}
use Rattle.transcript_laws.specs.CallKinds.{IsSending}

module _ (number : Number) where
  queued_is_at : (n : ℕ) (m : Machine) → keeping number (m.servers n) ≡ Queues → IsAt number n m
  queued_is_at n m e none = queues_not_lacks (sym e ∙ none)

  held_is_at : (n : ℕ) (m : Machine) → keeping number (m.servers n) ≡ Holds → IsAt number n m
  held_is_at n m e none = holds_not_lacks (sym e ∙ none)

  over_or_not : (m : Machine) → Matched m → Stands number m Over ⊎ (Stands number m Over → ⊥)
  over_or_not m h = let some = some_standing number m h in go some.0 some.1
    where
      go : (a : Standing) → Stands number m a → Stands number m Over ⊎ (Stands number m Over → ⊥)
      go Unsent s = inr (λ over. let e : Unsent ≡ Over = one_standing number m h Unsent Over s over in cc)
      go Queued s = inr (λ over. let e : Queued ≡ Over = one_standing number m h Queued Over s over in cc)
      go Held s = inr (λ over. let e : Held ≡ Over = one_standing number m h Held Over s over in cc)
      go Over s = inl s

  -- ---- the moment behind which it is over

  record IsLast (start : Machine) (moments : List Moment) : Type 0 where
    j : ℕ
    moment : Moment
    there : slice_get moments j ≡ Some moment
    before : Stands number (state_at start moments j) Over → ⊥
    over : Stands number moment.machine Over

  last_moment : (start : Machine) (moments : List Moment) → Matched start → IsRun start moments → (Stands number start Over → ⊥)
      → Stands number (state_at start moments (length moments)) Over → IsLast start moments
  unfolding IsRun state_at
  last_moment start [] h run before over = absurd (before over)
  last_moment start (moment ∷ moments) h run before over =
      go (λ still. last_moment moment.machine moments next run.1 still over) (over_or_not moment.machine next)
    where
      next : Matched moment.machine
      next = subst Matched (sym run.0) (every_cause_keeps moment.cause start h)

      go : ((Stands number moment.machine Over → ⊥) → IsLast moment.machine moments)
          → Stands number moment.machine Over ⊎ (Stands number moment.machine Over → ⊥) → IsLast start (moment ∷ moments)
      go later (inl now) = record { j = 0; moment = moment; there = refl; before = before; over = now }
      go later (inr still) =
          let at = later still in
          record { j = suc at.j; moment = at.moment; there = at.there; before = at.before; over = at.over }

  -- ---- what ends it there

  record IsEnded (m : Machine) (moment : Moment) : Type 0 where
    n : ℕ
    has : IsAt number n m ⊎ Brings number n moment.cause m
    ends : EndsAt number n moment.cause m

  module _ (m : Machine) (moment : Moment) (h : Matched m) (leads : moment.machine ≡ caused moment.cause m) (over : Stands number moment.machine Over) where
    at_server_ended : (n : ℕ) → IsAt number n m → IsEnded m moment
    at_server_ended n at = go (server_goes number n moment.cause m moment.machine (moment_step n m moment h leads) at (over.1 n))
      where
        go : EndsAt number n moment.cause m ⊎ IsElsewhere number moment.machine → IsEnded m moment
        go (inl ends) = record { n = n; has = inl at; ends = ends }
        go (inr other) = absurd (other.at (over.1 other.to))

    -- it is sent, and delivered at once
    module _ (a : Accepts (new_number m) m moment) (is_new : m.next_number ≡ number.0) where
      abbrev n : Machine
      n = turned_to a.served.who m

      l : Lands n a.words moment.machine
      l = accepted_lands (new_number m) m h moment leads a

      abbrev it : IsSending n a.words
      it = l.it

      abbrev serial : Serial
      serial = it.to.serial

      abbrev x : Message
      x = new_message n it.kind a.words it.first

      is : is_of_number number x ≡ true
      is = eq-eqb m.next_number number.0 is_new

      arrives : Arrives serial.0 x moment.cause m
      arrives = IsSent (record {
        pid = a.served.who.pid;
        words = a.words;
        served = record {
          who = a.served.who;
          step = a.served.step;
          by_who = a.served.by_who;
          of_process = refl;
          call = a.served.call;
          served = a.served.served;
        };
        sends = a.sends;
        leads = it.to.leads;
        kind = it.kind;
        named = it.named;
        first = it.first;
        is = refl;
      })

      gone : keeping number (Some (at_server (arriving (receiver n serial) x) it.to.server)) ≡ Lacks
      gone = sym (ap (keeping number) there) ∙ over.1 serial.0
        where
          there : moment.machine.servers serial.0 ≡ Some (at_server (arriving (receiver n serial) x) it.to.server)
          there =
              ap (λ (s : ℕ → Option Server). s serial.0) l.now
              ∙ (ap (λ b. if b then option_map (at_server (arriving (receiver n serial) x)) (n.servers serial.0) else n.servers serial.0) (eq-eqb serial.0 serial.0 refl)
              ∙ ap (option_map (at_server (arriving (receiver n serial) x))) it.to.there)

      sent_ended : IsEnded m moment
      sent_ended = go (receiver n serial) refl gone
        where
          by_answer : (who : ThreadId) → receiver n serial ≡ Some who → (b : Bool) → is_answered x.kind ≡ b
              → keeping number (Some (at_server (arriving (Some who) x) it.to.server)) ≡ Lacks → IsEnded m moment
          by_answer who e true q none = absurd (arrival_kept number x is q (Some who) it.to.server none)
          by_answer who e false q none =
              let at : IsServerAwaited n.servers who.pid serial = nothing_queued n (matched_at a.served.who m h) serial who e in
              record {
                n = serial.0;
                has = inr (record { message = x; numbered = number_of number x is; arrives = arrives });
                ends = ByDelivery who x (record {
                  n = serial.0;
                  server = at.server;
                  there = at.live;
                  own = at.own;
                  reaches = AtOnce at.empty arrives (first_waiting n (matched_at a.served.who m h) serial who e);
                }) refl (number_of number x is) q;
              }

          go : (o : Option ThreadId) → receiver n serial ≡ o → keeping number (Some (at_server (arriving o x) it.to.server)) ≡ Lacks → IsEnded m moment
          go None e none = absurd (queues_not_lacks (sym (queued_this number x it.to.server is) ∙ none))
          go (Some who) e none = by_answer who e (is_answered x.kind) refl none

    -- its number is given in this moment
    unsent_ended : m.next_number ≤ number.0 → IsEnded m moment
    unsent_ended high = go gives.kept
      where
        gives : GivesNumbers m moment
        gives = moment_gives m moment leads

        go : (moment.machine.next_number ≡ m.next_number) ⊎ Accepts (new_number m) m moment → IsEnded m moment
        go (inl same) = absurd (let low : number.0 < moment.machine.next_number = over.0 in omega arith)
        go (inr a) =
            let low : number.0 < moment.machine.next_number = over.0 in
            let up : moment.machine.next_number ≡ m.next_number + 1 = gives.given (new_number m) a in
            sent_ended a (omega arith)

    ended : (Stands number m Over → ⊥) → IsEnded m moment
    ended before = let some = some_standing number m h in go some.0 some.1
      where
        go : (a : Standing) → Stands number m a → IsEnded m moment
        go Unsent s = unsent_ended s
        go Queued s = at_server_ended s.0 (queued_is_at s.0 m s.1)
        go Held s = at_server_ended s.0 (held_is_at s.0 m s.1)
        go Over s = absurd (before s)

  -- ---- a run

  module _ (start : Machine) (moments : List Moment) (h : Matched start) (run : IsRun start moments) where
    in_run : IsLast start moments → EndsIn number start moments
    in_run t = record { j = t.j; moment = t.moment; there = t.there; n = e.n; has = has e.has; ends = e.ends }
      where
        e : IsEnded (state_at start moments t.j) t.moment
        e = ended (state_at start moments t.j) t.moment (every_run_keeps start moments h run t.j) (moment_leads start moments t.j t.moment run t.there)
            t.over t.before

        le : t.j ≤ length moments
        le = let low : t.j < length moments = slice_get_within moments t.j t.moment t.there in omega arith

        has : IsAt number e.n (state_at start moments t.j) ⊎ Brings number e.n t.moment.cause (state_at start moments t.j) → HasItAt number e.n start moments t.j
        has (inl at) = inl (run_since number e.n start moments h run t.j le at)
        has (inr brings) = inr (record { moment = t.moment; there = t.there; brings = brings })

    run_ends : number.0 < (state_at start moments (length moments)).next_number
        → ((n : ℕ) × IsAtSince number n start moments (length moments)) ⊎ (Stands number start Over ⊎ EndsIn number start moments)
    run_ends low =
        let some = some_standing number last (every_run_keeps start moments h run (length moments)) in go some.0 some.1
      where
        last : Machine
        last = state_at start moments (length moments)

        at_end : (n : ℕ) → IsAt number n last → IsAtSince number n start moments (length moments)
        at_end n at = run_since number n start moments h run (length moments) (omega arith) at

        over : Stands number last Over → Stands number start Over ⊎ (Stands number start Over → ⊥) → Stands number start Over ⊎ EndsIn number start moments
        over s (inl first) = inl first
        over s (inr before) = inr (in_run (last_moment start moments h run before s))

        go : (a : Standing) → Stands number last a
            → ((n : ℕ) × IsAtSince number n start moments (length moments)) ⊎ (Stands number start Over ⊎ EndsIn number start moments)
        go Unsent s = absurd (omega (arith, s, low))
        go Queued s = inl (s.0, at_end s.0 (queued_is_at s.0 last s.1))
        go Held s = inl (s.0, at_end s.0 (held_is_at s.0 last s.1))
        go Over s = inr (over s (over_or_not start h))

pub run_ends_at_servers : (start : Machine) (moments : List Moment) → Matched start → IsRun start moments → EndsAtItsServer start moments
run_ends_at_servers start moments h run number low = run_ends number start moments h run low

pub history_ends_at_servers : (events : List Event) (limit : ℕ) (start : Machine) → Matched start → EndsAtItsServer start (moments_of events limit start)
history_ends_at_servers events limit start h = run_ends_at_servers start (moments_of events limit start) h (history_is_run events limit start)

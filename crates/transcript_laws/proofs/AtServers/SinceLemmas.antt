-- Over a run: since when a message is at its server, and that this server delivers, returns or forwards it.
use Rattle.std.proofs.Common.{◌≡◌, ℕ, zero, suc, ◌<◌, ◌≤◌, ◌⊎◌, inl, inr, true, List, [], ◌∷◌, length, Some, refl, sym, ap, ◌∙◌, subst, arith}
use Rattle.std.specs.Prelude.{◌==◌, slice_get, slice_index}
use Rattle.std.proofs.lemmas.Bool.{and_parts, false≢true}
use Rattle.std.proofs.lemmas.Option.{none-some, same_Some, slice_get_past, slice_get_within}
use Rattle.xk_base.specs.declared.events.Event.{Event}
use Rattle.xk_base.specs.declared.ids.Number.{Number}
use Rattle.xk_base.specs.declared.ids.Pid.{Pid}
use Rattle.xk_base.specs.declared.messages.Message.{Message}
use Rattle.syscall_codec.specs.CallNumbers.{reply_message}
use Rattle.syscall_codec.specs.ReplyWords.{message_words}
use Rattle.machine_laws.specs.HistoryMoments.{moments_of}
use Rattle.machine_laws.proofs.Histories.MomentLemmas.{history_is_run}
use Rattle.machine_model.specs.Messaging.Messages.{is_of_number}
use Rattle.machine_model.specs.Runs.Matched.{Matched}
use Rattle.machine_model.specs.Runs.Moments.{IsRun, Moment, caused, state_at}
use Rattle.machine_model.specs.State.Machine.{Machine}
use Rattle.machine_laws.proofs.Stepping.EveryStepLemmas.{every_cause_keeps, every_run_keeps}
use Rattle.transcript_laws.specs.AtServers.{Brings, GivesUpAt, HasItAt, HaveOneServer, IsAt, IsAtSince, IsGivenAt, IsHeldAt, SinceMoment}
use Rattle.transcript_laws.specs.AtServers.{SinceStart}
use Rattle.transcript_laws.specs.Contents.{RepliesAt}
use Rattle.transcript_laws.specs.Following.{is_message_of, keeping}
use Rattle.transcript_laws.specs.Serving.{AtOnce, DiesIn, FromQueue, IsDelivered, IsMeant, Reaches, ServerStep, told_by}
use Rattle.transcript_laws.proofs.AtServers.GivenUpLemmas.{HasHolder, gives_holder}
use Rattle.transcript_laws.proofs.AtServers.PlaceLemmas.{number_of, oldest_listed, queued_at, server_comes}
use Rattle.transcript_laws.proofs.Following.StandLemmas.{holds_not_lacks, one_place}
use Rattle.transcript_laws.proofs.Serving.ContentLemmas.{reply_meant}
use Rattle.transcript_laws.proofs.Serving.ServedStepLemmas.{all_served}

-- what a cause does at a server, in the state of its moment
pub moment_step : (n : ℕ) (m : Machine) (moment : Moment) → Matched m → moment.machine ≡ caused moment.cause m
    → ServerStep n moment.cause m moment.machine (DiesIn (told_by moment.cause m))
moment_step n m moment h leads =
    subst (λ next. ServerStep n moment.cause m next (DiesIn (told_by moment.cause m))) (sym leads) ((all_served moment.cause m h).servers n)

pub moment_leads : (start : Machine) (moments : List Moment) (i : ℕ) (moment : Moment) → IsRun start moments → slice_get moments i ≡ Some moment
    → moment.machine ≡ caused moment.cause (state_at start moments i)
unfolding IsRun state_at
moment_leads start [] i moment run e = absurd (none-some moment (sym (slice_get_past [] i (omega arith)) ∙ e))
moment_leads start (first ∷ moments) zero moment run e = subst (λ (m : Moment). m.machine ≡ caused m.cause start) (same_Some first moment e) run.0
moment_leads start (first ∷ moments) (suc i) moment run e = moment_leads first.machine moments i moment run.1 e

-- ---- since when

module _ (number : Number) (n : ℕ) where
  -- from one moment later
  since_more : (start : Machine) (moment : Moment) (moments : List Moment) → Matched start → moment.machine ≡ caused moment.cause start → (j : ℕ)
      → IsAtSince number n moment.machine moments j → IsAtSince number n start (moment ∷ moments) (suc j)
  unfolding state_at
  since_more start moment moments h leads j (SinceStart at) =
      go (server_comes number n moment.cause start moment.machine (DiesIn (told_by moment.cause start)) (moment_step n start moment h leads) (at 0 (omega arith)))
    where
      all : IsAt number n start → (k : ℕ) → k ≤ suc j → IsAt number n (state_at start (moment ∷ moments) k)
      all first zero le = first
      all first (suc k) le = at k (omega arith)

      behind : (k : ℕ) → 0 < k → k ≤ suc j → IsAt number n (state_at start (moment ∷ moments) k)
      behind zero low le = absurd (omega arith)
      behind (suc k) low le = at k (omega arith)

      go : IsAt number n start ⊎ Brings number n moment.cause start → IsAtSince number n start (moment ∷ moments) (suc j)
      go (inl first) = SinceStart (all first)
      go (inr brings) = SinceMoment 0 (omega arith) (record { moment = moment; there = refl; brings = brings }) behind
  since_more start moment moments h leads j (SinceMoment i less b at) =
      SinceMoment (suc i) (omega arith) (record { moment = b.moment; there = b.there; brings = b.brings }) all
    where
      all : (k : ℕ) → suc i < k → k ≤ suc j → IsAt number n (state_at start (moment ∷ moments) k)
      all zero low le = absurd (omega arith)
      all (suc k) low le = at k (omega arith) (omega arith)

  pub run_since : (start : Machine) (moments : List Moment) → Matched start → IsRun start moments → (j : ℕ) → j ≤ length moments
      → IsAt number n (state_at start moments j) → IsAtSince number n start moments j
  unfolding IsRun state_at
  run_since start moments h run zero le at = SinceStart all
    where
      all : (k : ℕ) → k ≤ 0 → IsAt number n (state_at start moments k)
      all zero low = at
      all (suc k) low = absurd (omega arith)
  run_since start [] h run (suc j) le at = absurd (omega arith)
  run_since start (moment ∷ moments) h run (suc j) le at =
      since_more start moment moments h run.0 j
      (run_since moment.machine moments (subst Matched (sym run.0) (every_cause_keeps moment.cause start h)) run.1 j (omega arith) at)

-- ---- deliveries, returns and forwards

module _ (start : Machine) (moments : List Moment) (h : Matched start) (run : IsRun start moments) where
  abbrev now : ℕ → Machine
  now j = state_at start moments j

  within : (j : ℕ) (moment : Moment) → slice_get moments j ≡ Some moment → j ≤ length moments
  within j moment e = let low : j < length moments = slice_get_within moments j moment e in omega arith

  delivered : (number : Number) (words : List ℕ) (j : ℕ) (reply : RepliesAt words start moments j) → is_message_of number words ≡ true
      → IsGivenAt number reply.who start moments j
  delivered number words j reply is =
      go (reply_meant (now j) reply.moment.cause (every_run_keeps start moments h run j) reply.place reply.record_there reply.who words reply.told reply.is)
    where
      by_delivery : (x : Message) → is_of_number number x ≡ true → (d : IsDelivered reply.who x reply.moment.cause (now j)) → IsGivenAt number reply.who start moments j
      by_delivery x named d = record {
        moment = reply.moment;
        there = reply.there;
        message = x;
        numbered = number_of number x named;
        given = d;
        has = by d.reaches;
      }
        where
          by : Reaches d.n d.server reply.who x reply.moment.cause (now j) → HasItAt number d.n start moments j
          by (FromQueue first r) =
              inl (run_since number d.n start moments h run j (within j reply.moment reply.there)
              (λ none. queued_at number d.server (oldest_listed number d.server.queued x first named) (sym (ap (keeping number) d.there) ∙ none)))
          by (AtOnce empty a waits) =
              inr (record {
                moment = reply.moment;
                there = reply.there;
                brings = record { message = x; numbered = number_of number x named; arrives = a };
              })

      go : IsMeant reply.who words reply.moment.cause (now j) → IsGivenAt number reply.who start moments j
      go (inl none) = absurd (false≢true (sym none ∙ (and_parts (slice_index words 0 == reply_message) (slice_index words 1 == number.0) is).0))
      go (inr (x, d, same)) =
          by_delivery x
          (and_parts (slice_index (message_words x) 0 == reply_message) (slice_index (message_words x) 1 == number.0)
          (subst (λ v. is_message_of number v ≡ true) same is)).1 d

  given_up : (number : Number) (pid : Pid) (j : ℕ) → GivesUpAt number pid start moments j → IsHeldAt number pid start moments j
  given_up number pid j g =
      let at : HasHolder number pid (now j) = gives_holder number pid (now j) g.moment g.words (every_run_keeps start moments h run j) g.served g.gives in
      record {
        n = at.n;
        server = at.server;
        there = at.there;
        own = at.own;
        holds = at.holds;
        since = run_since number at.n start moments h run j (within j g.moment g.there) (λ none. holds_not_lacks (sym at.holds ∙ none));
      }

  pub run_has_one_server : HaveOneServer start moments
  run_has_one_server = record {
    since = λ number n j le at. run_since number n start moments h run j le at;
    one = λ number n other j at also. one_place number (now j) (every_run_keeps start moments h run j) n other at also;
    delivered = delivered;
    given_up = given_up;
  }

pub history_has_one_server : (events : List Event) (limit : ℕ) (start : Machine) → Matched start → HaveOneServer start (moments_of events limit start)
history_has_one_server events limit start h = run_has_one_server start (moments_of events limit start) h (history_is_run events limit start)

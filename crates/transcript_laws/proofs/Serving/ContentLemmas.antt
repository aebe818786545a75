-- A message keeps what its send gave it, wherever it is, and is delivered so.
use Rattle.std.proofs.Common.{◌≡◌, ℕ, zero, suc, ◌+◌, ◌<◌, ◌≤◌, inl, inr, Bool, true, false, List, [], ◌∷◌, ◌++◌, drop, get_or, Some, None, refl, sym, ap, ◌∙◌, subst, arith}
use Rattle.std.specs.Prelude.{◌==◌, ◌*◌, if◌then◌else◌, not, slice_get, slice_index}
use Rattle.std.specs.List.{All}
use Rattle.std.specs.Option.{option_map_or}
use Rattle.std.proofs.lemmas.Bool.{and_parts, eqb-true, false≢true}
use Rattle.std.proofs.lemmas.List.Elements.{All-append, All-cons, All-filter, All-head, All-map, All-nil, All-tail}
use Rattle.std.proofs.lemmas.Option.{none-some, same_Some, slice_get_past}
use Rattle.xk_base.specs.declared.events.Event.{Event}
use Rattle.xk_base.specs.declared.ids.Number.{Number}
use Rattle.xk_base.specs.declared.ids.Pid.{Pid}
use Rattle.xk_base.specs.declared.ids.ThreadId.{ThreadId}
use Rattle.xk_base.specs.declared.ids.Vpn.{Vpn}
use Rattle.xk_base.specs.declared.limits.TheConstants.{PAGE_SIZE}
use Rattle.xk_base.specs.declared.messages.Message.{Message}
use Rattle.xk_base.specs.declared.messages.MsgKind.{MsgKind}
use Rattle.xk_base.specs.declared.messages.MsgKind.TheVariants.{BlockingScalar, Lend, LendMut, Move, Scalar}
use Rattle.xk_base.specs.declared.records.Rec.{Rec}
use Rattle.xk_base.specs.declared.records.What.TheVariants.{Reply}
use Rattle.syscall_codec.specs.CallNumbers.{reply_message}
use Rattle.syscall_codec.specs.CallWords.{send_address, send_id, send_kind, send_length, send_offset, send_valid, send_words}
use Rattle.xk_base.specs.Calls.Kinds.{is_answered, kind_at, kind_number}
use Rattle.syscall_codec.specs.ReplyWords.{message_words}
use Rattle.machine_laws.specs.Records.{records_by}
use Rattle.machine_laws.specs.HistoryMoments.{moments_of}
use Rattle.machine_laws.proofs.Histories.MomentLemmas.{history_is_run}
use Rattle.machine_model.specs.Ending.Closing.{senderless_from}
use Rattle.machine_model.specs.Messaging.ForwardCalls.{with_first}
use Rattle.machine_model.specs.Messaging.Messages.{carries_pages, is_lend, is_of_number, new_message, oldest}
use Rattle.machine_model.specs.Messaging.SendCalls.{named_kind, sends_pages}
use Rattle.machine_model.specs.Runs.Matched.{Matched}
use Rattle.machine_model.specs.Runs.Moments.{Cause, IsRun, Moment, caused, state_at}
use Rattle.machine_model.specs.State.Machine.{Machine, Server}
use Rattle.machine_model.specs.State.Servers.{messages_of}
use Rattle.machine_model.specs.Stepping.Acts.{call_by}
use Rattle.machine_model.proofs.Matching.CountLemmas.{all_left, all_right}
use Rattle.machine_laws.proofs.Stepping.EveryStepLemmas.{every_cause_keeps}
use Rattle.transcript_laws.specs.Accepting.{Accepts}
use Rattle.transcript_laws.specs.Contents.{DeliveredAsSent, IsAsSent, RepliesAt}
use Rattle.transcript_laws.specs.Following.{is_message_of}
use Rattle.transcript_laws.specs.Serving.{Arrives, AtOnce, DiesIn, Ends, Forwards, Founded, FromQueue, IsDelivered, IsDelivery, IsForwarded}
use Rattle.transcript_laws.specs.Serving.{IsMeant, IsSent, ListStep, Lists, LosesSender, Queues, Reaches, Receives, Returns, ServerStep}
use Rattle.transcript_laws.specs.Serving.{Stays, Takes, told_by}
use Rattle.transcript_laws.proofs.Accepting.AcceptedLemmas.{moment_gives, run_climbs}
use Rattle.transcript_laws.proofs.Serving.ServedStepLemmas.{all_served}

-- ---- kinds

kind_of_number : (n : ℕ) (kind : MsgKind) → kind_at n ≡ Some kind → kind_number kind ≡ n
kind_of_number n kind e = go (n == 1) (n == 2) (n == 3) (n == 4) (n == 5) refl refl refl refl refl e
  where
    is : (k : MsgKind) → (n == kind_number k) ≡ true → Some k ≡ Some kind → kind_number kind ≡ n
    is k q r = ap kind_number (sym (same_Some k kind r)) ∙ sym (eqb-true n (kind_number k) q)

    go : (a b c d f : Bool) → (n == 1) ≡ a → (n == 2) ≡ b → (n == 3) ≡ c → (n == 4) ≡ d → (n == 5) ≡ f
        → (if a then Some LendMut else (if b then Some Lend else (if c then Some Move else (if d then Some Scalar else (if f then Some BlockingScalar else None))))) ≡ Some kind
        → kind_number kind ≡ n
    go true b c d f p q r s t e = is LendMut p e
    go false true c d f p q r s t e = is Lend q e
    go false false true d f p q r s t e = is Move r e
    go false false false true f p q r s t e = is Scalar s e
    go false false false false true p q r s t e = is BlockingScalar t e
    go false false false false false p q r s t e = absurd (none-some kind e)

number_of_kind : (kind : MsgKind) → kind_at (kind_number kind) ≡ Some kind
number_of_kind LendMut = refl
number_of_kind Lend = refl
number_of_kind Move = refl
number_of_kind Scalar = refl
number_of_kind BlockingScalar = refl

lend_carries : (kind : MsgKind) → is_lend kind ≡ true → carries_pages kind ≡ true
lend_carries LendMut e = refl
lend_carries Lend e = refl
lend_carries Move e = absurd (false≢true e)
lend_carries Scalar e = absurd (false≢true e)
lend_carries BlockingScalar e = absurd (false≢true e)

-- ---- what a message has of its send

record IsFrom (w : List ℕ) (x : Message) : Type 0 where
  kind : kind_number x.kind ≡ send_kind w
  id : x.id ≡ send_id w
  address : sends_pages w ≡ false → slice_index x.words 0 ≡ send_address w
  length : slice_index x.words 1 ≡ send_length w
  offset : slice_index x.words 2 ≡ send_offset w
  valid : slice_index x.words 3 ≡ send_valid w

-- its words, by whether it carries pages
abbrev words_of : List ℕ → Vpn → Bool → List ℕ
words_of w first pages =
    if pages then PAGE_SIZE * first.0 ∷ send_length w ∷ send_offset w ∷ send_valid w ∷ [] else send_words w

from_new : (m : Machine) (kind : MsgKind) (w : List ℕ) (first : Vpn) → named_kind w ≡ Some kind → IsFrom w (new_message m kind w first)
from_new m kind w first named = go (carries_pages kind) refl
  where
    pages : sends_pages w ≡ carries_pages kind
    pages = ap (λ o. option_map_or carries_pages o false) named

    go : (b : Bool) → carries_pages kind ≡ b → IsFrom w (new_message m kind w first)
    go true e = record {
      kind = kind_of_number (send_kind w) kind named;
      id = refl;
      address = λ none. absurd (false≢true (sym none ∙ (pages ∙ e)));
      length = ap (λ b. slice_index (words_of w first b) 1) e;
      offset = ap (λ b. slice_index (words_of w first b) 2) e;
      valid = ap (λ b. slice_index (words_of w first b) 3) e;
    }
    go false e = record {
      kind = kind_of_number (send_kind w) kind named;
      id = refl;
      address = λ none. ap (λ b. slice_index (words_of w first b) 0) e;
      length = ap (λ b. slice_index (words_of w first b) 1) e;
      offset = ap (λ b. slice_index (words_of w first b) 2) e;
      valid = ap (λ b. slice_index (words_of w first b) 3) e;
    }

-- all but the first word stay
later_word : (a : ℕ) (ws : List ℕ) (i : ℕ) → slice_index (a ∷ drop 1 ws) (suc i) ≡ slice_index ws (suc i)
later_word a [] i = refl
later_word a (x ∷ ws) i = refl

from_forward : (w : List ℕ) (x : Message) (first : Vpn) → is_lend x.kind ≡ true → IsFrom w x → IsFrom w (with_first first x)
from_forward w x first lends is = record {
  kind = is.kind;
  id = is.id;
  address = λ none. absurd (false≢true (sym none ∙ pages));
  length = later_word (PAGE_SIZE * first.0) x.words 0 ∙ is.length;
  offset = later_word (PAGE_SIZE * first.0) x.words 1 ∙ is.offset;
  valid = later_word (PAGE_SIZE * first.0) x.words 2 ∙ is.valid;
}
  where
    pages : sends_pages w ≡ true
    pages =
        ap (λ n. option_map_or carries_pages (kind_at n) false) (sym is.kind)
        ∙ (ap (λ o. option_map_or carries_pages o false) (number_of_kind x.kind) ∙ lend_carries x.kind lends)

from_senderless : (w : List ℕ) (x : Message) (pid : Pid) → IsFrom w x → IsFrom w (senderless_from pid x)
from_senderless w x pid is =
    record { kind = is.kind; id = is.id; address = is.address; length = is.length; offset = is.offset; valid = is.valid }

-- ---- wherever it is

module _ (number : Number) (w : List ℕ) where
  abbrev Fits : Message → Type 0
  Fits x = is_of_number number x ≡ true → IsFrom w x

  record AllFit (server : Server) : Type 0 where
    queued : All Fits server.queued
    held : All Fits server.held

  abbrev Carried : Machine → Type 0
  Carried m = (n : ℕ) (server : Server) → m.servers n ≡ Some server → AllFit server

  all_at : (xs : List Message) (k : ℕ) (x : Message) → slice_get xs k ≡ Some x → All Fits xs → Fits x
  all_at [] k x e all = absurd (none-some x (sym (slice_get_past [] k (omega arith)) ∙ e))
  all_at (y ∷ xs) zero x e all = subst Fits (same_Some y x e) (All-head Fits y xs all)
  all_at (y ∷ xs) (suc k) x e all = all_at xs k x e (All-tail Fits y xs all)

  oldest_fits : (xs : List Message) (x : Message) → oldest xs ≡ Some x → All Fits xs → Fits x
  oldest_fits [] x e all = absurd (none-some x e)
  oldest_fits (y ∷ xs) x e all = subst Fits (same_Some y x e) (All-head Fits y xs all)

  rest_fits : (xs : List Message) → All Fits xs → All Fits (drop 1 xs)
  rest_fits [] all = All-nil Fits
  rest_fits (y ∷ xs) all = All-tail Fits y xs all

  with_last : (xs : List Message) (x : Message) → All Fits xs → Fits x → All Fits (xs ++ x ∷ [])
  with_last xs x all fits = All-append Fits xs (x ∷ []) all (All-cons Fits x [] fits (All-nil Fits))

  held_too : (b : Bool) (xs : List Message) (x : Message) → All Fits xs → Fits x → All Fits (if b then xs ++ x ∷ [] else xs)
  held_too true xs x all fits = with_last xs x all fits
  held_too false xs x all fits = all

  module _ (cause : Cause) (m : Machine) (arrival : (n : ℕ) (x : Message) → Arrives n x cause m → Fits x) where
    list_fits : (n : ℕ) (next : Machine) (Dies : Pid → Type 0) (before after : Server) → ListStep n cause m next Dies before after → AllFit before → AllFit after
    list_fits n next Dies before after (Queues x a is) all =
        subst AllFit (sym is) (record { queued = with_last before.queued x all.queued (arrival n x a); held = all.held })
    list_fits n next Dies before after (Receives x who a empty own waits is) all =
        subst AllFit (sym is) (record { queued = all.queued; held = held_too (is_answered x.kind) before.held x all.held (arrival n x a) })
    list_fits n next Dies before after (Takes x who first own r is) all =
        subst AllFit (sym is) (record {
          queued = rest_fits before.queued all.queued;
          held = held_too (is_answered x.kind) before.held x all.held (oldest_fits before.queued x first all.queued);
        })
    list_fits n next Dies before after (Returns k r is) all =
        subst AllFit (sym is) (record { queued = all.queued; held = All-filter (λ x. not (is_of_number k x)) Fits before.held all.held })
    list_fits n next Dies before after (Forwards to x r from kept is) all =
        subst AllFit (sym is) (record { queued = all.queued; held = All-filter (λ y. not (is_of_number x.number y)) Fits before.held all.held })
    list_fits n next Dies before after (LosesSender pid dies is) all =
        subst AllFit (sym is) (record {
          queued = All-filter _ Fits before.queued all.queued;
          held = All-map Fits (senderless_from pid) before.held
              (λ k d low e. from_senderless w (get_or before.held k d) pid (all.held k d low e));
        })

    server_fits : (next : Machine) (Dies : Pid → Type 0) → Carried m → ((n : ℕ) → ServerStep n cause m next Dies) → Carried next
    server_fits next Dies carried steps n server there = go (steps n)
      where
        go : ServerStep n cause m next Dies → AllFit server
        go (Stays e) = carried n server (sym e ∙ there)
        go (Founded new none now queued held) =
            subst AllFit (same_Some new server (sym now ∙ there)) (record {
              queued = subst (All Fits) (sym queued) (All-nil Fits);
              held = subst (All Fits) (sym held) (All-nil Fits);
            })
        go (Ends old was e why) = absurd (none-some server (sym e ∙ there))
        go (Lists before after was now step) =
            subst AllFit (same_Some after server (sym now ∙ there)) (list_fits n next Dies before after step (carried n before was))

    delivered_fits : (who : ThreadId) (x : Message) → Carried m → IsDelivered who x cause m → Fits x
    delivered_fits who x carried d = go d.reaches
      where
        go : Reaches d.n d.server who x cause m → Fits x
        go (FromQueue first r) = oldest_fits d.server.queued x first (carried d.n d.server d.there).queued
        go (AtOnce empty a waits) = arrival d.n x a

    meant_as_sent : (who : ThreadId) (words : List ℕ) → Carried m → IsMeant who words cause m → is_message_of number words ≡ true → IsAsSent w words
    meant_as_sent who words carried (inl none) is =
        absurd (false≢true (sym none ∙ (and_parts (slice_index words 0 == reply_message) (slice_index words 1 == number.0) is).0))
    meant_as_sent who words carried (inr (x, delivered, same)) is =
        subst (IsAsSent w) (sym same)
        (as_sent (delivered_fits who x carried delivered
        (and_parts (slice_index (message_words x) 0 == reply_message) (slice_index (message_words x) 1 == number.0) (subst (λ v. is_message_of number v ≡ true) same is)).1))
      where
        as_sent : IsFrom w x → IsAsSent w (message_words x)
        as_sent from =
            record { kind = from.kind; id = from.id; address = from.address; length = from.length; offset = from.offset; valid = from.valid }

  -- ---- arrivals

  forward_fits : (m : Machine) → Carried m → (n k : ℕ) (server : Server) (held : Message) (first : Vpn) → m.servers n ≡ Some server
      → slice_get server.held k ≡ Some held → is_lend held.kind ≡ true → Fits (with_first first held)
  forward_fits m carried n k server held first there at lends e =
      from_forward w held first lends (all_at server.held k held at (carried n server there).held e)

  -- once it was accepted, no other message gets its number
  later_arrival : (cause : Cause) (m : Machine) → number.0 < m.next_number → Carried m → (n : ℕ) (x : Message) → Arrives n x cause m → Fits x
  later_arrival cause m low carried n x (IsSent r) = λ e.
      absurd (let same : x.number.0 ≡ number.0 = eqb-true x.number.0 number.0 e in
      let new : x.number.0 ≡ m.next_number = ap (λ (y : Message). y.number.0) r.is in omega arith)
  later_arrival cause m low carried n x (IsForwarded r) =
      subst Fits (sym r.is) (forward_fits m carried r.from r.place r.server r.held r.first r.there r.held_there r.lends)

  -- no message has it before
  fresh_carried : (m : Machine) → Matched m → number.0 ≡ m.next_number → Carried m
  fresh_carried m h new n server there =
      record { queued = all_left Fits server.queued server.held none; held = all_right Fits server.queued server.held none }
    where
      none : All Fits (messages_of server)
      none k d low e =
          absurd (let below : (get_or (messages_of server) k d).number.0 < m.next_number = h.rest.above.numbers n server there k d low in
          let same : (get_or (messages_of server) k d).number.0 ≡ number.0 = eqb-true (get_or (messages_of server) k d).number.0 number.0 e in omega arith)

-- in the moment of its send it is the one that is sent
first_arrival : (number : Number) (cause : Cause) (m : Machine) (moment : Moment) (a : Accepts number m moment) → Carried number a.words m → (n : ℕ) (x : Message)
    → Arrives n x cause m → Fits number a.words x
first_arrival number cause m moment a carried n x (IsSent r) = λ e.
    subst (IsFrom a.words) (sym r.is)
    (subst (λ v. IsFrom v (new_message (record m { cursor = r.served.who }) r.kind r.words r.first)) same
    (from_new (record m { cursor = r.served.who }) r.kind r.words r.first r.named))
  where
    same_who : r.served.who ≡ a.served.who
    same_who = same_Some r.served.who a.served.who (sym r.served.by_who ∙ a.served.by_who)

    same : r.words ≡ a.words
    same = same_Some r.words a.words (sym r.served.call ∙ (ap (λ v. call_by m v) same_who ∙ a.served.call))
first_arrival number cause m moment a carried n x (IsForwarded r) =
    subst (Fits number a.words) (sym r.is) (forward_fits number a.words m carried r.from r.place r.server r.held r.first r.there r.held_there r.lends)

-- ---- runs

-- what is told in the first moment of a run, and in a later one
pub reply_meant : (m : Machine) (cause : Cause) → Matched m → (k : ℕ) (rec : Rec) (who : ThreadId) (words : List ℕ) → slice_get (records_by cause m) k ≡ Some rec
    → rec.what ≡ Reply who words → IsMeant who words cause m
reply_meant m cause h k rec who words there is =
    subst (IsDelivery cause m) is (at (records_by cause m) k there (all_served cause m h).deliveries)
  where
    at : (xs : List Rec) (k : ℕ) → slice_get xs k ≡ Some rec → All (λ (r : Rec). IsDelivery cause m r.what) xs → IsDelivery cause m rec.what
    at [] k e all = absurd (none-some rec (sym (slice_get_past [] k (omega arith)) ∙ e))
    at (x ∷ xs) zero e all = subst (λ (r : Rec). IsDelivery cause m r.what) (same_Some x rec e) (All-head (λ (r : Rec). IsDelivery cause m r.what) x xs all)
    at (x ∷ xs) (suc k) e all = at xs k e (All-tail (λ (r : Rec). IsDelivery cause m r.what) x xs all)

first_reply : (start : Machine) (moment : Moment) (moments : List Moment) (words : List ℕ) → Matched start → (r : RepliesAt words start (moment ∷ moments) 0)
    → IsMeant r.who words moment.cause start
unfolding state_at
first_reply start moment moments words h r =
    reply_meant start moment.cause h r.place r.record_there r.who words
    (ap (λ (x : Moment). slice_get (records_by x.cause start) r.place) (same_Some moment r.moment r.there) ∙ r.told) r.is

later_reply : (start : Machine) (moment : Moment) (moments : List Moment) (words : List ℕ) (j : ℕ) → RepliesAt words start (moment ∷ moments) (suc j)
    → RepliesAt words moment.machine moments j
unfolding state_at
later_reply start moment moments words j r = record {
  moment = r.moment;
  there = r.there;
  who = r.who;
  place = r.place;
  record_there = r.record_there;
  told = r.told;
  is = r.is;
}

module _ (number : Number) (words : List ℕ) (is : is_message_of number words ≡ true) where
  carried_run : (w : List ℕ) (start : Machine) (moments : List Moment) → Matched start → IsRun start moments → number.0 < start.next_number
      → Carried number w start → (j : ℕ) → RepliesAt words start moments j → IsAsSent w words
  unfolding IsRun state_at
  carried_run w start [] h run low carried j r = absurd (none-some r.moment (sym (slice_get_past [] j (omega arith)) ∙ r.there))
  carried_run w start (moment ∷ moments) h run low carried zero r =
      meant_as_sent number w moment.cause start (later_arrival number w moment.cause start low carried) r.who words carried (first_reply start moment moments words h r) is
  carried_run w start (moment ∷ moments) h run low carried (suc j) r =
      let climbs : start.next_number ≤ moment.machine.next_number = run_climbs start (moment ∷ moments) 1 run in
      carried_run w moment.machine moments (subst Matched (sym run.0) (every_cause_keeps moment.cause start h)) run.1 (omega arith)
      (subst (Carried number w) (sym run.0)
      (server_fits number w moment.cause start (later_arrival number w moment.cause start low carried) (caused moment.cause start) (DiesIn (told_by moment.cause start)) carried (all_served moment.cause start h).servers))
      j (later_reply start moment moments words j r)

  sent_run : (start : Machine) (moments : List Moment) → Matched start → IsRun start moments → (i j : ℕ) (at : Moment) → slice_get moments i ≡ Some at
      → (a : Accepts number (state_at start moments i) at) → i ≤ j → RepliesAt words start moments j → IsAsSent a.words words
  unfolding IsRun state_at
  sent_run start [] h run i j at there a le r = absurd (none-some at (sym (slice_get_past [] i (omega arith)) ∙ there))
  sent_run start (moment ∷ moments) h run zero zero at there a le r =
      let new : number.0 ≡ start.next_number = ap (λ (k : Number). k.0) a.taken in
      let carried = fresh_carried number a.words start h new in
      meant_as_sent number a.words moment.cause start (first_arrival number moment.cause start at a carried) r.who words carried (first_reply start moment moments words h r) is
  sent_run start (moment ∷ moments) h run zero (suc j) at there a le r =
      let new : number.0 ≡ start.next_number = ap (λ (k : Number). k.0) a.taken in
      let carried = fresh_carried number a.words start h new in
      let up : moment.machine.next_number ≡ start.next_number + 1 =
      (moment_gives start moment run.0).given number (subst (Accepts number start) (sym (same_Some moment at there)) a) in
      carried_run a.words moment.machine moments (subst Matched (sym run.0) (every_cause_keeps moment.cause start h)) run.1 (omega arith)
      (subst (Carried number a.words) (sym run.0)
      (server_fits number a.words moment.cause start (first_arrival number moment.cause start at a carried) (caused moment.cause start) (DiesIn (told_by moment.cause start)) carried (all_served moment.cause start h).servers))
      j (later_reply start moment moments words j r)
  sent_run start (moment ∷ moments) h run (suc i) zero at there a le r = absurd (omega arith)
  sent_run start (moment ∷ moments) h run (suc i) (suc j) at there a le r =
      sent_run moment.machine moments (subst Matched (sym run.0) (every_cause_keeps moment.cause start h)) run.1 i j at there a (omega arith)
      (later_reply start moment moments words j r)

pub run_delivers_as_sent : (start : Machine) (moments : List Moment) → Matched start → IsRun start moments → DeliveredAsSent start moments
run_delivers_as_sent start moments h run number i j words accepted le r is =
    sent_run number words is start moments h run i j accepted.moment accepted.there accepted.accepts le r

pub history_delivers_as_sent : (events : List Event) (limit : ℕ) (start : Machine) → Matched start → DeliveredAsSent start (moments_of events limit start)
history_delivers_as_sent events limit start h = run_delivers_as_sent start (moments_of events limit start) h (history_is_run events limit start)

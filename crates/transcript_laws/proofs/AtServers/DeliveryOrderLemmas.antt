-- A server delivers in the order in which messages came to it.
use Rattle.std.proofs.Common.{◌≡◌, ◌≢◌, ℕ, zero, suc, ◌<◌, ◌≤◌, ◌⊎◌, inl, inr, Bool, true, false, List, [], ◌∷◌, ◌++◌, drop, filter, Some, refl, sym, ap, ◌∙◌, subst, arith}
use Rattle.std.specs.Prelude.{◌&&◌, ◌||◌, not, slice_get}
use Rattle.std.specs.List.{list_any}
use Rattle.std.proofs.lemmas.Bool.{eq-eqb, false≢true}
use Rattle.std.proofs.lemmas.List.Folds.{list_any-append}
use Rattle.std.proofs.lemmas.Option.{none-some, same_Some, slice_get_past}
use Rattle.xk_base.specs.declared.events.Event.{Event}
use Rattle.xk_base.specs.declared.ids.Number.{Number}
use Rattle.xk_base.specs.declared.ids.Pid.{Pid}
use Rattle.xk_base.specs.declared.ids.ThreadId.{ThreadId}
use Rattle.xk_base.specs.declared.messages.Message.{Message}
use Rattle.xk_base.specs.declared.records.Rec.{Rec}
use Rattle.xk_base.specs.declared.records.What.TheVariants.{Reply}
use Rattle.syscall_codec.specs.ReplyWords.{message_words}
use Rattle.machine_laws.specs.Records.{records_by}
use Rattle.machine_laws.specs.HistoryMoments.{moments_of}
use Rattle.machine_laws.proofs.Histories.MomentLemmas.{history_is_run}
use Rattle.machine_model.specs.Ending.Closing.{with_senderless_from, without_queued_from}
use Rattle.machine_model.specs.Messaging.Messages.{is_of_number, is_sent_from, oldest, with_queued, with_received, without_held, without_oldest}
use Rattle.machine_model.specs.Runs.Matched.{Matched}
use Rattle.machine_model.specs.Runs.Moments.{Cause, IsRun, Moment, state_at}
use Rattle.machine_model.specs.State.Machine.{Machine, Server}
use Rattle.machine_laws.proofs.Stepping.EveryStepLemmas.{every_cause_keeps}
use Rattle.transcript_laws.specs.AtServers.{IsAt}
use Rattle.transcript_laws.specs.Following.{Holds, Keeping, Lacks, Queues, keeping, keeping_by}
use Rattle.transcript_laws.specs.Order.{ComesAt, DeliveredInOrder, DeliversAt, IsGivenUpAt, StandsBefore, StandsBeforeAt, WaitsAt}
use Rattle.transcript_laws.specs.Serving.{AtOnce, DiesIn, Ends, Forwards, Founded, FromQueue, IsDelivered, IsReceiver, ListStep, Lists}
use Rattle.transcript_laws.specs.Serving.{LosesSender, Queues as QueuesOne, Reaches, Receives, Returns, ServerStep, Stays, Takes, told_by}
use Rattle.transcript_laws.proofs.AtServers.PlaceLemmas.{lacks, lacks_parts, number_of, oldest_listed, oldest_other, sent_away}
use Rattle.transcript_laws.proofs.AtServers.SinceLemmas.{moment_step}
use Rattle.transcript_laws.proofs.Following.EndLemmas.{left_any, senderless_any}
use Rattle.transcript_laws.proofs.Following.KeepLemmas.{queued_other, received_other}
use Rattle.transcript_laws.proofs.Following.StandLemmas.{queues_not_lacks}
use Rattle.transcript_laws.proofs.Serving.OrderLemmas.{IsAhead, IsAheadAt, ahead_of, not_next, queued_listed, step_ahead}
use Rattle.transcript_laws.proofs.Serving.TakenLemmas.{received_told, told_record}

-- ---- queues

-- a queue with a message of the number, taken apart there
record IsAmong (number : Number) (queue : List Message) : Type 0 where
  before : List Message
  one : Message
  rest : List Message
  here : queue ≡ before ++ (one ∷ rest)
  is : is_of_number number one ≡ true

among : (number : Number) (queue : List Message) → list_any (is_of_number number) queue ≡ true → IsAmong number queue
among number [] e = absurd (false≢true e)
among number (x ∷ xs) e = go (λ later. among number xs later) (is_of_number number x) refl e
  where
    go : (list_any (is_of_number number) xs ≡ true → IsAmong number xs) → (b : Bool) → is_of_number number x ≡ b
        → (b || list_any (is_of_number number) xs) ≡ true → IsAmong number (x ∷ xs)
    go later true p q = record { before = []; one = x; rest = xs; here = refl; is = p }
    go later false p q =
        let a = later q in
        record { before = x ∷ a.before; one = a.one; rest = a.rest; here = ap (λ ys. x ∷ ys) a.here; is = a.is }

with_last : (xs : List Message) (one : Message) (ys : List Message) (x : Message) → (xs ++ (one ∷ ys)) ++ x ∷ [] ≡ xs ++ (one ∷ (ys ++ x ∷ []))
with_last [] one ys x = refl
with_last (y ∷ xs) one ys x = ap (λ zs. y ∷ zs) (with_last xs one ys x)

or_true : (b : Bool) → (b || true) ≡ true
or_true true = refl
or_true false = refl

-- a queue that has one of the number
has_one : (number : Number) (before : List Message) (one : Message) (rest queue : List Message) → queue ≡ before ++ (one ∷ rest)
    → is_of_number number one ≡ true → list_any (is_of_number number) queue ≡ true
has_one number before one rest queue here is =
    ap (list_any (is_of_number number)) here
    ∙ (list_any-append (is_of_number number) before (one ∷ rest)
    ∙ (ap (λ b. list_any (is_of_number number) before || (b || list_any (is_of_number number) rest)) is ∙ or_true (list_any (is_of_number number) before)))

-- the oldest taken away, another is still there
left_others : (number : Number) (xs : List Message) (x : Message) → oldest xs ≡ Some x → is_of_number number x ≡ false
    → list_any (is_of_number number) xs ≡ true → list_any (is_of_number number) (drop 1 xs) ≡ true
left_others number [] x first e some = absurd (false≢true some)
left_others number (y ∷ xs) x first e some =
    sym (ap (λ b. b || list_any (is_of_number number) xs) (ap (is_of_number number) (same_Some y x first) ∙ e)) ∙ some

-- a server that has it in its queue queues it
queues : (number : Number) (server : Server) → list_any (is_of_number number) server.queued ≡ true → keeping number (Some server) ≡ Queues
queues number server e = ap (λ b. keeping_by b (list_any (is_of_number number) server.held)) e

-- ---- what comes joins behind all that wait

module _ (n : ℕ) (cause : Cause) (m next : Machine) (Dies : Pid → Type 0) (first second : Number) where
  list_joins : (before after : Server) → ListStep n cause m next Dies before after → keeping first (Some before) ≡ Queues
      → keeping second (Some before) ≡ Lacks → (keeping second (Some after) ≢ Lacks) → StandsBefore first second after.queued
  list_joins before after (QueuesOne x a is) waits none some = go (is_of_number second x) refl
    where
      go : (b : Bool) → is_of_number second x ≡ b → StandsBefore first second after.queued
      go false e = absurd (some (ap (λ (s : Server). keeping second (Some s)) is ∙ (queued_other second x before e ∙ none)))
      go true e =
          let at = among first before.queued (queued_listed first before waits) in
          record {
            before = at.before;
            one = at.one;
            between = at.rest;
            two = x;
            later = [];
            here = ap (λ (s : Server). s.queued) is ∙ (ap (λ q. q ++ x ∷ []) at.here ∙ with_last at.before at.one at.rest x);
            is_first = number_of first at.one at.is;
            is_second = number_of second x e;
          }
  list_joins before after (Receives x who a empty own least is) waits none some =
      absurd (false≢true (sym (ap (list_any (is_of_number first)) empty) ∙ queued_listed first before waits))
  list_joins before after (Takes x who oldest_is own r is) waits none some =
      let parts = lacks_parts second before none in
      let other = oldest_other second before.queued x oldest_is parts.0 in
      absurd (some (ap (λ (s : Server). keeping second (Some s)) is
      ∙ (received_other second x (without_oldest before) other.0 ∙ lacks second (without_oldest before) other.1 parts.1)))
  list_joins before after (Returns k r is) waits none some =
      let parts = lacks_parts second before none in
      absurd (some (ap (λ (s : Server). keeping second (Some s)) is
      ∙ lacks second (without_held k before) parts.0 (left_any second (λ x. not (is_of_number k x)) before.held parts.1)))
  list_joins before after (Forwards to x r from kept is) waits none some =
      let parts = lacks_parts second before none in
      absurd (some (ap (λ (s : Server). keeping second (Some s)) is
      ∙ lacks second (without_held x.number before) parts.0 (left_any second (λ y. not (is_of_number x.number y)) before.held parts.1)))
  list_joins before after (LosesSender pid dies is) waits none some =
      let parts = lacks_parts second before none in
      absurd (some (ap (λ (s : Server). keeping second (Some s)) is
      ∙ lacks second (with_senderless_from pid (without_queued_from pid before))
      (left_any second (λ x. not (is_sent_from pid x)) before.queued parts.0) (senderless_any second pid before.held ∙ parts.1)))

  step_joins : ServerStep n cause m next Dies → WaitsAt first n m → keeping second (m.servers n) ≡ Lacks → IsAt second n next
      → StandsBeforeAt n first second next
  step_joins (Stays e) waits none some = absurd (some (ap (keeping second) e ∙ none))
  step_joins (Founded server was now queued held) waits none some =
      absurd (let q : Lacks ≡ Queues = sym (ap (keeping first) was) ∙ waits in cc)
  step_joins (Ends server there e why) waits none some = absurd (some (ap (keeping second) e))
  step_joins (Lists before after was now step) waits none some = record {
    server = after;
    there = now;
    stands = list_joins before after step (sym (ap (keeping first) was) ∙ waits) (sym (ap (keeping second) was) ∙ none)
        (λ lacks_it. some (ap (keeping second) now ∙ lacks_it));
  }

joins : (n : ℕ) (first second : Number) (start : Machine) (moments : List Moment) → Matched start → IsRun start moments → (i : ℕ)
    → WaitsAt first n (state_at start moments i) → ComesAt second n start moments i → StandsBeforeAt n first second (state_at start moments (suc i))
unfolding IsRun state_at
joins n first second start [] h run zero waits comes = absurd (comes.1 comes.0)
joins n first second start [] h run (suc i) waits comes = absurd (comes.1 comes.0)
joins n first second start (moment ∷ moments) h run zero waits comes =
    step_joins n moment.cause start moment.machine (DiesIn (told_by moment.cause start)) first second (moment_step n start moment h run.0) waits comes.0
    comes.1
joins n first second start (moment ∷ moments) h run (suc i) waits comes =
    joins n first second moment.machine moments (subst Matched (sym run.0) (every_cause_keeps moment.cause start h)) run.1 i waits comes

-- ---- none is delivered at once while another waits

of_number : (number : Number) (x : Message) → x.number ≡ number → is_of_number number x ≡ true
of_number number x e = eq-eqb x.number.0 number.0 (ap (λ (k : Number). k.0) e)

delivered_waits : (n : ℕ) (first second : Number) (m : Machine) (cause : Cause) (who : ThreadId) (x : Message) (g : IsDelivered who x cause m)
    → g.n ≡ n → x.number ≡ second → WaitsAt first n m → WaitsAt second n m
delivered_waits n first second m cause who x g same named waits = subst (λ k. keeping second (m.servers k) ≡ Queues) same (by g.reaches)
  where
    first_there : keeping first (Some g.server) ≡ Queues
    first_there = sym (ap (keeping first) g.there) ∙ subst (λ k. keeping first (m.servers k) ≡ Queues) (sym same) waits

    by : Reaches g.n g.server who x cause m → keeping second (m.servers g.n) ≡ Queues
    by (FromQueue oldest_is r) =
        ap (keeping second) g.there ∙ queues second g.server (oldest_listed second g.server.queued x oldest_is (of_number second x named))
    by (AtOnce empty a least) =
        absurd (false≢true (sym (ap (list_any (is_of_number first)) empty) ∙ queued_listed first g.server first_there))

-- ---- what stands before is delivered before

-- how what waits leaves the queue of a server that stays
data Left (n : ℕ) (cause : Cause) (m : Machine) (number : Number) (Dies : Pid → Type 0) (before : Server) : Type 0 where
  ToReceiver : (x : Message) (who : ThreadId) → oldest before.queued ≡ Some x → before.pid ≡ who.pid → IsReceiver n who cause m
      → is_of_number number x ≡ true → Left n cause m number Dies before
  WithSender : (pid : Pid) → Dies pid → list_any (λ x. is_of_number number x && is_sent_from pid x) before.queued ≡ true
      → Left n cause m number Dies before

module _ (n : ℕ) (cause : Cause) (m next : Machine) (Dies : Pid → Type 0) (number : Number) where
  list_leaves : (before after : Server) → ListStep n cause m next Dies before after → keeping number (Some before) ≡ Queues
      → (keeping number (Some after) ≢ Queues) → Left n cause m number Dies before
  list_leaves before after step waits gone = go step
    where
      there : list_any (is_of_number number) before.queued ≡ true
      there = queued_listed number before waits

      -- it is still queued at what the server is now
      still : (now : Server) → after ≡ now → list_any (is_of_number number) now.queued ≡ true → Left n cause m number Dies before
      still now is e = absurd (gone (ap (λ (s : Server). keeping number (Some s)) is ∙ queues number now e))

      go : ListStep n cause m next Dies before after → Left n cause m number Dies before
      go (QueuesOne x a is) =
          still (with_queued x before) is
          (list_any-append (is_of_number number) before.queued (x ∷ []) ∙ ap (λ b. b || list_any (is_of_number number) (x ∷ [])) there)
      go (Receives x who a empty own least is) = still (with_received x before) is there
      go (Takes x who oldest_is own r is) = by (is_of_number number x) refl
        where
          by : (b : Bool) → is_of_number number x ≡ b → Left n cause m number Dies before
          by true e = ToReceiver x who oldest_is own r e
          by false e = still (with_received x (without_oldest before)) is (left_others number before.queued x oldest_is e there)
      go (Returns k r is) = still (without_held k before) is there
      go (Forwards to x r from kept is) = still (without_held x.number before) is there
      go (LosesSender pid dies is) = by (list_any (is_of_number number) (filter (λ x. not (is_sent_from pid x)) before.queued)) refl
        where
          by : (b : Bool) → list_any (is_of_number number) (filter (λ x. not (is_sent_from pid x)) before.queued) ≡ b → Left n cause m number Dies before
          by true e = still (with_senderless_from pid (without_queued_from pid before)) is e
          by false e = WithSender pid dies (sent_away number pid before.queued there e)

  -- a server where another message stays
  step_leaves : (other : Number) → ServerStep n cause m next Dies → WaitsAt number n m → (keeping number (next.servers n) ≢ Queues) → IsAt other n next
      → (before : Server) × (m.servers n ≡ Some before) × Left n cause m number Dies before
  step_leaves other (Stays e) waits gone at = absurd (gone (ap (keeping number) e ∙ waits))
  step_leaves other (Founded server was now queued held) waits gone at =
      absurd (let q : Lacks ≡ Queues = sym (ap (keeping number) was) ∙ waits in cc)
  step_leaves other (Ends server there e why) waits gone at = absurd (at (ap (keeping other) e))
  step_leaves other (Lists before after was now step) waits gone at = (
    before,
    was,
    list_leaves before after step (sym (ap (keeping number) was) ∙ waits) (λ queued. gone (ap (keeping number) now ∙ queued)),
  )

module _ (n : ℕ) (first second : Number) where
  abbrev Found : Machine → List Moment → ℕ → Type 0
  Found start moments j = (k : ℕ) × (k < j) × (DeliversAt first n start moments k ⊎ IsGivenUpAt first n start moments k)

  -- in a run with one more moment before
  later_either : (start : Machine) (moment : Moment) (moments : List Moment) (k : ℕ)
      → DeliversAt first n moment.machine moments k ⊎ IsGivenUpAt first n moment.machine moments k
      → DeliversAt first n start (moment ∷ moments) (suc k) ⊎ IsGivenUpAt first n start (moment ∷ moments) (suc k)
  unfolding state_at
  later_either start moment moments k (inl d) = inl (record {
    words = d.words;
    reply = record {
      moment = d.reply.moment;
      there = d.reply.there;
      who = d.reply.who;
      place = d.reply.place;
      record_there = d.reply.record_there;
      told = d.reply.told;
      is = d.reply.is;
    };
    message = d.message;
    numbered = d.numbered;
    tells = d.tells;
    given = d.given;
    by_server = d.by_server;
  })
  later_either start moment moments k (inr g) = inr (record {
    moment = g.moment;
    there = g.there;
    server = g.server;
    live = g.live;
    pid = g.pid;
    dies = g.dies;
    queued = g.queued;
  })

  later_found : (start : Machine) (moment : Moment) (moments : List Moment) (j : ℕ) → Found moment.machine moments j → Found start (moment ∷ moments) (suc j)
  later_found start moment moments j found =
      (suc found.0, let less : found.0 < j = found.1 in omega arith, later_either start moment moments found.0 found.2)

  later_delivers : (start : Machine) (moment : Moment) (moments : List Moment) (j : ℕ) → DeliversAt second n start (moment ∷ moments) (suc j)
      → DeliversAt second n moment.machine moments j
  unfolding state_at
  later_delivers start moment moments j d = record {
    words = d.words;
    reply = record {
      moment = d.reply.moment;
      there = d.reply.there;
      who = d.reply.who;
      place = d.reply.place;
      record_there = d.reply.record_there;
      told = d.reply.told;
      is = d.reply.is;
    };
    message = d.message;
    numbered = d.numbered;
    tells = d.tells;
    given = d.given;
    by_server = d.by_server;
  }

  -- the first moment leads it out of the queue
  left_found : (start : Machine) (moment : Moment) (moments : List Moment) (j : ℕ) → Matched start → (before : Server) → start.servers n ≡ Some before
      → Left n moment.cause start first (DiesIn (told_by moment.cause start)) before → Found start (moment ∷ moments) (suc j)
  unfolding state_at
  left_found start moment moments j h before was (ToReceiver x who oldest_is own r e) = (
    0,
    omega arith,
    inl (record {
      words = message_words x;
      reply = record { moment = moment; there = refl; who = who; place = at.0; record_there = at.1; told = at.2; is = at.3 };
      message = x;
      numbered = number_of first x e;
      tells = refl;
      given = record { n = n; server = before; there = was; own = own; reaches = FromQueue oldest_is r };
      by_server = refl;
    }),
  )
    where
      at : (k : ℕ) × (rec : Rec) × (slice_get (records_by moment.cause start) k ≡ Some rec) × (rec.what ≡ Reply who (message_words x))
      at = told_record (records_by moment.cause start) (Reply who (message_words x)) (received_told n moment.cause start h who r before was x oldest_is)
  left_found start moment moments j h before was (WithSender pid dies sent) =
      (0, omega arith, inr (record { moment = moment; there = refl; server = before; live = was; pid = pid; dies = dies; queued = sent }))

  module _ (other : first ≢ second) where
    -- while the first stands before it the second isn't delivered
    not_delivered : (m : Machine) → IsAheadAt first second other n m → (cause : Cause) (who : ThreadId) (x : Message) (g : IsDelivered who x cause m)
        → g.n ≡ n → x.number ≡ second → ⊥
    not_delivered m a cause who x g same named = by g.reaches
      where
        ahead : IsAhead first second other g.server.queued
        ahead =
            subst (λ (s : Server). IsAhead first second other s.queued)
            (same_Some a.server g.server (sym a.there ∙ (ap m.servers (sym same) ∙ g.there))) a.ahead

        some : (before : List Message) → before ++ (ahead.one ∷ ahead.rest) ≡ [] → ⊥
        some [] e = none-some ahead.one (sym (ap oldest e))
        some (y ∷ before) e = none-some y (sym (ap oldest e))

        by : Reaches g.n g.server who x cause m → ⊥
        by (FromQueue oldest_is r) = not_next first second other g.server.queued ahead x oldest_is named
        by (AtOnce empty arrives least) = some ahead.before (sym ahead.here ∙ empty)

    ahead_waits : (m : Machine) (a : IsAheadAt first second other n m) → WaitsAt first n m
    ahead_waits m a =
        ap (keeping first) a.there
        ∙ queues first a.server (has_one first a.ahead.before a.ahead.one a.ahead.rest a.server.queued a.ahead.here a.ahead.is)

    ahead_found : (start : Machine) (moments : List Moment) → Matched start → IsRun start moments → IsAheadAt first second other n start → (j : ℕ)
        → ((k : ℕ) → k ≤ j → IsAt second n (state_at start moments k)) → DeliversAt second n start moments j → Found start moments j
    unfolding IsRun state_at
    ahead_found start moments h run a zero stays d =
        absurd (not_delivered start a d.reply.moment.cause d.reply.who d.message d.given d.by_server d.numbered)
    ahead_found start [] h run a (suc j) stays d =
        absurd (none-some d.reply.moment (sym (slice_get_past [] (suc j) (omega arith)) ∙ d.reply.there))
    ahead_found start (moment ∷ moments) h run a (suc j) stays d =
        go (λ waits.
        later_found start moment moments j
        (ahead_found moment.machine moments (subst Matched (sym run.0) (every_cause_keeps moment.cause start h)) run.1 (still waits) j
        (λ k le. stays (suc k) (omega arith)) (later_delivers start moment moments j d)))
        (keeping first (moment.machine.servers n)) refl
      where
        step : ServerStep n moment.cause start moment.machine (DiesIn (told_by moment.cause start))
        step = moment_step n start moment h run.0

        still : keeping first (moment.machine.servers n) ≡ Queues → IsAheadAt first second other n moment.machine
        still waits =
            step_ahead first second other moment.cause start moment.machine (DiesIn (told_by moment.cause start)) n h step a waits

        here : (keeping first (moment.machine.servers n) ≢ Queues) → Found start (moment ∷ moments) (suc j)
        here gone =
            let left = step_leaves n moment.cause start moment.machine (DiesIn (told_by moment.cause start)) first second step (ahead_waits start a) gone
            (stays 1 (omega arith)) in
            left_found start moment moments j h left.0 left.1 left.2

        go : (keeping first (moment.machine.servers n) ≡ Queues → Found start (moment ∷ moments) (suc j)) → (k : Keeping)
            → keeping first (moment.machine.servers n) ≡ k → Found start (moment ∷ moments) (suc j)
        go later Queues e = later e
        go later Lacks e = here (λ q. queues_not_lacks (sym q ∙ e))
        go later Holds e = here (λ q. let f : Queues ≡ Holds = sym q ∙ e in cc)

  abbrev FoundFrom : ℕ → Machine → List Moment → ℕ → Type 0
  FoundFrom i start moments j = (k : ℕ) × (i ≤ k) × (k < j) × (DeliversAt first n start moments k ⊎ IsGivenUpAt first n start moments k)

  found_later : (start : Machine) (moment : Moment) (moments : List Moment) (i j : ℕ) → FoundFrom i moment.machine moments j
      → FoundFrom (suc i) start (moment ∷ moments) (suc j)
  found_later start moment moments i j found =
      let low : i ≤ found.0 = found.1 in
      let less : found.0 < j = found.2 in
      (suc found.0, omega arith, omega arith, later_either start moment moments found.0 found.3)

  in_order : (start : Machine) (moments : List Moment) → Matched start → IsRun start moments → (i j : ℕ) → i ≤ j
      → StandsBeforeAt n first second (state_at start moments i) → ((k : ℕ) → i ≤ k → k ≤ j → IsAt second n (state_at start moments k))
      → DeliversAt second n start moments j → FoundFrom i start moments j
  unfolding IsRun state_at
  in_order start moments h run zero j le at stays d =
      let apart = ahead_of n first second start h at in
      let found = ahead_found apart.0 start moments h run (apart.1 apart.0) j (λ k low. stays k (omega arith) low) d in
      (found.0, omega arith, found.1, found.2)
  in_order start moments h run (suc i) zero le at stays d = absurd (omega arith)
  in_order start [] h run (suc i) (suc j) le at stays d =
      absurd (none-some d.reply.moment (sym (slice_get_past [] (suc j) (omega arith)) ∙ d.reply.there))
  in_order start (moment ∷ moments) h run (suc i) (suc j) le at stays d =
      found_later start moment moments i j
      (in_order moment.machine moments (subst Matched (sym run.0) (every_cause_keeps moment.cause start h)) run.1 i j (omega arith) at
      (λ k low high. stays (suc k) (omega arith) (omega arith)) (later_delivers start moment moments j d))

-- ---- runs and histories

pub run_delivers_in_order : (start : Machine) (moments : List Moment) → Matched start → IsRun start moments → DeliveredInOrder start moments
run_delivers_in_order start moments h run = record {
  joins = λ n first second i waits comes. joins n first second start moments h run i waits comes;
  none_at_once = λ n first second i waits d.
      delivered_waits n first second (state_at start moments i) d.reply.moment.cause d.reply.who d.message d.given d.by_server d.numbered waits;
  in_order = λ n first second i j le at stays d. in_order n first second start moments h run i j le at stays d;
}

pub history_delivers_in_order : (events : List Event) (limit : ℕ) (start : Machine) → Matched start → DeliveredInOrder start (moments_of events limit start)
history_delivers_in_order events limit start h = run_delivers_in_order start (moments_of events limit start) h (history_is_run events limit start)

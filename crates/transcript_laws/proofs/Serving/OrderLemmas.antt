-- A server receives what it has queued in the order in which it was queued.
use Rattle.std.proofs.Common.{◌≡◌, ◌≢◌, ℕ, zero, suc, ◌+◌, ◌≤◌, Bool, true, false, List, [], ◌∷◌, ◌++◌, cond, drop, filter, Some, refl, sym, ap, ◌∙◌, subst, arith}
use Rattle.std.specs.Prelude.{◌||◌}
use Rattle.std.specs.List.{All, list_any}
use Rattle.std.proofs.lemmas.Bool.{eq-eqb, eqb-true, false≢true, or_parts}
use Rattle.std.proofs.lemmas.List.Folds.{list_any-append}
use Rattle.std.proofs.lemmas.List.Elements.{All-filter, All-head, All-tail}
use Rattle.std.proofs.lemmas.Option.{none-some, same_Some}
use Rattle.xk_base.specs.declared.events.Event.{Event}
use Rattle.xk_base.specs.declared.ids.Number.{Number}
use Rattle.xk_base.specs.declared.ids.Pid.{Pid}
use Rattle.xk_base.specs.declared.messages.Message.{Message}
use Rattle.machine_laws.specs.HistoryMoments.{moments_of}
use Rattle.machine_laws.proofs.Histories.MomentLemmas.{history_is_run}
use Rattle.machine_model.specs.Messaging.MessageCounts.{count_in}
use Rattle.machine_model.specs.Messaging.Messages.{is_of_number, oldest}
use Rattle.machine_model.specs.Runs.Matched.{Matched}
use Rattle.machine_model.specs.Runs.Moments.{Cause, IsRun, Moment, caused, state_at}
use Rattle.machine_model.specs.State.Machine.{Machine, Server}
use Rattle.machine_model.proofs.Matching.CountLemmas.{count_in-append, none_pass, one_if}
use Rattle.machine_laws.proofs.Messaging.AnyServerLemmas.{queued_apart}
use Rattle.machine_laws.proofs.Messaging.ListedLemmas.{not_counted}
use Rattle.machine_laws.proofs.Stepping.EveryStepLemmas.{every_cause_keeps}
use Rattle.transcript_laws.specs.Following.{Holds, Lacks, Queues, keeping, keeping_by}
use Rattle.transcript_laws.specs.Order.{IsNotNext, OrderKept, StandsBefore, StandsBeforeAt}
use Rattle.transcript_laws.specs.Serving.{DiesIn, Ends, Forwards, Founded, ListStep, Lists, LosesSender, Queues as QueuesOne, Receives}
use Rattle.transcript_laws.specs.Serving.{Returns, ServerStep, Stays, Takes, told_by}
use Rattle.transcript_laws.proofs.Serving.ServedStepLemmas.{all_served}

-- a server that queues the message has it in its queue
pub queued_listed : (number : Number) (server : Server) → keeping number (Some server) ≡ Queues → list_any (is_of_number number) server.queued ≡ true
queued_listed number server e = go (list_any (is_of_number number) server.queued) (list_any (is_of_number number) server.held) refl e
  where
    go : (a b : Bool) → list_any (is_of_number number) server.queued ≡ a → keeping_by a b ≡ Queues → a ≡ true
    go true b p q = refl
    go false true p q = absurd (let r : Holds ≡ Queues = q in cc)
    go false false p q = absurd (let r : Lacks ≡ Queues = q in cc)

module _ (first second : Number) (other : first ≢ second) where
  abbrev is_first : Message → Bool
  is_first = is_of_number first

  -- the first message stands in the queue, and nothing of the second number before it
  pub record IsAhead (queue : List Message) : Type 0 where
    pub before : List Message
    pub one : Message
    pub rest : List Message
    pub here : queue ≡ before ++ (one ∷ rest)
    pub is : is_of_number first one ≡ true
    pub clear : All (λ x. is_of_number second x ≡ false) before

  -- at most one message has the first number
  abbrev IsAlone : List Message → Type 0
  IsAlone queue = count_in (is_of_number first) queue ≤ 1

  counted_one : (one : Message) (rest : List Message) → is_of_number first one ≡ true → IsAlone (one ∷ rest) → list_any (is_of_number first) rest ≡ false
  unfolding count_in
  counted_one one rest is alone =
      let one_more : one_if (is_of_number first one) ≡ 1 = ap one_if is in
      let sum : one_if (is_of_number first one) + count_in (is_of_number first) rest ≤ 1 = alone in
      not_counted (is_of_number first) rest (omega arith)

  -- what is left of a list has what was in it
  left_none : (keep : Message → Bool) (xs : List Message) → list_any (is_of_number first) xs ≡ false → list_any (is_of_number first) (filter keep xs) ≡ false
  left_none keep [] e = refl
  left_none keep (x ∷ xs) e =
      let parts = or_parts (is_of_number first x) (list_any (is_of_number first) xs) e in
      go (keep x) parts.0 (left_none keep xs parts.1)
    where
      go : (b : Bool) → is_of_number first x ≡ false → list_any (is_of_number first) (filter keep xs) ≡ false
          → list_any (is_of_number first) (cond b (x ∷ filter keep xs) (filter keep xs)) ≡ false
      go true p q = (λ i. p i || q i)
      go false p q = q

  -- ---- what happens to the queue

  more_ahead : (queue : List Message) (x : Message) → IsAhead queue → IsAhead (queue ++ x ∷ [])
  more_ahead queue x a = record {
    before = a.before;
    one = a.one;
    rest = a.rest ++ x ∷ [];
    here = ap (λ q. q ++ x ∷ []) a.here ∙ assoc a.before;
    is = a.is;
    clear = a.clear;
  }
    where
      assoc : (xs : List Message) → (xs ++ (a.one ∷ a.rest)) ++ x ∷ [] ≡ xs ++ (a.one ∷ (a.rest ++ x ∷ []))
      assoc [] = refl
      assoc (y ∷ xs) = ap (λ zs. y ∷ zs) (assoc xs)

  taken_ahead : (queue : List Message) → IsAlone queue → IsAhead queue → list_any (is_of_number first) (drop 1 queue) ≡ true → IsAhead (drop 1 queue)
  taken_ahead queue alone a still = go a.before a.here a.clear
    where
      go : (before : List Message) → queue ≡ before ++ (a.one ∷ a.rest) → All (λ x. is_of_number second x ≡ false) before → IsAhead (drop 1 queue)
      go [] e clear =
          absurd (false≢true (sym (counted_one a.one a.rest a.is (subst IsAlone e alone)) ∙ (sym (ap (λ q. list_any (is_of_number first) (drop 1 q)) e) ∙ still)))
      go (y ∷ before) e clear = record {
        before = before;
        one = a.one;
        rest = a.rest;
        here = ap (λ q. drop 1 q) e;
        is = a.is;
        clear = All-tail (λ x. is_of_number second x ≡ false) y before clear;
      }

  filtered : (keep : Message → Bool) (xs ys : List Message) → filter keep (xs ++ ys) ≡ filter keep xs ++ filter keep ys
  filtered keep [] ys = refl
  filtered keep (x ∷ xs) ys = go (keep x) (filtered keep xs ys)
    where
      go : (b : Bool) → filter keep (xs ++ ys) ≡ filter keep xs ++ filter keep ys
          → cond b (x ∷ filter keep (xs ++ ys)) (filter keep (xs ++ ys)) ≡ cond b (x ∷ filter keep xs) (filter keep xs) ++ filter keep ys
      go true e = ap (λ zs. x ∷ zs) e
      go false e = e

  none_before : (xs ys : List Message) (one : Message) → is_of_number first one ≡ true → IsAlone (xs ++ (one ∷ ys))
      → (list_any (is_of_number first) xs ≡ false) × (list_any (is_of_number first) ys ≡ false)
  unfolding count_in
  none_before xs ys one is alone =
      let whole : count_in (is_of_number first) (xs ++ (one ∷ ys)) ≡ count_in (is_of_number first) xs + (one_if (is_of_number first one) + count_in (is_of_number first) ys) =
      count_in-append (is_of_number first) xs (one ∷ ys) in
      let single : one_if (is_of_number first one) ≡ 1 = ap one_if is in
      let most : count_in (is_of_number first) (xs ++ (one ∷ ys)) ≤ 1 = alone in
      (not_counted (is_of_number first) xs (omega arith), not_counted (is_of_number first) ys (omega arith))

  left_ahead : (keep : Message → Bool) (queue : List Message) → IsAlone queue → IsAhead queue → list_any (is_of_number first) (filter keep queue) ≡ true
      → IsAhead (filter keep queue)
  left_ahead keep queue alone a still = go (keep a.one) refl
    where
      split : (b : Bool) → keep a.one ≡ b → filter keep queue ≡ filter keep a.before ++ cond b (a.one ∷ filter keep a.rest) (filter keep a.rest)
      split b e =
          ap (filter keep) a.here
          ∙ (filtered keep a.before (a.one ∷ a.rest) ∙ ap (λ c. filter keep a.before ++ cond c (a.one ∷ filter keep a.rest) (filter keep a.rest)) e)

      none : list_any (is_of_number first) (filter keep a.before ++ filter keep a.rest) ≡ false
      none =
          let both = none_before a.before a.rest a.one a.is (subst IsAlone a.here alone) in
          list_any-append (is_of_number first) (filter keep a.before) (filter keep a.rest)
          ∙ (λ i. left_none keep a.before both.0 i || left_none keep a.rest both.1 i)

      go : (b : Bool) → keep a.one ≡ b → IsAhead (filter keep queue)
      go true e = record {
        before = filter keep a.before;
        one = a.one;
        rest = filter keep a.rest;
        here = split true e;
        is = a.is;
        clear = All-filter keep (λ x. is_of_number second x ≡ false) a.before a.clear;
      }
      go false e = absurd (false≢true (sym none ∙ (sym (ap (list_any (is_of_number first)) (split false e)) ∙ still)))

  list_ahead : (n : ℕ) (cause : Cause) (m next : Machine) (Dies : Pid → Type 0) (before after : Server) → ListStep n cause m next Dies before after → IsAlone before.queued → IsAhead before.queued
      → list_any (is_of_number first) after.queued ≡ true → IsAhead after.queued
  list_ahead n cause m next Dies before after (QueuesOne x a is) alone ahead still =
      subst (λ (s : Server). IsAhead s.queued) (sym is) (more_ahead before.queued x ahead)
  list_ahead n cause m next Dies before after (Receives x who a empty own waits is) alone ahead still = subst (λ (s : Server). IsAhead s.queued) (sym is) ahead
  list_ahead n cause m next Dies before after (Takes x who oldest_is own r is) alone ahead still =
      subst (λ (s : Server). IsAhead s.queued) (sym is)
      (taken_ahead before.queued alone ahead (sym (ap (λ (s : Server). list_any (is_of_number first) s.queued) is) ∙ still))
  list_ahead n cause m next Dies before after (Returns k r is) alone ahead still = subst (λ (s : Server). IsAhead s.queued) (sym is) ahead
  list_ahead n cause m next Dies before after (Forwards to x r from kept is) alone ahead still = subst (λ (s : Server). IsAhead s.queued) (sym is) ahead
  list_ahead n cause m next Dies before after (LosesSender pid dies is) alone ahead still =
      subst (λ (s : Server). IsAhead s.queued) (sym is)
      (left_ahead _ before.queued alone ahead (sym (ap (λ (s : Server). list_any (is_of_number first) s.queued) is) ∙ still))

  -- ---- the next message

  pub not_next : (queue : List Message) → IsAhead queue → (x : Message) → oldest queue ≡ Some x → x.number ≢ second
  not_next queue a x e same = go a.before a.here a.clear
    where
      go : (before : List Message) → queue ≡ before ++ (a.one ∷ a.rest) → All (λ y. is_of_number second y ≡ false) before → ⊥
      go [] q clear =
          let is_one : a.one ≡ x = same_Some a.one x (sym (ap oldest q) ∙ e) in
          let number : a.one.number.0 ≡ first.0 = eqb-true a.one.number.0 first.0 a.is in
          other ((λ i. record { 0 = sym number i }) ∙ (ap (λ (y : Message). y.number) is_one ∙ same))
      go (y ∷ before) q clear =
          let is_head : y ≡ x = same_Some y x (sym (ap oldest q) ∙ e) in
          false≢true (sym (All-head (λ z. is_of_number second z ≡ false) y before clear)
          ∙ eq-eqb y.number.0 second.0 (ap (λ (z : Message). z.number.0) is_head ∙ ap (λ (k : Number). k.0) same))

  -- ---- at a server

  pub record IsAheadAt (n : ℕ) (m : Machine) : Type 0 where
    pub server : Server
    pub there : m.servers n ≡ Some server
    pub ahead : IsAhead server.queued

  pub step_ahead : (cause : Cause) (m next : Machine) (Dies : Pid → Type 0) (n : ℕ) → Matched m → ServerStep n cause m next Dies → IsAheadAt n m → keeping first (next.servers n) ≡ Queues → IsAheadAt n next
  step_ahead cause m next Dies n h (Stays e) a queued = record { server = a.server; there = e ∙ a.there; ahead = a.ahead }
  step_ahead cause m next Dies n h (Founded server none now empty held) a queued = absurd (none-some a.server (sym none ∙ a.there))
  step_ahead cause m next Dies n h (Ends server there e why) a queued = absurd (let q : Lacks ≡ Queues = sym (ap (keeping first) e) ∙ queued in cc)
  step_ahead cause m next Dies n h (Lists before after was now step) a queued = record {
    server = after;
    there = now;
    ahead = list_ahead n cause m next Dies before after step
        (queued_apart m.servers h.body.servers.numbers n before was first)
        (subst (λ (s : Server). IsAhead s.queued) (same_Some a.server before (sym a.there ∙ was)) a.ahead)
        (queued_listed first after (sym (ap (keeping first) now) ∙ queued));
  }

  -- ---- runs

  ahead_run : (n : ℕ) (start : Machine) (moments : List Moment) → Matched start → IsRun start moments → IsAheadAt n start → (j : ℕ)
      → ((k : ℕ) → k ≤ j → keeping first ((state_at start moments k).servers n) ≡ Queues) → IsNotNext n second (state_at start moments j)
  unfolding IsRun state_at
  ahead_run n start moments h run a zero queued = λ server x there e.
      not_next server.queued (subst (λ (s : Server). IsAhead s.queued) (same_Some a.server server (sym a.there ∙ there)) a.ahead) x e
  ahead_run n start [] h run a (suc j) queued = λ server x there e.
      not_next server.queued (subst (λ (s : Server). IsAhead s.queued) (same_Some a.server server (sym a.there ∙ there)) a.ahead) x e
  ahead_run n start (moment ∷ moments) h run a (suc j) queued =
      ahead_run n moment.machine moments (subst Matched (sym run.0) (every_cause_keeps moment.cause start h)) run.1
      (subst (IsAheadAt n) (sym run.0)
      (step_ahead moment.cause start (caused moment.cause start) (DiesIn (told_by moment.cause start)) n h ((all_served moment.cause start h).servers n) a
      (ap (λ (x : Machine). keeping first (x.servers n)) (sym run.0) ∙ queued 1 (omega arith))))
      j (λ k le. queued (suc k) (omega arith))

-- of a message that stands before another
pub ahead_of : (n : ℕ) (first second : Number) (m : Machine) → Matched m → StandsBeforeAt n first second m → (first ≢ second) × ((other : first ≢ second) → IsAheadAt first second other n m)
unfolding count_in
ahead_of n first second m h at = (
  other,
  λ apart. record {
    server = at.server;
    there = at.there;
    ahead = record {
      before = s.before;
      one = s.one;
      rest = s.between ++ (s.two ∷ s.later);
      here = s.here;
      is = eq-eqb s.one.number.0 first.0 (ap (λ (k : Number). k.0) s.is_first);
      clear = clear apart;
    };
  },
)
  where
    s : StandsBefore first second at.server.queued
    s = at.stands

    of : (number : Number) (x : Message) → x.number ≡ number → is_of_number number x ≡ true
    of number x e = eq-eqb x.number.0 number.0 (ap (λ (k : Number). k.0) e)

    counts : (number : Number) → count_in (is_of_number number) at.server.queued
        ≡ count_in (is_of_number number) at.stands.before + (one_if (is_of_number number at.stands.one) + (count_in (is_of_number number) at.stands.between
        + (one_if (is_of_number number at.stands.two) + count_in (is_of_number number) at.stands.later)))
    counts number =
        ap (count_in (is_of_number number)) at.stands.here
        ∙ (count_in-append (is_of_number number) at.stands.before (at.stands.one ∷ at.stands.between ++ (at.stands.two ∷ at.stands.later))
        ∙ ap (λ c. count_in (is_of_number number) at.stands.before + (one_if (is_of_number number at.stands.one) + c))
        (count_in-append (is_of_number number) at.stands.between (at.stands.two ∷ at.stands.later)))

    most : (number : Number) → count_in (is_of_number number) at.server.queued ≤ 1
    most number = queued_apart m.servers h.body.servers.numbers n at.server at.there number

    other : first ≢ second
    other same =
        let sum = counts second in
        let le : count_in (is_of_number second) at.server.queued ≤ 1 = most second in
        let one : one_if (is_of_number second at.stands.one) ≡ 1 = ap one_if (of second at.stands.one (at.stands.is_first ∙ same)) in
        let two : one_if (is_of_number second at.stands.two) ≡ 1 = ap one_if (of second at.stands.two at.stands.is_second) in
        absurd (omega (arith, sum, le, one, two))

    clear : first ≢ second → All (λ x. is_of_number second x ≡ false) at.stands.before
    clear apart =
        let sum = counts second in
        let le : count_in (is_of_number second) at.server.queued ≤ 1 = most second in
        let two : one_if (is_of_number second at.stands.two) ≡ 1 = ap one_if (of second at.stands.two at.stands.is_second) in
        none_pass (is_of_number second) at.stands.before (omega (arith, sum, le, two))

later_run : (n : ℕ) (first second : Number) (start : Machine) (moments : List Moment) → Matched start → IsRun start moments → (i j : ℕ) → i ≤ j
    → StandsBeforeAt n first second (state_at start moments i)
    → ((k : ℕ) → i ≤ k → k ≤ j → keeping first ((state_at start moments k).servers n) ≡ Queues) → IsNotNext n second (state_at start moments j)
unfolding IsRun state_at
later_run n first second start moments h run zero j le at queued =
    let ahead = ahead_of n first second start h at in
    ahead_run first second ahead.0 n start moments h run (ahead.1 ahead.0) j (λ k low. queued k (omega arith) low)
later_run n first second start moments h run (suc i) zero le at queued = absurd (omega arith)
later_run n first second start [] h run (suc i) (suc j) le at queued =
    let ahead = ahead_of n first second start h at in
    ahead_run first second ahead.0 n start [] h run (ahead.1 ahead.0) (suc j) (λ k low. all k)
  where
    all : (k : ℕ) → keeping first ((state_at start [] k).servers n) ≡ Queues
    all zero = queued (suc i) (omega arith) le
    all (suc k) = queued (suc i) (omega arith) le
later_run n first second start (moment ∷ moments) h run (suc i) (suc j) le at queued =
    later_run n first second moment.machine moments (subst Matched (sym run.0) (every_cause_keeps moment.cause start h)) run.1 i j (omega arith) at
    (λ k low high. queued (suc k) (omega arith) (omega arith))

pub run_keeps_order : (start : Machine) (moments : List Moment) → Matched start → IsRun start moments → OrderKept start moments
run_keeps_order start moments h run n first second i j le at queued = later_run n first second start moments h run i j le at queued

pub history_keeps_order : (events : List Event) (limit : ℕ) (start : Machine) → Matched start → OrderKept start (moments_of events limit start)
history_keeps_order events limit start h = run_keeps_order start (moments_of events limit start) h (history_is_run events limit start)

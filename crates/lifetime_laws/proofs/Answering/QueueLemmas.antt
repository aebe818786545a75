-- While a message is queued at a server, ever fewer stand before it, and the oldest stays the oldest as long as there are as many.
use Rattle.std.proofs.Common.{◌≡◌, ℕ, zero, suc, ◌+◌, ◌<◌, ◌≤◌, ◌⊎◌, inl, inr, Bool, true, false, List, [], ◌∷◌, ◌++◌, cond, drop, filter, Option, refl, sym, ap, ◌∙◌, subst, arith}
use Rattle.std.specs.Prelude.{◌||◌, if◌then◌else◌, not}
use Rattle.std.specs.List.{list_any}
use Rattle.std.specs.Option.{option_map_or}
use Rattle.std.proofs.lemmas.Bool.{cases_lt, false≢true, or_parts}
use Rattle.xk_base.specs.declared.ids.Number.{Number}
use Rattle.xk_base.specs.declared.ids.Pid.{Pid}
use Rattle.xk_base.specs.declared.messages.Message.{Message}
use Rattle.machine_laws.proofs.Messaging.AnyServerLemmas.{queued_apart}
use Rattle.machine_laws.proofs.Messaging.ListedLemmas.{not_counted}
use Rattle.machine_laws.proofs.Stepping.EveryStepLemmas.{every_run_keeps}
use Rattle.machine_model.specs.Messaging.MessageCounts.{count_in}
use Rattle.machine_model.specs.Messaging.Messages.{is_of_number, is_sent_from, oldest}
use Rattle.machine_model.specs.Runs.Matched.{Matched}
use Rattle.machine_model.specs.Runs.Moments.{Cause, IsRun, Moment, caused, state_at}
use Rattle.machine_model.specs.State.Machine.{Machine, Server}
use Rattle.machine_model.proofs.Matching.CountLemmas.{one_if}
use Rattle.transcript_laws.specs.Following.{Lacks, Queues, keeping}
use Rattle.transcript_laws.specs.Order.{WaitsAt}
use Rattle.transcript_laws.specs.Serving.{DiesIn, Ends, Forwards, Founded, ListStep, Lists, LosesSender, Queues as QueuesOne, Receives}
use Rattle.transcript_laws.specs.Serving.{Returns, ServerStep, Stays, Takes, told_by}
use Rattle.transcript_laws.proofs.Serving.OrderLemmas.{queued_listed}
use Rattle.transcript_laws.proofs.Serving.ServedStepLemmas.{all_served}
use Rattle.transcript_laws.proofs.Turning.FairLemmas.{Caused, Ended, Link, link}
use Rattle.lifetime_laws.specs.Prompt.{ahead_of, queue_at}

module _ (number : Number) where
  abbrev test : Message → Bool
  test = is_of_number number

  -- fewer stand before it, or not more, and the oldest is the same
  abbrev pub Nears : List Message → List Message → Type 0
  Nears xs ys = (ahead_of number ys < ahead_of number xs) ⊎ ((ahead_of number ys ≤ ahead_of number xs) × (oldest ys ≡ oldest xs))

  pub nears_itself : (xs ys : List Message) → ys ≡ xs → Nears xs ys
  nears_itself xs ys e =
      let same : ahead_of number ys ≡ ahead_of number xs = ap (ahead_of number) e in
      inr (omega arith, ap oldest e)

  pub nears_more : (xs ys zs : List Message) → Nears xs ys → Nears ys zs → Nears xs zs
  nears_more xs ys zs (inl a) (inl b) = inl (omega arith)
  nears_more xs ys zs (inl a) (inr b) = let le : ahead_of number zs ≤ ahead_of number ys = b.0 in inl (omega arith)
  nears_more xs ys zs (inr a) (inl b) = let le : ahead_of number ys ≤ ahead_of number xs = a.0 in inl (omega arith)
  nears_more xs ys zs (inr a) (inr b) =
      let le : ahead_of number ys ≤ ahead_of number xs = a.0 in
      let also : ahead_of number zs ≤ ahead_of number ys = b.0 in
      inr (omega arith, b.1 ∙ a.1)

  pub no_more_ahead : (xs ys : List Message) → Nears xs ys → ahead_of number ys ≤ ahead_of number xs
  no_more_ahead xs ys (inl a) = omega arith
  no_more_ahead xs ys (inr a) = a.0

  -- at most one message has the number
  abbrev Alone : List Message → Type 0
  Alone queue = count_in (is_of_number number) queue ≤ 1

  alone_here : (x : Message) (xs : List Message) → test x ≡ true → Alone (x ∷ xs) → list_any test xs ≡ false
  unfolding count_in
  alone_here x xs is alone =
      let one : one_if (test x) ≡ 1 = ap one_if is in
      let sum : one_if (test x) + count_in test xs ≤ 1 = alone in
      not_counted test xs (omega arith)

  alone_later : (x : Message) (xs : List Message) → Alone (x ∷ xs) → Alone xs
  unfolding count_in
  alone_later x xs alone = let sum : one_if (test x) + count_in test xs ≤ 1 = alone in omega arith

  pub head_is : (x : Message) (xs : List Message) → test x ≡ true → ahead_of number (x ∷ xs) ≡ 0
  unfolding ahead_of
  head_is x xs e = ap (λ b. if b then 0 else suc (ahead_of number xs)) e

  pub head_is_other : (x : Message) (xs : List Message) → test x ≡ false → ahead_of number (x ∷ xs) ≡ suc (ahead_of number xs)
  unfolding ahead_of
  head_is_other x xs e = ap (λ b. if b then 0 else suc (ahead_of number xs)) e

  -- ---- what happens to the queue

  as_many : (xs : List Message) (y : Message) → list_any test xs ≡ true → ahead_of number (xs ++ y ∷ []) ≤ ahead_of number xs
  as_many [] y none = absurd (false≢true none)
  as_many (x ∷ xs) y some = go (test x) refl some (λ later. as_many xs y later)
    where
      go : (b : Bool) → test x ≡ b → (b || list_any test xs) ≡ true
          → (list_any test xs ≡ true → ahead_of number (xs ++ y ∷ []) ≤ ahead_of number xs)
          → ahead_of number (x ∷ (xs ++ y ∷ [])) ≤ ahead_of number (x ∷ xs)
      go true e s later =
          let first : ahead_of number (x ∷ (xs ++ y ∷ [])) ≡ 0 = head_is x (xs ++ y ∷ []) e in
          omega arith
      go false e s later =
          let first : ahead_of number (x ∷ (xs ++ y ∷ [])) ≡ suc (ahead_of number (xs ++ y ∷ [])) = head_is_other x (xs ++ y ∷ []) e in
          let second : ahead_of number (x ∷ xs) ≡ suc (ahead_of number xs) = head_is_other x xs e in
          let rest : ahead_of number (xs ++ y ∷ []) ≤ ahead_of number xs = later s in
          omega arith

  appended : (xs : List Message) (y : Message) → list_any test xs ≡ true → Nears xs (xs ++ y ∷ [])
  appended [] y some = absurd (false≢true some)
  appended (x ∷ xs) y some = inr (as_many (x ∷ xs) y some, refl)

  taken : (xs : List Message) → Alone xs → list_any test (drop 1 xs) ≡ true → Nears xs (drop 1 xs)
  taken [] alone some = absurd (false≢true some)
  taken (x ∷ xs) alone some = go (test x) refl
    where
      go : (b : Bool) → test x ≡ b → Nears (x ∷ xs) xs
      go true e = absurd (false≢true (sym (alone_here x xs e alone) ∙ some))
      go false e = let first : ahead_of number (x ∷ xs) ≡ suc (ahead_of number xs) = head_is_other x xs e in inl (omega arith)

  left_none : (keep : Message → Bool) (xs : List Message) → list_any test xs ≡ false → list_any test (filter keep xs) ≡ false
  left_none keep [] e = refl
  left_none keep (x ∷ xs) e =
      let parts = or_parts (test x) (list_any test xs) e in
      go (keep x) parts.0 (left_none keep xs parts.1)
    where
      go : (b : Bool) → test x ≡ false → list_any test (filter keep xs) ≡ false
          → list_any test (cond b (x ∷ filter keep xs) (filter keep xs)) ≡ false
      go true p q = (λ i. p i || q i)
      go false p q = q

  no_fewer : (keep : Message → Bool) (xs : List Message) → Alone xs → list_any test (filter keep xs) ≡ true
      → ahead_of number (filter keep xs) ≤ ahead_of number xs
  no_fewer keep [] alone some = absurd (false≢true some)
  no_fewer keep (x ∷ xs) alone some = go (test x) refl (keep x) some (λ later. no_fewer keep xs (alone_later x xs alone) later)
    where
      go : (t : Bool) → test x ≡ t → (b : Bool) → list_any test (cond b (x ∷ filter keep xs) (filter keep xs)) ≡ true
          → (list_any test (filter keep xs) ≡ true → ahead_of number (filter keep xs) ≤ ahead_of number xs)
          → ahead_of number (cond b (x ∷ filter keep xs) (filter keep xs)) ≤ ahead_of number (x ∷ xs)
      go true e true s later = let first : ahead_of number (x ∷ filter keep xs) ≡ 0 = head_is x (filter keep xs) e in omega arith
      go true e false s later = absurd (false≢true (sym (left_none keep xs (alone_here x xs e alone)) ∙ s))
      go false e true s later =
          let first : ahead_of number (x ∷ filter keep xs) ≡ suc (ahead_of number (filter keep xs)) = head_is_other x (filter keep xs) e in
          let second : ahead_of number (x ∷ xs) ≡ suc (ahead_of number xs) = head_is_other x xs e in
          let rest : ahead_of number (filter keep xs) ≤ ahead_of number xs = later (sym (ap (λ b. b || list_any test (filter keep xs)) e) ∙ s) in
          omega arith
      go false e false s later =
          let second : ahead_of number (x ∷ xs) ≡ suc (ahead_of number xs) = head_is_other x xs e in
          let rest : ahead_of number (filter keep xs) ≤ ahead_of number xs = later s in
          omega arith

  filtered : (keep : Message → Bool) (xs : List Message) → Alone xs → list_any test (filter keep xs) ≡ true → Nears xs (filter keep xs)
  filtered keep [] alone some = absurd (false≢true some)
  filtered keep (x ∷ xs) alone some = go (test x) refl (keep x) refl some
    where
      go : (t : Bool) → test x ≡ t → (b : Bool) → keep x ≡ b → list_any test (cond b (x ∷ filter keep xs) (filter keep xs)) ≡ true
          → Nears (x ∷ xs) (cond b (x ∷ filter keep xs) (filter keep xs))
      go true e true k s =
          let first : ahead_of number (x ∷ filter keep xs) ≡ 0 = head_is x (filter keep xs) e in
          inr (omega arith, refl)
      go true e false k s = absurd (false≢true (sym (left_none keep xs (alone_here x xs e alone)) ∙ s))
      go false e true k s =
          let first : ahead_of number (x ∷ filter keep xs) ≡ suc (ahead_of number (filter keep xs)) = head_is_other x (filter keep xs) e in
          let second : ahead_of number (x ∷ xs) ≡ suc (ahead_of number xs) = head_is_other x xs e in
          let rest : ahead_of number (filter keep xs) ≤ ahead_of number xs =
          no_fewer keep xs (alone_later x xs alone) (sym (ap (λ b. b || list_any test (filter keep xs)) e) ∙ s) in
          inr (omega arith, refl)
      go false e false k s =
          let second : ahead_of number (x ∷ xs) ≡ suc (ahead_of number xs) = head_is_other x xs e in
          let rest : ahead_of number (filter keep xs) ≤ ahead_of number xs = no_fewer keep xs (alone_later x xs alone) s in
          inl (omega arith)

  -- ---- at a server

  list_nears : (n : ℕ) (cause : Cause) (m next : Machine) (Dies : Pid → Type 0) (before after : Server)
      → ListStep n cause m next Dies before after
      → Alone before.queued → list_any test before.queued ≡ true → list_any test after.queued ≡ true → Nears before.queued after.queued
  list_nears n cause m next Dies before after (QueuesOne x a is) alone was now =
      subst (λ (s : Server). Nears before.queued s.queued) (sym is) (appended before.queued x was)
  list_nears n cause m next Dies before after (Receives x who a empty own waits is) alone was now =
      nears_itself before.queued after.queued (ap (λ (s : Server). s.queued) is)
  list_nears n cause m next Dies before after (Takes x who first own r is) alone was now =
      subst (λ (s : Server). Nears before.queued s.queued) (sym is)
      (taken before.queued alone (sym (ap (λ (s : Server). list_any test s.queued) is) ∙ now))
  list_nears n cause m next Dies before after (Returns k r is) alone was now =
      nears_itself before.queued after.queued (ap (λ (s : Server). s.queued) is)
  list_nears n cause m next Dies before after (Forwards to x r from kept is) alone was now =
      nears_itself before.queued after.queued (ap (λ (s : Server). s.queued) is)
  list_nears n cause m next Dies before after (LosesSender pid dies is) alone was now =
      subst (λ (s : Server). Nears before.queued s.queued) (sym is)
      (filtered (λ x. not (is_sent_from pid x)) before.queued alone (sym (ap (λ (s : Server). list_any test s.queued) is) ∙ now))

  step_nears : (n : ℕ) (cause : Cause) (m next : Machine) (Dies : Pid → Type 0) → Matched m → ServerStep n cause m next Dies
      → WaitsAt number n m
      → WaitsAt number n next → Nears (queue_at n m) (queue_at n next)
  step_nears n cause m next Dies h (Stays e) was now =
      nears_itself (queue_at n m) (queue_at n next) (ap (λ (o : Option Server). option_map_or (λ (s : Server). s.queued) o []) e)
  step_nears n cause m next Dies h (Founded server none there queued held) was now =
      absurd (let q : Lacks ≡ Queues = sym (ap (keeping number) none) ∙ was in cc)
  step_nears n cause m next Dies h (Ends server there e why) was now = absurd (let q : Lacks ≡ Queues = sym (ap (keeping number) e) ∙ now in cc)
  step_nears n cause m next Dies h (Lists before after there now_there step) was now =
      subst (λ o. Nears o (queue_at n next)) (sym (ap (λ (o : Option Server). option_map_or (λ (s : Server). s.queued) o []) there))
      (subst (λ o. Nears before.queued o) (sym (ap (λ (o : Option Server). option_map_or (λ (s : Server). s.queued) o []) now_there))
      (list_nears n cause m next Dies before after step (queued_apart m.servers h.body.servers.numbers n before there number)
      (queued_listed number before (sym (ap (keeping number) there) ∙ was)) (queued_listed number after (sym (ap (keeping number) now_there) ∙ now))))

  -- ---- over a run

  module _ (n : ℕ) (start : Machine) (moments : List Moment) (h : Matched start) (run : IsRun start moments) where
    abbrev queue : ℕ → List Message
    queue i = queue_at n (state_at start moments i)

    moment_nears : (i : ℕ) → WaitsAt number n (state_at start moments i) → WaitsAt number n (state_at start moments (suc i))
        → Nears (queue i) (queue (suc i))
    moment_nears i was now = go (link start moments run i)
      where
        m : Machine
        m = state_at start moments i

        go : Link start moments i → Nears (queue i) (queue (suc i))
        go (Caused moment there e) =
            let kept : Matched m = every_run_keeps start moments h run i in
            subst (λ (x : Machine). Nears (queue i) (queue_at n x)) (sym e)
            (step_nears n moment.cause m (caused moment.cause m) (DiesIn (told_by moment.cause m)) kept ((all_served moment.cause m kept).servers n) was
            (subst (WaitsAt number n) e now))
        go (Ended none e) = nears_itself (queue i) (queue (suc i)) (ap (queue_at n) e)

    pub run_nears : (first last : ℕ) → first ≤ last → ((i : ℕ) → first ≤ i → i ≤ last → WaitsAt number n (state_at start moments i))
        → Nears (queue first) (queue last)
    run_nears first zero le waits = nears_itself (queue first) (queue zero) (ap queue (omega arith))
    run_nears first (suc last) le waits = elim (cases_lt last first) [
      | inl below ↦ nears_itself (queue first) (queue (suc last)) (ap queue (omega arith))
      | inr above ↦
          nears_more (queue first) (queue last) (queue (suc last))
          (run_nears first last above (λ i p q. waits i p (omega arith)))
          (moment_nears last (waits last above (omega arith)) (waits (suc last) le (omega arith)))
    ]

-- A message is at a prompt server for a bounded number of steps.
use Rattle.std.proofs.Common.{◌≡◌, ◌≢◌, ℕ, zero, suc, ◌+◌, ◌-◌, ◌*◌, ◌<◌, ◌≤◌, inl, inr, Bool, true, false, List, [], ◌∷◌, length, Option, Some, None, refl, ap, ◌∙◌, subst, arith}
use Rattle.std.specs.Prelude.{◌||◌}
use Rattle.std.specs.List.{list_any}
use Rattle.std.specs.Option.{option_map_or}
use Rattle.std.proofs.Math.Nat.{mul-le-mul_right, suc-mul}
use Rattle.std.proofs.lemmas.Bool.{cases_lt, eq-eqb, false≢true}
use Rattle.std.proofs.lemmas.Option.{none-some}
use Rattle.xk_base.specs.declared.ids.Number.{Number}
use Rattle.xk_base.specs.declared.limits.TheConstants.{MESSAGE_LIMIT}
use Rattle.xk_base.specs.declared.messages.Message.{Message}
use Rattle.machine_laws.proofs.Stepping.EveryStepLemmas.{every_run_keeps}
use Rattle.machine_model.specs.Messaging.Messages.{is_of_number, oldest}
use Rattle.machine_model.specs.Runs.Matched.{Matched}
use Rattle.machine_model.specs.Runs.Moments.{IsRun, Moment, state_at}
use Rattle.machine_model.specs.State.Machine.{Machine, Server}
use Rattle.transcript_laws.specs.AtServers.{IsAt}
use Rattle.transcript_laws.specs.Following.{Holds, Keeping, Lacks, Queues, keeping, keeping_by}
use Rattle.transcript_laws.specs.Order.{WaitsAt}
use Rattle.transcript_laws.proofs.AtServers.PlaceLemmas.{oldest_listed}
use Rattle.transcript_laws.proofs.Serving.OrderLemmas.{queued_listed}
use Rattle.lifetime_laws.specs.Prompt.{GoesOn, IsAtThrough, IsHeldAt, IsServing, LeavesInTime, Stays, Travels, TravelsInTime, Workers}
use Rattle.lifetime_laws.specs.Prompt.{ahead_of, queue_at, steps_at_server, steps_of_travel, steps_of_work}
use Rattle.lifetime_laws.specs.Scheduling.{AreStepsFair, IsInLine}
use Rattle.lifetime_laws.proofs.Answering.HeldLemmas.{run_held}
use Rattle.lifetime_laws.proofs.Answering.QueueLemmas.{Nears, head_is, head_is_other, no_more_ahead, run_nears}
use Rattle.lifetime_laws.proofs.Answering.WorkLemmas.{Does, does_steps, moment_counts}

-- ---- the oldest queued

of_queue : (number : Number) (n : ℕ) (m : Machine) → WaitsAt number n m → list_any (is_of_number number) (queue_at n m) ≡ true
of_queue number n m waits = go (m.servers n) waits
  where
    go : (o : Option Server) → keeping number o ≡ Queues
        → list_any (is_of_number number) (option_map_or (λ (s : Server). s.queued) o []) ≡ true
    go None e = absurd (let q : Lacks ≡ Queues = e in cc)
    go (Some server) e = queued_listed number server e

some_next : (number : Number) (n : ℕ) (m : Machine) → WaitsAt number n m → (x : Message) × (oldest (queue_at n m) ≡ Some x)
some_next number n m waits = go (queue_at n m) (of_queue number n m waits)
  where
    go : (xs : List Message) → list_any (is_of_number number) xs ≡ true → (x : Message) × (oldest xs ≡ Some x)
    go [] e = absurd (false≢true e)
    go (x ∷ xs) e = (x, refl)

next_waits : (n : ℕ) (m : Machine) (x : Message) → oldest (queue_at n m) ≡ Some x → WaitsAt x.number n m
next_waits n m x first = go (m.servers n) first
  where
    go : (o : Option Server) → oldest (option_map_or (λ (s : Server). s.queued) o []) ≡ Some x → keeping x.number o ≡ Queues
    go None e = absurd (none-some x e)
    go (Some server) e =
        ap (λ b. keeping_by b (list_any (is_of_number x.number) server.held))
        (oldest_listed x.number server.queued x e (eq-eqb x.number.0 x.number.0 refl))

module _ (start : Machine) (moments : List Moment) (h : Matched start) (run : IsRun start moments) (most : ℕ)
    (fair : AreStepsFair most start moments) where
  abbrev at : ℕ → Machine
  at i = state_at start moments i

  -- ---- one server

  module _ (pace n : ℕ) (workers : Workers) (number : Number) (first last : ℕ) (serves : IsServing pace n workers start moments first last) where
    abbrev work : ℕ
    work = steps_of_work most start.processes pace

    abbrev ahead : ℕ → ℕ
    ahead i = ahead_of number (queue_at n (at i))

    abbrev WaitsThrough : ℕ → ℕ → Type 0
    WaitsThrough a b = (i : ℕ) → a ≤ i → i ≤ b → WaitsAt number n (at i)

    receiver_line : (a b : ℕ) → first ≤ a → b ≤ last → WaitsThrough a b → IsInLine workers.receiver start moments a b
    receiver_line a b p q waits = record {
      ready = λ i r s. serves.prompt.receiver_ready number i (omega arith) (omega arith) (waits i r s);
      order = λ i moment r s there. serves.turns.order i moment (omega arith) (omega arith) there;
      turns = λ i r s. serves.turns.receiver i (omega arith) (omega arith);
    }

    -- after some work fewer stand before it
    record Progress (a b : ℕ) : Type 0 where
      until : ℕ
      from : a ≤ until
      within : until ≤ b
      fewer : ahead until < ahead a
      soon : (at until).steps ≤ (at a).steps + work

    progress : (a b : ℕ) → first ≤ a → a ≤ b → b ≤ last → WaitsThrough a b → (at a).steps + work ≤ (at b).steps → Progress a b
    progress a b p le q waits enough = record {
      until = done.until;
      from = done.from;
      within = done.within;
      fewer = fewer (run_nears number n start moments h run a taken.0 taken.1 (λ i r s. waits i r (omega (arith, s, taken_by, within))));
      soon = done.soon;
    }
      where
        done : Does start moments run most fair pace workers.receiver a b
        done = does_steps start moments run most fair pace workers.receiver a b le (receiver_line a b p q waits) enough

        within : done.until ≤ b
        within = done.within

        next : (x : Message) × (oldest (queue_at n (at a)) ≡ Some x)
        next = some_next number n (at a) (waits a (omega arith) le)

        taken : (k : ℕ) × (a ≤ k) × (k ≤ done.until) × ¬ WaitsAt next.0.number n (at k)
        taken = serves.prompt.receives next.0.number a done.until p (omega (arith, within, q)) (next.0, next.1, refl) done.steps

        taken_from : a ≤ taken.0
        taken_from = taken.1

        taken_by : taken.0 ≤ done.until
        taken_by = taken.2

        later : ahead done.until ≤ ahead taken.0
        later =
            no_more_ahead number (queue_at n (at taken.0)) (queue_at n (at done.until))
            (run_nears number n start moments h run taken.0 done.until taken_by
            (λ i r s. waits i (omega (arith, r, taken_from)) (omega (arith, s, within))))

        fewer : Nears number (queue_at n (at a)) (queue_at n (at taken.0)) → ahead done.until < ahead a
        fewer (inl less) = omega (arith, less, later)
        fewer (inr same) = absurd (taken.3 (next_waits n (at taken.0) next.0 (same.1 ∙ next.1)))

    queued_in_time : (k a b : ℕ) → first ≤ a → a ≤ b → b ≤ last → WaitsThrough a b → ahead a ≤ k
        → (at b).steps < (at a).steps + (k + 1) * work
    queued_in_time zero a b p le q waits few = elim (cases_lt (at b).steps ((at a).steps + work)) [
      | inl below ↦ let whole : (0 + 1) * work ≡ 0 * work + work = suc-mul 0 work in omega (arith, below, whole)
      | inr above ↦ let less = (progress a b p le q waits above).fewer in absurd (omega (arith, less, few))
    ]
    queued_in_time (suc k) a b p le q waits few = elim (cases_lt (at b).steps ((at a).steps + work)) [
      | inl below ↦ let whole : suc (k + 1) * work ≡ (k + 1) * work + work = suc-mul (k + 1) work in omega (arith, below, whole)
      | inr above ↦
          let made : Progress a b = progress a b p le q waits above in
          let from : a ≤ made.until = made.from in
          let within : made.until ≤ b = made.within in
          let less : ahead made.until < ahead a = made.fewer in
          let soon : (at made.until).steps ≤ (at a).steps + work = made.soon in
          let later : (at b).steps < (at made.until).steps + (k + 1) * work =
          queued_in_time k made.until b (omega arith) within q (λ i r s. waits i (omega arith) s) (omega arith) in
          let whole : suc (k + 1) * work ≡ (k + 1) * work + work = suc-mul (k + 1) work in
          omega (arith, soon, later, whole)
    ]

    held_in_time : (a b : ℕ) → first ≤ a → a ≤ b → b ≤ last → ((i : ℕ) → a ≤ i → i ≤ b → IsHeldAt number n (at i))
        → (at b).steps < (at a).steps + work
    held_in_time a b p le q held = elim (cases_lt (at b).steps ((at a).steps + work)) [
      | inl below ↦ below
      | inr above ↦ absurd (given (does_steps start moments run most fair pace (workers.holder number) a b le line above))
    ]
      where
        line : IsInLine (workers.holder number) start moments a b
        line = record {
          ready = λ i r s. serves.prompt.holder_ready number i (omega arith) (omega arith) (held i r s);
          order = λ i moment r s there. serves.turns.order i moment (omega arith) (omega arith) there;
          turns = λ i r s. serves.turns.holder number i (omega arith) (omega arith);
        }

        given : Does start moments run most fair pace (workers.holder number) a b → ⊥
        given done =
            let within : done.until ≤ b = done.within in
            let gone = serves.prompt.gives_up number a done.until p (omega arith) (held a (omega arith) le) done.steps in
            let low : gone.0 ≤ done.until = gone.2 in
            gone.3 (held gone.0 gone.1 (omega arith))

    -- ---- queued, and then held

    module _ (le : first ≤ last) (there : IsAtThrough number n start moments first last) where
      abbrev Enough : Type 0
      Enough = (at last).steps < (at first).steps + steps_at_server most start.processes pace (ahead first)

      two_more : (ahead first + 2) * work ≡ (ahead first + 1) * work + work
      two_more = ap (λ x. x * work) (omega arith) ∙ suc-mul (ahead first + 1) work

      held_from : (a : ℕ) → first ≤ a → a ≤ last → IsHeldAt number n (at a) → (at last).steps < (at a).steps + work
      held_from a p q held =
          held_in_time a last p q (omega arith)
          (λ i r s. run_held number n start moments h run a i r held (λ j t u. there j (omega arith) (omega arith)))

      one_longer : (i : ℕ) → WaitsThrough first i → WaitsAt number n (at (suc i)) → WaitsThrough first (suc i)
      one_longer i waits now j p q = elim (cases_lt i j) [
        | inl above ↦ subst (λ k. WaitsAt number n (at k)) (omega arith) now
        | inr below ↦ waits j p below
      ]

      from_queued : (gap i : ℕ) → i + gap ≡ last → first ≤ i → WaitsThrough first i → Enough
      from_queued zero i e low waits =
          let queued : (at i).steps < (at first).steps + (ahead first + 1) * work =
          queued_in_time (ahead first) first i (omega arith) low (omega arith) waits (omega arith) in
          let same : (at i).steps ≡ (at last).steps = ap (λ k. (at k).steps) (omega arith) in
          omega (arith, queued, same, two_more)
      from_queued (suc gap) i e low waits =
          go (keeping number ((at (suc i)).servers n)) refl (λ now. from_queued gap (suc i) (omega arith) (omega arith) (one_longer i waits now))
        where
          go : (k : Keeping) → keeping number ((at (suc i)).servers n) ≡ k → (WaitsAt number n (at (suc i)) → Enough) → Enough
          go Queues now later = later now
          go Holds now later =
              let queued : (at i).steps < (at first).steps + (ahead first + 1) * work =
              queued_in_time (ahead first) first i (omega arith) low (omega arith) waits (omega arith) in
              let one : (at (suc i)).steps ≤ (at i).steps + 1 = moment_counts start moments run i in
              let held : (at last).steps < (at (suc i)).steps + work = held_from (suc i) (omega arith) (omega arith) now in
              omega (arith, queued, one, held, two_more)
          go Lacks now later = absurd (there (suc i) (omega arith) (omega arith) now)

      leaves : Enough
      leaves = go (keeping number ((at first).servers n)) refl
        where
          only_first : WaitsAt number n (at first) → WaitsThrough first first
          only_first waits i p q = subst (λ k. WaitsAt number n (at k)) (omega arith) waits

          go : (k : Keeping) → keeping number ((at first).servers n) ≡ k → Enough
          go Queues now = by_gap (gap_of first last le)
            where
              gap_of : (a b : ℕ) → a ≤ b → (gap : ℕ) × (a + gap ≡ b)
              gap_of a b le = (b - a, omega arith)

              by_gap : (gap : ℕ) × (first + gap ≡ last) → Enough
              by_gap (gap, e) = from_queued gap first e (omega arith) (only_first now)
          go Holds now = let held : (at last).steps < (at first).steps + work = held_from first (omega arith) le now in omega (arith, held, two_more)
          go Lacks now = absurd (there first (omega arith) le now)

  pub leaves_in_time : LeavesInTime most start moments
  leaves_in_time pace n workers number first last le serves there = leaves pace n workers number first last serves le there

  -- ---- from server to server

  all_ahead : (number : Number) (xs : List Message) → ahead_of number xs ≤ length xs
  unfolding ahead_of
  all_ahead number [] = omega arith
  all_ahead number (x ∷ xs) = go (is_of_number number x) refl (all_ahead number xs)
    where
      go : (b : Bool) → is_of_number number x ≡ b → ahead_of number xs ≤ length xs → ahead_of number (x ∷ xs) ≤ suc (length xs)
      go true e le = let first : ahead_of number (x ∷ xs) ≡ 0 = head_is number x xs e in omega arith
      go false e le = let first : ahead_of number (x ∷ xs) ≡ suc (ahead_of number xs) = head_is_other number x xs e in omega arith

  some_behind : (number : Number) (xs : List Message) → list_any (is_of_number number) xs ≡ true → ahead_of number xs < length xs
  some_behind number [] e = absurd (false≢true e)
  some_behind number (x ∷ xs) e = go (is_of_number number x) refl e (λ later. some_behind number xs later)
    where
      go : (b : Bool) → is_of_number number x ≡ b → (b || list_any (is_of_number number) xs) ≡ true
          → (list_any (is_of_number number) xs ≡ true → ahead_of number xs < length xs) → ahead_of number (x ∷ xs) < suc (length xs)
      go true e s later = let first : ahead_of number (x ∷ xs) ≡ 0 = head_is number x xs e in omega arith
      go false e s later =
          let first : ahead_of number (x ∷ xs) ≡ suc (ahead_of number xs) = head_is_other number x xs e in
          let rest : ahead_of number xs < length xs = later s in
          omega arith

  some_held : (number : Number) (xs : List Message) → list_any (is_of_number number) xs ≡ true → 1 ≤ length xs
  some_held number [] e = absurd (false≢true e)
  some_held number (x ∷ xs) e = omega arith

  few_ahead : (number : Number) (n : ℕ) (m : Machine) → Matched m → IsAt number n m → ahead_of number (queue_at n m) + 1 ≤ MESSAGE_LIMIT
  few_ahead number n m h some = go (m.servers n) refl some
    where
      at_server : (server : Server) → m.servers n ≡ Some server → (a b : Bool) → list_any (is_of_number number) server.queued ≡ a
          → list_any (is_of_number number) server.held ≡ b → keeping_by a b ≢ Lacks → ahead_of number server.queued + 1 ≤ MESSAGE_LIMIT
      at_server server e true b p q kept =
          let slots : length server.queued + length server.held ≤ MESSAGE_LIMIT = h.body.servers.slots n server e in
          let less : ahead_of number server.queued < length server.queued = some_behind number server.queued p in
          omega (arith, slots, less)
      at_server server e false true p q kept =
          let slots : length server.queued + length server.held ≤ MESSAGE_LIMIT = h.body.servers.slots n server e in
          let less : ahead_of number server.queued ≤ length server.queued = all_ahead number server.queued in
          let one : 1 ≤ length server.held = some_held number server.held q in
          omega (arith, slots, less, one)
      at_server server e false false p q kept = absurd (kept refl)

      go : (o : Option Server) → m.servers n ≡ o → keeping number o ≢ Lacks
          → ahead_of number (option_map_or (λ (s : Server). s.queued) o []) + 1 ≤ MESSAGE_LIMIT
      go None e kept = absurd (kept refl)
      go (Some server) e kept =
          at_server server e (list_any (is_of_number number) server.queued) (list_any (is_of_number number) server.held) refl refl kept

  one_server : (pace n : ℕ) (workers : Workers) (number : Number) (first last : ℕ) → first ≤ last
      → IsServing pace n workers start moments first last
      → IsAtThrough number n start moments first last
      → (at last).steps < (at first).steps + (MESSAGE_LIMIT + 1) * steps_of_work most start.processes pace
  one_server pace n workers number first last le serves there =
      let left : (at last).steps < (at first).steps + steps_at_server most start.processes pace (ahead_of number (queue_at n (at first))) =
      leaves_in_time pace n workers number first last le serves there in
      let few : ahead_of number (queue_at n (at first)) + 1 ≤ MESSAGE_LIMIT =
      few_ahead number n (at first) (every_run_keeps start moments h run first) (there first (omega arith) le) in
      let bound : steps_at_server most start.processes pace (ahead_of number (queue_at n (at first)))
      ≤ (MESSAGE_LIMIT + 1) * steps_of_work most start.processes pace =
      mul-le-mul_right (steps_of_work most start.processes pace) (omega (arith, few)) in
      omega (arith, left, bound)

  travels : (pace hops : ℕ) (workers : ℕ → Workers) (number : Number) (first last : ℕ)
      → Travels pace workers number start moments hops first last
      → (at last).steps < (at first).steps + steps_of_travel most start.processes pace hops
  travels pace zero workers number first last (Stays n a b le serves there) =
      let each : ℕ = (MESSAGE_LIMIT + 1) * steps_of_work most start.processes pace in
      let left : (at last).steps < (at first).steps + each = one_server pace n (workers n) number first last le serves there in
      let whole : (0 + 1) * each ≡ 0 * each + each = suc-mul 0 each in
      omega (arith, left, whole)
  travels pace (suc hops) workers number first last (GoesOn n h a until b le serves there later) =
      let each : ℕ = (MESSAGE_LIMIT + 1) * steps_of_work most start.processes pace in
      let here : (at until).steps < (at first).steps + each = one_server pace n (workers n) number first until le serves there in
      let one : (at (suc until)).steps ≤ (at until).steps + 1 = moment_counts start moments run until in
      let rest : (at last).steps < (at (suc until)).steps + (hops + 1) * each = travels pace hops workers number (suc until) last later in
      let whole : suc (hops + 1) * each ≡ (hops + 1) * each + each = suc-mul (hops + 1) each in
      omega (arith, here, one, rest, whole)

  pub travels_in_time : TravelsInTime most start moments
  travels_in_time = travels

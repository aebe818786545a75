-- The tids of a process, counted from 2 in the table and from 0 in the machine.
use Rattle.std.proofs.Common.{◌≡◌, ℕ, ◌+◌, ◌-◌, ◌<◌, ◌≤◌, Bool, true, false, Option, Some, None, refl, sym, ap, ◌∙◌, arith, inl, inr, subst}
use Rattle.std.specs.Prelude.{◌&&◌, ◌≢◌, nat_le, is_none, is_some, if◌then◌else◌}
use Rattle.std.specs.Option.{option_map}
use Rattle.std.proofs.lemmas.Bool.{cases_lt}
use Rattle.std.proofs.lemmas.Bool.Decides.{nat_tests}
use Rattle.xk_base.specs.declared.ids.Pid.{Pid}
use Rattle.xk_base.specs.declared.ids.ThreadId.{ThreadId}
use Rattle.xk_base.specs.declared.ids.Tid.{Tid}
use Rattle.xk_base.specs.Tables.Counting.{count_below, least_below}
use Rattle.xk_base.specs.Tables.Circle.{same_thread}
use Rattle.xk_base.proofs.CircleLemmas.{same_ids}
use Rattle.machine_laws.proofs.Threading.ThreadAnswerLemmas.{same_thread-self}
use Rattle.machine_laws.proofs.Threading.ThreadPutLemmas.{alike}
use Rattle.xk_base.proofs.CountingLemmas.{least_below-same, least_below-Some, least_below-None, least_below-none, least_below-passes, least_below-first, least_below-bound, count_below-none, count_below-one, count_below-same, none_from_count_below}
use Rattle.machine_model.specs.Ending.Ends.{has_threads}
use Rattle.machine_model.specs.Calling.ThreadCalls.{free_tid}
use Rattle.machine_model.specs.State.Machine.{Machine}
use Rattle.machine_model.specs.State.Threads.{put_thread, thread_id}
use Rattle.sv32_space.specs.Tie.{Held}
use Rattle.thread_table.specs.ThreadMap.{free_tid as table_free_tid, live_threads, thread_above, tid_above}
use Rattle.thread_table.specs.Shown.{threads_of}
use Rattle.thread_table.specs.declared.thread.Thread.{Thread as TableThread}
use Rattle.xk_parts.specs.Shown.{thread_of}
use Rattle.xk_kernel.specs.State.{machine_of}
use Rattle.xk_kernel.specs.declared.kernel.Kernel.{Kernel}

-- ---- tests that hold from 2 on alone

module _ (n : ℕ) (g : ℕ → Bool) where
  abbrev from_two : ℕ → Bool
  from_two tid = nat_le 2 tid && g tid

  abbrev shifted : ℕ → Bool
  shifted k = g (k + 2)

  from_two-low : (k : ℕ) → k < 2 → from_two k ≡ false
  from_two-low k low = let e : nat_le 2 k ≡ false = grind (arith, nat_tests) in ap (λ b. b && g k) e

  from_two-high : (k : ℕ) → from_two (k + 2) ≡ shifted k
  from_two-high k = let e : nat_le 2 (k + 2) ≡ true = grind (arith, nat_tests) in ap (λ b. b && g (k + 2)) e

  -- no number below passes
  none_low : (m : ℕ) → ((k : ℕ) → k < m → shifted k ≡ false) → (k : ℕ) → k < m + 2 → from_two k ≡ false
  none_low m h k l = elim (cases_lt k 2) [
    | inl low ↦ from_two-low k low
    | inr high ↦
        let back : k - 2 + 2 ≡ k = omega arith in
        subst (λ j. from_two j ≡ false) back (from_two-high (k - 2) ∙ h (k - 2) (omega arith))
  ]

  pub least_from_two : least_below (n + 2) from_two ≡ option_map (λ k. k + 2) (least_below n shifted)
  least_from_two = go (least_below n shifted) refl
    where
      go : (o : Option ℕ) → least_below n shifted ≡ o → least_below (n + 2) from_two ≡ option_map (λ k. k + 2) o
      go None e = least_below-None (n + 2) from_two (none_low n (least_below-none n shifted e))
      go (Some k) e =
          let low : k < n = least_below-bound n shifted k e in
          least_below-Some (n + 2) from_two (k + 2) (omega arith) (from_two-high k ∙ least_below-passes n shifted k e)
          (none_low k (least_below-first n shifted k e))

-- ---- the least free tid

is_none_mapped : (o : Option TableThread) → is_none (option_map thread_of o) ≡ is_none o
is_none_mapped None = refl
is_none_mapped (Some t) = refl

pub is_some_mapped : (o : Option TableThread) → is_some (option_map thread_of o) ≡ is_some o
is_some_mapped None = refl
is_some_mapped (Some t) = refl

abbrev number_of : Tid → ℕ
number_of tid = tid.0

mapped_twice : (o : Option ℕ) → option_map (λ k. k + 2) o ≡ option_map number_of (option_map tid_above o)
mapped_twice None = refl
mapped_twice (Some k) = refl

module _ {W : Type 0} (held : W → Held) (k : Kernel W) (pid : Pid) where
  free_in_machine : free_tid (machine_of held k) pid ≡ option_map (λ j. j + 2) (least_below 30 (λ j. is_none ((machine_of held k).threads (thread_above pid j))))
  unfolding free_tid
  free_in_machine = least_from_two 30 (λ tid. is_none ((machine_of held k).threads (thread_id pid tid)))

  same_free : least_below 30 (λ j. is_none ((machine_of held k).threads (thread_above pid j))) ≡ least_below 30 (λ j. is_none (threads_of k.threads (thread_above pid j)))
  unfolding machine_of
  same_free = least_below-same 30 _ _ (λ j l. is_none_mapped (threads_of k.threads (thread_above pid j)))

  -- the least free tid of the table is that of the machine
  pub free_is : free_tid (machine_of held k) pid ≡ option_map number_of (table_free_tid pid (threads_of k.threads))
  free_is =
      free_in_machine ∙ ap (option_map (λ j. j + 2)) same_free
      ∙ mapped_twice (least_below 30 (λ j. is_none (threads_of k.threads (thread_above pid j))))

-- the tid that was found is above that of the interrupt thread, and free
pub record IsFreeTid (threads : ThreadId → Option TableThread) (pid : Pid) (tid : Tid) : Type 0 where
  pub above : 2 ≤ tid.0
  pub within : tid.0 ≤ 31
  pub free : threads (record { pid = pid; tid = tid }) ≡ None

module _ (threads : ThreadId → Option TableThread) (pid : Pid) where
  abbrev is_free : ℕ → Bool
  is_free j = is_none (threads (thread_above pid j))

  none_there : (o : Option TableThread) → is_none o ≡ true → o ≡ None
  none_there None h = refl
  none_there (Some t) h = cc

  found_at : (tid : Tid) (o : Option ℕ) → least_below 30 is_free ≡ o → option_map tid_above o ≡ Some tid → IsFreeTid threads pid tid
  found_at tid None f h = cc
  found_at tid (Some j) f h =
      let low : j < 30 = least_below-bound 30 is_free j f in
      let same : tid_above j ≡ tid = cc in
      subst (IsFreeTid threads pid) same (record {
        above = omega arith;
        within = omega arith;
        free = none_there (threads (thread_above pid j)) (least_below-passes 30 is_free j f);
      })

  pub found_is_free : (tid : Tid) → table_free_tid pid threads ≡ Some tid → IsFreeTid threads pid tid
  found_is_free tid e = found_at tid (least_below 30 is_free) refl e

-- ---- whether a thread is left

module _ {W : Type 0} (held : W → Held) (k : Kernel W) (pid : Pid) where
  abbrev there : ℕ → Bool
  there tid = is_some ((machine_of held k).threads (thread_id pid tid))

  has_above : has_threads (machine_of held k) pid ≡ is_some (least_below 30 (λ j. there (j + 2)))
  unfolding has_threads
  has_above = ap is_some (least_from_two 30 there) ∙ some_mapped (least_below 30 (λ j. there (j + 2)))
    where
      some_mapped : (o : Option ℕ) → is_some (option_map (λ j. j + 2) o) ≡ is_some o
      some_mapped None = refl
      some_mapped (Some j) = refl

  there_in_table : (j : ℕ) → there (j + 2) ≡ is_some (threads_of k.threads (thread_above pid j))
  unfolding machine_of
  there_in_table j = is_some_mapped (threads_of k.threads (thread_above pid j))

  pub none_live : live_threads pid (threads_of k.threads) ≡ 0 → has_threads (machine_of held k) pid ≡ false
  none_live e =
      has_above ∙ ap is_some (least_below-None 30 (λ j. there (j + 2)) (λ j l. there_in_table j ∙ none_from_count_below 30 (λ j. is_some (threads_of k.threads (thread_above pid j))) e j l))

  pub some_live : live_threads pid (threads_of k.threads) ≢ 0 → has_threads (machine_of held k) pid ≡ true
  some_live ne = has_above ∙ go (least_below 30 (λ j. there (j + 2))) refl
    where
      go : (o : Option ℕ) → least_below 30 (λ j. there (j + 2)) ≡ o → is_some o ≡ true
      go (Some j) f = refl
      go None f = absurd (ne (count_below-none 30 (λ j. is_some (threads_of k.threads (thread_above pid j))) (λ j l. sym (there_in_table j) ∙ least_below-none 30 (λ j. there (j + 2)) f j l)))

-- ---- whether another thread is left

module _ (m : Machine) (who : ThreadId) (there : is_some (m.threads who) ≡ true) (above : 1 < who.tid.0) (within : who.tid.0 < 32) where
  abbrev pub now : ℕ → Bool
  now j = is_some (m.threads (thread_above who.pid j))

  abbrev left : ℕ → Bool
  left j = is_some ((put_thread who None m).threads (thread_above who.pid j))

  here : thread_above who.pid (who.tid.0 - 2) ≡ who
  here = same_ids (thread_above who.pid (who.tid.0 - 2)) who refl (omega arith)

  one_less : count_below 30 now ≡ count_below 30 left + 1
  one_less =
      count_below-one 30 (who.tid.0 - 2) now left (omega arith)
      (ap (λ id. is_some (m.threads id)) here ∙ there)
      (ap (λ id. is_some ((put_thread who None m).threads id)) here ∙ ap (λ b. is_some (if b then None else m.threads who)) (same_thread-self who))
      (λ j low other. go j other (same_thread (thread_above who.pid j) who) refl)
    where
      go : (j : ℕ) → (j ≡ who.tid.0 - 2 → ⊥) → (b : Bool) → same_thread (thread_above who.pid j) who ≡ b
          → now j ≡ is_some (if b then None else m.threads (thread_above who.pid j))
      go j other true e =
          let same : j + 2 ≡ who.tid.0 = ap (λ (id : ThreadId). id.tid.0) (alike (thread_above who.pid j) who e) in
          absurd (other (omega arith))
      go j other false e = refl

  left_is : has_threads (put_thread who None m) who.pid ≡ is_some (least_below 30 left)
  unfolding has_threads
  left_is = ap is_some (least_from_two 30 (λ tid. is_some ((put_thread who None m).threads (thread_id who.pid tid)))) ∙ some_mapped (least_below 30 left)
    where
      some_mapped : (o : Option ℕ) → is_some (option_map (λ j. j + 2) o) ≡ is_some o
      some_mapped None = refl
      some_mapped (Some j) = refl

  -- as more than one live, or not
  pub others_left : 1 < count_below 30 now → has_threads (put_thread who None m) who.pid ≡ true
  others_left more = left_is ∙ go (least_below 30 left) refl
    where
      go : (o : Option ℕ) → least_below 30 left ≡ o → is_some o ≡ true
      go (Some j) e = refl
      go None e =
          let none : count_below 30 left ≡ 0 = count_below-none 30 left (least_below-none 30 left e) in
          absurd (omega (arith, one_less))

  pub none_is_left : count_below 30 now ≤ 1 → has_threads (put_thread who None m) who.pid ≡ false
  none_is_left few =
      let none : count_below 30 left ≡ 0 = omega (arith, one_less) in
      left_is ∙ ap is_some (least_below-None 30 left (none_from_count_below 30 left none))

-- .. by the table
module _ {W : Type 0} (held : W → Held) (k : Kernel W) (pid : Pid) where
  pub live_now : live_threads pid (threads_of k.threads) ≡ count_below 30 (λ j. is_some ((machine_of held k).threads (thread_above pid j)))
  live_now = count_below-same 30 _ _ (λ j low. sym (there_in_table held k pid j))

-- The threads of the processes, as they are started one process after the other.
use Rattle.std.proofs.Common.{◌≡◌, ℕ, ◌+◌, ◌-◌, ◌<◌, ◌≤◌, Bool, true, false, ◌&&◌, length, get_or, Option, Some, None, refl, sym, ap, ◌∙◌, arith, inl, inr}
use Rattle.std.specs.Prelude.{◌==◌, if◌then◌else◌, nat_le, nat_lt, slice_get}
use Rattle.std.specs.Option.{option_and_then, option_map}
use Rattle.std.proofs.lemmas.Bool.{cases_eq, cases_lt, cond-true, cond-false, eq-eqb, ne_eqb, eqb-true, false≢true, lt-ltb}
use Rattle.std.proofs.lemmas.Bool.Decides.{nat_tests}
use Rattle.std.proofs.lemmas.Option.{none-some, slice_get_past, slice_get-get_or}
use Rattle.boot_plan.specs.declared.plans.BootPlan.{BootPlan}
use Rattle.boot_plan.specs.declared.plans.ProcPlan.{ProcPlan}
use Rattle.machine_model.specs.State.Machine.{Thread}
use Rattle.machine_model.specs.State.Threads.{first_handler_thread, first_thread}
use Rattle.thread_table.specs.ThreadMap.{ThreadMap, no_threads}
use Rattle.thread_table.specs.Shown.{process_count, threads_of}
use Rattle.thread_table.specs.declared.table.Threads.{Threads}
use Rattle.thread_table.specs.declared.thread.Thread.{Thread as TableThread}
use Rattle.xk_base.specs.Tables.Circle.{same_thread}
use Rattle.xk_base.specs.Tables.Counting.{put_at}
use Rattle.xk_base.specs.declared.ids.Pid.{Pid}
use Rattle.xk_base.specs.declared.ids.ThreadId.{ThreadId}
use Rattle.xk_base.specs.declared.ids.Tid.{Tid}
use Rattle.xk_kernel.specs.Start.{first_threads, threads_at_start}
use Rattle.xk_parts.specs.Shown.{thread_of}

-- ---- one process

abbrev id_of : Pid → ℕ → ThreadId
id_of pid tid = record { pid = pid; tid = record { 0 = tid } }

started_at : (own handler first : Bool) (a b : TableThread) (o : Option TableThread)
    → (handler ≡ true → first ≡ false) → (own ≡ true → o ≡ None)
    → option_map thread_of (if own && first then Some b else (if own && handler then Some a else o))
    ≡ (if own then (if handler then Some (thread_of a) else (if first then Some (thread_of b) else None)) else option_map thread_of o)
started_at false handler first a b o apart none = refl
started_at true true true a b o apart none = absurd (false≢true (sym (apart refl)))
started_at true true false a b o apart none = refl
started_at true false true a b o apart none = refl
started_at true false false a b o apart none = ap (option_map thread_of) (none refl)

-- its interrupt thread and then its first thread are started
pub process_started : (old mid new : ThreadMap) (pid : Pid) (entry : ℕ) (a b : TableThread)
    → thread_of a ≡ first_handler_thread → thread_of b ≡ first_thread entry → ((tid : Tid) → old (record { pid = pid; tid = tid }) ≡ None)
    → mid ≡ put_at same_thread old (id_of pid 1) (Some a) → new ≡ put_at same_thread mid (id_of pid 2) (Some b)
    → (id : ThreadId) → option_map thread_of (new id) ≡ (if id.pid.0 == pid.0 then first_threads entry id.tid.0 else option_map thread_of (old id))
process_started old mid new pid entry a b handler first none one two id =
    ap (λ (m : ThreadMap). option_map thread_of (m id)) (two ∙ ap (λ (m : ThreadMap). put_at same_thread m (id_of pid 2) (Some b)) one)
    ∙ (started_at (id.pid.0 == pid.0) (id.tid.0 == 1) (id.tid.0 == 2) a b (old id) apart own
    ∙ (λ i. if id.pid.0 == pid.0 then (if id.tid.0 == 1 then Some (handler i) else (if id.tid.0 == 2 then Some (first i) else None)) else option_map thread_of (old id)))
  where
    apart : (id.tid.0 == 1) ≡ true → (id.tid.0 == 2) ≡ false
    apart e = grind (arith, nat_tests)

    own : (id.pid.0 == pid.0) ≡ true → old id ≡ None
    own e = ap (λ (n : ℕ). old (record { pid = record { 0 = n }; tid = id.tid })) (eqb-true id.pid.0 pid.0 e) ∙ none id.tid

-- ---- all of them

-- The first k processes of the plan have their threads, and there are no others.
pub record AreStarted (plan : BootPlan) (threads : Threads) (k : ℕ) : Type 0 where
  pub count : process_count threads ≡ length plan.procs
  pub within : k ≤ length plan.procs
  pub there : (id : ThreadId) → option_map thread_of (threads_of threads id) ≡ (if nat_lt id.pid.0 (k + 2) then threads_at_start plan id else None)

pub none_started : (plan : BootPlan) (threads : Threads) → process_count threads ≡ length plan.procs → threads_of threads ≡ no_threads → AreStarted plan threads 0
none_started plan threads count none = record {
  count = count;
  within = omega arith;
  there = λ id. ap (λ (m : ThreadMap). option_map thread_of (m id)) none ∙ sym (nobody id);
}
  where
    nobody : (id : ThreadId) → (if nat_lt id.pid.0 2 then threads_at_start plan id else None) ≡ None
    nobody id = elim (cases_lt id.pid.0 2) [
      | inl low ↦ let none_yet : nat_le 2 id.pid.0 ≡ false = grind (arith, nat_tests) in cond-true (nat_lt id.pid.0 2) (threads_at_start plan id) None (lt-ltb id.pid.0 2 low) ∙ ap (option_and_then (λ (process : ProcPlan). first_threads process.entry id.tid.0)) (cond-false (nat_le 2 id.pid.0) (slice_get plan.procs (id.pid.0 - 2)) None none_yet)
      | inr high ↦ let past : nat_lt id.pid.0 2 ≡ false = grind (arith, nat_tests) in cond-false (nat_lt id.pid.0 2) (threads_at_start plan id) None past
    ]

mapped_none : (o : Option TableThread) → option_map thread_of o ≡ None → o ≡ None
mapped_none None e = refl
mapped_none (Some t) e = absurd (none-some (thread_of t) (sym e))

module _ (plan : BootPlan) (threads : Threads) (k : ℕ) (h : AreStarted plan threads k) where
  -- the next process has none yet
  pub next_unstarted : (tid : Tid) → threads_of threads (record { pid = record { 0 = k + 2 }; tid = tid }) ≡ None
  next_unstarted tid =
      let past : nat_lt (k + 2) (k + 2) ≡ false = grind (arith, nat_tests) in
      mapped_none (threads_of threads (record { pid = record { 0 = k + 2 }; tid = tid }))
      (h.there (record { pid = record { 0 = k + 2 }; tid = tid }) ∙ cond-false (nat_lt (k + 2) (k + 2)) (threads_at_start plan (record { pid = record { 0 = k + 2 }; tid = tid })) None past)

  pub all_started : length plan.procs ≤ k → (id : ThreadId) → option_map thread_of (threads_of threads id) ≡ threads_at_start plan id
  all_started all id = h.there id ∙ elim (cases_lt id.pid.0 (k + 2)) [
    | inl low ↦ cond-true (nat_lt id.pid.0 (k + 2)) (threads_at_start plan id) None (lt-ltb id.pid.0 (k + 2) low)
    | inr high ↦
        let past : nat_lt id.pid.0 (k + 2) ≡ false = grind (arith, nat_tests) in
        let above : nat_le 2 id.pid.0 ≡ true = grind (arith, nat_tests) in
        let beyond : length plan.procs ≤ id.pid.0 - 2 = omega arith in
        cond-false (nat_lt id.pid.0 (k + 2)) (threads_at_start plan id) None past
        ∙ sym (ap (option_and_then (λ (process : ProcPlan). first_threads process.entry id.tid.0)) (cond-true (nat_le 2 id.pid.0) (slice_get plan.procs (id.pid.0 - 2)) None above ∙ slice_get_past plan.procs (id.pid.0 - 2) beyond))
  ]

  -- the threads of the next process are started
  pub next_started : (new : Threads) (p d : ProcPlan) → k < length plan.procs → p ≡ get_or plan.procs k d → process_count new ≡ process_count threads
      → ((id : ThreadId) → option_map thread_of (threads_of new id) ≡ (if id.pid.0 == k + 2 then first_threads p.entry id.tid.0 else option_map thread_of (threads_of threads id)))
      → AreStarted plan new (k + 1)
  next_started new p d low is count after = record {
    count = count ∙ h.count;
    within = omega arith;
    there = λ id. after id ∙ (ap (λ (o : Option Thread). if id.pid.0 == k + 2 then first_threads p.entry id.tid.0 else o) (h.there id) ∙ by_pid id);
  }
    where
      own : (id : ThreadId) → id.pid.0 ≡ k + 2 → threads_at_start plan id ≡ first_threads p.entry id.tid.0
      own id e =
          let above : nat_le 2 id.pid.0 ≡ true = grind (arith, nat_tests) in
          let place : id.pid.0 - 2 ≡ k = omega arith in
          ap (option_and_then (λ (process : ProcPlan). first_threads process.entry id.tid.0)) (cond-true (nat_le 2 id.pid.0) (slice_get plan.procs (id.pid.0 - 2)) None above
          ∙ (ap (slice_get plan.procs) place ∙ (slice_get-get_or plan.procs k d low ∙ ap Some (sym is))))

      by_pid : (id : ThreadId) → (if id.pid.0 == k + 2 then first_threads p.entry id.tid.0 else (if nat_lt id.pid.0 (k + 2) then threads_at_start plan id else None))
          ≡ (if nat_lt id.pid.0 (k + 1 + 2) then threads_at_start plan id else None)
      by_pid id = elim (cases_eq id.pid.0 (k + 2)) [
        | inl e ↦
            let within : nat_lt id.pid.0 (k + 1 + 2) ≡ true = grind (arith, nat_tests) in
            cond-true (id.pid.0 == k + 2) (first_threads p.entry id.tid.0) (if nat_lt id.pid.0 (k + 2) then threads_at_start plan id else None) (eq-eqb id.pid.0 (k + 2) e)
            ∙ (sym (own id e) ∙ sym (cond-true (nat_lt id.pid.0 (k + 1 + 2)) (threads_at_start plan id) None within))
        | inr ne ↦
            let same : nat_lt id.pid.0 (k + 2) ≡ nat_lt id.pid.0 (k + 1 + 2) = grind (arith, nat_tests) in
            cond-false (id.pid.0 == k + 2) (first_threads p.entry id.tid.0) (if nat_lt id.pid.0 (k + 2) then threads_at_start plan id else None) (ne_eqb id.pid.0 (k + 2) ne)
            ∙ ap (λ (b : Bool). if b then threads_at_start plan id else None) same
      ]

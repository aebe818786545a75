-- What a thread does over any bytes: the machine is matched once the step is counted, the log tells little, and where frames are few.
use Rattle.std.proofs.Common.{◌≡◌, ℕ, ◌+◌, ◌<◌, ◌≤◌, ◌⊎◌, Bool, true, false, List, [], ◌++◌, length, map, None, refl, sym, ap, subst, ◌∙◌, arith, inl, inr}
use Rattle.std.specs.Prelude.{◌==◌, nat_lt, Err, Ok, OnErr, Result}
use Rattle.std.proofs.lemmas.Bool.{and_parts, eqb-true, ltb-true}
use Rattle.boot_plan.specs.Capacity.{page_frames}
use Rattle.ledger_model.specs.Ledger.{Ledger, pages}
use Rattle.machine_laws.proofs.Dying.DeathLemmas.{death_keeps}
use Rattle.machine_laws.proofs.Dying.DeathStepLemmas.{last_keeps}
use Rattle.machine_laws.proofs.Interrupting.IrqHandlerLemmas.{handler_end_keeps}
use Rattle.machine_laws.proofs.Threading.EndThreadLemmas.{thread_end_keeps}
use Rattle.machine_laws.proofs.Threading.ThreadMoveLemmas.{matched_later}
use Rattle.machine_model.proofs.Runs.KeptLemmas.{matched_at}
use Rattle.machine_model.specs.Calling.Calls.{call}
use Rattle.machine_model.specs.Ending.Ends.{handler_ended, has_threads, thread_ended}
use Rattle.machine_model.specs.Runs.Kept.{Settles}
use Rattle.machine_model.specs.Runs.Matched.{Matched}
use Rattle.machine_model.specs.State.Changes.{Told, call_settled, settled}
use Rattle.machine_model.specs.State.Machine.{Machine, Thread}
use Rattle.machine_model.specs.State.Order.{ready_at}
use Rattle.machine_model.specs.State.Threads.{handler_return, put_thread, thread_id, thread_return}
use Rattle.machine_model.specs.Stepping.Step.{after, ends_handler, ends_thread, record_of}
use Rattle.sv32_space.specs.Tie.{Held}
use Rattle.vm_memory.specs.Memory.{Size, frames_for_pages, processes, size}
use Rattle.xk_base.proofs.CircleLemmas.{same_ids}
use Rattle.xk_base.specs.Log.{LogState}
use Rattle.xk_base.specs.Tables.Circle.{thread_ids}
use Rattle.xk_base.specs.declared.ids.ThreadId.{ThreadId}
use Rattle.xk_base.specs.declared.records.What.TheVariants.{Call}
use Rattle.xk_kernel.specs.Acting.{IsDone, TellsFew, told_by}
use Rattle.xk_kernel.specs.Calling.{CrowdsBy}
use Rattle.xk_kernel.specs.Knowing.{IsCrowded}
use Rattle.machine_model.specs.Runs.Isolation.{without_bytes}
use Rattle.xk_kernel.specs.State.{machine_of}
use Rattle.xk_kernel.specs.Telling.{log_with}
use Rattle.xk_kernel.specs.declared.kernel.Kernel.{Kernel}
use Rattle.xk_kernel.proofs.Acting.ActLemmas.{at}
use Rattle.xk_kernel.proofs.Memory.KnownLemmas.{matched_alike}
use Rattle.xk_kernel.proofs.Ringing.FewLemmas.{IsFew, few_acted}

-- ---- once the step is counted

-- .. from another machine with as many steps
pub settles_as : (a b next : Machine) → a.steps ≡ b.steps → Settles a next → Settles b next
settles_as a b next e h = subst (λ s. Matched (record next { steps = s + 1 })) e h

-- what settles but for bytes settles
pub settles_alike : (m new target : Machine) → without_bytes new ≡ without_bytes target → Settles m target → Settles m new
settles_alike m new target e h =
    matched_alike (record new { steps = m.steps + 1 }) (record target { steps = m.steps + 1 })
    (ap (λ (x : Machine). record x { steps = m.steps + 1 }) e) h

-- a machine after the instruction of a thread that goes on
pub begun_settles : (old mid new : Machine) (who : ThreadId) → Matched mid → mid.steps ≡ old.steps → new ≡ at who mid → Settles old new
begun_settles old mid new who h e is =
    subst (Settles old) (sym is) (matched_later (at who mid) (matched_at who mid h) (old.steps + 1) (omega (arith, e)))

module _ (m : Machine) (who : ThreadId) (h : Matched m) (ready : ready_at m who ≡ true) (t : Thread) where
  pub end_settles : (a0 : ℕ) → ends_thread who t.pc ≡ true → Settles m (settled (thread_ended who a0 (at who m))).machine
  end_settles a0 ends = go (has_threads (put_thread who None (at who m)) who.pid) refl
    where
      n : Machine
      n = at who m

      there : Matched n
      there = matched_at who m h

      above : nat_lt 1 who.tid.0 ≡ true
      above = (and_parts (nat_lt 1 who.tid.0) (t.pc == thread_return) ends).0

      go : (b : Bool) → has_threads (put_thread who None (at who m)) who.pid ≡ b → Settles (at who m) (settled (thread_ended who a0 (at who m))).machine
      go true others = thread_end_keeps n there who a0 ready (ltb-true 1 who.tid.0 above) others
      go false last = last_keeps n who a0 last (death_keeps n there who.pid)

  pub handler_settles : ends_handler who t.pc ≡ true → Settles m (settled (handler_ended who.pid (at who m))).machine
  handler_settles ends =
      let parts : ((who.tid.0 == 1) ≡ true) × ((t.pc == handler_return) ≡ true) = and_parts (who.tid.0 == 1) (t.pc == handler_return) ends in
      let same : who ≡ thread_id who.pid 1 = same_ids who (thread_id who.pid 1) refl (eqb-true who.tid.0 1 parts.0) in
      handler_end_keeps (at who m) (matched_at who m h) who.pid (sym (ap (ready_at m) same) ∙ ready)

-- ---- the log

module _ {W : Type 0} (held : W → Held) (old new : Kernel W) (same : size new.mem ≡ size old.mem) where
  procs : processes new.mem ≡ processes old.mem
  procs = ap (λ (s : Size). s.procs) same

  -- what is done tells little
  pub done_few : (who : ThreadId) → IsDone held old new (told_by who (machine_of held old)) → TellsFew old new
  unfolding machine_of
  done_few who done = record {
    told = (told_by who (machine_of held old)).told;
    log = done.log;
    few = subst (λ n. length (told_by who (machine_of held old)).told ≤ thread_ids n + 3)
        (sym (ap (λ (m : Machine). m.processes) done.machine) ∙ procs)
        (few_acted (at who (machine_of held old)) ((machine_of held old).threads who));
  }

  -- .. and so does what a begun step told
  pub begun_few : (begun : LogState) (done : Told) → begun ≡ record old.log { step = old.steps + 1; records = [] }
      → new.log ≡ log_with done.told begun → (machine_of held new).processes ≡ done.machine.processes → IsFew 3 done → TellsFew old new
  unfolding machine_of
  begun_few begun done begins log counts few = record {
    told = done.told;
    log = log ∙ (λ i. record (begins i) { records = (begins i).records ++ map (record_of (begins i).step) done.told });
    few = subst (λ n. length done.told ≤ thread_ids n + 3) (sym counts ∙ procs) few;
  }

-- ---- frames

-- a page was out before, or it went out since
pub out_since : {Fact : Type 0} (before : Bool) → (before ≡ true → Fact) → (before ≡ false) ⊎ Fact
out_since true fact = inr (fact refl)
out_since false fact = inl refl

-- what holds where none was out before holds anyway
pub out_so : {Fact : Type 0} (before : Bool) → (before ≡ true → (before ≡ false) ⊎ Fact) → (before ≡ false) ⊎ Fact
out_so true fact = fact refl
out_so false fact = inl refl

-- a call that is crowded leaves the thread's step so
pub crowds_acted : {W : Type 0} (held : W → Held) (old begun : Kernel W) (who : ThreadId) (words : List ℕ) → size begun.mem ≡ size old.mem
    → machine_of held begun ≡ at who (machine_of held old)
    → told_by who (machine_of held old) ≡ after (Call who words) (call_settled (at who (machine_of held old)) (call (at who (machine_of held old)) words))
    → CrowdsBy held begun (call (machine_of held begun) words) → IsCrowded old (told_by who (machine_of held old)).machine.ledger
crowds_acted held old begun who words same is told crowds =
    subst (λ x. frames_for_pages old.mem < pages (processes old.mem) x) (ap left is ∙ sym (ap (λ (t : Told). t.machine.ledger) told))
    (subst (λ n. frames_for_pages old.mem < pages n (left (machine_of held begun))) (ap (λ (s : Size). s.procs) same)
    (subst (λ f. f < pages (processes begun.mem) (left (machine_of held begun))) (ap (λ (s : Size). page_frames s.area.frames s.procs) same) crowds))
  where
    left : Machine → Ledger
    left m = (call_settled m (call m words)).machine.ledger

-- what holds holds on a failure
pub on_failure : {A B : Type 0} (r : Result A B) (Fact : Type 0) → Fact → OnErr r Fact
on_failure (Ok x) Fact fact = tt
on_failure (Err e) Fact fact = fact

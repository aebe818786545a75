-- Quiet steps of a thread in hand over its memory, one after the other, in every kernel around that memory.
use Rattle.xk_ports.specs.declared.store.SwapStore.{Ghosts as SwapStore}
use Rattle.std.proofs.Common.{◌≡◌, ℕ, zero, suc, ◌+◌, ◌<◌, ◌≤◌, ◌%◌, Bool, true, false, Option, refl, sym, ap, subst, ◌∙◌, arith}
use Rattle.std.specs.Prelude.{nat_lt}
use Rattle.std.proofs.lemmas.Bool.{false≢true, ltb-false, ltb-true}
use Rattle.machine_model.specs.Stepping.Step.{step}
use Rattle.thread_table.specs.declared.thread.Thread.{Thread as TableThread}
use Rattle.vm_memory.proofs.Using.UserKeepLemmas.{rest_same}
use Rattle.vm_memory.specs.Bytes.{none_out}
use Rattle.vm_memory.specs.Memory.{IsUsable, store_of}
use Rattle.vm_memory.specs.Using.UserRest.{pid_rest_over}
use Rattle.vm_memory.specs.Using.UserView.{KeepsRest}
use Rattle.vm_memory.specs.declared.memory.Memory.{Memory}
use Rattle.xk_base.specs.Outside.{Rose}
use Rattle.xk_base.specs.declared.ids.Pid.{Pid}
use Rattle.xk_base.specs.declared.ids.ThreadId.{ThreadId}
use Rattle.xk_kernel.specs.Quiet.{GoesQuietly, is_quiet}
use Rattle.xk_kernel.specs.QuietOver.{CameBy, CameByAll, GoesOver, Lent, MayStep, RunsOver, StepsOver, Taken, around, lent_to, machine_with}
use Rattle.xk_kernel.specs.State.{machine_of}
use Rattle.xk_kernel.specs.declared.kernel.Kernel.{Kernel}
use Rattle.xk_kernel.proofs.Memory.MemoryPartLemmas.{whole_with}
use Rattle.xk_kernel.proofs.Quieting.OverLemmas.{lent}
use Rattle.xk_kernel.proofs.Quieting.QuietStepLemmas.{goes_once_more}
use Rattle.xk_kernel.proofs.Running.RanLemmas.{matched_memory}

-- what was so only after what keeps another so
was_false : (before after : Bool) → (before ≡ true → after ≡ true) → after ≡ false → before ≡ false
was_false true after stays out = absurd (false≢true (sym out ∙ stays refl))
was_false false after stays out = refl

-- a count that didn't fall, and then rose
rose_since : (before between now : ℕ) → before ≤ between → Rose between now → Rose before now
rose_since before between now low rose = omega (arith, low, rose)

module _ {W : Type 0} (S : SwapStore W) (who : ThreadId) where
  -- so many quiet steps of the thread of that process, and what they keep
  pub record HasGone (pid : Pid) (old new : Memory W) (before after : TableThread) (reserved left : Option ℕ) (done : ℕ) : Type 0 where
    pub rest : KeepsRest S pid old new
    pub state : after.state ≡ before.state
    pub aligned : after.pc % 4 ≡ 0
    pub usable : IsUsable new
    pub goes : GoesOver S who (lent old before reserved) (lent new after left) done
    pub came : CameByAll S who (record { mem = old; thread = before; reserved = reserved }) done

  goes_none : (taken : Lent W) → GoesOver S who taken taken 0
  goes_none taken k may undue means = let e : k.steps + 0 ≡ k.steps = omega arith in ap (machine_with S.held k who taken) e

  came_none : (taken : Taken W) → IsUsable taken.mem → taken.thread.pc % 4 ≡ 0 → CameByAll S who taken 0
  came_none taken usable aligned zero within = record {
    taken = taken;
    goes = goes_none (lent_to taken);
    rest = rest_same S who.pid taken.mem;
    usable = usable;
    state = refl;
    aligned = aligned;
  }
  came_none taken usable aligned (suc n) within = absurd (omega (arith, within))

  came_more : (old : Taken W) (done : ℕ) → CameByAll S who old done → CameBy S who old (done + 1) → CameByAll S who old (done + 1)
  came_more old done all one n within = go (nat_lt n (done + 1)) refl
    where
      go : (b : Bool) → nat_lt n (done + 1) ≡ b → CameBy S who old n
      go true e = all n (let less = ltb-true n (done + 1) e in omega (arith, less))
      go false e =
          let same : done + 1 ≡ n = let more = ltb-false n (done + 1) e in omega (arith, more, within) in
          subst (CameBy S who old) same one

  pub gone_none : (pid : Pid) (old : Memory W) (t : TableThread) (reserved : Option ℕ) → IsUsable old → t.pc % 4 ≡ 0
      → HasGone pid old old t t reserved reserved 0
  gone_none pid old t reserved usable aligned = record {
    rest = rest_same S pid old;
    state = refl;
    aligned = aligned;
    usable = usable;
    goes = goes_none (lent old t reserved);
    came = came_none (record { mem = old; thread = t; reserved = reserved }) usable aligned;
  }

  -- the kernels around a memory are as they were around the one before
  module _ (old mid : Lent W) (kept : KeepsRest S who.pid old.mem mid.mem) where
    still : (k : Kernel W) → MayStep S (around old.mem who k) → MayStep S (around mid.mem who k)
    unfolding machine_of
    still k may = record {
      whole = whole_with S (around old.mem who k) mid.mem may.whole who.pid kept;
      matched = matched_memory S (around old.mem who k) mid.mem who may.matched kept;
    }

    module _ (new : Lent W) (done : ℕ) (goes : GoesOver S who old mid done) where
      -- one more
      pub goes_on : StepsOver S who mid new true → GoesOver S who old new (done + 1)
      goes_on s k may undue means =
          let d : (is_quiet (machine_with S.held k who mid (k.steps + done)) ≡ true)
          × (machine_with S.held k who new (k.steps + done + 1) ≡ (step (machine_with S.held k who mid (k.steps + done))).machine) =
          s k (still k may) (k.steps + done) (undue done (omega arith)) (kept.means means) in
          let count : k.steps + (done + 1) ≡ k.steps + done + 1 = omega arith in
          let more : suc done ≡ done + 1 = omega arith in
          subst (λ n. GoesQuietly n (machine_with S.held k who old k.steps) (machine_with S.held k who new (k.steps + (done + 1)))) more
          (goes_once_more done (machine_with S.held k who old k.steps) (machine_with S.held k who mid (k.steps + done)) (machine_with S.held k who new (k.steps + (done + 1)))
          (goes k may (λ j less. undue j (omega (arith, less))) means) d.0 (ap (machine_with S.held k who new) count ∙ d.1))

      -- the next one isn't quiet
      pub goes_out : (most : ℕ) → done < most → StepsOver S who mid new false → RunsOver S who old new most done
      goes_out most within s k may undue means =
          let d : (is_quiet (machine_with S.held k who mid (k.steps + done)) ≡ false)
          × (machine_with S.held k who new (k.steps + done) ≡ machine_with S.held k who mid (k.steps + done)) =
          s k (still k may) (k.steps + done) (undue done within) (kept.means means) in
          record {
            steps = subst (GoesQuietly done (machine_with S.held k who old k.steps)) (sym d.1) (goes k may (λ j less. undue j (omega (arith, less, within))) means);
            next = λ _. ap is_quiet d.1 ∙ d.0;
          }

  -- all were done that were to be
  pub goes_all : (old new : Lent W) (most done : ℕ) → done ≡ most → GoesOver S who old new done
      → RunsOver S who old new most most
  goes_all old new most done all goes k may undue means = record {
    steps = (subst (GoesOver S who old new) all goes) k may undue means;
    next = λ less. absurd (omega (arith, less));
  }

  -- ---- one step more of the loop, whose process is told by two numbers that are the same

  module _ (pid other : Pid) (own : pid ≡ who.pid) (same : other ≡ pid) (old mid new : Memory W) (t u : TableThread) (r s : Option ℕ) (done : ℕ)
      (h : HasGone pid old mid t u r s done) where
    kept : KeepsRest S who.pid old mid
    kept = subst (λ p. KeepsRest S p old mid) own h.rest

    pub rest_on : KeepsRest S other mid new → KeepsRest S pid old new
    rest_on rest = pid_rest_over S same h.rest rest

    module _ (v : TableThread) (q : Option ℕ) where
      pub gone_on : KeepsRest S other mid new → v.state ≡ u.state → v.pc % 4 ≡ 0 → IsUsable new
          → StepsOver S who (lent mid u s) (lent new v q) true → HasGone pid old new t v r q (done + 1)
      gone_on rest state aligned usable step = record {
        rest = rest_on rest;
        state = state ∙ h.state;
        aligned = aligned;
        usable = usable;
        goes = goes_on (lent old t r) (lent mid u s) kept (lent new v q) done h.goes step;
        came = came_more (record { mem = old; thread = t; reserved = r }) done h.came (record {
          taken = record { mem = new; thread = v; reserved = q };
          goes = goes_on (lent old t r) (lent mid u s) kept (lent new v q) done h.goes step;
          rest = subst (λ p. KeepsRest S p old new) own (rest_on rest);
          usable = usable;
          state = state ∙ h.state;
          aligned = aligned;
        });
      }

      pub gone_out : (most : ℕ) → done < most → StepsOver S who (lent mid u s) (lent new v q) false
          → RunsOver S who (lent old t r) (lent new v q) most done
      gone_out most within step = goes_out (lent old t r) (lent mid u s) kept (lent new v q) done h.goes most within step

    -- where the store failed
    pub out_on : none_out mid ≡ false → none_out old ≡ false
    out_on out = was_false (none_out old) (none_out mid) h.rest.none out

    pub rose_on : Rose (S.faults (store_of mid)) (S.faults (store_of new)) → Rose (S.faults (store_of old)) (S.faults (store_of new))
    rose_on rose = rose_since (S.faults (store_of old)) (S.faults (store_of mid)) (S.faults (store_of new)) h.rest.store.never_falls rose

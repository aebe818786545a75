-- The thread's quiet steps are as many steps of the machine, from the thread in its table to the thread in its table.
use Rattle.std.proofs.Common.{◌≡◌, ◌+◌, ◌≤◌, false, is_some, refl, sym, ap, subst, ◌∙◌, arith}
use Rattle.machine_model.specs.Runs.Matched.{Matched}
use Rattle.machine_model.specs.State.Machine.{Machine}
use Rattle.vm_memory.proofs.Changing.SoundMemoryLemmas.{sound-tied}
use Rattle.vm_memory.specs.Bytes.{MeansBytesOver}
use Rattle.vm_memory.specs.Tie.{IsTied}
use Rattle.xk_kernel.specs.Quiet.{RunsQuietly, is_quiet}
use Rattle.xk_kernel.specs.QuietOver.{PutsThread}
use Rattle.xk_kernel.specs.State.{machine_of}
use Rattle.xk_kernel.specs.Stepping.{last_of}
use Rattle.xk_kernel.proofs.Acting.SettlesLemmas.{on_failure}
use Rattle.xk_kernel.proofs.Acting.StepOfLemmas.{failed_sound}
use Rattle.xk_kernel.proofs.Memory.KnownLemmas.{means_ends}
use Rattle.xk_kernel.proofs.Quieting.RowLemmas.{hand_in, matched_still, whole_still}
use Rattle.xk_kernel.proofs.Quieting.StoodLemmas.{stood_all, stood_none}
use Rattle.xk_kernel.proofs.Quieting.TurnLemmas.{aligned_in_hand, came_back, matched_back, none_quiet, ready_acts, some_quiet, still_steps, still_there, unready_is_loud}
use Rattle.xk_kernel.proofs.kernel.Kernel.run_quiet.Goals as goal

-- ---- no quiet step

-- src/kernel/quiet.rt
pub returns-then-not-is_ready_at-clause-runs : goal.returns-then-not-is_ready_at-clause-runs
unfolding machine_of
returns-then-not-is_ready_at-clause-runs g c known =
    let loud : is_quiet (machine_of g.W.SwapStore.held c.args.self.now) ≡ false =
    unready_is_loud (machine_of g.W.SwapStore.held c.args.self.now) (sym c.is_ready_at.ensures ∙ c.if-not-is_ready_at.true) in
    record { steps = refl; next = λ _. loud }

pub returns-then-not-is_ready_at-clause-tie : goal.returns-then-not-is_ready_at-clause-tie
returns-then-not-is_ready_at-clause-tie g c = sound-tied g.W.SwapStore c.args.self.now.mem c.requires.sound.whole.mem

pub returns-then-not-is_ready_at-clause-stood : goal.returns-then-not-is_ready_at-clause-stood
returns-then-not-is_ready_at-clause-stood g c known = stood_none g.W.SwapStore c.args.self.now c.requires.sound c.requires.usable

-- ---- the row

pub steps_before_due-until-requires : goal.steps_before_due-until-requires
unfolding machine_of
steps_before_due-until-requires g c = record { few = c.requires.few }

pub quiet_steps-requires-clause-aligned : goal.quiet_steps-requires-clause-aligned
quiet_steps-requires-clause-aligned g c = aligned_in_hand g.W.SwapStore c.args.self.now (record { thread = c.thread.result.now; reserved = c.reserved_by-reserved.result }) c.thread.ensures (c.requires.sound.matched c.requires.usable)

pub returns-in_err-done-clause-sound : goal.returns-in_err-done-clause-sound
returns-in_err-done-clause-sound g c =
    failed_sound g.W.SwapStore c.quiet_steps.new.self
    (whole_still g.W.SwapStore c.args.self.now c.quiet_steps.new.self
    (record { thread = c.thread.result.now; reserved = c.reserved_by-reserved.result })
    (record { thread = c.quiet_steps.new.thread; reserved = c.quiet_steps.new.reserved })
    (record {
      same = c.quiet_steps.ensures.same;
      rest = c.quiet_steps.ensures.rest;
      state = c.quiet_steps.ensures.state;
      aligned = c.quiet_steps.ensures.aligned;
    }) c.requires.sound.whole) c.in_err-done.ensures.failed

pub returns-in_err-done-clause-idle : goal.returns-in_err-done-clause-idle
unfolding machine_of
returns-in_err-done-clause-idle g c = on_failure c.from_residual.result _ (ready_acts (machine_of g.W.SwapStore.held c.args.self.now) (sym c.is_ready_at.ensures ∙ c.if-not-is_ready_at.false))

-- ---- none was quiet

pub returns-then-done-eq0-clause-sound : goal.returns-then-done-eq0-clause-sound
returns-then-done-eq0-clause-sound g c = record {
  whole = whole_still g.W.SwapStore c.args.self.now c.quiet_steps.new.self
      (record { thread = c.thread.result.now; reserved = c.reserved_by-reserved.result })
      (record { thread = c.quiet_steps.new.thread; reserved = c.quiet_steps.new.reserved })
      (record {
        same = c.quiet_steps.ensures.same;
        rest = c.quiet_steps.ensures.rest;
        state = c.quiet_steps.ensures.state;
        aligned = c.quiet_steps.ensures.aligned;
      }) c.requires.sound.whole;
  matched = λ _. matched_still g.W.SwapStore c.args.self.now c.quiet_steps.new.self
      (record { thread = c.thread.result.now; reserved = c.reserved_by-reserved.result })
      (record { thread = c.quiet_steps.new.thread; reserved = c.quiet_steps.new.reserved })
      (record {
        same = c.quiet_steps.ensures.same;
        rest = c.quiet_steps.ensures.rest;
        state = c.quiet_steps.ensures.state;
        aligned = c.quiet_steps.ensures.aligned;
      }) (c.requires.sound.matched c.requires.usable);
}

pub returns-then-done-eq0-clause-runs : goal.returns-then-done-eq0-clause-runs
returns-then-done-eq0-clause-runs g c known =
    none_quiet g.W.SwapStore c.args.self.now (record { thread = c.thread.result.now; reserved = c.reserved_by-reserved.result }) c.thread.ensures c.reserved_by-reserved.ensures
    c.quiet_steps.new.self (record { thread = c.quiet_steps.new.thread; reserved = c.quiet_steps.new.reserved }) (record { same = c.quiet_steps.ensures.same; rest = c.quiet_steps.ensures.rest; state = c.quiet_steps.ensures.state; aligned = c.quiet_steps.ensures.aligned })
    c.steps_before_due-until.result c.args.most c.steps_before_due-until.ensures.most c.steps_before_due-until.ensures.due
    (subst (λ n. RunsQuietly c.steps_before_due-until.result n
    (hand_in g.W.SwapStore.held c.args.self.now.cursor c.args.self.now
    (record { thread = c.thread.result.now; reserved = c.reserved_by-reserved.result }) c.args.self.now.steps)
    (hand_in g.W.SwapStore.held c.args.self.now.cursor c.quiet_steps.new.self
    (record { thread = c.quiet_steps.new.thread; reserved = c.quiet_steps.new.reserved }) (c.args.self.now.steps + n))) c.if-done-eq0.true
    (c.in_ok-done.ensures.runs (means_ends g.W.SwapStore c.args.self.now.mem c.quiet_steps.new.self.mem c.quiet_steps.ensures.rest.store known).0))

pub returns-then-done-eq0-clause-stays : goal.returns-then-done-eq0-clause-stays
returns-then-done-eq0-clause-stays g c none = ap (λ k. last_of k) c.quiet_steps.ensures.same

pub returns-then-done-eq0-clause-stood : goal.returns-then-done-eq0-clause-stood
returns-then-done-eq0-clause-stood g c known = stood_none g.W.SwapStore c.args.self.now c.requires.sound c.requires.usable

-- ---- some were

pub take_back-requires-clause-there : goal.take_back-requires-clause-there
take_back-requires-clause-there g c = ap is_some (still_there g.W.SwapStore c.args.self.now (record { thread = c.thread.result.now; reserved = c.reserved_by-reserved.result }) c.thread.ensures c.reserved_by-reserved.ensures
    c.quiet_steps.new.self (record { thread = c.quiet_steps.new.thread; reserved = c.quiet_steps.new.reserved }) (record { same = c.quiet_steps.ensures.same; rest = c.quiet_steps.ensures.rest; state = c.quiet_steps.ensures.state; aligned = c.quiet_steps.ensures.aligned }))

pub take_back-requires-clause-few : goal.take_back-requires-clause-few
unfolding machine_of
take_back-requires-clause-few g c =
    let same : c.quiet_steps.new.self.steps ≡ c.args.self.now.steps = still_steps g.W.SwapStore c.args.self.now (record { thread = c.thread.result.now; reserved = c.reserved_by-reserved.result }) c.thread.ensures c.reserved_by-reserved.ensures
    c.quiet_steps.new.self (record { thread = c.quiet_steps.new.thread; reserved = c.quiet_steps.new.reserved }) (record { same = c.quiet_steps.ensures.same; rest = c.quiet_steps.ensures.rest; state = c.quiet_steps.ensures.state; aligned = c.quiet_steps.ensures.aligned }) in
    let few : c.args.self.now.steps + c.args.most ≤ 4000000000 = c.requires.few in
    let done : c.in_ok-done.done ≤ c.steps_before_due-until.result = c.in_ok-done.ensures.most in
    let until : c.steps_before_due-until.result ≤ c.args.most = c.steps_before_due-until.ensures.most in
    omega (arith, same, few, done, until)

pub returns-clause-sound : goal.returns-clause-sound
returns-clause-sound g c = record {
  whole = c.take_back.ensures.whole
      (whole_still g.W.SwapStore c.args.self.now c.quiet_steps.new.self
      (record { thread = c.thread.result.now; reserved = c.reserved_by-reserved.result })
      (record { thread = c.quiet_steps.new.thread; reserved = c.quiet_steps.new.reserved })
      (record {
        same = c.quiet_steps.ensures.same;
        rest = c.quiet_steps.ensures.rest;
        state = c.quiet_steps.ensures.state;
        aligned = c.quiet_steps.ensures.aligned;
      }) c.requires.sound.whole);
  matched = λ _. subst Matched (sym (came_back g.W.SwapStore c.args.self.now (record { thread = c.thread.result.now; reserved = c.reserved_by-reserved.result }) c.thread.ensures c.reserved_by-reserved.ensures
      c.quiet_steps.new.self (record { thread = c.quiet_steps.new.thread; reserved = c.quiet_steps.new.reserved })
      (record {
        same = c.quiet_steps.ensures.same;
        rest = c.quiet_steps.ensures.rest;
        state = c.quiet_steps.ensures.state;
        aligned = c.quiet_steps.ensures.aligned;
      }) c.take_back.new.self c.in_ok-done.done c.take_back.ensures.machine))
      (matched_back g.W.SwapStore c.args.self.now
      (record { thread = c.thread.result.now; reserved = c.reserved_by-reserved.result }) c.thread.ensures c.reserved_by-reserved.ensures
      c.quiet_steps.new.self (record { thread = c.quiet_steps.new.thread; reserved = c.quiet_steps.new.reserved }) (record { same = c.quiet_steps.ensures.same; rest = c.quiet_steps.ensures.rest; state = c.quiet_steps.ensures.state; aligned = c.quiet_steps.ensures.aligned }) (c.requires.sound.matched c.requires.usable) c.in_ok-done.done);
}

pub returns-clause-counts : goal.returns-clause-counts
unfolding machine_of
returns-clause-counts g c = ap (λ (m : Machine). m.steps) (came_back g.W.SwapStore c.args.self.now (record { thread = c.thread.result.now; reserved = c.reserved_by-reserved.result }) c.thread.ensures c.reserved_by-reserved.ensures
    c.quiet_steps.new.self (record { thread = c.quiet_steps.new.thread; reserved = c.quiet_steps.new.reserved }) (record { same = c.quiet_steps.ensures.same; rest = c.quiet_steps.ensures.rest; state = c.quiet_steps.ensures.state; aligned = c.quiet_steps.ensures.aligned }) c.take_back.new.self c.in_ok-done.done c.take_back.ensures.machine)

pub returns-clause-there : goal.returns-clause-there
unfolding machine_of
returns-clause-there g c some = ready_acts (machine_of g.W.SwapStore.held c.args.self.now) (sym c.is_ready_at.ensures ∙ c.if-not-is_ready_at.false)

pub returns-clause-runs : goal.returns-clause-runs
returns-clause-runs g c known =
    some_quiet g.W.SwapStore c.args.self.now (record { thread = c.thread.result.now; reserved = c.reserved_by-reserved.result }) c.thread.ensures c.reserved_by-reserved.ensures
    c.quiet_steps.new.self (record { thread = c.quiet_steps.new.thread; reserved = c.quiet_steps.new.reserved }) (record { same = c.quiet_steps.ensures.same; rest = c.quiet_steps.ensures.rest; state = c.quiet_steps.ensures.state; aligned = c.quiet_steps.ensures.aligned })
    c.steps_before_due-until.result c.args.most c.steps_before_due-until.ensures.most c.steps_before_due-until.ensures.due
    c.in_ok-done.done (machine_of g.W.SwapStore.held c.take_back.new.self) (let some = c.if-done-eq0.false in omega (arith, some)) c.in_ok-done.ensures.most
    (c.in_ok-done.ensures.runs (means_ends g.W.SwapStore c.args.self.now.mem c.quiet_steps.new.self.mem c.quiet_steps.ensures.rest.store
    (subst (λ mem. MeansBytesOver g.W.SwapStore c.args.self.now.mem mem) c.take_back.ensures.mem known)).0)
    (came_back g.W.SwapStore c.args.self.now (record { thread = c.thread.result.now; reserved = c.reserved_by-reserved.result }) c.thread.ensures c.reserved_by-reserved.ensures
    c.quiet_steps.new.self (record { thread = c.quiet_steps.new.thread; reserved = c.quiet_steps.new.reserved }) (record { same = c.quiet_steps.ensures.same; rest = c.quiet_steps.ensures.rest; state = c.quiet_steps.ensures.state; aligned = c.quiet_steps.ensures.aligned }) c.take_back.new.self c.in_ok-done.done c.take_back.ensures.machine)

pub returns-clause-stood : goal.returns-clause-stood
returns-clause-stood g c known =
    let S = g.W.SwapStore in
    let old = c.args.self.now in
    stood_all S old c.requires.sound c.requires.usable (record { thread = c.thread.result.now; reserved = c.reserved_by-reserved.result })
    c.thread.ensures c.reserved_by-reserved.ensures
    (means_ends S old.mem c.quiet_steps.new.self.mem c.quiet_steps.ensures.rest.store
    (subst (λ mem. MeansBytesOver S old.mem mem) c.take_back.ensures.mem known)).0
    (λ thread. subst (λ table. PutsThread table old.cursor thread) (ap (λ k. k.threads) c.quiet_steps.ensures.same) (c.take_back.ensures.puts thread))
    c.in_ok-done.done c.in_ok-done.ensures.came
    (λ j less. c.steps_before_due-until.ensures.rests j (let few = c.in_ok-done.ensures.most in omega (arith, less, few)))

pub returns-clause-tie : goal.returns-clause-tie
returns-clause-tie g c = subst (λ mem. IsTied g.W.SwapStore.held mem) (sym c.take_back.ensures.mem) (c.quiet_steps.ensures.rest.tie c.requires.sound.whole.mem)

-- What a pick and a kill do, and that a kernel stays sound.
use Rattle.xk_ports.specs.declared.store.SwapStore.{Ghosts as SwapStore}
use Rattle.std.proofs.Common.{◌≡◌, ℕ, ◌≤◌, Bool, true, false, [], Option, Some, None, refl, sym, ap, subst, ◌∙◌}
use Rattle.std.specs.Prelude.{IsTrue}
use Rattle.machine_laws.proofs.Dying.DeathLemmas.{kill_keeps}
use Rattle.machine_laws.proofs.Interrupting.IrqDeliveryLemmas.{irq_keeps}
use Rattle.machine_laws.proofs.Threading.ThreadMoveLemmas.{matched_reserved}
use Rattle.machine_model.proofs.Runs.KeptLemmas.{pick_keeps}
use Rattle.machine_model.specs.State.Changes.{Told, settled}
use Rattle.machine_model.specs.Ending.Ends.{death}
use Rattle.machine_model.specs.Stepping.Events.{at_event, killed, killed_if, nothing, picked, raised}
use Rattle.machine_model.specs.State.Machine.{Machine}
use Rattle.machine_model.specs.Stepping.Reservations.{unreserved}
use Rattle.machine_model.specs.Runs.Matched.{Matched}
use Rattle.machine_model.specs.Stepping.Step.{Recorded}
use Rattle.process_table.specs.Shown.{processes_of}
use Rattle.process_table.specs.ProcessMap.{is_alive}
use Rattle.process_table.specs.State.{ProcessState}
use Rattle.vm_memory.specs.Memory.{processes}
use Rattle.xk_base.specs.Tables.Circle.{is_pid}
use Rattle.xk_base.specs.Log.{LogState}
use Rattle.xk_base.specs.declared.ids.Pid.{Pid}
use Rattle.xk_base.specs.declared.ids.ThreadId.{ThreadId}
use Rattle.xk_base.specs.declared.limits.TheConstants.{RECORD_LIMIT}
use Rattle.xk_kernel.specs.Sound.{IsSound, IsUsable, IsWhole}
use Rattle.xk_parts.specs.Shown.{process_of}
use Rattle.xk_kernel.specs.State.{machine_of}
use Rattle.xk_kernel.specs.Stepping.{Becomes}
use Rattle.xk_kernel.specs.Telling.{Tells, log_with}
use Rattle.xk_kernel.specs.declared.kernel.Kernel.{Kernel}

-- a whole kernel is whole with another log of as much room
pub pushed_whole : {W : Type 0} (S : SwapStore W) (k : Kernel W) (log : LogState) → IsWhole S k → log.room ≡ k.log.room
    → IsWhole S (record k { log = log })
pushed_whole S k log whole e = record {
  mem = whole.mem;
  threads = whole.threads;
  procs = whole.procs;
  cursor = whole.cursor;
  room = subst (λ room. RECORD_LIMIT ≤ room) (sym e) whole.room;
  servers = whole.servers;
}

-- .. and with no reservation
pub unreserved_whole : {W : Type 0} (S : SwapStore W) (k : Kernel W) → IsWhole S k → IsWhole S (record k { reserved = None })
unreserved_whole S k whole = record {
  mem = whole.mem;
  threads = whole.threads;
  procs = whole.procs;
  cursor = whole.cursor;
  room = whole.room;
  servers = whole.servers;
}

-- ---- a process that lives

pub alive_of : (o : Option ProcessState) → (process_of o).alive ≡ is_alive o
alive_of None = refl
alive_of (Some p) = refl

-- ---- a kill

killed_is : (m : Machine) (pid : Pid) → (m.process pid.0).alive ≡ true → killed pid m ≡ at_event m.steps (settled (death pid (unreserved m)))
unfolding killed
killed_is m pid alive = ap (λ b. killed_if b pid (unreserved m)) alive

spared : (m : Machine) (pid : Pid) → (m.process pid.0).alive ≡ false → killed pid m ≡ nothing (unreserved m)
unfolding killed
spared m pid dead = ap (λ b. killed_if b pid (unreserved m)) dead

module _ {W : Type 0} (S : SwapStore W) (old new : Kernel W) (sound : IsSound S old) (usable : IsUsable old) where
  -- what leaves the machine matched leaves the kernel sound
  pub became_sound : (next : Recorded) → IsWhole S new → Becomes S.held new next → Matched next.machine → IsSound S new
  became_sound next whole becomes matched = record { whole = whole; matched = λ _. subst Matched (sym becomes.machine) matched }

  pub left_matched : Matched (machine_of S.held old)
  left_matched = sound.matched usable

  pub pick_matched : (who : ThreadId) → Matched (picked who (machine_of S.held old)).machine
  pick_matched who = pick_keeps who (machine_of S.held old) left_matched

  pub irq_matched : (k : ℕ) → Matched (raised k (machine_of S.held old)).machine
  irq_matched k = irq_keeps k (machine_of S.held old) left_matched

  pub kill_matched : (pid : Pid) → Matched (killed pid (machine_of S.held old)).machine
  kill_matched pid = kill_keeps pid (machine_of S.held old) left_matched

  -- the log that is begun anew
  abbrev begun : LogState
  begun = record old.log { step = old.steps; records = [] }

  pub logged_whole : (log : LogState) → log ≡ begun → IsWhole S (record old { log = log })
  logged_whole log e = pushed_whole S old log sound.whole (ap (λ (l : LogState). l.room) e)

  pub nothing_done : (log : LogState) → log ≡ begun → Becomes S.held (record old { log = log }) (nothing (machine_of S.held old))
  unfolding machine_of
  nothing_done log e = record { machine = refl; records = ap (λ (l : LogState). l.records) e }

  pub picked_done : (who : ThreadId) → machine_of S.held new ≡ (picked who (machine_of S.held old)).machine → new.log ≡ begun → Becomes S.held new (picked who (machine_of S.held old))
  unfolding picked
  picked_done who machine log = record { machine = machine; records = ap (λ (l : LogState). l.records) log }

  pub lives : (pid : Pid) (b : Bool) → b ≡ is_alive (processes_of old.procs pid.0) → ((machine_of S.held old).process pid.0).alive ≡ b
  unfolding machine_of
  lives pid b e = alive_of (processes_of old.procs pid.0) ∙ sym e

  pub known : (pid : Pid) → ((machine_of S.held old).process pid.0).alive ≡ true → IsTrue (is_pid (processes old.mem) pid.0)
  unfolding machine_of
  known pid alive = left_matched.body.processes.pids pid alive

  -- it may be killed
  abbrev dying : LogState → Kernel W
  dying log = record old { log = log; reserved = None }

  pub dying_matched : (log : LogState) → Matched (machine_of S.held (dying log))
  unfolding machine_of
  dying_matched log = matched_reserved (machine_of S.held old) left_matched None

  pub killed_done : (pid : Pid) (log : LogState) → ((machine_of S.held old).process pid.0).alive ≡ true → log ≡ begun
      → Tells S.held (dying log) new (settled (death pid (machine_of S.held (dying log)))) → Becomes S.held new (killed pid (machine_of S.held old))
  unfolding machine_of
  killed_done pid log alive e tells =
      let told : Told = settled (death pid (unreserved (machine_of S.held old))) in
      let is : killed pid (machine_of S.held old) ≡ at_event old.steps told = killed_is (machine_of S.held old) pid alive in
      record {
        machine = tells.machine ∙ sym (ap (λ (s : Recorded). s.machine) is);
        records = ap (λ (l : LogState). l.records) (tells.log ∙ ap (log_with told.told) e) ∙ sym (ap (λ (s : Recorded). s.records) is);
      }

  pub spared_done : (pid : Pid) (log : LogState) → ((machine_of S.held old).process pid.0).alive ≡ false → log ≡ begun
      → Becomes S.held (record old { log = log; reserved = None }) (killed pid (machine_of S.held old))
  unfolding machine_of
  spared_done pid log dead e =
      subst (Becomes S.held (record old { log = log; reserved = None })) (sym (spared (machine_of S.held old) pid dead)) (record { machine = refl; records = ap (λ (l : LogState). l.records) e })

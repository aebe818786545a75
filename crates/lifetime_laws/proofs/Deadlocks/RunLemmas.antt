-- Processes that wait for one another wait after each moment, and so in a run.
use Rattle.std.proofs.Common.{◌≡◌, ◌≢◌, ℕ, zero, suc, Bool, true, false, List, [], ◌∷◌, Option, Some, None, refl, sym, ap, ◌∙◌, subst}
use Rattle.std.specs.Option.{option_map, option_map_or}
use Rattle.std.proofs.lemmas.Bool.{false≢true}
use Rattle.std.proofs.lemmas.Option.{none-some, same_Some}
use Rattle.xk_base.specs.declared.ids.Number.{Number}
use Rattle.xk_base.specs.declared.ids.Pid.{Pid}
use Rattle.xk_base.specs.declared.ids.Serial.{Serial}
use Rattle.xk_base.specs.declared.ids.ThreadId.{ThreadId}
use Rattle.xk_base.specs.declared.messages.Message.{Message}
use Rattle.machine_model.specs.Messaging.Receivers.{receiving_at}
use Rattle.machine_model.specs.Runs.Matched.{Matched, is_living, is_waiting_for}
use Rattle.machine_model.specs.Runs.Moments.{ByIrq, ByKill, ByPick, ByStep, ByTurn, IsRun, caused, state_at}
use Rattle.machine_model.specs.State.Machine.{Machine, Thread}
use Rattle.machine_model.specs.State.Order.{actor, is_ready}
use Rattle.machine_model.specs.Stepping.Acts.{call_by, does_instruction}
use Rattle.machine_model.specs.Stepping.Step.{step}
use Rattle.machine_model.proofs.StepLemmas.{no_step}
use Rattle.machine_laws.proofs.Stepping.EveryStepLemmas.{every_cause_keeps}
use Rattle.machine_laws.proofs.Threading.ThreadStepLemmas.{actor_ready}
use Rattle.noninterference_laws.specs.Causes.{LeavesAll, StepKeepsOthers, by_step, is_of_claimant}
use Rattle.noninterference_laws.specs.Claimant.{KeepsThread}
use Rattle.noninterference_laws.specs.Fates.{IsBrought, MadeCall, ThreadFate}
use Rattle.noninterference_laws.specs.KeptOthers.{KeepsOthers}
use Rattle.noninterference_laws.proofs.ClaimantLemmas.{kills_keep_claimants, steps_keep_threads}
use Rattle.noninterference_laws.proofs.StepLemmas.{all_keep}
use Rattle.lifetime_laws.specs.Waiting.{DeadlockStays, DeadlocksLast, IsAskedInside, StepLeavesInside, StillWait, WaitForOneAnother}
use Rattle.lifetime_laws.proofs.Deadlocks.AskedLemmas.{asked_still}
use Rattle.lifetime_laws.proofs.Deadlocks.AnswerLemmas.{not_started, thread_stays}

-- ---- they wait still

module _ (set : Pid → Bool) (m after : Machine) (waits : WaitForOneAnother set m)
    (same : (id : ThreadId) → set id.pid ≡ true → after.threads id ≡ m.threads id) where
  still : ((id : ThreadId) (number : Number) → set id.pid ≡ true → IsAskedInside set m id number → IsAskedInside set after id number)
      → StillWait set m after
  still asked = record {
    threads = same;
    waits = record {
      none_ready = λ id inside.
          ap (λ (o : Option Thread). option_map_or (λ t. is_ready t.state) o false) (same id inside) ∙ waits.none_ready id inside;
      answers = λ id number inside now.
          asked id number inside
          (waits.answers id number inside
          (ap (λ (o : Option Thread). option_map_or (λ t. is_waiting_for number t.state) o false) (sym (same id inside)) ∙ now));
    };
  }

itself : (set : Pid → Bool) (m : Machine) → WaitForOneAnother set m → StillWait set m m
itself set m waits = record { threads = λ id inside. refl; waits = waits }

-- the servers are as they were
asked_there : (set : Pid → Bool) (m after : Machine) → after.servers ≡ m.servers → (id : ThreadId) (number : Number)
    → IsAskedInside set m id number → IsAskedInside set after id number
asked_there set m after same id number asked = record {
  n = asked.n;
  server = asked.server;
  live = ap (λ f. f asked.n) same ∙ asked.live;
  inside = asked.inside;
  has = asked.has;
}

-- ---- where nobody does anything but threads that are started

all_left : (set : Pid → Bool) (started : ThreadId → Bool) (m after : Machine) → WaitForOneAnother set m
    → ((id : ThreadId) → set id.pid ≡ true → started id ≡ false) → LeavesAll started m after → StillWait set m after
all_left set started m after waits none leaves =
    still set m after waits (λ id inside. leaves.threads id (none id inside))
    (λ id number inside. asked_there set m after leaves.servers id number)

-- ---- by a process outside

module _ (set : Pid → Bool) (m after : Machine) (h : Matched m) (waits : WaitForOneAnother set m) (by : Pid) (outside : set by ≡ false) where
  pub apart : (pid : Pid) → set pid ≡ true → pid ≢ by
  apart pid inside same = false≢true (sym outside ∙ (ap set (sym same) ∙ inside))

  kept_left : (call : Option MadeCall)
      → ((id : ThreadId) → set id.pid ≡ true → (made : MadeCall) (serial : Serial) (message : Message) → call ≡ Some made
      → IsBrought m made serial message → receiving_at m serial id ≡ true → ⊥)
      → ((id : ThreadId) → set id.pid ≡ true
      → ThreadFate (record { pid = by; call = call; before = m }) after.servers id (after.threads id))
      → KeepsOthers (record { pid = by; call = call; before = m }) after → StillWait set m after
  kept_left call unsent fates keeps =
      still set m after waits
      (λ id inside. thread_stays set m h waits id inside by outside call (unsent id inside) after.servers (after.threads id) (fates id inside))
      (λ id number inside asked. asked_still set m by outside call after id inside number (is_living after by) asked (keeps.servers asked.n))

-- ---- each cause

-- who does the next step is of a process outside
actor_outside : (set : Pid → Bool) (m : Machine) → WaitForOneAnother set m → (who : ThreadId) → actor m ≡ Some who → set who.pid ≡ false
actor_outside set m waits who acts = go (set who.pid) refl
  where
    go : (b : Bool) → set who.pid ≡ b → b ≡ false
    go true inside = absurd (false≢true (sym (waits.none_ready who inside) ∙ actor_ready m who acts))
    go false e = refl

module _ (m : Machine) (set : Pid → Bool) (h : Matched m) (waits : WaitForOneAnother set m) (left : StepLeavesInside set m) where
  thread_kept : (who : ThreadId) → actor m ≡ Some who → (id : ThreadId) → set id.pid ≡ true → KeepsThread who m id (step m).machine
  thread_kept who acts id inside =
      steps_keep_threads m h who id acts
      (apart set m (step m).machine h waits who.pid (actor_outside set m waits who acts) id.pid inside) (left.untimed id inside)

  nothing_sent : (who : ThreadId) → actor m ≡ Some who → (o : Option (List ℕ)) → call_by m who ≡ o → (id : ThreadId) → set id.pid ≡ true
      → (made : MadeCall) (serial : Serial) (message : Message) → option_map (λ words. record { who = who; words = words }) o ≡ Some made
      → IsBrought m made serial message → receiving_at m serial id ≡ true → ⊥
  nothing_sent who acts None calls id inside made serial message is brought receives = none-some made is
  nothing_sent who acts (Some words) calls id inside made serial message is brought receives =
      let same : record { who = who; words = words } ≡ made = same_Some (record { who = who; words = words }) made is in
      left.unsent (record {
        made = record { who = who; words = words };
        acts = acts;
        calls = calls;
        serial = serial;
        message = message;
        brought = subst (λ (x : MadeCall). IsBrought m x serial message) (sym same) brought;
        receiver = id;
        inside = inside;
        receives = receives;
      })

  step_left : StillWait set m (step m).machine
  step_left = go (actor m) refl
    where
      of_kind : (who : ThreadId) → actor m ≡ Some who → (b : Bool) → does_instruction m who ≡ b → StepKeepsOthers who m (step m).machine
          → StillWait set m (step m).machine
      of_kind who acts true e keeps =
          still set m (step m).machine waits (λ id inside. (thread_kept who acts id inside).instruction e)
          (λ id number inside. asked_there set m (step m).machine (keeps.instruction e).servers id number)
      of_kind who acts false e keeps =
          kept_left set m (step m).machine h waits who.pid (actor_outside set m waits who acts) (by_step who m).call
          (nothing_sent who acts (call_by m who) refl) (λ id inside. (thread_kept who acts id inside).other e) (keeps.other e)

      go : (o : Option ThreadId) → actor m ≡ o → StillWait set m (step m).machine
      go None e = rw (no_step m e) (itself set m waits)
      go (Some who) e = of_kind who e (does_instruction m who) refl (all_keep ByStep m h who e)

pub deadlock_stays : DeadlockStays
deadlock_stays ByStep m set h waits left = step_left m set h waits left
deadlock_stays (ByPick who) m set h waits left =
    all_left set (λ id. false) m (caused (ByPick who) m) waits (λ id inside. refl) (all_keep (ByPick who) m h)
deadlock_stays (ByIrq k) m set h waits left =
    all_left set (is_of_claimant k m) m (caused (ByIrq k) m) waits (not_started set m k left) (all_keep (ByIrq k) m h)
deadlock_stays (ByKill pid) m set h waits left =
    kept_left set m (caused (ByKill pid) m) h waits pid left None (λ id inside made serial message is brought receives. none-some made is)
    (λ id inside. (kills_keep_claimants pid m h).threads id (apart set m (caused (ByKill pid) m) h waits pid left id.pid inside))
    (all_keep (ByKill pid) m h)
deadlock_stays ByTurn m set h waits left =
    all_left set (λ id. false) m (caused ByTurn m) waits (λ id inside. refl) (all_keep ByTurn m h)

-- ---- runs

pub deadlocks_last : DeadlocksLast
unfolding IsRun state_at
deadlocks_last start moments set h waits run left zero = itself set start waits
deadlocks_last start [] set h waits run left (suc i) = itself set start waits
deadlocks_last start (moment ∷ moments) set h waits run left (suc i) =
    let first : StillWait set start moment.machine =
    subst (λ (x : Machine). StillWait set start x) (sym run.0) (deadlock_stays moment.cause start set h waits (left 0 moment refl)) in
    let rest : StillWait set moment.machine (state_at moment.machine moments i) =
    deadlocks_last moment.machine moments set (subst Matched (sym run.0) (every_cause_keeps moment.cause start h)) first.waits run.1
    (λ j found there. left (suc j) found there) i in
    record { threads = λ id inside. rest.threads id inside ∙ first.threads id inside; waits = rest.waits }

-- The threads of a process that dies, taken as answered where what they wait for goes: they go with it, so that the answer makes no
-- difference, and meanwhile none of them waits in vain.
use Rattle.std.proofs.Common.{[], ◌≡◌, ℕ, Bool, true, false, List, Option, Some, None, refl, ap, ◌∙◌}
use Rattle.std.specs.Prelude.{◌==◌, if◌then◌else◌, is_some}
use Rattle.std.specs.Option.{option_map_or}
use Rattle.std.proofs.lemmas.Bool.{eqb-true, false≢true}
use Rattle.xk_base.specs.declared.ids.Number.{Number}
use Rattle.xk_base.specs.declared.ids.Pid.{Pid}
use Rattle.xk_base.specs.declared.ids.Serial.{Serial}
use Rattle.xk_base.specs.declared.ids.ThreadId.{ThreadId}
use Rattle.machine_model.specs.Runs.Matched.{is_waiting_for, waits_for}
use Rattle.machine_model.specs.State.Machine.{Thread, ThreadState, Ready, Receiving, Waiting, Joining, Idle}
use Rattle.machine_model.specs.State.Threads.{Answers}

abbrev stops_state : (Number → Bool) → (ℕ → Bool) → ThreadState → Bool
stops_state gone which Ready = false
stops_state gone which (Receiving serial) = which serial.0
stops_state gone which (Waiting number) = gone number
stops_state gone which (Joining tid) = false
stops_state gone which Idle = false

abbrev pub stops : (Number → Bool) → (ℕ → Bool) → Option Thread → Bool
stops gone which o = option_map_or (λ x. stops_state gone which x.state) o false

abbrev pub stopped_or : Pid → (Number → Bool) → (ℕ → Bool) → (ThreadId → Option Thread) → Answers → Answers
stopped_or pid gone which t others id = if id.pid.0 == pid.0 then (if stops gone which (t id) then Some [] else None) else others id

stop_some : (b : Bool) → is_some {T = List ℕ} (if b then Some [] else None) ≡ b
stop_some true = refl
stop_some false = refl

stops_waiting : (gone : Number → Bool) (which : ℕ → Bool) (number : Number) (s : ThreadState) → is_waiting_for number s ≡ true
    → stops_state gone which s ≡ gone number
stops_waiting gone which number Ready e = absurd (false≢true e)
stops_waiting gone which number (Receiving serial) e = absurd (false≢true e)
stops_waiting gone which number (Waiting other) e = let same : other.0 ≡ number.0 = eqb-true other.0 number.0 e in ap gone (λ i. record { 0 = same i })
stops_waiting gone which number (Joining tid) e = absurd (false≢true e)
stops_waiting gone which number Idle e = absurd (false≢true e)

stops_at : (gone : Number → Bool) (which : ℕ → Bool) (number : Number) (o : Option Thread)
    → option_map_or (λ x. is_waiting_for number x.state) o false ≡ true → stops gone which o ≡ gone number
stops_at gone which number None e = absurd (false≢true e)
stops_at gone which number (Some x) e = stops_waiting gone which number x.state e

-- of a process's threads and others
module _ (pid : Pid) (gone : Number → Bool) (which : ℕ → Bool) (t : ThreadId → Option Thread) (others : Answers) where
  pub own_waits : (id : ThreadId) (number : Number) → (id.pid.0 == pid.0) ≡ true → waits_for t id number ≡ true
      → is_some (stopped_or pid gone which t others id) ≡ gone number
  own_waits id number own w =
      ap (λ b. is_some (if b then (if stops gone which (t id) then Some [] else None) else others id)) own
      ∙ stop_some (stops gone which (t id)) ∙ stops_at gone which number (t id) w

  pub own_receives : (id : ThreadId) (x : Thread) (serial : Serial) → (id.pid.0 == pid.0) ≡ true → t id ≡ Some x → x.state ≡ Receiving serial
      → is_some (stopped_or pid gone which t others id) ≡ which serial.0
  own_receives id x serial own there s =
      ap (λ b. is_some (if b then (if stops gone which (t id) then Some [] else None) else others id)) own
      ∙ stop_some (stops gone which (t id)) ∙ ap (stops gone which) there ∙ ap (stops_state gone which) s

  pub other_answer : (id : ThreadId) → (id.pid.0 == pid.0) ≡ false → stopped_or pid gone which t others id ≡ others id
  other_answer id own = ap (λ b. if b then (if stops gone which (t id) then Some [] else None) else others id) own

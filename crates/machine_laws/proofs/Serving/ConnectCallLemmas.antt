-- The steps of Connect and TryConnect keep the machine matched, served, retried or refused.
use Rattle.std.proofs.Common.{◌≡◌, ℕ, ◌<◌, Bool, true, false, List, ◌∷◌, Option, Some, None, refl, sym, arith}
use Rattle.std.specs.Prelude.{is_none, not, unwrap_or}
use Rattle.std.specs.Option.{option_map}
use Rattle.std.proofs.lemmas.Bool.{false≢true}
use Rattle.xk_base.specs.declared.errors.XousError.TheVariants.{InvalidLimit, ServerNotFound}
use Rattle.xk_base.specs.declared.ids.Sid.{Sid}
use Rattle.syscall_codec.specs.CallNumbers.{connect, try_connect}
use Rattle.xk_base.specs.Tables.Connections.{cid_for, has_room}
use Rattle.xk_base.specs.Tables.Counting.{least_below}
use Rattle.syscall_codec.specs.ReplyWords.{connection_words}
use Rattle.xk_base.proofs.CountingLemmas.{least_below-bound}
use Rattle.machine_model.specs.Calling.ServerCalls.{connect_call, connect_refusals, connect_served, is_missing, named_server, named_sid, try_connect_call}
use Rattle.machine_model.specs.State.Changes.{Outcome, Served, unless_refused, unless_retried}
use Rattle.machine_model.specs.State.Connections.{connect_caller, own_connections}
use Rattle.machine_model.specs.State.Machine.{Machine}
use Rattle.machine_model.specs.State.Order.{ready_at}
use Rattle.xk_base.specs.Tables.Sids.{serial_of, is_sid}
use Rattle.machine_model.specs.State.Servers.{with_sid}
use Rattle.machine_model.specs.Runs.Matched.{Matched}
use Rattle.machine_laws.proofs.Calling.AnsweredCallLemmas.{Keeps, retried_keeps}
use Rattle.machine_laws.proofs.Calling.CallStepLemmas.{of_call}
use Rattle.machine_laws.proofs.Serving.ConnectionLemmas.{caller_connected}
use Rattle.machine_laws.proofs.Calling.RunRefusalLemmas.{not_false}
use Rattle.machine_laws.proofs.Calling.ThreadCallLemmas.{answered_keeps, one_passed, two_passed, unless_refused_keeps}
use Rattle.machine_laws.proofs.Calling.CallRowLemmas.{KeepsNumber}
use Rattle.machine_laws.proofs.Threading.ThreadAnswerLemmas.{ready_lives}

-- a server that is found by its identifier has a serial below the next
found_low : (m : Machine) (sid : Sid) → is_missing m sid ≡ false → (named_server m sid).0 < m.next_serial
unfolding with_sid
found_low m sid there = go (least_below m.next_serial (λ n. is_sid sid (option_map (λ s. s.sid) (m.servers n)))) refl there
  where
    go : (o : Option ℕ) → least_below m.next_serial (λ n. is_sid sid (option_map (λ s. s.sid) (m.servers n))) ≡ o → is_none (option_map serial_of o) ≡ false
        → (unwrap_or (option_map serial_of o) (serial_of 0)).0 < m.next_serial
    go None q r = absurd (false≢true (sym r))
    go (Some n) q r = least_below-bound m.next_serial (λ k. is_sid sid (option_map (λ s. s.sid) (m.servers k))) n q

-- what follows where the test doesn't hold
pub unless_retried_keeps : (m : Machine) → Matched m → (test : Bool) (outcome : Outcome) → (test ≡ false → Keeps m outcome)
    → Keeps m (unless_retried test outcome)
unless_retried_keeps m h true outcome keep = retried_keeps m h
unless_retried_keeps m h false outcome keep = keep refl

module _ (m : Machine) (w : List ℕ) (h : Matched m) (ready : ready_at m m.cursor ≡ true) where
  abbrev sid : Sid
  sid = named_sid w

  served_keeps : is_missing m sid ≡ false → not (has_room (named_server m sid) (own_connections m)) ≡ false → Keeps m (Served (connect_served m sid))
  served_keeps there room =
      answered_keeps m (connect_caller (named_server m sid) m) (connection_words (cid_for (named_server m sid) (own_connections m)))
      (caller_connected m h (ready_lives m h m.cursor ready) (named_server m sid)
      (record { low = found_low m sid there; room = not_false (has_room (named_server m sid) (own_connections m)) room }))
      ready (omega arith)

  pub connect_keeps : Keeps m (connect_call m w)
  unfolding connect_call
  connect_keeps =
      unless_retried_keeps m h (is_missing m sid) (unless_refused (connect_refusals m sid) (Served (connect_served m sid)))
      (λ there. unless_refused_keeps m h (connect_refusals m sid) (Served (connect_served m sid))
      (λ none. served_keeps there (one_passed (not (has_room (named_server m sid) (own_connections m))) InvalidLimit none)))

  pub try_connect_keeps : Keeps m (try_connect_call m w)
  unfolding try_connect_call
  try_connect_keeps =
      unless_refused_keeps m h ((is_missing m sid, ServerNotFound) ∷ connect_refusals m sid) (Served (connect_served m sid))
      (λ none. let passed : (is_missing m sid ≡ false) × (not (has_room (named_server m sid) (own_connections m)) ≡ false) =
      two_passed (is_missing m sid) (not (has_room (named_server m sid) (own_connections m))) ServerNotFound InvalidLimit none in
      served_keeps passed.0 passed.1)

pub connect_number_keeps : KeepsNumber connect
connect_number_keeps = of_call 17 connect_call (λ m w. refl) connect_keeps

pub try_connect_number_keeps : KeepsNumber try_connect
try_connect_number_keeps = of_call 25 try_connect_call (λ m w. refl) try_connect_keeps

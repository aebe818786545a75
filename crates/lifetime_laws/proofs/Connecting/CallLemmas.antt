-- What a call does to connections: those that make one make it for the caller's process alone, and any other makes none.
use Rattle.std.proofs.Common.{◌≡◌, ◌⊎◌, ℕ, ◌+◌, Bool, true, false, List, [], ◌∷◌, ◌++◌, Option, Some, None, is_none, is_some, refl, sym, ap, ◌∙◌, inl, inr, subst}
use Rattle.std.specs.Prelude.{◌-◌, ◌==◌, ◌||◌, if◌then◌else◌, nat_eq, unwrap_or}
use Rattle.std.proofs.lemmas.Bool.{eqb-true, false≢true}
use Rattle.std.proofs.lemmas.List.Folds.{list_any-append}
use Rattle.xk_base.specs.declared.errors.XousError.{XousError}
use Rattle.xk_base.specs.declared.errors.XousError.TheVariants.{ServerNotFound}
use Rattle.xk_base.specs.declared.ids.Pid.{Pid}
use Rattle.xk_base.specs.declared.ids.Serial.{Serial}
use Rattle.xk_base.specs.declared.ids.ThreadId.{ThreadId}
use Rattle.syscall_codec.specs.CallNumbers.{connect, create_server_with_address, try_connect}
use Rattle.syscall_codec.specs.CallWords.{call_number, heap_bytes}
use Rattle.xk_base.specs.Tables.Connections.{cid_to, connected}
use Rattle.xk_base.specs.Tables.Counting.{put_at}
use Rattle.machine_model.specs.Calling.Calls.{call}
use Rattle.machine_model.specs.Calling.MemoryCalls.{heap_of}
use Rattle.machine_model.specs.Calling.ServerCalls.{connect_refusals, is_missing, named_server, named_sid, new_serial}
use Rattle.machine_model.specs.Ending.Closing.{closed, senders_held_gone, senders_queued_gone, servers_closed}
use Rattle.machine_model.specs.Ending.Ends.{dead_process, death, forgotten}
use Rattle.machine_model.specs.Runs.Moments.{ByStep, Moment, moment_of}
use Rattle.machine_model.specs.State.Changes.{Change, Outcome, Refused, Retried, Served, call_settled}
use Rattle.machine_model.specs.State.Machine.{Machine, Process}
use Rattle.machine_model.specs.State.Order.{turn}
use Rattle.machine_model.specs.State.Servers.{with_sid}
use Rattle.machine_model.specs.Stepping.Acts.{is_call_served, is_served}
use Rattle.machine_model.specs.Stepping.Step.{step}
use Rattle.machine_laws.proofs.Threading.ThreadStepLemmas.{turned_to}
use Rattle.call_effects.specs.Footprints.{ProcessesPart, names}
use Rattle.call_effects.specs.Rows.ServerRows.{connect_row, create_server_row, try_connect_row}
use Rattle.call_effects.proofs.PartLemmas.{OfChanging, of_parts}
use Rattle.machine_model.proofs.Calling.TableLemmas.{◌also◌}
use Rattle.call_effects.proofs.ServedLemmas.{OfPlan, OfServed, done}
use Rattle.confidentiality_laws.proofs.Keeping.CallLemmas.{none_hold}
use Rattle.loan_laws.proofs.Fates.LikeLemmas.{IsLike, call_like, served_like}
use Rattle.loan_laws.proofs.Fates.ServedFateLemmas.{IsCaller, served_call}
use Rattle.lifetime_laws.specs.Connecting.{ConnectsByOwnCalls, Connects, Creates, IsConnecting, leads_to}

-- ---- processes without a new connection

-- a process has no connection that it hadn't before
abbrev pub HasOnlyOld : (ℕ → Process) → (ℕ → Process) → Type 0
HasOnlyOld before after =
    (pid : Pid) (serial : Serial) → leads_to serial (after pid.0).connections ≡ true → leads_to serial (before pid.0).connections ≡ true

pub same_old : (before after : ℕ → Process) → after ≡ before → HasOnlyOld before after
same_old before after same pid serial e =
    ap (λ (all : ℕ → Process). leads_to serial (all pid.0).connections) (sym same) ∙ e

-- the process of one pid is another, with no other connections
pub put_old : (before after : ℕ → Process) (x : ℕ) (process : Process)
    → ((serial : Serial) → leads_to serial process.connections ≡ true → leads_to serial (before x).connections ≡ true)
    → after ≡ put_at nat_eq before x process → HasOnlyOld before after
put_old before after x process old same pid serial e =
    go (nat_eq pid.0 x) refl (sym (ap (λ (all : ℕ → Process). leads_to serial (all pid.0).connections) same) ∙ e)
  where
    go : (b : Bool) → nat_eq pid.0 x ≡ b → leads_to serial (if b then process else before pid.0).connections ≡ true
        → leads_to serial (before pid.0).connections ≡ true
    go true q r = ap (λ k. leads_to serial (before k).connections) (eqb-true pid.0 x q) ∙ old serial r
    go false q r = r

-- one that dies has none
pub dead_old : (before after : ℕ → Process) (x : ℕ) → after ≡ put_at nat_eq before x dead_process → HasOnlyOld before after
dead_old before after x same = put_old before after x dead_process (λ serial e. absurd (false≢true e)) same

pub old_connects : (m : Machine) (moment : Moment) → HasOnlyOld m.process moment.machine.process → ConnectsByOwnCalls m moment
old_connects m moment old pid serial none some = absurd (false≢true (sym none ∙ old pid serial some))

-- ---- a connection more

same_serial : (a b : Serial) → a.0 ≡ b.0 → a ≡ b
same_serial a b e = λ i. record { 0 = e i }

-- what a list with a connection more leads to and the list doesn't is what it was made to
new_leads : (made serial : Serial) (connections : List Serial) → leads_to serial (connected made connections) ≡ true
    → leads_to serial connections ≡ false → serial ≡ made
new_leads made serial connections some none = go (is_some (cid_to made connections)) some
  where
    last : leads_to serial (connections ++ made ∷ []) ≡ true → (b : Bool) → (made.0 == serial.0) ≡ b → serial ≡ made
    last e true f = sym (same_serial made serial (eqb-true made.0 serial.0 f))
    last e false f =
        absurd (false≢true (sym (list_any-append (λ s. s.0 == serial.0) connections (made ∷ [])
        ∙ (ap (λ b. b || ((made.0 == serial.0) || false)) none ∙ ap (λ b. b || false) f)) ∙ e))

    go : (b : Bool) → leads_to serial (if b then connections else connections ++ made ∷ []) ≡ true → serial ≡ made
    go true e = absurd (false≢true (sym none ∙ e))
    go false e = last e (made.0 == serial.0) refl

module _ (m : Machine) (who : ThreadId) (w : List ℕ) (calls : IsCaller m who w) where
  abbrev here : Machine
  here = turned_to who m

  abbrev stepped : Machine → Moment
  stepped n = record { cause = ByStep; machine = n }

  -- the processes are connected so, where the call is served with this change
  abbrev LawOf : Change → Type 0
  LawOf change = (n : Machine) → n.process ≡ change.machine.process → is_call_served m who w ≡ true → ConnectsByOwnCalls m (stepped n)

  abbrev with_connection : Serial → Process
  with_connection made = record (m.process who.pid.0) { connections = connected made (m.process who.pid.0).connections }

  -- the caller's process gets a connection
  made_connects : (made : Serial) (n : Machine) → n.process ≡ put_at nat_eq m.process who.pid.0 (with_connection made)
      → ((pid : Pid) → who.pid ≡ pid → IsConnecting pid made m (stepped n)) → ConnectsByOwnCalls m (stepped n)
  made_connects made n is by pid serial none some =
      go (nat_eq pid.0 who.pid.0) refl (sym (ap (λ (all : ℕ → Process). leads_to serial (all pid.0).connections) is) ∙ some)
    where
      go : (b : Bool) → nat_eq pid.0 who.pid.0 ≡ b → leads_to serial (if b then with_connection made else m.process pid.0).connections ≡ true
          → IsConnecting pid serial m (stepped n)
      go true e f =
          let same : pid.0 ≡ who.pid.0 = eqb-true pid.0 who.pid.0 e in
          let new : serial ≡ made =
          new_leads made serial (m.process who.pid.0).connections f (ap (λ k. leads_to serial (m.process k).connections) (sym same) ∙ none) in
          subst (λ s. IsConnecting pid s m (stepped n)) (sym new) (by pid (λ i. record { 0 = sym same i }))
      go false e f = absurd (false≢true (sym none ∙ f))

  -- the server that a Connect or TryConnect names
  named : (o : Option Serial) → with_sid here (named_sid w) ≡ o → is_none o ≡ false → with_sid m (named_sid w) ≡ Some (unwrap_or o (record { 0 = 0 }))
  unfolding with_sid
  named None e f = absurd (false≢true (sym f))
  named (Some serial) e f = e

  connecting : (call_number w ≡ connect) ⊎ (call_number w ≡ try_connect) → is_missing here (named_sid w) ≡ false → (n : Machine)
      → n.process ≡ put_at nat_eq m.process who.pid.0 (with_connection (named_server here (named_sid w))) → is_call_served m who w ≡ true
      → ConnectsByOwnCalls m (stepped n)
  connecting number there n is accepted =
      made_connects (named_server here (named_sid w)) n is
      (λ pid own. Connects w (served_call m who w n pid calls accepted own) number (named (with_sid here (named_sid w)) refl there))

  create_connects : call_number w ≡ create_server_with_address → OfPlan (λ plan. LawOf (done here plan)) (create_server_row here w)
  create_connects number = λ none n is accepted.
      made_connects (new_serial here) n is (λ pid own. Creates w (served_call m who w n pid calls accepted own) number refl)

  connect_connects : call_number w ≡ connect → OfPlan (λ plan. LawOf (done here plan)) (connect_row here w)
  connect_connects number = λ there none n is accepted. connecting (inl number) there n is accepted

  try_connect_connects : call_number w ≡ try_connect → OfPlan (λ plan. LawOf (done here plan)) (try_connect_row here w)
  try_connect_connects number = λ none n is accepted.
      connecting (inr number) (none_hold ((is_missing here (named_sid w), ServerNotFound) ∷ connect_refusals here (named_sid w)) none).0 n is accepted

  -- ---- the calls that can change a process

  each : OfChanging (λ parts. names parts ProcessesPart) LawOf here w
  unfolding death servers_closed closed senders_queued_gone senders_held_gone forgotten
  each =
      (λ e none n is accepted.
      old_connects m (stepped n)
      (put_old m.process n.process who.pid.0 (record (m.process who.pid.0) { heap = heap_of here + heap_bytes w }) (λ serial f. f) is))
      also (λ e none n is accepted.
      old_connects m (stepped n)
      (put_old m.process n.process who.pid.0 (record (m.process who.pid.0) { heap = heap_of here - heap_bytes w }) (λ serial f. f) is))
      also create_connects
      also connect_connects
      also (λ e n is accepted. old_connects m (stepped n) (dead_old m.process n.process who.pid.0 is))
      also try_connect_connects
      also tt

  served_connects : OfServed LawOf (call here w)
  served_connects =
      of_parts (λ parts. names parts ProcessesPart) LawOf here w each
      (λ change rest untouched n is accepted. old_connects m (stepped n) (same_old m.process n.process (is ∙ rest.process untouched)))

  refused_same : (error : XousError) → (call_settled here (Refused error)).machine.process ≡ m.process
  unfolding call_settled
  refused_same error = refl

  retried_same : (call_settled here Retried).machine.process ≡ m.process
  unfolding call_settled turn
  retried_same = refl

  of_outcome : (outcome : Outcome) → call here w ≡ outcome → OfServed LawOf outcome → IsLike (step m).machine (call_settled here outcome).machine
      → ConnectsByOwnCalls m (moment_of ByStep m)
  of_outcome (Refused error) e of like =
      old_connects m (moment_of ByStep m) (same_old m.process (step m).machine.process (like.process ∙ refused_same error))
  of_outcome Retried e of like = old_connects m (moment_of ByStep m) (same_old m.process (step m).machine.process (like.process ∙ retried_same))
  of_outcome (Served change) e of like = of (step m).machine (like.process ∙ (served_like here change).process) accepted
    where
      accepted : is_call_served m who w ≡ true
      accepted = unfold is_call_served in ap is_served e

  pub call_connects : ConnectsByOwnCalls m (moment_of ByStep m)
  call_connects = of_outcome (call here w) refl served_connects (call_like m who w calls.acts calls.call)

-- A call leaves the processes and the claims of others.
use Rattle.std.proofs.Common.{◌≡◌, ◌≢◌, ℕ, ◌+◌, Bool, true, false, List, Option, Some, None, refl, sym, ap, ◌∙◌}
use Rattle.std.specs.Prelude.{◌&&◌, not, ◌↔◌, ◌-◌, is_some, nat_eq, if◌then◌else◌}
use Rattle.std.proofs.lemmas.Bool.{eqb-true, false≢true}
use Rattle.std.proofs.lemmas.Option.{none-some, same_Some}
use Rattle.xk_base.specs.declared.ids.Pid.{Pid}
use Rattle.xk_base.specs.declared.ids.Serial.{Serial}
use Rattle.xk_base.specs.declared.ids.ThreadId.{ThreadId}
use Rattle.syscall_codec.specs.CallWords.{heap_bytes, interrupt_argument, interrupt_handler, interrupt_number}
use Rattle.xk_base.specs.Tables.Connections.{connected}
use Rattle.xk_base.specs.Tables.Counting.{put_at}
use Rattle.machine_model.specs.Calling.Calls.{call}
use Rattle.machine_model.specs.Calling.InterruptCalls.{claim_refusals, free_refusals}
use Rattle.machine_model.specs.Calling.MemoryCalls.{heap_of}
use Rattle.machine_model.specs.Calling.ServerCalls.{named_server, named_sid, new_serial}
use Rattle.machine_model.specs.Ending.Closing.{closed, senders_held_gone, senders_queued_gone}
use Rattle.machine_model.specs.Ending.Ends.{dead_process, forgotten}
use Rattle.machine_model.specs.State.Connections.{own_connections}
use Rattle.machine_model.specs.State.Machine.{Claim, Machine, Process}
use Rattle.machine_model.specs.Stepping.Interrupts.{is_claim_of}
use Rattle.machine_laws.proofs.Calling.RunRefusalLemmas.{not_false}
use Rattle.machine_laws.proofs.Threading.ThreadStepLemmas.{turned_to}
use Rattle.call_effects.specs.Footprints.{ClaimsPart, PendingPart, ProcessesPart, names}
use Rattle.call_effects.proofs.PartLemmas.{OfChanging, of_parts}
use Rattle.machine_model.proofs.Calling.TableLemmas.{◌also◌}
use Rattle.call_effects.proofs.ServedLemmas.{OfServed}
use Rattle.confidentiality_laws.proofs.Keeping.CallLemmas.{none_hold}
use Rattle.noninterference_laws.proofs.OtherLemmas.{apart_pid, same_pid}

module _ (m : Machine) (pid : Pid) where
  -- the other processes are as before
  abbrev pub KeepsProcesses : Machine → Type 0
  KeepsProcesses after = (other : Pid) → other ≢ pid → after.process other.0 ≡ m.process other.0

  pub put_process : (process : Process) (other : Pid) → other ≢ pid → put_at nat_eq m.process pid.0 process other.0 ≡ m.process other.0
  put_process process other apart = ap (λ b. if b then process else m.process other.0) (apart_pid other pid apart)

  -- the claims of others are as before
  abbrev pub KeepsClaims : Machine → Type 0
  KeepsClaims after = (k : ℕ) (claim : Claim) → claim.pid ≢ pid → (after.claims k ≡ Some claim) ↔ (m.claims k ≡ Some claim)

  abbrev IsOwnClaim : Option Claim → Type 0
  IsOwnClaim o = (claim : Claim) → o ≡ Some claim → claim.pid ≡ pid

  claimed_own : (o : Option Claim) → is_claim_of pid o ≡ true → IsOwnClaim o
  claimed_own o e claim f = same_pid claim.pid pid (eqb-true claim.pid.0 pid.0 (sym (ap (is_claim_of pid) f) ∙ e))

  put_claim : (k : ℕ) (new : Option Claim) → IsOwnClaim new → IsOwnClaim (m.claims k) → (j : ℕ) (claim : Claim) → claim.pid ≢ pid
      → (put_at nat_eq m.claims k new j ≡ Some claim) ↔ (m.claims j ≡ Some claim)
  put_claim k new own was j claim other = go (nat_eq j k) refl
    where
      go : (b : Bool) → nat_eq j k ≡ b → ((if b then new else m.claims j) ≡ Some claim) ↔ (m.claims j ≡ Some claim)
      go true e =
          (λ f. absurd (other (own claim f)), λ f. absurd (other (was claim (ap m.claims (sym (eqb-true j k e)) ∙ f))))
      go false e = (λ f. f, λ f. f)

  pub forgotten_claim : (k : ℕ) (claim : Claim) → claim.pid ≢ pid
      → ((if is_claim_of pid (m.claims k) then None else m.claims k) ≡ Some claim) ↔ (m.claims k ≡ Some claim)
  forgotten_claim k claim other = go (is_claim_of pid (m.claims k)) refl
    where
      go : (b : Bool) → is_claim_of pid (m.claims k) ≡ b → ((if b then None else m.claims k) ≡ Some claim) ↔ (m.claims k ≡ Some claim)
      go true e = (λ f. absurd (none-some claim f), λ f. absurd (other (claimed_own (m.claims k) e claim f)))
      go false e = (λ f. f, λ f. f)

  -- the interrupts of others are pending as before
  abbrev pub KeepsPending : Machine → Type 0
  KeepsPending after = (k : ℕ) (claim : Claim) → m.claims k ≡ Some claim → claim.pid ≢ pid → after.pending k ≡ m.pending k

  put_pending : (k : ℕ) (new : Bool) → IsOwnClaim (m.claims k) → (j : ℕ) (claim : Claim) → m.claims j ≡ Some claim → claim.pid ≢ pid
      → put_at nat_eq m.pending k new j ≡ m.pending j
  put_pending k new own j claim there other = go (nat_eq j k) refl
    where
      go : (b : Bool) → nat_eq j k ≡ b → (if b then new else m.pending j) ≡ m.pending j
      go true e = absurd (other (own claim (ap m.claims (sym (eqb-true j k e)) ∙ there)))
      go false e = refl

  pub taken_pending : (k : ℕ) → is_claim_of pid (m.claims k) ≡ true → (j : ℕ) (claim : Claim) → m.claims j ≡ Some claim → claim.pid ≢ pid
      → put_at nat_eq m.pending k false j ≡ m.pending j
  taken_pending k own = put_pending k false (claimed_own (m.claims k) own)

  and_true : (b : Bool) → b && true ≡ b
  and_true true = refl
  and_true false = refl

  pub forgotten_pending : (k : ℕ) (claim : Claim) → m.claims k ≡ Some claim → claim.pid ≢ pid
      → m.pending k && not (is_claim_of pid (m.claims k)) ≡ m.pending k
  forgotten_pending k claim there other =
      ap (λ o. m.pending k && not (is_claim_of pid o)) there
      ∙ (ap (λ b. m.pending k && not b) (apart_pid claim.pid pid other) ∙ and_true (m.pending k))

module _ (m : Machine) (who : ThreadId) (w : List ℕ) where
  abbrev here : Machine
  here = turned_to who m

  -- ---- processes

  with_connection : (serial : Serial) → Process
  with_connection serial = record (m.process who.pid.0) { connections = connected serial (own_connections here) }

  with_heap : ℕ → Process
  with_heap n = record (m.process who.pid.0) { heap = n }

  each_process : OfChanging (λ parts. names parts ProcessesPart) (λ change. KeepsProcesses m who.pid change.machine) here w
  unfolding with_connection with_heap closed senders_queued_gone senders_held_gone forgotten
  each_process =
      (λ e none. put_process m who.pid (with_heap (heap_of here + heap_bytes w)))
      also (λ e none. put_process m who.pid (with_heap (heap_of here - heap_bytes w)))
      also (λ e none. put_process m who.pid (with_connection (new_serial here)))
      also (λ e passed none. put_process m who.pid (with_connection (named_server here (named_sid w))))
      also (λ e. put_process m who.pid dead_process)
      also (λ e none. put_process m who.pid (with_connection (named_server here (named_sid w))))
      also tt

  pub call_processes : OfServed (λ change. KeepsProcesses m who.pid change.machine) (call here w)
  call_processes =
      of_parts (λ parts. names parts ProcessesPart) (λ change. KeepsProcesses m who.pid change.machine) here w each_process
      (λ change rest untouched other apart. ap (λ f. f other.0) (rest.process untouched))

  -- ---- claims

  abbrev number : ℕ
  number = interrupt_number w

  new_claim : Claim
  new_claim = record { pid = who.pid; handler = interrupt_handler w; argument = interrupt_argument w }

  unclaimed : is_some (m.claims number) ≡ false → IsOwnClaim m who.pid (m.claims number)
  unclaimed none claim f = absurd (false≢true (sym none ∙ ap is_some f))

  each_claim : OfChanging (λ parts. names parts ClaimsPart) (λ change. KeepsClaims m who.pid change.machine) here w
  unfolding new_claim closed senders_queued_gone senders_held_gone forgotten
  each_claim =
      (λ e none.
      put_claim m who.pid number (Some new_claim) (λ claim f. ap (λ (x : Claim). x.pid) (sym (same_Some new_claim claim f)))
      (unclaimed (none_hold (claim_refusals here number (interrupt_handler w)) none).1.1.0))
      also (λ e none.
      put_claim m who.pid number None (λ claim f. absurd (none-some claim f))
      (claimed_own m who.pid (m.claims number) (not_false (is_claim_of who.pid (m.claims number)) (none_hold (free_refusals here number) none).0)))
      also (λ e. forgotten_claim m who.pid)
      also tt

  pub call_claims : OfServed (λ change. KeepsClaims m who.pid change.machine) (call here w)
  call_claims =
      of_parts (λ parts. names parts ClaimsPart) (λ change. KeepsClaims m who.pid change.machine) here w each_claim
      (λ change rest untouched k claim other.
      (λ f. ap (λ all. all k) (sym (rest.claims untouched)) ∙ f, λ f. ap (λ all. all k) (rest.claims untouched) ∙ f))

  -- ---- pending interrupts

  each_pending : OfChanging (λ parts. names parts PendingPart) (λ change. KeepsPending m who.pid change.machine) here w
  unfolding closed senders_queued_gone senders_held_gone forgotten
  each_pending =
      (λ e none.
      taken_pending m who.pid number (not_false (is_claim_of who.pid (m.claims number)) (none_hold (free_refusals here number) none).0))
      also (λ e. forgotten_pending m who.pid)
      also tt

  pub call_pending : OfServed (λ change. KeepsPending m who.pid change.machine) (call here w)
  call_pending =
      of_parts (λ parts. names parts PendingPart) (λ change. KeepsPending m who.pid change.machine) here w each_pending
      (λ change rest untouched k claim there other. ap (λ all. all k) (rest.pending untouched))

-- Calls, deaths and ends of threads leave pending what was pending and stays claimed, and nothing else. They deliver none.
use Rattle.std.proofs.Common.{◌≡◌, ℕ, Bool, true, false, List, Option, Some, None, refl, sym, ap, ◌∙◌}
use Rattle.std.specs.Prelude.{◌&&◌, ◌||◌, not, nat_eq, is_some, if◌then◌else◌}
use Rattle.std.proofs.lemmas.Bool.{or_parts}
use Rattle.xk_base.specs.declared.ids.Pid.{Pid}
use Rattle.xk_base.specs.declared.ids.ThreadId.{ThreadId}
use Rattle.syscall_codec.specs.CallWords.{call_number, interrupt_argument, interrupt_handler, interrupt_number}
use Rattle.xk_base.specs.Tables.Counting.{put_at}
use Rattle.machine_model.specs.Calling.Calls.{call}
use Rattle.machine_model.specs.Ending.Closing.{closed, senders_held_gone, senders_queued_gone, servers_closed}
use Rattle.machine_model.specs.Ending.Ends.{death, end_with_last_thread, forgotten, has_threads, thread_ended}
use Rattle.machine_model.specs.State.Changes.{Change, Outcome, Refused, Retried, Served}
use Rattle.machine_model.specs.State.Machine.{Claim, Machine}
use Rattle.machine_model.specs.State.Threads.{put_thread}
use Rattle.machine_model.specs.Stepping.Interrupts.{is_claim_of}
use Rattle.call_effects.specs.Footprints.{ClaimsPart, Part, PendingPart, footprint, names}
use Rattle.call_effects.proofs.PartLemmas.{OfChanging, of_parts}
use Rattle.machine_model.proofs.Calling.TableLemmas.{◌also◌}
use Rattle.call_effects.proofs.ServedLemmas.{OfServed}
use Rattle.interrupt_laws.proofs.CallQuietLemmas.{call_quiet}
use Rattle.interrupt_laws.proofs.QuietLemmas.{OutcomeQuiet}

-- what is pending is claimed
abbrev pub PendingIsClaimed : Machine → Type 0
PendingIsClaimed m = (k : ℕ) → m.pending k ≡ true → is_some (m.claims k) ≡ true

-- what was pending and is claimed afterwards is pending, and nothing else
abbrev pub KeepsPending : Machine → Machine → Type 0
KeepsPending m n = (k : ℕ) → n.pending k ≡ (m.pending k && is_some (n.claims k))

-- .. and none is delivered
abbrev pub IsKept : Machine → Change → Type 0
IsKept m change = KeepsPending m change.machine × (change.delivery ≡ None)

pub and_true : (b : Bool) → (b && true) ≡ b
and_true true = refl
and_true false = refl

pub and_false : (b : Bool) → (b && false) ≡ false
and_false true = refl
and_false false = refl

module _ (m : Machine) (claimed : PendingIsClaimed m) where
  -- what leaves claims and pending numbers keeps them
  pub as_before : (k : ℕ) → m.pending k ≡ (m.pending k && is_some (m.claims k))
  as_before k = go (m.pending k) (claimed k)
    where
      go : (b : Bool) → (b ≡ true → is_some (m.claims k) ≡ true) → b ≡ (b && is_some (m.claims k))
      go true h = sym (h refl)
      go false h = refl

  claimed_kept : (n : ℕ) (claim : Claim) (k : ℕ) → m.pending k ≡ (m.pending k && is_some (put_at nat_eq m.claims n (Some claim) k))
  claimed_kept n claim k = go (nat_eq k n)
    where
      go : (b : Bool) → m.pending k ≡ (m.pending k && is_some (if b then Some claim else m.claims k))
      go true = sym (and_true (m.pending k))
      go false = as_before k

  freed_kept : (n k : ℕ) → put_at nat_eq m.pending n false k ≡ (m.pending k && is_some (put_at nat_eq m.claims n None k))
  freed_kept n k = go (nat_eq k n)
    where
      go : (b : Bool) → (if b then false else m.pending k) ≡ (m.pending k && is_some (if b then None else m.claims k))
      go true = sym (and_false (m.pending k))
      go false = as_before k

  forgotten_kept : (pid : Pid) (k : ℕ) → (m.pending k && not (is_claim_of pid (m.claims k)))
      ≡ (m.pending k && is_some (if is_claim_of pid (m.claims k) then None else m.claims k))
  forgotten_kept pid k = go (is_claim_of pid (m.claims k))
    where
      go : (b : Bool) → (m.pending k && not b) ≡ (m.pending k && is_some (if b then None else m.claims k))
      go true = refl
      go false = and_true (m.pending k) ∙ as_before k

-- ---- calls

-- the law is about claims and pending numbers
abbrev touches : List Part → Bool
touches parts = names parts ClaimsPart || names parts PendingPart

-- what comes of a served call
abbrev pub OutcomeKept : Machine → Outcome → Type 0
OutcomeKept m outcome = OfServed (IsKept m) outcome

module _ (m : Machine) (claimed : PendingIsClaimed m) (w : List ℕ) where
  abbrev KeptChange : Change → Type 0
  KeptChange change = KeepsPending m change.machine

  -- the calls that can change them
  each : OfChanging touches KeptChange m w
  unfolding closed senders_queued_gone senders_held_gone forgotten
  each =
      (λ e none.
      claimed_kept m claimed (interrupt_number w)
      (record { pid = m.cursor.pid; handler = interrupt_handler w; argument = interrupt_argument w }))
      also (λ e none. freed_kept m claimed (interrupt_number w))
      also (λ e. forgotten_kept m claimed m.cursor.pid)
      also tt

  served_kept : OfServed KeptChange (call m w)
  served_kept =
      of_parts touches KeptChange m w each
      (λ change rest untouched k.
      let parts = or_parts (names (footprint (call_number w)) ClaimsPart) (names (footprint (call_number w)) PendingPart) untouched in
      ap (λ (f : ℕ → Bool). f k) (rest.pending parts.1)
      ∙ (as_before m claimed k ∙ ap (λ (f : ℕ → Option Claim). m.pending k && is_some (f k)) (sym (rest.claims parts.0))))

  pub call_kept : OutcomeKept m (call m w)
  call_kept = go (call m w) served_kept (call_quiet m w)
    where
      go : (outcome : Outcome) → OfServed KeptChange outcome → OutcomeQuiet m outcome → OutcomeKept m outcome
      go (Refused error) kept quiet = tt
      go Retried kept quiet = tt
      go (Served change) kept quiet = (kept, quiet.1)

-- ---- deaths and ends

pub death_kept : (pid : Pid) (m : Machine) → PendingIsClaimed m → IsKept m (death pid m)
unfolding death servers_closed closed senders_queued_gone senders_held_gone forgotten
death_kept pid m claimed = (forgotten_kept m claimed pid, refl)

pub thread_end_kept : (who : ThreadId) (a0 : ℕ) (m : Machine) → PendingIsClaimed m → IsKept m (thread_ended who a0 m)
unfolding thread_ended death servers_closed closed senders_queued_gone senders_held_gone forgotten
thread_end_kept who a0 m claimed = go (has_threads (put_thread who None m) who.pid)
  where
    go : (b : Bool) → IsKept m (end_with_last_thread b who.pid (put_thread who None m))
    go true = (as_before m claimed, refl)
    go false = (forgotten_kept m claimed who.pid, refl)

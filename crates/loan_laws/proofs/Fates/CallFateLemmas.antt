-- The fate of a number in the step of a call, refused, retried or served.
use Rattle.std.proofs.Common.{◌≡◌, ℕ, Bool, true, List, refl, sym, ap, ◌∙◌, arith, subst}
use Rattle.std.specs.Prelude.{◌||◌}
use Rattle.std.proofs.lemmas.Bool.{or_parts}
use Rattle.xk_base.specs.declared.errors.XousError.{XousError}
use Rattle.xk_base.specs.declared.ids.Number.{Number}
use Rattle.xk_base.specs.declared.ids.ThreadId.{ThreadId}
use Rattle.syscall_codec.specs.CallNumbers.{send_message, try_send_message}
use Rattle.syscall_codec.specs.CallWords.{call_number, heap_bytes, map_flags, map_phys, map_size, map_virt, range_address, range_flags}
use Rattle.syscall_codec.specs.CallWords.{range_size}
use Rattle.machine_model.specs.Calling.Calls.{call}
use Rattle.machine_model.specs.Ending.Closing.{closed, servers_closed}
use Rattle.machine_model.specs.Ending.Ends.{death}
use Rattle.machine_model.specs.Runs.LoanSpan.{is_send}
use Rattle.machine_model.specs.Runs.Matched.{Matched}
use Rattle.machine_model.specs.Runs.Moments.{ByStep, moment_of}
use Rattle.machine_model.specs.State.Changes.{Change, Outcome, Refused, Retried, Served, call_settled}
use Rattle.machine_model.specs.State.Machine.{Machine}
use Rattle.machine_model.specs.State.Order.{ready_at, turn}
use Rattle.machine_model.specs.Stepping.Acts.{is_call_served, is_served}
use Rattle.machine_model.specs.Stepping.Step.{step}
use Rattle.machine_model.proofs.Runs.KeptLemmas.{matched_at}
use Rattle.machine_laws.proofs.Threading.ThreadStepLemmas.{actor_ready, turned_to}
use Rattle.call_effects.specs.Footprints.{LedgerPart, NumberPart, Part, footprint, names}
use Rattle.call_effects.specs.Rows.MemoryRows.{decrease_row, increase_row, map_row, unmap_row, update_row}
use Rattle.call_effects.specs.Rows.ThreadRows.{terminate_row}
use Rattle.call_effects.specs.Verdicts.{Verdict}
use Rattle.call_effects.proofs.PartLemmas.{OfChanging, of_parts}
use Rattle.machine_model.proofs.Calling.TableLemmas.{◌also◌}
use Rattle.call_effects.proofs.ServedLemmas.{OfPlan, OfServed, done, of_both}
use Rattle.loan_laws.specs.Fates.{Fate}
use Rattle.loan_laws.specs.Leaving.{Leaves}
use Rattle.loan_laws.proofs.Fates.DeathFateLemmas.{death_fate}
use Rattle.loan_laws.proofs.Fates.DestroyFateLemmas.{destroy_fate}
use Rattle.loan_laws.proofs.Fates.FateLemmas.{fate_left}
use Rattle.loan_laws.proofs.Fates.ForwardFateLemmas.{forward_fate}
use Rattle.loan_laws.proofs.Fates.LikeLemmas.{IsLike, call_like, like_both, served_like}
use Rattle.loan_laws.proofs.Fates.MemoryCallLemmas.{growing_leaves, mapping_leaves, shrinking_leaves, unmapping_leaves, updating_leaves}
use Rattle.loan_laws.proofs.Fates.ReturnFateLemmas.{return_memory_fate}
use Rattle.loan_laws.proofs.Fates.SendFateLemmas.{send_fate, try_send_fate}
use Rattle.loan_laws.proofs.Fates.ServedFateLemmas.{HasServedFate, IsCaller, LeavesAll, leaves_all, leaving_fate}
use Rattle.loan_laws.proofs.Leaving.NumberPageLemmas.{leaves_itself}

-- what is like the state before leaves every number
pub like_fate : (number : Number) (m n : Machine) → Matched m → IsLike n m → Fate number m (record { cause = ByStep; machine = n })
like_fate number m n h like =
    fate_left number m (record { cause = ByStep; machine = n }) h
    (subst (λ l. Leaves number m.ledger l) (sym like.ledger) (leaves_itself number m.ledger))
    (let same : n.next_number ≡ m.next_number = like.number in omega arith)

refused_like : (m : Machine) (who : ThreadId) (error : XousError) → IsLike (call_settled (turned_to who m) (Refused error)).machine m
unfolding call_settled
refused_like m who error = record { ledger = refl; servers = refl; process = refl; number = refl }

retried_like : (m : Machine) (who : ThreadId) → IsLike (call_settled (turned_to who m) Retried).machine m
unfolding call_settled turn
retried_like m who = record { ledger = refl; servers = refl; process = refl; number = refl }

-- the law is about the ledger, and about the next number
abbrev touches_loans : List Part → Bool
touches_loans parts = names parts LedgerPart || names parts NumberPart

module _ (number : Number) (m : Machine) (who : ThreadId) (w : List ℕ) (h : Matched m) (calls : IsCaller m who w) where
  abbrev n : Machine
  n = turned_to who m

  turned : Matched n
  turned = matched_at who m h

  ready : ready_at n n.cursor ≡ true
  ready = actor_ready m who calls.acts

  abbrev FateOf : Change → Type 0
  FateOf change = HasServedFate number m who w change

  leaves : (verdict : Verdict) → OfPlan (λ plan. LeavesAll n (done n plan)) verdict → OfPlan (λ plan. FateOf (done n plan)) verdict
  leaves verdict leaving =
      of_both (λ plan. LeavesAll n (done n plan)) (λ plan. FateOf (done n plan)) (λ plan. leaving_fate number m who w h (done n plan)) verdict leaving

  terminate_fate : OfPlan (λ plan. FateOf (done n plan)) (terminate_row n w)
  unfolding death servers_closed closed
  terminate_fate after like accepted =
      death_fate number m who m.reserved who.pid h turned (record { cause = ByStep; machine = after }) like

  sends : (k : ℕ) → is_send k ≡ true → call_number w ≡ k → is_send (call_number w) ≡ true
  sends k e same = ap is_send same ∙ e

  -- the calls that can change the ledger
  each : OfChanging touches_loans FateOf n w
  each =
      (λ e. leaves (map_row n w) (mapping_leaves n (map_phys w) (map_virt w) (map_size w) (map_flags w)))
      also (λ e. leaves (increase_row n w) (growing_leaves n (heap_bytes w) turned ready))
      also (λ e. leaves (decrease_row n w) (shrinking_leaves n (heap_bytes w)))
      also (λ e. leaves (update_row n w) (updating_leaves n (range_address w) (range_size w) (range_flags w)))
      also (λ e. send_fate number m who w h calls (sends send_message refl e))
      also (λ e. leaves (unmap_row n w) (unmapping_leaves n (range_address w) (range_size w)))
      also (λ e. return_memory_fate number m who w h calls e)
      also (λ e. terminate_fate)
      also (λ e. try_send_fate number m who w h calls (sends try_send_message refl e))
      also (λ e. destroy_fate number m who w h)
      also (λ e. forward_fate number m who w h turned calls e)
      also tt

  served_fate : OfServed FateOf (call n w)
  served_fate =
      of_parts touches_loans FateOf n w each
      (λ change rest untouched.
      let parts = or_parts (names (footprint (call_number w)) LedgerPart) (names (footprint (call_number w)) NumberPart) untouched in
      leaving_fate number m who w h change (leaves_all n change (rest.ledger parts.0) (rest.next_number parts.1)))

  of_outcome : (outcome : Outcome) → call n w ≡ outcome → OfServed (HasServedFate number m who w) outcome
      → IsLike (step m).machine (call_settled n outcome).machine → Fate number m (moment_of ByStep m)
  of_outcome (Refused error) e of like =
      like_fate number m (step m).machine h (like_both (step m).machine (call_settled n (Refused error)).machine m like (refused_like m who error))
  of_outcome Retried e of like =
      like_fate number m (step m).machine h (like_both (step m).machine (call_settled n Retried).machine m like (retried_like m who))
  of_outcome (Served change) e of like =
      of (step m).machine (like_both (step m).machine (call_settled n (Served change)).machine change.machine like (served_like n change)) accepted
    where
      accepted : is_call_served m who w ≡ true
      accepted = unfold is_call_served in ap is_served e

  pub call_fate : Fate number m (moment_of ByStep m)
  call_fate =
      of_outcome (call n w) refl served_fate (call_like m who w calls.acts calls.call)

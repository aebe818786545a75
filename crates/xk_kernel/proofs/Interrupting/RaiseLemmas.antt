-- An interrupt comes, and a handler ends.
use Rattle.xk_ports.specs.declared.store.SwapStore.{Ghosts as SwapStore}
use Rattle.std.proofs.Common.{◌≡◌, ℕ, ◌≤◌, Bool, true, false, [], ◌∷◌, ◌++◌, map, Option, Some, None, refl, sym, ap, subst, ◌∙◌, arith, nat_eq}
use Rattle.std.specs.Prelude.{◌<◌, IsTrue, is_some, if◌then◌else◌}
use Rattle.std.specs.Option.{option_map}
use Rattle.std.proofs.lemmas.Bool.{eqb-true}
use Rattle.std.proofs.lemmas.Option.{none-some, same_Some}
use Rattle.irq_claims.specs.ClaimMap.{pend, with_pending}
use Rattle.irq_claims.specs.ClaimsOf.{claims_of}
use Rattle.irq_claims.specs.declared.claims.Claim.{Claim as TableClaim}
use Rattle.irq_claims.specs.declared.claims.Claims.{Claims}
use Rattle.machine_laws.proofs.Stepping.CursorStepLemmas.{every_cause_keeps_cursor}
use Rattle.machine_model.proofs.Ending.ClosingLemmas.{irq_unclaimed}
use Rattle.machine_model.specs.Ending.Ends.{handler_ended}
use Rattle.machine_model.specs.Runs.Matched.{Matched}
use Rattle.machine_model.specs.Runs.Moments.{ByIrq}
use Rattle.machine_model.specs.State.Changes.{Change, Delivery, Told, settled}
use Rattle.machine_model.specs.State.Machine.{Claim, Machine, Idle}
use Rattle.machine_model.specs.State.Threads.{change_thread, thread_id, with_state}
use Rattle.machine_model.specs.Stepping.Events.{at_event, raised, raised_if}
use Rattle.machine_model.specs.Stepping.Interrupts.{cursor_after, delivered, delivered_lowest, handler_started, is_free_for_interrupt, lowest_pending, pended, with_handler_next}
use Rattle.machine_model.specs.Stepping.Reservations.{unreserved}
use Rattle.machine_model.specs.Stepping.Step.{Recorded, after, record_of}
use Rattle.sv32_space.specs.Tie.{Held}
use Rattle.vm_memory.specs.Memory.{processes}
use Rattle.xk_base.proofs.CircleLemmas.{same_ids}
use Rattle.xk_base.specs.Log.{LogState}
use Rattle.xk_base.specs.Tables.Circle.{is_thread_id}
use Rattle.xk_base.specs.Tables.Counting.{put_at}
use Rattle.xk_base.specs.declared.ids.Pid.{Pid}
use Rattle.xk_base.specs.declared.ids.ThreadId.{ThreadId}
use Rattle.xk_base.specs.declared.limits.TheConstants.{INTERRUPT_LIMIT}
use Rattle.xk_base.specs.declared.records.What.TheVariants.{End}
use Rattle.xk_kernel.specs.Sound.{IsWhole}
use Rattle.xk_kernel.specs.State.{claim_of, machine_of}
use Rattle.xk_kernel.specs.Stepping.{Becomes}
use Rattle.xk_kernel.specs.Telling.{Tells, log_with}
use Rattle.xk_kernel.specs.declared.kernel.Kernel.{Kernel}
use Rattle.xk_kernel.proofs.Calling.LogLemmas.{log_with-next}
use Rattle.xk_kernel.proofs.Interrupting.ClaimLemmas.{pending_put}
use Rattle.xk_kernel.proofs.Interrupting.DeliveryLemmas.{Delivers}

-- ---- where the cursor goes

started_pid : (m : Machine) (pid : Pid) (k : ℕ) (o : Option Claim) (d : Delivery) → (handler_started m pid k o).delivery ≡ Some d → d.pid ≡ pid
started_pid m pid k None d e = absurd (none-some d e)
started_pid m pid k (Some claim) d e = sym (ap (λ (x : Delivery). x.pid) (same_Some (record { pid = pid; number = k }) d e))

lowest_pid : (m : Machine) (pid : Pid) (o : Option ℕ) (d : Delivery) → (delivered_lowest m pid o).delivery ≡ Some d → d.pid ≡ pid
lowest_pid m pid None d e = absurd (none-some d e)
lowest_pid m pid (Some k) d e = started_pid m pid k (m.claims k) d e

pub delivery_pid : (m : Machine) (pid : Pid) (d : Delivery) → (delivered pid m).delivery ≡ Some d → d.pid ≡ pid
unfolding delivered
delivery_pid m pid d e = lowest_pid m pid (if is_free_for_interrupt m pid then lowest_pending m pid else None) d e

-- to the interrupt thread where a handler starts
pub cursor_moves : (m : Machine) (pid : Pid) (cursor : ThreadId) (starts : Bool) → starts ≡ is_some (delivered pid m).delivery
    → (if starts then thread_id pid 1 else cursor) ≡ cursor_after (delivered pid m).delivery cursor
cursor_moves m pid cursor starts e = go (delivered pid m).delivery refl
  where
    go : (o : Option Delivery) → (delivered pid m).delivery ≡ o
        → (if starts then thread_id pid 1 else cursor) ≡ cursor_after o cursor
    go None q = ap (λ b. if b then thread_id pid 1 else cursor) (e ∙ ap is_some q)
    go (Some d) q = ap (λ b. if b then thread_id pid 1 else cursor) (e ∙ ap is_some q) ∙ ap (λ p. thread_id p 1) (sym (delivery_pid m pid d q))

abbrev pub moved : Change → Told
moved change = record {
  machine = record (settled change).machine { cursor = cursor_after change.delivery (settled change).machine.cursor };
  told = (settled change).told;
}

pub settled_next : (change : Change) → settled (with_handler_next change) ≡ moved change
unfolding settled
settled_next change = refl

-- ---- an interrupt comes

-- the claim of the process that the table answers
pub claim_found : (o : Option TableClaim) (pid : Pid) → Some pid ≡ option_map (λ (c : TableClaim). c.pid) o
    → (claim : TableClaim) × (o ≡ Some claim) × (claim.pid ≡ pid)
claim_found None pid e = absurd (none-some pid (sym e))
claim_found (Some claim) pid e = (claim, refl, sym (same_Some pid claim.pid e))

pub not_claimed : (o : Option TableClaim) → None ≡ option_map (λ (c : TableClaim). c.pid) o → o ≡ None
not_claimed None e = refl
not_claimed (Some claim) e = absurd (none-some claim.pid e)

module _ {W : Type 0} (held : W → Held) (old : Kernel W) (n : ℕ) (step : old.log.step ≡ old.steps) (empty : old.log.records ≡ []) where
  abbrev m : Machine
  m = machine_of held old

  -- nobody has claimed it
  pub unclaimed_done : (new : Kernel W) → m.claims n ≡ None → machine_of held new ≡ unreserved m → new.log ≡ old.log → Becomes held new (raised n m)
  unclaimed_done new none machine log =
      subst (Becomes held new) (sym (irq_unclaimed m n none))
      (record { machine = machine; records = ap (λ (l : LogState). l.records) log ∙ empty })

  module _ (claim : TableClaim) (there : claims_of old.claims n ≡ Some claim) (pends : Claims) (after : claims_of pends ≡ pend n (claims_of old.claims))
      (new : Kernel W) (starts : Bool) (delivers : Delivers held (record old { claims = pends; reserved = None }) claim.pid new starts) where
    abbrev pending_machine : Machine
    pending_machine = record (unreserved m) { pending = put_at nat_eq m.pending n true }

    raised_is : raised n m ≡ at_event m.steps (settled (pended n (claim_of claim) (unreserved m)))
    unfolding raised machine_of
    raised_is = ap (λ o. raised_if n (option_map claim_of o) (unreserved m)) there

    puts : claims_of pends ≡ put_at nat_eq (claims_of old.claims) n (Some (with_pending true claim))
    puts = after ∙ ap (λ o. put_at nat_eq (claims_of old.claims) n (option_map (with_pending true) o)) there

    pending_is : machine_of held (record old { claims = pends; reserved = None }) ≡ pending_machine
    unfolding machine_of
    pending_is = pending_put held (record old { reserved = None }) pends n claim true there puts

    became : raised n m ≡ at_event m.steps (moved (delivered claim.pid (machine_of held (record old { claims = pends; reserved = None }))))
    became =
        raised_is ∙ ap (at_event m.steps) (settled_next (delivered claim.pid pending_machine))
        ∙ ap (λ x. at_event m.steps (moved (delivered claim.pid x))) (sym pending_is)

    claimed_done : (cursor : ThreadId) → cursor ≡ (if starts then thread_id claim.pid 1 else new.cursor)
        → Becomes held (record new { cursor = cursor }) (raised n m)
    unfolding machine_of
    claimed_done cursor goes =
        let pending : Machine = machine_of held (record old { claims = pends; reserved = None }) in
        let stays : new.cursor ≡ (settled (delivered claim.pid pending)).machine.cursor = ap (λ (x : Machine). x.cursor) delivers.tells.machine in
        let ends : cursor ≡ cursor_after (delivered claim.pid pending).delivery (settled (delivered claim.pid pending)).machine.cursor =
        goes ∙ cursor_moves pending claim.pid new.cursor starts delivers.starts
        ∙ ap (cursor_after (delivered claim.pid pending).delivery) stays in
        record {
          machine = (λ i. record (delivers.tells.machine i) { cursor = ends i }) ∙ sym (ap (λ (x : Recorded). x.machine) became);
          records =
              ap (λ (l : LogState). l.records) delivers.tells.log
              ∙ (λ i. empty i ++ map (record_of (step i)) (settled (delivered claim.pid pending)).told)
              ∙ sym (ap (λ (x : Recorded). x.records) became);
        }

  -- the process that the table answers has claimed it
  module _ (pid : Pid) (answers : Some pid ≡ option_map (λ (c : TableClaim). c.pid) (claims_of old.claims n)) (pends : Claims)
      (after : claims_of pends ≡ pend n (claims_of old.claims)) (new : Kernel W) (answer : Bool)
      (delivers : Delivers held (record old { claims = pends; reserved = None }) pid new answer) where
    of_claim : (claim : TableClaim) × (claims_of old.claims n ≡ Some claim) × (claim.pid ≡ pid)
    of_claim = claim_found (claims_of old.claims n) pid answers

    for_claim : Delivers held (record old { claims = pends; reserved = None }) of_claim.0.pid new answer
    for_claim = subst (λ p. Delivers held (record old { claims = pends; reserved = None }) p new answer) (sym of_claim.2) delivers

    pub raise_starts : answer ≡ true → (cursor : ThreadId) → cursor ≡ thread_id pid 1 → Becomes held (record new { cursor = cursor }) (raised n m)
    raise_starts starts cursor at =
        claimed_done of_claim.0 of_claim.1 pends after new answer for_claim cursor
        (at ∙ ap (λ p. thread_id p 1) (sym of_claim.2) ∙ sym (ap (λ b. if b then thread_id of_claim.0.pid 1 else new.cursor) starts))

    pub raise_pends : answer ≡ false → Becomes held new (raised n m)
    raise_pends starts =
        claimed_done of_claim.0 of_claim.1 pends after new answer for_claim new.cursor
        (sym (ap (λ b. if b then thread_id of_claim.0.pid 1 else new.cursor) starts))

-- no greater number is claimed
pub high_unclaimed : (m : Machine) (n : ℕ) → Matched m → INTERRUPT_LIMIT ≤ n → m.claims n ≡ None
high_unclaimed m n h high = go (m.claims n) refl
  where
    go : (o : Option Claim) → m.claims n ≡ o → m.claims n ≡ None
    go None e = e
    go (Some claim) e = let low : n < INTERRUPT_LIMIT = h.rest.claims.numbers n claim e in absurd (omega arith)

-- .. in the machine either
pub machine_unclaimed : {W : Type 0} (held : W → Held) (k : Kernel W) (n : ℕ) → claims_of k.claims n ≡ None → (machine_of held k).claims n ≡ None
unfolding machine_of
machine_unclaimed held k n none = ap (option_map claim_of) none

-- a table that holds the same claims as before, as none was on the number
pub nothing_pends : (old new : Claims) (n : ℕ) → claims_of old n ≡ None → claims_of new ≡ pend n (claims_of old) → claims_of new ≡ claims_of old
nothing_pends old new n none e = e ∙ (λ i q. at q (nat_eq q n) refl i)
  where
    at : (q : ℕ) (b : Bool) → nat_eq q n ≡ b → (if b then option_map (with_pending true) (claims_of old n) else claims_of old q) ≡ claims_of old q
    at q true s = ap (option_map (with_pending true)) none ∙ sym (ap (claims_of old) (eqb-true q n s) ∙ none)
    at q false s = refl

-- the cursor stays the id of a thread
pub raised_cursor : {W : Type 0} (S : SwapStore W) (old new : Kernel W) (n : ℕ) → IsWhole S old → Matched (machine_of S.held old)
    → Becomes S.held new (raised n (machine_of S.held old)) → IsTrue (is_thread_id (processes new.mem) new.cursor)
unfolding machine_of
raised_cursor S old new n whole matched becomes =
    subst (λ (x : Machine). IsTrue (is_thread_id x.processes x.cursor)) (sym becomes.machine)
    (every_cause_keeps_cursor (ByIrq n) (machine_of S.held old) matched whole.cursor)

-- ---- a handler ends

-- the thread of the cursor is the interrupt thread
pub is_handler : (who : ThreadId) → who.tid.0 ≡ 1 → who ≡ thread_id who.pid 1
is_handler who e = same_ids who (thread_id who.pid 1) refl e

module _ {W : Type 0} (held : W → Held) (old idle new : Kernel W) (first : LogState) (handler : old.cursor.tid.0 ≡ 1) (starts : Bool)
    (pushed : first ≡ log_with (End old.cursor ∷ []) old.log) (log : idle.log ≡ first)
    (idles : machine_of held idle ≡ change_thread old.cursor (with_state Idle) (machine_of held old))
    (delivers : Delivers held idle old.cursor.pid new starts) where
  ended_is : handler_ended old.cursor.pid (machine_of held old) ≡ delivered old.cursor.pid (machine_of held idle)
  unfolding handler_ended
  ended_is =
      ap (λ id. delivered old.cursor.pid (change_thread id (with_state Idle) (machine_of held old))) (sym (is_handler old.cursor handler))
      ∙ ap (delivered old.cursor.pid) (sym idles)

  pub handler_ends : Tells held old new (after (End old.cursor) (settled (handler_ended old.cursor.pid (machine_of held old))))
  handler_ends =
      let told : settled (handler_ended old.cursor.pid (machine_of held old)) ≡ settled (delivered old.cursor.pid (machine_of held idle)) = ap settled ended_is in
      record {
        machine = delivers.tells.machine ∙ sym (ap (λ (t : Told). t.machine) told);
        log =
            log_with-next (End old.cursor ∷ []) (settled (delivered old.cursor.pid (machine_of held idle))).told old.log idle.log new.log (log ∙ pushed) delivers.tells.log
            ∙ sym (ap (λ (t : Told). log_with (End old.cursor ∷ t.told) old.log) told);
      }

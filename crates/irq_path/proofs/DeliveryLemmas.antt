-- What comes due in the table of claims is what the machine delivers.
use Rattle.std.proofs.Common.{◌≡◌, ℕ, Bool, true, false, [], ◌∷◌, ◌++◌, Option, Some, None, refl, sym, ap, ◌∙◌, append-nil, nat_eq}
use Rattle.std.specs.Prelude.{◌==◌, ◌&&◌, is_some, if◌then◌else◌}
use Rattle.std.specs.Option.{option_and_then, option_map}
use Rattle.std.proofs.lemmas.Bool.{false≢true}
use Rattle.std.proofs.lemmas.Option.{none-some, same_Some}
use Rattle.irq_claims.specs.ClaimMap.{ClaimMap, delivery, is_due_to, lowest_delivery, lowest_due, settle_any, with_pending}
use Rattle.irq_claims.specs.ClaimsOf.{claims_of}
use Rattle.irq_claims.specs.declared.claims.Claim.{Claim as TableClaim}
use Rattle.irq_claims.specs.declared.claims.Claims.{Claims}
use Rattle.irq_claims.specs.declared.claims.Due.{Due}
use Rattle.machine_laws.proofs.Interrupting.IrqDeliveryLemmas.{unanswered}
use Rattle.machine_model.specs.State.Changes.{Change, Delivery, Told, delivery_told, only, settled}
use Rattle.machine_model.specs.State.Machine.{Machine}
use Rattle.machine_model.specs.State.Threads.{handler_thread, no_answers, put_thread, thread_id}
use Rattle.machine_model.specs.Stepping.Interrupts.{delivered, delivered_lowest, handler_started, is_claim_of, is_free_for_interrupt, lowest_pending}
use Rattle.send_path.proofs.Rows.ReplyLemmas.{no_reply}
use Rattle.send_path.specs.Rows.{log_with}
use Rattle.thread_table.specs.Shown.{threads_of}
use Rattle.thread_table.specs.declared.table.Threads.{Threads}
use Rattle.thread_table.specs.declared.thread.Thread.{Thread as TableThread}
use Rattle.xk_base.proofs.CountingLemmas.{least_below-passes, least_below-same}
use Rattle.xk_base.specs.Log.{LogState}
use Rattle.xk_base.specs.Tables.Circle.{same_thread}
use Rattle.xk_base.specs.Tables.Counting.{put_at}
use Rattle.xk_base.specs.declared.ids.Pid.{Pid}
use Rattle.xk_base.specs.declared.limits.TheConstants.{INTERRUPT_LIMIT}
use Rattle.xk_base.specs.declared.records.What.TheVariants.{Irq}
use Rattle.xk_parts.specs.Parts.{Tables, machine_over, no_store}
use Rattle.xk_parts.specs.Shown.{claim_of, claims_shown, pending_shown, thread_of, threads_shown}
use Rattle.irq_path.specs.Delivering.{IsDelivery, Taken, with_taken}
use Rattle.irq_path.proofs.ClaimLemmas.{PutsClaim, claims_shown-stay, pending_of, pending_shown-put}
use Rattle.irq_path.proofs.ThreadLemmas.{threads_put}

-- ---- the lowest pending number

same_test : (pid : Pid) (o : Option TableClaim) → (pending_of o && is_claim_of pid (option_map claim_of o)) ≡ is_due_to pid o
same_test pid None = refl
same_test pid (Some claim) = either claim.pending (claim.pid.0 == pid.0)
  where
    either : (a b : Bool) → (a && b) ≡ (b && a)
    either true true = refl
    either true false = refl
    either false true = refl
    either false false = refl

-- the claim of the number that is found
due_claim : (m : ClaimMap) (pid : Pid) (n : ℕ) → lowest_due pid m ≡ Some n → (claim : TableClaim) × (m n ≡ Some claim)
due_claim m pid n e = go (m n) refl (least_below-passes INTERRUPT_LIMIT (λ k. is_due_to pid (m k)) n e)
  where
    go : (o : Option TableClaim) → m n ≡ o → is_due_to pid o ≡ true → (claim : TableClaim) × (m n ≡ Some claim)
    go None q due = absurd (false≢true due)
    go (Some claim) q due = (claim, q)

-- nothing is due where nothing is found
nothing_due : (m : ClaimMap) (pid : Pid) → lowest_delivery pid m ≡ None → lowest_due pid m ≡ None
nothing_due m pid none = go (lowest_due pid m) refl
  where
    go : (o : Option ℕ) → lowest_due pid m ≡ o → lowest_due pid m ≡ None
    go None e = e
    go (Some n) e =
        let found = due_claim m pid n e in
        let due : lowest_delivery pid m ≡ Some (delivery n found.0) =
        ap (option_and_then (λ k. option_map (delivery k) (m k))) e ∙ ap (option_map (delivery n)) found.1 in
        absurd (none-some (delivery n found.0) (sym none ∙ due))

-- what is found: the number, its claim, and what is delivered
record IsDue (m : ClaimMap) (pid : Pid) (due : Due) : Type 0 where
  number : ℕ
  claim : TableClaim
  lowest : lowest_due pid m ≡ Some number
  there : m number ≡ Some claim
  is : due ≡ delivery number claim

what_is_due : (m : ClaimMap) (pid : Pid) (due : Due) → lowest_delivery pid m ≡ Some due → IsDue m pid due
what_is_due m pid due e = go (lowest_due pid m) refl
  where
    go : (o : Option ℕ) → lowest_due pid m ≡ o → IsDue m pid due
    go None q = absurd (none-some due (sym (ap (option_and_then (λ k. option_map (delivery k) (m k))) q) ∙ e))
    go (Some n) q =
        let found = due_claim m pid n q in
        record {
          number = n;
          claim = found.0;
          lowest = q;
          there = found.1;
          is = same_Some due (delivery n found.0) (sym e ∙ ap (option_and_then (λ k. option_map (delivery k) (m k))) q ∙ ap (option_map (delivery n)) found.1);
        }

-- ---- what is told

-- a change that answers nobody and ends nothing
abbrev starting : Machine → Option Delivery → Change
starting m started = record { machine = m; answers = no_answers; delivery = started; gone = None }

settled_starting : (m : Machine) (started : Option Delivery) → settled (starting m started) ≡ record { machine = m; told = delivery_told started }
unfolding settled
settled_starting m None = λ i. record { machine = unanswered m i; told = no_reply m.processes i ++ [] }
settled_starting m (Some d) = λ i. record { machine = unanswered m i; told = no_reply m.processes i ++ (Irq d.pid d.number ∷ []) }

-- a log to which nothing is told stays
told_nothing : (log : LogState) → log ≡ log_with [] log
told_nothing log = λ i. record log { records = sym (append-nil log.records) i }

-- ---- the delivery

-- the machine of the parts, laid over another
abbrev laid : Tables → Machine → Taken → Machine
laid parts m t = machine_over no_store.held (with_taken t parts) m

module _ (old : Taken) (pid : Pid) (parts : Tables) (m : Machine) where
  abbrev before : Machine
  before = laid parts m old

  -- what a delivery leaves, and whether a handler starts
  abbrev Leaves : Taken → Bool → Type 0
  Leaves new starts = IsDelivery pid before (laid parts m new) old.log new.log starts

  -- where nothing starts, and the machine stays
  nothing_starts : (new : Taken) → delivered pid before ≡ only before → laid parts m new ≡ before → new.log ≡ old.log → Leaves new false
  nothing_starts new is same log =
      let told : settled (delivered pid before) ≡ record { machine = before; told = [] } = ap settled is ∙ settled_starting before None in
      record {
        machine = same ∙ sym (ap (λ (t : Told). t.machine) told);
        log = log ∙ told_nothing old.log ∙ sym (ap (λ (t : Told). log_with t.told old.log) told);
        answer = sym (ap (λ (change : Change). is_some change.delivery) is);
      }

  pub busy : is_free_for_interrupt before pid ≡ false → Leaves old false
  unfolding delivered
  busy e = nothing_starts old (ap (λ b. delivered_lowest before pid (if b then lowest_pending before pid else None)) e) refl refl

  lowest_is : lowest_pending before pid ≡ lowest_due pid (claims_of old.claims)
  unfolding lowest_pending
  lowest_is = least_below-same INTERRUPT_LIMIT _ _ (λ n l. same_test pid (claims_of old.claims n))

  module _ (free : is_free_for_interrupt before pid ≡ true) (new : Claims) (after : claims_of new ≡ settle_any (lowest_due pid (claims_of old.claims)) (claims_of old.claims)) where
    by_lowest : (o : Option ℕ) → lowest_due pid (claims_of old.claims) ≡ o → delivered pid before ≡ delivered_lowest before pid o
    unfolding delivered
    by_lowest o e =
        ap (λ b. delivered_lowest before pid (if b then lowest_pending before pid else None)) free ∙ ap (delivered_lowest before pid) (lowest_is ∙ e)

    -- a table that holds the same claims
    same_claims : claims_of new ≡ claims_of old.claims → laid parts m (record old { claims = new }) ≡ before
    same_claims e = λ i. record before {
      claims = λ q. option_map claim_of (e i q);
      pending = λ q. pending_of (e i q);
    }

    pub none_due : lowest_delivery pid (claims_of old.claims) ≡ None → Leaves (record old { claims = new }) false
    none_due none =
        let nothing : lowest_due pid (claims_of old.claims) ≡ None = nothing_due (claims_of old.claims) pid none in
        nothing_starts (record old { claims = new }) (by_lowest None nothing)
        (same_claims (after ∙ ap (λ o. settle_any o (claims_of old.claims)) nothing)) refl

    module _ (due : Due) (found : lowest_delivery pid (claims_of old.claims) ≡ Some due) (threads : Threads) (t : TableThread) (log : LogState)
        (puts : threads_of threads ≡ put_at same_thread (threads_of old.threads) (thread_id pid 1) (Some t))
        (begins : (owner : Pid) → thread_of t ≡ handler_thread due.k (record { pid = owner; handler = due.handler; argument = due.arg }))
        (tells : log ≡ log_with (Irq pid due.k ∷ []) old.log) where
      is_due : IsDue (claims_of old.claims) pid due
      is_due = what_is_due (claims_of old.claims) pid due found

      abbrev n : ℕ
      n = is_due.number

      abbrev started : Machine
      started = put_thread (thread_id pid 1) (Some (handler_thread n (claim_of is_due.claim))) (record before { pending = put_at nat_eq before.pending n false })

      starts_it : delivered pid before ≡ starting started (Some (record { pid = pid; number = n }))
      starts_it = by_lowest (Some n) is_due.lowest ∙ ap (λ o. handler_started before pid n (option_map claim_of o)) is_due.there

      told : settled (delivered pid before) ≡ record { machine = started; told = Irq pid n ∷ [] }
      told = ap settled starts_it ∙ settled_starting started (Some (record { pid = pid; number = n }))

      settles : PutsClaim old.claims new n (Some (with_pending false is_due.claim))
      settles =
          after ∙ ap (λ o. settle_any o (claims_of old.claims)) is_due.lowest
          ∙ ap (λ o. put_at nat_eq (claims_of old.claims) n (option_map (with_pending false) o)) is_due.there

      begins_so : thread_of t ≡ handler_thread n (claim_of is_due.claim)
      begins_so =
          begins is_due.claim.pid
          ∙ ap (λ (d : Due). handler_thread d.k (record { pid = is_due.claim.pid; handler = d.handler; argument = d.arg })) is_due.is

      abbrev left : Taken
      left = record { threads = threads; claims = new; log = log }

      put : threads_shown threads ≡ put_at same_thread (threads_shown old.threads) (thread_id pid 1) (Some (handler_thread n (claim_of is_due.claim)))
      put =
          threads_put old.threads threads (thread_id pid 1) (Some t) puts
          ∙ ap (λ x. put_at same_thread (threads_shown old.threads) (thread_id pid 1) (Some x)) begins_so

      same : claims_shown new ≡ claims_shown old.claims
      same = claims_shown-stay old.claims new n is_due.claim false is_due.there settles

      settled_so : pending_shown new ≡ put_at nat_eq (pending_shown old.claims) n false
      settled_so = pending_shown-put old.claims new n (Some (with_pending false is_due.claim)) settles

      became : laid parts m left ≡ started
      became = λ i. record before { threads = put i; claims = same i; pending = settled_so i }

      pub handler_starts : Leaves left true
      handler_starts = record {
        machine = became ∙ sym (ap (λ (x : Told). x.machine) told);
        log =
            tells ∙ ap (λ (d : Due). log_with (Irq pid d.k ∷ []) old.log) is_due.is
            ∙ sym (ap (λ (x : Told). log_with x.told old.log) told);
        answer = sym (ap (λ (change : Change). is_some change.delivery) starts_it);
      }

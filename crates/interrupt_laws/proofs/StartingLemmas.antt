-- What an event `irq` starts.
use Rattle.std.proofs.Common.{◌≡◌, ℕ, ◌<◌, ◌⊎◌, Bool, true, false, List, [], ◌∷◌, ◌++◌, map, Option, Some, None, nat_eq, refl, sym, ap, ◌∙◌, inl, inr, arith}
use Rattle.std.specs.Prelude.{◌&&◌, is_some, unwrap_or, if◌then◌else◌}
use Rattle.std.specs.List.{All}
use Rattle.std.proofs.lemmas.Bool.{and_from, and_parts, eq-eqb, eqb-true, false≢true}
use Rattle.xk_base.proofs.CircleLemmas.{listed_ids-passes}
use Rattle.xk_base.proofs.CountingLemmas.{least_below-none, least_below-passes}
use Rattle.xk_base.specs.declared.ids.Pid.{Pid}
use Rattle.xk_base.specs.declared.ids.ThreadId.{ThreadId}
use Rattle.xk_base.specs.declared.limits.TheConstants.{INTERRUPT_LIMIT}
use Rattle.xk_base.specs.declared.records.What.TheVariants.{Irq, Reply}
use Rattle.xk_base.specs.Tables.Circle.{is_thread_id, listed_ids}
use Rattle.xk_base.specs.Tables.Counting.{put_at}
use Rattle.machine_laws.proofs.Interrupting.IrqDeliveryLemmas.{unanswered}
use Rattle.machine_laws.proofs.Threading.ThreadAnswerLemmas.{same_thread-self}
use Rattle.machine_model.specs.State.Changes.{Change, Delivery, delivery_told, replies, settled}
use Rattle.machine_model.specs.State.Machine.{Claim, Machine}
use Rattle.machine_model.specs.State.Threads.{handler_thread, no_answers, put_thread, thread_id}
use Rattle.machine_model.specs.Stepping.Events.{at_event, raised, raised_if}
use Rattle.machine_model.specs.Stepping.Interrupts.{delivered, delivered_lowest, handler_started, is_claim_of, is_free_for_interrupt, lowest_pending, with_handler_next}
use Rattle.machine_model.specs.Stepping.Reservations.{unreserved}
use Rattle.machine_model.specs.Stepping.Step.{Recorded, record_of}
use Rattle.interrupt_laws.specs.Starting.{IrqStartsIfFree, IrqStartsOneOrNothing, StartsClaimant, StartsHandler, StartsNothing}

-- ---- a change that answers nobody and ends nothing

none_listed : (ids : List ThreadId) (n : ℕ) → All (λ d. (is_thread_id n d ≡ true) × (false ≡ true)) ids → ids ≡ []
none_listed [] n h = refl
none_listed (id ∷ ids) n h = absurd (false≢true (h 0 id (omega arith)).1)

no_replies : (n : ℕ) → replies n no_answers ≡ []
no_replies n =
    ap (map (λ id. Reply id (unwrap_or (no_answers id) [])))
    (none_listed (listed_ids n (λ id. is_some (no_answers id))) n (listed_ids-passes n (λ id. is_some (no_answers id))))

abbrev starting : Machine → Option Delivery → Change
starting m started = record { machine = m; answers = no_answers; delivery = started; gone = None }

settles : (m : Machine) (started : Option Delivery) → settled (starting m started) ≡ record { machine = m; told = delivery_told started }
unfolding settled
settles m None = λ i. record { machine = unanswered m i; told = no_replies m.processes i ++ [] }
settles m (Some d) = λ i. record { machine = unanswered m i; told = no_replies m.processes i ++ (Irq d.pid d.number ∷ []) }

-- ---- the claim of a number that is found

own_claim : (pid : Pid) (o : Option Claim) → is_claim_of pid o ≡ true → (claim : Claim) × (o ≡ Some claim) × (claim.pid ≡ pid)
own_claim pid None e = absurd (false≢true e)
own_claim pid (Some claim) e = (claim, refl, λ i. record { 0 = eqb-true claim.pid.0 pid.0 e i })

-- ---- the event

module _ (k : ℕ) (m : Machine) (claim : Claim) (claimed : m.claims k ≡ Some claim) where
  abbrev pid : Pid
  pid = claim.pid

  -- number k is pending
  abbrev next : Machine
  next = record (unreserved m) { pending = put_at nat_eq m.pending k true }

  raised_is : raised k m ≡ at_event m.steps (settled (with_handler_next (delivered pid next)))
  unfolding raised
  raised_is = ap (λ o. raised_if k o (unreserved m)) claimed

  -- by the change that is delivered
  raised_by : (change : Change) → delivered pid next ≡ change → raised k m ≡ at_event m.steps (settled (with_handler_next change))
  raised_by change e = raised_is ∙ ap (λ c. at_event m.steps (settled (with_handler_next c))) e

  nothing_starts : delivered pid next ≡ starting next None → StartsNothing m k
  nothing_starts e =
      let is : raised k m ≡ record { machine = next; records = [] } = raised_by (starting next None) e ∙ ap (at_event m.steps) (settles next None) in
      record {
        cursor = ap (λ (r : Recorded). r.machine.cursor) is;
        threads = ap (λ (r : Recorded). r.machine.threads) is;
        told = ap (λ (r : Recorded). r.records) is;
      }

  module _ (free : is_free_for_interrupt next pid ≡ true) (n : ℕ) (lowest : lowest_pending next pid ≡ Some n) where
    due : (other : Claim) × (m.claims n ≡ Some other) × (other.pid ≡ pid)
    unfolding lowest_pending
    due =
        own_claim pid (m.claims n)
        (and_parts (next.pending n) (is_claim_of pid (m.claims n)) (least_below-passes INTERRUPT_LIMIT (λ j. next.pending j && is_claim_of pid (m.claims j)) n lowest)).1

    abbrev started : Machine
    started = put_thread (thread_id pid 1) (Some (handler_thread n due.0)) (record next { pending = put_at nat_eq next.pending n false })

    delivers : delivered pid next ≡ starting started (Some (record { pid = pid; number = n }))
    unfolding delivered
    delivers =
        ap (λ b. delivered_lowest next pid (if b then lowest_pending next pid else None)) free
        ∙ ap (delivered_lowest next pid) lowest ∙ ap (handler_started next pid n) due.1

    is : raised k m ≡ record { machine = record started { cursor = thread_id pid 1 }; records = record_of m.steps (Irq pid n) ∷ [] }
    is =
        raised_by (starting started (Some (record { pid = pid; number = n }))) delivers
        ∙ ap (at_event m.steps) (settles (record started { cursor = thread_id pid 1 }) (Some (record { pid = pid; number = n })))

    there : started.threads (thread_id pid 1) ≡ Some (handler_thread n due.0)
    there = rw (same_thread-self (thread_id pid 1)) refl

    handler_starts : StartsHandler m k
    handler_starts = record {
      number = n;
      claim = due.0;
      claimed = due.1;
      idle = ap (is_free_for_interrupt m) due.2 ∙ free;
      begins = ap (λ p. (raised k m).machine.threads (thread_id p 1)) due.2 ∙ ap (λ (r : Recorded). r.machine.threads (thread_id pid 1)) is ∙ there;
      cursor = ap (λ (r : Recorded). r.machine.cursor) is ∙ ap (λ p. thread_id p 1) (sym due.2);
      told = ap (λ (r : Recorded). r.records) is ∙ ap (λ p. record_of m.steps (Irq p n) ∷ []) (sym due.2);
    }

  -- the number is due, so there is a lowest one
  found : k < INTERRUPT_LIMIT → is_free_for_interrupt next pid ≡ true → StartsClaimant m k claim
  unfolding lowest_pending handler_starts due
  found below free = go (lowest_pending next pid) refl
    where
      is_due : (next.pending k && is_claim_of pid (m.claims k)) ≡ true
      is_due =
          and_from (next.pending k) (is_claim_of pid (m.claims k)) (ap (λ b. if b then true else m.pending k) (eq-eqb k k refl))
          (ap (is_claim_of pid) claimed ∙ eq-eqb pid.0 pid.0 refl)

      go : (o : Option ℕ) → lowest_pending next pid ≡ o → StartsClaimant m k claim
      go (Some n) e = record { handler = handler_starts free n e; own = (due free n e).2 }
      go None e =
          absurd (false≢true (sym (least_below-none INTERRUPT_LIMIT (λ j. next.pending j && is_claim_of pid (m.claims j)) e k below) ∙ is_due))

  not_delivered : (if is_free_for_interrupt next pid then lowest_pending next pid else None) ≡ None → delivered pid next ≡ starting next None
  unfolding delivered
  not_delivered e = ap (delivered_lowest next pid) e

  of_claim : StartsHandler m k ⊎ StartsNothing m k
  of_claim = go (is_free_for_interrupt next pid) (lowest_pending next pid) refl refl
    where
      go : (b : Bool) (o : Option ℕ) → is_free_for_interrupt next pid ≡ b → lowest_pending next pid ≡ o → StartsHandler m k ⊎ StartsNothing m k
      go true (Some n) p q = inl (handler_starts p n q)
      go true None p q = inr (nothing_starts (not_delivered (ap (λ b. if b then lowest_pending next pid else None) p ∙ q)))
      go false o p q = inr (nothing_starts (not_delivered (ap (λ b. if b then lowest_pending next pid else None) p)))

unclaimed : (k : ℕ) (m : Machine) → m.claims k ≡ None → raised k m ≡ record { machine = unreserved m; records = [] }
unfolding raised
unclaimed k m e = ap (λ o. raised_if k o (unreserved m)) e

pub irq_starts_one_or_nothing : IrqStartsOneOrNothing
irq_starts_one_or_nothing k m = go (m.claims k) refl
  where
    go : (o : Option Claim) → m.claims k ≡ o → StartsHandler m k ⊎ StartsNothing m k
    go None e = inr (record {
      cursor = ap (λ (r : Recorded). r.machine.cursor) (unclaimed k m e);
      threads = ap (λ (r : Recorded). r.machine.threads) (unclaimed k m e);
      told = ap (λ (r : Recorded). r.records) (unclaimed k m e);
    })
    go (Some claim) e = of_claim k m claim e

pub starts_below : (k : ℕ) (m : Machine) (claim : Claim) → k < INTERRUPT_LIMIT → m.claims k ≡ Some claim
    → is_free_for_interrupt m claim.pid ≡ true → StartsClaimant m k claim
starts_below k m claim below claimed free = found k m claim claimed below free

pub irq_starts_if_free : IrqStartsIfFree
irq_starts_if_free k m claim h claimed free = starts_below k m claim (h.rest.claims.numbers k claim claimed) claimed free

-- What a change tells stands in order, and where the timer's interrupt is put into it.
use Rattle.std.proofs.Common.{◌≡◌, ◌≢◌, ℕ, zero, suc, ◌<◌, ◌≤◌, ◌⊎◌, inl, inr, Bool, true, false, List, [], ◌∷◌, ◌++◌, map, Option, Some, None, refl, sym, ◌∙◌, subst, arith}
use Rattle.std.specs.Prelude.{if◌then◌else◌, is_some, slice_index_or, unwrap_or}
use Rattle.std.specs.List.{All, AllPairs}
use Rattle.std.proofs.lemmas.Bool.{cases_lt, false≢true, ltb-true}
use Rattle.std.proofs.lemmas.Bool.Decides.{nat_tests}
use Rattle.std.proofs.lemmas.List.Elements.{All-append, All-cons}
use Rattle.std.proofs.lemmas.List.Kept.{AllPairs-cons, AllPairs-from_increasing}
use Rattle.xk_base.specs.declared.ids.Pid.{Pid}
use Rattle.xk_base.specs.declared.ids.ThreadId.{ThreadId}
use Rattle.xk_base.specs.declared.records.What.{What}
use Rattle.xk_base.specs.declared.records.What.TheVariants.{Call, Reply, Retry, Byte, Fault, End, Irq, Gone}
use Rattle.xk_base.specs.Tables.Counting.{listed_below}
use Rattle.xk_base.specs.Tables.Circle.{id_at, is_thread_id, listed_ids, place_of, thread_ids}
use Rattle.xk_base.proofs.CircleLemmas.{listed_ids-passes, places-listed_ids}
use Rattle.xk_base.proofs.CountingLemmas.{listed_below-ascends}
use Rattle.machine_model.specs.State.Changes.{Change, Delivery, change_told, death_told, delivery_told, replies, settled}
use Rattle.machine_model.specs.State.Threads.{Answers}
use Rattle.machine_model.specs.Stepping.Timer.{stands_after_irq, with_irq, with_irq_if}
use Rattle.transcript_laws.specs.RecordOrder.{IsBefore, rank}
use Rattle.transcript_laws.proofs.Ordering.PairLemmas.{pairs_append, pairs_both, pairs_from_map, pairs_head, pairs_none, pairs_one}
use Rattle.transcript_laws.proofs.Ordering.PairLemmas.{pairs_tail, pairs_to_map}

abbrev pub IsOrdered : List What → Type 0
IsOrdered told = AllPairs IsBefore told

-- one before another and that before a third
pub before_both : (a b c : What) → IsBefore a b → IsBefore b c → IsBefore a c
before_both a b c (inl p) (inl q) = inl (omega arith)
before_both a b c (inl p) (inr q) = let e : (rank b).kind ≡ (rank c).kind = q.0 in inl (omega arith)
before_both a b c (inr p) (inl q) = let e : (rank a).kind ≡ (rank b).kind = p.0 in inl (omega arith)
before_both a b c (inr p) (inr q) = inr (p.0 ∙ q.0, within p.1 q.1)
  where
    within : ((rank a).pid < (rank b).pid) ⊎ (((rank a).pid ≡ (rank b).pid) × ((rank a).tid < (rank b).tid))
        → ((rank b).pid < (rank c).pid) ⊎ (((rank b).pid ≡ (rank c).pid) × ((rank b).tid < (rank c).tid))
        → ((rank a).pid < (rank c).pid) ⊎ (((rank a).pid ≡ (rank c).pid) × ((rank a).tid < (rank c).tid))
    within (inl x) (inl y) = inl (omega arith)
    within (inl x) (inr y) = let e : (rank b).pid ≡ (rank c).pid = y.0 in inl (omega arith)
    within (inr x) (inl y) = let e : (rank a).pid ≡ (rank b).pid = x.0 in inl (omega arith)
    within (inr x) (inr y) =
        let low : (rank a).tid < (rank b).tid = x.1 in
        let high : (rank b).tid < (rank c).tid = y.1 in
        inr (x.0 ∙ y.0, omega arith)

-- ---- replies

-- at a lower place of the ids
reply_before : (n : ℕ) (a b : ThreadId) → is_thread_id n a ≡ true → is_thread_id n b ≡ true → place_of a < place_of b
    → (a.pid.0 < b.pid.0) ⊎ ((a.pid.0 ≡ b.pid.0) × (a.tid.0 < b.tid.0))
reply_before n a b p q l =
    let low : 2 ≤ a.pid.0 = grind (arith, nat_tests) in
    let some : 1 ≤ a.tid.0 = grind (arith, nat_tests) in
    let few : a.tid.0 ≤ 31 = grind (arith, nat_tests) in
    let also_low : 2 ≤ b.pid.0 = grind (arith, nat_tests) in
    let also_some : 1 ≤ b.tid.0 = grind (arith, nat_tests) in
    let also_few : b.tid.0 ≤ 31 = grind (arith, nat_tests) in
    elim (cases_lt a.pid.0 b.pid.0) [
      | inl less ↦ inl less
      | inr more ↦ inr (omega arith, omega arith)
    ]

module _ (n : ℕ) (answers : Answers) where
  abbrev answered : List ThreadId
  answered = listed_ids n (λ id. is_some (answers id))

  abbrev reply : ThreadId → What
  reply id = Reply id (unwrap_or (answers id) [])

  pub places_ascend : AllPairs (λ (a b : ThreadId). place_of a < place_of b) answered
  places_ascend =
      pairs_from_map (λ x y. x < y) place_of answered
      (subst (AllPairs (λ x y. x < y)) (sym (places-listed_ids n (λ id. is_some (answers id))))
      (AllPairs-from_increasing (listed_below (thread_ids n) (λ k. is_some (answers (id_at k))))
      (listed_below-ascends (thread_ids n) (λ k. is_some (answers (id_at k))))))

  pub replies_ordered : IsOrdered (replies n answers)
  replies_ordered =
      pairs_to_map IsBefore reply answered
      (pairs_both (λ id. is_thread_id n id ≡ true) (λ (a b : ThreadId). place_of a < place_of b) (λ a b. IsBefore (reply a) (reply b))
      (λ a b p q l. inr (refl, reply_before n a b p q l)) answered (λ k d lt. (listed_ids-passes n (λ id. is_some (answers id)) k d lt).0) places_ascend)

-- ---- what holds of each record

-- it is a reply, and nothing that stands before replies
abbrev pub IsLate : What → Type 0
IsLate what = 2 ≤ (rank what).kind

all_replies : (P : What → Type 0) → ((id : ThreadId) (words : List ℕ) → P (Reply id words)) → (answers : Answers) (ids : List ThreadId)
    → All P (map (λ id. Reply id (unwrap_or (answers id) [])) ids)
all_replies P each answers [] k d lt = absurd (omega arith)
all_replies P each answers (id ∷ ids) zero d lt = each id (unwrap_or (answers id) [])
all_replies P each answers (id ∷ ids) (suc k) d lt = all_replies P each answers ids k d (omega arith)

-- of each that a change tells, where it holds of replies, of the delivery's record and of deaths
pub all_told : (P : What → Type 0) → ((id : ThreadId) (words : List ℕ) → P (Reply id words)) → ((pid : Pid) → P (Gone pid))
    → (n : ℕ) (change : Change) → All P (delivery_told change.delivery) → All P (change_told n change)
all_told P reply gone n change delivery =
    All-append P (replies n change.answers) (delivery_told change.delivery ++ death_told change.gone)
    (all_replies P reply change.answers (listed_ids n (λ id. is_some (change.answers id))))
    (All-append P (delivery_told change.delivery) (death_told change.gone) delivery (deaths change.gone))
  where
    deaths : (o : Option Pid) → All P (death_told o)
    deaths None k d lt = absurd (omega arith)
    deaths (Some pid) zero d lt = gone pid
    deaths (Some pid) (suc k) d lt = absurd (omega arith)

all_delivery : (P : What → Type 0) → ((pid : Pid) (k : ℕ) → P (Irq pid k)) → (o : Option Delivery) → All P (delivery_told o)
all_delivery P irq None k d lt = absurd (omega arith)
all_delivery P irq (Some delivery) zero d lt = irq delivery.pid delivery.number
all_delivery P irq (Some delivery) (suc k) d lt = absurd (omega arith)

pub told_late : (n : ℕ) (change : Change) → All IsLate (change_told n change)
told_late n change =
    all_told IsLate (λ id words. omega arith) (λ pid. omega arith) n change (all_delivery IsLate (λ pid k. omega arith) change.delivery)

-- ---- a change

pub change_ordered : (n : ℕ) (change : Change) → IsOrdered (change_told n change)
change_ordered n change =
    pairs_append IsBefore (replies n change.answers) (delivery_told change.delivery ++ death_told change.gone) (replies_ordered n change.answers)
    (pairs_append IsBefore (delivery_told change.delivery) (death_told change.gone) (one_delivery change.delivery) (one_death change.gone)
    (all_delivery (λ x. All (IsBefore x) (death_told change.gone)) (λ pid k. irq_before_death pid k change.gone) change.delivery))
    (all_replies (λ x. All (IsBefore x) (delivery_told change.delivery ++ death_told change.gone))
    (λ id words. All-append (IsBefore (Reply id words)) (delivery_told change.delivery) (death_told change.gone)
    (all_delivery (IsBefore (Reply id words)) (λ pid k. inl (omega arith)) change.delivery) (reply_before_death id words change.gone))
    change.answers (listed_ids n (λ id. is_some (change.answers id))))
  where
    one_delivery : (o : Option Delivery) → IsOrdered (delivery_told o)
    one_delivery None = pairs_none IsBefore
    one_delivery (Some d) = pairs_one IsBefore (Irq d.pid d.number)

    one_death : (o : Option Pid) → IsOrdered (death_told o)
    one_death None = pairs_none IsBefore
    one_death (Some pid) = pairs_one IsBefore (Gone pid)

    irq_before_death : (pid : Pid) (k : ℕ) (o : Option Pid) → All (IsBefore (Irq pid k)) (death_told o)
    irq_before_death pid k None j d lt = absurd (omega arith)
    irq_before_death pid k (Some dead) zero d lt = inl (omega arith)
    irq_before_death pid k (Some dead) (suc j) d lt = absurd (omega arith)

    reply_before_death : (id : ThreadId) (words : List ℕ) (o : Option Pid) → All (IsBefore (Reply id words)) (death_told o)
    reply_before_death id words None j d lt = absurd (omega arith)
    reply_before_death id words (Some dead) zero d lt = inl (omega arith)
    reply_before_death id words (Some dead) (suc j) d lt = absurd (omega arith)

pub settled_ordered : (change : Change) → IsOrdered (settled change).told
unfolding settled
settled_ordered change = change_ordered change.machine.processes change

pub settled_late : (change : Change) → All IsLate (settled change).told
unfolding settled
settled_late change = told_late change.machine.processes change

-- one record of the first kind before late ones
pub first_ordered : (what : What) (told : List What) → (rank what).kind ≡ 0 → IsOrdered told → All (λ x. 1 ≤ (rank x).kind) told → IsOrdered (what ∷ told)
first_ordered what told e ordered late =
    AllPairs-cons IsBefore what told (λ k d lt. before (slice_index_or told k d) (late k d lt)) ordered
  where
    before : (x : What) → 1 ≤ (rank x).kind → IsBefore what x
    before x l = inl (omega arith)

-- ---- the timer's interrupt in its place

-- no interrupt of this process is told
abbrev pub IsNoIrqOf : Pid → What → Type 0
IsNoIrqOf pid what = (other : Pid) (k : ℕ) → what ≡ Irq other k → other.0 ≢ pid.0

pub all_with_irq : (P : What → Type 0) (d : Delivery) (told : List What) → P (Irq d.pid d.number) → All P told → All P (with_irq d told)
all_with_irq P d [] irq h = All-cons P (Irq d.pid d.number) [] irq h
all_with_irq P d (what ∷ told) irq h =
    go (all_with_irq P d told irq (λ k x lt. h (suc k) x (omega arith))) (stands_after_irq d.pid what)
  where
    go : All P (with_irq d told) → (b : Bool) → All P (if b then Irq d.pid d.number ∷ what ∷ told else what ∷ with_irq d told)
    go rest true zero x lt = irq
    go rest true (suc k) x lt = h k x (omega arith)
    go rest false zero x lt = h 0 what (omega arith)
    go rest false (suc k) x lt = rest k x (omega arith)

-- where it isn't put before a record, that one stands before it
stands_before : (d : Delivery) (what : What) → IsNoIrqOf d.pid what → stands_after_irq d.pid what ≡ false → IsBefore what (Irq d.pid d.number)
stands_before d (Call who words) none e = inl (omega arith)
stands_before d (Byte who byte) none e = inl (omega arith)
stands_before d (Fault who cause value) none e = inl (omega arith)
stands_before d (End who) none e = inl (omega arith)
stands_before d (Retry who) none e = inl (omega arith)
stands_before d (Reply who words) none e = inl (omega arith)
stands_before d (Gone pid) none e = absurd (false≢true (sym e))
stands_before d (Irq pid k) none e =
    let apart : pid.0 ≢ d.pid.0 = none pid k refl in
    let low : d.pid.0 < pid.0 → ⊥ = λ l. false≢true (sym e ∙ grind (arith, nat_tests)) in
    inr (refl, inl (less pid.0 d.pid.0 apart low))
  where
    less : (a b : ℕ) → a ≢ b → (b < a → ⊥) → a < b
    less a b apart low = elim (cases_lt a b) [
      | inl l ↦ l
      | inr m ↦ elim (cases_lt b a) [ inl l ↦ absurd (low l) | inr n ↦ absurd (apart (omega arith)) ]
    ]

-- where it is put before a record, it stands before it
stands_after : (d : Delivery) (what : What) → stands_after_irq d.pid what ≡ true → IsBefore (Irq d.pid d.number) what
stands_after d (Call who words) e = absurd (false≢true e)
stands_after d (Byte who byte) e = absurd (false≢true e)
stands_after d (Fault who cause value) e = absurd (false≢true e)
stands_after d (End who) e = absurd (false≢true e)
stands_after d (Retry who) e = absurd (false≢true e)
stands_after d (Reply who words) e = absurd (false≢true e)
stands_after d (Gone pid) e = inl (omega arith)
stands_after d (Irq pid k) e = inr (refl, inl (ltb-true d.pid.0 pid.0 e))

pub with_irq_ordered : (d : Delivery) (told : List What) → All (IsNoIrqOf d.pid) told → IsOrdered told → IsOrdered (with_irq d told)
with_irq_ordered d [] none ordered = pairs_one IsBefore (Irq d.pid d.number)
with_irq_ordered d (what ∷ told) none ordered =
    go (with_irq_ordered d told (λ k x lt. none (suc k) x (omega arith)) (pairs_tail IsBefore what told ordered)) (stands_after_irq d.pid what) refl
  where
    later : All (IsBefore what) told
    later = pairs_head IsBefore what told ordered

    go : IsOrdered (with_irq d told) → (b : Bool) → stands_after_irq d.pid what ≡ b → IsOrdered (if b then Irq d.pid d.number ∷ what ∷ told else what ∷ with_irq d told)
    go rest true e = AllPairs-cons IsBefore (Irq d.pid d.number) (what ∷ told) each ordered
      where
        here : IsBefore (Irq d.pid d.number) what
        here = stands_after d what e

        each : All (IsBefore (Irq d.pid d.number)) (what ∷ told)
        each zero x lt = here
        each (suc k) x lt =
            before_both (Irq d.pid d.number) what (slice_index_or told k x) here (later k x (omega arith))
    go rest false e =
        AllPairs-cons IsBefore what (with_irq d told)
        (all_with_irq (IsBefore what) d told (stands_before d what (none 0 what (omega arith)) e) later) rest

pub with_irq_if_ordered : (o : Option Delivery) (told : List What) → ((d : Delivery) → o ≡ Some d → All (IsNoIrqOf d.pid) told) → IsOrdered told
    → IsOrdered (with_irq_if o told)
with_irq_if_ordered None told none ordered = ordered
with_irq_if_ordered (Some d) told none ordered = with_irq_ordered d told (none d refl) ordered

-- How often what is told tells of a delivery, and what a change delivers of what is pending.
use Rattle.std.proofs.Common.{◌≡◌, ℕ, ◌+◌, Bool, true, false, List, [], ◌∷◌, ◌++◌, map, count_by, Option, Some, None, refl, ◌∙◌, arith}
use Rattle.std.specs.Prelude.{◌==◌, is_some, unwrap_or, if◌then◌else◌}
use Rattle.std.proofs.lemmas.List.Sums.{sum_by-append}
use Rattle.xk_base.specs.declared.ids.Pid.{Pid}
use Rattle.xk_base.specs.declared.ids.ThreadId.{ThreadId}
use Rattle.xk_base.specs.declared.records.Rec.{Rec}
use Rattle.xk_base.specs.declared.records.What.{What}
use Rattle.xk_base.specs.declared.records.What.TheVariants.{Irq, Reply}
use Rattle.xk_base.specs.Tables.Circle.{listed_ids}
use Rattle.machine_model.specs.State.Changes.{Change, Delivery, change_told, death_told, delivery_told, replies, settled}
use Rattle.machine_model.specs.State.Threads.{Answers}
use Rattle.machine_model.specs.Stepping.Step.{record_of}
use Rattle.machine_model.specs.Stepping.Timer.{stands_after_irq, with_irq, with_irq_if}
use Rattle.interrupt_laws.specs.Delivering.{deliveries, is_delivery, once_if}

module _ (k : ℕ) where
  -- how often it is told
  abbrev pub told_count : List What → ℕ
  told_count told = count_by (is_delivery k) told

  -- ---- counts

  pub told_count-append : (one two : List What) → told_count (one ++ two) ≡ told_count one + told_count two
  told_count-append = sum_by-append (λ what. once_if (is_delivery k what))

  pub told_more : (what : What) (told : List What) → told_count (what ∷ told) ≡ once_if (is_delivery k what) + told_count told
  told_more what told =
      let both : told_count (what ∷ told) ≡ told_count (what ∷ []) + told_count told = told_count-append (what ∷ []) told in
      let one : told_count (what ∷ []) ≡ 0 + once_if (is_delivery k what) = refl in
      omega arith

  pub deliveries-append : (one two : List Rec) → deliveries k (one ++ two) ≡ deliveries k one + deliveries k two
  deliveries-append = sum_by-append (λ rec. once_if (is_delivery k rec.what))

  deliveries_more : (rec : Rec) (records : List Rec) → deliveries k (rec ∷ records) ≡ once_if (is_delivery k rec.what) + deliveries k records
  deliveries_more rec records =
      let both : deliveries k (rec ∷ records) ≡ deliveries k (rec ∷ []) + deliveries k records = deliveries-append (rec ∷ []) records in
      let one : deliveries k (rec ∷ []) ≡ 0 + once_if (is_delivery k rec.what) = refl in
      omega arith

  -- as it is recorded
  pub deliveries-recorded : (n : ℕ) (told : List What) → deliveries k (map (record_of n) told) ≡ told_count told
  deliveries-recorded n [] = refl
  deliveries-recorded n (what ∷ told) =
      let later : deliveries k (map (record_of n) told) ≡ told_count told = deliveries-recorded n told in
      let whole : deliveries k (record_of n what ∷ map (record_of n) told) ≡ once_if (is_delivery k what) + deliveries k (map (record_of n) told) =
      deliveries_more (record_of n what) (map (record_of n) told) in
      let front : told_count (what ∷ told) ≡ once_if (is_delivery k what) + told_count told = told_more what told in
      omega arith

  -- ---- what changes tell

  no_reply : (answers : Answers) (ids : List ThreadId) → told_count (map (λ id. Reply id (unwrap_or (answers id) [])) ids) ≡ 0
  no_reply answers [] = refl
  no_reply answers (id ∷ ids) = no_reply answers ids

  no_death : (gone : Option Pid) → told_count (death_told gone) ≡ 0
  no_death None = refl
  no_death (Some pid) = refl

  unfoldable pub told_delivery : Option Delivery → ℕ
  told_delivery None = 0
  told_delivery (Some d) = once_if (d.number == k)

  of_delivery : (o : Option Delivery) → told_count (delivery_told o) ≡ told_delivery o
  unfolding told_delivery
  of_delivery None = refl
  of_delivery (Some d) = told_more (Irq d.pid d.number) [] ∙ omega arith

  -- a change tells of its delivery alone
  pub change_count : (processes : ℕ) (change : Change) → told_count (change_told processes change) ≡ told_delivery change.delivery
  change_count processes change =
      let answered = replies processes change.answers in
      let ended = death_told change.gone in
      let none : told_count answered ≡ 0 = no_reply change.answers (listed_ids processes (λ id. is_some (change.answers id))) in
      let gone : told_count ended ≡ 0 = no_death change.gone in
      let here : told_count (delivery_told change.delivery) ≡ told_delivery change.delivery = of_delivery change.delivery in
      let all : told_count (answered ++ (delivery_told change.delivery ++ ended)) ≡ told_count answered + told_count (delivery_told change.delivery ++ ended) =
      told_count-append answered (delivery_told change.delivery ++ ended) in
      let rest : told_count (delivery_told change.delivery ++ ended) ≡ told_count (delivery_told change.delivery) + told_count ended =
      told_count-append (delivery_told change.delivery) ended in
      omega arith

  pub settled_count : (change : Change) → told_count (settled change).told ≡ told_delivery change.delivery
  unfolding settled
  settled_count change = change_count change.machine.processes change

  -- the record that the timer puts in its place
  with_irq_next : (d : Delivery) (what : What) (told : List What) → told_count (with_irq d told) ≡ once_if (d.number == k) + told_count told
      → (b : Bool) → told_count (if b then Irq d.pid d.number ∷ what ∷ told else what ∷ with_irq d told) ≡ once_if (d.number == k) + told_count (what ∷ told)
  with_irq_next d what told later true = told_more (Irq d.pid d.number) (what ∷ told)
  with_irq_next d what told later false =
      let whole : told_count (what ∷ with_irq d told) ≡ once_if (is_delivery k what) + told_count (with_irq d told) = told_more what (with_irq d told) in
      let front : told_count (what ∷ told) ≡ once_if (is_delivery k what) + told_count told = told_more what told in
      omega arith

  with_irq_count : (d : Delivery) (told : List What) → told_count (with_irq d told) ≡ once_if (d.number == k) + told_count told
  with_irq_count d [] = told_more (Irq d.pid d.number) []
  with_irq_count d (what ∷ told) = with_irq_next d what told (with_irq_count d told) (stands_after_irq d.pid what)

  pub timed_count : (o : Option Delivery) (told : List What) → told_count (with_irq_if o told) ≡ told_delivery o + told_count told
  unfolding told_delivery
  timed_count None told = omega arith
  timed_count (Some d) told = with_irq_count d told

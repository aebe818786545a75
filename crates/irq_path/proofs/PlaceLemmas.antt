-- The place of an Irq record among those of its step.
use Rattle.std.proofs.Common.{◌≡◌, ℕ, suc, ◌+◌, ◌≤◌, Bool, true, false, List, [], ◌∷◌, ◌++◌, length, take, drop, map, refl, sym, ap, ◌∙◌, arith, append-nil, length-append}
use Rattle.std.specs.Prelude.{if◌then◌else◌}
use Rattle.std.proofs.lemmas.List.{drop_all, map-append, take-append-drop}
use Rattle.machine_model.specs.State.Changes.{Delivery}
use Rattle.machine_model.specs.Stepping.Step.{record_of}
use Rattle.machine_model.specs.Stepping.Timer.{stands_after_irq, with_irq}
use Rattle.xk_base.specs.Log.{LogState}
use Rattle.xk_base.specs.declared.records.Rec.{Rec}
use Rattle.xk_base.specs.declared.records.What.{What}
use Rattle.xk_base.specs.declared.records.What.TheVariants.{Irq}
use Rattle.irq_path.specs.Placing.{LogTells, irq_place, log_of, moved_to}

-- one that is moved past all others is last
moved_last : (place : ℕ) (moved : Rec) (xs : List Rec) → length xs ≤ place → moved_to place moved xs ≡ xs ++ moved ∷ []
moved_last place moved xs high =
    (λ i. front i ++ moved ∷ none i)
  where
    none : drop place xs ≡ []
    none = drop_all place xs high

    front : take place xs ≡ xs
    front = sym (append-nil (take place xs)) ∙ ap (λ ys. take place xs ++ ys) (sym none) ∙ take-append-drop place xs

module _ (d : Delivery) (step : ℕ) where
  abbrev irq : What
  irq = Irq d.pid d.number

  abbrev tells : List What → List Rec
  tells told = map (record_of step) told

  irq_placed : (told : List What)
      → tells (with_irq d told) ≡ moved_to (irq_place d.pid (tells told ++ record_of step irq ∷ [])) (record_of step irq) (tells told)
  irq_placed [] = sym (moved_last (irq_place d.pid (record_of step irq ∷ [])) (record_of step irq) [] (omega arith))
  irq_placed (what ∷ told) = go (stands_after_irq d.pid what) (irq_placed told)
    where
      go : (b : Bool) → tells (with_irq d told) ≡ moved_to (irq_place d.pid (tells told ++ record_of step irq ∷ [])) (record_of step irq) (tells told)
          → tells (if b then irq ∷ what ∷ told else what ∷ with_irq d told)
          ≡ moved_to (if b then 0 else suc (irq_place d.pid (tells told ++ record_of step irq ∷ []))) (record_of step irq) (record_of step what ∷ tells told)
      go true rest = refl
      go false rest = ap (λ xs. record_of step what ∷ xs) rest

-- ---- the last record of a log

module _ (log : LogState) (told : List What) (d : Delivery) (says : LogTells log (told ++ Irq d.pid d.number ∷ [])) where
  abbrev pub others : List Rec
  others = map (record_of log.step) told

  abbrev pub last : Rec
  last = record_of log.step (Irq d.pid d.number)

  pub last_is : log.records ≡ others ++ last ∷ []
  last_is = says ∙ map-append (record_of log.step) told (Irq d.pid d.number ∷ [])

  -- it went to its place
  pub goes_there : (place : ℕ) (new : LogState) → place ≡ irq_place d.pid log.records → new ≡ record log { records = moved_to place last others }
      → new ≡ log_of (with_irq d told) log
  goes_there place new e moved = moved ∙ (λ i. record log { records = there i })
    where
      there : moved_to place last others ≡ map (record_of log.step) (with_irq d told)
      there =
          ap (λ p. moved_to p last others) (e ∙ ap (irq_place d.pid) last_is)
          ∙ sym (irq_placed d log.step told)

  -- no record stands after it
  pub stays_last : (place : ℕ) → place ≡ irq_place d.pid log.records → length log.records ≤ place → log ≡ log_of (with_irq d told) log
  stays_last place e high = goes_there place log e (λ i. record log { records = (last_is ∙ sym (moved_last place last others low)) i })
    where
      long : length log.records ≡ length others + 1
      long = ap length last_is ∙ length-append others (last ∷ [])

      low : length others ≤ place
      low = omega (arith, long, high)

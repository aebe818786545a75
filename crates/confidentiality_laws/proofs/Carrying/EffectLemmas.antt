-- Every effect of a call carries bytes as they are, where zeros stay zeros.
use Rattle.std.proofs.Common.{◌≡◌, ℕ, true, false, List, refl, ap}
use Rattle.xk_base.specs.declared.pages.LoanKind.TheVariants.{Shared, Exclusive}
use Rattle.xk_base.specs.declared.messages.MsgKind.TheVariants.{LendMut, Lend, Move, Scalar, BlockingScalar}
use Rattle.ledger_model.specs.Ledger.{Ledger}
use Rattle.ledger_model.specs.Places.{in_run}
use Rattle.ledger_model.specs.Steps.{zero_page}
use Rattle.machine_model.specs.State.Changes.{Change}
use Rattle.machine_model.specs.State.Machine.{Machine}
use Rattle.machine_model.specs.State.Order.{next_ready, turn}
use Rattle.call_effects.specs.Effects.{Effect, Pages, HasHeap, Starts, Waits, Awaits, EndsTurn, Founds, Connects, TakesNumber, Serves, ClosesServers, Unqueues, Orphans, Forgets, Claims, Frees, PageStep, Maps, Removes, Reduces, Sends, Passes, Ends, apply, paged}
use Rattle.confidentiality_laws.proofs.Carrying.EndLemmas.{closed_through, forgotten_through, held_through, queued_through}
use Rattle.confidentiality_laws.proofs.Ledgers.OtherBytesLemmas.{machine_through, through}
use Rattle.confidentiality_laws.proofs.Ledgers.ThroughStepLemmas.{end_loan_through, give_through, lend_through, make_console_through}
use Rattle.confidentiality_laws.proofs.Ledgers.ThroughStepLemmas.{make_through, pass_through, reduce_through, remove_through}

module _ (g : List ℕ → List ℕ) (zeros : g zero_page ≡ zero_page) where
  paged_through : (step : PageStep) (l : Ledger) → through g (paged step l) ≡ paged step (through g l)
  paged_through (Maps false first n right) l = make_through g zeros first n right l
  paged_through (Maps true first n right) l = make_console_through g first right.w l
  paged_through (Removes first n) l = remove_through g (in_run first n) l
  paged_through (Reduces first n right) l = reduce_through g (in_run first n) right l
  paged_through (Sends LendMut from n to number) l = lend_through g from n to Exclusive number l
  paged_through (Sends Lend from n to number) l = lend_through g from n to Shared number l
  paged_through (Sends Move from n to number) l = give_through g from n to l
  paged_through (Sends Scalar from n to number) l = refl
  paged_through (Sends BlockingScalar from n to number) l = refl
  paged_through (Passes number from to) l = pass_through g number from to l
  paged_through (Ends number) l = end_loan_through g number l

  pub effect_through : (effect : Effect) (m : Machine) → machine_through g (apply effect m) ≡ apply effect (machine_through g m)
  unfolding turn next_ready
  effect_through (Pages step) m = ap (λ l. record m { ledger = l }) (paged_through step m.ledger)
  effect_through (HasHeap n) m = refl
  effect_through (Starts who thread) m = refl
  effect_through (Waits who state) m = refl
  effect_through (Awaits true number) m = refl
  effect_through (Awaits false number) m = refl
  effect_through EndsTurn m = refl
  effect_through (Founds server) m = refl
  effect_through (Connects serial) m = refl
  effect_through TakesNumber m = refl
  effect_through (Serves serial step) m = refl
  effect_through (ClosesServers which) m = ap (λ (change : Change). change.machine) (closed_through g which m)
  effect_through (Unqueues pid) m = queued_through g pid m
  effect_through (Orphans pid) m = held_through g pid m
  effect_through (Forgets pid) m = forgotten_through g pid m
  effect_through (Claims k claim) m = refl
  effect_through (Frees k) m = refl

-- A view over the pages that a process reaches is its memory as the machine has it.
use Rattle.std.proofs.Common.{◌≡◌, ℕ, Bool, true, false, Some, None, refl, sym, ap, ◌∙◌}
use Rattle.std.specs.Prelude.{not, ◌&&◌, ◌||◌, is_some, if◌then◌else◌}
use Rattle.std.specs.Option.{option_and_then, option_map_or}
use Rattle.xk_base.specs.declared.ids.Pid.{Pid}
use Rattle.xk_base.specs.declared.limits.TheConstants.{TIMER_INTERRUPT}
use Rattle.xk_base.specs.declared.pages.Access.{Access}
use Rattle.xk_base.specs.declared.pages.Access.TheVariants.{Load}
use Rattle.xk_base.specs.UserMemory.{Timer, in_timer_page}
use Rattle.ledger_model.specs.Ledger.{contents_of, has_bytes}
use Rattle.machine_model.specs.State.Machine.{Machine}
use Rattle.machine_model.specs.State.Views.{is_of_timer_page, memory_of, page_reached}
use Rattle.machine_model.specs.Stepping.Interrupts.{is_claim_of}
use Rattle.timer_device.specs.Page.{ReachesNothingThere, ViewIsMemory, is_served}

or_false : (b : Bool) → b || false ≡ b
or_false true = refl
or_false false = refl

-- an access by its tests: the page is there, the address lies in it, the page is for that access, and a page is reached there
access_is : (on inside served reached : Bool) (timer : Timer) → (inside ≡ true → reached ≡ false)
    → (if (on && inside) then served else reached)
    ≡ ((is_some (option_and_then (λ (t : Timer). if inside then Some t else None) (if on then Some timer else None)) && served) || reached)
access_is false inside served reached timer apart = refl
access_is true false served reached timer apart = refl
access_is true true served reached timer apart = sym (ap (λ b. served || b) (apart refl) ∙ or_false served)

console_is : (on inside console : Bool) → (inside ≡ true → console ≡ false) → (not (on && inside) && console) ≡ console
console_is false inside console apart = refl
console_is true false console apart = refl
console_is true true console apart = sym (apart refl)

module _ (m : Machine) (pid : Pid) (apart : ReachesNothingThere m pid) where
  abbrev on : Bool
  on = is_claim_of pid (m.claims TIMER_INTERRUPT)

  may_is : (access : Access) (address : ℕ)
      → (if is_served on address then is_of_timer_page access else is_some (page_reached m pid access address)) ≡ (memory_of m pid).may access address
  unfolding memory_of
  may_is access address =
      access_is on (in_timer_page address) (is_of_timer_page access) (is_some (page_reached m pid access address))
      (record { steps = m.steps; compare = m.compare }) (λ e. ap is_some (apart access address e))

  console_same : (address : ℕ) → (not (is_served on address) && (memory_of m pid).console address) ≡ (memory_of m pid).console address
  unfolding memory_of
  console_same address =
      console_is on (in_timer_page address) ((memory_of m pid).console address)
      (λ e. ap (λ o. option_map_or (λ contents. not (has_bytes contents)) (option_and_then (contents_of m.ledger) o) false) (apart Load address e))

  timer_is : (if on then Some (record { steps = m.steps; compare = m.compare }) else None) ≡ (memory_of m pid).timer
  unfolding memory_of
  timer_is = refl

pub view_is_memory : ViewIsMemory
view_is_memory m pid apart = record {
  may = λ i access address. may_is m pid apart access address i;
  console = λ i address. console_same m pid apart address i;
  timer = timer_is m pid apart;
}

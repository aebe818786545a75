-- What is reached at the console's home.
use Rattle.std.proofs.Common.{◌≡◌, ℕ, Some, None, ap, ◌∙◌}
use Rattle.std.specs.Prelude.{if◌then◌else◌}
use Rattle.xk_base.specs.declared.ids.Place.{Place}
use Rattle.xk_base.specs.declared.pages.Access.{Access}
use Rattle.xk_base.specs.declared.pages.Access.TheVariants.{Fetch, Load, Store}
use Rattle.ledger_model.specs.Lawful.{IsLawful}
use Rattle.ledger_model.specs.Ledger.{Ledger, Console, Page, Homed}
use Rattle.ledger_model.specs.Reach.{reach, home_may, owner_may}
use Rattle.ledger_model.proofs.ReachingLemmas.{reach-home}

-- the console has no loan, so its owner's right decides
console_reach : (procs capacity : ℕ) (l : Ledger) (p : Place) (page : Page) (access : Access)
    → IsLawful procs capacity l → l.home p ≡ Some page → page.contents ≡ Console
    → reach procs l p access ≡ (if owner_may page.right access then Some (Homed p) else None)
console_reach procs capacity l p page access h e s =
    reach-home procs l p page access e ∙ ap (λ x. if home_may page.right x access then Some (Homed p) else None) (h.console_no_loan p page e s)

pub console_load : (procs capacity : ℕ) (l : Ledger) (p : Place) (page : Page) → IsLawful procs capacity l
    → l.home p ≡ Some page → page.contents ≡ Console → reach procs l p Load ≡ Some (Homed p)
console_load procs capacity l p page h e s = console_reach procs capacity l p page Load h e s

pub console_store : (procs capacity : ℕ) (l : Ledger) (p : Place) (page : Page) → IsLawful procs capacity l
    → l.home p ≡ Some page → page.contents ≡ Console
    → reach procs l p Store ≡ (if page.right.w then Some (Homed p) else None)
console_store procs capacity l p page h e s = console_reach procs capacity l p page Store h e s

pub console_fetch : (procs capacity : ℕ) (l : Ledger) (p : Place) (page : Page) → IsLawful procs capacity l
    → l.home p ≡ Some page → page.contents ≡ Console → reach procs l p Fetch ≡ None
console_fetch procs capacity l p page h e s =
    console_reach procs capacity l p page Fetch h e s ∙ ap (λ x. if x then Some (Homed p) else None) (h.console_no_fetch p page e s)

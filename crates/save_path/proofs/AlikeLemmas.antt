-- A machine that is another but for the bytes of its pages is as matched.
use Rattle.std.proofs.Common.{◌≡◌, Option, Some, None, refl, sym, ap}
use Rattle.std.specs.Option.{option_map}
use Rattle.std.proofs.lemmas.Option.{none-some}
use Rattle.ledger_model.proofs.Pages.BareLemmas.{bare-lawful}
use Rattle.ledger_model.proofs.Stepping.WritingLemmas.{bare-loans}
use Rattle.ledger_model.specs.Ledger.{Ledger, Page}
use Rattle.ledger_model.specs.Loans.{bare, bare_page}
use Rattle.machine_laws.proofs.Calling.PageChangeLemmas.{IsLikeLedger, matched_on, stands_now}
use Rattle.machine_model.specs.Runs.Matched.{Matched}
use Rattle.machine_model.specs.State.Machine.{Machine}

bare_stood : (a b : Option Page) → option_map bare_page a ≡ option_map bare_page b → (page : Page) → a ≡ Some page
    → (q : Page) × (b ≡ Some q)
bare_stood None b e page q = absurd (none-some page q)
bare_stood (Some v) None e page q = absurd (none-some (bare_page v) (sym e))
bare_stood (Some v) (Some u) e page q = (u, refl)

like_bare : (m : Machine) (l : Ledger) → bare l ≡ bare m.ledger → Matched m → IsLikeLedger m l
unfolding bare
like_bare m l e h = record {
  lawful = bare-lawful m.processes m.capacity m.ledger l e h.body.ledger.lawful;
  same = bare-loans m.ledger l e;
  stand = λ p page is.
      let old = bare_stood (l.home p) (m.ledger.home p) (ap (λ (b : Ledger). b.home p) e) page is in
      stands_now m h p old.0 old.1;
}

-- THE INVARIANT speaks of no bytes
pub matched_bare : (m : Machine) (l : Ledger) → bare l ≡ bare m.ledger → Matched m → Matched (record m { ledger = l })
matched_bare m l e h = matched_on l m (like_bare m l e h) h

-- Holders of pages on loan are of living processes exactly where a test of the rows holds.
use Rattle.std.proofs.Common.{◌≡◌, ℕ, Bool, true, cond, eqb, List, Option, Some, None, refl, sym, ap, subst, ◌∙◌, inl, inr, ◌↔◌}
use Rattle.std.specs.Prelude.{IsTrue}
use Rattle.std.specs.List.{list_all}
use Rattle.std.proofs.lemmas.Bool.{cases_Bool}
use Rattle.xk_base.specs.declared.ids.Place.{Place}
use Rattle.ledger_model.specs.Ledger.{Ledger, Page, PageLoan, loan_of, loan_at}
use Rattle.machine_model.specs.State.Machine.{Process}
use Rattle.machine_model.specs.Runs.Matched.{is_alive}
use Rattle.snapshot_rows.specs.declared.state.OrphanRow.{OrphanRow}
use Rattle.snapshot_rows.specs.declared.state.PageRow.{PageRow}
use Rattle.snapshot_rows.specs.declared.state.ProcRow.{ProcRow}
use Rattle.snapshot_rows.specs.Order.{page_key, AscendInTwo}
use Rattle.snapshot_rows.specs.Machines.{place_at, loan_kind_of, processes_of, ledger_page, ledger_of}
use Rattle.snapshot_rows.specs.PageParts.{is_holder_living}
use Rattle.snapshot_rows.proofs.KeyLemmas.{some, some_same, either}
use Rattle.snapshot_rows.proofs.Pages.PageLemmas.{pages_told}

-- part 1 of the holders of pages on loan
abbrev pub AreHoldersLiving : (ℕ → Process) → Ledger → Type 0
AreHoldersLiving process ledger = (p : Place) (loan : PageLoan) → loan_at ledger p ≡ Some loan → IsTrue (is_alive process loan.holder.pid)

-- the loan of a row that says one
abbrev pub loan_row : PageRow → PageLoan
loan_row p = record { holder = place_at p.holder_pid p.holder_page; kind = loan_kind_of p.kind; number = record { 0 = p.number } }

abbrev pub no_loan : Option PageLoan
no_loan = None

IsHeld : List ProcRow → Page → Type 0
IsHeld procs page = (loan : PageLoan) → page.loan ≡ Some loan → IsTrue (processes_of procs loan.holder.pid.0).alive

pub none_some : {A : Type 0} (loan : PageLoan) → no_loan ≡ some loan → A
none_some loan e = absurd cc

holder_told : (file : List ℕ) (procs : List ProcRow) (p : PageRow) → IsTrue (is_holder_living procs p) ↔ IsHeld procs (ledger_page file p)
unfolding IsHeld
holder_told file procs p =
    let says = λ (b : Bool). cond b no_loan (some (loan_row p)) in
    elim (cases_Bool (eqb p.kind 0)) [
      | inl none ↦ (λ holds loan e. none_some loan (sym (ap says none) ∙ e), λ held. rw none refl)
      | inr other ↦ (
        λ holds loan e.
            subst (λ (l : PageLoan). IsTrue (processes_of procs l.holder.pid.0).alive) (some_same (loan_row p) loan (sym (ap says other) ∙ e))
            (either (eqb p.kind 0) _ other holds),
        λ held. (let alive : (processes_of procs p.holder_pid).alive ≡ true = held (loan_row p) (ap says other) in rw (other, alive) refl),
      )
    ]

pub loaned : (o : Option Page) (loan : PageLoan) → loan_of o ≡ Some loan → (page : Page) × (o ≡ Some page) × (page.loan ≡ Some loan)
loaned None loan e = none_some loan e
loaned (Some page) loan e = (page, refl, e)

pub holders_told : (file : List ℕ) (orphans : List OrphanRow) (procs : List ProcRow) (rows : List PageRow) (told : Bool) → AscendInTwo page_key rows
    → told ≡ list_all (is_holder_living procs) rows → IsTrue told ↔ AreHoldersLiving (processes_of procs) (ledger_of file rows orphans)
unfolding IsHeld
holders_told file orphans procs rows told ascend is =
    let each = pages_told file orphans (is_holder_living procs) (λ at page. IsHeld procs page) (holder_told file procs) rows ascend in (
      λ holds at loan e. (
          let page = loaned ((ledger_of file rows orphans).home at) loan e in
          each.0 (sym is ∙ holds) at page.0 page.1 loan page.2
          ),
      λ living. is ∙ each.1 (λ at page e loan on. living at loan (ap loan_of e ∙ on)),
    )

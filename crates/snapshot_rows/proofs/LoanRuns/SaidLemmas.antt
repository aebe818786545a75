-- The loans and orphans of a ledger are those that the rows say, each page on loan a run of one.
use Rattle.std.proofs.Common.{◌≡◌, ℕ, ◌+◌, Bool, true, false, cond, eqb, List, [], ◌∷◌, map, Option, Some, None, refl, sym, ap, subst, ◌∙◌, inl, inr}
use Rattle.std.specs.List.{find, flat_map, AllByRecursion}
use Rattle.std.specs.Option.{option_map}
use Rattle.std.proofs.lemmas.Bool.{cases_Bool}
use Rattle.xk_base.specs.declared.ids.Place.{Place}
use Rattle.xk_base.specs.declared.pages.LoanKind.{LoanKind}
use Rattle.xk_base.specs.declared.pages.LoanKind.TheVariants.{Shared, Exclusive}
use Rattle.ledger_model.specs.Ledger.{PageLoan, loan_of}
use Rattle.ledger_model.specs.Loans.{Loans, OrphanLoan, loan_of_orphan, loans}
use Rattle.snapshot_rows.specs.declared.state.OrphanRow.{OrphanRow}
use Rattle.snapshot_rows.specs.declared.state.PageRow.{PageRow}
use Rattle.snapshot_rows.specs.declared.runs.Run.{Run}
use Rattle.snapshot_rows.specs.Order.{page_key, orphan_key, AreInOrder, AscendInTwo}
use Rattle.snapshot_rows.specs.Machines.{place_at, ledger_page, ledger_orphan, ledger_of}
use Rattle.snapshot_rows.specs.RunParts.{run_of, orphan_run}
use Rattle.snapshot_rows.proofs.KeyLemmas.{some, pair_is, less_apart}
use Rattle.snapshot_rows.proofs.Pages.HolderLemmas.{loan_row, no_loan}
use Rattle.snapshot_rows.proofs.Pages.OrphanLemmas.{OrphanForm, is_orphan}
use Rattle.snapshot_rows.proofs.Pages.PageLemmas.{PageForm, is_page}
use Rattle.snapshot_rows.proofs.LoanRuns.RunLemmas.{is_run, Ascending, lower_first, run_above, IsSingle}

-- ---- what a run of one says

abbrev pub kind_said : Run → LoanKind
kind_said r = cond r.shared Shared Exclusive

abbrev pub loan_said : Run → PageLoan
loan_said r = record { holder = place_at r.holder_pid r.holder_page; kind = kind_said r; number = record { 0 = r.number } }

abbrev pub orphan_said : Run → OrphanLoan
orphan_said r = record { kind = kind_said r; number = record { 0 = r.number } }

-- an orphan has its holder's place alone
pub record IsAlone (r : Run) : Type 0 where
  pub pid : r.holder_pid ≡ r.pid
  pub page : r.holder_page ≡ r.page

abbrev pub key_of : Place → ℕ × ℕ
key_of p = (p.pid.0, p.vpn.0)

-- the loans that pages at `homes` and orphans at `left` say, each a run of one, in order of their places
pub record Says (all : Loans) (homes left : List Run) : Type 0 where
  pub home : (p : Place) → all.home p ≡ option_map loan_said (find (is_run (key_of p)) homes)
  pub orphan : (p : Place) → all.orphan p ≡ option_map orphan_said (find (is_run (key_of p)) left)
  pub homes_ascend : Ascending None homes
  pub left_ascend : Ascending None left
  pub homes_single : AllByRecursion IsSingle homes
  pub left_single : AllByRecursion IsSingle left
  pub left_alone : AllByRecursion IsAlone left

-- ---- pages

abbrev lent : List PageRow → List Run
lent rows = flat_map run_of rows

abbrev one_of : PageRow → Run
one_of p = record { pid = p.pid; page = p.page; holder_pid = p.holder_pid; holder_page = p.holder_page; end = p.holder_page + 1; shared = eqb p.kind 1; number = p.number }

first_free : (r : PageRow) (rows : List PageRow) → eqb r.kind 0 ≡ true → lent (r ∷ rows) ≡ lent rows
first_free r rows free = rw free refl

first_lent : (r : PageRow) (rows : List PageRow) → eqb r.kind 0 ≡ false → lent (r ∷ rows) ≡ one_of r ∷ lent rows
first_lent r rows on = rw on refl

lent_ascend : (before : Option (ℕ × ℕ)) (rows : List PageRow) → AreInOrder PageForm page_key before rows → Ascending before (lent rows)
lent_ascend before [] forms = tt
lent_ascend before (r ∷ rows) forms =
    let own = lent_ascend (Some (page_key r)) rows forms.1 in
    elim (cases_Bool (eqb r.kind 0)) [
      | inl free ↦ subst (Ascending before) (sym (first_free r rows free)) (lower_first before (one_of r) (lent rows) forms.0 own)
      | inr on ↦ subst (Ascending before) (sym (first_lent r rows on)) (forms.0, own)
    ]

lent_single : (rows : List PageRow) → AllByRecursion IsSingle (lent rows)
lent_single [] = tt
lent_single (r ∷ rows) = elim (cases_Bool (eqb r.kind 0)) [
  | inl free ↦ subst (AllByRecursion IsSingle) (sym (first_free r rows free)) (lent_single rows)
  | inr on ↦ subst (AllByRecursion IsSingle) (sym (first_lent r rows on)) (refl, lent_single rows)
]

-- what stands behind a key isn't found at it
none_at : (k : ℕ × ℕ) (runs : List Run) → Ascending (Some k) runs → (o : Option Run) → find (is_run k) runs ≡ o → option_map loan_said o ≡ None
none_at k runs forms None e = refl
none_at k runs forms (Some r) e = absurd (less_apart k (run_above k k runs r forms e))

homes_said : (file : List ℕ) (k : ℕ × ℕ) (before : Option (ℕ × ℕ)) (rows : List PageRow) → AreInOrder PageForm page_key before rows
    → loan_of (option_map (ledger_page file) (find (is_page k) rows)) ≡ option_map loan_said (find (is_run k) (lent rows))
homes_said file k before [] forms = refl
homes_said file k before (r ∷ rows) forms =
    let others = homes_said file k (Some (page_key r)) rows forms.1 in
    let look = λ (b : Bool). loan_of (option_map (ledger_page file) (cond b (some r) (find (is_page k) rows))) in
    let says = λ (b : Bool). cond b no_loan (some (loan_row r)) in
    elim (cases_Bool (eqb r.kind 0)) [
      | inl free ↦ (
          let goal = λ (z : List Run). loan_of (option_map (ledger_page file) (find (is_page k) (r ∷ rows))) ≡ option_map loan_said (find (is_run k) z) in
          elim (cases_Bool (is_page k r)) [
            | inl is ↦ (
                let above : Ascending (Some k) (lent rows) = subst (λ (z : ℕ × ℕ). Ascending (Some z) (lent rows)) (pair_is page_key k r is)
                (lent_ascend (Some (page_key r)) rows forms.1) in
                subst goal (sym (first_free r rows free)) (ap look is ∙ ap says free ∙ sym (none_at k (lent rows) above (find (is_run k) (lent rows)) refl))
                )
            | inr isnt ↦ subst goal (sym (first_free r rows free)) (ap look isnt ∙ others)
          ]
          )
      | inr on ↦ (
          let goal = λ (z : List Run). loan_of (option_map (ledger_page file) (find (is_page k) (r ∷ rows))) ≡ option_map loan_said (find (is_run k) z) in
          let found = λ (b : Bool). option_map loan_said (cond b (some (one_of r)) (find (is_run k) (lent rows))) in
          elim (cases_Bool (is_page k r)) [
            | inl is ↦ subst goal (sym (first_lent r rows on)) (ap look is ∙ ap says on ∙ sym (ap found is))
            | inr isnt ↦ subst goal (sym (first_lent r rows on)) (ap look isnt ∙ others ∙ sym (ap found isnt))
          ]
          )
    ]

-- ---- orphans

left_ascend_of : (before : Option (ℕ × ℕ)) (rows : List OrphanRow) → AreInOrder OrphanForm orphan_key before rows → Ascending before (map orphan_run rows)
left_ascend_of before [] forms = tt
left_ascend_of before (o ∷ rows) forms = (forms.0, left_ascend_of (Some (orphan_key o)) rows forms.1)

left_single_of : (rows : List OrphanRow) → AllByRecursion IsSingle (map orphan_run rows)
left_single_of [] = tt
left_single_of (o ∷ rows) = (refl, left_single_of rows)

left_alone_of : (rows : List OrphanRow) → AllByRecursion IsAlone (map orphan_run rows)
left_alone_of [] = tt
left_alone_of (o ∷ rows) = (record { pid = refl; page = refl }, left_alone_of rows)

orphans_said : (file : List ℕ) (k : ℕ × ℕ) (rows : List OrphanRow)
    → option_map loan_of_orphan (option_map (ledger_orphan file) (find (is_orphan k) rows)) ≡ option_map orphan_said (find (is_run k) (map orphan_run rows))
orphans_said file k [] = refl
orphans_said file k (o ∷ rows) =
    let look = λ (b : Bool). option_map loan_of_orphan (option_map (ledger_orphan file) (cond b (some o) (find (is_orphan k) rows))) in
    let found = λ (b : Bool). option_map orphan_said (cond b (some (orphan_run o)) (find (is_run k) (map orphan_run rows))) in
    elim (cases_Bool (is_orphan k o)) [
      | inl is ↦ ap look is ∙ sym (ap found is)
      | inr isnt ↦ ap look isnt ∙ orphans_said file k rows ∙ sym (ap found isnt)
    ]

-- ---- all

pub says_of : (file : List ℕ) (pages : List PageRow) (orphans : List OrphanRow) → AscendInTwo page_key pages → AscendInTwo orphan_key orphans
    → Says (loans (ledger_of file pages orphans)) (flat_map run_of pages) (map orphan_run orphans)
unfolding loans
says_of file pages orphans pages_ascend orphans_ascend = record {
  home = λ p. homes_said file (key_of p) None pages pages_ascend;
  orphan = λ p. orphans_said file (key_of p) orphans;
  homes_ascend = lent_ascend None pages pages_ascend;
  left_ascend = left_ascend_of None orphans orphans_ascend;
  homes_single = lent_single pages;
  left_single = left_single_of orphans;
  left_alone = left_alone_of orphans;
}

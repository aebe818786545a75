-- Pages stand where they may, each looked at alone, exactly where a test of the rows holds.
use Rattle.std.proofs.Common.{◌≡◌, ℕ, ◌/◌, ◌%◌, Bool, true, false, not, cond, eqb, ltb, List, Some, None, refl, sym, ap, subst, ◌∙◌, inl, inr, ◌↔◌}
use Rattle.std.specs.Prelude.{◌&&◌, ◌||◌, IsTrue}
use Rattle.std.specs.List.{list_all}
use Rattle.std.proofs.lemmas.Bool.{cases_Bool, and_parts, eqb-true, eq-eqb}
use Rattle.xk_base.specs.declared.ids.Place.{Place}
use Rattle.xk_base.specs.declared.pages.LoanKind.{LoanKind}
use Rattle.xk_base.specs.declared.pages.LoanKind.TheVariants.{Shared, Exclusive}
use Rattle.xk_base.specs.declared.windows.Window.TheVariants.{Message, Map}
use Rattle.ledger_model.specs.Ledger.{Contents, Console, Bytes, Page, PageLoan, Ledger, loan_of, loan_at}
use Rattle.ledger_model.specs.Places.{is_user_place, is_place_in}
use Rattle.snapshot_rows.specs.declared.state.OrphanRow.{OrphanRow}
use Rattle.snapshot_rows.specs.declared.state.PageRow.{PageRow}
use Rattle.snapshot_rows.specs.Order.{page_key, AscendInTwo}
use Rattle.snapshot_rows.specs.Machines.{contents_at, place_at, page_loan, ledger_page, ledger_of}
use Rattle.snapshot_rows.specs.PageParts.{is_page_placed, is_console_at, is_only_console}
use Rattle.snapshot_rows.proofs.KeyLemmas.{some, some_same, either}
use Rattle.snapshot_rows.proofs.Pages.HolderLemmas.{loan_row, no_loan, none_some, loaned}
use Rattle.snapshot_rows.proofs.Pages.PageLemmas.{pages_told}

-- part 1 of pages, each looked at alone
pub record ArePagesPlaced (n : ℕ) (ledger : Ledger) : Type 0 where
  pub home_lies : (p : Place) (page : Page) → ledger.home p ≡ Some page → IsTrue (is_user_place n p)
  pub holder_lies : (p : Place) (loan : PageLoan) → loan_at ledger p ≡ Some loan → IsTrue (is_place_in n Message loan.holder)
  pub console_lies : (p : Place) (page : Page) → ledger.home p ≡ Some page → page.contents ≡ Console → IsTrue (is_place_in n Map p)
  pub console_no_loan : (p : Place) (page : Page) → ledger.home p ≡ Some page → page.contents ≡ Console → page.loan ≡ None
  pub console_no_fetch : (p : Place) (page : Page) → ledger.home p ≡ Some page → page.contents ≡ Console → page.right.x ≡ false
  pub exclusive_writable : (p : Place) (page : Page) (loan : PageLoan) → ledger.home p ≡ Some page → page.loan ≡ Some loan
      → loan.kind ≡ Exclusive → page.right.w ≡ true

-- part 1 of the console: there is at most one
abbrev pub HasOneConsole : Ledger → Type 0
HasOneConsole ledger =
    (p q : Place) (a b : Page) → ledger.home p ≡ Some a → ledger.home q ≡ Some b → a.contents ≡ Console → b.contents ≡ Console → p ≡ q

-- ---- of a page on loan

unfoldable pub OnLoan : (PageLoan → Type 0) → Page → Type 0
OnLoan Q page = (loan : PageLoan) → page.loan ≡ Some loan → Q loan

pub on_loan : (file : List ℕ) (Q : PageLoan → Type 0) (p : PageRow) (good : Bool) → (IsTrue good ↔ Q (loan_row p))
    → IsTrue (eqb p.kind 0 || good) ↔ OnLoan Q (ledger_page file p)
unfolding OnLoan
on_loan file Q p good tells =
    let says = λ (b : Bool). cond b no_loan (some (loan_row p)) in
    elim (cases_Bool (eqb p.kind 0)) [
      | inl none ↦ (λ holds loan e. none_some loan (sym (ap says none) ∙ e), λ on. rw none refl)
      | inr other ↦ (
        λ holds loan e. subst (λ (l : PageLoan). Q l) (some_same (loan_row p) loan (sym (ap says other) ∙ e)) (tells.0 (either (eqb p.kind 0) good other holds)),
        λ on. (let is : good ≡ true = tells.1 (on (loan_row p) (ap says other)) in rw (other, is) refl),
      )
    ]

-- ---- of the console

IfConsole : Type 0 → Page → Type 0
IfConsole Q page = page.contents ≡ Console → Q

bytes_console : {A : Type 0} (bytes : List ℕ) → Bytes bytes ≡ Console → A
bytes_console bytes e = absurd cc

if_console : (file : List ℕ) (Q : Type 0) (p : PageRow) (good : Bool) → (IsTrue good ↔ Q) → IsTrue (ltb p.right 4 || good) ↔ IfConsole Q (ledger_page file p)
unfolding IfConsole
if_console file Q p good tells =
    let says : Bool → Contents = λ (b : Bool). cond b (Bytes (contents_at file p.from)) Console in
    elim (cases_Bool (ltb p.right 4)) [
      | inl bytes ↦ (λ holds e. bytes_console (contents_at file p.from) (sym (ap says bytes) ∙ e), λ on. rw bytes refl)
      | inr console ↦ (
        λ holds e. tells.0 (either (ltb p.right 4) good console holds),
        λ on. (let is : good ≡ true = tells.1 (on (ap says console)) in rw (console, is) refl),
      )
    ]

no_loan_told : (p : PageRow) → IsTrue (eqb p.kind 0) ↔ page_loan p ≡ no_loan
no_loan_told p =
    let says = λ (b : Bool). cond b no_loan (some (loan_row p)) in
    elim (cases_Bool (eqb p.kind 0)) [
      | inl none ↦ (λ holds. ap says none, λ e. none)
      | inr other ↦ (λ holds. ap says holds, λ e. none_some (loan_row p) (sym e ∙ ap says other))
    ]

not_told : (b : Bool) → IsTrue (not b) ↔ b ≡ false
not_told true = (λ e. absurd cc, λ e. absurd cc)
not_told false = (λ e. refl, λ e. refl)

pub both : {P Q : Type 0} (a b : Bool) → (IsTrue a ↔ P) → (IsTrue b ↔ Q) → IsTrue (a && b) ↔ (P × Q)
both true true p q = (λ holds. (p.0 refl, q.0 refl), λ pq. refl)
both true false p q = (λ holds. absurd cc, λ pq. q.1 pq.1)
both false b p q = (λ holds. absurd cc, λ pq. p.1 pq.0)

same : (b : Bool) → IsTrue b ↔ IsTrue b
same b = (λ x. x, λ x. x)

-- ---- of the kind of a loan

IsWritable : Bool → PageLoan → Type 0
IsWritable w loan = loan.kind ≡ Exclusive → w ≡ true

shared_exclusive : {A : Type 0} → Shared ≡ Exclusive → A
shared_exclusive e = absurd cc

writable_told : (p : PageRow) → IsTrue (eqb p.kind 1 || eqb (p.right % 2) 1) ↔ IsWritable (eqb (p.right % 2) 1) (loan_row p)
unfolding IsWritable
writable_told p =
    let says : Bool → LoanKind = λ (b : Bool). cond b Shared Exclusive in
    elim (cases_Bool (eqb p.kind 1)) [
      | inl shared ↦ (λ holds e. shared_exclusive (sym (ap says shared) ∙ e), λ w. rw shared refl)
      | inr exclusive ↦ (
        λ holds e. either (eqb p.kind 1) _ exclusive holds,
        λ w. (let is : eqb (p.right % 2) 1 ≡ true = w (ap says exclusive) in rw (exclusive, is) refl),
      )
    ]

-- ---- all that is asked of one page

ConsoleAt : ℕ → Place → Page → Type 0
ConsoleAt n at page = IsTrue (is_place_in n Map at) × ((page.loan ≡ no_loan) × (page.right.x ≡ false))

IsPlaced : ℕ → Place → Page → Type 0
IsPlaced n at page =
    IsTrue (is_user_place n at)
    × (OnLoan (λ loan. IsTrue (is_place_in n Message loan.holder)) page
    × (IfConsole (ConsoleAt n at page) page × OnLoan (IsWritable page.right.w) page))

console_told : (n : ℕ) (file : List ℕ) (p : PageRow)
    → IsTrue (is_place_in n Map (place_at p.pid p.page) && (eqb p.kind 0 && not (eqb (p.right / 2 % 2) 1))) ↔ ConsoleAt n (place_at p.pid p.page) (ledger_page file p)
unfolding ConsoleAt
console_told n file p = both _ _ (same _) (both _ _ (no_loan_told p) (not_told _))

placed_told : (n : ℕ) (file : List ℕ) (p : PageRow) → IsTrue (is_page_placed n p) ↔ IsPlaced n (place_at p.pid p.page) (ledger_page file p)
unfolding IsPlaced
placed_told n file p =
    both _ _ (same _)
    (both _ _ (on_loan file (λ loan. IsTrue (is_place_in n Message loan.holder)) p _ (same _))
    (both _ _ (if_console file (ConsoleAt n (place_at p.pid p.page) (ledger_page file p)) p _ (console_told n file p))
    (on_loan file (IsWritable (eqb (p.right % 2) 1)) p _ (writable_told p))))

pub pages_placed_told : (n : ℕ) (file : List ℕ) (orphans : List OrphanRow) (rows : List PageRow) (told : Bool) → AscendInTwo page_key rows
    → told ≡ list_all (is_page_placed n) rows → IsTrue told ↔ ArePagesPlaced n (ledger_of file rows orphans)
unfolding IsPlaced ConsoleAt OnLoan IfConsole IsWritable
pages_placed_told n file orphans rows told ascend is =
    let each = pages_told file orphans (is_page_placed n) (IsPlaced n) (placed_told n file) rows ascend in (
      λ holds. (
          let all = each.0 (sym is ∙ holds) in
          record {
            home_lies = λ at page e. (all at page e).0;
            holder_lies = λ at loan e. (
                let page = loaned ((ledger_of file rows orphans).home at) loan e in
                (all at page.0 page.1).1.0 loan page.2
                );
            console_lies = λ at page e console. ((all at page e).1.1.0 console).0;
            console_no_loan = λ at page e console. ((all at page e).1.1.0 console).1.0;
            console_no_fetch = λ at page e console. ((all at page e).1.1.0 console).1.1;
            exclusive_writable = λ at page loan e on kind. (all at page e).1.1.1 loan on kind;
          }
          ),
      λ placed. (
          is ∙ each.1 (λ at page e. (
            placed.home_lies at page e,
            (
              λ loan on. placed.holder_lies at loan (ap loan_of e ∙ on),
              (
                λ console. (placed.console_lies at page e console, (placed.console_no_loan at page e console, placed.console_no_fetch at page e console)),
                λ loan on kind. placed.exclusive_writable at page loan e on kind,
              ),
            ),
          ))
          ),
    )

-- ---- one console

IsAt : Place → Place → Page → Type 0
IsAt c at page = IfConsole (c ≡ at) page

IsOnly : List ℕ → List OrphanRow → List PageRow → Place → Page → Type 0
IsOnly file orphans rows at page =
    IfConsole ((other : Place) (b : Page) → (ledger_of file rows orphans).home other ≡ Some b → IsAt at other b) page

place_told : (c p : PageRow) → IsTrue (eqb p.pid c.pid && eqb p.page c.page) ↔ place_at c.pid c.page ≡ place_at p.pid p.page
place_told c p = (
  λ holds. (
      let both = and_parts (eqb p.pid c.pid) (eqb p.page c.page) holds in
      let pid = eqb-true p.pid c.pid both.0 in
      let page = eqb-true p.page c.page both.1 in
      ap (λ (n : ℕ). place_at n c.page) (sym pid) ∙ ap (λ (n : ℕ). place_at p.pid n) (sym page)
      ),
  λ e. (
      let pid : eqb p.pid c.pid ≡ true = eq-eqb p.pid c.pid (sym (ap (λ (at : Place). at.pid.0) e)) in
      let page : eqb p.page c.page ≡ true = eq-eqb p.page c.page (sym (ap (λ (at : Place). at.vpn.0) e)) in
      rw (pid, page) refl
      ),
)

console_at_told : (file : List ℕ) (c p : PageRow) → IsTrue (is_console_at c p) ↔ IsAt (place_at c.pid c.page) (place_at p.pid p.page) (ledger_page file p)
unfolding IsAt
console_at_told file c p = if_console file (place_at c.pid c.page ≡ place_at p.pid p.page) p _ (place_told c p)

only_told : (file : List ℕ) (orphans : List OrphanRow) (rows : List PageRow) → AscendInTwo page_key rows → (c : PageRow)
    → IsTrue (is_only_console rows c) ↔ IsOnly file orphans rows (place_at c.pid c.page) (ledger_page file c)
unfolding IsOnly
only_told file orphans rows ascend c =
    if_console file ((other : Place) (b : Page) → (ledger_of file rows orphans).home other ≡ Some b → IsAt (place_at c.pid c.page) other b) c _
    (pages_told file orphans (is_console_at c) (IsAt (place_at c.pid c.page)) (console_at_told file c) rows ascend)

pub one_console_told : (file : List ℕ) (orphans : List OrphanRow) (rows : List PageRow) (told : Bool) → AscendInTwo page_key rows
    → told ≡ list_all (is_only_console rows) rows → IsTrue told ↔ HasOneConsole (ledger_of file rows orphans)
unfolding IsOnly IsAt IfConsole
one_console_told file orphans rows told ascend is =
    let each = pages_told file orphans (is_only_console rows) (IsOnly file orphans rows) (only_told file orphans rows ascend) rows ascend in
    (λ holds p q a b here there one other. each.0 (sym is ∙ holds) p a here one q b there other, λ only. is ∙ each.1 (λ at page e one other b there console. only at other page b e there one console))

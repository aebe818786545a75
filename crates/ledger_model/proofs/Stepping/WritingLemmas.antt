-- Laws of `write`, which changes bytes alone.
use Rattle.std.proofs.Common.{◌≡◌, ℕ, List, Option, Some, None, refl, sym, ap, subst, ◌∙◌, arith, inl, inr}
use Rattle.std.specs.Prelude.{is_some}
use Rattle.std.specs.Option.{option_map}
use Rattle.std.proofs.lemmas.Bool.{cases_Bool, cond-true, cond-false}
use Rattle.std.proofs.lemmas.Option.{none-some, same_Some}
use Rattle.ledger_model.specs.Conditions.{CanWrite}
use Rattle.ledger_model.specs.Lawful.{IsLawful}
use Rattle.ledger_model.specs.Ledger.{Ledger, Contents, Console, Bytes, Page, Orphan, PageName, Homed, Orphaned, loan_of, has_bytes, is_counted, pages}
use Rattle.ledger_model.specs.Loans.{bare, bare_page, bare_orphan, bare_contents, loans, loan_of_orphan}
use Rattle.ledger_model.specs.Places.{same_place, count_places}
use Rattle.ledger_model.specs.Steps.{write, written_contents, written_page, written_orphan}
use Rattle.ledger_model.proofs.LedgerLemmas.{if_same, same_ledger}
use Rattle.ledger_model.proofs.NarrowerLemmas.{ComesFrom, Narrower, same_page, lawful_narrower}
use Rattle.ledger_model.proofs.Loans.NumberingLemmas.{count_places-same}
use Rattle.ledger_model.proofs.Stepping.RemovingLemmas.{same_loans, same_runs}

-- ---- rights and loans stay

bare_contents-written : (offset : ℕ) (bytes : List ℕ) (c : Contents)
    → bare_contents (written_contents offset bytes c) ≡ bare_contents c
bare_contents-written offset bytes Console = refl
bare_contents-written offset bytes (Bytes old) = refl

bare_page-written : (offset : ℕ) (bytes : List ℕ) (o : Option Page)
    → option_map bare_page (option_map (written_page offset bytes) o) ≡ option_map bare_page o
bare_page-written offset bytes None = refl
bare_page-written offset bytes (Some page) = ap (λ c. Some (record page { contents = c })) (bare_contents-written offset bytes page.contents)

bare_orphan-written : (offset : ℕ) (bytes : List ℕ) (o : Option Orphan)
    → option_map bare_orphan (option_map (written_orphan offset bytes) o) ≡ option_map bare_orphan o
bare_orphan-written offset bytes None = refl
bare_orphan-written offset bytes (Some orphan) = refl

-- a write changes bytes alone
pub write_bare : (name : PageName) (offset : ℕ) (bytes : List ℕ) (l : Ledger)
    → bare (write name offset bytes l) ≡ bare l
unfolding write bare
write_bare (Homed place) offset bytes l = same_ledger (bare (write (Homed place) offset bytes l)) (bare l)
    (λ p. if_same (same_place p place) (option_map bare_page) (option_map (written_page offset bytes) (l.home p)) (l.home p) (bare_page-written offset bytes (l.home p)))
    (λ p. refl)
write_bare (Orphaned place) offset bytes l = same_ledger (bare (write (Orphaned place) offset bytes l)) (bare l)
    (λ p. refl)
    (λ p. if_same (same_place p place) (option_map bare_orphan) (option_map (written_orphan offset bytes) (l.orphan p)) (l.orphan p) (bare_orphan-written offset bytes (l.orphan p)))

-- ---- what ledgers with equal rights and loans have in common

bare-loan : (o : Option Page) → loan_of (option_map bare_page o) ≡ loan_of o
bare-loan None = refl
bare-loan (Some page) = refl

bare-orphan_loan : (o : Option Orphan)
    → option_map loan_of_orphan (option_map bare_orphan o) ≡ option_map loan_of_orphan o
bare-orphan_loan None = refl
bare-orphan_loan (Some orphan) = refl

-- a ledger without its bytes has the same loans ..
loans-bare : (l : Ledger) → loans (bare l) ≡ loans l
unfolding bare
loans-bare l = same_loans l (bare l) (λ p. bare-loan (l.home p)) (λ p. bare-orphan_loan (l.orphan p))

pub bare-loans : (l m : Ledger) → bare m ≡ bare l → loans m ≡ loans l
bare-loans l m e = sym (loans-bare m) ∙ (ap loans e ∙ loans-bare l)

-- .. and as many pages
bare_contents-counted : (c : Contents) → has_bytes (bare_contents c) ≡ has_bytes c
bare_contents-counted Console = refl
bare_contents-counted (Bytes bytes) = refl

bare-counted : (o : Option Page) → is_counted (option_map bare_page o) ≡ is_counted o
bare-counted None = refl
bare-counted (Some page) = bare_contents-counted page.contents

bare-is_orphan : (o : Option Orphan) → is_some (option_map bare_orphan o) ≡ is_some o
bare-is_orphan None = refl
bare-is_orphan (Some orphan) = refl

pages-bare : (procs : ℕ) (l : Ledger) → pages procs (bare l) ≡ pages procs l
unfolding bare pages
pages-bare procs l =
    let homes : count_places procs (λ p. is_counted ((bare l).home p)) ≡ count_places procs (λ p. is_counted (l.home p)) =
    count_places-same procs (λ p. is_counted ((bare l).home p)) (λ p. is_counted (l.home p)) (λ p. bare-counted (l.home p)) in
    let orphans : count_places procs (λ p. is_some ((bare l).orphan p)) ≡ count_places procs (λ p. is_some (l.orphan p)) =
    count_places-same procs (λ p. is_some ((bare l).orphan p)) (λ p. is_some (l.orphan p)) (λ p. bare-is_orphan (l.orphan p)) in
    omega arith

pub bare-pages : (procs : ℕ) (l m : Ledger) → bare m ≡ bare l → pages procs m ≡ pages procs l
bare-pages procs l m e = sym (pages-bare procs m) ∙ (ap (pages procs) e ∙ pages-bare procs l)

-- ---- write

pub write_loans : (name : PageName) (offset : ℕ) (bytes : List ℕ) (l : Ledger)
    → loans (write name offset bytes l) ≡ loans l
write_loans name offset bytes l = bare-loans l (write name offset bytes l) (write_bare name offset bytes l)

pub write_pages : (procs : ℕ) (name : PageName) (offset : ℕ) (bytes : List ℕ) (l : Ledger)
    → pages procs (write name offset bytes l) ≡ pages procs l
write_pages procs name offset bytes l = bare-pages procs l (write name offset bytes l) (write_bare name offset bytes l)

written_from : (offset : ℕ) (bytes : List ℕ) (a : Page)
    → ComesFrom a (written_page offset bytes a)
written_from offset bytes a = record {
  console = written_console a.contents;
  fetch = λ c x. x;
  loan = λ x e. e;
  right = λ x e. refl;
}
  where
    written_console : (c : Contents) → written_contents offset bytes c ≡ Console → c ≡ Console
    written_console Console e = refl
    written_console (Bytes old) e = cc

written_home : (offset : ℕ) (bytes : List ℕ) (o : Option Page) (b : Page)
    → option_map (written_page offset bytes) o ≡ Some b → (a : Page) × (o ≡ Some a) × (written_page offset bytes a ≡ b)
written_home offset bytes None b e = absurd (none-some b e)
written_home offset bytes (Some a) b e = (a, refl, same_Some (written_page offset bytes a) b e)

written_at : (offset : ℕ) (bytes : List ℕ) (o : Option Orphan) (b : Orphan)
    → option_map (written_orphan offset bytes) o ≡ Some b
    → (a : Orphan) × (o ≡ Some a) × (written_orphan offset bytes a ≡ b)
written_at offset bytes None b e = absurd (none-some b e)
written_at offset bytes (Some a) b e = (a, refl, same_Some (written_orphan offset bytes a) b e)

write_narrower : (name : PageName) (offset : ℕ) (bytes : List ℕ) (l : Ledger)
    → Narrower l (write name offset bytes l)
unfolding write
write_narrower (Homed place) offset bytes l = record {
  homes = λ p b e. elim (cases_Bool (same_place p place)) [
    | inl here ↦
        let a : (a : Page) × (l.home p ≡ Some a) × (written_page offset bytes a ≡ b) =
        written_home offset bytes (l.home p) b (sym (cond-true (same_place p place) (option_map (written_page offset bytes) (l.home p)) (l.home p) here) ∙ e) in
        (a.0, a.1, subst (ComesFrom a.0) a.2 (written_from offset bytes a.0))
    | inr there ↦ (b, sym (cond-false (same_place p place) (option_map (written_page offset bytes) (l.home p)) (l.home p) there) ∙ e, same_page b)
  ];
  orphans = λ p b e. (b, e);
}
write_narrower (Orphaned place) offset bytes l = record {
  homes = λ p b e. (b, e, same_page b);
  orphans = λ p b e. elim (cases_Bool (same_place p place)) [
    | inl here ↦
        let a : (a : Orphan) × (l.orphan p ≡ Some a) × (written_orphan offset bytes a ≡ b) =
        written_at offset bytes (l.orphan p) b (sym (cond-true (same_place p place) (option_map (written_orphan offset bytes) (l.orphan p)) (l.orphan p) here) ∙ e) in
        (a.0, a.1)
    | inr there ↦ (b, sym (cond-false (same_place p place) (option_map (written_orphan offset bytes) (l.orphan p)) (l.orphan p) there) ∙ e)
  ];
}

pub write_lawful : (procs capacity : ℕ) (name : PageName) (offset : ℕ) (bytes : List ℕ) (l : Ledger)
    → IsLawful procs capacity l → CanWrite procs l name offset bytes
    → IsLawful procs capacity (write name offset bytes l)
write_lawful procs capacity name offset bytes l h can =
    lawful_narrower procs capacity l (write name offset bytes l) h (write_narrower name offset bytes l)
    (let e : pages procs (write name offset bytes l) ≡ pages procs l = write_pages procs name offset bytes l in omega arith)
    (λ number. same_runs l (write name offset bytes l) (write_loans name offset bytes l) number (h.one_run number))

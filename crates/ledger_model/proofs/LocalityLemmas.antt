-- Each step leaves each place that it doesn't name.
use Rattle.std.proofs.Common.{◌≡◌, ◌≢◌, ℕ, Bool, false, List, Option, Some, None, refl, sym, ap, ◌∙◌}
use Rattle.std.specs.Prelude.{◌==◌}
use Rattle.std.specs.Option.{option_map}
use Rattle.std.proofs.lemmas.Bool.{cond-false, ne_eqb}
use Rattle.xk_base.specs.declared.ids.Number.{Number}
use Rattle.xk_base.specs.declared.ids.Pid.{Pid}
use Rattle.xk_base.specs.declared.ids.Place.{Place}
use Rattle.xk_base.specs.declared.pages.Right.{Right}
use Rattle.ledger_model.specs.Ledger.{Ledger, Console, Bytes, Page, PageLoan, PageName, Homed, Orphaned, loan_at, loan_of}
use Rattle.ledger_model.specs.Loans.{orphan_loan_at, of_number, orphan_of_number}
use Rattle.ledger_model.specs.Places.{same_place, in_run}
use Rattle.ledger_model.specs.Steps.{make, make_console, new_page, zero_page, write, written_page, written_orphan, remove, reduce, with_right, end_loan, freed, orphan_loan, forget}
use Rattle.ledger_model.proofs.Loans.OfNumberLemmas.{loan_without-None, orphan_without-None}
use Rattle.ledger_model.proofs.Stepping.OrphaningLemmas.{orphan_loan_home, orphan_loan_kept, page_without-stays, none_made}
use Rattle.ledger_model.proofs.LedgerLemmas.{loan_at-home}
use Rattle.ledger_model.proofs.PlaceLemmas.{same_place-apart}

pub make_outside : (first : Place) (n : ℕ) (right : Right) (l : Ledger) (p : Place) → in_run first n p ≡ false
    → (make first n right l).home p ≡ l.home p
unfolding make
make_outside first n right l p f = cond-false (in_run first n p) (Some (new_page right (Bytes zero_page))) (l.home p) f

pub make_orphans : (first : Place) (n : ℕ) (right : Right) (l : Ledger) (p : Place)
    → (make first n right l).orphan p ≡ l.orphan p
unfolding make
make_orphans first n right l p = refl

pub make_console_outside : (place : Place) (w : Bool) (l : Ledger) (p : Place) → p ≢ place
    → (make_console place w l).home p ≡ l.home p
unfolding make_console
make_console_outside place w l p ne = cond-false (same_place p place) (Some (new_page (record { w = w; x = false }) Console)) (l.home p) (same_place-apart p place ne)

pub make_console_orphans : (place : Place) (w : Bool) (l : Ledger) (p : Place)
    → (make_console place w l).orphan p ≡ l.orphan p
unfolding make_console
make_console_orphans place w l p = refl

pub write_other_home : (name : PageName) (offset : ℕ) (bytes : List ℕ) (l : Ledger) (p : Place) → name ≢ Homed p
    → (write name offset bytes l).home p ≡ l.home p
unfolding write
write_other_home (Homed q) offset bytes l p ne = cond-false (same_place p q) (option_map (written_page offset bytes) (l.home p)) (l.home p) (same_place-apart p q (λ e. ne (ap Homed (sym e))))
write_other_home (Orphaned q) offset bytes l p ne = refl

pub write_other_orphan : (name : PageName) (offset : ℕ) (bytes : List ℕ) (l : Ledger) (p : Place) → name ≢ Orphaned p
    → (write name offset bytes l).orphan p ≡ l.orphan p
unfolding write
write_other_orphan (Homed q) offset bytes l p ne = refl
write_other_orphan (Orphaned q) offset bytes l p ne = cond-false (same_place p q) (option_map (written_orphan offset bytes) (l.orphan p)) (l.orphan p) (same_place-apart p q (λ e. ne (ap Orphaned (sym e))))

pub remove_outside : (places : Place → Bool) (l : Ledger) (p : Place) → places p ≡ false
    → (remove places l).home p ≡ l.home p
unfolding remove
remove_outside places l p f = cond-false (places p) None (l.home p) f

pub remove_orphans : (places : Place → Bool) (l : Ledger) (p : Place) → (remove places l).orphan p ≡ l.orphan p
unfolding remove
remove_orphans places l p = refl

pub reduce_outside : (places : Place → Bool) (right : Right) (l : Ledger) (p : Place) → places p ≡ false
    → (reduce places right l).home p ≡ l.home p
unfolding reduce
reduce_outside places right l p f = cond-false (places p) (option_map (with_right right) (l.home p)) (l.home p) f

pub reduce_orphans : (places : Place → Bool) (right : Right) (l : Ledger) (p : Place)
    → (reduce places right l).orphan p ≡ l.orphan p
unfolding reduce
reduce_orphans places right l p = refl

freed-stays : (number : Number) (o : Option Page) → of_number number (loan_of o) ≡ None
    → option_map (freed number) o ≡ o
freed-stays number None e = refl
freed-stays number (Some page) e = ap (λ x. Some (record page { loan = x })) (loan_without-None number page.loan e)

pub end_loan_outside : (number : Number) (l : Ledger) (p : Place) → of_number number (loan_at l p) ≡ None
    → (end_loan number l).home p ≡ l.home p
unfolding end_loan
end_loan_outside number l p e = freed-stays number (l.home p) e

pub end_loan_orphans : (number : Number) (l : Ledger) (p : Place)
    → orphan_of_number number (orphan_loan_at l p) ≡ None → (end_loan number l).orphan p ≡ l.orphan p
unfolding end_loan
end_loan_orphans number l p e = orphan_without-None number (l.orphan p) e

pub orphan_loan_outside : (procs : ℕ) (number : Number) (l : Ledger) (p : Place)
    → of_number number (loan_at l p) ≡ None → (orphan_loan procs number l).home p ≡ l.home p
orphan_loan_outside procs number l p e = orphan_loan_home procs number l p ∙ page_without-stays number (l.home p) e

pub orphan_loan_orphans : (procs : ℕ) (number : Number) (l : Ledger) (q : Place)
    → ((p : Place) (loan : PageLoan) → loan_at l p ≡ Some loan → loan.number ≡ number → loan.holder ≢ q) → (orphan_loan procs number l).orphan q ≡ l.orphan q
orphan_loan_orphans procs number l q h =
    orphan_loan_kept procs number l q (none_made procs number l q (λ o s. h s.home s.loan (loan_at-home l s.home s.page s.at ∙ s.lent) s.by s.held))

pub forget_outside : (pid : Pid) (l : Ledger) (p : Place) → p.pid.0 ≢ pid.0 → (forget pid l).home p ≡ l.home p
unfolding forget
forget_outside pid l p ne = cond-false (p.pid.0 == pid.0) None (l.home p) (ne_eqb p.pid.0 pid.0 ne)

pub forget_orphans : (pid : Pid) (l : Ledger) (p : Place) → (forget pid l).orphan p ≡ l.orphan p
unfolding forget
forget_orphans pid l p = refl

-- Which steps leave a ledger without a loan, and which leave it those of one message alone.
use Rattle.std.proofs.Common.{◌≡◌, ◌≢◌, ℕ, Bool, true, false, if◌then◌else◌, Option, Some, None, refl, sym, subst, inl, inr}
use Rattle.std.specs.Option.{option_and_then, option_map, option_or}
use Rattle.std.specs.Prelude.{Err, IfOk, Ok, OnErr, Result}
use Rattle.std.proofs.lemmas.Bool.{cases_Bool}
use Rattle.xk_base.specs.declared.errors.Failed.{Failed}
use Rattle.xk_base.specs.declared.errors.XousError.{XousError}
use Rattle.xk_base.specs.declared.ids.Number.{Number}
use Rattle.xk_base.specs.declared.ids.Pid.{Pid}
use Rattle.xk_base.specs.declared.ids.Place.{Place}
use Rattle.xk_base.specs.declared.ids.Vpn.{Vpn}
use Rattle.xk_base.specs.declared.pages.LoanKind.{LoanKind}
use Rattle.xk_base.specs.declared.pages.Right.{Right}
use Rattle.ledger_model.specs.Ledger.{Bytes, Console, Contents, Ledger, Orphan, Page, PageLoan, loan_at, loan_of}
use Rattle.ledger_model.specs.Loans.{IsFresh, bare, loan_of_orphan, loans, of_number, orphan_of_number, same_number}
use Rattle.ledger_model.specs.Places.{in_run, moved, same_place}
use Rattle.ledger_model.specs.Reach.{lender_of}
use Rattle.ledger_model.specs.Steps.{end_loan, has_number, lend, make, make_console, new_page, orphan_from, orphan_loan, orphan_with, page_without, reduce, remove, with_loan, with_right, zero_page}
use Rattle.ledger_model.proofs.LedgerLemmas.{same_number-false, same_number-true}
use Rattle.ledger_model.proofs.Loans.OfNumberLemmas.{fresh_still, of_number-None, of_number-apart, orphan_of_number-None, orphan_of_number-apart}
use Rattle.ledger_model.proofs.Stepping.EndingLemmas.{end_loan_fresh, end_loan_other}
use Rattle.vm_memory.specs.Pages.Making.{HasMadeFirst, after_console, after_make, page_place}
use Rattle.vm_memory.specs.Pages.Removing.{after_reduce, after_remove}
use Rattle.vm_memory.specs.Starting.{IsUnlent}
use Rattle.vm_memory.proofs.Booting.PlacingLemmas.{unlent_bare, unlent_fresh}

-- ---- without a loan

no_loan : (o : Option PageLoan) → ((number : Number) → of_number number o ≡ None) → o ≡ None
no_loan None fresh = refl
no_loan (Some loan) fresh = absurd (of_number-None loan.number (Some loan) loan (fresh loan.number) refl refl)

no_orphan : (o : Option Orphan) → ((number : Number) → orphan_of_number number (option_map loan_of_orphan o) ≡ None) → o ≡ None
no_orphan None fresh = refl
no_orphan (Some x) fresh = absurd (orphan_of_number-None x.number (Some (loan_of_orphan x)) (loan_of_orphan x) (fresh x.number) refl refl)

-- it is so where each number is fresh
pub fresh_unlent : (l : Ledger) → ((number : Number) → IsFresh (loans l) number) → IsUnlent l
unfolding loans
fresh_unlent l fresh = record {
  loans = λ q. no_loan (loan_at l q) (λ number. (fresh number).homes q);
  orphans = λ q. no_orphan (l.orphan q) (λ number. (fresh number).orphans q);
}

-- .. and each number is fresh then, also in a ledger with the same loans
pub unlent_then : (l m : Ledger) → loans m ≡ loans l → IsUnlent l → (number : Number) → IsFresh (loans m) number
unlent_then l m same u number = subst (λ x. IsFresh x number) (sym same) (unlent_fresh l u number)

-- with the same loans it is still without one
pub still_unlent : (l m : Ledger) → loans m ≡ loans l → IsUnlent l → IsUnlent m
still_unlent l m same u = fresh_unlent m (unlent_then l m same u)

either : (b : Bool) (new old : Option Page) → loan_of new ≡ None → loan_of old ≡ None → loan_of (if b then new else old) ≡ None
either true new old x y = x
either false new old x y = y

make_unlent : (first : Place) (n : ℕ) (right : Right) (l : Ledger) → IsUnlent l → IsUnlent (make first n right l)
unfolding make
make_unlent first n right l u = record {
  loans = λ q. either (in_run first n q) (Some (new_page right (Bytes zero_page))) (l.home q) refl (u.loans q);
  orphans = λ q. u.orphans q;
}

-- what `make` may leave
pub made_unlent : (result : Result (Result Vpn XousError) Failed) (known : Type 0) (answer : Result Vpn XousError) (pid : Pid) (n : ℕ) (right : Right)
    (old new : Ledger) → IsUnlent old → IfOk result (λ told. bare new ≡ bare (after_make pid n right told old))
    → OnErr result (HasMadeFirst known answer pid n right old new) → IsUnlent new
made_unlent (Ok (Ok first)) known answer pid n right old new u rights partial =
    unlent_bare (make (page_place pid first) n right old) new rights (make_unlent (page_place pid first) n right old u)
made_unlent (Ok (Err error)) known answer pid n right old new u rights partial = unlent_bare old new rights u
made_unlent (Err failed) known answer pid n right old new u rights partial =
    unlent_bare (make (page_place pid partial.first) partial.count right old) new partial.rights
    (make_unlent (page_place pid partial.first) partial.count right old u)

pub console_unlent : (pid : Pid) (w : Bool) (result : Result Vpn XousError) (l : Ledger) → IsUnlent l → IsUnlent (after_console pid w result l)
unfolding make_console
console_unlent pid w (Ok first) l u = record {
  loans = λ q. either (same_place q (page_place pid first)) (Some (new_page (record { w = w; x = false }) Console)) (l.home q) refl (u.loans q);
  orphans = λ q. u.orphans q;
}
console_unlent pid w (Err error) l u = u

pub remove_unlent : (result : Result (Unit {0}) XousError) (first : Place) (n : ℕ) (l : Ledger) → IsUnlent l → IsUnlent (after_remove result first n l)
unfolding remove
remove_unlent (Ok done) first n l u = record {
  loans = λ q. either (in_run first n q) None (l.home q) refl (u.loans q);
  orphans = λ q. u.orphans q;
}
remove_unlent (Err error) first n l u = u

righted : (right : Right) (o : Option Page) → loan_of o ≡ None → loan_of (option_map (with_right right) o) ≡ None
righted right None e = refl
righted right (Some page) e = e

pub reduce_unlent : (result : Result (Unit {0}) XousError) (first : Place) (n : ℕ) (right : Right) (l : Ledger) → IsUnlent l
    → IsUnlent (after_reduce result first n right l)
unfolding reduce
reduce_unlent (Ok done) first n right l u = record {
  loans = λ q. either (in_run first n q) (option_map (with_right right) (l.home q)) (l.home q) (righted right (l.home q) (u.loans q)) (u.loans q);
  orphans = λ q. u.orphans q;
}
reduce_unlent (Err error) first n right l u = u

-- ---- with the loans of one message alone

lent : (other : Number) (b : Bool) (loan : PageLoan) (o : Option Page) → loan.number ≢ other → of_number other (loan_of o) ≡ None
    → of_number other (loan_of (if b then option_map (with_loan loan) o else o)) ≡ None
lent other false loan o apart e = e
lent other true loan None apart e = refl
lent other true loan (Some page) apart e = of_number-apart other loan apart

lend_fresh : (from : Place) (n : ℕ) (to : Place) (kind : LoanKind) (number : Number) (l : Ledger) (other : Number) → other ≢ number
    → IsFresh (loans l) other → IsFresh (loans (lend from n to kind number l)) other
unfolding lend loans
lend_fresh from n to kind number l other apart fresh = record {
  homes = λ p. lent other (in_run from n p) (record { holder = moved from to p; kind = kind; number = number }) (l.home p)
      (λ same. apart (sym same)) (fresh.homes p);
  orphans = λ p. fresh.orphans p;
}

-- after a lend
pub lent_alone : (from : Place) (n : ℕ) (to : Place) (kind : LoanKind) (number : Number) (l m : Ledger) → m ≡ lend from n to kind number l
    → ((other : Number) → IsFresh (loans l) other) → (other : Number) → other ≢ number → IsFresh (loans m) other
lent_alone from n to kind number l m is fresh other apart =
    subst (λ x. IsFresh (loans x) other) (sym is) (lend_fresh from n to kind number l other apart (fresh other))

without : (number other : Number) (b : Bool) (page : Page) → of_number other page.loan ≡ None
    → of_number other (loan_of (if b then None else Some page)) ≡ None
without number other true page e = refl
without number other false page e = e

left_behind : (number other : Number) (o : Option Page) → of_number other (loan_of o) ≡ None → of_number other (loan_of (page_without number o)) ≡ None
left_behind number other None e = refl
left_behind number other (Some page) e = without number other (has_number number page.loan) page e

orphaned : (number other : Number) (o : Option Page) (old : Option Orphan) → other ≢ number
    → orphan_of_number other (option_map loan_of_orphan old) ≡ None
    → orphan_of_number other (option_map loan_of_orphan (option_or (option_and_then (orphan_from number) o) old)) ≡ None
orphaned number other None old apart e = e
orphaned number other (Some page) old apart e = by_loan page.loan page.contents
  where
    by_number : (loan : PageLoan) (contents : Contents) (b : Bool) → same_number loan.number number ≡ b
        → orphan_of_number other (option_map loan_of_orphan (option_or (if b then orphan_with loan contents else None) old)) ≡ None
    by_number loan contents false is = e
    by_number loan Console true is = e
    by_number loan (Bytes bytes) true is =
        orphan_of_number-apart other (record { kind = loan.kind; number = loan.number })
        (λ same. apart (subst (λ k. k ≡ number) same (same_number-true loan.number number is)))

    by_loan : (loan : Option PageLoan) (contents : Contents)
        → orphan_of_number other (option_map loan_of_orphan (option_or
        (option_and_then (λ x. if same_number x.number number then orphan_with x contents else None) loan) old)) ≡ None
    by_loan None contents = e
    by_loan (Some loan) contents = by_number loan contents (same_number loan.number number) refl

orphan_fresh : (procs : ℕ) (number : Number) (l : Ledger) (other : Number) → other ≢ number → IsFresh (loans l) other
    → IsFresh (loans (orphan_loan procs number l)) other
unfolding orphan_loan loans
orphan_fresh procs number l other apart fresh = record {
  homes = λ p. left_behind number other (l.home p) (fresh.homes p);
  orphans = λ p. orphaned number other (option_and_then l.home (lender_of procs l p)) (l.orphan p) apart (fresh.orphans p);
}

-- .. and once its pages are orphans
pub orphaned_alone : (procs : ℕ) (number : Number) (l m : Ledger) → m ≡ orphan_loan procs number l
    → ((other : Number) → other ≢ number → IsFresh (loans l) other) → (other : Number) → other ≢ number → IsFresh (loans m) other
orphaned_alone procs number l m is alone other apart =
    subst (λ x. IsFresh (loans x) other) (sym is) (orphan_fresh procs number l other apart (alone other apart))

end_fresh : (number : Number) (l : Ledger) → ((other : Number) → other ≢ number → IsFresh (loans l) other) → (other : Number)
    → IsFresh (loans (end_loan number l)) other
end_fresh number l fresh other = elim (cases_Bool (same_number other number)) [
  | inl is ↦ subst (IsFresh (loans (end_loan number l))) (sym (same_number-true other number is)) (end_loan_fresh number l)
  | inr is ↦
      let apart : other ≢ number = same_number-false other number is in
      fresh_still (loans l) (loans (end_loan number l)) other (end_loan_other number other l apart) (fresh other apart)
]

-- at its end no loan is left
pub ended_none : (number : Number) (l k m : Ledger) → loans k ≡ loans l → m ≡ end_loan number k
    → ((other : Number) → other ≢ number → IsFresh (loans l) other) → (other : Number) → IsFresh (loans m) other
ended_none number l k m same is alone other =
    subst (λ x. IsFresh (loans x) other) (sym is)
    (end_fresh number k (λ n apart. subst (λ x. IsFresh x n) (sym same) (alone n apart)) other)

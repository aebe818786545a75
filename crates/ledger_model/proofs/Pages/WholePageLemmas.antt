-- Each step keeps the pages of a ledger whole (specs/WholePages.antt).
use Rattle.std.proofs.Common.{◌≡◌, ℕ, ◌+◌, ◌<◌, ◌≤◌, Bool, true, false, List, [], ◌∷◌, ◌++◌, length, take, drop, Option, Some, None, refl, sym, ap, subst, ◌∙◌, arith, lit<, length-append, length-take, length-drop}
use Rattle.std.specs.Bool.{⊤}
use Rattle.std.specs.List.{All, list_all}
use Rattle.std.specs.Option.{option_and_then, option_map, option_or}
use Rattle.std.specs.Prelude.{◌==◌, if◌then◌else◌, nat_lt, replicate}
use Rattle.std.proofs.lemmas.List.{length-replicate}
use Rattle.std.proofs.lemmas.List.Elements.{All-append, All-cons, All-drop, All-head, All-nil, All-replicate, All-tail, All-take}
use Rattle.std.proofs.lemmas.Bool.{and_from, and_parts, eq-eqb, eqb-true, lt-ltb, ltb-true}
use Rattle.std.proofs.lemmas.Option.{none-some, same_Some}
use Rattle.xk_base.specs.declared.ids.Number.{Number}
use Rattle.xk_base.specs.declared.ids.Pid.{Pid}
use Rattle.xk_base.specs.declared.ids.Place.{Place}
use Rattle.xk_base.specs.declared.pages.LoanKind.{LoanKind}
use Rattle.xk_base.specs.declared.pages.Right.{Right}
use Rattle.ledger_model.specs.Ledger.{Ledger, Contents, Console, Bytes, Page, PageLoan, Orphan, PageName, Homed, Orphaned, contents_of}
use Rattle.ledger_model.specs.Life.{LedgerStep, Make, MakeConsole, Write, Remove, Reduce, Lend, End, Pass, Give, MakeOrphans, Forget, after, May, after_all, MayAll}
use Rattle.ledger_model.specs.Loans.{same_number}
use Rattle.ledger_model.specs.Places.{same_place, in_run, moved}
use Rattle.ledger_model.specs.Reach.{lender_of}
use Rattle.ledger_model.specs.Steps.{make, make_console, zero_page, write, written, written_contents, written_page, written_orphan, remove, reduce, with_right, lend, with_loan, end_loan, freed, orphan_without, pass, passed, give, orphan_loan, page_without, has_number, orphan_from, orphan_with, forget}
use Rattle.ledger_model.specs.WholePages.{IsPage, is_page, HasWholePages, FitsPage}

-- ---- the test for a page

below_all : (bytes : List ℕ) → list_all (λ b. nat_lt b 256) bytes ≡ true → All (λ b. b < 256) bytes
below_all [] e = All-nil (λ b. b < 256)
below_all (b ∷ bytes) e =
    let parts : (nat_lt b 256 ≡ true) × (list_all (λ b. nat_lt b 256) bytes ≡ true) = and_parts (nat_lt b 256) (list_all (λ b. nat_lt b 256) bytes) e in
    All-cons (λ b. b < 256) b bytes (ltb-true b 256 parts.0) (below_all bytes parts.1)

all_below : (bytes : List ℕ) → All (λ b. b < 256) bytes → list_all (λ b. nat_lt b 256) bytes ≡ true
all_below [] h = refl
all_below (b ∷ bytes) h =
    and_from (nat_lt b 256) (list_all (λ b. nat_lt b 256) bytes) (lt-ltb b 256 (All-head (λ b. b < 256) b bytes h)) (all_below bytes (All-tail (λ b. b < 256) b bytes h))

pub is_page-true : (bytes : List ℕ) → is_page bytes ≡ true → IsPage bytes
is_page-true bytes e =
    let parts : (length bytes == 4096 ≡ true) × (list_all (λ b. nat_lt b 256) bytes ≡ true) = and_parts (length bytes == 4096) (list_all (λ b. nat_lt b 256) bytes) e in
    record { size = eqb-true (length bytes) 4096 parts.0; each = below_all bytes parts.1 }

pub is_page-from : (bytes : List ℕ) → IsPage bytes → is_page bytes ≡ true
is_page-from bytes h =
    and_from (length bytes == 4096) (list_all (λ b. nat_lt b 256) bytes) (eq-eqb (length bytes) 4096 h.size) (all_below bytes h.each)

-- ---- of one page

abbrev pub WholeContents : Contents → Type 0
WholeContents Console = ⊤
WholeContents (Bytes bytes) = IsPage bytes

abbrev pub WholePage : Option Page → Type 0
WholePage None = ⊤
WholePage (Some page) = WholeContents page.contents

abbrev pub WholeOrphan : Option Orphan → Type 0
WholeOrphan None = ⊤
WholeOrphan (Some orphan) = IsPage orphan.bytes

pub whole_from : (l : Ledger) → ((p : Place) → WholePage (l.home p)) → ((p : Place) → WholeOrphan (l.orphan p)) → HasWholePages l
whole_from l homes orphans = record { each = named }
  where
    homed : (o : Option Page) (bytes : List ℕ) → WholePage o → option_map (λ (page : Page). page.contents) o ≡ Some (Bytes bytes) → IsPage bytes
    homed None bytes whole e = absurd (none-some (Bytes bytes) e)
    homed (Some page) bytes whole e = subst WholeContents (same_Some page.contents (Bytes bytes) e) whole

    held : (o : Option Orphan) (bytes : List ℕ) → WholeOrphan o → option_map (λ (orphan : Orphan). Bytes orphan.bytes) o ≡ Some (Bytes bytes) → IsPage bytes
    held None bytes whole e = absurd (none-some (Bytes bytes) e)
    held (Some orphan) bytes whole e = subst WholeContents (same_Some (Bytes orphan.bytes) (Bytes bytes) e) whole

    named : (name : PageName) (bytes : List ℕ) → contents_of l name ≡ Some (Bytes bytes) → IsPage bytes
    named (Homed p) bytes e = homed (l.home p) bytes (homes p) e
    named (Orphaned p) bytes e = held (l.orphan p) bytes (orphans p) e

pub whole_home : (l : Ledger) → HasWholePages l → (p : Place) → WholePage (l.home p)
whole_home l h p = by_page (l.home p) refl
  where
    by_contents : (page : Page) (c : Contents) → l.home p ≡ Some page → page.contents ≡ c → WholeContents c
    by_contents page Console e f = tt
    by_contents page (Bytes bytes) e f = h.each (Homed p) bytes (ap (option_map (λ (a : Page). a.contents)) e ∙ ap Some f)

    by_page : (o : Option Page) → l.home p ≡ o → WholePage o
    by_page None e = tt
    by_page (Some page) e = by_contents page page.contents e refl

pub whole_orphan : (l : Ledger) → HasWholePages l → (p : Place) → WholeOrphan (l.orphan p)
whole_orphan l h p = by_orphan (l.orphan p) refl
  where
    by_orphan : (o : Option Orphan) → l.orphan p ≡ o → WholeOrphan o
    by_orphan None e = tt
    by_orphan (Some orphan) e = h.each (Orphaned p) orphan.bytes (ap (option_map (λ (a : Orphan). Bytes a.bytes)) e)

-- of a choice, and of a page that is changed but for its contents
chosen : (b : Bool) (x y : Option Page) → WholePage x → WholePage y → WholePage (if b then x else y)
chosen true x y f g = f
chosen false x y f g = g

chosen_orphan : (b : Bool) (x y : Option Orphan) → WholeOrphan x → WholeOrphan y → WholeOrphan (if b then x else y)
chosen_orphan true x y f g = f
chosen_orphan false x y f g = g

changed : (f : Page → Page) → ((a : Page) → (f a).contents ≡ a.contents) → (o : Option Page) → WholePage o → WholePage (option_map f o)
changed f same None whole = whole
changed f same (Some page) whole = subst WholeContents (sym (same page)) whole

-- ---- make

zeros_whole : (bytes : List ℕ) → bytes ≡ replicate 4096 0 → IsPage bytes
zeros_whole bytes e = subst IsPage (sym e) (record { size = length-replicate {A = ℕ} 4096 0; each = All-replicate (λ b. b < 256) 4096 0 (lit< tt) })

pub zero_page-whole : IsPage zero_page
unfolding zero_page
zero_page-whole = zeros_whole zero_page refl

pub make_whole : (first : Place) (n : ℕ) (right : Right) (l : Ledger) → HasWholePages l → HasWholePages (make first n right l)
unfolding make
make_whole first n right l h = whole_from (make first n right l)
    (λ p. chosen (in_run first n p) (Some (record { right = right; contents = Bytes zero_page; loan = None })) (l.home p) zero_page-whole (whole_home l h p))
    (whole_orphan l h)

pub make_console_whole : (place : Place) (w : Bool) (l : Ledger) → HasWholePages l → HasWholePages (make_console place w l)
unfolding make_console
make_console_whole place w l h = whole_from (make_console place w l)
    (λ p. chosen (same_place p place) (Some (record { right = record { w = w; x = false }; contents = Console; loan = None })) (l.home p) tt (whole_home l h p))
    (whole_orphan l h)

-- ---- write

pub written-whole : (old bytes : List ℕ) (offset : ℕ) → FitsPage offset bytes → IsPage old
    → IsPage (written old offset bytes)
written-whole old bytes offset can h = record {
  size = let fits : offset + length bytes ≤ 4096 = can.fits in let size : length old ≡ 4096 = h.size in
      simp (length-append, length-take, length-drop) (omega arith);
  each = All-append (λ b. b < 256) (take offset old) (bytes ++ drop (offset + length bytes) old) (All-take (λ b. b < 256) offset old h.each)
      (All-append (λ b. b < 256) bytes (drop (offset + length bytes) old) can.each (All-drop (λ b. b < 256) (offset + length bytes) old h.each));
}

written_page-whole : (offset : ℕ) (bytes : List ℕ) → FitsPage offset bytes → (o : Option Page) → WholePage o
    → WholePage (option_map (written_page offset bytes) o)
written_page-whole offset bytes can None whole = whole
written_page-whole offset bytes can (Some page) whole = by_contents page.contents whole
  where
    by_contents : (c : Contents) → WholeContents c → WholeContents (written_contents offset bytes c)
    by_contents Console w = w
    by_contents (Bytes old) w = written-whole old bytes offset can w

written_orphan-whole : (offset : ℕ) (bytes : List ℕ) → FitsPage offset bytes → (o : Option Orphan) → WholeOrphan o
    → WholeOrphan (option_map (written_orphan offset bytes) o)
written_orphan-whole offset bytes can None whole = whole
written_orphan-whole offset bytes can (Some orphan) whole = written-whole orphan.bytes bytes offset can whole

pub write_whole : (name : PageName) (offset : ℕ) (bytes : List ℕ) (l : Ledger) → FitsPage offset bytes → HasWholePages l
    → HasWholePages (write name offset bytes l)
unfolding write
write_whole (Homed place) offset bytes l can h = whole_from (write (Homed place) offset bytes l)
    (λ p. chosen (same_place p place) (option_map (written_page offset bytes) (l.home p)) (l.home p) (written_page-whole offset bytes can (l.home p) (whole_home l h p)) (whole_home l h p))
    (whole_orphan l h)
write_whole (Orphaned place) offset bytes l can h = whole_from (write (Orphaned place) offset bytes l)
    (whole_home l h)
    (λ p. chosen_orphan (same_place p place) (option_map (written_orphan offset bytes) (l.orphan p)) (l.orphan p) (written_orphan-whole offset bytes can (l.orphan p) (whole_orphan l h p)) (whole_orphan l h p))

-- ---- remove, reduce and forget

pub remove_whole : (places : Place → Bool) (l : Ledger) → HasWholePages l → HasWholePages (remove places l)
unfolding remove
remove_whole places l h = whole_from (remove places l) (λ p. chosen (places p) None (l.home p) tt (whole_home l h p)) (whole_orphan l h)

pub reduce_whole : (places : Place → Bool) (right : Right) (l : Ledger) → HasWholePages l → HasWholePages (reduce places right l)
unfolding reduce
reduce_whole places right l h = whole_from (reduce places right l)
    (λ p. chosen (places p) (option_map (with_right right) (l.home p)) (l.home p) (changed (with_right right) (λ a. refl) (l.home p) (whole_home l h p)) (whole_home l h p))
    (whole_orphan l h)

pub forget_whole : (pid : Pid) (l : Ledger) → HasWholePages l → HasWholePages (forget pid l)
unfolding forget
forget_whole pid l h = whole_from (forget pid l) (λ p. chosen (p.pid.0 == pid.0) None (l.home p) tt (whole_home l h p)) (whole_orphan l h)

-- ---- loans

pub lend_whole : (from : Place) (n : ℕ) (to : Place) (kind : LoanKind) (number : Number) (l : Ledger) → HasWholePages l
    → HasWholePages (lend from n to kind number l)
unfolding lend
lend_whole from n to kind number l h = whole_from (lend from n to kind number l)
    (λ p.
    let loan : PageLoan = record { holder = moved from to p; kind = kind; number = number } in
    chosen (in_run from n p) (option_map (with_loan loan) (l.home p)) (l.home p) (changed (with_loan loan) (λ a. refl) (l.home p) (whole_home l h p)) (whole_home l h p))
    (whole_orphan l h)

orphan_without-whole : (number : Number) (o : Option Orphan) → WholeOrphan o → WholeOrphan (orphan_without number o)
orphan_without-whole number None whole = whole
orphan_without-whole number (Some orphan) whole = chosen_orphan (same_number orphan.number number) None (Some orphan) tt whole

pub end_loan_whole : (number : Number) (l : Ledger) → HasWholePages l → HasWholePages (end_loan number l)
unfolding end_loan
end_loan_whole number l h = whole_from (end_loan number l)
    (λ p. changed (freed number) (λ a. refl) (l.home p) (whole_home l h p))
    (λ p. orphan_without-whole number (l.orphan p) (whole_orphan l h p))

pub pass_whole : (number : Number) (from to : Place) (l : Ledger) → HasWholePages l → HasWholePages (pass number from to l)
unfolding pass
pass_whole number from to l h = whole_from (pass number from to l)
    (λ p. changed (passed number from to) (λ a. refl) (l.home p) (whole_home l h p)) (whole_orphan l h)

pub give_whole : (from : Place) (n : ℕ) (to : Place) (l : Ledger) → HasWholePages l → HasWholePages (give from n to l)
unfolding give
give_whole from n to l h = whole_from (give from n to l)
    (λ p. chosen (in_run to n p) (l.home (moved to from p)) (if in_run from n p then None else l.home p) (whole_home l h (moved to from p))
    (chosen (in_run from n p) None (l.home p) tt (whole_home l h p)))
    (whole_orphan l h)

page_without-whole : (number : Number) (o : Option Page) → WholePage o → WholePage (page_without number o)
page_without-whole number None whole = whole
page_without-whole number (Some page) whole = chosen (has_number number page.loan) None (Some page) tt whole

orphan_with-whole : (loan : PageLoan) (c : Contents) → WholeContents c → WholeOrphan (orphan_with loan c)
orphan_with-whole loan Console whole = tt
orphan_with-whole loan (Bytes bytes) whole = whole

orphan_from-whole : (number : Number) (o : Option Page) → WholePage o → WholeOrphan (option_and_then (orphan_from number) o)
orphan_from-whole number None whole = tt
orphan_from-whole number (Some page) whole = by_loan page.loan
  where
    by_loan : (o : Option PageLoan)
        → WholeOrphan (option_and_then (λ loan. if same_number loan.number number then orphan_with loan page.contents else None) o)
    by_loan None = tt
    by_loan (Some loan) = chosen_orphan (same_number loan.number number) (orphan_with loan page.contents) None (orphan_with-whole loan page.contents whole) tt

or-whole : (x y : Option Orphan) → WholeOrphan x → WholeOrphan y → WholeOrphan (option_or x y)
or-whole None y f g = g
or-whole (Some orphan) y f g = f

pub orphan_loan_whole : (procs : ℕ) (number : Number) (l : Ledger) → HasWholePages l → HasWholePages (orphan_loan procs number l)
unfolding orphan_loan
orphan_loan_whole procs number l h = whole_from (orphan_loan procs number l)
    (λ p. page_without-whole number (l.home p) (whole_home l h p))
    (λ q. or-whole (option_and_then (orphan_from number) (option_and_then l.home (lender_of procs l q))) (l.orphan q)
    (orphan_from-whole number (option_and_then l.home (lender_of procs l q)) (by_lender (lender_of procs l q))) (whole_orphan l h q))
  where
    by_lender : (o : Option Place) → WholePage (option_and_then l.home o)
    by_lender None = tt
    by_lender (Some p) = whole_home l h p

-- ---- over a list of steps

pub step_whole : (procs capacity : ℕ) (step : LedgerStep) (l : Ledger) → HasWholePages l → May procs capacity step l
    → HasWholePages (after procs step l)
step_whole procs capacity (Make first n right) l h can = make_whole first n right l h
step_whole procs capacity (MakeConsole place w) l h can = make_console_whole place w l h
step_whole procs capacity (Write name offset bytes) l h can = write_whole name offset bytes l (record { fits = can.fits; each = can.each }) h
step_whole procs capacity (Remove places) l h can = remove_whole places l h
step_whole procs capacity (Reduce places right) l h can = reduce_whole places right l h
step_whole procs capacity (Lend from n to kind number) l h can = lend_whole from n to kind number l h
step_whole procs capacity (End number) l h can = end_loan_whole number l h
step_whole procs capacity (Pass loan to) l h can = pass_whole loan.number loan.holder to l h
step_whole procs capacity (Give from n to) l h can = give_whole from n to l h
step_whole procs capacity (MakeOrphans number) l h can = orphan_loan_whole procs number l h
step_whole procs capacity (Forget pid) l h can = forget_whole pid l h

pub steps_whole : (procs capacity : ℕ) (steps : List LedgerStep) (l : Ledger) → HasWholePages l → MayAll procs capacity steps l
    → HasWholePages (after_all procs steps l)
unfolding after_all MayAll
steps_whole procs capacity [] l h can = h
steps_whole procs capacity (step ∷ steps) l h can = steps_whole procs capacity steps (after procs step l) (step_whole procs capacity step l h can.0) can.1

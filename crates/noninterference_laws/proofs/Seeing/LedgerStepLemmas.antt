-- Where the pages come from that others than a group can load after a step of the ledger: new ones, ones that another could load before,
-- and ones that are handed over.
use Rattle.std.proofs.Common.{◌≡◌, ℕ, Bool, true, false, Option, Some, None, refl, sym, ap, ◌∙◌}
use Rattle.std.specs.Prelude.{if◌then◌else◌, is_some, not}
use Rattle.std.specs.Option.{option_map}
use Rattle.std.proofs.lemmas.Bool.{false≢true}
use Rattle.xk_base.specs.declared.ids.Number.{Number}
use Rattle.xk_base.specs.declared.ids.Pid.{Pid}
use Rattle.xk_base.specs.declared.ids.Place.{Place}
use Rattle.xk_base.specs.declared.pages.LoanKind.{LoanKind}
use Rattle.xk_base.specs.declared.pages.Right.{Right}
use Rattle.ledger_model.specs.Conditions.{is_lent}
use Rattle.ledger_model.specs.Ledger.{Bytes, Console, Contents, Homed, Ledger, Orphan, Orphaned, Page, PageLoan, PageName, contents_of, loan_at, loan_of}
use Rattle.ledger_model.specs.Loans.{same_number}
use Rattle.ledger_model.specs.Places.{in_run, moved, same_place}
use Rattle.ledger_model.specs.Steps.{end_loan, freed, give, lend, make, make_console, new_page, pass, passed, passed_loan, reduce, remove, with_loan, with_right, zero_page}
use Rattle.ledger_model.proofs.PlaceLemmas.{in_run-true, moved-in_run}
use Rattle.machine_model.specs.Messaging.LoanSets.{end_loans, freed_but, is_lent_by, loan_but, orphan_but}
use Rattle.noninterference_laws.specs.Handing.{lent_pages, run_pages}
use Rattle.noninterference_laws.specs.Inside.{Group}
use Rattle.noninterference_laws.proofs.Seeing.ShownLemmas.{loan_shows, shows, shows_home, shows_orphan, shows_page}

-- What a page that others can load afterwards holds: zeros, or the console; what a page held that others could load before; or, where
-- others could not load a page of its name, what a page held that is handed over. A process that isn't of the group hands over only
-- what others can load before, as it can itself.
pub data Source (group : Group) (pid : Pid) (handed : PageName → Bool) (before after : Ledger) (page : PageName) : Type 0 where
  Zeros : contents_of after page ≡ Some (Bytes zero_page) → Source group pid handed before after page
  TheConsole : contents_of after page ≡ Some Console → Source group pid handed before after page
  Shown : (old : PageName) → shows group before old ≡ true → contents_of after page ≡ contents_of before old
      → Source group pid handed before after page
  Handed : shows group before page ≡ false → (old : PageName) → handed old ≡ true → (group pid.0 ≡ false → shows group before old ≡ true)
      → contents_of after page ≡ contents_of before old → Source group pid handed before after page

abbrev pub Sources : Group → Pid → (PageName → Bool) → Ledger → Ledger → Type 0
Sources group pid handed before after = (page : PageName) → shows group after page ≡ true → Source group pid handed before after page

abbrev pub held_in : Page → Contents
held_in page = page.contents

abbrev pub held_by : Orphan → Contents
held_by orphan = Bytes orphan.bytes

pub map_held : (f : Page → Page) → ((x : Page) → (f x).contents ≡ x.contents) → (o : Option Page)
    → option_map held_in (option_map f o) ≡ option_map held_in o
map_held f keeps None = refl
map_held f keeps (Some page) = ap (λ c. Some c) (keeps page)

module _ (group : Group) (pid : Pid) (handed : PageName → Bool) (before after : Ledger) where
  -- a page that stays as it is
  pub same_home : (p : Place) → after.home p ≡ before.home p → shows group after (Homed p) ≡ true
      → Source group pid handed before after (Homed p)
  same_home p e s = Shown (Homed p) (ap (shows_page group p) (sym e) ∙ s) (ap (option_map held_in) e)

  pub same_orphan : (q : Place) → after.orphan q ≡ before.orphan q → shows group after (Orphaned q) ≡ true
      → Source group pid handed before after (Orphaned q)
  same_orphan q e s = Shown (Orphaned q) (ap (shows_orphan group q) (sym e) ∙ s) (ap (option_map held_by) e)

  -- a page that holds what it held
  pub changed_home : (p : Place) (f : Page → Page) → ((x : Page) → (f x).contents ≡ x.contents) → after.home p ≡ option_map f (before.home p)
      → (shows group before (Homed p) ≡ false → (handed (Homed p) ≡ true) × (group pid.0 ≡ false → shows group before (Homed p) ≡ true))
      → Source group pid handed before after (Homed p)
  changed_home p f keeps e hands = go (shows group before (Homed p)) refl
    where
      holds : contents_of after (Homed p) ≡ contents_of before (Homed p)
      holds = ap (option_map held_in) e ∙ map_held f keeps (before.home p)

      go : (b : Bool) → shows group before (Homed p) ≡ b → Source group pid handed before after (Homed p)
      go true q = Shown (Homed p) q holds
      go false q = let at = hands q in Handed q (Homed p) at.0 at.1 holds

-- the ledger stays
pub stay_sources : (group : Group) (pid : Pid) (handed : PageName → Bool) (l : Ledger) → Sources group pid handed l l
stay_sources group pid handed l page s = Shown page s refl

module _ (group : Group) (pid : Pid) where
  -- ---- pages that are made, go, or change their right

  pub make_sources : (handed : PageName → Bool) (first : Place) (n : ℕ) (right : Right) (l : Ledger)
      → Sources group pid handed l (make first n right l)
  unfolding make
  make_sources handed first n right l (Orphaned q) s = same_orphan group pid handed l (make first n right l) q refl s
  make_sources handed first n right l (Homed p) s = go (in_run first n p) refl
    where
      go : (b : Bool) → in_run first n p ≡ b → Source group pid handed l (make first n right l) (Homed p)
      go true q = Zeros (ap (λ b. option_map held_in (if b then Some (new_page right (Bytes zero_page)) else l.home p)) q)
      go false q =
          same_home group pid handed l (make first n right l) p
          (ap (λ b. if b then Some (new_page right (Bytes zero_page)) else l.home p) q) s

  pub console_sources : (handed : PageName → Bool) (place : Place) (w : Bool) (l : Ledger)
      → Sources group pid handed l (make_console place w l)
  unfolding make_console
  console_sources handed place w l (Orphaned q) s = same_orphan group pid handed l (make_console place w l) q refl s
  console_sources handed place w l (Homed p) s = go (same_place p place) refl
    where
      new : Page
      new = new_page (record { w = w; x = false }) Console

      go : (b : Bool) → same_place p place ≡ b → Source group pid handed l (make_console place w l) (Homed p)
      go true q = TheConsole (ap (λ b. option_map held_in (if b then Some new else l.home p)) q)
      go false q = same_home group pid handed l (make_console place w l) p (ap (λ b. if b then Some new else l.home p) q) s

  pub remove_sources : (handed : PageName → Bool) (places : Place → Bool) (l : Ledger) → Sources group pid handed l (remove places l)
  unfolding remove
  remove_sources handed places l (Orphaned q) s = same_orphan group pid handed l (remove places l) q refl s
  remove_sources handed places l (Homed p) s = go (places p) refl
    where
      go : (b : Bool) → places p ≡ b → Source group pid handed l (remove places l) (Homed p)
      go true q = absurd (false≢true (sym (ap (λ b. shows_page group p (if b then None else l.home p)) q) ∙ s))
      go false q = same_home group pid handed l (remove places l) p (ap (λ b. if b then None else l.home p) q) s

  right_shows : (right : Right) (p : Place) (o : Option Page) → shows_page group p (option_map (with_right right) o) ≡ shows_page group p o
  right_shows right p None = refl
  right_shows right p (Some page) = refl

  pub reduce_sources : (handed : PageName → Bool) (places : Place → Bool) (right : Right) (l : Ledger)
      → Sources group pid handed l (reduce places right l)
  unfolding reduce
  reduce_sources handed places right l (Orphaned q) s = same_orphan group pid handed l (reduce places right l) q refl s
  reduce_sources handed places right l (Homed p) s = go (places p) refl
    where
      chosen : Bool → Option Page
      chosen b = if b then option_map (with_right right) (l.home p) else l.home p

      go : (b : Bool) → places p ≡ b → Source group pid handed l (reduce places right l) (Homed p)
      go true q =
          changed_home group pid handed l (reduce places right l) p (with_right right) (λ x. refl) (ap chosen q)
          (λ f. absurd (false≢true (sym f ∙ (sym (right_shows right p (l.home p)) ∙ (sym (ap (λ b. shows_page group p (chosen b)) q) ∙ s)))))
      go false q = same_home group pid handed l (reduce places right l) p (ap chosen q) s

  -- ---- pages that are sent

  -- a page of the process that isn't on loan shows to others, where the process isn't of the group
  unlent_shows : (p : Place) (o : Option Page) (page : Page) → o ≡ Some page → is_lent o ≡ false → p.pid.0 ≡ pid.0 → group pid.0 ≡ false
      → shows_page group p o ≡ true
  unlent_shows p o page there unlent own other =
      ap (shows_page group p) there
      ∙ (ap (shows_home group p) (none_of page.loan (sym (ap is_lent there) ∙ unlent)) ∙ ap not (ap group own ∙ other))
    where
      none_of : (x : Option PageLoan) → is_some x ≡ false → x ≡ None
      none_of None q = refl
      none_of (Some loan) q = absurd (false≢true (sym q))

  -- the pages of the run are of the process, and not on loan
  pub record AreSendable (first : Place) (n : ℕ) (l : Ledger) : Type 0 where
    pub own : first.pid.0 ≡ pid.0
    pub unlent : (p : Place) → in_run first n p ≡ true → is_lent (l.home p) ≡ false

  sendable_shows : (first : Place) (n : ℕ) (l : Ledger) → AreSendable first n l → (p : Place) (page : Page) → in_run first n p ≡ true
      → l.home p ≡ Some page → group pid.0 ≡ false → shows group l (Homed p) ≡ true
  sendable_shows first n l can p page inside there other =
      unlent_shows p (l.home p) page there (can.unlent p inside) ((in_run-true first n p inside).pid ∙ can.own) other

  pub lend_sources : (from : Place) (n : ℕ) (to : Place) (kind : LoanKind) (number : Number) (l : Ledger) → AreSendable from n l
      → Sources group pid (run_pages from n) l (lend from n to kind number l)
  unfolding lend
  lend_sources from n to kind number l can (Orphaned q) s =
      same_orphan group pid (run_pages from n) l (lend from n to kind number l) q refl s
  lend_sources from n to kind number l can (Homed p) s = go (in_run from n p) refl
    where
      lent : Page → Page
      lent = with_loan (record { holder = moved from to p; kind = kind; number = number })

      chosen : Bool → Option Page
      chosen b = if b then option_map lent (l.home p) else l.home p

      shows_then : (o : Option Page) → l.home p ≡ o → in_run from n p ≡ true → shows_page group p (option_map lent o) ≡ true → group pid.0 ≡ false
          → shows group l (Homed p) ≡ true
      shows_then None there q r other = absurd (false≢true r)
      shows_then (Some page) there q r other = sendable_shows from n l can p page q there other

      go : (b : Bool) → in_run from n p ≡ b → Source group pid (run_pages from n) l (lend from n to kind number l) (Homed p)
      go true q =
          changed_home group pid (run_pages from n) l (lend from n to kind number l) p lent (λ x. refl) (ap chosen q)
          (λ f. (q, shows_then (l.home p) refl q (sym (ap (λ b. shows_page group p (chosen b)) q) ∙ s)))
      go false q = same_home group pid (run_pages from n) l (lend from n to kind number l) p (ap chosen q) s

  pub give_sources : (from : Place) (n : ℕ) (to : Place) (l : Ledger) → AreSendable from n l
      → ((p : Place) → in_run to n p ≡ true → l.home p ≡ None) → Sources group pid (run_pages from n) l (give from n to l)
  unfolding give
  give_sources from n to l can free (Orphaned q) s = same_orphan group pid (run_pages from n) l (give from n to l) q refl s
  give_sources from n to l can free (Homed p) s = go (in_run to n p) (in_run from n p) refl refl
    where
      old : Place
      old = moved to from p

      chosen : Bool → Bool → Option Page
      chosen a b = if a then l.home old else (if b then None else l.home p)

      is : (a b : Bool) → in_run to n p ≡ a → in_run from n p ≡ b → chosen (in_run to n p) (in_run from n p) ≡ chosen a b
      is a b q r = λ i. chosen (q i) (r i)

      there : (o : Option Page) → l.home old ≡ o → shows_page group p o ≡ true → in_run from n old ≡ true → group pid.0 ≡ false
          → shows group l (Homed old) ≡ true
      there None e r inside other = absurd (false≢true r)
      there (Some page) e r inside other = sendable_shows from n l can old page inside e other

      go : (a b : Bool) → in_run to n p ≡ a → in_run from n p ≡ b → Source group pid (run_pages from n) l (give from n to l) (Homed p)
      go true b q r =
          Handed (ap (shows_page group p) (free p q)) (Homed old) (moved-in_run to from p n q)
          (there (l.home old) refl (sym (ap (shows_page group p) (is true b q r)) ∙ s) (moved-in_run to from p n q))
          (ap (option_map held_in) (is true b q r))
      go false true q r = absurd (false≢true (sym (ap (shows_page group p) (is false true q r)) ∙ s))
      go false false q r = same_home group pid (run_pages from n) l (give from n to l) p (is false false q r) s

  -- ---- loans that end or go on

  -- the loans of numbers that pass are held by the process
  abbrev pub AreHeld : (Number → Bool) → Ledger → Type 0
  AreHeld test l = (p : Place) (loan : PageLoan) → loan_at l p ≡ Some loan → test loan.number ≡ true → loan.holder.pid.0 ≡ pid.0

  module _ (test : Number → Bool) (l after : Ledger) (held : AreHeld test l) where
    lent_shows : (p : Place) (o : Option PageLoan) → loan_at l p ≡ o → is_lent_by test o ≡ true → group pid.0 ≡ false
        → shows group l (Homed p) ≡ true
    lent_shows p None e f other = absurd (false≢true f)
    lent_shows p (Some loan) e f other = loan_shows group p (l.home p) loan e (ap group (held p loan e f) ∙ other)

    pub loan_source : (p : Place) (f : Page → Page) → ((x : Page) → (f x).contents ≡ x.contents)
        → ((x : Page) → is_lent_by test x.loan ≡ false → (f x).loan ≡ x.loan) → after.home p ≡ option_map f (l.home p)
        → shows group after (Homed p) ≡ true → Source group pid (lent_pages test l) l after (Homed p)
    loan_source p f keeps unless e s =
        changed_home group pid (lent_pages test l) l after p f keeps e (λ hidden. go (is_lent_by test (loan_at l p)) refl hidden)
      where
        same : (o : Option Page) → is_lent_by test (loan_of o) ≡ false → shows_page group p (option_map f o) ≡ shows_page group p o
        same None q = refl
        same (Some page) q = ap (shows_home group p) (unless page q)

        go : (b : Bool) → is_lent_by test (loan_at l p) ≡ b → shows group l (Homed p) ≡ false
            → (lent_pages test l (Homed p) ≡ true) × (group pid.0 ≡ false → shows group l (Homed p) ≡ true)
        go true q hidden = (q, lent_shows p (loan_at l p) refl q)
        go false q hidden =
            absurd (false≢true (sym hidden ∙ (sym (same (l.home p) q) ∙ (sym (ap (shows_page group p) e) ∙ s))))

  -- an orphan that may go
  left_source : (test : Number → Bool) (handed : PageName → Bool) (l after : Ledger) (q : Place) → after.orphan q ≡ orphan_but test (l.orphan q)
      → shows group after (Orphaned q) ≡ true → Source group pid handed l after (Orphaned q)
  left_source test handed l after q e s =
      same_orphan group pid handed l after q (e ∙ stays (l.orphan q) (sym (ap (shows_orphan group q) e) ∙ s)) s
    where
      stays : (o : Option Orphan) → shows_orphan group q (orphan_but test o) ≡ true → orphan_but test o ≡ o
      stays None r = refl
      stays (Some orphan) r = go (test orphan.number) r
        where
          go : (b : Bool) → shows_orphan group q (if b then None else Some orphan) ≡ true → (if b then None else Some orphan) ≡ Some orphan
          go true f = absurd (false≢true f)
          go false f = refl

  but_unless : (test : Number → Bool) (o : Option PageLoan) → is_lent_by test o ≡ false → loan_but test o ≡ o
  but_unless test None e = refl
  but_unless test (Some loan) e = ap (λ b. if b then None else Some loan) e

  pub end_loans_sources : (test : Number → Bool) (l : Ledger) → AreHeld test l → Sources group pid (lent_pages test l) l (end_loans test l)
  unfolding end_loans
  end_loans_sources test l held (Homed p) s =
      loan_source test l (end_loans test l) held p (freed_but test) (λ x. refl) (λ x e. but_unless test x.loan e) refl s
  end_loans_sources test l held (Orphaned q) s = left_source test (lent_pages test l) l (end_loans test l) q refl s

  pub end_loan_sources : (number : Number) (l : Ledger) → AreHeld (λ x. same_number x number) l
      → Sources group pid (lent_pages (λ x. same_number x number) l) l (end_loan number l)
  unfolding end_loan
  end_loan_sources number l held (Homed p) s =
      loan_source (λ x. same_number x number) l (end_loan number l) held p (freed number) (λ x. refl)
      (λ x e. but_unless (λ y. same_number y number) x.loan e) refl s
  end_loan_sources number l held (Orphaned q) s =
      left_source (λ x. same_number x number) (lent_pages (λ x. same_number x number) l) l (end_loan number l) q refl s

  pass_unless : (number : Number) (from to : Place) (o : Option PageLoan) → is_lent_by (λ x. same_number x number) o ≡ false
      → option_map (passed_loan number from to) o ≡ o
  pass_unless number from to None e = refl
  pass_unless number from to (Some loan) e =
      ap (λ b. Some (if b then record loan { holder = moved from to loan.holder } else loan)) e

  pub pass_sources : (number : Number) (from to : Place) (l : Ledger) → AreHeld (λ x. same_number x number) l
      → Sources group pid (lent_pages (λ x. same_number x number) l) l (pass number from to l)
  unfolding pass
  pass_sources number from to l held (Homed p) s =
      loan_source (λ x. same_number x number) l (pass number from to l) held p (passed number from to) (λ x. refl)
      (λ x e. pass_unless number from to x.loan e) refl s
  pass_sources number from to l held (Orphaned q) s =
      same_orphan group pid (lent_pages (λ x. same_number x number) l) l (pass number from to l) q refl s

-- Pages that go or become the orphans of their holders keep their bytes, over one step of the ledger and over several.
use Rattle.std.proofs.Common.{◌≡◌, ℕ, Bool, true, false, ◌⊎◌, Option, Some, None, refl, sym, ap, ◌∙◌, inl, inr}
use Rattle.std.specs.Prelude.{◌==◌, if◌then◌else◌}
use Rattle.std.specs.Option.{option_and_then, option_map, option_or}
use Rattle.std.proofs.lemmas.Option.{none-some, same_Some}
use Rattle.xk_base.specs.declared.ids.Number.{Number}
use Rattle.xk_base.specs.declared.ids.Pid.{Pid}
use Rattle.xk_base.specs.declared.ids.Place.{Place}
use Rattle.ledger_model.specs.Lawful.{IsLawful}
use Rattle.ledger_model.specs.Ledger.{Ledger, Contents, Console, Bytes, Page, PageLoan, Orphan, PageName, Homed, Orphaned, loan_at, loan_of}
use Rattle.ledger_model.specs.Reach.{lender_of}
use Rattle.ledger_model.specs.Steps.{forget, orphan_with}
use Rattle.ledger_model.proofs.LedgerLemmas.{lender_of-holder, lender_of-loan}
use Rattle.machine_model.specs.Messaging.LoanSets.{end_loans, freed_but, is_lent_by, loan_but, orphan_loans, orphan_of_page, page_but}
use Rattle.machine_model.specs.Runs.Isolation.{IsNewPage, IsOldPage, IsOrphaned}
use Rattle.confidentiality_laws.specs.EmptyPlaces.{MovesToEmptyPlaces}
use Rattle.confidentiality_laws.proofs.Keeping.LedgerStepLemmas.{left_orphan}
use Rattle.confidentiality_laws.proofs.Keeping.StandingPageLemmas.{homed_once, not_both}

-- a page stood there with the same bytes, and with its loan, where it has one
pub record StoodLent (before : Ledger) (p : Place) (page : Page) : Type 0 where
  pub old : Page
  pub stood : before.home p ≡ Some old
  pub same : page.contents ≡ old.contents
  pub lent : (loan : PageLoan) → page.loan ≡ Some loan → old.loan ≡ Some loan

-- pages stand where they stood, go, or become the orphans of their holders
pub record OnlyOrphans (before after : Ledger) : Type 0 where
  pub homes : (p : Place) (page : Page) → after.home p ≡ Some page → StoodLent before p page
  pub orphans : (q : Place) (orphan : Orphan) → after.orphan q ≡ Some orphan
      → (before.orphan q ≡ Some orphan) ⊎ ((home : Place) × IsOrphaned before after home q orphan)

-- ---- one after the other

module _ (a b c : Ledger) (first : OnlyOrphans a b) (then_ : OnlyOrphans b c) where
  home_then : (p : Place) (page : Page) → c.home p ≡ Some page → StoodLent a p page
  home_then p page e =
      let middle = then_.homes p page e in
      let old = first.homes p middle.old middle.stood in
      record {
        old = old.old;
        stood = old.stood;
        same = middle.same ∙ old.same;
        lent = λ loan q. old.lent loan (middle.lent loan q);
      }

  -- a home that was left stays so
  stays_left : (p : Place) → b.home p ≡ None → (o : Option Page) → c.home p ≡ o → c.home p ≡ None
  stays_left p e None q = q
  stays_left p e (Some page) q = let was = then_.homes p page q in absurd (none-some was.old (sym e ∙ was.stood))

  pub orphans_then : OnlyOrphans a c
  orphans_then = record {
    homes = home_then;
    orphans = λ q orphan e. elim (then_.orphans q orphan e) [
      | inl stood ↦ elim (first.orphans q orphan stood) [
        | inl stayed ↦ inl stayed
        | inr was ↦ inr (
          was.0,
          record {
            page = was.1.page;
            loan = was.1.loan;
            stood = was.1.stood;
            lent = was.1.lent;
            held = was.1.held;
            same = was.1.same;
            left = stays_left was.0 was.1.left (c.home was.0) refl;
          },
        )
      ]
      | inr was ↦
          let old = first.homes was.0 was.1.page was.1.stood in
          inr (
            was.0,
            record {
              page = old.old;
              loan = was.1.loan;
              stood = old.stood;
              lent = old.lent was.1.loan was.1.lent;
              held = was.1.held;
              same = sym old.same ∙ was.1.same;
              left = was.1.left;
            },
          )
    ];
  }

-- ---- no byte is changed

module _ (procs capacity : ℕ) (before after : Ledger) (lawful : IsLawful procs capacity before)
    (only : OnlyOrphans before after) where
  -- a page at a home comes from itself; an orphan that stood comes from itself, and any other from the home that was lent to its place
  abbrev home_source : Option Page → Place → Option PageName
  home_source None p = None
  home_source (Some page) p = Some (Homed p)

  abbrev orphan_source : Option Orphan → Option Orphan → Option Place → Place → Option PageName
  orphan_source None old lender q = None
  orphan_source (Some orphan) (Some old) lender q = Some (Orphaned q)
  orphan_source (Some orphan) None lender q = option_map (λ home. Homed home) lender

  abbrev source : PageName → Option PageName
  source (Homed p) = home_source (after.home p) p
  source (Orphaned q) = orphan_source (after.orphan q) (before.orphan q) (lender_of procs before q) q

  -- the home of a new orphan was lent to its place, and was left
  record Became (q home : Place) : Type 0 where
    loan : PageLoan
    lent : loan_at before home ≡ Some loan
    held : loan.holder ≡ q
    left : after.home home ≡ None
    none : before.orphan q ≡ None
    lender : lender_of procs before q ≡ Some home

  became : (q home : Place) (orphan : Orphan) → IsOrphaned before after home q orphan → Became q home
  became q home orphan was =
      let lent : loan_at before home ≡ Some was.loan = ap loan_of was.stood ∙ was.lent in
      record {
        loan = was.loan;
        lent = lent;
        held = was.held;
        left = was.left;
        none = ap before.orphan (sym was.held) ∙ lawful.holder_no_orphan home was.loan lent;
        lender = ap (lender_of procs before) (sym was.held) ∙ lender_of-holder procs capacity before home was.loan lawful lent;
      }

  -- ---- where pages come from

  data Came (old : PageName) : PageName → Type 0 where
    Stood : (p : Place) (page : Page) → after.home p ≡ Some page → Homed p ≡ old → Came old (Homed p)
    Stayed : (q : Place) → Orphaned q ≡ old → Came old (Orphaned q)
    Orphans : (q home : Place) → Became q home → Homed home ≡ old → Came old (Orphaned q)

  came : (old name : PageName) → source name ≡ Some old → Came old name
  came old (Homed p) e = go (after.home p) refl e
    where
      go : (o : Option Page) → after.home p ≡ o → home_source o p ≡ Some old → Came old (Homed p)
      go None q r = absurd (none-some old r)
      go (Some page) q r = Stood p page q (same_Some (Homed p) old r)
  came old (Orphaned q) e = go (after.orphan q) (before.orphan q) refl refl e
    where
      new : (home : Place) → lender_of procs before q ≡ Some home
          → option_map (λ h. Homed h) (lender_of procs before q) ≡ Some old → Homed home ≡ old
      new home s r = same_Some (Homed home) old (sym (ap (option_map (λ h. Homed h)) s) ∙ r)

      go : (o was : Option Orphan) → after.orphan q ≡ o → before.orphan q ≡ was
          → orphan_source o was (lender_of procs before q) q ≡ Some old
          → Came old (Orphaned q)
      go None was s t r = absurd (none-some old r)
      go (Some orphan) (Some there) s t r = Stayed q (same_Some (Orphaned q) old r)
      go (Some orphan) None s t r = elim (only.orphans q orphan s) [
        | inl stood ↦ absurd (none-some orphan (sym t ∙ stood))
        | inr was ↦ let is = became q was.0 orphan was.1 in Orphans q was.0 is (new was.0 is.lender r)
      ]

  once : (old a b : PageName) → Came old a → Came old b → a ≡ b
  once old _ _ (Stood p page e s) (Stood q other f t) = s ∙ sym t
  once old _ _ (Stood p page e s) (Stayed q t) = absurd (not_both p q (s ∙ sym t))
  once old _ _ (Stood p page e s) (Orphans q home is t) =
      absurd (none-some page (sym is.left ∙ (ap after.home (sym (homed_once p home (s ∙ sym t))) ∙ e)))
  once old _ _ (Stayed q s) (Stood p page e t) = absurd (not_both p q (t ∙ sym s))
  once old _ _ (Stayed q s) (Stayed r t) = s ∙ sym t
  once old _ _ (Stayed q s) (Orphans r home is t) = absurd (not_both home q (t ∙ sym s))
  once old _ _ (Orphans q home is s) (Stood p page e t) =
      absurd (none-some page (sym is.left ∙ (ap after.home (sym (homed_once p home (t ∙ sym s))) ∙ e)))
  once old _ _ (Orphans q home is s) (Stayed r t) = absurd (not_both home r (s ∙ sym t))
  once old _ _ (Orphans q home is s) (Orphans r other has t) =
      let same : loan_at before home ≡ loan_at before other = ap (loan_at before) (homed_once home other (s ∙ sym t)) in
      let loan : is.loan ≡ has.loan = same_Some is.loan has.loan (sym is.lent ∙ (same ∙ has.lent)) in
      ap (λ x. Orphaned x) (sym is.held ∙ (ap (λ (x : PageLoan). x.holder) loan ∙ has.held))

  abbrev New : Place → Page → Type 0
  New p page = (source (Homed p) ≡ None) × (before.home p ≡ None) × IsNewPage page

  abbrev Old : Place → Page → Type 0
  Old p page = (home : Place) × (source (Homed p) ≡ Some (Homed home)) × IsOldPage before after home p page

  home_kept : (p : Place) (page : Page) → after.home p ≡ Some page → New p page ⊎ Old p page
  home_kept p page e =
      let was = only.homes p page e in
      inr (p, ap (λ o. home_source o p) e, record { old = was.old; stood = was.stood; same = was.same; moved = inl refl })

  abbrev StaysOrphan : Place → Orphan → Type 0
  StaysOrphan q orphan = (source (Orphaned q) ≡ Some (Orphaned q)) × (before.orphan q ≡ Some orphan)

  abbrev NewOrphan : Place → Orphan → Type 0
  NewOrphan q orphan = (home : Place) × (source (Orphaned q) ≡ Some (Homed home)) × IsOrphaned before after home q orphan

  source_at : (q : Place) (orphan : Orphan) → after.orphan q ≡ Some orphan → (was : Option Orphan) → before.orphan q ≡ was
      → source (Orphaned q) ≡ orphan_source (Some orphan) was (lender_of procs before q) q
  source_at q orphan e was f =
      ap (λ o. orphan_source o (before.orphan q) (lender_of procs before q) q) e
      ∙ ap (λ o. orphan_source (Some orphan) o (lender_of procs before q) q) f

  orphan_kept : (q : Place) (orphan : Orphan) → after.orphan q ≡ Some orphan → StaysOrphan q orphan ⊎ NewOrphan q orphan
  orphan_kept q orphan e = elim (only.orphans q orphan e) [
    | inl stood ↦ inl (source_at q orphan e (Some orphan) stood, stood)
    | inr was ↦
        let is = became q was.0 orphan was.1 in
        inr (was.0, source_at q orphan e None is.none ∙ ap (option_map (λ h. Homed h)) is.lender, was.1)
  ]

  -- a page that stood stays, or goes
  stays_or_goes : (p : Place) (o : Option Page) → after.home p ≡ o → (after.home p ≡ None) ⊎ (source (Homed p) ≡ Some (Homed p))
  stays_or_goes p None e = inl e
  stays_or_goes p (Some page) e = inr (ap (λ o. home_source o p) e)

  pub orphans_keep : MovesToEmptyPlaces before after
  orphans_keep = record {
    bytes = record {
      from = source;
      one_to_one = λ a b old e f. once old a b (came old a e) (came old b f);
      homes = home_kept;
      orphans = orphan_kept;
    };
    standing = λ p old e. stays_or_goes p (after.home p) refl;
  }

-- ---- the steps of a death

left_loan : (ends : Number → Bool) (o : Option PageLoan) (loan : PageLoan) → loan_but ends o ≡ Some loan → o ≡ Some loan
left_loan ends None loan e = absurd (none-some loan e)
left_loan ends (Some old) loan e = go (ends old.number) e
  where
    go : (b : Bool) → (if b then None else Some old) ≡ Some loan → Some old ≡ Some loan
    go true q = absurd (none-some loan q)
    go false q = q

freed_stood : (ends : Number → Bool) (l : Ledger) (p : Place) (o : Option Page) → l.home p ≡ o → (page : Page)
    → option_map (freed_but ends) o ≡ Some page → StoodLent l p page
freed_stood ends l p None q page e = absurd (none-some page e)
freed_stood ends l p (Some old) q page e =
    let same : freed_but ends old ≡ page = same_Some (freed_but ends old) page e in
    record {
      old = old;
      stood = q;
      same = sym (ap (λ (x : Page). x.contents) same);
      lent = λ loan r. left_loan ends old.loan loan (ap (λ (x : Page). x.loan) same ∙ r);
    }

pub end_loans_orphans : (ends : Number → Bool) (l : Ledger) → OnlyOrphans l (end_loans ends l)
unfolding end_loans
end_loans_orphans ends l = record {
  homes = λ p page e. freed_stood ends l p (l.home p) refl page e;
  orphans = λ q orphan e. inl (left_orphan ends (l.orphan q) orphan e);
}

pub forget_orphans : (pid : Pid) (l : Ledger) → OnlyOrphans l (forget pid l)
unfolding forget
forget_orphans pid l = record { homes = λ p page e. go p page (p.pid.0 == pid.0) e; orphans = λ q orphan e. inl e }
  where
    go : (p : Place) (page : Page) (b : Bool) → (if b then None else l.home p) ≡ Some page → StoodLent l p page
    go p page true e = absurd (none-some page e)
    go p page false e = record { old = page; stood = e; same = refl; lent = λ loan r. r }

module _ (procs : ℕ) (goes : Number → Bool) (l : Ledger) where
  abbrev after : Ledger
  after = orphan_loans procs goes l

  left_stood : (p : Place) (o : Option Page) → l.home p ≡ o → (page : Page) → page_but goes o ≡ Some page → StoodLent l p page
  left_stood p None q page e = absurd (none-some page e)
  left_stood p (Some old) q page e = go (is_lent_by goes old.loan) e
    where
      go : (b : Bool) → (if b then None else Some old) ≡ Some page → StoodLent l p page
      go true r = absurd (none-some page r)
      go false r =
          let same : old ≡ page = same_Some old page r in
          record {
            old = old;
            stood = q;
            same = sym (ap (λ (x : Page). x.contents) same);
            lent = λ loan s. ap (λ (x : Page). x.loan) same ∙ s;
          }

  -- the bytes of the orphan are those of the page
  orphan_bytes : (loan : PageLoan) (c : Contents) (orphan : Orphan) → orphan_with loan c ≡ Some orphan → c ≡ Bytes orphan.bytes
  orphan_bytes loan Console orphan e = absurd (none-some orphan e)
  orphan_bytes loan (Bytes bytes) orphan e =
      ap (λ (x : Orphan). Bytes x.bytes) (same_Some (record { kind = loan.kind; bytes = bytes; number = loan.number }) orphan e)

  home_goes : (home : Place) (page : Page) (loan : PageLoan) → l.home home ≡ Some page → page.loan ≡ Some loan
      → goes loan.number ≡ true
      → after.home home ≡ None
  unfolding orphan_loans
  home_goes home page loan e f g = ap (page_but goes) e ∙ ap (λ b. if b then None else Some page) (ap (is_lent_by goes) f ∙ g)

  from_page : (q home : Place) (page : Page) → lender_of procs l q ≡ Some home → l.home home ≡ Some page → (orphan : Orphan)
      → orphan_of_page goes page ≡ Some orphan → IsOrphaned l after home q orphan
  from_page q home page s e orphan r = go page.loan refl r
    where
      held : (loan : PageLoan) → page.loan ≡ Some loan → loan.holder ≡ q
      held loan f =
          let is : (x : PageLoan) × (loan_at l home ≡ Some x) × (x.holder ≡ q) = lender_of-loan procs l q home s in
          ap (λ (x : PageLoan). x.holder) (same_Some loan is.0 (sym f ∙ (sym (ap loan_of e) ∙ is.1))) ∙ is.2

      of_loan : (loan : PageLoan) → page.loan ≡ Some loan → (b : Bool) → goes loan.number ≡ b
          → (if b then orphan_with loan page.contents else None) ≡ Some orphan → IsOrphaned l after home q orphan
      of_loan loan f true g t = record {
        page = page;
        loan = loan;
        stood = e;
        lent = f;
        held = held loan f;
        same = orphan_bytes loan page.contents orphan t;
        left = home_goes home page loan e f g;
      }
      of_loan loan f false g t = absurd (none-some orphan t)

      go : (o : Option PageLoan) → page.loan ≡ o
          → option_and_then (λ loan. if goes loan.number then orphan_with loan page.contents else None) o ≡ Some orphan
          → IsOrphaned l after home q orphan
      go None f t = absurd (none-some orphan t)
      go (Some loan) f t = of_loan loan f (goes loan.number) refl t

  from_home : (q home : Place) → lender_of procs l q ≡ Some home → (o : Option Page) → l.home home ≡ o → (orphan : Orphan)
      → option_and_then (orphan_of_page goes) o ≡ Some orphan → IsOrphaned l after home q orphan
  from_home q home s None e orphan r = absurd (none-some orphan r)
  from_home q home s (Some page) e orphan r = from_page q home page s e orphan r

  from_lender : (q : Place) (o : Option Place) → lender_of procs l q ≡ o → (orphan : Orphan)
      → option_and_then (orphan_of_page goes) (option_and_then l.home o) ≡ Some orphan
      → (home : Place) × IsOrphaned l after home q orphan
  from_lender q None s orphan r = absurd (none-some orphan r)
  from_lender q (Some home) s orphan r = (home, from_home q home s (l.home home) refl orphan r)

  either : (q : Place) (orphan : Orphan) (o : Option Orphan)
      → option_and_then (orphan_of_page goes) (option_and_then l.home (lender_of procs l q)) ≡ o
      → option_or o (l.orphan q) ≡ Some orphan
      → (l.orphan q ≡ Some orphan) ⊎ ((home : Place) × IsOrphaned l after home q orphan)
  either q orphan None s e = inl e
  either q orphan (Some new) s e = inr (from_lender q (lender_of procs l q) refl orphan (s ∙ e))

  pub orphan_loans_orphans : OnlyOrphans l (orphan_loans procs goes l)
  unfolding orphan_loans
  orphan_loans_orphans = record {
    homes = λ p page e. left_stood p (l.home p) refl page e;
    orphans =
        λ q orphan e. either q orphan
        (option_and_then (orphan_of_page goes) (option_and_then l.home (lender_of procs l q))) refl e;
  }

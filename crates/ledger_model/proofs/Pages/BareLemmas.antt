-- What ledgers that are equal but for their bytes have in common.
use Rattle.std.proofs.Common.{◌≡◌, ℕ, Bool, ◌&&◌, Option, Some, None, refl, sym, ap, subst, ◌∙◌, if◌then◌else◌, arith}
use Rattle.std.specs.Prelude.{is_none}
use Rattle.std.specs.Option.{option_map}
use Rattle.std.proofs.lemmas.Option.{none-some, same_Some}
use Rattle.xk_base.specs.declared.ids.Number.{Number}
use Rattle.xk_base.specs.declared.ids.Place.{Place}
use Rattle.xk_base.specs.declared.pages.Access.{Access}
use Rattle.xk_base.specs.declared.pages.LoanKind.{LoanKind}
use Rattle.xk_base.specs.declared.pages.LoanKind.TheVariants.{Shared, Exclusive}
use Rattle.ledger_model.specs.Conditions.{CanLend, CanGive, CanPass, may_lend, may_move}
use Rattle.ledger_model.specs.Lawful.{IsLawful}
use Rattle.ledger_model.specs.Ledger.{Ledger, Contents, Console, Bytes, Page, PageLoan, Orphan, PageName, Homed, Orphaned, contents_of, has_bytes, loan_at, loan_of, pages}
use Rattle.ledger_model.specs.Loans.{bare, bare_page, bare_orphan, bare_contents, LoanRun, IsFresh, Stands}
use Rattle.ledger_model.specs.Places.{first_place}
use Rattle.ledger_model.specs.Reach.{is_held_at, lender_of, Role, FreePlace, HomePlace, HolderPlace, OrphanPlace, holder_role, home_or, orphan_or_holder, lent_role, role_at, may, page_at_role, reach, is_free, is_free_role}
use Rattle.ledger_model.proofs.NarrowerLemmas.{ComesFrom, Narrower, lawful_narrower}
use Rattle.ledger_model.proofs.Stepping.RemovingLemmas.{same_runs}
use Rattle.ledger_model.proofs.Stepping.WritingLemmas.{bare-loans, bare-pages}

-- ---- reach

loan-bare : (o : Option Page) → loan_of (option_map bare_page o) ≡ loan_of o
loan-bare None = refl
loan-bare (Some page) = refl

lender-bare : (procs : ℕ) (l : Ledger) (p : Place) → lender_of procs (bare l) p ≡ lender_of procs l p
unfolding lender_of bare
lender-bare procs l p = λ i. first_place procs (λ q. is_held_at p (loan-bare (l.home q) i))

-- ledgers that are equal but for their bytes have the same lenders
pub bare-lender : (procs : ℕ) (l m : Ledger) (p : Place) → bare m ≡ bare l → lender_of procs m p ≡ lender_of procs l p
bare-lender procs l m p e = sym (lender-bare procs m p) ∙ ap (λ b. lender_of procs b p) e ∙ lender-bare procs l p

bare_role : Role → Role
bare_role FreePlace = FreePlace
bare_role (HomePlace page) = HomePlace (bare_page page)
bare_role (HolderPlace home loan) = HolderPlace home loan
bare_role (OrphanPlace orphan) = OrphanPlace (bare_orphan orphan)

lent-bare : (home : Place) (o : Option PageLoan) → lent_role home o ≡ bare_role (lent_role home o)
unfolding bare_role
lent-bare home None = refl
lent-bare home (Some loan) = refl

holder-bare : (l : Ledger) (o : Option Place) → holder_role (bare l) o ≡ bare_role (holder_role l o)
unfolding bare bare_role
holder-bare l None = refl
holder-bare l (Some home) = ap (lent_role home) (loan-bare (l.home home)) ∙ lent-bare home (loan_at l home)

home-bare : (o : Option Page) (other : Role) → home_or (option_map bare_page o) (bare_role other) ≡ bare_role (home_or o other)
unfolding bare_role
home-bare None other = refl
home-bare (Some page) other = refl

orphan-bare : (o : Option Orphan) (other : Role) → orphan_or_holder (option_map bare_orphan o) (bare_role other) ≡ bare_role (orphan_or_holder o other)
unfolding bare_role
orphan-bare None other = refl
orphan-bare (Some orphan) other = refl

role-bare : (procs : ℕ) (l : Ledger) (p : Place) → role_at procs (bare l) p ≡ bare_role (role_at procs l p)
unfolding role_at bare
role-bare procs l p =
    ap (λ o. home_or (option_map bare_page (l.home p)) (orphan_or_holder (option_map bare_orphan (l.orphan p)) (holder_role (bare l) o))) (lender-bare procs l p)
    ∙ ap (λ r. home_or (option_map bare_page (l.home p)) (orphan_or_holder (option_map bare_orphan (l.orphan p)) r)) (holder-bare l (lender_of procs l p))
    ∙ ap (home_or (option_map bare_page (l.home p))) (orphan-bare (l.orphan p) (holder_role l (lender_of procs l p)))
    ∙ home-bare (l.home p) (orphan_or_holder (l.orphan p) (holder_role l (lender_of procs l p)))

may-bare : (role : Role) (access : Access) → may (bare_role role) access ≡ may role access
unfolding bare_role
may-bare FreePlace access = refl
may-bare (HomePlace page) access = refl
may-bare (HolderPlace home loan) access = refl
may-bare (OrphanPlace orphan) access = refl

name-bare : (p : Place) (role : Role) → page_at_role p (bare_role role) ≡ page_at_role p role
unfolding bare_role
name-bare p FreePlace = refl
name-bare p (HomePlace page) = refl
name-bare p (HolderPlace home loan) = refl
name-bare p (OrphanPlace orphan) = refl

pub reach-bare : (procs : ℕ) (l : Ledger) (p : Place) (access : Access) → reach procs (bare l) p access ≡ reach procs l p access
unfolding reach
reach-bare procs l p access =
    ap (λ r. if may r access then page_at_role p r else None) (role-bare procs l p)
    ∙ ap (λ b. if b then page_at_role p (bare_role (role_at procs l p)) else None) (may-bare (role_at procs l p) access)
    ∙ ap (λ n. if may (role_at procs l p) access then n else None) (name-bare p (role_at procs l p))

-- ledgers that are equal but for their bytes give the same accesses to the same pages
pub bare-reach : (procs : ℕ) (l m : Ledger) (p : Place) (access : Access) → bare m ≡ bare l → reach procs m p access ≡ reach procs l p access
bare-reach procs l m p access e =
    sym (reach-bare procs m p access) ∙ ap (λ b. reach procs b p access) e ∙ reach-bare procs l p access

-- ---- the console

abbrev pub is_bytes : Option Contents → Option Bool
is_bytes o = option_map has_bytes o

bytes-bare : (c : Contents) → has_bytes (bare_contents c) ≡ has_bytes c
bytes-bare Console = refl
bytes-bare (Bytes bytes) = refl

page-bytes : (o : Option Page) → is_bytes (option_map (λ (page : Page). page.contents) (option_map bare_page o)) ≡ is_bytes (option_map (λ (page : Page). page.contents) o)
page-bytes None = refl
page-bytes (Some page) = ap (λ b. Some b) (bytes-bare page.contents)

orphan-bytes : (o : Option Orphan) → is_bytes (option_map (λ (orphan : Orphan). Bytes orphan.bytes) (option_map bare_orphan o)) ≡ is_bytes (option_map (λ (orphan : Orphan). Bytes orphan.bytes) o)
orphan-bytes None = refl
orphan-bytes (Some orphan) = refl

contents-bare : (l : Ledger) (name : PageName) → is_bytes (contents_of (bare l) name) ≡ is_bytes (contents_of l name)
unfolding bare
contents-bare l (Homed p) = page-bytes (l.home p)
contents-bare l (Orphaned p) = orphan-bytes (l.orphan p)

-- .. and have the console in the same place
pub bare-contents : (l m : Ledger) (name : PageName) → bare m ≡ bare l → is_bytes (contents_of m name) ≡ is_bytes (contents_of l name)
bare-contents l m name e = sym (contents-bare m name) ∙ ap (λ b. is_bytes (contents_of b name)) e ∙ contents-bare l name

-- ---- free places, and pages that may be lent and moved

free-bare : (role : Role) → is_free_role (bare_role role) ≡ is_free_role role
unfolding bare_role
free-bare FreePlace = refl
free-bare (HomePlace page) = refl
free-bare (HolderPlace home loan) = refl
free-bare (OrphanPlace orphan) = refl

pub bare-free : (procs : ℕ) (l m : Ledger) (p : Place) → bare m ≡ bare l → is_free procs m p ≡ is_free procs l p
unfolding is_free
bare-free procs l m p e =
    sym (free-bare (role_at procs m p)) ∙ ap is_free_role (sym (role-bare procs m p))
    ∙ ap (λ b. is_free_role (role_at procs b p)) e ∙ ap is_free_role (role-bare procs l p) ∙ free-bare (role_at procs l p)

same_home : (l m : Ledger) (p : Place) → bare m ≡ bare l → option_map bare_page (m.home p) ≡ option_map bare_page (l.home p)
unfolding bare
same_home l m p e = ap (λ (x : Ledger). x.home p) e

same_orphan : (l m : Ledger) (p : Place) → bare m ≡ bare l → option_map bare_orphan (m.orphan p) ≡ option_map bare_orphan (l.orphan p)
unfolding bare
same_orphan l m p e = ap (λ (x : Ledger). x.orphan p) e

lend-bare : (kind : LoanKind) (o : Option Page) → may_lend kind (option_map bare_page o) ≡ may_lend kind o
lend-bare kind None = refl
lend-bare Shared (Some page) = ap (λ b. b && is_none page.loan) (bytes-bare page.contents)
lend-bare Exclusive (Some page) = ap (λ b. b && is_none page.loan && page.right.w) (bytes-bare page.contents)

move-bare : (o : Option Page) → may_move (option_map bare_page o) ≡ may_move o
move-bare None = refl
move-bare (Some page) = ap (λ b. b && is_none page.loan) (bytes-bare page.contents)

-- so the conditions of the steps of loans are the same
module _ (procs : ℕ) (l m : Ledger) (e : bare m ≡ bare l) where
  pub bare-can_lend : (from : Place) (n : ℕ) (to : Place) (kind : LoanKind) (number : Number) → CanLend procs l from n to kind number
      → CanLend procs m from n to kind number
  bare-can_lend from n to kind number can = record {
    pages = λ p t. sym (lend-bare kind (m.home p)) ∙ ap (may_lend kind) (same_home l m p e) ∙ lend-bare kind (l.home p) ∙ can.pages p t;
    free = λ p t. bare-free procs l m p e ∙ can.free p t;
    lies = can.lies;
    fresh = subst (λ x. IsFresh x number) (sym (bare-loans l m e)) can.fresh;
  }

  pub bare-can_give : (from : Place) (n : ℕ) (to : Place) → CanGive procs l from n to → CanGive procs m from n to
  bare-can_give from n to can = record {
    pages = λ p t. sym (move-bare (m.home p)) ∙ ap may_move (same_home l m p e) ∙ move-bare (l.home p) ∙ can.pages p t;
    free = λ p t. bare-free procs l m p e ∙ can.free p t;
    lies = can.lies;
  }

  pub bare-can_pass : (r : LoanRun) (to : Place) → CanPass procs l r to → CanPass procs m r to
  bare-can_pass r to can = record {
    stands = subst (λ x. Stands x r) (sym (bare-loans l m e)) can.stands;
    lent = can.lent;
    free = λ p t. bare-free procs l m p e ∙ can.free p t;
    lies = can.lies;
  }

-- ---- lawful ledgers

bare_console : (c d : Contents) → bare_contents c ≡ bare_contents d → c ≡ Console → d ≡ Console
bare_console c Console e f = refl
bare_console c (Bytes bytes) e f = let g : Console ≡ Bytes _ = sym (ap bare_contents f) ∙ e in cc

like : (a b : Page) → bare_page b ≡ bare_page a → ComesFrom a b
like a b e = record {
  console = λ is. bare_console b.contents a.contents (ap (λ (page : Page). page.contents) e) is;
  fetch = λ is none. ap (λ (page : Page). page.right.x) e ∙ none;
  loan = λ x is. sym (ap (λ (page : Page). page.loan) e) ∙ is;
  right = λ x is. ap (λ (page : Page). page.right) e;
}

bare_narrower : (l m : Ledger) → bare m ≡ bare l → Narrower l m
bare_narrower l m e = record {
  homes = λ p b f. from_home b (l.home p) (sym (ap (option_map bare_page) f) ∙ same_home l m p e);
  orphans = λ p b f. from_orphan b (l.orphan p) (sym (ap (option_map bare_orphan) f) ∙ same_orphan l m p e);
}
  where
    from_home : (b : Page) (o : Option Page) → option_map bare_page (Some b) ≡ option_map bare_page o → (a : Page) × (o ≡ Some a) × ComesFrom a b
    from_home b None f = absurd (none-some (bare_page b) (sym f))
    from_home b (Some a) f = (a, refl, like a b (same_Some (bare_page b) (bare_page a) f))

    from_orphan : (b : Orphan) (o : Option Orphan) → option_map bare_orphan (Some b) ≡ option_map bare_orphan o → (a : Orphan) × (o ≡ Some a)
    from_orphan b None f = absurd (none-some (bare_orphan b) (sym f))
    from_orphan b (Some a) f = (a, refl)

pub bare-lawful : (procs capacity : ℕ) (l m : Ledger) → bare m ≡ bare l → IsLawful procs capacity l → IsLawful procs capacity m
bare-lawful procs capacity l m e h =
    lawful_narrower procs capacity l m h (bare_narrower l m e)
    (let same : pages procs m ≡ pages procs l = bare-pages procs l m e in omega arith)
    (λ number. same_runs l m (bare-loans l m e) number (h.one_run number))

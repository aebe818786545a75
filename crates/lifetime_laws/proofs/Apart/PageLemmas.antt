-- The pages of a process that shares nothing stay, and none comes.
use Rattle.std.proofs.Common.{◌≡◌, ◌≢◌, ℕ, List, Option, Some, None, is_some, refl, sym, ap, ◌∙◌, inl, inr, subst}
use Rattle.std.specs.Prelude.{if◌then◌else◌}
use Rattle.std.specs.Option.{option_map}
use Rattle.std.proofs.lemmas.Option.{none-some, same_Some}
use Rattle.xk_base.specs.declared.ids.Pid.{Pid}
use Rattle.xk_base.specs.declared.ids.Place.{Place}
use Rattle.xk_base.specs.declared.pages.Access.TheVariants.{Load}
use Rattle.ledger_model.specs.Ledger.{Homed, Ledger, Page, PageLoan, PageName, contents_of, loan_of}
use Rattle.ledger_model.specs.Loans.{bare, bare_page}
use Rattle.ledger_model.specs.Reach.{HomePlace, home_may, reach}
use Rattle.ledger_model.proofs.LedgerLemmas.{reach-role, role_at-home}
use Rattle.machine_model.specs.Runs.LoanSpan.{IsInstructionOf, IsServedCallOf}
use Rattle.machine_model.specs.Runs.Moments.{Moment}
use Rattle.machine_model.specs.State.Machine.{Machine}
use Rattle.noninterference_laws.specs.Integrity.{LeavesOthers}
use Rattle.confidentiality_laws.proofs.Keeping.StandingPageLemmas.{homed_once, not_both}
use Rattle.noninterference_laws.specs.Fates.{Comes, HomeFate, LoanEnds, LoanPasses, PageStays}
use Rattle.lifetime_laws.specs.Deeds.{Allocated, Bereft, Deed, Forwarded, GivenBack, Grown, Lent, LivesOn, Mapped, Moved, Reduced, Stays}
use Rattle.lifetime_laws.specs.Deeds.{StaysOrphan, Stored}
use Rattle.lifetime_laws.specs.Lives.{PagesLive}
use Rattle.lifetime_laws.specs.Untouched.{SharesNothing}

-- ---- what comes of other deeds

module _ (before : Machine) (moment : Moment) (p : Place) (none : before.ledger.home p ≡ None)
    (unstored : (pid : Pid) → IsInstructionOf pid before moment → ⊥) (alone : SharesNothing p.pid before)
    (uncalled : (words : List ℕ) → IsServedCallOf p.pid words before moment → ⊥) where
  -- no page stood there
  not_there : (q : Place) (page : Page) → Homed q ≡ Homed p → before.ledger.home q ≡ Some page → ⊥
  not_there q page e there = none-some page (sym none ∙ (ap before.ledger.home (sym (homed_once q p e)) ∙ there))

  not_living : (old new : PageName) (deed : Deed) → LivesOn before moment old deed new → new ≡ Homed p → ⊥
  not_living _ _ _ (Stays q page was now) e = not_there q page e was
  not_living _ _ _ (StaysOrphan q orphan was now) e = not_both p q (sym e)
  not_living _ _ _ (Stored name pid instruction store is) e = unstored pid instruction
  not_living _ _ _ (Reduced q page right was unlent within now call) e = not_there q page e was
  not_living _ _ _ (Lent q page loan kind was unlent now lends sent) e = not_there q page e was
  not_living _ _ _ (Forwarded q page loan to was lent now forwarded) e = not_there q page e was
  not_living _ _ _ (GivenBack q page loan was lent now ended) e = not_there q page e was
  not_living _ _ _ (Moved from to page number was unlent free now left sent) e =
      alone.servers sent.serial.0 sent.server sent.live (sent.receives ∙ ap (λ (x : Place). x.pid) (homed_once to p e))
  not_living _ _ _ (Bereft home q orphan free now was number kind dies) e = not_both p q (sym e)

  not_made : (new : PageName) → Allocated before moment new → new ≡ Homed p → ⊥
  not_made _ (Mapped q page free now new unlent call) e =
      uncalled call.words (subst (λ pid. IsServedCallOf pid call.words before moment) (ap (λ (x : Place). x.pid) (homed_once q p e)) call.served)
  not_made _ (Grown q free now call) e =
      uncalled call.words (subst (λ pid. IsServedCallOf pid call.words before moment) (ap (λ (x : Place). x.pid) (homed_once q p e)) call.served)

  pub none_comes : PagesLive before moment → (page : Page) → moment.machine.ledger.home p ≡ Some page → ⊥
  none_comes lives page now = elim (lives.comes (Homed p) (ap is_some now)) [
    | inl old ↦ not_living old.0 (Homed p) old.2.lives.0 old.2.lives.1 refl
    | inr made ↦ not_made (Homed p) made.1 refl
  ]

-- ---- what a process that does something makes of them

pub home_stays : (pid : Pid) (m : Machine) (after : Ledger) (p : Place) → SharesNothing p.pid m
    → (m.ledger.home p ≡ None → (page : Page) → after.home p ≡ Some page → ⊥) → HomeFate pid m.ledger after p → after.home p ≡ m.ledger.home p
home_stays pid m after p alone none (PageStays same) = same
home_stays pid m after p alone none (LoanEnds page loan there lent held now) = absurd (alone.loans p loan (ap loan_of there ∙ lent) refl)
home_stays pid m after p alone none (LoanPasses page loan to there lent held now) = absurd (alone.loans p loan (ap loan_of there ∙ lent) refl)
home_stays pid m after p alone none (Comes from page free own there now) = absurd (none free page now)

-- ---- what an instruction makes of them

-- a page with another's bytes out of account, and these bytes
same_page : (a b : Page) → bare_page a ≡ bare_page b → a.contents ≡ b.contents → a ≡ b
same_page a b e f = λ i. record { right = (e i).right; contents = f i; loan = (e i).loan }

module _ (pid : Pid) (m after : Machine) (leaves : LeavesOthers pid m after) (p : Place) (other : p.pid ≢ pid) (alone : SharesNothing p.pid m) where
  bare_now : option_map bare_page (after.ledger.home p) ≡ option_map bare_page (m.ledger.home p)
  unfolding bare
  bare_now = ap (λ (l : Ledger). l.home p) leaves.pages

  unlent : (page : Page) → m.ledger.home p ≡ Some page → page.loan ≡ None
  unlent page there = go page.loan refl
    where
      go : (o : Option PageLoan) → page.loan ≡ o → o ≡ None
      go None e = refl
      go (Some loan) e = absurd (alone.loans p loan (ap loan_of there ∙ e) refl)

  loaded : (page : Page) → m.ledger.home p ≡ Some page → reach m.processes m.ledger p Load ≡ Some (Homed p)
  loaded page there =
      reach-role m.processes m.ledger p Load (HomePlace page) (role_at-home m.processes m.ledger p page there)
      ∙ ap (λ o. if home_may page.right o Load then Some (Homed p) else None) (unlent page there)

  bytes_now : (page : Page) → m.ledger.home p ≡ Some page → contents_of after.ledger (Homed p) ≡ contents_of m.ledger (Homed p)
  bytes_now page there = leaves.bytes (Homed p) (record { place = p; other = other; reached = loaded page there })

  pub page_stays : after.ledger.home p ≡ m.ledger.home p
  page_stays = go (m.ledger.home p) (after.ledger.home p) refl refl
    where
      go : (o now : Option Page) → m.ledger.home p ≡ o → after.ledger.home p ≡ now → after.ledger.home p ≡ m.ledger.home p
      go None None e f = f ∙ sym e
      go None (Some page) e f =
          absurd (none-some (bare_page page) (sym (bare_now ∙ ap (option_map bare_page) e) ∙ ap (option_map bare_page) f))
      go (Some page) None e f =
          absurd (none-some (bare_page page) (sym (ap (option_map bare_page) f) ∙ (bare_now ∙ ap (option_map bare_page) e)))
      go (Some page) (Some later) e f =
          let same : bare_page later ≡ bare_page page =
          same_Some (bare_page later) (bare_page page) (sym (ap (option_map bare_page) f) ∙ (bare_now ∙ ap (option_map bare_page) e)) in
          let bytes : later.contents ≡ page.contents =
          same_Some later.contents page.contents
          (sym (ap (option_map (λ (x : Page). x.contents)) f) ∙ (bytes_now page e ∙ ap (option_map (λ (x : Page). x.contents)) e)) in
          f ∙ (ap (λ x. Some x) (same_page later page same bytes) ∙ sym e)

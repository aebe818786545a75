-- What the entries and owners tell of the role of a place.
use Rattle.std.proofs.Common.{◌≡◌, ◌≢◌, ℕ, if◌then◌else◌, true, false, Option, Some, None, refl, sym, ap, ◌∙◌}
use Rattle.std.specs.Option.{option_and_then, option_map}
use Rattle.std.proofs.lemmas.Option.{none-some}
use Rattle.xk_base.specs.declared.ids.Place.{Place}
use Rattle.xk_base.specs.declared.pages.Access.{Access}
use Rattle.xk_base.specs.declared.pages.LoanKind.{LoanKind}
use Rattle.xk_base.specs.declared.pages.LoanKind.TheVariants.{Shared, Exclusive}
use Rattle.phys_pages.specs.declared.infos.LoanInfo.{LoanInfo}
use Rattle.phys_pages.specs.declared.infos.Seat.{Seat}
use Rattle.ledger_model.specs.Ledger.{Console, Bytes, Page, loan_at, loan_of}
use Rattle.ledger_model.specs.Reach.{FreePlace, HomePlace, HolderPlace, OrphanPlace, role_at, holder_may, home_may, may, page_at_role, reach, is_free, is_free_role}
use Rattle.ledger_model.proofs.LedgerLemmas.{lender_of-None, role_at-home, role_at-orphan, role_at-lender, role_at-free}
use Rattle.sv32_space.specs.declared.sides.Side.{Side}
use Rattle.sv32_space.specs.declared.sides.Side.TheVariants.{Own, LentOut, LentIn, MutOut, MutIn}
use Rattle.sv32_space.specs.Agreement.{Infos, EntriesAgree, on_loan, holder_side, home_in, loan_in, seat_in, loan_to}
use Rattle.sv32_space.specs.declared.sides.Entry.{Entry}
use Rattle.sv32_space.specs.declared.sides.Entry.TheVariants.{Free, At, OnConsole}
use Rattle.sv32_space.specs.Entries.{Entries}
use Rattle.sv32_space.specs.EntryLedger.{SeatBytes, IsWellPlaced, ledger_of, page_loan, page_of_entry, orphan_of_loan, orphan_of_info, orphan_of_entry, is_free_entry}
use Rattle.sv32_space.specs.EntryReach.{entry_may}
use Rattle.sv32_space.specs.StandsFor.{AreSpelled}
use Rattle.sv32_space.proofs.Ledgers.EntryLedgerLemmas.{home_at, orphan_at, page_of_holder, orphan_of_holder}
use Rattle.sv32_space.proofs.Ledgers.LoanLedgerLemmas.{lent_page}
use Rattle.sv32_space.proofs.Agreeing.NumberRunLemmas.{lender_at}
use Rattle.sv32_space.proofs.Agreeing.StandingLemmas.{are_spelled, well_placed}

module _ (procs : ℕ) (E : Entries) (I : Infos) (B : SeatBytes) (agree : EntriesAgree procs E I) where
  -- the home of a page, also of the console
  pub role_of_home : (p : Place) (e : Entry) (page : Page) → E p ≡ Some e → page_of_entry I B e ≡ Some page
      → role_at procs (ledger_of E I B) p ≡ HomePlace page
  role_of_home p e page h k = role_at-home procs (ledger_of E I B) p page (home_at E I B p e h ∙ k)

  -- the holder's place of a page with a lender
  pub role_of_holder : (s : Seat) (home : Place) (loan : LoanInfo) → I s ≡ Some (on_loan (Some home) loan)
      → role_at procs (ledger_of E I B) loan.holder ≡ HolderPlace home (page_loan loan)
  role_of_holder s home loan i =
      let l : loan_at (ledger_of E I B) home ≡ Some (page_loan loan) = ap loan_of (lent_page procs E I B home s loan agree i) in
      let placed : IsWellPlaced procs (ledger_of E I B) = well_placed procs E I B agree in
      role_at-lender procs (ledger_of E I B) loan.holder home (page_loan loan) (placed.holder_no_home home (page_loan loan) l)
      (placed.holder_no_orphan home (page_loan loan) l) (lender_at procs (ledger_of E I B) home (page_loan loan) placed l) l

  -- the place of an orphan
  pub role_of_orphan : (s : Seat) (loan : LoanInfo) → I s ≡ Some (on_loan None loan)
      → role_at procs (ledger_of E I B) loan.holder ≡ OrphanPlace (orphan_of_loan (B s) loan)
  role_of_orphan s loan i =
      let e : E loan.holder ≡ Some (At (holder_side loan.kind) s) = agree.holder s None loan i in
      role_at-orphan procs (ledger_of E I B) loan.holder (orphan_of_loan (B s) loan)
      (home_at E I B loan.holder (At (holder_side loan.kind) s) e ∙ page_of_holder loan.kind (I s) (B s))
      (orphan_at E I B loan.holder (At (holder_side loan.kind) s) e
      ∙ (orphan_of_holder loan.kind (I s) (B s) ∙ ap (option_and_then (orphan_of_info (B s))) i))

  -- a place at which nothing stands
  free_role : (p : Place) → (ledger_of E I B).home p ≡ None → (ledger_of E I B).orphan p ≡ None
      → ((side : Side) (t : Seat) → E p ≢ Some (At side t)) → role_at procs (ledger_of E I B) p ≡ FreePlace
  free_role p h o names = role_at-free procs (ledger_of E I B) p h o
      (lender_of-None procs (ledger_of E I B) p (λ q loan l same.
      let spelled : AreSpelled procs E (ledger_of E I B) (λ r. seat_in (E r)) = are_spelled procs E I B agree in
      names (holder_side loan.kind) (seat_in (E q)) (ap E (sym same) ∙ spelled.holder q loan l)))

  pub role_of_free : (p : Place) → E p ≡ Some Free → role_at procs (ledger_of E I B) p ≡ FreePlace
  role_of_free p h = free_role p (home_at E I B p Free h) (orphan_at E I B p Free h) (λ side t e. clash side t (sym h ∙ e))
    where
      clash : (side : Side) (t : Seat) → Some Free ≡ Some (At side t) → ⊥
      clash side t e = cc

  pub role_of_none : (p : Place) → E p ≡ None → role_at procs (ledger_of E I B) p ≡ FreePlace
  unfolding ledger_of
  role_of_none p h = free_role p (ap (option_and_then (page_of_entry I B)) h) (ap (option_and_then (orphan_of_entry I B)) h)
      (λ side t e. none-some (At side t) (sym h ∙ e))

  held_not_free : (p : Place) (kind : LoanKind) (s : Seat) → I s ≡ Some (on_loan (home_in (I s)) (loan_to p kind (I s)))
      → is_free_role (role_at procs (ledger_of E I B) p) ≡ false
  held_not_free p kind s i = by_home (home_in (I s)) refl
    where
      by_home : (h : Option Place) → home_in (I s) ≡ h → is_free_role (role_at procs (ledger_of E I B) p) ≡ false
      by_home None e = ap is_free_role (role_of_orphan s (loan_to p kind (I s)) (i ∙ ap (λ h. Some (on_loan h (loan_to p kind (I s)))) e))
      by_home (Some q) e = ap is_free_role (role_of_holder s q (loan_to p kind (I s)) (i ∙ ap (λ h. Some (on_loan h (loan_to p kind (I s)))) e))

  -- a place is free exactly where its entry is
  pub free_by_entry : (p : Place) → is_free procs (ledger_of E I B) p ≡ is_free_entry (E p)
  unfolding is_free
  free_by_entry p = by_entry (E p) refl
    where
      by_entry : (o : Option Entry) → E p ≡ o → is_free_role (role_at procs (ledger_of E I B) p) ≡ is_free_entry (E p)
      by_entry None h = ap is_free_role (role_of_none p h) ∙ sym (ap is_free_entry h)
      by_entry (Some Free) h = ap is_free_role (role_of_free p h) ∙ sym (ap is_free_entry h)
      by_entry (Some (OnConsole w)) h = ap is_free_role (role_at-home procs (ledger_of E I B) p _ (home_at E I B p (OnConsole w) h)) ∙ sym (ap is_free_entry h)
      by_entry (Some (At (Own r) s)) h = ap is_free_role (role_at-home procs (ledger_of E I B) p _ (home_at E I B p (At (Own r) s) h)) ∙ sym (ap is_free_entry h)
      by_entry (Some (At (LentOut r) s)) h = ap is_free_role (role_at-home procs (ledger_of E I B) p _ (home_at E I B p (At (LentOut r) s) h)) ∙ sym (ap is_free_entry h)
      by_entry (Some (At (MutOut x) s)) h = ap is_free_role (role_at-home procs (ledger_of E I B) p _ (home_at E I B p (At (MutOut x) s) h)) ∙ sym (ap is_free_entry h)
      by_entry (Some (At LentIn s)) h = held_not_free p Shared s (agree.lent_in p s h) ∙ sym (ap is_free_entry h)
      by_entry (Some (At MutIn s)) h = held_not_free p Exclusive s (agree.mut_in p s h) ∙ sym (ap is_free_entry h)

  -- ---- the accesses of a place

  held_may : (p : Place) (kind : LoanKind) (s : Seat) (access : Access) → I s ≡ Some (on_loan (home_in (I s)) (loan_to p kind (I s)))
      → may (role_at procs (ledger_of E I B) p) access ≡ holder_may kind access
  held_may p kind s access i = by_home (home_in (I s)) refl
    where
      by_home : (h : Option Place) → home_in (I s) ≡ h → may (role_at procs (ledger_of E I B) p) access ≡ holder_may kind access
      by_home None e = ap (λ r. may r access) (role_of_orphan s (loan_to p kind (I s)) (i ∙ ap (λ h. Some (on_loan h (loan_to p kind (I s)))) e))
      by_home (Some q) e = ap (λ r. may r access) (role_of_holder s q (loan_to p kind (I s)) (i ∙ ap (λ h. Some (on_loan h (loan_to p kind (I s)))) e))

  -- the table of accesses allows at a place what its entry does
  pub may_by_entry : (p : Place) (access : Access) → may (role_at procs (ledger_of E I B) p) access ≡ entry_may (E p) access
  may_by_entry p access = by_entry (E p) refl
    where
      home_may_be : (e : Entry) (page : Page) → E p ≡ Some e → page_of_entry I B e ≡ Some page
          → may (role_at procs (ledger_of E I B) p) access ≡ home_may page.right page.loan access
      home_may_be e page h k = ap (λ r. may r access) (role_of_home p e page h k)

      by_entry : (o : Option Entry) → E p ≡ o → may (role_at procs (ledger_of E I B) p) access ≡ entry_may (E p) access
      by_entry None h = ap (λ r. may r access) (role_of_none p h) ∙ sym (ap (λ o. entry_may o access) h)
      by_entry (Some Free) h = ap (λ r. may r access) (role_of_free p h) ∙ sym (ap (λ o. entry_may o access) h)
      by_entry (Some (OnConsole w)) h =
          home_may_be (OnConsole w) (record { right = record { w = w; x = false }; contents = Console; loan = None }) h refl ∙ sym (ap (λ o. entry_may o access) h)
      by_entry (Some (At (Own r) s)) h =
          home_may_be (At (Own r) s) (record { right = r; contents = Bytes (B s); loan = None }) h refl ∙ sym (ap (λ o. entry_may o access) h)
      by_entry (Some (At (LentOut r) s)) h =
          home_may_be (At (LentOut r) s) (record { right = r; contents = Bytes (B s); loan = option_map page_loan (loan_in (I s)) }) h refl
          ∙ (ap (λ o. home_may r (option_map page_loan (loan_in o)) access) (agree.lent_out p r s h) ∙ sym (ap (λ o. entry_may o access) h))
      by_entry (Some (At (MutOut x) s)) h =
          home_may_be (At (MutOut x) s) (record { right = record { w = true; x = x }; contents = Bytes (B s); loan = option_map page_loan (loan_in (I s)) }) h refl
          ∙ (ap (λ o. home_may (record { w = true; x = x }) (option_map page_loan (loan_in o)) access) (agree.mut_out p x s h) ∙ sym (ap (λ o. entry_may o access) h))
      by_entry (Some (At LentIn s)) h = held_may p Shared s access (agree.lent_in p s h) ∙ sym (ap (λ o. entry_may o access) h)
      by_entry (Some (At MutIn s)) h = held_may p Exclusive s access (agree.mut_in p s h) ∙ sym (ap (λ o. entry_may o access) h)

  pub reach_by_entry : (p : Place) (access : Access)
      → reach procs (ledger_of E I B) p access ≡ (if entry_may (E p) access then page_at_role p (role_at procs (ledger_of E I B) p) else None)
  unfolding reach
  reach_by_entry p access = ap (λ b. if b then page_at_role p (role_at procs (ledger_of E I B) p) else None) (may_by_entry p access)

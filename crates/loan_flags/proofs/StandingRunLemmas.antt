-- Pages of a standing loan changed one after another.
use Rattle.std.proofs.Common.{◌≡◌, ◌≢◌, ℕ, ◌+◌, ◌-◌, ◌<◌, ◌^◌, true, false, ◌||◌, Some, None, refl, sym, ap, subst, ◌∙◌, inl, inr, arith}
use Rattle.std.specs.Prelude.{is_some}
use Rattle.std.specs.Option.{option_map, option_map_or}
use Rattle.std.proofs.lemmas.Bool.{cases_lt, both_ways, false_from_ne_true, or_parts}
use Rattle.std.proofs.lemmas.Option.{same_Some}
use Rattle.xk_base.specs.Numbers.Windows.{window_at}
use Rattle.xk_base.specs.declared.ids.Place.{Place}
use Rattle.xk_base.specs.declared.pages.LoanKind.{LoanKind}
use Rattle.xk_base.specs.declared.pages.LoanKind.TheVariants.{Shared, Exclusive}
use Rattle.xk_base.specs.declared.pages.Right.{Right}
use Rattle.xk_base.specs.declared.windows.Window.TheVariants.{Message}
use Rattle.phys_pages.specs.declared.infos.LoanInfo.{LoanInfo}
use Rattle.phys_pages.specs.declared.infos.PageInfo.{PageInfo}
use Rattle.phys_pages.specs.declared.infos.Seat.{Seat}
use Rattle.phys_pages.specs.Owners.{infos}
use Rattle.ledger_model.specs.Conditions.{CanPass}
use Rattle.ledger_model.specs.Ledger.{Ledger}
use Rattle.ledger_model.specs.Loans.{IsFresh, LoanRun, Stands, loans, with_holder, without_lender}
use Rattle.ledger_model.specs.Places.{in_run, is_place_in, place_after}
use Rattle.ledger_model.specs.Steps.{end_loan, orphan_loan, pass, zero_page}
use Rattle.ledger_model.proofs.Stepping.EndingLemmas.{end_loan_fresh}
use Rattle.ledger_model.proofs.PlaceLemmas.{in_run-after, in_run-index}
use Rattle.ledger_model.proofs.Stepping.PassingLemmas.{pass_stands}
use Rattle.sv32_space.specs.Agreement.{holder_side, lender_side, on_loan, right_in, seat_in}
use Rattle.sv32_space.specs.EntryLedger.{SeatBytes, is_free_entry}
use Rattle.sv32_space.specs.EntryLoans.{StandsIn, lender_place, loan_info, loan_seat}
use Rattle.sv32_space.specs.PageSteps.{end_at, forget_orphans, orphan_run, pass_run}
use Rattle.sv32_space.specs.Tie.{agrees}
use Rattle.sv32_space.specs.declared.sides.Entry.{Entry}
use Rattle.sv32_space.specs.declared.sides.Entry.TheVariants.{At, Free}
use Rattle.sv32_space.proofs.Agreeing.LoanStandingLemmas.{fresh_in, in_stands, stands_in}
use Rattle.sv32_space.proofs.Agreeing.NumberRunLemmas.{end_lent, end_orphaned, orphan_lent, pass_lent}
use Rattle.sv32_space.proofs.Agreeing.OrphanRunLemmas.{orphaned_stands}
use Rattle.sv32_space.proofs.Agreeing.RoleLemmas.{free_by_entry}
use Rattle.sv32_space.proofs.Agreeing.StandingLemmas.{well_placed}
use Rattle.loan_flags.specs.Ending.{EndsSo}
use Rattle.loan_flags.specs.Keeping.{KeepsPages, IsLedgerStep, Tables, entries_of, ledger_by, processes}
use Rattle.loan_flags.specs.PageLoans.{IsLentFrom, IsOrphaned}
use Rattle.loan_flags.proofs.LendRunLemmas.{in_less, kept_as_it_is, kept_twice, more_in, next_outside, not_last}
use Rattle.loan_flags.proofs.PageChangeLemmas.{entry_window}
use Rattle.loan_flags.proofs.SendingLemmas.{no_window}

-- ---- the first i pages have changed, at the places of two runs

pub record RunsSo (t u : Tables) (r : LoanRun) (step : Ledger → Ledger) (a b : Place) (i : ℕ) : Type 0 where
  pub agree : agrees u.ram u.owners
  pub steps : IsLedgerStep step t u
  pub others : (p : Place) → in_run a i p ≡ false → in_run b i p ≡ false → entries_of u p ≡ entries_of t p
  pub told : (s : Seat) → ((j : ℕ) → j < i → s ≢ loan_seat (entries_of t) r j) → infos u.owners s ≡ infos t.owners s
  pub keeps : KeepsPages t u

pub runs_none : (t : Tables) (r : LoanRun) (step : Ledger → Ledger) (a b : Place) → agrees t.ram t.owners → ((l : Ledger) → step l ≡ l)
    → RunsSo t t r step a b 0
runs_none t r step a b agree none = record {
  agree = agree;
  steps = λ B. sym (none (ledger_by t B));
  others = λ p f g. refl;
  told = λ s h. refl;
  keeps = kept_as_it_is t;
}

pub runs_next : (t u v : Tables) (r : LoanRun) (before one after : Ledger → Ledger) (a b : Place) (i : ℕ) (s : Seat) → RunsSo t u r before a b i
    → ((l : Ledger) → after l ≡ one (before l)) → s ≡ loan_seat (entries_of t) r i
    → agrees v.ram v.owners → IsLedgerStep one u v
    → ((p : Place) → p ≢ place_after a i → p ≢ place_after b i → entries_of v p ≡ entries_of u p)
    → ((x : Seat) → x ≢ s → infos v.owners x ≡ infos u.owners x) → KeepsPages u v
    → RunsSo t v r after a b (i + 1)
runs_next t u v r before one after a b i s so joined here agree step others told keeps = record {
  agree = agree;
  steps = λ B. step B ∙ (ap one (so.steps B) ∙ sym (joined (ledger_by t B)));
  others = λ p f g. others p (not_last a i p f) (not_last b i p g) ∙ so.others p (in_less a i p f) (in_less b i p g);
  told = λ x h. told x (λ e. h i (omega arith) (e ∙ here)) ∙ so.told x (λ j low. h j (omega arith));
  keeps = kept_twice t u v so.keeps keeps;
}

-- ---- a standing loan

side_apart : (kind : LoanKind) (right : Right) (s x : Seat) → Some (At (lender_side kind right) s) ≡ Some (At (holder_side kind) x) → ⊥
side_apart Shared right s x e = cc
side_apart Exclusive right s x e = cc

free_apart : (side : Entry) (kind : LoanKind) (s : Seat) → Some (At (holder_side kind) s) ≡ Some Free → ⊥
free_apart side kind s e = cc

lender_free : (kind : LoanKind) (right : Right) (s : Seat) → Some (At (lender_side kind right) s) ≡ Some Free → ⊥
lender_free kind right s e = cc

module _ (t : Tables) (agree : agrees t.ram t.owners) (r : LoanRun) (stand : StandsIn (entries_of t) (infos t.owners) r) where
  -- no two pages have one seat
  pub seats_apart : (i j : ℕ) → i < r.count → j < r.count → loan_seat (entries_of t) r i ≡ loan_seat (entries_of t) r j → i ≡ j
  seats_apart i j a b e =
      let same : on_loan (lender_place r i) (loan_info r i) ≡ on_loan (lender_place r j) (loan_info r j) =
      same_Some (on_loan (lender_place r i) (loan_info r i)) (on_loan (lender_place r j) (loan_info r j)) (sym (stand.info i a) ∙ (ap (infos t.owners) e ∙ stand.info j b)) in
      let held : loan_info r i ≡ loan_info r j = same_Some (loan_info r i) (loan_info r j) (ap (λ (x : PageInfo). x.loan) same) in
      let vpn : r.holder.vpn.0 + i ≡ r.holder.vpn.0 + j = ap (λ (x : LoanInfo). x.holder.vpn.0) held in
      omega arith

  low_vpn : (p : Place) (e : Entry) → entries_of t p ≡ Some e → p.vpn.0 < 2 ^ 32
  low_vpn p e there = elim (cases_lt p.vpn.0 (2 ^ 32)) [
    | inl low ↦ low
    | inr past ↦ absurd (both_ways (is_some (window_at p.vpn.0)) (ap is_some (no_window p.vpn.0 past)) (entry_window t.ram t.owners agree p e there))
  ]

  pub holder_fits : (i : ℕ) → i < r.count → r.holder.vpn.0 + i < 2 ^ 32
  holder_fits i b = low_vpn (place_after r.holder i) (At (holder_side r.kind) (loan_seat (entries_of t) r i)) (stand.holder i b)

  -- the info of page i, which is still to do
  pub info_stays : (u : Tables) (step : Ledger → Ledger) (a b : Place) (i : ℕ) → i < r.count → RunsSo t u r step a b i
      → infos u.owners (loan_seat (entries_of t) r i) ≡ infos t.owners (loan_seat (entries_of t) r i)
  info_stays u step a b i inside so = so.told (loan_seat (entries_of t) r i) (λ j low e.
      let same : i ≡ j = seats_apart i j inside (omega arith) e in absurd (omega arith))

  -- what the end of the loan leaves
  ended : (u : Tables) → agrees u.ram u.owners → IsLedgerStep (end_loan r.number) t u
      → ((p : Place) → (in_run r.holder r.count p || option_map_or (λ q. in_run q r.count p) r.lender false) ≡ false → entries_of u p ≡ entries_of t p)
      → KeepsPages t u → EndsSo t u r
  ended u agreed steps others keeps = record {
    agree = agreed;
    step = steps;
    fresh = fresh_in (processes u) (entries_of u) (infos u.owners) (λ s. zero_page) agreed.entries r.number
        (subst (λ l. IsFresh (loans l) r.number) (sym (steps (λ s. zero_page))) (end_loan_fresh r.number (ledger_by t (λ s. zero_page))));
    others = others;
    keeps = keeps;
  }

  -- ---- orphans

  module _ (alone : r.lender ≡ None) where
    module _ (u : Tables) (step : Ledger → Ledger) (i : ℕ) (b : i < r.count) (so : RunsSo t u r step r.holder r.holder i) where
      forgotten_held : entries_of u (place_after r.holder i) ≡ entries_of t (place_after r.holder i)
      forgotten_held = so.others (place_after r.holder i) (next_outside r.holder i) (next_outside r.holder i)

      pub orphan_seat_still : seat_in (entries_of u (place_after r.holder i)) ≡ loan_seat (entries_of t) r i
      orphan_seat_still = ap seat_in forgotten_held

      pub still_orphaned : IsOrphaned (entries_of u) (infos u.owners) (loan_info r i)
      still_orphaned = record {
        held = forgotten_held ∙ (stand.holder i b ∙ ap (λ s. Some (At (holder_side r.kind) s)) (sym orphan_seat_still));
        info = ap (infos u.owners) orphan_seat_still ∙ (info_stays u step r.holder r.holder i b so
            ∙ (stand.info i b ∙ ap (λ o. Some (on_loan (option_map (λ (q : Place). place_after q i) o) (loan_info r i))) alone));
      }

    pub orphans_ended : (u : Tables) → RunsSo t u r (forget_orphans (in_run r.holder r.count)) r.holder r.holder r.count → EndsSo t u r
    orphans_ended u so = ended u so.agree
        (λ B. so.steps B ∙ end_orphaned (ledger_by t B) r (in_stands (processes t) (entries_of t) (infos t.owners) B agree.entries r stand) alone)
        (λ p f. let parts = or_parts (in_run r.holder r.count p) (option_map_or (λ q. in_run q r.count p) r.lender false) f in so.others p parts.0 parts.0) so.keeps

  module _ (from : Place) (lent : r.lender ≡ Some from) where
    pub lender_fits : (i : ℕ) → i < r.count → from.vpn.0 + i < 2 ^ 32
    lender_fits i b = low_vpn (place_after from i) (At (lender_side r.kind (right_in (entries_of t (place_after from i)))) (loan_seat (entries_of t) r i)) (stand.lender from i lent b)

    home_seat : (i : ℕ) → i < r.count → seat_in (entries_of t (place_after from i)) ≡ loan_seat (entries_of t) r i
    home_seat i b = ap seat_in (stand.lender from i lent b)

    home_info : (i : ℕ) → i < r.count → infos t.owners (loan_seat (entries_of t) r i) ≡ Some (on_loan (Some (place_after from i)) (loan_info r i))
    home_info i b = stand.info i b ∙ ap (λ o. Some (on_loan (option_map (λ (q : Place). place_after q i) o) (loan_info r i))) lent

    pub home_not_held : (i j : ℕ) → i < r.count → j < r.count → place_after from i ≢ place_after r.holder j
    home_not_held i j a b same =
        side_apart r.kind (right_in (entries_of t (place_after from i))) (loan_seat (entries_of t) r i) (loan_seat (entries_of t) r j)
        (sym (stand.lender from i lent a) ∙ (ap (entries_of t) same ∙ stand.holder j b))

    -- page i is on loan still, where its entries and its info stay
    pub still_lent : (u : Tables) (i : ℕ) → i < r.count → entries_of u (place_after from i) ≡ entries_of t (place_after from i)
        → entries_of u (place_after r.holder i) ≡ entries_of t (place_after r.holder i)
        → infos u.owners (loan_seat (entries_of t) r i) ≡ infos t.owners (loan_seat (entries_of t) r i)
        → IsLentFrom (entries_of u) (infos u.owners) (place_after from i) (loan_info r i)
    still_lent u i b home held info =
        let seat : seat_in (entries_of u (place_after from i)) ≡ loan_seat (entries_of t) r i = ap seat_in home ∙ home_seat i b in
        record {
          entry = subst (λ o. o ≡ Some (At (lender_side r.kind (right_in o)) (seat_in o))) (sym home)
              (stand.lender from i lent b ∙ ap (λ s. Some (At (lender_side r.kind (right_in (entries_of t (place_after from i)))) s)) (sym (home_seat i b)));
          held = held ∙ (stand.holder i b ∙ ap (λ s. Some (At (holder_side r.kind) s)) (sym seat));
          info = ap (infos u.owners) seat ∙ (info ∙ home_info i b);
        }

    pub seat_still : (u : Tables) (i : ℕ) → i < r.count → entries_of u (place_after from i) ≡ entries_of t (place_after from i)
        → seat_in (entries_of u (place_after from i)) ≡ loan_seat (entries_of t) r i
    seat_still u i b home = ap seat_in home ∙ home_seat i b

    -- ---- ended

    module _ (u : Tables) (step : Ledger → Ledger) (i : ℕ) (b : i < r.count) (so : RunsSo t u r step from r.holder i) where
      pub ending_home : entries_of u (place_after from i) ≡ entries_of t (place_after from i)
      ending_home = so.others (place_after from i) (next_outside from i)
          (false_from_ne_true (in_run r.holder i (place_after from i)) (λ x.
          let k : ((place_after from i).vpn.0 - r.holder.vpn.0 < i) × (place_after from i ≡ place_after r.holder ((place_after from i).vpn.0 - r.holder.vpn.0)) = in_run-index r.holder i (place_after from i) x in
          let low : (place_after from i).vpn.0 - r.holder.vpn.0 < i = k.0 in
          home_not_held i ((place_after from i).vpn.0 - r.holder.vpn.0) b (omega arith) k.1))

      ending_held : entries_of u (place_after r.holder i) ≡ entries_of t (place_after r.holder i)
      ending_held = so.others (place_after r.holder i)
          (false_from_ne_true (in_run from i (place_after r.holder i)) (λ x.
          let k : ((place_after r.holder i).vpn.0 - from.vpn.0 < i) × (place_after r.holder i ≡ place_after from ((place_after r.holder i).vpn.0 - from.vpn.0)) = in_run-index from i (place_after r.holder i) x in
          let low : (place_after r.holder i).vpn.0 - from.vpn.0 < i = k.0 in
          home_not_held ((place_after r.holder i).vpn.0 - from.vpn.0) i (omega arith) b (sym k.1)))
          (next_outside r.holder i)

      pub ending_lent : IsLentFrom (entries_of u) (infos u.owners) (place_after from i) (loan_info r i)
      ending_lent = still_lent u i b ending_home ending_held (info_stays u step from r.holder i b so)

      pub ending_seat : seat_in (entries_of u (place_after from i)) ≡ loan_seat (entries_of t) r i
      ending_seat = seat_still u i b ending_home

    in_lender : (p : Place) → (in_run r.holder r.count p || option_map_or (λ q. in_run q r.count p) r.lender false) ≡ false
        → (in_run from r.count p ≡ false) × (in_run r.holder r.count p ≡ false)
    in_lender p f =
        let parts : (in_run r.holder r.count p ≡ false) × (option_map_or (λ q. in_run q r.count p) r.lender false ≡ false) =
        or_parts (in_run r.holder r.count p) (option_map_or (λ q. in_run q r.count p) r.lender false) f in
        (ap (λ o. option_map_or (λ q. in_run q r.count p) o false) (sym lent) ∙ parts.1, parts.0)

    pub lent_ended : (u : Tables) → RunsSo t u r (end_at (in_run from r.count)) from r.holder r.count → EndsSo t u r
    lent_ended u so = ended u so.agree
        (λ B. so.steps B ∙ end_lent (ledger_by t B) r (in_stands (processes t) (entries_of t) (infos t.owners) B agree.entries r stand) from lent)
        (λ p f. so.others p (in_lender p f).0 (in_lender p f).1) so.keeps

    -- ---- orphaned

    module _ (u : Tables) (step : Ledger → Ledger) (i : ℕ) (b : i < r.count) (so : RunsSo t u r step from from i) where
      orphaning_home : entries_of u (place_after from i) ≡ entries_of t (place_after from i)
      orphaning_home = so.others (place_after from i) (next_outside from i) (next_outside from i)

      -- no holder's place is one of the lender's first i
      holder_outside : in_run from i (place_after r.holder i) ≡ false
      holder_outside = false_from_ne_true (in_run from i (place_after r.holder i)) (λ x.
          let k : ((place_after r.holder i).vpn.0 - from.vpn.0 < i) × (place_after r.holder i ≡ place_after from ((place_after r.holder i).vpn.0 - from.vpn.0)) = in_run-index from i (place_after r.holder i) x in
          let low : (place_after r.holder i).vpn.0 - from.vpn.0 < i = k.0 in
          home_not_held ((place_after r.holder i).vpn.0 - from.vpn.0) i (omega arith) b (sym k.1))

      pub orphaning_lent : IsLentFrom (entries_of u) (infos u.owners) (place_after from i) (loan_info r i)
      orphaning_lent = still_lent u i b orphaning_home (so.others (place_after r.holder i) holder_outside holder_outside) (info_stays u step from from i b so)

      pub orphaning_seat : seat_in (entries_of u (place_after from i)) ≡ loan_seat (entries_of t) r i
      orphaning_seat = seat_still u i b orphaning_home

    pub orphaned_steps : (u : Tables) → IsLedgerStep (orphan_run from r.count r.holder) t u → IsLedgerStep (orphan_loan (processes t) r.number) t u
    orphaned_steps u steps B = steps B
        ∙ orphan_lent (ledger_by t B) r (in_stands (processes t) (entries_of t) (infos t.owners) B agree.entries r stand) (processes t)
        (well_placed (processes t) (entries_of t) (infos t.owners) B agree.entries) from lent

    pub orphaned_stands_in : (u : Tables) → agrees u.ram u.owners → IsLedgerStep (orphan_run from r.count r.holder) t u
        → StandsIn (entries_of u) (infos u.owners) (without_lender r)
    orphaned_stands_in u agreed steps =
        stands_in (processes u) (entries_of u) (infos u.owners) (λ s. zero_page) agreed.entries (without_lender r)
        (subst (λ l. Stands (loans l) (without_lender r)) (sym (orphaned_steps u steps (λ s. zero_page)))
        (orphaned_stands (processes t) (ledger_by t (λ s. zero_page)) r (in_stands (processes t) (entries_of t) (infos t.owners) (λ s. zero_page) agree.entries r stand)
        (well_placed (processes t) (entries_of t) (infos t.owners) (λ s. zero_page) agree.entries) from lent))

    -- ---- passed on

    module _ (to : Place) (free : (p : Place) → in_run to r.count p ≡ true → entries_of t p ≡ Some Free) where
      to_free : (i : ℕ) → i < r.count → entries_of t (place_after to i) ≡ Some Free
      to_free i b = free (place_after to i) (in_run-after to r.count i b)

      pub pass_to_fits : (i : ℕ) → i < r.count → to.vpn.0 + i < 2 ^ 32
      pass_to_fits i b = low_vpn (place_after to i) Free (to_free i b)

      module _ (u : Tables) (step : Ledger → Ledger) (i : ℕ) (b : i < r.count) (so : RunsSo t u r step r.holder to i) where
        pub passing_home : entries_of u (place_after from i) ≡ entries_of t (place_after from i)
        passing_home = so.others (place_after from i)
            (false_from_ne_true (in_run r.holder i (place_after from i)) (λ x.
            let k : ((place_after from i).vpn.0 - r.holder.vpn.0 < i) × (place_after from i ≡ place_after r.holder ((place_after from i).vpn.0 - r.holder.vpn.0)) = in_run-index r.holder i (place_after from i) x in
            let low : (place_after from i).vpn.0 - r.holder.vpn.0 < i = k.0 in
            home_not_held i ((place_after from i).vpn.0 - r.holder.vpn.0) b (omega arith) k.1))
            (false_from_ne_true (in_run to i (place_after from i)) (λ x.
            lender_free r.kind (right_in (entries_of t (place_after from i))) (loan_seat (entries_of t) r i)
            (sym (stand.lender from i lent b) ∙ free (place_after from i) (more_in to i r.count (place_after from i) b x))))

        passing_held : entries_of u (place_after r.holder i) ≡ entries_of t (place_after r.holder i)
        passing_held = so.others (place_after r.holder i) (next_outside r.holder i)
            (false_from_ne_true (in_run to i (place_after r.holder i)) (λ x.
            free_apart Free r.kind (loan_seat (entries_of t) r i) (sym (stand.holder i b) ∙ free (place_after r.holder i) (more_in to i r.count (place_after r.holder i) b x))))

        passing_info : infos u.owners (loan_seat (entries_of t) r i) ≡ infos t.owners (loan_seat (entries_of t) r i)
        passing_info = so.told (loan_seat (entries_of t) r i) (λ j low e.
            let same : i ≡ j = seats_apart i j b (omega arith) e in absurd (omega arith))

        pub passing_lent : IsLentFrom (entries_of u) (infos u.owners) (place_after from i) (loan_info r i)
        passing_lent = still_lent u i b passing_home passing_held passing_info

        pub passing_free : entries_of u (place_after to i) ≡ Some Free
        passing_free = so.others (place_after to i)
            (false_from_ne_true (in_run r.holder i (place_after to i)) (λ x.
            let k : ((place_after to i).vpn.0 - r.holder.vpn.0 < i) × (place_after to i ≡ place_after r.holder ((place_after to i).vpn.0 - r.holder.vpn.0)) = in_run-index r.holder i (place_after to i) x in
            let low : (place_after to i).vpn.0 - r.holder.vpn.0 < i = k.0 in
            let j : (place_after to i).vpn.0 - r.holder.vpn.0 < r.count = omega arith in
            free_apart Free r.kind (loan_seat (entries_of t) r ((place_after to i).vpn.0 - r.holder.vpn.0))
            (sym (stand.holder ((place_after to i).vpn.0 - r.holder.vpn.0) j) ∙ (ap (entries_of t) (sym k.1) ∙ to_free i b))))
            (next_outside to i) ∙ to_free i b

        pub passing_seat : seat_in (entries_of u (place_after from i)) ≡ loan_seat (entries_of t) r i
        passing_seat = seat_still u i b passing_home

      -- the whole loan
      pub passed_steps : (u : Tables) → IsLedgerStep (pass_run from r.count to) t u → IsLedgerStep (pass r.number r.holder to) t u
      passed_steps u steps B = steps B
          ∙ pass_lent (ledger_by t B) r (in_stands (processes t) (entries_of t) (infos t.owners) B agree.entries r stand) from to lent

      abbrev zeros : SeatBytes
      zeros s = zero_page

      can_pass : ((p : Place) → in_run to r.count p ≡ true → is_place_in (processes t) Message p ≡ true) → CanPass (processes t) (ledger_by t zeros) r to
      can_pass lies = record {
        stands = in_stands (processes t) (entries_of t) (infos t.owners) zeros agree.entries r stand;
        lent = ap is_some lent;
        free = λ p x. free_by_entry (processes t) (entries_of t) (infos t.owners) zeros agree.entries p ∙ ap is_free_entry (free p x);
        lies = lies;
      }

      pub passed_stands : (u : Tables) → agrees u.ram u.owners → IsLedgerStep (pass_run from r.count to) t u
          → ((p : Place) → in_run to r.count p ≡ true → is_place_in (processes t) Message p ≡ true)
          → StandsIn (entries_of u) (infos u.owners) (with_holder to r)
      passed_stands u agreed steps lies =
          stands_in (processes u) (entries_of u) (infos u.owners) zeros agreed.entries (with_holder to r)
          (subst (λ l. Stands (loans l) (with_holder to r)) (sym (passed_steps u steps zeros))
          (pass_stands (processes t) (ledger_by t zeros) r to (can_pass lies)))

-- Pages of a run lent one after another.
use Rattle.std.proofs.Common.{◌≡◌, ◌≢◌, ℕ, ◌+◌, ◌-◌, ◌<◌, ◌≤◌, ◌^◌, true, false, Option, Some, None, Ok, refl, sym, ap, subst, ◌∙◌, inl, inr, arith}
use Rattle.std.specs.Prelude.{is_some}
use Rattle.std.proofs.lemmas.Bool.{cases_lt, both_ways, false_from_ne_true}
use Rattle.xk_base.specs.Numbers.Limits.{table_frames}
use Rattle.xk_base.specs.Numbers.Windows.{window_at}
use Rattle.xk_base.specs.declared.ids.Number.{Number}
use Rattle.xk_base.specs.declared.ids.Place.{Place}
use Rattle.xk_base.specs.declared.pages.LoanKind.{LoanKind}
use Rattle.xk_base.specs.declared.pages.LoanKind.TheVariants.{Shared, Exclusive}
use Rattle.xk_base.specs.declared.windows.Window.TheVariants.{Message}
use Rattle.phys_pages.specs.Owners.{infos}
use Rattle.ledger_model.specs.Conditions.{CanLend, may_lend}
use Rattle.ledger_model.specs.Ledger.{Bytes}
use Rattle.ledger_model.specs.Loans.{Stands, loans}
use Rattle.ledger_model.specs.Places.{in_run, is_place_in, place_after}
use Rattle.ledger_model.specs.Steps.{give, lend, zero_page}
use Rattle.ledger_model.proofs.PlaceLemmas.{IsInRun, in_run-after, in_run-from, in_run-index, in_run-true}
use Rattle.ledger_model.proofs.Stepping.LendingLemmas.{lend_stands}
use Rattle.sv32_space.specs.Agreement.{procs_of, right_in, seat_in}
use Rattle.sv32_space.specs.Entries.{Entries}
use Rattle.sv32_space.specs.EntryLedger.{SeatBytes, is_free_entry}
use Rattle.sv32_space.specs.EntryLoans.{IsUnlent, StandsIn}
use Rattle.sv32_space.specs.Tie.{agrees}
use Rattle.sv32_space.specs.declared.sides.Entry.{Entry}
use Rattle.sv32_space.specs.declared.sides.Entry.TheVariants.{At, Free}
use Rattle.sv32_space.specs.declared.sides.Side.TheVariants.{Own}
use Rattle.sv32_space.proofs.Agreeing.LoanStandingLemmas.{in_fresh, stands_in}
use Rattle.sv32_space.proofs.Agreeing.RoleLemmas.{free_by_entry}
use Rattle.sv32_space.proofs.Ledgers.EntryLedgerLemmas.{home_at}
use Rattle.sv32_space.proofs.RunLemmas.{give_next, give_none, lend_next, lend_none}
use Rattle.loan_flags.specs.Keeping.{KeepsPages, IsLedgerStep, Tables, entries_of, ledger_by, processes}
use Rattle.loan_flags.specs.PageLoans.{IsLendable, IsOwn}
use Rattle.loan_flags.specs.Sending.{mem_kind, send_answer}
use Rattle.loan_flags.proofs.PageChangeLemmas.{entry_window}
use Rattle.loan_flags.proofs.SendingLemmas.{no_window, sendable_lendable}

-- ---- what is kept

pub kept_as_it_is : (t : Tables) → KeepsPages t t
kept_as_it_is t = record { area = refl; extent = refl; pages = λ f low. refl; free = λ s e. e }

pub kept_twice : (t u v : Tables) → KeepsPages t u → KeepsPages u v → KeepsPages t v
kept_twice t u v a b = record {
  area = b.area ∙ a.area;
  extent = b.extent ∙ a.extent;
  pages = λ f low. b.pages f (subst (λ e. table_frames (procs_of e) ≤ f) (sym a.extent) low) ∙ a.pages f low;
  free = λ s e. b.free s (a.free s e);
}

-- ---- places of runs

pub in_less : (first : Place) (i : ℕ) (p : Place) → in_run first (i + 1) p ≡ false → in_run first i p ≡ false
in_less first i p f = false_from_ne_true (in_run first i p) (λ t. let h : IsInRun first i p = in_run-true first i p t in
    let low : p.vpn.0 < first.vpn.0 + i = h.to in
    both_ways (in_run first (i + 1) p) f (in_run-from first (i + 1) p (record { pid = h.pid; from = h.from; to = omega arith })))

pub not_last : (first : Place) (i : ℕ) (p : Place) → in_run first (i + 1) p ≡ false → p ≢ place_after first i
not_last first i p f same =
    both_ways (in_run first (i + 1) p) f (subst (λ q. in_run first (i + 1) q ≡ true) (sym same) (in_run-after first (i + 1) i (omega arith)))

pub next_outside : (first : Place) (i : ℕ) → in_run first i (place_after first i) ≡ false
next_outside first i = false_from_ne_true (in_run first i (place_after first i)) (λ t. let h : IsInRun first i (place_after first i) = in_run-true first i (place_after first i) t in
    let low : first.vpn.0 + i < first.vpn.0 + i = h.to in omega arith)

pub more_in : (first : Place) (i n : ℕ) (p : Place) → i < n → in_run first i p ≡ true → in_run first n p ≡ true
more_in first i n p b t = let h : IsInRun first i p = in_run-true first i p t in
    let low : p.vpn.0 < first.vpn.0 + i = h.to in
    in_run-from first n p (record { pid = h.pid; from = h.from; to = omega arith })

-- ---- the first i pages are lent

pub record LendsSo (t u : Tables) (from to : Place) (i : ℕ) (kind : LoanKind) (number : Number) : Type 0 where
  pub agree : agrees u.ram u.owners
  pub step : IsLedgerStep (lend from i to kind number) t u
  pub others : (p : Place) → in_run from i p ≡ false → in_run to i p ≡ false → entries_of u p ≡ entries_of t p
  pub keeps : KeepsPages t u

pub lends_none : (t : Tables) (from to : Place) (kind : LoanKind) (number : Number) → agrees t.ram t.owners → LendsSo t t from to 0 kind number
lends_none t from to kind number agree = record {
  agree = agree;
  step = λ B. sym (lend_none from to kind number (ledger_by t B));
  others = λ p f g. refl;
  keeps = kept_as_it_is t;
}

pub lends_next : (t u v : Tables) (from to : Place) (i : ℕ) (kind : LoanKind) (number : Number) → LendsSo t u from to i kind number
    → agrees v.ram v.owners → IsLedgerStep (lend (place_after from i) 1 (place_after to i) kind number) u v
    → ((p : Place) → p ≢ place_after from i → p ≢ place_after to i → entries_of v p ≡ entries_of u p) → KeepsPages u v
    → LendsSo t v from to (i + 1) kind number
lends_next t u v from to i kind number so agree step others keeps = record {
  agree = agree;
  step = λ B. step B ∙ (ap (lend (place_after from i) 1 (place_after to i) kind number) (so.step B) ∙ sym (lend_next from to i kind number (ledger_by t B)));
  others = λ p f g. others p (not_last from i p f) (not_last to i p g) ∙ so.others p (in_less from i p f) (in_less to i p g);
  keeps = kept_twice t u v so.keeps keeps;
}

-- the first i pages are given
pub record GivesSo (t u : Tables) (from to : Place) (i : ℕ) : Type 0 where
  pub agree : agrees u.ram u.owners
  pub step : IsLedgerStep (give from i to) t u
  pub others : (p : Place) → in_run from i p ≡ false → in_run to i p ≡ false → entries_of u p ≡ entries_of t p
  pub keeps : KeepsPages t u

pub gives_none : (t : Tables) (from to : Place) → agrees t.ram t.owners → GivesSo t t from to 0
gives_none t from to agree = record {
  agree = agree;
  step = λ B. sym (give_none from to (ledger_by t B));
  others = λ p f g. refl;
  keeps = kept_as_it_is t;
}

pub gives_next : (t u v : Tables) (from to : Place) (i : ℕ) → GivesSo t u from to i
    → ((p : Place) → in_run from (i + 1) p ≡ true → in_run to (i + 1) p ≡ false)
    → agrees v.ram v.owners → IsLedgerStep (give (place_after from i) 1 (place_after to i)) u v
    → ((p : Place) → p ≢ place_after from i → p ≢ place_after to i → entries_of v p ≡ entries_of u p) → KeepsPages u v
    → GivesSo t v from to (i + 1)
gives_next t u v from to i so apart agree step others keeps = record {
  agree = agree;
  step = λ B. step B ∙ (ap (give (place_after from i) 1 (place_after to i)) (so.step B) ∙ sym (give_next from to i (ledger_by t B) apart));
  others = λ p f g. others p (not_last from i p f) (not_last to i p g) ∙ so.others p (in_less from i p f) (in_less to i p g);
  keeps = kept_twice t u v so.keeps keeps;
}

-- ---- the pages still to do

own_not_free : (E : Entries) (p : Place) → IsOwn E p → E p ≡ Some Free → ⊥
own_not_free E p own e = let a = own.entry in grind arith

module _ (t : Tables) (from : Place) (n : ℕ) (to : Place) (kind : LoanKind) (number : Number) (agree : agrees t.ram t.owners)
    (may : send_answer (entries_of t) from n (mem_kind kind) ≡ Ok tt)
    (free : (p : Place) → in_run to n p ≡ true → entries_of t p ≡ Some Free) where
  -- page i as it was at the start
  first_own : (i : ℕ) → i < n → IsLendable (entries_of t) kind (place_after from i)
  first_own i b = sendable_lendable (entries_of t) from n kind may i b

  first_free : (i : ℕ) → i < n → entries_of t (place_after to i) ≡ Some Free
  first_free i b = free (place_after to i) (in_run-after to n i b)

  module _ (u : Tables) (i : ℕ) (b : i < n)
      (others : (p : Place) → in_run from i p ≡ false → in_run to i p ≡ false → entries_of u p ≡ entries_of t p) where
    own_stays : entries_of u (place_after from i) ≡ entries_of t (place_after from i)
    own_stays = others (place_after from i) (next_outside from i) (false_from_ne_true (in_run to i (place_after from i))
        (λ x. own_not_free (entries_of t) (place_after from i) (first_own i b).own (free (place_after from i) (more_in to i n (place_after from i) b x))))

    free_stays : entries_of u (place_after to i) ≡ entries_of t (place_after to i)
    free_stays = others (place_after to i) (false_from_ne_true (in_run from i (place_after to i))
        (λ x.
        let k : ((place_after to i).vpn.0 - from.vpn.0 < i) × (place_after to i ≡ place_after from ((place_after to i).vpn.0 - from.vpn.0)) = in_run-index from i (place_after to i) x in
        let low : (place_after to i).vpn.0 - from.vpn.0 < i = k.0 in
        own_not_free (entries_of t) (place_after from ((place_after to i).vpn.0 - from.vpn.0)) (first_own ((place_after to i).vpn.0 - from.vpn.0) (omega arith)).own
        (ap (entries_of t) (sym k.1) ∙ first_free i b)))
        (next_outside to i)

    pub own_ahead : IsLendable (entries_of u) kind (place_after from i)
    own_ahead = record {
      own = record { entry = subst (λ o. o ≡ Some (At (Own (right_in o)) (seat_in o))) (sym own_stays) (first_own i b).own.entry };
      writable = λ k. ap (λ (o : Option Entry). (right_in o).w) own_stays ∙ (first_own i b).writable k;
    }

    pub free_ahead : entries_of u (place_after to i) ≡ Some Free
    free_ahead = free_stays ∙ first_free i b

  -- no place is of both runs
  pub runs_apart : (i : ℕ) → i < n → (p : Place) → in_run from (i + 1) p ≡ true → in_run to (i + 1) p ≡ false
  runs_apart i b p x = false_from_ne_true (in_run to (i + 1) p) (λ y.
      let k : (p.vpn.0 - from.vpn.0 < i + 1) × (p ≡ place_after from (p.vpn.0 - from.vpn.0)) = in_run-index from (i + 1) p x in
      let low : p.vpn.0 - from.vpn.0 < i + 1 = k.0 in
      own_not_free (entries_of t) (place_after from (p.vpn.0 - from.vpn.0)) (first_own (p.vpn.0 - from.vpn.0) (omega arith)).own
      (ap (entries_of t) (sym k.1) ∙ free p (more_to (i + 1) p (omega arith) y)))
    where
      more_to : (j : ℕ) (q : Place) → j ≤ n → in_run to j q ≡ true → in_run to n q ≡ true
      more_to j q l y = let h : IsInRun to j q = in_run-true to j q y in
          let up : q.vpn.0 < to.vpn.0 + j = h.to in
          in_run-from to n q (record { pid = h.pid; from = h.from; to = omega arith })

  -- their page numbers are small
  low_vpn : (p : Place) (e : Entry) → entries_of t p ≡ Some e → p.vpn.0 < 2 ^ 32
  low_vpn p e there = elim (cases_lt p.vpn.0 (2 ^ 32)) [
    | inl low ↦ low
    | inr past ↦ absurd (both_ways (is_some (window_at p.vpn.0)) (ap is_some (no_window p.vpn.0 past)) (entry_window t.ram t.owners agree p e there))
  ]

  pub from_fits : (i : ℕ) → i < n → from.vpn.0 + i < 2 ^ 32
  from_fits i b = low_vpn (place_after from i) (At (Own (right_in (entries_of t (place_after from i)))) (seat_in (entries_of t (place_after from i)))) (first_own i b).own.entry

  pub to_fits : (i : ℕ) → i < n → to.vpn.0 + i < 2 ^ 32
  to_fits i b = low_vpn (place_after to i) Free (first_free i b)

  -- ---- the whole loan

  abbrev zeros : SeatBytes
  zeros s = zero_page

  lendable_page : (p : Place) → IsLendable (entries_of t) kind p → may_lend kind ((ledger_by t zeros).home p) ≡ true
  lendable_page p h =
      ap (may_lend kind) (home_at (entries_of t) (infos t.owners) zeros p (At (Own (right_in (entries_of t p))) (seat_in (entries_of t p))) h.own.entry) ∙ by_kind kind h.writable
    where
      by_kind : (k : LoanKind) → (k ≡ Exclusive → (right_in (entries_of t p)).w ≡ true)
          → may_lend k (Some (record { right = right_in (entries_of t p); contents = Bytes zero_page; loan = None })) ≡ true
      by_kind Shared w = refl
      by_kind Exclusive w = w refl

  can_lend : ((p : Place) → in_run to n p ≡ true → is_place_in (processes t) Message p ≡ true) → IsUnlent (infos t.owners) number
      → CanLend (processes t) (ledger_by t zeros) from n to kind number
  can_lend lies unlent = record {
    pages = λ p x. let k : (p.vpn.0 - from.vpn.0 < n) × (p ≡ place_after from (p.vpn.0 - from.vpn.0)) = in_run-index from n p x in
        subst (λ q. may_lend kind ((ledger_by t zeros).home q) ≡ true) (sym k.1)
        (lendable_page (place_after from (p.vpn.0 - from.vpn.0)) (first_own (p.vpn.0 - from.vpn.0) k.0));
    free = λ p x. free_by_entry (processes t) (entries_of t) (infos t.owners) zeros agree.entries p ∙ ap is_free_entry (free p x);
    lies = lies;
    fresh = in_fresh (processes t) (entries_of t) (infos t.owners) zeros agree.entries number unlent;
  }

  pub lent_stands : (u : Tables) → LendsSo t u from to n kind number
      → ((p : Place) → in_run to n p ≡ true → is_place_in (processes t) Message p ≡ true) → IsUnlent (infos t.owners) number
      → StandsIn (entries_of u) (infos u.owners) (record { lender = Some from; holder = to; count = n; kind = kind; number = number })
  lent_stands u so lies unlent =
      stands_in (processes u) (entries_of u) (infos u.owners) zeros so.agree.entries (record { lender = Some from; holder = to; count = n; kind = kind; number = number })
      (subst (λ l. Stands (loans l) (record { lender = Some from; holder = to; count = n; kind = kind; number = number })) (sym (so.step zeros))
      (lend_stands (processes t) from n to kind number (ledger_by t zeros) (can_lend lies unlent)))

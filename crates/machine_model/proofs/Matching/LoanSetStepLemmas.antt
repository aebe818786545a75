-- What holds of a ledger, and is kept by the end of each number of a set, holds after the set ended; and so for numbers whose loans
-- become orphans.
use Rattle.std.proofs.Common.{◌≡◌, ℕ, zero, suc, ◌<◌, ◌≤◌, Bool, true, false, refl, sym, ap, ◌∙◌, arith, subst}
use Rattle.std.specs.Prelude.{◌==◌, ◌&&◌, ◌||◌, nat_lt}
use Rattle.std.proofs.lemmas.Bool.{eqb-true, eq-eqb, false≢true, lt-ltb, ltb-false, ltb-true}
use Rattle.xk_base.specs.declared.ids.Number.{Number}
use Rattle.ledger_model.specs.Lawful.{IsLawful}
use Rattle.ledger_model.specs.Ledger.{Ledger}
use Rattle.ledger_model.specs.Loans.{same_number}
use Rattle.ledger_model.specs.Steps.{end_loan, orphan_loan}
use Rattle.machine_model.specs.Messaging.LoanSets.{end_loans, orphan_loans}
use Rattle.machine_model.proofs.Messaging.LoanSetLemmas.{none_ends, one_more_ends}
use Rattle.machine_model.proofs.Ending.DeathLemmas.{none_is_orphaned}
use Rattle.machine_model.proofs.Messaging.OrphanSetLemmas.{one_more_is_orphaned}

abbrev pub at_number : ℕ → Number
at_number b = record { 0 = b }

-- the numbers of the set below a bound
abbrev below : (Number → Bool) → ℕ → Number → Bool
below set b n = set n && nat_lt n.0 b

-- all of the set are below the bound
abbrev pub AreBelow : (Number → Bool) → ℕ → Type 0
AreBelow set b = (n : Number) → set n ≡ true → n.0 < b

module _ (set : Number → Bool) where
  and_false : (b : Bool) → (b && false) ≡ false
  and_false true = refl
  and_false false = refl

  none_below : (n : Number) → below set 0 n ≡ false
  none_below n = go (nat_lt n.0 0) refl
    where
      go : (b : Bool) → nat_lt n.0 0 ≡ b → (set n && b) ≡ false
      go false e = and_false (set n)
      go true e = let low : n.0 < 0 = ltb-true n.0 0 e in absurd (omega arith)

  more_true : (b : ℕ) → set (at_number b) ≡ true → (n : Number) → (below set b n || same_number n (at_number b)) ≡ below set (suc b) n
  more_true b g n = go (nat_lt n.0 b) (n.0 == b) (nat_lt n.0 (suc b)) (set n) refl refl refl refl
    where
      go : (lt same less s : Bool) → nat_lt n.0 b ≡ lt → (n.0 == b) ≡ same → nat_lt n.0 (suc b) ≡ less → set n ≡ s
          → ((s && lt) || same) ≡ (s && less)
      go lt true less s p q r t =
          let at : n.0 ≡ b = eqb-true n.0 b q in
          let is : set n ≡ true = ap set (λ i. record { 0 = at i }) ∙ g in
          let more : nat_lt n.0 (suc b) ≡ true = lt-ltb n.0 (suc b) (omega arith) in
          either (s && lt) ∙ sym (λ i. (sym t ∙ is) i && (sym r ∙ more) i)
        where
          either : (c : Bool) → (c || true) ≡ true
          either true = refl
          either false = refl
      go true false true true p q r t = refl
      go true false true false p q r t = refl
      go true false false s p q r t =
          let low : n.0 < b = ltb-true n.0 b p in
          let high : suc b ≤ n.0 = ltb-false n.0 (suc b) r in
          absurd (omega arith)
      go false false true s p q r t =
          let low : n.0 < suc b = ltb-true n.0 (suc b) r in
          let high : b ≤ n.0 = ltb-false n.0 b p in
          let at : n.0 ≡ b = omega arith in
          absurd (false≢true (sym q ∙ eq-eqb n.0 b at))
      go false false false true p q r t = refl
      go false false false false p q r t = refl

  more_false : (b : ℕ) → set (at_number b) ≡ false → (n : Number) → below set b n ≡ below set (suc b) n
  more_false b g n = go (nat_lt n.0 b) (nat_lt n.0 (suc b)) refl refl (set n) refl
    where
      go : (lt less : Bool) → nat_lt n.0 b ≡ lt → nat_lt n.0 (suc b) ≡ less → (s : Bool) → set n ≡ s → (s && lt) ≡ (s && less)
      go lt less p r false t = refl
      go true true p r true t = refl
      go false false p r true t = refl
      go true false p r true t =
          let low : n.0 < b = ltb-true n.0 b p in
          let high : suc b ≤ n.0 = ltb-false n.0 (suc b) r in
          absurd (omega arith)
      go false true p r true t =
          let low : n.0 < suc b = ltb-true n.0 (suc b) r in
          let high : b ≤ n.0 = ltb-false n.0 b p in
          let at : n.0 ≡ b = omega arith in
          absurd (false≢true (sym g ∙ sym (ap set (λ i. record { 0 = at i })) ∙ t))

  all_below : (b : ℕ) → AreBelow set b → (n : Number) → below set b n ≡ set n
  all_below b h n = go (set n) refl
    where
      go : (s : Bool) → set n ≡ s → (s && nat_lt n.0 b) ≡ s
      go true e = lt-ltb n.0 b (h n e)
      go false e = refl

  -- ---- end

  module _ (P : ℕ → Ledger → Type 0) (l : Ledger)
      (ends : (b : ℕ) (m : Ledger) → set (at_number b) ≡ true → P b m → P (suc b) (end_loan (at_number b) m))
      (stays : (b : ℕ) (m : Ledger) → set (at_number b) ≡ false → P b m → P (suc b) m) where
    ended_below : (b : ℕ) → P 0 l → P b (end_loans (below set b) l)
    ended_below zero h = subst (P 0) (sym (none_ends (below set 0) none_below l)) h
    ended_below (suc b) h = go (ended_below b h) (set (at_number b)) refl
      where
        go : P b (end_loans (below set b) l) → (s : Bool) → set (at_number b) ≡ s → P (suc b) (end_loans (below set (suc b)) l)
        go before true e =
            subst (P (suc b)) (one_more_ends (below set b) (at_number b) l ∙ (λ i. end_loans (λ n. more_true b e n i) l))
            (ends b (end_loans (below set b) l) e before)
        go before false e = subst (P (suc b)) (λ i. end_loans (λ n. more_false b e n i) l) (stays b (end_loans (below set b) l) e before)

    pub after_ends : (b : ℕ) → AreBelow set b → P 0 l → P b (end_loans set l)
    after_ends b h start = subst (P b) (λ i. end_loans (λ n. all_below b h n i) l) (ended_below b start)

  -- ---- orphan

  module _ (procs capacity : ℕ) (P : ℕ → Ledger → Type 0) (l : Ledger) (lawful : IsLawful procs capacity l)
      (goes : (b : ℕ) (m : Ledger) → set (at_number b) ≡ true → P b m → P (suc b) (orphan_loan procs (at_number b) m))
      (stays : (b : ℕ) (m : Ledger) → set (at_number b) ≡ false → P b m → P (suc b) m) where
    orphaned_below : (b : ℕ) → P 0 l → P b (orphan_loans procs (below set b) l)
    orphaned_below zero h = subst (P 0) (sym (none_is_orphaned procs (below set 0) none_below l)) h
    orphaned_below (suc b) h = go (orphaned_below b h) (set (at_number b)) refl
      where
        go : P b (orphan_loans procs (below set b) l) → (s : Bool) → set (at_number b) ≡ s → P (suc b) (orphan_loans procs (below set (suc b)) l)
        go before true e =
            subst (P (suc b))
            (one_more_is_orphaned procs capacity (below set b) (at_number b) l lawful ∙ (λ i. orphan_loans procs (λ n. more_true b e n i) l))
            (goes b (orphan_loans procs (below set b) l) e before)
        go before false e =
            subst (P (suc b)) (λ i. orphan_loans procs (λ n. more_false b e n i) l) (stays b (orphan_loans procs (below set b) l) e before)

    pub after_orphans : (b : ℕ) → AreBelow set b → P 0 l → P b (orphan_loans procs set l)
    after_orphans b h start = subst (P b) (λ i. orphan_loans procs (λ n. all_below b h n i) l) (orphaned_below b start)

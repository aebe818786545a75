-- Pages that were made for orphans are filled one after the other.
use Rattle.std.proofs.Common.{◌≡◌, ℕ, ◌+◌, ◌<◌, Bool, true, false, ◌&&◌, List, length, Some, None, refl, sym, ap, ◌∙◌, arith, inl, inr}
use Rattle.std.specs.Prelude.{◌==◌, ◌||◌, nat_le, nat_lt, if◌then◌else◌}
use Rattle.std.specs.Option.{option_map}
use Rattle.std.proofs.lemmas.Bool.{cases_Bool}
use Rattle.std.proofs.lemmas.Bool.Decides.{nat_tests}
use Rattle.ledger_model.proofs.LedgerLemmas.{same_ledger}
use Rattle.ledger_model.proofs.PlaceLemmas.{in_run-after, moved-after, same_place-true}
use Rattle.ledger_model.specs.Ledger.{Bytes, Homed, Ledger, Orphan}
use Rattle.ledger_model.specs.Places.{in_run, moved, place_after, same_place}
use Rattle.ledger_model.specs.Steps.{make, new_page, write, written_page, zero_page}
use Rattle.xk_base.specs.declared.ids.Place.{Place}
use Rattle.resume_path.proofs.Homes.PageRowLemmas.{written_all, zero_long}
use Rattle.resume_path.specs.Standing.{filling_right, page_of_orphan, with_orphan_pages}

-- the pages of the run, of which the first i are filled
abbrev pub filled : Ledger → Place → ℕ → Place → ℕ → Ledger → Ledger
filled whole from n to i l = with_orphan_pages whole from i to (make from n filling_right l)

-- none is filled yet
pub none_filled : (whole : Ledger) (from : Place) (n : ℕ) (to : Place) (l : Ledger) → filled whole from n to 0 l ≡ make from n filling_right l
unfolding with_orphan_pages
none_filled whole from n to l = same_ledger (filled whole from n to 0 l) (make from n filling_right l)
    (λ p. let none : in_run from 0 p ≡ false = empty p in
    ap (λ b. if b then option_map page_of_orphan (whole.orphan (moved from to p)) else (make from n filling_right l).home p) none)
    (λ p. refl)
  where
    empty : (p : Place) → in_run from 0 p ≡ false
    empty p = grind (arith, nat_tests)

-- all are
pub all_filled : (whole : Ledger) (from : Place) (n : ℕ) (to : Place) (l : Ledger) → filled whole from n to n l ≡ with_orphan_pages whole from n to l
unfolding with_orphan_pages make
all_filled whole from n to l = same_ledger (filled whole from n to n l) (with_orphan_pages whole from n to l) (λ p. at p (in_run from n p)) (λ p. refl)
  where
    at : (p : Place) (b : Bool)
        → (if b then option_map page_of_orphan (whole.orphan (moved from to p)) else (if b then Some (new_page filling_right (Bytes zero_page)) else l.home p))
        ≡ (if b then option_map page_of_orphan (whole.orphan (moved from to p)) else l.home p)
    at p true = refl
    at p false = refl

-- one more is
one_more_in : (from p : Place) (i : ℕ) → in_run from (i + 1) p ≡ (in_run from i p || same_place p (place_after from i))
one_more_in from p i = elim (cases_Bool (p.pid.0 == from.pid.0)) [
  | inl own ↦ rw own (within (nat_le from.vpn.0 p.vpn.0) refl)
  | inr other ↦ rw other refl
]
  where
    within : (low : Bool) → nat_le from.vpn.0 p.vpn.0 ≡ low
        → (nat_le from.vpn.0 p.vpn.0 && nat_lt p.vpn.0 (from.vpn.0 + (i + 1)))
        ≡ ((nat_le from.vpn.0 p.vpn.0 && nat_lt p.vpn.0 (from.vpn.0 + i)) || (p.vpn.0 == from.vpn.0 + i))
    within true e = elim (cases_Bool (p.vpn.0 == from.vpn.0 + i)) [
      | inl same ↦ grind (arith, nat_tests, e, same)
      | inr differ ↦ elim (cases_Bool (nat_lt p.vpn.0 (from.vpn.0 + i))) [
        | inl below ↦ grind (arith, nat_tests, e, differ, below)
        | inr above ↦ grind (arith, nat_tests, e, differ, above)
      ]
    ]
    within false e = elim (cases_Bool (p.vpn.0 == from.vpn.0 + i)) [
      | inl same ↦ grind (arith, nat_tests, e, same)
      | inr differ ↦ grind (arith, nat_tests, e, differ)
    ]

pub next_filled : (whole : Ledger) (from : Place) (n : ℕ) (to : Place) (i : ℕ) (l : Ledger) (orphan : Orphan) (bytes : List ℕ) → i < n
    → whole.orphan (place_after to i) ≡ Some orphan → orphan.bytes ≡ bytes → length bytes ≡ 4096
    → write (Homed (place_after from i)) 0 bytes (filled whole from n to i l) ≡ filled whole from n to (i + 1) l
unfolding write with_orphan_pages make
next_filled whole from n to i l orphan bytes low there same long =
    same_ledger (write (Homed (place_after from i)) 0 bytes (filled whole from n to i l)) (filled whole from n to (i + 1) l) homes (λ p. refl)
  where
    here : in_run from i (place_after from i) ≡ false
    here = grind (arith, nat_tests)

    homes : (p : Place) → (if same_place p (place_after from i)
        then option_map (written_page 0 bytes) (if in_run from i p then option_map page_of_orphan (whole.orphan (moved from to p)) else (if in_run from n p then Some (new_page filling_right (Bytes zero_page)) else l.home p))
        else (if in_run from i p then option_map page_of_orphan (whole.orphan (moved from to p)) else (if in_run from n p then Some (new_page filling_right (Bytes zero_page)) else l.home p)))
        ≡ (if in_run from (i + 1) p then option_map page_of_orphan (whole.orphan (moved from to p)) else (if in_run from n p then Some (new_page filling_right (Bytes zero_page)) else l.home p))
    homes p = elim (cases_Bool (same_place p (place_after from i))) [
      | inl own ↦
          let is : p ≡ place_after from i = same_place-true p (place_after from i) own in
          let before : in_run from i p ≡ false = ap (in_run from i) is ∙ here in
          let within : in_run from n p ≡ true = ap (in_run from n) is ∙ in_run-after from n i low in
          let after : in_run from (i + 1) p ≡ true = one_more_in from p i ∙ (ap (λ b. in_run from i p || b) own ∙ or_true (in_run from i p)) in
          let bytes_there : option_map page_of_orphan (whole.orphan (moved from to p)) ≡ Some (record { right = filling_right; contents = Bytes bytes; loan = None }) =
          ap (λ q. option_map page_of_orphan (whole.orphan (moved from to q))) is
          ∙ (ap (λ q. option_map page_of_orphan (whole.orphan q)) (moved-after from to i)
          ∙ (ap (option_map page_of_orphan) there ∙ ap (λ xs. Some (record { right = filling_right; contents = Bytes xs; loan = None })) same)) in
          rw (own, before, within, after)
          (ap (λ xs. Some (record { right = filling_right; contents = Bytes xs; loan = None })) (written_all zero_page bytes zero_long long) ∙ sym bytes_there)
      | inr other ↦
          let after : in_run from (i + 1) p ≡ in_run from i p = one_more_in from p i ∙ (ap (λ b. in_run from i p || b) other ∙ or_false (in_run from i p)) in
          rw (other, after) refl
    ]
      where
        or_true : (b : Bool) → (b || true) ≡ true
        or_true true = refl
        or_true false = refl

        or_false : (b : Bool) → (b || false) ≡ b
        or_false true = refl
        or_false false = refl

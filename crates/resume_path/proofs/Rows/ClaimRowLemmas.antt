-- The claims of a state, as they are made row after row.
use Rattle.std.proofs.Common.{◌≡◌, ℕ, ◌+◌, ◌≤◌, ◌<◌, Bool, true, false, cond, ◌&&◌, List, [], ◌∷◌, length, take, get_or, Option, Some, None, refl, sym, ap, subst, ◌∙◌, arith, inl, inr}
use Rattle.std.specs.Prelude.{◌==◌, ◌||◌, if◌then◌else◌, nat_eq}
use Rattle.std.specs.List.{find}
use Rattle.std.specs.Option.{option_map, option_map_or}
use Rattle.std.proofs.lemmas.Bool.{cases_Bool, both_ways, eqb-true}
use Rattle.std.proofs.lemmas.Option.{none-some}
use Rattle.irq_claims.specs.ClaimMap.{ClaimMap, no_claims}
use Rattle.irq_claims.specs.ClaimsOf.{claims_of}
use Rattle.irq_claims.specs.declared.claims.Claim.{Claim as TableClaim}
use Rattle.irq_claims.specs.declared.claims.Claims.{Claims}
use Rattle.xk_parts.specs.Shown.{claim_of, claims_shown, pending_shown}
use Rattle.snapshot_rows.proofs.KeyLemmas.{any_found, any_where_found, number_is, number_own, some_same}
use Rattle.snapshot_rows.specs.Order.{AreInOrder, claim_key}
use Rattle.suspend_image.specs.Forms.{IsClaimRow}
use Rattle.snapshot_rows.specs.Machines.{claim_of as state_claim, claims_of as state_claims, pending_of}
use Rattle.snapshot_rows.specs.declared.state.ClaimRow.{ClaimRow}
use Rattle.snapshot_rows.specs.declared.state.State.{State}
use Rattle.xk_base.specs.Tables.Counting.{put_at}
use Rattle.resume_path.proofs.Rows.RowLemmas.{each_in_order, found_own, next_found, none_before, take_past}
use Rattle.resume_path.proofs.Rows.ThreadRowLemmas.{same_number}
use Rattle.resume_path.specs.Resumable.{IsResumable}
use Rattle.resume_path.specs.Tables.{row_claim}

abbrev test_of : ℕ → ClaimRow → Bool
test_of k c = c.number == k

-- the first k rows have their claims, and there are no others
abbrev pub AreClaimedTo : List ClaimRow → Claims → ℕ → Type 0
AreClaimedTo rows claims k = (q : ℕ) → claims_of claims q ≡ option_map row_claim (find (test_of q) (take k rows))

pub none_claimed : (rows : List ClaimRow) (claims : Claims) → claims_of claims ≡ no_claims → AreClaimedTo rows claims 0
none_claimed rows claims e = λ q. ap (λ (m : ClaimMap). m q) e

module _ (n : ℕ) (rows : List ClaimRow) (forms : AreInOrder (IsClaimRow n) claim_key None rows) (k : ℕ) (d : ClaimRow) (low : k < length rows) where
  abbrev row : ClaimRow
  row = get_or rows k d

  unfound : find (test_of row.number) (take k rows) ≡ None
  unfound =
      none_before claim_key test_of (λ a b. a < b) (IsClaimRow n) (λ before c is. let least = is.number.at_least in omega arith) (number_is claim_key)
      (λ a lt. absurd (omega (arith, lt))) (λ a b c x y. omega (arith, x, y)) None rows k d forms low

  module _ (claims : Claims) (back : AreClaimedTo rows claims k) where
    pub next_unclaimed : claims_of claims row.number ≡ None
    next_unclaimed = back row.number ∙ ap (option_map row_claim) unfound

    pub next_claimed : (new : Claims) → claims_of new ≡ put_at nat_eq (claims_of claims) row.number (Some (row_claim row)) → AreClaimedTo rows new (k + 1)
    next_claimed new after = λ q.
        ap (λ (m : ClaimMap). m q) after
        ∙ ((λ i. if same_number q row.number i then Some (row_claim row) else back q i)
        ∙ sym (next_found row_claim (test_of q) rows k d low (λ e. subst (λ (x : ℕ). find (test_of x) (take k rows) ≡ None) (eqb-true row.number q e) unfound)))

-- ---- the whole

none_pending : (rows : List ClaimRow) (q : ℕ) → find (test_of q) rows ≡ None → pending_of rows q ≡ false
none_pending [] q e = refl
none_pending (c ∷ rows) q e = elim (cases_Bool (test_of q c)) [
  | inl does ↦ absurd (none-some c (sym (sym (ap (λ (b : Bool). cond b (Some c) (find (test_of q) rows)) does) ∙ e)))
  | inr doesnt ↦
      ap (λ (b : Bool). (b && (c.pending == 1)) || pending_of rows q) doesnt
      ∙ none_pending rows q (sym (ap (λ (b : Bool). cond b (Some c) (find (test_of q) rows)) doesnt) ∙ e)
]

-- all claims are there after the last row
pub all_claimed : (rows : List ClaimRow) (claims : Claims) (k : ℕ) → length rows ≤ k → AreClaimedTo rows claims k
    → (q : ℕ) → claims_of claims q ≡ option_map row_claim (find (test_of q) rows)
all_claimed rows claims k all back q = back q ∙ ap (λ xs. option_map row_claim (find (test_of q) xs)) (take_past k rows all)

module _ (n : ℕ) (rows : List ClaimRow) (forms : AreInOrder (IsClaimRow n) claim_key None rows) (claims : Claims)
    (there : (q : ℕ) → claims_of claims q ≡ option_map row_claim (find (test_of q) rows)) where
  same_claims : (o : Option ClaimRow) → option_map claim_of (option_map row_claim o) ≡ option_map state_claim o
  same_claims None = refl
  same_claims (Some c) = refl

  pub claims_back : (q : ℕ) → claims_shown claims q ≡ state_claims rows q
  claims_back q = ap (option_map claim_of) (there q) ∙ same_claims (find (test_of q) rows)

  pub pending_back : (q : ℕ) → pending_shown claims q ≡ pending_of rows q
  pending_back q = ap (λ o. option_map_or (λ (c : TableClaim). c.pending) o false) (there q) ∙ by_row (find (test_of q) rows) refl
    where
      pending_found : pending_of rows q ≡ true → (c : ClaimRow) × (find (test_of q) rows ≡ Some c) × ((c.pending == 1) ≡ true)
      pending_found e =
          any_found claim_key test_of (λ a b. a < b) (IsClaimRow n) (λ before c is. let least = is.number.at_least in omega arith) (number_is claim_key)
          (number_own claim_key) (λ a lt. absurd (omega (arith, lt))) (λ a b c x y. omega (arith, x, y)) (λ c. c.pending == 1) q None rows forms e

      pending_one : (c : ClaimRow) → find (test_of q) rows ≡ Some c → (c.pending == 1) ≡ false → ((c : ClaimRow) × (find (test_of q) rows ≡ Some c) × ((c.pending == 1) ≡ true)) → ⊥
      pending_one c e doesnt found = both_ways (c.pending == 1) doesnt (subst (λ (x : ClaimRow). (x.pending == 1) ≡ true) (some_same found.0 c (sym found.1 ∙ e)) found.2)

      by_row : (o : Option ClaimRow) → find (test_of q) rows ≡ o → option_map_or (λ (c : TableClaim). c.pending) (option_map row_claim o) false ≡ pending_of rows q
      by_row None e = sym (none_pending rows q e)
      by_row (Some c) e = elim (cases_Bool (c.pending == 1)) [
        | inl does ↦ does ∙ sym (any_where_found (test_of q) (λ c. c.pending == 1) rows c e does)
        | inr doesnt ↦ doesnt ∙ sym (elim (cases_Bool (pending_of rows q)) [
          | inl some ↦ absurd (pending_one c e doesnt (pending_found some))
          | inr none ↦ none
        ])
      ]

-- ---- the numbers of a claim

module _ (file : List ℕ) (s : State) (h : IsResumable file s) (k : ℕ) (d : ClaimRow) (low : k < length s.claims) where
  abbrev claim : ClaimRow
  claim = get_or s.claims k d

  -- an interrupt has a number below 32
  pub next_number : claim.number < 32
  next_number =
      let there = found_own claim_key test_of (λ a b. a < b) (IsClaimRow s.n) (λ before c is. let least = is.number.at_least in omega arith) (number_is claim_key)
      (λ a lt. absurd (omega (arith, lt))) (λ a b c x y. omega (arith, x, y)) (number_own claim_key) None s.claims k d h.spelled.form.claims low in
      h.matched.rest.claims.numbers claim.number (state_claim claim) (ap (option_map state_claim) there)

  pub next_pid_small : claim.pid < 256
  next_pid_small =
      let least = h.spelled.form.n.at_most in
      let pid = each_in_order (IsClaimRow s.n) claim_key (λ (c : ClaimRow). c.pid ≤ s.n + 1) (λ before c is. is.pid.at_most) None s.claims k d h.spelled.form.claims low in
      omega (arith, least, pid)

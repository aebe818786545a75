-- What is put into the table of claims, or taken out, is so in the machine that it stands for.
use Rattle.std.proofs.Common.{◌≡◌, ℕ, Bool, true, false, Option, Some, refl, sym, ap, ◌∙◌, nat_eq}
use Rattle.std.specs.Prelude.{if◌then◌else◌}
use Rattle.std.specs.Option.{option_map, option_map_or}
use Rattle.std.proofs.lemmas.Bool.{eqb-true}
use Rattle.irq_claims.specs.ClaimMap.{ClaimMap, with_pending}
use Rattle.irq_claims.specs.ClaimsOf.{claims_of}
use Rattle.irq_claims.specs.declared.claims.Claim.{Claim as TableClaim}
use Rattle.irq_claims.specs.declared.claims.Claims.{Claims}
use Rattle.xk_base.specs.Tables.Counting.{put_at}
use Rattle.xk_parts.specs.Shown.{claim_of, claims_shown, pending_shown}

abbrev pub pending_of : Option TableClaim → Bool
pending_of o = option_map_or (λ c. c.pending) o false

mapped_if : (b : Bool) (new old : Option TableClaim)
    → option_map claim_of (if b then new else old) ≡ (if b then option_map claim_of new else option_map claim_of old)
mapped_if true new old = refl
mapped_if false new old = refl

pending_if : (b : Bool) (new old : Option TableClaim)
    → pending_of (if b then new else old) ≡ (if b then pending_of new else pending_of old)
pending_if true new old = refl
pending_if false new old = refl

-- what is put there already changes nothing
pub put_same : {A : Type 0} (f : ℕ → A) (n : ℕ) (x : A) → f n ≡ x → put_at nat_eq f n x ≡ f
put_same f n x e = λ i q. at q (nat_eq q n) refl i
  where
    at : (q : ℕ) (b : Bool) → nat_eq q n ≡ b → (if b then x else f q) ≡ f q
    at q true s = sym (ap f (eqb-true q n s) ∙ e)
    at q false s = refl

module _ (old new : Claims) (n : ℕ) where
  -- a claim, or none, at that number, and all others as before
  abbrev pub PutsClaim : Option TableClaim → Type 0
  PutsClaim o = claims_of new ≡ put_at nat_eq (claims_of old) n o

  pub claims_shown-put : (o : Option TableClaim) → PutsClaim o → claims_shown new ≡ put_at nat_eq (claims_shown old) n (option_map claim_of o)
  claims_shown-put o e = λ i q. (ap (λ (f : ClaimMap). option_map claim_of (f q)) e ∙ mapped_if (nat_eq q n) o (claims_of old q)) i

  pub pending_shown-put : (o : Option TableClaim) → PutsClaim o → pending_shown new ≡ put_at nat_eq (pending_shown old) n (pending_of o)
  pending_shown-put o e = λ i q. (ap (λ (f : ClaimMap). pending_of (f q)) e ∙ pending_if (nat_eq q n) o (claims_of old q)) i

  -- where only what is pending changes, the claims stay
  pub claims_shown-stay : (claim : TableClaim) (pending : Bool) → claims_of old n ≡ Some claim → PutsClaim (Some (with_pending pending claim))
      → claims_shown new ≡ claims_shown old
  claims_shown-stay claim pending there e =
      claims_shown-put (Some (with_pending pending claim)) e
      ∙ put_same (claims_shown old) n (Some (claim_of claim)) (ap (option_map claim_of) there)

-- Claims, their handlers and the timer are matched exactly where a test of the rows holds.
use Rattle.std.proofs.Common.{◌≡◌, ℕ, ◌%◌, ◌≤◌, ◌<◌, Bool, true, cond, eqb, ltb, List, [], ◌∷◌, Some, None, refl, sym, ap, subst, ◌∙◌, arith, inl, inr, ◌↔◌}
use Rattle.std.specs.Prelude.{◌&&◌, ◌||◌, is_some, IsTrue}
use Rattle.std.specs.List.{find, list_any, list_all}
use Rattle.std.specs.Option.{option_map}
use Rattle.std.proofs.lemmas.Bool.{eqb-true, eq-eqb, and_parts, ltb-true, lt-ltb, cases_Bool}
use Rattle.machine_model.specs.State.Machine.{Claim}
use Rattle.machine_model.specs.Runs.Matched.{AreClaimsMatched, AreHandlersMatched, IsTimerMatched}
use Rattle.snapshot_rows.specs.declared.state.State.{State}
use Rattle.snapshot_rows.specs.declared.state.ClaimRow.{ClaimRow}
use Rattle.snapshot_rows.specs.declared.state.ProcRow.{ProcRow}
use Rattle.snapshot_rows.specs.Order.{after, claim_key, Ascend}
use Rattle.snapshot_rows.specs.Machines.{claim_of, claims_of, pending_of, processes_of, compare_of}
use Rattle.snapshot_matching.specs.ProcessParts.{is_claim_living}
use Rattle.snapshot_rows.proofs.KeyLemmas.{some, some_same, mapped, found_any, found_passes, all_pass, number_is, number_own}

-- where the claim of each number passes a test, all claims do
claims_pass : (good : ClaimRow → Bool) (rows : List ClaimRow) → Ascend claim_key rows
    → ((k : ℕ) (c : ClaimRow) → find (λ r. eqb (claim_key r) k) rows ≡ Some c → good c ≡ true) → list_all good rows ≡ true
claims_pass good rows ascend each =
    all_pass claim_key (λ k r. eqb (claim_key r) k) (λ a b. a < b) (λ before c. after before ≤ claim_key c) (λ before c low. omega arith) (number_is claim_key) (number_own claim_key)
    (λ k low. omega arith) (λ a b c low next. omega arith) good None rows ascend each

-- ---- handlers

abbrev is_whole : ClaimRow → Bool
is_whole c = eqb (c.handler % 4) 0

handlers_right : (rows : List ClaimRow) → list_all is_whole rows ≡ true → AreHandlersMatched (claims_of rows)
handlers_right rows all k claim e =
    let m = mapped claim_of (find (λ c. eqb c.number k) rows) claim e in
    let passes = found_passes (λ (c : ClaimRow). eqb c.number k) is_whole rows m.0 all m.1 in
    ap (λ (c : Claim). c.handler % 4) (sym m.2) ∙ eqb-true (m.0.handler % 4) 0 passes

handlers_all : (rows : List ClaimRow) → Ascend claim_key rows → AreHandlersMatched (claims_of rows) → list_all is_whole rows ≡ true
handlers_all rows ascend matched =
    claims_pass is_whole rows ascend
    (λ (k : ℕ) (c : ClaimRow) (e : find (λ r. eqb (claim_key r) k) rows ≡ Some c). eq-eqb (c.handler % 4) 0 (matched k (claim_of c) (ap (option_map claim_of) e)))

pub handlers_told : (rows : List ClaimRow) (told : Bool) → Ascend claim_key rows → told ≡ list_all is_whole rows → IsTrue told ↔ AreHandlersMatched (claims_of rows)
handlers_told rows told ascend is = (λ holds. handlers_right rows (sym is ∙ holds), λ matched. is ∙ handlers_all rows ascend matched)

-- ---- claims

found_claim : (k : ℕ) (rows : List ClaimRow) (c : ClaimRow) → find (λ r. eqb (claim_key r) k) rows ≡ Some c → c.number ≡ k
found_claim k [] c e = absurd cc
found_claim k (y ∷ rows) c e =
    elim (cases_Bool (eqb (claim_key y) k)) [
      | inl does ↦ (
          let here : some y ≡ some c = sym (ap (λ (b : Bool). cond b (some y) (find (λ r. eqb (claim_key r) k) rows)) does) ∙ e in
          subst (λ (z : ClaimRow). z.number ≡ k) (some_same y c here) (eqb-true y.number k does)
          )
      | inr doesnt ↦ found_claim k rows c (sym (ap (λ (b : Bool). cond b (some y) (find (λ r. eqb (claim_key r) k) rows)) doesnt) ∙ e)
    ]

-- a pending number has a claim
any_claim : (k : ℕ) (rows : List ClaimRow) → list_any (λ c. eqb c.number k && eqb c.pending 1) rows ≡ true → list_any (λ c. eqb c.number k) rows ≡ true
any_claim k [] e = absurd cc
any_claim k (c ∷ rows) e =
    elim (cases_Bool (eqb c.number k)) [
      | inl does ↦ rw does refl
      | inr doesnt ↦ rw doesnt (any_claim k rows (sym (ap (λ (b : Bool). (b && eqb c.pending 1) || list_any (λ c. eqb c.number k && eqb c.pending 1) rows) doesnt) ∙ e))
    ]

claims_right : (procs : List ProcRow) (rows : List ClaimRow) → list_all (is_claim_living procs) rows ≡ true → AreClaimsMatched (processes_of procs) (claims_of rows) (pending_of rows)
claims_right procs rows all =
    let row = λ (k : ℕ) (claim : Claim) (e : claims_of rows k ≡ Some claim). mapped claim_of (find (λ c. eqb c.number k) rows) claim e in
    let good = λ (k : ℕ) (claim : Claim) (e : claims_of rows k ≡ Some claim). (
    let m = row k claim e in
    and_parts (ltb m.0.number 32) (processes_of procs m.0.pid).alive (found_passes (λ (c : ClaimRow). eqb c.number k) (is_claim_living procs) rows m.0 all m.1)
    ) in
    record {
      living = λ k claim e. subst (λ (c : Claim). IsTrue (processes_of procs c.pid.0).alive) (row k claim e).2 (good k claim e).1;
      numbers = λ k claim e. subst (λ (n : ℕ). n < 32) (found_claim k rows (row k claim e).0 (row k claim e).1) (ltb-true _ _ (good k claim e).0);
      pending_claimed = λ k on. found_any claim_of (λ (c : ClaimRow). eqb c.number k) rows ∙ any_claim k rows on;
    }

claims_all : (procs : List ProcRow) (rows : List ClaimRow) → Ascend claim_key rows → AreClaimsMatched (processes_of procs) (claims_of rows) (pending_of rows)
    → list_all (is_claim_living procs) rows ≡ true
claims_all procs rows ascend matched =
    claims_pass (is_claim_living procs) rows ascend (λ (k : ℕ) (c : ClaimRow) (e : find (λ r. eqb (claim_key r) k) rows ≡ Some c). (
    let here : claims_of rows k ≡ Some (claim_of c) = ap (option_map claim_of) e in
    let low = subst (λ (n : ℕ). n < 32) (sym (found_claim k rows c e)) (matched.numbers k (claim_of c) here) in
    rw (lt-ltb c.number 32 low, matched.living k (claim_of c) here) refl
    ))

pub claims_told : (procs : List ProcRow) (rows : List ClaimRow) (told : Bool) → Ascend claim_key rows → told ≡ list_all (is_claim_living procs) rows
    → IsTrue told ↔ AreClaimsMatched (processes_of procs) (claims_of rows) (pending_of rows)
claims_told procs rows told ascend is = (λ holds. claims_right procs rows (sym is ∙ holds), λ matched. is ∙ claims_all procs rows ascend matched)

-- ---- the timer

armed_some : (s : State) → s.armed ≡ 1 → is_some (compare_of s) ≡ true
armed_some s armed = rw armed refl

pub timer_told : (s : State) (told : Bool) → s.armed ≡ 1 → told ≡ list_any (λ c. eqb c.number 20) s.claims → IsTrue told ↔ IsTimerMatched (compare_of s) (claims_of s.claims)
timer_told s told armed is =
    let there = found_any claim_of (λ (c : ClaimRow). eqb c.number 20) s.claims in
    (λ holds on. there ∙ (sym is ∙ holds), λ matched. is ∙ sym there ∙ matched (armed_some s armed))

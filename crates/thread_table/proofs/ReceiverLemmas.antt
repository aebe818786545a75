-- Where all threads that are Receiving at a server are of one process, the threads of that process alone tell which is the
-- first of them.
use Rattle.std.proofs.Common.{◌≡◌, ◌<◌, ◌≤◌, ◌+◌, ◌-◌, ◌*◌, ◌/◌, ◌%◌, ℕ, Bool, true, false, Some, None, refl, sym, ap, ◌∙◌, subst, arith}
use Rattle.std.specs.Option.{option_map}
use Rattle.std.proofs.Math.Nat.{div-lt_iff_lt-mul, mod-add-div', mod-eq_of_lt, mul-add-mod_self_right}
use Rattle.std.proofs.lemmas.Bool.{false≢true}
use Rattle.std.proofs.lemmas.Nat.{div-mul-add, mul-add-lt}
use Rattle.xk_base.specs.Tables.Circle.{IsPid, id_by_tid, thread_ids}
use Rattle.xk_base.specs.declared.ids.Pid.{Pid}
use Rattle.xk_base.specs.declared.ids.Serial.{Serial}
use Rattle.xk_base.specs.declared.ids.ThreadId.{ThreadId}
use Rattle.xk_base.specs.declared.limits.TheConstants.{TID_LIMIT}
use Rattle.xk_base.proofs.CircleLemmas.{same_ids}
use Rattle.xk_base.proofs.CountingLemmas.{least_below-Some, least_below-None}
use Rattle.thread_table.specs.ThreadMap.{ThreadMap, is_receiving, receiver}

module _ (n : ℕ) (pid : Pid) (serial : Serial) (m : ThreadMap) (lies : IsPid n pid.0)
    (its : (id : ThreadId) → is_receiving serial (m id) ≡ true → id.pid.0 ≡ pid.0) where
  -- the threads of the process by tid
  abbrev own : ℕ → ThreadId
  own k = record { pid = pid; tid = record { 0 = k + 1 } }

  abbrev row : ℕ
  row = pid.0 - 2

  -- .. and where they stand among all
  abbrev place : ℕ → ℕ
  place k = k * n + row

  abbrev test : ℕ → Bool
  test q = is_receiving serial (m (id_by_tid n q))

  abbrev receives : ℕ → Bool
  receives k = is_receiving serial (m (own k))

  above : 2 ≤ pid.0
  above = lies.0

  below : pid.0 < n + 2
  below = lies.1

  in_row : row < n
  in_row = omega (arith, above, below)

  some : 0 < n
  some = omega (arith, in_row)

  id_of_place : (k : ℕ) → id_by_tid n (place k) ≡ own k
  id_of_place k =
      let residue : place k % n ≡ row = mul-add-mod_self_right k n row ∙ mod-eq_of_lt in_row in
      let number : place k / n ≡ k = div-mul-add k n row in_row in
      same_ids (id_by_tid n (place k)) (own k) (omega (arith, residue, above)) (ap (λ j. j + 1) number)

  -- what passes is one of them
  is_own : (q : ℕ) → q % n + 2 ≡ pid.0 → id_by_tid n q ≡ own (q / n)
  is_own q same = same_ids (id_by_tid n q) (own (q / n)) same refl

  -- .. and those that come before place k stand in an earlier row
  earlier : (q k : ℕ) → q % n + 2 ≡ pid.0 → q < place k → q / n < k
  earlier q k same low =
      let whole : q % n + q / n * n ≡ q = mod-add-div' q n in
      let rows : q / n * n < k * n = omega (arith, whole, same, low, above) in
      let back : (q / n * n + 0) / n ≡ q / n = div-mul-add (q / n) n 0 some in
      let zero : q / n * n + 0 ≡ q / n * n = omega arith in
      subst (λ x. x < k) (sym (ap (λ x. x / n) zero) ∙ back) ((div-lt_iff_lt-mul some).1 rows)

  fails : (bound : ℕ) → ((j : ℕ) → j < bound → receives j ≡ false) → (q : ℕ) → (q % n + 2 ≡ pid.0 → q / n < bound) → test q ≡ false
  fails bound none q low = go (test q) refl
    where
      go : (b : Bool) → test q ≡ b → b ≡ false
      go false e = refl
      go true e =
          let same : q % n + 2 ≡ pid.0 = its (id_by_tid n q) e in
          absurd (false≢true (sym (none (q / n) (low same)) ∙ sym (ap (λ id. is_receiving serial (m id)) (is_own q same)) ∙ e))

  pub receiver_found : (k : ℕ) → k < TID_LIMIT → receives k ≡ true → ((j : ℕ) → j < k → receives j ≡ false) → receiver n serial m ≡ Some (own k)
  receiver_found k few e none =
      ap (option_map (id_by_tid n))
      (least_below-Some (thread_ids n) test (place k) (mul-add-lt k n row TID_LIMIT few in_row) (ap (λ id. is_receiving serial (m id)) (id_of_place k) ∙ e)
      (λ q low. fails k none q (λ same. earlier q k same low)))
      ∙ ap Some (id_of_place k)

  pub receiver_missing : ((j : ℕ) → j < TID_LIMIT → receives j ≡ false) → receiver n serial m ≡ None
  receiver_missing none =
      ap (option_map (id_by_tid n))
      (least_below-None (thread_ids n) test (λ q low. fails TID_LIMIT none q (λ same. (div-lt_iff_lt-mul some).1 (omega (arith, low)))))

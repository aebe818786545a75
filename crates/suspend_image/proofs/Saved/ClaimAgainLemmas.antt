-- The claims and the processes of a state, as rows: they have the form, and say what there is.
use Rattle.std.proofs.Common.{◌≡◌, ℕ, zero, suc, ◌+◌, ◌-◌, ◌≤◌, ◌<◌, Bool, true, false, cond, eqb, ltb, List, [], ◌∷◌, ◌++◌, map, length, get_or, Option, None, refl, sym, ap, ◌∙◌, arith, inl, inr}
use Rattle.std.specs.Prelude.{◌&&◌, ◌||◌, is_some}
use Rattle.std.specs.List.{AllByRecursion, list_any}
use Rattle.std.proofs.lemmas.Bool.{cases_Bool, cases_lt, eqb-true, eq-eqb, ltb-true, ltb-false}
use Rattle.std.proofs.lemmas.List.{length-append, length-map, get_or-map, get_or_append_left}
use Rattle.xk_base.specs.declared.ids.Pid.{Pid}
use Rattle.xk_base.specs.declared.ids.Serial.{Serial}
use Rattle.xk_base.specs.Tables.Counting.{listed_below}
use Rattle.xk_base.proofs.CircleLemmas.{is_pid-bounds}
use Rattle.xk_base.proofs.CountingLemmas.{listed_below-contains}
use Rattle.machine_model.specs.State.Machine.{Machine, Process, Claim}
use Rattle.machine_model.specs.Runs.Matched.{Matched}
use Rattle.snapshot_rows.specs.declared.state.ClaimRow.{ClaimRow}
use Rattle.snapshot_rows.specs.declared.state.ProcRow.{ProcRow}
use Rattle.snapshot_rows.specs.Order.{claim_key, AreInOrder}
use Rattle.suspend_image.specs.Reading.{greatest}
use Rattle.suspend_image.specs.Forms.{IsWord, IsFlag, IsProcRow, IsClaimRow}
use Rattle.snapshot_rows.specs.Machines.{process_of, no_process, processes_of, claim_of, claims_of, pending_of}
use Rattle.suspend_image.specs.SavedRows.{flag, proc_row, claim_row}
use Rattle.suspend_image.specs.StateBytes.{pids, claim_entries}
use Rattle.suspend_image.specs.Saveable.{IsSaveable}
use Rattle.suspend_image.proofs.Saved.EntryLemmas.{At, entries_hold, has_of, lookup, lookup_told, found_told, tells_each}
use Rattle.suspend_image.proofs.Saved.RiseLemmas.{Follows, number_low, in_order, entries_rise, numbers_rise, all_follow_none}
use Rattle.suspend_image.proofs.Saved.RoomLemmas.{by_recursion, all_of}
use Rattle.suspend_image.proofs.Saved.ThreadAgainLemmas.{word}

pub flag_form : (b : Bool) → IsFlag (flag b)
flag_form true = record { at_least = omega arith; at_most = omega arith }
flag_form false = record { at_least = omega arith; at_most = omega arith }

pub flag_again : (b : Bool) → eqb (flag b) 1 ≡ b
flag_again true = refl
flag_again false = refl

-- ---- the pids, each in its place

abbrev below : ℕ → List ℕ
below n = listed_below n (λ k. true)

below_length : (n : ℕ) → length (below n) ≡ n
unfolding listed_below
below_length zero = refl
below_length (suc n) =
    let before = below_length n in
    let both = length-append (below n) (n ∷ []) in
    omega (arith, before, both)

get_last : (xs : List ℕ) (x d : ℕ) → get_or (xs ++ x ∷ []) (length xs) d ≡ x
get_last [] x d = refl
get_last (y ∷ xs) x d = get_last xs x d

get_past : {A : Type 0} (xs : List A) (i : ℕ) (d : A) → length xs ≤ i → get_or xs i d ≡ d
get_past [] i d past = refl
get_past (x ∷ xs) zero d past = absurd (omega (arith, past))
get_past (x ∷ xs) (suc i) d past = get_past xs i d (omega (arith, past))

below_at : (n i d : ℕ) → i < n → get_or (below n) i d ≡ i
unfolding listed_below
below_at zero i d within = absurd (omega (arith, within))
below_at (suc n) i d within =
    let size = below_length n in
    elim (cases_lt i n) [
      | inl low ↦ get_or_append_left (below n) (n ∷ []) d i (omega (arith, low, size)) ∙ below_at n i d low
      | inr high ↦ (
          let last : i ≡ length (below n) = omega (arith, high, within, size) in
          ap (λ (k : ℕ). get_or (below n ++ n ∷ []) k d) last ∙ get_last (below n) n d ∙ sym size ∙ sym last
          )
    ]

pids_length : (n : ℕ) → length (pids n) ≡ n
pids_length n = length-map (below n) (λ k. k + 2) ∙ below_length n

pids_at : (n i d : ℕ) → i < n → get_or (pids n) i d ≡ i + 2
pids_at n i d within =
    let size = below_length n in
    get_or-map (λ k. k + 2) (below n) i 0 d (omega (arith, within, size)) ∙ ap (λ (k : ℕ). k + 2) (below_at n i 0 within)

-- ---- processes

serials_form : (most : ℕ) (cs : List Serial) → most ≤ greatest → AllByRecursion (λ c. c.0 < most) cs → AllByRecursion IsWord (map (λ serial. serial.0) cs)
serials_form most [] few all = tt
serials_form most (c ∷ cs) few all = (let low = all.0 in word c.0 (omega (arith, low, few)), serials_form most cs few all.1)

serials_again : (cs : List Serial) → map (λ serial. record { 0 = serial }) (map (λ serial. serial.0) cs) ≡ cs
serials_again [] = refl
serials_again (c ∷ cs) = ap (λ (xs : List Serial). c ∷ xs) (serials_again cs)

process_again : (p : Process) → process_of (proc_row p) ≡ p
process_again p = λ i. record { alive = flag_again p.alive i; heap = p.heap; connections = serials_again p.connections i }

module _ (m : Machine) (matched : Matched m) (saveable : IsSaveable m) where
  abbrev pub process_rows : List ProcRow
  process_rows = map (λ pid. proc_row (m.process pid)) (pids m.processes)

  proc_form : (pid : ℕ) → IsProcRow (proc_row (m.process pid))
  proc_form pid =
      let p = m.process pid in
      let id : Pid = record { 0 = pid } in
      let heap = matched.body.heaps.within id in
      let few = matched.body.processes.connections id in
      let many = length-map p.connections (λ serial. serial.0) in
      let stepped = matched.rest.stepped.serial_steps in
      let steps = saveable.steps in
      record {
        alive = flag_form p.alive;
        heap = word p.heap (omega (arith, heap));
        many = word _ (omega (arith, many, few));
        serials = serials_form m.next_serial p.connections (omega (arith, stepped, steps))
            (by_recursion (λ c. c.0 < m.next_serial) p.connections (matched.rest.above.connections id));
      }

  pub procs_form : AllByRecursion IsProcRow process_rows
  procs_form = go (pids m.processes)
    where
      go : (ks : List ℕ) → AllByRecursion IsProcRow (map (λ pid. proc_row (m.process pid)) ks)
      go [] = tt
      go (k ∷ ks) = (proc_form k, go ks)

  pub procs_counted : length process_rows ≡ m.processes
  procs_counted = length-map (pids m.processes) (λ pid. proc_row (m.process pid)) ∙ pids_length m.processes

  -- where there is no process, nothing stands
  dead : (pid : ℕ) → ((2 ≤ pid) → (pid < m.processes + 2) → ⊥) → (m.process pid).alive ≡ false
  dead pid none = elim (cases_Bool (m.process pid).alive) [
    | inl alive ↦ (let id = is_pid-bounds m.processes pid (matched.body.processes.pids (record { 0 = pid }) alive) in absurd (none id.0 id.1))
    | inr isnt ↦ isnt
  ]

  nothing : (pid : ℕ) → (m.process pid).alive ≡ false → process_of no_process ≡ m.process pid
  nothing pid isnt =
      let id : Pid = record { 0 = pid } in
      let heap = matched.body.processes.no_heap id isnt in
      let connections = matched.body.processes.no_connection id isnt in
      sym (λ i. record { alive = isnt i; heap = heap i; connections = connections i })

  at_place : (k : ℕ) → process_of (get_or process_rows k no_process) ≡ m.process (k + 2)
  at_place k = elim (cases_lt k m.processes) [
    | inl there ↦ (
        let size = pids_length m.processes in
        let row : get_or process_rows k no_process ≡ proc_row (m.process (get_or (pids m.processes) k 0)) =
        get_or-map (λ pid. proc_row (m.process pid)) (pids m.processes) k 0 no_process (omega (arith, there, size)) in
        ap process_of row ∙ process_again (m.process (get_or (pids m.processes) k 0)) ∙ ap m.process (pids_at m.processes k 0 there)
        )
    | inr past ↦ (
        let size = procs_counted in
        ap process_of (get_past process_rows k no_process (omega (arith, past, size)))
        ∙ nothing (k + 2) (dead (k + 2) (λ low high. omega (arith, past, high)))
        )
  ]

  pub processes_again : (pid : ℕ) → processes_of process_rows pid ≡ m.process pid
  processes_again pid =
      let says = λ (b : Bool). process_of (cond b no_process (get_or process_rows (pid - 2) no_process)) in
      elim (cases_Bool (ltb pid 2)) [
        | inl below_two ↦ (
            let small = ltb-true pid 2 below_two in
            ap says below_two ∙ nothing pid (dead pid (λ low high. omega (arith, small, low)))
            )
        | inr above ↦ (
            let large = ltb-false pid 2 above in
            let same : pid - 2 + 2 ≡ pid = omega (arith, large) in
            ap says above ∙ at_place (pid - 2) ∙ ap m.process same
            )
      ]

  -- ---- claims

  claim_form : (before : Option ℕ) (e : ℕ × Claim) → At m.claims e → Follows (λ a b. a < b) before e.0
      → IsClaimRow m.processes before (claim_row m.pending e.0 e.1)
  claim_form before e at follows =
      let keeps = saveable.claims e.0 e.1 at in
      let number = matched.rest.claims.numbers e.0 e.1 at in
      let pid = is_pid-bounds m.processes e.1.pid.0 (matched.body.processes.pids e.1.pid (matched.rest.claims.living e.0 e.1 at)) in
      let least = pid.0 in
      let most = pid.1 in
      record {
        number = record { at_least = number_low before e.0 follows; at_most = omega (arith, number) };
        pid = record { at_least = least; at_most = omega (arith, most) };
        handler = word e.1.handler keeps.handler;
        arg = word e.1.argument keeps.argument;
        pending = flag_form (m.pending e.0);
      }

  abbrev numbers : List ℕ
  numbers = listed_below 32 (λ number. is_some (m.claims number))

  abbrev pub claim_rows : List ClaimRow
  claim_rows = map (λ e. claim_row m.pending e.0 e.1) (claim_entries m)

  pub claims_form : AreInOrder (IsClaimRow m.processes) claim_key None claim_rows
  claims_form =
      in_order (λ a b. a < b) (IsClaimRow m.processes) claim_key (λ e. claim_row m.pending e.0 e.1) (At m.claims) claim_form None (claim_entries m)
      (entries_hold m.claims numbers) (entries_rise m.claims (λ a b. a < b) numbers (numbers_rise 32 (λ number. is_some (m.claims number))))
      (all_follow_none (λ a b. a < b) (λ e. e.0) (claim_entries m))

  abbrev same : ℕ → ℕ → Bool
  same a k = eqb a k

  same_is : (a b : ℕ) → same a b ≡ true → a ≡ b
  same_is a b e = eqb-true a b e

  same_own : (a : ℕ) → same a a ≡ true
  same_own a = eq-eqb a a refl

  looked_up : (k : ℕ) → lookup m.claims same same_is same_own k (claim_entries m) ≡ m.claims k
  looked_up =
      lookup_told m.claims same same_is same_own numbers (λ k c at. has_of k numbers
      (listed_below-contains 32 k (λ n. is_some (m.claims n)) (matched.rest.claims.numbers k c at) (ap is_some at)))

  pub claims_again : (k : ℕ) → claims_of claim_rows k ≡ m.claims k
  claims_again k =
      let test = λ (j : ℕ) (r : ClaimRow). eqb r.number j in
      found_told m.claims same same_is same_own claim_of test claim_rows (claim_entries m)
      (tells_each m.claims same same_is same_own claim_of test (λ e. claim_row m.pending e.0 e.1) (λ j e. refl) (claim_entries m)
      (all_of (λ e. claim_of (claim_row m.pending e.0 e.1) ≡ e.1) (λ e. refl) (claim_entries m))) k
      ∙ looked_up k

  abbrev is_pending : ℕ → ClaimRow → Bool
  is_pending k c = eqb c.number k && eqb c.pending 1

  any_pending : (k : ℕ) (es : List (ℕ × Claim)) → list_any (is_pending k) (map (λ e. claim_row m.pending e.0 e.1) es)
      ≡ (is_some (lookup m.claims same same_is same_own k es) && m.pending k)
  any_pending k [] = refl
  any_pending k (e ∷ es) = elim (cases_Bool (eqb e.0 k)) [
    | inl is ↦ (
        let here : eqb (flag (m.pending e.0)) 1 ≡ m.pending k = flag_again (m.pending e.0) ∙ ap m.pending (eqb-true e.0 k is) in
        rw (is, here, any_pending k es) (absorbed (m.pending k) _)
        )
    | inr isnt ↦ rw isnt (any_pending k es)
  ]
    where
      absorbed : (p q : Bool) → (p || (q && p)) ≡ p
      absorbed true q = refl
      absorbed false true = refl
      absorbed false false = refl

  pub pending_again : (k : ℕ) → pending_of claim_rows k ≡ m.pending k
  pending_again k =
      any_pending k (claim_entries m) ∙ ap (λ (o : Option Claim). is_some o && m.pending k) (looked_up k)
      ∙ go (m.pending k) (is_some (m.claims k)) (matched.rest.claims.pending_claimed k)
    where
      go : (p c : Bool) → (p ≡ true → c ≡ true) → (c && p) ≡ p
      go true true claimed = refl
      go true false claimed = (let never = claimed refl in absurd cc)
      go false true claimed = refl
      go false false claimed = refl

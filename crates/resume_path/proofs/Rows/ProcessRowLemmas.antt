-- The processes of a state, as they come back row after row.
use Rattle.std.proofs.Common.{◌≡◌, ℕ, zero, suc, ◌+◌, ◌-◌, ◌<◌, ◌≤◌, Bool, true, false, ◌&&◌, List, [], ◌∷◌, ◌++◌, length, map, take, get_or, Option, Some, None, Result, Ok, Err, refl, sym, ap, ◌∙◌, arith, inl, inr}
use Rattle.std.specs.Prelude.{◌≢◌, ◌==◌, ◌||◌, not, nat_lt, nat_le, nat_eq, is_some, position, if◌then◌else◌}
use Rattle.std.specs.List.{AllByRecursion, list_any, list_all, position_or_len}
use Rattle.std.specs.Option.{option_map}
use Rattle.std.proofs.lemmas.Bool.{cases_Bool, cases_eq, cases_lt, cond-true, cond-false, eq-eqb, ne_eqb, eqb-true, and_parts}
use Rattle.std.proofs.lemmas.Bool.Decides.{nat_tests}
use Rattle.std.proofs.lemmas.List.{get_or_default, get_or_past, length-map, length-take-le, map-append, take_more}
use Rattle.process_table.specs.ProcessMap.{ProcessMap, change, connections_of, new_processes}
use Rattle.process_table.specs.Shown.{process_count, processes_of}
use Rattle.process_table.specs.State.{ProcessState, dead_process, new_process, with_connection, connection}
use Rattle.process_table.specs.declared.table.Processes.{Processes}
use Rattle.xk_parts.specs.Shown.{process_of}
use Rattle.snapshot_matching.proofs.ProcessRows.ConnectionLemmas.{processes_matched_told}
use Rattle.suspend_image.specs.Forms.{IsProcRow}
use Rattle.snapshot_rows.specs.Machines.{no_process, process_of as row_state, processes_of as state_processes}
use Rattle.snapshot_matching.specs.ProcessParts.{are_apart, are_processes_told, is_within_limits}
use Rattle.snapshot_rows.specs.declared.state.ProcRow.{ProcRow}
use Rattle.snapshot_rows.specs.declared.state.State.{State}
use Rattle.xk_base.specs.Tables.Circle.{IsPid, is_pid}
use Rattle.xk_base.specs.Tables.Connections.{cid_for, cid_to, connected, has_room}
use Rattle.xk_base.specs.Tables.Counting.{put_at}
use Rattle.xk_base.specs.Tables.Sids.{serial_of}
use Rattle.xk_base.specs.declared.errors.XousError.{XousError}
use Rattle.xk_base.specs.declared.errors.XousError.TheVariants.{InvalidLimit}
use Rattle.xk_base.specs.declared.ids.Cid.{Cid}
use Rattle.xk_base.specs.declared.ids.Serial.{Serial}
use Rattle.resume_path.proofs.Rows.RowLemmas.{take_past}
use Rattle.resume_path.proofs.Rows.ThreadRowLemmas.{same_number}
use Rattle.resume_path.specs.Resumable.{IsResumable}
use Rattle.resume_path.specs.Tables.{row_process, with_connections}

-- ---- connections

-- the process has the connections of the first k serials
abbrev pub AreConnectedTo : ProcessMap → ℕ → List ℕ → ProcessMap → ℕ → Type 0
AreConnectedTo before pid serials now k = now ≡ change pid (with_connections (map serial_of (take k serials))) before

change_twice : (pid : ℕ) (f g h : ProcessState → ProcessState) (m : ProcessMap) → ((p : ProcessState) → f (g p) ≡ h p) → change pid f (change pid g m) ≡ change pid h m
change_twice pid f g h m same = λ i q. at q (nat_eq q pid) i
  where
    inner : option_map f (if nat_eq pid pid then option_map g (m pid) else m pid) ≡ option_map h (m pid)
    inner = ap (λ b. option_map f (if b then option_map g (m pid) else m pid)) (eq-eqb pid pid refl) ∙ twice (m pid)
      where
        twice : (o : Option ProcessState) → option_map f (option_map g o) ≡ option_map h o
        twice None = refl
        twice (Some p) = ap Some (same p)

    at : (q : ℕ) (b : Bool) → (if b then option_map f (if nat_eq pid pid then option_map g (m pid) else m pid) else (if b then option_map g (m pid) else m q))
        ≡ (if b then option_map h (m pid) else m q)
    at q true = inner
    at q false = refl

neither : (a b : Bool) → (a || b) ≡ false → (a ≡ false) × (b ≡ false)
neither true b e = absurd cc
neither false b e = (refl, e)

not_true : (b : Bool) → not b ≡ true → b ≡ false
not_true true e = absurd cc
not_true false e = refl

-- where no element passes, none is found
none_passes : {A : Type 0} (p : A → Bool) (xs : List A) → list_any p xs ≡ false → position_or_len p xs ≡ length xs
none_passes p [] e = refl
none_passes p (x ∷ xs) e =
    let both = neither (p x) (list_any p xs) e in
    let rest = none_passes p xs both.1 in
    rw both.0 (omega (arith, rest))

no_position : {A : Type 0} (p : A → Bool) (xs : List A) → list_any p xs ≡ false → position p xs ≡ None
no_position p xs e =
    let all = none_passes p xs e in
    let past : nat_lt (position_or_len p xs) (length xs) ≡ false = grind (arith, nat_tests, all) in
    cond-false (nat_lt (position_or_len p xs) (length xs)) (Some (position_or_len p xs)) None past

-- no serial before one that stands apart is the same
other_at : (x : ℕ) (xs : List ℕ) (k d : ℕ) → k < length xs → list_any (λ other. other == x) xs ≡ false → (get_or xs k d == x) ≡ false
other_at x [] k d low none = absurd (omega arith)
other_at x (y ∷ xs) zero d low none = (neither (y == x) (list_any (λ other. other == x) xs) none).0
other_at x (y ∷ xs) (suc k) d low none = other_at x xs k d (omega (arith, low)) (neither (y == x) (list_any (λ other. other == x) xs) none).1

differ_before : (serials : List ℕ) (k d : ℕ) → are_apart serials ≡ true → k < length serials
    → list_any (λ (s : Serial). s.0 == get_or serials k d) (map serial_of (take k serials)) ≡ false
differ_before [] k d apart low = absurd (omega arith)
differ_before (x ∷ xs) zero d apart low = refl
differ_before (x ∷ xs) (suc k) d apart low =
    let both = and_parts (not (list_any (λ other. other == x) xs)) (are_apart xs) apart in
    let rest = differ_before xs k d both.1 (omega (arith, low)) in
    let differ = same_number x (get_or xs k d) ∙ other_at x xs k d (omega (arith, low)) (not_true (list_any (λ other. other == x) xs) both.0) in
    rw (differ, rest) refl

module _ (serials : List ℕ) (k d : ℕ) (apart : are_apart serials ≡ true) (low : k < length serials) where
  abbrev next : Serial
  next = serial_of (get_or serials k d)

  abbrev so_far : List Serial
  so_far = map serial_of (take k serials)

  unconnected : cid_to next so_far ≡ None
  unconnected = ap (option_map (λ k. k + 2)) (no_position (λ (s : Serial). s.0 == next.0) so_far (differ_before serials k d apart low))

  few_so_far : length so_far ≡ k
  few_so_far = length-map (take k serials) serial_of ∙ length-take-le k serials (omega (arith, low))

  -- there is room for the next connection
  pub next_has_room : length serials ≤ 32 → has_room next so_far ≡ true
  next_has_room few =
      let count = few_so_far in
      let within : nat_lt (length so_far) 32 ≡ true = grind (arith, nat_tests, count, low, few) in
      ap (λ b. is_some (cid_to next so_far) || b) within ∙ or_true (is_some (cid_to next so_far))
    where
      or_true : (b : Bool) → (b || true) ≡ true
      or_true true = refl
      or_true false = refl

  connected_next : connected next so_far ≡ map serial_of (take (k + 1) serials)
  connected_next =
      ap (λ o. if is_some o then so_far else so_far ++ next ∷ []) unconnected
      ∙ (sym (map-append serial_of (take k serials) (get_or serials k d ∷ [])) ∙ sym (ap (map serial_of) (take_more serials k d low)))

  module _ (pid : ℕ) (before now new : ProcessMap) (connects : AreConnectedTo before pid serials now k) where
    pub next_connected : new ≡ change pid (with_connection next) now → AreConnectedTo before pid serials new (k + 1)
    next_connected after =
        after ∙ (ap (change pid (with_connection next)) connects
        ∙ change_twice pid (with_connection next) (with_connections so_far) (with_connections (map serial_of (take (k + 1) serials))) before
        (λ p. ap (λ cs. record p { connections = cs }) connected_next))

own_at : (o : Option ProcessState) → connections_of o ≡ [] → option_map (with_connections []) o ≡ o
own_at None e = refl
own_at (Some p) e = λ i. Some (record p { connections = sym e i })

-- before its first connection the process has none
pub none_connected : (pid : ℕ) (before : ProcessMap) (serials : List ℕ) → connections_of (before pid) ≡ [] → AreConnectedTo before pid serials before 0
none_connected pid before serials none = λ i q. at q i
  where
    at : (q : ℕ) → before q ≡ (if nat_eq q pid then option_map (with_connections []) (before pid) else before q)
    at q = elim (cases_eq q pid) [
      | inl e ↦ ap before e ∙ (sym (own_at (before pid) none) ∙ sym (cond-true (nat_eq q pid) (option_map (with_connections []) (before pid)) (before q) (eq-eqb q pid e)))
      | inr ne ↦ sym (cond-false (nat_eq q pid) (option_map (with_connections []) (before pid)) (before q) (ne_eqb q pid ne))
    ]

-- the connections of the process after a change of it
changed_own : (pid : ℕ) (f : ProcessState → ProcessState) (m : ProcessMap) → change pid f m pid ≡ option_map f (m pid)
changed_own pid f m = cond-true (nat_eq pid pid) (option_map f (m pid)) (m pid) (eq-eqb pid pid refl)

err_ok : (e : XousError) (c : Cid) (r : Result Cid XousError) → Err e ≡ r → r ≡ Ok c → ⊥
err_ok e c r a b = absurd cc

abbrev serial_at : List ℕ → ℕ → ℕ → Serial
serial_at serials k d = serial_of (get_or serials k d)

abbrev serials_to : List ℕ → ℕ → List Serial
serials_to serials k = map serial_of (take k serials)

-- so no connection is refused
pub never_refused : (serials : List ℕ) (k d : ℕ) → are_apart serials ≡ true → k < length serials → length serials ≤ 32
    → (pid : ℕ) (before now : ProcessMap) → AreConnectedTo before pid serials now k
    → (e : XousError) → Err e ≡ connection (serial_of (get_or serials k d)) (connections_of (now pid)) → ⊥
never_refused serials k d apart low few pid before now connects e is =
    let own : now pid ≡ option_map (with_connections (serials_to serials k)) (before pid) =
    ap (λ (m : ProcessMap). m pid) connects ∙ changed_own pid (with_connections (serials_to serials k)) before in
    let room : has_room (serial_at serials k d) (connections_of (now pid)) ≡ true = ap (λ o. has_room (serial_at serials k d) (connections_of o)) own ∙ at (before pid) in
    let ok : connection (serial_at serials k d) (connections_of (now pid)) ≡ Ok (record { 0 = cid_for (serial_at serials k d) (connections_of (now pid)) }) =
    ap (λ b. if b then Ok (record { 0 = cid_for (serial_at serials k d) (connections_of (now pid)) }) else Err InvalidLimit) room in
    err_ok e (record { 0 = cid_for (serial_at serials k d) (connections_of (now pid)) }) (connection (serial_at serials k d) (connections_of (now pid))) is ok
  where
    at : (o : Option ProcessState) → has_room (serial_at serials k d) (connections_of (option_map (with_connections (serials_to serials k)) o)) ≡ true
    at None = refl
    at (Some p) = next_has_room serials k d apart low few

-- ---- one process

-- what was no longer than nothing
nothing : {A : Type 0} (xs : List A) → (length xs == 0) ≡ true → xs ≡ []
nothing [] e = refl
nothing (x ∷ xs) e = absurd (omega (arith, eqb-true (length (x ∷ xs)) 0 e))

dead_row : (row : ProcRow) → row.alive ≡ 0 → is_within_limits row ≡ true → dead_process ≡ row_process row
dead_row row dead limits =
    let both = and_parts (nat_le (length row.serials) 32) ((row.alive == 1) || ((row.heap == 0) && (length row.serials == 0))) limits in
    let none : ((row.heap == 0) && (length row.serials == 0)) ≡ true = ap (λ a. (a == 1) || ((row.heap == 0) && (length row.serials == 0))) (sym dead) ∙ both.1 in
    let each = and_parts (row.heap == 0) (length row.serials == 0) none in
    λ i. record {
      alive = sym dead i == 1;
      heap = sym (eqb-true row.heap 0 each.0) i;
      connections = map serial_of (sym (nothing row.serials each.1) i);
    }

abbrev with_both : ProcRow → ProcessState → ProcessState
with_both row p = record p { heap = row.heap; connections = map serial_of row.serials }

-- ---- all processes

all_at : {A : Type 0} (good : A → Bool) (rows : List A) (k : ℕ) (d : A) → list_all good rows ≡ true → k < length rows → good (get_or rows k d) ≡ true
all_at good [] k d all low = absurd (omega arith)
all_at good (x ∷ rows) zero d all low = (and_parts (good x) (list_all good rows) all).0
all_at good (x ∷ rows) (suc k) d all low = all_at good rows k d (and_parts (good x) (list_all good rows) all).1 (omega (arith, low))

pub each_at : {A : Type 0} (P : A → Type 0) (rows : List A) (k : ℕ) (d : A) → AllByRecursion P rows → k < length rows → P (get_or rows k d)
each_at P [] k d all low = absurd (omega arith)
each_at P (x ∷ rows) zero d all low = all.0
each_at P (x ∷ rows) (suc k) d all low = each_at P rows k d all.1 (omega (arith, low))

-- the process of each of the first k rows is back, and the others are new
pub record AreProcessesTo (rows : List ProcRow) (procs : Processes) (k : ℕ) : Type 0 where
  pub count : process_count procs ≡ length rows
  pub there : (pid : ℕ) → processes_of procs pid
      ≡ (if is_pid (length rows) pid then Some (if nat_lt (pid - 2) k then row_process (get_or rows (pid - 2) no_process) else new_process) else None)

pub none_processed : (rows : List ProcRow) (procs : Processes) → process_count procs ≡ length rows → processes_of procs ≡ new_processes (length rows)
    → AreProcessesTo rows procs 0
none_processed rows procs count new = record {
  count = count;
  there = λ pid. ap (λ (m : ProcessMap). m pid) new ∙ (let none : nat_lt (pid - 2) 0 ≡ false = grind (arith, nat_tests) in
      ap (λ b. if is_pid (length rows) pid then Some (if b then row_process (get_or rows (pid - 2) no_process) else new_process) else None) (sym none));
}

module _ (file : List ℕ) (s : State) (h : IsResumable file s) where
  counted : length s.procs ≡ s.n
  counted = h.spelled.form.many_procs

  told : are_processes_told s.n s.procs ≡ true
  told = (processes_matched_told s.n s.procs (are_processes_told s.n s.procs) counted refl).1 h.matched.body.processes

  both : (list_all is_within_limits s.procs ≡ true) × (list_all (λ p. are_apart p.serials) s.procs ≡ true)
  both = and_parts (list_all is_within_limits s.procs) (list_all (λ p. are_apart p.serials) s.procs) (and_parts (nat_le s.n 64) (list_all is_within_limits s.procs && list_all (λ p. are_apart p.serials) s.procs) told).1

  module _ (k : ℕ) (d : ProcRow) (low : k < length s.procs) where
    pub next_row : IsProcRow (get_or s.procs k d)
    next_row = each_at IsProcRow s.procs k d h.spelled.form.procs low

    pub next_limits : is_within_limits (get_or s.procs k d) ≡ true
    next_limits = all_at is_within_limits s.procs k d both.0 low

    pub next_apart : are_apart (get_or s.procs k d).serials ≡ true
    next_apart = all_at (λ (p : ProcRow). are_apart p.serials) s.procs k d both.1 low

module _ (rows : List ProcRow) (procs : Processes) (k : ℕ) (d : ProcRow) (low : k < length rows) (back : AreProcessesTo rows procs k) where
  next_pid : is_pid (length rows) (k + 2) ≡ true
  next_pid = grind (arith, nat_tests, low)

  pub next_is_pid : IsPid (process_count procs) (k + 2)
  next_is_pid = let count = back.count in (omega arith, omega (arith, count, low))

  pub next_fresh : processes_of procs (k + 2) ≡ Some new_process
  next_fresh =
      let last : nat_lt (k + 2 - 2) k ≡ false = grind (arith, nat_tests) in
      back.there (k + 2) ∙ (cond-true (is_pid (length rows) (k + 2)) (Some (if nat_lt (k + 2 - 2) k then row_process (get_or rows (k + 2 - 2) no_process) else new_process)) None next_pid
      ∙ ap (λ b. Some (if b then row_process (get_or rows (k + 2 - 2) no_process) else new_process)) last)

  pub next_processed : (new : Processes) → process_count new ≡ process_count procs
      → processes_of new ≡ put_at nat_eq (processes_of procs) (k + 2) (Some (row_process (get_or rows k d))) → AreProcessesTo rows new (k + 1)
  next_processed new count after = record {
    count = count ∙ back.count;
    there = λ pid. ap (λ (m : ProcessMap). m pid) after ∙ elim (cases_eq pid (k + 2)) [
      | inl e ↦
          let here : is_pid (length rows) pid ≡ true = ap (is_pid (length rows)) e ∙ next_pid in
          let within : nat_lt (pid - 2) (k + 1) ≡ true = grind (arith, nat_tests, e) in
          let place : pid - 2 ≡ k = omega (arith, e) in
          cond-true (nat_eq pid (k + 2)) (Some (row_process (get_or rows k d))) (processes_of procs pid) (eq-eqb pid (k + 2) e)
          ∙ (ap (λ (p : ProcRow). Some (row_process p)) (get_or_default rows k d no_process low ∙ ap (λ j. get_or rows j no_process) (sym place))
          ∙ (ap (λ b. Some (if b then row_process (get_or rows (pid - 2) no_process) else new_process)) (sym within)
          ∙ sym (cond-true (is_pid (length rows) pid) (Some (if nat_lt (pid - 2) (k + 1) then row_process (get_or rows (pid - 2) no_process) else new_process)) None here)))
      | inr ne ↦
          cond-false (nat_eq pid (k + 2)) (Some (row_process (get_or rows k d))) (processes_of procs pid) (ne_eqb pid (k + 2) ne)
          ∙ (back.there pid ∙ others pid ne)
    ];
  }
    where
      others : (pid : ℕ) → pid ≢ k + 2
          → (if is_pid (length rows) pid then Some (if nat_lt (pid - 2) k then row_process (get_or rows (pid - 2) no_process) else new_process) else None)
          ≡ (if is_pid (length rows) pid then Some (if nat_lt (pid - 2) (k + 1) then row_process (get_or rows (pid - 2) no_process) else new_process) else None)
      others pid ne = elim (cases_Bool (is_pid (length rows) pid)) [
        | inl here ↦
            let same : nat_lt (pid - 2) k ≡ nat_lt (pid - 2) (k + 1) = grind (arith, nat_tests, here, ne) in
            ap (λ b. if is_pid (length rows) pid then Some (if b then row_process (get_or rows (pid - 2) no_process) else new_process) else None) same
        | inr away ↦
            cond-false (is_pid (length rows) pid) (Some (if nat_lt (pid - 2) k then row_process (get_or rows (pid - 2) no_process) else new_process)) None away
            ∙ sym (cond-false (is_pid (length rows) pid) (Some (if nat_lt (pid - 2) (k + 1) then row_process (get_or rows (pid - 2) no_process) else new_process)) None away)
      ]

-- all are back
pub all_processed : (rows : List ProcRow) (procs : Processes) → AreProcessesTo rows procs (length rows) → (pid : ℕ)
    → process_of (processes_of procs pid) ≡ state_processes rows pid
all_processed rows procs back pid = ap process_of (back.there pid) ∙ elim (cases_lt pid 2) [
  | inl low ↦
      let away : is_pid (length rows) pid ≡ false = grind (arith, nat_tests, low) in
      let none : nat_lt pid 2 ≡ true = grind (arith, nat_tests, low) in
      ap (λ b. process_of (if b then Some (if nat_lt (pid - 2) (length rows) then row_process (get_or rows (pid - 2) no_process) else new_process) else None)) away
      ∙ ap (λ b. row_state (if b then no_process else get_or rows (pid - 2) no_process)) (sym none)
  | inr high ↦
      let some : nat_lt pid 2 ≡ false = grind (arith, nat_tests, high) in
      elim (cases_lt (pid - 2) (length rows)) [
        | inl within ↦
            let here : is_pid (length rows) pid ≡ true = grind (arith, nat_tests, high, within) in
            let there : nat_lt (pid - 2) (length rows) ≡ true = grind (arith, nat_tests, within) in
            ap (λ b. process_of (if b then Some (if nat_lt (pid - 2) (length rows) then row_process (get_or rows (pid - 2) no_process) else new_process) else None)) here
            ∙ (ap (λ b. process_of (Some (if b then row_process (get_or rows (pid - 2) no_process) else new_process))) there
            ∙ ap (λ b. row_state (if b then no_process else get_or rows (pid - 2) no_process)) (sym some))
        | inr past ↦
            let away : is_pid (length rows) pid ≡ false = grind (arith, nat_tests, high, past) in
            ap (λ b. process_of (if b then Some (if nat_lt (pid - 2) (length rows) then row_process (get_or rows (pid - 2) no_process) else new_process) else None)) away
            ∙ (ap row_state (sym (get_or_past rows (pid - 2) no_process past))
            ∙ ap (λ b. row_state (if b then no_process else get_or rows (pid - 2) no_process)) (sym some))
      ]
]

-- ---- the loop over the serials of one process

pub record IsConnecting (serials : List ℕ) (pid : ℕ) (before now : Processes) (k : ℕ) : Type 0 where
  pub count : process_count now ≡ process_count before
  pub connects : AreConnectedTo (processes_of before) pid serials (processes_of now) k

pub connecting_none : (serials : List ℕ) (pid : ℕ) (before : Processes) → connections_of (processes_of before pid) ≡ [] → IsConnecting serials pid before before 0
connecting_none serials pid before none = record { count = refl; connects = none_connected pid (processes_of before) serials none }

pub connecting_next : (serials : List ℕ) (pid k d : ℕ) (before now new : Processes) → are_apart serials ≡ true → k < length serials
    → IsConnecting serials pid before now k → process_count new ≡ process_count now
    → processes_of new ≡ change pid (with_connection (serial_of (get_or serials k d))) (processes_of now) → IsConnecting serials pid before new (k + 1)
connecting_next serials pid k d before now new apart low h count after = record {
  count = count ∙ h.count;
  connects = next_connected serials k d apart low pid (processes_of before) (processes_of now) (processes_of new) h.connects after;
}

pub connecting_all : (serials : List ℕ) (pid k : ℕ) (before now : Processes) → length serials ≤ k → IsConnecting serials pid before now k
    → processes_of now ≡ change pid (with_connections (map serial_of serials)) (processes_of before)
connecting_all serials pid k before now all h = h.connects ∙ ap (λ xs. change pid (with_connections (map serial_of xs)) (processes_of before)) (take_past k serials all)

-- Processes are matched, with their connections, exactly where tests of the rows hold.
use Rattle.std.proofs.Common.{◌≡◌, ℕ, zero, suc, ◌+◌, ◌-◌, ◌≤◌, ◌<◌, Bool, true, false, not, eqb, ltb, leb, List, [], ◌∷◌, length, map, refl, sym, subst, ◌∙◌, arith, inl, inr, ◌↔◌}
use Rattle.std.specs.Prelude.{◌&&◌, IsTrue, IsFalse}
use Rattle.std.specs.List.{list_any, list_all, All, AllPairs}
use Rattle.std.proofs.lemmas.Bool.{cases_Bool, and_parts, eqb-false, eq-eqb, ne_eqb, leb-true, le-leb, lt-ltb, both_ways}
use Rattle.std.proofs.lemmas.List.Kept.{AllPairs-cons}
use Rattle.xk_base.specs.declared.ids.Pid.{Pid}
use Rattle.xk_base.specs.declared.ids.Serial.{Serial}
use Rattle.xk_base.specs.Tables.Circle.{is_pid}
use Rattle.machine_model.specs.State.Machine.{Process}
use Rattle.machine_model.specs.Runs.Matched.{AreProcessesMatched}
use Rattle.snapshot_rows.specs.declared.state.ProcRow.{ProcRow}
use Rattle.snapshot_rows.specs.Machines.{process_of, processes_of}
use Rattle.snapshot_matching.specs.ProcessParts.{is_within_limits, are_apart, are_processes_told}
use Rattle.snapshot_matching.proofs.ProcessRows.ProcessLemmas.{processes_told, limits_told, serial_of}
use Rattle.snapshot_matching.proofs.ThreadRows.ServedLemmas.{alive_within}
use Rattle.snapshot_matching.proofs.ServerRows.ServerRowLemmas.{each_told}

-- ---- no serial stands twice

IsApart : Serial → Serial → Type 0
IsApart a b = IsFalse (eqb a.0 b.0)

-- none is this one where all are others
others : (x : ℕ) (xs : List ℕ) → not (list_any (λ y. eqb y x) xs) ≡ list_all (λ y. not (eqb y x)) xs
others x [] = refl
others x (y ∷ xs) = elim (cases_Bool (eqb y x)) [
  | inl same ↦ rw same refl
  | inr differ ↦ rw differ (others x xs)
]

other_told : (x y : ℕ) → IsTrue (not (eqb y x)) ↔ IsApart (serial_of x) (serial_of y)
unfolding IsApart
other_told x y = (
  λ holds. ne_eqb x y (λ e. both_ways (eqb y x) (not_true (eqb y x) holds) (eq-eqb y x (sym e))),
  λ apart. (let differ : eqb y x ≡ false = ne_eqb y x (λ e. eqb-false x y apart (sym e)) in rw differ refl),
)
  where
    not_true : (b : Bool) → not b ≡ true → b ≡ false
    not_true true e = absurd cc
    not_true false e = refl

apart_told : (xs : List ℕ) → IsTrue (are_apart xs) ↔ AllPairs IsApart (map serial_of xs)
apart_told [] = (λ holds i j d lt within. absurd (omega (arith, within)), λ pairs. refl)
apart_told (x ∷ xs) =
    let head = each_told serial_of (λ y. not (eqb y x)) (IsApart (serial_of x)) (other_told x) xs in
    let tail = apart_told xs in (
      λ holds. (
          let both = and_parts (not (list_any (λ y. eqb y x) xs)) (are_apart xs) holds in
          AllPairs-cons IsApart (serial_of x) (map serial_of xs) (head.0 (sym (others x xs) ∙ both.0)) (tail.0 both.1)
          ),
      λ pairs. (
          let first : All (IsApart (serial_of x)) (map serial_of xs) = λ k d within. pairs zero (suc k) d (omega arith) (omega arith) in
          let none : not (list_any (λ y. eqb y x) xs) ≡ true = others x xs ∙ head.1 first in
          let rest : are_apart xs ≡ true = tail.1 (λ i j d lt within. pairs (suc i) (suc j) d (omega arith) (omega arith)) in
          rw (none, rest) refl
          ),
    )

AreConnectionsApart : Process → Type 0
AreConnectionsApart p = AllPairs IsApart p.connections

process_apart_told : (p : ProcRow) → IsTrue (are_apart p.serials) ↔ AreConnectionsApart (process_of p)
unfolding AreConnectionsApart
process_apart_told p = apart_told p.serials

-- ---- all

known_pid : (n pid : ℕ) → 2 ≤ pid → pid - 2 < n → is_pid n pid ≡ true
known_pid n pid least low =
    let a : leb 2 pid ≡ true = le-leb 2 pid least in
    let b : ltb pid (n + 2) ≡ true = lt-ltb pid (n + 2) (omega arith) in
    rw (a, b) refl

pub processes_matched_told : (n : ℕ) (procs : List ProcRow) (told : Bool) → length procs ≡ n → told ≡ are_processes_told n procs
    → IsTrue told ↔ AreProcessesMatched n (processes_of procs)
unfolding AreConnectionsApart IsApart
processes_matched_told n procs told many is =
    let limits = limits_told procs (list_all is_within_limits procs) refl in
    let apart = processes_told (λ p. are_apart p.serials) AreConnectionsApart refl process_apart_told procs in (
      λ holds. (
          let first = and_parts (leb n 64) _ (sym is ∙ holds) in
          let second = and_parts (list_all is_within_limits procs) _ first.1 in
          let limited = limits.0 second.0 in
          record {
            few = leb-true n 64 first.0;
            pids = λ pid alive. (let within = alive_within procs pid.0 alive in known_pid n pid.0 within.0 (subst (λ (k : ℕ). pid.0 - 2 < k) many within.1));
            apart = λ pid. apart.0 second.1 pid.0;
            connections = limited.connections;
            no_connection = limited.no_connection;
            no_heap = limited.no_heap;
          }
          ),
      λ matched. (
          let few : leb n 64 ≡ true = le-leb n 64 matched.few in
          let limited : list_all is_within_limits procs ≡ true =
          limits.1 (record { connections = matched.connections; no_connection = matched.no_connection; no_heap = matched.no_heap }) in
          let differ : list_all (λ p. are_apart p.serials) procs ≡ true = apart.1 (λ n. (let pid : Pid = record { 0 = n } in matched.apart pid)) in
          is ∙ all_three _ _ _ few limited differ
          ),
    )
  where
    all_three : (a b c : Bool) → a ≡ true → b ≡ true → c ≡ true → (a && (b && c)) ≡ true
    all_three true true true p q r = refl
    all_three false b c p q r = absurd cc
    all_three true false c p q r = absurd cc
    all_three true true false p q r = absurd cc

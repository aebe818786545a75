-- Heaps and connections of processes are matched exactly where a test of the rows holds.
use Rattle.std.proofs.Common.{◌≡◌, ℕ, ◌+◌, ◌-◌, ◌%◌, ◌≤◌, Bool, true, false, cond, eqb, ltb, leb, List, [], ◌∷◌, length, map, get_or, refl, sym, ap, subst, ◌∙◌, arith, inl, inr, ◌↔◌}
use Rattle.std.specs.Prelude.{◌&&◌, ◌||◌, IsTrue, IsFalse}
use Rattle.std.specs.List.{list_all}
use Rattle.std.proofs.lemmas.Bool.{eqb-true, eq-eqb, and_parts, leb-true, le-leb, le-ltb, cases_Bool}
use Rattle.std.proofs.lemmas.List.{length-map, nil_from_length}
use Rattle.xk_base.specs.declared.ids.Pid.{Pid}
use Rattle.xk_base.specs.declared.ids.Serial.{Serial}
use Rattle.machine_model.specs.State.Machine.{Process}
use Rattle.snapshot_rows.specs.declared.state.ProcRow.{ProcRow}
use Rattle.snapshot_rows.specs.Machines.{no_process, process_of, processes_of}
use Rattle.snapshot_matching.specs.ProcessParts.{is_heap_whole, is_within_limits, AreHeapsWhole, AreProcessesLimited}
use Rattle.snapshot_rows.proofs.KeyLemmas.{either, passes_at, all_from_places}

row_at : (good : ProcRow → Bool) (rows : List ProcRow) (pid : ℕ) → good no_process ≡ true → list_all good rows ≡ true
    → good (cond (ltb pid 2) no_process (get_or rows (pid - 2) no_process)) ≡ true
row_at good rows pid default all =
    elim (cases_Bool (ltb pid 2)) [
      | inl kernel ↦ rw kernel default
      | inr other ↦ rw other (passes_at good no_process rows (pid - 2) all default)
    ]

-- What a test of each row tells of each process.
pub processes_told : (good : ProcRow → Bool) (P : Process → Type 0) → good no_process ≡ true → ((p : ProcRow) → IsTrue (good p) ↔ P (process_of p))
    → (rows : List ProcRow) → IsTrue (list_all good rows) ↔ ((pid : ℕ) → P (processes_of rows pid))
processes_told good P default tells rows = (
  λ all pid. (tells (cond (ltb pid 2) no_process (get_or rows (pid - 2) no_process))).0 (row_at good rows pid default all),
  λ each.
      all_from_places good no_process rows (λ (i : ℕ). (
      let place : i + 2 - 2 ≡ i = omega arith in
      let other : ltb (i + 2) 2 ≡ false = le-ltb _ _ (omega arith) in
      let row : cond (ltb (i + 2) 2) no_process (get_or rows (i + 2 - 2) no_process) ≡ get_or rows i no_process = rw (other, place) refl in
      (tells (get_or rows i no_process)).1 (subst (λ (p : ProcRow). P (process_of p)) row (each (i + 2)))
      )),
)

-- ---- heaps

IsHeap : Process → Type 0
IsHeap p = (p.heap % 4096 ≡ 0) × (p.heap ≤ 16777216)

heap_told : (p : ProcRow) → IsTrue (is_heap_whole p) ↔ IsHeap (process_of p)
unfolding IsHeap
heap_told p = (
  λ good. (let both = and_parts (eqb (p.heap % 4096) 0) (leb p.heap 16777216) good in (eqb-true _ 0 both.0, leb-true _ _ both.1)),
  λ both. rw (eq-eqb (p.heap % 4096) 0 both.0, le-leb p.heap 16777216 both.1) refl,
)

pub heaps_told : (rows : List ProcRow) (told : Bool) → told ≡ list_all is_heap_whole rows → IsTrue told ↔ AreHeapsWhole (processes_of rows)
unfolding IsHeap
heaps_told rows told is =
    let each = processes_told is_heap_whole IsHeap refl heap_told rows in (
      λ holds. record { whole = λ pid. (each.0 (sym is ∙ holds) pid.0).0; within = λ pid. (each.0 (sym is ∙ holds) pid.0).1 },
      λ matched. is ∙ each.1 (λ n. (let pid : Pid = record { 0 = n } in (matched.whole pid, matched.within pid))),
    )

-- ---- connections, and the dead

IsLimited : Process → Type 0
IsLimited p = (length p.connections ≤ 32) × (IsFalse p.alive → p.connections ≡ []) × (IsFalse p.alive → p.heap ≡ 0)

abbrev pub serial_of : ℕ → Serial
serial_of n = record { 0 = n }

nothing_mapped : (serials : List ℕ) → map serial_of serials ≡ [] → length serials ≡ 0
nothing_mapped [] e = refl
nothing_mapped (s ∷ serials) e = absurd cc

limit_told : (p : ProcRow) → IsTrue (is_within_limits p) ↔ IsLimited (process_of p)
unfolding IsLimited
limit_told p =
    let many : length (map serial_of p.serials) ≡ length p.serials = length-map p.serials serial_of in (
      λ good. (
          let both = and_parts (leb (length p.serials) 32) (eqb p.alive 1 || (eqb p.heap 0 && eqb (length p.serials) 0)) good in
          let few = leb-true (length p.serials) 32 both.0 in
          let dead = λ (is_dead : eqb p.alive 1 ≡ false). and_parts (eqb p.heap 0) (eqb (length p.serials) 0) (either (eqb p.alive 1) _ is_dead both.1) in (
            omega arith,
            λ is_dead. ap (map serial_of) (nil_from_length p.serials (eqb-true _ 0 (dead is_dead).1)),
            λ is_dead. eqb-true p.heap 0 (dead is_dead).0,
          )
          ),
      λ limited. (
          let some = limited.0 in
          let few : leb (length p.serials) 32 ≡ true = le-leb _ _ (omega (arith, some, many)) in
          elim (cases_Bool (eqb p.alive 1)) [
            | inl alive ↦ rw (few, alive) refl
            | inr dead ↦ rw (few, dead, eq-eqb p.heap 0 (limited.2 dead), eq-eqb (length p.serials) 0 (nothing_mapped p.serials (limited.1 dead))) refl
          ]
          ),
    )

pub limits_told : (rows : List ProcRow) (told : Bool) → told ≡ list_all is_within_limits rows → IsTrue told ↔ AreProcessesLimited (processes_of rows)
unfolding IsLimited
limits_told rows told is =
    let each = processes_told is_within_limits IsLimited refl limit_told rows in (
      λ holds. record {
        connections = λ pid. (each.0 (sym is ∙ holds) pid.0).0;
        no_connection = λ pid dead. (each.0 (sym is ∙ holds) pid.0).1 dead;
        no_heap = λ pid dead. (each.0 (sym is ∙ holds) pid.0).2 dead;
      },
      λ matched. is ∙ each.1 (λ n. (let pid : Pid = record { 0 = n } in (matched.connections pid, matched.no_connection pid, matched.no_heap pid))),
    )

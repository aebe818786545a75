-- Orphans by their places, told from the rows.
use Rattle.std.proofs.Common.{◌≡◌, ℕ, ◌≤◌, Bool, true, false, cond, eqb, List, [], ◌∷◌, Option, Some, None, sym, ap, subst, ◌∙◌, inl, inr, ◌↔◌}
use Rattle.std.specs.Prelude.{◌&&◌, IsTrue}
use Rattle.std.specs.List.{find, list_all}
use Rattle.std.specs.Option.{option_map}
use Rattle.std.proofs.lemmas.Bool.{cases_Bool, and_parts}
use Rattle.xk_base.specs.declared.ids.Place.{Place}
use Rattle.xk_base.specs.declared.windows.Window.TheVariants.{Message}
use Rattle.ledger_model.specs.Ledger.{Orphan, Ledger}
use Rattle.ledger_model.specs.Places.{is_place_in}
use Rattle.machine_model.specs.State.Machine.{Process}
use Rattle.machine_model.specs.Runs.Matched.{is_alive}
use Rattle.snapshot_rows.specs.declared.state.OrphanRow.{OrphanRow}
use Rattle.snapshot_rows.specs.declared.state.PageRow.{PageRow}
use Rattle.snapshot_rows.specs.declared.state.ProcRow.{ProcRow}
use Rattle.snapshot_rows.specs.Order.{least_first, least_second, orphan_key, AscendInTwo}
use Rattle.snapshot_rows.specs.Machines.{place_at, processes_of, ledger_orphan, ledger_of}
use Rattle.snapshot_rows.specs.PageParts.{is_orphan_placed}
use Rattle.snapshot_rows.proofs.KeyLemmas.{some, some_same, mapped, found_passes, all_pass, Less, pair_is, pair_own, less_apart}
use Rattle.snapshot_rows.proofs.KeyLemmas.{less_through, less_behind}

-- part 1 of orphans, each looked at alone
pub record AreOrphansPlaced (n : ℕ) (process : ℕ → Process) (ledger : Ledger) : Type 0 where
  pub orphan_lies : (p : Place) (orphan : Orphan) → ledger.orphan p ≡ Some orphan → IsTrue (is_place_in n Message p)
  pub orphans_live : (p : Place) (orphan : Orphan) → ledger.orphan p ≡ Some orphan → IsTrue (is_alive process p.pid)

abbrev pub OrphanForm : Option (ℕ × ℕ) → OrphanRow → Type 0
OrphanForm before o = (least_first 0 before ≤ (orphan_key o).0) × (least_second 0 before (orphan_key o).0 ≤ (orphan_key o).1)

abbrev pub is_orphan : ℕ × ℕ → OrphanRow → Bool
is_orphan k o = eqb (orphan_key o).0 k.0 && eqb (orphan_key o).1 k.1

-- where the orphan of each place passes a test, all orphans do
orphans_pass : (good : OrphanRow → Bool) (rows : List OrphanRow) → AscendInTwo orphan_key rows
    → ((k : ℕ × ℕ) (o : OrphanRow) → find (is_orphan k) rows ≡ Some o → good o ≡ true) → list_all good rows ≡ true
orphans_pass good rows ascend each =
    all_pass orphan_key is_orphan Less OrphanForm (λ before o low. less_behind 0 0 before (orphan_key o) low.0 low.1) (pair_is orphan_key) (pair_own orphan_key)
    less_apart less_through good None rows ascend each

-- an orphan that was found has the place
found_place : (k : ℕ × ℕ) (rows : List OrphanRow) (o : OrphanRow) → find (is_orphan k) rows ≡ Some o → orphan_key o ≡ k
found_place k [] o e = absurd cc
found_place k (y ∷ rows) o e =
    elim (cases_Bool (is_orphan k y)) [
      | inl does ↦ (
          let here : some y ≡ some o = sym (ap (λ (b : Bool). cond b (some y) (find (is_orphan k) rows)) does) ∙ e in
          subst (λ (z : OrphanRow). orphan_key z ≡ k) (some_same y o here) (pair_is orphan_key k y does)
          )
      | inr doesnt ↦ found_place k rows o (sym (ap (λ (b : Bool). cond b (some y) (find (is_orphan k) rows)) doesnt) ∙ e)
    ]

-- What a test of each row tells of each orphan that there is.
pub orphans_told : (file : List ℕ) (pages : List PageRow) (good : OrphanRow → Bool) (P : Place → Orphan → Type 0)
    → ((o : OrphanRow) → IsTrue (good o) ↔ P (place_at o.pid o.page) (ledger_orphan file o)) → (rows : List OrphanRow) → AscendInTwo orphan_key rows
    → IsTrue (list_all good rows) ↔ ((at : Place) (orphan : Orphan) → (ledger_of file pages rows).orphan at ≡ Some orphan → P at orphan)
orphans_told file pages good P tells rows ascend = (
  λ all at orphan e. (
      let k : ℕ × ℕ = (at.pid.0, at.vpn.0) in
      let m = mapped (ledger_orphan file) (find (is_orphan k) rows) orphan e in
      let key = found_place k rows m.0 m.1 in
      let row = (tells m.0).0 (found_passes (is_orphan k) good rows m.0 all m.1) in
      subst (λ (u : Orphan). P at u) m.2 (subst (λ (z : ℕ × ℕ). P (place_at z.0 z.1) (ledger_orphan file m.0)) key row)
      ),
  λ each.
      orphans_pass good rows ascend (λ (k : ℕ × ℕ) (o : OrphanRow) (e : find (is_orphan k) rows ≡ Some o). (
      let own : find (is_orphan (orphan_key o)) rows ≡ Some o = subst (λ (z : ℕ × ℕ). find (is_orphan z) rows ≡ Some o) (sym (found_place k rows o e)) e in
      (tells o).1 (each (place_at o.pid o.page) (ledger_orphan file o) (ap (option_map (ledger_orphan file)) own))
      )),
)

IsPlaced : ℕ → List ProcRow → Place → Type 0
IsPlaced n procs at = IsTrue (is_place_in n Message at) × IsTrue (processes_of procs at.pid.0).alive

placed_told : (n : ℕ) (procs : List ProcRow) (o : OrphanRow) → IsTrue (is_orphan_placed n procs o) ↔ IsPlaced n procs (place_at o.pid o.page)
unfolding IsPlaced
placed_told n procs o = (λ holds. and_parts _ _ holds, λ placed. both _ _ placed.0 placed.1)
  where
    both : (a b : Bool) → a ≡ true → b ≡ true → (a && b) ≡ true
    both true b e is = is
    both false b e is = absurd cc

pub orphans_placed_told : (n : ℕ) (file : List ℕ) (pages : List PageRow) (procs : List ProcRow) (rows : List OrphanRow) (told : Bool)
    → AscendInTwo orphan_key rows → told ≡ list_all (is_orphan_placed n procs) rows
    → IsTrue told ↔ AreOrphansPlaced n (processes_of procs) (ledger_of file pages rows)
unfolding IsPlaced
orphans_placed_told n file pages procs rows told ascend is =
    let each = orphans_told file pages (is_orphan_placed n procs) (λ at orphan. IsPlaced n procs at) (placed_told n procs) rows ascend in (
      λ holds. (
          let all = each.0 (sym is ∙ holds) in
          record { orphan_lies = λ at orphan e. (all at orphan e).0; orphans_live = λ at orphan e. (all at orphan e).1 }
          ),
      λ placed. is ∙ each.1 (λ at orphan e. (placed.orphan_lies at orphan e, placed.orphans_live at orphan e)),
    )

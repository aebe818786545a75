-- The next number and the next serial are above all that there are exactly where tests of the rows hold.
use Rattle.std.proofs.Common.{◌≡◌, ℕ, ◌<◌, Bool, true, ltb, List, refl, sym, ◌∙◌, ◌↔◌}
use Rattle.std.specs.Prelude.{◌&&◌, IsTrue}
use Rattle.std.specs.List.{list_all, All}
use Rattle.std.proofs.lemmas.Bool.{and_parts, ltb-true, lt-ltb}
use Rattle.xk_base.specs.declared.ids.Pid.{Pid}
use Rattle.xk_base.specs.declared.ids.Serial.{Serial}
use Rattle.machine_model.specs.State.Machine.{Process}
use Rattle.machine_model.specs.Runs.Matched.{AreNextAbove}
use Rattle.snapshot_rows.specs.declared.state.ProcRow.{ProcRow}
use Rattle.snapshot_rows.specs.declared.state.ServerRow.{ServerRow}
use Rattle.snapshot_rows.specs.Order.{server_key, Ascend}
use Rattle.snapshot_rows.specs.Machines.{process_of, processes_of, servers_of}
use Rattle.snapshot_matching.specs.ServerParts.{is_below_next, leads_below}
use Rattle.snapshot_matching.proofs.ProcessRows.ProcessLemmas.{processes_told, serial_of}
use Rattle.snapshot_matching.proofs.ServerRows.ServerRowLemmas.{each_told}
use Rattle.snapshot_matching.proofs.ServerRows.ServerLemmas.{servers_below_told}

IsLeading : ℕ → Process → Type 0
IsLeading serial p = All (λ (connection : Serial). connection.0 < serial) p.connections

leads_told : (serial : ℕ) (p : ProcRow) → IsTrue (leads_below serial p) ↔ IsLeading serial (process_of p)
unfolding IsLeading
leads_told serial p =
    each_told serial_of (λ s. ltb s serial) (λ (connection : Serial). connection.0 < serial) (λ s. (ltb-true s serial, lt-ltb s serial)) p.serials

pub above_told : (number serial : ℕ) (procs : List ProcRow) (rows : List ServerRow) (told : Bool) → Ascend server_key rows
    → told ≡ (list_all (is_below_next number serial) rows && list_all (leads_below serial) procs)
    → IsTrue told ↔ AreNextAbove number serial (processes_of procs) (servers_of rows)
unfolding IsLeading
above_told number serial procs rows told ascend is =
    let servers = servers_below_told number serial rows ascend in
    let leads = processes_told (leads_below serial) (IsLeading serial) refl (leads_told serial) procs in (
      λ holds. (
          let both = and_parts _ _ (sym is ∙ holds) in
          record {
            numbers = λ n server e. (servers.0 both.0 n server e).1;
            serials = λ n server e. (servers.0 both.0 n server e).0;
            connections = λ pid. leads.0 both.1 pid.0;
          }
          ),
      λ above. (
          let below : list_all (is_below_next number serial) rows ≡ true = servers.1 (λ n server e. (above.serials n server e, above.numbers n server e)) in
          let leading : list_all (leads_below serial) procs ≡ true = leads.1 (λ n. (let pid : Pid = record { 0 = n } in above.connections pid)) in
          is ∙ rw (below, leading) refl
          ),
    )

-- The servers of a state, as they stand at their seats row after row.
use Rattle.std.proofs.Common.{◌≡◌, ℕ, ◌+◌, ◌≤◌, ◌<◌, List, [], ◌∷◌, ◌++◌, length, map, take, None, get_or, sym, ap, ◌∙◌, arith}
use Rattle.std.proofs.lemmas.List.{map-append, take_more}
use Rattle.server_table.specs.declared.table.ServerSeat.{ServerSeat}
use Rattle.suspend_image.specs.Forms.{IsServerRow}
use Rattle.snapshot_rows.specs.Order.{server_key}
use Rattle.snapshot_rows.specs.declared.state.ServerRow.{ServerRow}
use Rattle.snapshot_rows.specs.declared.state.State.{State}
use Rattle.resume_path.proofs.Rows.RowLemmas.{each_in_order, take_past}
use Rattle.resume_path.specs.Resumable.{IsResumable}
use Rattle.resume_path.specs.Tables.{row_seat}

pub server_pid_small : (file : List ℕ) (s : State) → IsResumable file s → (k : ℕ) (d : ServerRow) → k < length s.servers → (get_or s.servers k d).pid < 256
server_pid_small file s h k d low =
    let least = h.spelled.form.n.at_most in
    let pid = each_in_order (IsServerRow s.n) server_key (λ (row : ServerRow). row.pid ≤ s.n + 1) (λ before row is. is.pid.at_most) None s.servers k d h.spelled.form.servers low in
    omega (arith, least, pid)

pub next_seated : (rows : List ServerRow) (k : ℕ) (d : ServerRow) (old new : List ServerSeat) (x : ServerSeat) → k < length rows
    → old ≡ map row_seat (take k rows) → x ≡ row_seat (get_or rows k d) → new ≡ old ++ x ∷ [] → new ≡ map row_seat (take (k + 1) rows)
next_seated rows k d old new x low before is after =
    after ∙ ((λ i. before i ++ is i ∷ []) ∙ (sym (map-append row_seat (take k rows) (get_or rows k d ∷ [])) ∙ sym (ap (map row_seat) (take_more rows k d low))))

pub all_seated : (rows : List ServerRow) (k : ℕ) (seats : List ServerSeat) → length rows ≤ k → seats ≡ map row_seat (take k rows) → seats ≡ map row_seat rows
all_seated rows k seats all is = is ∙ ap (map row_seat) (take_past k rows all)

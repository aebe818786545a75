-- What `demo` counts of the records of a history, and the line that it writes.
use Rattle.std.specs.Prelude.{ℕ, ◌≤◌, ◌+◌, ◌*◌, ◌%◌, ◌^◌, ◌==◌, ◌&&◌, Bool, true, false, not, if◌then◌else◌, List, ◌++◌, codes, decimal}
use Rattle.std.specs.Prelude.{slice_index, sum_by}
use Rattle.std.specs.List.{count_by}
use Rattle.xk_base.specs.declared.records.Rec.{Rec}
use Rattle.xk_base.specs.declared.records.What.{What}
use Rattle.xk_base.specs.declared.records.What.TheVariants.{Byte, Call, End, Fault, Gone, Irq, Reply, Retry}
use Rattle.demo_load.specs.declared.totals.Totals.{Totals}
use Rattle.xk_base.specs.declared.limits.TheConstants.{PROCESS_LIMIT, TID_LIMIT}

-- an answer to a client, any process but the server's, that begins with word 18: what was sent came back
abbrev pub is_send : What → Bool
is_send (Reply thread words) = not (thread.pid.0 == 2) && (slice_index words 0 == 18)
is_send (Call thread words) = false
is_send (Retry thread) = false
is_send (Byte thread byte) = false
is_send (Fault thread cause value) = false
is_send (End thread) = false
is_send (Irq pid number) = false
is_send (Gone pid) = false

-- the second word of a call of number 22, by which a process ends; of any other record nothing
abbrev pub ended_with : What → ℕ
ended_with (Call thread words) = if slice_index words 0 == 22 then slice_index words 1 else 0
ended_with (Reply thread words) = 0
ended_with (Retry thread) = 0
ended_with (Byte thread byte) = 0
ended_with (Fault thread cause value) = 0
ended_with (End thread) = 0
ended_with (Irq pid number) = 0
ended_with (Gone pid) = 0

-- a death
abbrev pub is_gone : What → Bool
is_gone (Gone pid) = true
is_gone (Call thread words) = false
is_gone (Reply thread words) = false
is_gone (Retry thread) = false
is_gone (Byte thread byte) = false
is_gone (Fault thread cause value) = false
is_gone (End thread) = false
is_gone (Irq pid number) = false

-- the answers, the sum of the words as a word, and the deaths
unfoldable pub totals_of : List Rec → Totals
totals_of records = record {
  sends = count_by (λ rec. is_send rec.what) records;
  sum = sum_by (λ rec. ended_with rec.what) records % 2 ^ 32;
  gone = count_by (λ rec. is_gone rec.what) records;
}

-- A step tells at most so many records: of each of 31 threads of 64 processes an answer, and four more.
abbrev pub step_records : ℕ
step_records = PROCESS_LIMIT * TID_LIMIT + 4

-- no more was counted than so many steps can tell
pub record IsWithin (steps : ℕ) (totals : Totals) : Type 0 where
  pub sends : totals.sends ≤ step_records * steps
  pub gone : totals.gone ≤ step_records * steps

-- the line of a load of so many clients
abbrev pub demo_line : ℕ → Totals → List ℕ
demo_line clients totals =
    codes "demo " ++ decimal clients ++ codes " sends " ++ decimal totals.sends ++ codes " sum " ++ decimal totals.sum ++ codes " gone "
    ++ decimal totals.gone ++ codes "\n"

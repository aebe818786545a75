-- The first row of servers that keeps a message is where the message is kept.
use Rattle.std.proofs.Common.{◌≡◌, ℕ, ◌≤◌, ◌<◌, Bool, true, false, List, [], ◌∷◌, length, get_or, drop, Option, Some, None, refl, sym, ap, ◌∙◌}
use Rattle.std.specs.Prelude.{◌==◌, ◌||◌, if◌then◌else◌, is_some, map}
use Rattle.std.specs.List.{find, list_any}
use Rattle.std.specs.Option.{option_and_then, option_map}
use Rattle.std.proofs.lemmas.List.{at_drop_all}
use Rattle.machine_model.specs.Messaging.Messages.{is_of_number}
use Rattle.machine_model.specs.State.Machine.{Server}
use Rattle.order_model.specs.Endings.{Held, Kept, Queued, kept_at, kept_by}
use Rattle.snapshot_rows.specs.declared.state.MessageRow.{MessageRow}
use Rattle.snapshot_rows.specs.declared.state.ServerRow.{ServerRow}
use Rattle.snapshot_rows.specs.declared.state.State.{State}
use Rattle.snapshot_rows.specs.Machines.{machine_of, message_of, server_of}
use Rattle.snapshot_rows.specs.Order.{server_key}
use Rattle.xk_base.specs.declared.ids.Number.{Number}
use Rattle.xk_base.specs.declared.ids.Sid.{Sid}
use Rattle.xk_base.specs.Tables.Counting.{least_below}
use Rattle.xk_base.proofs.CountingLemmas.{least_below-same}
use Rattle.order_text.specs.Rows.{AreTellable}
use Rattle.order_text.proofs.RowLemmas.{first_told, least_is_first, told_at, told_by}

-- how a server keeps it, and which
abbrev pub place_by : Number → Server → Option (Sid × Kept)
place_by number server = option_map (λ kept. (server.sid, kept)) (kept_by number server)

abbrev pub row_place : Number → ServerRow → Option (Sid × Kept)
row_place number row = place_by number (server_of row)

some_mapped : {A B : Type 0} (f : A → B) (o : Option A) → is_some o ≡ is_some (option_map f o)
some_mapped f None = refl
some_mapped f (Some x) = refl

module _ (number : Number) where
  place_of : (o : Option ServerRow) → option_and_then (place_by number) (option_map server_of o) ≡ option_and_then (row_place number) o
  place_of None = refl
  place_of (Some row) = refl

  is_kept_there : (o : Option ServerRow) → is_some (option_and_then (kept_by number) (option_map server_of o)) ≡ is_some (option_and_then (row_place number) o)
  is_kept_there None = refl
  is_kept_there (Some row) = some_mapped (λ kept. ((server_of row).sid, kept)) (kept_by number (server_of row))

  module _ (file : List ℕ) (s : State) (rows : AreTellable s) where
    each : (o : Option ℕ) → option_and_then (λ n. option_and_then (place_by number) (option_map server_of (find (λ x. x.serial == n) s.servers))) o
        ≡ option_and_then (told_by server_key s.next_serial (row_place number) s.servers) o
    each None = refl
    each (Some n) = place_of (find (λ x. x.serial == n) s.servers)

    pub kept_first : kept_at (machine_of file s) number ≡ first_told (row_place number) s.servers
    unfolding kept_at
    kept_first =
        ap (option_and_then (λ n. option_and_then (place_by number) (option_map server_of (find (λ x. x.serial == n) s.servers))))
        (least_below-same s.next_serial
        (λ n. is_some (option_and_then (kept_by number) (option_map server_of (find (λ x. x.serial == n) s.servers))))
        (λ n. is_some (told_by server_key s.next_serial (row_place number) s.servers n))
        (λ n low. is_kept_there (find (λ x. x.serial == n) s.servers)))
        ∙ (each (least_below s.next_serial (λ n. is_some (told_by server_key s.next_serial (row_place number) s.servers n)))
        ∙ least_is_first server_key s.next_serial (row_place number) None s.servers rows.servers
        (λ n x found. rows.below n (server_of x) (ap (option_map server_of) found)))

-- ---- how a row keeps it

any_message : (number : ℕ) (messages : List MessageRow)
    → list_any (is_of_number (record { 0 = number })) (map message_of messages) ≡ list_any (λ m. m.number == number) messages
any_message number [] = refl
any_message number (m ∷ messages) = ap (λ (b : Bool). (m.number == number) || b) (any_message number messages)

module _ (number : ℕ) (row : ServerRow) where
  abbrev kept : Bool → Bool → Option (Sid × Kept)
  kept queued held = option_map (λ how. ((server_of row).sid, how)) (if queued then Some Queued else (if held then Some Held else None))

  by_rows : row_place (record { 0 = number }) row ≡ kept (list_any (λ m. m.number == number) row.queued) (list_any (λ m. m.number == number) row.held)
  by_rows =
      ap (λ (b : Bool). kept b (list_any (is_of_number (record { 0 = number })) (map message_of row.held))) (any_message number row.queued)
      ∙ ap (λ (b : Bool). kept (list_any (λ m. m.number == number) row.queued) b) (any_message number row.held)

  pub queued_there : list_any (λ m. m.number == number) row.queued ≡ true → row_place (record { 0 = number }) row ≡ Some ((server_of row).sid, Queued)
  queued_there is = by_rows ∙ ap (λ (b : Bool). kept b (list_any (λ m. m.number == number) row.held)) is

  pub held_there : list_any (λ m. m.number == number) row.queued ≡ false → list_any (λ m. m.number == number) row.held ≡ true
      → row_place (record { 0 = number }) row ≡ Some ((server_of row).sid, Held)
  held_there isnt is =
      by_rows
      ∙ (ap (λ (b : Bool). kept b (list_any (λ m. m.number == number) row.held)) isnt ∙ ap (λ (b : Bool). kept false b) is)

  pub not_there : list_any (λ m. m.number == number) row.queued ≡ false → list_any (λ m. m.number == number) row.held ≡ false
      → row_place (record { 0 = number }) row ≡ None
  not_there isnt neither =
      by_rows
      ∙ (ap (λ (b : Bool). kept b (list_any (λ m. m.number == number) row.held)) isnt ∙ ap (λ (b : Bool). kept false b) neither)

-- ---- while rows are looked at

module _ (file : List ℕ) (s : State) (rows : AreTellable s) (number : ℕ) (servers : List ServerRow) (same : servers ≡ s.servers) (i : ℕ)
    (rest : first_told (row_place (record { 0 = number })) (drop i servers) ≡ first_told (row_place (record { 0 = number })) servers) where
  all : kept_at (machine_of file s) (record { 0 = number }) ≡ first_told (row_place (record { 0 = number })) (drop i servers)
  all =
      kept_first (record { 0 = number }) file s rows
      ∙ (ap (first_told (row_place (record { 0 = number }))) (sym same) ∙ sym rest)

  -- the row at that place keeps it
  pub kept_here : (row : ServerRow) (place : Sid × Kept) → i < length servers → row ≡ get_or servers i row
      → row_place (record { 0 = number }) row ≡ Some place → kept_at (machine_of file s) (record { 0 = number }) ≡ Some place
  kept_here row place low is told = all ∙ told_at (row_place (record { 0 = number })) servers i row low is place told

  -- none is left
  pub kept_nowhere : length servers ≤ i → kept_at (machine_of file s) (record { 0 = number }) ≡ None
  kept_nowhere end = all ∙ at_drop_all (first_told (row_place (record { 0 = number }))) servers i end

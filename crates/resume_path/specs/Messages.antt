-- The messages of a state in the queues of a kernel, each with its loan.
use Rattle.xk_ports.specs.declared.store.SwapStore.{Ghosts as SwapStore}
use Rattle.std.specs.Prelude.{◌≡◌, ℕ, Bool, not, ◌&&◌, ◌||◌, ◌==◌, List, map, length, slice_get, if◌then◌else◌, Option, Some, None}
use Rattle.std.specs.List.{filter, find}
use Rattle.std.specs.Option.{option_and_then, option_map, option_map_or}
use Rattle.ledger_model.specs.Loans.{LoanRun, loans}
use Rattle.msg_queue.specs.Seats.{Seat, empty_seat, seat_of}
use Rattle.msg_queue.specs.declared.held.Held.{Held}
use Rattle.snapshot_rows.specs.Machines.{message_of, place_at}
use Rattle.snapshot_rows.specs.declared.state.MessageRow.{MessageRow}
use Rattle.snapshot_rows.specs.declared.state.PageRow.{PageRow}
use Rattle.snapshot_rows.specs.declared.state.ServerRow.{ServerRow}
use Rattle.snapshot_rows.specs.declared.state.State.{State}
use Rattle.vm_memory.specs.Memory.{ledger, store_of}
use Rattle.vm_memory.specs.Sound.{IsSound}
use Rattle.vm_memory.specs.declared.memory.Memory.{Memory}
use Rattle.xk_base.specs.Outside.{Rose}
use Rattle.xk_base.specs.declared.ids.Place.{Place}
use Rattle.xk_base.specs.declared.limits.TheConstants.{SERVER_LIMIT}
use Rattle.xk_base.specs.declared.pages.LoanKind.{LoanKind}
use Rattle.xk_base.specs.declared.pages.LoanKind.TheVariants.{Shared, Exclusive}
use Rattle.resume_path.specs.Standing.{is_message_before, orphans_of, row_messages, standing_of}

-- ---- the loan of a message

-- it lends pages, mutably or not
abbrev pub is_lend_row : MessageRow → Bool
is_lend_row message = message.kind == 1 || message.kind == 2

-- .. and its lender died
abbrev pub is_orphaned : MessageRow → Bool
is_orphaned message = is_lend_row message && message.sender_pid == 0

-- the kind of its loan
abbrev pub row_kind : MessageRow → LoanKind
row_kind message = if message.kind == 2 then Shared else Exclusive

-- the home of the first page that is on loan by the message of that number
abbrev pub is_lent_by : ℕ → PageRow → Bool
is_lent_by number page = not (page.kind == 0) && page.number == number

abbrev pub first_lent : List PageRow → ℕ → Option Place
first_lent pages number = option_map (λ (page : PageRow). place_at page.pid page.page) (find (is_lent_by number) pages)

-- the loan of a lend at a server of the process: from its lender's pages, or of orphans
abbrev pub row_run : List PageRow → ℕ → MessageRow → LoanRun
row_run pages pid message = record {
  lender = if message.sender_pid == 0 then None else first_lent pages message.number;
  holder = place_at pid message.first;
  count = message.count;
  kind = row_kind message;
  number = record { 0 = message.number };
}

abbrev pub row_loan : List PageRow → ℕ → MessageRow → Option LoanRun
row_loan pages pid message = if is_lend_row message then Some (row_run pages pid message) else None

-- the message with its loan
abbrev pub row_held : List PageRow → ℕ → MessageRow → Held
row_held pages pid message = record { msg = message_of message; loan = row_loan pages pid message }

-- the k-th message of the i-th server, its loan where it lends pages, and both
abbrev pub row_at : State → ℕ → ℕ → Option MessageRow
row_at s i k = option_and_then (λ (server : ServerRow). slice_get (row_messages server) k) (slice_get s.servers i)

abbrev pub run_at : State → ℕ → ℕ → Option LoanRun
run_at s i k = option_and_then (λ (server : ServerRow). option_map (row_run s.pages server.pid) (slice_get (row_messages server) k))
    (slice_get s.servers i)

abbrev pub held_row_at : State → ℕ → ℕ → Option Held
held_row_at s i k = option_and_then (λ (server : ServerRow). option_map (row_held s.pages server.pid) (slice_get (row_messages server) k))
    (slice_get s.servers i)

-- ---- the seats

-- of the messages of a server those that are back
abbrev pub row_seat_with : List PageRow → (MessageRow → Bool) → ServerRow → Seat
row_seat_with pages back server = record {
  queued = map (row_held pages server.pid) (filter back server.queued);
  held = map (row_held pages server.pid) (filter back server.held);
}

-- The messages that are back stand in the queues: each server has the seat of its row's number.
pub record AreBack (s : State) (back : MessageRow → Bool) (queues : List Seat) : Type 0 where
  pub all : length queues ≡ SERVER_LIMIT
  pub seats : (k : ℕ) → seat_of queues k ≡ option_map_or (row_seat_with s.pages back) (slice_get s.servers k) empty_seat

-- ---- the order in which messages come back: those whose lender died, and then all others

abbrev pub is_orphan_among : (ℕ → Bool) → MessageRow → Bool
is_orphan_among numbers message = is_orphaned message && numbers message.number

abbrev pub is_orphan_back : List ServerRow → ℕ → ℕ → MessageRow → Bool
is_orphan_back servers i j = is_orphan_among (is_message_before servers i j)

abbrev pub is_back : List ServerRow → ℕ → ℕ → MessageRow → Bool
is_back servers i j message = is_orphaned message || is_message_before servers i j message.number

-- What a failure of the store leaves: the messages of these numbers whose lender died are back with their loans, and nothing else is on
-- loan.
pub record IsStopped {W : Type 0} (S : SwapStore W) (file : List ℕ) (s : State) (old new : Memory W)
    (queues : List Seat) : Type 0 where
  pub numbers : ℕ → Bool
  pub sound : IsSound S.slot_count new
  pub loans : loans (ledger S.held new) ≡ loans (standing_of file s (orphans_of numbers))
  pub back : AreBack s (is_orphan_among numbers) queues
  pub rose : Rose (S.faults (store_of old)) (S.faults (store_of new))

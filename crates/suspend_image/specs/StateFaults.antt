-- The form of a whole state file, and its faults in the order in which they are looked for.
use Rattle.std.specs.Prelude.{◌≡◌, ℕ, ◌-◌, Bool, not, ◌||◌, ◌==◌, nat_eq, nat_lt, if◌then◌else◌, List, [], ◌∷◌, length, take, drop, Option}
use Rattle.std.specs.Prelude.{Some, None, Result, Ok, Err, codes}
use Rattle.std.specs.Option.{option_or}
use Rattle.std.specs.Cmp.Lexicographic.{pointwise}
use Rattle.kernel_args.specs.declared.faults.ArgFault.{ArgFault}
use Rattle.kernel_args.specs.CheckNumber.{check_number}
use Rattle.kernel_args.specs.Faults.{Check, ◌⇒◌at◌, first_fault, number_at}
use Rattle.snapshot_rows.specs.declared.state.State.{State}
use Rattle.suspend_image.specs.declared.faults.StateError.{StateError}
use Rattle.suspend_image.specs.declared.faults.StateError.TheVariants as errors
use Rattle.suspend_image.specs.Reading.{◌>>=◌, word_at, items_at, rows_at}
use Rattle.suspend_image.specs.Rows.{numbers_at, timer_at, reserved_at, proc_at, thread_at, server_at, claim_at, page_at, orphan_at}
use Rattle.snapshot_rows.specs.Order.{thread_key, server_key, claim_key, page_key, orphan_key}

-- the file doesn't begin with `XousSt01`, or has no room for its length and its check number
abbrev pub not_state : ℕ
not_state = 20

-- the file isn't as long as it says
abbrev pub state_length : ℕ
state_length = 21

-- the check number isn't that of the bytes behind it
abbrev pub state_check : ℕ
state_check = 22

-- a word breaks the form, or bytes stand after the end
abbrev pub state_form : ℕ
state_form = 23

-- The seven parts behind the first 16 bytes of a file of this size, and nothing after them. Parts 3 to 7 begin with their number
-- of rows.
unfoldable pub state_at : ℕ → List ℕ → Result State ℕ
state_at size bytes = do
  numbers ← numbers_at bytes
  timer ← timer_at numbers.1
  reserved ← reserved_at numbers.0.n timer.1
  procs ← items_at proc_at numbers.0.n reserved.1
  many_threads ← word_at procs.1
  threads ← rows_at (thread_at numbers.0.n) thread_key many_threads.0 None many_threads.1
  many_servers ← word_at threads.1
  servers ← rows_at (server_at numbers.0.n) server_key many_servers.0 None many_servers.1
  many_claims ← word_at servers.1
  claims ← rows_at (claim_at numbers.0.n) claim_key many_claims.0 None many_claims.1
  many_pages ← word_at claims.1
  pages ← rows_at (page_at size numbers.0.n) page_key many_pages.0 None many_pages.1
  many_orphans ← word_at pages.1
  orphans ← rows_at (orphan_at size numbers.0.n) orphan_key many_orphans.0 None many_orphans.1
  if length orphans.1 == 0 then Ok (record {
    cap = numbers.0.cap;
    n = numbers.0.n;
    steps = numbers.0.steps;
    cursor_pid = numbers.0.cursor_pid;
    cursor_tid = numbers.0.cursor_tid;
    next_number = numbers.0.next_number;
    next_serial = numbers.0.next_serial;
    armed = timer.0.armed;
    compare = timer.0.compare;
    reserved = reserved.0.reserved;
    reserved_pid = reserved.0.pid;
    reserved_tid = reserved.0.tid;
    reserved_address = reserved.0.address;
    procs = procs.0;
    threads = threads.0;
    servers = servers.0;
    claims = claims.0;
    pages = pages.0;
    orphans = orphans.0;
  }) else Err (length orphans.1)

-- the parts of a file
abbrev pub state_of : List ℕ → Result State ℕ
state_of bytes = state_at (length bytes) (drop 16 bytes)

-- fewer than 16 bytes, or the first eight differ
unfoldable pub is_not_state : List ℕ → Bool
is_not_state bytes = nat_lt (length bytes) 16 || not (pointwise nat_eq (take 8 bytes) (codes "XousSt01"))

-- the check number is that of all bytes from offset 16 on
unfoldable pub is_bad_state_check : List ℕ → Bool
is_bad_state_check bytes = not (number_at 4 12 bytes == check_number (drop 16 bytes))

-- the faults of the first 16 bytes
unfoldable pub header_faults : List ℕ → List Check
header_faults bytes =
    (is_not_state bytes ⇒ not_state at 0)
    ∷ (not (number_at 4 8 bytes == length bytes) ⇒ state_length at 8)
    ∷ (is_bad_state_check bytes ⇒ state_check at 12)
    ∷ []

-- the first word that breaks the form of a file of this size, or the first byte after the end
abbrev pub form_fault : ℕ → Result State ℕ → Option ArgFault
form_fault size (Ok state) = None
form_fault size (Err left) = Some (record { what = state_form; at = size - left })

-- the first fault of a state file
unfoldable pub state_fault : List ℕ → Option ArgFault
state_fault bytes = option_or (first_fault (header_faults bytes)) (form_fault (length bytes) (state_of bytes))

-- The error is this fault; want of memory is free.
abbrev pub IsFault : Option ArgFault → StateError → Type 0
IsFault fault (errors.Fault f) = fault ≡ Some f
IsFault fault errors.NoMemory = Unit {0}

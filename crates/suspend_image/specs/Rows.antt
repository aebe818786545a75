-- The rows of the parts of a state, read from the front of bytes: which words each has, and what each word may be.
use Rattle.std.specs.Prelude.{ℕ, ◌+◌, ◌-◌, ◌==◌, Bool, true, not, ◌&&◌, ◌||◌, nat_lt, nat_le, if◌then◌else◌, List, length, take, drop}
use Rattle.std.specs.Prelude.{Option, Some, None, Ok, Err}
use Rattle.byteorder.specs.Endian.{little_number}
use Rattle.suspend_image.specs.declared.reading.numbers.Numbers.{Numbers}
use Rattle.suspend_image.specs.declared.reading.numbers.Timer.{Timer}
use Rattle.suspend_image.specs.declared.reading.numbers.Reserved.{Reserved}
use Rattle.snapshot_rows.specs.declared.state.ProcRow.{ProcRow}
use Rattle.snapshot_rows.specs.declared.state.ThreadRow.{ThreadRow}
use Rattle.snapshot_rows.specs.declared.state.MessageRow.{MessageRow}
use Rattle.snapshot_rows.specs.declared.state.ServerRow.{ServerRow}
use Rattle.snapshot_rows.specs.declared.state.ClaimRow.{ClaimRow}
use Rattle.snapshot_rows.specs.declared.state.PageRow.{PageRow}
use Rattle.snapshot_rows.specs.declared.state.OrphanRow.{OrphanRow}
use Rattle.suspend_image.specs.Reading.{Found, ◌>>=◌, greatest, word_at, word_in, word_if, four_at, items_at}
use Rattle.snapshot_rows.specs.Order.{after, least_first, least_second}
use Rattle.xk_base.specs.declared.limits.TheConstants.{PROCESS_LIMIT, STEP_LIMIT, TID_LIMIT}
use Rattle.snapshot_rows.specs.declared.states.TheConstants.{READY, JOINING, IDLE}

-- ---- 1. the machine

-- there are 1 to 64 processes, at most 4,000,000,000 steps, and the cursor is the id of a thread
unfoldable pub numbers_at : List ℕ → Found Numbers
numbers_at bytes = do
  cap ← word_at bytes
  n ← word_in 1 PROCESS_LIMIT cap.1
  steps ← word_in 0 STEP_LIMIT n.1
  pid ← word_in 2 (n.0 + 1) steps.1
  tid ← word_in 1 TID_LIMIT pid.1
  number ← word_at tid.1
  serial ← word_at number.1
  Ok (
    record {
      cap = cap.0;
      n = n.0;
      steps = steps.0;
      cursor_pid = pid.0;
      cursor_tid = tid.0;
      next_number = number.0;
      next_serial = serial.0;
    },
    serial.1,
  )

unfoldable pub timer_at : List ℕ → Found Timer
timer_at bytes = do
  armed ← word_in 0 1 bytes
  compare ← word_if (armed.0 == 1) 0 greatest armed.1
  Ok (record { armed = armed.0; compare = compare.0 }, compare.1)

unfoldable pub reserved_at : ℕ → List ℕ → Found Reserved
reserved_at n bytes = do
  reserved ← word_in 0 1 bytes
  pid ← word_if (reserved.0 == 1) 2 (n + 1) reserved.1
  tid ← word_if (reserved.0 == 1) 1 TID_LIMIT pid.1
  address ← word_if (reserved.0 == 1) 0 greatest tid.1
  Ok (record { reserved = reserved.0; pid = pid.0; tid = tid.0; address = address.0 }, address.1)

-- ---- 2. a process

unfoldable pub proc_at : List ℕ → Found ProcRow
proc_at bytes = do
  alive ← word_in 0 1 bytes
  heap ← word_at alive.1
  count ← word_at heap.1
  serials ← items_at word_at count.0 count.1
  Ok (record { alive = alive.0; heap = heap.0; serials = serials.0 }, serials.1)

-- ---- 3. a thread

-- what it waits for: 0 where it is Ready or Idle, a tid where it is Joining, and else any serial or number
unfoldable pub waits_at : ℕ → List ℕ → Found ℕ
waits_at state bytes =
    if state == READY || state == IDLE then word_in 0 0 bytes else (if state == JOINING then word_in 1 TID_LIMIT bytes else word_at bytes)

unfoldable pub thread_at : ℕ → Option (ℕ × ℕ) → List ℕ → Found ThreadRow
thread_at n before bytes = do
  pid ← word_in (least_first 2 before) (n + 1) bytes
  tid ← word_in (least_second 1 before pid.0) TID_LIMIT pid.1
  pc ← word_at tid.1
  state ← word_in 0 IDLE pc.1
  waits ← waits_at state.0 state.1
  regs ← items_at word_at 31 waits.1
  Ok (record { pid = pid.0; tid = tid.0; pc = pc.0; state = state.0; waits = waits.0; regs = regs.0 }, regs.1)

-- ---- 4. a message and a server

-- the pid of a sender, or 0 where there is none
unfoldable pub sender_pid_at : ℕ → List ℕ → Found ℕ
sender_pid_at n bytes = do
  pid ← word_at bytes
  if pid.0 == 1 || nat_lt (n + 1) pid.0 then Err (length bytes) else Ok pid

-- kinds 1 to 3 carry pages
unfoldable pub message_at : ℕ → List ℕ → Found MessageRow
message_at n bytes = do
  number ← word_at bytes
  pid ← sender_pid_at n number.1
  tid ← word_if (not (pid.0 == 0)) 1 TID_LIMIT pid.1
  kind ← word_in 1 5 tid.1
  id ← word_at kind.1
  words ← four_at id.1
  first ← word_if (nat_le kind.0 3) 0 greatest words.1
  count ← word_if (nat_le kind.0 3) 0 greatest first.1
  Ok (
    record {
      number = number.0;
      sender_pid = pid.0;
      sender_tid = tid.0;
      kind = kind.0;
      id = id.0;
      words = words.0;
      first = first.0;
      count = count.0;
    },
    count.1,
  )

unfoldable pub server_at : ℕ → Option ℕ → List ℕ → Found ServerRow
server_at n before bytes = do
  sid ← four_at bytes
  serial ← word_in (after before) greatest sid.1
  pid ← word_in 2 (n + 1) serial.1
  many_queued ← word_at pid.1
  many_held ← word_at many_queued.1
  queued ← items_at (message_at n) many_queued.0 many_held.1
  held ← items_at (message_at n) many_held.0 queued.1
  Ok (record { sid = sid.0; serial = serial.0; pid = pid.0; queued = queued.0; held = held.0 }, held.1)

-- ---- 5. a claim

unfoldable pub claim_at : ℕ → Option ℕ → List ℕ → Found ClaimRow
claim_at n before bytes = do
  number ← word_in (after before) greatest bytes
  pid ← word_in 2 (n + 1) number.1
  handler ← word_at pid.1
  arg ← word_at handler.1
  pending ← word_in 0 1 arg.1
  Ok (record { number = number.0; pid = pid.0; handler = handler.0; arg = arg.0; pending = pending.0 }, pending.1)

-- ---- 6. and 7. a page and an orphan

-- where 4,096 bytes begin in a file of this size, which stand at the front, or 0 where there are to be none
unfoldable pub page_bytes_at : Bool → ℕ → List ℕ → Found ℕ
page_bytes_at there size bytes =
    if there then (if nat_lt (length bytes) 4096 then Err (length bytes) else Ok (size - length bytes, drop 4096 bytes)) else Ok (0, bytes)

-- the word at the front, where it is there
abbrev pub front_word : List ℕ → Option ℕ
front_word bytes = if nat_lt (length bytes) 4 then None else Some (little_number 4 (take 4 bytes))

-- The pid of a holder, which is there exactly where the kind of the loan isn't 0. Where the file ends before the kind, it is 0 or a pid.
abbrev pub is_holder_pid : ℕ → Option ℕ → ℕ → Bool
is_holder_pid n None pid = pid == 0 || (nat_le 2 pid && nat_le pid (n + 1))
is_holder_pid n (Some kind) pid = if kind == 0 then pid == 0 else nat_le 2 pid && nat_le pid (n + 1)

-- the kind is the second word behind it
unfoldable pub holder_pid_at : ℕ → List ℕ → Found ℕ
holder_pid_at n bytes = do
  pid ← word_at bytes
  if is_holder_pid n (front_word (drop 4 pid.1)) pid.0 then Ok pid else Err (length bytes)

-- the console, whose right has the 4, has no bytes
unfoldable pub page_at : ℕ → ℕ → Option (ℕ × ℕ) → List ℕ → Found PageRow
page_at size n before bytes = do
  pid ← word_in (least_first 2 before) (n + 1) bytes
  page ← word_in (least_second 0 before pid.0) greatest pid.1
  right ← word_in 0 7 page.1
  holder_pid ← holder_pid_at n right.1
  holder_page ← word_if (not (holder_pid.0 == 0)) 0 greatest holder_pid.1
  kind ← word_in 0 2 holder_page.1
  number ← word_if (not (kind.0 == 0)) 0 greatest kind.1
  place ← page_bytes_at (nat_lt right.0 4) size number.1
  Ok (
    record {
      pid = pid.0;
      page = page.0;
      right = right.0;
      holder_pid = holder_pid.0;
      holder_page = holder_page.0;
      kind = kind.0;
      number = number.0;
      from = place.0;
    },
    place.1,
  )

unfoldable pub orphan_at : ℕ → ℕ → Option (ℕ × ℕ) → List ℕ → Found OrphanRow
orphan_at size n before bytes = do
  pid ← word_in (least_first 2 before) (n + 1) bytes
  page ← word_in (least_second 0 before pid.0) greatest pid.1
  kind ← word_in 1 2 page.1
  number ← word_at kind.1
  place ← page_bytes_at true size number.1
  Ok (record { pid = pid.0; page = page.0; kind = kind.0; number = number.0; from = place.0 }, place.1)

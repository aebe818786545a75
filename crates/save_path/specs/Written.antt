-- What a save leaves: in the sheet, and of the memory whose pages it brings in.
use Rattle.std.specs.Prelude.{◌≡◌, ℕ, ◌+◌, ◌*◌, ◌<◌, ◌≤◌, ◌^◌, true, List, [], ◌∷◌, ◌++◌, length, map, Option, is_some}
use Rattle.std.specs.Prelude.{Result, OnErr, OnOk}
use Rattle.std.specs.List.{flat_map}
use Rattle.ledger_model.specs.Ledger.{Ledger}
use Rattle.ledger_model.specs.Loans.{bare}
use Rattle.machine_model.specs.State.Machine.{Machine, Reservation}
use Rattle.suspend_image.specs.Sheets.{SheetBytes, appended}
use Rattle.suspend_image.specs.Spelling.{machine_bytes, rows_bytes, with_header}
use Rattle.vm_memory.specs.Bytes.{MeansBytes, none_out, pages_out}
use Rattle.vm_memory.specs.Memory.{IsUsable, has_failed, ledger, size, store_of}
use Rattle.vm_memory.specs.Sound.{IsSound}
use Rattle.vm_memory.specs.declared.memory.Memory.{Memory}
use Rattle.save_path.specs.Rows.{PageText, home_texts, orphan_texts, text_bytes, text_words}
use Rattle.suspend_image.specs.SavedRows.{flag, machine_row, reserved_address, reserved_pid, reserved_tid}
use Rattle.suspend_image.specs.StateBytes.{claim_entries, pids, server_entries, thread_entries}
use Rattle.suspend_image.specs.StateBytes.{saved_claim, saved_process, saved_server, saved_thread}
use Rattle.xk_base.specs.Outside.{Rose}
use Rattle.xk_ports.specs.declared.store.SwapStore.{Ghosts as SwapStore}
use Rattle.xk_ports.specs.Keeping.{KeepsStore}

-- so many bytes more fit behind those of a sheet, and a word counts them all
pub record Fits (sheet : SheetBytes) (more : ℕ) : Type 0 where
  pub room : length sheet.bytes + more ≤ sheet.room
  pub few : length sheet.bytes + more < 2 ^ 32

-- these bytes stand behind those of the sheet, and they are so many at most
pub record Appends (old new : SheetBytes) (bytes : List ℕ) (most : ℕ) : Type 0 where
  pub is : new ≡ appended bytes old
  pub few : length bytes ≤ most

-- ---- pages

-- Rows of pages were written behind their number: each has its own words, and the bytes that stood in the page as it was read, which
-- are its own where bytes are known.
pub record AppendsTexts (known : Type 0) (old new : SheetBytes) (texts : List PageText) : Type 0 where
  pub written : List PageText
  pub alike : map text_words written ≡ map text_words texts
  pub told : known → written ≡ texts
  pub is : new ≡ appended (rows_bytes text_bytes written) old
  pub few : length (rows_bytes text_bytes written) ≤ 4 + 4124 * length texts

-- Pages that were out may have come in, and others gone out in their places. All else of the memory is the same, and bytes too where
-- they mean something.
pub record BringsPages {W : Type 0} (S : SwapStore W)
    (old new : Memory W) : Type 0 where
  pub sound : IsSound S.slot_count new
  pub rights : bare (ledger S.held new) ≡ bare (ledger S.held old)
  pub whole : MeansBytes S old → ledger S.held new ≡ ledger S.held old
  pub means : MeansBytes S old → MeansBytes S new
  pub none : none_out old ≡ true → new ≡ old
  pub no_more : pages_out new ≤ pages_out old
  pub size : size new ≡ size old
  pub store : KeepsStore S (store_of old) (store_of new)

-- Pages are read, which brings them in. The memory stays usable unless that failed, by a fault that its store counted.
pub record ReadsPages {W A E : Type 0} (S : SwapStore W) (old new : Memory W) (result : Result A E) : Type 0 where
  pub brings : BringsPages S old new
  pub usable : OnOk result (IsUsable new)
  pub failed : OnErr result (has_failed new ≡ true)
  pub cause : OnErr result (Rose (S.faults (store_of old)) (S.faults (store_of new)))

-- ---- the whole

-- The pages and orphans of a ledger were written, with their own words, and bytes which are their own where bytes are known.
pub record WritesPages (known : Type 0) (procs : ℕ) (pages : Ledger) (old new : SheetBytes) : Type 0 where
  pub homes : List PageText
  pub orphans : List PageText
  pub homes_alike : map text_words homes ≡ map text_words (home_texts procs pages)
  pub orphans_alike : map text_words orphans ≡ map text_words (orphan_texts procs pages)
  pub homes_told : known → homes ≡ home_texts procs pages
  pub orphans_told : known → orphans ≡ orphan_texts procs pages
  pub is : new ≡ appended (rows_bytes text_bytes homes ++ rows_bytes text_bytes orphans) old
  pub few : length new.bytes < 2 ^ 32

-- the four words of a reservation
abbrev pub reserved_numbers : Option Reservation → List ℕ
reserved_numbers reserved = flag (is_some reserved) ∷ reserved_pid reserved ∷ reserved_tid reserved ∷ reserved_address reserved ∷ []

-- the parts of a state before its pages
unfoldable pub front_parts : Machine → List ℕ
front_parts m =
    machine_bytes (machine_row m) ++ (flat_map (saved_process m) (pids m.processes) ++ (rows_bytes saved_thread (thread_entries m)
    ++ (rows_bytes saved_server (server_entries m) ++ rows_bytes (saved_claim m) (claim_entries m))))

-- The bytes of the machine's state, but for those of its pages where bytes aren't known: in their places stand the bytes that a
-- page had as it was read.
pub record IsSaved (known : Type 0) (m : Machine) (bytes : List ℕ) : Type 0 where
  pub homes : List PageText
  pub orphans : List PageText
  pub is : bytes ≡ with_header (front_parts m ++ (rows_bytes text_bytes homes ++ rows_bytes text_bytes orphans))
  pub homes_alike : map text_words homes ≡ map text_words (home_texts m.processes m.ledger)
  pub orphans_alike : map text_words orphans ≡ map text_words (orphan_texts m.processes m.ledger)
  pub homes_told : known → homes ≡ home_texts m.processes m.ledger
  pub orphans_told : known → orphans ≡ orphan_texts m.processes m.ledger

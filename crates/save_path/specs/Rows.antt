-- The rows of a state, number by number: what has a key stands in the order of its keys.
use Rattle.std.specs.Prelude.{ℕ, zero, suc, ◌+◌, ◌*◌, Bool, List, [], ◌∷◌, ◌++◌, Option, Some, None}
use Rattle.std.specs.Option.{option_map}
use Rattle.ledger_model.specs.Ledger.{Ledger, Orphan, Page}
use Rattle.ledger_model.specs.Places.{place_at, places_of_process}
use Rattle.machine_model.specs.State.Machine.{Claim, Process, Server, Thread}
use Rattle.suspend_image.specs.Spelling.{orphan_words, page_words}
use Rattle.snapshot_rows.specs.declared.state.ClaimRow.{ClaimRow}
use Rattle.snapshot_rows.specs.declared.state.ProcRow.{ProcRow}
use Rattle.snapshot_rows.specs.declared.state.ServerRow.{ServerRow}
use Rattle.snapshot_rows.specs.declared.state.ThreadRow.{ThreadRow}
use Rattle.xk_base.specs.Tables.Circle.{id_at}
use Rattle.xk_base.specs.declared.ids.Place.{Place}
use Rattle.xk_base.specs.declared.ids.ThreadId.{ThreadId}
use Rattle.suspend_image.specs.SavedRows.{claim_row, orphan_row, page_row, proc_row, server_row, thread_row}
use Rattle.suspend_image.specs.StateBytes.{bytes_of}

-- the row of a number, where it has one
abbrev pub listed : {A : Type 0} → Option A → List A
listed None = []
listed (Some x) = x ∷ []

-- the rows that numbers below n have, in ascending order
unfoldable pub rows_below : {A : Type 0} → ℕ → (ℕ → Option A) → List A
rows_below zero row = []
rows_below (suc n) row = rows_below n row ++ listed (row n)

-- ---- 2. to 5. processes, the first of which has pid 2, threads, servers and claims

abbrev pub proc_at : (ℕ → Process) → ℕ → Option ProcRow
proc_at process k = Some (proc_row (process (k + 2)))

abbrev pub thread_at : (ThreadId → Option Thread) → ℕ → Option ThreadRow
thread_at threads k = option_map (thread_row (id_at k)) (threads (id_at k))

abbrev pub server_at : (ℕ → Option Server) → ℕ → Option ServerRow
server_at servers serial = option_map (server_row serial) (servers serial)

abbrev pub claim_at : (ℕ → Bool) → (ℕ → Option Claim) → ℕ → Option ClaimRow
claim_at pending claims number = option_map (claim_row pending number) (claims number)

-- ---- 6. and 7. pages and orphans

-- what is spelled of a page: its words, and then its bytes
pub record PageText : Type 0 where
  pub words : List ℕ
  pub contents : List ℕ

abbrev pub text_words : PageText → List ℕ
text_words text = text.words

abbrev pub text_bytes : PageText → List ℕ
text_bytes text = text.words ++ text.contents

abbrev pub home_text : Place → Page → PageText
home_text home page = record { words = page_words (page_row 0 home page); contents = bytes_of page.contents }

abbrev pub orphan_text : Place → Orphan → PageText
orphan_text place orphan = record { words = orphan_words (orphan_row 0 place orphan); contents = orphan.bytes }

-- what is spelled of the place of that number as a home, and as the place of an orphan
abbrev pub home_at : Ledger → ℕ → Option PageText
home_at ledger k = option_map (home_text (place_at k)) (ledger.home (place_at k))

abbrev pub orphan_at : Ledger → ℕ → Option PageText
orphan_at ledger k = option_map (orphan_text (place_at k)) (ledger.orphan (place_at k))

abbrev pub home_texts : ℕ → Ledger → List PageText
home_texts n ledger = rows_below (places_of_process * n) (home_at ledger)

abbrev pub orphan_texts : ℕ → Ledger → List PageText
orphan_texts n ledger = rows_below (places_of_process * n) (orphan_at ledger)

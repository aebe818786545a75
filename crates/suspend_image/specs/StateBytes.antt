-- State bytes: the bytes that spell a state of the machine. Each part lists what there is in ascending order of its keys.
use Rattle.std.specs.Prelude.{ℕ, ◌+◌, true, is_some, List, [], ◌∷◌, ◌++◌, map, Option}
use Rattle.std.specs.List.{flat_map}
use Rattle.std.specs.Option.{option_map_or}
use Rattle.xk_base.specs.declared.ids.Place.{Place}
use Rattle.xk_base.specs.declared.ids.ThreadId.{ThreadId}
use Rattle.xk_base.specs.declared.limits.TheConstants.{INTERRUPT_LIMIT}
use Rattle.xk_base.specs.Tables.Circle.{listed_ids}
use Rattle.xk_base.specs.Tables.Counting.{listed_below}
use Rattle.ledger_model.specs.Ledger.{Contents, Console, Bytes, Page, Orphan}
use Rattle.ledger_model.specs.Listings.{home_places, orphan_places}
use Rattle.machine_model.specs.State.Machine.{Machine, Thread, Server, Claim}
use Rattle.suspend_image.specs.SavedRows.{machine_row, proc_row, thread_row, server_row, claim_row, page_row, orphan_row}
use Rattle.suspend_image.specs.Spelling.{machine_bytes, proc_bytes, thread_bytes, server_bytes, claim_bytes, page_words, orphan_words}
use Rattle.suspend_image.specs.Spelling.{rows_bytes, with_header}

-- ---- what a finite map has

-- what it has at a key, beside the key, as a list of at most one
abbrev pub entry : {K V : Type 0} → (K → Option V) → K → List (K × V)
entry f k = option_map_or (λ v. (k, v) ∷ []) (f k) []

-- what it has at keys
abbrev pub entries : {K V : Type 0} → (K → Option V) → List K → List (K × V)
entries f keys = flat_map (entry f) keys

-- ---- each part's rows, in ascending order of their keys

-- the pids of n processes
abbrev pub pids : ℕ → List ℕ
pids n = map (λ k. k + 2) (listed_below n (λ k. true))

abbrev pub thread_entries : Machine → List (ThreadId × Thread)
thread_entries m = entries m.threads (listed_ids m.processes (λ id. is_some (m.threads id)))

abbrev pub server_entries : Machine → List (ℕ × Server)
server_entries m = entries m.servers (listed_below m.next_serial (λ serial. is_some (m.servers serial)))

abbrev pub claim_entries : Machine → List (ℕ × Claim)
claim_entries m = entries m.claims (listed_below INTERRUPT_LIMIT (λ number. is_some (m.claims number)))

abbrev pub page_entries : Machine → List (Place × Page)
page_entries m = entries m.ledger.home (home_places m.processes m.ledger)

abbrev pub orphan_entries : Machine → List (Place × Orphan)
orphan_entries m = entries m.ledger.orphan (orphan_places m.processes m.ledger)

-- ---- spelled

-- the console has no bytes
abbrev pub bytes_of : Contents → List ℕ
bytes_of Console = []
bytes_of (Bytes bytes) = bytes

abbrev pub saved_process : Machine → ℕ → List ℕ
saved_process m pid = proc_bytes (proc_row (m.process pid))

abbrev pub saved_thread : ThreadId × Thread → List ℕ
saved_thread e = thread_bytes (thread_row e.0 e.1)

abbrev pub saved_server : ℕ × Server → List ℕ
saved_server e = server_bytes (server_row e.0 e.1)

abbrev pub saved_claim : Machine → ℕ × Claim → List ℕ
saved_claim m e = claim_bytes (claim_row m.pending e.0 e.1)

abbrev pub saved_page : Place × Page → List ℕ
saved_page e = page_words (page_row 0 e.0 e.1) ++ bytes_of e.1.contents

abbrev pub saved_orphan : Place × Orphan → List ℕ
saved_orphan e = orphan_words (orphan_row 0 e.0 e.1) ++ e.1.bytes

-- the seven parts
unfoldable pub saved_parts : Machine → List ℕ
saved_parts m =
    machine_bytes (machine_row m) ++ (flat_map (saved_process m) (pids m.processes) ++ (rows_bytes saved_thread (thread_entries m)
    ++ (rows_bytes saved_server (server_entries m) ++ (rows_bytes (saved_claim m) (claim_entries m)
    ++ (rows_bytes saved_page (page_entries m) ++ rows_bytes saved_orphan (orphan_entries m))))))

-- .. behind the name, the length and the check number
unfoldable pub saved_bytes : Machine → List ℕ
saved_bytes m = with_header (saved_parts m)

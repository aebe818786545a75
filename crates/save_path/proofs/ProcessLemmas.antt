-- The words of a process.
use Rattle.std.proofs.Common.{◌≡◌, ℕ, ◌+◌, ◌*◌, ◌≤◌, List, [], ◌∷◌, ◌++◌, map, length, Option, sym, ap, ◌∙◌, arith}
use Rattle.std.specs.List.{flat_map, slice_get}
use Rattle.std.specs.Option.{option_map}
use Rattle.std.proofs.lemmas.List.{length-append, length-map}
use Rattle.process_table.specs.ProcessMap.{heap_of, is_alive}
use Rattle.process_table.specs.State.{ProcessState}
use Rattle.xk_parts.specs.Shown.{process_of}
use Rattle.suspend_image.proofs.Sheets.SpellingLemmas.{both_appended, length-word_bytes, proc_front, proc_in_two}
use Rattle.suspend_image.specs.Sheets.{HasRoom, SheetBytes, appended}
use Rattle.suspend_image.specs.Spelling.{proc_bytes}
use Rattle.suspend_image.specs.Words.{word, word_bytes}
use Rattle.snapshot_rows.specs.declared.state.ProcRow.{ProcRow}
use Rattle.xk_base.specs.declared.ids.Serial.{Serial}
use Rattle.save_path.specs.Rows.{rows_below}
use Rattle.suspend_image.specs.SavedRows.{flag, proc_row}
use Rattle.save_path.specs.Written.{Appends, Fits}
use Rattle.save_path.proofs.EntryLemmas.{rows_of_all}
use Rattle.save_path.proofs.SheetLemmas.{HasWritten, has_room, written_room}
use Rattle.save_path.proofs.SizeLemmas.{length-proc}
use Rattle.save_path.proofs.TableLemmas.{alive_shown, heap_shown}

abbrev pub serial_row : List Serial → ℕ → Option ℕ
serial_row servers j = option_map (λ (s : Serial). s.0) (slice_get servers j)

pub front_room : (sheet : SheetBytes) (a b n : ℕ) → Fits sheet 140 → HasRoom sheet (word_bytes (a ∷ b ∷ n ∷ []))
front_room sheet a b n fits = has_room sheet 140 (word_bytes (a ∷ b ∷ n ∷ [])) fits (let size = length-word_bytes (a ∷ b ∷ n ∷ []) in omega arith)

-- room for the next serial
pub connections_room : (old mid sheet : SheetBytes) (servers : List Serial) (a b n k : ℕ) → mid ≡ appended (word_bytes (a ∷ b ∷ n ∷ [])) old
    → HasWritten word 4 (serial_row servers) k mid sheet k → k + 1 ≤ 32 → Fits old 140 → Fits sheet 4
connections_room old mid sheet servers a b n k is written few fits =
    let size = length-word_bytes (a ∷ b ∷ n ∷ []) in
    let both = length-append old.bytes (word_bytes (a ∷ b ∷ n ∷ [])) in
    let same = ap (λ (s : SheetBytes). length s.bytes) is in
    let wide = ap (λ (s : SheetBytes). s.room) is in
    let room = fits.room in
    let low = fits.few in
    let fits_mid : Fits mid (4 * 32) = record { room = omega arith; few = omega arith } in
    written_room word 4 (serial_row servers) k 32 mid sheet k written few fits_mid

pub process_appended : (o : Option ProcessState) (old mid new : SheetBytes) (alive heap n k : ℕ) → alive ≡ flag (is_alive o) → heap ≡ heap_of o
    → n ≡ length (process_of o).connections → mid ≡ appended (word_bytes (alive ∷ heap ∷ n ∷ [])) old
    → HasWritten word 4 (serial_row (process_of o).connections) k mid new k → k ≡ n → n ≤ 32 → Appends old new (proc_bytes (proc_row (process_of o))) 140
unfolding word_bytes
process_appended o old mid new alive heap n k is_alive_so is_heap is_many is written end few =
    let servers = (process_of o).connections in
    let row : ProcRow = proc_row (process_of o) in
    let serials : List ℕ = map (λ (s : Serial). s.0) servers in
    let many : length serials ≡ n = length-map servers (λ (s : Serial). s.0) ∙ sym is_many in
    let rows : rows_below k (serial_row servers) ≡ serials = ap (λ j. rows_below j (serial_row servers)) (end ∙ is_many)
    ∙ rows_of_all (λ (s : Serial). s.0) servers in
    let one : alive ≡ row.alive = is_alive_so ∙ ap flag (alive_shown o) in
    let two : heap ≡ row.heap = is_heap ∙ heap_shown o in
    let front : word_bytes (alive ∷ heap ∷ n ∷ []) ≡ proc_front row = λ i. word_bytes (one i ∷ two i ∷ sym many i ∷ []) in
    let size = length-proc row in
    record {
      is = written.is
          ∙ ap (λ (s : SheetBytes). appended (flat_map word (rows_below k (serial_row servers))) s) is
          ∙ both_appended old (word_bytes (alive ∷ heap ∷ n ∷ [])) (flat_map word (rows_below k (serial_row servers)))
          ∙ ap (λ (xs : List ℕ). appended (xs ++ flat_map word (rows_below k (serial_row servers))) old) front
          ∙ ap (λ (xs : List ℕ). appended (proc_front row ++ flat_map word xs) old) rows
          ∙ ap (λ (xs : List ℕ). appended xs old) (sym (proc_in_two row));
      few = omega arith;
    }

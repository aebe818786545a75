-- Bytes are appended to a sheet in pieces: what they are together, and that there is room for the next piece.
use Rattle.std.proofs.Common.{◌≡◌, ℕ, ◌+◌, ◌*◌, ◌≤◌, ◌<◌, List, [], ◌∷◌, ◌++◌, length, take, get_or, refl, sym, ap, subst, ◌∙◌, append_assoc, arith, add-one}
use Rattle.std.specs.List.{flat_map}
use Rattle.std.proofs.Math.Seq.{take-suc}
use Rattle.std.proofs.lemmas.List.{length-append, append-nil, flat_map_more}
use Rattle.std.proofs.lemmas.List.Concat.{flat_map-cons}
use Rattle.std.proofs.lemmas.List.Folds.{length-flat_map-take}
use Rattle.std.proofs.lemmas.Grind.{flat_map-append}
use Rattle.snapshot_rows.specs.declared.state.ThreadRow.{ThreadRow}
use Rattle.snapshot_rows.specs.declared.state.MessageRow.{MessageRow}
use Rattle.snapshot_rows.specs.declared.state.ProcRow.{ProcRow}
use Rattle.snapshot_rows.specs.declared.state.ServerRow.{ServerRow}
use Rattle.suspend_image.specs.Spelling.{proc_bytes, thread_bytes, message_bytes, server_bytes}
use Rattle.suspend_image.specs.Words.{word, word_bytes}
use Rattle.suspend_image.specs.Sheets.{SheetBytes, HasRoom, appended}

pub none_appended : (sheet : SheetBytes) → sheet ≡ appended [] sheet
none_appended sheet = ap (λ (bytes : List ℕ). record { bytes = bytes; room = sheet.room }) (sym (append-nil sheet.bytes))

pub both_appended : (sheet : SheetBytes) (one other : List ℕ) → appended other (appended one sheet) ≡ appended (one ++ other) sheet
both_appended sheet one other = ap (λ (bytes : List ℕ). record { bytes = bytes; room = sheet.room }) (append_assoc sheet.bytes one other)

pub first_has_room : (sheet : SheetBytes) (one other : List ℕ) → HasRoom sheet (one ++ other) → HasRoom sheet one
first_has_room sheet one other room =
    let len = length-append one other in
    let fits = room.room in
    let few = room.few in
    record { room = omega arith; few = omega arith }

pub second_has_room : (sheet : SheetBytes) (one other : List ℕ) → HasRoom sheet (one ++ other) → HasRoom (appended one sheet) other
second_has_room sheet one other room =
    let len = length-append one other in
    let so_far = length-append sheet.bytes one in
    let fits = room.room in
    let few = room.few in
    record { room = omega arith; few = omega arith }

-- ---- rows

pub row_has_room : {A : Type 0} (spell : A → List ℕ) (rows : List A) (i : ℕ) (d : A) (sheet : SheetBytes) → i < length rows → HasRoom sheet (flat_map spell rows)
    → HasRoom (appended (flat_map spell (take i rows)) sheet) (spell (get_or rows i d))
row_has_room spell rows i d sheet within room =
    let one = length-flat_map-take spell rows i d within in
    let so_far = length-append sheet.bytes (flat_map spell (take i rows)) in
    let fits = room.room in
    let few = room.few in
    record { room = omega arith; few = omega arith }

pub row_appended : {A : Type 0} (spell : A → List ℕ) (rows : List A) (i : ℕ) (d : A) (sheet : SheetBytes) → i < length rows
    → appended (spell (get_or rows i d)) (appended (flat_map spell (take i rows)) sheet) ≡ appended (flat_map spell (take (i + 1) rows)) sheet
row_appended {A = A} spell rows i d sheet within =
    let next : take (i + 1) rows ≡ take i rows ++ get_or rows i d ∷ [] = rw add-one (take-suc rows i d within) in
    ap (λ (bytes : List ℕ). record { bytes = bytes; room = sheet.room })
    (flat_map_more spell sheet.bytes (take i rows) (get_or rows i d) ∙ ap (λ (xs : List A). sheet.bytes ++ flat_map spell xs) (sym next))

-- the next row of a loop, as it was taken out of the list
pub next_has_room : {A : Type 0} (spell : A → List ℕ) (rows : List A) (i : ℕ) (x : A) (start sheet : SheetBytes)
    → sheet ≡ appended (flat_map spell (take i rows)) start → i < length rows → x ≡ get_or rows i x → HasRoom start (flat_map spell rows) → HasRoom sheet (spell x)
next_has_room {A = A} spell rows i x start sheet is within item room =
    subst (λ (y : A). HasRoom sheet (spell y)) (sym item) (rw is (row_has_room spell rows i x start within room))

-- ---- words

pub word_bytes-nil : word_bytes [] ≡ []
unfolding word_bytes
word_bytes-nil = refl

pub word_bytes-append : (xs ys : List ℕ) → word_bytes (xs ++ ys) ≡ word_bytes xs ++ word_bytes ys
unfolding word_bytes
word_bytes-append xs ys = flat_map-append word xs ys

pub word_has_room : (numbers : List ℕ) (i : ℕ) (sheet : SheetBytes) → i < length numbers → HasRoom sheet (word_bytes numbers)
    → length (appended (word_bytes (take i numbers)) sheet).bytes + 4 ≤ sheet.room
unfolding word_bytes
word_has_room numbers i sheet within room = (row_has_room word numbers i 0 sheet within room).room

pub word_appended : (numbers : List ℕ) (i : ℕ) (sheet : SheetBytes) → i < length numbers
    → appended (word (get_or numbers i 0)) (appended (word_bytes (take i numbers)) sheet) ≡ appended (word_bytes (take (i + 1) numbers)) sheet
unfolding word_bytes
word_appended numbers i sheet within = row_appended word numbers i 0 sheet within

pub length-word_bytes : (numbers : List ℕ) → length (word_bytes numbers) ≡ 4 * length numbers
unfolding word_bytes
length-word_bytes [] = refl
length-word_bytes (n ∷ numbers) =
    let rest = length-word_bytes numbers in
    omega (arith, ap (λ (bytes : List ℕ). length bytes) (flat_map-cons word n numbers), length-append (word n) (flat_map word numbers))

-- ---- a process, a thread, a message and a server in pieces

abbrev pub proc_front : ProcRow → List ℕ
proc_front p = word_bytes (p.alive ∷ p.heap ∷ length p.serials ∷ [])

pub proc_in_two : (p : ProcRow) → proc_bytes p ≡ proc_front p ++ word_bytes p.serials
unfolding proc_bytes
proc_in_two p = word_bytes-append (p.alive ∷ p.heap ∷ length p.serials ∷ []) p.serials

abbrev pub server_middle : ServerRow → List ℕ
server_middle s = word_bytes (s.serial ∷ s.pid ∷ length s.queued ∷ length s.held ∷ [])

pub server_in_four : (s : ServerRow) → server_bytes s ≡ word_bytes s.sid ++ (server_middle s ++ (flat_map message_bytes s.queued ++ flat_map message_bytes s.held))
unfolding server_bytes
server_in_four s =
    let messages = flat_map message_bytes s.queued ++ flat_map message_bytes s.held in
    ap (λ (bytes : List ℕ). bytes ++ messages) (word_bytes-append s.sid (s.serial ∷ s.pid ∷ length s.queued ∷ length s.held ∷ []))
    ∙ append_assoc (word_bytes s.sid) (server_middle s) messages

pub thread_in_two : (t : ThreadRow) → thread_bytes t ≡ word_bytes (t.pid ∷ t.tid ∷ t.pc ∷ t.state ∷ t.waits ∷ []) ++ word_bytes t.regs
unfolding thread_bytes
thread_in_two t = word_bytes-append (t.pid ∷ t.tid ∷ t.pc ∷ t.state ∷ t.waits ∷ []) t.regs

abbrev pub message_front : MessageRow → List ℕ
message_front m = word_bytes (m.number ∷ m.sender_pid ∷ m.sender_tid ∷ m.kind ∷ m.id ∷ [])

abbrev pub message_end : MessageRow → List ℕ
message_end m = word_bytes (m.first ∷ m.count ∷ [])

pub message_in_three : (m : MessageRow) → message_bytes m ≡ message_front m ++ (word_bytes m.words ++ message_end m)
unfolding message_bytes
message_in_three m =
    word_bytes-append (m.number ∷ m.sender_pid ∷ m.sender_tid ∷ m.kind ∷ m.id ∷ []) (m.words ++ m.first ∷ m.count ∷ [])
    ∙ ap (λ (bytes : List ℕ). message_front m ++ bytes) (word_bytes-append m.words (m.first ∷ m.count ∷ []))

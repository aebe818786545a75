-- How many bytes the rows of a state have.
use Rattle.std.proofs.Common.{◌≡◌, ◌+◌, ◌*◌, ◌≤◌, [], ◌∷◌, ◌++◌, length, arith}
use Rattle.std.proofs.lemmas.List.{length-append}
use Rattle.suspend_image.proofs.Sheets.SpellingLemmas.{length-word_bytes}
use Rattle.suspend_image.specs.Spelling.{claim_bytes, machine_bytes, message_bytes, orphan_words, page_words, proc_bytes, thread_bytes}
use Rattle.snapshot_rows.specs.declared.state.ClaimRow.{ClaimRow}
use Rattle.snapshot_rows.specs.declared.state.MessageRow.{MessageRow}
use Rattle.snapshot_rows.specs.declared.state.OrphanRow.{OrphanRow}
use Rattle.snapshot_rows.specs.declared.state.PageRow.{PageRow}
use Rattle.snapshot_rows.specs.declared.state.ProcRow.{ProcRow}
use Rattle.snapshot_rows.specs.declared.state.State.{State}
use Rattle.snapshot_rows.specs.declared.state.ThreadRow.{ThreadRow}

pub length-machine : (s : State) → length (machine_bytes s) ≡ 52
unfolding machine_bytes
length-machine s =
    length-word_bytes (s.cap ∷ s.n ∷ s.steps ∷ s.cursor_pid ∷ s.cursor_tid ∷ s.next_number ∷ s.next_serial ∷ s.armed ∷ s.compare ∷ s.reserved ∷ s.reserved_pid
    ∷ s.reserved_tid ∷ s.reserved_address ∷ [])

pub length-proc : (p : ProcRow) → length (proc_bytes p) ≡ 4 * (3 + length p.serials)
unfolding proc_bytes
length-proc p =
    let words = length-word_bytes (p.alive ∷ p.heap ∷ length p.serials ∷ p.serials) in
    omega arith

pub length-thread : (t : ThreadRow) → length t.regs ≡ 31 → length (thread_bytes t) ≤ 144
unfolding thread_bytes
length-thread t regs =
    let words = length-word_bytes (t.pid ∷ t.tid ∷ t.pc ∷ t.state ∷ t.waits ∷ t.regs) in
    omega arith

pub length-message : (m : MessageRow) → length m.words ≡ 4 → length (message_bytes m) ≤ 44
unfolding message_bytes
length-message m four =
    let words = length-word_bytes (m.number ∷ m.sender_pid ∷ m.sender_tid ∷ m.kind ∷ m.id ∷ (m.words ++ m.first ∷ m.count ∷ [])) in
    let both = length-append m.words (m.first ∷ m.count ∷ []) in
    omega arith

pub length-claim : (c : ClaimRow) → length (claim_bytes c) ≤ 20
unfolding claim_bytes
length-claim c =
    let words = length-word_bytes (c.number ∷ c.pid ∷ c.handler ∷ c.arg ∷ c.pending ∷ []) in
    omega arith

pub length-page : (p : PageRow) → length (page_words p) ≡ 28
length-page p = length-word_bytes (p.pid ∷ p.page ∷ p.right ∷ p.holder_pid ∷ p.holder_page ∷ p.kind ∷ p.number ∷ [])

pub length-orphan : (o : OrphanRow) → length (orphan_words o) ≡ 16
length-orphan o = length-word_bytes (o.pid ∷ o.page ∷ o.kind ∷ o.number ∷ [])

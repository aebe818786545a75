-- The numbers of the machine, and each kind of row, are read again from their spelling, whatever follows it.
use Rattle.std.proofs.Common.{◌≡◌, ℕ, ◌+◌, ◌≤◌, Bool, true, false, not, cond, eqb, ltb, List, [], ◌∷◌, ◌++◌, length, Option, Ok, refl, sym, ap, ◌∙◌, append_assoc, arith}
use Rattle.std.specs.List.{flat_map, AllByRecursion}
use Rattle.std.proofs.lemmas.Bool.{ne_eqb, le-ltb}
use Rattle.snapshot_rows.specs.declared.state.State.{State}
use Rattle.snapshot_rows.specs.declared.state.ProcRow.{ProcRow}
use Rattle.snapshot_rows.specs.declared.state.ThreadRow.{ThreadRow}
use Rattle.snapshot_rows.specs.declared.state.MessageRow.{MessageRow}
use Rattle.snapshot_rows.specs.declared.state.ServerRow.{ServerRow}
use Rattle.snapshot_rows.specs.declared.state.ClaimRow.{ClaimRow}
use Rattle.suspend_image.specs.declared.reading.numbers.Numbers.{Numbers}
use Rattle.suspend_image.specs.declared.reading.numbers.Timer.{Timer}
use Rattle.suspend_image.specs.declared.reading.numbers.Reserved.{Reserved}
use Rattle.suspend_image.specs.Words.{word_bytes}
use Rattle.suspend_image.specs.Spelling.{timer_words, reserved_words, machine_bytes, proc_bytes, thread_bytes, message_bytes, server_bytes, claim_bytes}
use Rattle.suspend_image.specs.Reading.{Found, greatest, word_at, word_in, items_at}
use Rattle.suspend_image.specs.Rows.{numbers_at, timer_at, reserved_at, proc_at, waits_at, thread_at, sender_pid_at, message_at, server_at, claim_at}
use Rattle.suspend_image.specs.Forms.{IsWithin, IsWord, IsField, waits_bounds, IsProcRow, IsThreadRow, IsMessageRow, IsServerRow, IsClaimRow, HasForm}
use Rattle.suspend_image.proofs.SpelledAgain.WordAgainLemmas.{then_ok, word_first, word_last, in_first, if_first, four_first, words_end}
use Rattle.suspend_image.proofs.SpelledAgain.RowsAgainLemmas.{words_again, items_again}

-- what was read, before the bytes that are left
abbrev pub read : {A : Type 0} → A → List ℕ → Found A
read x rest = Ok (x, rest)

pub found : {A : Type 0} (x : A) (rest left : List ℕ) → left ≡ rest → read x left ≡ read x rest
found x rest left same = ap (read x) same

-- ---- a claim

pub claim_again : (n : ℕ) (before : Option ℕ) (c : ClaimRow) (rest : List ℕ) → n ≤ 64 → IsClaimRow n before c
    → claim_at n before (claim_bytes c ++ rest) ≡ Ok (c, rest)
unfolding claim_at claim_bytes
claim_again n before c rest few is =
    then_ok _ _ _ _ (in_first _ greatest c.number (c.pid ∷ c.handler ∷ c.arg ∷ c.pending ∷ []) rest (omega arith) is.number)
    (then_ok _ _ _ _ (in_first 2 (n + 1) c.pid (c.handler ∷ c.arg ∷ c.pending ∷ []) rest (omega arith) is.pid)
    (then_ok _ _ _ _ (word_first c.handler (c.arg ∷ c.pending ∷ []) rest is.handler)
    (then_ok _ _ _ _ (word_first c.arg (c.pending ∷ []) rest is.arg)
    (then_ok _ _ _ _ (in_first 0 1 c.pending [] rest (omega arith) is.pending) (found c rest _ (words_end rest))))))

-- ---- a process

pub proc_again : (p : ProcRow) (rest : List ℕ) → IsProcRow p → proc_at (proc_bytes p ++ rest) ≡ Ok (p, rest)
unfolding proc_at proc_bytes
proc_again p rest is =
    then_ok _ _ _ _ (in_first 0 1 p.alive (p.heap ∷ length p.serials ∷ p.serials) rest (omega arith) is.alive)
    (then_ok _ _ _ _ (word_first p.heap (length p.serials ∷ p.serials) rest is.heap)
    (then_ok _ _ _ _ (word_first (length p.serials) p.serials rest is.many)
    (then_ok _ _ _ _ (words_again p.serials rest is.serials) refl)))

-- ---- a thread

-- as the two tests of its state come out
abbrev bounds_by : Bool → Bool → ℕ × ℕ
bounds_by nothing joins = cond nothing (0, 0) (cond joins (1, 31) (0, greatest))

waits_by : (nothing joins : Bool) (waits : ℕ) (numbers rest : List ℕ)
    → IsWithin (bounds_by nothing joins).0 (bounds_by nothing joins).1 waits
    → cond nothing (word_in 0 0 (word_bytes (waits ∷ numbers) ++ rest)) (cond joins (word_in 1 31 (word_bytes (waits ∷ numbers) ++ rest)) (word_at (word_bytes (waits ∷ numbers) ++ rest)))
    ≡ read waits (word_bytes numbers ++ rest)
waits_by true joins waits numbers rest fits = in_first 0 0 waits numbers rest (omega arith) fits
waits_by false true waits numbers rest fits = in_first 1 31 waits numbers rest (omega arith) fits
waits_by false false waits numbers rest fits = word_first waits numbers rest fits

waits_again : (state waits : ℕ) (numbers rest : List ℕ) → IsWithin (waits_bounds state).0 (waits_bounds state).1 waits
    → waits_at state (word_bytes (waits ∷ numbers) ++ rest) ≡ read waits (word_bytes numbers ++ rest)
unfolding waits_at
waits_again state waits numbers rest fits = waits_by _ _ waits numbers rest fits

registers_again : (regs rest : List ℕ) → length regs ≡ 31 → AllByRecursion IsWord regs → items_at word_at 31 (word_bytes regs ++ rest) ≡ Ok (regs, rest)
registers_again regs rest many fits = ap (λ (n : ℕ). items_at word_at n (word_bytes regs ++ rest)) (sym many) ∙ words_again regs rest fits

pub thread_again : (n : ℕ) (before : Option (ℕ × ℕ)) (t : ThreadRow) (rest : List ℕ) → n ≤ 64 → IsThreadRow n before t
    → thread_at n before (thread_bytes t ++ rest) ≡ Ok (t, rest)
unfolding thread_at thread_bytes
thread_again n before t rest few is =
    then_ok _ _ _ _ (in_first _ (n + 1) t.pid (t.tid ∷ t.pc ∷ t.state ∷ t.waits ∷ t.regs) rest (omega arith) is.pid)
    (then_ok _ _ _ _ (in_first _ 31 t.tid (t.pc ∷ t.state ∷ t.waits ∷ t.regs) rest (omega arith) is.tid)
    (then_ok _ _ _ _ (word_first t.pc (t.state ∷ t.waits ∷ t.regs) rest is.pc)
    (then_ok _ _ _ _ (in_first 0 4 t.state (t.waits ∷ t.regs) rest (omega arith) is.state)
    (then_ok _ _ _ _ (waits_again t.state t.waits t.regs rest is.waits)
    (then_ok _ _ _ _ (registers_again t.regs rest is.registers is.regs) refl)))))

-- ---- a message

fits_sender : (none : Bool) (n pid : ℕ) → IsField (not none) 2 (n + 1) pid → (pid ≡ 1 → ⊥) × (pid ≤ n + 1)
fits_sender true n pid is = let most = is.at_most in (λ same. omega arith, omega arith)
fits_sender false n pid is = let least = is.at_least in let most = is.at_most in (λ same. omega arith, most)

sender_again : (n pid : ℕ) (numbers rest : List ℕ) → n ≤ 64 → IsField (not (eqb pid 0)) 2 (n + 1) pid
    → sender_pid_at n (word_bytes (pid ∷ numbers) ++ rest) ≡ read pid (word_bytes numbers ++ rest)
unfolding sender_pid_at
sender_again n pid numbers rest few is =
    let fits = fits_sender _ n pid is in
    let most = fits.1 in
    let other : eqb pid 1 ≡ false = ne_eqb pid 1 fits.0 in
    let below : ltb (n + 1) pid ≡ false = le-ltb _ _ most in
    let is_word : IsWord pid = record { at_least = omega arith; at_most = omega arith } in
    rw (word_first pid numbers rest is_word, other, below) refl

pub message_again : (n : ℕ) (m : MessageRow) (rest : List ℕ) → n ≤ 64 → IsMessageRow n m → message_at n (message_bytes m ++ rest) ≡ Ok (m, rest)
unfolding message_at message_bytes
message_again n m rest few is =
    let behind_id = m.words ++ m.first ∷ m.count ∷ [] in
    then_ok _ _ _ _ (word_first m.number (m.sender_pid ∷ m.sender_tid ∷ m.kind ∷ m.id ∷ behind_id) rest is.number)
    (then_ok _ _ _ _ (sender_again n m.sender_pid (m.sender_tid ∷ m.kind ∷ m.id ∷ behind_id) rest few is.sender_pid)
    (then_ok _ _ _ _ (if_first (not (eqb m.sender_pid 0)) 1 31 m.sender_tid (m.kind ∷ m.id ∷ behind_id) rest (omega arith) is.sender_tid)
    (then_ok _ _ _ _ (in_first 1 5 m.kind (m.id ∷ behind_id) rest (omega arith) is.kind)
    (then_ok _ _ _ _ (word_first m.id behind_id rest is.id)
    (then_ok _ _ _ _ (four_first m.words (m.first ∷ m.count ∷ []) rest is.four is.words)
    (then_ok _ _ _ _ (if_first _ 0 greatest m.first (m.count ∷ []) rest (omega arith) is.first)
    (then_ok _ _ _ _ (if_first _ 0 greatest m.count [] rest (omega arith) is.count) (found m rest _ (words_end rest)))))))))

-- ---- a server

pub server_again : (n : ℕ) (before : Option ℕ) (s : ServerRow) (rest : List ℕ) → n ≤ 64 → IsServerRow n before s
    → server_at n before (server_bytes s ++ rest) ≡ Ok (s, rest)
unfolding server_at server_bytes
server_again n before s rest few is =
    let words = s.sid ++ s.serial ∷ s.pid ∷ length s.queued ∷ length s.held ∷ [] in
    let queued = flat_map message_bytes s.queued in
    let held = flat_map message_bytes s.held in
    let behind = queued ++ (held ++ rest) in
    let split : server_bytes s ++ rest ≡ word_bytes words ++ behind =
    append_assoc (word_bytes words) (queued ++ held) rest ∙ ap (λ (bytes : List ℕ). word_bytes words ++ bytes) (append_assoc queued held rest) in
    let message = λ (m : MessageRow) (left : List ℕ) (fits : IsMessageRow n m). message_again n m left few fits in
    ap (server_at n before) split
    ∙ then_ok _ _ _ _ (four_first s.sid (s.serial ∷ s.pid ∷ length s.queued ∷ length s.held ∷ []) behind is.four is.sid)
    (then_ok _ _ _ _ (in_first _ greatest s.serial (s.pid ∷ length s.queued ∷ length s.held ∷ []) behind (omega arith) is.serial)
    (then_ok _ _ _ _ (in_first 2 (n + 1) s.pid (length s.queued ∷ length s.held ∷ []) behind (omega arith) is.pid)
    (then_ok _ _ _ _ (word_first (length s.queued) (length s.held ∷ []) behind is.many_queued)
    (then_ok _ _ _ _ (word_last (length s.held) behind is.many_held)
    (then_ok _ _ _ _ (items_again (message_at n) message_bytes (IsMessageRow n) message s.queued (held ++ rest) is.queued)
    (then_ok _ _ _ _ (items_again (message_at n) message_bytes (IsMessageRow n) message s.held rest is.held) refl))))))

-- ---- the machine

abbrev pub numbers_of : State → Numbers
numbers_of s = record {
  cap = s.cap;
  n = s.n;
  steps = s.steps;
  cursor_pid = s.cursor_pid;
  cursor_tid = s.cursor_tid;
  next_number = s.next_number;
  next_serial = s.next_serial;
}

abbrev pub timer_of : State → Timer
timer_of s = record { armed = s.armed; compare = s.compare }

abbrev pub reserved_of : State → Reserved
reserved_of s = record { reserved = s.reserved; pid = s.reserved_pid; tid = s.reserved_tid; address = s.reserved_address }

pub numbers_again : (file : List ℕ) (s : State) (rest : List ℕ) → HasForm file s → numbers_at (machine_bytes s ++ rest) ≡ Ok (numbers_of s, word_bytes (timer_words s) ++ rest)
unfolding numbers_at machine_bytes
numbers_again file s rest is =
    let few = is.n.at_most in
    let behind = timer_words s in
    then_ok _ _ _ _ (word_first s.cap (s.n ∷ s.steps ∷ s.cursor_pid ∷ s.cursor_tid ∷ s.next_number ∷ s.next_serial ∷ behind) rest is.cap)
    (then_ok _ _ _ _ (in_first 1 64 s.n (s.steps ∷ s.cursor_pid ∷ s.cursor_tid ∷ s.next_number ∷ s.next_serial ∷ behind) rest (omega arith) is.n)
    (then_ok _ _ _ _ (in_first 0 4000000000 s.steps (s.cursor_pid ∷ s.cursor_tid ∷ s.next_number ∷ s.next_serial ∷ behind) rest (omega arith) is.steps)
    (then_ok _ _ _ _ (in_first 2 (s.n + 1) s.cursor_pid (s.cursor_tid ∷ s.next_number ∷ s.next_serial ∷ behind) rest (omega arith) is.cursor_pid)
    (then_ok _ _ _ _ (in_first 1 31 s.cursor_tid (s.next_number ∷ s.next_serial ∷ behind) rest (omega arith) is.cursor_tid)
    (then_ok _ _ _ _ (word_first s.next_number (s.next_serial ∷ behind) rest is.next_number)
    (then_ok _ _ _ _ (word_first s.next_serial behind rest is.next_serial) refl))))))

pub timer_again : (file : List ℕ) (s : State) (rest : List ℕ) → HasForm file s → timer_at (word_bytes (timer_words s) ++ rest) ≡ Ok (timer_of s, word_bytes (reserved_words s) ++ rest)
unfolding timer_at
timer_again file s rest is =
    then_ok _ _ _ _ (in_first 0 1 s.armed (s.compare ∷ reserved_words s) rest (omega arith) is.armed)
    (then_ok _ _ _ _ (if_first (eqb s.armed 1) 0 greatest s.compare (reserved_words s) rest (omega arith) is.compare) refl)

pub reserved_again : (file : List ℕ) (s : State) (rest : List ℕ) → HasForm file s → reserved_at s.n (word_bytes (reserved_words s) ++ rest) ≡ Ok (reserved_of s, rest)
unfolding reserved_at
reserved_again file s rest is =
    let few = is.n.at_most in
    then_ok _ _ _ _ (in_first 0 1 s.reserved (s.reserved_pid ∷ s.reserved_tid ∷ s.reserved_address ∷ []) rest (omega arith) is.reserved)
    (then_ok _ _ _ _ (if_first (eqb s.reserved 1) 2 (s.n + 1) s.reserved_pid (s.reserved_tid ∷ s.reserved_address ∷ []) rest (omega arith) is.reserved_pid)
    (then_ok _ _ _ _ (if_first (eqb s.reserved 1) 1 31 s.reserved_tid (s.reserved_address ∷ []) rest (omega arith) is.reserved_tid)
    (then_ok _ _ _ _ (if_first (eqb s.reserved 1) 0 greatest s.reserved_address [] rest (omega arith) is.reserved_address) (found (reserved_of s) rest _ (words_end rest)))))

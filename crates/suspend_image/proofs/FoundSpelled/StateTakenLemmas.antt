-- A state that was read is what the spelling says, part by part, and has the form.
use Rattle.std.proofs.Common.{◌≡◌, ℕ, ◌+◌, eqb, List, [], ◌∷◌, ◌++◌, length, Option, None, Ok, sym, ap, subst, ◌∙◌}
use Rattle.std.specs.List.{flat_map}
use Rattle.std.proofs.lemmas.Bool.{eqb-true}
use Rattle.std.proofs.lemmas.List.{nil_from_length, append-nil}
use Rattle.snapshot_rows.specs.declared.state.State.{State}
use Rattle.suspend_image.specs.declared.reading.numbers.Numbers.{Numbers}
use Rattle.suspend_image.specs.declared.reading.numbers.Timer.{Timer}
use Rattle.suspend_image.specs.declared.reading.numbers.Reserved.{Reserved}
use Rattle.snapshot_rows.specs.declared.state.ProcRow.{ProcRow}
use Rattle.snapshot_rows.specs.declared.state.ThreadRow.{ThreadRow}
use Rattle.snapshot_rows.specs.declared.state.ServerRow.{ServerRow}
use Rattle.snapshot_rows.specs.declared.state.ClaimRow.{ClaimRow}
use Rattle.snapshot_rows.specs.declared.state.PageRow.{PageRow}
use Rattle.snapshot_rows.specs.declared.state.OrphanRow.{OrphanRow}
use Rattle.suspend_image.specs.Words.{word_bytes}
use Rattle.suspend_image.specs.Spelling.{machine_bytes, proc_bytes, thread_bytes, server_bytes, claim_bytes, page_bytes, orphan_bytes, rows_bytes, parts_bytes}
use Rattle.suspend_image.specs.Reading.{Found, greatest, word_at, rows_at}
use Rattle.suspend_image.specs.Rows.{numbers_at, timer_at, reserved_at, proc_at, thread_at, server_at, claim_at, page_at, orphan_at}
use Rattle.snapshot_rows.specs.Order.{thread_key, server_key, claim_key, page_key, orphan_key}
use Rattle.suspend_image.specs.StateFaults.{state_at}
use Rattle.suspend_image.specs.Forms.{IsWithin, IsWord, IsPid, IsTid, IsFlag, IsField, IsProcRow, IsThreadRow, IsServerRow, IsClaimRow, IsPageRow, IsOrphanRow, ArePlaced, HasForm}
use Rattle.suspend_image.proofs.FoundSpelled.TakenLemmas.{step, ok_is, IsEnd, Takes, taken_both, Words, no_words, word_taken, in_taken, if_taken, RowTaken, rows_taken, items_taken, in_order}
use Rattle.suspend_image.proofs.FoundSpelled.RowTakenLemmas.{proc_taken, thread_taken, server_taken, claim_taken}
use Rattle.suspend_image.proofs.FoundSpelled.PageTakenLemmas.{guard_kept, page_taken, orphan_taken}

-- ---- the machine

abbrev pub numbers_words : Numbers → List ℕ
numbers_words n = n.cap ∷ n.n ∷ n.steps ∷ n.cursor_pid ∷ n.cursor_tid ∷ n.next_number ∷ n.next_serial ∷ []

pub record NumbersTaken (file bytes : List ℕ) (x : Numbers × List ℕ) : Type 0 where
  pub words : Words file bytes (numbers_words x.0) x.1
  pub cap : IsWord x.0.cap
  pub n : IsWithin 1 64 x.0.n
  pub steps : IsWithin 0 4000000000 x.0.steps
  pub cursor_pid : IsPid x.0.n x.0.cursor_pid
  pub cursor_tid : IsTid x.0.cursor_tid
  pub next_number : IsWord x.0.next_number
  pub next_serial : IsWord x.0.next_serial

numbers_taken : (file bytes : List ℕ) (x : Numbers × List ℕ) → IsEnd file bytes → numbers_at bytes ≡ Ok x → NumbersTaken file bytes x
unfolding numbers_at
numbers_taken file bytes x ended e =
    step _ _ _ e (λ cap r1 e1. step _ _ _ e1 (λ n r2 e2. step _ _ _ e2 (λ steps r3 e3. step _ _ _ e3 (λ pid r4 e4. step _ _ _ e4 (λ tid r5 e5.
    step _ _ _ e5 (λ number r6 e6. step _ _ _ e6 (λ serial r7 e7. (
    let t1 = word_taken file bytes [] bytes cap (no_words file bytes ended) r1 in
    let t2 = in_taken file bytes (cap.0 ∷ []) cap.1 1 64 n t1.0 r2 in
    let t3 = in_taken file bytes (cap.0 ∷ n.0 ∷ []) n.1 0 4000000000 steps t2.0 r3 in
    let t4 = in_taken file bytes (cap.0 ∷ n.0 ∷ steps.0 ∷ []) steps.1 2 (n.0 + 1) pid t3.0 r4 in
    let t5 = in_taken file bytes (cap.0 ∷ n.0 ∷ steps.0 ∷ pid.0 ∷ []) pid.1 1 31 tid t4.0 r5 in
    let t6 = word_taken file bytes (cap.0 ∷ n.0 ∷ steps.0 ∷ pid.0 ∷ tid.0 ∷ []) tid.1 number t5.0 r6 in
    let t7 = word_taken file bytes (cap.0 ∷ n.0 ∷ steps.0 ∷ pid.0 ∷ tid.0 ∷ number.0 ∷ []) number.1 serial t6.0 r7 in
    let made : Numbers × List ℕ =
    (record { cap = cap.0; n = n.0; steps = steps.0; cursor_pid = pid.0; cursor_tid = tid.0; next_number = number.0; next_serial = serial.0 }, serial.1) in
    subst (NumbersTaken file bytes) (ok_is made x e7)
    (record { words = t7.0; cap = t1.1; n = t2.1; steps = t3.1; cursor_pid = t4.1; cursor_tid = t5.1; next_number = t6.1; next_serial = t7.1 })
    ))))))))

pub record TimerTaken (file bytes numbers : List ℕ) (x : Timer × List ℕ) : Type 0 where
  pub words : Words file bytes ((numbers ++ x.0.armed ∷ []) ++ x.0.compare ∷ []) x.1
  pub armed : IsFlag x.0.armed
  pub compare : IsField (eqb x.0.armed 1) 0 greatest x.0.compare

timer_taken : (file bytes numbers rest : List ℕ) (x : Timer × List ℕ) → Words file bytes numbers rest → timer_at rest ≡ Ok x → TimerTaken file bytes numbers x
unfolding timer_at
timer_taken file bytes numbers rest x so_far e =
    step _ _ _ e (λ armed r1 e1. step _ _ _ e1 (λ compare r2 e2. (
    let t1 = in_taken file bytes numbers rest 0 1 armed so_far r1 in
    let t2 = if_taken file bytes (numbers ++ armed.0 ∷ []) armed.1 (eqb armed.0 1) 0 greatest compare t1.0 r2 in
    let made : Timer × List ℕ = (record { armed = armed.0; compare = compare.0 }, compare.1) in
    subst (TimerTaken file bytes numbers) (ok_is made x e2) (record { words = t2.0; armed = t1.1; compare = t2.1 })
    )))

pub record ReservedTaken (file bytes numbers : List ℕ) (n : ℕ) (x : Reserved × List ℕ) : Type 0 where
  pub words : Words file bytes ((((numbers ++ x.0.reserved ∷ []) ++ x.0.pid ∷ []) ++ x.0.tid ∷ []) ++ x.0.address ∷ []) x.1
  pub reserved : IsFlag x.0.reserved
  pub pid : IsField (eqb x.0.reserved 1) 2 (n + 1) x.0.pid
  pub tid : IsField (eqb x.0.reserved 1) 1 31 x.0.tid
  pub address : IsField (eqb x.0.reserved 1) 0 greatest x.0.address

reserved_taken : (file bytes numbers rest : List ℕ) (n : ℕ) (x : Reserved × List ℕ) → Words file bytes numbers rest → reserved_at n rest ≡ Ok x → ReservedTaken file bytes numbers n x
unfolding reserved_at
reserved_taken file bytes numbers rest n x so_far e =
    step _ _ _ e (λ reserved r1 e1. step _ _ _ e1 (λ pid r2 e2. step _ _ _ e2 (λ tid r3 e3. step _ _ _ e3 (λ address r4 e4. (
    let t1 = in_taken file bytes numbers rest 0 1 reserved so_far r1 in
    let t2 = if_taken file bytes (numbers ++ reserved.0 ∷ []) reserved.1 (eqb reserved.0 1) 2 (n + 1) pid t1.0 r2 in
    let t3 = if_taken file bytes ((numbers ++ reserved.0 ∷ []) ++ pid.0 ∷ []) pid.1 (eqb reserved.0 1) 1 31 tid t2.0 r3 in
    let t4 = if_taken file bytes (((numbers ++ reserved.0 ∷ []) ++ pid.0 ∷ []) ++ tid.0 ∷ []) tid.1 (eqb reserved.0 1) 0 greatest address t3.0 r4 in
    let made : Reserved × List ℕ = (record { reserved = reserved.0; pid = pid.0; tid = tid.0; address = address.0 }, address.1) in
    subst (ReservedTaken file bytes numbers n) (ok_is made x e4) (record { words = t4.0; reserved = t1.1; pid = t2.1; tid = t3.1; address = t4.1 })
    )))))

-- ---- rows behind their number

pub record Counted {A K : Type 0} (file : List ℕ) (key : A → K) (spell : A → List ℕ) (form : Option K → ℕ → A → Type 0) (bytes : List ℕ) (x : List A × List ℕ) : Type 0 where
  pub takes : Takes file bytes (rows_bytes spell x.0) x.1
  pub many : IsWord (length x.0)
  pub forms : ArePlaced form key spell (length x.1) None x.0

counted_taken : {A K : Type 0} (file : List ℕ) (row : Option K → List ℕ → Found A) (key : A → K) (spell : A → List ℕ) (form : Option K → ℕ → A → Type 0)
    → RowTaken file row spell form → (bytes : List ℕ) (many : ℕ × List ℕ) (x : List A × List ℕ) → IsEnd file bytes → word_at bytes ≡ Ok many
    → rows_at row key many.0 None many.1 ≡ Ok x → Counted file key spell form bytes x
unfolding rows_bytes
counted_taken file row key spell form one bytes many x ended r1 r2 =
    let t1 = word_taken file bytes [] bytes many (no_words file bytes ended) r1 in
    let t2 = rows_taken file row key spell form one many.0 None many.1 x t1.0.ended r2 in
    let number = subst (λ (k : ℕ). Words file bytes (k ∷ []) many.1) (sym t2.many) t1.0 in
    record {
      takes = taken_both file bytes (word_bytes (length x.0 ∷ [])) many.1 (flat_map spell x.0) x.1 number t2.takes;
      many = subst IsWord (sym t2.many) t1.1;
      forms = t2.forms;
    }

-- ---- the whole

pub record PartsTaken (file bytes : List ℕ) (s : State) : Type 0 where
  pub spelled : bytes ≡ parts_bytes file s
  pub form : HasForm file s

pub parts_taken : (file bytes : List ℕ) (s : State) → IsEnd file bytes → state_at (length file) bytes ≡ Ok s → PartsTaken file bytes s
unfolding state_at parts_bytes machine_bytes
parts_taken file bytes s ended e =
    step _ _ _ e (λ (numbers : Numbers × List ℕ) r1 e1.
    step _ _ _ e1 (λ (timer : Timer × List ℕ) r2 e2.
    step _ _ _ e2 (λ (reserved : Reserved × List ℕ) r3 e3.
    step _ _ _ e3 (λ (procs : List ProcRow × List ℕ) r4 e4.
    step _ _ _ e4 (λ (many_threads : ℕ × List ℕ) r5 e5.
    step _ _ _ e5 (λ (threads : List ThreadRow × List ℕ) r6 e6.
    step _ _ _ e6 (λ (many_servers : ℕ × List ℕ) r7 e7.
    step _ _ _ e7 (λ (servers : List ServerRow × List ℕ) r8 e8.
    step _ _ _ e8 (λ (many_claims : ℕ × List ℕ) r9 e9.
    step _ _ _ e9 (λ (claims : List ClaimRow × List ℕ) r10 e10.
    step _ _ _ e10 (λ (many_pages : ℕ × List ℕ) r11 e11.
    step _ _ _ e11 (λ (pages : List PageRow × List ℕ) r12 e12.
    step _ _ _ e12 (λ (many_orphans : ℕ × List ℕ) r13 e13.
    step _ _ _ e13 (λ (orphans : List OrphanRow × List ℕ) r14 e14. (
    let n = numbers.0.n in
    let made : State = record {
      cap = numbers.0.cap;
      n = numbers.0.n;
      steps = numbers.0.steps;
      cursor_pid = numbers.0.cursor_pid;
      cursor_tid = numbers.0.cursor_tid;
      next_number = numbers.0.next_number;
      next_serial = numbers.0.next_serial;
      armed = timer.0.armed;
      compare = timer.0.compare;
      reserved = reserved.0.reserved;
      reserved_pid = reserved.0.pid;
      reserved_tid = reserved.0.tid;
      reserved_address = reserved.0.address;
      procs = procs.0;
      threads = threads.0;
      servers = servers.0;
      claims = claims.0;
      pages = pages.0;
      orphans = orphans.0;
    } in
    let last = guard_kept (eqb (length orphans.1) 0) (length orphans.1) made s e14 in
    let nothing : orphans.1 ≡ [] = nil_from_length orphans.1 (eqb-true _ _ last.0) in
    let t1 = numbers_taken file bytes numbers ended r1 in
    let t2 = timer_taken file bytes (numbers_words numbers.0) numbers.1 timer t1.words r2 in
    let t3 = reserved_taken file bytes (numbers_words numbers.0 ++ timer.0.armed ∷ timer.0.compare ∷ []) timer.1 n reserved t2.words r3 in
    let t4 = items_taken file proc_at proc_bytes IsProcRow (proc_taken file) n reserved.1 procs t3.words.ended r4 in
    let t5 = counted_taken file (thread_at n) thread_key thread_bytes (λ before left t. IsThreadRow n before t) (thread_taken file n) procs.1 many_threads threads t4.takes.ended r5 r6 in
    let t6 = counted_taken file (server_at n) server_key server_bytes (λ before left t. IsServerRow n before t) (server_taken file n) threads.1 many_servers servers t5.takes.ended r7 r8 in
    let t7 = counted_taken file (claim_at n) claim_key claim_bytes (λ before left t. IsClaimRow n before t) (claim_taken file n) servers.1 many_claims claims t6.takes.ended r9 r10 in
    let t8 = counted_taken file (page_at (length file) n) page_key (page_bytes file) (IsPageRow (length file) n) (page_taken file n) claims.1 many_pages pages t7.takes.ended r11 r12 in
    let t9 = counted_taken file (orphan_at (length file) n) orphan_key (orphan_bytes file) (IsOrphanRow (length file) n) (orphan_taken file n) pages.1 many_orphans orphans t8.takes.ended r13 r14 in
    let orphan_text = rows_bytes (orphan_bytes file) orphans.0 in
    let j8 = taken_both file claims.1 (rows_bytes (page_bytes file) pages.0) pages.1 orphan_text orphans.1 t8.takes t9.takes in
    let j7 = taken_both file servers.1 (rows_bytes claim_bytes claims.0) claims.1 _ orphans.1 t7.takes j8 in
    let j6 = taken_both file threads.1 (rows_bytes server_bytes servers.0) servers.1 _ orphans.1 t6.takes j7 in
    let j5 = taken_both file procs.1 (rows_bytes thread_bytes threads.0) threads.1 _ orphans.1 t5.takes j6 in
    let j4 = taken_both file reserved.1 (flat_map proc_bytes procs.0) procs.1 _ orphans.1 t4.takes j5 in
    let j3 = taken_both file bytes (machine_bytes made) reserved.1 _ orphans.1 t3.words j4 in
    let spelled : bytes ≡ parts_bytes file made = j3.parts ∙ ap (λ (b : List ℕ). parts_bytes file made ++ b) nothing ∙ append-nil (parts_bytes file made) in
    let ends : length pages.1 ≡ length orphan_text =
    ap (λ (b : List ℕ). length b) (t9.takes.parts ∙ ap (λ (b : List ℕ). orphan_text ++ b) nothing ∙ append-nil orphan_text) in
    let placed = subst (λ (left : ℕ). ArePlaced (IsPageRow (length file) n) page_key (page_bytes file) left None pages.0) ends t8.forms in
    let placed_orphans = subst (λ (left : ℕ). ArePlaced (IsOrphanRow (length file) n) orphan_key (orphan_bytes file) left None orphans.0) (ap (λ (b : List ℕ). length b) nothing) t9.forms in
    subst (PartsTaken file bytes) last.1 (record {
      spelled = spelled;
      form = record {
        cap = t1.cap;
        n = t1.n;
        steps = t1.steps;
        cursor_pid = t1.cursor_pid;
        cursor_tid = t1.cursor_tid;
        next_number = t1.next_number;
        next_serial = t1.next_serial;
        armed = t2.armed;
        compare = t2.compare;
        reserved = t3.reserved;
        reserved_pid = t3.pid;
        reserved_tid = t3.tid;
        reserved_address = t3.address;
        many_procs = t4.many;
        procs = t4.forms;
        many_threads = t5.many;
        threads = in_order (IsThreadRow n) thread_key thread_bytes (length threads.1) None threads.0 t5.forms;
        many_servers = t6.many;
        servers = in_order (IsServerRow n) server_key server_bytes (length servers.1) None servers.0 t6.forms;
        many_claims = t7.many;
        claims = in_order (IsClaimRow n) claim_key claim_bytes (length claims.1) None claims.0 t7.forms;
        many_pages = t8.many;
        pages = placed;
        many_orphans = t9.many;
        orphans = placed_orphans;
      };
    })
    )))))))))))))))

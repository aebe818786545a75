-- A row that has its form says something that is spelled as that row.
use Rattle.std.proofs.Common.{◌≡◌, ℕ, zero, suc, ◌+◌, ◌/◌, ◌%◌, ◌≤◌, ◌<◌, Bool, true, false, not, cond, eqb, ltb, List, [], ◌∷◌, ◌++◌, map, Option, Some, None, refl, sym, ap, ◌∙◌, arith}
use Rattle.std.specs.Prelude.{is_some, ◌&&◌, ◌||◌, if◌then◌else◌}
use Rattle.std.specs.List.{list_any, AllByRecursion}
use Rattle.std.specs.Option.{unwrap_or}
use Rattle.std.proofs.lemmas.Bool.{eqb-true, eq-eqb, ne_eqb}
use Rattle.xk_base.specs.declared.ids.Serial.{Serial}
use Rattle.xk_base.specs.declared.messages.MsgKind.TheVariants.{Scalar}
use Rattle.xk_base.specs.Calls.Kinds.{kind_number, kind_at}
use Rattle.ledger_model.specs.Ledger.{Console, Bytes}
use Rattle.machine_model.specs.State.Machine.{Reservation}
use Rattle.snapshot_rows.specs.declared.state.ProcRow.{ProcRow}
use Rattle.snapshot_rows.specs.declared.state.ThreadRow.{ThreadRow}
use Rattle.snapshot_rows.specs.declared.state.MessageRow.{MessageRow}
use Rattle.snapshot_rows.specs.declared.state.ServerRow.{ServerRow}
use Rattle.snapshot_rows.specs.declared.state.ClaimRow.{ClaimRow}
use Rattle.snapshot_rows.specs.declared.state.PageRow.{PageRow}
use Rattle.snapshot_rows.specs.declared.state.OrphanRow.{OrphanRow}
use Rattle.suspend_image.specs.Reading.{greatest}
use Rattle.suspend_image.specs.Forms.{IsWithin, IsField, IsFlag, IsProcRow, IsMessageRow, waits_bounds}
use Rattle.snapshot_rows.specs.Machines.{contents_at, thread_at_id, place_at, process_of, thread_of, thread_state, message_of, server_of}
use Rattle.snapshot_rows.specs.Machines.{claim_of, pending_of, loan_kind_of, ledger_page, ledger_orphan}
use Rattle.suspend_image.specs.Spelling.{thread_bytes, server_bytes, claim_bytes, page_words, page_bytes, orphan_words, orphan_bytes}
use Rattle.suspend_image.specs.SavedRows.{flag, reserved_pid, reserved_tid, reserved_address, proc_row, state_number, state_waits, sender_pid, sender_tid, message_row, claim_row, right_number, loan_number, holder_pid, holder_page, kind_of_loan, number_of_loan, page_row}
use Rattle.suspend_image.specs.StateBytes.{bytes_of, saved_thread, saved_server, saved_page, saved_orphan}
use Rattle.suspend_image.proofs.Saved.PlacedAgainLemmas.{said_loan}
use Rattle.suspend_image.proofs.Saved.RiseLemmas.{Rises}

zero_of : (number : ℕ) → IsWithin 0 0 number → 0 ≡ number
zero_of number none = (let high = none.at_most in omega (arith, high))

pub flag_back : (a : ℕ) → a ≤ 1 → flag (eqb a 1) ≡ a
flag_back zero few = refl
flag_back (suc zero) few = refl
flag_back (suc (suc a)) few = absurd (omega (arith, few))

-- ---- the timer and the reservation

pub timer_back : (a c : ℕ) → a ≤ 1 → IsField (eqb a 1) 0 greatest c
    → (flag (is_some (cond (eqb a 1) (Some c) None)) ≡ a) × (unwrap_or (cond (eqb a 1) (Some c) None) 0 ≡ c)
timer_back zero c few field = (refl, zero_of c field)
timer_back (suc zero) c few field = (refl, refl)
timer_back (suc (suc a)) c few field = absurd (omega (arith, few))

abbrev pub said_reservation : ℕ → ℕ → ℕ → ℕ → Option Reservation
said_reservation a pid tid address = cond (eqb a 1) (Some (record { who = thread_at_id pid tid; address = address })) None

pub reserved_back : (n a pid tid address : ℕ) → a ≤ 1 → IsField (eqb a 1) 2 (n + 1) pid → IsField (eqb a 1) 1 31 tid → IsField (eqb a 1) 0 greatest address
    → (flag (is_some (said_reservation a pid tid address)) ≡ a) × (reserved_pid (said_reservation a pid tid address) ≡ pid)
    × (reserved_tid (said_reservation a pid tid address) ≡ tid) × (reserved_address (said_reservation a pid tid address) ≡ address)
reserved_back n zero pid tid address few p t d = (refl, zero_of pid p, zero_of tid t, zero_of address d)
reserved_back n (suc zero) pid tid address few p t d = (refl, refl, refl, refl)
reserved_back n (suc (suc a)) pid tid address few p t d = absurd (omega (arith, few))

-- ---- a process

abbrev serial_number : Serial → ℕ
serial_number serial = serial.0

abbrev serial_at : ℕ → Serial
serial_at number = record { 0 = number }

serials_back : (xs : List ℕ) → map serial_number (map serial_at xs) ≡ xs
serials_back [] = refl
serials_back (x ∷ xs) = ap (λ (ys : List ℕ). x ∷ ys) (serials_back xs)

pub proc_back : (p : ProcRow) → IsProcRow p → proc_row (process_of p) ≡ p
proc_back p is =
    let alive = flag_back p.alive is.alive.at_most in
    let serials = serials_back p.serials in
    λ i. record { alive = alive i; heap = p.heap; serials = serials i }

-- ---- a thread

state_back : (s w : ℕ) → s ≤ 4 → IsWithin (waits_bounds s).0 (waits_bounds s).1 w → (state_number (thread_state s w) ≡ s) × (state_waits (thread_state s w) ≡ w)
state_back zero w few bounds = (refl, zero_of w bounds)
state_back (suc zero) w few bounds = (refl, refl)
state_back (suc (suc zero)) w few bounds = (refl, refl)
state_back (suc (suc (suc zero))) w few bounds = (refl, refl)
state_back (suc (suc (suc (suc zero)))) w few bounds = (refl, zero_of w bounds)
state_back (suc (suc (suc (suc (suc s))))) w few bounds = absurd (omega (arith, few))

pub thread_back : (t : ThreadRow) → IsWithin 0 4 t.state → IsWithin (waits_bounds t.state).0 (waits_bounds t.state).1 t.waits
    → saved_thread (thread_at_id t.pid t.tid, thread_of t) ≡ thread_bytes t
thread_back t state waits =
    let both = state_back t.state t.waits state.at_most waits in
    ap thread_bytes (λ i. record { pid = t.pid; tid = t.tid; pc = t.pc; state = both.0 i; waits = both.1 i; regs = t.regs })

-- ---- a message and a server

sender_back : (b : Bool) (pid tid : ℕ) → eqb pid 0 ≡ b → IsField (not b) 1 31 tid
    → (sender_pid (cond b None (Some (thread_at_id pid tid))) ≡ pid) × (sender_tid (cond b None (Some (thread_at_id pid tid))) ≡ tid)
sender_back true pid tid is field = (sym (eqb-true pid 0 is), zero_of tid field)
sender_back false pid tid is field = (refl, refl)

kind_back : (k : ℕ) → 1 ≤ k → k ≤ 5 → kind_number (unwrap_or (kind_at k) Scalar) ≡ k
kind_back zero low few = absurd (omega (arith, low))
kind_back (suc zero) low few = refl
kind_back (suc (suc zero)) low few = refl
kind_back (suc (suc (suc zero))) low few = refl
kind_back (suc (suc (suc (suc zero)))) low few = refl
kind_back (suc (suc (suc (suc (suc zero))))) low few = refl
kind_back (suc (suc (suc (suc (suc (suc k)))))) low few = absurd (omega (arith, few))

message_back : (n : ℕ) (x : MessageRow) → IsMessageRow n x → message_row (message_of x) ≡ x
message_back n x is =
    let sender = sender_back (eqb x.sender_pid 0) x.sender_pid x.sender_tid refl is.sender_tid in
    let kind = kind_back x.kind is.kind.at_least is.kind.at_most in
    λ i. record {
      number = x.number;
      sender_pid = sender.0 i;
      sender_tid = sender.1 i;
      kind = kind i;
      id = x.id;
      words = x.words;
      first = x.first;
      count = x.count;
    }

messages_back : (n : ℕ) (xs : List MessageRow) → AllByRecursion (IsMessageRow n) xs → map message_row (map message_of xs) ≡ xs
messages_back n [] all = refl
messages_back n (x ∷ xs) all =
    let first = message_back n x all.0 in
    let rest = messages_back n xs all.1 in
    λ i. first i ∷ rest i

pub server_back : (n : ℕ) (s : ServerRow) → AllByRecursion (IsMessageRow n) s.queued → AllByRecursion (IsMessageRow n) s.held
    → saved_server (s.serial, server_of s) ≡ server_bytes s
server_back n s queued held =
    let one = messages_back n s.queued queued in
    let two = messages_back n s.held held in
    ap server_bytes (λ i. record { sid = s.sid; serial = s.serial; pid = s.pid; queued = one i; held = two i })

-- ---- a claim

abbrev is_pending : ℕ → ClaimRow → Bool
is_pending k c = eqb c.number k && eqb c.pending 1

none_pending : (k : ℕ) (rows : List ClaimRow) → AllByRecursion (λ c. k < c.number) rows → list_any (is_pending k) rows ≡ false
none_pending k [] all = refl
none_pending k (c ∷ rows) all =
    let low = all.0 in
    let differ : eqb c.number k ≡ false = ne_eqb c.number k (λ e. omega (arith, low, e)) in
    rw differ (none_pending k rows all.1)

abbrev pub Up : List ClaimRow → Type 0
Up rows = Rises (λ c d. c.number < d.number) rows

behind_pending : (c : ClaimRow) (rows ds : List ClaimRow) → AllByRecursion (λ d. c.number < d.number) ds
    → AllByRecursion (λ d. list_any (is_pending d.number) rows ≡ eqb d.pending 1) ds
    → AllByRecursion (λ d. list_any (is_pending d.number) (c ∷ rows) ≡ eqb d.pending 1) ds
behind_pending c rows [] low all = tt
behind_pending c rows (d ∷ ds) low all =
    let less = low.0 in
    let differ : eqb c.number d.number ≡ false = ne_eqb c.number d.number (λ e. omega (arith, less, e)) in
    (rw differ all.0, behind_pending c rows ds low.1 all.1)

or_false : (b : Bool) → (b || false) ≡ b
or_false true = refl
or_false false = refl

pub pending_each : (rows : List ClaimRow) → Up rows → AllByRecursion (λ c. pending_of rows c.number ≡ eqb c.pending 1) rows
pending_each [] up = tt
pending_each (c ∷ rows) up =
    let own : eqb c.number c.number ≡ true = eq-eqb c.number c.number refl in
    let none = none_pending c.number rows up.0 in
    (rw (own, none) (or_false (eqb c.pending 1)), behind_pending c rows rows up.0 (pending_each rows up.1))

pub claim_back : (pending : ℕ → Bool) (c : ClaimRow) → IsFlag c.pending → pending c.number ≡ eqb c.pending 1
    → claim_bytes (claim_row pending c.number (claim_of c)) ≡ claim_bytes c
claim_back pending c is said =
    let same = ap flag said ∙ flag_back c.pending is.at_most in
    ap claim_bytes (λ i. record { number = c.number; pid = c.pid; handler = c.handler; arg = c.arg; pending = same i })

-- ---- a page and an orphan

right_back : (r : ℕ) (c : List ℕ) → r ≤ 7
    → right_number (record { w = eqb (r % 2) 1; x = eqb (r / 2 % 2) 1 }) (if ltb r 4 then Bytes c else Console) ≡ r
right_back zero c few = refl
right_back (suc zero) c few = refl
right_back (suc (suc zero)) c few = refl
right_back (suc (suc (suc zero))) c few = refl
right_back (suc (suc (suc (suc zero)))) c few = refl
right_back (suc (suc (suc (suc (suc zero))))) c few = refl
right_back (suc (suc (suc (suc (suc (suc zero)))))) c few = refl
right_back (suc (suc (suc (suc (suc (suc (suc zero))))))) c few = refl
right_back (suc (suc (suc (suc (suc (suc (suc (suc r)))))))) c few = absurd (omega (arith, few))

bytes_back : (b : Bool) (c : List ℕ) → bytes_of (if b then Bytes c else Console) ≡ (if b then c else [])
bytes_back true c = refl
bytes_back false c = refl

loan_back : (n pid page kind number : ℕ) → kind ≤ 2 → IsField (not (eqb kind 0)) 2 (n + 1) pid → IsField (not (eqb kind 0)) 0 greatest page
    → IsField (not (eqb kind 0)) 0 greatest number
    → (holder_pid (said_loan pid page kind number) ≡ pid) × (holder_page (said_loan pid page kind number) ≡ page)
    × (kind_of_loan (said_loan pid page kind number) ≡ kind) × (number_of_loan (said_loan pid page kind number) ≡ number)
loan_back n pid page zero number few p q r = (zero_of pid p, zero_of page q, refl, zero_of number r)
loan_back n pid page (suc zero) number few p q r = (refl, refl, refl, refl)
loan_back n pid page (suc (suc zero)) number few p q r = (refl, refl, refl, refl)
loan_back n pid page (suc (suc (suc kind))) number few p q r = absurd (omega (arith, few))

-- what the form says of a page without the place of its bytes
pub record IsPageForm (n : ℕ) (p : PageRow) : Type 0 where
  pub right : p.right ≤ 7
  pub kind : p.kind ≤ 2
  pub holder_pid : IsField (not (eqb p.kind 0)) 2 (n + 1) p.holder_pid
  pub holder_page : IsField (not (eqb p.kind 0)) 0 greatest p.holder_page
  pub number : IsField (not (eqb p.kind 0)) 0 greatest p.number

page_words_back : (file : List ℕ) (n : ℕ) (p : PageRow) → IsPageForm n p → page_words (page_row 0 (place_at p.pid p.page) (ledger_page file p)) ≡ page_words p
page_words_back file n p is =
    let right = right_back p.right (contents_at file p.from) is.right in
    let loan = loan_back n p.holder_pid p.holder_page p.kind p.number is.kind is.holder_pid is.holder_page is.number in
    ap page_words (λ i. record {
      pid = p.pid;
      page = p.page;
      right = right i;
      holder_pid = loan.0 i;
      holder_page = loan.1 i;
      kind = loan.2 i;
      number = loan.3 i;
      from = 0;
    })

pub page_back : (file : List ℕ) (n : ℕ) (p : PageRow) → IsPageForm n p → saved_page (place_at p.pid p.page, ledger_page file p) ≡ page_bytes file p
unfolding page_bytes
page_back file n p is =
    let words = page_words_back file n p is in
    let bytes = bytes_back (ltb p.right 4) (contents_at file p.from) in
    λ i. words i ++ bytes i

kind_of_orphan : (kind : ℕ) → 1 ≤ kind → kind ≤ 2 → loan_number (loan_kind_of kind) ≡ kind
kind_of_orphan zero low few = absurd (omega (arith, low))
kind_of_orphan (suc zero) low few = refl
kind_of_orphan (suc (suc zero)) low few = refl
kind_of_orphan (suc (suc (suc kind))) low few = absurd (omega (arith, few))

pub orphan_back : (file : List ℕ) (o : OrphanRow) → IsWithin 1 2 o.kind → saved_orphan (place_at o.pid o.page, ledger_orphan file o) ≡ orphan_bytes file o
unfolding orphan_bytes
orphan_back file o is =
    let kind = kind_of_orphan o.kind is.at_least is.at_most in
    λ i. orphan_words (record { pid = o.pid; page = o.page; kind = kind i; number = o.number; from = 0 }) ++ contents_at file o.from

-- The row of a number, from what a table has there.
use Rattle.std.proofs.Common.{◌≡◌, ℕ, ◌+◌, ◌-◌, ◌≤◌, Bool, true, false, ltb, Option, Some, None, refl, sym, ap, inl, inr, ◌∙◌, arith}
use Rattle.std.specs.Prelude.{List, is_some, length, if◌then◌else◌}
use Rattle.std.specs.List.{slice_get}
use Rattle.std.proofs.lemmas.Bool.{false≢true, le-ltb}
use Rattle.std.proofs.lemmas.Option.{slice_get_cases, slice_get_within}
use Rattle.process_table.specs.ProcessMap.{connections_of, heap_of, is_alive}
use Rattle.process_table.specs.State.{ProcessState}
use Rattle.xk_base.specs.Tables.Connections.{connected_to}
use Rattle.xk_base.specs.declared.ids.Serial.{Serial}
use denote.Bor.{Bor}
use mir.Val.{bool_byte}
use Rattle.std.specs.Option.{option_copied, option_map, option_map_or}
use Rattle.irq_claims.specs.ClaimsOf.{claims_of}
use Rattle.irq_claims.specs.declared.claims.Claim.{Claim as TableClaim}
use Rattle.irq_claims.specs.declared.claims.Claims.{Claims}
use Rattle.xk_parts.specs.Shown.{claim_of, claims_shown, pending_shown}
use Rattle.xk_parts.specs.Shown.{process_of, server_of, servers_shown, thread_of, threads_shown}
use Rattle.msg_queue.specs.Seats.{Seat}
use Rattle.server_table.specs.ServerState.{Server as TableServer}
use Rattle.server_table.specs.ServersOf.{servers_of}
use Rattle.server_table.specs.declared.table.Servers.{Servers}
use Rattle.thread_table.specs.Shown.{threads_of}
use Rattle.thread_table.specs.declared.table.Threads.{Threads}
use Rattle.thread_table.specs.declared.thread.Thread.{Thread as TableThread}
use Rattle.xk_base.specs.Tables.Circle.{id_at}
use Rattle.xk_base.specs.declared.ids.ThreadId.{ThreadId}
use Rattle.save_path.specs.Rows.{claim_at, server_at, thread_at}
use Rattle.suspend_image.specs.SavedRows.{claim_row, server_row, thread_row}

-- ---- claims

pub claim_there : (t : Claims) (k : ℕ) (x : TableClaim) → claims_of t k ≡ Some x
    → claim_at (pending_shown t) (claims_shown t) k ≡ Some (claim_row (λ j. x.pending) k (claim_of x))
claim_there t k x e =
    ap (λ (o : Option TableClaim). option_map (claim_row (pending_shown t) k) (option_map claim_of o)) e
    ∙ ap (λ (o : Option TableClaim). Some (claim_row (λ j. option_map_or (λ (c : TableClaim). c.pending) o false) k (claim_of x))) e

pub claim_gone : (t : Claims) (k : ℕ) → claims_of t k ≡ None → claim_at (pending_shown t) (claims_shown t) k ≡ None
claim_gone t k e = rw e refl

-- ---- threads

pub thread_there : (t : Threads) (k : ℕ) (x : TableThread) → threads_of t (id_at k) ≡ Some x
    → thread_at (threads_shown t) k ≡ Some (thread_row (id_at k) (thread_of x))
thread_there t k x e = rw e refl

pub thread_gone : (t : Threads) (k : ℕ) → threads_of t (id_at k) ≡ None → thread_at (threads_shown t) k ≡ None
thread_gone t k e = rw e refl

-- ---- servers

pub server_there : (t : Servers) (q : List Seat) (n : ℕ) (x : TableServer) → (servers_of t).live n ≡ Some x
    → server_at (servers_shown t q) n ≡ Some (server_row n (server_of q x))
server_there t q n x e = rw e refl

pub server_gone : (t : Servers) (q : List Seat) (n : ℕ) → (servers_of t).live n ≡ None → server_at (servers_shown t q) n ≡ None
server_gone t q n e = rw e refl

pub thread_there_as : (t : Threads) (k : ℕ) (id : ThreadId) (x : TableThread) → id ≡ id_at k → threads_of t id ≡ Some x
    → thread_at (threads_shown t) k ≡ Some (thread_row id (thread_of x))
thread_there_as t k id x same e =
    thread_there t k x (ap (threads_of t) (sym same) ∙ e) ∙ ap (λ (i : ThreadId). Some (thread_row i (thread_of x))) (sym same)

-- ---- what a borrow shows

pub copied : {A : Type 0} (o : Option (Bor A)) (x : Bor A) → o ≡ Some x → option_copied o ≡ Some x.now
copied o x e = ap option_copied e

pub copied_none : {A : Type 0} (o : Option (Bor A)) → o ≡ None → option_copied o ≡ None
copied_none o e = ap option_copied e

pub is_some-map : {A B : Type 0} (f : A → B) (o : Option A) → is_some (option_map f o) ≡ is_some o
is_some-map f None = refl
is_some-map f (Some x) = refl

-- a yes as a number
pub byte_is : (b : Bool) → bool_byte b ≡ (if b then 1 else 0)
byte_is true = refl
byte_is false = refl

-- ---- what a list has, place by place

pub count_more : {A : Type 0} (xs : List A) (k : ℕ) → is_some (slice_get xs k) ≡ true → k + 1 ≤ length xs
count_more {A = A} xs k e = go (slice_get xs k) refl e
  where
    go : (o : Option A) → slice_get xs k ≡ o → is_some o ≡ true → k + 1 ≤ length xs
    go None q there = absurd (false≢true there)
    go (Some x) q there = let within = slice_get_within xs k x q in omega arith

pub count_ends : {A : Type 0} (xs : List A) (k : ℕ) → is_some (slice_get xs k) ≡ false → k ≤ length xs → k ≡ length xs
count_ends xs k e low = elim (slice_get_cases xs k).1 [
  | inl h ↦ absurd (false≢true (sym e ∙ ap is_some h.2))
  | inr h ↦ let past = h.0 in omega arith
]

-- ---- processes

pub connections_shown : (o : Option ProcessState) → connections_of o ≡ (process_of o).connections
connections_shown None = refl
connections_shown (Some p) = refl

pub alive_shown : (o : Option ProcessState) → is_alive o ≡ (process_of o).alive
alive_shown None = refl
alive_shown (Some p) = refl

pub heap_shown : (o : Option ProcessState) → heap_of o ≡ (process_of o).heap
heap_shown None = refl
heap_shown (Some p) = refl

pub connected_at : (servers : List Serial) (k : ℕ) → connected_to servers (k + 2) ≡ slice_get servers k
connected_at servers k =
    let low : ltb (k + 2) 2 ≡ false = le-ltb (k + 2) 2 (omega arith) in
    let same : k + 2 - 2 ≡ k = omega arith in
    ap (λ b. if b then None else slice_get servers (k + 2 - 2)) low ∙ ap (slice_get servers) same

-- the server that the connection of a place leads to
pub connection_at : (o : Option ProcessState) (k : ℕ) → connected_to (connections_of o) (k + 2) ≡ slice_get (process_of o).connections k
connection_at o k = connected_at (connections_of o) k ∙ ap (λ (servers : List Serial). slice_get servers k) (connections_shown o)

-- What a kernel has beside its pages fits into words, key by key; and so the machine is one that state bytes are read as again.
use Rattle.std.proofs.Common.{◌≡◌, ℕ, zero, suc, ◌+◌, ◌<◌, ◌≤◌, Bool, true, false, ltb, List, ◌∷◌, get_or, length, drop, drop-cons, Option, Some, None, refl, sym, ap, subst, ◌∙◌, arith}
use Rattle.std.specs.Prelude.{IsTrue, nat_le, nat_lt}
use Rattle.std.specs.Option.{option_map}
use Rattle.std.proofs.lemmas.Bool.{and_parts, eqb-true, leb-true, ltb-false, ltb-true}
use Rattle.std.proofs.lemmas.List.Elements.{All-from_get_or, All-get_or}
use Rattle.std.proofs.lemmas.Option.{none-some, same_Some}
use borrow.Author.Count.{below_more}
use Rattle.ledger_model.specs.Ledger.{Orphan, Page, PageLoan, loan_at}
use Rattle.ledger_model.specs.Loans.{loan_of_orphan, loans, orphan_loan_at}
use Rattle.ledger_model.specs.WholePages.{HasWholePages}
use Rattle.machine_model.proofs.Matching.CountLemmas.{first_in}
use Rattle.machine_model.proofs.Matching.OneMessageLemmas.{HasServer, one_server}
use Rattle.machine_model.specs.Messaging.MessageCounts.{HasOne}
use Rattle.machine_model.specs.Messaging.Messages.{is_lend, is_lend_of, is_of_number}
use Rattle.machine_model.specs.Runs.Matched.{Matched}
use Rattle.machine_model.specs.State.Machine.{Claim, Machine, Server, Thread}
use Rattle.machine_model.specs.State.Servers.{messages_of}
use Rattle.suspend_image.specs.Reading.{greatest}
use Rattle.suspend_image.specs.Saveable.{HasSizes, IsClaimSaveable, IsSaveable, IsServerSaveable}
use Rattle.xk_base.proofs.CircleLemmas.{id_at-place_of, place_of-bound}
use Rattle.xk_base.specs.Tables.Circle.{is_pid, is_thread_id, is_tid, place_of}
use Rattle.xk_base.specs.declared.ids.Number.{Number}
use Rattle.xk_base.specs.declared.ids.Place.{Place}
use Rattle.xk_base.specs.declared.ids.ThreadId.{ThreadId}
use Rattle.xk_base.specs.declared.messages.Message.{Message}
use Rattle.machine_laws.specs.Reserved.{IsReservedByThread}
use Rattle.save_path.specs.Fitting.{AreRegisters, EachBelow, IsFit, IsMessageFit, IsServerFit, IsThreadFit}

-- ---- key by key

pub each_none : {A : Type 0} (f : ℕ → Option A) (Is : A → Type 0) → EachBelow 0 f Is
each_none f Is k v low e = absurd (omega arith)

pub each_more : {A : Type 0} (f : ℕ → Option A) (Is : A → Type 0) (n : ℕ) → EachBelow n f Is → ((v : A) → f n ≡ Some v → Is v) → EachBelow (n + 1) f Is
each_more {A = A} f Is n below here k v low e = below_more (λ j. (x : A) → f j ≡ Some x → Is x) n (λ j under x q. below j x under q) here k low v e

-- what is there is this
pub each_this : {A : Type 0} (f : ℕ → Option A) (Is : A → Type 0) (n : ℕ) (x : A) → EachBelow n f Is → f n ≡ Some x → Is x → EachBelow (n + 1) f Is
each_this f Is n x below there is = each_more f Is n below (λ v e. subst Is (same_Some x v (sym there ∙ e)) is)

pub each_gone : {A : Type 0} (f : ℕ → Option A) (Is : A → Type 0) (n : ℕ) → EachBelow n f Is → f n ≡ None → EachBelow (n + 1) f Is
each_gone f Is n below gone = each_more f Is n below (λ v e. absurd (none-some v (sym gone ∙ e)))

-- numbers at which nothing is are passed over
pub each_gap : {A : Type 0} (f : ℕ → Option A) (Is : A → Type 0) (low n : ℕ) → EachBelow low f Is
    → ((k : ℕ) → low ≤ k → k < n → f k ≡ None) → EachBelow n f Is
each_gap f Is low n below none k v under e = go (ltb k low) refl
  where
    go : (b : Bool) → ltb k low ≡ b → Is v
    go true q = below k v (ltb-true k low q) e
    go false q = let behind = ltb-false k low q in absurd (none-some v (sym (none k (omega arith) under) ∙ e))

-- ---- registers

pub registers_are : (regs : List ℕ) → length regs ≡ 32 → get_or regs 0 0 ≡ 0 → ((j : ℕ) → j < 31 → get_or regs (j + 1) 0 ≤ greatest)
    → AreRegisters regs
registers_are regs many first words = record {
  many = many;
  zero = (drop 1 regs, drop-cons regs 0 0 (omega arith) ∙ ap (λ (n : ℕ). n ∷ drop 1 regs) first);
  words = All-from_get_or (λ r. r ≤ greatest) regs 0 each;
}
  where
    each : (i : ℕ) → i < length regs → get_or regs i 0 ≤ greatest
    each zero low = omega arith
    each (suc j) low = subst (λ k. get_or regs k 0 ≤ greatest) (let e : j + 1 ≡ suc j = omega arith in e) (words j (omega arith))

-- ---- a machine whose numbers fit

module _ (m : Machine) (fit : IsFit m) (h : Matched m) where
  thread_fit : (id : ThreadId) (t : Thread) → m.threads id ≡ Some t → IsThreadFit t
  thread_fit id t e =
      let known : is_thread_id m.processes id ≡ true = h.body.ids.known id t e in
      fit.threads (place_of id) t (place_of-bound m.processes id known) (ap m.threads (id_at-place_of m.processes id known) ∙ e)

  server_fit : (n : ℕ) (s : Server) → m.servers n ≡ Some s → IsServerFit s
  server_fit n s e = fit.servers n s (h.rest.above.serials n s e) e

  claim_fit : (k : ℕ) (c : Claim) → m.claims k ≡ Some c → IsClaimSaveable c
  claim_fit k c e = fit.claims k c (h.rest.claims.numbers k c e) e

  -- the number of a loan is that of a message
  number_fit : (number : Number) → HasOne m.servers (is_lend_of number) → number.0 ≤ greatest
  number_fit number one =
      let at : HasServer m.servers (is_lend_of number) = one_server m.servers (is_lend_of number) one in
      let found = first_in (is_lend_of number) (messages_of at.server) at.some in
      let message : Message = get_or (messages_of at.server) found.0 found.1 in
      let its : IsMessageFit message =
      All-get_or IsMessageFit (messages_of at.server) found.0 found.1 found.2 (server_fit at.serial at.server at.live).messages in
      let same : message.number.0 ≡ number.0 =
      eqb-true message.number.0 number.0 (and_parts (is_of_number number message) (is_lend message.kind) found.3).0 in
      subst (λ n. n ≤ greatest) same its.words.number

  loan_fit : (p : Place) (page : Page) (loan : PageLoan) → m.ledger.home p ≡ Some page → page.loan ≡ Some loan → loan.number.0 ≤ greatest
  unfolding loans
  loan_fit p page loan e q =
      let there : loan_at m.ledger p ≡ Some loan = rw e q in
      number_fit loan.number (h.body.loans.loans_sent p loan there)

  orphan_fit : (p : Place) (o : Orphan) → m.ledger.orphan p ≡ Some o → o.number.0 ≤ greatest
  unfolding loans
  orphan_fit p o e =
      let there : orphan_loan_at m.ledger p ≡ Some (loan_of_orphan o) = ap (option_map loan_of_orphan) e in
      number_fit o.number (h.body.loans.orphans_sent p (loan_of_orphan o) there)

  some_process : IsTrue (is_thread_id m.processes m.cursor) → 1 ≤ m.processes
  some_process cursor =
      let pid = m.cursor.pid.0 in
      let parts = and_parts (is_pid m.processes pid) (is_tid m.cursor.tid.0) cursor in
      let bounds = and_parts (nat_le 2 pid) (nat_lt pid (m.processes + 2)) parts.0 in
      let low = leb-true 2 pid bounds.0 in
      let high = ltb-true pid (m.processes + 2) bounds.1 in
      omega arith

  server_saveable : (s : Server) → IsServerFit s → IsServerSaveable s
  server_saveable s its = record { sid = its.sid; messages = λ k d low. (its.messages k d low).words }

  sizes_from : HasWholePages m.ledger → HasSizes m
  sizes_from whole = record {
    registers = λ id t e. (thread_fit id t e).registers;
    identifiers = λ n s e. (server_fit n s e).four;
    words = λ n s e k d low. ((server_fit n s e).messages k d low).four;
    whole = whole;
  }

  pub saveable_from : HasWholePages m.ledger → m.capacity ≤ 32768 → IsTrue (is_thread_id m.processes m.cursor) → m.steps ≤ 4000000000
      → IsReservedByThread m → IsSaveable m
  saveable_from whole few cursor steps reserved = record {
    sizes = sizes_from whole;
    capacity = few;
    some_process = some_process cursor;
    steps = steps;
    cursor = cursor;
    compare = fit.numbers.compare;
    reserved_by = reserved;
    reserved_at = fit.numbers.reserved;
    threads = λ id t e. (thread_fit id t e).words;
    servers = λ n s e. server_saveable s (server_fit n s e);
    claims = claim_fit;
    loans = loan_fit;
    orphans = orphan_fit;
  }

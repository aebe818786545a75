-- A state of words that has the invariant can be saved.
use Rattle.std.proofs.Common.{◌≡◌, ℕ, ◌+◌, ◌<◌, ◌≤◌, Bool, true, false, List, [], ◌∷◌, Option, Some, None, is_some, refl, ap, subst, ◌∙◌, arith}
use Rattle.std.specs.Prelude.{All, IsTrue, if◌then◌else◌, nat_le}
use Rattle.std.specs.Option.{option_map, option_map_or}
use Rattle.std.proofs.lemmas.Bool.{and_parts, eq-eqb, eqb-true, false≢true, leb-true}
use Rattle.std.proofs.lemmas.List.Elements.{All-head, All-tail}
use Rattle.xk_base.specs.declared.ids.Number.{Number}
use Rattle.xk_base.specs.declared.ids.Place.{Place}
use Rattle.xk_base.specs.declared.ids.ThreadId.{ThreadId}
use Rattle.xk_base.specs.declared.limits.TheConstants.{TID_LIMIT}
use Rattle.xk_base.specs.declared.messages.Message.{Message}
use Rattle.xk_base.specs.Tables.Circle.{is_pid, is_thread_id, is_tid}
use Rattle.ledger_model.specs.Ledger.{Orphan, Page, PageLoan, loan_of}
use Rattle.ledger_model.specs.Loans.{OrphanLoan, loans}
use Rattle.machine_model.specs.Messaging.MessageCounts.{HasOne, count_at, count_in, HasIf}
use Rattle.machine_model.specs.Messaging.Messages.{is_lend, is_lend_of, is_of_number, is_sent_by}
use Rattle.machine_model.specs.Runs.Matched.{Matched, is_sent_as, is_waiting_for, waits_for}
use Rattle.machine_model.specs.State.Machine.{Machine, Server, Thread, ThreadState, Ready, Receiving, Waiting, Joining, Idle}
use Rattle.machine_model.specs.State.Servers.{messages_of}
use Rattle.machine_laws.specs.Reserved.{IsReservedByThread}
use Rattle.suspend_image.specs.Saveable.{IsMessageSaveable, IsSaveable}
use Rattle.suspend_image.specs.SavedRows.{state_waits}
use Rattle.snapshot_laws.specs.Words.{IsMachineOfWords, IsMessageOfWords, greatest}
use Rattle.snapshot_laws.proofs.Words.RegisterLemmas.{first_x0, x0_first}

-- ---- from saveable

pub words_of : (m : Machine) → IsSaveable m → IsMachineOfWords m
words_of m s = record {
  whole = s.sizes.whole;
  threads = λ id t e. record {
    pc = (s.threads id t e).pc;
    regs = record {
      many = s.sizes.registers id t e;
      x0 = first_x0 t.regs (s.threads id t e).zero;
      words = (s.threads id t e).regs;
    };
  };
  servers = λ serial server e. record {
    sid = record { four = s.sizes.identifiers serial server e; words = (s.servers serial server e).sid };
    messages = λ k d within. of_message serial server e k d within;
  };
  claims = λ number c e. record { handler = (s.claims number c e).handler; argument = (s.claims number c e).argument };
  compare = s.compare;
  reserved = s.reserved_at;
}
  where
    of_message : (serial : ℕ) (server : Server) (e : m.servers serial ≡ Some server) → All IsMessageOfWords (messages_of server)
    of_message serial server e k d within =
        let a = (s.servers serial server e).messages k d within in
        record {
          number = a.number;
          id = a.id;
          words = record { four = s.sizes.words serial server e k d within; words = a.words };
          first = a.first;
          count = a.count;
        }

-- ---- to saveable

-- a message that passes
module _ (Q : Type 0) (P : Message → Type 0) (test : Message → Bool) (says : (x : Message) → P x → test x ≡ true → Q) where
  of_one : (xs : List Message) → count_in test xs ≡ 1 → All P xs → Q
  unfolding count_in
  of_one [] one all = absurd (let d : 0 ≡ 1 = one in omega arith)
  of_one (x ∷ xs) one all = go (test x) refl one (λ rest. of_one xs rest (All-tail P x xs all))
    where
      go : (b : Bool) → test x ≡ b → (if b then 1 else 0) + count_in test xs ≡ 1 → (count_in test xs ≡ 1 → Q) → Q
      go true e counted others = says x (All-head P x xs all) e
      go false e counted others = others (omega arith)

  of_server : (o : Option Server) → count_at test o ≡ 1 → ((s : Server) → o ≡ Some s → All P (messages_of s)) → Q
  of_server None one all = absurd (let d : 0 ≡ 1 = one in omega arith)
  of_server (Some s) one all = of_one (messages_of s) one (all s refl)

module _ (m : Machine) (k : Matched m) (few : m.steps ≤ 4000000000) where
  -- the number of a message that there is
  number_fits : (number : Number) (test : Message → Bool) → ((x : Message) → test x ≡ true → x.number.0 ≡ number.0) → HasOne m.servers test
      → number.0 ≤ greatest
  number_fits number test is one =
      of_server (number.0 ≤ greatest) (λ (x : Message). x.number.0 < m.next_number) test
      (λ x low e.
      let same : x.number.0 ≡ number.0 = is x e in
      let next : m.next_number ≤ m.steps + 1 = k.rest.stepped.number_steps in
      omega arith)
      (m.servers one.serial) one.here (λ s e. k.rest.above.numbers one.serial s e)

  of_number : (number : Number) (x : Message) → is_of_number number x ≡ true → x.number.0 ≡ number.0
  of_number number x e = eqb-true x.number.0 number.0 e

  lend_number : (number : Number) (x : Message) → is_lend_of number x ≡ true → x.number.0 ≡ number.0
  lend_number number x e = of_number number x (and_parts (is_of_number number x) (is_lend x.kind) e).0

  sent_number : (who : ThreadId) (number : Number) (x : Message) → is_sent_as who number x ≡ true → x.number.0 ≡ number.0
  sent_number who number x e = of_number number x (and_parts (is_of_number number x) (is_sent_by who x) e).0

  serial_fits : (n : ℕ) → n < m.next_serial → n ≤ greatest
  serial_fits n low = let next : m.next_serial ≤ m.steps + 1 = k.rest.stepped.serial_steps in omega arith

  waiting : (id : ThreadId) (t : Thread) (number : Number) → m.threads id ≡ Some t → t.state ≡ Waiting number → waits_for m.threads id number ≡ true
  waiting id t number e st =
      ap (λ o. option_map_or (λ (u : Thread). is_waiting_for number u.state) o false) e
      ∙ (ap (is_waiting_for number) st ∙ eq-eqb number.0 number.0 refl)

  waits_fit : (id : ThreadId) (t : Thread) → m.threads id ≡ Some t → (state : ThreadState) → t.state ≡ state → state_waits state ≤ greatest
  waits_fit id t e Ready st = omega arith
  waits_fit id t e (Receiving serial) st =
      let awaited = k.body.receivers id t serial e st in serial_fits serial.0 (k.rest.above.serials serial.0 awaited.server awaited.live)
  waits_fit id t e (Waiting number) st =
      number_fits number (is_sent_as id number) (sent_number id number)
      (subst (λ b. HasIf b m.servers (is_sent_as id number)) (waiting id t number e st) (k.body.senders.senders id number))
  waits_fit id t e (Joining tid) st = there (m.threads (record { pid = id.pid; tid = tid })) refl (k.body.joiners id t tid e st).live
    where
      there : (o : Option Thread) → m.threads (record { pid = id.pid; tid = tid }) ≡ o → IsTrue (is_some o) → tid.0 ≤ greatest
      there None f live = absurd (false≢true live)
      there (Some u) f live =
          let known : is_thread_id m.processes (record { pid = id.pid; tid = tid }) ≡ true = k.body.ids.known (record { pid = id.pid; tid = tid }) u f in
          let tids : is_tid tid.0 ≡ true = (and_parts (is_pid m.processes id.pid.0) (is_tid tid.0) known).1 in
          let low : tid.0 ≤ TID_LIMIT = leb-true tid.0 TID_LIMIT (and_parts (nat_le 1 tid.0) (nat_le tid.0 TID_LIMIT) tids).1 in
          omega arith
  waits_fit id t e Idle st = omega arith

  loan_fits : (p : Place) (page : Page) (loan : PageLoan) → m.ledger.home p ≡ Some page → page.loan ≡ Some loan → loan.number.0 ≤ greatest
  unfolding loans
  loan_fits p page loan e f =
      number_fits loan.number (is_lend_of loan.number) (lend_number loan.number) (k.body.loans.loans_sent p loan (ap loan_of e ∙ f))

  orphan_fits : (p : Place) (o : Orphan) → m.ledger.orphan p ≡ Some o → o.number.0 ≤ greatest
  unfolding loans
  orphan_fits p o e =
      let loan : OrphanLoan = record { kind = o.kind; number = o.number } in
      number_fits o.number (is_lend_of o.number) (lend_number o.number)
      (k.body.loans.orphans_sent p loan (ap (option_map (λ (x : Orphan). record { kind = x.kind; number = x.number })) e))

  pub saveable_of : IsMachineOfWords m → m.capacity ≤ 32768 → 1 ≤ m.processes → IsTrue (is_thread_id m.processes m.cursor)
      → IsReservedByThread m → IsSaveable m
  saveable_of h room some cursor reserved = record {
    sizes = record {
      registers = λ id t e. (h.threads id t e).regs.many;
      identifiers = λ serial s e. (h.servers serial s e).sid.four;
      words = λ serial s e j d within. ((h.servers serial s e).messages j d within).words.four;
      whole = h.whole;
    };
    capacity = room;
    some_process = some;
    steps = few;
    cursor = cursor;
    compare = h.compare;
    reserved_by = reserved;
    reserved_at = h.reserved;
    threads = λ id t e. record {
      pc = (h.threads id t e).pc;
      waits = waits_fit id t e t.state refl;
      zero = x0_first t.regs (h.threads id t e).regs;
      regs = (h.threads id t e).regs.words;
    };
    servers = λ serial s e. record {
      sid = (h.servers serial s e).sid.words;
      messages = λ j d within. of_message serial s e j d within;
    };
    claims = λ number c e. record { handler = (h.claims number c e).handler; argument = (h.claims number c e).argument };
    loans = loan_fits;
    orphans = orphan_fits;
  }
    where
      of_message : (serial : ℕ) (s : Server) (e : m.servers serial ≡ Some s) → All IsMessageSaveable (messages_of s)
      of_message serial s e j d within =
          let a = (h.servers serial s e).messages j d within in
          record { number = a.number; id = a.id; words = a.words.words; first = a.first; count = a.count }

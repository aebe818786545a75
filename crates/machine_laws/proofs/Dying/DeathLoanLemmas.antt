-- A process that has no server, and of which no thread is Waiting, lends nothing and holds nothing at its places.
use Rattle.std.proofs.Common.{◌≡◌, ℕ, ◌+◌, Bool, true, false, get_or, Option, Some, None, refl, sym, ap, ◌∙◌}
use Rattle.std.specs.Prelude.{◌==◌, ◌&&◌, is_some, is_none, nat_le, nat_lt, if◌then◌else◌}
use Rattle.std.specs.List.{All}
use Rattle.std.specs.Option.{option_map, option_map_or}
use Rattle.std.proofs.lemmas.Bool.{eq-eqb, eqb-true, false≢true, and_parts}
use Rattle.std.proofs.lemmas.Option.{none-some, same_Some}
use Rattle.std.proofs.lemmas.List.Elements.{All-contains}
use Rattle.xk_base.specs.declared.ids.Number.{Number}
use Rattle.xk_base.specs.declared.ids.Pid.{Pid}
use Rattle.xk_base.specs.declared.ids.Place.{Place}
use Rattle.xk_base.specs.declared.ids.ThreadId.{ThreadId}
use Rattle.xk_base.specs.declared.messages.Message.{Message}
use Rattle.xk_base.specs.declared.pages.LoanKind.{LoanKind}
use Rattle.ledger_model.specs.Conditions.{is_lent}
use Rattle.ledger_model.specs.Ledger.{Page, PageLoan, Orphan, loan_at}
use Rattle.ledger_model.specs.Loans.{LoanRun, Stands, loans, of_number, orphan_of_number, loan_of_orphan, OrphanLoan}
use Rattle.ledger_model.specs.Places.{in_run, moved}
use Rattle.machine_model.specs.State.Machine.{Machine, Server}
use Rattle.machine_model.specs.Runs.Matched.{Matched, IsLendMatched, IsOnLoan, lend_run, waits_for}
use Rattle.machine_model.specs.Messaging.MessageCounts.{HasOne}
use Rattle.machine_model.specs.Messaging.Messages.{is_lend_of, is_sent_from}
use Rattle.machine_model.specs.State.Servers.{messages_of}
use Rattle.machine_model.proofs.Matching.MatchedLemmas.{IsLent, lent_by, senders_wait}
use Rattle.machine_laws.proofs.Dying.DeathForgetLemmas.{IsForgettable}

no_loan : (o : Option Page) → ((page : Page) (loan : PageLoan) → o ≡ Some page → page.loan ≡ Some loan → is_lent o ≡ false) → is_lent o ≡ false
no_loan None h = refl
no_loan (Some page) h = go page.loan refl
  where
    go : (l : Option PageLoan) → page.loan ≡ l → is_some l ≡ false
    go None e = refl
    go (Some loan) e = sym (ap is_some e) ∙ h page loan refl e

module _ (m : Machine) (h : Matched m) (pid : Pid) (strange : (n : ℕ) (server : Server) → m.servers n ≡ Some server → (server.pid.0 == pid.0) ≡ false)
    (unwaiting : (id : ThreadId) (number : Number) → (id.pid.0 == pid.0) ≡ true → waits_for m.threads id number ≡ false) where
  -- no message is from one of its threads, since each sender waits
  pub unsent : (n : ℕ) (server : Server) → m.servers n ≡ Some server → All (λ x. is_sent_from pid x ≡ false) (messages_of server)
  unsent n server e j d low = go (get_or (messages_of server) j d).sender refl
    where
      waiting : (who : ThreadId) → (get_or (messages_of server) j d).sender ≡ Some who
          → waits_for m.threads who (get_or (messages_of server) j d).number ≡ true
      waiting who sent = senders_wait m h n server e j d low who sent

      go : (o : Option ThreadId) → (get_or (messages_of server) j d).sender ≡ o → option_map_or (λ (who : ThreadId). who.pid.0 == pid.0) o false ≡ false
      go None q = refl
      go (Some who) q = by_pid (who.pid.0 == pid.0) refl
        where
          by_pid : (b : Bool) → (who.pid.0 == pid.0) ≡ b → b ≡ false
          by_pid false r = refl
          by_pid true r = absurd (false≢true (sym (unwaiting who (get_or (messages_of server) j d).number r) ∙ waiting who q))

  -- the lend of a number that is on loan: it isn't at a server of the process, nor from one of its threads
  record IsLentBy (number : Number) : Type 0 where
    server : Server
    message : Message
    kind : LoanKind
    same : message.number.0 ≡ number.0
    lend : IsLendMatched (loans m.ledger) server message kind
    elsewhere : (server.pid.0 == pid.0) ≡ false
    foreign : is_sent_from pid message ≡ false

  lent_elsewhere : (number : Number) → HasOne m.servers (is_lend_of number) → IsLentBy number
  lent_elsewhere number one =
      let by : IsLent m h number = lent_by m h number one in
      record {
        server = by.server;
        message = by.message;
        kind = by.kind;
        same = ap (λ (x : Number). x.0) by.same;
        lend = by.lend;
        elsewhere = strange by.serial by.server by.live;
        foreign = All-contains (λ x. is_sent_from pid x ≡ false) (messages_of by.server) by.message
            (unsent by.serial by.server by.live) by.listed;
      }

  -- ---- where a page on loan is, and where it is held

  loan_in_run : (r : LoanRun) (from p : Place) (loan : PageLoan) (b : Bool) → in_run from r.count p ≡ b
      → (if b then Some (record { holder = moved from r.holder p; kind = r.kind; number = r.number }) else None) ≡ Some loan
      → (p.pid.0 ≡ from.pid.0) × (loan.holder.pid.0 ≡ r.holder.pid.0)
  loan_in_run r from p loan false q e = absurd (none-some loan e)
  loan_in_run r from p loan true q e =
      let parts : ((p.pid.0 == from.pid.0) ≡ true) × ((nat_le from.vpn.0 p.vpn.0 && nat_lt p.vpn.0 (from.vpn.0 + r.count)) ≡ true) =
      and_parts (p.pid.0 == from.pid.0) (nat_le from.vpn.0 p.vpn.0 && nat_lt p.vpn.0 (from.vpn.0 + r.count)) q in (
        eqb-true p.pid.0 from.pid.0 parts.0,
        sym (ap (λ (x : PageLoan). x.holder.pid.0) (same_Some (record { holder = moved from r.holder p; kind = r.kind; number = r.number }) loan e)),
      )

  abbrev Apart : Place → PageLoan → Type 0
  Apart p loan = ((p.pid.0 == pid.0) ≡ false) × ((loan.holder.pid.0 == pid.0) ≡ false)

  home_of_run : (p : Place) (loan : PageLoan) (number : Number) → number.0 ≡ loan.number.0 → loan_at m.ledger p ≡ Some loan
      → of_number number ((loans m.ledger).home p) ≡ Some loan
  unfolding loans
  home_of_run p loan number s e =
      ap (of_number number) e ∙ ap (λ b. if b then Some loan else None) (eq-eqb loan.number.0 number.0 (sym s))

  apart : (p : Place) (loan : PageLoan) → loan_at m.ledger p ≡ Some loan → Apart p loan
  unfolding loans
  apart p loan e =
      let by : IsLentBy loan.number = lent_elsewhere loan.number (h.body.loans.loans_sent p loan e) in
      go by by.message.sender by.lend.loan by.foreign
    where
      go : (by : IsLentBy loan.number) (o : Option ThreadId) → IsOnLoan (loans m.ledger) by.server by.message by.kind o
          → option_map_or (λ (who : ThreadId). who.pid.0 == pid.0) o false ≡ false → Apart p loan
      go by None s u = absurd (none-some loan (sym (s.homes p) ∙ home_of_run p loan by.message.number by.same e))
      go by (Some sender) s u =
          let run : LoanRun = lend_run by.server by.message by.kind (Some s.0) in
          let places : (p.pid.0 ≡ s.0.pid.0) × (loan.holder.pid.0 ≡ by.server.pid.0) =
          loan_in_run run s.0 p loan (in_run s.0 run.count p) refl (sym (s.2.homes p) ∙ home_of_run p loan by.message.number by.same e) in
          (ap (λ n. n == pid.0) (places.0 ∙ ap (λ (q : Pid). q.0) s.1) ∙ u, ap (λ n. n == pid.0) places.1 ∙ by.elsewhere)

  orphan_there : (p : Place) (orphan : Orphan) (number : Number) → number.0 ≡ orphan.number.0 → m.ledger.orphan p ≡ Some orphan
      → orphan_of_number number ((loans m.ledger).orphan p) ≡ Some (loan_of_orphan orphan)
  unfolding loans
  orphan_there p orphan number s e =
      ap (λ o. orphan_of_number number (option_map loan_of_orphan o)) e
      ∙ ap (λ b. if b then Some (loan_of_orphan orphan) else None) (eq-eqb orphan.number.0 number.0 (sym s))

  orphan_in_run : (r : LoanRun) (p : Place) (loan : OrphanLoan) (b : Bool) → (is_none r.lender && in_run r.holder r.count p) ≡ b
      → (if b then Some (record { kind = r.kind; number = r.number }) else None) ≡ Some loan → p.pid.0 ≡ r.holder.pid.0
  orphan_in_run r p loan false q e = absurd (none-some loan e)
  orphan_in_run r p loan true q e =
      let both : (is_none r.lender ≡ true) × (in_run r.holder r.count p ≡ true) = and_parts (is_none r.lender) (in_run r.holder r.count p) q in
      let parts : ((p.pid.0 == r.holder.pid.0) ≡ true) × ((nat_le r.holder.vpn.0 p.vpn.0 && nat_lt p.vpn.0 (r.holder.vpn.0 + r.count)) ≡ true) =
      and_parts (p.pid.0 == r.holder.pid.0) (nat_le r.holder.vpn.0 p.vpn.0 && nat_lt p.vpn.0 (r.holder.vpn.0 + r.count)) both.1 in
      eqb-true p.pid.0 r.holder.pid.0 parts.0

  orphan_apart : (p : Place) (orphan : Orphan) → m.ledger.orphan p ≡ Some orphan → (p.pid.0 == pid.0) ≡ false
  unfolding loans
  orphan_apart p orphan e =
      let by : IsLentBy orphan.number = lent_elsewhere orphan.number (h.body.loans.orphans_sent p (loan_of_orphan orphan) (ap (option_map loan_of_orphan) e)) in
      go by by.message.sender by.lend.loan
    where
      of_run : (by : IsLentBy orphan.number) (lender : Option Place) → Stands (loans m.ledger) (lend_run by.server by.message by.kind lender)
          → (p.pid.0 == pid.0) ≡ false
      of_run by lender s =
          let run : LoanRun = lend_run by.server by.message by.kind lender in
          ap (λ n. n == pid.0)
          (orphan_in_run run p (loan_of_orphan orphan) (is_none run.lender && in_run run.holder run.count p) refl
          (sym (s.orphans p) ∙ orphan_there p orphan by.message.number by.same e))
          ∙ by.elsewhere

      go : (by : IsLentBy orphan.number) (o : Option ThreadId) → IsOnLoan (loans m.ledger) by.server by.message by.kind o → (p.pid.0 == pid.0) ≡ false
      go by None s = of_run by None s
      go by (Some sender) s = of_run by (Some s.0) s.2

  own_not_lent : (p : Place) → p.pid.0 ≡ pid.0 → is_lent (m.ledger.home p) ≡ false
  own_not_lent p e = no_loan (m.ledger.home p) (λ page loan there l.
      absurd (false≢true (sym ((apart p loan (loan_of_page page loan there l)).0) ∙ eq-eqb p.pid.0 pid.0 e)))
    where
      loan_of_page : (page : Page) (loan : PageLoan) → m.ledger.home p ≡ Some page → page.loan ≡ Some loan → loan_at m.ledger p ≡ Some loan
      loan_of_page page loan there l = rw there l

  pub plain_forgettable : IsForgettable m pid
  plain_forgettable = record {
    can = record { not_lent = own_not_lent };
    holders = λ p loan e. (apart p loan e).1;
    orphans = orphan_apart;
    servers = strange;
    waits = unwaiting;
  }

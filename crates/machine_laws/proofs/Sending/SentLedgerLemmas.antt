-- The ledger after a send: pages are lent or moved to the server, or none is.
use Rattle.std.proofs.Common.{◌≡◌, ℕ, ◌<◌, ◌≤◌, Bool, true, false, ◌⊎◌, inl, inr, Option, Some, None, sym, ap, ◌∙◌, arith, subst}
use Rattle.std.specs.Prelude.{nat_le}
use Rattle.std.specs.Option.{option_map}
use Rattle.std.proofs.lemmas.Bool.{and_from, and_parts, cases_Bool, eq-eqb, leb-true}
use Rattle.std.proofs.lemmas.Option.{none-some, same_Some}
use Rattle.xk_base.specs.declared.ids.Number.{Number}
use Rattle.xk_base.specs.declared.ids.Pid.{Pid}
use Rattle.xk_base.specs.declared.ids.Place.{Place}
use Rattle.xk_base.specs.declared.ids.ThreadId.{ThreadId}
use Rattle.xk_base.specs.declared.messages.Message.{Message}
use Rattle.xk_base.specs.declared.pages.LoanKind.{LoanKind}
use Rattle.xk_base.specs.declared.windows.Window.TheVariants.{Heap, Message as MessageWindow}
use Rattle.xk_base.specs.Tables.Circle.{is_pid}
use Rattle.xk_base.specs.Numbers.Windows.{in_window}
use Rattle.ledger_model.specs.Conditions.{CanGive, CanLend}
use Rattle.ledger_model.specs.Ledger.{Ledger, Page, PageLoan, loan_at}
use Rattle.ledger_model.specs.Loans.{Loans, OrphanLoan, Stands, loan_of_orphan, loans}
use Rattle.ledger_model.specs.Places.{in_run}
use Rattle.ledger_model.specs.Steps.{give, lend}
use Rattle.ledger_model.proofs.Loans.OfNumberLemmas.{SameOf, stands_still}
use Rattle.ledger_model.proofs.PlaceLemmas.{in_run-true}
use Rattle.ledger_model.proofs.Stepping.GivingLemmas.{give_lawful, give_left, give_loans, give_orphan, give_outside}
use Rattle.ledger_model.proofs.Stepping.LendingLemmas.{lend_lawful, lend_loan_inside, lend_loan_outside, lend_orphan, lend_other, lend_outside, lend_stands, lend_was, loan_to}
use Rattle.machine_model.specs.Messaging.Messages.{is_lend, is_lend_of, is_of_number, loan_kind, new_number}
use Rattle.machine_model.specs.Runs.Matched.{AreHeapsMatched, IsLedgerMatched, IsLendMatched, IsMessageLent, IsOnLoan, Matched, is_living, lend_run}
use Rattle.machine_model.specs.State.Machine.{Machine, Server}

-- The ledger that a send of the message to a server of this process leaves: what is matched of it, of the loans of older messages and
-- of its own loan, where it is a lend. Each loan is an old one or its own.
pub record IsSentLedger (m : Machine) (pid : Pid) (x : Message) (l : Ledger) : Type 0 where
  pub ledger : IsLedgerMatched m.processes m.capacity m.process l
  pub heaps : AreHeapsMatched m.process l
  pub lends : (server : Server) (y : Message) → y.number.0 < m.next_number → IsMessageLent (loans m.ledger) server y
      → IsMessageLent (loans l) server y
  pub here : (server : Server) → server.pid ≡ pid → IsMessageLent (loans l) server x
  pub loans_sent : (p : Place) (loan : PageLoan) → (loans l).home p ≡ Some loan
      → ((loans m.ledger).home p ≡ Some loan) ⊎ ((is_lend_of loan.number x ≡ true) × (loan.number.0 ≡ m.next_number))
  pub orphans_sent : (p : Place) (orphan : OrphanLoan) → (loans l).orphan p ≡ Some orphan → (loans m.ledger).orphan p ≡ Some orphan

module _ (m : Machine) (h : Matched m) (pid : Pid) (x : Message) where
  -- ---- no page is sent

  pub same_sent : loan_kind x.kind ≡ None → IsSentLedger m pid x m.ledger
  same_sent none = record {
    ledger = h.body.ledger;
    heaps = h.body.heaps;
    lends = λ server y low f. f;
    here = λ server e kind f. absurd (none-some kind (sym none ∙ f));
    loans_sent = λ p loan e. inl e;
    orphans_sent = λ p orphan e. e;
  }

  module _ (from : Place) (n : ℕ) (to : Place) (lives : is_living m to.pid ≡ true) where
    at_server : (p : Place) → in_run to n p ≡ true → is_living m p.pid ≡ true
    at_server p t = ap (λ k. (m.process k).alive) (in_run-true to n p t).pid ∙ lives

    -- ---- pages are moved

    module _ (can : CanGive m.processes m.ledger from n to) where
      abbrev given : Ledger
      given = give from n to m.ledger

      new_or_old : (p : Place) (page : Page) → given.home p ≡ Some page → (in_run to n p ≡ true) ⊎ (m.ledger.home p ≡ Some page)
      new_or_old p page e = elim (cases_Bool (in_run to n p)) [
        | inl t ↦ inl t
        | inr f ↦ elim (cases_Bool (in_run from n p)) [
          | inl u ↦ absurd (none-some page (sym (give_left from n to m.ledger p f u) ∙ e))
          | inr g ↦ inr (sym (give_outside from n to m.ledger p f g) ∙ e)
        ]
      ]

      homes_live : (p : Place) (page : Page) → given.home p ≡ Some page → is_living m p.pid ≡ true
      homes_live p page e = elim (new_or_old p page e) [
        | inl t ↦ at_server p t
        | inr old ↦ h.body.ledger.homes_live p page old
      ]

      loan_was : (p : Place) → loan_at given p ≡ loan_at m.ledger p
      unfolding loans
      loan_was p = ap (λ (k : Loans). k.home p) (give_loans m.processes from n to m.ledger can)

      no_heap : (p : Place) → in_run to n p ≡ true → in_window Heap p.vpn.0 ≡ true → ⊥
      no_heap p t inside =
          let place = and_parts (is_pid m.processes p.pid.0) (in_window MessageWindow p.vpn.0) (can.lies p t) in
          let low : 262144 ≤ p.vpn.0 =
          leb-true 262144 p.vpn.0 (and_parts (nat_le 262144 p.vpn.0) (nat_le p.vpn.0 266239) place.1).0 in
          let high : p.vpn.0 ≤ 135167 =
          leb-true p.vpn.0 135167 (and_parts (nat_le 131072 p.vpn.0) (nat_le p.vpn.0 135167) inside).1 in
          omega arith

      pub given_sent : loan_kind x.kind ≡ None → IsSentLedger m pid x given
      given_sent none = record {
        ledger = record {
          lawful = give_lawful m.processes from n to m.ledger can m.capacity h.body.ledger.lawful;
          homes_live = homes_live;
          holders_live = λ p loan e. h.body.ledger.holders_live p loan (sym (loan_was p) ∙ e);
          orphans_live = λ p orphan e. h.body.ledger.orphans_live p orphan (sym (give_orphan from n to m.ledger p) ∙ e);
        };
        heaps = record {
          whole = h.body.heaps.whole;
          within = h.body.heaps.within;
          below = λ p page e inside. elim (new_or_old p page e) [
            | inl t ↦ absurd (no_heap p t inside)
            | inr old ↦ h.body.heaps.below p page old inside
          ];
        };
        lends = λ server y low f. subst (λ k. IsMessageLent k server y) (sym (give_loans m.processes from n to m.ledger can)) f;
        here = λ server e kind f. absurd (none-some kind (sym none ∙ f));
        loans_sent = λ p loan e. inl (sym (ap (λ (k : Loans). k.home p) (give_loans m.processes from n to m.ledger can)) ∙ e);
        orphans_sent = λ p orphan e. sym (ap (λ (k : Loans). k.orphan p) (give_loans m.processes from n to m.ledger can)) ∙ e;
      }

    -- ---- pages are lent

    module _ (kind : LoanKind) (can : CanLend m.processes m.ledger from n to kind (new_number m)) (some : 1 ≤ n) (own : to.pid ≡ pid)
        (caller : ThreadId) (by : from.pid ≡ caller.pid) where
      abbrev lent : Ledger
      lent = lend from n to kind (new_number m) m.ledger

      -- what the message says of the loan
      pub record IsLend : Type 0 where
        pub kinds : loan_kind x.kind ≡ Some kind
        pub number : x.number ≡ new_number m
        pub sender : x.sender ≡ Some caller
        pub first : x.first ≡ to.vpn
        pub count : x.count ≡ n

      was_home : (p : Place) (page : Page) → lent.home p ≡ Some page → (old : Page) × (m.ledger.home p ≡ Some old)
      was_home p page e = elim (cases_Bool (in_run from n p)) [
        | inl t ↦ let old = lend_was m.processes from n to kind (new_number m) m.ledger can p t in (old.0, old.1)
        | inr f ↦ (page, sym (lend_outside from n to kind (new_number m) m.ledger p f) ∙ e)
      ]

      new_loan : (p : Place) (loan : PageLoan) → loan_at lent p ≡ Some loan
          → ((loan_to from to kind (new_number m) p) ≡ loan) ⊎ (loan_at m.ledger p ≡ Some loan)
      new_loan p loan e = elim (cases_Bool (in_run from n p)) [
        | inl t ↦ inl (same_Some (loan_to from to kind (new_number m) p) loan
            (sym (lend_loan_inside m.processes from n to kind (new_number m) m.ledger can p t) ∙ e))
        | inr f ↦ inr (sym (lend_loan_outside m.processes from n to kind (new_number m) m.ledger can p f) ∙ e)
      ]

      homes_of : (p : Place) (page : Page) → lent.home p ≡ Some page → is_living m p.pid ≡ true
      homes_of p page e = let old = was_home p page e in h.body.ledger.homes_live p old.0 old.1

      -- loans of other numbers stay
      stays : (server : Server) (y : Message) → y.number.0 < m.next_number → (k : LoanKind) (o : Option ThreadId)
          → IsOnLoan (loans m.ledger) server y k o → IsOnLoan (loans lent) server y k o
      stays server y low k o f = go o f
        where
          other : SameOf y.number (loans m.ledger) (loans lent)
          other = lend_other m.processes from n to kind (new_number m) m.ledger can y.number (λ same.
              let is : y.number.0 ≡ m.next_number = ap (λ (q : Number). q.0) same in absurd (omega arith))

          go : (r : Option ThreadId) → IsOnLoan (loans m.ledger) server y k r → IsOnLoan (loans lent) server y k r
          go None s = stands_still (loans m.ledger) (loans lent) (lend_run server y k None) other s
          go (Some who) s = (s.0, s.1, stands_still (loans m.ledger) (loans lent) (lend_run server y k (Some s.0)) other s.2)

      pub lent_sent : IsLend → IsSentLedger m pid x lent
      unfolding loans
      lent_sent is = record {
        ledger = record {
          lawful = lend_lawful m.processes from n to kind (new_number m) m.ledger can m.capacity h.body.ledger.lawful;
          homes_live = homes_of;
          holders_live = λ p loan e. elim (new_loan p loan e) [
            | inl new ↦ ap (λ (k : PageLoan). is_living m k.holder.pid) (sym new) ∙ lives
            | inr old ↦ h.body.ledger.holders_live p loan old
          ];
          orphans_live = λ p orphan e.
              h.body.ledger.orphans_live p orphan (sym (lend_orphan from n to kind (new_number m) m.ledger p) ∙ e);
        };
        heaps = record {
          whole = h.body.heaps.whole;
          within = h.body.heaps.within;
          below = λ p page e. let old = was_home p page e in h.body.heaps.below p old.0 old.1;
        };
        lends = λ server y low f k q.
            let was : IsLendMatched (loans m.ledger) server y k = f k q in
            record { count = was.count; loan = stays server y low k y.sender was.loan };
        here = λ server e k f. at_server_of server e k (same_Some kind k (sym is.kinds ∙ f));
        loans_sent = λ p loan e. elim (new_loan p loan e) [
          | inl new ↦ inr (numbered loan (ap (λ (k : PageLoan). k.number) (sym new)), ap (λ (k : PageLoan). k.number.0) (sym new))
          | inr old ↦ inl old
        ];
        orphans_sent = λ p orphan e. sym (ap (option_map loan_of_orphan) (lend_orphan from n to kind (new_number m) m.ledger p)) ∙ e;
      }
        where
          numbered : (loan : PageLoan) → loan.number ≡ new_number m → is_lend_of loan.number x ≡ true
          numbered loan same =
              and_from (is_of_number loan.number x) (is_lend x.kind)
              (eq-eqb x.number.0 loan.number.0 (ap (λ (q : Number). q.0) (is.number ∙ sym same))) (ap is_lend_kind is.kinds)
            where
              is_lend_kind : Option LoanKind → Bool
              is_lend_kind None = false
              is_lend_kind (Some k) = true

          at_server_of : (server : Server) → server.pid ≡ pid → (k : LoanKind) → kind ≡ k → IsLendMatched (loans lent) server x k
          at_server_of server e k same = record {
            count = subst (λ c. 1 ≤ c) (sym is.count) some;
            loan = subst (λ o. IsOnLoan (loans lent) server x k o) (sym is.sender) (
              from,
              by,
              subst (λ r. Stands (loans lent) r) (λ i. record {
                lender = Some from;
                holder = record { pid = (own ∙ sym e) i; vpn = sym is.first i };
                count = sym is.count i;
                kind = same i;
                number = sym is.number i;
              }) (lend_stands m.processes from n to kind (new_number m) m.ledger can),
            );
          }

-- The fate of a number in a served ForwardMessage: the loan of the number that is named goes to other places of a holder, and the
-- caller's process was its holder before.
use Rattle.std.proofs.Common.{◌≡◌, ℕ, ◌≤◌, ◌⊎◌, Bool, true, false, List, [], ◌∷◌, Option, Some, None, refl, sym, ap, ◌∙◌, arith, inl, inr, subst}
use Rattle.std.specs.Prelude.{is_none, is_some, unwrap_or}
use Rattle.std.specs.Option.{option_and_then, option_map, option_map_or}
use Rattle.std.proofs.lemmas.Bool.{and_parts, false≢true}
use Rattle.xk_base.specs.declared.errors.XousError.TheVariants.{DoubleFree, InvalidSyscall, MemoryInUse, ServerNotFound, ServerQueueFull}
use Rattle.xk_base.specs.declared.ids.Number.{Number}
use Rattle.xk_base.specs.declared.ids.Place.{Place}
use Rattle.xk_base.specs.declared.ids.ThreadId.{ThreadId}
use Rattle.xk_base.specs.declared.ids.Vpn.{Vpn}
use Rattle.xk_base.specs.declared.messages.Message.{Message}
use Rattle.syscall_codec.specs.CallNumbers.{forward_message}
use Rattle.syscall_codec.specs.CallWords.{call_number, forward_cid}
use Rattle.ledger_model.specs.Conditions.{CanPass}
use Rattle.ledger_model.specs.Ledger.{Orphaned, Homed, Page, contents_of}
use Rattle.ledger_model.specs.Loans.{IsFresh, LoanRun, Stands, loans, same_number, with_holder}
use Rattle.ledger_model.specs.Places.{place_after}
use Rattle.ledger_model.specs.Steps.{pass, passed}
use Rattle.ledger_model.proofs.LedgerLemmas.{same_number-true}
use Rattle.ledger_model.proofs.Stepping.PassingLemmas.{pass_fresh, pass_stands}
use Rattle.machine_model.specs.Messaging.ForwardCalls.{are_one_server, held_place, is_passable_of, next_arrival, passable, passed_from, passed_number, passed_place, passed_to}
use Rattle.machine_model.specs.Messaging.Messages.{is_lend, is_lend_of, is_of_number}
use Rattle.machine_model.specs.Messaging.SendCalls.{message_run}
use Rattle.machine_model.specs.Runs.LoanSpan.{IsIn, IsOut, page_name, right_of_name}
use Rattle.machine_model.specs.Runs.Matched.{Matched}
use Rattle.machine_model.specs.Runs.Moments.{ByStep}
use Rattle.machine_model.specs.State.Machine.{Machine}
use Rattle.machine_model.specs.State.Servers.{is_full, server_at}
use Rattle.machine_model.specs.Stepping.Acts.{is_call_served}
use Rattle.machine_model.proofs.Runs.SpanLemmas.{out_or_in}
use Rattle.machine_laws.proofs.Calling.RunRefusalLemmas.{none_holds}
use Rattle.machine_laws.proofs.Threading.ThreadStepLemmas.{turned_to}
use Rattle.call_effects.specs.Held.{IsHeld}
use Rattle.call_effects.proofs.HeldLemmas.{is_held}
use Rattle.loan_laws.specs.Fates.{Fate, IsKept}
use Rattle.loan_laws.specs.Leaving.{Leaves}
use Rattle.call_effects.specs.Rows.MessageRows.{forward_row, passed_if}
use Rattle.call_effects.proofs.ServedLemmas.{OfPlan, done}
use Rattle.loan_laws.proofs.Fates.FateLemmas.{fate_in, fate_left, fate_out}
use Rattle.loan_laws.proofs.Fates.ServedFateLemmas.{HasServedFate, IsCaller, served_call}
use Rattle.loan_laws.proofs.Leaving.LedgerStepLemmas.{pass_leaves}
use Rattle.loan_laws.proofs.Lending.ArrivalLemmas.{IsArrival, arrival_of}
use Rattle.loan_laws.proofs.Lending.HeldMessageLemmas.{held_run}
use Rattle.loan_laws.proofs.Lending.LendMessageLemmas.{From, IsRunOf, IsSentBy, Senderless}

-- ---- the pages of the loan stay

passed_right : (number : Number) (from to : Place) (o : Option Page)
    → option_map (λ page. page.right) (option_map (passed number from to) o) ≡ option_map (λ page. page.right) o
passed_right number from to None = refl
passed_right number from to (Some page) = refl

passed_contents : (number : Number) (from to : Place) (o : Option Page)
    → option_map (λ page. page.contents) (option_map (passed number from to) o) ≡ option_map (λ page. page.contents) o
passed_contents number from to None = refl
passed_contents number from to (Some page) = refl

name_at_home : (r : LoanRun) (home : Place) (k : ℕ) → r.lender ≡ Some home → page_name r k ≡ Homed (place_after home k)
name_at_home r home k e = ap (λ o. option_map_or (λ from. Homed (place_after from k)) o (Orphaned (place_after r.holder k))) e

-- ---- the loan

module _ (number : Number) (m : Machine) (who : ThreadId) (w : List ℕ) (h : Matched m) (turned : Matched (turned_to who m))
    (calls : IsCaller m who w) (forwards : call_number w ≡ forward_message) where
  abbrev n : Machine
  n = turned_to who m

  module _ (message : Message) (there : passable n (passed_number w) ≡ Some message) (first : Vpn)
      (arrives : option_and_then (message_run n message.count) (server_at n (forward_cid w)) ≡ Some first) where
    abbrev to : Place
    to = passed_place n (forward_cid w) first

    held : IsHeld n (is_passable_of (passed_number w)) message
    held = is_held n (is_passable_of (passed_number w)) message there

    passes : (is_lend_of (passed_number w) message ≡ true) × (is_some message.sender ≡ true)
    passes = and_parts (is_lend_of (passed_number w) message) (is_some message.sender) held.passes

    named : message.number ≡ passed_number w
    named =
        same_number-true message.number (passed_number w) (and_parts (is_of_number (passed_number w) message) (is_lend message.kind) passes.0).0

    module _ (after : Machine) (is : after.ledger ≡ pass message.number (held_place n message) to m.ledger)
        (climbs : m.next_number ≤ after.next_number) (accepted : is_call_served m who w ≡ true) (same : message.number ≡ number) where
      module _ (a : LoanRun) (out : IsOut number m a) where
        run : IsRunOf held.server message a
        run =
            held_run m number who (is_passable_of (passed_number w)) message h held
            (subst (λ k. is_lend_of k message ≡ true) (sym named ∙ same) passes.0) a out

        lender_there : (o : Option Place) → IsSentBy o message.sender → (home : Place) × (o ≡ Some home)
        lender_there o (Senderless none nobody) = absurd (false≢true (ap is_some (sym nobody) ∙ passes.1))
        lender_there o (From home sender e f g) = (home, e)

        lent : (home : Place) × (a.lender ≡ Some home)
        lent =
            let at = lender_there run.lender run.sent in
            (at.0, ap (λ (r : LoanRun). r.lender) run.run ∙ at.1)

        holder : a.holder ≡ held_place n message
        holder = ap (λ (r : LoanRun). r.holder) run.run ∙ ap (λ pid. record { pid = pid; vpn = message.first }) held.own

        arrival : IsArrival n to a.count
        arrival =
            arrival_of n turned (forward_cid w) a.count first
            (subst (λ c. option_and_then (message_run n c) (server_at n (forward_cid w)) ≡ Some first)
            (sym (ap (λ (r : LoanRun). r.count) run.run)) arrives)

        can : CanPass m.processes m.ledger a to
        can = record {
          stands = out.stands;
          lent = ap is_some lent.1;
          free = arrival.free;
          lies = arrival.lies;
        }

        ledger_now : after.ledger ≡ pass a.number a.holder to m.ledger
        ledger_now = is ∙ (λ i. pass ((same ∙ sym out.numbered) i) (sym holder i) to m.ledger)

        now : IsOut number after (with_holder to a)
        now = record {
          numbered = out.numbered;
          some = out.some;
          stands = subst (λ l. Stands (loans l) (with_holder to a)) (sym ledger_now) (pass_stands m.processes m.ledger a to can);
        }

        kept : IsKept number m (record { cause = ByStep; machine = after }) a (with_holder to a)
        kept = record {
          kind = refl;
          count = refl;
          lender = λ home e. e;
          rights = λ home k e low.
              ap (right_of_name m.ledger) (name_at_home a home k e)
              ∙ (sym (rights (place_after home k)) ∙ sym (ap (right_of_name after.ledger) (name_at_home (with_holder to a) home k e)));
          holder = inr (record {
            words = w;
            served = served_call m who w after a.holder.pid calls accepted (sym (ap (λ (p : Place). p.pid) holder));
            forwards = forwards;
            token = sym (ap (λ (k : Number). k.0) named) ∙ ap (λ (k : Number). k.0) same;
          });
          bytes = λ k low. inl (
              ap (contents_of m.ledger) (name_at_home a lent.0 k lent.1)
              ∙ (sym (contents (place_after lent.0 k)) ∙ sym (ap (contents_of after.ledger) (name_at_home (with_holder to a) lent.0 k lent.1))));
        }
          where
            rights : (p : Place) → right_of_name after.ledger (Homed p) ≡ right_of_name m.ledger (Homed p)
            rights p = ap (λ l. right_of_name l (Homed p)) ledger_now ∙ passed_here p
              where
                passed_here : (p : Place) → right_of_name (pass a.number a.holder to m.ledger) (Homed p) ≡ right_of_name m.ledger (Homed p)
                passed_here p = unfold pass in passed_right a.number a.holder to (m.ledger.home p)

            contents : (p : Place) → contents_of after.ledger (Homed p) ≡ contents_of m.ledger (Homed p)
            contents p = ap (λ l. contents_of l (Homed p)) ledger_now ∙ passed_here p
              where
                passed_here : (p : Place) → contents_of (pass a.number a.holder to m.ledger) (Homed p) ≡ contents_of m.ledger (Homed p)
                passed_here p = unfold pass in passed_contents a.number a.holder to (m.ledger.home p)

      this_fate : Fate number m (record { cause = ByStep; machine = after })
      this_fate = go (out_or_in m number h)
        where
          fresh_after : IsIn number m → IsIn number after
          fresh_after fresh =
              subst (λ l. IsFresh (loans l) number) (sym is)
              (subst (λ k. IsFresh (loans (pass k (held_place n message) to m.ledger)) number) (sym same)
              (pass_fresh number (held_place n message) to m.ledger fresh))

          go : IsIn number m ⊎ ((loan : LoanRun) × IsOut number m loan) → Fate number m (record { cause = ByStep; machine = after })
          go (inl fresh) = fate_in number m (record { cause = ByStep; machine = after }) fresh (fresh_after fresh) climbs
          go (inr (a, out)) = fate_out number m (record { cause = ByStep; machine = after }) a (with_holder to a) out (now a out) (kept a out) climbs

    forwarded_fate : (after : Machine) → after.ledger ≡ pass message.number (held_place n message) to m.ledger
        → after.next_number ≡ m.next_number → is_call_served m who w ≡ true → Fate number m (record { cause = ByStep; machine = after })
    forwarded_fate after is same accepted = go (same_number message.number number) refl
      where
        climbs : m.next_number ≤ after.next_number
        climbs = omega (arith, same)

        go : (b : Bool) → same_number message.number number ≡ b → Fate number m (record { cause = ByStep; machine = after })
        go true e = this_fate after is climbs accepted (same_number-true message.number number e)
        go false e =
            fate_left number m (record { cause = ByStep; machine = after }) h
            (subst (λ l. Leaves number m.ledger l) (sym is) (pass_leaves number message.number (held_place n message) to m.ledger e)) climbs

  -- ---- the call

  by_message : (o : Option Message) → passable n (passed_number w) ≡ o → is_none o ≡ false → (first : Option Vpn) → is_none first ≡ false
      → option_and_then (message_run n (option_map_or (λ message. message.count) o 0)) (server_at n (forward_cid w)) ≡ first
      → OfPlan (λ plan. HasServedFate number m who w (done n plan))
      (passed_if n (passed_number w) (forward_cid w) (unwrap_or first (record { 0 = 0 })) o)
  by_message None e some first found arrives = absurd (false≢true (sym some))
  by_message (Some message) e some None found arrives = absurd (false≢true (sym found))
  by_message (Some message) e some (Some first) found arrives = λ after like accepted.
      forwarded_fate message e first arrives after like.ledger like.number accepted

  arrives_as : next_arrival n (passed_number w) (forward_cid w)
      ≡ option_and_then (message_run n (option_map_or (λ message. message.count) (passable n (passed_number w)) 0)) (server_at n (forward_cid w))
  unfolding next_arrival
  arrives_as = refl

  pub forward_fate : OfPlan (λ plan. HasServedFate number m who w (done n plan)) (forward_row n w)
  forward_fate = λ none there.
      let first = next_arrival n (passed_number w) (forward_cid w) in
      by_message (passable n (passed_number w)) refl
      (none_holds (is_none (passable n (passed_number w))) DoubleFree
      ((is_none (server_at n (forward_cid w)), ServerNotFound)
      ∷ (are_one_server (passed_from n (passed_number w)) (passed_to n (forward_cid w)), InvalidSyscall)
      ∷ (is_full (server_at n (forward_cid w)), ServerQueueFull)
      ∷ []) none).0
      first (none_holds (is_none first) MemoryInUse [] there).0 (sym arrives_as)

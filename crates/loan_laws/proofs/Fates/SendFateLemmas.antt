-- The fate of a number in an accepted send: a lend opens the loan of its own number, and every other number is left.
use Rattle.std.proofs.Common.{◌≡◌, ℕ, ◌+◌, ◌≤◌, Bool, true, false, List, [], ◌∷◌, ◌++◌, Option, Some, None, refl, sym, ap, ◌∙◌, ◌⊎◌, inl, inr, arith, subst}
use Rattle.std.specs.Prelude.{◌&&◌, ◌||◌, is_none, unwrap_or}
use Rattle.std.specs.Option.{option_map_or}
use Rattle.std.proofs.lemmas.Bool.{and_from, false≢true, or_parts}
use Rattle.xk_base.specs.declared.errors.XousError.{XousError}
use Rattle.xk_base.specs.declared.errors.XousError.TheVariants.{BadAlignment, BadAddress, MemoryInUse, ServerNotFound, ServerQueueFull, InvalidSyscall, ShareViolation}
use Rattle.xk_base.specs.declared.ids.Number.{Number}
use Rattle.xk_base.specs.declared.ids.Place.{Place}
use Rattle.xk_base.specs.declared.ids.ThreadId.{ThreadId}
use Rattle.xk_base.specs.declared.ids.Vpn.{Vpn}
use Rattle.xk_base.specs.declared.messages.MsgKind.{MsgKind}
use Rattle.xk_base.specs.declared.messages.MsgKind.TheVariants.{LendMut, Lend, Move, Scalar, BlockingScalar}
use Rattle.xk_base.specs.declared.pages.LoanKind.{LoanKind}
use Rattle.xk_base.specs.declared.pages.LoanKind.TheVariants.{Shared, Exclusive}
use Rattle.syscall_codec.specs.CallWords.{call_number, send_address, send_cid, send_length}
use Rattle.ledger_model.specs.Conditions.{is_lent}
use Rattle.ledger_model.specs.Ledger.{Ledger}
use Rattle.ledger_model.specs.Loans.{IsFresh, LoanRun, Stands, loans, same_number}
use Rattle.ledger_model.specs.Places.{in_run, place_after}
use Rattle.ledger_model.specs.RunTests.{any_console, any_free, any_lacks, any_not_sent, any_on_loan}
use Rattle.ledger_model.specs.Steps.{lend}
use Rattle.ledger_model.proofs.LedgerLemmas.{cases_Option, is_free-true, same_number-true}
use Rattle.ledger_model.proofs.PlaceLemmas.{in_run-true}
use Rattle.machine_model.specs.Calling.MemoryCalls.{caller_place, is_bad_range}
use Rattle.machine_model.specs.Messaging.Messages.{carries_pages, is_lend, new_number}
use Rattle.machine_model.specs.Messaging.SendCalls.{arrival, is_full_for, named_kind, send_refusals, sender_left, sends_lend_mut, sends_pages, sent_ledger, sent_pages, sent_place, with_sent}
use Rattle.xk_base.specs.Calls.Kinds.{is_answered}
use Rattle.machine_model.specs.Runs.LoanSpan.{IsOut, Opens, is_lend_call, is_send}
use Rattle.machine_model.specs.Runs.Matched.{Matched}
use Rattle.machine_model.specs.Runs.Moments.{ByStep}
use Rattle.machine_model.specs.State.Changes.{first_refusal}
use Rattle.machine_model.specs.State.Machine.{Machine}
use Rattle.machine_model.specs.State.Servers.{server_at}
use Rattle.machine_model.specs.Stepping.Acts.{is_call_served}
use Rattle.machine_model.proofs.Matching.MatchedLemmas.{number_is_fresh}
use Rattle.machine_laws.proofs.Calling.RunRefusalLemmas.{none_holds, run_not_lent}
use Rattle.machine_laws.proofs.Threading.ThreadStepLemmas.{turned_to}
use Rattle.loan_laws.specs.Fates.{Fate}
use Rattle.loan_laws.specs.Leaving.{Leaves}
use Rattle.call_effects.specs.Rows.MessageRows.{send_row, sent_to_row, try_send_row}
use Rattle.call_effects.proofs.ServedLemmas.{OfPlan, done}
use Rattle.loan_laws.proofs.Fates.FateLemmas.{fate_left, fate_opens}
use Rattle.loan_laws.proofs.Fates.ServedFateLemmas.{HasServedFate, IsCaller, served_call, some_of}
use Rattle.loan_laws.proofs.Leaving.LedgerStepLemmas.{give_leaves, lend_leaves}
use Rattle.loan_laws.proofs.Leaving.NumberPageLemmas.{leaves_itself}
use Rattle.machine_model.proofs.Runs.KeptLemmas.{matched_at}
use Rattle.loan_laws.proofs.Lending.ArrivalLemmas.{IsArrived, arrival_of}
use Rattle.loan_laws.proofs.Lending.LentPageLemmas.{before_lend, home_in, no_orphans}

-- ---- what the refusals leave true

-- the kind is named, and where it carries pages none of them is on loan
pub record IsSendable (m : Machine) (w : List ℕ) : Type 0 where
  pub kind : MsgKind
  pub named : named_kind w ≡ Some kind
  pub clear : carries_pages kind ≡ true → (p : Place) → in_run (caller_place m (send_address w)) (sent_pages w) p ≡ true
      → is_lent (m.ledger.home p) ≡ false

pub sendable : (m : Machine) (w : List ℕ) → first_refusal (send_refusals m w) ≡ None → IsSendable m w
sendable m w none =
    let first = caller_place m (send_address w) in
    let n = sent_pages w in
    let b5 = sends_pages w && any_not_sent m.processes m.ledger first n (sends_lend_mut w) in
    let r5 = (b5, ShareViolation) ∷ [] in
    let b4 = sends_pages w && any_free m.processes m.ledger first n in
    let r4 = (b4, BadAddress) ∷ r5 in
    let b3 = sends_pages w && is_bad_range (send_address w) (send_length w) in
    let r3 = (b3, BadAlignment) ∷ r4 in
    let r2 = (is_none (named_kind w), InvalidSyscall) ∷ r3 in
    let e1 = none_holds (is_none (server_at m (send_cid w))) ServerNotFound r2 none in
    let e2 = none_holds (is_none (named_kind w)) InvalidSyscall r3 e1.1 in
    let e3 = none_holds b3 BadAlignment r4 e2.1 in
    let e4 = none_holds b4 BadAddress r5 e3.1 in
    let e5 = none_holds b5 ShareViolation [] e4.1 in
    let kind = some_of (named_kind w) e2.0 in
    record {
      kind = kind.0;
      named = kind.1;
      clear = λ carries. run_not_lent m.processes m.ledger first n
          (on_loan (sends_pages w) (ap (λ o. option_map_or carries_pages o false) kind.1 ∙ carries)
          (any_on_loan m.processes m.ledger first n) (any_console m.ledger first n)
          (sends_lend_mut w && any_lacks (record { w = true; x = false }) m.ledger first n) e5.0);
    }
  where
    on_loan : (b : Bool) → b ≡ true → (c d x : Bool) → b && (c || d || x) ≡ false → c ≡ false
    on_loan false t c d x e = absurd (false≢true t)
    on_loan true t c d x e = (or_parts c d (or_parts (c || d) x e).0).0

-- ---- an accepted send

-- that the sender waits leaves the ledger and the next number
sender_leaves : (waits : Bool) (number : Number) (m : Machine) → IsArrived m (sender_left waits number m)
sender_leaves true number m = record { ledger = refl; number = refl }
sender_leaves false number m = record { ledger = refl; number = refl }

-- the places where a move goes are free
free_arrival : (m : Machine) → Matched m → (w : List ℕ) (first : Vpn) → arrival m w ≡ Some first → (p : Place)
    → in_run (sent_place m w first) (sent_pages w) p ≡ true → is_lent (m.ledger.home p) ≡ false
unfolding arrival
free_arrival m h w first e p inside =
    ap is_lent (is_free-true m.processes m.ledger p ((arrival_of m h (send_cid w) (sent_pages w) first e).free p inside)).home

module _ (number : Number) (m : Machine) (who : ThreadId) (w : List ℕ) (h : Matched m) (calls : IsCaller m who w)
    (sends : is_send (call_number w) ≡ true) (can : IsSendable (turned_to who m) w) where
  abbrev n : Machine
  n = turned_to who m

  abbrev from : Place
  from = caller_place n (send_address w)

  -- a lend
  lend_fate : (kind : LoanKind) (to : Place) → is_lend can.kind ≡ true → carries_pages can.kind ≡ true → (after : Machine)
      → after.ledger ≡ lend from (sent_pages w) to kind (new_number m) m.ledger → m.next_number ≤ after.next_number
      → is_call_served m who w ≡ true → Fate number m (record { cause = ByStep; machine = after })
  lend_fate kind to lends carries after is climbs accepted = go (same_number (new_number m) number) refl
    where
      is_lend_now : is_lend_call w ≡ true
      is_lend_now =
          and_from (is_send (call_number w)) (option_map_or is_lend (named_kind w) false) sends
          (ap (λ o. option_map_or is_lend o false) can.named ∙ lends)

      new_is_fresh : new_number m ≡ number → IsFresh (loans m.ledger) number
      new_is_fresh same =
          number_is_fresh m h number (let at : m.next_number ≡ number.0 = ap (λ (k : Number). k.0) same in omega arith)

      opens : new_number m ≡ number → (a : LoanRun) → IsOut number after a → Opens number a m (record { cause = ByStep; machine = after })
      opens same a out = by_lender (cases_Option a.lender)
        where
          fresh : IsFresh (loans m.ledger) (new_number m)
          fresh = subst (λ k. IsFresh (loans m.ledger) k) (sym same) (new_is_fresh same)

          by_lender : (a.lender ≡ None) ⊎ ((home : Place) × (a.lender ≡ Some home)) → Opens number a m (record { cause = ByStep; machine = after })
          by_lender (inl none) =
              absurd (no_orphans from (sent_pages w) to kind (new_number m) m.ledger fresh (can.clear carries) a (out.numbered ∙ sym same) out.some
              (subst (λ l. Stands (loans l) a) is out.stands) none)
          by_lender (inr (home, lender)) =
              let inside = home_in from (sent_pages w) to kind (new_number m) m.ledger fresh (can.clear carries) a (out.numbered ∙ sym same) out.some
              (subst (λ l. Stands (loans l) a) is out.stands) home lender in
              let own : home.pid.0 ≡ who.pid.0 = (in_run-true from (sent_pages w) home inside).pid in
              record {
                home = home;
                lender = lender;
                words = w;
                accepted = served_call m who w after home.pid calls accepted (λ i. record { 0 = sym own i });
                lends = is_lend_now;
                number_taken = sym same;
                pages = λ k page low there.
                    before_lend from (sent_pages w) to kind (new_number m) m.ledger fresh (can.clear carries) a (out.numbered ∙ sym same) out.some
                    (subst (λ l. Stands (loans l) a) is out.stands) home lender k page low
                    (sym (ap (λ (l : Ledger). l.home (place_after home k)) is) ∙ there);
              }

      go : (b : Bool) → same_number (new_number m) number ≡ b → Fate number m (record { cause = ByStep; machine = after })
      go true e =
          let same : new_number m ≡ number = same_number-true (new_number m) number e in
          fate_opens number m (record { cause = ByStep; machine = after }) (new_is_fresh same) (opens same) climbs
      go false e =
          fate_left number m (record { cause = ByStep; machine = after }) h
          (subst (λ l. Leaves number m.ledger l) (sym is)
          (lend_leaves number m.processes m.ledger from (sent_pages w) to kind (new_number m) e (can.clear carries)))
          climbs

  sent_fate : (first : Vpn) → (sends_pages w ≡ true → arrival n w ≡ Some first) → (kind : MsgKind) → can.kind ≡ kind → (after : Machine)
      → after.ledger ≡ sent_ledger kind from (sent_pages w) (sent_place n w first) (new_number m) m.ledger
      → after.next_number ≡ m.next_number + 1 → is_call_served m who w ≡ true → Fate number m (record { cause = ByStep; machine = after })
  sent_fate first there kind e after is next accepted = by_kind kind e is
    where
      climbs : m.next_number ≤ after.next_number
      climbs = omega (arith, next)

      left : Leaves number m.ledger after.ledger → Fate number m (record { cause = ByStep; machine = after })
      left leaves = fate_left number m (record { cause = ByStep; machine = after }) h leaves climbs

      carries : (kind : MsgKind) → can.kind ≡ kind → carries_pages kind ≡ true → carries_pages can.kind ≡ true
      carries kind e c = ap carries_pages e ∙ c

      pages : (kind : MsgKind) → can.kind ≡ kind → carries_pages kind ≡ true → sends_pages w ≡ true
      pages kind e c = ap (λ o. option_map_or carries_pages o false) can.named ∙ carries kind e c

      by_kind : (kind : MsgKind) → can.kind ≡ kind
          → after.ledger ≡ sent_ledger kind from (sent_pages w) (sent_place n w first) (new_number m) m.ledger
          → Fate number m (record { cause = ByStep; machine = after })
      by_kind LendMut e is = lend_fate Exclusive (sent_place n w first) (ap is_lend e) (carries LendMut e refl) after is climbs accepted
      by_kind Lend e is = lend_fate Shared (sent_place n w first) (ap is_lend e) (carries Lend e refl) after is climbs accepted
      by_kind Move e is =
          left (subst (λ l. Leaves number m.ledger l) (sym is)
          (give_leaves number m.processes m.ledger from (sent_pages w) (sent_place n w first) (can.clear (carries Move e refl))
          (free_arrival n (matched_at who m h) w first (there (pages Move e refl)))))
      by_kind Scalar e is = left (subst (λ l. Leaves number m.ledger l) (sym is) (leaves_itself number m.ledger))
      by_kind BlockingScalar e is = left (subst (λ l. Leaves number m.ledger l) (sym is) (leaves_itself number m.ledger))

  -- ---- the calls

  arrival_fate : OfPlan (λ plan. HasServedFate number m who w (done n plan)) (sent_to_row n w)
  arrival_fate = λ none after like accepted.
      let kind = unwrap_or (named_kind w) Scalar in
      let first = unwrap_or (arrival n w) (record { 0 = 0 }) in
      let sender = sender_leaves (is_answered kind) (new_number n) (with_sent n kind from (sent_pages w) (sent_place n w first)) in
      sent_fate first (found (arrival n w) (none_holds (sends_pages w && is_none (arrival n w)) MemoryInUse [] none).0) kind
      (sym (ap (λ o. unwrap_or o Scalar) can.named)) after (like.ledger ∙ sender.ledger) (like.number ∙ sender.number) accepted
    where
      found : (o : Option Vpn) → sends_pages w && is_none o ≡ false → sends_pages w ≡ true → o ≡ Some (unwrap_or o (record { 0 = 0 }))
      found None e pages = absurd (false≢true (sym e ∙ ap (λ b. b && true) pages))
      found (Some v) e pages = refl

module _ (number : Number) (m : Machine) (who : ThreadId) (w : List ℕ) (h : Matched m) (calls : IsCaller m who w)
    (sends : is_send (call_number w) ≡ true) where
  pub send_fate : OfPlan (λ plan. HasServedFate number m who w (done (turned_to who m) plan)) (send_row (turned_to who m) w)
  send_fate = λ none accepts. arrival_fate number m who w h calls sends (sendable (turned_to who m) w none)

  -- where no refusal of a list and of one more holds, none of the list does
  first_ones : (xs ys : List (Bool × XousError)) → first_refusal (xs ++ ys) ≡ None → first_refusal xs ≡ None
  first_ones [] ys e = refl
  first_ones (x ∷ xs) ys e = go (first_ones xs ys) x.0 e
    where
      go : (first_refusal (xs ++ ys) ≡ None → first_refusal xs ≡ None) → (b : Bool) → first_refusal ((b, x.1) ∷ (xs ++ ys)) ≡ None
          → first_refusal ((b, x.1) ∷ xs) ≡ None
      go rest true q = q
      go rest false q = rest q

  pub try_send_fate : OfPlan (λ plan. HasServedFate number m who w (done (turned_to who m) plan)) (try_send_row (turned_to who m) w)
  try_send_fate = λ none.
      arrival_fate number m who w h calls sends
      (sendable (turned_to who m) w
      (first_ones (send_refusals (turned_to who m) w) ((is_full_for (turned_to who m) w, ServerQueueFull) ∷ []) none))

-- A lend has its pages on loan exactly where a run of them says it, if no number is that of two runs.
use Rattle.std.proofs.Common.{◌≡◌, ℕ, ◌+◌, ◌-◌, ◌≤◌, ◌<◌, Bool, true, false, not, cond, eqb, List, [], ◌∷◌, Option, Some, None, refl, sym, ap, subst, ◌∙◌, arith, inl, inr, ◌↔◌}
use Rattle.std.specs.Prelude.{◌&&◌, ◌||◌, IsTrue}
use Rattle.std.specs.List.{list_any, list_all, count_by, AllByRecursion}
use Rattle.std.proofs.lemmas.Bool.{and_parts, both_ways, eqb-true}
use Rattle.xk_base.specs.declared.ids.Pid.{Pid}
use Rattle.xk_base.specs.declared.ids.Place.{Place}
use Rattle.xk_base.specs.declared.ids.ThreadId.{ThreadId}
use Rattle.xk_base.specs.declared.pages.LoanKind.{LoanKind}
use Rattle.xk_base.specs.declared.pages.LoanKind.TheVariants.{Shared, Exclusive}
use Rattle.ledger_model.specs.Loans.{Loans, LoanRun, Stands}
use Rattle.machine_model.specs.Messaging.Messages.{loan_kind}
use Rattle.machine_model.specs.Runs.Matched.{lend_run, IsOnLoan, IsLendMatched, IsMessageLent}
use Rattle.snapshot_matching.specs.declared.lends.Lend.{Lend}
use Rattle.snapshot_rows.specs.declared.runs.Run.{Run}
use Rattle.snapshot_rows.specs.declared.state.MessageRow.{MessageRow}
use Rattle.snapshot_rows.specs.declared.state.ServerRow.{ServerRow}
use Rattle.snapshot_rows.specs.Machines.{place_at, thread_at_id, sender_of, message_of, server_of}
use Rattle.snapshot_rows.specs.RunParts.{joined, is_run_of, AreNumbersApart}
use Rattle.snapshot_matching.specs.LendParts.{message_lend, loan_lend, orphan_lend, same_lend}
use Rattle.snapshot_rows.proofs.KeyLemmas.{some_same, either}
use Rattle.snapshot_matching.proofs.ServerRows.SenderLemmas.{kind_of, by_kind}
use Rattle.snapshot_matching.proofs.Loans.LendLemmas.{lend_from, lend_is, lend_own, made_of, any_made, made_loan, made_orphan}
use Rattle.snapshot_rows.proofs.LoanRuns.OneRunLemmas.{among_has, among_counted, Span, IsSpan, run_over}
use Rattle.snapshot_rows.proofs.LoanRuns.RunLemmas.{Ascending, IsSingle, IsIn, Among, each_in}
use Rattle.snapshot_rows.proofs.LoanRuns.SaidLemmas.{kind_said, Says}
use Rattle.snapshot_rows.proofs.LoanRuns.StandsLemmas.{number_of, lent_run, left_run, home_of, no_page, at_place, loans_stand}
use Rattle.snapshot_rows.proofs.LoanRuns.StandsLemmas.{orphans_stand, shared_of, span_of, of_lender, of_dead}

-- ---- kinds

abbrev kind_lent : ℕ → LoanKind
kind_lent k = cond (eqb k 2) Shared Exclusive

abbrev is_lend : ℕ → Bool
is_lend k = eqb k 1 || eqb k 2

abbrev KindTold : ℕ → Type 0
KindTold k = (kind : LoanKind) → loan_kind (kind_of k) ≡ Some kind → (is_lend k ≡ true) × (kind_lent k ≡ kind)

kind_told : (k : ℕ) → KindTold k
kind_told k =
    by_kind (λ (n : ℕ). (kind : LoanKind) → loan_kind (kind_of n) ≡ Some kind → (is_lend n ≡ true) × (kind_lent n ≡ kind)) k
    (λ kind e. (refl, some_same Exclusive kind e))
    (λ kind e. (refl, some_same Shared kind e)) (λ kind e. absurd cc) (λ kind e. absurd cc) (λ kind e. absurd cc) (λ a b c d f kind e. (
    let none : loan_kind (kind_of k) ≡ None = rw (a, b, c, d, f) refl in
    absurd cc
    ))

lend_told : (k : ℕ) → is_lend k ≡ true → loan_kind (kind_of k) ≡ Some (kind_lent k)
lend_told k is =
    by_kind (λ (n : ℕ). is_lend n ≡ true → loan_kind (kind_of n) ≡ Some (kind_lent n)) k (λ e. refl) (λ e. refl) (λ e. absurd cc) (λ e. absurd cc)
    (λ e. absurd cc)
    (λ a b c d f e. absurd (both_ways (eqb k 2) b (either (eqb k 1) (eqb k 2) a e))) is

shared_lent : (k : ℕ) → shared_of (kind_lent k) ≡ eqb k 2
shared_lent k = go (eqb k 2)
  where
    go : (b : Bool) → shared_of (cond b Shared Exclusive) ≡ b
    go true = refl
    go false = refl

-- ---- the run that a span is

-- the pages of a span are those of the one run of their number
record IsRunOf (r : Run) (s : Span) : Type 0 where
  pid : r.pid ≡ s.pid
  page : r.page ≡ s.page
  count : r.end - r.holder_page ≡ s.count
  nonempty : r.holder_page < r.end
  holder_pid : r.holder_pid ≡ s.holder_pid
  holder_page : r.holder_page ≡ s.holder_page
  shared : r.shared ≡ s.shared

span_is_run : (rows : List Run) → Ascending None rows → AllByRecursion IsSingle rows → (r : Run) → Among (joined rows) r
    → count_by (is_run_of r.number) (joined rows) ≤ 1
    → (s : Span) → IsSpan rows r.number s → 1 ≤ s.count → IsRunOf r s
span_is_run rows forms single r among few s span more =
    let own = among_has (IsIn rows) (joined rows) r (each_in None rows forms single) among in
    let some = own.some in
    let first = own.at 0 (omega arith) in
    let last_index : ℕ = r.end - r.holder_page - 1 in
    let last = own.at last_index (omega arith) in
    let at_first = span.inside (r.pid, r.page + 0) first.page first.found first.number in
    let at_last = span.inside (r.pid, r.page + last_index) last.page last.found last.number in
    let zero = span.there 0 (omega arith) in
    let end_index : ℕ = s.count - 1 in
    let end = span.there end_index (omega arith) in
    let one = (at_place rows r forms single among few (s.pid, s.page + 0) zero.0 zero.1 zero.2).0 in
    let two = (at_place rows r forms single among few (s.pid, s.page + end_index) end.0 end.1 end.2).0 in
    let from_first = at_first.from in
    let to_last = at_last.to in
    let from_one = one.from in
    let to_two = two.to in
    let page : r.page ≡ s.page = omega arith in
    let holder = at_first.holder_page in
    let own_holder = first.holder_page in
    record {
      pid = at_first.pid;
      page = page;
      count = omega arith;
      nonempty = some;
      holder_pid = sym first.holder_pid ∙ at_first.holder_pid;
      holder_page = omega arith;
      shared = sym first.shared ∙ at_first.shared;
    }

-- ---- a message and the run of its lend

abbrev pub wanted : ℕ → MessageRow → Lend
wanted pid m = record {
  number = m.number;
  shared = eqb m.kind 2;
  is_lent = not (eqb m.sender_pid 0);
  lender = m.sender_pid;
  holder = pid;
  first = m.first;
  end = m.first + m.count;
}

-- it isn't a lend, or is among those that runs say
abbrev pub is_made : List Lend → ℕ → MessageRow → Bool
is_made made pid m = list_all (λ l. list_any (same_lend l) made) (message_lend pid m)

and_true : (b : Bool) → b ≡ true → (b && true) ≡ true
and_true b e = rw e refl

run_same : (a b : LoanRun) → a.lender ≡ b.lender → a.holder.pid.0 ≡ b.holder.pid.0 → a.holder.vpn.0 ≡ b.holder.vpn.0 → a.count ≡ b.count → a.kind ≡ b.kind
    → a.number.0 ≡ b.number.0 → a ≡ b
run_same a b l p v c k n =
    ap (λ (x : Option Place). record a { lender = x }) l ∙ ap (λ (x : ℕ). record a { lender = b.lender; holder = place_at x a.holder.vpn.0 }) p
    ∙ ap (λ (x : ℕ). record a { lender = b.lender; holder = place_at b.holder.pid.0 x }) v
    ∙ ap (λ (x : ℕ). record b { count = x; kind = a.kind; number = a.number }) c ∙ ap (λ (x : LoanKind). record b { kind = x; number = a.number }) k
    ∙ ap (λ (x : ℕ). record b { number = number_of x }) n

module _ (all : Loans) (homes left : List Run) (says : Says all homes left) (apart : AreNumbersApart (joined homes) (joined left)) where
  abbrev made : List Lend
  made = made_of (joined homes) (joined left)

  -- of the number of a run of pages with a lender there is no other, and no orphan
  loan_stands : (r : Run) → Among (joined homes) r → Stands all (lent_run r)
  loan_stands r among =
      let few = apart r.number in
      let some = among_counted r.number (joined homes) r among refl in
      loans_stand all homes left says r among (omega arith) (no_page left r.number says.left_ascend says.left_single (omega arith))

  orphan_stands : (r : Run) → Among (joined left) r → Stands all (left_run r)
  orphan_stands r among =
      let few = apart r.number in
      let some = among_counted r.number (joined left) r among refl in
      orphans_stand all homes left says r among (omega arith) (no_page homes r.number says.homes_ascend says.homes_single (omega arith))

  nonempty_loan : (r : Run) → Among (joined homes) r → r.holder_page < r.end
  nonempty_loan r among = (among_has (IsIn homes) (joined homes) r (each_in None homes says.homes_ascend says.homes_single) among).some

  nonempty_orphan : (r : Run) → Among (joined left) r → r.holder_page < r.end
  nonempty_orphan r among = (among_has (IsIn left) (joined left) r (each_in None left says.left_ascend says.left_single) among).some

  module _ (s : ServerRow) (m : MessageRow) where
    abbrev said : Lend
    said = wanted s.pid m

    abbrev run_said : LoanKind → Option Place → LoanRun
    run_said kind lender = lend_run (server_of s) (message_of m) kind lender

    kind_is : (r : Run) (kind : LoanKind) → kind_lent m.kind ≡ kind → eqb m.kind 2 ≡ r.shared → kind_said r ≡ kind
    kind_is r kind k e = ap (λ (b : Bool). cond b Shared Exclusive) (sym e) ∙ k

    by_loan : (kind : LoanKind) → kind_lent m.kind ≡ kind → (r : Run) → Among (joined homes) r → said ≡ loan_lend r
        → IsLendMatched all (server_of s) (message_of m) kind
    by_loan kind k r among same =
        let some = nonempty_loan r among in
        let first : m.first ≡ r.holder_page = ap (λ (l : Lend). l.first) same in
        let end : m.first + m.count ≡ r.end = ap (λ (l : Lend). l.end) same in
        let lender : m.sender_pid ≡ r.pid = ap (λ (l : Lend). l.lender) same in
        let lent : not (eqb m.sender_pid 0) ≡ true = ap (λ (l : Lend). l.is_lent) same in
        let there : sender_of m ≡ Some (thread_at_id m.sender_pid m.sender_tid) = sender_there (eqb m.sender_pid 0) lent in
        let run : lent_run r ≡ run_said kind (Some (home_of r)) =
        run_same (lent_run r) (run_said kind (Some (home_of r))) refl (sym (ap (λ (l : Lend). l.holder) same)) (sym first) (omega arith)
        (kind_is r kind k (ap (λ (l : Lend). l.shared) same))
        (sym (ap (λ (l : Lend). l.number) same)) in
        let own : (lender : Place) × (lender.pid ≡ record { 0 = m.sender_pid }) × Stands all (run_said kind (Some lender)) =
        (home_of r, ap (λ (n : ℕ). record { 0 = n }) (sym lender), subst (λ (x : LoanRun). Stands all x) run (loan_stands r among)) in
        record {
          count = omega arith;
          loan = subst (λ (o : Option ThreadId). IsOnLoan all (server_of s) (message_of m) kind o) (sym there) own;
        }
      where
        sender_there : (b : Bool) → not b ≡ true → cond b None (Some (thread_at_id m.sender_pid m.sender_tid)) ≡ Some (thread_at_id m.sender_pid m.sender_tid)
        sender_there true e = absurd cc
        sender_there false e = refl

    by_orphan : (kind : LoanKind) → kind_lent m.kind ≡ kind → (r : Run) → Among (joined left) r → said ≡ orphan_lend r
        → IsLendMatched all (server_of s) (message_of m) kind
    by_orphan kind k r among same =
        let some = nonempty_orphan r among in
        let first : m.first ≡ r.holder_page = ap (λ (l : Lend). l.first) same in
        let end : m.first + m.count ≡ r.end = ap (λ (l : Lend). l.end) same in
        let lent : not (eqb m.sender_pid 0) ≡ false = ap (λ (l : Lend). l.is_lent) same in
        let gone : sender_of m ≡ None = sender_gone (eqb m.sender_pid 0) lent in
        let run : left_run r ≡ run_said kind None =
        run_same (left_run r) (run_said kind None) refl (sym (ap (λ (l : Lend). l.holder) same)) (sym first) (omega arith)
        (kind_is r kind k (ap (λ (l : Lend). l.shared) same))
        (sym (ap (λ (l : Lend). l.number) same)) in
        record {
          count = omega arith;
          loan = subst (λ (o : Option ThreadId). IsOnLoan all (server_of s) (message_of m) kind o) (sym gone)
              (subst (λ (x : LoanRun). Stands all x) run (orphan_stands r among));
        }
      where
        sender_gone : (b : Bool) → not b ≡ false → cond b None (Some (thread_at_id m.sender_pid m.sender_tid)) ≡ None
        sender_gone true e = refl
        sender_gone false e = absurd cc

    -- what is among those that runs say has its pages
    made_right : is_made made s.pid m ≡ true → IsMessageLent all (server_of s) (message_of m)
    made_right holds kind e =
        let k = kind_told m.kind kind e in
        let one : list_all (λ l. list_any (same_lend l) made) (said ∷ []) ≡ true =
        subst (λ (b : Bool). list_all (λ l. list_any (same_lend l) made) (cond b (said ∷ []) []) ≡ true) k.0 holds in
        let there = (and_parts (list_any (same_lend said) made) true one).0 in
        elim (any_made (same_lend said) (joined homes) (joined left) there) [
          | inl r ↦ by_loan kind k.1 r.0 r.1 (lend_is said (loan_lend r.0) r.2)
          | inr r ↦ by_orphan kind k.1 r.0 r.1 (lend_is said (orphan_lend r.0) r.2)
        ]

    -- and what has its pages is among them
    of_loan : (kind : LoanKind) → kind_lent m.kind ≡ kind → 1 ≤ m.count → (lender : Place) → lender.pid.0 ≡ m.sender_pid → eqb m.sender_pid 0 ≡ false
        → Stands all (run_said kind (Some lender)) → list_any (same_lend said) made ≡ true
    of_loan kind k more lender pid some stands =
        let span = span_of lender (run_said kind (Some lender)).holder (run_said kind (Some lender)) in
        let is_span = of_lender all homes left says (run_said kind (Some lender)) stands lender refl in
        let zero = is_span.there 0 more in
        let over = run_over homes says.homes_ascend says.homes_single (lender.pid.0, lender.vpn.0 + 0) zero.0 zero.1 in
        let number : over.0.number ≡ m.number = over.2 ∙ zero.2 in
        let few = apart over.0.number in
        let once : count_by (is_run_of over.0.number) (joined homes) ≤ 1 = omega arith in
        let is = span_is_run homes says.homes_ascend says.homes_single over.0 over.1 once span
        (subst (λ (n : ℕ). IsSpan homes n span) (sym number) is_span) more in
        let count = is.count in
        let nonempty = is.nonempty in
        let first : over.0.holder_page ≡ m.first = is.holder_page in
        let shared : eqb m.kind 2 ≡ over.0.shared = sym (shared_lent m.kind) ∙ ap shared_of k ∙ sym is.shared in
        let same : said ≡ loan_lend over.0 =
        lend_from said (loan_lend over.0) (sym number) shared (ap not some) (sym pid ∙ sym is.pid) (sym is.holder_pid) (sym first) (omega arith) in
        made_loan (same_lend said) (joined homes) (joined left) over.0 over.1 (subst (λ (l : Lend). same_lend said l ≡ true) same (lend_own said))

    of_orphan : (kind : LoanKind) → kind_lent m.kind ≡ kind → 1 ≤ m.count → eqb m.sender_pid 0 ≡ true → m.sender_pid ≡ 0
        → Stands all (run_said kind None) → list_any (same_lend said) made ≡ true
    of_orphan kind k more gone zero_pid stands =
        let span = span_of (run_said kind None).holder (run_said kind None).holder (run_said kind None) in
        let is_span = of_dead all homes left says (run_said kind None) stands refl in
        let zero = is_span.there 0 more in
        let over = run_over left says.left_ascend says.left_single (s.pid, m.first + 0) zero.0 zero.1 in
        let number : over.0.number ≡ m.number = over.2 ∙ zero.2 in
        let few = apart over.0.number in
        let once : count_by (is_run_of over.0.number) (joined left) ≤ 1 = omega arith in
        let is = span_is_run left says.left_ascend says.left_single over.0 over.1 once span (subst (λ (n : ℕ). IsSpan left n span) (sym number) is_span) more in
        let count = is.count in
        let nonempty = is.nonempty in
        let first : over.0.holder_page ≡ m.first = is.holder_page in
        let shared : eqb m.kind 2 ≡ over.0.shared = sym (shared_lent m.kind) ∙ ap shared_of k ∙ sym is.shared in
        let same : said ≡ orphan_lend over.0 =
        lend_from said (orphan_lend over.0) (sym number) shared (ap not gone) zero_pid (sym is.holder_pid) (sym first) (omega arith) in
        made_orphan (same_lend said) (joined homes) (joined left) over.0 over.1 (subst (λ (l : Lend). same_lend said l ≡ true) same (lend_own said))

    made_left : IsMessageLent all (server_of s) (message_of m) → is_made made s.pid m ≡ true
    made_left lent = go (is_lend m.kind) refl
      where
        sender : (b : Bool) → eqb m.sender_pid 0 ≡ b → 1 ≤ m.count
            → IsOnLoan all (server_of s) (message_of m) (kind_lent m.kind) (cond b None (Some (thread_at_id m.sender_pid m.sender_tid)))
            → list_any (same_lend said) made ≡ true
        sender true e more loan = of_orphan (kind_lent m.kind) refl more e (eqb-true m.sender_pid 0 e) loan
        sender false e more loan = of_loan (kind_lent m.kind) refl more loan.0 (ap (λ (p : Pid). p.0) loan.1) e loan.2

        go : (b : Bool) → is_lend m.kind ≡ b → is_made made s.pid m ≡ true
        go false e = subst (λ (b : Bool). list_all (λ l. list_any (same_lend l) made) (cond b (said ∷ []) []) ≡ true) (sym e) refl
        go true e =
            let own = lent (kind_lent m.kind) (lend_told m.kind e) in
            let there = sender (eqb m.sender_pid 0) refl own.count own.loan in
            subst (λ (b : Bool). list_all (λ l. list_any (same_lend l) made) (cond b (said ∷ []) []) ≡ true) (sym e)
            (and_true (list_any (same_lend said) made) there)

    pub made_told : IsTrue (is_made made s.pid m) ↔ IsMessageLent all (server_of s) (message_of m)
    made_told = (made_right, made_left)

-- Loans are matched exactly where no number is that of two runs, and messages and runs say the same lends.
use Rattle.std.proofs.Common.{◌≡◌, ℕ, ◌+◌, ◌≤◌, Bool, true, false, cond, eqb, List, [], ◌∷◌, ◌++◌, map, Option, Some, None, reverse, refl, sym, ap, subst, ◌∙◌, arith, zero-add, inl, inr, ◌↔◌}
use Rattle.std.specs.Prelude.{◌&&◌, ◌||◌, is_some, IsTrue}
use Rattle.std.specs.List.{find, flat_map, list_any, list_all, count_by, All, AllByRecursion}
use Rattle.std.specs.Option.{option_map}
use Rattle.std.proofs.lemmas.Bool.{cases_Bool, and_parts, eqb-true, eq-eqb, eqb-false, both_ways}
use Rattle.std.proofs.lemmas.List.Elements.{All-head, All-tail}
use Rattle.std.proofs.lemmas.List.Folds.{list_all-append}
use Rattle.std.proofs.lemmas.List.Sums.{sum_by-append}
use Rattle.xk_base.specs.declared.ids.Number.{Number}
use Rattle.xk_base.specs.declared.ids.Place.{Place}
use Rattle.xk_base.specs.declared.ids.ThreadId.{ThreadId}
use Rattle.xk_base.specs.declared.messages.Message.{Message}
use Rattle.xk_base.specs.declared.pages.LoanKind.{LoanKind}
use Rattle.ledger_model.specs.Ledger.{PageLoan}
use Rattle.ledger_model.specs.Loans.{Loans, OrphanLoan, loans, same_number}
use Rattle.machine_model.specs.State.Machine.{Server}
use Rattle.machine_model.specs.State.Servers.{messages_of}
use Rattle.machine_model.specs.Messaging.MessageCounts.{count_in, count_at, HasOne}
use Rattle.machine_model.specs.Messaging.Messages.{is_lend, is_lend_of, loan_kind}
use Rattle.machine_model.specs.Runs.Matched.{lend_run, IsOnLoan, IsMessageLent, AreLoansMatched}
use Rattle.snapshot_matching.specs.declared.lends.Lend.{Lend}
use Rattle.snapshot_rows.specs.declared.runs.Run.{Run}
use Rattle.snapshot_rows.specs.declared.state.MessageRow.{MessageRow}
use Rattle.snapshot_rows.specs.declared.state.OrphanRow.{OrphanRow}
use Rattle.snapshot_rows.specs.declared.state.PageRow.{PageRow}
use Rattle.snapshot_rows.specs.declared.state.ServerRow.{ServerRow}
use Rattle.snapshot_rows.specs.Order.{page_key, orphan_key, server_key, Ascend, AscendInTwo}
use Rattle.snapshot_rows.specs.Machines.{place_at, server_of, servers_of, ledger_of}
use Rattle.snapshot_rows.specs.RunParts.{run_of, orphan_run, joined, loan_runs, orphan_runs, is_run_of, AreNumbersApart}
use Rattle.snapshot_matching.specs.LendParts.{message_lend, lends_of, loan_lend, orphan_lend, is_lend_numbered, same_lend, HaveSame}
use Rattle.snapshot_matching.specs.LendParts.{AreAlike}
use Rattle.snapshot_matching.specs.ServerParts.{all_messages, many_at, is_lent_by}
use Rattle.snapshot_rows.proofs.Keys.CountLemmas.{count_first, count_yes, count_no, none_of_count}
use Rattle.snapshot_rows.proofs.KeyLemmas.{mapped, either}
use Rattle.snapshot_matching.proofs.SameLemmas.{count_less, counted_has}
use Rattle.snapshot_matching.proofs.ServerRows.CountedLemmas.{Tells}
use Rattle.snapshot_matching.proofs.ServerRows.SenderLemmas.{kind_of, by_kind}
use Rattle.snapshot_matching.proofs.ServerRows.ServerRowLemmas.{servers_told, messages_told}
use Rattle.snapshot_matching.proofs.ServerRows.TotalLemmas.{total, listed, one_total}
use Rattle.snapshot_rows.proofs.LoanRuns.JoinLemmas.{apart_back}
use Rattle.snapshot_matching.proofs.Loans.LendLemmas.{lend_is, lend_own, made_of, made_back}
use Rattle.snapshot_matching.proofs.Loans.MadeLemmas.{wanted, is_made, made_told}
use Rattle.snapshot_rows.proofs.LoanRuns.OneRunLemmas.{among_has, among_counted, one_or_none, run_over}
use Rattle.snapshot_rows.proofs.LoanRuns.RunLemmas.{is_run, IsIn, Among, each_in}
use Rattle.snapshot_rows.proofs.LoanRuns.SaidLemmas.{loan_said, orphan_said, key_of, Says, says_of}
use Rattle.snapshot_rows.proofs.LoanRuns.StandsLemmas.{number_of, IsOne, no_page, fresh_of, apart_of_one}

-- ---- how many lends have a number

lends : (k : ℕ) → is_lend (kind_of k) ≡ (eqb k 1 || eqb k 2)
lends k = by_kind (λ n. is_lend (kind_of n) ≡ (eqb n 1 || eqb n 2)) k refl refl refl refl refl (λ a b c d e. rw (a, b, c, d, e) refl)

lend_tells : (number : Number) → Tells (is_lend_of number) (is_lent_by number.0)
lend_tells number m = ap (λ (b : Bool). eqb m.number number.0 && b) (lends m.kind)

mapped_counted : {A B : Type 0} (f : A → B) (test : B → Bool) (xs : List A) → count_by test (map f xs) ≡ count_by (λ x. test (f x)) xs
mapped_counted f test [] = refl
mapped_counted f test (x ∷ xs) =
    count_first test (f x) (map f xs) ∙ ap (λ (n : ℕ). cond (test (f x)) 1 0 + n) (mapped_counted f test xs) ∙ sym (count_first (λ y. test (f y)) x xs)

made_counted : (n : ℕ) (one two : List Run) → count_by (is_lend_numbered n) (made_of one two) ≡ count_by (is_run_of n) one + count_by (is_run_of n) two
made_counted n one two =
    let parts = sum_by-append (λ l. cond (is_lend_numbered n l) 1 0) (map loan_lend one) (map orphan_lend two) in
    let first = mapped_counted loan_lend (is_lend_numbered n) one in
    let second = mapped_counted orphan_lend (is_lend_numbered n) two in
    omega arith

and_true : (b : Bool) → b ≡ (b && true)
and_true true = refl
and_true false = refl

and_false : (b : Bool) → (b && false) ≡ false
and_false true = refl
and_false false = refl

lent_counted : (n pid : ℕ) (ms : List MessageRow) → count_by (is_lend_numbered n) (flat_map (message_lend pid) ms) ≡ count_by (is_lent_by n) ms
lent_counted n pid [] = refl
lent_counted n pid (m ∷ ms) =
    go (eqb m.kind 1 || eqb m.kind 2) ∙ ap (λ (k : ℕ). cond (is_lent_by n m) 1 0 + k) (lent_counted n pid ms) ∙ sym (count_first (is_lent_by n) m ms)
  where
    go : (b : Bool) → count_by (is_lend_numbered n) (cond b (wanted pid m ∷ []) [] ++ flat_map (message_lend pid) ms)
        ≡ cond (eqb m.number n && b) 1 0 + count_by (is_lend_numbered n) (flat_map (message_lend pid) ms)
    go true =
        count_first (is_lend_numbered n) (wanted pid m) (flat_map (message_lend pid) ms)
        ∙ ap (λ (b : Bool). cond b 1 0 + count_by (is_lend_numbered n) (flat_map (message_lend pid) ms)) (and_true (eqb m.number n))
    go false =
        let none : cond (eqb m.number n && false) 1 0 ≡ 0 = ap (λ (b : Bool). cond b 1 0) (and_false (eqb m.number n)) in
        sym (zero-add (count_by (is_lend_numbered n) (flat_map (message_lend pid) ms)))
        ∙ ap (λ (k : ℕ). k + count_by (is_lend_numbered n) (flat_map (message_lend pid) ms)) (sym none)

server_counted : (n : ℕ) (s : ServerRow) → count_by (is_lend_numbered n) (lends_of s) ≡ many_at (is_lent_by n) s
server_counted n s =
    sum_by-append (λ l. cond (is_lend_numbered n l) 1 0) (flat_map (message_lend s.pid) s.queued) (flat_map (message_lend s.pid) s.held)
    ∙ ap (λ (k : ℕ). k + count_by (is_lend_numbered n) (flat_map (message_lend s.pid) s.held)) (lent_counted n s.pid s.queued)
    ∙ ap (λ (k : ℕ). count_by (is_lent_by n) s.queued + k) (lent_counted n s.pid s.held)

said_counted : (n : ℕ) (rows : List ServerRow) → count_by (is_lend_numbered n) (flat_map lends_of rows) ≡ total (is_lent_by n) rows
said_counted n rows = listed lends_of (is_lend_numbered n) (is_lent_by n) (server_counted n) rows

-- ---- tests of all lends that messages say

all_flat : {A B : Type 0} (f : A → List B) (P : B → Bool) (xs : List A) → list_all P (flat_map f xs) ≡ list_all (λ x. list_all P (f x)) xs
all_flat f P [] = refl
all_flat f P (x ∷ xs) = list_all-append P (f x) (flat_map f xs) ∙ ap (λ (b : Bool). list_all P (f x) && b) (all_flat f P xs)

all_same : {A : Type 0} (P Q : A → Bool) (xs : List A) → ((x : A) → P x ≡ Q x) → list_all P xs ≡ list_all Q xs
all_same P Q [] each = refl
all_same P Q (x ∷ xs) each = ap (λ (b : Bool). b && list_all P xs) (each x) ∙ ap (λ (b : Bool). Q x && b) (all_same P Q xs each)

all_of_server : (P : Lend → Bool) (s : ServerRow) → list_all P (lends_of s) ≡ all_messages (λ m. list_all P (message_lend s.pid m)) s
all_of_server P s =
    list_all-append P (flat_map (message_lend s.pid) s.queued) (flat_map (message_lend s.pid) s.held)
    ∙ ap (λ (b : Bool). b && list_all P (flat_map (message_lend s.pid) s.held)) (all_flat (message_lend s.pid) P s.queued)
    ∙ ap (λ (b : Bool). list_all (λ m. list_all P (message_lend s.pid m)) s.queued && b) (all_flat (message_lend s.pid) P s.held)

all_said : (P : Lend → Bool) (rows : List ServerRow)
    → list_all P (flat_map lends_of rows) ≡ list_all (λ s. all_messages (λ m. list_all P (message_lend s.pid m)) s) rows
all_said P rows =
    all_flat lends_of P rows
    ∙ all_same (λ s. list_all P (lends_of s)) (λ s. all_messages (λ m. list_all P (message_lend s.pid m)) s) rows (all_of_server P)

all_of_counted : (P : Lend → Bool) (xs : List Lend) → ((l : Lend) → 1 ≤ count_by (same_lend l) xs → P l ≡ true) → list_all P xs ≡ true
all_of_counted P [] each = refl
all_of_counted P (x ∷ xs) each =
    let own = count_yes (same_lend x) x xs (lend_own x) in
    let here : P x ≡ true = each x (omega arith) in
    let others : list_all P xs ≡ true = all_of_counted P xs (λ l some. each l (let first = count_first (same_lend l) x xs in omega arith)) in
    rw (here, others) refl

all_have : (P : Lend → Bool) (xs : List Lend) → list_all P xs ≡ true → AllByRecursion (λ l. P l ≡ true) xs
all_have P [] all = tt
all_have P (x ∷ xs) all = (let both = and_parts (P x) (list_all P xs) all in (both.0, all_have P xs both.1))

any_of_count : (P : Lend → Bool) (xs : List Lend) → 1 ≤ count_by P xs → list_any P xs ≡ true
any_of_count P [] some = absurd (omega arith)
any_of_count P (x ∷ xs) some = elim (cases_Bool (P x)) [
  | inl is ↦ rw is refl
  | inr isnt ↦ (
      let rest = count_no P x xs isnt in
      let there : list_any P xs ≡ true = any_of_count P xs (omega arith) in
      rw (isnt, there) refl
      )
]

count_of_any : (P : Lend → Bool) (xs : List Lend) → list_any P xs ≡ true → 1 ≤ count_by P xs
count_of_any P [] e = absurd cc
count_of_any P (x ∷ xs) e = elim (cases_Bool (P x)) [
  | inl is ↦ (let first = count_yes P x xs is in omega arith)
  | inr isnt ↦ (
      let there : list_any P xs ≡ true = either (P x) (list_any P xs) isnt e in
      let rest = count_no P x xs isnt in
      let some = count_of_any P xs there in
      omega arith
      )
]

-- what passes one of two tests that are apart passes a third
count_two : (p q r : Lend → Bool) → ((l : Lend) → p l ≡ true → q l ≡ false) → ((l : Lend) → p l ≡ true → r l ≡ true) → ((l : Lend) → q l ≡ true → r l ≡ true)
    → (xs : List Lend) → count_by p xs + count_by q xs ≤ count_by r xs
count_two p q r apart one two [] = omega arith
count_two p q r apart one two (x ∷ xs) =
    let rest = count_two p q r apart one two xs in
    elim (cases_Bool (p x)) [
      | inl is ↦ (
          let a = count_yes p x xs is in
          let b = count_no q x xs (apart x is) in
          let c = count_yes r x xs (one x is) in
          omega arith
          )
      | inr isnt ↦ (
          let a = count_no p x xs isnt in
          elim (cases_Bool (q x)) [
            | inl does ↦ (let b = count_yes q x xs does in let c = count_yes r x xs (two x does) in omega arith)
            | inr doesnt ↦ (let b = count_no q x xs doesnt in let c = count_first r x xs in omega arith)
          ]
          )
    ]

of_one_number : (l x : Lend) → same_lend l x ≡ true → is_lend_numbered l.number x ≡ true
of_one_number l x same = eq-eqb x.number l.number (sym (ap (λ (z : Lend). z.number) (lend_is l x same)))

-- ---- the message of a number

counted_message : (test : Message → Bool) (P : Message → Type 0) (ms : List Message) → 1 ≤ count_in test ms → All P ms → (m : Message) × (test m ≡ true) × P m
unfolding count_in
counted_message test P [] some all = absurd (omega arith)
counted_message test P (m ∷ ms) some all = elim (cases_Bool (test m)) [
  | inl is ↦ (m, is, All-head P m ms all)
  | inr isnt ↦ (
      let rest : 1 ≤ cond false 1 0 + count_in test ms = subst (λ (b : Bool). 1 ≤ cond b 1 0 + count_in test ms) isnt some in
      counted_message test P ms (omega arith) (All-tail P m ms all)
      )
]

server_of_count : (test : Message → Bool) (o : Option Server) → count_at test o ≡ 1
    → (server : Server) × (o ≡ Some server) × (count_in test (messages_of server) ≡ 1)
server_of_count test None e = absurd (omega arith)
server_of_count test (Some server) e = (server, refl, e)

kind_there : (o : Option LoanKind) → is_some o ≡ true → (kind : LoanKind) × (o ≡ Some kind)
kind_there None e = absurd cc
kind_there (Some kind) e = (kind, refl)

LendsMatched : Loans → List ServerRow → Type 0
LendsMatched all rows = (n : ℕ) (server : Server) → servers_of rows n ≡ Some server → All (IsMessageLent all server) (messages_of server)

one_lent : (all : Loans) (rows : List ServerRow) → LendsMatched all rows → (number : Number) → HasOne (servers_of rows) (is_lend_of number) → IsOne all number
unfolding LendsMatched
one_lent all rows each number h =
    let server = server_of_count (is_lend_of number) (servers_of rows h.serial) h.here in
    let one = server.2 in
    let message = counted_message (is_lend_of number) (IsMessageLent all server.0) (messages_of server.0) (omega arith) (each h.serial server.0 server.1) in
    let both = and_parts (same_number message.0.number number) (is_lend message.0.kind) message.1 in
    let kind = kind_there (loan_kind message.0.kind) both.1 in
    let own = message.2 kind.0 kind.1 in
    go server.0 message.0 kind.0 (ap number_of (eqb-true message.0.number.0 number.0 both.0)) message.0.sender own.loan
  where
    go : (server : Server) (message : Message) (kind : LoanKind) → message.number ≡ number → (sender : Option ThreadId)
        → IsOnLoan all server message kind sender → IsOne all number
    go server message kind same (Some sender) loan = inr (lend_run server message kind (Some loan.0), same, loan.2)
    go server message kind same None loan = inr (lend_run server message kind None, same, loan)

-- ---- all

module _ (all : Loans) (homes left : List Run) (says : Says all homes left) (rows : List ServerRow) (ascend : Ascend server_key rows) where
  abbrev said : List Lend
  said = flat_map lends_of rows

  abbrev made : List Lend
  made = made_of (joined homes) (joined left)

  lends_matched : AreNumbersApart (joined homes) (joined left) → IsTrue (list_all (λ s. all_messages (is_made made s.pid) s) rows) ↔ LendsMatched all rows
  unfolding LendsMatched
  lends_matched apart =
      servers_told (λ s. all_messages (is_made made s.pid) s) (λ n server. All (IsMessageLent all server) (messages_of server))
      (λ s. messages_told (is_made made s.pid) (IsMessageLent all (server_of s)) (λ m. made_told all homes left says apart s m) s) rows ascend

  -- where a number is that of a run, one lend has it
  sent_of : AreAlike said made → AreNumbersApart (joined homes) (joined left) → (n : ℕ)
      → 1 ≤ count_by (is_run_of n) (joined homes) + count_by (is_run_of n) (joined left)
      → HasOne (servers_of rows) (is_lend_of (number_of n))
  sent_of alike apart n some =
      let few = apart n in
      let runs = made_counted n (joined homes) (joined left) in
      let same = alike (is_lend_numbered n) in
      let messages = said_counted n rows in
      (one_total (is_lend_of (number_of n)) (is_lent_by n) (lend_tells (number_of n)) rows ascend).0 (omega arith)

  pub matched_of : AreNumbersApart (joined homes) (joined left) → AreAlike said made → AreLoansMatched all (servers_of rows)
  unfolding LendsMatched
  matched_of apart alike =
      let each : list_all (λ l. list_any (same_lend l) made) said ≡ true =
      all_of_counted (λ l. list_any (same_lend l) made) said
      (λ l some. any_of_count (same_lend l) made (subst (λ (n : ℕ). 1 ≤ n) (alike (same_lend l)) some)) in
      record {
        lends = (lends_matched apart).0 (sym (all_said (λ l. list_any (same_lend l) made) rows) ∙ each);
        loans_sent = λ p loan e. (
            let m = mapped loan_said (find (is_run (key_of p)) homes) loan (sym (says.home p) ∙ e) in
            let over = run_over homes says.homes_ascend says.homes_single (key_of p) m.0 m.1 in
            let some = among_counted over.0.number (joined homes) over.0 over.1 refl in
            let sent = sent_of alike apart over.0.number (omega arith) in
            subst (λ (n : Number). HasOne (servers_of rows) (is_lend_of n)) (ap number_of over.2 ∙ ap (λ (l : PageLoan). l.number) m.2) sent
            );
        orphans_sent = λ p orphan e. (
            let m = mapped orphan_said (find (is_run (key_of p)) left) orphan (sym (says.orphan p) ∙ e) in
            let over = run_over left says.left_ascend says.left_single (key_of p) m.0 m.1 in
            let some = among_counted over.0.number (joined left) over.0 over.1 refl in
            let sent = sent_of alike apart over.0.number (omega arith) in
            subst (λ (n : Number). HasOne (servers_of rows) (is_lend_of n)) (ap number_of over.2 ∙ ap (λ (l : OrphanLoan). l.number) m.2) sent
            );
      }

  -- the lend of a run of pages, and of orphans
  loan_lent : AreLoansMatched all (servers_of rows) → (r : Run) → Among (joined homes) r → HasOne (servers_of rows) (is_lend_of (number_of r.number))
  loan_lent matched r among =
      let own = among_has (IsIn homes) (joined homes) r (each_in None homes says.homes_ascend says.homes_single) among in
      let some = own.some in
      let at = own.at 0 (omega arith) in
      let p : Place = place_at r.pid (r.page + 0) in
      let here : all.home p ≡ Some (loan_said at.page) = says.home p ∙ ap (option_map loan_said) at.found in
      subst (λ (n : ℕ). HasOne (servers_of rows) (is_lend_of (number_of n))) at.number (matched.loans_sent p (loan_said at.page) here)

  orphan_lent : AreLoansMatched all (servers_of rows) → (r : Run) → Among (joined left) r → HasOne (servers_of rows) (is_lend_of (number_of r.number))
  orphan_lent matched r among =
      let own = among_has (IsIn left) (joined left) r (each_in None left says.left_ascend says.left_single) among in
      let some = own.some in
      let at = own.at 0 (omega arith) in
      let p : Place = place_at r.pid (r.page + 0) in
      let here : all.orphan p ≡ Some (orphan_said at.page) = says.orphan p ∙ ap (option_map orphan_said) at.found in
      subst (λ (n : ℕ). HasOne (servers_of rows) (is_lend_of (number_of n))) at.number (matched.orphans_sent p (orphan_said at.page) here)

  pub apart_of_matched : AreLoansMatched all (servers_of rows) → AreNumbersApart (joined homes) (joined left)
  unfolding LendsMatched
  apart_of_matched matched =
      apart_of_one all homes left says (λ number. elim (one_or_none number.0 (joined homes)) [
        | inl r ↦ (
            one_lent all rows matched.lends number (subst (λ (n : ℕ). HasOne (servers_of rows) (is_lend_of (number_of n))) r.2 (loan_lent matched r.0 r.1))
            )
        | inr no_loan ↦ elim (one_or_none number.0 (joined left)) [
          | inl r ↦ (
              one_lent all rows matched.lends number (subst (λ (n : ℕ). HasOne (servers_of rows) (is_lend_of (number_of n))) r.2 (orphan_lent matched r.0 r.1))
              )
          | inr no_orphan ↦ (
              inl (fresh_of all homes left says number (no_page homes number.0 says.homes_ascend says.homes_single no_loan)
              (no_page left number.0 says.left_ascend says.left_single no_orphan))
              )
        ]
      ])

  -- one message lends by the number of a run
  lent_once : AreLoansMatched all (servers_of rows) → (n : ℕ) → 1 ≤ count_by (is_lend_numbered n) made → count_by (is_lend_numbered n) said ≡ 1
  lent_once matched n some =
      let runs = made_counted n (joined homes) (joined left) in
      let messages = said_counted n rows in
      let told = one_total (is_lend_of (number_of n)) (is_lent_by n) (lend_tells (number_of n)) rows ascend in
      elim (one_or_none n (joined homes)) [
        | inl r ↦ messages ∙ told.1 (subst (λ (k : ℕ). HasOne (servers_of rows) (is_lend_of (number_of k))) r.2 (loan_lent matched r.0 r.1))
        | inr no_loan ↦ elim (one_or_none n (joined left)) [
          | inl r ↦ messages ∙ told.1 (subst (λ (k : ℕ). HasOne (servers_of rows) (is_lend_of (number_of k))) r.2 (orphan_lent matched r.0 r.1))
          | inr no_orphan ↦ absurd (omega arith)
        ]
      ]

  pub same_of_matched : AreLoansMatched all (servers_of rows) → HaveSame said made
  unfolding LendsMatched
  same_of_matched matched l =
      let apart = apart_of_matched matched in
      let few = apart l.number in
      let runs = made_counted l.number (joined homes) (joined left) in
      let each : list_all (λ x. list_any (same_lend x) made) said ≡ true = all_said (λ x. list_any (same_lend x) made) rows
      ∙ (lends_matched apart).1 matched.lends in
      let have = all_have (λ x. list_any (same_lend x) made) said each in
      let less_said = count_less (same_lend l) (is_lend_numbered l.number) (of_one_number l) said in
      let less_made = count_less (same_lend l) (is_lend_numbered l.number) (of_one_number l) made in
      elim (cases_Bool (eqb (count_by (same_lend l) said) 0)) [
        | inr some ↦ (
            let many = eqb-false (count_by (same_lend l) said) 0 some in
            let x = counted_has (same_lend l) (λ y. list_any (same_lend y) made ≡ true) said (omega (arith, many)) have in
            let there = count_of_any (same_lend l) made (subst (λ (y : Lend). list_any (same_lend y) made ≡ true) (sym (lend_is l x.0 x.1)) x.2) in
            let once = lent_once matched l.number (omega arith) in
            omega (arith, many)
            )
        | inl none ↦ (
            let zero = eqb-true (count_by (same_lend l) said) 0 none in
            elim (cases_Bool (eqb (count_by (same_lend l) made) 0)) [
              | inl nothing ↦ zero ∙ sym (eqb-true (count_by (same_lend l) made) 0 nothing)
              | inr some ↦ (
                  let many = eqb-false (count_by (same_lend l) made) 0 some in
                  let once = lent_once matched l.number (omega (arith, many)) in
                  let others = none_of_count (same_lend l) said zero in
                  let x = counted_has (is_lend_numbered l.number) (λ y. (list_any (same_lend y) made ≡ true) × (same_lend l y ≡ false)) said
                  (omega arith) (pair_all said have others) in
                  let there = count_of_any (same_lend x.0) made x.2.0 in
                  let number : x.0.number ≡ l.number = eqb-true x.0.number l.number x.1 in
                  let two = count_two (same_lend l) (same_lend x.0) (is_lend_numbered l.number) (λ y is. apart_lends x.0 y is x.2.1) (of_one_number l)
                  (λ y is. subst (λ (n : ℕ). is_lend_numbered n y ≡ true) number (of_one_number x.0 y is)) made in
                  absurd (omega (arith, many))
                  )
            ]
            )
      ]
    where
      pair_all : (xs : List Lend) → AllByRecursion (λ y. list_any (same_lend y) made ≡ true) xs → AllByRecursion (λ y. same_lend l y ≡ false) xs
          → AllByRecursion (λ y. (list_any (same_lend y) made ≡ true) × (same_lend l y ≡ false)) xs
      pair_all [] a b = tt
      pair_all (x ∷ xs) a b = ((a.0, b.0), pair_all xs a.1 b.1)

      apart_lends : (x y : Lend) → same_lend l y ≡ true → same_lend l x ≡ false → same_lend x y ≡ false
      apart_lends x y is isnt = elim (cases_Bool (same_lend x y)) [
        | inl same ↦ (
            let one = lend_is l y is in
            let two = lend_is x y same in
            absurd (both_ways (same_lend l x) isnt (subst (λ (z : Lend). same_lend l z ≡ true) (one ∙ sym two) (lend_own l)))
            )
        | inr differ ↦ differ
      ]

-- ---- as a function tells it, of runs from the last to the first

module _ (file : List ℕ) (servers : List ServerRow) (pages : List PageRow) (orphans : List OrphanRow) (p : Ascend server_key servers)
    (q : AscendInTwo page_key pages)
    (r : AscendInTwo orphan_key orphans) (runs left : List Run) (e : reverse runs ≡ loan_runs pages) (f : reverse left ≡ orphan_runs orphans) where
  abbrev ledger_loans : Loans
  ledger_loans = loans (ledger_of file pages orphans)

  abbrev says : Says ledger_loans (flat_map run_of pages) (map orphan_run orphans)
  says = says_of file pages orphans q r

  back : AreNumbersApart runs left ↔ AreNumbersApart (loan_runs pages) (orphan_runs orphans)
  back = apart_back runs left (loan_runs pages) (orphan_runs orphans) e f

  pub unmatched_told : (told : Bool) → IsTrue told ↔ AreNumbersApart runs left → told ≡ false → AreLoansMatched ledger_loans (servers_of servers) → IsTrue false
  unmatched_told told is none matched =
      sym none ∙ is.1 (back.1 (apart_of_matched ledger_loans (flat_map run_of pages) (map orphan_run orphans) says servers p matched))

  pub made_once : AreNumbersApart runs left → (n : ℕ) → count_by (is_lend_numbered n) (made_of runs left) ≤ 1
  made_once apart n = (let few = apart n in let all = made_counted n runs left in omega arith)

  pub loans_told : AreNumbersApart runs left → (told : Bool) → (IsTrue told → AreAlike (flat_map lends_of servers) (made_of runs left))
      → (HaveSame (flat_map lends_of servers) (made_of runs left) → IsTrue told) → IsTrue told ↔ AreLoansMatched ledger_loans (servers_of servers)
  loans_told apart told alike same = (
    λ holds.
        matched_of ledger_loans (flat_map run_of pages) (map orphan_run orphans) says servers p (back.0 apart)
        (λ test. alike holds test ∙ sym (made_back runs left (loan_runs pages) (orphan_runs orphans) e f test)),
    λ matched.
        same (λ l. same_of_matched ledger_loans (flat_map run_of pages) (map orphan_run orphans) says servers p matched l
        ∙ made_back runs left (loan_runs pages) (orphan_runs orphans) e f (same_lend l)),
  )

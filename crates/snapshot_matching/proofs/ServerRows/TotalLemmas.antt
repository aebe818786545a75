-- How many messages of all servers pass a test: one or none exactly where the sum over the rows says so.
use Rattle.std.proofs.Common.{◌≡◌, ◌≢◌, ℕ, ◌+◌, ◌≤◌, ◌<◌, Bool, true, false, cond, eqb, List, [], ◌∷◌, Option, Some, None, refl, sym, ap, subst, ◌∙◌, arith, inl, inr, ◌↔◌}
use Rattle.std.specs.List.{find, flat_map, count_by, sum_by}
use Rattle.std.specs.Option.{option_map}
use Rattle.std.proofs.lemmas.Bool.{cases_Bool, eqb-true, eqb-false}
use Rattle.std.proofs.lemmas.List.Sums.{sum_by-append, sum_by-cons}
use Rattle.xk_base.specs.declared.messages.Message.{Message}
use Rattle.machine_model.specs.Messaging.MessageCounts.{count_at, HasNone, HasOne, HasAtMostOne}
use Rattle.snapshot_rows.specs.declared.state.MessageRow.{MessageRow}
use Rattle.snapshot_rows.specs.declared.state.ServerRow.{ServerRow}
use Rattle.snapshot_rows.specs.Order.{after, server_key, AreInOrder, Ascend}
use Rattle.snapshot_rows.specs.Machines.{server_of, servers_of}
use Rattle.snapshot_matching.specs.ServerParts.{many_at}
use Rattle.snapshot_rows.proofs.KeyLemmas.{some, key_above, number_is, number_own}
use Rattle.snapshot_matching.proofs.ServerRows.CountedLemmas.{Tells, counted_at}

abbrev Form : Option ℕ → ServerRow → Type 0
Form before s = after before ≤ server_key s

abbrev is_serial : ℕ → ServerRow → Bool
is_serial n s = eqb (server_key s) n

-- how many messages of all rows pass
abbrev pub total : (MessageRow → Bool) → List ServerRow → ℕ
total good rows = sum_by (many_at good) rows

-- .. as many as things that rows have, of which those of a row that pass are as many as its messages that do
pub listed : {A : Type 0} (things : ServerRow → List A) (test : A → Bool) (good : MessageRow → Bool)
    → ((s : ServerRow) → count_by test (things s) ≡ many_at good s)
    → (rows : List ServerRow) → count_by test (flat_map things rows) ≡ total good rows
listed things test good each [] = refl
listed things test good each (s ∷ rows) =
    sum_by-append (λ x. cond (test x) 1 0) (things s) (flat_map things rows) ∙ ap (λ (n : ℕ). n + count_by test (flat_map things rows)) (each s)
    ∙ ap (λ (n : ℕ). many_at good s + n) (listed things test good each rows) ∙ sym (sum_by-cons (many_at good) s rows)

module _ (test : Message → Bool) (good : MessageRow → Bool) (tells : Tells test good) where
  -- how many a server of the machine has
  abbrev at : List ServerRow → ℕ → ℕ
  at rows n = count_at test (servers_of rows n)

  at_first : (s : ServerRow) (rows : List ServerRow) (n : ℕ) → is_serial n s ≡ true → at (s ∷ rows) n ≡ many_at good s
  at_first s rows n is =
      ap (λ (b : Bool). count_at test (option_map server_of (cond b (some s) (find (is_serial n) rows)))) is ∙ counted_at test good tells s

  at_rest : (s : ServerRow) (rows : List ServerRow) (n : ℕ) → is_serial n s ≡ false → at (s ∷ rows) n ≡ at rows n
  at_rest s rows n isnt = ap (λ (b : Bool). count_at test (option_map server_of (cond b (some s) (find (is_serial n) rows)))) isnt

  -- a serial isn't that of a row behind it
  at_before : (k : ℕ) (rows : List ServerRow) → AreInOrder Form server_key (Some k) rows → at rows k ≡ 0
  at_before k rows forms = go (find (is_serial k) rows) refl
    where
      go : (o : Option ServerRow) → find (is_serial k) rows ≡ o → count_at test (option_map server_of o) ≡ 0
      go None e = refl
      go (Some s) e =
          let low : k < k = key_above server_key is_serial (λ a b. a < b) Form (λ before r form. omega arith) (number_is server_key) (number_own server_key)
          (λ j less. omega arith) (λ a b c less next. omega arith) k k rows s forms e in
          absurd (omega arith)

  split : (s : ServerRow) (rows : List ServerRow) → total good (s ∷ rows) ≡ many_at good s + total good rows
  split s rows = sum_by-cons (many_at good) s rows

  none_of_total : (before : Option ℕ) (rows : List ServerRow) → AreInOrder Form server_key before rows → total good rows ≡ 0 → (n : ℕ) → at rows n ≡ 0
  none_of_total before [] forms zero n = refl
  none_of_total before (s ∷ rows) forms zero n =
      let parts = split s rows in
      elim (cases_Bool (is_serial n s)) [
        | inl is ↦ (let own = at_first s rows n is in omega arith)
        | inr isnt ↦ at_rest s rows n isnt ∙ none_of_total (Some (server_key s)) rows forms.1 (omega arith) n
      ]

  total_of_none : (before : Option ℕ) (rows : List ServerRow) → AreInOrder Form server_key before rows → ((n : ℕ) → at rows n ≡ 0) → total good rows ≡ 0
  total_of_none before [] forms none = refl
  total_of_none before (s ∷ rows) forms none =
      let parts = split s rows in
      let own = at_first s rows s.serial (number_own server_key s) in
      let zero = none s.serial in
      let others = total_of_none (Some (server_key s)) rows forms.1 (λ n. elim (cases_Bool (is_serial n s)) [
        | inl is ↦ subst (λ (k : ℕ). at rows k ≡ 0) (eqb-true s.serial n is) (at_before s.serial rows forms.1)
        | inr isnt ↦ sym (at_rest s rows n isnt) ∙ none n
      ]) in
      omega arith

  one_of_total : (before : Option ℕ) (rows : List ServerRow) → AreInOrder Form server_key before rows → total good rows ≡ 1 → HasOne (servers_of rows) test
  one_of_total before [] forms one = absurd (omega arith)
  one_of_total before (s ∷ rows) forms one =
      let parts = split s rows in
      elim (cases_Bool (eqb (many_at good s) 0)) [
        | inl none ↦ (
            let zero = eqb-true (many_at good s) 0 none in
            let h = one_of_total (Some (server_key s)) rows forms.1 (omega arith) in
            let here = h.here in
            let apart : s.serial ≢ h.serial = λ same. (
            let empty = subst (λ (k : ℕ). at rows k ≡ 0) same (at_before s.serial rows forms.1) in
            absurd (omega arith)
            ) in
            record {
              serial = h.serial;
              here = elim (cases_Bool (is_serial h.serial s)) [
                | inl is ↦ absurd (apart (eqb-true s.serial h.serial is))
                | inr isnt ↦ at_rest s rows h.serial isnt ∙ h.here
              ];
              elsewhere = λ n other. elim (cases_Bool (is_serial n s)) [
                | inl is ↦ at_first s rows n is ∙ zero
                | inr isnt ↦ at_rest s rows n isnt ∙ h.elsewhere n other
              ];
            }
            )
        | inr some ↦ (
            let many = eqb-false (many_at good s) 0 some in
            let own : many_at good s ≡ 1 = omega (arith, many) in
            let zero : total good rows ≡ 0 = omega (arith, many) in
            record {
              serial = s.serial;
              here = at_first s rows s.serial (number_own server_key s) ∙ own;
              elsewhere = λ n other. elim (cases_Bool (is_serial n s)) [
                | inl is ↦ absurd (other (sym (eqb-true s.serial n is)))
                | inr isnt ↦ at_rest s rows n isnt ∙ none_of_total (Some (server_key s)) rows forms.1 zero n
              ];
            }
            )
      ]

  total_of_one : (before : Option ℕ) (rows : List ServerRow) → AreInOrder Form server_key before rows → HasOne (servers_of rows) test → total good rows ≡ 1
  total_of_one before [] forms h = absurd (let here = h.here in omega arith)
  total_of_one before (s ∷ rows) forms h =
      let parts = split s rows in
      let first = at_first s rows s.serial (number_own server_key s) in
      elim (cases_Bool (is_serial h.serial s)) [
        | inl is ↦ (
            let own : many_at good s ≡ 1 = sym (at_first s rows h.serial is) ∙ h.here in
            let key = eqb-true s.serial h.serial is in
            let others = total_of_none (Some (server_key s)) rows forms.1 (λ n. elim (cases_Bool (is_serial n s)) [
              | inl same ↦ subst (λ (k : ℕ). at rows k ≡ 0) (eqb-true s.serial n same) (at_before s.serial rows forms.1)
              | inr differ ↦ sym (at_rest s rows n differ) ∙ h.elsewhere n (λ e. eqb-false s.serial n differ (key ∙ sym e))
            ]) in
            omega arith
            )
        | inr isnt ↦ (
            let zero = h.elsewhere s.serial (eqb-false s.serial h.serial isnt) in
            let others = total_of_one (Some (server_key s)) rows forms.1 (record {
              serial = h.serial;
              here = sym (at_rest s rows h.serial isnt) ∙ h.here;
              elsewhere = λ n other. elim (cases_Bool (is_serial n s)) [
                | inl same ↦ subst (λ (k : ℕ). at rows k ≡ 0) (eqb-true s.serial n same) (at_before s.serial rows forms.1)
                | inr differ ↦ sym (at_rest s rows n differ) ∙ h.elsewhere n other
              ];
            }) in
            omega arith
            )
      ]

  pub one_total : (rows : List ServerRow) → Ascend server_key rows → (total good rows ≡ 1) ↔ HasOne (servers_of rows) test
  one_total rows ascend = (one_of_total None rows ascend, total_of_one None rows ascend)

  pub none_total : (rows : List ServerRow) → Ascend server_key rows → (total good rows ≡ 0) ↔ HasNone (servers_of rows) test
  none_total rows ascend = (none_of_total None rows ascend, total_of_none None rows ascend)

  pub at_most_total : (rows : List ServerRow) → Ascend server_key rows → (total good rows ≤ 1) ↔ HasAtMostOne (servers_of rows) test
  at_most_total rows ascend = (
    λ few. elim (cases_Bool (eqb (total good rows) 0)) [
      | inl zero ↦ inl (none_of_total None rows ascend (eqb-true (total good rows) 0 zero))
      | inr other ↦ (let some = eqb-false (total good rows) 0 other in inr (one_of_total None rows ascend (omega (arith, some))))
    ],
    λ most. elim most [
      | inl none ↦ (let zero = total_of_none None rows ascend none in omega arith)
      | inr one ↦ (let single = total_of_one None rows ascend one in omega arith)
    ],
  )

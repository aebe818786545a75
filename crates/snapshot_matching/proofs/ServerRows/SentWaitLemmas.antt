-- Messages and the threads that wait for their answers say the same waits exactly where senders are matched.
use Rattle.std.proofs.Common.{◌≡◌, ℕ, ◌+◌, ◌≤◌, Bool, true, false, not, cond, eqb, List, [], ◌∷◌, ◌++◌, Option, Some, None, refl, sym, ap, subst, ◌∙◌, arith, zero-add, inl, inr, ◌↔◌}
use Rattle.std.specs.Prelude.{◌&&◌, IsTrue}
use Rattle.std.specs.List.{find, flat_map, list_all, count_by}
use Rattle.std.specs.Option.{option_map, option_map_or}
use Rattle.std.proofs.lemmas.Bool.{cases_Bool, and_parts, both_ways, eqb-true, eq-eqb}
use Rattle.std.proofs.lemmas.List.Sums.{sum_by-append}
use Rattle.xk_base.specs.declared.ids.Number.{Number}
use Rattle.xk_base.specs.declared.ids.ThreadId.{ThreadId}
use Rattle.machine_model.specs.State.Machine.{Server}
use Rattle.machine_model.specs.Messaging.MessageCounts.{HasIf}
use Rattle.machine_model.specs.Runs.Matched.{waits_for, is_waiting_for as is_state_for, is_sent_as as is_message_of, AreSendersMatched}
use Rattle.snapshot_matching.specs.declared.waits.Wait.{Wait}
use Rattle.snapshot_rows.specs.declared.state.MessageRow.{MessageRow}
use Rattle.snapshot_rows.specs.declared.state.ServerRow.{ServerRow}
use Rattle.snapshot_rows.specs.declared.state.ThreadRow.{ThreadRow}
use Rattle.snapshot_rows.specs.Order.{thread_key, server_key, AreInOrder, Ascend, AscendInTwo}
use Rattle.snapshot_rows.specs.Machines.{thread_at_id, thread_of, threads_of, servers_of}
use Rattle.snapshot_matching.specs.ServerParts.{is_sent_as, many_at, are_messages_right}
use Rattle.snapshot_matching.specs.WaitParts.{message_wait, waits_of, thread_wait, is_wait_at, same_wait, HaveSameWaits, AreAlikeWaits}
use Rattle.snapshot_rows.proofs.Keys.CountLemmas.{count_first, count_yes, count_no}
use Rattle.snapshot_rows.proofs.KeyLemmas.{some, Less, pair_is, less_apart, less_through, less_behind}
use Rattle.snapshot_matching.proofs.SameLemmas.{count_less}
use Rattle.snapshot_matching.proofs.ThreadRows.ThreadLemmas.{ThreadForm, is_thread}
use Rattle.snapshot_matching.proofs.ServerRows.SenderLemmas.{sent_tells, waiting_state, IsRight, right_told}
use Rattle.snapshot_matching.proofs.ServerRows.ServerRowLemmas.{servers_told}
use Rattle.snapshot_matching.proofs.ServerRows.TotalLemmas.{total, listed, one_total, none_total}

eqb_flips : (a b : ℕ) → eqb a b ≡ eqb b a
eqb_flips a b = elim (cases_Bool (eqb a b)) [
  | inl same ↦ same ∙ sym (eq-eqb b a (sym (eqb-true a b same)))
  | inr differ ↦ elim (cases_Bool (eqb b a)) [
    | inl same ↦ absurd (both_ways (eqb a b) differ (eq-eqb a b (sym (eqb-true b a same))))
    | inr other ↦ differ ∙ sym other
  ]
]

-- ---- as messages say it

turned : (a b c : Bool) → (a && (b && c)) ≡ (c && (true && (a && b)))
turned true true true = refl
turned true true false = refl
turned true false true = refl
turned true false false = refl
turned false true true = refl
turned false true false = refl
turned false false true = refl
turned false false false = refl

none_sent : (c d : Bool) → (c && (false && d)) ≡ false
none_sent true d = refl
none_sent false d = refl

module _ (w : Wait) where
  abbrev sent : MessageRow → Bool
  sent m = is_sent_as w.number w.pid w.tid m

  message_counted : (ms : List MessageRow) → count_by (same_wait w) (flat_map message_wait ms) ≡ count_by sent ms
  message_counted [] = refl
  message_counted (m ∷ ms) = go (eqb m.sender_pid 0) refl ∙ ap (λ (k : ℕ). cond (sent m) 1 0 + k) (message_counted ms) ∙ sym (count_first sent m ms)
    where
      go : (b : Bool) → eqb m.sender_pid 0 ≡ b
          → count_by (same_wait w) (cond b [] ((record { pid = m.sender_pid; tid = m.sender_tid; number = m.number }) ∷ []) ++ flat_map message_wait ms)
          ≡ cond (sent m) 1 0 + count_by (same_wait w) (flat_map message_wait ms)
      go true e =
          let isnt : sent m ≡ false = ap (λ (b : Bool). eqb m.number w.number && (not b && (eqb w.pid m.sender_pid && eqb w.tid m.sender_tid))) e
          ∙ none_sent (eqb m.number w.number) (eqb w.pid m.sender_pid && eqb w.tid m.sender_tid) in
          sym (zero-add (count_by (same_wait w) (flat_map message_wait ms)))
          ∙ ap (λ (b : Bool). cond b 1 0 + count_by (same_wait w) (flat_map message_wait ms)) (sym isnt)
      go false e =
          let same : same_wait w (record { pid = m.sender_pid; tid = m.sender_tid; number = m.number }) ≡ sent m =
          turned (eqb w.pid m.sender_pid) (eqb w.tid m.sender_tid) (eqb w.number m.number)
          ∙ ap (λ (b : Bool). b && (true && (eqb w.pid m.sender_pid && eqb w.tid m.sender_tid))) (eqb_flips w.number m.number)
          ∙ sym (ap (λ (b : Bool). eqb m.number w.number && (not b && (eqb w.pid m.sender_pid && eqb w.tid m.sender_tid))) e) in
          count_first (same_wait w) (record { pid = m.sender_pid; tid = m.sender_tid; number = m.number }) (flat_map message_wait ms)
          ∙ ap (λ (b : Bool). cond b 1 0 + count_by (same_wait w) (flat_map message_wait ms)) same

  server_counted : (s : ServerRow) → count_by (same_wait w) (waits_of s) ≡ many_at sent s
  server_counted s =
      sum_by-append (λ x. cond (same_wait w x) 1 0) (flat_map message_wait s.queued) (flat_map message_wait s.held)
      ∙ ap (λ (k : ℕ). k + count_by (same_wait w) (flat_map message_wait s.held)) (message_counted s.queued)
      ∙ ap (λ (k : ℕ). count_by sent s.queued + k) (message_counted s.held)

  pub said_counted : (rows : List ServerRow) → count_by (same_wait w) (flat_map waits_of rows) ≡ total sent rows
  said_counted rows = listed waits_of (same_wait w) sent server_counted rows

-- ---- as threads say it

abbrev own_wait : ThreadRow → Wait
own_wait t = record { pid = t.pid; tid = t.tid; number = t.waits }

first_wait : (t : ThreadRow) (rows : List ThreadRow) → eqb t.state 2 ≡ true → flat_map thread_wait (t ∷ rows) ≡ own_wait t ∷ flat_map thread_wait rows
first_wait t rows is = rw is refl

first_other : (t : ThreadRow) (rows : List ThreadRow) → eqb t.state 2 ≡ false → flat_map thread_wait (t ∷ rows) ≡ flat_map thread_wait rows
first_other t rows isnt = rw isnt refl

form_behind : (before : ℕ × ℕ) (t : ThreadRow) → ThreadForm (Some before) t → Less before (thread_key t)
form_behind before t form = less_behind 0 0 before (thread_key t) form.0 form.1

-- behind a key no thread waits that has it
none_behind : (k before : ℕ × ℕ) (rows : List ThreadRow) → ((x : ℕ × ℕ) → Less before x → Less k x) → AreInOrder ThreadForm thread_key (Some before) rows
    → count_by (is_wait_at k) (flat_map thread_wait rows) ≡ 0
none_behind k before [] low forms = refl
none_behind k before (t ∷ rows) low forms =
    let less = form_behind before t forms.0 in
    let rest = none_behind k (thread_key t) rows (λ x next. low x (less_through before (thread_key t) x less next)) forms.1 in
    elim (cases_Bool (eqb t.state 2)) [
      | inr isnt ↦ ap (count_by (is_wait_at k)) (first_other t rows isnt) ∙ rest
      | inl is ↦ (
          ap (count_by (is_wait_at k)) (first_wait t rows is)
          ∙ (elim (cases_Bool (is_thread k t)) [
            | inl same ↦ absurd (less_apart k (subst (λ (z : ℕ × ℕ). Less k z) (pair_is thread_key k t same) (low (thread_key t) less)))
            | inr differ ↦ count_no (is_wait_at k) (own_wait t) (flat_map thread_wait rows) differ ∙ rest
          ])
          )
    ]

pub kept_once : (before : Option (ℕ × ℕ)) (rows : List ThreadRow) → AreInOrder ThreadForm thread_key before rows → (k : ℕ × ℕ)
    → count_by (is_wait_at k) (flat_map thread_wait rows) ≤ 1
kept_once before [] forms k = omega arith
kept_once before (t ∷ rows) forms k =
    let rest = kept_once (Some (thread_key t)) rows forms.1 k in
    elim (cases_Bool (eqb t.state 2)) [
      | inr isnt ↦ subst (λ (xs : List Wait). count_by (is_wait_at k) xs ≤ 1) (sym (first_other t rows isnt)) rest
      | inl is ↦ (
          subst (λ (xs : List Wait). count_by (is_wait_at k) xs ≤ 1) (sym (first_wait t rows is)) (elim (cases_Bool (is_thread k t)) [
            | inl same ↦ (
                let none = subst (λ (z : ℕ × ℕ). count_by (is_wait_at z) (flat_map thread_wait rows) ≡ 0) (pair_is thread_key k t same)
                (none_behind (thread_key t) (thread_key t) rows (λ x low. low) forms.1) in
                let one = count_yes (is_wait_at k) (own_wait t) (flat_map thread_wait rows) same in
                omega arith
                )
            | inr differ ↦ (let same = count_no (is_wait_at k) (own_wait t) (flat_map thread_wait rows) differ in omega arith)
          ])
          )
    ]

module _ (who : ThreadId) (number : Number) where
  abbrev wait : Wait
  wait = record { pid = who.pid.0; tid = who.tid.0; number = number.0 }

  abbrev k : ℕ × ℕ
  k = (who.pid.0, who.tid.0)

  at_key : (x : Wait) → same_wait wait x ≡ true → is_wait_at k x ≡ true
  at_key x same =
      let one = and_parts (eqb who.pid.0 x.pid) _ same in
      let two = and_parts (eqb who.tid.0 x.tid) (eqb number.0 x.number) one.1 in
      rw (sym (eqb_flips who.pid.0 x.pid) ∙ one.0, sym (eqb_flips who.tid.0 x.tid) ∙ two.0) refl

  -- whether the thread that was found waits
  abbrev waits : List ThreadRow → Bool
  waits rows = waits_for (threads_of rows) who number

  waits_first : (t : ThreadRow) (rows : List ThreadRow) → is_thread k t ≡ true → waits (t ∷ rows) ≡ (eqb t.state 2 && eqb t.waits number.0)
  waits_first t rows is =
      ap (λ (b : Bool). option_map_or (λ u. is_state_for number u.state) (option_map thread_of (cond b (some t) (find (is_thread k) rows))) false) is
      ∙ waiting_state t.state t.waits number

  waits_rest : (t : ThreadRow) (rows : List ThreadRow) → is_thread k t ≡ false → waits (t ∷ rows) ≡ waits rows
  waits_rest t rows isnt = ap (λ (b : Bool). option_map_or (λ u. is_state_for number u.state)
      (option_map thread_of (cond b (some t) (find (is_thread k) rows))) false) isnt

  own_same : (t : ThreadRow) → is_thread k t ≡ true → same_wait wait (own_wait t) ≡ eqb t.waits number.0
  own_same t is =
      let both = and_parts (eqb t.pid who.pid.0) (eqb t.tid who.tid.0) is in
      let pid : eqb who.pid.0 t.pid ≡ true = eqb_flips who.pid.0 t.pid ∙ both.0 in
      let tid : eqb who.tid.0 t.tid ≡ true = eqb_flips who.tid.0 t.tid ∙ both.1 in
      ap (λ (b : Bool). b && (eqb who.tid.0 t.tid && eqb number.0 t.waits)) pid ∙ ap (λ (b : Bool). b && eqb number.0 t.waits) tid ∙ eqb_flips number.0 t.waits

  own_differs : (t : ThreadRow) → is_thread k t ≡ false → same_wait wait (own_wait t) ≡ false
  own_differs t isnt = elim (cases_Bool (same_wait wait (own_wait t))) [
    | inl same ↦ absurd (both_ways (is_thread k t) isnt (at_key (own_wait t) same))
    | inr differ ↦ differ
  ]

  pub kept_counted : (before : Option (ℕ × ℕ)) (rows : List ThreadRow) → AreInOrder ThreadForm thread_key before rows
      → count_by (same_wait wait) (flat_map thread_wait rows) ≡ cond (waits rows) 1 0
  kept_counted before [] forms = refl
  kept_counted before (t ∷ rows) forms =
      let rest = kept_counted (Some (thread_key t)) rows forms.1 in
      elim (cases_Bool (is_thread k t)) [
        | inl is ↦ (
            let few = count_less (same_wait wait) (is_wait_at k) at_key (flat_map thread_wait rows) in
            let zero = subst (λ (z : ℕ × ℕ). count_by (is_wait_at z) (flat_map thread_wait rows) ≡ 0) (pair_is thread_key k t is)
            (none_behind (thread_key t) (thread_key t) rows (λ x low. low) forms.1) in
            let none : count_by (same_wait wait) (flat_map thread_wait rows) ≡ 0 = omega arith in
            elim (cases_Bool (eqb t.state 2)) [
              | inl waiting ↦ (
                  let says : waits (t ∷ rows) ≡ eqb t.waits number.0 = waits_first t rows is ∙ ap (λ (b : Bool). b && eqb t.waits number.0) waiting in
                  let first = count_first (same_wait wait) (own_wait t) (flat_map thread_wait rows)
                  ∙ ap (λ (b : Bool). cond b 1 0 + count_by (same_wait wait) (flat_map thread_wait rows)) (own_same t is ∙ sym says) in
                  let all = ap (count_by (same_wait wait)) (first_wait t rows waiting) ∙ first in
                  omega arith
                  )
              | inr other ↦ (
                  let says : waits (t ∷ rows) ≡ false = waits_first t rows is ∙ ap (λ (b : Bool). b && eqb t.waits number.0) other in
                  ap (count_by (same_wait wait)) (first_other t rows other) ∙ none ∙ sym (ap (λ (b : Bool). cond b 1 0) says)
                  )
            ]
            )
        | inr isnt ↦ (
            let says = waits_rest t rows isnt in
            elim (cases_Bool (eqb t.state 2)) [
              | inl waiting ↦ (
                  ap (count_by (same_wait wait)) (first_wait t rows waiting)
                  ∙ count_no (same_wait wait) (own_wait t) (flat_map thread_wait rows) (own_differs t isnt) ∙ rest
                  ∙ sym (ap (λ (b : Bool). cond b 1 0) says)
                  )
              | inr other ↦ ap (count_by (same_wait wait)) (first_other t rows other) ∙ rest ∙ sym (ap (λ (b : Bool). cond b 1 0) says)
            ]
            )
      ]

-- ---- both

abbrev pub Senders : List ThreadRow → List ServerRow → Type 0
Senders threads rows = (who : ThreadId) (number : Number) → HasIf (waits_for (threads_of threads) who number) (servers_of rows) (is_message_of who number)

module _ (threads : List ThreadRow) (rows : List ServerRow) (in_two : AscendInTwo thread_key threads) (ascend : Ascend server_key rows) where
  if_total : (who : ThreadId) (number : Number) (b : Bool) → total (is_sent_as number.0 who.pid.0 who.tid.0) rows ≡ cond b 1 0
      → HasIf b (servers_of rows) (is_message_of who number)
  if_total who number true e = (one_total (is_message_of who number) (is_sent_as number.0 who.pid.0 who.tid.0) (sent_tells who number) rows ascend).0 e
  if_total who number false e = (none_total (is_message_of who number) (is_sent_as number.0 who.pid.0 who.tid.0) (sent_tells who number) rows ascend).0 e

  total_if : (who : ThreadId) (number : Number) (b : Bool) → HasIf b (servers_of rows) (is_message_of who number)
      → total (is_sent_as number.0 who.pid.0 who.tid.0) rows ≡ cond b 1 0
  total_if who number true h = (one_total (is_message_of who number) (is_sent_as number.0 who.pid.0 who.tid.0) (sent_tells who number) rows ascend).1 h
  total_if who number false h = (none_total (is_message_of who number) (is_sent_as number.0 who.pid.0 who.tid.0) (sent_tells who number) rows ascend).1 h

  pub senders_right : AreAlikeWaits (flat_map waits_of rows) (flat_map thread_wait threads) → Senders threads rows
  senders_right alike who number =
      if_total who number (waits_for (threads_of threads) who number)
      (sym (said_counted (wait who number) rows) ∙ alike (same_wait (wait who number)) ∙ kept_counted who number None threads in_two)

  pub senders_all : Senders threads rows → HaveSameWaits (flat_map waits_of rows) (flat_map thread_wait threads)
  senders_all senders w =
      let who : ThreadId = thread_at_id w.pid w.tid in
      let number : Number = record { 0 = w.number } in
      said_counted w rows ∙ total_if who number (waits_for (threads_of threads) who number) (senders who number)
      ∙ sym (kept_counted who number None threads in_two)

  -- ---- part 3

  abbrev right : IsTrue (list_all are_messages_right rows) ↔ ((n : ℕ) (server : Server) → servers_of rows n ≡ Some server → IsRight n server)
  right = servers_told are_messages_right IsRight right_told rows ascend

  pub messages_right : AreSendersMatched (threads_of threads) (servers_of rows) → list_all are_messages_right rows ≡ true
  messages_right matched = right.1 (λ n server e. (matched.queued n server e, matched.held n server e, matched.sized n server e))

  pub senders_matched : list_all are_messages_right rows ≡ true → (told : Bool)
      → (IsTrue told → AreAlikeWaits (flat_map waits_of rows) (flat_map thread_wait threads))
      → (HaveSameWaits (flat_map waits_of rows) (flat_map thread_wait threads) → IsTrue told)
      → IsTrue told ↔ AreSendersMatched (threads_of threads) (servers_of rows)
  senders_matched messages told alike same = (
    λ holds. (
        let own = right.0 messages in
        record {
          senders = senders_right (alike holds);
          queued = λ n server e. (own n server e).0;
          held = λ n server e. (own n server e).1;
          sized = λ n server e. (own n server e).2;
        }
        ),
    λ matched. same (senders_all matched.senders),
  )

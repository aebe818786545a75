-- Messages are queued, held and sized as their kinds say exactly where tests of the rows hold; which messages threads sent.
use Rattle.std.proofs.Common.{◌≡◌, ℕ, Bool, true, false, not, cond, eqb, refl, sym, ap, subst, ◌∙◌, inl, inr, ◌↔◌}
use Rattle.std.specs.Prelude.{◌&&◌, ◌||◌, is_some, IsTrue}
use Rattle.std.specs.List.{list_all, All}
use Rattle.std.specs.Option.{unwrap_or}
use Rattle.std.proofs.lemmas.Bool.{cases_Bool, and_parts, eqb-true, eq-eqb}
use Rattle.xk_base.specs.Calls.Kinds.{kind_at, is_answered}
use Rattle.xk_base.specs.declared.ids.Number.{Number}
use Rattle.xk_base.specs.declared.ids.ThreadId.{ThreadId}
use Rattle.xk_base.specs.declared.messages.MsgKind.{MsgKind}
use Rattle.xk_base.specs.declared.messages.MsgKind.TheVariants.{Scalar}
use Rattle.machine_model.specs.State.Machine.{Server}
use Rattle.machine_model.specs.State.Servers.{messages_of}
use Rattle.machine_model.specs.Messaging.Messages.{carries_pages}
use Rattle.machine_model.specs.Runs.Matched.{is_waiting_for as is_state_for, is_sent_as as is_message_of, IsQueueable, IsHoldable, IsSized}
use Rattle.snapshot_rows.specs.declared.state.MessageRow.{MessageRow}
use Rattle.snapshot_rows.specs.declared.state.ServerRow.{ServerRow}
use Rattle.snapshot_rows.specs.Machines.{thread_state, sender_of, message_of, server_of}
use Rattle.snapshot_matching.specs.ServerParts.{is_sent_as, is_to_answer, is_queueable, is_sized, are_messages_right}
use Rattle.snapshot_matching.proofs.ThreadRows.ThreadLemmas.{state_by}
use Rattle.snapshot_matching.proofs.ServerRows.ServerRowLemmas.{each_told, messages_told}
use Rattle.snapshot_matching.proofs.ServerRows.CountedLemmas.{Tells}

not_true : (b : Bool) → not b ≡ true → b ≡ false
not_true true e = absurd cc
not_true false e = refl

all_three : (a b c : Bool) → a ≡ true → b ≡ true → c ≡ true → (a && (b && c)) ≡ true
all_three true true true p q r = refl
all_three false b c p q r = absurd cc
all_three true false c p q r = absurd cc
all_three true true false p q r = absurd cc

-- ---- who is Waiting

state_for : (a b c d : Bool) (waits : ℕ) (number : Number) → c ≡ false → is_state_for number (state_by a b c d waits) ≡ false
state_for true b c d waits number e = refl
state_for false true c d waits number e = refl
state_for false false true d waits number e = absurd cc
state_for false false false true waits number e = refl
state_for false false false false waits number e = refl

pub waiting_state : (state waits : ℕ) (number : Number) → is_state_for number (thread_state state waits) ≡ (eqb state 2 && eqb waits number.0)
waiting_state state waits number = elim (cases_Bool (eqb state 2)) [
  | inl is ↦ (
      let two = eqb-true state 2 is in
      ap (λ (k : ℕ). is_state_for number (thread_state k waits)) two ∙ sym (ap (λ (b : Bool). b && eqb waits number.0) is)
      )
  | inr other ↦ (
      state_for (eqb state 0) (eqb state 1) (eqb state 2) (eqb state 3) waits number other ∙ sym (ap (λ (b : Bool). b && eqb waits number.0) other)
      )
]

-- ---- the message whose sender a thread is

pub sent_tells : (who : ThreadId) (number : Number) → Tells (is_message_of who number) (is_sent_as number.0 who.pid.0 who.tid.0)
sent_tells who number m = elim (cases_Bool (eqb m.sender_pid 0)) [
  | inl none ↦ rw none refl
  | inr some ↦ rw some refl
]

-- ---- queued, held and sized

abbrev pub kind_of : ℕ → MsgKind
kind_of k = unwrap_or (kind_at k) Scalar

-- what holds of each of the kinds, and of all other numbers, holds of each number
pub by_kind : (P : ℕ → Type 0) (k : ℕ) → P 1 → P 2 → P 3 → P 4 → P 5
    → (eqb k 1 ≡ false → eqb k 2 ≡ false → eqb k 3 ≡ false → eqb k 4 ≡ false → eqb k 5 ≡ false → P k) → P k
by_kind P k one two three four five other =
    elim (cases_Bool (eqb k 1)) [
      | inl is ↦ subst P (sym (eqb-true k 1 is)) one
      | inr a ↦ elim (cases_Bool (eqb k 2)) [
        | inl is ↦ subst P (sym (eqb-true k 2 is)) two
        | inr b ↦ elim (cases_Bool (eqb k 3)) [
          | inl is ↦ subst P (sym (eqb-true k 3 is)) three
          | inr c ↦ elim (cases_Bool (eqb k 4)) [
            | inl is ↦ subst P (sym (eqb-true k 4 is)) four
            | inr d ↦ elim (cases_Bool (eqb k 5)) [
              | inl is ↦ subst P (sym (eqb-true k 5 is)) five
              | inr e ↦ other a b c d e
            ]
          ]
        ]
      ]
    ]

answered : (k : ℕ) → is_answered (kind_of k) ≡ (eqb k 1 || (eqb k 2 || eqb k 5))
answered k = by_kind (λ n. is_answered (kind_of n) ≡ (eqb n 1 || (eqb n 2 || eqb n 5))) k refl refl refl refl refl (λ a b c d e. rw (a, b, c, d, e) refl)

carries : (k : ℕ) → carries_pages (kind_of k) ≡ (eqb k 1 || (eqb k 2 || eqb k 3))
carries k = by_kind (λ n. carries_pages (kind_of n) ≡ (eqb n 1 || (eqb n 2 || eqb n 3))) k refl refl refl refl refl (λ a b c d e. rw (a, b, c, d, e) refl)

queueable_told : (m : MessageRow) → IsTrue (is_queueable m) ↔ IsQueueable (message_of m)
queueable_told m =
    let answer = answered m.kind in
    elim (cases_Bool (eqb m.sender_pid 0)) [
      | inl none ↦ (
          let sender : is_some (sender_of m) ≡ false = rw none refl in (
            λ holds. sender ∙ sym (answer ∙ not_true (is_to_answer m) (sym (ap (λ (b : Bool). cond b (not (is_to_answer m)) (is_to_answer m)) none) ∙ holds)),
            λ same. ap (λ (b : Bool). cond b (not (is_to_answer m)) (is_to_answer m)) none ∙ ap not (sym answer ∙ sym same ∙ sender),
          )
          )
      | inr some ↦ (
          let sender : is_some (sender_of m) ≡ true = rw some refl in (
            λ holds. sender ∙ sym (answer ∙ (sym (ap (λ (b : Bool). cond b (not (is_to_answer m)) (is_to_answer m)) some) ∙ holds)),
            λ same. ap (λ (b : Bool). cond b (not (is_to_answer m)) (is_to_answer m)) some ∙ (sym answer ∙ sym same ∙ sender),
          )
          )
    ]

holdable_told : (m : MessageRow) → IsTrue (is_to_answer m) ↔ IsHoldable (message_of m)
holdable_told m = (λ holds. answered m.kind ∙ holds, λ is. sym (answered m.kind) ∙ is)

last_of : (a b c z : Bool) → (a || (b || c)) ≡ false → (a || (b || (c || z))) ≡ true → z ≡ true
last_of true b c z e f = absurd cc
last_of false true c z e f = absurd cc
last_of false false true z e f = absurd cc
last_of false false false z e f = f

of_last : (a b c z : Bool) → ((a || (b || c)) ≡ false → z ≡ true) → (a || (b || (c || z))) ≡ true
of_last true b c z e = refl
of_last false true c z e = refl
of_last false false true z e = refl
of_last false false false z e = e refl

sized_told : (m : MessageRow) → IsTrue (is_sized m) ↔ IsSized (message_of m)
sized_told m =
    let pages = carries m.kind in (
      λ holds none. (
          let both = and_parts (eqb m.first 0) (eqb m.count 0) (last_of (eqb m.kind 1) (eqb m.kind 2) (eqb m.kind 3) _ (sym pages ∙ none) holds) in
          (eqb-true m.first 0 both.0, eqb-true m.count 0 both.1)
          ),
      λ sized.
          of_last (eqb m.kind 1) (eqb m.kind 2) (eqb m.kind 3) (eqb m.first 0 && eqb m.count 0) (λ none. (
          let zero = sized (pages ∙ none) in
          rw (eq-eqb m.first 0 zero.0, eq-eqb m.count 0 zero.1) refl
          )),
    )

abbrev pub IsRight : ℕ → Server → Type 0
IsRight n server = All IsQueueable server.queued × All IsHoldable server.held × All IsSized (messages_of server)

pub right_told : (s : ServerRow) → IsTrue (are_messages_right s) ↔ IsRight s.serial (server_of s)
right_told s =
    let queued = each_told message_of is_queueable IsQueueable queueable_told s.queued in
    let held = each_told message_of is_to_answer IsHoldable holdable_told s.held in
    let sized = messages_told is_sized IsSized sized_told s in (
      λ holds. (
          let first = and_parts (list_all is_queueable s.queued) _ holds in
          let second = and_parts (list_all is_to_answer s.held) _ first.1 in
          (queued.0 first.0, held.0 second.0, sized.0 second.1)
          ),
      λ right. all_three _ _ _ (queued.1 right.0) (held.1 right.1) (sized.1 right.2),
    )

-- The servers of a state with their messages, as rows: they have the form, and say what there is.
use Rattle.std.proofs.Common.{◌≡◌, ℕ, ◌+◌, ◌≤◌, ◌<◌, Bool, true, false, cond, eqb, List, [], ◌∷◌, map, length, Option, Some, None, refl, sym, ap, subst, ◌∙◌, arith, inl, inr}
use Rattle.std.specs.Prelude.{is_some, not, nat_le, All, slice_index_or}
use Rattle.std.specs.List.{AllByRecursion}
use Rattle.std.specs.Option.{option_map_or, unwrap_or}
use Rattle.std.proofs.lemmas.Bool.{cases_Bool, eqb-true, eq-eqb, ne_eqb, both_ways}
use Rattle.std.proofs.lemmas.List.{length-map}
use Rattle.xk_base.specs.declared.ids.Number.{Number}
use Rattle.xk_base.specs.declared.ids.ThreadId.{ThreadId}
use Rattle.xk_base.specs.declared.messages.Message.{Message}
use Rattle.xk_base.specs.declared.messages.MsgKind.{MsgKind}
use Rattle.xk_base.specs.declared.messages.MsgKind.TheVariants.{LendMut, Lend, Move, Scalar, BlockingScalar}
use Rattle.xk_base.specs.Calls.Kinds.{kind_number, kind_at}
use Rattle.xk_base.specs.Tables.Circle.{same_thread}
use Rattle.xk_base.specs.Tables.Counting.{listed_below}
use Rattle.xk_base.proofs.CircleLemmas.{is_pid-bounds}
use Rattle.xk_base.proofs.CountingLemmas.{listed_below-contains}
use Rattle.machine_model.specs.Messaging.MessageCounts.{count_in, count_at, HasIf}
use Rattle.machine_model.specs.Messaging.Messages.{carries_pages, is_of_number, is_sent_by}
use Rattle.machine_model.specs.State.Machine.{Machine, Server, Thread}
use Rattle.machine_model.specs.State.Servers.{messages_of}
use Rattle.machine_model.specs.Runs.Matched.{Matched, IsSized, is_sent_as, waits_for, is_waiting_for}
use Rattle.machine_model.proofs.Matching.CountLemmas.{none_pass}
use Rattle.snapshot_rows.specs.declared.state.ServerRow.{ServerRow}
use Rattle.snapshot_rows.specs.Order.{server_key, AreInOrder}
use Rattle.suspend_image.specs.Reading.{greatest}
use Rattle.suspend_image.specs.Forms.{IsWord, IsWithin, IsField, IsMessageRow, IsServerRow}
use Rattle.snapshot_rows.specs.Machines.{message_of, server_of, servers_of, thread_at_id}
use Rattle.suspend_image.specs.SavedRows.{sender_pid, sender_tid, message_row, server_row}
use Rattle.suspend_image.specs.StateBytes.{server_entries}
use Rattle.suspend_image.specs.Saveable.{IsMessageSaveable, IsSaveable}
use Rattle.suspend_image.proofs.Saved.EntryLemmas.{some, At, entries_hold, has_of, lookup_told, found_told, tells_each}
use Rattle.suspend_image.proofs.Saved.RiseLemmas.{Follows, number_low, in_order, entries_rise, numbers_rise, all_follow_none}
use Rattle.suspend_image.proofs.Saved.RoomLemmas.{by_recursion, both_by_recursion, all_by}
use Rattle.suspend_image.proofs.Saved.ThreadAgainLemmas.{word, IsId, id_bounds}

pub field_there : (b : Bool) (least most number : ℕ) → b ≡ true → least ≤ number → number ≤ most → IsField b least most number
field_there true least most number is low high = record { at_least = low; at_most = high }
field_there false least most number is low high = absurd cc

pub isnt_zero : (k : ℕ) → 2 ≤ k → eqb k 0 ≡ false
isnt_zero k low = ne_eqb k 0 (λ e. omega (arith, low, e))

pub is_there : (k : ℕ) → 2 ≤ k → not (eqb k 0) ≡ true
is_there k low = ap not (isnt_zero k low)

-- ---- one message

-- what a row of it needs to know beside its numbers
pub record IsRight (n : ℕ) (m : Message) : Type 0 where
  pub sender : (who : ThreadId) → m.sender ≡ Some who → IsId n who
  pub sized : IsSized m
  pub four : length m.words ≡ 4
  pub keeps : IsMessageSaveable m

pid_field : (n : ℕ) (o : Option ThreadId) → ((who : ThreadId) → o ≡ Some who → IsId n who)
    → IsField (not (eqb (sender_pid o) 0)) 2 (n + 1) (sender_pid o) × IsField (not (eqb (sender_pid o) 0)) 1 31 (sender_tid o)
pid_field n None known = (record { at_least = omega arith; at_most = omega arith }, record { at_least = omega arith; at_most = omega arith })
pid_field n (Some who) known =
    let id = known who refl in
    let low = id.pid_least in (
      field_there _ 2 (n + 1) who.pid.0 (is_there who.pid.0 low) low id.pid_most,
      field_there _ 1 31 who.tid.0 (is_there who.pid.0 low) id.tid_least id.tid_most,
    )

kind_form : (k : MsgKind) → IsWithin 1 5 (kind_number k)
kind_form LendMut = record { at_least = omega arith; at_most = omega arith }
kind_form Lend = record { at_least = omega arith; at_most = omega arith }
kind_form Move = record { at_least = omega arith; at_most = omega arith }
kind_form Scalar = record { at_least = omega arith; at_most = omega arith }
kind_form BlockingScalar = record { at_least = omega arith; at_most = omega arith }

size_field : (k : MsgKind) (number : ℕ) → number ≤ greatest → (carries_pages k ≡ false → number ≡ 0) → IsField (nat_le (kind_number k) 3) 0 greatest number
size_field LendMut number few none = record { at_least = omega arith; at_most = few }
size_field Lend number few none = record { at_least = omega arith; at_most = few }
size_field Move number few none = record { at_least = omega arith; at_most = few }
size_field Scalar number few none = (let zero = none refl in record { at_least = omega arith; at_most = omega (arith, zero) })
size_field BlockingScalar number few none = (let zero = none refl in record { at_least = omega arith; at_most = omega (arith, zero) })

words_form : (xs : List ℕ) → All (λ w. w ≤ greatest) xs → AllByRecursion IsWord xs
words_form xs all = all_by (λ w. w ≤ greatest) IsWord word xs (by_recursion (λ w. w ≤ greatest) xs all)

message_form : (n : ℕ) (m : Message) → IsRight n m → IsMessageRow n (message_row m)
message_form n m right =
    let sender = pid_field n m.sender right.sender in
    record {
      number = word m.number.0 right.keeps.number;
      sender_pid = sender.0;
      sender_tid = sender.1;
      kind = kind_form m.kind;
      id = word m.id right.keeps.id;
      four = right.four;
      words = words_form m.words right.keeps.words;
      first = size_field m.kind m.first.0 right.keeps.first (λ none. (right.sized none).0);
      count = size_field m.kind m.count right.keeps.count (λ none. (right.sized none).1);
    }

messages_form : (n : ℕ) (ms : List Message) → AllByRecursion (IsRight n) ms → AllByRecursion (IsMessageRow n) (map message_row ms)
messages_form n [] all = tt
messages_form n (m ∷ ms) all = (message_form n m all.0, messages_form n ms all.1)

kind_again : (k : MsgKind) → unwrap_or (kind_at (kind_number k)) Scalar ≡ k
kind_again LendMut = refl
kind_again Lend = refl
kind_again Move = refl
kind_again Scalar = refl
kind_again BlockingScalar = refl

abbrev pub sender_at : ℕ → ℕ → Option ThreadId
sender_at pid tid = cond (eqb pid 0) None (Some (thread_at_id pid tid))

sender_again : (n : ℕ) (o : Option ThreadId) → ((who : ThreadId) → o ≡ Some who → IsId n who) → sender_at (sender_pid o) (sender_tid o) ≡ o
sender_again n None known = refl
sender_again n (Some who) known =
    ap (λ (b : Bool). cond b None (some (thread_at_id who.pid.0 who.tid.0))) (isnt_zero who.pid.0 (known who refl).pid_least)

message_again : (n : ℕ) (m : Message) → IsRight n m → message_of (message_row m) ≡ m
message_again n m right =
    ap (λ (o : Option ThreadId). record {
      number = m.number;
      sender = o;
      kind = unwrap_or (kind_at (kind_number m.kind)) Scalar;
      id = m.id;
      words = m.words;
      first = m.first;
      count = m.count;
    }) (sender_again n m.sender right.sender)
    ∙ ap (λ (k : MsgKind). record { number = m.number; sender = m.sender; kind = k; id = m.id; words = m.words; first = m.first; count = m.count })
    (kind_again m.kind)

messages_again : (n : ℕ) (ms : List Message) → AllByRecursion (IsRight n) ms → map message_of (map message_row ms) ≡ ms
messages_again n [] all = refl
messages_again n (m ∷ ms) all =
    ap (λ (x : Message). x ∷ map message_of (map message_row ms)) (message_again n m all.0)
    ∙ ap (λ (xs : List Message). m ∷ xs) (messages_again n ms all.1)

-- ---- all servers

module _ (m : Machine) (matched : Matched m) (saveable : IsSaveable m) where
  -- a sender is the id of a thread
  sent_by : (who : ThreadId) (message : Message) → message.sender ≡ Some who → is_sent_as who message.number message ≡ true
  sent_by who message is =
      let number : is_of_number message.number message ≡ true = eq-eqb message.number.0 message.number.0 refl in
      let sender : is_sent_by who message ≡ true =
      ap (λ (o : Option ThreadId). option_map_or (same_thread who) o false) is
      ∙ rw (eq-eqb who.pid.0 who.pid.0 refl, eq-eqb who.tid.0 who.tid.0 refl) refl in
      rw (number, sender) refl

  waiting_known : (who : ThreadId) (number : Number) (o : Option Thread) → m.threads who ≡ o
      → option_map_or (λ t. is_waiting_for number t.state) o false ≡ true → IsId m.processes who
  waiting_known who number None at waits = absurd cc
  waiting_known who number (Some t) at waits = id_bounds m.processes who (matched.body.ids.known who t at)

  none_sent : (serial : ℕ) (s : Server) (who : ThreadId) (number : Number) → m.servers serial ≡ Some s → waits_for m.threads who number ≡ false
      → count_in (is_sent_as who number) (messages_of s) ≡ 0
  none_sent serial s who number at none =
      ap (count_at (is_sent_as who number)) (sym at)
      ∙ subst (λ (b : Bool). HasIf b m.servers (is_sent_as who number)) none (matched.body.senders.senders who number) serial

  senders_known : (serial : ℕ) (s : Server) → m.servers serial ≡ Some s
      → All (λ x. (who : ThreadId) → x.sender ≡ Some who → IsId m.processes who) (messages_of s)
  senders_known serial s at k d within who is =
      let x = slice_index_or (messages_of s) k d in
      elim (cases_Bool (waits_for m.threads who x.number)) [
        | inl waits ↦ waiting_known who x.number (m.threads who) refl waits
        | inr never ↦ (
            let fails = none_pass (is_sent_as who x.number) (messages_of s) (none_sent serial s who x.number at never) k d within in
            let passes = sent_by who x is in
            absurd (both_ways _ fails passes)
            )
      ]

  all_right : (serial : ℕ) (s : Server) → m.servers serial ≡ Some s → AllByRecursion (IsRight m.processes) (messages_of s)
  all_right serial s at =
      by_recursion (IsRight m.processes) (messages_of s) (λ k d within. record {
        sender = senders_known serial s at k d within;
        sized = matched.body.senders.sized serial s at k d within;
        four = saveable.sizes.words serial s at k d within;
        keeps = (saveable.servers serial s at).messages k d within;
      })

  server_form : (before : Option ℕ) (e : ℕ × Server) → At m.servers e → Follows (λ a b. a < b) before e.0 → IsServerRow m.processes before (server_row e.0 e.1)
  server_form before e at follows =
      let keeps = saveable.servers e.0 e.1 at in
      let below = matched.rest.above.serials e.0 e.1 at in
      let stepped = matched.rest.stepped.serial_steps in
      let steps = saveable.steps in
      let pid = is_pid-bounds m.processes e.1.pid.0 (matched.body.processes.pids e.1.pid (matched.body.servers.living e.0 e.1 at)) in
      let least = pid.0 in
      let most = pid.1 in
      let slots = matched.body.servers.slots e.0 e.1 at in
      let queued = length-map e.1.queued message_row in
      let held = length-map e.1.held message_row in
      let right = both_by_recursion (IsRight m.processes) e.1.queued e.1.held (all_right e.0 e.1 at) in
      record {
        four = saveable.sizes.identifiers e.0 e.1 at;
        sid = words_form e.1.sid.0 keeps.sid;
        serial = record { at_least = number_low before e.0 follows; at_most = omega (arith, below, stepped, steps) };
        pid = record { at_least = least; at_most = omega (arith, most) };
        many_queued = record { at_least = omega arith; at_most = omega (arith, slots, queued) };
        many_held = record { at_least = omega arith; at_most = omega (arith, slots, held) };
        queued = messages_form m.processes e.1.queued right.0;
        held = messages_form m.processes e.1.held right.1;
      }

  abbrev serials : List ℕ
  serials = listed_below m.next_serial (λ serial. is_some (m.servers serial))

  pub servers_form : AreInOrder (IsServerRow m.processes) server_key None (map (λ e. server_row e.0 e.1) (server_entries m))
  servers_form =
      in_order (λ a b. a < b) (IsServerRow m.processes) server_key (λ e. server_row e.0 e.1) (At m.servers) server_form None (server_entries m)
      (entries_hold m.servers serials) (entries_rise m.servers (λ a b. a < b) serials (numbers_rise m.next_serial (λ serial. is_some (m.servers serial))))
      (all_follow_none (λ a b. a < b) (λ e. e.0) (server_entries m))

  server_again : (e : ℕ × Server) → At m.servers e → server_of (server_row e.0 e.1) ≡ e.1
  server_again e at =
      let right = both_by_recursion (IsRight m.processes) e.1.queued e.1.held (all_right e.0 e.1 at) in
      ap (λ (ms : List Message). record { sid = e.1.sid; pid = e.1.pid; queued = ms; held = map message_of (map message_row e.1.held) })
      (messages_again m.processes e.1.queued right.0)
      ∙ ap (λ (ms : List Message). record { sid = e.1.sid; pid = e.1.pid; queued = e.1.queued; held = ms }) (messages_again m.processes e.1.held right.1)

  pub servers_again : (serial : ℕ) → servers_of (map (λ e. server_row e.0 e.1) (server_entries m)) serial ≡ m.servers serial
  servers_again serial =
      let same = λ (a k : ℕ). eqb a k in
      let test = λ (k : ℕ) (r : ServerRow). eqb r.serial k in
      let is = λ (a b : ℕ) (e : eqb a b ≡ true). eqb-true a b e in
      let own = λ (a : ℕ). eq-eqb a a refl in
      found_told m.servers same is own server_of test (map (λ e. server_row e.0 e.1) (server_entries m)) (server_entries m)
      (tells_each m.servers same is own server_of test (λ e. server_row e.0 e.1) (λ k e. refl) (server_entries m)
      (all_by (At m.servers) (λ e. server_of (server_row e.0 e.1) ≡ e.1) server_again (server_entries m) (entries_hold m.servers serials))) serial
      ∙ lookup_told m.servers same is own serials (λ k s at. has_of k serials
      (listed_below-contains m.next_serial k (λ n. is_some (m.servers n)) (matched.rest.above.serials k s at) (ap is_some at))) serial

-- No message of the process is left at any server: then all is done that its death does to the servers of others.
use Rattle.std.proofs.Common.{◌≡◌, ℕ, Bool, true, false, List, [], ◌∷◌, cond, filter, map, Option, Some, None, refl, sym, ap, ◌∙◌}
use Rattle.std.specs.Prelude.{◌||◌, ◌&&◌, All, if◌then◌else◌, not}
use Rattle.std.specs.List.{list_any}
use Rattle.std.specs.Option.{option_map}
use Rattle.std.proofs.lemmas.List.Elements.{All-head, All-tail}
use Rattle.std.proofs.lemmas.Option.{none-some, same_Some}
use Rattle.machine_laws.proofs.Messaging.AnyServerLemmas.{no_server}
use Rattle.machine_model.proofs.Ending.DeathLemmas.{none_is_orphaned}
use Rattle.machine_model.proofs.Messaging.LoanSetLemmas.{none_ends}
use Rattle.machine_model.specs.Ending.Closing.{is_held_from, is_queued_from, senderless_from}
use Rattle.machine_model.specs.Messaging.LoanSets.{end_loans}
use Rattle.machine_model.specs.Messaging.Messages.{is_of_number as is_message_of, is_sent_from}
use Rattle.machine_model.specs.State.Machine.{Machine, Server}
use Rattle.msg_queue.specs.Seats.{Seat, message_of, seat_of}
use Rattle.msg_queue.specs.declared.held.Held.{Held}
use Rattle.xk_parts.specs.Shown.{server_of, server_with, servers_shown}
use Rattle.server_table.specs.ServersOf.{servers_of}
use Rattle.server_table.specs.ServerState.{Server as TableServer}
use Rattle.xk_base.specs.declared.ids.Number.{Number}
use Rattle.xk_base.specs.declared.ids.Pid.{Pid}
use Rattle.kill_path.specs.Closing.{Closable, with_servers}
use Rattle.kill_path.specs.Leaving.{AreOfOthers, HasLeft, LeavesAlike, left_by}
use Rattle.kill_path.proofs.Messages.LeaveStepLemmas.{left_all, right_all}

-- ---- lists without a message of the process

abbrev Unsent : Pid → Held → Type 0
Unsent pid h = is_sent_from pid h.msg ≡ false

none_of_number : (pid : Pid) (number : Number) (hs : List Held) → All (Unsent pid) hs
    → list_any (λ y. is_message_of number y && is_sent_from pid y) (map message_of hs) ≡ false
none_of_number pid number [] all = refl
none_of_number pid number (x ∷ xs) all =
    (λ i. (is_message_of number x.msg && All-head (Unsent pid) x xs all i) || list_any (λ y. is_message_of number y && is_sent_from pid y) (map message_of xs))
    ∙ either (is_message_of number x.msg) (list_any (λ y. is_message_of number y && is_sent_from pid y) (map message_of xs))
    (none_of_number pid number xs (All-tail (Unsent pid) x xs all))
  where
    either : (a b : Bool) → b ≡ false → ((a && false) || b) ≡ false
    either true b e = e
    either false b e = e

all_stay : (pid : Pid) (hs : List Held) → All (Unsent pid) hs → filter (λ x. not (is_sent_from pid x)) (map message_of hs) ≡ map message_of hs
all_stay pid [] all = refl
all_stay pid (x ∷ xs) all =
    ap (λ b. cond (not b) (x.msg ∷ filter (λ y. not (is_sent_from pid y)) (map message_of xs)) (filter (λ y. not (is_sent_from pid y)) (map message_of xs)))
    (All-head (Unsent pid) x xs all)
    ∙ ap (λ ys. x.msg ∷ ys) (all_stay pid xs (All-tail (Unsent pid) x xs all))

all_keep : (pid : Pid) (hs : List Held) → All (Unsent pid) hs → map (senderless_from pid) (map message_of hs) ≡ map message_of hs
all_keep pid [] all = refl
all_keep pid (x ∷ xs) all =
    λ i. record x.msg { sender = if All-head (Unsent pid) x xs all i then None else x.msg.sender } ∷ all_keep pid xs (All-tail (Unsent pid) x xs all) i

-- ---- all servers

module _ (procs : ℕ) (pid : Pid) (a b : Closable) (alike : LeavesAlike procs pid a b)
    (others : (n : ℕ) (v : TableServer) → (servers_of b.servers).live n ≡ Some v → AreOfOthers pid (seat_of b.seats v.seat)) where
  record IsOfOthers (server : Server) : Type 0 where
    seat : Seat
    table : TableServer
    is : server_with seat table ≡ server
    queued : All (Unsent pid) seat.queued
    held : All (Unsent pid) seat.held

  of_others : (n : ℕ) (server : Server) → servers_shown b.servers b.seats n ≡ Some server → IsOfOthers server
  of_others n server e = go ((servers_of b.servers).live n) refl e
    where
      go : (o : Option TableServer) → (servers_of b.servers).live n ≡ o → option_map (server_of b.seats) o ≡ Some server → IsOfOthers server
      go None q f = absurd (none-some server f)
      go (Some v) q f = record {
        seat = seat_of b.seats v.seat;
        table = v;
        is = same_Some (server_of b.seats v) server f;
        queued = left_all (Unsent pid) (seat_of b.seats v.seat).queued (seat_of b.seats v.seat).held (others n v q);
        held = right_all (Unsent pid) (seat_of b.seats v.seat).queued (seat_of b.seats v.seat).held (others n v q);
      }

  none_queued : (m : Machine) (number : Number) → is_queued_from pid (with_servers b m) number ≡ false
  none_queued m number = no_server (with_servers b m) (λ n server. list_any (λ x. is_message_of number x && is_sent_from pid x) server.queued) (λ n server e.
      let its : IsOfOthers server = of_others n server e in
      ap (λ (s : Server). list_any (λ x. is_message_of number x && is_sent_from pid x) s.queued) (sym its.is) ∙ none_of_number pid number its.seat.queued its.queued)

  none_held : (m : Machine) (number : Number) → is_held_from pid (with_servers b m) number ≡ false
  none_held m number = no_server (with_servers b m) (λ n server. list_any (λ x. is_message_of number x && is_sent_from pid x) server.held) (λ n server e.
      let its : IsOfOthers server = of_others n server e in
      ap (λ (s : Server). list_any (λ x. is_message_of number x && is_sent_from pid x) s.held) (sym its.is) ∙ none_of_number pid number its.seat.held its.held)

  stays_so : (server : Server) → IsOfOthers server → left_by pid server ≡ server
  stays_so server its =
      ap (left_by pid) (sym its.is)
      ∙ (λ i. record (server_with its.seat its.table) { queued = all_stay pid its.seat.queued its.queued i; held = all_keep pid its.seat.held its.held i })
      ∙ its.is

  same_servers : (n : ℕ) → option_map (left_by pid) (servers_shown b.servers b.seats n) ≡ servers_shown b.servers b.seats n
  same_servers n = go (servers_shown b.servers b.seats n) refl
    where
      go : (o : Option Server) → servers_shown b.servers b.seats n ≡ o → option_map (left_by pid) o ≡ o
      go None e = refl
      go (Some server) e = ap Some (stays_so server (of_others n server e))

  pub all_left : HasLeft procs pid a b
  all_left = record {
    ledger = λ m.
        sym (none_is_orphaned procs (is_held_from pid (with_servers b m)) (none_held m) (end_loans (is_queued_from pid (with_servers b m)) b.ledger)
        ∙ none_ends (is_queued_from pid (with_servers b m)) (none_queued m) b.ledger)
        ∙ alike.ledger m;
    servers = λ n. sym (same_servers n) ∙ alike.servers n;
  }

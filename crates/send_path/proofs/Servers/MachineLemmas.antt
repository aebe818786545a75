-- Servers of the table as the machine finds them.
use Rattle.std.proofs.Common.{◌≡◌, Bool, true, false, List, Option, Some, None, refl, sym, ap, ◌∙◌}
use Rattle.std.specs.Prelude.{if◌then◌else◌}
use Rattle.std.specs.Option.{option_and_then, option_map}
use Rattle.std.proofs.lemmas.Option.{none-some}
use Rattle.machine_model.specs.State.Machine.{Machine}
use Rattle.xk_base.specs.Tables.Sids.{serial_with}
use Rattle.machine_model.specs.State.Servers.{is_own, is_server_of, with_sid}
use Rattle.msg_queue.specs.Seats.{Seat}
use Rattle.server_table.specs.ServersOf.{servers_of}
use Rattle.server_table.specs.ServerState.{Server as TableServer, is_of, with_sid as with_table_sid}
use Rattle.xk_base.specs.declared.ids.Pid.{Pid}
use Rattle.xk_base.specs.declared.ids.Serial.{Serial}
use Rattle.xk_base.specs.declared.ids.Sid.{Sid}
use Rattle.xk_base.specs.declared.ids.ThreadId.{ThreadId}
use Rattle.send_path.proofs.Taken.{CallTables, without_memory}
use Rattle.xk_parts.specs.Shown.{server_of}
use Rattle.xk_parts.specs.Seats.{own_serial}
use Rattle.xk_parts.specs.Parts.{machine_at, no_store}

same_sid_of : (seats : List Seat) (o : Option TableServer) → option_map (λ s. s.sid) (option_map (server_of seats) o) ≡ option_map (λ s. s.sid) o
same_sid_of seats None = refl
same_sid_of seats (Some v) = refl

pub same_owner_test : (pid : Pid) (seats : List Seat) (o : Option TableServer) → is_server_of pid (option_map (server_of seats) o) ≡ is_of pid o
same_owner_test pid seats None = refl
same_owner_test pid seats (Some v) = refl

module _ (who : ThreadId) (parts : CallTables) (m : Machine) (sid : Sid) where
  abbrev all : Machine
  all = machine_at no_store.held who (without_memory parts) m

  named : with_sid all sid ≡ with_table_sid sid (servers_of parts.servers)
  unfolding with_sid machine_at
  named = ap (serial_with sid (servers_of parts.servers).next) (λ i n. same_sid_of parts.queues ((servers_of parts.servers).live n) i)

  owned : (serial : Serial) → is_own all (Some serial) ≡ is_of who.pid ((servers_of parts.servers).live serial.0)
  unfolding machine_at
  owned serial = same_owner_test who.pid parts.queues ((servers_of parts.servers).live serial.0)

  -- the server isn't there, or is another process's
  pub not_own : own_serial who.pid sid (servers_of parts.servers) ≡ None → is_own all (with_sid all sid) ≡ false
  not_own e = ap (is_own all) named ∙ go (with_table_sid sid (servers_of parts.servers)) e
    where
      none : (serial : Serial) (b : Bool) → (if b then Some serial else None) ≡ None → b ≡ false
      none serial true q = absurd (none-some serial (sym q))
      none serial false q = refl

      go : (o : Option Serial)
          → option_and_then (λ serial. if is_of who.pid ((servers_of parts.servers).live serial.0) then Some serial else None) o ≡ None
          → is_own all o ≡ false
      go None q = refl
      go (Some serial) q = owned serial ∙ none serial (is_of who.pid ((servers_of parts.servers).live serial.0)) q

  pub record IsOwn (serial : Serial) : Type 0 where
    pub own : is_own all (with_sid all sid) ≡ true
    pub its : with_sid all sid ≡ Some serial

  pub own_found : (serial : Serial) → own_serial who.pid sid (servers_of parts.servers) ≡ Some serial → IsOwn serial
  own_found serial e = record { own = ap (is_own all) (named ∙ found.1) ∙ found.0; its = named ∙ found.1 }
    where
      by : (s : Serial) (b : Bool) → is_of who.pid ((servers_of parts.servers).live s.0) ≡ b → (if b then Some s else None) ≡ Some serial
          → (is_own all (Some serial) ≡ true) × (Some s ≡ Some serial)
      by s true q r = (ap (is_own all) (sym r) ∙ owned s ∙ q, r)
      by s false q r = absurd (none-some serial r)

      go : (o : Option Serial)
          → option_and_then (λ s. if is_of who.pid ((servers_of parts.servers).live s.0) then Some s else None) o ≡ Some serial
          → (is_own all (Some serial) ≡ true) × (o ≡ Some serial)
      go None q = absurd (none-some serial q)
      go (Some s) q = by s (is_of who.pid ((servers_of parts.servers).live s.0)) refl q

      found : (is_own all (Some serial) ≡ true) × (with_table_sid sid (servers_of parts.servers) ≡ Some serial)
      found = go (with_table_sid sid (servers_of parts.servers)) e

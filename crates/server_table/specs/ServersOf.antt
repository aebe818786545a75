-- What a table of servers holds, as its callers see it.
use Rattle.server_table.specs.declared.table.Servers.{Servers}
use Rattle.server_table.specs.Seats.{by_serial}
use Rattle.server_table.specs.ServerState.{ServerState}

-- the servers that the table holds
unfoldable pub servers_of : Servers → ServerState
servers_of t = record { next = t.next; live = by_serial t.seats.items }

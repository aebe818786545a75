-- Living servers as a list in the order of their serials, and the servers that such a list means. It tells no seats: each
-- server sits at its place in the list.
use Rattle.std.specs.Prelude.{ℕ, ◌≡◌, ◌==◌, false, List, map, Option, position, slice_get}
use Rattle.std.specs.List.{filter_map}
use Rattle.std.specs.Option.{option_map, option_and_then}
use Rattle.xk_base.specs.Tables.Sids.{same_sid}
use Rattle.server_table.specs.declared.table.ServerSeat.{ServerSeat}
use Rattle.server_table.specs.Seats.{server_of}
use Rattle.server_table.specs.ServerState.{Server, ServerState, live_serials, seat_view}

-- the serials of the servers of the list
abbrev pub serials_of : List ServerSeat → List ℕ
serials_of rows = map (λ row. row.serial.0) rows

-- two servers have two identifiers
abbrev pub HaveTwoSids : ServerSeat → ServerSeat → Type 0
HaveTwoSids a b = same_sid a.sid b.sid ≡ false

-- the place in the list of the server with that serial
abbrev pub place_of_serial : List ServerSeat → ℕ → Option ℕ
place_of_serial rows n = position (λ row. row.serial.0 == n) rows

-- the server at a place of the list, which is its seat
abbrev pub server_at : List ServerSeat → ℕ → Option Server
server_at rows place = option_map (server_of place) (slice_get rows place)

-- the servers of the list by serial
unfoldable pub by_list : List ServerSeat → ℕ → Option Server
by_list rows n = option_and_then (server_at rows) (place_of_serial rows n)

-- the living servers are those of the list and no others, and the next one gets that serial
abbrev pub listed_servers : List ServerSeat → ℕ → ServerState
listed_servers rows next = record { next = next; live = by_list rows }

-- the living servers in the order of their serials
abbrev pub rows_of : ServerState → List ServerSeat
rows_of s = filter_map (λ n. option_map (seat_view n) (s.live n)) (live_serials s)

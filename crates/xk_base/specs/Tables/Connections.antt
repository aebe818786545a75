-- The connections of a process as a list of the servers that it is connected to, also those that are dead: numbered 2, 3 and so
-- on in the order in which they were made, each as long as the process lives.
use Rattle.std.specs.Prelude.{ℕ, ◌+◌, ◌-◌, ◌==◌, ◌||◌, Bool, List, [], ◌∷◌, ◌++◌, length, Option, None, is_some, nat_lt, position}
use Rattle.std.specs.Prelude.{slice_get, unwrap_or, if◌then◌else◌}
use Rattle.std.specs.Option.{option_map}
use Rattle.xk_base.specs.declared.ids.Serial.{Serial}
use Rattle.xk_base.specs.declared.limits.TheConstants.{CONNECTION_LIMIT}

-- the server that a connection number leads to, alive or dead; none where no connection has that number
abbrev pub connected_to : List Serial → ℕ → Option Serial
connected_to connections cid = if nat_lt cid 2 then None else slice_get connections (cid - 2)

-- the number of the connection to a server; none where there is no connection to it
abbrev pub cid_to : Serial → List Serial → Option ℕ
cid_to serial connections = option_map (λ k. k + 2) (position (λ s. s.0 == serial.0) connections)

-- a connection to the server is there, or one is free
abbrev pub has_room : Serial → List Serial → Bool
has_room serial connections = is_some (cid_to serial connections) || nat_lt (length connections) CONNECTION_LIMIT

-- the number of the connection to a server: that of the one that is there, or else the least unused number
abbrev pub cid_for : Serial → List Serial → ℕ
cid_for serial connections = unwrap_or (cid_to serial connections) (length connections + 2)

-- the connections with one to the server: a new one stands last
abbrev pub connected : Serial → List Serial → List Serial
connected serial connections = if is_some (cid_to serial connections) then connections else connections ++ serial ∷ []

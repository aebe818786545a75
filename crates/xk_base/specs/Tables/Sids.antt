-- Servers: their names, which are identifiers of four words each and serials in the order in which servers are made; whose they
-- are; how many are alive.
use Rattle.std.specs.Prelude.{ℕ, Bool, ◌==◌, false, Option, Some, None, is_some, nat_eq}
use Rattle.std.specs.Cmp.Lexicographic.{pointwise}
use Rattle.std.specs.Option.{option_map, option_map_or}
use Rattle.xk_base.specs.declared.ids.Pid.{Pid}
use Rattle.xk_base.specs.declared.ids.Serial.{Serial}
use Rattle.xk_base.specs.declared.ids.Sid.{Sid}
use Rattle.xk_base.specs.Tables.Counting.{count_below, least_below}

-- two identifiers are the same, word by word
abbrev pub same_sid : Sid → Sid → Bool
same_sid a b = pointwise nat_eq a.0 b.0

-- there is a server's identifier, and it is this one
abbrev pub is_sid : Sid → Option Sid → Bool
is_sid sid found = option_map_or (λ other. same_sid other sid) found false

-- a number as a serial
abbrev pub serial_of : ℕ → Serial
serial_of n = record { 0 = n }

-- The serial of the server with that identifier, if it is alive: `sids` gives the identifier of the living server with a
-- serial, and `next` is the serial that the next server gets.
abbrev pub serial_with : Sid → ℕ → (ℕ → Option Sid) → Option Serial
serial_with sid next sids = option_map serial_of (least_below next (λ n. is_sid sid (sids n)))

-- there is an owner, and it is that process
abbrev pub is_owned_by : Pid → Option Pid → Bool
is_owned_by pid None = false
is_owned_by pid (Some owner) = owner.0 == pid.0

-- how many of the serials below the next one are those of living servers
abbrev pub live_below : {Server : Type 0} → ℕ → (ℕ → Option Server) → ℕ
live_below next live = count_below next (λ n. is_some (live n))

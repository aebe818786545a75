-- Two values by the slot of a host, and the count of an adapter's faults.
use Rattle.std.specs.Prelude.{ℕ, min}
use Rattle.xk_ports.specs.declared.host.FileSlot.{FileSlot}
use Rattle.xk_ports.specs.declared.host.FileSlot.TheVariants.{First, Second}

abbrev pub at_slot : {A : Type 0} → FileSlot → A → A → A
at_slot First first second = first
at_slot Second first second = second

-- the count of faults: at its greatest value, 2^64 - 1, it stays
abbrev pub faults_of : ℕ → ℕ
faults_of count = min count 18446744073709551615

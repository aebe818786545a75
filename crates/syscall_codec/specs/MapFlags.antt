-- A set of memory flags as contracts see it.
use Rattle.std.specs.Prelude.{ℕ}
use Rattle.syscall_codec.specs.declared.flags.MapFlags.{MapFlags}

-- the word with a bit for each flag of the set
abbrev pub bits_of : MapFlags → ℕ
bits_of flags = flags.0

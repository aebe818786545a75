-- The slots of a run.
use Rattle.std.specs.Prelude.{ℕ, Option, unwrap_or}
use Rattle.std.specs.Option.{option_or}
use Rattle.kernel_args.specs.declared.args.Args.{Args}

-- those that are asked for, else those that the image gives, else none
abbrev pub slots_used : Args → Option ℕ → ℕ
slots_used args asked = unwrap_or (option_or asked args.slots) 0

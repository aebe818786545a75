-- The first fault of an image file.
use Rattle.std.specs.Prelude.{◌≡◌, ℕ, nat_lt, MatchBool, MatchOption, List, length, Option, Some}
use Rattle.kernel_args.specs.declared.args.Args.{Args}
use Rattle.kernel_args.specs.declared.faults.ArgFault.{ArgFault}
use Rattle.kernel_args.specs.Faults.{args_fault}
use Rattle.kernel_args.specs.Image.{Spells}
use Rattle.boot_plan.specs.FaultNumbers.{too_long}
use Rattle.boot_plan.specs.Faults.{plan_fault}

-- The first fault of an image for a run that asks for these slots, or that it has none: it has more than 64 MiB, its
-- arguments have a fault, or the plan of the arguments that it spells has one.
abbrev pub IsImageFault : List ℕ → Option ℕ → Option ArgFault → Type 0
IsImageFault bytes asked fault =
    MatchBool (nat_lt 67108864 (length bytes))
    (fault ≡ Some (record { what = too_long; at = 0 }))
    (MatchOption (args_fault bytes)
    ((args : Args) × Spells bytes args × (fault ≡ plan_fault args bytes asked))
    (λ f. fault ≡ Some f))

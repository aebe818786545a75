-- An image has exactly one first fault, or none.
use Rattle.std.proofs.Common.{◌≡◌, ◌∙◌, ap, sym, refl, ℕ, Bool, true, false, nat_lt, List, length, Option, Some, None, MatchBool, MatchOption}
use Rattle.kernel_args.specs.declared.args.Args.{Args}
use Rattle.kernel_args.specs.declared.faults.ArgFault.{ArgFault}
use Rattle.kernel_args.specs.Faults.{args_fault}
use Rattle.kernel_args.specs.Image.{Spells}
use Rattle.boot_plan.specs.FaultNumbers.{too_long}
use Rattle.boot_plan.specs.Faults.{plan_fault}
use Rattle.boot_plan.specs.ImageFault.{IsImageFault}

-- the cases of an image's fault: it is too long, its arguments have a fault, or its plan's
abbrev Cases : List ℕ → Option ℕ → Option ArgFault → Bool → Option ArgFault → Type 0
Cases bytes asked fault long in_args =
    MatchBool long (fault ≡ Some (record { what = too_long; at = 0 }))
    (MatchOption in_args ((args : Args) × Spells bytes args × (fault ≡ plan_fault args bytes asked)) (λ f. fault ≡ Some f))

some_fault : (bytes : List ℕ) (asked : Option ℕ) (long : Bool) (in_args : Option ArgFault) → (in_args ≡ None → (args : Args) × Spells bytes args)
    → (fault : Option ArgFault) × Cases bytes asked fault long in_args
some_fault bytes asked true in_args spelled = (Some (record { what = too_long; at = 0 }), refl)
some_fault bytes asked false None spelled =
    let found = spelled refl in
    (plan_fault found.0 bytes asked, (found.0, found.1, refl))
some_fault bytes asked false (Some f) spelled = (Some f, refl)

one_fault : (bytes : List ℕ) (asked : Option ℕ) (long : Bool) (in_args : Option ArgFault) → ((one other : Args) → Spells bytes one → Spells bytes other → one ≡ other)
    → (one other : Option ArgFault) → Cases bytes asked one long in_args → Cases bytes asked other long in_args → one ≡ other
one_fault bytes asked true in_args once one other h k = h ∙ sym k
one_fault bytes asked false None once one other h k =
    h.2 ∙ ap (λ args. plan_fault args bytes asked) (once h.0 k.0 h.1 k.1) ∙ sym k.2
one_fault bytes asked false (Some f) once one other h k = h ∙ sym k

pub image_fault_some : (bytes : List ℕ) (asked : Option ℕ) → (args_fault bytes ≡ None → (args : Args) × Spells bytes args) → (fault : Option ArgFault) × IsImageFault bytes asked fault
image_fault_some bytes asked spelled = some_fault bytes asked (nat_lt 67108864 (length bytes)) (args_fault bytes) spelled

pub image_fault_once : (bytes : List ℕ) (asked : Option ℕ) → ((one other : Args) → Spells bytes one → Spells bytes other → one ≡ other)
    → (one other : Option ArgFault) → IsImageFault bytes asked one → IsImageFault bytes asked other → one ≡ other
image_fault_once bytes asked once = one_fault bytes asked (nat_lt 67108864 (length bytes)) (args_fault bytes) once

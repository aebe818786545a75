-- The first fault of lists of checks joined, and of the processes from one on.
use Rattle.std.proofs.Common.{◌≡◌, ◌∙◌, ap, sym, refl, ℕ, ◌+◌, ◌<◌, true, false, List, [], ◌∷◌, ◌++◌, cond, Bool, Option, Some, None, is_some, length, get_or, drop}
use Rattle.std.specs.Option.{option_or}
use Rattle.std.proofs.lemmas.List.{drop_more}
use Rattle.kernel_args.specs.declared.args.ProcArgs.{ProcArgs}
use Rattle.kernel_args.specs.declared.faults.ArgFault.{ArgFault}
use Rattle.kernel_args.specs.Faults.{Check, first_fault}
use Rattle.boot_plan.specs.Faults.{process_faults, processes_faults}

or-step : (b : Bool) (f : ArgFault) (o p q : Option ArgFault) → o ≡ option_or p q → cond b (Some f) o ≡ option_or (cond b (Some f) p) q
or-step true f o p q e = refl
or-step false f o p q e = e

pub first_fault_append : (xs ys : List Check) → first_fault (xs ++ ys) ≡ option_or (first_fault xs) (first_fault ys)
first_fault_append [] ys = refl
first_fault_append (c ∷ cs) ys = or-step c.0 c.1 (first_fault (cs ++ ys)) (first_fault cs) (first_fault ys) (first_fault_append cs ys)

pub or_at_some : (o p : Option ArgFault) → is_some o ≡ true → option_or o p ≡ o
or_at_some None p h = cc
or_at_some (Some f) p h = refl

pub or_at_none : (o p : Option ArgFault) → is_some o ≡ false → option_or o p ≡ p
or_at_none None p h = refl
or_at_none (Some f) p h = cc

-- the first fault of the processes from the one at i on
pub from_process : (words : ℕ) (file : List ℕ) (pid : ℕ) (ps : List ProcArgs) (i : ℕ) (p : ProcArgs) → i < length ps → p ≡ get_or ps i p
    → first_fault (processes_faults words file pid (drop i ps)) ≡ option_or (first_fault (process_faults words file pid p)) (first_fault (processes_faults words file (pid + 1) (drop (i + 1) ps)))
from_process words file pid ps i p h e =
    let d : drop i ps ≡ p ∷ drop (i + 1) ps = drop_more ps i p h ∙ ap (λ q. q ∷ drop (i + 1) ps) (sym e) in
    rw d (first_fault_append (process_faults words file pid p) (processes_faults words file (pid + 1) (drop (i + 1) ps)))

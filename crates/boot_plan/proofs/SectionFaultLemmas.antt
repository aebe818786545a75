-- The first fault of sections, said of the places at which they stand.
use Rattle.std.proofs.Common.{◌≡◌, ◌∙◌, ap, sym, refl, ℕ, zero, suc, ◌<◌, List, [], ◌∷◌, ◌++◌, append_assoc, Option, Some, None, length, get_or, take, arith}
use Rattle.std.specs.Option.{option_or, MatchOption}
use Rattle.std.proofs.lemmas.List.{append-nil}
use Rattle.kernel_args.specs.declared.args.Section.{Section}
use Rattle.kernel_args.specs.declared.faults.ArgFault.{ArgFault}
use Rattle.kernel_args.specs.Faults.{first_fault}
use Rattle.boot_plan.specs.Faults.{IsFaultAt, section_faults, sections_faults}
use Rattle.boot_plan.proofs.FirstFaultLemmas.{first_fault_append}

-- at the front, and one place on
at_front : (pid : ℕ) (earlier : List Section) (s : Section) (ss : List Section) (fault : Option ArgFault) → IsFaultAt pid earlier (s ∷ ss) zero fault
    → first_fault (section_faults pid earlier s) ≡ fault
at_front pid earlier s ss fault h = sym (h s ∙ ap (λ l. first_fault (section_faults pid l s)) (append-nil earlier))

one_on : (pid : ℕ) (earlier : List Section) (s : Section) (ss : List Section) (k : ℕ) (fault : Option ArgFault) → IsFaultAt pid earlier (s ∷ ss) (suc k) fault
    → IsFaultAt pid (earlier ++ s ∷ []) ss k fault
one_on pid earlier s ss k fault h d = h d ∙ ap (λ l. first_fault (section_faults pid l (get_or ss k d))) (sym (append_assoc earlier (s ∷ []) (take k ss)))

none_faulty : (pid : ℕ) (earlier ss : List Section) → ((k : ℕ) → k < length ss → IsFaultAt pid earlier ss k None) → first_fault (sections_faults pid earlier ss) ≡ None
none_faulty pid earlier [] h = refl
none_faulty pid earlier (s ∷ ss) h =
    first_fault_append (section_faults pid earlier s) (sections_faults pid (earlier ++ s ∷ []) ss)
    ∙ ap (λ o. option_or o (first_fault (sections_faults pid (earlier ++ s ∷ []) ss))) (at_front pid earlier s ss None (h zero (omega arith)))
    ∙ none_faulty pid (earlier ++ s ∷ []) ss (λ k l. one_on pid earlier s ss k None (h (suc k) (omega arith)))

one_faulty : (pid : ℕ) (earlier ss : List Section) (fault : ArgFault) (i : ℕ) → i < length ss → IsFaultAt pid earlier ss i (Some fault)
    → ((k : ℕ) → k < i → IsFaultAt pid earlier ss k None) → first_fault (sections_faults pid earlier ss) ≡ Some fault
one_faulty pid earlier [] fault i l here before = absurd (omega arith)
one_faulty pid earlier (s ∷ ss) fault zero l here before =
    first_fault_append (section_faults pid earlier s) (sections_faults pid (earlier ++ s ∷ []) ss)
    ∙ ap (λ o. option_or o (first_fault (sections_faults pid (earlier ++ s ∷ []) ss))) (at_front pid earlier s ss (Some fault) here)
one_faulty pid earlier (s ∷ ss) fault (suc i) l here before =
    first_fault_append (section_faults pid earlier s) (sections_faults pid (earlier ++ s ∷ []) ss)
    ∙ ap (λ o. option_or o (first_fault (sections_faults pid (earlier ++ s ∷ []) ss))) (at_front pid earlier s ss None (before zero (omega arith)))
    ∙ one_faulty pid (earlier ++ s ∷ []) ss fault i (omega arith) (one_on pid earlier s ss i (Some fault) here)
    (λ k m. one_on pid earlier s ss k None (before (suc k) (omega arith)))

-- the first fault that is found at places from the first on is that of all sections
pub found_fault : (pid : ℕ) (ss : List Section) (fault : Option ArgFault)
    → MatchOption fault ((k : ℕ) → k < length ss → IsFaultAt pid [] ss k None)
    (λ f. (i : ℕ) × (i < length ss) × IsFaultAt pid [] ss i (Some f) × ((k : ℕ) → k < i → IsFaultAt pid [] ss k None))
    → fault ≡ first_fault (sections_faults pid [] ss)
found_fault pid ss None none = sym (none_faulty pid [] ss none)
found_fault pid ss (Some f) found = sym (one_faulty pid [] ss f found.0 found.1 found.2 found.3)

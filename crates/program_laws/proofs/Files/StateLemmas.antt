-- What a state file has is one: one state, from which a run goes on from one machine, or one first fault.
use Rattle.std.proofs.Common.{◌≡◌, ◌⊎◌, inl, inr, ℕ, Bool, true, false, nat_lt, MatchBool, length, List, Option, Some, sym, ap, ◌∙◌, subst, arith}
use Rattle.std.proofs.lemmas.Bool.Decides.{nat_tests}
use Rattle.kernel_args.specs.declared.faults.ArgFault.{ArgFault}
use Rattle.boot_plan.specs.FaultNumbers.{too_long}
use Rattle.host_io.specs.Reading.{IsFile}
use Rattle.machine_model.specs.State.Machine.{Machine}
use Rattle.resume_path.specs.Resumable.{CanSplit, IsResumable}
use Rattle.snapshot_rows.specs.Machines.{machine_of}
use Rattle.snapshot_rows.specs.declared.state.State.{State}
use Rattle.suspend_image.specs.FileFaults.{IsFirstFault}
use Rattle.suspend_image.proofs.FaultLemmas.{fault_once, matched_has_no_fault}
use Rattle.suspend_image.proofs.SpellsLemmas.{spelled_once}
use Rattle.xous_program.specs.Outcome.States.{StateFile}
use Rattle.xous_program.specs.StateFiles.{IsBadSplit, IsSplitFault, IsStateFault, Restores}
use Rattle.xous_program.specs.declared.commands.states.TheConstants.{STATE_LIMIT}
use Rattle.program_laws.proofs.Files.FileLemmas.{same_bytes}

one_state : (file : List ℕ) (one other : State) → IsResumable file one → IsResumable file other → one ≡ other
one_state file one other a b = spelled_once file one other a.spelled b.spelled

-- a run goes on from one machine
pub one_machine : (file : List ℕ) (slots : ℕ) (one other : Machine) → Restores file slots one → Restores file slots other → one ≡ other
one_machine file slots one other a b =
    a.resumed ∙ (ap (machine_of file) (one_state file a.state b.state a.sound.resumable b.sound.resumable) ∙ sym b.resumed)

pub states_agree : (file : List ℕ → Option (List ℕ)) (name : List ℕ) (slots : ℕ) (one other : Machine)
    → StateFile (Some file) name slots one → StateFile (Some file) name slots other → one ≡ other
states_agree file name slots one other a b =
    let P : List ℕ → Type 0 = λ bytes. Restores bytes slots other in
    one_machine a.bytes slots one other a.restores (subst P (same_bytes file name b.bytes a.bytes b.read a.read) b.restores)

-- pages can't be split well and badly
never_both : (state : State) (slots : ℕ) → CanSplit state slots → IsBadSplit state slots → ⊥
never_both state slots can (inl few) = omega (arith, can.fewer)
never_both state slots can (inr many) = omega (arith, can.frames)

-- ---- its fault

-- the cases of its first fault: it is too long, or it isn't
abbrev Cases : List ℕ → ℕ → ArgFault → Bool → Type 0
Cases file slots fault long =
    MatchBool long (fault ≡ record { what = too_long; at = 0 }) (IsFirstFault file fault ⊎ IsSplitFault file slots fault)

first_or_split : (file : List ℕ) (slots : ℕ) (one other : ArgFault) → IsFirstFault file one ⊎ IsSplitFault file slots one
    → IsFirstFault file other ⊎ IsSplitFault file slots other → one ≡ other
first_or_split file slots one other (inl a) (inl b) = fault_once file one other a b
first_or_split file slots one other (inl a) (inr b) = absurd (matched_has_no_fault file b.state one b.resumable.spelled b.resumable.matched a)
first_or_split file slots one other (inr a) (inl b) = absurd (matched_has_no_fault file a.state other a.resumable.spelled a.resumable.matched b)
first_or_split file slots one other (inr a) (inr b) = a.named ∙ sym b.named

one_fault : (file : List ℕ) (slots : ℕ) (one other : ArgFault) → IsStateFault file slots one → IsStateFault file slots other → one ≡ other
one_fault file slots one other = go (nat_lt STATE_LIMIT (length file))
  where
    go : (long : Bool) → Cases file slots one long → Cases file slots other long → one ≡ other
    go true a b = a ∙ sym b
    go false a b = first_or_split file slots one other a b

pub faults_agree : (file : List ℕ → Option (List ℕ)) (name : List ℕ) (slots : ℕ) (bytes two : List ℕ) (one other : ArgFault)
    → IsFile (Some file) name bytes → IsStateFault bytes slots one → IsFile (Some file) name two → IsStateFault two slots other → one ≡ other
faults_agree file name slots bytes two one other read faulty read_two faulty_two =
    let P : List ℕ → Type 0 = λ b. IsStateFault b slots other in
    one_fault bytes slots one other faulty (subst P (same_bytes file name two bytes read_two read) faulty_two)

-- a file from which a run goes on has none
pub restored_no_fault : (file : List ℕ) (slots : ℕ) (machine : Machine) (fault : ArgFault) → Restores file slots machine → IsStateFault file slots fault → ⊥
restored_no_fault file slots machine fault r = go (nat_lt STATE_LIMIT (length file)) short
  where
    short : nat_lt STATE_LIMIT (length file) ≡ false
    short = let few = r.sound.short in grind (arith, nat_tests)

    split : IsSplitFault file slots fault → ⊥
    split bad =
        let B : State → Type 0 = λ s. IsBadSplit s slots in
        never_both r.state slots r.sound.split (subst B (one_state file bad.state r.state bad.resumable r.sound.resumable) bad.split)

    go : (long : Bool) → long ≡ false → Cases file slots fault long → ⊥
    go true unlong a = cc
    go false unlong (inl first) = matched_has_no_fault file r.state fault r.sound.resumable.spelled r.sound.resumable.matched first
    go false unlong (inr bad) = split bad

pub file_no_fault : (file : List ℕ → Option (List ℕ)) (name : List ℕ) (slots : ℕ) (machine : Machine) (bytes : List ℕ) (fault : ArgFault)
    → StateFile (Some file) name slots machine → IsFile (Some file) name bytes → IsStateFault bytes slots fault → ⊥
file_no_fault file name slots machine bytes fault state read faulty =
    let P : List ℕ → Type 0 = λ b. IsStateFault b slots fault in
    restored_no_fault state.bytes slots machine fault state.restores (subst P (same_bytes file name bytes state.bytes read state.read) faulty)

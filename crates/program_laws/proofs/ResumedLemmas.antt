-- A suspended run goes on from the state that is read of its bytes.
use Rattle.std.proofs.Common.{◌≡◌, ◌≤◌, ◌∙◌, refl, sym, ap, subst, ℕ, Bool, true, false, nat_le, if◌then◌else◌, List, ◌++◌, arith}
use Rattle.std.proofs.lemmas.Bool.Decides.{nat_tests}
use Rattle.xk_base.specs.declared.events.Event.{Event}
use Rattle.machine_model.specs.Runs.Matched.{Matched}
use Rattle.machine_model.specs.State.Machine.{Machine}
use Rattle.snapshot_rows.specs.declared.state.State.{State}
use Rattle.suspend_image.specs.Forms.{Spells}
use Rattle.snapshot_rows.specs.Machines.{machine_of}
use Rattle.suspend_image.specs.Saveable.{IsSaveable, SpellsMachine}
use Rattle.suspend_image.specs.StateBytes.{saved_bytes}
use Rattle.suspend_image.proofs.Saved.StateAgainLemmas.{saved_spelled}
use Rattle.suspend_image.proofs.SpellsLemmas.{spelled_once}
use Rattle.machine_laws.specs.History.{History, followed_by, go_on, history}
use Rattle.resume_path.specs.Resumable.{IsResumable}
use Rattle.machine_laws.proofs.Histories.HistoryLemmas.{history_append}
use Rattle.machine_laws.proofs.Histories.LimitLemmas.{history_within}
use Rattle.machine_laws.proofs.Histories.MomentLemmas.{history_matched}
use Rattle.xous_program.specs.Outcome.Resumes.{limit_from}
use Rattle.program_laws.specs.Resumed.{IsCut, IsJoined}

-- ---- what is read of the bytes of a state

-- some state is, and says that machine
resumable : (m : Machine) → Matched m → IsSaveable m → (state : State) × IsResumable (saved_bytes m) state
resumable m matched saveable =
    let spells : SpellsMachine (saved_bytes m) m = saved_spelled m matched saveable in
    (spells.state, record { spelled = spells.spelled; matched = subst Matched (sym spells.machine) matched })

-- .. and no other
same_machine : (m : Machine) (state : State) → Matched m → IsSaveable m → Spells (saved_bytes m) state → machine_of (saved_bytes m) state ≡ m
same_machine m state matched saveable spelled =
    let spells : SpellsMachine (saved_bytes m) m = saved_spelled m matched saveable in
    let same : state ≡ spells.state = spelled_once (saved_bytes m) state spells.state spelled spells.spelled in
    ap (λ (s : State). machine_of (saved_bytes m) s) same ∙ spells.machine

pub suspended_is_read : (before : List Event) (limit : ℕ) (start : Machine) → Matched start → IsSaveable (history before limit start).machine
    → (state : State) × IsResumable (saved_bytes (history before limit start).machine) state
suspended_is_read before limit start matched saveable =
    resumable (history before limit start).machine (history_matched before limit start matched) saveable

pub suspended_is_resumed : (before : List Event) (limit : ℕ) (start : Machine) (file : List ℕ) (state : State) → Matched start
    → IsSaveable (history before limit start).machine → IsCut before limit start file state → machine_of file state ≡ (history before limit start).machine
suspended_is_resumed before limit start file state matched saveable cut =
    let last : Machine = (history before limit start).machine in
    let spelled : Spells (saved_bytes last) state = subst (λ (bytes : List ℕ). Spells bytes state) cut.saved cut.read.spelled in
    ap (λ (bytes : List ℕ). machine_of bytes state) cut.saved
    ∙ same_machine last state (history_matched before limit start matched) saveable spelled

-- ---- the history of all events

-- where the limit isn't met, what follows comes behind
pub unmet_joined : (first : History) (next : Machine → History) → first.met ≡ false → IsJoined (followed_by first next) first (next first.machine)
unmet_joined first next unmet =
    let same : followed_by first next ≡ go_on false first next = ap (λ (b : Bool). go_on b first next) unmet in
    subst (λ (whole : History). IsJoined whole first (next first.machine)) (sym same) (record { records = refl; last = refl; met = refl })

pub resumed_goes_on : (before after : List Event) (limit : ℕ) (start : Machine) (file : List ℕ) (state : State) → Matched start
    → IsSaveable (history before limit start).machine → IsCut before limit start file state
    → IsJoined (history (before ++ after) limit start) (history before limit start) (history after limit (machine_of file state))
resumed_goes_on before after limit start file state matched saveable cut =
    let first : History = history before limit start in
    let joined : IsJoined (followed_by first (history after limit)) first (history after limit first.machine)
    = unmet_joined first (history after limit) cut.unmet in
    let all : IsJoined (history (before ++ after) limit start) first (history after limit first.machine)
    = subst (λ (whole : History). IsJoined whole first (history after limit first.machine)) (sym (history_append before after limit start)) joined in
    subst (λ (m : Machine). IsJoined (history (before ++ after) limit start) first (history after limit m))
    (sym (suspended_is_resumed before limit start file state matched saveable cut)) all

-- ---- the limit

pub within_limit : (limit : ℕ) (m : Machine) → m.steps ≤ limit → limit_from limit m ≡ limit
within_limit limit m within =
    let test : nat_le m.steps limit ≡ true = grind (arith, nat_tests) in
    ap (λ (b : Bool). if b then limit else m.steps) test

pub resumed_limit : (before : List Event) (limit : ℕ) (start : Machine) (file : List ℕ) (state : State) → Matched start → start.steps ≤ limit
    → IsSaveable (history before limit start).machine → IsCut before limit start file state → limit_from limit (machine_of file state) ≡ limit
resumed_limit before limit start file state matched within saveable cut =
    ap (limit_from limit) (suspended_is_resumed before limit start file state matched saveable cut)
    ∙ within_limit limit (history before limit start).machine (history_within before limit start within)

-- Runs begin so that state bytes spell each of their states, and a run that is suspended goes on.
use Rattle.std.proofs.Common.{◌≡◌, ℕ, ◌<◌, ◌≤◌, List, [], ◌∷◌, ◌++◌, map, Option, None, inl, inr, arith}
use Rattle.std.specs.Prelude.{All, IfSome}
use Rattle.std.specs.List.{AllByRecursion}
use Rattle.std.proofs.lemmas.List.Elements.{All-from_recursion}
use Rattle.xk_base.specs.declared.events.Event.{Event}
use Rattle.xk_base.specs.declared.limits.TheConstants.{SLOT_LIMIT}
use Rattle.kernel_args.specs.declared.args.Args.{Args}
use Rattle.kernel_args.specs.declared.args.ProcArgs.{ProcArgs}
use Rattle.kernel_args.specs.Contents.{IsProcess}
use Rattle.boot_plan.specs.declared.plans.ProcPlan.{ProcPlan}
use Rattle.boot_plan.specs.Faults.{plan_fault}
use Rattle.boot_plan.specs.FirstPages.{plan_of, process_plan}
use Rattle.boot_plan.proofs.LawfulPlanLemmas.{lawful_plan, plan_can_start}
use Rattle.machine_model.specs.State.Machine.{Machine}
use Rattle.machine_laws.specs.History.{history}
use Rattle.snapshot_rows.specs.declared.state.State.{State}
use Rattle.snapshot_rows.specs.Machines.{machine_of}
use Rattle.suspend_image.specs.Saveable.{IsSpellable}
use Rattle.suspend_image.specs.StateBytes.{saved_bytes}
use Rattle.resume_path.specs.Resumable.{IsResumable}
use Rattle.snapshot_laws.specs.Words.{greatest}
use Rattle.program_laws.specs.Starting.{Begins}
use Rattle.program_laws.proofs.StartLemmas.{begins_spellable, every_last_spellable}
use Rattle.xous_program.specs.Outcome.Images.{Boots}
use Rattle.xous_program.specs.Outcome.Resumes.{limit_from}
use Rattle.program_laws.specs.Resumed.{IsCut, IsJoined}
use Rattle.xous_program.specs.StateFiles.{Restores}
use Rattle.xous_program.proofs.Images.MatchedLemmas.{no_plan_fault}
use Rattle.program_laws.proofs.ResumedLemmas.{resumed_goes_on, resumed_limit, suspended_is_read}

-- ---- beginnings

-- entries are words in an image
entries_fit : (version : ℕ) (ps : List ProcArgs) → AllByRecursion (IsProcess version) ps
    → AllByRecursion (λ (p : ProcPlan). p.entry ≤ greatest) (map process_plan ps)
entries_fit version [] each = tt
entries_fit version (p ∷ ps) each = let word : p.entry < 4294967296 = each.0.entry in (omega arith, entries_fit version ps each.1)

pub booted_begins : (image : List ℕ) (asked : Option ℕ) (machine : Machine) → IfSome asked (λ n. n ≤ SLOT_LIMIT) → All (λ b. b < 256) image
    → Boots image asked machine → Begins machine
booted_begins image asked machine few bytes boots =
    let args : Args = boots.args in
    let no_fault : plan_fault args image asked ≡ None = no_plan_fault image asked args boots.sound.spelled boots.sound.no_fault in
    inl (record {
      plan = plan_of args asked;
      file = image;
      bytes = bytes;
      lawful = lawful_plan args image asked boots.sound.spelled.sound few no_fault;
      can = plan_can_start args image asked no_fault;
      entries = All-from_recursion (λ (p : ProcPlan). p.entry ≤ greatest) (map process_plan args.procs)
          (entries_fit args.version args.procs boots.sound.spelled.spelled.each_process);
      start = boots.start;
    })

pub restored_begins : (file : List ℕ) (slots : ℕ) (machine : Machine) → All (λ b. b < 256) file → Restores file slots machine → Begins machine
restored_begins file slots machine bytes restores =
    inr (record {
      file = file;
      state = restores.state;
      bytes = bytes;
      resumable = restores.sound.resumable;
      slots = slots;
      split = restores.sound.split;
      resumed = restores.resumed;
    })

-- ---- what is suspended goes on

module _ (before : List Event) (limit : ℕ) (start : Machine) (begins : Begins start) (within : start.steps ≤ limit) (few : limit ≤ 4000000000) where
  first : IsSpellable start
  first = begins_spellable start begins

  last : IsSpellable (history before limit start).machine
  last = every_last_spellable start begins before limit within few

  pub begun_is_read : (state : State) × IsResumable (saved_bytes (history before limit start).machine) state
  begun_is_read = suspended_is_read before limit start first.matched last.saveable

pub begun_goes_on : (before after : List Event) (limit : ℕ) (start : Machine) (file : List ℕ) (state : State) → Begins start → start.steps ≤ limit
    → limit ≤ 4000000000 → IsCut before limit start file state
    → IsJoined (history (before ++ after) limit start) (history before limit start) (history after limit (machine_of file state))
begun_goes_on before after limit start file state begins within few cut =
    resumed_goes_on before after limit start file state (begins_spellable start begins).matched
    (every_last_spellable start begins before limit within few).saveable cut

pub begun_limit : (before : List Event) (limit : ℕ) (start : Machine) (file : List ℕ) (state : State) → Begins start → start.steps ≤ limit → limit ≤ 4000000000
    → IsCut before limit start file state → limit_from limit (machine_of file state) ≡ limit
begun_limit before limit start file state begins within few cut =
    resumed_limit before limit start file state (begins_spellable start begins).matched within
    (every_last_spellable start begins before limit within few).saveable cut

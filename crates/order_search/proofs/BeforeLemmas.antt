-- The events that are played before.
use Rattle.std.proofs.Common.{◌≡◌, ◌∙◌, inl, ℕ, true, List, [], ◌∷◌, ◌++◌, Option, Some, refl, sym, ap, subst}
use Rattle.std.proofs.lemmas.Option.{same_Some}
use Rattle.event_player.specs.declared.ending.Ending.{Ending}
use Rattle.event_player.specs.declared.telling.Telling.TheVariants.{Run}
use Rattle.event_player.specs.Gathering.{Text, put}
use Rattle.event_player.specs.History.{run_of}
use Rattle.event_player.specs.Playing.{PlaysOut, run_from}
use Rattle.event_player.specs.Standing.{Stand}
use Rattle.event_player.specs.Telling.{console_byte, told as told_by}
use Rattle.host_io.specs.Reading.{IsTold}
use Rattle.machine_model.specs.State.Machine.{Machine}
use Rattle.order_model.specs.Moves.{byte_of_what, bytes_of}
use Rattle.xk_base.specs.declared.limits.TheConstants.{STEP_LIMIT}
use Rattle.xk_base.specs.declared.records.Rec.{Rec}
use Rattle.xk_base.specs.declared.records.What.{What}
use Rattle.xk_base.specs.declared.records.What.TheVariants.{Byte, Call, End, Fault, Gone, Irq, Reply, Retry}
use Rattle.xk_kernel.specs.declared.kernel.Kernel.{Kernel}
use Rattle.xk_ports.specs.Told.{Grows}
use Rattle.xk_ports.specs.declared.store.SwapStore.{Ghosts as SwapStore}

same_byte : (what : What) → console_byte what ≡ byte_of_what what
same_byte (Byte thread byte) = refl
same_byte (Call thread words) = refl
same_byte (Reply thread words) = refl
same_byte (Retry thread) = refl
same_byte (Fault thread cause value) = refl
same_byte (End thread) = refl
same_byte (Irq pid number) = refl
same_byte (Gone pid) = refl

-- what `run` tells of records is what goes to the console
pub told_bytes : (records : List Rec) → told_by Run records ≡ bytes_of records
told_bytes [] = refl
told_bytes (rec ∷ records) = λ i. same_byte rec.what i ++ told_bytes records i

-- a file that was played ended so
pub ended_before : {W : Type 0} {S : SwapStore W} {first : Kernel W} (m : Machine) (left : Option (List ℕ)) (events : List ℕ) (begun : Option (List ℕ)) (now : Stand) (ending : Ending)
    → left ≡ Some events → now.trusted ≡ true → PlaysOut (run_from S first Run STEP_LIMIT m (put begun)) left now ending
    → (run_of STEP_LIMIT m events).ending ≡ ending
ended_before m left events begun now ending told trusted runs =
    let same : events ≡ runs.bytes = subst (λ (l : Option (List ℕ)). IsTold l runs.bytes) told runs.file in
    ap (λ (e : List ℕ). (run_of STEP_LIMIT m e).ending) same ∙ (runs.exact (inl trusted)).0.ended

-- what is written of a file that was played, on a console on which nothing stood
pub played_before : {W : Type 0} {S : SwapStore W} {first : Kernel W} (m : Machine) (left : Option (List ℕ)) (events begun console : List ℕ) (now : Stand) (ending : Ending) → left ≡ Some events
    → begun ≡ [] → now.trusted ≡ true → now.text ≡ put (Some console)
    → PlaysOut (run_from S first Run STEP_LIMIT m (put (Some begun))) left now ending
    → (now.machine ≡ (run_of STEP_LIMIT m events).machine) × (console ≡ bytes_of (run_of STEP_LIMIT m events).records)
played_before m left events begun console now ending told none trusted text runs =
    let same : events ≡ runs.bytes = subst (λ (l : Option (List ℕ)). IsTold l runs.bytes) told runs.file in
    let exact = runs.exact (inl trusted) in
    let records : List Rec = (run_of STEP_LIMIT m runs.bytes).records in
    let G : Text → Type 0 = λ t. Grows (Some begun) t.out (told_by Run records) in
    let grown : Grows (Some begun) (Some console) (told_by Run records) = subst G text exact.0.written in
    let front : grown.0 ≡ [] = sym (same_Some begun grown.0 grown.1) ∙ none in
    let all : console ≡ bytes_of records = grown.2 ∙ ((λ i. front i ++ told_by Run records) ∙ told_bytes records) in (
      exact.1 ∙ ap (λ (e : List ℕ). (run_of STEP_LIMIT m e).machine) (sym same),
      all ∙ ap (λ (e : List ℕ). bytes_of (run_of STEP_LIMIT m e).records) (sym same),
    )

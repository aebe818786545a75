-- A run that starts: its store is prepared, and its plan is booted.
use Rattle.std.proofs.Common.{◌≡◌, ◌<◌, ◌≤◌, ◌⊎◌, ◌∙◌, inl, inr, ℕ, Bool, true, false, nat_lt, List, [], ◌∷◌, length, Option, None, Result, Ok, Err, IfOk, IfErr, refl, sym, ap, subst, arith}
use Rattle.std.proofs.lemmas.Bool.Decides.{nat_tests}
use Rattle.boot_plan.specs.Capacity.{page_frames}
use Rattle.boot_plan.specs.FirstPages.{plan_of, planned_pages}
use Rattle.boot_plan.specs.Lawful.{IsLawfulPlan}
use Rattle.kernel_args.specs.declared.args.Args.{Args}
use Rattle.xous_program.specs.Outcome.Images.{Image}
use Rattle.program_status.specs.Plans.{IsSoundImage}
use Rattle.xous_program.specs.Outcome.Demo.{TellsDemo}
use Rattle.xous_program.specs.Outcome.Sides.{Prepares, StoreRose, StoreSide, Told, store_side}
use Rattle.program_status.specs.Notes.{SinkSide}
use Rattle.demo_load.specs.Events.{load_history, load_machine, load_plan}
use Rattle.demo_load.specs.Image.{load_image}
use Rattle.demo_load.specs.Totals.{demo_line, totals_of}
use Rattle.program_status.specs.declared.status.Status.{Status}
use Rattle.program_status.specs.declared.status.Status.TheVariants.{Done, WriteFault}
use Rattle.host_io.specs.Reading.{IsFile}
use Rattle.boot_plan.specs.declared.plans.BootPlan.{BootPlan}
use Rattle.machine_model.specs.State.Machine.{Machine}
use Rattle.sv32_space.specs.Tie.{Held}
use Rattle.vm_memory.specs.Bytes.{MeansBytes, none_out}
use Rattle.vm_memory.specs.Memory.{Size, size}
use Rattle.vm_memory.specs.declared.memory.BootError.{BootError}
use Rattle.vm_memory.specs.declared.memory.BootError.TheVariants as boot
use Rattle.xk_base.specs.Outside.{Rose}
use Rattle.xk_kernel.specs.Knowing.{ComesTo}
use Rattle.xk_kernel.specs.Start.{start}
use Rattle.xk_kernel.specs.State.{machine_of}
use Rattle.xk_kernel.specs.declared.kernel.Kernel.{Kernel}
use Rattle.xk_kernel.proofs.Starting.StartPageLemmas.{start_pages}
use Rattle.xk_ports.specs.declared.store.SwapStore.{Ghosts as SwapStore}
use Rattle.xk_ports.specs.Store.{StoreAsked}
use Rattle.xk_ports.specs.Told.{Grows, GrowsByProperPrefix}
use Rattle.event_player.specs.Gathering.{Text}
use Rattle.event_player.specs.Rooms.{IsFull, Room}
use Rattle.xous_program.specs.Outcome.Starts.{Stops, StopsIn, room_of, status_of}
use Rattle.event_player.specs.Standing.{Begins, room_in, stand}
use Rattle.event_player.proofs.Playing.StandingLemmas.{near_means, trusted_means}

-- the start has more pages than there are frames for where its plan has
pub start_full : (plan : BootPlan) (file : List ℕ) → IsLawfulPlan (length file) plan → page_frames plan.frames (length plan.procs) < planned_pages plan
    → IsFull (room_of plan) (start plan file)
unfolding start
start_full plan file lawful more =
    let P : ℕ → Type 0 = λ n. page_frames plan.frames (length plan.procs) < n in subst P (sym (start_pages plan file lawful)) more

-- no step was done at the start
pub starts_at_zero : {W : Type 0} (held : W → Held) (known : Type 0) (k : Kernel W) (plan : BootPlan) (file : List ℕ)
    → ComesTo known (machine_of held k) (start plan file) → (machine_of held k).steps ≡ 0
unfolding start
starts_at_zero held known k plan file comes = ap (λ (m : Machine). m.steps) comes.alike

-- and nothing is reserved
pub starts_unreserved : {W : Type 0} (held : W → Held) (known : Type 0) (k : Kernel W) (plan : BootPlan) (file : List ℕ)
    → ComesTo known (machine_of held k) (start plan file) → (machine_of held k).reserved ≡ None
unfolding start
starts_unreserved held known k plan file comes = ap (λ (m : Machine). m.reserved) comes.alike

-- the room of a kernel, by how large its memory is
pub room_is : {W : Type 0} (k : Kernel W) (plan : BootPlan) (s : Size) → size k.mem ≡ s → s.area.frames ≡ plan.frames → s.procs ≡ length plan.procs → room_in k ≡ room_of plan
room_is k plan s is frames procs =
    ap (λ (s : Size). record { frames = page_frames s.area.frames s.procs; processes = s.procs }) is
    ∙ (ap (λ (f : ℕ). record { frames = page_frames f s.procs; processes = s.procs }) frames
    ∙ ap (λ (n : ℕ). record { frames = page_frames plan.frames n; processes = n }) procs)

pub begins : {W : Type 0} (S : SwapStore W) (k : Kernel W) (plan : BootPlan) (file : List ℕ) (text : Text) → IsLawfulPlan (length file) plan
    → ComesTo (MeansBytes S k.mem) (machine_of S.held k) (start plan file)
    → (planned_pages plan ≤ page_frames plan.frames (length plan.procs) → none_out k.mem ≡ true) → room_in k ≡ room_of plan
    → Begins (start plan file) (stand S k text)
begins S k plan file text lawful comes near room = record {
  trusted = λ trusted. comes.whole (trusted_means S k trusted);
  near = go (nat_lt (page_frames plan.frames (length plan.procs)) (planned_pages plan)) refl;
}
  where
    go : (b : Bool) → nat_lt (page_frames plan.frames (length plan.procs)) (planned_pages plan) ≡ b
        → ((none_out k.mem ≡ true) × (machine_of S.held k ≡ start plan file)) ⊎ IsFull (room_in k) (start plan file)
    go true more =
        let R : Room → Type 0 = λ room. IsFull room (start plan file) in
        let full : page_frames plan.frames (length plan.procs) < planned_pages plan = grind (arith, nat_tests) in
        inr (subst R (sym room) (start_full plan file lawful full))
    go false fits =
        let within : planned_pages plan ≤ page_frames plan.frames (length plan.procs) = grind (arith, nat_tests) in
        inl (near within, comes.whole (near_means S k (near within)))

-- what was asked of the store before a boot stays asked
pub asked_on : (before mid after : Option (List StoreAsked)) (entry : StoreAsked) → after ≡ mid → Grows before mid (entry ∷ []) → Grows before after (entry ∷ [])
asked_on before mid after entry same grown = let G : Option (List StoreAsked) → Type 0 = λ asked. Grows before asked (entry ∷ []) in subst G (sym same) grown

pub rose_before : (old mid new : ℕ) → old ≤ mid → Rose mid new → Rose old new
rose_before old mid new later rose = omega arith

-- a run whose kernel isn't made stops
boot_stops : (room : Room) (slots : ℕ) (name : Option (List ℕ)) (first : Machine) (store : StoreSide) (why : BootError) → Prepares store slots name true
    → (why ≡ boot.SwapFault → StoreRose store) → (why ≡ boot.SwapFault → IsFull room first) → StopsIn room slots name first store (status_of why)
boot_stops room slots name first store boot.NoMemory prepared rose full = inr prepared
boot_stops room slots name first store boot.SwapFault prepared rose full = (rose refl, inr (prepared, full refl))

-- .. with the status and the store of how its call ends
pub fault_stops : {W : Type 0} (S : SwapStore W) (room : Room) (slots : ℕ) (name : Option (List ℕ)) (first : Machine) (store back left : W)
    (why : BootError) (status : Status) → status ≡ status_of why → left ≡ back → Prepares (store_side S store back) slots name true
    → (why ≡ boot.SwapFault → Rose (S.faults store) (S.faults back)) → (why ≡ boot.SwapFault → IsFull room first)
    → StopsIn room slots name first (store_side S store left) status
fault_stops {W} S room slots name first store back left why status is same prepared rose full =
    let P : Status → Type 0 = λ s. StopsIn room slots name first (store_side S store left) s in
    let Q : W → Type 0 = λ w. StopsIn room slots name first (store_side S store w) (status_of why) in
    subst P (sym is) (subst Q (sym same) (boot_stops room slots name first (store_side S store back) why prepared rose full))

-- facts of an answer together
pub all_ok : {T E : Type 0} (r : Result T E) (A B C D Q : T → Type 0) → ((x : T) → A x → B x → C x → D x → Q x) → IfOk r A → IfOk r B → IfOk r C → IfOk r D → IfOk r Q
all_ok (Ok x) A B C D Q f a b c d = f x a b c d
all_ok (Err e) A B C D Q f a b c d = tt

pub if_err : {T E : Type 0} (r : Result T E) (P Q : E → Type 0) → ((e : E) → P e → Q e) → IfErr r P → IfErr r Q
if_err (Ok x) P Q f p = tt
if_err (Err e) P Q f p = f e p

-- a plan that was booted, as the image of a command
abbrev pub image_of : (file : Told) (name bytes read : List ℕ) (asked : Option ℕ) (args : Args) (plan : BootPlan) → IsFile file name bytes → IsSoundImage bytes asked args
    → plan ≡ plan_of args asked → read ≡ bytes → Image file name asked (start plan read)
image_of file name bytes read asked args plan is_file sound planned same = record {
  bytes = bytes;
  read = is_file;
  boots = record {
    args = args;
    sound = sound;
    start = ap (λ (p : BootPlan). start p read) planned ∙ ap (λ (l : List ℕ). start (plan_of args asked) l) same;
  };
}

pub both_ok : {T E : Type 0} (r : Result T E) (A B Q : T → Type 0) → ((x : T) → A x → B x → Q x) → IfOk r A → IfOk r B → IfOk r Q
both_ok (Ok x) A B Q f a b = f x a b
both_ok (Err e) A B Q f a b = tt

-- ---- the load of `demo`

pub load_starts : (clients : ℕ) (plan : BootPlan) (bytes : List ℕ) → plan ≡ load_plan clients → bytes ≡ load_image clients → start plan bytes ≡ load_machine clients
load_starts clients plan bytes planned same =
    ap (λ (p : BootPlan). start p bytes) planned ∙ ap (λ (l : List ℕ). start (load_plan clients) l) same

pub load_stops : (one other : Machine) (first second : BootPlan) (store : StoreSide) (status : Status) → one ≡ other → first ≡ second → Stops first None one store status
    → Stops second None other store status
load_stops one other first second store status there same stopped =
    let M : Machine → Type 0 = λ m. Stops first None m store status in
    let P : BootPlan → Type 0 = λ p. Stops p None other store status in
    subst P same (subst M there stopped)

-- what was written of a load that was played
pub load_told : (clients : ℕ) (out : SinkSide) (store : StoreSide) (line : List ℕ) (status : Status) → line ≡ demo_line clients (totals_of (load_history clients).records)
    → (status ≡ Done) ⊎ (status ≡ WriteFault) → (status ≡ Done → Grows out.written out.written_after line)
    → (status ≡ WriteFault → GrowsByProperPrefix out.written out.written_after line) → TellsDemo clients out store status
load_told clients out store line status is (inl done) whole front =
    let S : Status → Type 0 = λ s. TellsDemo clients out store s in
    let G : List ℕ → Type 0 = λ l. Grows out.written out.written_after l in
    subst S (sym done) (subst G is (whole done))
load_told clients out store line status is (inr failed) whole front =
    let S : Status → Type 0 = λ s. TellsDemo clients out store s in
    let G : List ℕ → Type 0 = λ l. GrowsByProperPrefix out.written out.written_after l in
    subst S (sym failed) (subst G is (front failed))

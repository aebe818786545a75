-- Runs of orders: where they begin, and the room that their states have.
use Rattle.std.proofs.Common.{◌≡◌, ◌<◌, ◌≤◌, ◌⊎◌, ◌∙◌, inl, inr, nat_lt, ℕ, zero, suc, Bool, true, false, List, [], length, refl, sym, ap, subst, arith}
use Rattle.std.specs.Prelude.{get_or, replicate}
use Rattle.std.proofs.lemmas.Bool.Decides.{nat_tests}
use Rattle.boot_plan.specs.Capacity.{capacity, page_frames}
use Rattle.boot_plan.specs.FirstPages.{planned_pages}
use Rattle.boot_plan.specs.Lawful.{IsLawfulPlan}
use Rattle.boot_plan.specs.declared.plans.BootPlan.{BootPlan}
use Rattle.event_player.proofs.Playing.StandingLemmas.{near_means, trusted_means}
use Rattle.event_player.specs.Gathering.{Text}
use Rattle.event_player.specs.History.{History, run_of}
use Rattle.event_player.specs.Rooms.{IsFull, Room}
use Rattle.event_player.specs.Standing.{Begins, room_in, stand}
use Rattle.machine_model.specs.State.Machine.{Machine}
use Rattle.order_model.specs.Moves.{Point, bytes_of}
use Rattle.order_model.specs.Asking.{came_of}
use Rattle.order_model.specs.declared.exits.Ended.{Ended}
use Rattle.order_model.specs.Exits.{exit_in}
use Rattle.order_search.specs.declared.subject.Subject.{Subject}
use Rattle.order_search.specs.Booted.{IsBooted}
use Rattle.order_search.specs.Quests.{start_of}
use Rattle.suspend_image.specs.Sheets.{room_for}
use Rattle.sv32_space.specs.Tie.{Held}
use Rattle.vm_memory.specs.Bytes.{MeansBytes, none_out}
use Rattle.vm_memory.specs.Memory.{Size, size}
use Rattle.xk_base.specs.declared.limits.TheConstants.{STEP_LIMIT}
use Rattle.xk_kernel.proofs.Starting.StartPageLemmas.{start_pages}
use Rattle.xk_kernel.specs.Knowing.{ComesTo, is_trusted}
use Rattle.xk_kernel.specs.Sound.{Keeps}
use Rattle.xk_kernel.specs.Start.{start}
use Rattle.xk_kernel.specs.State.{machine_of}
use Rattle.xk_kernel.specs.declared.kernel.Kernel.{Kernel}
use Rattle.xk_ports.specs.declared.store.SwapStore.{Ghosts as SwapStore}

-- ---- room

abbrev fits : ℕ → Size → Type 0
fits room s = room_for s.procs (capacity s.area.frames s.procs s.slots) ≤ room

pub room_here : {W : Type 0} (held : W → Held) (k : Kernel W) (s : Size) (room : ℕ) → size k.mem ≡ s → fits room s
    → room_for (machine_of held k).processes (machine_of held k).capacity ≤ room
unfolding machine_of
room_here held k s room is within = subst (fits room) (sym is) within

pub room_kept : {W : Type 0} {S : SwapStore W} {old new : Kernel W} (room : ℕ) → Keeps S old new
    → room_for (machine_of S.held old).processes (machine_of S.held old).capacity ≤ room
    → room_for (machine_of S.held new).processes (machine_of S.held new).capacity ≤ room
unfolding machine_of
room_kept room keeps within = subst (fits room) (sym keeps.size) within

-- .. in a sheet with as much room
pub room_still : {W : Type 0} {S : SwapStore W} {old new : Kernel W} (room other : ℕ) → other ≡ room → Keeps S old new
    → room_for (machine_of S.held old).processes (machine_of S.held old).capacity ≤ room
    → room_for (machine_of S.held new).processes (machine_of S.held new).capacity ≤ other
room_still {S = S} {new = new} room other same keeps within =
    subst (λ (r : ℕ). room_for (machine_of S.held new).processes (machine_of S.held new).capacity ≤ r) (sym same)
    (room_kept room keeps within)

-- ---- the start

-- the room of a plan
abbrev room_of : BootPlan → Room
room_of plan = record { frames = page_frames plan.frames (length plan.procs); processes = length plan.procs }

pub room_is : {W : Type 0} (k : Kernel W) (plan : BootPlan) (s : Size) → size k.mem ≡ s → s.area.frames ≡ plan.frames → s.procs ≡ length plan.procs
    → room_in k ≡ room_of plan
room_is k plan s is frames procs =
    ap (λ (s : Size). record { frames = page_frames s.area.frames s.procs; processes = s.procs }) is
    ∙ (ap (λ (f : ℕ). record { frames = page_frames f s.procs; processes = s.procs }) frames
    ∙ ap (λ (n : ℕ). record { frames = page_frames plan.frames n; processes = n }) procs)

-- the start has more pages than there are frames for where its plan has
start_full : (plan : BootPlan) (file : List ℕ) → IsLawfulPlan (length file) plan → page_frames plan.frames (length plan.procs) < planned_pages plan
    → IsFull (room_of plan) (start plan file)
unfolding start
start_full plan file lawful more =
    let P : ℕ → Type 0 = λ n. page_frames plan.frames (length plan.procs) < n in subst P (sym (start_pages plan file lawful)) more

begins : {W : Type 0} (S : SwapStore W) (k : Kernel W) (plan : BootPlan) (file : List ℕ) (text : Text) → IsLawfulPlan (length file) plan
    → ComesTo (MeansBytes S k.mem) (machine_of S.held k) (start plan file)
    → (planned_pages plan ≤ page_frames plan.frames (length plan.procs) → none_out k.mem ≡ true) → room_in k ≡ room_of plan
    → Begins (start plan file) (stand S k text)
begins S k plan file text lawful comes near room = record {
  trusted = λ trusted. comes.whole (trusted_means S k trusted);
  near = go (nat_lt (page_frames plan.frames (length plan.procs)) (planned_pages plan)) refl;
}
  where
    go : (b : Bool) → nat_lt (page_frames plan.frames (length plan.procs)) (planned_pages plan) ≡ b
        → ((none_out k.mem ≡ true) × (machine_of S.held k ≡ start plan file)) ⊎ IsFull (room_in k) (start plan file)
    go true more =
        let R : Room → Type 0 = λ room. IsFull room (start plan file) in
        let full : page_frames plan.frames (length plan.procs) < planned_pages plan = grind (arith, nat_tests) in
        inr (subst R (sym room) (start_full plan file lawful full))
    go false fits =
        let within : planned_pages plan ≤ page_frames plan.frames (length plan.procs) = grind (arith, nat_tests) in
        inl (near within, comes.whole (near_means S k (near within)))

-- a plan that was booted on a store that is trusted
pub booted : {W : Type 0} (S : SwapStore W) (k : Kernel W) (s : Subject) (file : List ℕ) → file ≡ s.file.items
    → IsLawfulPlan (length s.file.items) s.plan → is_trusted S k ≡ true
    → ComesTo (MeansBytes S k.mem) (machine_of S.held k) (start s.plan file)
    → (planned_pages s.plan ≤ page_frames s.plan.frames (length s.plan.procs) → none_out k.mem ≡ true) → room_in k ≡ room_of s.plan
    → IsBooted S s k
booted S k s file same lawful trusted comes near room =
    let C : List ℕ → Type 0 = λ f. ComesTo (MeansBytes S k.mem) (machine_of S.held k) (start s.plan f) in
    let here : C s.file.items = subst C same comes in
    record {
      machine = here.whole (trusted_means S k trusted);
      begins = λ text. begins S k s.plan s.file.items text lawful here near room;
    }

-- no step was done at the start of a plan
pub starts_low : (m : Machine) (plan : BootPlan) (file : List ℕ) → m ≡ start plan file → m.steps ≤ STEP_LIMIT
unfolding start
starts_low m plan file is =
    let L : ℕ → Type 0 = λ n. n ≤ STEP_LIMIT in
    let low : L 0 = omega arith in
    subst L (sym (ap (λ (x : Machine). x.steps) is)) low

-- no event came
none_came : (n k : ℕ) → get_or (replicate n false) k false ≡ false
none_came zero k = refl
none_came (suc n) zero = refl
none_came (suc n) (suc k) = none_came n k

abbrev here : Machine → List ℕ → List Bool → List Ended → ℕ → Point
here m console came ends preempted =
    record { state = m; console = console; came = came_of came; exits = exit_in ends; preempted = preempted }

-- a run whose events before were played is at the start of orders
pub begun : (s : Subject) (booted m : Machine) (events console : List ℕ) (came : List Bool) (ends : List Ended) (preempted : ℕ)
    → booted ≡ start s.plan s.file.items
    → events ≡ s.before.items → m ≡ (run_of STEP_LIMIT booted events).machine
    → console ≡ bytes_of (run_of STEP_LIMIT booted events).records → came ≡ replicate (length s.orders.once.items) false
    → ends ≡ [] → preempted ≡ 0 → here m console came ends preempted ≡ start_of s
unfolding start_of
begun s booted m events console came ends preempted is same there told none no_end no_move =
    let h : run_of STEP_LIMIT booted events ≡ run_of STEP_LIMIT (start s.plan s.file.items) s.before.items =
    λ i. run_of STEP_LIMIT (is i) (same i) in
    let state : m ≡ (run_of STEP_LIMIT (start s.plan s.file.items) s.before.items).machine = there ∙ ap (λ (x : History). x.machine) h in
    let bytes : console ≡ bytes_of (run_of STEP_LIMIT (start s.plan s.file.items) s.before.items).records =
    told ∙ ap (λ (x : History). bytes_of x.records) h in
    let all : came_of came ≡ (λ (k : ℕ). false) = ap came_of none ∙ (λ i k. none_came (length s.orders.once.items) k i) in
    λ i. record { state = state i; console = bytes i; came = all i; exits = exit_in (no_end i); preempted = no_move i }

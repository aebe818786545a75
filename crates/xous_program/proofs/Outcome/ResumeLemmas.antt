-- A run that goes on from a state: its store is prepared, its state is resumed, and the parts of its call are put together.
use Rattle.std.proofs.Common.{◌≡◌, ◌<◌, ◌≤◌, ◌+◌, ◌-◌, ◌⊎◌, ◌∙◌, inl, inr, ℕ, Bool, true, false, nat_le, nat_lt, if◌then◌else◌, List, [], ◌∷◌, Option, None}
use Rattle.std.proofs.Common.{max, refl, sym, ap, subst, arith}
use Rattle.std.proofs.Math.Nat.{le-max_left, le-max_right, max-le}
use Rattle.std.proofs.lemmas.Bool.Decides.{nat_tests}
use Rattle.boot_plan.specs.Capacity.{page_frames}
use Rattle.machine_model.specs.State.Machine.{Machine}
use Rattle.snapshot_rows.specs.declared.state.State.{State}
use Rattle.snapshot_rows.specs.Machines.{machine_of as machine_in}
use Rattle.sv32_space.specs.Tie.{Held}
use Rattle.vm_memory.specs.Bytes.{MeansBytes, none_out}
use Rattle.vm_memory.specs.Memory.{Size, size}
use Rattle.xk_base.specs.Numbers.Limits.{table_frames}
use Rattle.xk_kernel.specs.Knowing.{ComesTo}
use Rattle.resume_path.specs.Resumable.{resumed_page_frames, resumed_size, state_pages}
use Rattle.xk_kernel.specs.State.{machine_of}
use Rattle.xk_kernel.specs.declared.kernel.Kernel.{Kernel}
use Rattle.xk_ports.specs.declared.store.SwapStore.{Ghosts as SwapStore}
use Rattle.xk_ports.specs.Store.{StoreAsked}
use Rattle.xk_ports.specs.Told.{Grows}
use Rattle.xk_ports.specs.declared.host.FileSlot.TheVariants.{First}
use Rattle.xous_program.specs.Finish.{Continues, EndsBooted}
use Rattle.event_player.specs.Gathering.{Text}
use Rattle.xous_program.specs.Outcome.Plays.{HasCause, Tells}
use Rattle.xous_program.specs.Outcome.Resumes.{EndsResume, limit_from, traced}
use Rattle.xous_program.specs.Outcome.Sides.{Call, Prepares, StoreSide, Told}
use Rattle.xous_program.specs.Outcome.Starts.{Booted}
use Rattle.event_player.specs.Rooms.{IsFull, Room}
use Rattle.xous_program.specs.Outcome.States.{StateFile, room_from}
use Rattle.host_io.specs.Reading.{Asked, IsFile, IsTold}
use Rattle.event_player.specs.Standing.{Begins, room_in, stand}
use Rattle.xous_program.specs.StateFiles.{IsSoundState}
use Rattle.xous_program.specs.Words.{Resume}
use Rattle.xous_program.proofs.Outcome.TopLemmas.{Before, IsBefore, asks_both, begun_at, booted_is, cause_earlier, rose_after, tells_earlier}
use Rattle.event_player.proofs.Playing.StandingLemmas.{near_means, trusted_means}

-- ---- the start

-- the tables and the free frame left out, the frames are those for pages
frames_left : (tables cap slots : ℕ) → tables + 1 + (cap - slots) - tables - 1 ≡ cap - slots
frames_left tables cap slots = omega arith

-- the room of a resumed kernel, by how large its memory is
pub resumed_room : {W : Type 0} (k : Kernel W) (file : List ℕ) (state : State) (slots : ℕ) → size k.mem ≡ resumed_size state slots
    → room_in k ≡ room_from (machine_in file state) slots
resumed_room k file state slots is =
    ap (λ (s : Size). record { frames = page_frames s.area.frames s.procs; processes = s.procs }) is
    ∙ ap (λ (frames : ℕ). record { frames = frames; processes = state.n }) (frames_left (table_frames state.n) state.cap slots)

-- its steps are those of the state
pub resumed_steps : {W : Type 0} (held : W → Held) (known : Type 0) (k : Kernel W) (file : List ℕ) (state : State)
    → ComesTo known (machine_of held k) (machine_in file state) → (machine_of held k).steps ≡ state.steps
resumed_steps held known k file state comes = ap (λ (m : Machine). m.steps) comes.alike

pub resumed_begins : {W : Type 0} (S : SwapStore W) (k : Kernel W) (file : List ℕ) (state : State) (slots : ℕ) (text : Text)
    → ComesTo (MeansBytes S k.mem) (machine_of S.held k) (machine_in file state)
    → (state_pages file state ≤ resumed_page_frames state slots → none_out k.mem ≡ true) → size k.mem ≡ resumed_size state slots
    → Begins (machine_in file state) (stand S k text)
resumed_begins S k file state slots text comes near is = record {
  trusted = λ trusted. comes.whole (trusted_means S k trusted);
  near = go (nat_lt (resumed_page_frames state slots) (state_pages file state)) refl;
}
  where
    go : (b : Bool) → nat_lt (resumed_page_frames state slots) (state_pages file state) ≡ b
        → ((none_out k.mem ≡ true) × (machine_of S.held k ≡ machine_in file state)) ⊎ IsFull (room_in k) (machine_in file state)
    go true more =
        let R : Room → Type 0 = λ room. IsFull room (machine_in file state) in
        let full : resumed_page_frames state slots < state_pages file state = grind (arith, nat_tests) in
        inr (subst R (sym (resumed_room k file state slots is)) full)
    go false fits =
        let within : state_pages file state ≤ resumed_page_frames state slots = grind (arith, nat_tests) in
        inl (near within, comes.whole (near_means S k (near within)))

-- what the file of a command spells is what was resumed
abbrev pub state_file_of : (file : Told) (name bytes read : List ℕ) (slots : ℕ) (state : State) → IsFile file name bytes
    → IsSoundState bytes slots state → read ≡ bytes → StateFile file name slots (machine_in read state)
state_file_of file name bytes read slots state is_file sound same = record {
  bytes = bytes;
  read = is_file;
  restores = record { state = state; sound = sound; resumed = ap (λ (l : List ℕ). machine_in l state) same };
}

-- ---- the limit

-- the greater of the limit that is given and of the steps that were done
pub limit_is : (limit steps most : ℕ) (machine : Machine) → steps ≡ machine.steps → most ≡ max limit steps → most ≡ limit_from limit machine
limit_is limit steps most machine done is = go (nat_le machine.steps limit) refl
  where
    go : (b : Bool) → nat_le machine.steps limit ≡ b → most ≡ (if b then limit else machine.steps)
    go true fits =
        let fit : machine.steps ≤ limit = grind (arith, nat_tests) in
        let within : steps ≤ limit = omega (arith, done, fit) in
        let itself : limit ≤ limit = omega arith in
        let high : max limit steps ≤ limit = max-le {a = limit} {b = steps} {k = limit} itself within in
        let low : limit ≤ max limit steps = le-max_left limit steps in
        let same : most ≡ limit = omega (arith, is, high, low) in
        same
    go false more =
        let over : limit ≤ machine.steps = grind (arith, nat_tests) in
        let within : limit ≤ steps = omega (arith, done, over) in
        let itself : steps ≤ steps = omega arith in
        let high : max limit steps ≤ steps = max-le {a = limit} {b = steps} {k = steps} within itself in
        let low : steps ≤ max limit steps = le-max_right limit steps in
        let same : most ≡ machine.steps = omega (arith, is, done, high, low) in
        same

-- ---- whole calls

-- the store was prepared before the run went on, and no more preparations were asked for
prepared_before : (before : Before) (call : Call) (side : StoreSide) (slots : ℕ) (name : Option (List ℕ)) → Prepares side slots name true
    → side.asked ≡ before.prepared → side.asked_after ≡ call.store.asked → call.store.asked_after ≡ call.store.asked
    → Prepares (begun_at call.host.files before call).store slots name true
prepared_before before call side slots name prepared first last stays =
    let entry : StoreAsked = record { slots = slots; name = name; prepared = true } in
    let A : Option (List StoreAsked) → Type 0 = λ asked. Grows asked side.asked_after (entry ∷ []) in
    let B : Option (List StoreAsked) → Type 0 = λ asked. Grows before.prepared asked (entry ∷ []) in
    subst B (last ∙ sym stays) (subst A first prepared)

resumed_earlier : (resume : Resume) (booted : Booted) (before : Before) (call : Call) (side : StoreSide) → Continues resume call.host.files booted side
    → side.asked ≡ before.prepared → side.asked_after ≡ call.store.asked → call.store.asked_after ≡ call.store.asked
    → IsBefore before call → Asked before.files_asked call.host.asked First resume.state true → IsTold call.host.image_left []
    → EndsBooted (traced resume booted.machine) booted call → EndsResume resume (begun_at call.host.files before call)
resumed_earlier resume booted before call side continues first last stays later asked read (inl unpicked) =
    inr (inr (inl (record {
      machine = booted.machine;
      state = continues.state;
      asked = asks_both (traced resume booted.machine) before call false asked unpicked.asked;
      ended = unpicked.ended;
      cause = rose_after before.host_faults call.host.faults call.host.faults_after later.host unpicked.cause;
      prepared = prepared_before before call side resume.slots None continues.prepared first last stays;
      unwritten = unpicked.unwritten;
    })))
resumed_earlier resume booted before call side continues first last stays later asked read (inr picked) =
    let R : Room → Type 0 = λ room. HasCause (traced resume booted.machine) room booted.machine call call.status in
    let T : Booted → Type 0 = λ b. Tells (traced resume booted.machine) b (begun_at call.host.files before call) call.status in
    inr (inr (inr (record {
      machine = booted.machine;
      state = continues.state;
      asked = asks_both (traced resume booted.machine) before call true asked picked.asked;
      prepared = prepared_before before call side resume.slots None continues.prepared first last stays;
      cause = cause_earlier (traced resume booted.machine) (room_from booted.machine resume.slots) booted.machine before call call.status later
          (subst R continues.room picked.cause);
      content = subst T (booted_is booted (room_from booted.machine resume.slots) resume.slots continues.room continues.slots)
          (tells_earlier (traced resume booted.machine) booted before call call.status picked.content);
      state_read = λ done. read;
      events_read = picked.events_read;
    })))

pub ends_resumed : (resume : Resume) (booted : Booted) (files : Told) (before : Before) (call : Call) (side : StoreSide)
    → call.host.files ≡ files → Continues resume files booted side
    → side.asked ≡ before.prepared → side.asked_after ≡ call.store.asked → call.store.asked_after ≡ call.store.asked
    → IsBefore before call → Asked before.files_asked call.host.asked First resume.state true → IsTold call.host.image_left []
    → EndsBooted (traced resume booted.machine) booted call → EndsResume resume (begun_at files before call)
ends_resumed resume booted files before call side same continues first last stays later asked read ended =
    let S : Told → Type 0 = λ f. Continues resume f booted side in
    let P : Told → Type 0 = λ f. EndsResume resume (begun_at f before call) in
    subst P same (resumed_earlier resume booted before call side (subst S (sym same) continues) first last stays later asked read ended)

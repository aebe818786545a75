-- What a process sees of a sound memory, by the entries of its places.
use Rattle.xk_ports.specs.declared.store.SwapStore.{Ghosts as SwapStore}
use Rattle.std.proofs.Common.{◌≡◌, ℕ, ◌+◌, ◌*◌, ◌/◌, ◌%◌, ◌<◌, if◌then◌else◌, Bool, true, false, not, Option, Some, None, refl, sym, ap, ◌∙◌, arith}
use Rattle.std.specs.Prelude.{slice_index}
use Rattle.std.specs.Option.{option_and_then, option_map_or}
use Rattle.std.proofs.lemmas.Bool.{false≢true}
use Rattle.xk_base.specs.UserMemory.{Memory as SeenMemory, number_at, size_of}
use Rattle.xk_base.specs.declared.ids.Frame.{Frame as FrameNumber}
use Rattle.xk_base.specs.declared.ids.Pid.{Pid}
use Rattle.xk_base.specs.declared.pages.Access.{Access}
use Rattle.xk_base.specs.declared.pages.Access.TheVariants.{Fetch, Load, Store}
use Rattle.xk_base.specs.declared.pages.Width.{Width}
use Rattle.xk_base.specs.declared.pages.Width.TheVariants.{Byte, Half, Word}
use Rattle.phys_pages.specs.declared.infos.Seat.{Seat}
use Rattle.phys_pages.specs.declared.infos.Seat.TheVariants.{Frame, Slot}
use Rattle.phys_pages.specs.Ram.{pages}
use Rattle.ledger_model.specs.Ledger.{Contents, Console, Bytes, contents_of, has_bytes, byte_of}
use Rattle.ledger_model.specs.Reach.{owner_may}
use Rattle.sv32_space.specs.declared.sides.Side.{Side}
use Rattle.sv32_space.specs.declared.sides.Side.TheVariants.{Own, LentOut, LentIn, MutOut, MutIn}
use Rattle.sv32_space.specs.declared.sides.Entry.{Entry}
use Rattle.sv32_space.specs.declared.sides.Entry.TheVariants.{Free, At, OnConsole}
use Rattle.sv32_space.specs.Entries.{Entries}
use Rattle.sv32_space.specs.EntryLedger.{SeatBytes}
use Rattle.sv32_space.specs.EntryReach.{entry_may, side_may}
use Rattle.sv32_space.specs.SpelledEntries.{entries}
use Rattle.sv32_space.specs.Tie.{Held, bytes_at}
use Rattle.vm_memory.specs.declared.memory.Memory.{Memory}
use Rattle.page_views.specs.declared.targets.Target.{Target}
use Rattle.page_views.specs.declared.targets.Target.TheVariants.{Page, Nothing, Console as OnDevice}
use Rattle.page_views.specs.EntryAccess.{entry_target, is_given_target}
use Rattle.xk_base.specs.Numbers.Windows.{page_of}
use Rattle.vm_memory.specs.Memory.{processes, ledger}
use Rattle.vm_memory.specs.Sound.{IsSound}
use Rattle.vm_memory.specs.Using.UserView.{contents_seen, seen_memory}
use Rattle.vm_memory.proofs.Using.WalkReachLemmas.{reach_some}
use Rattle.vm_memory.proofs.Using.ReachedLemmas.{reach_by, reach_nowhere, seat_contents, console_contents}

-- a page that may be fetched from or stored to may be loaded
pub load_too : (side : Side) (access : Access) → side_may side access ≡ true → side_may side Load ≡ true
load_too (Own right) access h = refl
load_too (LentOut right) access h = refl
load_too LentIn access h = refl
load_too (MutOut x) Fetch h = absurd (false≢true h)
load_too (MutOut x) Load h = absurd (false≢true h)
load_too (MutOut x) Store h = absurd (false≢true h)
load_too MutIn access h = refl

-- ---- what a target tells of the entry

pub record IsPageTarget (o : Option Entry) (access : Access) (f : FrameNumber) : Type 0 where
  pub side : Side
  pub entry : o ≡ Some (At side (Frame f))
  pub given : side_may side access ≡ true

pub record IsDeviceTarget (o : Option Entry) (access : Access) : Type 0 where
  pub w : Bool
  pub entry : o ≡ Some (OnConsole w)
  pub given : owner_may (record { w = w; x = false }) access ≡ true

abbrev page_of_target : Target → FrameNumber → FrameNumber
page_of_target (Page f) other = f
page_of_target OnDevice other = other
page_of_target Nothing other = other

pub page_target : (o : Option Entry) (access : Access) (f : FrameNumber) → entry_target o access ≡ Page f → IsPageTarget o access f
page_target None access f h = absurd cc
page_target (Some Free) access f h = absurd cc
page_target (Some (At side (Slot s))) access f h = absurd cc
page_target (Some (OnConsole w)) access f h = by_given (owner_may (record { w = w; x = false }) access) h
  where
    by_given : (b : Bool) → (if b then OnDevice else Nothing) ≡ Page f → IsPageTarget (Some (OnConsole w)) access f
    by_given true h = absurd cc
    by_given false h = absurd cc
page_target (Some (At side (Frame g))) access f h = by_given (side_may side access) refl h
  where
    by_given : (b : Bool) → side_may side access ≡ b → (if b then Page g else Nothing) ≡ Page f → IsPageTarget (Some (At side (Frame g))) access f
    by_given true given h = record { side = side; entry = ap (λ t. Some (At side (Frame (page_of_target t g)))) h; given = given }
    by_given false given h = absurd cc

pub device_target : (o : Option Entry) (access : Access) → entry_target o access ≡ OnDevice → IsDeviceTarget o access
device_target None access h = absurd cc
device_target (Some Free) access h = absurd cc
device_target (Some (At side (Slot s))) access h = absurd cc
device_target (Some (At side (Frame g))) access h = by_given (side_may side access) h
  where
    by_given : (b : Bool) → (if b then Page g else Nothing) ≡ OnDevice → IsDeviceTarget (Some (At side (Frame g))) access
    by_given true h = absurd cc
    by_given false h = absurd cc
device_target (Some (OnConsole w)) access h = by_given (owner_may (record { w = w; x = false }) access) refl h
  where
    by_given : (b : Bool) → owner_may (record { w = w; x = false }) access ≡ b → (if b then OnDevice else Nothing) ≡ OnDevice → IsDeviceTarget (Some (OnConsole w)) access
    by_given true given h = record { w = w; entry = refl; given = given }
    by_given false given h = absurd cc

-- ---- what the process sees

-- the byte at an offset of the page of an entry, where it may be loaded
abbrev pub entry_byte : SeatBytes → Option Entry → ℕ → ℕ
entry_byte B None offset = 0
entry_byte B (Some Free) offset = 0
entry_byte B (Some (At side s)) offset = if side_may side Load then slice_index (B s) offset else 0
entry_byte B (Some (OnConsole w)) offset = 0

abbrev pub is_device : Option Entry → Bool
is_device None = false
is_device (Some Free) = false
is_device (Some (At side s)) = false
is_device (Some (OnConsole w)) = true

module _ {W : Type 0} (S : SwapStore W) (m : Memory W) (sound : IsSound S.slot_count m) (pid : Pid) where
  abbrev E : Entries
  E = entries (processes m) m.ram

  abbrev B : SeatBytes
  B = bytes_at m.ram (S.held m.store)

  abbrev V : SeenMemory
  V = seen_memory (processes m) (ledger S.held m) pid

  pub may_by : (a : ℕ) (access : Access) → V.may access a ≡ entry_may (E (page_of pid a)) access
  unfolding seen_memory
  may_by a access = reach_some S m sound (page_of pid a) access

  seat_seen : (a : ℕ) (side : Side) (s : Seat) → E (page_of pid a) ≡ Some (At side s) → side_may side Load ≡ true
      → contents_seen (processes m) (ledger S.held m) pid a ≡ Some (Bytes (B s))
  seat_seen a side s e given = seat_contents S m sound (page_of pid a) side s Load e ∙ ap (λ b. if b then Some (Bytes (B s)) else None) given

  console_seen : (a : ℕ) (w : Bool) → E (page_of pid a) ≡ Some (OnConsole w) → contents_seen (processes m) (ledger S.held m) pid a ≡ Some Console
  console_seen a w e = console_contents S m sound (page_of pid a) w Load e

  pub byte_seat : (a : ℕ) (side : Side) (s : Seat) → E (page_of pid a) ≡ Some (At side s) → side_may side Load ≡ true → V.byte a ≡ slice_index (B s) (a % 4096)
  unfolding seen_memory
  byte_seat a side s e given = ap (λ c. option_map_or (byte_of (a % 4096)) c 0) (seat_seen a side s e given)

  byte_console : (a : ℕ) (w : Bool) → E (page_of pid a) ≡ Some (OnConsole w) → V.byte a ≡ 0
  unfolding seen_memory
  byte_console a w e = ap (λ c. option_map_or (byte_of (a % 4096)) c 0) (console_seen a w e)

  pub seat_no_console : (a : ℕ) (side : Side) (s : Seat) → E (page_of pid a) ≡ Some (At side s) → side_may side Load ≡ true → V.console a ≡ false
  unfolding seen_memory
  seat_no_console a side s e given = ap (λ c. option_map_or (λ (x : Contents). not (has_bytes x)) c false) (seat_seen a side s e given)

  pub is_console : (a : ℕ) (w : Bool) → E (page_of pid a) ≡ Some (OnConsole w) → V.console a ≡ true
  unfolding seen_memory
  is_console a w e = ap (λ c. option_map_or (λ (x : Contents). not (has_bytes x)) c false) (console_seen a w e)

  byte_entry : (a : ℕ) (o : Option Entry) → E (page_of pid a) ≡ o → V.byte a ≡ entry_byte B o (a % 4096)
  unfolding seen_memory
  byte_entry a None e = ap (λ r. option_map_or (byte_of (a % 4096)) (option_and_then (contents_of (ledger S.held m)) r) 0) (reach_nowhere S m sound (page_of pid a) Load e)
  byte_entry a (Some Free) e = ap (λ r. option_map_or (byte_of (a % 4096)) (option_and_then (contents_of (ledger S.held m)) r) 0) (reach_by S m sound (page_of pid a) Free Load e)
  byte_entry a (Some (At side s)) e = ap (λ c. option_map_or (byte_of (a % 4096)) c 0) (seat_contents S m sound (page_of pid a) side s Load e) ∙ by_given (side_may side Load)
    where
      by_given : (b : Bool) → option_map_or (byte_of (a % 4096)) (if b then Some (Bytes (B s)) else None) 0 ≡ (if b then slice_index (B s) (a % 4096) else 0)
      by_given true = refl
      by_given false = refl
  byte_entry a (Some (OnConsole w)) e = ap (λ c. option_map_or (byte_of (a % 4096)) c 0) (console_seen a w e)

  pub byte_by : (a : ℕ) → V.byte a ≡ entry_byte B (E (page_of pid a)) (a % 4096)
  byte_by a = byte_entry a (E (page_of pid a)) refl

  console_entry : (a : ℕ) (o : Option Entry) → E (page_of pid a) ≡ o → V.console a ≡ is_device o
  unfolding seen_memory
  console_entry a None e = ap (λ r. option_map_or (λ (x : Contents). not (has_bytes x)) (option_and_then (contents_of (ledger S.held m)) r) false) (reach_nowhere S m sound (page_of pid a) Load e)
  console_entry a (Some Free) e = ap (λ r. option_map_or (λ (x : Contents). not (has_bytes x)) (option_and_then (contents_of (ledger S.held m)) r) false) (reach_by S m sound (page_of pid a) Free Load e)
  console_entry a (Some (At side s)) e = ap (λ c. option_map_or (λ (x : Contents). not (has_bytes x)) c false) (seat_contents S m sound (page_of pid a) side s Load e) ∙ by_given (side_may side Load)
    where
      by_given : (b : Bool) → option_map_or (λ (x : Contents). not (has_bytes x)) (if b then Some (Bytes (B s)) else None) false ≡ false
      by_given true = refl
      by_given false = refl
  console_entry a (Some (OnConsole w)) e = ap (λ c. option_map_or (λ (x : Contents). not (has_bytes x)) c false) (console_seen a w e)

  pub console_by : (a : ℕ) → V.console a ≡ is_device (E (page_of pid a))
  console_by a = console_entry a (E (page_of pid a)) refl

  -- ---- numbers

  same_page : (a b : ℕ) → b / 4096 ≡ a / 4096 → E (page_of pid b) ≡ E (page_of pid a)
  same_page a b e = ap (λ v. E (record { pid = pid; vpn = record { 0 = v } })) e

  module _ (va : ℕ) (side : Side) (s : Seat) (e : E (page_of pid va) ≡ Some (At side s)) (given : side_may side Load ≡ true) where
    in_page : (i : ℕ) → va % 4096 + i < 4096 → V.byte (va + i) ≡ slice_index (B s) (va % 4096 + i)
    in_page i low =
        let page : (va + i) / 4096 ≡ va / 4096 = omega arith in
        let offset : (va + i) % 4096 ≡ va % 4096 + i = omega arith in
        byte_seat (va + i) side s (same_page va (va + i) page ∙ e) given ∙ ap (slice_index (B s)) offset

    first : V.byte va ≡ slice_index (B s) (va % 4096)
    first = byte_seat va side s e given

    seat_number : (width : Width) → va % size_of width ≡ 0 → number_at (λ i. slice_index (B s) i) (va % 4096) width ≡ number_at V.byte va width
    seat_number Byte aligned = sym first
    seat_number Half aligned =
        let second : V.byte (va + 1) ≡ slice_index (B s) (va % 4096 + 1) = in_page 1 (omega arith) in
        ap (λ n. n + 256 * slice_index (B s) (va % 4096 + 1)) (sym first) ∙ ap (λ n. V.byte va + 256 * n) (sym second)
    seat_number Word aligned =
        let second : V.byte (va + 1) ≡ slice_index (B s) (va % 4096 + 1) = in_page 1 (omega arith) in
        let third : V.byte (va + 2) ≡ slice_index (B s) (va % 4096 + 2) = in_page 2 (omega arith) in
        let fourth : V.byte (va + 3) ≡ slice_index (B s) (va % 4096 + 3) = in_page 3 (omega arith) in
        ap (λ n. n + 256 * slice_index (B s) (va % 4096 + 1) + 65536 * slice_index (B s) (va % 4096 + 2) + 16777216 * slice_index (B s) (va % 4096 + 3)) (sym first)
        ∙ ap (λ n. V.byte va + 256 * n + 65536 * slice_index (B s) (va % 4096 + 2) + 16777216 * slice_index (B s) (va % 4096 + 3)) (sym second)
        ∙ ap (λ n. V.byte va + 256 * V.byte (va + 1) + 65536 * n + 16777216 * slice_index (B s) (va % 4096 + 3)) (sym third)
        ∙ ap (λ n. V.byte va + 256 * V.byte (va + 1) + 65536 * V.byte (va + 2) + 16777216 * n) (sym fourth)

  console_at : (va : ℕ) (w : Bool) → E (page_of pid va) ≡ Some (OnConsole w) → (i : ℕ) → va % 4096 + i < 4096 → V.byte (va + i) ≡ 0
  console_at va w e i low =
      let page : (va + i) / 4096 ≡ va / 4096 = omega arith in
      byte_console (va + i) w (same_page va (va + i) page ∙ e)

  console_number : (va : ℕ) (w : Bool) → E (page_of pid va) ≡ Some (OnConsole w) → (width : Width) → va % size_of width ≡ 0 → 0 ≡ number_at V.byte va width
  console_number va w e Byte aligned = sym (byte_console va w e)
  console_number va w e Half aligned =
      let a : V.byte va ≡ 0 = byte_console va w e in
      let b : V.byte (va + 1) ≡ 0 = console_at va w e 1 (omega arith) in omega arith
  console_number va w e Word aligned =
      let a : V.byte va ≡ 0 = byte_console va w e in
      let b : V.byte (va + 1) ≡ 0 = console_at va w e 1 (omega arith) in
      let c : V.byte (va + 2) ≡ 0 = console_at va w e 2 (omega arith) in
      let d : V.byte (va + 3) ≡ 0 = console_at va w e 3 (omega arith) in omega arith

  -- ---- by the target of an access

  module _ (va : ℕ) (access : Access) where
    pub page_gives : (f : FrameNumber) (width : Width) → va % size_of width ≡ 0 → entry_target (E (page_of pid va)) access ≡ Page f
        → (V.may access va ≡ true) × (number_at (λ i. slice_index (pages m.ram f.0) i) (va % 4096) width ≡ number_at V.byte va width)
    page_gives f width aligned h =
        let t : IsPageTarget (E (page_of pid va)) access f = page_target (E (page_of pid va)) access f h in (
          may_by va access ∙ ap (λ o. entry_may o access) t.entry ∙ t.given,
          seat_number va t.side (Frame f) t.entry (load_too t.side access t.given) width aligned,
        )

    pub console_gives : (width : Width) → va % size_of width ≡ 0 → entry_target (E (page_of pid va)) access ≡ OnDevice
        → (V.may access va ≡ true) × (0 ≡ number_at V.byte va width)
    console_gives width aligned h =
        let t : IsDeviceTarget (E (page_of pid va)) access = device_target (E (page_of pid va)) access h in (
          may_by va access ∙ ap (λ o. entry_may o access) t.entry ∙ t.given,
          console_number va t.w t.entry width aligned,
        )

    -- where no page that the access reaches is out, the process has it nowhere else
    pub nothing_given : is_given_target (entry_target (E (page_of pid va)) access) ≡ entry_may (E (page_of pid va)) access
        → entry_target (E (page_of pid va)) access ≡ Nothing → V.may access va ≡ false
    nothing_given ready h = may_by va access ∙ (sym ready ∙ ap is_given_target h)

-- Where the walk leads, by the entry of the place.
use Rattle.xk_base.specs.Tables.Circle.{is_pid}
use Rattle.std.proofs.Common.{◌≡◌, ℕ, ◌+◌, ◌-◌, ◌*◌, ◌/◌, ◌%◌, ◌^◌, ◌<◌, ◌≤◌, if◌then◌else◌, Bool, true, false, ◌&&◌, nat_le, nat_lt, Option, Some, None, refl, sym, ap, ◌∙◌, inl, inr, arith}
use Rattle.std.specs.Prelude.{is_some}
use Rattle.std.proofs.lemmas.Bool.{true≢false}
use Rattle.std.proofs.lemmas.Bool.Decides.{nat_tests}
use Rattle.xk_base.specs.declared.ids.Frame.{Frame as FrameNumber}
use Rattle.xk_base.specs.declared.ids.Pid.{Pid}
use Rattle.xk_base.specs.declared.ids.Place.{Place}
use Rattle.xk_base.specs.declared.pages.Access.{Access}
use Rattle.xk_base.specs.declared.windows.Window.{Window}
use Rattle.xk_base.specs.Numbers.Windows.{window_at, page_of}
use Rattle.phys_pages.specs.declared.infos.Seat.TheVariants.{Frame, Slot}
use Rattle.phys_pages.specs.Owners.{extent, infos}
use Rattle.phys_pages.specs.Ram.{Area, IsPlaced, area, ppn_of, frame_of}
use Rattle.phys_pages.proofs.AreaLemmas.{frame_of-ppn_of}
use Rattle.phys_pages.proofs.OwnerLemmas.{infos-within}
use Rattle.ledger_model.specs.Places.{is_user_place}
use Rattle.ledger_model.specs.Reach.{owner_may}
use Rattle.ledger_model.proofs.LedgerLemmas.{cases_Option}
use Rattle.sv32_space.specs.declared.sides.Side.{Side}
use Rattle.sv32_space.specs.declared.walking.Walked.{Walked}
use Rattle.sv32_space.specs.declared.walking.Walked.TheVariants.{Reaches, PageFault}
use Rattle.sv32_space.specs.declared.sides.Entry.{Entry}
use Rattle.sv32_space.specs.declared.sides.Entry.TheVariants.{Free, At, OnConsole}
use Rattle.sv32_space.specs.EntryReach.{side_may, reaches_if, entry_reach}
use Rattle.sv32_space.specs.Spaces.{root_at, IsMade}
use Rattle.sv32_space.specs.SpelledEntries.{console_ppn, entries}
use Rattle.sv32_space.specs.Walk.{walk_of}
use Rattle.sv32_space.proofs.Ledgers.EntryLedgerLemmas.{names_free}
use Rattle.sv32_space.proofs.ReachLemmas.{walk_by_entry, walk_outside}
use Rattle.vm_memory.specs.declared.memory.Memory.{Memory}
use Rattle.page_views.specs.declared.targets.Target.{Target}
use Rattle.page_views.specs.declared.targets.Target.TheVariants.{Page, Console, Nothing}
use Rattle.page_views.specs.EntryAccess.{entry_target}
use Rattle.vm_memory.specs.Memory.{processes}
use Rattle.vm_memory.specs.Sound.{IsSound}

-- the frame that an entry names
pub record IsPageFrame (procs frames f : ℕ) : Type 0 where
  pub no_table : 21 * procs ≤ f
  pub inside : f < frames

-- .. is one of RAM, and of no table
pub page_frame : {W : Type 0} (slot_count : W → ℕ) (m : Memory W) → IsSound slot_count m → (p : Place) (side : Side) (f : FrameNumber)
    → entries (processes m) m.ram p ≡ Some (At side (Frame f)) → IsPageFrame (processes m) (area m.ram).frames f.0
page_frame slot_count m sound p side f e = elim (cases_Option (infos m.owners (Frame f))) [
  | inl none ↦ absurd (names_free (processes m) (entries (processes m) m.ram) (infos m.owners) sound.agree.entries p side (Frame f) e none)
  | inr some ↦
      let seat : ((extent m.owners).first ≤ f.0) × (f.0 < (extent m.owners).first + (extent m.owners).frames) = infos-within m.owners (Frame f) some.0 some.1 in
      record { no_table = omega (arith, seat.0, sound.agree.first); inside = omega (arith, seat.1, sound.agree.last) }
]

-- ---- the walk

abbrev pub frame_target : Option FrameNumber → Target
frame_target None = Console
frame_target (Some f) = Page f

-- what a walk's end is
abbrev pub walk_target : Area → Walked → Target
walk_target a PageFault = Nothing
walk_target a (Reaches pa) = frame_target (frame_of a (pa / 4096))

page_number : (ppn offset : ℕ) → offset < 4096 → (ppn * 4096 + offset) / 4096 ≡ ppn
page_number ppn offset low = omega arith

-- where the access is given, a frame of RAM
in_frame : (a : Area) (given : Bool) (f : FrameNumber) (offset : ℕ) → f.0 < a.frames → offset < 4096
    → walk_target a (reaches_if given (ppn_of a f.0) offset) ≡ (if given then Page f else Nothing)
in_frame a true f offset inside low =
    ap (λ n. frame_target (frame_of a n)) (page_number (ppn_of a f.0) offset low) ∙ ap frame_target (frame_of-ppn_of a f inside)
in_frame a false f offset inside low = refl

no_frame_there : (a : Area) → IsPlaced a → frame_of a console_ppn ≡ None
no_frame_there a placed =
    let beyond : (nat_le (a.start / 4096) console_ppn && nat_lt (console_ppn - a.start / 4096) a.frames) ≡ false = grind (arith, nat_tests, placed.aligned, placed.below_device) in
    rw beyond refl

on_console : (a : Area) (given : Bool) (offset : ℕ) → IsPlaced a → offset < 4096
    → walk_target a (reaches_if given console_ppn offset) ≡ (if given then Console else Nothing)
on_console a true offset placed low = ap (λ n. frame_target (frame_of a n)) (page_number console_ppn offset low) ∙ ap frame_target (no_frame_there a placed)
on_console a false offset placed low = refl

user_page : (procs : ℕ) (p : Place) → is_pid procs p.pid.0 ≡ true → false ≡ is_user_place procs p → window_at p.vpn.0 ≡ None
user_page procs p process outside = by_window (window_at p.vpn.0) refl
  where
    by_window : (o : Option Window) → window_at p.vpn.0 ≡ o → window_at p.vpn.0 ≡ None
    by_window None e = e
    by_window (Some w) e = absurd (true≢false (sym (outside ∙ (ap (λ b. b && is_some (window_at p.vpn.0)) process ∙ ap is_some e))))

module _ {W : Type 0} (slot_count : W → ℕ) (m : Memory W) (sound : IsSound slot_count m) (pid : Pid) (va : ℕ) (access : Access)
    (fits : va < 2 ^ 32) (process : is_pid (processes m) pid.0 ≡ true) where
  by_entry : (o : Option Entry) → entries (processes m) m.ram (page_of pid va) ≡ o
      → walk_target (area m.ram) (walk_of m.ram (root_at pid.0) va access) ≡ entry_target o access
  by_entry None e =
      let made : IsMade m.ram pid.0 = sound.agree.made pid.0 process in
      ap (walk_target (area m.ram)) (walk_outside m.ram (root_at pid.0) va access sound.placed fits made.space
      (user_page (processes m) (page_of pid va) process (sym (ap is_some e) ∙ sound.agree.entries.spelled (page_of pid va))))
  by_entry (Some entry) e =
      ap (walk_target (area m.ram)) (walk_by_entry (processes m) m.ram (page_of pid va) entry va access sound.placed fits (sound.agree.made pid.0 process) refl e)
      ∙ leads entry e
    where
      leads : (entry : Entry) → entries (processes m) m.ram (page_of pid va) ≡ Some entry
          → walk_target (area m.ram) (entry_reach (area m.ram) entry (va % 4096) access) ≡ entry_target (Some entry) access
      leads Free h = refl
      leads (At side (Frame f)) h =
          let frame : IsPageFrame (processes m) (area m.ram).frames f.0 = page_frame slot_count m sound (page_of pid va) side f h in
          in_frame (area m.ram) (side_may side access) f (va % 4096) frame.inside (omega arith)
      leads (At side (Slot s)) h = refl
      leads (OnConsole w) h = on_console (area m.ram) (owner_may (record { w = w; x = false }) access) (va % 4096) sound.placed (omega arith)

  -- THE WALK leads where the entry of the page does
  pub walk_leads : walk_target (area m.ram) (walk_of m.ram (root_at pid.0) va access) ≡ entry_target (entries (processes m) m.ram (page_of pid va)) access
  walk_leads = by_entry (entries (processes m) m.ram (page_of pid va)) refl

  pub walk-fault : walk_of m.ram (root_at pid.0) va access ≡ PageFault
      → Nothing ≡ entry_target (entries (processes m) m.ram (page_of pid va)) access
  walk-fault e = sym (ap (walk_target (area m.ram)) e) ∙ walk_leads

  pub walk-page : (pa : ℕ) (f : FrameNumber) → walk_of m.ram (root_at pid.0) va access ≡ Reaches pa → frame_of (area m.ram) (pa / 4096) ≡ Some f
      → Page f ≡ entry_target (entries (processes m) m.ram (page_of pid va)) access
  walk-page pa f e there = sym (ap (walk_target (area m.ram)) e ∙ ap frame_target there) ∙ walk_leads

  pub walk-console : (pa : ℕ) → walk_of m.ram (root_at pid.0) va access ≡ Reaches pa → frame_of (area m.ram) (pa / 4096) ≡ None
      → Console ≡ entry_target (entries (processes m) m.ram (page_of pid va)) access
  walk-console pa e there = sym (ap (walk_target (area m.ram)) e ∙ ap frame_target there) ∙ walk_leads

  -- ---- the physical page number fits 32 bits

  reached : Walked → ℕ
  reached PageFault = 0
  reached (Reaches pa) = pa

  bound_if : (given : Bool) (ppn offset pa : ℕ) → offset < 4096 → ppn < 2 ^ 32 → reaches_if given ppn offset ≡ Reaches pa → pa / 4096 < 2 ^ 32
  unfolding reached
  bound_if true ppn offset pa low small e = let n : ppn * 4096 + offset ≡ pa = ap reached e in omega arith
  bound_if false ppn offset pa low small e = absurd cc

  bound_by : (o : Option Entry) → entries (processes m) m.ram (page_of pid va) ≡ o → (pa : ℕ)
      → walk_of m.ram (root_at pid.0) va access ≡ Reaches pa → pa / 4096 < 2 ^ 32
  bound_by None e pa r =
      let made : IsMade m.ram pid.0 = sound.agree.made pid.0 process in
      let fault : walk_of m.ram (root_at pid.0) va access ≡ PageFault = walk_outside m.ram (root_at pid.0) va access sound.placed fits made.space
      (user_page (processes m) (page_of pid va) process (sym (ap is_some e) ∙ sound.agree.entries.spelled (page_of pid va))) in
      absurd cc
  bound_by (Some entry) e pa r = at_entry entry e
      (sym (walk_by_entry (processes m) m.ram (page_of pid va) entry va access sound.placed fits (sound.agree.made pid.0 process) refl e) ∙ r)
    where
      at_entry : (entry : Entry) → entries (processes m) m.ram (page_of pid va) ≡ Some entry
          → entry_reach (area m.ram) entry (va % 4096) access ≡ Reaches pa → pa / 4096 < 2 ^ 32
      at_entry Free h r = absurd cc
      at_entry (At side (Frame f)) h r =
          let frame : IsPageFrame (processes m) (area m.ram).frames f.0 = page_frame slot_count m sound (page_of pid va) side f h in
          bound_if (side_may side access) (ppn_of (area m.ram) f.0) (va % 4096) pa (omega arith) (omega (arith, frame.inside, sound.placed.few, sound.placed.below_device)) r
      at_entry (At side (Slot s)) h r = absurd cc
      at_entry (OnConsole w) h r = bound_if (owner_may (record { w = w; x = false }) access) console_ppn (va % 4096) pa (omega arith) (omega arith) r

  pub walk-bound : (pa : ℕ) → walk_of m.ram (root_at pid.0) va access ≡ Reaches pa → pa / 4096 < 2 ^ 32
  walk-bound = bound_by (entries (processes m) m.ram (page_of pid va)) refl

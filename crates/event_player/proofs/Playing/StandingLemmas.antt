-- Where a run stands, from one call of the kernel to the next.
use Rattle.xk_ports.specs.declared.store.SwapStore.{Ghosts as SwapStore}
use Rattle.std.proofs.Common.{◌≡◌, ◌==◌, ◌&&◌, ◌||◌, ◌∙◌, ℕ, Bool, true, false, IsTrue, is_some, refl, ap, arith}
use Rattle.std.proofs.lemmas.Bool.Decides.{nat_tests}
use Rattle.boot_plan.specs.Capacity.{page_frames}
use Rattle.phys_pages.specs.Owners.{infos, slot_seat}
use Rattle.vm_memory.specs.Bytes.{MeansBytes, is_known, none_out}
use Rattle.vm_memory.specs.Memory.{Size, size}
use Rattle.vm_memory.specs.declared.memory.Memory.{Memory}
use Rattle.xk_base.specs.Tables.Counting.{count_below}
use Rattle.xk_kernel.specs.Knowing.{KnowsBytes, is_trusted}
use Rattle.xk_kernel.specs.Sound.{Keeps}
use Rattle.xk_kernel.specs.declared.kernel.Kernel.{Kernel}
use Rattle.event_player.specs.Standing.{room_in}

-- ---- what stays

pub room_stays : {W : Type 0} {S : SwapStore W} {old new : Kernel W}
    → Keeps S old new → room_in new ≡ room_in old
room_stays keeps = ap (λ (s : Size). record { frames = page_frames s.area.frames s.procs; processes = s.procs }) keeps.size

pub trust_stays : {W : Type 0} {S : SwapStore W} {old new : Kernel W}
    → Keeps S old new → is_trusted S new ≡ is_trusted S old
trust_stays {S = S} {old = old} {new = new} keeps =
    ap (λ (b : Bool). (b && is_some (S.held new.mem.store)) || ((size new.mem).slots == 0)) keeps.store.honest
    ∙ (ap (λ (b : Bool). (S.is_honest old.mem.store && b) || ((size new.mem).slots == 0)) keeps.store.told
    ∙ ap (λ (s : Size). is_known S old.mem || (s.slots == 0)) keeps.size)

-- ---- when bytes are known

-- without slots no page is out
pub no_slots_none_out : {W : Type 0} (m : Memory W) → (size m).slots ≡ 0 → none_out m ≡ true
unfolding none_out count_below
no_slots_none_out m none = ap (λ (k : ℕ). count_below k (λ s. is_some (infos m.owners (slot_seat s))) == 0) none

or_left : (a b : Bool) → a ≡ true → IsTrue (a || b)
or_left a b is = rw is refl

or_right : (a b : Bool) → b ≡ true → IsTrue (a || b)
or_right true b is = refl
or_right false b is = is

trusted_by : (a b : Bool) (P : Type 0) → (a || b) ≡ true → (a ≡ true → P) → (b ≡ true → P) → P
trusted_by true b P is left right = left refl
trusted_by false b P is left right = right is

pub no_slots_trusted : {W : Type 0} (S : SwapStore W) (k : Kernel W) → (size k.mem).slots ≡ 0 → is_trusted S k ≡ true
no_slots_trusted S k none =
    let test : ((size k.mem).slots == 0) ≡ true = grind (arith, nat_tests) in or_right (is_known S k.mem) ((size k.mem).slots == 0) test

pub slots_stay : {W : Type 0} {S : SwapStore W} {old new : Kernel W}
    → Keeps S old new → (size old.mem).slots ≡ 0 → (size new.mem).slots ≡ 0
slots_stay keeps none = ap (λ (s : Size). s.slots) keeps.size ∙ none

-- over a call of a trusted kernel
pub trusted_knows : {W : Type 0} {S : SwapStore W} {old new : Kernel W}
    → Keeps S old new → is_trusted S old ≡ true → KnowsBytes S old new
trusted_knows {S = S} {old = old} {new = new} keeps trusted =
    trusted_by (is_known S old.mem) ((size old.mem).slots == 0) (KnowsBytes S old new) trusted
    (λ known. or_left (is_known S old.mem) (none_out old.mem && none_out new.mem) known)
    (λ test.
    let none : (size old.mem).slots ≡ 0 = grind (arith, nat_tests) in
    let before = no_slots_none_out old.mem none in
    let after = no_slots_none_out new.mem (ap (λ (s : Size). s.slots) keeps.size ∙ none) in
    or_right (is_known S old.mem) (none_out old.mem && none_out new.mem) (rw (before, after) refl))

-- of a trusted kernel
pub trusted_means : {W : Type 0} (S : SwapStore W) (k : Kernel W) → is_trusted S k ≡ true → MeansBytes S k.mem
trusted_means S k trusted =
    trusted_by (is_known S k.mem) ((size k.mem).slots == 0) (MeansBytes S k.mem) trusted
    (λ known. or_left (is_known S k.mem) (none_out k.mem) known)
    (λ test.
    let none : (size k.mem).slots ≡ 0 = grind (arith, nat_tests) in
    or_right (is_known S k.mem) (none_out k.mem) (no_slots_none_out k.mem none))

-- over a call before and after which no page is out
pub near_knows : {W : Type 0} (S : SwapStore W) (old new : Kernel W) → none_out old.mem ≡ true → none_out new.mem ≡ true → KnowsBytes S old new
near_knows S old new before after =
    or_right (is_known S old.mem) (none_out old.mem && none_out new.mem) (rw (before, after) refl)

pub near_means : {W : Type 0} (S : SwapStore W) (k : Kernel W) → none_out k.mem ≡ true → MeansBytes S k.mem
near_means S k near = or_right (is_known S k.mem) (none_out k.mem) near

-- When the bytes of a kernel's pages are known, and when pages stand in frames alone.
use Rattle.xk_ports.specs.declared.store.SwapStore.{Ghosts as SwapStore}
use Rattle.std.specs.Prelude.{◌≡◌, ◌<◌, ◌==◌, ◌||◌, Bool, true, IsTrue}
use Rattle.ledger_model.specs.Ledger.{Ledger, pages}
use Rattle.vm_memory.specs.Bytes.{MeansBytesOver, is_known, none_out}
use Rattle.vm_memory.specs.Memory.{frames_for_pages, processes, size}
use Rattle.xk_kernel.specs.declared.kernel.Kernel.{Kernel}
pub use Rattle.xk_parts.specs.Comes.{ComesTo}

-- ---- bytes

-- bytes are known over a call: the store is honest and tells, or no page is out before and after
abbrev pub KnowsBytes : {W : Type 0} → SwapStore W → Kernel W → Kernel W → Type 0
KnowsBytes S old new = MeansBytesOver S old.mem new.mem

-- they are so over every call: the store is honest and tells, or the memory has no slots
abbrev pub is_trusted : {W : Type 0} → SwapStore W → Kernel W → Bool
is_trusted S k = is_known S k.mem || ((size k.mem).slots == 0)

abbrev pub IsTrusted : {W : Type 0} → SwapStore W → Kernel W → Type 0
IsTrusted S k = IsTrue (is_trusted S k)

-- ---- frames

-- where no page is out before, none is out after
abbrev pub PutsNoneOut : {W : Type 0} → Kernel W → Kernel W → Type 0
PutsNoneOut old new = none_out old.mem ≡ true → none_out new.mem ≡ true

-- the ledger has more pages than the kernel has frames for pages
abbrev pub IsCrowded : {W : Type 0} → Kernel W → Ledger → Type 0
IsCrowded k ledger = frames_for_pages k.mem < pages (processes k.mem) ledger

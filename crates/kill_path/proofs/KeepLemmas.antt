-- What stays of the memory over one call and over two.
use Rattle.xk_ports.specs.declared.store.SwapStore.{Ghosts as SwapStore}
use Rattle.std.proofs.Common.{refl, ◌∙◌}
use Rattle.ledger_model.proofs.Pages.BareLemmas.{bare-lawful}
use Rattle.ledger_model.specs.Lawful.{IsLawful}
use Rattle.send_path.specs.Keeping.{KeepsMemory}
use Rattle.vm_memory.proofs.Changing.SoundMemoryLemmas.{bare-ledger}
use Rattle.vm_memory.specs.Loaning.Loans.{KeepsSeats}
use Rattle.vm_memory.specs.Memory.{blank_ledger, capacity_of, ledger, processes}
use Rattle.vm_memory.specs.Sound.{IsSound}
use Rattle.vm_memory.specs.declared.memory.Memory.{Memory}
use Rattle.kill_path.specs.Keeping.{Stays}

module _ {W : Type 0} (S : SwapStore W) where
  pub same_memory : (m : Memory W) → IsSound S.slot_count m → Stays S m m
  same_memory m sound = record {
    sound = sound;
    keeps = record { size = refl; store = refl; failed = refl; none = λ e. e; means = λ e. e };
  }

  pub after_loan : (old new : Memory W) → KeepsSeats S old new → Stays S old new
  after_loan old new k = record {
    sound = k.sound;
    keeps = record { size = k.size; store = k.store; failed = k.failed; none = k.none; means = k.means };
  }

  pub kept_both : (a b c : Memory W) → KeepsMemory S a b → KeepsMemory S b c → KeepsMemory S a c
  kept_both a b c x y = record {
    size = y.size ∙ x.size;
    store = y.store ∙ x.store;
    failed = y.failed ∙ x.failed;
    none = λ e. y.none (x.none e);
    means = λ e. y.means (x.means e);
  }

  pub after_both : (a b c : Memory W) → Stays S a b → Stays S b c → Stays S a c
  after_both a b c x y = record { sound = y.sound; keeps = kept_both a b c x.keeps y.keeps }

-- the ledger of a sound memory is lawful
pub sound_lawful : {W : Type 0} (S : SwapStore W) (m : Memory W) → IsSound S.slot_count m
    → IsLawful (processes m) (capacity_of m) (ledger S.held m)
sound_lawful S m sound = bare-lawful (processes m) (capacity_of m) (blank_ledger m) (ledger S.held m) (bare-ledger S.held m) sound.lawful

-- The machine that was saved is one that state bytes are read as again.
use Rattle.std.proofs.Common.{◌≡◌, ℕ, ◌≤◌, sym, subst}
use Rattle.xk_parts.specs.Shown.{claims_shown}
use Rattle.ledger_model.specs.Ledger.{Ledger}
use Rattle.ledger_model.specs.WholePages.{HasWholePages}
use Rattle.machine_model.specs.State.Machine.{Machine}
use Rattle.xk_parts.specs.Shown.{servers_shown, threads_shown}
use Rattle.server_table.specs.ServersOf.{servers_of}
use Rattle.suspend_image.specs.Saveable.{IsClaimSaveable, IsSaveable}
use Rattle.sv32_space.specs.Tie.{Held}
use Rattle.vm_memory.specs.Memory.{ledger, processes}
use Rattle.xk_base.specs.Tables.Circle.{id_at, thread_ids}
use Rattle.xk_base.specs.declared.limits.TheConstants.{INTERRUPT_LIMIT}
use Rattle.machine_laws.specs.Reserved.{IsReservedByThread}
use Rattle.save_path.specs.Fitting.{AreNumbersFit, EachBelow, IsFit, IsServerFit, IsThreadFit}
use Rattle.save_path.specs.Written.{BringsPages}
use Rattle.save_path.proofs.FittingLemmas.{saveable_from}
use Rattle.save_path.proofs.FrontLemmas.{Given, given_machine}
use Rattle.save_path.proofs.SavingLemmas.{few_pages, machine_brought, on_ledger, with_memory}
use Rattle.save_path.specs.Saved.{saved_machine}
use Rattle.vm_memory.specs.Sound.{IsSound}
use Rattle.xk_base.specs.Tables.Circle.{is_thread_id}
use Rattle.machine_model.specs.Runs.Matched.{Matched}
use Rattle.std.specs.Prelude.{IsTrue}
use Rattle.vm_memory.specs.declared.memory.Memory.{Memory}
use Rattle.xk_ports.specs.declared.store.SwapStore.{Ghosts as SwapStore}

-- ---- the parts before the pages

pub front_fit : {W : Type 0} (held : W → Held) (k : Given W) (n : ℕ) → n ≡ processes k.mem → AreNumbersFit (given_machine held k)
    → EachBelow (thread_ids n) (λ j. threads_shown k.threads (id_at j)) IsThreadFit
    → EachBelow (servers_of k.servers).next (servers_shown k.servers k.queues) IsServerFit
    → EachBelow INTERRUPT_LIMIT (claims_shown k.claims) IsClaimSaveable → IsFit (given_machine held k)
unfolding saved_machine
front_fit held k n is numbers threads servers claims = record {
  numbers = numbers;
  threads = subst (λ j. EachBelow (thread_ids j) (λ i. threads_shown k.threads (id_at i)) IsThreadFit) is threads;
  servers = servers;
  claims = claims;
}

-- .. stay where pages are brought in
fit_on_ledger : (l : Ledger) (m : Machine) → IsFit m → IsFit (on_ledger l m)
fit_on_ledger l m fit = record {
  numbers = record { compare = fit.numbers.compare; reserved = fit.numbers.reserved };
  threads = fit.threads;
  servers = fit.servers;
  claims = fit.claims;
}

module _ {W : Type 0} (S : SwapStore W)
    (k : Given W) (mem : Memory W) (x : BringsPages S k.mem mem) where
  pub fit_brought : IsFit (given_machine S.held k) → IsFit (given_machine S.held (with_memory mem k))
  fit_brought fit =
      subst (λ (m : Machine). IsFit m) (sym (machine_brought S k mem x))
      (fit_on_ledger (ledger S.held mem) (given_machine S.held k) fit)

-- ---- the whole

pub saveable_of : {W : Type 0} (S : SwapStore W) (k : Given W) → IsSound S.slot_count k.mem → Matched (given_machine S.held k)
    → IsFit (given_machine S.held k) → HasWholePages (ledger S.held k.mem) → IsTrue (is_thread_id (processes k.mem) k.numbers.cursor)
    → (given_machine S.held k).steps ≤ 4000000000 → IsReservedByThread (given_machine S.held k) → IsSaveable (given_machine S.held k)
unfolding saved_machine
saveable_of S k sound matched fit whole cursor steps reserved =
    saveable_from (given_machine S.held k) fit matched whole (few_pages S k.mem sound) cursor steps reserved

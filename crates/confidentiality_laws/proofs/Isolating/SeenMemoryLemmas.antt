-- From two states that differ only in bytes that a process can't load, memory is the same as the process sees it.
use Rattle.std.proofs.Common.{◌≡◌, ℕ, Option, Some, None, refl, sym, ap, ◌∙◌}
use Rattle.std.specs.Prelude.{◌&&◌, ◌||◌, ◌%◌, false, is_some, not}
use Rattle.std.specs.Option.{option_and_then, option_map_or}
use Rattle.xk_base.specs.declared.ids.Pid.{Pid}
use Rattle.xk_base.specs.declared.pages.Access.{Access}
use Rattle.xk_base.specs.declared.pages.Access.TheVariants.{Load}
use Rattle.xk_base.specs.UserMemory.{timer_at}
use Rattle.xk_base.specs.Numbers.Windows.{page_of}
use Rattle.ledger_model.specs.Ledger.{PageName, byte_of, contents_of, has_bytes}
use Rattle.ledger_model.proofs.Pages.BareLemmas.{reach-bare}
use Rattle.machine_model.specs.Runs.Isolation.{IsSameFor}
use Rattle.machine_model.specs.State.Machine.{Machine}
use Rattle.machine_model.specs.State.Views.{contents_seen, is_of_timer_page, memory_of, page_reached, timer_of}

module _ (pid : Pid) (m n : Machine) (same : IsSameFor pid m n) where
  -- the same pages are reached
  pub reached_alike : (access : Access) (address : ℕ) → page_reached m pid access address ≡ page_reached n pid access address
  reached_alike access address =
      sym (reach-bare m.processes m.ledger (page_of pid address) access)
      ∙ (ap (λ (x : Machine). page_reached x pid access address) same.but_bytes
      ∙ reach-bare n.processes n.ledger (page_of pid address) access)

  -- .. and hold the same where they are loaded
  seen_alike : (address : ℕ) → contents_seen m pid address ≡ contents_seen n pid address
  seen_alike address =
      held (page_reached m pid Load address) refl ∙ ap (option_and_then (contents_of n.ledger)) (reached_alike Load address)
    where
      held : (o : Option PageName) → page_reached m pid Load address ≡ o
          → option_and_then (contents_of m.ledger) o ≡ option_and_then (contents_of n.ledger) o
      held None e = refl
      held (Some page) e = same.loaded (page_of pid address) page refl e

  timer_alike : timer_of m pid ≡ timer_of n pid
  timer_alike = ap (λ (x : Machine). timer_of x pid) same.but_bytes

  pub memory_alike : memory_of m pid ≡ memory_of n pid
  unfolding memory_of
  memory_alike = λ i. record {
    may =
        λ access address. (is_some (timer_at (timer_alike i) address) && is_of_timer_page access) || is_some
        (reached_alike access address i);
    console = λ address. option_map_or (λ contents. not (has_bytes contents)) (seen_alike address i) false;
    byte = λ address. option_map_or (byte_of (address % 4096)) (seen_alike address i) 0;
    timer = timer_alike i;
  }

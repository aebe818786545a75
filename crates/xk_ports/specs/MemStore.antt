-- A store in memory, and what its preparation does by the answer.
use Rattle.std.specs.Prelude.{ℕ, ◌≡◌, true, false, List, Option, Result, Ok, Err}
use Rattle.xk_ports.specs.declared.store.StoreFault.{StoreFault}
use Rattle.xk_ports.specs.declared.store.StoreFault.TheVariants.{Failed, NoMemory}
use Rattle.xk_ports.specs.Calls.{CallsState, is_next_to_fail, called, failed}
use Rattle.xk_ports.specs.Pages.{PagesState, IsPrepared, with_preparation}

-- a store in memory: its pages and its calls
pub record MemStoreState : Type 0 where
  pub pages : PagesState
  pub calls : CallsState

-- a preparation that is served
pub record IsServed (old new : MemStoreState) (slots : ℕ) (name : Option (List ℕ)) : Type 0 where
  pub listed : is_next_to_fail old.calls ≡ false
  pub pages : IsPrepared old.pages new.pages slots name
  pub calls : new.calls ≡ called old.calls

-- a preparation that fails
pub record IsFailed (old new : MemStoreState) (slots : ℕ) (name : Option (List ℕ)) : Type 0 where
  pub listed : is_next_to_fail old.calls ≡ true
  pub pages : new.pages ≡ with_preparation old.pages slots name false
  pub calls : new.calls ≡ failed old.calls

-- a preparation by its answer: Failed comes exactly where the number of the call is listed, and
-- without memory the pages and the list of preparations stay
abbrev pub MemPrepares : MemStoreState → MemStoreState → ℕ → Option (List ℕ) → Result (Unit {0}) StoreFault → Type 0
MemPrepares old new slots name (Ok done) = IsServed old new slots name
MemPrepares old new slots name (Err Failed) = IsFailed old new slots name
MemPrepares old new slots name (Err NoMemory) = new ≡ record old { calls = called old.calls }

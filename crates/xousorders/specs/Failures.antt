-- The endings that fail: what is told of them, and what it says of orders.
use Rattle.std.specs.Prelude.{◌≡◌, ◌||◌, ℕ, Bool, true, false, nat_lt, List, length, slice_get, Some}
use Rattle.std.specs.List.{Contains}
use Rattle.order_model.specs.declared.failing.Failing.{Failing}
use Rattle.order_model.specs.declared.moves.Move.{Move}
use Rattle.order_model.specs.Endings.{is_ending}
use Rattle.order_model.specs.Failing.{fails_of}
use Rattle.order_model.specs.Moves.{Point, leads_by}
use Rattle.order_model.specs.Searches.{Telling}
use Rattle.order_text.specs.Endings.{failing_of, fails_some, is_several}
use Rattle.xousorders.specs.Endings.{shown_of}
use Rattle.order_text.specs.declared.endings.Ending.{Ending}
use Rattle.xousorders.specs.declared.view.View.{View}

-- ---- what is told

-- a line tells of a failure
abbrev pub tells_failure : List Failing → Bool → List Ending → Bool
tells_failure fails differ list = fails_some fails list || is_several differ (length list)

-- something makes an ending a failure
abbrev pub asks_failure : List Failing → Bool → Bool
asks_failure fails differ = nat_lt 0 (length fails) || differ

-- ---- what it says of orders

-- an ending is told to fail of this
pub record FailsSo (fails : List Failing) (list : List Ending) (failing : Failing) : Type 0 where
  pub place : ℕ
  pub ending : Ending
  pub there : slice_get list place ≡ Some ending
  pub so : failing_of fails ending.fails ≡ Some failing

-- no order leads to an ending that fails of one of these
abbrev pub NoneFails : Telling → List Failing → Type 0
NoneFails t fails =
    (order : List Move) (last : Point) → leads_by t.asked t.start order ≡ Some last → is_ending t.asked last.state ≡ true
    → (failing : Failing) → Contains fails failing → fails_of failing last ≡ false

-- wherever two orders end, it is told alike
abbrev pub NoneDiffer : Telling → View → Type 0
NoneDiffer t view =
    (one other : List Move) (p q : Point) → leads_by t.asked t.start one ≡ Some p → is_ending t.asked p.state ≡ true
    → leads_by t.asked t.start other ≡ Some q → is_ending t.asked q.state ≡ true → shown_of view p ≡ shown_of view q

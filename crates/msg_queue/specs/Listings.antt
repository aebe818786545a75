-- What stands in a chain of slots from a slot on.
use Rattle.std.specs.Prelude.{◌≡◌, ℕ, ◌≤◌, List, length, map, Option}
use Rattle.xk_base.specs.declared.messages.Message.{Message}
use Rattle.msg_queue.specs.Chains.{IsChain, chain}
use Rattle.msg_queue.specs.Seats.{message_of}
use Rattle.msg_queue.specs.Shown.{messages}
use Rattle.msg_queue.specs.Spots.{AreFilledBy}
use Rattle.msg_queue.specs.declared.held.Held.{Held}

-- the messages in the slots of the chain that begins at `first`
abbrev pub listed : List (Option Held) → List ℕ → ℕ → List Message
listed slots words first = map message_of (messages slots (chain words first))

-- The link words of 128 slots lead from `first` along a chain that ends, and each of its slots has a message.
pub record IsListing (slots : List (Option Held)) (words : List ℕ) (first : ℕ) : Type 0 where
  pub slots_many : length slots ≡ 128
  pub words_many : length words ≡ 128
  pub chained : IsChain words first (chain words first)
  pub few : length (chain words first) ≤ 128
  pub filled : AreFilledBy slots (chain words first)

-- A ring: 128 slots in three chains over one list of link words.
use Rattle.std.specs.Prelude.{◌≡◌, ℕ, ◌+◌, ◌<◌, true, false, List, length, Option, is_some}
use Rattle.xk_base.specs.Tables.RowMap.{row_map}
use Rattle.msg_queue.specs.Chains.{IsChain, chain, times, last_from, no_slot}
use Rattle.msg_queue.specs.declared.held.Held.{Held}

-- the link words, where each chain begins, and where two of them end
pub record Links : Type 0 where
  pub next : List ℕ
  pub free : ℕ
  pub queued : ℕ
  pub last_queued : ℕ
  pub held : ℕ
  pub last_held : ℕ

-- These are the chains of the free, the queued and the held slots: each slot is in exactly one of them.
pub record AreChains (links : Links) (free queued held : List ℕ) : Type 0 where
  pub words : length links.next ≡ 128
  pub free_chain : IsChain links.next links.free free
  pub queued_chain : IsChain links.next links.queued queued
  pub held_chain : IsChain links.next links.held held
  pub ends_queued : links.last_queued ≡ last_from no_slot queued
  pub ends_held : links.last_held ≡ last_from no_slot held
  pub each : (slot : ℕ) → slot < 128 → times slot free + (times slot queued + times slot held) ≡ 1
  pub all : length free + (length queued + length held) ≡ 128

-- A slot has a message exactly where it is queued or held.
pub record AreFilled (slots : List (Option Held)) (free queued held : List ℕ) : Type 0 where
  pub size : length slots ≡ 128
  pub free_slots : (slot : ℕ) → 0 < times slot free → is_some (row_map slots slot) ≡ false
  pub queued_slots : (slot : ℕ) → 0 < times slot queued → is_some (row_map slots slot) ≡ true
  pub held_slots : (slot : ℕ) → 0 < times slot held → is_some (row_map slots slot) ≡ true

-- the ring is sound: it is so of the chains that its words give
pub record IsRing (slots : List (Option Held)) (links : Links) : Type 0 where
  pub chains : AreChains links (chain links.next links.free) (chain links.next links.queued) (chain links.next links.held)
  pub filled : AreFilled slots (chain links.next links.free) (chain links.next links.queued) (chain links.next links.held)

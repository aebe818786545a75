-- How pages in memory are kept.
use Rattle.std.specs.Prelude.{◌≡◌, ◌+◌, ◌-◌, ◌*◌, ◌%◌, ◌≤◌, ℕ, List, [], ◌++◌, Option, Some, None, length, take, drop, replicate, vec_capacity}
use Rattle.std.specs.declared.alloc.Global.{Global}
use Rattle.std.specs.declared.vec.Vec.{Vec}
use Rattle.xk_ports.specs.Store.{StoreAsked}
use Rattle.xk_ports.specs.declared.pages.Preparation.{Preparation}

-- a preparation as contracts see it
abbrev pub shown_preparation : Preparation → StoreAsked
shown_preparation asked = record { slots = asked.slots; name = asked.name; prepared = asked.prepared }

-- the bytes, if there are any
abbrev pub bytes_in : Option (Vec ℕ Global) → List ℕ
bytes_in None = []
bytes_in (Some bytes) = bytes.items

-- the bytes of all slots: behind those that were used there are zeros
abbrev pub all_bytes : List ℕ → ℕ → List ℕ
all_bytes used slots = used ++ replicate (slots * 4096 - length used) 0

-- the bytes are those of whole slots, of which there are no more than these, and there is room for all of them
pub record IsRoomFor (bytes : Vec ℕ Global) (slots : ℕ) : Type 0 where
  pub whole : length bytes.items % 4096 ≡ 0
  pub within : length bytes.items ≤ slots * 4096
  pub room : slots * 4096 ≤ vec_capacity bytes

-- there is room for all slots, or there are none
abbrev pub AreKept : Option (Vec ℕ Global) → ℕ → Type 0
AreKept None slots = slots ≡ 0
AreKept (Some bytes) slots = IsRoomFor bytes slots

-- the bytes with these in place of as many from a place on
abbrev pub with_bytes_at : List ℕ → ℕ → List ℕ → List ℕ
with_bytes_at bytes start page = take start bytes ++ page ++ drop (start + length page) bytes

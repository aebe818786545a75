-- Pages in memory, in numbered slots.
use Rattle.std.specs.Prelude.{ℕ, ◌≡◌, ◌+◌, ◌*◌, Bool, true, List, [], ◌∷◌, ◌++◌, length, slice_index, slice_range, Option}
use Rattle.xk_ports.specs.Store.{Contents, StoreAsked, with_page}

-- pages in memory: the bytes of all slots, how many slots there are, and the preparations that were
-- asked for
pub record PagesState : Type 0 where
  pub bytes : List ℕ
  pub slots : ℕ
  pub asked : List StoreAsked

-- no slot yet
abbrev pub no_pages : PagesState
no_pages = record { bytes = []; slots = 0; asked = [] }

-- what the slots hold: each has its 4096 bytes
abbrev pub contents_of : List ℕ → Contents
contents_of bytes slot = slice_range bytes (slot * 4096) (slot * 4096 + 4096)

-- the pages with one more preparation asked for
abbrev pub with_preparation : PagesState → ℕ → Option (List ℕ) → Bool → PagesState
with_preparation pages slots name prepared =
    record pages { asked = pages.asked ++ record { slots = slots; name = name; prepared = prepared } ∷ [] }

-- the slots were made anew, with zeros
pub record IsPrepared (old new : PagesState) (slots : ℕ) (name : Option (List ℕ)) : Type 0 where
  pub count : new.slots ≡ slots
  pub whole : length new.bytes ≡ slots * 4096
  pub zero : (i : ℕ) → slice_index new.bytes i ≡ 0
  pub asked : new.asked ≡ (with_preparation old slots name true).asked

-- a page was put into a slot, and all else stays
pub record PutsPage (old new : PagesState) (slot : ℕ) (page : List ℕ) : Type 0 where
  pub contents : contents_of new.bytes ≡ with_page (contents_of old.bytes) slot page
  pub slots : new.slots ≡ old.slots
  pub asked : new.asked ≡ old.asked

-- Items that stand one after the other in bytes.
use Rattle.std.specs.Prelude.{ℕ, zero, suc, List, [], ◌∷◌, length, Option}
use Rattle.std.specs.Option.{option_map_or}

-- the whole items at the front of bytes, and the rest, at whose front stands no whole item
pub record Cut (A : Type 0) : Type 0 where
  pub items : List A
  pub rest : List ℕ

-- the same with one more item at the front
abbrev pub behind : {A : Type 0} → A → Cut A → Cut A
behind item c = record { items = item ∷ c.items; rest = c.rest }

-- At most this many items. What front gives is the item at the front of bytes and the bytes after it.
unfoldable pub cut_up_to : {A : Type 0} → ℕ → (List ℕ → Option (A × List ℕ)) → List ℕ → Cut A
cut_up_to zero front bytes = record { items = []; rest = bytes }
cut_up_to (suc n) front bytes =
    option_map_or (λ x. behind x.0 (cut_up_to n front x.1)) (front bytes) (record { items = []; rest = bytes })

-- All items: an item has at least one byte, so there are no more items than bytes.
abbrev pub cut : {A : Type 0} → (List ℕ → Option (A × List ℕ)) → List ℕ → Cut A
cut front bytes = cut_up_to (length bytes) front bytes

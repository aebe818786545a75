-- The messages of a state by their numbers: which come before one, and that no two have one number.
use Rattle.std.proofs.Common.{◌≡◌, ℕ, ◌+◌, ◌≤◌, ◌<◌, Bool, true, false, List, [], ◌∷◌, ◌++◌, length, take, Option, Some, None, refl, sym, ap, ◌∙◌, arith, inl, inr}
use Rattle.std.specs.Prelude.{◌==◌, ◌||◌, slice_get}
use Rattle.std.specs.List.{flat_map, list_any}
use Rattle.std.specs.Option.{option_map_or}
use Rattle.std.proofs.lemmas.Bool.{eq-eqb, eqb-true, false_from_ne_true, ne_eqb, or_cases, or_left, or_right}
use Rattle.std.proofs.lemmas.List.{append-nil, take_more}
use Rattle.std.proofs.lemmas.List.Concat.{flat_map-append}
use Rattle.std.proofs.lemmas.Option.{get_or_from_slice_get, slice_get_within}
use Rattle.suspend_image.proofs.OrderLemmas.{servers_ascend}
use Rattle.snapshot_matching.proofs.ServerRows.ServersLemmas.{apart_of}
use Rattle.snapshot_matching.specs.ServerParts.{AreMessagesApart}
use Rattle.snapshot_rows.specs.declared.state.MessageRow.{MessageRow}
use Rattle.snapshot_rows.specs.declared.state.ServerRow.{ServerRow}
use Rattle.snapshot_rows.specs.declared.state.State.{State}
use Rattle.resume_path.proofs.Rows.OnceLemmas.{any_append, any_in_rows, any_row_at, any_taken, any_taken_at, once_in_rows}
use Rattle.resume_path.proofs.Rows.RowLemmas.{more_any, take_past}
use Rattle.resume_path.proofs.Rows.ThreadRowLemmas.{same_number}
use Rattle.resume_path.specs.Resumable.{IsResumable}
use Rattle.resume_path.specs.Standing.{has_message, is_message_before, is_numbered, row_messages}

-- ---- the first messages, and one more

none_taken : (o : Option ServerRow) (number : ℕ) → option_map_or (λ (server : ServerRow). has_message (take 0 (row_messages server)) number) o false ≡ false
none_taken None number = refl
none_taken (Some server) number = refl

pub before_none : (servers : List ServerRow) (number : ℕ) → is_message_before servers 0 0 number ≡ false
before_none servers number = none_taken (slice_get servers 0) number

or_assoc : (a b c : Bool) → (a || (b || c)) ≡ ((a || b) || c)
or_assoc true b c = refl
or_assoc false b c = refl

or_false : (a b : Bool) → b ≡ false → (a || b) ≡ a
or_false true b e = refl
or_false false b e = e

module _ (servers : List ServerRow) (i : ℕ) (server : ServerRow) (there : slice_get servers i ≡ Some server) where
  pub before_parts : (k number : ℕ) → is_message_before servers i k number
      ≡ (has_message (flat_map row_messages (take i servers)) number || has_message (take k (row_messages server)) number)
  before_parts k number =
      ap (λ o. has_message (flat_map row_messages (take i servers)) number || option_map_or
      (λ (one : ServerRow). has_message (take k (row_messages one)) number) o false) there

  pub before_more : (k : ℕ) (row : MessageRow) → slice_get (row_messages server) k ≡ Some row → (number : ℕ)
      → is_message_before servers i (k + 1) number ≡ (is_message_before servers i k number || (number == row.number))
  before_more k row at number =
      let more : has_message (take (k + 1) (row_messages server)) number ≡ (has_message (take k (row_messages server)) number || is_numbered number row) =
      more_any (is_numbered number) (row_messages server) k row (slice_get_within (row_messages server) k row at)
      ∙ ap (λ (x : MessageRow). has_message (take k (row_messages server)) number || is_numbered number x)
      (get_or_from_slice_get (row_messages server) k row row at) in
      before_parts (k + 1) number
      ∙ (ap (λ b. has_message (flat_map row_messages (take i servers)) number || b) more
      ∙ (or_assoc (has_message (flat_map row_messages (take i servers)) number) (has_message (take k (row_messages server)) number) (is_numbered number row)
      ∙ (λ j. sym (before_parts k number) j || same_number row.number number j)))

  -- all of its messages
  pub before_all : (k : ℕ) → length (row_messages server) ≤ k → (number : ℕ) → is_message_before servers (i + 1) 0 number ≡ is_message_before servers i k number
  before_all k all number =
      let low = slice_get_within servers i server there in
      let taken : take (i + 1) servers ≡ take i servers ++ server ∷ [] =
      take_more servers i server low ∙ ap (λ (x : ServerRow). take i servers ++ x ∷ []) (get_or_from_slice_get servers i server server there) in
      let listed : flat_map row_messages (take (i + 1) servers) ≡ flat_map row_messages (take i servers) ++ row_messages server =
      ap (flat_map row_messages) taken
      ∙ (flat_map-append row_messages (take i servers) (server ∷ [])
      ∙ ap (λ (xs : List MessageRow). flat_map row_messages (take i servers) ++ xs) (append-nil (row_messages server))) in
      or_false (has_message (flat_map row_messages (take (i + 1) servers)) number)
      (option_map_or (λ (one : ServerRow). has_message (take 0 (row_messages one)) number) (slice_get servers (i + 1)) false)
      (none_taken (slice_get servers (i + 1)) number)
      ∙ (ap (list_any (is_numbered number)) listed
      ∙ (any_append (is_numbered number) (flat_map row_messages (take i servers)) (row_messages server)
      ∙ (ap (λ (xs : List MessageRow). has_message (flat_map row_messages (take i servers)) number || has_message xs number)
      (sym (take_past k (row_messages server) all))
      ∙ sym (before_parts k number))))

  -- a message before the k-th
  pub is_before : (k l : ℕ) (row : MessageRow) → l < k → slice_get (row_messages server) l ≡ Some row → is_message_before servers i k row.number ≡ true
  is_before k l row low at =
      before_parts k row.number
      ∙ or_right (has_message (flat_map row_messages (take i servers)) row.number) (has_message (take k (row_messages server)) row.number)
      (any_taken_at (is_numbered row.number) (row_messages server) k l row low at (eq-eqb row.number row.number refl))

-- a message of an earlier server
pub is_earlier : (servers : List ServerRow) (n j l : ℕ) (server : ServerRow) (row : MessageRow) → j < n → slice_get servers j ≡ Some server
    → slice_get (row_messages server) l ≡ Some row → (number : ℕ) → row.number ≡ number → is_message_before servers n 0 number ≡ true
is_earlier servers n j l server row low there at number same =
    or_left (has_message (flat_map row_messages (take n servers)) number)
    (option_map_or (λ (one : ServerRow). has_message (take 0 (row_messages one)) number) (slice_get servers n) false)
    (any_row_at row_messages (is_numbered number) servers n j l server row low there at (eq-eqb row.number number same))

-- ---- no two have one number

module _ (file : List ℕ) (s : State) (h : IsResumable file s) where
  apart : AreMessagesApart s.servers
  apart = apart_of s.procs s.servers (servers_ascend file s h.spelled) h.matched.body.servers

  pub numbers_apart : (i k j l : ℕ) (a b : ServerRow) (x y : MessageRow) → slice_get s.servers i ≡ Some a → slice_get (row_messages a) k ≡ Some x
      → slice_get s.servers j ≡ Some b → slice_get (row_messages b) l ≡ Some y → x.number ≡ y.number → (i ≡ j) × (k ≡ l)
  numbers_apart i k j l a b x y at x_at to y_at same =
      once_in_rows row_messages (is_numbered x.number) s.servers i k j l a b x y (apart x.number) at x_at to y_at
      (eq-eqb x.number x.number refl) (eq-eqb y.number x.number (sym same))

  module _ (i : ℕ) (server : ServerRow) (there : slice_get s.servers i ≡ Some server) where
    -- a message from the k-th on isn't before it
    pub not_before : (k l : ℕ) (row : MessageRow) → k ≤ l → slice_get (row_messages server) l ≡ Some row → is_message_before s.servers i k row.number ≡ false
    not_before k l row high at = false_from_ne_true (is_message_before s.servers i k row.number) (λ is.
        elim (or_cases (has_message (flat_map row_messages (take i s.servers)) row.number) (has_message (take k (row_messages server)) row.number)
        (sym (before_parts s.servers i server there k row.number) ∙ is)) [
          | inl earlier ↦
              let found = any_in_rows row_messages (is_numbered row.number) s.servers i earlier in
              let same = numbers_apart i l found.row_place found.place server found.row row found.element there at found.row_there found.there
              (sym (eqb-true found.element.number row.number found.passes)) in
              omega (arith, found.low, same.0)
          | inr here ↦
              let found = any_taken (is_numbered row.number) (row_messages server) k here in
              let same = numbers_apart i l i found.place server server row found.element there at there found.there
              (sym (eqb-true found.element.number row.number found.passes)) in
              omega (arith, found.low, same.1, high)
        ])

    module _ (k : ℕ) (row : MessageRow) (at : slice_get (row_messages server) k ≡ Some row) where
      -- with the k-th, its own number is before, and any other message's as it was
      pub is_next : is_message_before s.servers i (k + 1) row.number ≡ true
      is_next = is_before s.servers i server there (k + 1) k row (omega arith) at

      pub others_same : (j l : ℕ) (other : ServerRow) (y : MessageRow) → slice_get s.servers j ≡ Some other → slice_get (row_messages other) l ≡ Some y
          → ((j ≡ i) → (l ≡ k) → ⊥) → is_message_before s.servers i (k + 1) y.number ≡ is_message_before s.servers i k y.number
      others_same j l other y to y_at differ =
          before_more s.servers i server there k row at y.number
          ∙ or_false (is_message_before s.servers i k y.number) (y.number == row.number)
          (ne_eqb y.number row.number (λ same. (let both = numbers_apart j l i k other server y row to y_at there at same in differ both.0 both.1)))

  -- all messages are before the end
  pub all_before_end : (j l : ℕ) (server : ServerRow) (row : MessageRow) → slice_get s.servers j ≡ Some server → slice_get (row_messages server) l ≡ Some row
      → is_message_before s.servers (length s.servers) 0 row.number ≡ true
  all_before_end j l server row there at =
      is_earlier s.servers (length s.servers) j l server row (slice_get_within s.servers j server there) there at row.number refl

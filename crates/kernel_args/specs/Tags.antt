-- The tags of an image. A tag is four name bytes, the check number of its contents in 16 bits, the
-- length of its contents in words in 16 bits, and its contents. Numbers have their lowest byte first.
use Rattle.std.specs.Prelude.{◌≡◌, ◌<◌, ℕ, ◌*◌, ◌/◌, ◌%◌, Bool, ◌&&◌, ◌==◌, nat_eq, nat_le, if◌then◌else◌, List, [], ◌∷◌, ◌++◌, length, map}
use Rattle.std.specs.Prelude.{filter, take, drop, codes, Option, Some, None}
use Rattle.std.specs.Cmp.Lexicographic.{pointwise}
use Rattle.byteorder.specs.Endian.{little_bytes, little_number}

-- a tag without its length, which follows from its contents
pub record Tag : Type 0 where
  pub name : List ℕ
  pub check : ℕ
  pub contents : List ℕ

-- the bytes of a tag
abbrev pub tag_bytes : Tag → List ℕ
tag_bytes t = t.name ++ (little_bytes 2 t.check ++ (little_bytes 2 (length t.contents / 4) ++ t.contents))

-- what is spelled by tag_bytes
pub record IsTag (t : Tag) : Type 0 where
  pub name : length t.name ≡ 4
  pub check : t.check < 65536
  pub whole_words : length t.contents % 4 ≡ 0
  pub size : length t.contents < 4 * 65536

-- the whole tag at the front of bytes, and the bytes after it
abbrev pub front_tag : List ℕ → Option (Tag × List ℕ)
front_tag (n ∷ a ∷ m ∷ e ∷ c ∷ d ∷ k ∷ l ∷ bytes) =
    let size = 4 * little_number 2 (k ∷ l ∷ []) in
    if nat_le size (length bytes)
    then Some (record { name = n ∷ a ∷ m ∷ e ∷ []; check = little_number 2 (c ∷ d ∷ []); contents = take size bytes }, drop size bytes)
    else None
front_tag bytes = None

-- the tag has this name
abbrev pub has_name : List ℕ → Tag → Bool
has_name name t = pointwise nat_eq t.name name

-- a `SwpS`, which is read in version 2 and passed over in version 1
abbrev pub is_slots : ℕ → Tag → Bool
is_slots version t = version == 2 && has_name (codes "SwpS") t

-- the contents of the tags that pass a test, in order
abbrev pub contents_of : (Tag → Bool) → List Tag → List (List ℕ)
contents_of test tags = map (λ t. t.contents) (filter test tags)

-- Reading the entries of a `PNam` one after the other.
use Rattle.std.proofs.Common.{◌≡◌, ℕ, ◌-◌, ◌≤◌, Bool, true, not, cond, List, [], ◌∷◌, ◌++◌, length, map, take, drop, Some, None, sym, ap, subst, ◌∙◌, append_assoc, arith, eqb, leb, inl, inr}
use Rattle.std.specs.List.{flat_map, AllByRecursion}
use Rattle.std.proofs.lemmas.List.{nil_from_length, append-nil, map-append, take-take}
use Rattle.std.proofs.lemmas.Bool.{cases_Bool, le-leb, eqb-true}
use Rattle.byteorder.specs.Endian.{little_number}
use Rattle.kernel_args.specs.declared.args.ProcName.{ProcName}
use Rattle.kernel_args.specs.Joined.{Cut, cut}
use Rattle.kernel_args.specs.Contents.{Entry, IsEntry, padded, entry_bytes, front_entry, name_of}
use Rattle.kernel_args.specs.Reading.{FrontEntry, GivesNames}
use Rattle.kernel_args.proofs.NumberLemmas.{IsBytes, IsBytes-right}
use Rattle.kernel_args.proofs.JoinedLemmas.{cut_none, cut_some, joined_more, AllByRecursion-append}
use Rattle.kernel_args.proofs.ContentLemmas.{entries}

-- what a reader by offsets finds
pub front_entry_found : (bytes : List ℕ) (pid len : ℕ) (entry rest : List ℕ) → 8 ≤ length bytes → pid ≡ little_number 4 bytes → len ≡ little_number 4 (drop 4 bytes)
    → padded len ≤ length bytes - 8 → entry ≡ take (padded len) (drop 8 bytes) → rest ≡ drop (padded len) (drop 8 bytes) → FrontEntry bytes pid (take len entry) rest
front_entry_found (a ∷ b ∷ c ∷ d ∷ k ∷ l ∷ m ∷ n ∷ bytes) pid len entry rest long pid_is len_is within entry_is rest_is =
    let len' = little_number 4 (k ∷ l ∷ m ∷ n ∷ []) in
    let pid' = little_number 4 (a ∷ b ∷ c ∷ d ∷ []) in
    let same : len ≡ len' = len_is in
    let made : Entry = record { pid = pid'; name = take len' bytes; padding = take (padded len' - len') (drop len' bytes) } in
    let room : leb (padded len') (length bytes) ≡ true = le-leb _ _ (omega arith) in
    let found : front_entry (a ∷ b ∷ c ∷ d ∷ k ∷ l ∷ m ∷ n ∷ bytes) ≡ Some (made, drop (padded len') bytes) = ap (λ (t : Bool). cond t (Some (made, drop (padded len') bytes)) None) room in
    let rest_same : drop (padded len') bytes ≡ rest = ap (λ (x : ℕ). drop (padded x) bytes) (sym same) ∙ sym rest_is in
    let name_same : take len' bytes ≡ take len entry =
    ap (λ (x : ℕ). take x bytes) (sym same) ∙ sym (take-take len (padded len) bytes (omega arith)) ∙ ap (take len) (sym entry_is) in (
      made,
      found ∙ ap (λ (l : List ℕ). Some (made, l)) rest_same,
      ap (λ (p : ℕ). record { pid = p; name = take len' bytes }) (sym pid_is) ∙ ap (λ (x : List ℕ). record { pid = pid; name = x }) name_same,
    )
front_entry_found [] pid len entry rest long pid_is len_is within entry_is rest_is = absurd (omega arith)
front_entry_found (a ∷ []) pid len entry rest long pid_is len_is within entry_is rest_is = absurd (omega arith)
front_entry_found (a ∷ b ∷ []) pid len entry rest long pid_is len_is within entry_is rest_is = absurd (omega arith)
front_entry_found (a ∷ b ∷ c ∷ []) pid len entry rest long pid_is len_is within entry_is rest_is = absurd (omega arith)
front_entry_found (a ∷ b ∷ c ∷ d ∷ []) pid len entry rest long pid_is len_is within entry_is rest_is = absurd (omega arith)
front_entry_found (a ∷ b ∷ c ∷ d ∷ k ∷ []) pid len entry rest long pid_is len_is within entry_is rest_is = absurd (omega arith)
front_entry_found (a ∷ b ∷ c ∷ d ∷ k ∷ l ∷ []) pid len entry rest long pid_is len_is within entry_is rest_is = absurd (omega arith)
front_entry_found (a ∷ b ∷ c ∷ d ∷ k ∷ l ∷ m ∷ []) pid len entry rest long pid_is len_is within entry_is rest_is = absurd (omega arith)

pub record NamesRead (contents rest : List ℕ) (old new : List ProcName) : Type 0 where
  pub es : List Entry
  pub parts : contents ≡ flat_map entry_bytes es ++ rest
  pub each : AllByRecursion IsEntry es
  pub names_are : new ≡ old ++ map name_of es
  pub left : (cut front_entry rest).rest ≡ (cut front_entry contents).rest

pub names_more : (contents rest : List ℕ) (old new : List ProcName) (pid : ℕ) (name after : List ℕ) → NamesRead contents rest old new → IsBytes contents → FrontEntry rest pid name after
    → NamesRead contents after old (new ++ record { pid = pid; name = name } ∷ [])
names_more contents rest old new pid name after so_far fits f =
    let rest_fits : IsBytes rest = IsBytes-right (flat_map entry_bytes so_far.es) rest (subst IsBytes so_far.parts fits) in
    let took = entries.takes rest f.0 after rest_fits f.1 in
    record {
      es = so_far.es ++ f.0 ∷ [];
      parts = joined_more entry_bytes contents so_far.es f.0 rest after so_far.parts took.parts;
      each = AllByRecursion-append IsEntry so_far.es (f.0 ∷ []) so_far.each (took.fits, tt);
      names_are =
          ap (λ (n : ProcName). new ++ n ∷ []) (sym f.2)
          ∙ ap (λ (l : List ProcName). l ++ name_of f.0 ∷ []) so_far.names_are
          ∙ append_assoc old (map name_of so_far.es) (name_of f.0 ∷ [])
          ∙ ap (λ (l : List ProcName). old ++ l) (sym (map-append name_of so_far.es (f.0 ∷ [])));
      left = ap (λ (c : Cut Entry). c.rest) (sym (cut_some front_entry entry_bytes IsEntry entries rest f.0 after f.1)) ∙ so_far.left;
    }

pub names_end : (contents rest : List ℕ) (old new : List ProcName) (b : Bool) → NamesRead contents rest old new → front_entry rest ≡ None → b ≡ eqb (length rest) 0 → GivesNames contents old new b
names_end contents rest old new b so_far none e =
    let ended : rest ≡ (cut front_entry contents).rest = ap (λ (c : Cut Entry). c.rest) (sym (cut_none front_entry rest none)) ∙ so_far.left in
    elim (cases_Bool (eqb (length rest) 0)) [
      | inl empty ↦
          let nothing_left : rest ≡ [] = nil_from_length rest (eqb-true _ _ empty) in
          subst (GivesNames contents old new) (sym (e ∙ empty)) (
            so_far.es,
            record {
              each = so_far.each;
              contents_are = so_far.parts ∙ ap (λ (l : List ℕ). flat_map entry_bytes so_far.es ++ l) nothing_left ∙ append-nil (flat_map entry_bytes so_far.es);
            },
            so_far.names_are,
          )
      | inr some ↦ subst (GivesNames contents old new) (sym (e ∙ some)) (ap (λ (l : List ℕ). not (eqb (length l) 0)) (sym ended) ∙ ap not some)
    ]

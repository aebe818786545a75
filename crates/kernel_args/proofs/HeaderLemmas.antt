-- The first tag has no fault exactly where it spells the header of arguments.
use Rattle.std.proofs.Common.{◌≡◌, ℕ, ◌+◌, ◌*◌, ◌%◌, ◌^◌, ◌<◌, ◌≤◌, ◌⊎◌, inl, inr, Bool, false, ◌||◌, eqb, List, [], ◌∷◌, ◌++◌, length, take, drop, Some, None, refl, sym, ap, subst, ◌∙◌, arith}
use Rattle.std.specs.Prelude.{codes}
use Rattle.std.proofs.lemmas.List.{length-take, length-drop, take_at, drop-drop, drop-take, take-take, take-append-drop}
use Rattle.std.proofs.lemmas.Bool.{eqb-true, eq-eqb, ne_eqb, eqb-false, not-false, not_from_true, or_left, or_right, or_parts, or_from, cases_Bool, le-ltb, ltb-false}
use Rattle.std.proofs.lemmas.Slice.Eq.{bytes_eq-Decides}
use Rattle.byteorder.specs.Numbers.{little_from-take}
use Rattle.kernel_args.specs.declared.args.Args.{Args}
use Rattle.kernel_args.specs.declared.header.Header.{Header}
use Rattle.kernel_args.specs.CheckNumber.{check_number}
use Rattle.kernel_args.specs.Tags.{Tag, tag_bytes, front_tag}
use Rattle.kernel_args.specs.Contents.{word}
use Rattle.kernel_args.specs.Image.{IsRam, IsSoundArgs, header_tag}
use Rattle.kernel_args.specs.Faults.{first_fault, number_at, row_size, version_of, is_bad_version, is_not_xarg, is_bad_header_check, is_bad_total, is_bad_ram, header_faults}
use Rattle.kernel_args.specs.Reading.{HeaderIs}
use Rattle.kernel_args.proofs.NumberLemmas.{IsBytes, IsBytes-drop, IsBytes-take, number_again, word_split, word_front, number_lt}
use Rattle.kernel_args.proofs.CheckLemmas.{check_number_fits}
use Rattle.kernel_args.proofs.TagLemmas.{tags, front_tag_at, length-tag_bytes}
use Rattle.kernel_args.proofs.RowFaultLemmas.{none_when, when_none}

-- ---- RAM

pub ram_is_good : (start size : ℕ) → IsRam start size → is_bad_ram start size ≡ false
unfolding is_bad_ram
ram_is_good start size h =
    let some = h.some in
    or_from _ _ (or_from _ _ (or_from _ _ (or_from _ _
    (not_from_true _ (eq-eqb (start % 4096) 0 h.start_whole))
    (not_from_true _ (eq-eqb (size % 4096) 0 h.size_whole)))
    (ne_eqb size 0 (λ (e : size ≡ 0). omega arith)))
    (le-ltb 67108864 size h.few))
    (le-ltb 0xF0000000 (start + size) h.below)

pub ram_when_good : (start size : ℕ) → is_bad_ram start size ≡ false → IsRam start size
unfolding is_bad_ram
ram_when_good start size e =
    let p = or_parts _ _ e in
    let q = or_parts _ _ p.0 in
    let r = or_parts _ _ q.0 in
    let s = or_parts _ _ r.0 in
    let some : size ≡ 0 → ⊥ = eqb-false size 0 r.1 in
    record {
      start_whole = eqb-true _ _ (not-false _ s.0);
      size_whole = eqb-true _ _ (not-false _ s.1);
      some = omega arith;
      few = ltb-false _ _ q.1;
      below = ltb-false _ _ p.1;
    }

-- ---- versions

-- the version is 1 or 2
abbrev pub IsVersion : ℕ → Type 0
IsVersion version = (version ≡ 1) ⊎ (version ≡ 2)

pub version_is_good : (version : ℕ) → IsVersion version → is_bad_version version ≡ false
version_is_good version (inl e) = not_from_true _ (or_left _ _ (eq-eqb version 1 e))
version_is_good version (inr e) = not_from_true _ (or_right _ _ (eq-eqb version 2 e))

pub version_when_good : (version : ℕ) → is_bad_version version ≡ false → IsVersion version
version_when_good version e =
    elim (cases_Bool (eqb version 1)) [
      | inl one ↦ inl (eqb-true version 1 one)
      | inr other ↦ inr (eqb-true version 2 (ap (λ (b : Bool). b || eqb version 2) (sym other) ∙ not-false _ e))
    ]

version_fits : (version : ℕ) → IsVersion version → version < 2 ^ 32
version_fits version (inl e) = omega arith
version_fits version (inr e) = omega arith

-- ---- what is spelled has no fault

-- the header of arguments
abbrev pub header_in : Args → Header
header_in args = record { words = args.words; version = args.version; ram_start = args.ram_start; ram_size = args.ram_size; ram_name = args.ram_name }

abbrev pub header_bytes : Header → List ℕ
header_bytes h = word h.words ++ (word h.version ++ (word h.ram_start ++ (word h.ram_size ++ h.ram_name)))

-- an image that begins with this header
abbrev pub begun : Header → List ℕ → List ℕ
begun h more =
    let contents = header_bytes h in
    tag_bytes (record { name = codes "XArg"; check = check_number contents; contents = contents }) ++ more

-- a header that can be spelled
pub record IsHeader (h : Header) : Type 0 where
  pub words : h.words < 2 ^ 32
  pub version : h.version < 2 ^ 32
  pub start : h.ram_start < 2 ^ 32
  pub size : h.ram_size < 2 ^ 32
  pub name : length h.ram_name ≡ 4

abbrev named : Header → List ℕ → Header
named h name = record h { ram_name = name }

begun_named : (h : Header) (name more : List ℕ) → IsHeader (named h name) → HeaderIs (begun (named h name) more) (named h name)
begun_named h (a ∷ b ∷ c ∷ d ∷ []) more is = record {
  words_is = word_front h.words (word h.version ++ (word h.ram_start ++ (word h.ram_size ++ (a ∷ b ∷ c ∷ d ∷ more)))) is.words;
  version_is = word_front h.version (word h.ram_start ++ (word h.ram_size ++ (a ∷ b ∷ c ∷ d ∷ more))) is.version;
  start_is = word_front h.ram_start (word h.ram_size ++ (a ∷ b ∷ c ∷ d ∷ more)) is.start;
  size_is = word_front h.ram_size (a ∷ b ∷ c ∷ d ∷ more) is.size;
  name_is = refl;
}
begun_named h [] more is = absurd (omega (arith, is.name))
begun_named h (a ∷ []) more is = absurd (omega (arith, is.name))
begun_named h (a ∷ b ∷ []) more is = absurd (omega (arith, is.name))
begun_named h (a ∷ b ∷ c ∷ []) more is = absurd (omega (arith, is.name))
begun_named h (a ∷ b ∷ c ∷ d ∷ x ∷ xs) more is = absurd (omega (arith, is.name))

pub begun_header : (h : Header) (more : List ℕ) → IsHeader h → HeaderIs (begun h more) h
begun_header h more is = begun_named h h.ram_name more is

-- the header's numbers are in the limits of an image of this many bytes
record IsFitting (h : Header) (size : ℕ) : Type 0 where
  header : IsHeader h
  version : IsVersion h.version
  ram : IsRam h.ram_start h.ram_size
  long : 7 ≤ h.words
  within : 4 * h.words ≤ size

begun_is_good : (h : Header) (name more : List ℕ) → IsFitting (named h name) (length (begun (named h name) more)) → first_fault (header_faults (begun (named h name) more)) ≡ None
unfolding header_faults is_not_xarg is_bad_header_check is_bad_total
begun_is_good h (a ∷ b ∷ c ∷ d ∷ []) more fit =
    let made = named h (a ∷ b ∷ c ∷ d ∷ []) in
    let contents = header_bytes made in
    let bytes = begun made more in
    let is = begun_header made more fit.header in
    let row : row_size bytes ≡ 4 * h.words = ap (λ (n : ℕ). 4 * n) is.words_is in
    let check : number_at 2 4 bytes ≡ check_number contents = number_again 2 (check_number contents) (check_number_fits contents) in
    let version : is_bad_version (version_of bytes) ≡ false = ap (λ (n : ℕ). is_bad_version n) is.version_is ∙ version_is_good h.version fit.version in
    let good : is_bad_ram (number_at 4 16 bytes) (number_at 4 20 bytes) ≡ false =
    ap (λ (n : ℕ). is_bad_ram n (number_at 4 20 bytes)) is.start_is ∙ ap (is_bad_ram h.ram_start) is.size_is ∙ ram_is_good h.ram_start h.ram_size fit.ram in
    let long = fit.long in
    let within = fit.within in
    none_when (header_faults bytes) (
      le-ltb (length bytes) 28 (omega arith),
      (
        refl,
        (
          not_from_true _ (eq-eqb (number_at 2 4 bytes) (check_number contents) check),
          (
            version,
            (
              or_from _ _ (le-ltb (row_size bytes) 28 (omega arith)) (le-ltb (length bytes) (row_size bytes) (omega arith)),
              (good, tt),
            ),
          ),
        ),
      ),
    )
begun_is_good h [] more fit = absurd (omega (arith, fit.header.name))
begun_is_good h (a ∷ []) more fit = absurd (omega (arith, fit.header.name))
begun_is_good h (a ∷ b ∷ []) more fit = absurd (omega (arith, fit.header.name))
begun_is_good h (a ∷ b ∷ c ∷ []) more fit = absurd (omega (arith, fit.header.name))
begun_is_good h (a ∷ b ∷ c ∷ d ∷ x ∷ xs) more fit = absurd (omega (arith, fit.header.name))

pub is_header : (args : Args) → args.words < 2 ^ 32 → length args.ram_name ≡ 4 → IsSoundArgs args → IsHeader (header_in args)
is_header args w four sound =
    let below = sound.ram.below in
    record { words = w; version = version_fits args.version sound.version; start = omega arith; size = omega arith; name = four }

pub header_is_good : (args : Args) (more : List ℕ) → args.words < 2 ^ 32 → length args.ram_name ≡ 4 → IsSoundArgs args
    → 4 * args.words ≤ length (tag_bytes (header_tag args) ++ more) → first_fault (header_faults (tag_bytes (header_tag args) ++ more)) ≡ None
header_is_good args more w four sound within =
    begun_is_good (header_in args) args.ram_name more (record { header = is_header args w four sound; version = sound.version; ram = sound.ram; long = sound.words; within = within })

-- ---- what has no fault is spelled

-- a word of the bytes, and what follows it
word_at : (k m : ℕ) (bytes : List ℕ) → IsBytes bytes → k + 4 + m ≤ length bytes → take (4 + m) (drop k bytes) ≡ word (number_at 4 k bytes) ++ take m (drop (k + 4) bytes)
word_at k m bytes fits long =
    let xs = drop k bytes in
    let len : 4 ≤ length (take (4 + m) xs) = omega (arith, length-take (4 + m) xs, length-drop k bytes) in
    word_split (take (4 + m) xs) (IsBytes-take (4 + m) xs (IsBytes-drop k bytes fits)) len
    ∙ ap (λ (n : ℕ). word n ++ drop 4 (take (4 + m) xs)) (little_from-take 0 4 (4 + m) xs (omega arith))
    ∙ ap (λ (l : List ℕ). word (number_at 4 k bytes) ++ l) (drop-take 4 m xs ∙ ap (take m) (drop-drop 4 k bytes))

-- the header at the front of bytes
abbrev pub header_at : List ℕ → Header
header_at bytes = record { words = number_at 4 8 bytes; version = version_of bytes; ram_start = number_at 4 16 bytes; ram_size = number_at 4 20 bytes; ram_name = take 4 (drop 24 bytes) }

pub header_at_is : (bytes : List ℕ) → HeaderIs bytes (header_at bytes)
header_at_is bytes = record { words_is = refl; version_is = refl; start_is = refl; size_is = refl; name_is = refl }

contents_at : (bytes : List ℕ) → IsBytes bytes → 28 ≤ length bytes → take 20 (drop 8 bytes) ≡ header_bytes (header_at bytes)
contents_at bytes fits long =
    let behind : ℕ → List ℕ → List ℕ = λ n l. word n ++ l in
    let fourth : take 8 (drop 20 bytes) ≡ word (number_at 4 20 bytes) ++ take 4 (drop 24 bytes) = word_at 20 4 bytes fits (omega arith) in
    let third : take 12 (drop 16 bytes) ≡ word (number_at 4 16 bytes) ++ take 8 (drop 20 bytes) = word_at 16 8 bytes fits (omega arith) in
    let second : take 16 (drop 12 bytes) ≡ word (version_of bytes) ++ take 12 (drop 16 bytes) = word_at 12 12 bytes fits (omega arith) in
    let first : take 20 (drop 8 bytes) ≡ word (number_at 4 8 bytes) ++ take 16 (drop 12 bytes) = word_at 8 16 bytes fits (omega arith) in
    first ∙ ap (behind (number_at 4 8 bytes)) (second ∙ ap (behind (version_of bytes)) (third ∙ ap (behind (number_at 4 16 bytes)) fourth))

-- the image begins with the header of these arguments
pub record BeginsWith (bytes : List ℕ) (args : Args) : Type 0 where
  pub long : 7 ≤ args.words
  pub version : IsVersion args.version
  pub within : 4 * args.words ≤ length bytes
  pub fits : args.words < 2 ^ 32
  pub ram : IsRam args.ram_start args.ram_size
  pub ram_name : length args.ram_name ≡ 4
  pub row : take (4 * args.words) bytes ≡ tag_bytes (header_tag args) ++ drop 28 (take (row_size bytes) bytes)

tag_parts : (a b : List ℕ) (c d : ℕ) (x y : List ℕ) → a ≡ b → c ≡ d → x ≡ y → ◌≡◌ {A = Tag} (record { name = a; check = c; contents = x }) (record { name = b; check = d; contents = y })
tag_parts a b c d x y p q r = cc

header_parts : (h k : Header) → h.words ≡ k.words → h.version ≡ k.version → h.ram_start ≡ k.ram_start → h.ram_size ≡ k.ram_size → h.ram_name ≡ k.ram_name
    → header_bytes h ≡ header_bytes k
header_parts h k a b c d e =
    ap (λ (x : ℕ). header_bytes (record h { words = x })) a ∙ ap (λ (x : ℕ). header_bytes (record h { words = k.words; version = x })) b
    ∙ ap (λ (x : ℕ). header_bytes (record k { ram_start = x; ram_size = h.ram_size; ram_name = h.ram_name })) c
    ∙ ap (λ (x : ℕ). header_bytes (record k { ram_size = x; ram_name = h.ram_name })) d ∙ ap (λ (x : List ℕ). header_bytes (record k { ram_name = x })) e

pub begins_with : (bytes : List ℕ) (args : Args) → IsBytes bytes → first_fault (header_faults bytes) ≡ None → HeaderIs bytes (header_in args) → BeginsWith bytes args
unfolding header_faults is_not_xarg is_bad_header_check is_bad_total
begins_with bytes args fits e is =
    let h = when_none (header_faults bytes) e in
    let long : 28 ≤ length bytes = ltb-false _ _ h.0 in
    let named = or_parts _ _ h.1.0 in
    let name : take 4 bytes ≡ codes "XArg" = (bytes_eq-Decides (take 4 bytes) (codes "XArg")).0 (not-false _ named.0) in
    let five : number_at 2 6 bytes ≡ 5 = eqb-true _ _ (not-false _ named.1) in
    let check : number_at 2 4 bytes ≡ check_number (take 20 (drop 8 bytes)) = eqb-true _ _ (not-false _ h.1.1.0) in
    let version : IsVersion (version_of bytes) = version_when_good (version_of bytes) h.1.1.1.0 in
    let total = or_parts _ _ h.1.1.1.1.0 in
    let enough : 28 ≤ row_size bytes = ltb-false _ _ total.0 in
    let within : row_size bytes ≤ length bytes = ltb-false _ _ total.1 in
    let ram : IsRam (number_at 4 16 bytes) (number_at 4 20 bytes) = ram_when_good _ _ h.1.1.1.1.1.0 in
    let made : Tag = record { name = take 4 bytes; check = number_at 2 4 bytes; contents = take 20 (drop 8 bytes) } in
    let front : front_tag bytes ≡ Some (made, drop 20 (drop 8 bytes)) = front_tag_at bytes 20 (omega arith) (ap (λ (n : ℕ). 4 * n) five) (omega arith) in
    let took = tags.takes bytes made (drop 20 (drop 8 bytes)) fits front in
    let contents : take 20 (drop 8 bytes) ≡ header_bytes (header_in args) =
    contents_at bytes fits long ∙ header_parts (header_at bytes) (header_in args) is.words_is is.version_is is.start_is is.size_is is.name_is in
    let tag : made ≡ header_tag args = tag_parts _ _ _ _ _ _ name (check ∙ ap check_number contents) contents in
    let size : length (tag_bytes made) ≡ 28 = omega (arith, length-tag_bytes made took.fits.name, length-take 20 (drop 8 bytes), length-drop 8 bytes) in
    let begins : take 28 bytes ≡ tag_bytes (header_tag args) =
    ap (take 28) took.parts ∙ take_at (tag_bytes made) (drop 20 (drop 8 bytes)) 28 size ∙ ap tag_bytes tag in
    let row = take (row_size bytes) bytes in
    let words : row_size bytes ≡ 4 * args.words = ap (λ (n : ℕ). 4 * n) is.words_is in
    record {
      long = omega arith;
      version = subst IsVersion is.version_is version;
      within = omega arith;
      fits = rw (← is.words_is) (number_lt (drop 8 bytes) (IsBytes-drop 8 bytes fits));
      ram = subst (λ (n : ℕ). IsRam args.ram_start n) is.size_is (subst (λ (n : ℕ). IsRam n (number_at 4 20 bytes)) is.start_is ram);
      ram_name = rw (← is.name_is) (omega (arith, length-take 4 (drop 24 bytes), length-drop 24 bytes));
      row =
          ap (λ (n : ℕ). take n bytes) (sym words)
          ∙ sym (take-append-drop 28 row)
          ∙ ap (λ (l : List ℕ). l ++ drop 28 row) (take-take 28 (row_size bytes) bytes enough ∙ begins);
    }

-- Sections and names at the front of bytes are those that are spelled there.
use Rattle.std.proofs.Common.{◌≡◌, ℕ, ◌+◌, ◌-◌, ◌^◌, ◌<◌, ◌≤◌, List, [], ◌∷◌, ◌++◌, length, take, drop, Option, Some, None, refl, sym, ap, subst, ◌∙◌, append_assoc, arith, true, leb, cond}
use Rattle.std.proofs.lemmas.List.{length-append, length-take, length-drop, take_at, drop_at, take-append-drop, drop-drop}
use Rattle.std.proofs.lemmas.Bool.{le-leb, leb-true}
use Rattle.std.proofs.lemmas.Option.{none-some, cond_some, same_Some}
use Rattle.byteorder.specs.Endian.{little_bytes, little_number}
use Rattle.kernel_args.specs.declared.args.Section.{Section}
use Rattle.kernel_args.specs.Contents.{section_bytes, front_section, Entry, padded, entry_bytes, IsEntry, front_entry}
use Rattle.kernel_args.proofs.NumberLemmas.{IsBytes, IsBytes-drop, number_again, bytes_again_3, bytes_again_4}
use Rattle.kernel_args.proofs.JoinedLemmas.{Takes, IsFront}

-- ---- sections

-- a section whose flags may be any
pub record IsSpelled (s : Section) : Type 0 where
  pub addr : s.addr < 2 ^ 32
  pub size : s.size < 2 ^ 24

again_section : (s : Section) (rest : List ℕ) → IsSpelled s → front_section (section_bytes s ++ rest) ≡ Some (s, rest)
again_section s rest fits =
    ap (λ (x : ℕ). Some (record { addr = x; size = little_number 3 (little_bytes 3 s.size); flags = s.flags }, rest)) (number_again 4 s.addr fits.addr)
    ∙ ap (λ (x : ℕ). Some (record { addr = s.addr; size = x; flags = s.flags }, rest)) (number_again 3 s.size fits.size)

takes_section : (bytes : List ℕ) (s : Section) (rest : List ℕ) → IsBytes bytes → front_section bytes ≡ Some (s, rest) → Takes section_bytes IsSpelled bytes s rest
takes_section (a ∷ b ∷ c ∷ d ∷ k ∷ l ∷ m ∷ n ∷ bytes) s rest fits found =
    let whole = a ∷ b ∷ c ∷ d ∷ k ∷ l ∷ m ∷ n ∷ bytes in
    let addr = little_number 4 (a ∷ b ∷ c ∷ d ∷ []) in
    let size = little_number 3 (k ∷ l ∷ m ∷ []) in
    let made : Section × List ℕ = (record { addr = addr; size = size; flags = n }, bytes) in
    let framed : List ℕ → List ℕ → List ℕ = λ x y. (x ++ (y ++ n ∷ [])) ++ bytes in
    let same : made ≡ (s, rest) = same_Some made (s, rest) found in
    subst (λ (p : Section × List ℕ). Takes section_bytes IsSpelled whole p.0 p.1) same
    (record {
      parts =
          ap (λ (x : List ℕ). framed x (k ∷ l ∷ m ∷ [])) (sym (bytes_again_4 a b c d (fits 0) (fits 1) (fits 2) (fits 3)))
          ∙ ap (λ (y : List ℕ). framed (little_bytes 4 addr) y) (sym (bytes_again_3 k l m (fits 4) (fits 5) (fits 6)));
      fits = record { addr = omega (arith, fits 0, fits 1, fits 2, fits 3); size = omega (arith, fits 4, fits 5, fits 6) };
      rest_bytes = IsBytes-drop 8 whole fits;
    })
takes_section bytes s rest fits found = absurd (none-some (s, rest) found)

shrinks_section : (bytes : List ℕ) (s : Section) (rest : List ℕ) → front_section bytes ≡ Some (s, rest) → length rest < length bytes
shrinks_section (a ∷ b ∷ c ∷ d ∷ k ∷ l ∷ m ∷ n ∷ bytes) s rest found =
    let made : Section × List ℕ = (record { addr = little_number 4 (a ∷ b ∷ c ∷ d ∷ []); size = little_number 3 (k ∷ l ∷ m ∷ []); flags = n }, bytes) in
    let same : length bytes ≡ length rest = ap (λ (p : Section × List ℕ). length p.1) (same_Some made (s, rest) found) in
    omega arith
shrinks_section bytes s rest found = absurd (none-some (s, rest) found)

pub sections : IsFront front_section section_bytes IsSpelled
sections = record {
  nothing = refl;
  again = again_section;
  some = λ s fits. omega arith;
  shrinks = shrinks_section;
  takes = takes_section;
}

-- ---- entries of names

abbrev entry_at : ℕ → ℕ → List ℕ → Option (Entry × List ℕ)
entry_at pid len bytes = cond (leb (padded len) (length bytes)) (Some (record { pid = pid; name = take len bytes; padding = take (padded len - len) (drop len bytes) }, drop (padded len) bytes)) None

entry_at_joined : (pid len : ℕ) (name padding rest : List ℕ) → len ≡ length name → len + length padding ≡ padded len
    → entry_at pid len ((name ++ padding) ++ rest) ≡ Some (record { pid = pid; name = name; padding = padding }, rest)
entry_at_joined pid len name padding rest e f =
    let both : length (name ++ padding) ≡ padded len = omega (arith, length-append name padding) in
    let long : leb (padded len) (length ((name ++ padding) ++ rest)) ≡ true = le-leb _ _ (omega (arith, length-append (name ++ padding) rest)) in
    let grouped : (name ++ padding) ++ rest ≡ name ++ (padding ++ rest) = append_assoc name padding rest in
    let first : take len ((name ++ padding) ++ rest) ≡ name = ap (take len) grouped ∙ take_at name (padding ++ rest) len (sym e) in
    let middle : take (padded len - len) (drop len ((name ++ padding) ++ rest)) ≡ padding =
    ap (λ (l : List ℕ). take (padded len - len) l) (ap (drop len) grouped ∙ drop_at name (padding ++ rest) len (sym e)) ∙ take_at padding rest (padded len - len) (omega arith) in
    let last : drop (padded len) ((name ++ padding) ++ rest) ≡ rest = drop_at (name ++ padding) rest (padded len) both in
    rw (long, first, middle, last) refl

again_entry : (e : Entry) (rest : List ℕ) → IsEntry e → front_entry (entry_bytes e ++ rest) ≡ Some (e, rest)
again_entry e rest fits =
    let len = length e.name in
    let body = (e.name ++ e.padding) ++ rest in
    ap (λ (x : ℕ). entry_at x (little_number 4 (little_bytes 4 len)) body) (number_again 4 e.pid fits.pid)
    ∙ ap (λ (x : ℕ). entry_at e.pid x body) (number_again 4 len fits.len)
    ∙ entry_at_joined e.pid len e.name e.padding rest refl fits.padding

record Found (pid len : ℕ) (bytes : List ℕ) (e : Entry) (rest : List ℕ) : Type 0 where
  long : padded len ≤ length bytes
  entry : record { pid = pid; name = take len bytes; padding = take (padded len - len) (drop len bytes) } ≡ e
  rest_is : drop (padded len) bytes ≡ rest

entry_at_some : (pid len : ℕ) (bytes : List ℕ) (e : Entry) (rest : List ℕ) → entry_at pid len bytes ≡ Some (e, rest) → Found pid len bytes e rest
entry_at_some pid len bytes e rest found =
    let made : Entry × List ℕ = (record { pid = pid; name = take len bytes; padding = take (padded len - len) (drop len bytes) }, drop (padded len) bytes) in
    let g = cond_some (leb (padded len) (length bytes)) made (e, rest) found in
    record { long = leb-true _ _ g.0; entry = ap (λ (p : Entry × List ℕ). p.0) g.1; rest_is = ap (λ (p : Entry × List ℕ). p.1) g.1 }

-- bytes are a name, its padding and a rest
name_split : (len : ℕ) (bytes : List ℕ) → padded len ≤ length bytes → bytes ≡ (take len bytes ++ take (padded len - len) (drop len bytes)) ++ drop (padded len) bytes
name_split len bytes long =
    let front : bytes ≡ take len bytes ++ drop len bytes = sym (take-append-drop len bytes) in
    let back : drop len bytes ≡ take (padded len - len) (drop len bytes) ++ drop (padded len - len) (drop len bytes) = sym (take-append-drop (padded len - len) (drop len bytes)) in
    let n : len + (padded len - len) ≡ padded len = omega arith in
    let last : drop (padded len - len) (drop len bytes) ≡ drop (padded len) bytes = drop-drop (padded len - len) len bytes ∙ ap (λ (k : ℕ). drop k bytes) n in
    front
    ∙ ap (λ (l : List ℕ). take len bytes ++ l) (back ∙ ap (λ (l : List ℕ). take (padded len - len) (drop len bytes) ++ l) last)
    ∙ sym (append_assoc (take len bytes) (take (padded len - len) (drop len bytes)) (drop (padded len) bytes))

takes_entry : (bytes : List ℕ) (e : Entry) (rest : List ℕ) → IsBytes bytes → front_entry bytes ≡ Some (e, rest) → Takes entry_bytes IsEntry bytes e rest
takes_entry (a ∷ b ∷ c ∷ d ∷ k ∷ l ∷ m ∷ n ∷ bytes) e rest fits found =
    let whole = a ∷ b ∷ c ∷ d ∷ k ∷ l ∷ m ∷ n ∷ bytes in
    let pid = little_number 4 (a ∷ b ∷ c ∷ d ∷ []) in
    let len = little_number 4 (k ∷ l ∷ m ∷ n ∷ []) in
    let f = entry_at_some pid len bytes e rest found in
    let name = take len bytes in
    let padding = take (padded len - len) (drop len bytes) in
    let name_len : length name ≡ len = omega (arith, f.long, length-take len bytes) in
    let padding_len : length padding ≡ padded len - len = omega (arith, f.long, length-take (padded len - len) (drop len bytes), length-drop len bytes) in
    let framed : List ℕ → List ℕ → List ℕ = λ x y. (x ++ (y ++ (name ++ padding))) ++ drop (padded len) bytes in
    let made : Entry = record { pid = pid; name = name; padding = padding } in
    let whole_is : Takes entry_bytes IsEntry whole made (drop (padded len) bytes) = record {
      parts =
          ap (λ (z : List ℕ). a ∷ b ∷ c ∷ d ∷ k ∷ l ∷ m ∷ n ∷ z) (name_split len bytes f.long)
          ∙ ap (λ (x : List ℕ). framed x (k ∷ l ∷ m ∷ n ∷ [])) (sym (bytes_again_4 a b c d (fits 0) (fits 1) (fits 2) (fits 3)))
          ∙ ap (λ (y : List ℕ). framed (little_bytes 4 pid) y) (sym (ap (little_bytes 4) name_len ∙ bytes_again_4 k l m n (fits 4) (fits 5) (fits 6) (fits 7)));
      fits = record { pid = omega (arith, fits 0, fits 1, fits 2, fits 3); len = omega (arith, fits 4, fits 5, fits 6, fits 7); padding = rw name_len (omega arith) };
      rest_bytes = IsBytes-drop (padded len) bytes (IsBytes-drop 8 whole fits);
    } in
    subst (λ (r : List ℕ). Takes entry_bytes IsEntry whole e r) f.rest_is
    (subst (λ (u : Entry). Takes entry_bytes IsEntry whole u (drop (padded len) bytes)) f.entry whole_is)
takes_entry bytes e rest fits found = absurd (none-some (e, rest) found)

shrinks_entry : (bytes : List ℕ) (e : Entry) (rest : List ℕ) → front_entry bytes ≡ Some (e, rest) → length rest < length bytes
shrinks_entry (a ∷ b ∷ c ∷ d ∷ k ∷ l ∷ m ∷ n ∷ bytes) e rest found =
    let len = little_number 4 (k ∷ l ∷ m ∷ n ∷ []) in
    let f = entry_at_some (little_number 4 (a ∷ b ∷ c ∷ d ∷ [])) len bytes e rest found in
    let cut : length (drop (padded len) bytes) ≡ length bytes - padded len = length-drop (padded len) bytes in
    let same : length (drop (padded len) bytes) ≡ length rest = ap (λ (r : List ℕ). length r) f.rest_is in
    omega arith
shrinks_entry bytes e rest found = absurd (none-some (e, rest) found)

pub entries : IsFront front_entry entry_bytes IsEntry
entries = record {
  nothing = refl;
  again = again_entry;
  some = λ e fits. omega arith;
  shrinks = shrinks_entry;
  takes = takes_entry;
}

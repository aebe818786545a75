-- The tag at the front of bytes is the tag that is spelled there.
use Rattle.std.proofs.Common.{◌≡◌, ℕ, ◌+◌, ◌-◌, ◌*◌, ◌/◌, ◌%◌, ◌<◌, ◌≤◌, List, [], ◌∷◌, ◌++◌, length, take, drop, Option, Some, None, refl, sym, ap, subst, ◌∙◌, arith, Bool, true, leb, cond}
use Rattle.std.proofs.lemmas.List.{length-append, length-take, length-drop, take_at, drop_at, take-append-drop}
use Rattle.std.proofs.lemmas.Bool.{le-leb, leb-true}
use Rattle.std.proofs.lemmas.Option.{none-some, cond_some}
use Rattle.byteorder.specs.Endian.{little_bytes, little_number}
use Rattle.kernel_args.specs.Tags.{Tag, tag_bytes, IsTag, front_tag}
use Rattle.kernel_args.specs.Faults.{number_at}
use Rattle.kernel_args.specs.Reading.{FrontTag}
use Rattle.kernel_args.proofs.NumberLemmas.{IsBytes, IsBytes-drop, number_again, bytes_again_2}
use Rattle.kernel_args.proofs.JoinedLemmas.{Takes, IsFront}

-- the tag behind its header of eight bytes
abbrev tag_at : List ℕ → ℕ → ℕ → List ℕ → Option (Tag × List ℕ)
tag_at name check size bytes = cond (leb size (length bytes)) (Some (record { name = name; check = check; contents = take size bytes }, drop size bytes)) None

tag_at_joined : (name : List ℕ) (check size : ℕ) (contents rest : List ℕ) → size ≡ length contents
    → tag_at name check size (contents ++ rest) ≡ Some (record { name = name; check = check; contents = contents }, rest)
tag_at_joined name check size contents rest e =
    let long : leb size (length (contents ++ rest)) ≡ true = le-leb _ _ (omega (arith, length-append contents rest)) in
    rw (long, take_at contents rest size (sym e), drop_at contents rest size (sym e)) refl

record Found (name : List ℕ) (check size : ℕ) (bytes : List ℕ) (t : Tag) (rest : List ℕ) : Type 0 where
  long : size ≤ length bytes
  tag : record { name = name; check = check; contents = take size bytes } ≡ t
  rest_is : drop size bytes ≡ rest

tag_at_some : (name : List ℕ) (check size : ℕ) (bytes : List ℕ) (t : Tag) (rest : List ℕ) → tag_at name check size bytes ≡ Some (t, rest) → Found name check size bytes t rest
tag_at_some name check size bytes t rest e =
    let found : Tag × List ℕ = (record { name = name; check = check; contents = take size bytes }, drop size bytes) in
    let g = cond_some (leb size (length bytes)) found (t, rest) e in
    record { long = leb-true _ _ g.0; tag = ap (λ (p : Tag × List ℕ). p.0) g.1; rest_is = ap (λ (p : Tag × List ℕ). p.1) g.1 }

again_at : (name contents rest : List ℕ) (check : ℕ) → length name ≡ 4 → check < 65536 → length contents % 4 ≡ 0 → length contents < 4 * 65536
    → front_tag (tag_bytes (record { name = name; check = check; contents = contents }) ++ rest) ≡ Some (record { name = name; check = check; contents = contents }, rest)
again_at (n ∷ a ∷ m ∷ e ∷ []) contents rest check four small whole short =
    let len = length contents / 4 in
    let size : 4 * little_number 2 (little_bytes 2 len) ≡ length contents = ap (λ (k : ℕ). 4 * k) (number_again 2 len (omega arith)) ∙ omega arith in
    ap (λ (c : ℕ). tag_at (n ∷ a ∷ m ∷ e ∷ []) c (4 * little_number 2 (little_bytes 2 len)) (contents ++ rest)) (number_again 2 check small)
    ∙ tag_at_joined (n ∷ a ∷ m ∷ e ∷ []) check (4 * little_number 2 (little_bytes 2 len)) contents rest size
again_at [] contents rest check four small whole short = absurd (omega arith)
again_at (n ∷ []) contents rest check four small whole short = absurd (omega arith)
again_at (n ∷ a ∷ []) contents rest check four small whole short = absurd (omega arith)
again_at (n ∷ a ∷ m ∷ []) contents rest check four small whole short = absurd (omega arith)
again_at (n ∷ a ∷ m ∷ e ∷ x ∷ xs) contents rest check four small whole short = absurd (omega arith)

takes_at : (bytes : List ℕ) (t : Tag) (rest : List ℕ) → IsBytes bytes → front_tag bytes ≡ Some (t, rest) → Takes tag_bytes IsTag bytes t rest
takes_at (n ∷ a ∷ m ∷ e ∷ c ∷ d ∷ k ∷ l ∷ bytes) t rest fits found =
    let name = n ∷ a ∷ m ∷ e ∷ [] in
    let check = little_number 2 (c ∷ d ∷ []) in
    let len = little_number 2 (k ∷ l ∷ []) in
    let f = tag_at_some name check (4 * len) bytes t rest found in
    let size : length (take (4 * len) bytes) ≡ 4 * len = omega (arith, f.long, length-take (4 * len) bytes) in
    let words : length (take (4 * len) bytes) / 4 ≡ len = omega arith in
    let check_again = bytes_again_2 c d (fits 4) (fits 5) in
    let len_again = bytes_again_2 k l (fits 6) (fits 7) in
    let body : bytes ≡ take (4 * len) bytes ++ drop (4 * len) bytes = sym (take-append-drop (4 * len) bytes) in
    let rest_fits : IsBytes (drop (4 * len) bytes) = IsBytes-drop (4 * len) bytes (IsBytes-drop 8 (n ∷ a ∷ m ∷ e ∷ c ∷ d ∷ k ∷ l ∷ bytes) fits) in
    let framed : List ℕ → List ℕ → List ℕ = λ x y. (name ++ (x ++ (y ++ take (4 * len) bytes))) ++ drop (4 * len) bytes in
    let made : Tag = record { name = name; check = check; contents = take (4 * len) bytes } in
    let whole : Takes tag_bytes IsTag (n ∷ a ∷ m ∷ e ∷ c ∷ d ∷ k ∷ l ∷ bytes) made (drop (4 * len) bytes) = record {
      parts =
          ap (λ (z : List ℕ). n ∷ a ∷ m ∷ e ∷ c ∷ d ∷ k ∷ l ∷ z) body
          ∙ ap (λ (x : List ℕ). framed x (k ∷ l ∷ [])) (sym check_again)
          ∙ ap (λ (y : List ℕ). framed (little_bytes 2 check) y) (sym (ap (little_bytes 2) words ∙ len_again));
      fits = record { name = refl; check = omega (arith, fits 4, fits 5); whole_words = omega arith; size = omega (arith, fits 6, fits 7) };
      rest_bytes = rest_fits;
    } in
    subst (λ (r : List ℕ). Takes tag_bytes IsTag (n ∷ a ∷ m ∷ e ∷ c ∷ d ∷ k ∷ l ∷ bytes) t r) f.rest_is
    (subst (λ (u : Tag). Takes tag_bytes IsTag (n ∷ a ∷ m ∷ e ∷ c ∷ d ∷ k ∷ l ∷ bytes) u (drop (4 * len) bytes)) f.tag whole)
takes_at bytes t rest fits found = absurd (none-some (t, rest) found)

shrinks_at : (bytes : List ℕ) (t : Tag) (rest : List ℕ) → front_tag bytes ≡ Some (t, rest) → length rest < length bytes
shrinks_at (n ∷ a ∷ m ∷ e ∷ c ∷ d ∷ k ∷ l ∷ bytes) t rest found =
    let size = 4 * little_number 2 (k ∷ l ∷ []) in
    let f = tag_at_some (n ∷ a ∷ m ∷ e ∷ []) (little_number 2 (c ∷ d ∷ [])) size bytes t rest found in
    let len : length (drop size bytes) ≡ length bytes - size = length-drop size bytes in
    let same : length (drop size bytes) ≡ length rest = ap (λ (r : List ℕ). length r) f.rest_is in
    omega arith
shrinks_at bytes t rest found = absurd (none-some (t, rest) found)

pub length-tag_bytes : (t : Tag) → length t.name ≡ 4 → length (tag_bytes t) ≡ 8 + length t.contents
length-tag_bytes t four = omega (arith, length-append t.name (little_bytes 2 t.check ++ (little_bytes 2 (length t.contents / 4) ++ t.contents)))

pub tags : IsFront front_tag tag_bytes IsTag
tags = record {
  nothing = refl;
  again = λ t rest fits. again_at t.name t.contents rest t.check fits.name fits.check fits.whole_words fits.size;
  some = λ t fits. omega (arith, length-tag_bytes t fits.name);
  shrinks = shrinks_at;
  takes = takes_at;
}

-- the tag at the front of bytes, by offsets
pub front_tag_at : (bytes : List ℕ) (size : ℕ) → 8 ≤ length bytes → 4 * number_at 2 6 bytes ≡ size → size ≤ length bytes - 8
    → front_tag bytes ≡ Some (record { name = take 4 bytes; check = number_at 2 4 bytes; contents = take size (drop 8 bytes) }, drop size (drop 8 bytes))
front_tag_at (n ∷ a ∷ m ∷ e ∷ c ∷ d ∷ k ∷ l ∷ bytes) size long e' within =
    let name = n ∷ a ∷ m ∷ e ∷ [] in
    let check = little_number 2 (c ∷ d ∷ []) in
    let room : leb size (length bytes) ≡ true = le-leb _ _ (omega arith) in
    ap (λ (s : ℕ). tag_at name check s bytes) e' ∙ ap (λ (b : Bool). cond b (Some (record { name = name; check = check; contents = take size bytes }, drop size bytes)) None) room
front_tag_at [] size long e' within = absurd (omega arith)
front_tag_at (n ∷ []) size long e' within = absurd (omega arith)
front_tag_at (n ∷ a ∷ []) size long e' within = absurd (omega arith)
front_tag_at (n ∷ a ∷ m ∷ []) size long e' within = absurd (omega arith)
front_tag_at (n ∷ a ∷ m ∷ e ∷ []) size long e' within = absurd (omega arith)
front_tag_at (n ∷ a ∷ m ∷ e ∷ c ∷ []) size long e' within = absurd (omega arith)
front_tag_at (n ∷ a ∷ m ∷ e ∷ c ∷ d ∷ []) size long e' within = absurd (omega arith)
front_tag_at (n ∷ a ∷ m ∷ e ∷ c ∷ d ∷ k ∷ []) size long e' within = absurd (omega arith)

-- what a reader by offsets finds
pub front_tag_found : (bytes : List ℕ) (check len : ℕ) (contents rest : List ℕ) → IsBytes bytes → 8 ≤ length bytes → len ≡ number_at 2 6 bytes → 4 * len ≤ length bytes - 8
    → check ≡ number_at 2 4 bytes → contents ≡ take (4 * len) (drop 8 bytes) → rest ≡ drop (4 * len) (drop 8 bytes)
    → FrontTag bytes (record { name = take 4 bytes; check = check; contents = contents }) rest
front_tag_found bytes check len contents rest fits long len_is within check_is contents_is rest_is =
    let found = front_tag_at bytes (4 * len) long (ap (λ (n : ℕ). 4 * n) (sym len_is)) within in
    let made : Tag = record { name = take 4 bytes; check = number_at 2 4 bytes; contents = take (4 * len) (drop 8 bytes) } in
    let took = tags.takes bytes made (drop (4 * len) (drop 8 bytes)) fits found in
    let whole : FrontTag bytes made (drop (4 * len) (drop 8 bytes)) = record { front = found; is_tag = took.fits; parts = took.parts } in
    rw (check_is, contents_is, rest_is) whole

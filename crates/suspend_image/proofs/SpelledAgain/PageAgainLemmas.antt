-- A page and an orphan are read again from their spelling, where their bytes stand at the place that the row says.
use Rattle.std.proofs.Common.{◌≡◌, ℕ, ◌+◌, ◌-◌, ◌≤◌, Bool, true, false, not, cond, eqb, ltb, leb, List, [], ◌∷◌, ◌++◌, length, drop, Option, Some, Ok, Err, refl, sym, ap, subst, ◌∙◌, append_assoc, arith}
use Rattle.std.specs.Prelude.{◌&&◌}
use Rattle.std.proofs.lemmas.Bool.{le-ltb, le-leb, ne_eqb}
use Rattle.std.proofs.lemmas.List.{take_at, drop_at, length-append, length-take, length-drop}
use Rattle.byteorder.specs.Endian.{little_number}
use Rattle.kernel_args.proofs.NumberLemmas.{number_again}
use Rattle.snapshot_rows.specs.declared.state.PageRow.{PageRow}
use Rattle.snapshot_rows.specs.declared.state.OrphanRow.{OrphanRow}
use Rattle.suspend_image.specs.Words.{word, word_bytes}
use Rattle.snapshot_rows.specs.Machines.{contents_at}
use Rattle.suspend_image.specs.Spelling.{page_bytes, orphan_bytes}
use Rattle.suspend_image.specs.Reading.{greatest}
use Rattle.suspend_image.specs.Rows.{page_bytes_at, front_word, is_holder_pid, holder_pid_at, page_at, orphan_at}
use Rattle.suspend_image.specs.Forms.{IsWithin, IsWord, IsField, StandsBefore, IsPageRow, IsOrphanRow}
use Rattle.suspend_image.proofs.SpelledAgain.WordAgainLemmas.{then_ok, words_split, word_first, word_last, in_first, if_first, if_last}
use Rattle.suspend_image.proofs.SpelledAgain.RowAgainLemmas.{read}

-- ---- the bytes of a page

contents_read : (contents rest : List ℕ) (size from : ℕ) → length contents ≡ 4096 → from + 4096 + length rest ≡ size
    → page_bytes_at true size (contents ++ rest) ≡ read from rest
unfolding page_bytes_at
contents_read contents rest size from whole stands =
    let all : length (contents ++ rest) ≡ 4096 + length rest = omega (arith, length-append contents rest) in
    let long : ltb (length (contents ++ rest)) 4096 ≡ false = le-ltb _ _ (omega arith) in
    let place : size - length (contents ++ rest) ≡ from = omega arith in
    rw (long, place, drop_at contents rest 4096 whole) refl

pub contents_again : (there : Bool) (file rest : List ℕ) (from : ℕ) → StandsBefore there (length file) (length rest) from
    → page_bytes_at there (length file) (cond there (contents_at file from) [] ++ rest) ≡ read from rest
unfolding page_bytes_at
contents_again true file rest from stands =
    let whole : length (contents_at file from) ≡ 4096 = omega (arith, length-take 4096 (drop from file), length-drop from file) in
    contents_read (contents_at file from) rest (length file) from whole stands
contents_again false file rest from stands = ap (λ (place : ℕ). read place rest) (sym stands)

-- ---- the holder

pub drop_word : (number : ℕ) (numbers rest : List ℕ) → drop 4 (word_bytes (number ∷ numbers) ++ rest) ≡ word_bytes numbers ++ rest
drop_word number numbers rest = ap (drop 4) (words_split number numbers rest) ∙ drop_at (word number) (word_bytes numbers ++ rest) 4 refl

front_is : (front rest : List ℕ) (number : ℕ) → length front ≡ 4 → little_number 4 front ≡ number → front_word (front ++ rest) ≡ Some number
front_is front rest number four is =
    let long : ltb (length (front ++ rest)) 4 ≡ false = le-ltb _ _ (omega (arith, length-append front rest)) in
    rw (long, take_at front rest 4 four, is) refl

pub front_again : (number : ℕ) (numbers rest : List ℕ) → IsWord number → front_word (word_bytes (number ∷ numbers) ++ rest) ≡ Some number
front_again number numbers rest fits =
    let most = fits.at_most in
    ap front_word (words_split number numbers rest) ∙ front_is (word number) (word_bytes numbers ++ rest) number refl (number_again 4 number (omega arith))

-- whether there is a loan, told by the holder's pid
pub holder_tells : (none : Bool) (n pid : ℕ) → IsField (not none) 2 (n + 1) pid → eqb pid 0 ≡ none
holder_tells true n pid is = let most = is.at_most in let nothing : pid ≡ 0 = omega arith in ap (λ (p : ℕ). eqb p 0) nothing
holder_tells false n pid is = let least = is.at_least in ne_eqb pid 0 (λ same. omega arith)

holder_fits : (none : Bool) (n pid : ℕ) → IsField (not none) 2 (n + 1) pid → cond none (eqb pid 0) (leb 2 pid && leb pid (n + 1)) ≡ true
holder_fits true n pid is = holder_tells true n pid is
holder_fits false n pid is = rw (le-leb 2 pid is.at_least, le-leb pid (n + 1) is.at_most) refl

holder_most : (none : Bool) (n pid : ℕ) → IsField (not none) 2 (n + 1) pid → pid ≤ n + 1
holder_most true n pid is = let most = is.at_most in omega arith
holder_most false n pid is = is.at_most

holder_again : (n pid page kind : ℕ) (numbers rest : List ℕ) → n ≤ 64 → IsWithin 0 2 kind → IsField (not (eqb kind 0)) 2 (n + 1) pid
    → holder_pid_at n (word_bytes (pid ∷ page ∷ kind ∷ numbers) ++ rest) ≡ read pid (word_bytes (page ∷ kind ∷ numbers) ++ rest)
unfolding holder_pid_at
holder_again n pid page kind numbers rest few is_kind is =
    let most = holder_most _ n pid is in
    let kind_most = is_kind.at_most in
    let behind = word_bytes (page ∷ kind ∷ numbers) ++ rest in
    let is_word : IsWord pid = record { at_least = omega arith; at_most = omega arith } in
    let kind_word : IsWord kind = record { at_least = omega arith; at_most = omega arith } in
    let seen : front_word (drop 4 behind) ≡ Some kind = ap front_word (drop_word page (kind ∷ numbers) rest) ∙ front_again kind numbers rest kind_word in
    let right : is_holder_pid n (front_word (drop 4 behind)) pid ≡ true = ap (λ (k : Option ℕ). is_holder_pid n k pid) seen ∙ holder_fits _ n pid is in
    then_ok _ _ _ _ (word_first pid (page ∷ kind ∷ numbers) rest is_word) (ap (λ (b : Bool). cond b (read pid behind) (Err (length (word_bytes (pid ∷ page ∷ kind ∷ numbers) ++ rest)))) right)

-- ---- a page

pub page_again : (file : List ℕ) (n : ℕ) (before : Option (ℕ × ℕ)) (p : PageRow) (rest : List ℕ) → n ≤ 64 → IsPageRow (length file) n before (length rest) p
    → page_at (length file) n before (page_bytes file p ++ rest) ≡ Ok (p, rest)
unfolding page_at page_bytes
page_again file n before p rest few is =
    let contents = cond (ltb p.right 4) (contents_at file p.from) [] in
    let behind = contents ++ rest in
    let words = p.pid ∷ p.page ∷ p.right ∷ p.holder_pid ∷ p.holder_page ∷ p.kind ∷ p.number ∷ [] in
    let same : eqb p.holder_pid 0 ≡ eqb p.kind 0 = holder_tells _ n p.holder_pid is.holder_pid in
    let holder_page : IsField (not (eqb p.holder_pid 0)) 0 greatest p.holder_page = subst (λ (none : Bool). IsField (not none) 0 greatest p.holder_page) (sym same) is.holder_page in
    ap (page_at (length file) n before) (append_assoc (word_bytes words) contents rest)
    ∙ then_ok _ _ _ _ (in_first _ (n + 1) p.pid (p.page ∷ p.right ∷ p.holder_pid ∷ p.holder_page ∷ p.kind ∷ p.number ∷ []) behind (omega arith) is.pid)
    (then_ok _ _ _ _ (in_first _ greatest p.page (p.right ∷ p.holder_pid ∷ p.holder_page ∷ p.kind ∷ p.number ∷ []) behind (omega arith) is.page)
    (then_ok _ _ _ _ (in_first 0 7 p.right (p.holder_pid ∷ p.holder_page ∷ p.kind ∷ p.number ∷ []) behind (omega arith) is.right)
    (then_ok _ _ _ _ (holder_again n p.holder_pid p.holder_page p.kind (p.number ∷ []) behind few is.kind is.holder_pid)
    (then_ok _ _ _ _ (if_first _ 0 greatest p.holder_page (p.kind ∷ p.number ∷ []) behind (omega arith) holder_page)
    (then_ok _ _ _ _ (in_first 0 2 p.kind (p.number ∷ []) behind (omega arith) is.kind)
    (then_ok _ _ _ _ (if_last _ 0 greatest p.number behind (omega arith) is.number)
    (then_ok _ _ _ _ (contents_again _ file rest p.from is.from) refl)))))))

-- ---- an orphan

pub orphan_again : (file : List ℕ) (n : ℕ) (before : Option (ℕ × ℕ)) (o : OrphanRow) (rest : List ℕ) → n ≤ 64 → IsOrphanRow (length file) n before (length rest) o
    → orphan_at (length file) n before (orphan_bytes file o ++ rest) ≡ Ok (o, rest)
unfolding orphan_at orphan_bytes
orphan_again file n before o rest few is =
    let contents = contents_at file o.from in
    let behind = contents ++ rest in
    let words = o.pid ∷ o.page ∷ o.kind ∷ o.number ∷ [] in
    ap (orphan_at (length file) n before) (append_assoc (word_bytes words) contents rest)
    ∙ then_ok _ _ _ _ (in_first _ (n + 1) o.pid (o.page ∷ o.kind ∷ o.number ∷ []) behind (omega arith) is.pid)
    (then_ok _ _ _ _ (in_first _ greatest o.page (o.kind ∷ o.number ∷ []) behind (omega arith) is.page)
    (then_ok _ _ _ _ (in_first 1 2 o.kind (o.number ∷ []) behind (omega arith) is.kind)
    (then_ok _ _ _ _ (word_last o.number behind is.number)
    (then_ok _ _ _ _ (contents_again true file rest o.from is.from) refl))))

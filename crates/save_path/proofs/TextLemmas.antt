-- The texts of places, one place more at a time. Each has its own words, whatever bytes were read.
use Rattle.std.proofs.Common.{◌≡◌, ℕ, zero, suc, ◌+◌, ◌*◌, ◌≤◌, Bool, true, false, List, [], ◌++◌, map, length, Option, Some, None, refl, sym, ap, subst, ◌∙◌, append-nil, arith}
use Rattle.std.specs.Prelude.{is_some, if◌then◌else◌}
use Rattle.std.specs.List.{flat_map}
use Rattle.std.specs.Option.{option_map}
use Rattle.std.proofs.lemmas.Grind.{flat_map-append}
use Rattle.std.proofs.lemmas.List.{length-append, length-map, map-append}
use Rattle.ledger_model.specs.Ledger.{Console, Bytes, Contents, Ledger, Orphan, Page}
use Rattle.ledger_model.specs.Loans.{bare, bare_contents, bare_orphan, bare_page}
use Rattle.ledger_model.specs.Places.{place_at}
use Rattle.suspend_image.specs.Sheets.{SheetBytes, appended, with_bytes, with_word}
use Rattle.suspend_image.specs.Spelling.{orphan_words, page_words}
use Rattle.suspend_image.specs.Words.{word}
use Rattle.suspend_image.proofs.Sheets.SpellingLemmas.{both_appended, none_appended}
use Rattle.snapshot_rows.specs.declared.state.PageRow.{PageRow}
use Rattle.xk_base.specs.declared.ids.Place.{Place}
use Rattle.xk_base.specs.declared.pages.Right.{Right}
use Rattle.save_path.specs.Pages.{AppendsText, text_if}
use Rattle.save_path.specs.Rows.{PageText, home_at, home_text, listed, orphan_at, orphan_text, rows_below, text_bytes, text_words}
use Rattle.suspend_image.specs.SavedRows.{orphan_row, page_row, right_number}
use Rattle.save_path.specs.Written.{AppendsTexts, Fits}
use Rattle.save_path.proofs.RowsBelowLemmas.{length_listed, length-grows, rows-next, rows-suc, rows-zero}
use Rattle.save_path.proofs.SheetLemmas.{length-numbered, numbered}

-- ---- words don't tell of bytes

right_bare : (right : Right) (c : Contents) → right_number right (bare_contents c) ≡ right_number right c
right_bare right Console = refl
right_bare right (Bytes bytes) = refl

row_bare : (p : Place) (page : Page) → page_row 0 p (bare_page page) ≡ page_row 0 p page
row_bare p page = ap (λ n. record (page_row 0 p page) { right = n }) (right_bare page.right page.contents)

home_words_bare : (p : Place) (o : Option Page) → option_map text_words (option_map (home_text p) o) ≡ option_map (λ page. page_words (page_row 0 p page))
    (option_map bare_page o)
home_words_bare p None = refl
home_words_bare p (Some page) = ap (λ (row : PageRow). Some (page_words row)) (sym (row_bare p page))

orphan_words_bare : (p : Place) (o : Option Orphan)
    → option_map text_words (option_map (orphan_text p) o) ≡ option_map (λ orphan. orphan_words (orphan_row 0 p orphan)) (option_map bare_orphan o)
orphan_words_bare p None = refl
orphan_words_bare p (Some orphan) = refl

bare_home : (a b : Ledger) → bare a ≡ bare b → (p : Place) → option_map bare_page (a.home p) ≡ option_map bare_page (b.home p)
unfolding bare
bare_home a b e p = ap (λ (l : Ledger). l.home p) e

bare_orphan_at : (a b : Ledger) → bare a ≡ bare b → (p : Place) → option_map bare_orphan (a.orphan p) ≡ option_map bare_orphan (b.orphan p)
unfolding bare
bare_orphan_at a b e p = ap (λ (l : Ledger). l.orphan p) e

-- so ledgers that are alike without bytes have the same words at each place
pub home_alike : (a b : Ledger) → bare a ≡ bare b → (k : ℕ) → option_map text_words (home_at a k) ≡ option_map text_words (home_at b k)
home_alike a b e k =
    let p = place_at k in
    home_words_bare p (a.home p) ∙ ap (option_map (λ (page : Page). page_words (page_row 0 p page))) (bare_home a b e p) ∙ sym (home_words_bare p (b.home p))

pub orphan_alike : (a b : Ledger) → bare a ≡ bare b → (k : ℕ) → option_map text_words (orphan_at a k) ≡ option_map text_words (orphan_at b k)
orphan_alike a b e k =
    let p = place_at k in
    orphan_words_bare p (a.orphan p) ∙ ap (option_map (λ (orphan : Orphan). orphan_words (orphan_row 0 p orphan))) (bare_orphan_at a b e p)
    ∙ sym (orphan_words_bare p (b.orphan p))

words_listed : (o : Option PageText) → map text_words (listed o) ≡ listed (option_map text_words o)
words_listed None = refl
words_listed (Some text) = refl

is_some-words : (o : Option PageText) → is_some (option_map text_words o) ≡ is_some o
is_some-words None = refl
is_some-words (Some text) = refl

-- .. and in all rows
pub texts_alike : (f g : ℕ → Option PageText) (n : ℕ) → ((k : ℕ) → option_map text_words (f k) ≡ option_map text_words (g k))
    → map text_words (rows_below n f) ≡ map text_words (rows_below n g)
texts_alike f g zero alike = ap (λ (xs : List PageText). map text_words xs) (rows-zero f ∙ sym (rows-zero g))
texts_alike f g (suc n) alike =
    ap (λ (xs : List PageText). map text_words xs) (rows-suc f n) ∙ map-append text_words (rows_below n f) (listed (f n))
    ∙ ap (λ (xs : List (List ℕ)). xs ++ map text_words (listed (f n))) (texts_alike f g n alike)
    ∙ ap (λ (xs : List (List ℕ)). map text_words (rows_below n g) ++ xs) (words_listed (f n) ∙ ap listed (alike n) ∙ sym (words_listed (g n)))
    ∙ sym (map-append text_words (rows_below n g) (listed (g n)))
    ∙ ap (λ (xs : List PageText). map text_words xs) (sym (rows-suc g n))

-- ---- the loop

bytes_listed : (o : Option PageText) → flat_map text_bytes (listed o) ≡ text_if o
bytes_listed None = refl
bytes_listed (Some text) = append-nil (text_bytes text)

-- nothing is written where there is no page
text_few : (o : Option PageText) (there : Bool) → is_some o ≡ there → length (text_if o) ≤ 4124 → length (text_if o) ≤ 4124 * (if there then 1 else 0)
text_few None there e few = omega arith
text_few (Some text) there e few = subst (λ (b : Bool). length (text_bytes text) ≤ 4124 * (if b then 1 else 0)) e few

-- The texts of the places below k were appended, and counted.
pub record HasTexts (known : Type 0) (row : ℕ → Option PageText) (k : ℕ) (start sheet : SheetBytes) (many : ℕ) : Type 0 where
  pub written : List PageText
  pub count : many ≡ length (rows_below k row)
  pub alike : map text_words written ≡ map text_words (rows_below k row)
  pub told : known → written ≡ rows_below k row
  pub is : sheet ≡ appended (flat_map text_bytes written) start
  pub few : length (flat_map text_bytes written) ≤ 4124 * many
  pub below : many ≤ k

pub texts_none : (known : Type 0) (row : ℕ → Option PageText) (start : SheetBytes) → HasTexts known row 0 start start 0
texts_none known row start =
    let count = ap (λ (xs : List PageText). length xs) (rows-zero row) in
    record {
      written = [];
      count = sym count;
      alike = ap (λ (xs : List PageText). map text_words xs) (sym (rows-zero row));
      told = λ _. sym (rows-zero row);
      is = none_appended start;
      few = omega arith;
      below = omega arith;
    }

pub texts_next : (known here : Type 0) (row now : ℕ → Option PageText) (k : ℕ) (start sheet new : SheetBytes) (many : ℕ) (there : Bool)
    → HasTexts known row k start sheet many → AppendsText here sheet new (now k) there → option_map text_words (now k) ≡ option_map text_words (row k)
    → (known → here) → (known → now k ≡ row k) → HasTexts known row (k + 1) start new (many + (if there then 1 else 0))
texts_next known here row now k start sheet new many there texts text alike knows same =
    let old = texts.written in
    let next = rows-next row k in
    let count = ap (λ (xs : List PageText). length xs) next ∙ length-append (rows_below k row) (listed (row k)) in
    let one = length_listed (row k) in
    let is_there : there ≡ is_some (row k) = text.there ∙ sym (is_some-words (now k)) ∙ ap is_some alike ∙ is_some-words (row k) in
    let flag : (if there then 1 else 0) ≡ length (listed (row k)) = ap (λ (b : Bool). if b then 1 else 0) is_there ∙ sym one in
    let bytes : flat_map text_bytes (old ++ listed text.written) ≡ flat_map text_bytes old ++ text_if text.written =
    flat_map-append text_bytes old (listed text.written) ∙ ap (λ (bs : List ℕ). flat_map text_bytes old ++ bs) (bytes_listed text.written) in
    let told_many = texts.count in
    let low = texts.below in
    let at_most = small there in
    let size = ap (λ (bs : List ℕ). length bs) bytes ∙ length-append (flat_map text_bytes old) (text_if text.written) in
    let so_far = texts.few in
    let written_there : is_some text.written ≡ there =
    sym (is_some-words text.written) ∙ ap is_some text.alike ∙ is_some-words (now k) ∙ sym text.there in
    let more = text_few text.written there written_there text.few in
    record {
      written = old ++ listed text.written;
      count = omega arith;
      alike = map-append text_words old (listed text.written)
          ∙ ap (λ (xs : List (List ℕ)). xs ++ map text_words (listed text.written)) texts.alike
          ∙ ap (λ (xs : List (List ℕ)). map text_words (rows_below k row) ++ xs)
          (words_listed text.written ∙ ap listed (text.alike ∙ alike) ∙ sym (words_listed (row k)))
          ∙ sym (map-append text_words (rows_below k row) (listed (row k)))
          ∙ ap (λ (xs : List PageText). map text_words xs) (sym next);
      told = λ is_known. ap (λ (xs : List PageText). xs ++ listed text.written) (texts.told is_known)
          ∙ ap (λ (o : Option PageText). rows_below k row ++ listed o) (text.told (knows is_known) ∙ same is_known) ∙ sym next;
      is = text.is ∙ ap (λ (s : SheetBytes). appended (text_if text.written) s) texts.is ∙ both_appended start (flat_map text_bytes old) (text_if text.written)
          ∙ ap (λ (bs : List ℕ). appended bs start) (sym bytes);
      few = omega arith;
      below = omega arith;
    }
  where
    small : (b : Bool) → (if b then 1 else 0) ≤ 1
    small true = omega arith
    small false = omega arith

-- as the loop has it
pub texts_first : (known : Type 0) (row : ℕ → Option PageText) (start sheet : SheetBytes) → sheet ≡ start → HasTexts known row 0 start sheet 0
texts_first known row start sheet is = subst (λ (s : SheetBytes). HasTexts known row 0 start s 0) (sym is) (texts_none known row start)

pub texts_counted : (known here : Type 0) (row now : ℕ → Option PageText) (k : ℕ) (start sheet new : SheetBytes) (many more : ℕ) (there : Bool)
    → HasTexts known row k start sheet many → AppendsText here sheet new (now k) there → option_map text_words (now k) ≡ option_map text_words (row k)
    → (known → here) → (known → now k ≡ row k) → more ≡ (if there then 1 else 0) → HasTexts known row (k + 1) start new (many + more)
texts_counted known here row now k start sheet new many more there texts text alike knows same one =
    subst (λ n. HasTexts known row (k + 1) start new (many + n)) (sym one) (texts_next known here row now k start sheet new many there texts text alike knows
    same)

-- room for one more, and one to spare
pub texts_room : (known : Type 0) (row : ℕ → Option PageText) (k n : ℕ) (start sheet : SheetBytes) (many : ℕ) → HasTexts known row k start sheet many → k ≤ n
    → Fits start (4124 * (length (rows_below n row) + 1)) → Fits sheet 4124
texts_room known row k n start sheet many texts low fits =
    let same = ap (λ (s : SheetBytes). length s.bytes) texts.is in
    let wide = ap (λ (s : SheetBytes). s.room) texts.is in
    let both = length-append start.bytes (flat_map text_bytes texts.written) in
    let few = texts.few in
    let told = texts.count in
    let grows = length-grows row k n low in
    let room = fits.room in
    let words = fits.few in
    record { room = omega arith; few = omega arith }

texts_all : (known : Type 0) (row : ℕ → Option PageText) (n : ℕ) (old sheet new : SheetBytes) (many : ℕ)
    → HasTexts known row n (appended (word 0) old) sheet many
    → new ≡ with_bytes (with_word (length old.bytes) many sheet.bytes) sheet → AppendsTexts known old new (rows_below n row)
texts_all known row n old sheet new many texts is =
    let written = texts.written in
    let same : length written ≡ length (rows_below n row) =
    sym (length-map written text_words) ∙ ap (λ (xs : List (List ℕ)). length xs) texts.alike ∙ length-map (rows_below n row) text_words in
    let size = length-numbered text_bytes written in
    let few = texts.few in
    let told = texts.count in
    record {
      written = written;
      alike = texts.alike;
      told = texts.told;
      is = is ∙ numbered text_bytes written old sheet many (texts.count ∙ sym same) texts.is;
      few = omega arith;
    }

pub texts_done : (known : Type 0) (row : ℕ → Option PageText) (k n : ℕ) (old sheet new : SheetBytes) (many at : ℕ)
    → HasTexts known row k (appended (word 0) old) sheet many → k ≡ n
    → at ≡ length old.bytes → new ≡ with_bytes (with_word at many sheet.bytes) sheet → AppendsTexts known old new (rows_below n row)
texts_done known row k n old sheet new many at texts end place is =
    texts_all known row n old sheet new many (subst (λ j. HasTexts known row j (appended (word 0) old) sheet many) end texts)
    (is ∙ ap (λ p. with_bytes (with_word p many sheet.bytes) sheet) place)

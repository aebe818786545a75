-- What a name is told as, by whether its words or their bytes are letters.
use Rattle.std.proofs.Common.{◌≡◌, ℕ, Bool, true, false, List, sym, ap, ◌∙◌}
use Rattle.std.specs.Prelude.{if◌then◌else◌}
use Rattle.std.specs.List.{list_all}
use Rattle.order_text.specs.Names.{is_letter, name_text, packed_letters, packed_text, without_blanks}

pub one_letter_each : (words : List ℕ) → list_all is_letter words ≡ true → words ≡ name_text (record { 0 = words })
unfolding name_text
one_letter_each words are =
    sym (ap (λ (b : Bool). if b then words else packed_text (without_blanks (packed_letters words)) words) are)

pub four_letters_each : (words letters : List ℕ) → list_all is_letter words ≡ false → letters ≡ without_blanks (packed_letters words)
    → packed_text letters words ≡ name_text (record { 0 = words })
unfolding name_text
four_letters_each words letters arent same =
    ap (λ (xs : List ℕ). packed_text xs words) same
    ∙ sym (ap (λ (b : Bool). if b then words else packed_text (without_blanks (packed_letters words)) words) arent)

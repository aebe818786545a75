use Rattle.std.proofs.Common.{ℕ, List, get_or, ap}
use Rattle.trace_text.proofs.PairLemmas.{pairs_of_word}
use Rattle.trace_text.proofs.digits.word_digits.Goals as goal

pub returns-clause-text : goal.returns-clause-text
returns-clause-text c =
    let bytes = c.to_be_bytes.result in
    rw (c.to_le_bytes.ensures, c.to_le_bytes-2.ensures, c.to_le_bytes-3.ensures, c.to_le_bytes-4.ensures)
    (pairs_of_word c.args.word (get_or bytes 0 0) (get_or bytes 1 0) (get_or bytes 2 0) (get_or bytes 3 0)
    (ap (λ (xs : List ℕ). get_or xs 0 0) c.to_be_bytes.ensures) (ap (λ (xs : List ℕ). get_or xs 1 0) c.to_be_bytes.ensures)
    (ap (λ (xs : List ℕ). get_or xs 2 0) c.to_be_bytes.ensures) (ap (λ (xs : List ℕ). get_or xs 3 0) c.to_be_bytes.ensures))

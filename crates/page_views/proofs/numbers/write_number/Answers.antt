use Rattle.std.proofs.Common.{◌≡◌, ◌%◌, List, ℕ, [], ◌∷◌, get_or, ap, sym, subst, ◌∙◌, arith}
use Rattle.xk_base.specs.UserMemory.{size_of, low_bytes}
use Rattle.ledger_model.specs.Steps.{written}
use Rattle.page_views.proofs.ByteWriteLemmas.{set_four}
use Rattle.page_views.proofs.numbers.write_number.Goals as goal

pub returns-in-Word : goal.returns-in-Word
returns-in-Word c =
    let xs = c.args.page.now in
    let even : c.args.offset % 4 ≡ 0 = subst (λ w. c.args.offset % size_of w ≡ 0) c.in-Word.is c.requires.aligned in
    set_four xs c.args.offset (get_or c.to_le_bytes.result 0 0) (get_or c.to_le_bytes.result 1 0) (get_or c.to_le_bytes.result 2 0) (get_or c.to_le_bytes.result 3 0)
    (omega (arith, c.requires.whole))
    ∙ ap (λ (bs : List ℕ). written xs c.args.offset (get_or bs 0 0 ∷ (get_or bs 1 0 ∷ (get_or bs 2 0 ∷ (get_or bs 3 0 ∷ []))))) c.to_le_bytes.ensures
    ∙ ap (λ w. written xs c.args.offset (low_bytes w c.args.value)) (sym c.in-Word.is)

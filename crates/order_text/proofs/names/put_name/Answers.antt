use Rattle.std.proofs.Common.{◌≡◌, ◌++◌, ◌∙◌, ℕ, List, OnOk, ap, subst, sym}
use Rattle.order_text.specs.Names.{without_blanks}
use Rattle.order_text.proofs.NameLemmas.{four_letters_each, one_letter_each}
use Rattle.order_text.proofs.names.put_name.Goals as goal

pub returns-then-are_letters : goal.returns-then-are_letters
returns-then-are_letters c =
    subst (λ (more : List ℕ). OnOk c.put_letters.result (c.put_letters.new.text.items ≡ c.args.text.now.items ++ more))
    (one_letter_each c.args.sid.now (sym c.are_letters.ensures ∙ c.if-are_letters.true)) c.put_letters.ensures

pub returns : goal.returns
returns c =
    let letters : c.without_blanks.result.now ≡ without_blanks c.in_ok-letters.letters.items =
    c.without_blanks.ensures ∙ ap without_blanks c.deref.ensures.value in
    subst (λ (more : List ℕ). OnOk c.put_packed.result (c.put_packed.new.text.items ≡ c.args.text.now.items ++ more))
    (four_letters_each c.args.sid.now c.without_blanks.result.now (sym c.are_letters.ensures ∙ c.if-are_letters.false)
    (letters ∙ ap without_blanks c.in_ok-letters.ensures))
    c.put_packed.ensures

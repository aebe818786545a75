use Rattle.std.proofs.Common.{◌≡◌, ◌∙◌, refl, sym, length, take, drop, length-take, length-drop, rules}
use borrow.Rule.Slice.PartMut.{same_len_mid}
use Rattle.xk_base.proofs.registers.Regs.set_arguments.Goals as goal

pub returns-clause-len : goal.returns-clause-len
returns-clause-len c =
    let old = c.self.inside.words in
    let whole : length old ≡ 32 = search rules in
    let room : length (take 8 (drop 10 old)) ≡ 8 = length-take 8 (drop 10 old) ∙ rw (length-drop 10 old, whole) refl in
    let put : length c.copy_from_slice.new.self ≡ 8 = search rules in
    same_len_mid 10 8 old c.copy_from_slice.new.self (put ∙ sym room) ∙ whole

use Rattle.std.proofs.Common.{◌≡◌, ◌∙◌, ◌+◌, ◌≤◌, drop, get_or, length-drop, sym, ap, arith}
use borrow.Author.Count.{below_more}
use Rattle.std.proofs.Math.ListN.{set, length-set}
use Rattle.std.proofs.lemmas.List.{ext_get_or, get_or-drop, get_or-set_other, get_or-set_same}
use Rattle.suspend_image.specs.Reading.{greatest}
use Rattle.save_path.proofs.FittingLemmas.{registers_are}
use Rattle.save_path.proofs.threads.registers.Goals as goal

pub loop-k-preserved : goal.loop-k-preserved
loop-k-preserved c =
    let words = c.loop-k.words in
    let size = c.loop-k.invariant.size in
    let len = c.get.ensures.len in
    let first = c.get.ensures.zero in
    record {
      same = below_more (λ j. get_or (set words c.loop-k.k c.get.result) j 0 ≡ get_or c.args.regs.now (j + 1) 0) c.loop-k.k
          (λ j low. get_or-set_other words c.loop-k.k j c.get.result 0 (λ same. let bad : j ≡ c.loop-k.k = same in absurd (omega arith))
          ∙ c.loop-k.invariant.same j low)
          (get_or-set_same words c.loop-k.k c.get.result 0 (omega arith) ∙ c.get.ensures.value);
      size = length-set words c.loop-k.k c.get.result ∙ size;
      all = λ _. len;
      first = λ _. first;
      words = below_more (λ j. get_or c.args.regs.now (j + 1) 0 ≤ greatest) c.loop-k.k c.loop-k.invariant.words (let is = c.get.ensures.value in omega arith);
    }

pub returns-clause-are : goal.returns-clause-are
returns-clause-are c =
    let size = c.loop-k.invariant.size in
    let end : c.loop-k.k ≡ 31 = omega arith in
    let all = c.loop-k.invariant.all (omega arith) in
    let rest = length-drop 1 c.args.regs.now in
    ext_get_or 0 c.loop-k.words (drop 1 c.args.regs.now) (omega arith)
    (λ i low. c.loop-k.invariant.same i (omega arith) ∙ ap (λ n. get_or c.args.regs.now n 0) (let e : i + 1 ≡ 1 + i = omega arith in e)
    ∙ sym (get_or-drop 1 c.args.regs.now i 0))

pub returns-clause-fit : goal.returns-clause-fit
returns-clause-fit c =
    let end : c.loop-k.k ≡ 31 = omega arith in
    registers_are c.args.regs.now (c.loop-k.invariant.all (omega arith)) (c.loop-k.invariant.first (omega arith))
    (λ j low. c.loop-k.invariant.words j (omega arith))

use Rattle.std.proofs.Common.{◌≡◌, ◌*◌, ap, arith, subst, ◌∙◌}
use Rattle.phys_pages.specs.Ram.{Area, IsPlaced, word_in}
use Rattle.sv32_space.specs.SpelledEntries.{entry_spelled}
use Rattle.sv32_space.specs.Tables.{is_console_entry}
use Rattle.sv32_space.proofs.TableLemmas.{IsSeen, low_word, seen_next, seen_none}
use Rattle.sv32_space.proofs.tables.any_console.Goals as goal

pub returns-then-below-clause-none : goal.returns-then-below-clause-none
returns-then-below-clause-none c = λ a k placed none low. low_word a (word_in c.args.table.now (4 * k)) placed
    (omega (arith, c.all_bits-below.ensures k low, c.if-below.true))

pub loop-i-init : goal.loop-i-init
loop-i-init c = λ a placed. seen_none a c.args.table.now

pub loop-i-preserved : goal.loop-i-preserved
loop-i-preserved c = λ a placed. seen_next a c.args.table.now c.loop-i.i c.loop-i.found c.is_console-found.result (c.loop-i.invariant a placed)
    (c.is_console-found.ensures a placed ∙ ap (λ w. is_console_entry (entry_spelled a w)) c.entry_word.ensures)

-- all words of the table are seen
seen_all : (c : goal.After-loop-i) → (a : Area) → IsPlaced a → IsSeen a c.args.table.now 1024 c.loop-i.found
seen_all c a placed =
    let all : c.loop-i.i ≡ 1024 = omega (arith, c.loop-i.auto.i-end, c.loop-i-test.false) in
    subst (λ n. IsSeen a c.args.table.now n c.loop-i.found) all (c.loop-i.invariant a placed)

pub returns-clause-found : goal.returns-clause-found
returns-clause-found c = λ a placed. (seen_all c a placed).some

pub returns-clause-none : goal.returns-clause-none
returns-clause-none c = λ a k placed. (seen_all c a placed).none k

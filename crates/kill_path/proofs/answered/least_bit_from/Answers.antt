use Rattle.std.proofs.Common.{rules, ◌<◌, ◌/◌, ◌^◌, arith}
use Rattle.thread_table.proofs.TidLemmas.{least_few, least_has, none_before, none_from}
use Rattle.kill_path.proofs.answered.least_bit_from.Goals as goal

pub returns-then-left-eq0-clause-none : goal.returns-then-left-eq0-clause-none
returns-then-left-eq0-clause-none c = none_from c.args.word c.args.from c.if-left-eq0.true

pub returns-else-left-eq0-clause-found : goal.returns-else-left-eq0-clause-found
returns-else-left-eq0-clause-found c =
    let some : 0 < c.args.word / 2 ^ c.args.from = omega (arith, c.if-left-eq0.false) in
    let fits : c.args.word < 4294967296 = search rules in
    (omega arith, least_few c.args.word c.args.from some fits, least_has c.args.word c.args.from some fits)

pub returns-else-left-eq0-clause-first : goal.returns-else-left-eq0-clause-first
returns-else-left-eq0-clause-first c =
    let some : 0 < c.args.word / 2 ^ c.args.from = omega (arith, c.if-left-eq0.false) in
    let fits : c.args.word < 4294967296 = search rules in
    none_before c.args.word c.args.from some fits

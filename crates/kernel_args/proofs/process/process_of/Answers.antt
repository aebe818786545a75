use Rattle.std.proofs.Common.{arith, ap, ◌∙◌, subst, sym}
use Rattle.std.proofs.lemmas.List.{take_rest}
use Rattle.byteorder.specs.Endian.{little_number}
use Rattle.kernel_args.specs.Reading.{GivesSections, FrontCheck}
use Rattle.kernel_args.proofs.ProcessLemmas.{spells_process}
use Rattle.kernel_args.proofs.process.process_of.Goals as goal

pub returns-in-Some-2 : goal.returns-in-Some-2
returns-in-Some-2 c =
    let version = c.args.version in
    let contents = c.args.contents.now in
    let check = c.in-Some.check in
    let behind = c.in-Some.sections.now in
    let given = subst (GivesSections behind) c.in-Some-2.is c.in_ok-sections_of.ensures in
    let found = subst (λ l. FrontCheck version l check behind) c.split_at.ensures.back c.in-Some.ensures in
    spells_process version contents c.read_u32-load.result c.read_u32-entry.result check behind c.in-Some-2.sections (λ i. omega (arith, c.type_inv.contents i)) c.requires
    (sym c.is_bad_length.ensures ∙ c.if-is_bad_length.false) c.read_u32-load.ensures (c.read_u32-entry.ensures ∙ ap (little_number 4) (take_rest contents 4)) found given.0 given.1

use Rattle.std.proofs.Common.{◌≡◌, length, arith}
use Rattle.std.specs.Prelude.{is_some}
use Rattle.phys_pages.specs.Ram.{with_page}
use Rattle.sv32_space.proofs.Agreeing.TieLemmas.{stands_agreeing}
use Rattle.loan_flags.specs.Keeping.{tables}
use Rattle.swap_map.specs.Moving.{StaysPut}
use Rattle.swap_map.proofs.ExchangeLemmas.{brought_moves, brought_pages, brought_rights, brought_sizes, brought_whole, filled_agrees, filled_others, filled_sizes, filled_stays, known_honest, known_told, on_err, unfilled_rights, unfilled_whole}
use Rattle.swap_map.proofs.exchanges.bring.Goals as goal

pub returns-in_err-get_page-clause-agrees : goal.returns-in_err-get_page-clause-agrees
returns-in_err-get_page-clause-agrees g c =
    let whole : length c.get_page.new.into ≡ 4096 = omega (arith, c.get_page.auto.into, c.page_mut.ensures.len) in
    filled_agrees c.args.ram.now c.args.owners.now c.requires.agrees c.args.into c.requires.frame c.get_page.new.into whole

pub returns-in_err-get_page-clause-err : goal.returns-in_err-get_page-clause-err
returns-in_err-get_page-clause-err g c =
    let whole : length c.get_page.new.into ≡ 4096 = omega (arith, c.get_page.auto.into, c.page_mut.ensures.len) in
    on_err c.from_residual.result
    (StaysPut (tables c.args.ram.now c.args.owners.now) (tables (with_page c.args.ram.now c.args.into.0 c.get_page.new.into) c.args.owners.now))
    (filled_stays c.args.ram.now c.args.owners.now c.requires.agrees c.args.into c.requires.frame c.get_page.new.into whole)

pub returns-in_err-get_page-clause-sizes : goal.returns-in_err-get_page-clause-sizes
returns-in_err-get_page-clause-sizes g c =
    let whole : length c.get_page.new.into ≡ 4096 = omega (arith, c.get_page.auto.into, c.page_mut.ensures.len) in
    filled_sizes c.args.ram.now c.args.owners.now c.requires.agrees c.args.into c.requires.frame c.get_page.new.into whole

pub returns-in_err-get_page-clause-pages : goal.returns-in_err-get_page-clause-pages
returns-in_err-get_page-clause-pages g c =
    let whole : length c.get_page.new.into ≡ 4096 = omega (arith, c.get_page.auto.into, c.page_mut.ensures.len) in
    λ f low apart. filled_others c.args.ram.now c.args.owners.now c.requires.agrees c.args.into c.requires.frame c.get_page.new.into whole f apart

pub returns-in_err-get_page-clause-rights : goal.returns-in_err-get_page-clause-rights
returns-in_err-get_page-clause-rights g c =
    let whole : length c.get_page.new.into ≡ 4096 = omega (arith, c.get_page.auto.into, c.page_mut.ensures.len) in
    unfilled_rights c.args.ram.now c.args.owners.now c.requires.agrees c.args.from c.args.into c.requires.frame c.requires.free c.get_page.new.into whole
    (g.W.SwapStore.held c.args.store.now) (g.W.SwapStore.held c.get_page.new.self)

pub returns-in_err-get_page-clause-whole : goal.returns-in_err-get_page-clause-whole
returns-in_err-get_page-clause-whole g c =
    let whole : length c.get_page.new.into ≡ 4096 = omega (arith, c.get_page.auto.into, c.page_mut.ensures.len) in
    λ known.
    unfilled_whole c.args.ram.now c.args.owners.now c.requires.agrees c.args.from c.args.into c.requires.frame c.requires.free c.get_page.new.into whole
    (g.W.SwapStore.held c.args.store.now) (g.W.SwapStore.held c.get_page.new.self)
    (c.get_page.ensures.same (known_honest (g.W.SwapStore.is_honest c.args.store.now) (is_some (g.W.SwapStore.held c.args.store.now)) known))

pub returns-in_err-get_page-clause-stands : goal.returns-in_err-get_page-clause-stands
returns-in_err-get_page-clause-stands g c =
    let whole : length c.get_page.new.into ≡ 4096 = omega (arith, c.get_page.auto.into, c.page_mut.ensures.len) in
    stands_agreeing (with_page c.args.ram.now c.args.into.0 c.get_page.new.into) c.args.owners.now (g.W.SwapStore.held c.get_page.new.self)
    (filled_agrees c.args.ram.now c.args.owners.now c.requires.agrees c.args.into c.requires.frame c.get_page.new.into whole)

pub move_page-requires-clause-agrees : goal.move_page-requires-clause-agrees
move_page-requires-clause-agrees g c =
    let whole : length c.get_page.new.into ≡ 4096 = omega (arith, c.get_page.auto.into, c.page_mut.ensures.len) in
    filled_agrees c.args.ram.now c.args.owners.now c.requires.agrees c.args.into c.requires.frame c.get_page.new.into whole

pub returns-clause-ok : goal.returns-clause-ok
returns-clause-ok g c =
    let whole : length c.get_page.new.into ≡ 4096 = omega (arith, c.get_page.auto.into, c.page_mut.ensures.len) in
    brought_moves c.args.ram.now c.args.owners.now c.requires.agrees c.args.from c.args.into c.requires.frame c.requires.free c.get_page.new.into whole
    c.move_page.new.ram c.move_page.new.owners c.requires.used c.move_page.ensures.moves c.move_page.ensures.pages

pub returns-clause-sizes : goal.returns-clause-sizes
returns-clause-sizes g c =
    let whole : length c.get_page.new.into ≡ 4096 = omega (arith, c.get_page.auto.into, c.page_mut.ensures.len) in
    brought_sizes c.args.ram.now c.args.owners.now c.requires.agrees c.args.from c.args.into c.requires.frame c.requires.free c.get_page.new.into whole
    c.move_page.new.ram c.move_page.new.owners c.requires.used c.move_page.ensures.moves c.move_page.ensures.pages c.move_page.ensures.sizes

pub returns-clause-pages : goal.returns-clause-pages
returns-clause-pages g c =
    let whole : length c.get_page.new.into ≡ 4096 = omega (arith, c.get_page.auto.into, c.page_mut.ensures.len) in
    brought_pages c.args.ram.now c.args.owners.now c.requires.agrees c.args.from c.args.into c.requires.frame c.requires.free c.get_page.new.into whole
    c.move_page.new.ram c.move_page.new.owners c.requires.used c.move_page.ensures.moves c.move_page.ensures.pages

pub returns-clause-rights : goal.returns-clause-rights
returns-clause-rights g c =
    let whole : length c.get_page.new.into ≡ 4096 = omega (arith, c.get_page.auto.into, c.page_mut.ensures.len) in
    brought_rights c.args.ram.now c.args.owners.now c.requires.agrees c.args.from c.args.into c.requires.frame c.requires.free c.get_page.new.into whole
    c.move_page.new.ram c.move_page.new.owners c.requires.used c.move_page.ensures.moves c.move_page.ensures.pages
    (g.W.SwapStore.held c.args.store.now) (g.W.SwapStore.held c.get_page.new.self)

pub returns-clause-whole : goal.returns-clause-whole
returns-clause-whole g c =
    let whole : length c.get_page.new.into ≡ 4096 = omega (arith, c.get_page.auto.into, c.page_mut.ensures.len) in
    λ known.
    let honest = known_honest (g.W.SwapStore.is_honest c.args.store.now) (is_some (g.W.SwapStore.held c.args.store.now)) known in
    brought_whole c.args.ram.now c.args.owners.now c.requires.agrees c.args.from c.args.into c.requires.frame c.requires.free c.get_page.new.into whole
    c.move_page.new.ram c.move_page.new.owners c.requires.used c.move_page.ensures.moves c.move_page.ensures.pages
    (g.W.SwapStore.held c.args.store.now) (g.W.SwapStore.held c.get_page.new.self)
    (known_told (g.W.SwapStore.is_honest c.args.store.now) (is_some (g.W.SwapStore.held c.args.store.now)) known)
    (c.get_page.ensures.same honest) (c.in_ok-get_page.ensures.got honest) (c.pages_are_bytes.ensures c.args.into.0)

pub returns-clause-stands : goal.returns-clause-stands
returns-clause-stands g c = stands_agreeing c.move_page.new.ram c.move_page.new.owners (g.W.SwapStore.held c.get_page.new.self) c.move_page.ensures.agrees

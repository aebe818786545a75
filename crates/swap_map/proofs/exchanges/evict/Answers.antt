use Rattle.std.proofs.Common.{◌∙◌, ap}
use Rattle.std.specs.Prelude.{is_some}
use Rattle.std.specs.Option.{option_map}
use Rattle.xk_ports.specs.Store.{with_page as with_slot}
use Rattle.sv32_space.proofs.Agreeing.TieLemmas.{stands_agreeing}
use Rattle.swap_map.proofs.ExchangeLemmas.{evicted_rights, evicted_whole, known_honest, known_told, unput_rights, unput_whole}
use Rattle.swap_map.proofs.exchanges.evict.Goals as goal

pub returns-in_err-put_page-clause-rights : goal.returns-in_err-put_page-clause-rights
returns-in_err-put_page-clause-rights g c = unput_rights c.args.ram.now c.args.owners.now c.requires.agrees c.args.to c.requires.free
    (g.W.SwapStore.held c.args.store.now) (g.W.SwapStore.held c.put_page.new.self)

pub returns-in_err-put_page-clause-whole : goal.returns-in_err-put_page-clause-whole
returns-in_err-put_page-clause-whole g c = λ known. unput_whole c.args.ram.now c.args.owners.now c.requires.agrees c.args.to c.requires.free
    (g.W.SwapStore.held c.args.store.now) (g.W.SwapStore.held c.put_page.new.self)
    (c.in_err-put_page.ensures.spoilt (known_honest (g.W.SwapStore.is_honest c.args.store.now) (is_some (g.W.SwapStore.held c.args.store.now)) known))

pub returns-in_err-put_page-clause-stands : goal.returns-in_err-put_page-clause-stands
returns-in_err-put_page-clause-stands g c = stands_agreeing c.args.ram.now c.args.owners.now (g.W.SwapStore.held c.put_page.new.self) c.requires.agrees

pub returns-clause-rights : goal.returns-clause-rights
returns-clause-rights g c = evicted_rights c.args.ram.now c.move_page.new.ram c.args.owners.now c.move_page.new.owners c.requires.agrees c.args.f c.args.to
    c.requires.used c.requires.free c.move_page.ensures.moves (g.W.SwapStore.held c.args.store.now) (g.W.SwapStore.held c.put_page.new.self)

pub returns-clause-whole : goal.returns-clause-whole
returns-clause-whole g c = λ known.
    evicted_whole c.args.ram.now c.move_page.new.ram c.args.owners.now c.move_page.new.owners c.requires.agrees c.args.f c.args.to
    c.requires.used c.requires.free c.move_page.ensures.moves (g.W.SwapStore.held c.args.store.now) (g.W.SwapStore.held c.put_page.new.self)
    (known_told (g.W.SwapStore.is_honest c.args.store.now) (is_some (g.W.SwapStore.held c.args.store.now)) known)
    (c.in_ok-put_page.ensures.put (known_honest (g.W.SwapStore.is_honest c.args.store.now) (is_some (g.W.SwapStore.held c.args.store.now)) known)
    ∙ ap (λ page. option_map (λ slots. with_slot slots c.args.to.0 page) (g.W.SwapStore.held c.args.store.now)) c.page.ensures.value)
    c.move_page.ensures.pages (c.pages_are_bytes.ensures c.args.f.0)

pub returns-clause-stands : goal.returns-clause-stands
returns-clause-stands g c = stands_agreeing c.move_page.new.ram c.move_page.new.owners (g.W.SwapStore.held c.put_page.new.self) c.move_page.ensures.agrees

use Rattle.std.proofs.Common.{◌≡◌, ◌%◌, Err, Ok, refl, subst, sym, true, ◌∙◌}
use Rattle.std.specs.Prelude.{◌==◌}
use Rattle.ledger_model.specs.Places.{is_place_in}
use Rattle.ledger_model.specs.Reach.{is_free}
use Rattle.vm_memory.specs.Memory.{ledger, processes}
use Rattle.xk_base.specs.declared.ids.Place.{Place}
use Rattle.xk_base.specs.declared.windows.Window.TheVariants.{Map}
use Rattle.resume_path.proofs.Homes.ComingLemmas.{console_comes}
use Rattle.resume_path.proofs.Homes.PuttingLemmas.{console_done, console_not_refused, put_console_comes}
use Rattle.resume_path.proofs.pages.put_console.Goals as goal

-- src/pages.rt
pub unreachable-requires : goal.unreachable-requires
unreachable-requires g c =
    let lies : is_place_in (processes c.args.mem.now) Map c.home-at.result ≡ true =
    subst (λ (p : Place). is_place_in (processes c.args.mem.now) Map p ≡ true) (sym c.home-at.ensures) c.requires.place in
    let free : is_free (processes c.args.mem.now) (ledger g.W.SwapStore.held c.args.mem.now) c.home-at.result ≡ true =
    subst (λ (p : Place). is_free (processes c.args.mem.now) (ledger g.W.SwapStore.held c.args.mem.now) p ≡ true) (sym c.home-at.ensures) c.requires.free in
    console_not_refused (processes c.args.mem.now) (ledger g.W.SwapStore.held c.args.mem.now) c.home-at.result c.in-Err.field-0 (Err c.in-Err.field-0) lies free
    c.requires.first c.in-Err.ensures.answer refl

pub returns-clause-comes : goal.returns-clause-comes
returns-clause-comes g c = λ total l file come.
    let lies : is_place_in (processes c.args.mem.now) Map c.home-at.result ≡ true =
    subst (λ (p : Place). is_place_in (processes c.args.mem.now) Map p ≡ true) (sym c.home-at.ensures) c.requires.place in
    let free : is_free (processes c.args.mem.now) (ledger g.W.SwapStore.held c.args.mem.now) c.home-at.result ≡ true =
    subst (λ (p : Place). is_free (processes c.args.mem.now) (ledger g.W.SwapStore.held c.args.mem.now) p ≡ true) (sym c.home-at.ensures) c.requires.free in
    put_console_comes g.W.SwapStore total c.make_console.new.self l file c.args.row.now c.home-at.result
    c.home-at.ensures c.requires.right c.requires.no_fetch
    (console_comes g.W.SwapStore c.args.mem.now
    c.make_console.new.self
    c.home-at.result (c.args.row.now.right % 2 == 1) c.in-Ok.ensures.size c.in-Ok.ensures.store c.in-Ok.ensures.sound c.in-Ok.ensures.usable
    (c.in-Ok.ensures.ledger
    ∙ console_done (processes c.args.mem.now) (ledger g.W.SwapStore.held c.args.mem.now) c.home-at.result (c.args.row.now.right % 2 == 1)
    (Ok c.in-Ok.field-0) lies free
    c.requires.first c.in-Ok.ensures.answer)
    c.in-Ok.ensures.none total l come)

use Rattle.std.proofs.Common.{Some, sym, ap, subst, ◌∙◌}
use Rattle.std.specs.Prelude.{IfSome, IsSome}
use Rattle.xk_base.specs.Numbers.Windows.{window_at}
use Rattle.sv32_space.specs.PageChanges.{with_info}
use Rattle.swap_map.specs.Moving.{Reseats}
use Rattle.swap_map.proofs.MoveLemmas.{holder_window, home_made, home_window, move_page_agrees, move_page_moves, move_page_pages}
use Rattle.swap_map.proofs.moves.move_page.Goals as goal

pub reseat-requires-clause-made : goal.reseat-requires-clause-made
reseat-requires-clause-made c = home_made c.args.ram.now c.args.owners.now c.requires.agrees c.args.from c.in-Some.info.home c.in-Some.info.loan
    (sym (c.in-Some.ensures ∙ c.info.ensures))

pub reseat-requires-clause-window : goal.reseat-requires-clause-window
reseat-requires-clause-window c = home_window c.args.ram.now c.args.owners.now c.requires.agrees c.args.from c.in-Some.info.home c.in-Some.info.loan
    (sym (c.in-Some.ensures ∙ c.info.ensures))

pub reseat-requires-2-clause-window : goal.reseat-requires-2-clause-window
reseat-requires-2-clause-window c = subst (λ o. IfSome o (λ p. IsSome (window_at p.vpn.0))) (sym c.holder.ensures)
    (holder_window c.args.ram.now c.args.owners.now c.requires.agrees c.args.from c.in-Some.info.home c.in-Some.info.loan
    (sym (c.in-Some.ensures ∙ c.info.ensures)))

pub returns-clause-agrees : goal.returns-clause-agrees
returns-clause-agrees c = move_page_agrees c.args.ram.now c.reseat.new.ram c.reseat-2.new.ram c.args.owners.now c.set-2.new.self c.args.from c.args.to c.in-Some.info
    c.requires.agrees (sym (c.in-Some.ensures ∙ c.info.ensures)) c.requires.free c.reseat.ensures
    (subst (λ o. Reseats c.reseat.new.ram c.reseat-2.new.ram o c.args.to) c.holder.ensures c.reseat-2.ensures)
    (c.set-2.ensures.infos ∙ ap (λ I. with_info I c.args.to (Some c.in-Some.info)) c.set.ensures.infos)
    (c.set-2.ensures.extent ∙ c.set.ensures.extent)

pub returns-clause-moves : goal.returns-clause-moves
returns-clause-moves c = move_page_moves c.args.ram.now c.reseat.new.ram c.reseat-2.new.ram c.args.owners.now c.set-2.new.self c.args.from c.args.to c.in-Some.info
    c.requires.agrees (sym (c.in-Some.ensures ∙ c.info.ensures)) c.requires.free c.reseat.ensures
    (subst (λ o. Reseats c.reseat.new.ram c.reseat-2.new.ram o c.args.to) c.holder.ensures c.reseat-2.ensures)
    (c.set-2.ensures.infos ∙ ap (λ I. with_info I c.args.to (Some c.in-Some.info)) c.set.ensures.infos)
    (c.set-2.ensures.extent ∙ c.set.ensures.extent)

pub returns-clause-pages : goal.returns-clause-pages
returns-clause-pages c = move_page_pages c.args.ram.now c.reseat.new.ram c.reseat-2.new.ram c.args.owners.now c.set-2.new.self c.args.from c.args.to c.in-Some.info
    c.requires.agrees (sym (c.in-Some.ensures ∙ c.info.ensures)) c.requires.free c.reseat.ensures
    (subst (λ o. Reseats c.reseat.new.ram c.reseat-2.new.ram o c.args.to) c.holder.ensures c.reseat-2.ensures)
    (c.set-2.ensures.infos ∙ ap (λ I. with_info I c.args.to (Some c.in-Some.info)) c.set.ensures.infos)
    (c.set-2.ensures.extent ∙ c.set.ensures.extent)

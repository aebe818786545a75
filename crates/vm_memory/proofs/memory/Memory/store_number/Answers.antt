use Rattle.std.proofs.Common.{sym, ap, ◌∙◌}
use Rattle.xk_base.specs.UserMemory.{KeepsContent}
use Rattle.xk_base.specs.declared.pages.Access.TheVariants.{Store}
use Rattle.vm_memory.specs.Bytes.{means_bytes}
use Rattle.page_views.specs.EntryAccess.{is_given_target}
use Rattle.vm_memory.specs.Using.UserRest.{rest_over}
use Rattle.vm_memory.specs.Using.UserView.{user_content, user_seen, user_view}
use Rattle.swap_map.proofs.ExchangeLemmas.{on_err}
use Rattle.vm_memory.proofs.Using.NearLemmas.{brings_console, brings_content, brings_may, brings_rest, stores_back}
use Rattle.vm_memory.proofs.Using.UserKeepLemmas.{console_stored, fit_stored, may_stored, rest_stored, stores_told}
use Rattle.vm_memory.proofs.memory.Memory.store_number.Goals as goal

pub returns-in_err-target-clause-kept : goal.returns-in_err-target-clause-kept
returns-in_err-target-clause-kept g c = on_err c.from_residual.result
    (KeepsContent (user_content g.W.SwapStore c.args.self.now c.args.pid) (user_content g.W.SwapStore c.find_near.new.self c.args.pid))
    (brings_content g.W.SwapStore c.args.self.now c.find_near.new.self c.find_near.ensures.brings c.args.pid)

pub returns-in_err-target-clause-may : goal.returns-in_err-target-clause-may
returns-in_err-target-clause-may g c = brings_may g.W.SwapStore c.args.self.now c.find_near.new.self c.find_near.ensures.brings c.args.pid

pub returns-in_err-target-clause-console : goal.returns-in_err-target-clause-console
returns-in_err-target-clause-console g c = brings_console g.W.SwapStore c.args.self.now c.find_near.new.self c.find_near.ensures.brings c.args.pid

pub returns-in_err-target-clause-rest : goal.returns-in_err-target-clause-rest
returns-in_err-target-clause-rest g c = brings_rest g.W.SwapStore c.args.self.now c.find_near.new.self c.find_near.ensures.brings c.args.pid

pub returns-clause-stores : goal.returns-clause-stores
returns-clause-stores g c =
    let old = c.args.self.now in
    let new = c.find_near.new.self in
    let brings = c.find_near.ensures.brings in
    stores_back ((user_view g.W.SwapStore.held old c.args.pid).may Store c.args.va) ((user_view g.W.SwapStore.held new c.args.pid).may Store c.args.va)
    ((user_view g.W.SwapStore.held old c.args.pid).console c.args.va) ((user_view g.W.SwapStore.held new c.args.pid).console c.args.va)
    (means_bytes g.W.SwapStore old) (user_view g.W.SwapStore.held old c.args.pid).byte
    (user_content g.W.SwapStore new c.args.pid) (user_seen g.W.SwapStore c.store_at.new.self c.args.pid)
    c.args.va c.args.width c.args.value c.store_at.result
    (ap (λ may. may Store c.args.va) (brings_may g.W.SwapStore old new brings c.args.pid))
    (ap (λ console. console c.args.va) (brings_console g.W.SwapStore old new brings c.args.pid))
    (brings_content g.W.SwapStore old new brings c.args.pid)
    (stores_told g.W.SwapStore new brings.moves.sound
    c.args.pid c.args.va c.args.width c.args.value c.requires.aligned c.store_at.new.self c.store_at.result
    (ap is_given_target (sym c.in_ok-target.ensures.target) ∙ c.in_ok-target.ensures.given) c.store_at.ensures)

pub returns-clause-may : goal.returns-clause-may
returns-clause-may g c =
    may_stored g.W.SwapStore c.find_near.new.self c.find_near.ensures.brings.moves.sound
    c.args.pid c.args.va c.args.width c.args.value c.requires.aligned c.store_at.new.self c.store_at.result c.store_at.ensures
    ∙ brings_may g.W.SwapStore c.args.self.now c.find_near.new.self c.find_near.ensures.brings c.args.pid

pub returns-clause-console : goal.returns-clause-console
returns-clause-console g c =
    console_stored g.W.SwapStore c.find_near.new.self c.find_near.ensures.brings.moves.sound
    c.args.pid c.args.va c.args.width c.args.value c.requires.aligned c.store_at.new.self c.store_at.result c.store_at.ensures
    ∙ brings_console g.W.SwapStore c.args.self.now c.find_near.new.self c.find_near.ensures.brings c.args.pid

pub returns-clause-rest : goal.returns-clause-rest
returns-clause-rest g c =
    rest_over g.W.SwapStore
    (brings_rest g.W.SwapStore c.args.self.now c.find_near.new.self c.find_near.ensures.brings c.args.pid)
    (rest_stored g.W.SwapStore c.find_near.new.self c.find_near.ensures.brings.moves.sound
    c.args.pid c.args.va c.args.width c.args.value c.requires.aligned c.store_at.new.self c.store_at.result c.store_at.ensures)

pub returns-clause-usable : goal.returns-clause-usable
returns-clause-usable g c =
    let fit = fit_stored g.W.SwapStore c.find_near.new.self c.find_near.ensures.brings.moves.sound
    c.args.pid c.args.va c.args.width c.args.value c.requires.aligned c.store_at.new.self c.store_at.result c.in_ok-target.ensures.usable c.store_at.ensures in
    fit.1

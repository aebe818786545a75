use Rattle.std.proofs.Common.{◌≡◌, ◌+◌, ◌-◌, ◌<◌, true, refl, sym, ap, subst, ◌∙◌, arith}
use Rattle.ledger_model.specs.Places.{in_run, is_user_place, place_after}
use Rattle.ledger_model.specs.Steps.{remove}
use Rattle.ledger_model.proofs.PlaceLemmas.{place_from}
use Rattle.vm_memory.specs.Memory.{ledger, processes}
use Rattle.vm_memory.proofs.Changing.ForgettingLemmas.{not_lent_there}
use Rattle.vm_memory.proofs.Changing.FreePlaceLemmas.{remove_behind, remove_free}
use Rattle.vm_memory.proofs.Changing.LoopLemmas.{user_bound}
use Rattle.vm_memory.proofs.memory.Memory.drop_next.Goals as goal

pub overflow_add-next : goal.overflow_add-next
overflow_add-next g c =
    let bound = user_bound (processes c.args.self.now) (place_after c.args.first c.args.done) (c.requires.lie c.args.done c.requires.left) in
    omega (arith, bound)

pub free_places-free-requires-clause-lie : goal.free_places-free-requires-clause-lie
free_places-free-requires-clause-lie g c i inside =
    let whole = c.requires.whole in
    let left = c.requires.left in
    let low : c.args.done + i < c.args.n = omega arith in
    subst (λ p. is_user_place (processes c.args.self.now) p ≡ true)
    (place_from (place_after c.args.first (c.args.done + i)) (place_after (place_after c.args.first c.args.done) i) refl (omega arith))
    (c.requires.lie (c.args.done + i) low)

-- no page is left

pub returns-then-done-free-clause-ledger : goal.returns-then-done-free-clause-ledger
returns-then-done-free-clause-ledger g c =
    let all : c.free_places-free.result ≡ c.args.n - c.args.done = let end = c.if-done-free.true in omega (arith, end) in
    sym (remove_free (place_after c.args.first c.args.done) c.free_places-free.result (ledger g.W.SwapStore.held c.args.self.now)
    c.free_places-free.ensures.free)
    ∙ ap (λ k. remove (in_run (place_after c.args.first c.args.done) k) (ledger g.W.SwapStore.held c.args.self.now)) all

-- the page of the place behind goes

pub overflow_add-next-2 : goal.overflow_add-next-2
overflow_add-next-2 g c =
    let whole = c.requires.whole in
    let left = c.requires.left in
    let table = c.free_places-free.ensures.table in
    let end = c.if-done-free.false in
    let low : c.args.done + c.free_places-free.result < c.args.n = omega (arith, whole, left, table, end) in
    let bound = user_bound (processes c.args.self.now) (place_after c.args.first (c.args.done + c.free_places-free.result))
    (c.requires.lie (c.args.done + c.free_places-free.result) low) in
    omega (arith, bound)

pub drop_page-requires-clause-not_lent : goal.drop_page-requires-clause-not_lent
drop_page-requires-clause-not_lent g c =
    not_lent_there (processes c.args.self.now) (ledger g.W.SwapStore.held c.args.self.now) c.args.first.pid _ c.requires.no_loan refl

pub returns-clause-ledger : goal.returns-clause-ledger
returns-clause-ledger g c =
    let all : c.free_places-free.result + 1 ≡ c.args.done + c.free_places-free.result + 1 - c.args.done = omega arith in
    c.drop_page.ensures.ledger
    ∙ remove_behind (place_after c.args.first c.args.done) c.free_places-free.result (ledger g.W.SwapStore.held c.args.self.now)
    c.free_places-free.ensures.free
    ∙ ap (λ k. remove (in_run (place_after c.args.first c.args.done) k) (ledger g.W.SwapStore.held c.args.self.now)) all

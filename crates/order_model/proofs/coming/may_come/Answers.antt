use Rattle.std.proofs.Common.{◌≡◌, ◌∙◌, ℕ, Bool, List, false, sym, ap}
use Rattle.order_model.specs.Asking.{asked_of, came_of}
use Rattle.order_model.specs.Moves.{Asked, is_idle}
use Rattle.order_model.proofs.ChoiceLemmas.{came_once, comes_idle, comes_if, comes_later}
use Rattle.order_model.proofs.coming.may_come.Goals as goal

pub returns-then-has_come : goal.returns-then-has_come
returns-then-has_come c p stand =
    let asked : Asked = asked_of c.args.orders.now in
    let came = ap (λ (xs : List Bool). came_of xs c.args.number) c.deref.ensures.value ∙ stand.came c.args.number in
    sym (came_once asked p c.args.number (sym came ∙ (sym c.has_come.ensures ∙ c.if-has_come.true)))

pub returns-then-waits_before : goal.returns-then-waits_before
returns-then-waits_before c p stand =
    let asked : Asked = asked_of c.args.orders.now in
    let came = ap (λ (xs : List Bool). came_of xs c.args.number) c.deref.ensures.value ∙ stand.came c.args.number in
    let free : p.came c.args.number ≡ false = sym came ∙ (sym c.has_come.ensures ∙ c.if-has_come.false) in
    let all : (k : ℕ) → came_of c.deref-2.result.now k ≡ p.came k =
    λ k. ap (λ (xs : List Bool). came_of xs k) c.deref-2.ensures.value ∙ stand.came k in
    sym (comes_later asked p c.args.number c.event_at-event.result c.event_at-event.ensures free
    (sym (c.waits_before.ensures p all) ∙ c.if-waits_before.true))

pub returns-then-is_idle : goal.returns-then-is_idle
returns-then-is_idle c p stand =
    let asked : Asked = asked_of c.args.orders.now in
    let came = ap (λ (xs : List Bool). came_of xs c.args.number) c.deref.ensures.value ∙ stand.came c.args.number in
    let free : p.came c.args.number ≡ false = sym came ∙ (sym c.has_come.ensures ∙ c.if-has_come.false) in
    let all : (k : ℕ) → came_of c.deref-2.result.now k ≡ p.came k =
    λ k. ap (λ (xs : List Bool). came_of xs k) c.deref-2.ensures.value ∙ stand.came k in
    let first = sym (c.waits_before.ensures p all) ∙ c.if-waits_before.false in
    let idle = sym (c.is_idle.ensures stand.file ∙ ap (is_idle c.event_at-event.result) stand.rows) ∙ c.if-is_idle.true in
    sym (comes_idle asked p c.args.number c.event_at-event.result c.event_at-event.ensures free first idle)

pub returns : goal.returns
returns c p stand =
    let asked : Asked = asked_of c.args.orders.now in
    let came = ap (λ (xs : List Bool). came_of xs c.args.number) c.deref.ensures.value ∙ stand.came c.args.number in
    let free : p.came c.args.number ≡ false = sym came ∙ (sym c.has_come.ensures ∙ c.if-has_come.false) in
    let all : (k : ℕ) → came_of c.deref-2.result.now k ≡ p.came k =
    λ k. ap (λ (xs : List Bool). came_of xs k) c.deref-2.ensures.value ∙ stand.came k in
    let first = sym (c.waits_before.ensures p all) ∙ c.if-waits_before.false in
    let busy = sym (c.is_idle.ensures stand.file ∙ ap (is_idle c.event_at-event.result) stand.rows) ∙ c.if-is_idle.false in
    c.comes_itself.ensures p.state ∙ sym (comes_if asked p c.args.number c.event_at-event.result c.event_at-event.ensures free first busy)

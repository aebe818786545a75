use Rattle.std.proofs.Common.{◌≡◌, false, [], ◌++◌, ap, subst, ◌∙◌}
use Rattle.std.proofs.lemmas.List.Elements.{All-nil}
use Rattle.msg_queue.specs.Chains.{chain}
use Rattle.msg_queue.specs.Seats.{is_awaited_in, IsFirstOf}
use Rattle.msg_queue.specs.Shown.{messages}
use Rattle.msg_queue.proofs.ring.Ring.first_of.Goals as goal

pub returns : goal.returns
returns c =
    let slots = c.self.inside.slots.items in
    let next = c.self.inside.next.items in
    let queued = c.least_of-queued.ensures [] (All-nil (λ h. is_awaited_in c.args.pid h ≡ false)) in
    let both = c.least_of.ensures (messages c.as_slice.result.now (chain c.as_slice-2.result.now c.self.inside.queued)) queued in
    let same : messages c.as_slice.result.now (chain c.as_slice-2.result.now c.self.inside.queued) ≡ messages slots (chain next c.self.inside.queued) =
    ap (λ xs. messages xs (chain c.as_slice-2.result.now c.self.inside.queued)) c.as_slice.ensures.value ∙ ap (λ ns. messages slots (chain ns c.self.inside.queued)) c.as_slice-2.ensures.value in
    let same' : messages c.as_slice-3.result.now (chain c.as_slice-4.result.now c.self.inside.held) ≡ messages slots (chain next c.self.inside.held) =
    ap (λ xs. messages xs (chain c.as_slice-4.result.now c.self.inside.held)) c.as_slice-3.ensures.value ∙ ap (λ ns. messages slots (chain ns c.self.inside.held)) c.as_slice-4.ensures.value in
    subst (λ seat. IsFirstOf c.args.pid (seat.queued ++ seat.held) c.least_of.result) c.self.view_is
    (subst (λ xs. IsFirstOf c.args.pid (messages slots (chain next c.self.inside.queued) ++ xs) c.least_of.result) same'
    (subst (λ xs. IsFirstOf c.args.pid (xs ++ messages c.as_slice-3.result.now (chain c.as_slice-4.result.now c.self.inside.held)) c.least_of.result) same both))

use Rattle.std.proofs.Common.{◌≡◌, ◌<◌, ◌≤◌, ◌+◌, ◌-◌, ◌*◌, ◌%◌, min, sym, ap, ◌∙◌, Some, subst, true, false, ℕ, arith}
use Rattle.xk_base.specs.declared.limits.TheConstants.{TID_LIMIT}
use Rattle.thread_table.specs.ThreadMap.{id_in_row, is_ready_in}
use Rattle.thread_table.specs.Shown.{process_count, threads_of}
use Rattle.thread_table.proofs.TurnLemmas.{found, go_on, none_found, own_row}
use Rattle.thread_table.proofs.table.Threads.next_ready_after.Goals as goal

pub returns-in-Some : goal.returns-in-Some
unfolding process_count
returns-in-Some c =
    let n = process_count c.args.self.now in
    let m = threads_of c.args.self.now in
    let id = c.args.id in
    let row : c.row_of-own.result ≡ (id.pid.0 - 2 + 0) % n = c.row_of-own.ensures ∙ sym (own_row n m id c.requires) in
    let last : c.min.result ≡ min id.tid.0 TID_LIMIT = c.min.ensures in
    ap Some (c.id_in_row.ensures ∙ ap (λ r. id_in_row r c.in-Some.tid) row)
    ∙ sym (found n m id c.requires 0 (c.min.result + 1) c.min.result c.in-Some.tid (omega arith) (omega arith) (omega arith) (omega (arith, last))
    (λ j l. absurd (omega (arith, l, last))) c.in-Some.ensures.found.0 c.in-Some.ensures.found.1
    (subst (λ r. is_ready_in m r c.in-Some.tid ≡ true) row c.in-Some.ensures.found.2)
    (subst (λ r. (s : ℕ) → c.min.result + 1 ≤ s → s < c.in-Some.tid → is_ready_in m r s ≡ false) row c.in-Some.ensures.first))

pub loop-turn-init : goal.loop-turn-init
unfolding process_count
loop-turn-init c =
    let n = process_count c.args.self.now in
    let m = threads_of c.args.self.now in
    let id = c.args.id in
    let row : c.row_of-own.result ≡ (id.pid.0 - 2 + 0) % n = c.row_of-own.ensures ∙ sym (own_row n m id c.requires) in
    let last : c.min.result ≡ min id.tid.0 TID_LIMIT = c.min.ensures in
    go_on n m id c.requires 0 (c.min.result + 1) c.min.result (omega arith) (omega arith) (omega arith) (λ j l. absurd (omega (arith, l, last)))
    (subst (λ r. (s : ℕ) → c.min.result + 1 ≤ s → is_ready_in m r s ≡ false) row c.in_default.ensures.none)

pub returns-in-Some-ready_from : goal.returns-in-Some-ready_from
unfolding process_count
returns-in-Some-ready_from c =
    let n = process_count c.args.self.now in
    let m = threads_of c.args.self.now in
    let id = c.args.id in
    let k = c.loop-turn.turn in
    let found_in = c.in-Some-ready_from.ensures in
    let row : c.row_behind-row.result ≡ (id.pid.0 - 2 + k) % n = c.row_behind-row.ensures ∙ ap (λ o. (o + k) % n) c.row_of-own.ensures in
    ap Some (c.id_in_row-in-Some-ready_from.ensures ∙ ap (λ r. id_in_row r c.in-Some-ready_from.tid) row)
    ∙ sym (found n m id c.requires k 1 (31 * k) c.in-Some-ready_from.tid (omega arith) (omega arith) (omega arith) (omega arith)
    c.loop-turn.invariant found_in.found.0 found_in.found.1
    (subst (λ r. is_ready_in m r c.in-Some-ready_from.tid ≡ true) row found_in.found.2)
    (subst (λ r. (s : ℕ) → 1 ≤ s → s < c.in-Some-ready_from.tid → is_ready_in m r s ≡ false) row found_in.first))

pub loop-turn-preserved : goal.loop-turn-preserved
unfolding process_count
loop-turn-preserved c =
    let n = process_count c.args.self.now in
    let m = threads_of c.args.self.now in
    let id = c.args.id in
    let k = c.loop-turn.turn in
    let row : c.row_behind-row.result ≡ (id.pid.0 - 2 + k) % n = c.row_behind-row.ensures ∙ ap (λ o. (o + k) % n) c.row_of-own.ensures in
    go_on n m id c.requires k 1 (31 * k) (omega arith) (omega arith) (omega arith) c.loop-turn.invariant
    (subst (λ r. (s : ℕ) → 1 ≤ s → is_ready_in m r s ≡ false) row c.in_default-ready_from.ensures.none)

pub returns : goal.returns
unfolding process_count
returns c =
    let n = process_count c.args.self.now in
    sym (none_found n (threads_of c.args.self.now) c.args.id c.requires (λ j l. c.loop-turn.invariant j (omega arith)))

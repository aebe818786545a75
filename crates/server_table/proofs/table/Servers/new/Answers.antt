use Rattle.std.proofs.Common.{◌≡◌, List, replicate, Option, None, ap, sym, subst, ◌∙◌, arith}
use Rattle.std.proofs.lemmas.List.{length-replicate}
use Rattle.xk_base.specs.declared.limits.TheConstants.{SERVER_LIMIT}
use Rattle.server_table.specs.declared.table.ServerSeat.{ServerSeat}
use Rattle.server_table.specs.Seats.{by_serial, AreApart, AreCounted}
use Rattle.server_table.specs.ServersOf.{servers_of}
use Rattle.server_table.proofs.ChangeLemmas.{apart_empty, by_serial_empty, counted_apart}
use Rattle.server_table.proofs.table.Servers.new.Goals as goal

empty : (c : goal.After-loop-seat) → c.loop-seat.seats.items ≡ replicate SERVER_LIMIT None
empty c =
    let all : c.loop-seat._seat ≡ SERVER_LIMIT = omega arith in
    c.loop-seat.invariant.made ∙ ap (λ n. replicate n None) all

pub invariant_of-result-clause-apart : goal.invariant_of-result-clause-apart
invariant_of-result-clause-apart c =
    let P : List (Option ServerSeat) → Type 0 = λ xs. AreApart xs 1 in subst P (sym (empty c)) (apart_empty 1)

pub invariant_of-result-clause-counted : goal.invariant_of-result-clause-counted
invariant_of-result-clause-counted c =
    let P : List (Option ServerSeat) → Type 0 = λ xs. AreCounted xs 1 in
    subst P (sym (empty c)) (counted_apart (replicate SERVER_LIMIT None) 1 (apart_empty 1) (length-replicate {A = Option ServerSeat} SERVER_LIMIT None))

pub returns : goal.returns
unfolding servers_of
returns c =
    let all : c.loop-seat._seat ≡ SERVER_LIMIT = omega arith in
    let none : c.loop-seat.seats.items ≡ replicate SERVER_LIMIT None = c.loop-seat.invariant.made ∙ ap (λ n. replicate n None) all in
    λ i. record { next = 1; live = λ n. (ap (λ xs. by_serial xs n) none ∙ by_serial_empty n) i }

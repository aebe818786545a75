-- The numbers of the kinds of messages, in a send and in a delivered message.
use Rattle.std.specs.Prelude.{ℕ, Bool, true, false, ◌==◌, Option, Some, None, if◌then◌else◌}
use Rattle.std.specs.Option.{option_map_or}
use Rattle.xk_base.specs.declared.messages.MsgKind.{MsgKind}
use Rattle.xk_base.specs.declared.messages.MsgKind.TheVariants.{LendMut, Lend, Move, Scalar, BlockingScalar}

abbrev pub kind_number : MsgKind → ℕ
kind_number LendMut = 1
kind_number Lend = 2
kind_number Move = 3
kind_number Scalar = 4
kind_number BlockingScalar = 5

-- the kind of a number, if there is one
abbrev pub kind_at : ℕ → Option MsgKind
kind_at n =
    if n == kind_number LendMut then Some LendMut else (
    if n == kind_number Lend then Some Lend else (
    if n == kind_number Move then Some Move else (
    if n == kind_number Scalar then Some Scalar else (
    if n == kind_number BlockingScalar then Some BlockingScalar else None))))

-- a send of this kind holds its sender until it is answered
abbrev pub is_answered : MsgKind → Bool
is_answered LendMut = true
is_answered Lend = true
is_answered Move = false
is_answered Scalar = false
is_answered BlockingScalar = true

-- the number is that of such a kind
abbrev pub is_waiting_kind : ℕ → Bool
is_waiting_kind n = option_map_or is_answered (kind_at n) false

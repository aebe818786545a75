-- The messages of a server that pass a test are counted in its rows.
use Rattle.std.proofs.Common.{◌≡◌, ℕ, ◌+◌, Bool, true, false, cond, List, ◌++◌, map, refl, sym, ap, ◌∙◌, arith}
use Rattle.std.specs.List.{count_by}
use Rattle.std.proofs.lemmas.List.{map-append}
use Rattle.std.proofs.lemmas.List.Sums.{sum_by-append}
use Rattle.std.proofs.lemmas.List.Recursion.{is_count_by}
use Rattle.xk_base.specs.declared.messages.Message.{Message}
use Rattle.machine_model.specs.State.Servers.{messages_of}
use Rattle.machine_model.specs.Messaging.MessageCounts.{count_in}
use Rattle.snapshot_rows.specs.declared.state.MessageRow.{MessageRow}
use Rattle.snapshot_rows.specs.declared.state.ServerRow.{ServerRow}
use Rattle.snapshot_rows.specs.Machines.{message_of, server_of}
use Rattle.snapshot_matching.specs.ServerParts.{many_at}

abbrev rows_counted : (Message → Bool) → List MessageRow → ℕ
rows_counted test xs = count_in test (map message_of xs)

-- a test of rows that is the one of their messages
abbrev pub Tells : (Message → Bool) → (MessageRow → Bool) → Type 0
Tells test good = (m : MessageRow) → test (message_of m) ≡ good m

counted_by : (test : Message → Bool) (good : MessageRow → Bool) → Tells test good → (xs : List MessageRow)
    → rows_counted test xs ≡ count_by good xs
unfolding count_in
counted_by test good tells xs =
    is_count_by (rows_counted test) good refl
    (λ x ys. ap (λ (b : Bool). cond b 1 0 + rows_counted test ys) (tells x) ∙ step (good x) (rows_counted test ys)) xs
  where
    step : (b : Bool) (n : ℕ) → cond b 1 0 + n ≡ cond b (1 + n) n
    step true n = omega arith
    step false n = omega arith

-- of a server
pub counted_at : (test : Message → Bool) (good : MessageRow → Bool) → Tells test good → (s : ServerRow)
    → count_in test (messages_of (server_of s)) ≡ many_at good s
counted_at test good tells s =
    ap (count_in test) (sym (map-append message_of s.queued s.held)) ∙ counted_by test good tells (s.queued ++ s.held)
    ∙ sum_by-append (λ m. cond (good m) 1 0) s.queued s.held

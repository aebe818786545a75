use Rattle.std.proofs.Common.{◌≡◌, ◌+◌, ◌++◌, ℕ, List, true}
use Rattle.std.specs.List.{flat_map}
use Rattle.std.specs.Prelude.{map}
use Rattle.order_model.specs.Endings.{process_seen}
use Rattle.order_model.specs.Exits.{exit_in}
use Rattle.snapshot_rows.specs.Machines.{machine_of}
use Rattle.xk_base.specs.Tables.Counting.{listed_below}
use Rattle.order_text.specs.Texts.{process_text}
use Rattle.order_text.proofs.seen.put_processes.Given as goal

-- those of the pids before
abbrev pub invariant-loop-place : goal.invariant-loop-place
invariant-loop-place l =
    (file : List ℕ) → l.text.items
    ≡ l.initial.text.items
    ++ flat_map (process_text l.sights) (map (λ k. process_seen (machine_of file l.state) (exit_in l.ends) (record { 0 = k + 2 })) (listed_below l.place (λ k. true)))

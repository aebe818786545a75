use Rattle.std.proofs.Common.{◌≡◌, ◌++◌, ℕ, List, take}
use Rattle.std.specs.List.{flat_map}
use Rattle.std.specs.Prelude.{codes}
use Rattle.order_model.specs.Endings.{thread_seen}
use Rattle.snapshot_rows.specs.Machines.{machine_of}
use Rattle.order_text.specs.Texts.{thread_seen_text}
use Rattle.order_text.proofs.threads.put_threads.Given as goal

-- those before, each behind a comma
abbrev pub invariant-loop-who : goal.invariant-loop-who
invariant-loop-who l =
    (file : List ℕ) → l.text.items
    ≡ l.initial.text.items ++ flat_map (λ who. codes ", " ++ thread_seen_text l.named (thread_seen (machine_of file l.state) who)) (take l.who-index l.others)

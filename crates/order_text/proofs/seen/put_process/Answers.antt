use Rattle.std.proofs.Common.{◌≡◌, ◌++◌, ◌∙◌, List, OnOk, ap, refl, subst, sym, ℕ}
use Rattle.std.specs.Prelude.{codes, decimal}
use Rattle.std.proofs.lemmas.List.{append-nil}
use Rattle.order_model.specs.Endings.{process_seen}
use Rattle.order_model.specs.Exits.{exit_in}
use Rattle.snapshot_rows.specs.declared.state.ProcRow.{ProcRow}
use Rattle.snapshot_rows.specs.Machines.{machine_of, processes_of}
use Rattle.order_text.specs.Texts.{life_text}
use Rattle.order_text.proofs.AboutLemmas.{told_text, untold_text}
use Rattle.order_text.proofs.TextLemmas.{three_pieces}
use Rattle.order_text.proofs.seen.put_process.Goals as goal

pub returns-then-not-is_told : goal.returns-then-not-is_told
returns-then-not-is_told c file =
    let old = c.args.text.now.items in
    let alive : c.is_alive.result ≡ (processes_of c.args.state.now.procs c.args.pid.0).alive =
    c.is_alive.ensures
    ∙ (ap (λ (rows : List ProcRow). (processes_of rows c.from.result).alive) c.as_slice.ensures
    ∙ ap (λ (n : ℕ). (processes_of c.args.state.now.procs n).alive) c.from.ensures) in
    sym (append-nil old)
    ∙ ap (λ (xs : List ℕ). old ++ xs)
    (sym (untold_text c.args.sights (machine_of file c.args.state.now) (exit_in c.args.ends.now) c.args.pid c.is_alive.result alive
    (sym c.is_told.ensures ∙ c.if-not-is_told.true)))

pub returns : goal.returns
returns c file =
    let old = c.args.text.now.items in
    let m = machine_of file c.args.state.now in
    let exits = exit_in c.args.ends.now in
    let alive : c.is_alive.result ≡ (processes_of c.args.state.now.procs c.args.pid.0).alive =
    c.is_alive.ensures
    ∙ (ap (λ (rows : List ProcRow). (processes_of rows c.from.result).alive) c.as_slice.ensures
    ∙ ap (λ (n : ℕ). (processes_of c.args.state.now.procs n).alive) c.from.ensures) in
    let number : c.put_number.new.text.items ≡ old ++ decimal c.args.pid.0 =
    c.in_ok-put_number.ensures ∙ ap (λ (n : ℕ). old ++ decimal n) c.from-2.ensures in
    let life = life_text c.args.sights (process_seen m exits c.args.pid).life in
    subst (λ (xs : List ℕ). OnOk c.put.result (c.put.new.text.items ≡ xs))
    (three_pieces old (decimal c.args.pid.0) life (codes "; ") c.put_number.new.text.items c.put_life.new.text.items _ number
    (c.in_ok-put_life.ensures file) refl
    ∙ ap (λ (xs : List ℕ). old ++ xs)
    (sym (told_text c.args.sights m exits c.args.pid c.is_alive.result alive (sym c.is_told.ensures ∙ c.if-not-is_told.false))))
    c.put.ensures

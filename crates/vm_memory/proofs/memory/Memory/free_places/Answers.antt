use Rattle.std.proofs.Common.{◌≡◌, ◌+◌, ◌%◌, true, subst, arith}
use Rattle.std.specs.Prelude.{is_some}
use Rattle.std.proofs.lemmas.Bool.{and_parts}
use Rattle.xk_base.specs.Numbers.Windows.{window_at}
use Rattle.xk_base.specs.Tables.Circle.{is_pid}
use Rattle.vm_memory.specs.Memory.{processes}
use Rattle.vm_memory.proofs.Changing.FreePlaceLemmas.{free_word}
use Rattle.vm_memory.proofs.memory.Memory.free_places.Goals as goal

pub table_of-requires-clause-made : goal.table_of-requires-clause-made
table_of-requires-clause-made g c =
    let at = c.args.at in
    let user = c.requires.lie 0 (omega arith) in
    c.requires.sound.agree.made at.pid.0 (and_parts (is_pid (processes c.args.self.now) at.pid.0) (is_some (window_at (at.vpn.0 + 0))) user).0

pub table_of-requires-clause-window : goal.table_of-requires-clause-window
table_of-requires-clause-window g c =
    let at = c.args.at in
    let user = c.requires.lie 0 (omega arith) in
    let same : at.vpn.0 + 0 ≡ at.vpn.0 = omega arith in
    subst (λ v. is_some (window_at v) ≡ true) same
    (and_parts (is_pid (processes c.args.self.now) at.pid.0) (is_some (window_at (at.vpn.0 + 0))) user).1

pub returns-clause-free : goal.returns-clause-free
returns-clause-free g c i low =
    let at = c.args.at in
    let high = c.used_entry.ensures.high in
    free_word g.W.SwapStore.held c.args.self.now at c.table_of.result.now i c.table_of.ensures.table (omega (arith, low, high))
    (c.requires.lie i (omega (arith, low, high)))
    (c.used_entry.ensures.free (at.vpn.0 % 1024 + i) (omega arith) (omega (arith, low)))

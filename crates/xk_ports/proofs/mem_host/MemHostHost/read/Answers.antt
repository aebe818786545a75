use Rattle.std.proofs.Common.{◌≡◌, ◌+◌, ◌∙◌, ◌≤◌, ◌++◌, Some, arith, length, drop, take, length-drop, drop-drop, ap, refl, sym}
use Rattle.xk_ports.specs.declared.mem_host.Reading.{Reading}
use Rattle.xk_ports.specs.MemHost.{is_first}
use Rattle.xk_ports.specs.MemHostView.{plain_files, bytes_at}
use Rattle.xk_ports.proofs.ReadingLemmas.{IsReadingOf-some, IsReadingOf-get, IsReadingOf-set, left_in-get, left_in-set, given-before-left}
use Rattle.xk_ports.proofs.mem_host.MemHostHost.read.Goals as goal

pub invariant_of-self-in-Some : goal.invariant_of-self-in-Some
invariant_of-self-in-Some c =
    let files = plain_files c.self.inside.files.items in
    let first = c.self.inside.readings.first in
    let second = c.self.inside.readings.second in
    let old = c.in-Some.field-0 in
    let next : Reading = record { file = old.file; at = old.at + c.take_piece-count.result } in
    let within = IsReadingOf-get files first second old (is_first c.args.which) c.self.invariant.0 c.self.invariant.1 c.in-Some.ensures old refl in
    let same : c.bytes_of.result.now ≡ bytes_at files old.file =
    c.bytes_of.ensures ∙ ap (λ fs. bytes_at (plain_files fs) old.file) c.deref.ensures.value in
    let fits : next.at ≤ length (bytes_at files old.file) =
    omega (arith, c.take_piece-count.ensures.count, ap length same, within.1) in
    let both = IsReadingOf-set files first second next (is_first c.args.which) c.self.invariant.0 c.self.invariant.1 (IsReadingOf-some files next within.0 fits) in
    rw c.set.ensures (both.0, both.1, c.self.invariant.2)

pub returns-clause-taken : goal.returns-clause-taken
returns-clause-taken c =
    let files = plain_files c.self.inside.files.items in
    let first = c.self.inside.readings.first in
    let second = c.self.inside.readings.second in
    let old = c.in-Some.field-0 in
    let count = c.take_piece-count.result in
    let next : Reading = record { file = old.file; at = old.at + count } in
    let bytes = bytes_at files old.file in
    let same : c.bytes_of.result.now ≡ bytes =
    c.bytes_of.ensures ∙ ap (λ fs. bytes_at (plain_files fs) old.file) c.deref.ensures.value in
    let fits : count ≤ length (drop old.at bytes) =
    omega (arith, c.take_piece-count.ensures.count, ap length same, length-drop old.at bytes) in
    let given : take count c.take_piece-count.new.into ++ drop next.at bytes ≡ drop old.at bytes =
    rw (c.take_piece-count.ensures.taken, same, ← drop-drop count old.at bytes) (given-before-left (drop old.at bytes) c.args.into.now count fits) in
    rw (← c.self.view_is, c.set.ensures, left_in-get files first second old (is_first c.args.which) c.in-Some.ensures, left_in-set files first second next (is_first c.args.which))
    (ap (λ left. Some left) (sym given))

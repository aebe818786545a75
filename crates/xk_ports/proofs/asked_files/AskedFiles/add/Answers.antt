use Rattle.std.proofs.Common.{◌≡◌, ◌+◌, ◌-◌, ◌<◌, ◌∙◌, Some, Option, List, length, arith, ap, sym, refl}
use Rattle.xk_ports.specs.Host.{FileAsked}
use Rattle.xk_ports.specs.AskedFiles.{AskedState}
use Rattle.xk_ports.specs.AskedView.{files_in}
use Rattle.xk_ports.proofs.AskedFileLemmas.{asked_after-full, asked_after-room, files_in-add, IsKept-add}
use Rattle.xk_ports.proofs.asked_files.AskedFiles.add.Goals as goal
use Rattle.xk_ports.proofs.asked_files.AskedFiles.add.Goals.{then-self-via-then-self, then-self-via-else-self+then-self-start}

pub returns-then-self : goal.returns-then-self
returns-then-self c =
    let inside = c.self.inside in
    let file : FileAsked = record { slot = c.args.slot; name = c.args.name.now; picked = c.args.picked } in
    let with_room : Option (List FileAsked) → AskedState = λ files. record { files = files; room = inside.room } in
    elim c.then-self.branch [
      | then-self-via-then-self w ↦ rw (← c.self.view_is, w.if-self.true) refl
      | then-self-via-else-self+then-self-start w ↦ rw (← c.self.view_is, w.if-self.false)
          (ap with_room (sym (asked_after-full inside.room (length inside.names.items + length inside.entries.items) (files_in inside.names.items inside.entries.items) file c.self.invariant.taken (omega arith) c.self.invariant.fits)))
    ]

pub invariant_of-self-2 : goal.invariant_of-self-2
invariant_of-self-2 c =
    let inside = c.self.inside in
    let start : c.len-start.result ≡ length inside.names.items = omega arith in
    let end : c.len-2.result ≡ length inside.names.items + length c.args.name.now =
    omega (arith, c.len-2.ensures, c.in-Ok.ensures.len, c.as_bytes.ensures.len) in
    let fits : length c.args.name.now < inside.room - length inside.names.items - length inside.entries.items =
    omega (arith, c.if-self-start.false, start, c.len.ensures) in
    rw (c.push_reserved.ensures.items, c.in-Ok.ensures.items, c.as_bytes.ensures.value)
    (IsKept-add inside.names.items c.args.name.now inside.entries.items _ _ _ _ _ inside.room c.self.invariant start end fits c.in-Ok.ensures.capacity c.push_reserved.ensures.capacity)

pub returns : goal.returns
returns c =
    let inside = c.self.inside in
    let files = files_in inside.names.items inside.entries.items in
    let file : FileAsked = record { slot = c.args.slot; name = c.args.name.now; picked = c.args.picked } in
    let with_room : Option (List FileAsked) → AskedState = λ files. record { files = files; room = inside.room } in
    let start : c.len-start.result ≡ length inside.names.items = omega arith in
    let end : c.len-2.result ≡ length inside.names.items + length c.args.name.now =
    omega (arith, c.len-2.ensures, c.in-Ok.ensures.len, c.as_bytes.ensures.len) in
    let fits : length c.args.name.now < inside.room - (length inside.names.items + length inside.entries.items) =
    omega (arith, c.if-self-start.false, start, c.len.ensures) in
    rw (← c.self.view_is, c.if-self.false, c.push_reserved.ensures.items, c.in-Ok.ensures.items, c.as_bytes.ensures.value)
    (ap (λ files. with_room (Some files)) (files_in-add inside.names.items c.args.name.now inside.entries.items _ c.self.invariant.within start end)
    ∙ ap with_room (sym (asked_after-room inside.room (length inside.names.items + length inside.entries.items) files file c.self.invariant.taken fits)))

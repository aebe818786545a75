use Rattle.std.proofs.Common.{refl, sym, subst}
use Rattle.event_player.specs.declared.events.PlayFault.{PlayFault}
use Rattle.event_player.specs.declared.events.PlayFault.TheVariants.{Swap, Write}
use Rattle.event_player.specs.Gathering.{PutsBefore, text}
use Rattle.event_player.proofs.event_file.put_before.Goals as goal

pub returns-in-Write-clause-puts : goal.returns-in-Write-clause-puts
returns-in-Write-clause-puts g c =
    let out = g.K.Sink.written c.args.out.now in
    let P : PlayFault → Type 0 = λ fault. PutsBefore (text out c.args.held.now.items) out fault Write in
    subst P (sym c.in-Write.is) refl

pub returns-in-Ok-clause-puts : goal.returns-in-Ok-clause-puts
returns-in-Ok-clause-puts g c =
    let out = g.K.Sink.written c.args.out.now in
    let after = g.K.Sink.written c.put_held.new.out in
    let P : PlayFault → Type 0 = λ fault. PutsBefore (text out c.args.held.now.items) after fault Swap in
    subst P (sym c.in-Swap.is) c.in-Ok.ensures.put

pub returns-in-Err-clause-puts : goal.returns-in-Err-clause-puts
returns-in-Err-clause-puts g c =
    let out = g.K.Sink.written c.args.out.now in
    let after = g.K.Sink.written c.put_held.new.out in
    let P : PlayFault → Type 0 = λ fault. PutsBefore (text out c.args.held.now.items) after fault Write in
    subst P (sym c.in-Swap.is) c.in-Err.ensures.front

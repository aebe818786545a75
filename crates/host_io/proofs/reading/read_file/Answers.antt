use Rattle.host_io.proofs.ReadingLemmas.{if_ok_map, content_of}
use Rattle.host_io.specs.Reading.{IsContent, IsContentOf}
use Rattle.host_io.proofs.reading.read_file.Goals as goal

pub returns-in-Ok-clause-content : goal.returns-in-Ok-clause-content
returns-in-Ok-clause-content g c =
    if_ok_map c.read_rest.result
    (IsContent (g.H.Host.left c.pick_file.new.self c.args.which) c.args.limit)
    (IsContentOf (g.H.Host.file c.args.host.now) c.args.name.now c.args.limit)
    (λ content known. content_of (g.H.Host.file c.args.host.now) c.args.name.now (g.H.Host.left c.pick_file.new.self c.args.which) c.args.limit content c.in-Ok.ensures.left known)
    c.read_rest.ensures.content

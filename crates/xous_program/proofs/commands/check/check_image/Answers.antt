use Rattle.std.proofs.Common.{inr}
use Rattle.xous_program.proofs.commands.check.check_image.Goals as goal

pub returns-in-Ok-write_summary-clause-ends : goal.returns-in-Ok-write_summary-clause-ends
returns-in-Ok-write_summary-clause-ends g c = λ store. inr (record {
  asked = c.in-Ok.ensures.picked;
  cause = λ e. cc;
  plan = c.in-Ok.planned.plan;
  planned = record {
    image = c.in-Ok.planned.bytes.items;
    read = c.in-Ok.ensures.read;
    args = c.in-Ok.planned.args;
    sound = c.in-Ok.ensures.image;
    planned = c.in-Ok.ensures.planned;
  };
  content = c.in-Ok-write_summary.ensures.appended;
  image_read = λ done. c.in-Ok.ensures.end;
})

pub returns-clause-ends : goal.returns-clause-ends
returns-clause-ends g c = λ store. inr (record {
  asked = c.in-Ok.ensures.picked;
  cause = λ e. c.in-Err-write_summary.ensures.cause;
  plan = c.in-Ok.planned.plan;
  planned = record {
    image = c.in-Ok.planned.bytes.items;
    read = c.in-Ok.ensures.read;
    args = c.in-Ok.planned.args;
    sound = c.in-Ok.ensures.image;
    planned = c.in-Ok.ensures.planned;
  };
  content = c.in-Err-write_summary.ensures.front;
  image_read = λ done. cc;
})

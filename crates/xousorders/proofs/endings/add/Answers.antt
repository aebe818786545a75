use Rattle.xousorders.proofs.endings.add.Goals as goal

pub returns : goal.returns
returns c = record {
  place = c.in_ok-ending.ending;
  alike = c.in_ok-ending.ensures.alike;
  looks = c.in_ok-push.ensures.items;
  list = c.in_ok-ending.ensures.lists;
}

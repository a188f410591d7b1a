use Rattle.cfn_ranking.proofs.entering.drop_last.Goals as goal

pub returns-clause-ok : goal.returns-clause-ok
returns-clause-ok c =
    let open_here = c.is_open.ensures.0 c.if-not-is_open.false in
    record {
      last = c.in-Some-pop._last;
      leaf = c.in-Some.leaf;
      list_is = c.in-Some-pop.ensures.items;
      leaves_are = c.in-Some.ensures.items;
      there = open_here.0;
      free = open_here.1;
      shut = c.shut.ensures;
    }

use Rattle.std.proofs.Common.{◌↔◌, ◌∙◌, Contains, sym, ap, subst}
use Rattle.cfn_machine.specs.Parts.{IsAside}
use Rattle.cfn_machine.specs.Pool.{Pool}
use Rattle.cfn_search.proofs.outcome.meet.Goals as goal

pub returns-clause-search : goal.returns-clause-search
returns-clause-search g c =
    let search = c.requires.search in
    let met = c.meet.ensures.meets in
    record {
      begun_is = ap (λ (p : Pool). p.begun) met ∙ search.begun_is;
      others = search.others;
      begin = ap (λ (p : Pool). p.rows) met ∙ search.begin;
      aside = λ path. subst (λ (p : Pool). Contains g.M.Incumbent.start.aside path ↔ IsAside p.tree path) (sym met) (search.aside path);
    }

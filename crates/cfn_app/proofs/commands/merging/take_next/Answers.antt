use Rattle.std.proofs.Common.{sym, ◌∙◌, subst}
use Rattle.cfn_model.specs.Certificate.{IsBest}
use Rattle.cfn_app.proofs.Merges.{joins, joins_late}
use Rattle.cfn_app.proofs.commands.merging.take_next.Goals as goal

pub join_findings-requires : goal.join_findings-requires
join_findings-requires g c =
    let t = c.in_ok-next.ensures.taken in
    record {
      same_network = c.requires.own ∙ sym t.is.network;
      first = subst (λ Q. IsBest Q c.args.found.best.held) (sym c.requires.own) c.requires.best;
      second = subst (λ Q. IsBest Q c.in_ok-next.next.best.held) (sym t.is.network) (subst (λ b. IsBest c.args.network.now b) (sym t.is.best) t.verifies.good.best);
    }

pub returns-in-Ok-clause-joined : goal.returns-in-Ok-clause-joined
returns-in-Ok-clause-joined g c =
    joins c.args.network.now c.args.name.now c.args.found c.in_ok-next.next c.in-Ok.joined _ _ c.in_ok-next.ensures.taken c.requires.own c.in-Ok.ensures.network c.in-Ok.ensures.best c.in-Ok.ensures.tree

pub returns-in-Err-clause-untaken : goal.returns-in-Err-clause-untaken
returns-in-Err-clause-untaken g c =
    joins_late c.args.network.now c.args.name.now c.args.number c.in_ok-next.next (g.D.Desk.outside c.args.desk.now) (g.D.Desk.outside c.take.new.desk) (g.D.Desk.outside c.write_memory_fault.new.desk)
    c.write_memory_fault.result c.ending.result c.in_ok-next.ensures.taken c.write_memory_fault.ensures c.ending.ensures

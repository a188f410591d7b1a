use Rattle.std.proofs.Common.{reverse, refl, sym, ap, ◌∙◌, subst, arith}
use Rattle.cfn_rebase.specs.Walking.{leaves_of, IsWalking, weights}
use Rattle.cfn_rebase.proofs.Walkings.{newest, none_wait}
use Rattle.cfn_rebase.proofs.walk.Walk.next.Goals as goal

pub returns-in-None-clause-walks : goal.returns-in-None-clause-walks
returns-in-None-clause-walks c =
    let w = c.args.self.now in
    let r = c.requires in
    record {
      due = r.due;
      walking = subst (λ ws. IsWalking w.ground.network w.threshold c.args.old.now w.tree r.due w.ground (leaves_of (reverse ws)) (reverse ws))
          (none_wait w.waiting c.in-None.ensures.cases.0 ∙ sym (none_wait c.pop.new.self c.in-None.ensures.cases.1)) r.walking;
      threshold = refl;
    }

pub returns-in-None-clause-none : goal.returns-in-None-clause-none
returns-in-None-clause-none c = λ no. none_wait c.pop.new.self c.in-None.ensures.cases.1

pub go_on-requires : goal.go_on-requires
go_on-requires c =
    let w = c.args.self.now in
    let r = c.requires in
    record {
      due = r.due;
      walking = subst (λ ws. IsWalking w.ground.network w.threshold c.args.old.now w.tree r.due w.ground (leaves_of ws) ws) (newest w.waiting.items c.pop.new.self.items c.in-Some.next c.in-Some.ensures.items) r.walking;
      threshold = refl;
    }

pub returns-in_ok-go_on-in-Some-clause-less : goal.returns-in_ok-go_on-in-Some-clause-less
returns-in_ok-go_on-in-Some-clause-less c = λ yes.
    let w = c.args.self.now in
    let e = ap (weights c.args.old.now) (newest w.waiting.items c.pop.new.self.items c.in-Some.next c.in-Some.ensures.items) in
    let l = c.in_ok-go_on-in-Some.ensures.less in
    omega (arith, e, l)

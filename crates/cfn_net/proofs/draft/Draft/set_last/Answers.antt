use Rattle.std.proofs.Common.{sym, ap, ◌∙◌, arith}
use Rattle.cfn_net.specs.Drafting.{open_function, with_open}
use Rattle.cfn_net.proofs.Drafting.{list_at_end-open, some-open}
use Rattle.cfn_net.proofs.draft.Draft.set_last.Goals.{in-Some, in_default}
use Rattle.cfn_net.proofs.draft.Draft.set_last.Goals as goal

pub returns : goal.returns
returns c =
    let P = c.self.inside.network in
    elim c.match-self.branch [
      | in-Some w ↦ rw w.self-inside-is (list_at_end-open P c.args.self.now (open_function w.in-Some.open) (open_function w.set.new.self) c.args.cell c.args.cost w.min.result (ap (with_open P) (sym w.in-Some.is) ∙ c.self.view_is) w.set.ensures.function (omega (arith, w.min.ensures, c.ub-upper.ensures)))
      | in_default w ↦ absurd (some-open P c.args.self.now c.self.inside.last c.self.view_is c.self.invariant w.in_default.not-Some c.requires.some)
    ]

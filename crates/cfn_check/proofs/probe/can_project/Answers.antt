use Rattle.std.proofs.Common.{ℕ, List, get_or, sym, ap, ◌∙◌, inl, inr, arith}
use mir.Syntax.{w128}
use Rattle.std.proofs.lemmas.Bool.{not-true, false≢true, cases_Bool}
use Rattle.std.proofs.lemmas.Int.{to_z_pos}
use Rattle.std.specs.Prelude.{not}
use Rattle.cfn_check.proofs.Probing.{AreDifferences, cannot_project, can_project}
use Rattle.cfn_check.proofs.probe.can_project.Goals as goal

pub returns : goal.returns
returns c =
    let P = c.args.network.now in
    let h = c.args.ledger.now.history in
    let at = ap (λ (xs : List ℕ). get_or xs c.args.place 0) c.scope.ensures in
    let differences : AreDifferences P h = rw (← c.requires.same) at c.law_differences.ensures in
    let amount = to_z_pos w128 c.args.amount (omega (arith, c.ranges.amount.fits)) in
    let lacks = rw amount at c.lacks.ensures in (
      λ yes. can_project P h c.args.f c.args.place c.args.value _ c.args.amount c.requires.place at differences c.law_limits.ensures (λ lack. false≢true (sym (not-true _ yes) ∙ lacks.1 lack)),
      λ can. elim (cases_Bool c.lacks.result) [
        | inl some ↦ absurd (cannot_project P h c.args.f c.args.place c.args.value _ c.args.amount c.requires.place at differences (lacks.0 some) can)
        | inr none ↦ ap not none
      ],
    )

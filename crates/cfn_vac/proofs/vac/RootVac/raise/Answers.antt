use Rattle.std.proofs.Common.{◌≡◌, ℕ, ◌≤◌, false, subst, ap, sym, ◌∙◌, arith}
use Rattle.std.specs.Prelude.{nat_lt}
use Rattle.cfn_model.specs.Network.{Network}
use Rattle.cfn_model.specs.Sums.{floor}
use Rattle.cfn_store.specs.Standing.{Standing, history}
use Rattle.cfn_gain.specs.Calls.{Adds}
use Rattle.cfn_vac.specs.Roots.{HasLifted}
use Rattle.cfn_vac.proofs.Lifted.{lifted_none}
use Rattle.cfn_vac.proofs.Roots.{floor_kept}
use Rattle.cfn_vac.proofs.vac.RootVac.raise.Goals.{then-limits-gt0, else-limits-gt0}
use Rattle.cfn_vac.proofs.vac.RootVac.raise.Goals as goal

level : (a b c d : ℕ) → nat_lt a b ≡ false → a ≡ c → b ≡ d → c ≤ d → c ≡ d
level a b c d h e f l = grind (arith, h, e, f, l)

pub returns-clause-still : goal.returns-clause-still
returns-clause-still g c = λ h. elim c.if-limits-gt0.branch [
  | then-limits-gt0 w ↦
      (let P = c.args.self.now.network in let s = c.args.store.now in let now = c.if-limits-gt0.store in
      let adds = subst (λ t. Adds s t c.args.limits) (sym w.store-is) w.halve.ensures.adds in
      level c.floor-before.result c.floor.result (floor P (history s)) (floor P (history now)) h
      (c.floor-before.ensures ∙ ap (λ (N : Network). floor N (history s)) c.requires.ready.network)
      (c.floor.ensures ∙ ap (λ (N : Network). floor N (history now)) (adds.network ∙ c.requires.ready.network))
      (floor_kept P s now c.args.limits adds))
  | else-limits-gt0 w ↦ sym (ap (λ (t : Standing). floor c.args.self.now.network (history t)) w.store-is)
]

pub returns-clause-lifts : goal.returns-clause-lifts
returns-clause-lifts g c =
    let P = c.args.self.now.network in let s = c.args.store.now in
    elim c.if-limits-gt0.branch [
      | then-limits-gt0 w ↦ subst (λ t. HasLifted P s t) (sym w.store-is) w.halve.ensures.lifts
      | else-limits-gt0 w ↦ lifted_none P s c.if-limits-gt0.store w.store-is
    ]

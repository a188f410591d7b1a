use Rattle.std.proofs.Common.{◌<◌, List, length, drop, subst, sym, ap, ◌∙◌, arith}
use Rattle.std.proofs.lemmas.List.{length-drop}
use Rattle.cfn_model.specs.Network.{Fits, cells, dims}
use Rattle.cfn_scan.specs.Scanning.{AsksNone, HasDigits, IsAt, IsSpot}
use Rattle.cfn_scan.proofs.Telling.{some_behind, behind_tuples, inner_at, spot_at, spot_here, asks_behind, dead_at, told_at}
use Rattle.cfn_scan.proofs.scan.Scan.+at.Goals as goal

pub nonzero_div-value : goal.nonzero_div-value
nonzero_div-value t c =
    let some : 0 < length c.args.scope.now = (let f = c.if-is_empty.false in let e = c.is_empty.ensures in grind (arith, f, e)) in
    some_behind c.args.self.now c.args.scope.now c.args.spot c.args.tuples some c.requires.spot c.requires.tuples

pub returns-then-not-is_live : goal.returns-then-not-is_live
returns-then-not-is_live t c =
    let some : 0 < length c.args.scope.now = (let f = c.if-is_empty.false in let e = c.is_empty.ensures in grind (arith, f, e)) in
    dead_at c.args.self.now c.args.scope.now c.args.spot c.args.tuples c.args.number some c.requires.spot c.requires.tuples (sym c.is_live.ensures ∙ c.if-not-is_live.true)

pub gone_on-requires : goal.gone_on-requires
gone_on-requires t c =
    let some : 0 < length c.args.scope.now = (let f = c.if-is_empty.false in let e = c.is_empty.ensures in grind (arith, f, e)) in
    inner_at c.args.self.now c.args.scope.now c.args.spot c.args.tuples c.args.number some c.requires.spot

pub at-requires : goal.at-requires
at-requires t c =
    let some : 0 < length c.args.scope.now = (let f = c.if-is_empty.false in let e = c.is_empty.ensures in grind (arith, f, e)) in
    let next = spot_here c.args.self.now c.args.scope.now c.args.spot c.args.tuples c.args.number in (
      (let l = length-drop 1 c.args.scope.now in let b = ap length c.from.ensures in let d = c.decreases in omega (arith, l, b, d, some)),
      (
        subst (λ s. IsSpot c.args.self.now s c.gone_on.result) (sym c.from.ensures) (subst (IsSpot c.args.self.now (drop 1 c.args.scope.now)) (sym c.gone_on.ensures) (spot_at c.args.self.now c.args.scope.now c.args.spot c.args.tuples c.args.number some c.requires.spot)),
        (
          behind_tuples c.args.self.now c.args.scope.now c.args.spot c.args.tuples some c.requires.spot c.requires.tuples ∙ ap (λ s. cells (dims c.args.self.now.sizes.now s)) (sym c.from.ensures),
          subst (λ s. AsksNone c.args.self.now s c.gone_on.result) (sym c.from.ensures) (subst (AsksNone c.args.self.now (drop 1 c.args.scope.now)) (sym c.gone_on.ensures) (asks_behind c.args.self.now c.args.scope.now c.args.spot c.args.tuples c.args.number some c.requires.asks)),
        ),
      ),
    )

pub returns : goal.returns
returns t c =
    let some : 0 < length c.args.scope.now = (let f = c.if-is_empty.false in let e = c.is_empty.ensures in grind (arith, f, e)) in
    let later = subst (λ s. (rest : List _) → Fits (dims c.args.self.now.sizes.now s) rest → HasDigits (dims c.args.self.now.sizes.now s) c.args.number rest → IsAt c.args.self.now s c.gone_on.result rest c.at.result) c.from.ensures c.at.ensures in
    told_at c.args.self.now c.args.scope.now c.args.spot c.args.tuples c.args.number c.at.result some c.requires.spot c.requires.tuples c.requires.asks (sym c.is_live.ensures ∙ c.if-not-is_live.false)
    (subst (λ spot. (rest : List _) → Fits (dims c.args.self.now.sizes.now (drop 1 c.args.scope.now)) rest → HasDigits (dims c.args.self.now.sizes.now (drop 1 c.args.scope.now)) c.args.number rest → IsAt c.args.self.now (drop 1 c.args.scope.now) spot rest c.at.result) c.gone_on.ensures later)

use Rattle.std.proofs.Common.{refl, subst, arith}
use Rattle.cfn_store.specs.Standing.{history}
use Rattle.cfn_gain.specs.Passes.{IsLeast}
use Rattle.cfn_gain.specs.Calls.{Does, Shows}
use Rattle.cfn_gain.specs.Levels.{AreBelow, AddsCuts}
use Rattle.cfn_gain.proofs.Adding.{does_then}
use Rattle.cfn_gain.proofs.Leveling.{emptied, level_of, level_grown, level_costs, cuts_none, lifts_first, lifts_halts, lifts_none, none_least}
use Rattle.cfn_gain.proofs.Rising.{rises_lifted, rises_none}
use Rattle.cfn_consistency.specs.Groups.{IsBegun}
use Rattle.cfn_gain.specs.Gains.{Gains}
use Rattle.cfn_gain.proofs.Gaining.{gained_none, opened, gains_halt, gains_then}
use Rattle.cfn_gain.proofs.levels.level.Goals.{then-least-gt0+in_ok-lift, else-least-gt0}
use Rattle.cfn_gain.proofs.levels.level.Goals as goal

pub returns-then-is_empty-clause-does : goal.returns-then-is_empty-clause-does
returns-then-is_empty-clause-does c =
    emptied c.args.store.now c.args.limits c.args.x c.live.result.now c.requires.variable c.live.ensures (let t = c.if-is_empty.true in let e = c.is_empty.ensures in grind (arith, t, e))

pub returns-clause-does : goal.returns-clause-does
returns-clause-does c =
    let s = c.args.store.now in let two = c.cut_costly.ensures.does in
    elim c.if-least-gt0.branch [
      | then-least-gt0+in_ok-lift w ↦
          does_then s w.lift.new.store c.cut_costly.new.store c.args.limits c.cut_costly.result w.in_ok-lift.ensures.does (subst (λ t. Does t c.cut_costly.new.store c.args.limits c.cut_costly.result) w.store-is two)
      | else-least-gt0 w ↦ subst (λ t. Does t c.cut_costly.new.store c.args.limits c.cut_costly.result) w.store-is two
    ]

pub returns-clause-level : goal.returns-clause-level
returns-clause-level c =
    let s = c.args.store.now in let last = c.cut_costly.new.store in let k = c.args.limits.threshold in
    elim c.if-least-gt0.branch [
      | then-least-gt0+in_ok-lift w ↦
          level_grown s w.lift.new.store last c.args.limits c.args.x c.cut_costly.result _ _ w.in_ok-lift.ensures.grows
          (subst (λ t. Does t last c.args.limits c.cut_costly.result) w.store-is c.cut_costly.ensures.does).adds
          (subst (λ t. Shows t last c.cut_costly.result (AreBelow t.network (history t) k c.args.x)) w.store-is c.cut_costly.ensures.below)
      | else-least-gt0 w ↦
          level_of s last k c.args.x c.cut_costly.result
          (subst (IsLeast s.network (history s) c.args.x) (let none = w.if-least-gt0.false in omega (arith, none)) c.least-least.ensures)
          (subst (λ t. Shows t last c.cut_costly.result (AreBelow t.network (history t) k c.args.x)) w.store-is c.cut_costly.ensures.below)
    ]

pub returns-then-is_empty-clause-gains : goal.returns-then-is_empty-clause-gains
returns-then-is_empty-clause-gains c = gained_none c.args.store.now

pub returns-then-is_empty-clause-closes : goal.returns-then-is_empty-clause-closes
returns-then-is_empty-clause-closes c = λ costly.
    (let s = c.args.store.now in let some = costly.some in
    let found = c.live.ensures.all some.value (record { variable = some.is.variable; value = some.is.value }) some.live in
    let t = c.if-is_empty.true in let e = c.is_empty.ensures in
    absurd (let within = found.1 in grind (arith, t, e, within)))

pub returns-in_err-lift-clause-gains : goal.returns-in_err-lift-clause-gains
returns-in_err-lift-clause-gains c =
    let s = c.args.store.now in
    gains_halt s c.lift.new.store c.args.limits c.in_err-lift.field-0.0 c.from_residual.result (c.in_err-lift.ensures.gains s (opened s s IsBegun (gained_none s))) c.from_residual.ensures.1

pub returns-in_err-lift-clause-closes : goal.returns-in_err-lift-clause-closes
returns-in_err-lift-clause-closes c = λ costly start begins.
    gains_halt start c.lift.new.store c.args.limits c.in_err-lift.field-0.0 c.from_residual.result (c.in_err-lift.ensures.gains start begins) c.from_residual.ensures.1

pub returns-clause-gains : goal.returns-clause-gains
returns-clause-gains c =
    let s = c.args.store.now in let last = c.cut_costly.new.store in let limits = c.args.limits in
    elim c.if-least-gt0.branch [
      | then-least-gt0+in_ok-lift w ↦
          gains_then s w.lift.new.store last limits c.cut_costly.result (w.in_ok-lift.ensures.gains s (opened s s IsBegun (gained_none s)))
          (subst (λ t. Gains t last limits c.cut_costly.result) w.store-is c.cut_costly.ensures.gains)
      | else-least-gt0 w ↦ subst (λ t. Gains t last limits c.cut_costly.result) w.store-is c.cut_costly.ensures.gains
    ]

pub returns-clause-closes : goal.returns-clause-closes
returns-clause-closes c = λ costly start begins.
    (let s = c.args.store.now in let last = c.cut_costly.new.store in let limits = c.args.limits in
    elim c.if-least-gt0.branch [
      | then-least-gt0+in_ok-lift w ↦
          gains_then start w.lift.new.store last limits c.cut_costly.result (w.in_ok-lift.ensures.gains start begins)
          (subst (λ t. Gains t last limits c.cut_costly.result) w.store-is c.cut_costly.ensures.gains)
      | else-least-gt0 w ↦ absurd (level_costs s c.args.x c.least-least.result c.least-least.ensures costly (let none = w.if-least-gt0.false in omega (arith, none)))
    ])

pub returns-then-is_empty-clause-lifts : goal.returns-then-is_empty-clause-lifts
returns-then-is_empty-clause-lifts c = λ least is some.
    none_least c.args.store.now c.args.x least c.live.result.now c.live.ensures (let t = c.if-is_empty.true in let e = c.is_empty.ensures in grind (arith, t, e)) is

pub returns-then-is_empty-clause-cuts : goal.returns-then-is_empty-clause-cuts
returns-then-is_empty-clause-cuts c = λ is. cuts_none c.args.store.now c.args.x

pub returns-in_err-lift-clause-lifts : goal.returns-in_err-lift-clause-lifts
returns-in_err-lift-clause-lifts c = λ least is some.
    lifts_halts c.args.store.now c.lift.new.store c.args.limits c.args.x least c.least-least.result c.in_err-lift.field-0.0 _ c.from_residual.result refl c.least-least.ensures is
    c.in_err-lift.ensures.dead c.in_err-lift.ensures.short c.in_err-lift.ensures.spent c.from_residual.ensures.1

pub returns-in_err-lift-clause-cuts : goal.returns-in_err-lift-clause-cuts
returns-in_err-lift-clause-cuts c = λ is. lifts_none c.args.store.now c.args.x c.least-least.result 0 is c.least-least.ensures c.if-least-gt0.true refl

pub returns-clause-lifts : goal.returns-clause-lifts
returns-clause-lifts c = λ least is some.
    (let s = c.args.store.now in let last = c.cut_costly.new.store in
    elim c.if-least-gt0.branch [
      | then-least-gt0+in_ok-lift w ↦
          lifts_first s w.lift.new.store last c.args.limits c.args.x least c.least-least.result c.cut_costly.result c.least-least.ensures is w.in_ok-lift.ensures.made w.in_ok-lift.ensures.does.ends
          (subst (λ t. AddsCuts t last c.args.x) w.store-is c.cut_costly.ensures.cuts)
      | else-least-gt0 w ↦ lifts_none s c.args.x least c.least-least.result c.least-least.ensures is some (let none = w.if-least-gt0.false in omega (arith, none))
    ])

pub returns-clause-cuts : goal.returns-clause-cuts
returns-clause-cuts c = λ is.
    (let s = c.args.store.now in
    elim c.if-least-gt0.branch [
      | then-least-gt0+in_ok-lift w ↦ lifts_none s c.args.x c.least-least.result 0 is c.least-least.ensures w.if-least-gt0.true refl
      | else-least-gt0 w ↦ subst (λ t. AddsCuts t c.cut_costly.new.store c.args.x) w.store-is c.cut_costly.ensures.cuts
    ])

pub returns-then-is_empty-clause-rises : goal.returns-then-is_empty-clause-rises
returns-then-is_empty-clause-rises c = λ amount all below room.
    (let s = c.args.store.now in let some = all.some in
    let found = c.live.ensures.all some.value (record { variable = some.is.variable; value = some.is.value }) some.live in
    let t = c.if-is_empty.true in let e = c.is_empty.ensures in
    absurd (let within = found.1 in grind (arith, t, e, within)))

pub returns-in_err-lift-clause-rises : goal.returns-in_err-lift-clause-rises
returns-in_err-lift-clause-rises c = λ amount all below.
    (let adds = c.in_err-lift.ensures.does.adds in
    rises_lifted c.args.store.now c.lift.new.store c.args.limits c.args.x c.least-least.result amount c.from_residual.result adds.network adds.base c.least-least.ensures
    (lifts_halts c.args.store.now c.lift.new.store c.args.limits c.args.x c.least-least.result c.least-least.result c.in_err-lift.field-0.0 _ c.from_residual.result refl c.least-least.ensures c.least-least.ensures
    c.in_err-lift.ensures.dead c.in_err-lift.ensures.short c.in_err-lift.ensures.spent c.from_residual.ensures.1) all below)

pub returns-clause-rises : goal.returns-clause-rises
returns-clause-rises c = λ amount all below.
    (let s = c.args.store.now in let last = c.cut_costly.new.store in
    elim c.if-least-gt0.branch [
      | then-least-gt0+in_ok-lift w ↦
          (let adds = (does_then s w.lift.new.store last c.args.limits c.cut_costly.result w.in_ok-lift.ensures.does (subst (λ t. Does t last c.args.limits c.cut_costly.result) w.store-is c.cut_costly.ensures.does)).adds in
          rises_lifted s last c.args.limits c.args.x c.least-least.result amount c.cut_costly.result adds.network adds.base c.least-least.ensures
          (lifts_first s w.lift.new.store last c.args.limits c.args.x c.least-least.result c.least-least.result c.cut_costly.result c.least-least.ensures c.least-least.ensures w.in_ok-lift.ensures.made w.in_ok-lift.ensures.does.ends
          (subst (λ t. AddsCuts t last c.args.x) w.store-is c.cut_costly.ensures.cuts)) all below)
      | else-least-gt0 w ↦
          (let adds = (subst (λ t. Does t last c.args.limits c.cut_costly.result) w.store-is c.cut_costly.ensures.does).adds in
          rises_none s last c.args.x c.least-least.result amount c.cut_costly.result adds.network adds.base c.least-least.ensures (let none = w.if-least-gt0.false in omega (arith, none))
          (subst (λ t. AddsCuts t last c.args.x) w.store-is c.cut_costly.ensures.cuts) all)
    ])

use Rattle.std.proofs.Common.{◌≡◌, ℕ, ◌+◌, ◌≤◌, refl, sym, ap₂, subst, arith}
use Rattle.cfn_model.specs.Network.{Network}
use Rattle.cfn_machine.specs.Steps as steps
use Rattle.cfn_machine.specs.Steps.{PoolReturns, PoolRecalls, PoolSweeps, PoolNotes, PoolMeets, PoolGives, IsNotOut, IsOut}
use Rattle.cfn_leaves.specs.Value.{Holding as Leaves, pool_of}
use Rattle.cfn_low.specs.Holding.{Holding as Part}
use Rattle.cfn_pool.specs.declared.recording.Recording.{Recording}
use Rattle.cfn_pool.specs.Views.{Held, pool, view_of}
use Rattle.cfn_pool.proofs.Kept.{held, kept_by_step, cheaper_is, fits_is}
use Rattle.cfn_net.specs.Scoring.{Scoring, IsPriced}
use Rattle.cfn_low.specs.Holding.{kept}
use Rattle.cfn_machine.specs.Word.{all_shares}
use Rattle.std.specs.Prelude.{min}
use Rattle.cfn_pool.proofs.pool.Pool.meet.Goals as goal

-- a part of the word that another was joined into
abbrev pub both : Network → Part → Part → Part
both P one other = record { held = kept P one.held other.held; seen = min one.seen other.seen; shares = min (one.shares + other.shares) all_shares }

met : (P : Network) (leaves : Leaves) (one other new : Part) → IsPriced P one.held → IsPriced P other.held → one.shares + other.shares ≤ all_shares → new ≡ both P one other →
    PoolMeets P (pool_of leaves (view_of one)) (view_of other) (pool_of leaves (view_of new))
met P leaves one other new first second few is =
    subst (λ (part : Part). PoolMeets P (pool_of leaves (view_of one)) (view_of other) (pool_of leaves (view_of part))) (sym is)
    (ap₂ (λ best (shares : ℕ). pool_of leaves (record { best = best; seen = min one.seen other.seen; shares = shares })) (cheaper_is P one.held other.held first second) (omega (arith, few)))

meets : (P : Network) (old : Held) (leaves : Leaves) (recording : Recording) (one other new : Part) → held leaves one recording ≡ old → IsPriced P one.held → IsPriced P other.held → (pool old).view.shares + other.shares ≤ all_shares → new ≡ both P one other →
    PoolMeets P (pool_of leaves (view_of one)) (view_of other) (pool_of leaves (view_of new))
meets P old leaves recording one other new now first second few is = met P leaves one other new first second (subst (λ (h : Held). (pool h).view.shares + other.shares ≤ all_shares) (sym now) few) is

pub invariant_of-self : goal.invariant_of-self
invariant_of-self g c =
    let one = c.self.inside.holder in
    let new = c.meet.new.holder in
    let leaves = c.self.inside.leaves in
    record {
      room = c.self.invariant.room;
      held = kept_by_step g.M.Incumbent.network (held leaves one c.self.inside.recording) (held leaves new c.self.inside.recording) 0 (steps.Meets (view_of c.args.other)) c.law_kept.ensures.reached c.self.invariant.held.own c.self.invariant.held
          (fits_is g.M.Incumbent.network c.args.other.held (subst (λ (s : Scoring). IsPriced s.network s.held) c.best-2.ensures c.law_priced-2.ensures))
          (meets g.M.Incumbent.network c.args.self.now leaves c.self.inside.recording one c.args.other new c.self.view_is (subst (λ (s : Scoring). IsPriced s.network s.held) c.best.ensures c.law_priced.ensures) (subst (λ (s : Scoring). IsPriced s.network s.held) c.best-2.ensures c.law_priced-2.ensures) c.requires.shares c.meet.ensures)
          refl;
    }

pub returns-clause-meets : goal.returns-clause-meets
returns-clause-meets g c =
    let one = c.self.inside.holder in
    let new = c.meet.new.holder in
    let leaves = c.self.inside.leaves in
    subst (λ (old : Held). PoolMeets g.M.Incumbent.network (pool old) (view_of c.args.other) (pool_of leaves (view_of new))) c.self.view_is
    (meets g.M.Incumbent.network c.args.self.now leaves c.self.inside.recording one c.args.other new c.self.view_is (subst (λ (s : Scoring). IsPriced s.network s.held) c.best.ensures c.law_priced.ensures) (subst (λ (s : Scoring). IsPriced s.network s.held) c.best-2.ensures c.law_priced-2.ensures) c.requires.shares c.meet.ensures)

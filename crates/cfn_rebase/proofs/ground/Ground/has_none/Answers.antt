use Rattle.std.proofs.Common.{◌≡◌, ℕ, ◌<◌, subst}
use Rattle.std.specs.Prelude.{false, ◌==◌, ◌↔◌, IsTrue, slice_index}
use Rattle.cfn_model.specs.Sums.{is_live}
use Rattle.cfn_store.specs.Standing.{Standing, history}
use Rattle.cfn_rebase.proofs.Ended.{none_counted}
use Rattle.cfn_rebase.proofs.ground.Ground.has_none.Goals as goal

pub returns : goal.returns
returns c = subst (λ (t : Standing). IsTrue (c.count.result == 0) ↔ ((a : ℕ) → a < slice_index t.network.sizes c.args.x → is_live (history t) c.args.x a ≡ false)) c.store.ensures
    (none_counted c.store.result.now c.args.x c.count.result c.count.ensures)

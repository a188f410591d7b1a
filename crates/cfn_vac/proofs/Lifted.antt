-- Lifts one after another.
use Rattle.std.proofs.Common.{◌≡◌, ℕ, zero, suc, List, refl, sym, subst}
use Rattle.cfn_model.specs.Network.{Network}
use Rattle.cfn_consistency.specs.declared.deletion.Deletion.{Deletion}
use Rattle.cfn_consistency.specs.Virtual.{Bans}
use Rattle.cfn_store.specs.Standing.{Standing}
use Rattle.cfn_gain.specs.declared.limits.Limits.{Limits}
use Rattle.cfn_vac.specs.declared.lifter.Lifting.TheVariants.{Lifted}
use Rattle.cfn_vac.specs.Roots.{HasPlan, AreLifts, HasLifted}

lifted_behind : (P : Network) (m n : ℕ) (a b c : Standing) → AreLifts P m a b → AreLifts P n b c → HasLifted P a c
lifted_behind P m zero a b c first second = (m, subst (AreLifts P m a) (sym second) first)
lifted_behind P m (suc n) a b c first second = let r = lifted_behind P m n a b second.0 first second.1 in (suc r.0, (second.0, r.1, second.2))

pub lifted_then : (P : Network) (a b c : Standing) → HasLifted P a b → HasLifted P b c → HasLifted P a c
lifted_then P a b c first second = lifted_behind P first.0 second.0 a b c first.1 second.1

pub lifted_none : (P : Network) (a b : Standing) → b ≡ a → HasLifted P a b
lifted_none P a b same = (0, same)

pub lifted_once : (P : Network) (q : ℕ) (bans : Bans) (limits : Limits) (before after : Standing) (deletions : List Deletion) → HasPlan P q bans limits before after deletions Lifted → HasLifted P before after
lifted_once P q bans limits before after deletions plan = (suc zero, (before, refl, record { q = q; bans = bans; limits = limits; deletions = deletions; plan = plan }))

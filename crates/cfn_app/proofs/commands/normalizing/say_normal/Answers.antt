use Rattle.std.proofs.Common.{refl}
use Rattle.cfn_wcspwrite.specs.Canonical.{canonical}
use Rattle.cfn_app.specs.declared.status.Status.TheVariants.{Done}
use Rattle.cfn_app.proofs.Ends.{ends_saying}
use Rattle.cfn_app.proofs.commands.normalizing.say_normal.Goals as goal

pub returns-clause-ends : goal.returns-clause-ends
returns-clause-ends g c = ends_saying _ _ _ (canonical c.args.network.now) c.write.result Done _ refl c.write.ensures c.ending.ensures

pub returns-clause-again : goal.returns-clause-again
returns-clause-again g c = c.law_reads_back.ensures c.args.network.now c.law_limits.ensures

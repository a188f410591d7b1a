use Rattle.cfn_kbest.proofs.steps.since_at.Goals as goal

pub newest-requires-clause-empty : goal.newest-requires-clause-empty
newest-requires-clause-empty c = (c.requires.ranked.kept.waiting c.args.leaf.number c.requires.waits).empty

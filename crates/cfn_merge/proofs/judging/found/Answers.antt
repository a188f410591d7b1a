use Rattle.std.proofs.Common.{refl, subst}
use Rattle.cfn_certread.specs.Reading.{IsExact}
use Rattle.cfn_merge.proofs.Reading.{has_found, never_refused, read_best}
use Rattle.cfn_merge.proofs.judging.found.Goals as goal

pub unreachable-requires : goal.unreachable-requires
unreachable-requires c = never_refused c.args.network.now c.args.text.now _ c.requires (subst (IsExact c.args.text.now) c.in-Err.is c.in_ok-read.ensures.exact)

pub best_of-requires : goal.best_of-requires
best_of-requires c = read_best c.args.network.now c.args.text.now c.in-Ok.read c.requires (subst (IsExact c.args.text.now) c.in-Ok.is c.in_ok-read.ensures.exact)

pub returns : goal.returns
returns c =
    has_found c.args.network.now c.args.text.now c.in-Ok.read (record { best = c.in_ok-best_of-in-Ok.field-0; tree = c.in-Ok.read.tree }) c.law_limits.ensures c.requires
    (subst (IsExact c.args.text.now) c.in-Ok.is c.in_ok-read.ensures.exact) c.in_ok-best_of-in-Ok.ensures.own c.in_ok-best_of-in-Ok.ensures.held refl

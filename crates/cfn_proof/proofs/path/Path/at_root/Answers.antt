use Rattle.std.proofs.Common.{◌∙◌, ap, []}
use Rattle.cfn_model.specs.Steps.{after}
use Rattle.cfn_proof.specs.Legs.{path_of}
use Rattle.cfn_proof.proofs.Parting.{at_block}
use Rattle.cfn_proof.proofs.path.Path.at_root.Goals as goal

pub returns : goal.returns
returns c = ap (path_of c.in_ok-copy.field-0) c.new.ensures.items ∙ at_block c.in_ok-copy.field-0 ∙ ap (λ block. after block []) c.in_ok-copy.ensures

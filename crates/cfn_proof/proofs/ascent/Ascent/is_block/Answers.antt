use Rattle.std.proofs.Common.{◌∙◌, [], ap, sym, length, true≢false, eq-eqb, eqb-true}
use Rattle.std.proofs.lemmas.List.{nil_from_length}
use Rattle.cfn_model.specs.Steps.{after}
use Rattle.cfn_proof.specs.Legs.{path_of}
use Rattle.cfn_proof.proofs.Parting.{at_block, no_legs, root_is}
use Rattle.cfn_proof.proofs.ascent.Ascent.is_block.Goals as goal

pub returns-then-is_empty : goal.returns-then-is_empty
returns-then-is_empty c =
    let root = c.self.inside.root.now in
    let none = nil_from_length c.self.inside.legs.now (eqb-true _ _ (sym c.is_empty.ensures ∙ c.if-is_empty.true)) in
    let whole = sym c.self.view_is ∙ ap (path_of root) none ∙ at_block root in
    (λ yes. whole ∙ ap (λ block. after block []) (c.is_same.ensures.0 yes), λ is. c.is_same.ensures.1 (root_is root c.args.block.now (sym whole ∙ is)))

pub returns-else-is_empty : goal.returns-else-is_empty
returns-else-is_empty c = (
  λ yes. absurd (true≢false (sym yes ∙ c.if-is_empty.false)),
  λ is. c.is_empty.ensures ∙ eq-eqb _ _ (ap length (no_legs c.self.inside.root.now c.args.block.now c.self.inside.legs.now (c.self.view_is ∙ is))),
)

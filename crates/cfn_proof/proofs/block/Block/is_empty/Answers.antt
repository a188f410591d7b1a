use Rattle.std.proofs.Common.{◌∙◌, ap, sym, length, eq-eqb, eqb-true}
use Rattle.std.proofs.lemmas.List.{nil_from_length}
use Rattle.cfn_proof.specs.Packing.{unpacked}
use Rattle.cfn_proof.proofs.Packed.{none_bytes}
use Rattle.cfn_proof.proofs.block.Block.is_empty.Goals as goal

pub returns : goal.returns
returns c = (
  λ yes. sym c.self.view_is ∙ ap unpacked (sym c.as_slice.ensures ∙ nil_from_length c.as_slice.result.now (eqb-true _ _ (sym c.is_empty.ensures ∙ yes))),
  λ none. c.is_empty.ensures ∙ eq-eqb _ _ (ap length c.as_slice.ensures ∙ none_bytes _ c.self.invariant (c.self.view_is ∙ none)),
)

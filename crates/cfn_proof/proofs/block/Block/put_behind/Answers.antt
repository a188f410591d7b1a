use Rattle.std.proofs.Common.{◌≡◌, ◌∙◌, ◌++◌, ap, sym, subst}
use Rattle.cfn_proof.specs.Bytes.{bytes_in}
use Rattle.cfn_proof.specs.Packing.{IsPacked, unpacked}
use Rattle.cfn_proof.proofs.Packed.{packed_append, unpacked_append}
use Rattle.cfn_proof.proofs.block.Block.put_behind.Goals as goal

-- the bytes of the other block stand before those of this one
joined : (c : goal.Joined-self) → c.extend_from_slice-2.new.self.items ≡ bytes_in c.first.inside.bytes ++ bytes_in c.self.inside.bytes
joined c =
    c.in_ok-extend_from_slice-2.ensures.items
    ∙ ap (λ l. l ++ c.as_slice-own.result.now) (c.in_ok-extend_from_slice.ensures.items ∙ ap (λ l. l ++ c.as_slice-before.result.now) c.in_ok-bytes.ensures.items ∙ c.as_slice-before.ensures)
    ∙ ap (λ l. bytes_in c.first.inside.bytes ++ l) c.as_slice-own.ensures

pub invariant_of-self : goal.invariant_of-self
invariant_of-self c = subst (λ l. IsPacked l) (sym (joined c)) (packed_append _ _ c.first.invariant c.self.invariant)

pub returns-clause-ok : goal.returns-clause-ok
returns-clause-ok c =
    ap unpacked (joined c)
    ∙ unpacked_append _ _ c.first.invariant c.self.invariant
    ∙ ap (λ l. l ++ unpacked (bytes_in c.self.inside.bytes)) c.first.view_is
    ∙ ap (λ l. c.args.first.now ++ l) c.self.view_is

use Rattle.std.proofs.Common.{◌≡◌, ◌∙◌, ◌+◌, ◌∷◌, ◌++◌, ap, sym, subst, drop, append_assoc}
use Rattle.std.proofs.lemmas.List.{drop_more}
use Rattle.cfn_proof.specs.Nodes.{all_steps}
use Rattle.cfn_proof.specs.Packing.{IsPacked, unpacked}
use Rattle.cfn_proof.proofs.Packed.{packed_append, unpacked_append}
use Rattle.cfn_proof.proofs.tree.joined.Goals as goal

pub loop-node-2-preserved : goal.loop-node-2-preserved
loop-node-2-preserved c =
    let nodes = c.args.nodes.now in
    let i = c.loop-node-2.node-index in
    let node = c.node-item-in-loop-node-2.result in
    let rest = all_steps (drop (i + 1) nodes) in
    let old = c.loop-node-2.bytes.items in
    let added = c.bytes-in-loop-node-2.result.now in
    let is = c.in_ok-extend_from_slice.ensures.items in
    let packed = c.loop-node-2.invariant.0 in
    let more = c.bytes-in-loop-node-2.ensures.packed in
    let whole : all_steps (drop i nodes) ≡ node.block ++ rest = ap all_steps (drop_more nodes i node c.loop-node-2-test.true ∙ ap (λ n. n ∷ drop (i + 1) nodes) (sym c.node-item-in-loop-node-2.is)) in (
      subst (λ l. IsPacked l) (sym is) (packed_append old added packed more),
      ap (λ l. unpacked l ++ rest) is
          ∙ ap (λ l. l ++ rest) (unpacked_append old added packed more)
          ∙ append_assoc (unpacked old) (unpacked added) rest
          ∙ ap (λ block. unpacked old ++ (block ++ rest)) c.bytes-in-loop-node-2.ensures.steps
          ∙ ap (λ l. unpacked old ++ l) (sym whole)
          ∙ c.loop-node-2.invariant.1,
    )

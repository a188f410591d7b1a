use Rattle.std.proofs.Common.{◌≡◌, ◌<◌, ◌≤◌, ◌+◌, ◌∷◌, ◌++◌, [], List, length, sym, ap, ◌∙◌, subst, arith, append_assoc}
use Rattle.cfn_proof.specs.Nodes.{split_behind_at}
use Rattle.cfn_merge.specs.declared.walk.Walk.{Walk}
use Rattle.cfn_merge.specs.declared.pair.Source.{Source}
use Rattle.cfn_merge.specs.Sources.{IsWalking}
use Rattle.cfn_merge.proofs.Walks.{part_at, walk_left, walk_closed, walk_split}
use Rattle.cfn_merge.proofs.walk.Walk.step.Goals as goal
use Rattle.cfn_merge.proofs.walk.Walk.step.Goals.{in-Free, in-Shut, in-Split+in_ok-split_behind-in-Split+in_ok-push-in-Split+in_ok-push-in-Split-2}

pub returns : goal.returns
returns c =
    let first = c.args.pair.now.first.tree.now in
    let second = c.args.pair.now.second.tree.now in
    let nodes = c.args.self.now.tree in
    let sources = c.args.self.now.sources.items in
    let i = c.args.i in
    let block = c.in_ok-block.block in
    let w = c.requires.walking in
    let within : i < length nodes = omega (arith, c.requires.there, w.long) in
    let now = λ (u : Walk). IsWalking first second u.tree u.sources.items (i + 1) in
    elim c.match-ending.branch [
      | in-Free t ↦ (let part = part_at first second sources i c.index.result.now c.part-ending.result.0.now block c.part-ending.result.1 _ c.requires.there c.index.ensures c.part-ending.ensures c.in_ok-block.ensures t.in-Free.is in
          subst now (sym t.self-is) (subst (λ ns. IsWalking first second ns sources (i + 1)) (sym t.leave.ensures) (walk_left first second nodes sources i block within w part)))
      | in-Shut t ↦ (let part = part_at first second sources i c.index.result.now c.part-ending.result.0.now block c.part-ending.result.1 _ c.requires.there c.index.ensures c.part-ending.ensures c.in_ok-block.ensures t.in-Shut.is in
          subst now (sym t.self-is) (subst (λ ns. IsWalking first second ns sources (i + 1)) (sym t.close.ensures) (walk_closed first second nodes sources i block within w part)))
      | in-Split+in_ok-split_behind-in-Split+in_ok-push-in-Split+in_ok-push-in-Split-2 t ↦ (
          let d = t.in-Split.decision in
          let a = t.in-Split.first in
          let b = t.in-Split.second in
          let part = part_at first second sources i c.index.result.now c.part-ending.result.0.now block c.part-ending.result.1 _ c.requires.there c.index.ensures c.part-ending.ensures c.in_ok-block.ensures t.in-Split.is in
          let split = t.in_ok-split_behind-in-Split.ensures.ok in
          let len = ap (λ (u : Walk). length u.tree) t.self-is ∙ ap length split in
          let few : length (split_behind_at nodes i block d) ≤ 4294967296 = omega (arith, c.law_linked.ensures.linked.few, len) in
          let more : t.push-in-Split.new.self.items ≡ sources ++ a ∷ b ∷ [] =
          t.in_ok-push-in-Split-2.ensures.items ∙ ap (λ (l : List Source). l ++ b ∷ []) t.in_ok-push-in-Split.ensures.items ∙ append_assoc sources (a ∷ []) (b ∷ []) in
          subst now (sym t.self-is) (subst (λ ns. IsWalking first second ns t.push-in-Split.new.self.items (i + 1)) (sym split)
          (subst (λ ss. IsWalking first second (split_behind_at nodes i block d) ss (i + 1)) (sym more) (walk_split first second nodes sources i block within w d a b part few)))
          )
    ]

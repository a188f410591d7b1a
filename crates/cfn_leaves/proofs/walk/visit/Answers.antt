use Rattle.std.proofs.Common.{◌≡◌, ℕ, ◌+◌, List, [], ◌∷◌, ◌++◌, reverse, sym, ap, ◌∙◌, subst, arith}
use Rattle.std.proofs.lemmas.List.{reverse-append}
use Rattle.cfn_proof.specs.declared.tree.End.TheVariants.{Free, Shut, Split}
use Rattle.cfn_proof.specs.declared.tree.Node.{Node}
use Rattle.cfn_leaves.specs.declared.walk.Spot.{Spot}
use Rattle.cfn_leaves.specs.Walked.{IsOnWay, lifts}
use Rattle.cfn_leaves.proofs.Walks.{came_by_leaf, came_by_shut, came_by_split, some_made}
use Rattle.cfn_leaves.proofs.walk.visit.Goals as goal

not_free_shut : {e : _} → e ≡ Shut → e ≡ Free → ⊥
not_free_shut h k = cc

not_free_split : {e : _} {d : _} {one two : _} → e ≡ Split d one two → e ≡ Free → ⊥
not_free_split h k = cc

pub overflow_add-walk : goal.overflow_add-walk
overflow_add-walk c =
    let is = ap (λ (n : Node). n.end) (sym c.node-node.ensures) ∙ c.in-Shut.is in
    omega (arith, c.requires.room, some_made c.args.tree.now c.law_linked.ensures.linked c.args.at.node.number c.requires.there (not_free_shut is))

pub overflow_add-walk-in-Split : goal.overflow_add-walk-in-Split
overflow_add-walk-in-Split c =
    let is = ap (λ (n : Node). n.end) (sym c.node-node.ensures) ∙ c.in-Split.is in
    omega (arith, c.requires.room, some_made c.args.tree.now c.law_linked.ensures.linked c.args.at.node.number c.requires.there (not_free_split is))

pub returns-in_ok-push-in-Free-clause-on_way : goal.returns-in_ok-push-in-Free-clause-on_way
returns-in_ok-push-in-Free-clause-on_way c = λ (whole : List Spot) (last : ℕ) way.
    let is = ap (λ (n : Node). n.end) (sym c.node-node.ensures) ∙ c.in-Free.is in
    let low = c.in_ok-floor.ensures ∙ ap (λ (n : Node). c.args.at.floor + lifts n.block) c.node-node.ensures in
    subst (λ s. IsOnWay c.args.tree.now whole last s c.args.walk.now.made (reverse c.args.walk.now.ahead.items)) (sym c.in_ok-push-in-Free.ensures.items)
    (came_by_leaf c.args.tree.now c.law_linked.ensures.linked whole c.args.walk.now.spots.items last c.args.walk.now.made c.in_ok-floor.floor c.args.at (reverse c.args.walk.now.ahead.items) way is low)

pub returns-in-Shut-clause-on_way : goal.returns-in-Shut-clause-on_way
returns-in-Shut-clause-on_way c = λ (whole : List Spot) (last : ℕ) way.
    let is = ap (λ (n : Node). n.end) (sym c.node-node.ensures) ∙ c.in-Shut.is in
    came_by_shut c.args.tree.now c.law_linked.ensures.linked whole c.args.walk.now.spots.items last c.args.walk.now.made c.args.at (reverse c.args.walk.now.ahead.items) way is

pub returns-in_ok-push-in-Split-2-clause-on_way : goal.returns-in_ok-push-in-Split-2-clause-on_way
returns-in_ok-push-in-Split-2-clause-on_way c = λ (whole : List Spot) (last : ℕ) way.
    let is = ap (λ (n : Node). n.end) (sym c.node-node.ensures) ∙ c.in-Split.is in
    let low = c.in_ok-floor.ensures ∙ ap (λ (n : Node). c.args.at.floor + lifts n.block) c.node-node.ensures in
    let one : Spot = record { node = c.in-Split.first; floor = c.in_ok-floor.floor } in
    let two : Spot = record { node = c.in-Split.second; floor = c.in_ok-floor.floor } in
    let ahead : c.push-in-Split-2.new.self.items ≡ (c.args.walk.now.ahead.items ++ two ∷ []) ++ one ∷ [] = c.in_ok-push-in-Split-2.ensures.items ∙ ap (λ l. l ++ one ∷ []) c.in_ok-push-in-Split.ensures.items in
    let turned : reverse c.push-in-Split-2.new.self.items ≡ one ∷ two ∷ reverse c.args.walk.now.ahead.items =
    ap reverse ahead ∙ reverse-append (c.args.walk.now.ahead.items ++ two ∷ []) (one ∷ []) ∙ ap (λ l. one ∷ l) (reverse-append c.args.walk.now.ahead.items (two ∷ [])) in
    subst (IsOnWay c.args.tree.now whole last c.args.walk.now.spots.items (c.args.walk.now.made + 1)) (sym turned)
    (came_by_split c.args.tree.now c.law_linked.ensures.linked whole c.args.walk.now.spots.items last c.args.walk.now.made c.in_ok-floor.floor c.args.at (reverse c.args.walk.now.ahead.items) c.in-Split.decision c.in-Split.first c.in-Split.second way is low)

use Rattle.std.proofs.Common.{◌≡◌, sym, ap, subst, arith, ◌∙◌}
use Rattle.cfn_model.specs.Tree.{count}
use Rattle.cfn_proof.specs.Nodes.{tree_of}
use Rattle.std.proofs.lemmas.Bool.{iff_false}
use Rattle.cfn_record.specs.declared.kind.RecordFault.TheVariants as kinds
use Rattle.cfn_record.specs.Fault.{Fault}
use Rattle.cfn_replay.specs.Piece.{IsPieceText}
use Rattle.cfn_replay.specs.Standing.{IsStop}
use Rattle.cfn_replay.proofs.Capping.{count_cap}
use Rattle.cfn_replay.proofs.Happening.{give_not_out, give_breaks, whole_unseen, give_right, broken_unseen, broken}
use Rattle.cfn_replay.proofs.events.given.Goals as goal

pub returns-then-not-is_out-clause-stop : goal.returns-then-not-is_out-clause-stop
returns-then-not-is_out-clause-stop c = λ P old S read line.
    subst (λ s. IsStop P old.text s) (sym c.refused.ensures) (subst (λ n. Fault P old.text n kinds.Give) (sym line) (give_not_out P old c.args.lines.now c.args.leaves.now c.args.seen S c.args.told.worker c.args.told.leaf c.args.told.grant c.args.told.threshold c.args.told.seen read (iff_false (c.is_out.ensures P S.pool S.held) c.if-not-is_out.true)))

pub returns-then-not-sees-clause-stop : goal.returns-then-not-sees-clause-stop
returns-then-not-sees-clause-stop c = λ P old S read line.
    let b = subst (IsPieceText c.args.lines.now c.piece.new.lines) c.in-Broken.is c.in_ok-at.ensures.piece in
    subst (λ s. IsStop P old.text s) (sym c.refused-then-not-sees.ensures) (subst (λ n. Fault P old.text n kinds.Seen) (sym line) (broken_unseen P old c.args.lines.now c.args.leaves.now c.args.seen S c.args.told.worker c.args.told.leaf c.args.told.grant c.args.told.threshold c.args.told.seen read c.in-Broken.at b ((c.is_out.ensures P S.pool S.held).0 c.if-not-is_out.false) (iff_false c.could_see-sees.ensures c.if-not-sees.true)))

pub returns-else-not-sees-clause-stop : goal.returns-else-not-sees-clause-stop
returns-else-not-sees-clause-stop c = λ P old S read line.
    let b = subst (IsPieceText c.args.lines.now c.piece.new.lines) c.in-Broken.is c.in_ok-at.ensures.piece in
    let sees = c.could_see-sees.ensures.0 c.if-not-sees.false in
    subst (λ s. IsStop P old.text s) (sym c.refused-in-Broken.ensures) (broken P old c.args.lines.now c.args.leaves.now c.args.seen S c.args.told.worker c.args.told.leaf c.args.told.grant c.args.told.threshold c.args.told.seen read c.in-Broken.at b ((c.is_out.ensures P S.pool S.held).0 c.if-not-is_out.false) sees.0 sees.1)

pub returns-then-not-keeps-clause-stop : goal.returns-then-not-keeps-clause-stop
returns-then-not-keeps-clause-stop c = λ P old S read line.
    let p = subst (IsPieceText c.args.lines.now c.piece.new.lines) c.in-Whole.is c.in_ok-at.ensures.piece in
    subst (λ s. IsStop P old.text s) (sym c.refused-then-not-keeps.ensures) (subst (λ n. Fault P old.text n kinds.Give) (sym line) (give_breaks P old c.args.lines.now c.args.leaves.now c.args.seen S c.args.told.worker c.args.told.leaf c.args.told.grant c.args.told.threshold c.args.told.seen read c.piece.new.lines c.in-Whole.tree c.in-Whole.made p (iff_false c.keeps.ensures c.if-not-keeps.true)))

pub returns-then-not-sees-2-clause-stop : goal.returns-then-not-sees-2-clause-stop
returns-then-not-sees-2-clause-stop c = λ P old S read line.
    let p = subst (IsPieceText c.args.lines.now c.piece.new.lines) c.in-Whole.is c.in_ok-at.ensures.piece in
    let keeps = c.keeps.ensures.0 c.if-not-keeps.false in
    subst (λ s. IsStop P old.text s) (sym c.refused-then-not-sees-2.ensures) (subst (λ n. Fault P old.text n kinds.Seen) (sym line) (whole_unseen P old c.args.lines.now c.args.leaves.now c.args.seen S c.args.told.worker c.args.told.leaf c.args.told.grant c.args.told.threshold c.args.told.seen read c.piece.new.lines c.in-Whole.tree c.in-Whole.made p ((c.is_out.ensures P S.pool S.held).0 c.if-not-is_out.false) keeps.0 keeps.1 (iff_false c.could_see-sees.ensures c.if-not-sees-2.true)))

pub returns-in_ok-give-in-Whole-clause-right : goal.returns-in_ok-give-in-Whole-clause-right
returns-in_ok-give-in-Whole-clause-right c = λ P old S read.
    let p = subst (IsPieceText c.args.lines.now c.piece.new.lines) c.in-Whole.is c.in_ok-at.ensures.piece in
    let keeps = c.keeps.ensures.0 c.if-not-keeps.false in
    let sees = c.could_see-sees.ensures.0 c.if-not-sees-2.false in
    give_right P old c.args.lines.now c.args.leaves.now c.args.seen S c.args.told.worker c.args.told.leaf c.args.told.grant c.args.told.threshold c.args.told.seen read c.piece.new.lines c.in-Whole.tree c.in-Whole.made p c.give.new.leaves c.in_ok-give-in-Whole.ensures keeps.0 keeps.1 sees.0 sees.1 c.in_ok-at.ensures.text

pub give-requires : goal.give-requires
give-requires c =
    let p = subst (IsPieceText c.args.lines.now c.piece.new.lines) c.in-Whole.is c.in_ok-at.ensures.piece in
    let same : count (tree_of c.in-Whole.tree) ≡ c.in-Whole.made = ap count p.is ∙ count_cap p.tree ∙ sym p.made_is in
    let keeps = c.keeps.ensures.0 c.if-not-keeps.false in
    record { few = omega (arith, same, keeps.1) }

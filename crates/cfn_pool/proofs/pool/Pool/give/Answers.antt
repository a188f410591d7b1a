use Rattle.std.proofs.Common.{◌≡◌, [], ℕ, ◌∙◌, refl, sym, ap, subst, arith}
use Rattle.cfn_model.specs.Network.{Network}
use Rattle.cfn_machine.specs.Pool.{View}
use Rattle.cfn_machine.specs.Steps as steps
use Rattle.cfn_machine.specs.Steps.{PoolReturns, PoolRecalls, PoolSweeps, PoolNotes, PoolMeets, PoolGives, IsNotOut, IsOut}
use Rattle.cfn_leaves.specs.Value.{Holding as Leaves, pool_of}
use Rattle.cfn_low.specs.Holding.{Holding as Part}
use Rattle.cfn_pool.specs.Recorded.{Adds, gave, value_of}
use Rattle.cfn_proof.specs.Nodes.{tree_of}
use Rattle.cfn_machine.specs.Pool.{IsLeaf, Out, numbered}
use Rattle.cfn_machine.proofs.CallerLemmas.{replaced_leaf}
use Rattle.cfn_pool.proofs.Fitting.{copy_spelled, out_some, out_spelled}
use Rattle.cfn_pool.specs.Views.{Held, pool, view_of}
use Rattle.cfn_pool.proofs.Kept.{held, kept_by_step, price_is}
use Rattle.cfn_net.specs.Scoring.{Scoring, IsPriced}
use Rattle.cfn_explore.specs.Values.{PieceValue, piece_of}
use Rattle.cfn_machine.specs.Pool.{IsPiece}
use Rattle.cfn_pool.specs.Answers.{IsGiven}
use Rattle.cfn_pool.proofs.pool.Pool.give.Goals as goal

-- where a note was heeded, the piece is in its leaf's place
given : (old new : Leaves) (before after : Part) (piece : PieceValue) (word : ℕ) → after ≡ record before { seen = word } →
    ((view : View) (word : ℕ) → PoolGives (pool_of old view) word (piece_of piece) (pool_of new (record view { seen = word }))) → PoolGives (pool_of old (view_of before)) word (piece_of piece) (pool_of new (view_of after))
given old new before after piece word heeded gives =
    subst (λ (part : Part). PoolGives (pool_of old (view_of before)) word (piece_of piece) (pool_of new (view_of part))) (sym heeded) (gives (view_of before) word)

pub invariant_of-self : goal.invariant_of-self
invariant_of-self g c =
    let part = c.self.inside.holder in
    let now = c.heed-seen.new.holder in
    let below = c.heed-seen.ensures.below in
    record {
      room = c.gave.ensures.room;
      held = kept_by_step g.M.Incumbent.network (held c.self.inside.leaves part c.self.inside.recording) (held c.give.new.self now c.gave.new.self) c.heed-seen.result (steps.Gives (piece_of c.args.piece)) c.law_kept-2.ensures.reached (c.in-Done.ensures.network ∙ c.self.invariant.held.own) c.self.invariant.held
          (subst (λ (Q : Network). IsPiece Q (piece_of c.args.piece)) c.requires.own c.law_kept.ensures.piece, omega (arith, below, c.requires.seen), c.heed-seen.ensures.falls)
          (given c.self.inside.leaves c.give.new.self part now c.args.piece c.heed-seen.result c.heed-seen.ensures.seen c.in-Done.ensures.gives)
          (c.gave.ensures.adds c.args.piece c.in-Ok.ensures);
    }

pub returns-in-Done : goal.returns-in-Done
returns-in-Done g c =
    let part = c.self.inside.holder in
    let now = c.heed-seen.new.holder in
    let price = price_is g.M.Incumbent.network part.held (subst (λ (s : Scoring). IsPriced s.network s.held) c.best.ensures c.law_priced.ensures) in
    record {
      gives = subst (λ (old : Held). IsGiven g.M.Incumbent.network (pool old) c.args.piece c.args.note (pool (held c.give.new.self now c.gave.new.self))) c.self.view_is (record {
        word = c.heed-seen.result;
        falls = c.heed-seen.ensures.falls;
        noted = c.heed-seen.ensures.below;
        below = let b = c.heed-seen.ensures.price in omega (arith, b, price);
        whole = λ all. c.heed-seen.ensures.whole all ∙ sym price;
        gives = given c.self.inside.leaves c.give.new.self part now c.args.piece c.heed-seen.result c.heed-seen.ensures.seen c.in-Done.ensures.gives;
      });
      adds = subst (λ r. Adds r (gave c.args.piece now.seen) (value_of c.gave.new.self)) (ap (λ (h : Held). h.recorded) c.self.view_is)
          (subst (λ s. Adds (value_of c.self.inside.recording) (gave c.args.piece s) (value_of c.gave.new.self)) (sym (ap (λ (h : Part). h.seen) c.heed-seen.ensures.seen)) (c.gave.ensures.adds c.args.piece c.in-Ok.ensures));
    }

-- the piece's leaf was out
was_out : (old new : Leaves) (part : Part) (piece : PieceValue) (word : ℕ) → ((view : View) (word : ℕ) → PoolGives (pool_of old view) word (piece_of piece) (pool_of new (record view { seen = word }))) →
    IsLeaf (pool_of old (view_of part)).tree [] piece.task.leaf (Out piece.task.worker piece.task.grant) piece.task.path
was_out old new part piece word gives =
    let step = gives (view_of part) word in
    replaced_leaf piece.task.leaf (Out piece.task.worker piece.task.grant) piece.task.path (numbered (pool_of old (view_of part)).next (tree_of piece.nodes)) (pool_of old (view_of part)).tree [] step.tree step.placed

pub gave-requires-clause-out : goal.gave-requires-clause-out
gave-requires-clause-out g c =
    let part = c.self.inside.holder in
    out_some g.M.Incumbent.network (pool_of c.self.inside.leaves (view_of part)) c.args.piece.task.leaf c.args.piece.task.worker c.args.piece.task.grant c.args.piece.task.path
    (was_out c.self.inside.leaves c.give.new.self part c.args.piece c.heed-seen.result c.in-Done.ensures.gives) (value_of c.self.inside.recording) c.self.invariant.held.recorded

pub gave-requires-clause-spelled : goal.gave-requires-clause-spelled
gave-requires-clause-spelled g c =
    let part = c.self.inside.holder in
    let below = c.heed-seen.ensures.below in
    let top = c.law_kept.ensures.threshold in
    copy_spelled (value_of c.self.inside.recording) c.in-Ok.copy c.args.piece c.heed-seen.result c.in-Ok.ensures
    (out_spelled g.M.Incumbent.network (pool_of c.self.inside.leaves (view_of part)) c.args.piece.task.leaf c.args.piece.task.worker c.args.piece.task.grant c.args.piece.task.path
    (was_out c.self.inside.leaves c.give.new.self part c.args.piece c.heed-seen.result c.in-Done.ensures.gives) (value_of c.self.inside.recording) c.self.invariant.held.pool_is c.law_numbered.ensures c.self.invariant.held.recorded)
    top (omega (arith, below, c.requires.seen, top))

pub returns-in-Gone : goal.returns-in-Gone
returns-in-Gone g c =
    let part = c.self.inside.holder in
    record {
      gives = (
        c.in-Gone.ensures.gives.0,
        refl,
        ap (λ (l : Leaves). held l part c.self.inside.recording) c.in-Gone.ensures.gives.1 ∙ c.self.view_is,
        subst (λ (old : Held). IsOut (pool old) c.args.piece.task → ⊥) c.self.view_is (c.in-Gone.ensures.gives.2 (view_of part)),
      );
      adds = ap (λ (h : Held). h.recorded) c.self.view_is;
    }

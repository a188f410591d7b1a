use Rattle.std.proofs.Common.{◌≡◌, ℕ, refl, ap, reverse, sym, ◌∙◌, subst}
use Rattle.std.specs.Prelude.{slice_set, None}
use Rattle.cfn_model.specs.Network.{Network}
use Rattle.cfn_machine.specs.Pool.{Task, View, IsPiece}
use Rattle.cfn_machine.specs.Steps.{PoolGives, IsOut}
use Rattle.cfn_leaves.specs.Value.{Holding as Leaves, pool_of}
use Rattle.cfn_explore.specs.Values.{PieceValue, piece_of}
use Rattle.cfn_core.specs.Actions.{Acts, CanGive, Give, Gone, Done, without}
use Rattle.cfn_core.specs.Machine.{Machine, world_of}
use Rattle.cfn_core.proofs.Insides.{value, changed}
use Rattle.cfn_core.proofs.Pools.{put_in, gone}
use Rattle.cfn_core.proofs.world.World.put_piece.Goals as goal

-- the copy that is given is the piece
gives : (old new : Leaves) (copy piece : PieceValue) → copy ≡ piece → ((view : View) (word : ℕ) → PoolGives (pool_of old view) word (piece_of copy) (pool_of new (record view { seen = word }))) →
    (view : View) (word : ℕ) → PoolGives (pool_of old view) word (piece_of piece) (pool_of new (record view { seen = word }))
gives old new copy piece same is view word = subst (λ (p : PieceValue). PoolGives (pool_of old view) word (piece_of p) (pool_of new (record view { seen = word }))) same (is view word)

never : (old : Leaves) (copy piece : PieceValue) → copy ≡ piece → ((view : View) → IsOut (pool_of old view) copy.task → ⊥) → (view : View) → IsOut (pool_of old view) piece.task → ⊥
never old copy piece same is view = subst (λ (p : PieceValue). IsOut (pool_of old view) p.task → ⊥) same (is view)

pub invariant_of-self : goal.invariant_of-self
invariant_of-self c =
    let m = value c.self.inside in
    let piece = c.args.piece.now in
    let own : piece.network ≡ m.network = c.requires.network ∙ ap (λ (n : Machine). n.network) (sym c.self.view_is) in
    let can : CanGive (world_of m) (piece_of piece) c.args.note = subst (λ (old : Machine). CanGive (world_of old) (piece_of piece) c.args.note) (sym c.self.view_is) c.requires.can in
    let hands = c.let_go.ensures ∙ ap (λ n. without n m.hands) (c.leaf.ensures ∙ ap (λ (t : Task). t.leaf) c.task.ensures.task) in
    changed m _ c.self.inside.best c.self.inside.seats.items (Give (piece_of piece) c.args.note) Done c.self.invariant (subst (λ (P : Network). IsPiece P (piece_of piece)) own c.law_kept.ensures.piece)
    (put_in m piece c.args.note c.give.new.self (reverse c.let_go.new.hands.items) can (gives c.self.inside.leaves c.give.new.self c.in_ok-given.given piece c.in_ok-given.ensures c.in-Done.ensures.gives) hands) refl c.in-Done.ensures.network

pub returns-in-Done-clause-acts : goal.returns-in-Done-clause-acts
returns-in-Done-clause-acts c =
    let m = value c.self.inside in
    let piece = c.args.piece.now in
    let can : CanGive (world_of m) (piece_of piece) c.args.note = subst (λ (old : Machine). CanGive (world_of old) (piece_of piece) c.args.note) (sym c.self.view_is) c.requires.can in
    let hands = c.let_go.ensures ∙ ap (λ n. without n m.hands) (c.leaf.ensures ∙ ap (λ (t : Task). t.leaf) c.task.ensures.task) in
    subst (λ (old : Machine). Acts old.network (world_of old) (Give (piece_of piece) c.args.note) Done
    (world_of (record m { leaves = c.give.new.self; view = record m.view { seen = m.word }; notes = slice_set m.notes c.args.note None; hands = reverse c.let_go.new.hands.items }))) c.self.view_is
    (put_in m piece c.args.note c.give.new.self (reverse c.let_go.new.hands.items) can (gives c.self.inside.leaves c.give.new.self c.in_ok-given.given piece c.in_ok-given.ensures c.in-Done.ensures.gives) hands)

pub returns-in-Gone-clause-acts : goal.returns-in-Gone-clause-acts
returns-in-Gone-clause-acts c =
    let m = value c.self.inside in
    let piece = c.args.piece.now in
    let can : CanGive (world_of m) (piece_of piece) c.args.note = subst (λ (old : Machine). CanGive (world_of old) (piece_of piece) c.args.note) (sym c.self.view_is) c.requires.can in
    subst (λ (old : Machine). Acts old.network (world_of old) (Give (piece_of piece) c.args.note) Gone (world_of (record m { leaves = c.give.new.self }))) c.self.view_is
    (gone m piece c.args.note c.give.new.self can c.in-Gone.ensures.gives.1 (never c.self.inside.leaves c.in_ok-given.given piece c.in_ok-given.ensures c.in-Gone.ensures.gives.2))

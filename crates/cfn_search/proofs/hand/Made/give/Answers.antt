use Rattle.std.proofs.Common.{◌⊎◌, inl, inr, Bool, true, false, IsTrue, IsFalse, refl, sym, ap, ◌∙◌, subst, arith}
use Rattle.cfn_machine.specs.Pool.{IsPiece, Task}
use Rattle.cfn_machine.specs.Laws.{IsPool}
use Rattle.cfn_explore.specs.Values.{PieceValue, piece_of}
use Rattle.cfn_pool.specs.Views.{Held, pool}
use Rattle.cfn_search.specs.Searching.{IsSearch, GoesOn}
use Rattle.cfn_search.proofs.Keeping.{goes_given, goes_back}
use Rattle.cfn_search.proofs.hand.Made.give.Goals as goal

-- what is returned, by the answer
by_answer : {A B C : Type 0} (answer : Bool) → (IsTrue answer → A) → (IsFalse answer → B) → (IsFalse answer → C) → A ⊎ (C × B)
by_answer true returned none same = inl (returned refl)
by_answer false returned none same = inr (same refl, none refl)

pub returns-in-Done-clause-goes : goal.returns-in-Done-clause-goes
returns-in-Done-clause-goes g c =
    let is = c.self.view_is in
    let own = ap (λ (p : PieceValue). p.network) is ∙ c.requires.own in
    let made = ap (λ (p : PieceValue). p.threshold) is in
    let least = c.requires.least in
    let note = c.note-note.ensures.least in
    goes_given g.M.Incumbent.network g.M.Incumbent.start (pool c.args.held.now) (pool c.give.new.self) c.self.inside.piece c.note-note.result c.law_kept.ensures.pool
    (subst (λ P. IsPiece P (piece_of c.self.inside.piece)) own c.law_kept-2.ensures.piece) (omega (arith, made, least, note)) c.in-Done.ensures.gives c.requires.search

pub returns-clause-goes : goal.returns-clause-goes
returns-clause-goes g c =
    let start = g.M.Incumbent.start in
    let same = c.in-Memory.ensures.gives.2 in
    let piece = c.law_kept-2.ensures.piece in
    let some = piece.some in
    let few = piece.few in
    let given = ap (λ (p : PieceValue). p.task.grant) c.in-Memory.ensures.gives.0 in
    let of = ap (λ (t : Task). t.grant) c.task-in-Memory.ensures.task in
    subst (λ (held : Held). GoesOn start (pool held) (pool c.back.new.self)) same
    (goes_back g.M.Incumbent.network start c.give.new.self c.back.new.self c.task-in-Memory.result.now.task
    (subst (λ (held : Held). IsPool g.M.Incumbent.network (pool held)) (sym same) c.law_kept.ensures.pool) (omega (arith, some, few, given, of))
    (by_answer c.back.result c.back.ensures.back c.back.ensures.none c.back.ensures.same)
    (subst (λ (held : Held). IsSearch start (pool held)) (sym same) c.requires.search))

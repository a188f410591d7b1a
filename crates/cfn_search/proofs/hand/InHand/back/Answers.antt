use Rattle.std.proofs.Common.{◌⊎◌, inl, inr, Bool, true, false, IsTrue, IsFalse, refl, subst}
use Rattle.cfn_search.specs.Searching.{IsReturned}
use Rattle.cfn_search.proofs.Keeping.{goes_back}
use Rattle.cfn_search.proofs.hand.InHand.back.Goals as goal

-- what is returned, by the answer
by_answer : {A B C : Type 0} (answer : Bool) → (IsTrue answer → A) → (IsFalse answer → B) → (IsFalse answer → C) → A ⊎ (C × B)
by_answer true returned none same = inl (returned refl)
by_answer false returned none same = inr (same refl, none refl)

pub returns-clause-back : goal.returns-clause-back
returns-clause-back g c = subst (λ given. IsReturned c.args.held.now given.task c.back.new.self) c.self.view_is (by_answer c.back.result c.back.ensures.back c.back.ensures.none c.back.ensures.same)

pub returns-clause-goes : goal.returns-clause-goes
returns-clause-goes g c =
    goes_back g.M.Incumbent.network g.M.Incumbent.start c.args.held.now c.back.new.self c.self.inside.task.task c.law_kept.ensures.pool c.law_kept-2.ensures.some
    (by_answer c.back.result c.back.ensures.back c.back.ensures.none c.back.ensures.same) c.requires.search

use Rattle.std.proofs.Common.{◌⊎◌, inl, inr, Bool, true, false, IsTrue, IsFalse, refl}
use Rattle.cfn_search.proofs.CallerLemmas.{goes_back}
use Rattle.cfn_search_tests.proofs.lanes.free.Goals as goal

-- what is freed, by the answer
by_answer : {A B C : Type 0} (answer : Bool) → (IsTrue answer → A) → (IsFalse answer → B) → (IsFalse answer → C) → A ⊎ (C × B)
by_answer true returned none same = inl (returned refl)
by_answer false returned none same = inr (same refl, none refl)

pub returns-clause-goes : goal.returns-clause-goes
returns-clause-goes g c =
    goes_back g.M.Incumbent.network g.M.Incumbent.start c.args.held.now c.back.new.self c.args.task.now.task c.law_kept.ensures.pool c.law_kept-2.ensures.some
    (by_answer c.back.result c.back.ensures.back c.back.ensures.none c.back.ensures.same) c.requires.search

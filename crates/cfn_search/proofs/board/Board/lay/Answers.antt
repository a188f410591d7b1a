use Rattle.std.proofs.Common.{◌∙◌, ap, subst}
use Rattle.cfn_pool.specs.Views.{pool}
use Rattle.cfn_explore.specs.Values.{TaskValue}
use Rattle.cfn_search.specs.Boards.{BoardValue}
use Rattle.cfn_search.specs.Searching.{IsReturned}
use Rattle.cfn_search.proofs.Laying.{taken_back}
use Rattle.cfn_search.proofs.board.Board.lay.Goals as goal

pub returns-in-Err-clause-none : goal.returns-in-Err-clause-none
returns-in-Err-clause-none g c = λ none.
    let taken = c.take.new.held in
    let back = subst (λ (given : TaskValue). IsReturned taken given.task c.back.new.self.held) c.in-Err.ensures.back.0 c.back.ensures.back in
    let same = taken_back g.M.Incumbent.network c.args.worker c.args.want c.in-Task.task.task (pool c.self.inside.held) taken c.back.new.self.held c.law_kept.ensures.pool.numbered c.in-Task.ensures.asks.1 back in
    (same ∙ ap (λ (board : BoardValue). pool board.held) c.self.view_is, c.in-Err.ensures.back.1)

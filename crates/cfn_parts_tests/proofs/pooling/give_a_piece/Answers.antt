use Rattle.std.proofs.Common.{◌≡◌, ℕ, ◌∙◌, true, false, Option, Some, None, refl, sym, ap}
use Rattle.std.specs.Prelude.{is_some}
use Rattle.cfn_explore.specs.Values.{PieceValue}
use Rattle.cfn_leaves.specs.declared.taking.Taken.{Taken}
use Rattle.cfn_pool.specs.declared.steps.Handed.{Handed}
use Rattle.cfn_pool.specs.declared.steps.Handed.TheVariants.{Done, Gone, Memory}
use Rattle.cfn_pool.specs.Recorded.{RecordingValue, AddsTaken, gave}
use Rattle.cfn_pool.specs.Answers.{AddsGiven}
use Rattle.cfn_pool.specs.Views.{pool}
use Rattle.cfn_pool.proofs.CallerLemmas.{still, still_taken}
use Rattle.cfn_parts_tests.proofs.pooling.give_a_piece.Goals as goal

none_by : (r : Option RecordingValue) → is_some r ≡ false → r ≡ None
none_by None none = refl
none_by (Some r) none = absurd (let no : true ≡ false = none in cc)

-- where no record is kept, none is kept afterwards
none_taken : (old new : Option RecordingValue) (worker want : ℕ) (taken : Taken) → old ≡ None → AddsTaken old worker want taken new → new ≡ None
none_taken old new worker want taken none adds = none_by new (still_taken old new worker want taken adds ∙ ap is_some none)

none_given : {M : Type 0} (old new : Option RecordingValue) (piece : PieceValue) (seen : ℕ) (handed : Handed M) → old ≡ None → AddsGiven old piece seen handed new → new ≡ None
none_given old new piece seen Done none adds = none_by new (still old new (gave piece seen) adds ∙ ap is_some none)
none_given old new piece seen (Gone given told) none adds = adds ∙ none
none_given old new piece seen (Memory given told) none adds = adds ∙ none

pub returns : goal.returns
returns g c =
    let first = none_taken c.args.pool.now.recorded c.take.new.self.recorded _ _ c.take.result c.requires.none c.take.ensures.adds in
    let second = none_taken c.take.new.self.recorded c.take-2.new.self.recorded _ _ c.take-2.result first c.take-2.ensures.adds in
    none_given c.take-2.new.self.recorded c.give.new.self.recorded c.in-Some.piece (pool c.give.new.self).view.seen c.give.result second c.give.ensures.adds

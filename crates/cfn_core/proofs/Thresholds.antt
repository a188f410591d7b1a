-- The word only falls, so at the end it is at most every threshold that was met on the way.
use Rattle.std.proofs.Common.{◌≡◌, ℕ, suc, ◌≤◌, List, [], ◌∷◌, refl, sym, ap, ◌∙◌, arith, Option, Some, None}
use Rattle.std.specs.Prelude.{IfSome}
use Rattle.cfn_model.specs.Network.{Network}
use Rattle.cfn_machine.specs.Pool.{Task, Piece, View}
use Rattle.cfn_core.specs.World.{World, view_at, note_at, least_price, opening}
use Rattle.cfn_core.specs.Actions.{Action, Look, Lower, Note, Meet, Take, Give, Back, Recall, Sweep, Reply, Idle, Gone, Done, Answers, Takes, take_idle, take_none, take_task, Gives, give_idle, give_gone, give_done, Returns, back_idle, back_not, back_done, Acts, Runs, AreActions}
use Rattle.cfn_core.specs.Laws.{IsWorld, IsAtMost, AreAtMost, EndsAtMost, MeetsAll}
use Rattle.cfn_core.proofs.Views.{by_option, nothing, price_low}
use Rattle.cfn_core.proofs.Keeping.{keeps, opens}

-- the word after an answer is that of the world that it leaves
word_left : {due : Reply} {left : World} {r : Reply} {new : World} → Answers due left r new → new.word ≡ left.word
word_left answers = ap (λ (w : World). w.word) answers.world

-- the word never rises
takes_falls : (P : Network) (w new : World) (worker want : ℕ) (r : Reply) → Takes P w worker want r new → new.word ≤ w.word
takes_falls P w new worker want r (take_idle h answers) = omega (arith, word_left answers)
takes_falls P w new worker want r (take_none lack c h answers) = omega (arith, word_left answers)
takes_falls P w new worker want r (take_task task pool c takes answers) = omega (arith, word_left answers)

gives_falls : (w new : World) (piece : Piece) (note : ℕ) (r : Reply) → Gives w piece note r new → new.word ≤ w.word
gives_falls w new piece note r (give_idle h answers) = omega (arith, word_left answers)
gives_falls w new piece note r (give_gone h k answers) = omega (arith, word_left answers)
gives_falls w new piece note r (give_done pool can gives answers) = omega (arith, word_left answers)

returns_falls : (w new : World) (task : Task) (r : Reply) → Returns w task r new → new.word ≤ w.word
returns_falls w new task r (back_idle h answers) = omega (arith, word_left answers)
returns_falls w new task r (back_not c h answers) = omega (arith, word_left answers)
returns_falls w new task r (back_done pool c returns answers) = omega (arith, word_left answers)

falls : (P : Network) (w new : World) (action : Action) (r : Reply) → Acts P w action r new → new.word ≤ w.word
falls P w new (Look i) r acts = by_option (view_at w.views i) acts (λ idle. omega (arith, word_left idle)) (λ view is answers. omega (arith, word_left answers))
falls P w new (Lower i found) r acts = by_option (view_at w.views i) acts (λ idle. omega (arith, word_left idle)) (λ view is answers. omega (arith, word_left answers))
falls P w new (Note i) r acts = by_option (view_at w.views i) acts (λ idle. omega (arith, word_left idle)) (λ view is answers. omega (arith, word_left answers))
falls P w new (Meet i) r acts = by_option (view_at w.views i) acts (λ idle. omega (arith, word_left idle)) (λ view is answers. omega (arith, word_left answers))
falls P w new (Take i want) r acts = takes_falls P w new i want r acts
falls P w new (Give piece note) r acts = gives_falls w new piece note r acts
falls P w new (Back task) r acts = returns_falls w new task r acts
falls P w new Recall r acts = omega (arith, word_left acts)
falls P w new Sweep r acts = omega (arith, word_left acts)

-- what a smaller word is at most
if_some : (o : Option View) (word : ℕ) → ((view : View) → o ≡ Some view → word ≤ view.seen) → IfSome o (λ view. word ≤ view.seen)
if_some None word each = tt
if_some (Some view) word each = each view refl

idle_not_done : Idle ≡ Done → ⊥
idle_not_done h = cc

gone_not_done : Gone ≡ Done → ⊥
gone_not_done h = cc

gives_at_most : (P : Network) (w new : World) (piece : Piece) (note : ℕ) (r : Reply) (word : ℕ) → IsWorld P w → word ≤ w.word → Gives w piece note r new → r ≡ Done → word ≤ piece.threshold
gives_at_most P w new piece note r word world low (give_idle h answers) done = absurd (idle_not_done (sym answers.reply ∙ done))
gives_at_most P w new piece note r word world low (give_gone h k answers) done = absurd (gone_not_done (sym answers.reply ∙ done))
gives_at_most P w new piece note r word world low (give_done pool can gives answers) done =
    by_option (note_at w.notes note) can.1 (λ n. absurd n) (λ seen there upto. omega (arith, low, upto, (world.word.notes note seen there).0))

at_most : (P : Network) (w new : World) (action : Action) (r : Reply) (word : ℕ) → IsWorld P w → word ≤ w.word → Acts P w action r new → IsAtMost word w action r
at_most P w new (Look i) r word world low acts = tt
at_most P w new (Lower i found) r word world low acts = tt
at_most P w new (Note i) r word world low acts = tt
at_most P w new (Meet i) r word world low acts = if_some (view_at w.views i) word (λ view is. omega (arith, low, (world.word.views i view is).from))
at_most P w new (Take i want) r word world low acts = tt
at_most P w new (Give piece note) r word world low acts = gives_at_most P w new piece note r word world low acts
at_most P w new (Back task) r word world low acts = tt
at_most P w new Recall r word world low acts = tt
at_most P w new Sweep r word world low acts = tt

all_fall : (P : Network) (actions : List Action) (replies : List Reply) (w new : World) → Runs P w actions replies new → new.word ≤ w.word
all_fall P [] [] w new runs = omega (arith, ap (λ (w : World). w.word) runs)
all_fall P [] (r ∷ replies) w new runs = absurd runs
all_fall P (action ∷ actions) [] w new runs = absurd runs
all_fall P (action ∷ actions) (r ∷ replies) w new runs = omega (arith, falls P w runs.0 action r runs.1, all_fall P actions replies runs.0 new runs.2)

are_at_most : (P : Network) (actions : List Action) (replies : List Reply) (w new : World) → AreActions P actions → IsWorld P w → Runs P w actions replies new → AreAtMost P new.word w actions replies
are_at_most P [] replies w new are world runs = tt
are_at_most P (action ∷ actions) [] w new are world runs = absurd runs
are_at_most P (action ∷ actions) (r ∷ replies) w new are world runs =
    let low : new.word ≤ w.word = omega (arith, falls P w runs.0 action r runs.1, all_fall P actions replies runs.0 new runs.2) in
    (runs.0, runs.1, at_most P w runs.0 action r new.word world low runs.1, are_at_most P actions replies runs.0 new are.1 (keeps P w runs.0 action r are.0 world runs.1) runs.2)

pub ends_at_most : EndsAtMost
ends_at_most P workers budget actions replies w network few are runs =
    are_at_most P actions replies (opening P workers budget) w are (opens P workers budget network few) runs

-- where all views are met, they keep no price below the upper bound
none_kept : (P : Network) (views : List (Option View)) → ((i : ℕ) → view_at views i ≡ None) → least_price P views ≡ P.upper
none_kept P [] all = refl
none_kept P (None ∷ views) all = omega (arith, none_kept P views (λ i. all (suc i)))
none_kept P (Some view ∷ views) all = nothing (sym (all 0))

pub meets_all : MeetsAll
meets_all P w world all = omega (arith, world.word.least, none_kept P w.views all, price_low P w.pool.view.best)

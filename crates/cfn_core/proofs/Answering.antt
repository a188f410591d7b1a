-- Each action has an answer in every world, and one alone where leaves have numbers of their own.
use Rattle.std.proofs.Common.{◌≡◌, ℕ, zero, suc, ◌<◌, ◌≤◌, ◌⊎◌, inl, inr, List, [], ◌∷◌, length, refl, sym, ap, ap₂, ◌∙◌, subst, arith, Option, Some, None, MatchOption, slice_index_or}
use Rattle.std.proofs.lemmas.Bool.{cases_lt}
use Rattle.cfn_model.specs.Network.{Network}
use Rattle.cfn_machine.specs.Pool.{Task, Piece, AreNumbered}
use Rattle.cfn_machine.specs.Steps.{Gives as Giving, Returns as Returning}
use Rattle.cfn_machine.proofs.CallerLemmas as machine
use Rattle.cfn_core.specs.World.{World, view_at, note_at, opening}
use Rattle.cfn_core.specs.Actions.{Action, Runs, Look, Lower, Note, Meet, Take, Give, Back, Recall, Sweep, Reply, Idle, Given, Gone, NotOut, Done, Answers, IsThere, CanTake, CanGive, none_reply, taken, Takes, take_idle, take_none, take_task, given, Gives, give_idle, give_gone, give_done, returned, Returns, back_idle, back_not, back_done}
use Rattle.cfn_core.specs.Laws.{AnswersAll, AnswersOnce, AnswersNobody, RunsAll, RunsOnce}
use Rattle.cfn_core.proofs.Handing.{keeps_numbered, opens_numbered}

-- an answer by cases on an option
some_answer : {X : Type 0} (o : Option X) (due : X → Reply) (idle : World) (left : X → World) →
    (r : Reply) × (new : World) × MatchOption o (Answers Idle idle r new) (λ x. Answers (due x) (left x) r new)
some_answer None due idle left = (Idle, idle, record { reply = refl; world = refl })
some_answer (Some x) due idle left = (due x, left x, record { reply = refl; world = refl })

just : {due : Reply} {left : World} → Answers due left due left
just = record { reply = refl; world = refl }

take_answer : (P : Network) (w : World) (worker want : ℕ) → (r : Reply) × (new : World) × Takes P w worker want r new
take_answer P w worker want = elim (cases_lt worker (length w.views)) [
  | inr no_worker ↦ (Idle, w, take_idle (λ can. omega (arith, can.0)) just)
  | inl there ↦ elim (cases_lt 0 want) [
    | inr nothing_wanted ↦ (Idle, w, take_idle (λ can. omega (arith, can.1)) just)
    | inl wants ↦ (let can : CanTake w worker want = (there, omega arith) in elim (machine.takes_or_none P w.pool worker want (omega arith)) [
      | inl some ↦ (Given some.0, taken w some.0 some.1, take_task some.0 some.1 can some.2 just)
      | inr none ↦ (none_reply none.0, w, take_none none.0 can none.1 just)
    ])
  ]
]

note_there : (o : Option ℕ) (threshold : ℕ) → MatchOption o ⊥ (λ seen. seen ≤ threshold) ⊎ (MatchOption o ⊥ (λ seen. seen ≤ threshold) → ⊥)
note_there None threshold = inr (λ h. h)
note_there (Some seen) threshold = elim (cases_lt threshold seen) [ inl above ↦ inr (λ h. omega arith) | inr upto ↦ inl upto ]

can_or_not : (w : World) (piece : Piece) (note : ℕ) → CanGive w piece note ⊎ (CanGive w piece note → ⊥)
can_or_not w piece note = elim (cases_lt piece.task.worker (length w.views)) [
  | inr nobody ↦ inr (λ can. omega (arith, can.0, nobody))
  | inl there ↦ elim (note_there (note_at w.notes note) piece.threshold) [
    | inr cannot ↦ inr (λ can. cannot can.1)
    | inl may ↦ inl (there, may)
  ]
]

give_answer : (w : World) (piece : Piece) (note : ℕ) → (r : Reply) × (new : World) × Gives w piece note r new
give_answer w piece note = elim (can_or_not w piece note) [
  | inr cannot ↦ (Idle, w, give_idle cannot just)
  | inl can ↦ elim (machine.gives_or_not w.pool w.word piece) [
    | inr gone ↦ (Gone, w, give_gone can gone just)
    | inl out ↦ (Done, given w piece note out.0, give_done out.0 can out.1 just)
  ]
]

back_answer : (w : World) (task : Task) → (r : Reply) × (new : World) × Returns w task r new
back_answer w task = elim (cases_lt task.worker (length w.views)) [
  | inr nobody ↦ (Idle, w, back_idle (λ there. omega (arith, there, nobody)) just)
  | inl there ↦ elim (machine.returns_or_not w.pool task) [
    | inr never ↦ (NotOut, w, back_not there never just)
    | inl out ↦ (Done, returned w task out.0, back_done out.0 there out.1 just)
  ]
]

pub answers_all : AnswersAll
answers_all P w (Look i) = some_answer (view_at w.views i) _ w _
answers_all P w (Lower i found) = some_answer (view_at w.views i) _ w _
answers_all P w (Note i) = some_answer (view_at w.views i) _ w _
answers_all P w (Meet i) = some_answer (view_at w.views i) _ w _
answers_all P w (Take i want) = take_answer P w i want
answers_all P w (Give piece note) = give_answer w piece note
answers_all P w (Back task) = back_answer w task
answers_all P w Recall = (Done, _, just)
answers_all P w Sweep = (Done, _, just)

abbrev Same : Reply → Reply → World → World → Type 0
Same r other new another = (r ≡ other) × (new ≡ another)

same : {due : Reply} {left : World} {r other : Reply} {new another : World} → Answers due left r new → Answers due left other another → Same r other new another
same a b = (a.reply ∙ sym b.reply, a.world ∙ sym b.world)

same_by_option : {X : Type 0} (o : Option X) (due : X → Reply) (idle : World) (left : X → World) {r other : Reply} {new another : World} →
    MatchOption o (Answers Idle idle r new) (λ x. Answers (due x) (left x) r new) → MatchOption o (Answers Idle idle other another) (λ x. Answers (due x) (left x) other another) →
    Same r other new another
same_by_option None due idle left a b = same a b
same_by_option (Some x) due idle left a b = same a b

takes_once : (P : Network) (w : World) (worker want : ℕ) (r other : Reply) (new another : World) → AreNumbered w.pool → Takes P w worker want r new → Takes P w worker want other another → Same r other new another
takes_once P w worker want r other new another own (take_idle h a) (take_idle k b) = same a b
takes_once P w worker want r other new another own (take_idle h a) (take_none lack c n b) = absurd (h c)
takes_once P w worker want r other new another own (take_idle h a) (take_task task pool c t b) = absurd (h c)
takes_once P w worker want r other new another own (take_none lack c n a) (take_idle k b) = absurd (k c)
takes_once P w worker want r other new another own (take_none lack c n a) (take_none lack' d m b) =
    (a.reply ∙ ap none_reply (machine.one_lack w.pool lack lack' n m) ∙ sym b.reply, a.world ∙ sym b.world)
takes_once P w worker want r other new another own (take_none lack c n a) (take_task task pool d t b) = absurd (machine.never_both P w.pool pool worker want task lack t n)
takes_once P w worker want r other new another own (take_task task pool c t a) (take_idle k b) = absurd (k c)
takes_once P w worker want r other new another own (take_task task pool c t a) (take_none lack d n b) = absurd (machine.never_both P w.pool pool worker want task lack t n)
takes_once P w worker want r other new another own (take_task task pool c t a) (take_task task' pool' d u b) =
    let one = machine.one_task P w.pool pool pool' worker want task task' own t u in
    (a.reply ∙ ap Given one.0 ∙ sym b.reply, a.world ∙ ap₂ (taken w) one.0 one.1 ∙ sym b.world)

gives_once : (P : Network) (w : World) (piece : Piece) (note : ℕ) (r other : Reply) (new another : World) → AreNumbered w.pool → Gives w piece note r new → Gives w piece note other another → Same r other new another
gives_once P w piece note r other new another own (give_idle h a) (give_idle k b) = same a b
gives_once P w piece note r other new another own (give_idle h a) (give_gone c k b) = absurd (h c)
gives_once P w piece note r other new another own (give_idle h a) (give_done pool c g b) = absurd (h c)
gives_once P w piece note r other new another own (give_gone c h a) (give_idle k b) = absurd (k c)
gives_once P w piece note r other new another own (give_gone c h a) (give_gone d k b) = same a b
gives_once P w piece note r other new another own (give_gone c h a) (give_done pool d g b) = absurd (h (machine.gives_out w.pool pool w.word piece g))
gives_once P w piece note r other new another own (give_done pool c g a) (give_idle k b) = absurd (k c)
gives_once P w piece note r other new another own (give_done pool c g a) (give_gone d k b) = absurd (k (machine.gives_out w.pool pool w.word piece g))
gives_once P w piece note r other new another own (give_done pool c g a) (give_done pool' d h b) =
    (a.reply ∙ sym b.reply, a.world ∙ ap (given w piece note) (machine.one_pool P w.pool pool pool' w.word (Giving piece) own g h) ∙ sym b.world)

returns_once : (P : Network) (w : World) (task : Task) (r other : Reply) (new another : World) → AreNumbered w.pool → Returns w task r new → Returns w task other another → Same r other new another
returns_once P w task r other new another own (back_idle h a) (back_idle k b) = same a b
returns_once P w task r other new another own (back_idle h a) (back_not c k b) = absurd (h c)
returns_once P w task r other new another own (back_idle h a) (back_done pool c t b) = absurd (h c)
returns_once P w task r other new another own (back_not c h a) (back_idle k b) = absurd (k c)
returns_once P w task r other new another own (back_done pool c t a) (back_idle k b) = absurd (k c)
returns_once P w task r other new another own (back_not c h a) (back_not d k b) = same a b
returns_once P w task r other new another own (back_not c h a) (back_done pool d t b) = absurd (machine.returns_out w.pool pool task t h)
returns_once P w task r other new another own (back_done pool c t a) (back_not d k b) = absurd (machine.returns_out w.pool pool task t k)
returns_once P w task r other new another own (back_done pool c t a) (back_done pool' d u b) =
    (a.reply ∙ sym b.reply, a.world ∙ ap (returned w task) (machine.one_pool P w.pool pool pool' w.word (Returning task) own t u) ∙ sym b.world)

pub answers_once : AnswersOnce
answers_once P w (Look i) r other new another own a b = same_by_option (view_at w.views i) _ w _ a b
answers_once P w (Lower i found) r other new another own a b = same_by_option (view_at w.views i) _ w _ a b
answers_once P w (Note i) r other new another own a b = same_by_option (view_at w.views i) _ w _ a b
answers_once P w (Meet i) r other new another own a b = same_by_option (view_at w.views i) _ w _ a b
answers_once P w (Take i want) r other new another own a b = takes_once P w i want r other new another own a b
answers_once P w (Give piece note) r other new another own a b = gives_once P w piece note r other new another own a b
answers_once P w (Back task) r other new another own a b = returns_once P w task r other new another own a b
answers_once P w Recall r other new another own a b = same a b
answers_once P w Sweep r other new another own a b = same a b

-- an action that names a worker that is not there
none_there : {X : Type 0} (items : List (Option X)) (i : ℕ) → (i < length items → ⊥) → slice_index_or items i None ≡ None
none_there [] i nobody = refl
none_there (item ∷ items) zero nobody = absurd (nobody (omega arith))
none_there (item ∷ items) (suc i) nobody = none_there items i (λ low. nobody (omega (arith, low)))

idle_by_option : {X : Type 0} (o : Option X) (due : X → Reply) (left : X → World) {w new : World} {r : Reply} → o ≡ None →
    MatchOption o (Answers Idle w r new) (λ x. Answers (due x) (left x) r new) → (r ≡ Idle) × (new ≡ w)
idle_by_option None due left none a = (a.reply, a.world)
idle_by_option (Some x) due left none a = absurd (cc)

takes_nobody : (P : Network) (w : World) (worker want : ℕ) (r : Reply) (new : World) → (IsThere w worker → ⊥) → Takes P w worker want r new → (r ≡ Idle) × (new ≡ w)
takes_nobody P w worker want r new nobody (take_idle h a) = (a.reply, a.world)
takes_nobody P w worker want r new nobody (take_none lack c h a) = absurd (nobody c.0)
takes_nobody P w worker want r new nobody (take_task task pool c h a) = absurd (nobody c.0)

gives_nobody : (w : World) (piece : Piece) (note : ℕ) (r : Reply) (new : World) → (IsThere w piece.task.worker → ⊥) → Gives w piece note r new → (r ≡ Idle) × (new ≡ w)
gives_nobody w piece note r new nobody (give_idle h a) = (a.reply, a.world)
gives_nobody w piece note r new nobody (give_gone c h a) = absurd (nobody c.0)
gives_nobody w piece note r new nobody (give_done pool c g a) = absurd (nobody c.0)

returns_nobody : (w : World) (task : Task) (r : Reply) (new : World) → (IsThere w task.worker → ⊥) → Returns w task r new → (r ≡ Idle) × (new ≡ w)
returns_nobody w task r new nobody (back_idle h a) = (a.reply, a.world)
returns_nobody w task r new nobody (back_not c h a) = absurd (nobody c)
returns_nobody w task r new nobody (back_done pool c t a) = absurd (nobody c)

pub answers_nobody : AnswersNobody
answers_nobody P w new (Look i) r nobody a = idle_by_option (view_at w.views i) _ _ (none_there w.views i nobody) a
answers_nobody P w new (Lower i found) r nobody a = idle_by_option (view_at w.views i) _ _ (none_there w.views i nobody) a
answers_nobody P w new (Note i) r nobody a = idle_by_option (view_at w.views i) _ _ (none_there w.views i nobody) a
answers_nobody P w new (Meet i) r nobody a = idle_by_option (view_at w.views i) _ _ (none_there w.views i nobody) a
answers_nobody P w new (Take i want) r nobody a = takes_nobody P w i want r new nobody a
answers_nobody P w new (Give piece note) r nobody a = gives_nobody w piece note r new nobody a
answers_nobody P w new (Back task) r nobody a = returns_nobody w task r new nobody a
answers_nobody P w new Recall r nobody a = absurd nobody
answers_nobody P w new Sweep r nobody a = absurd nobody

-- lists of actions
runs_all_from : (P : Network) (w : World) (actions : List Action) → (replies : List Reply) × (new : World) × Runs P w actions replies new
runs_all_from P w [] = ([], w, refl)
runs_all_from P w (action ∷ actions) =
    let s = answers_all P w action in
    let rest = runs_all_from P s.1 actions in
    (s.0 ∷ rest.0, rest.1, (s.1, s.2, rest.2))

pub runs_all : RunsAll
runs_all P workers budget actions = runs_all_from P (opening P workers budget) actions

runs_once_from : (P : Network) (actions : List Action) (w : World) (replies others : List Reply) (new another : World) → AreNumbered w.pool →
    Runs P w actions replies new → Runs P w actions others another → (replies ≡ others) × (new ≡ another)
runs_once_from P [] w [] [] new another own a b = (refl, a ∙ sym b)
runs_once_from P [] w [] (s ∷ others) new another own a b = absurd b
runs_once_from P [] w (r ∷ replies) others new another own a b = absurd a
runs_once_from P (action ∷ actions) w [] others new another own a b = absurd a
runs_once_from P (action ∷ actions) w (r ∷ replies) [] new another own a b = absurd b
runs_once_from P (action ∷ actions) w (r ∷ replies) (s ∷ others) new another own a b =
    let step = answers_once P w action r s a.0 b.0 own a.1 b.1 in
    let rest = runs_once_from P actions a.0 replies others new another (keeps_numbered P w a.0 action r own a.1) a.2 (subst (λ u. Runs P u actions others another) (sym step.1) b.2) in
    (ap₂ (λ x y. x ∷ y) step.0 rest.0, rest.1)

pub runs_once : RunsOnce
runs_once P workers budget actions replies others w another a b =
    runs_once_from P actions (opening P workers budget) replies others w another (opens_numbered P workers budget) a b

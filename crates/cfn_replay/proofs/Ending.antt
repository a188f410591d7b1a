-- The lines behind the events are right, or one of them fails.
use Rattle.std.proofs.Common.{◌≡◌, ◌≢◌, ℕ, ◌+◌, true, false, List, [], ◌∷◌, ◌++◌, refl, sym, ap, ◌∙◌, subst, append_assoc, append-nil}
use Rattle.std.specs.Prelude.{Option, Some, None, unwrap_or}
use Rattle.cfn_model.specs.Network.{Network}
use Rattle.cfn_model.specs.Certificate.{Solution, Good}
use Rattle.cfn_model.specs.Text.{IsSpelled}
use Rattle.cfn_fault.specs.Lines as lines
use Rattle.cfn_machine.specs.Pool.{Pool, tree_of}
use Rattle.cfn_model.specs.Text as texts
use Rattle.cfn_leaves.specs.Value.{Holding}
use Rattle.cfn_record.specs.declared.kind.RecordFault.TheVariants as kinds
use Rattle.cfn_record.specs.Lines.{Record, RecordLine, Heading, Budget, Take, Give, Back, Recall, Sweep, Says, lines_of, lines_of_best, lines_of_entries, Spells, State, AtEvents, AtValues, AtEnd, AtOver, LineFollows, NoBestFollows, BestFollows, ValuesFollow, EndFollows, NodeLineFollows, TakeFollows, GiveFollows, BackFollows, RecallFollows, SweepFollows}
use Rattle.cfn_record.specs.Replaying as replaying
use Rattle.cfn_record.specs.Replaying.{GoodRecord}
use Rattle.cfn_record.specs.Fault.{ComesTo, LinePasses, HasPassed, Fault, ByGrammar}
use Rattle.cfn_record.proofs.CallerLemmas.{same_record, whole_texts}
use Rattle.cfn_replay.specs.declared.said.EventLine.{EventLine}
use Rattle.cfn_replay.specs.declared.said.EventLine.TheVariants as events
use Rattle.cfn_replay.specs.Position.{Position, IsRead, Tells, At}
use Rattle.cfn_replay.specs.Said.{line_of_event}
use Rattle.cfn_replay.specs.Kinds.{event_in, best_in, values_line, is_end}
use Rattle.cfn_replay.specs.Standing.{Stands, IsAtBest, IsAtEnd, best_line, behind_best}
use Rattle.cfn_replay.specs.Replayed.{IsReplayed}
use Rattle.cfn_replay.proofs.Beginning.{goes_on, no_line, wrong_line}

-- what a line is that was told
pub event_back : (e : EventLine) → Some e ≡ event_in (Some (line_of_event e))
event_back (events.Take worker want leaf grant) = refl
event_back (events.Give worker leaf grant threshold seen) = refl
event_back (events.Back worker leaf grant) = refl
event_back events.Recall = refl
event_back (events.Sweep seen) = refl

line_told : (e its : EventLine) → Some e ≡ Some its → line_of_event e ≡ line_of_event its
line_told e its same = let s : e ≡ its = cc in ap line_of_event s

eventful : (o : Option RecordLine) (its : EventLine) → event_in o ≡ Some its → o ≡ Some (line_of_event its)
eventful (Some (Take worker want leaf grant)) its e = ap Some (line_told (events.Take worker want leaf grant) its e)
eventful (Some (Give worker leaf grant threshold seen)) its e = ap Some (line_told (events.Give worker leaf grant threshold seen) its e)
eventful (Some (Back worker leaf grant)) its e = ap Some (line_told (events.Back worker leaf grant) its e)
eventful (Some Recall) its e = ap Some (line_told events.Recall its e)
eventful (Some (Sweep seen)) its e = ap Some (line_told (events.Sweep seen) its e)
eventful _ its e = absurd cc

bested : (o : Option RecordLine) (best : Option ℕ) → best_in o ≡ Some best → o ≡ Some (best_line best)
bested (Some (Says lines.NoBest)) best e = let same : None ≡ best = cc in ap (λ b. Some (best_line b)) same
bested (Some (Says (lines.Best cost))) best e = let same : Some cost ≡ best = cc in ap (λ b. Some (best_line b)) same
bested _ best e = absurd cc

valued : (o : Option RecordLine) (values : List ℕ) → values_line o ≡ Some values → o ≡ Some (Says (lines.Values values))
valued (Some (Says (lines.Values vs))) values e = let same : vs ≡ values = cc in ap (λ v. Some (Says (lines.Values v))) same
valued _ values e = absurd cc

ended : (o : Option RecordLine) → is_end o ≡ true → o ≡ Some (Says lines.End)
ended (Some (Says lines.End)) e = refl
ended _ e = absurd cc

-- a line that is none of these may not come
no_event : (o : Option RecordLine) → event_in o ≡ None → best_in o ≡ None → (l : RecordLine) (t : State) → o ≡ Some l → LineFollows (AtEvents []) l t → ⊥
no_event o none no_best l t is (TakeFollows {worker = w} {want = n} {leaf = a} {grant = g}) = let h : Some (events.Take w n a g) ≡ None = subst (λ x. event_in x ≡ None) is none in absurd cc
no_event o none no_best l t is (GiveFollows {worker = w} {leaf = a} {grant = g} {threshold = k} {seen = s}) = let h : Some (events.Give w a g k s) ≡ None = subst (λ x. event_in x ≡ None) is none in absurd cc
no_event o none no_best l t is (BackFollows {worker = w} {leaf = a} {grant = g}) = let h : Some (events.Back w a g) ≡ None = subst (λ x. event_in x ≡ None) is none in absurd cc
no_event o none no_best l t is RecallFollows = let h : Some events.Recall ≡ None = subst (λ x. event_in x ≡ None) is none in absurd cc
no_event o none no_best l t is (SweepFollows {seen = s}) = let h : Some (events.Sweep s) ≡ None = subst (λ x. event_in x ≡ None) is none in absurd cc
no_event o none no_best l t is NoBestFollows = let h : Some None ≡ None = subst (λ x. best_in x ≡ None) is no_best in absurd cc
no_event o none no_best l t is (BestFollows {cost = c}) = let h : Some (Some c) ≡ None = subst (λ x. best_in x ≡ None) is no_best in absurd cc
no_event o none no_best l t is (NodeLineFollows node) = elim node [ ]

no_values : (o : Option RecordLine) → values_line o ≡ None → (l : RecordLine) (t : State) → o ≡ Some l → LineFollows AtValues l t → ⊥
no_values o none l t is (ValuesFollow {values = vs}) = let h : Some vs ≡ None = subst (λ x. values_line x ≡ None) is none in absurd cc

no_end : (o : Option RecordLine) → is_end o ≡ false → (l : RecordLine) (t : State) → o ≡ Some l → LineFollows AtEnd l t → ⊥
no_end o none l t is EndFollows = let h : true ≡ false = subst (λ x. is_end x ≡ false) is none in absurd cc

best_follows : (best : Option ℕ) → LineFollows (AtEvents []) (best_line best) (behind_best best)
best_follows None = NoBestFollows
best_follows (Some cost) = BestFollows

-- an event, or the line behind the last one
module _ (P : Network) (old new : Position) (h : Holding) (seen : ℕ) (S : Stands P old h seen) (o : Option RecordLine) (tells : Tells old new o) where
  pub event_read : (its : EventLine) → event_in o ≡ Some its → IsRead old new (line_of_event its)
  event_read its is = subst (Tells old new) (eventful o its is) tells

  pub neither : event_in o ≡ None → best_in o ≡ None → Fault P old.text (old.count + 1) kinds.Text
  neither none no_best = no_line P old new S.front (AtEvents []) o S.at tells (λ e. cc) (no_event o none no_best)

  best_passes : (best : Option ℕ) → unwrap_or best P.upper ≡ seen → LinePasses P S.front new.rest (best_line best)
  best_passes None same = record { pool = S.pool; comes = S.comes; such = S.seen_is ∙ sym same }
  best_passes (Some cost) same = record { pool = S.pool; comes = S.comes; such = S.seen_is ∙ sym same }

  pub best_right : (best : Option ℕ) → best_in o ≡ Some best → unwrap_or best P.upper ≡ seen → IsAtBest P new h best
  best_right best is same = record {
    front = S.front;
    at = goes_on P old new S.front (AtEvents []) o S.at tells (best_line best) (behind_best best) (bested o best is) (best_follows best) (best_passes best same);
    pool = S.pool;
    comes = S.comes;
    held = S.held;
    seen_is = S.seen_is ∙ sym same;
  }

  pub best_wrong : (best : Option ℕ) → best_in o ≡ Some best → unwrap_or best P.upper ≢ seen → Fault P old.text (old.count + 1) kinds.Seen
  best_wrong None is other = wrong_line P old new S.front (AtEvents []) o S.at tells (Says lines.NoBest) AtEnd kinds.Seen (bested o None is) NoBestFollows (refl, record { pool = S.pool; comes = S.comes; such = λ same. other (sym same ∙ S.seen_is) })
  best_wrong (Some cost) is other = wrong_line P old new S.front (AtEvents []) o S.at tells (Says (lines.Best cost)) AtValues kinds.Seen (bested o (Some cost) is) BestFollows (refl, record { pool = S.pool; comes = S.comes; such = λ same. other (sym same ∙ S.seen_is) })

-- the values
pub none_at_end : (P : Network) (r : Position) (h : Holding) → IsAtBest P r h None → IsAtEnd P r h None
none_at_end P r h B = record { front = B.front; at = B.at; pool = B.pool; comes = B.comes; held = B.held; seen_is = B.seen_is }

module _ (P : Network) (old new : Position) (h : Holding) (cost : ℕ) (B : IsAtBest P old h (Some cost)) (o : Option RecordLine) (tells : Tells old new o) where
  pub no_values_text : values_line o ≡ None → Fault P old.text (old.count + 1) kinds.Text
  no_values_text none = no_line P old new (B.front ++ Says (lines.Best cost) ∷ []) AtValues o B.at tells (λ e. cc) (no_values o none)

  pub values_right : (values : List ℕ) → values_line o ≡ Some values → IsAtEnd P new h (Some (record { cost = cost; values = values }))
  values_right values is = record {
    front = B.front;
    at = subst (λ ls. At P new ls AtEnd) (append_assoc B.front (Says (lines.Best cost) ∷ []) (Says (lines.Values values) ∷ []))
        (goes_on P old new (B.front ++ Says (lines.Best cost) ∷ []) AtValues o B.at tells (Says (lines.Values values)) AtEnd (valued o values is) ValuesFollow tt);
    pool = B.pool;
    comes = B.comes;
    held = B.held;
    seen_is = B.seen_is;
  }

-- the last line
abbrev comes_best : (P : Network) (front : List RecordLine) (pool : Pool) (best : Option Solution) → ComesTo P front [] pool → ComesTo P (front ++ lines_of_best best) (lines_of_best best) pool
comes_best P front pool best c = record {
  variables = c.variables;
  functions = c.functions;
  upper = c.upper;
  budget = c.budget;
  entries = c.entries;
  lines_are =
      ap (λ ls. ls ++ lines_of_best best) c.lines_are
      ∙ ap (λ ls. Heading ∷ Says (lines.Numbers c.variables c.functions c.upper) ∷ Budget c.budget ∷ (ls ++ lines_of_best best)) (append-nil (lines_of_entries c.entries));
  run = c.run;
}

module _ (P : Network) (old new : Position) (h : Holding) (best : Option Solution) (E : IsAtEnd P old h best) (o : Option RecordLine) (tells : Tells old new o) where
  pub no_end_text : is_end o ≡ false → Fault P old.text (old.count + 1) kinds.Text
  no_end_text none = no_line P old new (E.front ++ lines_of_best best) AtEnd o E.at tells (λ e. cc) (no_end o none)

  module _ (end : is_end o ≡ true) where
    pub not_good : (Good P (replaying.certificate_of P best (tree_of E.pool.tree)) → ⊥) → Fault P old.text (old.count + 1) kinds.Certificate
    not_good bad = wrong_line P old new (E.front ++ lines_of_best best) AtEnd o E.at tells (Says lines.End) AtOver kinds.Certificate (ended o end) EndFollows
        (refl, record { best = best; pool = E.pool; comes = comes_best P E.front E.pool best E.comes; bad = bad })

    module _ (good : Good P (replaying.certificate_of P best (tree_of E.pool.tree))) where
      abbrev all : List RecordLine
      all = (E.front ++ lines_of_best best) ++ Says lines.End ∷ []

      at_over : At P new all AtOver
      at_over = goes_on P old new (E.front ++ lines_of_best best) AtEnd o E.at tells (Says lines.End) AtOver (ended o end) EndFollows
          (record { best = best; pool = E.pool; comes = comes_best P E.front E.pool best E.comes; good = good })

      never_over : (l : RecordLine) (t : State) → LineFollows AtOver l t → ⊥
      never_over l t follows = elim follows [ ]

      pub more_text : (new.rest ≡ [] → ⊥) → Fault P new.text (new.count + 1) kinds.Text
      more_text some = ByGrammar new.rest all AtOver at_over.passed (record { line = λ l more may rest. never_over l may.1 may.2; over = λ e. some }) (ap (λ n. n + 1) at_over.count) refl

      abbrev its : Record
      its = record { variables = E.comes.variables; functions = E.comes.functions; upper = E.comes.upper; budget = E.comes.budget; entries = E.comes.entries; best = best }

      lines_are : lines_of its ≡ all
      lines_are =
          let c = comes_best P E.front E.pool best E.comes in
          sym (ap (λ ls. ls ++ Says lines.End ∷ []) c.lines_are
          ∙ ap (λ ls. Heading ∷ Says (lines.Numbers c.variables c.functions c.upper) ∷ Budget c.budget ∷ ls) (append_assoc (lines_of_entries c.entries) (lines_of_best best) (Says lines.End ∷ [])))

      pub replayed : new.rest ≡ [] → (bytes : List ℕ) → texts.Spells (replaying.certificate_of P best (tree_of E.pool.tree)) bytes → IsReplayed P new.text bytes
      replayed over bytes comes =
          let w = whole_texts P new.text all (subst (λ rest. HasPassed P new.text rest all AtOver) over at_over.passed) in
          let same : w.0 ≡ its = same_record w.0 its (w.3 ∙ sym lines_are) in
          let g = subst (GoodRecord P) same w.2 in
          record {
            its = its;
            spells = subst (λ r. Spells r new.text) same w.1;
            good = record { variables = g.variables; functions = g.functions; upper = g.upper; pool = E.pool; run = E.comes.run; seen = E.seen_is; good = good };
            comes = comes;
          }

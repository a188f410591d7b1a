-- Each action keeps the pool sound and the word's rule.
use Rattle.std.proofs.Common.{◌≡◌, ℕ, ◌+◌, ◌-◌, ◌<◌, ◌≤◌, inl, inr, min, List, [], ◌∷◌, refl, sym, ap, subst, arith, Option, Some, None, slice_set}
use Rattle.cfn_model.specs.Network.{Network}
use Rattle.cfn_model.specs.Tree.{Valid}
use Rattle.cfn_model.proofs.CallerLemmas.{valid_lower}
use Rattle.cfn_machine.specs.Pool.{tree_of, Task, Piece, IsPiece, View, Pool, IsSound, price, cheaper, KeepsFitting, new_view}
use Rattle.cfn_machine.specs.Steps.{PoolTakes, PoolGives, PoolReturns, pool_recalled, pool_swept, pool_met}
use Rattle.cfn_machine.specs.Steps.{Takes as Taking, Gives as Giving, Returns as Returning, Recalls, Sweeps, Meets}
use Rattle.cfn_core.specs.World.{World, view_at, note_at, least_price, shares_of, IsView, HasWordRule}
use Rattle.cfn_core.specs.Actions.{Action, Look, Lower, Note, Meet, Take, Give, Back, Recall, Sweep, Reply, Answers, looked, lowered, noted, met, taken, Takes, take_idle, take_none, take_task, CanGive, given, Gives, give_idle, give_gone, give_done, returned, Returns, back_idle, back_not, back_done, all_back, cleared, Runs, AreActions}
use Rattle.cfn_core.specs.Laws.{IsWorld, Opens, Keeps}
use Rattle.cfn_machine.proofs.CallerLemmas.{keeps_sound, cheaper_price, cheaper_keeps}
use Rattle.cfn_machine.proofs.CallerLemmas as machine
use Rattle.cfn_core.proofs.Views.{by_option, set_at, behind_at, nothing, same_some, price_low, least_lowered, least_same, least_met, shares_set, opening_least, opening_shares, opening_view}

module _ (P : Network) (w : World) (holds : IsWorld P w) where
  sound : IsSound P w.pool
  sound = holds.sound

  rule : HasWordRule P w
  rule = holds.word

  pub valid_at_word : Valid P [] (tree_of w.pool.tree) w.word
  valid_at_word = valid_lower P [] (tree_of w.pool.tree) w.pool.view.seen w.word rule.pool.from sound.valid

  look_kept : (i : ℕ) (view : View) → view_at w.views i ≡ Some view → IsWorld P (looked w i view)
  look_kept i view is = record {
    sound = sound;
    word = record {
      least = omega (arith, rule.least, least_same P w.views i view (record view { seen = w.word }) is refl);
      pool = rule.pool;
      views = λ j v at. elim (set_at w.views i j _ v at) [
        | inl same ↦ subst (IsView P w.word) (same_some same) (record { from = omega arith; upto = omega (arith, rule.pool.from, rule.pool.upto); keeps = (rule.views i view is).keeps })
        | inr old ↦ rule.views j v old
      ];
      notes = rule.notes;
      one = λ j v at. elim (set_at w.views i j _ v at) [
        | inl same ↦ subst (λ (v : View). v.shares ≡ 1) (same_some same) (rule.one i view is)
        | inr old ↦ rule.one j v old
      ];
      some = rule.some;
      all = omega (arith, rule.all, shares_set w.views i view (Some (record view { seen = w.word })) is);
    };
  }

  lower_kept : (i : ℕ) (found : Option (List ℕ)) (view : View) → KeepsFitting P found → view_at w.views i ≡ Some view → IsWorld P (lowered P w i found view)
  lower_kept i found view fits is =
      let new : View = record view { best = cheaper P view.best found; seen = min w.word (price P found) } in
      record {
        sound = sound;
        word = record {
          least = omega (arith, rule.least, least_lowered P w.views i (price P found) view new is (cheaper_price P view.best found));
          pool = record { from = omega (arith, rule.pool.from); upto = rule.pool.upto; keeps = rule.pool.keeps };
          views = λ j v at. elim (set_at w.views i j _ v at) [
            | inl same ↦ subst (IsView P (min w.word (price P found))) (same_some same) (record { from = omega arith; upto = omega (arith, price_low P found); keeps = cheaper_keeps P view.best found (rule.views i view is).keeps fits })
            | inr old ↦ (let o = rule.views j v old in record { from = omega (arith, o.from); upto = o.upto; keeps = o.keeps })
          ];
          notes = λ j seen at. (omega (arith, (rule.notes j seen at).0), (rule.notes j seen at).1);
          one = λ j v at. elim (set_at w.views i j _ v at) [
            | inl same ↦ subst (λ (v : View). v.shares ≡ 1) (same_some same) (rule.one i view is)
            | inr old ↦ rule.one j v old
          ];
          some = rule.some;
          all = omega (arith, rule.all, shares_set w.views i view (Some new) is);
        };
      }

  note_kept : (i : ℕ) (view : View) → view_at w.views i ≡ Some view → IsWorld P (noted w view)
  note_kept i view is = record {
    sound = sound;
    word = record {
      least = rule.least;
      pool = rule.pool;
      views = rule.views;
      notes = λ j seen at. elim (behind_at w.notes j _ seen at) [
        | inl same ↦ (let v = rule.views i view is in subst (λ s. (w.word ≤ s) × (s ≤ P.upper)) (same_some same) (v.from, v.upto))
        | inr old ↦ rule.notes j seen old
      ];
      one = rule.one;
      some = rule.some;
      all = rule.all;
    };
  }

  meet_kept : (i : ℕ) (view : View) → view_at w.views i ≡ Some view → IsWorld P (met P w i view)
  meet_kept i view is = record {
    sound = keeps_sound P w.pool (pool_met P w.pool view) w.word (Meets view) (rule.views i view is).keeps sound refl;
    word = record {
      least = omega (arith, rule.least, least_met P w.views i view is, cheaper_price P w.pool.view.best view.best);
      pool = record {
        from = omega (arith, rule.pool.from, (rule.views i view is).from);
        upto = omega (arith, rule.pool.upto);
        keeps = cheaper_keeps P w.pool.view.best view.best rule.pool.keeps (rule.views i view is).keeps;
      };
      views = λ j v at. elim (set_at w.views i j None v at) [ inl same ↦ nothing same | inr old ↦ rule.views j v old ];
      notes = rule.notes;
      one = λ j v at. elim (set_at w.views i j None v at) [ inl same ↦ nothing same | inr old ↦ rule.one j v old ];
      some = omega (arith, rule.some);
      all = omega (arith, rule.all, shares_set w.views i view None is);
    };
  }

  -- the word's rule speaks of the pool's view alone
  rule_kept : (pool : Pool) (hands : List Task) → pool.view ≡ w.pool.view → HasWordRule P (record w { pool = pool; hands = hands })
  rule_kept pool hands same = record {
    least = subst (λ (v : View). w.word ≡ min (price P v.best) (least_price P w.views)) (sym same) rule.least;
    pool = subst (IsView P w.word) (sym same) rule.pool;
    views = rule.views;
    notes = rule.notes;
    one = rule.one;
    some = subst (λ (v : View). 0 < v.shares) (sym same) rule.some;
    all = subst (λ (v : View). v.shares + shares_of w.views ≡ 128) (sym same) rule.all;
  }

  take_kept : (worker want : ℕ) (task : Task) (pool : Pool) → PoolTakes P w.pool worker want task pool → IsWorld P (taken w task pool)
  take_kept worker want task pool takes = record {
    sound = keeps_sound P w.pool pool w.word (Taking worker want task) tt sound takes;
    word = rule_kept pool (task ∷ w.hands) (ap (λ (p : Pool). p.view) takes.left);
  }

  back_kept : (task : Task) (pool : Pool) → PoolReturns w.pool task pool → IsWorld P (returned w task pool)
  back_kept task pool returns = record {
    sound = keeps_sound P w.pool pool w.word (Returning task) tt sound returns;
    word = rule_kept pool _ (ap (λ (p : Pool). p.view) returns.left);
  }

  -- the word's rule where the pool sees the word
  seen_rule : (pool : Pool) (notes : List (Option ℕ)) (hands : List Task) → pool.view ≡ record w.pool.view { seen = w.word } →
      ((j seen : ℕ) → note_at notes j ≡ Some seen → note_at w.notes j ≡ Some seen) → HasWordRule P (record w { pool = pool; notes = notes; hands = hands })
  seen_rule pool notes hands same fewer = record {
    least = subst (λ (v : View). w.word ≡ min (price P v.best) (least_price P w.views)) (sym same) rule.least;
    pool = subst (IsView P w.word) (sym same) (record { from = omega arith; upto = omega (arith, rule.pool.from, rule.pool.upto); keeps = rule.pool.keeps });
    views = rule.views;
    notes = λ j seen at. rule.notes j seen (fewer j seen at);
    one = rule.one;
    some = subst (λ (v : View). 0 < v.shares) (sym same) rule.some;
    all = subst (λ (v : View). v.shares + shares_of w.views ≡ 128) (sym same) rule.all;
  }

  give_kept : (piece : Piece) (note : ℕ) (pool : Pool) → IsPiece P piece → CanGive w piece note → PoolGives w.pool w.word piece pool → IsWorld P (given w piece note pool)
  give_kept piece note pool is can gives =
      let low : w.word ≤ piece.threshold = by_option (note_at w.notes note) can.1 (λ n. absurd n) (λ seen there upto. omega (arith, upto, (rule.notes note seen there).0)) in
      record {
        sound = keeps_sound P w.pool pool w.word (Giving piece) (is, low, rule.pool.from) sound gives;
        word = seen_rule pool (slice_set w.notes note None) _ (ap (λ (p : Pool). p.view) gives.left) (λ j seen there. elim (set_at w.notes note j None seen there) [ inl same ↦ nothing same | inr old ↦ old ]);
      }

  recall_kept : IsWorld P (all_back w)
  recall_kept = record {
    sound = keeps_sound P w.pool (pool_recalled w.pool) w.word Recalls tt sound refl;
    word = rule_kept (pool_recalled w.pool) w.hands refl;
  }

  sweep_kept : IsWorld P (cleared P w)
  sweep_kept = record {
    sound = keeps_sound P w.pool (pool_swept P w.pool w.word) w.word Sweeps rule.pool.from sound refl;
    word = seen_rule _ w.notes w.hands refl (λ j seen there. there);
  }

-- one action
left_as : {P : Network} {due : Reply} {left : World} {r : Reply} {new : World} → IsWorld P left → Answers due left r new → IsWorld P new
left_as {P} holds answers = subst (IsWorld P) (sym answers.world) holds

takes_keeps : (P : Network) (w new : World) (worker want : ℕ) (r : Reply) → IsWorld P w → Takes P w worker want r new → IsWorld P new
takes_keeps P w new worker want r holds (take_idle h answers) = left_as holds answers
takes_keeps P w new worker want r holds (take_none lack c h answers) = left_as holds answers
takes_keeps P w new worker want r holds (take_task task pool c takes answers) = left_as (take_kept P w holds worker want task pool takes) answers

gives_keeps : (P : Network) (w new : World) (piece : Piece) (note : ℕ) (r : Reply) → IsPiece P piece → IsWorld P w → Gives w piece note r new → IsWorld P new
gives_keeps P w new piece note r is holds (give_idle h answers) = left_as holds answers
gives_keeps P w new piece note r is holds (give_gone h k answers) = left_as holds answers
gives_keeps P w new piece note r is holds (give_done pool can gives answers) = left_as (give_kept P w holds piece note pool is can gives) answers

returns_keeps : (P : Network) (w new : World) (task : Task) (r : Reply) → IsWorld P w → Returns w task r new → IsWorld P new
returns_keeps P w new task r holds (back_idle h answers) = left_as holds answers
returns_keeps P w new task r holds (back_not c h answers) = left_as holds answers
returns_keeps P w new task r holds (back_done pool c returns answers) = left_as (back_kept P w holds task pool returns) answers

pub keeps : Keeps
keeps P w new (Look i) r brings holds acts = by_option (view_at w.views i) acts (λ idle. left_as holds idle) (λ view is answers. left_as (look_kept P w holds i view is) answers)
keeps P w new (Lower i found) r brings holds acts = by_option (view_at w.views i) acts (λ idle. left_as holds idle) (λ view is answers. left_as (lower_kept P w holds i found view brings is) answers)
keeps P w new (Note i) r brings holds acts = by_option (view_at w.views i) acts (λ idle. left_as holds idle) (λ view is answers. left_as (note_kept P w holds i view is) answers)
keeps P w new (Meet i) r brings holds acts = by_option (view_at w.views i) acts (λ idle. left_as holds idle) (λ view is answers. left_as (meet_kept P w holds i view is) answers)
keeps P w new (Take i want) r brings holds acts = takes_keeps P w new i want r holds acts
keeps P w new (Give piece note) r brings holds acts = gives_keeps P w new piece note r brings holds acts
keeps P w new (Back task) r brings holds acts = returns_keeps P w new task r holds acts
keeps P w new Recall r brings holds acts = left_as (recall_kept P w holds) acts
keeps P w new Sweep r brings holds acts = left_as (sweep_kept P w holds) acts

-- the opening
pub opens : Opens
opens P workers budget network few = record {
  sound = (machine.opens P (127 - workers) budget network).sound;
  word = record {
    least = omega (arith, opening_least P (workers + 1) (new_view P 1) refl);
    pool = record { from = omega arith; upto = omega arith; keeps = tt };
    views = λ i view at. subst (IsView P P.upper) (sym (opening_view (workers + 1) i (new_view P 1) view at)) (record { from = omega arith; upto = omega arith; keeps = tt });
    notes = λ i seen at. nothing at;
    one = λ i view at. ap (λ (v : View). v.shares) (opening_view (workers + 1) i (new_view P 1) view at);
    some = omega (arith, few);
    all = omega (arith, few, opening_shares (workers + 1) (new_view P 1) refl);
  };
}

-- every list of actions
pub runs_keep : (P : Network) (actions : List Action) (replies : List Reply) (w new : World) → AreActions P actions → IsWorld P w → Runs P w actions replies new → IsWorld P new
runs_keep P [] [] w new are holds runs = subst (IsWorld P) (sym runs) holds
runs_keep P [] (r ∷ replies) w new are holds runs = absurd runs
runs_keep P (action ∷ actions) [] w new are holds runs = absurd runs
runs_keep P (action ∷ actions) (r ∷ replies) w new are holds runs =
    runs_keep P actions replies runs.0 new are.1 (keeps P w runs.0 action r are.0 holds runs.1) runs.2

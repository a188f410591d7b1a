-- What becomes of a leaf, from where its store stands.
use Rattle.std.proofs.Common.{◌≡◌, ℕ, ◌<◌, ◌≤◌, inl, Bool, true, false, List, [], ◌∷◌, ◌++◌, length, refl, sym, ap, ◌∙◌, subst, arith}
use Rattle.std.proofs.lemmas.Bool.{false≢true}
use Rattle.std.specs.Prelude.{slice_index, IsTrue}
use Rattle.cfn_model.specs.declared.step.Step.{Step}
use Rattle.cfn_model.specs.declared.step.Event.{Event}
use Rattle.cfn_model.specs.declared.step.Decision.{Decision}
use Rattle.cfn_model.specs.Network.{Network, Fits, cost}
use Rattle.cfn_model.specs.Paths.{TameBlock}
use Rattle.cfn_model.specs.Steps.{IsDecision, Run, after}
use Rattle.cfn_model.specs.Sums.{floor, is_live}
use Rattle.cfn_model.specs.Tree.{IsStrictSplit}
use Rattle.cfn_model.specs.declared.step.Event.TheVariants.{Did}
use Rattle.cfn_model.proofs.CallerLemmas.{fewer}
use Rattle.cfn_store.specs.Standing.{Standing, history}
use Rattle.cfn_branch.specs.Choosing.{AllDecided, IsChoice, IsSplit}
use Rattle.cfn_trim.specs.Leaves.{IsLeaf}
use Rattle.cfn_consistency.specs.Consistency.{AreFullyConsistent}
use Rattle.cfn_gain.specs.declared.settling.Settling.{Settling}
use Rattle.cfn_gain.specs.declared.settling.Settling.TheVariants.{Settled}
use Rattle.cfn_gain.proofs.CallerLemmas.{after_append}
use Rattle.cfn_dive.specs.Enforcing.{Finds, GoesOn, IsSettledAt, OnlyOf}
use Rattle.cfn_dive.proofs.CallerLemmas.{choices_fit, is_leaf, only_choices, runs_further, split_decision, split_strict}
use Rattle.cfn_ranking.specs.Changes.{CanDivide, Leaves, MayClose}

-- where enforcing found a store fully consistent, it was so, and where it did not, that is not said
pub settled_here : (P : Network) (s : Standing) (k : ℕ) (found : Settling) (settled : Bool) → s.network ≡ P → found ≡ Settled → Finds s.network (history s) k found → settled ≡ true → IsSettledAt P (history s)
settled_here P s k found settled network found_is finds is = (k, subst (λ Q. AreFullyConsistent Q (history s) k) network (subst (Finds s.network (history s) k) found_is finds).0)

pub unsettled_here : (P : Network) (s : Standing) (settled : Bool) → settled ≡ false → settled ≡ true → IsSettledAt P (history s)
unsettled_here P s settled not is = absurd (false≢true (sym not ∙ is))

-- a leaf that is split behind the store's block
pub may_divide : (P : Network) (s : Standing) (k : ℕ) (block : List Step) (d : Decision) (low : ℕ) → s.network ≡ P → Run P s.base s.block k → TameBlock s.network s.base s.block → IsSplit s d → block ≡ s.block → low ≡ floor s.network (history s) → CanDivide P s.base k block d low
may_divide P s k block d low network run tame split is_block is_low = record {
  runs = record {
    run = subst (λ b. Run P s.base b k) (sym is_block) run;
    tame = subst (λ b. TameBlock P s.base b) (sym is_block) (subst (λ Q. TameBlock Q s.base s.block) network tame);
  };
  decision = subst (λ Q. IsDecision Q d) network (split_decision s d split);
  strict = subst (λ b. IsStrictSplit P (after b s.base) d) (sym is_block) (subst (λ Q. IsStrictSplit Q (history s) d) network (split_strict s d split));
  floor_is = is_low ∙ ap (λ Q. floor Q (history s)) network ∙ ap (λ b. floor P (after b s.base)) (sym is_block);
}

-- the steps that shift an assignment's cost to the floor run on
pub runs_shut : (P : Network) (before s : Standing) (k : ℕ) (block : List Step) → before.network ≡ P → GoesOn before s k → Run P before.base before.block k → block ≡ s.block → Run P before.base block k
runs_shut P before s k block network goes run is_block =
    subst (λ b. Run P before.base b k) (sym is_block) (subst (λ h. Run P h s.block k) goes.base (runs_further P before s k k network (omega arith) run goes))

tame_shut : (P : Network) (before s : Standing) (block : List Step) → s.network ≡ P → s.base ≡ before.base → TameBlock s.network s.base s.block → block ≡ s.block → TameBlock P before.base block
tame_shut P before s block network base tame is_block =
    subst (λ b. TameBlock P before.base b) (sym is_block) (subst (λ h. TameBlock P h s.block) base (subst (λ Q. TameBlock Q s.base s.block) network tame))

floor_shut : (P : Network) (before s : Standing) (block : List Step) → s.network ≡ P → s.base ≡ before.base → block ≡ s.block → floor s.network (history s) ≡ floor P (after block before.base)
floor_shut P before s block network base is_block =
    ap (λ Q. floor Q (history s)) network ∙ ap (λ h. floor P (after s.block h)) base ∙ ap (λ b. floor P (after b before.base)) (sym is_block)

-- no value that is taken comes back
live_before : (steps : List Step) (h : List Event) (x a : ℕ) → IsTrue (is_live (after steps h) x a) → IsTrue (is_live h x a)
live_before [] h x a live = live
live_before (step ∷ steps) h x a live = fewer (Did step) h x a (live_before steps (Did step ∷ h) x a live)

led : (before s : Standing) (k : ℕ) (goes : GoesOn before s k) → history s ≡ after goes.steps (history before)
led before s k goes = ap (λ b. after b s.base) goes.block ∙ ap (after (before.block ++ goes.steps)) goes.base ∙ after_append before.block goes.steps before.base

-- the values of which no other is live
pub taken_fit : (P : Network) (s : Standing) (values : List ℕ) → s.network ≡ P → length values ≡ length s.network.sizes → ((x : ℕ) → x < length s.network.sizes → IsChoice s x (slice_index values x)) → Fits P.sizes values
taken_fit P s values network len choice = subst (λ (Q : Network). Fits Q.sizes values) network (choices_fit s values len choice)

pub taken_leaf : (P : Network) (s : Standing) (values : List ℕ) (k : ℕ) → s.network ≡ P → length values ≡ length s.network.sizes → AllDecided s → ((x : ℕ) → x < length s.network.sizes → IsChoice s x (slice_index values x)) → k ≤ cost P values → IsLeaf s values k
taken_leaf P s values k network len decided choice dear =
    is_leaf s.network s values k refl (choices_fit s values len choice) (only_choices s values decided choice) (subst (λ Q. k ≤ cost Q values) (sym network) dear)

-- and then the leaf is that of the assignment, or may be closed
pub is_found : (P : Network) (before s : Standing) (k price : ℕ) (block : List Step) (values : List ℕ) → before.network ≡ P → GoesOn before s k → Run P before.base before.block k → TameBlock s.network s.base s.block → block ≡ s.block → price ≤ floor s.network (history s) → price ≡ cost P values → price < k → k ≤ P.upper → Fits P.sizes values → OnlyOf before.network (history before) values → Leaves P before.base k block (record { cost = price; values = values })
is_found P before s k price block values network goes run tame is_block reached is_price cheap top fits only =
    let here = goes.network ∙ network in
    let way : history s ≡ after block before.base = ap (after s.block) goes.base ∙ ap (λ b. after b before.base) (sym is_block) in
    record {
      runs = record { run = runs_shut P before s k block network goes run is_block; tame = tame_shut P before s block here goes.base tame is_block };
      found = record {
        only = λ x a there value live.
            only.each x a (record { variable = subst (λ (Q : Network). x < length Q.sizes) (sym network) there; value = subst (λ (Q : Network). a < slice_index Q.sizes x) (sym network) value })
            (live_before goes.steps (history before) x a (subst (λ h. IsTrue (is_live h x a)) (sym way ∙ led before s k goes) live));
        dear = (let f = floor_shut P before s block here goes.base is_block in omega (arith, f, reached));
      };
      solution = record { below = omega (arith, cheap, top); fits = fits; cost = sym is_price };
      cheap = cheap;
    }

pub is_closed : (P : Network) (before s : Standing) (k : ℕ) (block : List Step) → before.network ≡ P → GoesOn before s k → Run P before.base before.block k → TameBlock s.network s.base s.block → block ≡ s.block → k ≤ floor s.network (history s) → MayClose P before.base k block
is_closed P before s k block network goes run tame is_block reached =
    let here = goes.network ∙ network in
    record {
      runs = record { run = runs_shut P before s k block network goes run is_block; tame = tame_shut P before s block here goes.base tame is_block };
      closes = inl (let f = floor_shut P before s block here goes.base is_block in omega (arith, f, reached));
    }

-- The leaf that is expanded is closed or split, and the store goes back.
use Rattle.std.proofs.Common.{◌≡◌, ℕ, ◌+◌, ◌<◌, ◌≤◌, inl, inr, List, [], ◌∷◌, ◌++◌, length, refl, sym, ap, ◌∙◌, subst, append_assoc, length-append, Bool, true, false, Vec, Global, arith}
use Rattle.std.specs.Prelude.{Some, vec_len}
use Rattle.cfn_model.specs.declared.step.Step.{Step}
use Rattle.cfn_model.specs.declared.step.Decision.{Decision}
use Rattle.cfn_model.specs.declared.step.Event.{Event}
use Rattle.cfn_model.specs.declared.step.Event.TheVariants.{Took, Refused}
use Rattle.cfn_model.specs.Network.{Network, cost}
use Rattle.cfn_model.specs.Certificate.{threshold_of}
use Rattle.cfn_net.specs.Scoring.{Scoring}
use Rattle.cfn_model.specs.Paths.{TameBlock}
use Rattle.cfn_model.specs.Steps.{IsDecision, Run, after}
use Rattle.cfn_model.specs.Tree.{IsStrictSplit, open_leaves}
use Rattle.cfn_proof.specs.declared.tree.NodeId.{NodeId}
use Rattle.cfn_proof.specs.declared.tree.Node.{Node}
use Rattle.cfn_proof.specs.Nodes.{tree_of, IsLinked, split_behind_at, close_at}
use Rattle.cfn_store.specs.Standing.{Standing, history}
use Rattle.cfn_store.specs.Marking.{IsBehind}
use Rattle.cfn_dive.specs.declared.parts.Parts.{Parts}
use Rattle.cfn_dive.specs.declared.parts.Waiting.{Waiting}
use Rattle.cfn_dive.specs.declared.growth.Growth.{Growth}
use Rattle.cfn_dive.specs.Stack.{Place, Stack}
use Rattle.cfn_dive.specs.Growing.{InGroups, IsEnforced, IsGrown}
use Rattle.cfn_consistency.specs.Consistency.{AreFullyConsistent}
use Rattle.cfn_consistency.proofs.CallerLemmas.{fulls_rise}
use Rattle.cfn_dive.specs.Enforcing.{GoesOn, IsSettledAt}
use Rattle.cfn_dive.specs.Limit.{step_limit}
use Rattle.cfn_dive.specs.Diving.{IsOf, place_of, places, IsWaiting, AreWaiting, IsExpanding, IsClosing, IsSettledOrSpent}
use Rattle.cfn_dive.proofs.Stacks.{after_later, current_open, newest_beside}
use Rattle.cfn_dive.proofs.Going.{stack_split, all_closed}
use Rattle.cfn_dive.proofs.Trees.{grown_lower, grown_split, grown_end, grown_back}
use Rattle.cfn_dive.proofs.Onwards.{runs_further}

-- the newest leaf that waits is the last one
pub places_push : (ws : List Waiting) (w : Waiting) → places (ws ++ w ∷ []) ≡ places ws ++ place_of w ∷ []
places_push [] w = refl
places_push (v ∷ ws) w = ap (λ l. place_of v ∷ l) (places_push ws w)

pub waiting_push : (P : Network) (ws : List Waiting) (w : Waiting) → AreWaiting P ws → IsWaiting P w → AreWaiting P (ws ++ w ∷ [])
waiting_push P [] w all is = (is, tt)
waiting_push P (v ∷ ws) w all is = (all.0, waiting_push P ws w all.1 is)

pub waiting_pop : (P : Network) (ws : List Waiting) (w : Waiting) → AreWaiting P (ws ++ w ∷ []) → AreWaiting P ws × IsWaiting P w
waiting_pop P [] w all = (tt, all.0)
waiting_pop P (v ∷ ws) w all = let rest = waiting_pop P ws w all.1 in ((all.0, rest.0), rest.1)

-- where the newest leaf that waits stands from a store's place
pub record Popped (P : Network) (s : Standing) (ws : List Waiting) (w : Waiting) : Type 0 where
  pub waiting : AreWaiting P ws
  pub is : IsWaiting P w
  pub behind : IsBehind w.mark s
  pub longer : length (history w.mark) < length (history s)

refused_tail : {d c : Decision} {one two : List Event} → Refused d ∷ one ≡ Refused c ∷ two → one ≡ two
refused_tail e = cc

pub popped : (P : Network) (nodes : List Node) (base : List Event) (leaf : ℕ) (s : Standing) (waiting ws : List Waiting) (w : Waiting) → s.network ≡ P → waiting ≡ ws ++ w ∷ [] → AreWaiting P waiting → Stack nodes 0 base (record { leaf = leaf; path = s.base }) (places waiting) → Popped P s ws w
popped P nodes base leaf s waiting ws w network items all stack =
    let both = waiting_pop P ws w (subst (AreWaiting P) items all) in
    let beside = newest_beside nodes 0 base (record { leaf = leaf; path = s.base }) (places waiting) stack (places ws) (place_of w) (ap places items ∙ places_push ws w) in
    let mark : history w.mark ≡ beside.above = refused_tail beside.other in
    let steps = after_later s.block s.base in
    let way : history s ≡ (steps.0 ++ beside.later) ++ Took beside.d ∷ history w.mark =
    steps.1 ∙ ap (λ h. steps.0 ++ h) beside.way ∙ sym (append_assoc steps.0 beside.later (Took beside.d ∷ beside.above)) ∙ ap (λ h. (steps.0 ++ beside.later) ++ Took beside.d ∷ h) (sym mark) in
    record {
      waiting = both.0;
      is = both.1;
      behind = record {
        network = both.1.network ∙ sym network;
        later = (steps.0 ++ beside.later) ++ Took beside.d ∷ [];
        path = way ∙ sym (append_assoc (steps.0 ++ beside.later) (Took beside.d ∷ []) (history w.mark));
      };
      longer = let e = ap length way in let l = length-append (steps.0 ++ beside.later) (Took beside.d ∷ history w.mark) in omega (arith, e, l);
    }

-- the leaf is closed
module _ (P : Network) (p : Parts) (g : Growth) (leaf : NodeId) (block : List Step) (m : List Node) (linked : IsLinked g.tree) (linked_new : IsLinked m) (is : m ≡ close_at g.tree leaf.number block) (closing : IsClosing P p g leaf block) where
  abbrev place : Place
  place = record { leaf = leaf.number; path = p.store.base }

  linked_closed : IsLinked (close_at g.tree leaf.number block)
  linked_closed = subst IsLinked is linked_new

  pub closed_end : p.waiting.items ≡ [] → IsGrown P g.base.value g.threshold g.granted m (g.nodes + 1) g.left × (open_leaves (tree_of m) ≡ 0)
  closed_end none =
      let empty = ap places none in
      let grown = grown_end P g.base.value g.threshold g.granted g.tree g.nodes g.left place (places p.waiting.items) block linked linked_closed closing.stack closing.kept.grown closing.runs closing.closes closing.tame empty in
      let shut = all_closed g.tree place block linked linked_closed (current_open g.tree 0 g.base.value place (places p.waiting.items) closing.stack) 0 g.base.value (places p.waiting.items) closing.stack empty in
      (subst (λ n. IsGrown P g.base.value g.threshold g.granted n (g.nodes + 1) g.left) (sym is) grown, ap (λ n. open_leaves (tree_of n)) is ∙ shut.0)

  pub closed_back : (ws : List Waiting) (w : Waiting) → p.waiting.items ≡ ws ++ w ∷ [] → (less : ℕ) → less + 1 ≡ g.left → IsGrown P g.base.value g.threshold g.granted m (g.nodes + 1) less × Stack m 0 g.base.value (place_of w) (places ws)
  closed_back ws w items less one =
      let back = grown_back P g.base.value g.threshold g.granted g.tree g.nodes g.left place (places p.waiting.items) block linked linked_closed closing.stack closing.kept.grown closing.runs closing.closes closing.tame (places ws) (place_of w) (ap places items ∙ places_push ws w) less one in
      (subst (λ n. IsGrown P g.base.value g.threshold g.granted n (g.nodes + 1) less) (sym is) back.0, subst (λ n. Stack n 0 g.base.value (place_of w) (places ws)) (sym is) back.1)

-- the leaf is split
module _ (P : Network) (p : Parts) (g : Growth) (leaf : NodeId) (block : List Step) (d : Decision) (m : List Node) (linked : IsLinked g.tree) (linked_new : IsLinked m) (is : m ≡ split_behind_at g.tree leaf.number block d) (expanding : IsExpanding P p g leaf) (is_block : block ≡ p.store.block) where
  abbrev from : Place
  from = record { leaf = leaf.number; path = p.store.base }

  linked_split : IsLinked (split_behind_at g.tree leaf.number block d)
  linked_split = subst IsLinked is linked_new

  pub divided : IsDecision P d → IsStrictSplit P (history p.store) d → TameBlock P p.store.base p.store.block → IsEnforced P p.store.base p.store.block → IsGrown P g.base.value g.threshold g.granted m (g.nodes + 1) g.left
  divided decision strict tame enforced =
      subst (λ n. IsGrown P g.base.value g.threshold g.granted n (g.nodes + 1) g.left) (sym is)
      (grown_split P g.base.value g.threshold g.granted g.tree g.nodes g.left from (places p.waiting.items) block d linked linked_split expanding.stack expanding.kept.grown
      (subst (λ b. Run P p.store.base b g.threshold) (sym is_block) expanding.runs) decision
      (subst (λ b. IsStrictSplit P (after b p.store.base) d) (sym is_block) strict)
      (subst (λ b. TameBlock P p.store.base b) (sym is_block) tame)
      (subst (λ b. IsEnforced P p.store.base b) (sym is_block) enforced))

  -- its first child is current then, and the second waits
  pub stack_divided : (first second : NodeId) (w : Waiting) (base : List Event) → first.number ≡ length g.tree → second.number ≡ length g.tree + 1 → w.leaf ≡ second → w.decision ≡ d → w.mark ≡ p.store → base ≡ Took d ∷ history p.store → Stack m 0 g.base.value (record { leaf = first.number; path = base }) (places (p.waiting.items ++ w ∷ []))
  stack_divided first second w base is_first is_second at decision mark path =
      let here = current_open g.tree 0 g.base.value from (places p.waiting.items) expanding.stack in
      let stack = stack_split g.tree from block d linked linked_split here 0 g.base.value (places p.waiting.items) expanding.stack in
      let way : after block p.store.base ≡ history p.store = ap (λ b. after b p.store.base) is_block in
      let one : record { leaf = length g.tree; path = Took d ∷ after block p.store.base } ≡ record { leaf = first.number; path = base } =
      ap (λ h. record { leaf = length g.tree; path = h }) (ap (λ h. Took d ∷ h) way ∙ sym path) ∙ ap (λ n. record { leaf = n; path = base }) (sym is_first) in
      let two : record { leaf = length g.tree + 1; path = Refused d ∷ after block p.store.base } ≡ place_of w =
      ap (λ h. record { leaf = length g.tree + 1; path = Refused d ∷ h }) (way ∙ ap history (sym mark)) ∙ ap (λ c. record { leaf = length g.tree + 1; path = Refused c ∷ history w.mark }) (sym decision) ∙ ap (λ n. record { leaf = n; path = Refused w.decision ∷ history w.mark }) (sym is_second ∙ ap (λ (n : NodeId). n.number) (sym at)) in
      subst (λ n. Stack n 0 g.base.value (record { leaf = first.number; path = base }) (places (p.waiting.items ++ w ∷ []))) (sym is)
      (subst (λ l. Stack (split_behind_at g.tree leaf.number block d) 0 g.base.value (record { leaf = first.number; path = base }) l) (ap (λ v. places p.waiting.items ++ v ∷ []) two ∙ sym (places_push p.waiting.items w))
      (subst (λ c. Stack (split_behind_at g.tree leaf.number block d) 0 g.base.value c (places p.waiting.items ++ record { leaf = length g.tree + 1; path = Refused d ∷ after block p.store.base } ∷ [])) one stack))

-- the parts are of the network still, where the store stands elsewhere and other leaves wait
pub still_of : (P : Network) (p : Parts) (s : Standing) (ws : Vec Waiting Global) → s.network ≡ P → IsOf P p → IsOf P (record p { store = s; waiting = ws })
still_of P p s ws network of = record {
  network = network;
  enforcer = of.enforcer;
  weights = of.weights;
  incidence = of.incidence;
  trimmer = of.trimmer;
  steps = of.steps;
  values = of.values;
  offer = of.offer;
}

-- where a store is settled or its steps are spent, its block is enforced
pub enforced_here : (P : Network) (s : Standing) (k : ℕ) (settled : Bool) → s.network ≡ P → k ≤ P.upper → IsSettledOrSpent settled s k → InGroups s.network s.base s.block → IsEnforced P s.base s.block
enforced_here P s k true network below is groups = (subst (λ Q. InGroups Q s.base s.block) network groups, inl (subst (λ Q. AreFullyConsistent Q (history s) P.upper) network (fulls_rise s.network (history s) k P.upper below is)))
enforced_here P s k false network below is groups = (subst (λ Q. InGroups Q s.base s.block) network groups, inr (subst (λ Q. step_limit Q ≤ length s.block) network is))

-- a leaf that is not the whole tree's root
pub below_root : (b : Bool) (A : Type 0) → b ≡ false → b ≡ true → A
below_root b A is e = absurd (differ (sym is ∙ e))
  where
    differ : false ≡ true → ⊥
    differ d = cc

-- and where it is settled, a place behind it is
pub settled_here : (P : Network) (s t : Standing) (k : ℕ) (settled : Bool) → s.network ≡ P → t ≡ s → IsSettledOrSpent settled s k → settled ≡ true → IsSettledAt P (history t)
settled_here P s t k true network same is holds = (k, subst (λ Q. AreFullyConsistent Q (history t) k) network (subst (λ u. AreFullyConsistent s.network (history u) k) (sym same) is))
settled_here P s t k false network same is holds = absurd (false_true holds)
  where
    false_true : false ≡ true → ⊥
    false_true e = cc

-- where none is left in a vector
pub none_waits : (ws : Vec Waiting Global) → vec_len ws ≡ 0 → ws.items ≡ []
none_waits ws none = empty ws.items (let len = ws.ok.0 in omega (arith, len, none))
  where
    empty : (items : List Waiting) → length items ≡ 0 → items ≡ []
    empty [] h = refl
    empty (w ∷ items) h = absurd (omega (arith, h))

-- an offer's price is at least what is seen then
pub seen_dear : (P Q : Network) (upper k : ℕ) (offer : Scoring) (values : List ℕ) → Q ≡ P → offer ≡ record { network = Q; held = Some (record { cost = cost Q values; values = values }) } → k ≤ threshold_of upper offer.held → k ≤ cost P values
seen_dear P Q upper k offer values same is below = (let e = ap (λ (b : Scoring). threshold_of upper b.held) is in let n = ap (λ R. cost R values) same in omega (arith, below, e, n))

-- the steps that close the leaf of an assignment come behind those of the store's block
pub concluded : (P : Network) (p : Parts) (g : Growth) (leaf : NodeId) (s : Standing) (k : ℕ) (vals : Vec ℕ Global) (offer : Scoring) → p.store.network ≡ P → s.network ≡ P → IsExpanding P p g leaf → GoesOn p.store s k → k ≤ g.threshold → length vals.items ≡ length P.sizes → offer.network ≡ P → IsExpanding s.network (record p { store = s; values = vals; offer = offer }) (record g { threshold = k }) leaf
concluded P p g leaf s k vals offer network same was goes less len offered =
    subst (λ Q. IsExpanding Q (record p { store = s; values = vals; offer = offer }) (record g { threshold = k }) leaf) (sym same) (record {
      kept = record {
        of = record {
          network = same;
          enforcer = was.kept.of.enforcer;
          weights = was.kept.of.weights;
          incidence = was.kept.of.incidence;
          trimmer = was.kept.of.trimmer;
          steps = was.kept.of.steps;
          values = len;
          offer = offered;
        };
        grown = grown_lower P g.base.value g.threshold k g.granted g.tree g.nodes g.left less was.kept.grown;
        waiting = was.kept.waiting;
      };
      stack = subst (λ h. Stack g.tree 0 g.base.value (record { leaf = leaf.number; path = h }) (places p.waiting.items)) (sym goes.base) was.stack;
      runs = runs_further P p.store s g.threshold k network less was.runs goes;
      left = was.left;
      few = was.few;
    })

-- and of the network that its store is of
pub of_here : (P : Network) (p : Parts) → IsOf P p → IsOf p.store.network p
of_here P p of = subst (λ Q. IsOf Q p) (sym of.network) of

-- What workers tell, from the last on.
use Rattle.std.proofs.Common.{◌≡◌, ℕ, ◌≤◌, List, [], ◌∷◌, ◌++◌, map, reverse, length, sym, ap, ◌∙◌, subst, append_assoc, All, arith}
use Rattle.std.proofs.lemmas.List.{reverse-append, reverse-reverse, map_push, nil_from_length}
use Rattle.std.proofs.lemmas.List.Elements.{All-push, All-weaker}
use Rattle.cfn_search.specs.Accounts.{WorkerValue, least_of}

-- one more is told by the last worker
pub told_step : (crew left others : List WorkerValue) (w : WorkerValue) (told more : List ℕ) (k : ℕ) (all : List ℕ) → crew ≡ left ++ w ∷ [] → map least_of others ≡ map least_of left → more ≡ told ++ k ∷ [] → k ≡ w.least →
    map least_of crew ++ reverse told ≡ all → map least_of others ++ reverse more ≡ all
told_step crew left others w told more k all is same one own before =
    let first : reverse more ≡ w.least ∷ reverse told = ap reverse one ∙ reverse-append told (k ∷ []) ∙ ap (λ (n : ℕ). n ∷ reverse told) own in
    ap (λ (ns : List ℕ). ns ++ reverse more) same ∙ ap (λ (ns : List ℕ). map least_of left ++ ns) first
    ∙ sym (append_assoc (map least_of left) (w.least ∷ []) (reverse told))
    ∙ ap (λ (ns : List ℕ). ns ++ reverse told) (sym (ap (map least_of) is ∙ map_push least_of left w)) ∙ before

-- once no worker is left
pub told_all : (crew : List WorkerValue) (told all : List ℕ) → length crew ≡ 0 → map least_of crew ++ reverse told ≡ all → told ≡ reverse all
told_all crew told all none before =
    sym (reverse-reverse told) ∙ ap reverse (sym (ap (λ (ws : List WorkerValue). map least_of ws ++ reverse told) (nil_from_length crew none)) ∙ before)

-- one more that is at most the upper bound
pub most_step : (upper : ℕ) (told more : List ℕ) (k : ℕ) → more ≡ told ++ k ∷ [] → All (λ (n : ℕ). n ≤ upper) told → k ≤ upper → All (λ (n : ℕ). n ≤ upper) more
most_step upper told more k one all most = subst (All (λ (n : ℕ). n ≤ upper)) (sym one) (All-push (λ (n : ℕ). n ≤ upper) told k all most)

-- one more that is at least what is seen then
pub least_step : (before seen : ℕ) (told more : List ℕ) (k : ℕ) → more ≡ told ++ k ∷ [] → seen ≤ before → All (λ (n : ℕ). before ≤ n) told → seen ≤ k → All (λ (n : ℕ). seen ≤ n) more
least_step before seen told more k one falls all met =
    subst (All (λ (n : ℕ). seen ≤ n)) (sym one)
    (All-push (λ (n : ℕ). seen ≤ n) told k (All-weaker (λ (n : ℕ). before ≤ n) (λ (n : ℕ). seen ≤ n) (λ n h. omega (arith, falls, h)) told all) met)

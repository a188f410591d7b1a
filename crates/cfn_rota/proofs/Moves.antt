-- Each step on a lane keeps its rule.
use Rattle.std.proofs.Common.{◌≡◌, ℕ, ◌-◌, ◌<◌, List, [], ◌∷◌, ◌++◌, set, sym, refl, ap, ◌∙◌, arith}
use Rattle.std.specs.List.{AllByRecursion}
use Rattle.crossbeam_deque.specs.Tasks.{Pushes, Takes, Forks, Merges, Learns, Finds}
use Rattle.cfn_rota.specs.declared.rule.Tally.{Tally}
use Rattle.cfn_rota.specs.Balances.{weigh, total, tally, pushed, taken, joined, KnowsMost, KnowsWhole, Balanced}
use Rattle.cfn_rota.proofs.Tallies.{weigh_append, total_set, total_more, one_totals, idle_set, idle_more}

module _ {T : Type 0} (F : T → Type 0) where
  left : (xs ys : List T) → AllByRecursion F (xs ++ ys) → AllByRecursion F xs
  left [] ys h = tt
  left (x ∷ xs) ys h = (h.0, left xs ys h.1)

  right : (xs ys : List T) → AllByRecursion F (xs ++ ys) → AllByRecursion F ys
  right [] ys h = h
  right (x ∷ xs) ys h = right xs ys h.1

  both : (xs ys : List T) → AllByRecursion F xs → AllByRecursion F ys → AllByRecursion F (xs ++ ys)
  both [] ys h k = k
  both (x ∷ xs) ys h k = (h.0, both xs ys h.1 k)

  pub pushes : (port : ℕ) (v : Tally T) (xs : List T) → 0 < v.parts → AllByRecursion F xs → Pushes (Balanced F) port v xs (λ w. w ≡ pushed v xs)
  pushes port v xs some_part new items views b at = let w = pushed v xs in (
    w,
    record {
      parts = (let s = total_set (λ u. u.parts) views port v w at in omega (arith, s, b.parts));
      weights = λ h.
          let s = total_set (λ u. weigh h u.pushed) views port v w at in
          let t = total_set (λ u. weigh h u.taken) views port v w at in
          omega (arith, s, t, b.weights h, weigh_append h v.pushed xs, weigh_append h items xs);
      idle = idle_set views port w (λ none. absurd (omega (arith, none, some_part))) b.idle;
      fits = both items xs b.fits new;
    },
    refl,
  )

  pub takes : (port : ℕ) (v : Tally T) → 0 < v.parts → Takes (Balanced F) port v 1 (λ xs w. (w ≡ taken v xs) × AllByRecursion F xs × KnowsMost w)
  takes port v some_part xs items views any few b at = let w = taken v xs in (
    w,
    record {
      parts = (let s = total_set (λ u. u.parts) views port v w at in omega (arith, s, b.parts));
      weights = λ h.
          let s = total_set (λ u. weigh h u.pushed) views port v w at in
          let t = total_set (λ u. weigh h u.taken) views port v w at in
          omega (arith, s, t, b.weights h, weigh_append h v.taken xs, weigh_append h xs items);
      idle = idle_set views port w (λ none. absurd (omega (arith, none, some_part))) b.idle;
      fits = right xs items b.fits;
    },
    (
      refl,
      left xs items b.fits,
      λ all h.
          let one : total (λ y. y.parts) views ≡ v.parts = b.parts ∙ sym all in
          let s = one_totals (λ y. weigh h y.pushed) views port v (λ j y is none. ap (weigh h) (b.idle j y is none).0) at one in
          let t = one_totals (λ y. weigh h y.taken) views port v (λ j y is none. ap (weigh h) (b.idle j y is none).1) at one in
          omega (arith, s, t, b.weights h, weigh_append h v.taken xs, weigh_append h xs items),
    ),
  )

  pub forks : (port : ℕ) (v : Tally T) → 1 < v.parts → Forks (Balanced F) port v (tally (v.parts - 1) v.pushed v.taken) (tally 1 [] [])
  forks port v two items views b at = let l : Tally T = tally (v.parts - 1) v.pushed v.taken in let r : Tally T = tally 1 [] [] in let vs = set views port l in record {
    parts = (let s = total_set (λ u. u.parts) views port v l at in let m = total_more (λ u. u.parts) vs r in omega (arith, s, m, b.parts, two));
    weights = λ h.
        let s = total_set (λ u. weigh h u.pushed) views port v l at in
        let t = total_set (λ u. weigh h u.taken) views port v l at in
        let m = total_more (λ u. weigh h u.pushed) vs r in
        let n = total_more (λ u. weigh h u.taken) vs r in
        omega (arith, s, t, m, n, b.weights h);
    idle = idle_more vs r (λ none. (refl, refl)) (idle_set views port l (λ none. absurd (omega (arith, none, two))) b.idle);
    fits = b.fits;
  }

  pub merges : (port : ℕ) (v : Tally T) (other : ℕ) (u : Tally T) → 0 < v.parts → Merges (Balanced F) port v other u (joined v u) (tally 0 [] [])
  merges port v other u some_part items views b at apart there =
      let w = joined v u in let spent : Tally T = tally 0 [] [] in let vs = set views port w in record {
        parts = (let s = total_set (λ y. y.parts) views port v w at in let t = total_set (λ y. y.parts) vs other u spent there in omega (arith, s, t, b.parts));
        weights = λ h.
            let s = total_set (λ y. weigh h y.pushed) views port v w at in
            let t = total_set (λ y. weigh h y.taken) views port v w at in
            let m = total_set (λ y. weigh h y.pushed) vs other u spent there in
            let n = total_set (λ y. weigh h y.taken) vs other u spent there in
            omega (arith, s, t, m, n, b.weights h, weigh_append h v.pushed u.pushed, weigh_append h v.taken u.taken);
        idle = idle_set vs other spent (λ none. (refl, refl)) (idle_set views port w (λ none. absurd (omega (arith, none, some_part))) b.idle);
        fits = b.fits;
      }

  pub learns : (port : ℕ) (v : Tally T) → Learns (Balanced F) port v (λ items. AllByRecursion F items × KnowsWhole v items)
  learns port v items views b at = (
    b.fits,
    λ all h.
        let one : total (λ y. y.parts) views ≡ v.parts = b.parts ∙ sym all in
        let s = one_totals (λ y. weigh h y.pushed) views port v (λ j y is none. ap (weigh h) (b.idle j y is none).0) at one in
        let t = one_totals (λ y. weigh h y.taken) views port v (λ j y is none. ap (weigh h) (b.idle j y is none).1) at one in
        omega (arith, s, t, b.weights h),
  )

  pub finds : (port : ℕ) (v : Tally T) → Finds (Balanced F) port v (KnowsWhole v [])
  finds port v views b at = (learns port v [] views b at).1

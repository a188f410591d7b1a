use Rattle.std.proofs.Common.{◌≡◌, [], length, take, drop, ◌++◌, sym, ap, subst, arith}
use Rattle.std.specs.Prelude.{vec_capacity}
use Rattle.cfn_queue.specs.Waiting.{IsQueue}
use Rattle.cfn_derivation.proofs.Flags.{written_over}
use Rattle.cfn_derivation.proofs.listed.Listed.clear.Goals as goal

pub invariant_of-self : goal.invariant_of-self
invariant_of-self c =
    let flags = c.lower.new.flags in let old = c.self.inside.listed.items in let room = vec_capacity c.self.inside.items in
    let was : IsQueue room c.deref_mut.result.now c.deref.result.now = subst (λ f. IsQueue room f c.deref.result.now) (sym c.deref_mut.ensures.value) (subst (λ i. IsQueue room old i) (sym c.deref.ensures.value) c.self.invariant) in
    let now : IsQueue room flags [] = c.lower.ensures.down room was in
    let long = ap length c.deref_mut.ensures.value in
    let same : take c.self.inside.listed.len (flags ++ drop (length flags) old) ≡ flags =
    written_over flags old c.self.inside.listed.len (omega (arith, c.lower.ensures.size, long)) (omega (arith, c.lower.ensures.size, c.deref_mut.ensures.len)) in
    subst (λ l. IsQueue (vec_capacity c.clear.new.self) l c.clear.new.self.items) (sym same)
    (subst (λ items. IsQueue (vec_capacity c.clear.new.self) flags items) (sym c.clear.ensures.items) (subst (λ n. IsQueue n flags []) (sym c.clear.ensures.capacity) now))

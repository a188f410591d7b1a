use Rattle.std.proofs.Common.{rules, ◌≡◌, ◌<◌, length, sym, ap, ◌∙◌, subst, false, slice_index_or}
use Rattle.std.specs.Prelude.{vec_capacity}
use Rattle.cfn_queue.proofs.CallerLemmas.{has_room, put_is}
use Rattle.cfn_derivation.proofs.listed.Listed.put.Goals as goal

pub push_reserved-requires : goal.push_reserved-requires
push_reserved-requires c =
    let there : c.args.number < length c.self.inside.listed.items = subst (λ n. c.args.number < n) (sym (ap (λ q. q.size) c.self.view_is)) c.requires in
    let free : slice_index_or c.self.inside.listed.items c.args.number false ≡ false = rw (c.if-index.false) at (sym c.index.ensures ∙ c.if-index.false) in
    let room : length c.self.inside.items.items < vec_capacity c.self.inside.items = has_room _ _ _ c.args.number c.self.invariant there free in
    search rules

pub invariant_of-self : goal.invariant_of-self
invariant_of-self c =
    let there : c.args.number < length c.self.inside.listed.items = subst (λ n. c.args.number < n) (sym (ap (λ q. q.size) c.self.view_is)) c.requires in
    let free : slice_index_or c.self.inside.listed.items c.args.number false ≡ false = rw (c.if-index.false) at (sym c.index.ensures ∙ c.if-index.false) in
    put_is _ _ _ _ _ c.args.number c.self.invariant there free c.push_reserved.ensures.items c.push_reserved.ensures.capacity

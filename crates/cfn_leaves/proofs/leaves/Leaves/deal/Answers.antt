use Rattle.std.proofs.Common.{◌≡◌, sym, subst, refl, ap, Some, None, OnOk}
use Rattle.cfn_machine.specs.Parts.{has_leaf}
use Rattle.cfn_leaves.specs.Asides.{SetsAside}
use Rattle.cfn_leaves.specs.Listed.{outs}
use Rattle.cfn_leaves.specs.Value.{Holding}
use Rattle.cfn_leaves.proofs.Asides.{aside_in, kept_aside, none_aside}
use Rattle.cfn_leaves.proofs.Insides.{value, body}
use Rattle.cfn_leaves.proofs.leaves.Leaves.deal.Goals as goal

pub invariant_of-self : goal.invariant_of-self
invariant_of-self c =
    let m = value c.self.inside in
    let inside = c.self.invariant in
    record {
      body = kept_aside (has_leaf (Some c.in-Some.part)) m.network m.tree c.self.inside.opened c.self.inside.granted m.table c.set_aside.new.table.items c.self.inside.list c.set_aside.new.list c.set_aside.result c.law_same_before.ensures.once inside.body
          c.set_aside.ensures.ok c.set_aside.ensures.table c.set_aside.ensures.list;
      within = inside.within;
      few = inside.few;
      place = inside.place;
    }

pub returns-in_default : goal.returns-in_default
returns-in_default c =
    let m = value c.self.inside in
    let inside = c.self.invariant in
    let none = subst (λ (h : Holding). outs h.table ≡ 0) (sym c.self.view_is) c.requires.free in
    record {
      ok = subst (λ p. SetsAside (has_leaf p) c.args.self.now c.args.self.now) (sym c.in_default.is)
          (subst (λ (h : Holding). SetsAside (has_leaf None) h h) c.self.view_is (record { same = refl; tree_is = none_aside m.network (body c.self.inside) c.law_same_before.ensures.once none inside.body; len = refl }));
    }

pub returns : goal.returns
returns c =
    let m = value c.self.inside in
    let inside = c.self.invariant in
    let new : Holding = record m { table = c.set_aside.new.table.items } in
    record {
      ok = subst (λ p. OnOk c.set_aside.result (SetsAside (has_leaf p) c.args.self.now new)) (sym c.in-Some.is)
          (subst (λ (h : Holding). OnOk c.set_aside.result (SetsAside (has_leaf (Some c.in-Some.part)) h new)) c.self.view_is
          (aside_in (has_leaf (Some c.in-Some.part)) m c.self.inside.opened c.self.inside.granted c.set_aside.new.table.items c.self.inside.list c.set_aside.new.list c.set_aside.result c.law_same_before.ensures.once inside.body c.set_aside.ensures.ok));
    }

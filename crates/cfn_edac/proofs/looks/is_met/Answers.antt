use Rattle.std.proofs.Common.{◌≡◌, ℕ, ◌-◌, ◌<◌, sym, ap, ◌∙◌, subst, arith}
use Rattle.std.proofs.lemmas.Bool.Decides.{nat_tests}
use Rattle.std.specs.Prelude.{true, nat_lt, slice_index}
use Rattle.cfn_model.specs.Network.{Network, scope_at}
use Rattle.cfn_rows.specs.Sets.{live_count}
use Rattle.cfn_store.specs.Rooms.{sets_of}
use Rattle.cfn_store.specs.Standing.{history}
use Rattle.cfn_edac.proofs.Meeting.{met}
use Rattle.cfn_edac.proofs.looks.is_met.Goals as goal

above_none : (n : ℕ) → nat_lt 0 n ≡ true → 0 < n
above_none n is = grind (arith, nat_tests, is)

pub returns-then-count-lt2 : goal.returns-then-count-lt2
returns-then-count-lt2 c = λ some.
    (let s = c.args.store.now in let f = c.args.f in let i = c.args.place in
    let scope = c.scope-scope.ensures ∙ ap (λ (P : Network). scope_at P f) c.network-2.ensures in
    let count = λ (k : ℕ). ap (λ l. live_count (sets_of s) (slice_index l k)) scope in
    met s.network (history s) f i c.requires.function c.requires.two c.requires.place
    (subst (λ n. n < 2) (c.count.ensures ∙ count i) c.if-count-lt2.true)
    (subst (λ n. 0 < n) (c.count-then-count-lt2.ensures ∙ count (1 - i)) (above_none c.count-then-count-lt2.result some))
    (c.requires.known.each f (1 - i) (omega arith) c.requires.two (sym c.is_doubted.ensures ∙ c.if-is_doubted.false)))

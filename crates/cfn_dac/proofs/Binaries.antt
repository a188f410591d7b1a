-- What values of a pair's first variable have.
use Rattle.std.proofs.Common.{ℕ, ◌<◌, length, ◌-◌, ◌^◌, subst, arith}
use Rattle.std.specs.Prelude.{List, slice_index, IsTrue}
use Rattle.cfn_model.specs.declared.step.Event.{Event}
use Rattle.cfn_model.specs.Network.{Network, IsNetwork}
use Rattle.cfn_model.specs.Sums.{is_live}
use Rattle.cfn_scan.specs.declared.line.Line.{Line}
use Rattle.cfn_scan.specs.Lines.{IsLine}
use Rattle.cfn_rows.specs.Sets.{AreLive}
use Rattle.cfn_store.specs.Rooms.{sets_of}
use Rattle.cfn_store.specs.Standing.{Standing, history}
use Rattle.cfn_scan.proofs.CallerLemmas.{tuple_at}
use Rattle.cfn_dac.specs.declared.pair.Pair.{Pair}
use Rattle.cfn_dac.specs.declared.binary.Binary.{Binary}
use Rattle.cfn_dac.specs.Full.{IsPair, first_of, second_of}
use Rattle.cfn_dac.specs.Moves.{IsLeastTotal}
use Rattle.cfn_dac.specs.Binaries.{IsBinary, IsMet}
use Rattle.cfn_dac.proofs.Places.{place_of}

-- a live value of the second variable, and one of a list of them
pub met : (s : Standing) (pair : Pair) (binary : Binary) (a : ℕ) (line : Line) (b : ℕ) → IsNetwork s.network → IsPair s.network pair → IsBinary s pair binary → IsLine s.network (history s) pair.function pair.place a pair.other line
    → b < slice_index s.network.sizes (second_of s.network pair) → IsTrue (is_live (history s) (second_of s.network pair) b) → IsMet s.network (history s) pair a line binary.theirs b
met s pair binary a line b net is of_pair is_line small live = record {
  along = record { is_line = is_line; place = place_of s.network pair.function pair.other b is.function is.other small; live = live };
  value = record { variable = (net.functions pair.function is.function).variables pair.other is.other; value = small };
  unaries = of_pair.theirs;
}

pub met_listed : (s : Standing) (pair : Pair) (binary : Binary) (a : ℕ) (line : Line) (values : List ℕ) (j : ℕ) → IsNetwork s.network → IsPair s.network pair → IsBinary s pair binary → IsLine s.network (history s) pair.function pair.place a pair.other line
    → AreLive (sets_of s) binary.second values → j < length values → IsMet s.network (history s) pair a line binary.theirs (slice_index values j)
met_listed s pair binary a line values j net is of_pair is_line are h =
    let l = (subst (λ y. AreLive (sets_of s) y values) of_pair.second are).live j h in
    met s pair binary a line (slice_index values j) net is of_pair is_line l.0.value l.1

-- a value that is not live has no live tuple
pub least_dead : (P : Network) (h : List Event) (pair : Pair) (a : ℕ) → IsPair P pair → (IsTrue (is_live h (first_of P pair) a) → ⊥) → IsLeastTotal P h pair a (2 ^ 64 - 1)
least_dead P h pair a is dead = record {
  bound = λ tuple picked. absurd (dead (subst (λ v. IsTrue (is_live h (first_of P pair) v)) picked.value (tuple_at P h pair.function pair.place tuple is.place picked.fits picked.live).1));
  reached = λ small. absurd (omega (arith, small));
}

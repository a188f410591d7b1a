-- What the crates above cite of the proofs here.
pub use Rattle.cfn_gain.proofs.Adding.{adds_none, adds_step, adds_then, history_after, goes_after, no_shorter, unchanged, passing_start, passing_adds, passing_grown, does_after, halts_after, does_then, on_ok, shows_then, shows_after}
pub use Rattle.cfn_gain.proofs.Gaining.{led, gained_none, gained_same, leads_weaker, opened, leads_then, leads_shift, leads_close, new_lift, new_cut, new_cut_tuple, lift_closes, cut_closes, gains_then, gains_halt, gains_halts, gains_spent, gains_refused, IsNotDead, due_lift, due_cut, due_support, part_led, GainedFor, for_more, for_halts}
pub use Rattle.cfn_gain.proofs.Keeping.{tuple_kept, residual_taken}
pub use Rattle.cfn_gain.proofs.Earning.{close_one, open_one, no_support, got_support, live_projected}
pub use Rattle.cfn_gain.proofs.Places.{few_places}
pub use Rattle.cfn_gain.proofs.Stepping.{after_append, history_step, run_push, append_none}
pub use Rattle.cfn_gain.proofs.Lifting.{can_lift, at_least, lift_to_threshold, no_less, not_dead}
pub use Rattle.cfn_gain.proofs.Reading.{has_live, value_at}

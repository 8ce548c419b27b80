use Rattle.std.proofs.Common.{sym, ◌∙◌}
use Rattle.lava_ranges.proofs.crossing.is_ask_in_range.Goals as goal

pub returns-then-has_target : goal.returns-then-has_target
returns-then-has_target c =
    λ e. ((c.has_target.ensures c.if-has_target.true, c.is_sound_ask.ensures e), sym (c.makes_party.ensures c.args.target.now) ∙ c.if-makes_party.false)

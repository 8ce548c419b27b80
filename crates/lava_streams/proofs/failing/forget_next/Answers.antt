use Rattle.std.proofs.Common.{nat_lt, rules}
use Rattle.std.proofs.lemmas.Fn.{filter_same}
use Rattle.lava_streams.proofs.failing.forget_next.Goals as goal

pub returns : goal.returns
returns c = filter_same _ (λ n. nat_lt 1 n) _ (λ x b f' k. search rules) c.args.due.now.items c.retain.new.self.items c.retain.ensures.filtered

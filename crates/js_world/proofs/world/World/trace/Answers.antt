use Rattle.std.proofs.Common.{true, sym, subst}
use Rattle.js_world.specs.Crossings.{Rests}
use Rattle.js_world.specs.Worlds.{WorldView}
use Rattle.js_world.proofs.Traced_laws.{rests_traced}
use Rattle.js_world.proofs.world.World.trace.Goals as goal

pub returns-clause-rests : goal.returns-clause-rests
returns-clause-rests g c = λ app w r. subst (λ (v : WorldView). Rests app w (record v { tracing = true })) (sym c.self.view_is) (rests_traced app w c.args.self.now r)

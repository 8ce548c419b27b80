use Rattle.std.proofs.Common.{◌∙◌, ap, sym}
use Rattle.lava_base.specs.declared.ids.MadeSymbol.{MadeSymbol}
use Rattle.lava_base.specs.declared.ids.Ref.{Ref}
use Rattle.js_crossing.specs.js_run.Parties.{Party}
use Rattle.js_world.proofs.world.World.store_of.Goals as goal

pub returns-clause-heap : goal.returns-clause-heap
returns-clause-heap g c = λ app w h. c.stored.ensures.objects ∙ sym (ap (λ (p : Party Ref MadeSymbol). p.objects) (h c.requires))

pub returns-clause-owner : goal.returns-clause-owner
returns-clause-owner g c = λ app s. c.stored.ensures.owner ∙ s.me c.args.party.0 c.requires

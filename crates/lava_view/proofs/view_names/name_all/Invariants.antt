-- What is named, and what is left.
use Rattle.std.proofs.Common.{◌≡◌, drop}
use Rattle.lava_view.specs.Naming.{identities}
use Rattle.lava_view.specs.Views.{with_all}
use Rattle.lava_view.proofs.view_names.name_all.Given as goal

abbrev pub invariant-loop-object : goal.invariant-loop-object
invariant-loop-object l = with_all (identities l.known.keys) (drop l.object-index l.objects) ≡ with_all (identities l.initial.known.keys) l.objects

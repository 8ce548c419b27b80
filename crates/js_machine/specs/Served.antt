-- What a machine does with an ask that came.
use Rattle.std.specs.Prelude.{◌≡◌}
use Rattle.lava_base.specs.declared.ids.MadeSymbol.{MadeSymbol}
use Rattle.lava_base.specs.declared.ids.Ref.{Ref}
use Rattle.js_text.specs.Naming.{naming_of}
use Rattle.js_desc.specs.declared.ask.Ask.{Ask}
use Rattle.js_operation.specs.js_run.Local.{serves_at}
use Rattle.js_machine.specs.Views.{Around, View, fitting, party_of}
use Rattle.js_machine.specs.Steps.{Keeps, point_of}
use Rattle.js_machine.specs.declared.frame.Mode.{Mode}

-- the machine stands where an ask is served
pub record IsServed (target : Ref) (x : Ask Ref MadeSymbol) (old new : View) (m : Mode) : Type 0 where
  pub stands : (a : Around) → let b = fitting old a in point_of b new m ≡ serves_at ((naming_of old.me).origin target) target x (party_of b old)
  pub keeps : Keeps old new

-- What other parties may know of a party's own objects, and what it sends to them.
use Rattle.std.specs.Prelude.{List, [], ◌∷◌}
use Rattle.lava_base.specs.Ids.{same_ref}
use Rattle.lava_base.specs.declared.ids.Ref.{Ref}
use Rattle.lava_base.specs.declared.marks.Marks.{Marks}
use Rattle.js_text.specs.Naming.{Origin, Own, Common, Foreign, naming_of}
use Rattle.js_text.specs.declared.value.Value.TheVariants as value
use Rattle.js_desc.specs.declared.ask.Ask.TheVariants as ask
use Rattle.js_store.specs.Foreign.{with_marks}
use Rattle.js_store.specs.Objects.{object_at}
use Rattle.js_machine.specs.Views.{View}
use Rattle.js_machine.specs.declared.asked.Asked.{Asked}

-- the marks of an object that is the party's own
abbrev pub shown_at : View → Ref → Origin → List (Ref × Marks)
shown_at w r (Own i) = (r, (object_at w.objects i).marks) ∷ []
shown_at w r (Common c) = []
shown_at w r Foreign = []

abbrev pub shown : View → Ref → List (Ref × Marks)
shown w r = shown_at w r ((naming_of w.me).origin r)

-- each of these is known, where it is not yet
abbrev pub all_known : List (Ref × Marks) → List (Ref × Marks) → List (Ref × Marks)
all_known [] known = known
all_known (e ∷ es) known = all_known es (with_marks same_ref e.0 e.1 known)

abbrev pub with_known : List (Ref × Marks) → View → View
with_known es w = record w { known = all_known es w.known }

-- where nothing is asked
abbrev pub no_ask : Asked
no_ask = record { target = value.Undefined; ask = ask.GetPrototypeOf }

-- What each native works on.
use Rattle.js_text.specs.declared.native.Native.{Native}
use Rattle.js_text.specs.declared.native.Native.TheVariants as native
use Rattle.js_natives.specs.declared.families.Family.{Family}
use Rattle.js_natives.specs.declared.families.Family.TheVariants as family

abbrev pub family_of : Native → Family
family_of native.MakeObject = family.Makes
family_of native.MakeArray = family.Makes
family_of native.Bind = family.Makes
family_of native.MakeProxy = family.Makes
family_of native.Revoke = family.Makes
family_of native.MakeSymbol = family.Makes
family_of native.MakeError = family.Makes
family_of native.MakeMap = family.Makes
family_of native.IsCommon = family.Tells
family_of native.SymbolFor = family.Tells
family_of native.ClassOf = family.Tells
family_of native.UnitAt = family.Texts
family_of native.Slice = family.Texts
family_of native.IndexIn = family.Texts
family_of native.Concat = family.Texts
family_of native.Ascii = family.Texts
family_of native.ToText = family.Converts
family_of native.ToNumber = family.Converts
family_of native.ToKey = family.Converts
family_of native.MakeCompartment = family.Parties
family_of native.Evaluate = family.Compartments
family_of native.CompartmentGlobal = family.Compartments
family_of which = family.Calls

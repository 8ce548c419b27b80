-- The natives' names are pairwise different, and each native stands in the list at its number.
use Rattle.std.proofs.Common.{◌≡◌, ℕ, ◌-◌, ◌<◌, List, [], ◌∷◌, length, slice_index_or, Option, Some, None, IfSome, IfNone, cond, suc, refl, ap, arith, sym, ◌∙◌}
use Rattle.std.specs.Str.{bytes_eq}
use Rattle.js_text.specs.Natives.{native_name, native_number}
use Rattle.js_text.specs.declared.native.Native.{Native}
use Rattle.js_text.specs.declared.native.Native.TheVariants as native
use Rattle.js_text.specs.declared.native.TheConstants.{NATIVES}

-- each native stands at its number, counted from 1
pub stands : (n d : Native) → slice_index_or NATIVES (native_number n - 1) d ≡ n
stands native.GetProto d = refl
stands native.SetProto d = refl
stands native.IsExtensible d = refl
stands native.PreventExt d = refl
stands native.GetOwn d = refl
stands native.DefineOwn d = refl
stands native.Has d = refl
stands native.Get d = refl
stands native.Set d = refl
stands native.Delete d = refl
stands native.OwnKeys d = refl
stands native.Apply d = refl
stands native.Construct d = refl
stands native.MakeObject d = refl
stands native.MakeArray d = refl
stands native.IsArray d = refl
stands native.ClassOf d = refl
stands native.IsCommon d = refl
stands native.Bind d = refl
stands native.MakeProxy d = refl
stands native.Revoke d = refl
stands native.UnitAt d = refl
stands native.FromUnits d = refl
stands native.Slice d = refl
stands native.IndexIn d = refl
stands native.Concat d = refl
stands native.ToText d = refl
stands native.ToNumber d = refl
stands native.ToKey d = refl
stands native.Ascii d = refl
stands native.SortTexts d = refl
stands native.MakeSymbol d = refl
stands native.SymbolFor d = refl
stands native.MakeError d = refl
stands native.MakeMap d = refl
stands native.MapGet d = refl
stands native.MapSet d = refl
stands native.MapHas d = refl
stands native.MapDelete d = refl
stands native.MapClear d = refl
stands native.MapNext d = refl
stands native.MapKeyAt d = refl
stands native.MapSize d = refl
stands native.MakeCompartment d = refl
stands native.Evaluate d = refl
stands native.CompartmentGlobal d = refl
stands native.MakePromise d = refl
stands native.Settle d = refl
stands native.React d = refl
stands native.Queue d = refl
stands native.ImportModule d = refl
stands native.IsModule d = refl

pub counted : (n : Native) → native_number n - 1 < length NATIVES
counted native.GetProto = omega arith
counted native.SetProto = omega arith
counted native.IsExtensible = omega arith
counted native.PreventExt = omega arith
counted native.GetOwn = omega arith
counted native.DefineOwn = omega arith
counted native.Has = omega arith
counted native.Get = omega arith
counted native.Set = omega arith
counted native.Delete = omega arith
counted native.OwnKeys = omega arith
counted native.Apply = omega arith
counted native.Construct = omega arith
counted native.MakeObject = omega arith
counted native.MakeArray = omega arith
counted native.IsArray = omega arith
counted native.ClassOf = omega arith
counted native.IsCommon = omega arith
counted native.Bind = omega arith
counted native.MakeProxy = omega arith
counted native.Revoke = omega arith
counted native.UnitAt = omega arith
counted native.FromUnits = omega arith
counted native.Slice = omega arith
counted native.IndexIn = omega arith
counted native.Concat = omega arith
counted native.ToText = omega arith
counted native.ToNumber = omega arith
counted native.ToKey = omega arith
counted native.Ascii = omega arith
counted native.SortTexts = omega arith
counted native.MakeSymbol = omega arith
counted native.SymbolFor = omega arith
counted native.MakeError = omega arith
counted native.MakeMap = omega arith
counted native.MapGet = omega arith
counted native.MapSet = omega arith
counted native.MapHas = omega arith
counted native.MapDelete = omega arith
counted native.MapClear = omega arith
counted native.MapNext = omega arith
counted native.MapKeyAt = omega arith
counted native.MapSize = omega arith
counted native.MakeCompartment = omega arith
counted native.Evaluate = omega arith
counted native.CompartmentGlobal = omega arith
counted native.MakePromise = omega arith
counted native.Settle = omega arith
counted native.React = omega arith
counted native.Queue = omega arith
counted native.ImportModule = omega arith
counted native.IsModule = omega arith

-- how many natives of a list stand before the first one with this name
before : List Native → List ℕ → ℕ
before [] name = 0
before (n ∷ ns) name = cond (bytes_eq (native_name n) name) 0 (suc (before ns name))

placed : (n : Native) → before NATIVES (native_name n) ≡ native_number n - 1
unfolding before
placed native.GetProto = refl
placed native.SetProto = refl
placed native.IsExtensible = refl
placed native.PreventExt = refl
placed native.GetOwn = refl
placed native.DefineOwn = refl
placed native.Has = refl
placed native.Get = refl
placed native.Set = refl
placed native.Delete = refl
placed native.OwnKeys = refl
placed native.Apply = refl
placed native.Construct = refl
placed native.MakeObject = refl
placed native.MakeArray = refl
placed native.IsArray = refl
placed native.ClassOf = refl
placed native.IsCommon = refl
placed native.Bind = refl
placed native.MakeProxy = refl
placed native.Revoke = refl
placed native.UnitAt = refl
placed native.FromUnits = refl
placed native.Slice = refl
placed native.IndexIn = refl
placed native.Concat = refl
placed native.ToText = refl
placed native.ToNumber = refl
placed native.ToKey = refl
placed native.Ascii = refl
placed native.SortTexts = refl
placed native.MakeSymbol = refl
placed native.SymbolFor = refl
placed native.MakeError = refl
placed native.MakeMap = refl
placed native.MapGet = refl
placed native.MapSet = refl
placed native.MapHas = refl
placed native.MapDelete = refl
placed native.MapClear = refl
placed native.MapNext = refl
placed native.MapKeyAt = refl
placed native.MapSize = refl
placed native.MakeCompartment = refl
placed native.Evaluate = refl
placed native.CompartmentGlobal = refl
placed native.MakePromise = refl
placed native.Settle = refl
placed native.React = refl
placed native.Queue = refl
placed native.ImportModule = refl
placed native.IsModule = refl

pub one_of_a_name : (m n : Native) → native_name m ≡ native_name n → m ≡ n
one_of_a_name m n e = sym (stands m m) ∙ ap (λ k. slice_index_or NATIVES k m) (sym (placed m) ∙ ap (before NATIVES) e ∙ placed n) ∙ stands n m

-- a search through the list finds the native of a name
pub only_one : (name : List ℕ) (found : Option Native) → IfSome found (λ n. native_name n ≡ name) → IfNone found ((k : ℕ) (d : Native) → k < length NATIVES → ¬ (native_name (slice_index_or NATIVES k d) ≡ name)) → (n : Native) → native_name n ≡ name → found ≡ Some n
only_one name (Some m) is none n e = ap Some (one_of_a_name m n (is ∙ sym e))
only_one name None is none n e = absurd (none (native_number n - 1) n (counted n) (ap native_name (stands n n) ∙ e))

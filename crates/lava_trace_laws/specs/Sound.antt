-- What has one line alone: texts that are no longer than a text may be, safe integers, and keys that are indices where they can be.
use Rattle.std.specs.Prelude.{◌≡◌, ℕ, ◌<◌, ◌≤◌, ◌^◌, Bool, true, false, is_some, List, length, Option, Some, None, IfSome, ⊤}
use Rattle.std.specs.List.{AllByRecursion}
use Rattle.lava_base.specs.SafeIntegers.{IsSafe}
use Rattle.lava_base.specs.declared.ids.MadeSymbol.{MadeSymbol}
use Rattle.lava_base.specs.declared.ids.Ref.{Ref}
use Rattle.js_text.specs.Indices.{is_array_index}
use Rattle.js_text.specs.declared.index.TheConstants.{MAX_INDEX}
use Rattle.js_text.specs.declared.text.TheConstants.{MAX_UNITS}
use Rattle.js_text.specs.declared.value.Key.{Key}
use Rattle.js_text.specs.declared.value.Key.TheVariants as key
use Rattle.js_text.specs.declared.value.Symbol.{Symbol}
use Rattle.js_text.specs.declared.value.Symbol.TheVariants as symbol
use Rattle.js_text.specs.declared.value.Value.{Value}
use Rattle.js_text.specs.declared.value.Value.TheVariants as value
use Rattle.js_desc.specs.Descriptors.{fields_of}
use Rattle.js_desc.specs.declared.ask.Ask.{Ask}
use Rattle.js_desc.specs.declared.ask.Ask.TheVariants as ask
use Rattle.js_desc.specs.declared.crossing.CrossBody.{CrossBody}
use Rattle.js_desc.specs.declared.crossing.CrossBody.TheVariants as body
use Rattle.js_desc.specs.declared.crossing.Crossing.{Crossing}
use Rattle.js_desc.specs.declared.descriptor.Descriptor.{Descriptor}
use Rattle.js_desc.specs.declared.descriptor.PartialDescriptor.{PartialDescriptor}
use Rattle.js_desc.specs.declared.reply.Reply.{Reply}
use Rattle.js_desc.specs.declared.reply.Reply.TheVariants as reply
use Rattle.lava_trace.specs.declared.answers.AnswerKind.{AnswerKind}
use Rattle.lava_trace.specs.declared.answers.AnswerKind.TheVariants as kind
use Rattle.lava_trace.specs.declared.left.TheConstants.{MAX_PARTY}

-- units of 16 bits
abbrev pub AreUnits : List ℕ → Type 0
AreUnits t = AllByRecursion (λ u. u < 65536) t

-- at most so many units as a text may have
pub record IsText (t : List ℕ) : Type 0 where
  pub short : length t ≤ MAX_UNITS
  pub units : AreUnits t

abbrev pub Sound_symbol : Symbol MadeSymbol → Type 0
Sound_symbol symbol.Iterator = ⊤
Sound_symbol (symbol.Registered t) = IsText t
Sound_symbol (symbol.Made s) = ⊤

-- a key that is a text writes no array index
abbrev pub Sound_key : Key MadeSymbol → Type 0
Sound_key (key.Index n) = n ≤ MAX_INDEX
Sound_key (key.Text t) = IsText t × (is_array_index t ≡ false)
Sound_key (key.Symbol s) = Sound_symbol s

abbrev pub Sound_value : Value Ref MadeSymbol → Type 0
Sound_value value.Undefined = ⊤
Sound_value value.Null = ⊤
Sound_value (value.Bool b) = ⊤
Sound_value (value.Int n) = IsSafe n
Sound_value (value.Text t) = IsText t
Sound_value (value.Symbol s) = Sound_symbol s
Sound_value (value.Ref r) = ⊤

-- the value of a definition, where it has one
abbrev pub Sound_partial : PartialDescriptor Ref MadeSymbol → Type 0
Sound_partial d = IfSome d.value Sound_value

abbrev pub Sound_property : Option (Descriptor Ref MadeSymbol) → Type 0
Sound_property None = ⊤
Sound_property (Some d) = Sound_partial (fields_of d)

abbrev pub Sound_global : Key MadeSymbol × Value Ref MadeSymbol → Type 0
Sound_global g = Sound_key g.0 × Sound_value g.1

abbrev pub Sound_module : List ℕ × Value Ref MadeSymbol → Type 0
Sound_module m = IsText m.0 × Sound_value m.1

-- ASKS

-- whether an ask has a target: all but four have one
abbrev pub takes_target : Ask Ref MadeSymbol → Bool
takes_target (ask.Import link path) = false
takes_target (ask.Make globals modules) = false
takes_target ask.Queue = false
takes_target ask.Turn = false
takes_target _ = true

-- an ask has a target where its method wants one, and there alone
abbrev pub HasTarget : Option Ref → Ask Ref MadeSymbol → Type 0
HasTarget target x = is_some target ≡ takes_target x

abbrev pub Sound_ask : Ask Ref MadeSymbol → Type 0
Sound_ask (ask.GetOwnProperty k) = Sound_key k
Sound_ask (ask.DefineOwnProperty k d) = Sound_key k × Sound_partial d
Sound_ask (ask.HasProperty k) = Sound_key k
Sound_ask (ask.Get k receiver) = Sound_key k × Sound_value receiver
Sound_ask (ask.Set k v receiver) = Sound_key k × Sound_value v × Sound_value receiver
Sound_ask (ask.Delete k) = Sound_key k
Sound_ask (ask.Call this args) = Sound_value this × AllByRecursion Sound_value args
Sound_ask (ask.Construct target args) = AllByRecursion Sound_value args
Sound_ask (ask.Import link path) = IsText link × IsText path
Sound_ask (ask.Slot which args) = AllByRecursion Sound_value args
Sound_ask (ask.Make globals modules) = (length globals < 2 ^ 64) × AllByRecursion Sound_global globals × (length modules < 2 ^ 64) × AllByRecursion Sound_module modules
Sound_ask _ = ⊤

-- ANSWERS

-- an answer is of a kind, or a throw
abbrev pub IsOfKind : AnswerKind → Reply Ref MadeSymbol → Type 0
IsOfKind kind (reply.Throw v) = ⊤
IsOfKind kind.Value (reply.Value v) = ⊤
IsOfKind kind.Object (reply.Value (value.Ref r)) = ⊤
IsOfKind kind.Undefined (reply.Value value.Undefined) = ⊤
IsOfKind kind.Prototype (reply.Proto p) = ⊤
IsOfKind kind.Truth (reply.Flag b) = ⊤
IsOfKind kind.Property (reply.Desc d) = ⊤
IsOfKind kind.Keys (reply.Keys ks) = ⊤
IsOfKind _ _ = ⊥

abbrev pub Sound_reply : Reply Ref MadeSymbol → Type 0
Sound_reply (reply.Value v) = Sound_value v
Sound_reply (reply.Proto p) = ⊤
Sound_reply (reply.Flag b) = ⊤
Sound_reply (reply.Desc d) = Sound_property d
Sound_reply (reply.Keys ks) = AllByRecursion Sound_key ks
Sound_reply (reply.Throw v) = Sound_value v

-- what crosses, where an answer is one of this kind
abbrev pub Sound_body : AnswerKind → CrossBody Ref MadeSymbol → Type 0
Sound_body kind (body.Ask target x) = HasTarget target x × Sound_ask x
Sound_body kind (body.Answer r) = IsOfKind kind r × Sound_reply r

-- a crossing between two parties whose numbers a line can have
pub record Sound_crossing (kind : AnswerKind) (x : Crossing Ref MadeSymbol) : Type 0 where
  pub from : x.from.0 ≤ MAX_PARTY
  pub to : x.to.0 ≤ MAX_PARTY
  pub body : Sound_body kind x.body

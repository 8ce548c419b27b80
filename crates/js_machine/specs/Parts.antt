-- The parts of objects, arrays and classes, one after the other.
use Rattle.std.specs.Prelude.{ℕ, suc, Bool, true, false, get_or, Option, Some, None, if◌then◌else◌}
use Rattle.lava_base.specs.declared.ids.MadeSymbol.{MadeSymbol}
use Rattle.lava_base.specs.declared.ids.Ref.{Ref}
use Rattle.lava_base.specs.declared.ids.Ref.TheVariants as reference
use Rattle.js_text.specs.Naming.{Naming}
use Rattle.js_text.specs.declared.value.Key.{Key}
use Rattle.js_text.specs.declared.value.Value.{Value}
use Rattle.js_text.specs.declared.value.Value.TheVariants as value
use Rattle.js_desc.specs.declared.descriptor.PartialDescriptor.{PartialDescriptor}
use Rattle.js_code.specs.Decoded.{parts_of, template_at, term_at}
use Rattle.js_code.specs.Tables.{Tables}
use Rattle.js_code.specs.declared.node.PartRow.{PartRow}
use Rattle.js_code.specs.declared.node.PartRow.TheVariants as part_row
use Rattle.js_operation.specs.js_run.Acts.{Act, Evaluate, give, with_value}
use Rattle.js_operation.specs.js_run.Functions.{method_made, next_object}
use Rattle.js_operation.specs.js_run.Parties.{Party, Shared}
use Rattle.js_operation.specs.js_run.Parts.{Holders, adds_item, data_part, defines, defines_parts, getter_part, holder, setter_part, spreads}
use Rattle.js_operation.specs.js_run.Properties.{to_key}
use Rattle.js_operation.specs.js_run.declared.intrinsics.TheConstants.{COPY, INTO}
use Rattle.js_machine.specs.declared.holding.FunctionPart.{FunctionPart}
use Rattle.js_machine.specs.declared.holding.FunctionPart.TheVariants as function_part
use Rattle.js_machine.specs.declared.holding.Holding.{Holding}

-- the object that a value is, and a common one where it is none
abbrev pub reference_in : Value Ref MadeSymbol → Ref
reference_in (value.Ref r) = r
reference_in _ = reference.Common (record { 0 = 0 })

-- the row of a part
abbrev pub part_at : Tables → ℕ → PartRow
part_at c at = get_or c.parts at part_row.Hole

abbrev pub holders_of : Holding → Holders Ref
holders_of h = record { instance = h.instance; static_part = h.constructor; enumerable = h.enumerable }

-- the first form that a part evaluates
abbrev pub operand_of : PartRow → Option ℕ
operand_of (part_row.Data k v) = Some k
operand_of (part_row.Method s k t) = Some k
operand_of (part_row.Getter s k t) = Some k
operand_of (part_row.Setter s k t) = Some k
operand_of (part_row.Spread k) = Some k
operand_of (part_row.Item k) = Some k
operand_of part_row.Hole = None

-- the first form of a part is its key
abbrev pub has_key : PartRow → Bool
has_key (part_row.Data k v) = true
has_key (part_row.Method s k t) = true
has_key (part_row.Getter s k t) = true
has_key (part_row.Setter s k t) = true
has_key row = false

-- the fields of an accessor
abbrev pub accessor_part : (enumerable : Bool) → (get set : Option (Option Ref)) → PartialDescriptor Ref MadeSymbol
accessor_part e get set = record { value = None; writable = None; get = get; set = set; enumerable = Some e; configurable = Some true }

-- the fields of the property of a part with a function
abbrev pub function_fields : FunctionPart → (enumerable : Bool) → Ref → PartialDescriptor Ref MadeSymbol
function_fields function_part.Method e f = data_part e (value.Ref f)
function_fields function_part.Getter e f = getter_part e f
function_fields function_part.Setter e f = setter_part e f

-- the helper that copies what is spread
abbrev pub spread_helper : (into_array : Bool) → Ref
spread_helper b = reference.Common (record { 0 = if b then INTO else COPY })

module _ (names : Naming Ref MadeSymbol) (shared : Shared) (c : Tables) where
  -- so many parts from one on are defined, and then what they are for is given
  abbrev pub parts_go : Holding → (start count : ℕ) → Party Ref MadeSymbol → Act Ref MadeSymbol
  parts_go h start count p = defines_parts names shared (holders_of h) (parts_of c (term_at c) start count) p (λ q. give (value.Ref h.constructor) q)

  -- a property is defined, and then so many parts behind a place are
  abbrev pub defined_then : Holding → (at left : ℕ) → (object : Ref) → (key : Value Ref MadeSymbol) → PartialDescriptor Ref MadeSymbol → Party Ref MadeSymbol → Act Ref MadeSymbol
  defined_then h at left o v d p = to_key names shared v p (λ name m. defines names shared o name d m (parts_go h (suc at) left))

  -- the key of a part is there, and its value is evaluated
  abbrev pub key_then : Holding → (at left : ℕ) → (operand : ℕ) → (key : Value Ref MadeSymbol) → Party Ref MadeSymbol → Act Ref MadeSymbol
  key_then h at left e v p =
      to_key names shared v p (λ name m. Evaluate (term_at c e) m (with_value (λ w n. defines names shared h.instance name (data_part h.enumerable w) n (parts_go h (suc at) left))))

  -- what is spread is copied into the object
  abbrev pub spread_then : Holding → (at left : ℕ) → Value Ref MadeSymbol → Party Ref MadeSymbol → Act Ref MadeSymbol
  spread_then h at left v p = spreads names shared h.instance v p (with_value (λ w m. parts_go h (suc at) left m))

  -- a function is made, and defined on its home by a key
  abbrev pub function_keyed : Holding → (at left : ℕ) → (home : Ref) → (template : ℕ) → FunctionPart → Key MadeSymbol → Party Ref MadeSymbol → Act Ref MadeSymbol
  function_keyed h at left o t part name m = defines names shared o name (function_fields part h.enumerable (next_object names shared m)) (method_made names shared (template_at c (term_at c) t) (Some o) m) (parts_go h (suc at) left)

  -- a function is made, and defined on its home
  -- ECMA-262 MethodDefinitionEvaluation
  abbrev pub function_then : Holding → (at left : ℕ) → (home : Ref) → (template : ℕ) → FunctionPart → (key : Value Ref MadeSymbol) → Party Ref MadeSymbol → Act Ref MadeSymbol
  function_then h at left o t part v p =
      to_key names shared v p (λ name m. defines names shared o name (function_fields part h.enumerable (next_object names shared m)) (method_made names shared (template_at c (term_at c) t) (Some o) m) (parts_go h (suc at) left))

  -- the key of a part is known
  unfoldable pub part_keyed : Holding → (at left : ℕ) → PartRow → Key MadeSymbol → Party Ref MadeSymbol → Act Ref MadeSymbol
  part_keyed h at left (part_row.Data k e) name p = Evaluate (term_at c e) p (with_value (λ w n. defines names shared h.instance name (data_part h.enumerable w) n (parts_go h (suc at) left)))
  part_keyed h at left (part_row.Method s k t) name p = function_keyed h at left (holder s (holders_of h)) t function_part.Method name p
  part_keyed h at left (part_row.Getter s k t) name p = function_keyed h at left (holder s (holders_of h)) t function_part.Getter name p
  part_keyed h at left (part_row.Setter s k t) name p = function_keyed h at left (holder s (holders_of h)) t function_part.Setter name p
  part_keyed h at left row name p = parts_go h (suc at) left p

  -- the first operand of a part comes: a key, an object whose properties are copied, or an item
  -- ECMA-262 PropertyDefinitionEvaluation
  -- ECMA-262 ArrayAccumulation
  abbrev pub part_comes : Holding → (at left : ℕ) → PartRow → Value Ref MadeSymbol → Party Ref MadeSymbol → Act Ref MadeSymbol
  part_comes h at left (part_row.Data k e) v p = key_then h at left e v p
  part_comes h at left (part_row.Method s k t) v p = function_then h at left (holder s (holders_of h)) t function_part.Method v p
  part_comes h at left (part_row.Getter s k t) v p = function_then h at left (holder s (holders_of h)) t function_part.Getter v p
  part_comes h at left (part_row.Setter s k t) v p = function_then h at left (holder s (holders_of h)) t function_part.Setter v p
  part_comes h at left (part_row.Spread k) v p = spread_then h at left v p
  part_comes h at left (part_row.Item k) v p = parts_go h (suc at) left (adds_item names shared h.instance v p)
  part_comes h at left part_row.Hole v p = parts_go h (suc at) left p

  -- the value of a part comes, whose key is there
  abbrev pub part_valued : Holding → (at left : ℕ) → (key value : Value Ref MadeSymbol) → Party Ref MadeSymbol → Act Ref MadeSymbol
  part_valued h at left v w p = defined_then h at left h.instance v (data_part h.enumerable w) p

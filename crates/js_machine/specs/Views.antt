-- What the frames and the values of a machine stand for.
use Rattle.std.specs.Prelude.{ℕ, ◌+◌, reverse, take, Bool, true, false, List, [], ◌∷◌, map, drop, get_or, Some, None, if◌then◌else◌, nat_eq, not, Option, ◌++◌, length, codes}
use Rattle.std.specs.Option.{option_map}
use Rattle.lava_base.specs.declared.ids.MadeSymbol.{MadeSymbol}
use Rattle.lava_base.specs.declared.ids.Ref.{Ref}
use Rattle.js_text.specs.Naming.{Naming}
use Rattle.js_text.specs.declared.native.Native.{Native}
use Rattle.js_text.specs.declared.value.Value.{Value}
use Rattle.js_text.specs.declared.value.Value.TheVariants as value
use Rattle.js_desc.specs.declared.reply.Reply.TheVariants as reply
use Rattle.js_code.specs.Decoded.{arguments_at, labels_of, no_guarded_row, no_turn_row, parts_of, template_at, term_at, terms_of, text_at}
use Rattle.js_code.specs.Tables.{Tables}
use Rattle.js_code.specs.declared.node.GuardedRow.{GuardedRow}
use Rattle.js_code.specs.declared.node.TurnRow.{TurnRow}
use Rattle.js_operation.specs.js_exotic.declared.next.Next.TheVariants as exotic
use Rattle.js_ordinary.specs.declared.next.Next.TheVariants as ordinary
use Rattle.lava_base.specs.Ids.{same_ref}
use Rattle.lava_base.specs.declared.ids.Ref.TheVariants as reference
use Rattle.lava_base.specs.declared.marks.Marks.{Marks}
use Rattle.js_desc.specs.declared.reply.Reply.{Reply}
use Rattle.js_store.specs.Foreign.{marks_of}
use Rattle.js_store.specs.Frozen.{CommonObject}
use Rattle.js_operation.specs.js_run.Acts.{Closes, Decides_on, Evaluate, Give, Native_decides, Next, Proxy_decides, Tested, Then, Turned, Turns, Updated, as_it_is, give, throws, with_flag, with_prototype, with_value, Act, Inherits, asks, asks_value}
use Rattle.js_operation.specs.js_run.Faults.{faults}
use Rattle.js_operation.specs.js_run.Bodies.{built, closed, constructed, derived_constructed, returned, this_of}
use Rattle.js_operation.specs.js_run.Completions as halt_kind
use Rattle.js_operation.specs.js_run.Completions.{Completion, Replied, Breaks, Continues, Returns}
use Rattle.js_operation.specs.js_run.Control.{all_values, finally_ends, finishes, in_order, label_ends, left_to, listed, returns, try_ends}
use Rattle.js_operation.specs.js_run.Operators.{binary_value, prototype_inherited, unary_value}
use Rattle.js_operation.specs.js_run.Outside.{OutsideCall}
use Rattle.js_operation.specs.js_run.Parties.{Body, Loaded, Party, Shared, running}
use Rattle.js_operation.specs.js_run.Properties.{get_above, get_global, has_set, init_slot, missing_global, put_global, put_property, set_slot, delete_property, with_this}
use Rattle.js_operation.specs.js_run.Rows.{binary_left, delete_object, get_key, get_object, if_test, put_key, put_object, short_left, super_key, call_on_object, new_callee}
use Rattle.js_text.specs.declared.value.Key.{Key}
use Rattle.js_text.specs.declared.value.Key.TheVariants as key
use Rattle.js_desc.specs.declared.fault.FaultText.TheVariants as fault
use Rattle.js_operation.specs.js_run.Asking.{calls}
use Rattle.js_operation.specs.js_run.Calls.{calls_with, constructs_itself, super_constructs}
use Rattle.js_operation.specs.js_run.Parts.{define_on}
use Rattle.js_operation.specs.js_run.Runs.{Env}
use Rattle.js_term.specs.declared.term.Template.{Template}
use Rattle.js_state.specs.Scopes.{Scope, outwards, scope_at, with_slot}
use Rattle.js_machine.specs.Bodies.{scope_of, stood_in}
use Rattle.js_machine.specs.Classes.{parent_comes, prototype_comes}
use Rattle.js_machine.specs.Parts.{part_at, part_comes, part_keyed, part_valued, parts_go, reference_in}
use Rattle.js_store.specs.Objects.{Object}
use Rattle.js_term.specs.declared.term.Term.{Term}
use Rattle.js_operation.specs.js_run.Modules.{module_closes, module_ends}
use Rattle.js_operation.specs.js_run.Requests.{is_link}
use Rattle.js_operation.specs.js_run.Truth.{is_nullish, to_boolean}
use Rattle.js_operation.specs.js_conversions.Primitives.{ReadsNumbers}
use Rattle.js_native.specs.TextNatives.{FindsFirst}
use Rattle.js_operation.specs.js_run.Natives.{native_acts, runs_native}
use Rattle.js_native_steps.specs.Steps.{waits_as}
use Rattle.js_tree.specs.declared.operator.LogicalOperator.{LogicalOperator}
use Rattle.js_tree.specs.declared.operator.LogicalOperator.TheVariants as logical
use Rattle.js_machine.specs.Packages.{Package, loaded_in}
use Rattle.js_desc.specs.declared.ask.Ask.TheVariants as ask
use Rattle.js_operation.specs.js_run.Conversions.{method_called, ordinary_to_primitive, primitive_or, primitive_to_key}
use Rattle.js_operation.specs.Deeds.{becomes_key, rest_deed}
use Rattle.js_machine.specs.SlotAsks.{asks_first, refusal}
use Rattle.js_machine.specs.Wanting.{number_method_gave, number_method_got}
use Rattle.js_machine.specs.declared.asked.Answer.{Answer}
use Rattle.js_machine.specs.declared.asked.Answer.TheVariants as answer
use Rattle.js_machine.specs.declared.asked.Asked.{Asked}
use Rattle.js_machine.specs.declared.asked.Imported.{Imported}
use Rattle.js_machine.specs.declared.asked.Wait.{Wait}
use Rattle.js_machine.specs.declared.asked.Wait.TheVariants as wait
use Rattle.js_machine.specs.declared.frame.Frame.{Frame}
use Rattle.js_machine.specs.declared.frame.Frame.TheVariants as frame
use Rattle.js_machine.specs.declared.frame.Halt.{Halt}
use Rattle.js_machine.specs.declared.frame.Halt.TheVariants as halt
use Rattle.js_machine.specs.declared.frame.Mode.{Mode}
use Rattle.js_machine.specs.declared.frame.Mode.TheVariants as mode
use Rattle.js_machine.specs.declared.frame.Goal.{Goal}
use Rattle.js_machine.specs.declared.frame.Goal.TheVariants as goal
use Rattle.js_machine.specs.declared.frame.KeyGoal.{KeyGoal}
use Rattle.js_machine.specs.declared.frame.KeyGoal.TheVariants as key_goal
use Rattle.js_machine.specs.declared.frame.Purpose.{Purpose}
use Rattle.js_machine.specs.declared.frame.Purpose.TheVariants as purpose
use Rattle.js_operation.specs.js_run.Calls.{binds_this, parent_value}
use Rattle.js_operation.specs.js_run.Control.{argument_values}
use Rattle.js_operation.specs.js_run.Rows.{call_on_key, call_super_key}
use Rattle.js_machine.specs.Constructions.{constructs_made}
use Rattle.js_term.specs.declared.term.Arguments.{Arguments}
use Rattle.js_machine.specs.declared.holding.Holding.{Holding}

abbrev pub Values : Type 0
Values = List (Value Ref MadeSymbol)

abbrev pub Waits : Type 0
Waits = List Wait

-- a machine as contracts see it: frames, values, what waits, and bodies, the newest first, and the things of the party that runs. Templates are places in the code, those of the common part apart.
-- What is asked and what was answered stand there for the modes that say so. The common objects and the marks of foreign ones are what it knows of others, and it may import over the links that are allowed. Calls of the host's functions stand with the newest first
pub record View : Type 0 where
  pub me : ℕ
  pub code : Tables
  pub frames : List Frame
  pub values : Values
  pub objects : List (Object Ref MadeSymbol)
  pub templates : List ℕ
  pub scopes : List (Scope Ref MadeSymbol)
  pub bodies : List (Body Ref MadeSymbol)
  pub depth : ℕ
  pub waits : Waits
  pub asked : Asked
  pub answer : Answer
  pub common : List CommonObject
  pub known : List (Ref × Marks)
  pub common_templates : List ℕ
  pub own_package : Package
  pub allowed : List (List ℕ)
  pub imported : Imported
  pub calls : List OutsideCall

-- what a machine's steps don't change: what all parties share, the party's surroundings, and the party's other things. Texts are read as the numbers that they stand for, and a part is found where it stands first
pub record Around : Type 0 where
  pub shared : Shared
  pub env : Env Ref
  pub rest : Party Ref MadeSymbol
  pub numbers : ReadsNumbers shared.number_of
  pub finds : FindsFirst shared.find

-- the templates at these places of the code
abbrev pub templates_at : Tables → List ℕ → List Template
templates_at c ts = map (template_at c (term_at c)) ts

-- what it knows of others and may ask of them
abbrev pub knows : View → List (Ref × Marks) × List (List ℕ)
knows w = (w.known, w.allowed)

-- what stands around has the common objects and templates, the marks that the machine knows, and allows the links that it may use
abbrev pub fitting : View → Around → Around
fitting w a = record a { shared = record a.shared { objects = w.common; templates = templates_at w.code w.common_templates }; env = record a.env { marks = λ r. marks_of same_ref r w.known; allows = λ l. is_link l w.allowed } }

-- the party that runs. The host is party 0, whose errors are frozen
abbrev pub party_of : Around → View → Party Ref MadeSymbol
party_of a w = record a.rest {
  name = w.own_package.name;
  main = w.own_package.main;
  modules = loaded_in w.code w.own_package;
  links = w.own_package.links;
  builtin = w.own_package.builtin;
  module_map = w.own_package.mapped;
  objects = w.objects;
  templates = templates_at w.code w.templates;
  scopes = w.scopes;
  bodies = w.bodies;
  depth = w.depth;
  calls = w.calls;
  frozen_errors = nat_eq w.me 0;
}

-- the newest value, and those below it
abbrev pub top : Values → Value Ref MadeSymbol
top [] = value.Undefined
top (v ∷ vs) = v

abbrev pub below : Values → Values
below vs = drop 1 vs

-- MODES

-- a completion has a value
abbrev pub has_value : Mode → Bool
has_value mode.Value = true
has_value mode.Throw = true
has_value mode.Return = true
has_value _ = false

abbrev pub is_throw : Mode → Bool
is_throw mode.Throw = true
is_throw _ = false

-- a completion that is no value
abbrev pub is_abrupt : Mode → Bool
is_abrupt mode.Throw = true
is_abrupt mode.Return = true
is_abrupt (mode.Break l) = true
is_abrupt (mode.Continue l) = true
is_abrupt _ = false

abbrev pub halt_of : Halt → halt_kind.Halt
halt_of halt.Number = halt_kind.Number
halt_of halt.Text = halt_kind.Text
halt_of halt.Depth = halt_kind.Depth
halt_of halt.Meter = halt_kind.Meter
halt_of halt.Outside = halt_kind.Outside

-- the completion that comes, with the newest value
abbrev pub completion_with : Tables → Mode → Value Ref MadeSymbol → Completion Ref MadeSymbol
completion_with c mode.Throw v = Replied (reply.Throw v)
completion_with c mode.Return v = Returns v
completion_with c (mode.Break l) v = Breaks (text_at c l)
completion_with c (mode.Continue l) v = Continues (text_at c l)
completion_with c _ v = Replied (reply.Value v)

-- the values without that of the completion
abbrev pub values_without : Mode → Values → Values
values_without m vs = if has_value m then below vs else vs

-- ANSWERS

-- an answer that is no value and no throw
abbrev pub reply_of_answer : Answer → Reply Ref MadeSymbol
reply_of_answer (answer.Proto o) = reply.Proto o
reply_of_answer (answer.Flag b) = reply.Flag b
reply_of_answer (answer.Desc d) = reply.Desc d
reply_of_answer (answer.Keys ks) = reply.Keys ks

abbrev pub flag_in : Answer → Option Bool
flag_in (answer.Flag b) = Some b
flag_in _ = None

abbrev pub prototype_in : Answer → Option (Option Ref)
prototype_in (answer.Proto o) = Some o
prototype_in _ = None

-- the completion that is handed to a frame
abbrev pub completion_of : View → Mode → Completion Ref MadeSymbol
completion_of w mode.Answer = Replied (reply_of_answer w.answer)
completion_of w m = completion_with w.code m (top w.values)

-- WHAT WAITS

-- where nothing waits
abbrev pub no_wait : Wait
no_wait = wait.Object (reference.Common (record { 0 = 0 })) (exotic.Ordinary ordinary.Answer)

abbrev pub first_wait : Waits → Wait
first_wait [] = no_wait
first_wait (w ∷ ws) = w

-- FRAMES

abbrev pub newest : List Frame → Option Frame
newest [] = None
newest (f ∷ fs) = Some f

-- something that waits is a frame's own
abbrev pub has_wait : Frame → Bool
has_wait frame.Decides = true
has_wait _ = false

-- what waits that is not a frame's own
abbrev pub waits_under : Frame → Waits → Waits
waits_under f ws = if has_wait f then drop 1 ws else ws

-- so many arguments that stand on the stack, the last one the newest
abbrev pub args_on : ℕ → Values → Values
args_on n vs = reverse (take n vs)

-- how many values are those of what arguments are for
abbrev pub held : Purpose → ℕ
held purpose.Call = 2
held (purpose.Native which) = 0
held _ = 1

-- how many values are those of what a property key is for
abbrev pub key_held : KeyGoal → ℕ
key_held key_goal.Put = 2
key_held _ = 1

-- how many values are those of what a primitive value is for
abbrev pub goal_held : Goal → ℕ
goal_held (goal.Operand x) = 1
goal_held (goal.Key k) = key_held k
goal_held (goal.Part e at left) = 2

-- how many values are a frame's own
abbrev pub owned : Frame → ℕ
owned (frame.BinaryRight o) = 1
owned frame.GetKey = 1
owned (frame.PutKey e) = 1
owned frame.DeleteKey = 1
owned frame.HasSet = 1
owned frame.SuperHome = 1
owned frame.PutValue = 2
owned (frame.Finally m) = if has_value m then 1 else 0
owned (frame.Arguments k done start left) = done + held k
owned (frame.ArgumentsOf k) = held k
owned (frame.CallMethod args) = 1
owned (frame.CallKey args) = 1
owned (frame.CallSuperHome args) = 1
owned frame.Paid = 1
owned frame.InstanceOf = 1
owned frame.Inherits = 1
owned (frame.MethodGot last g) = 1 + goal_held g
owned (frame.MethodCalled last g) = 1 + goal_held g
owned (frame.Part e at left) = 2
owned (frame.PartValue e at left) = 3
owned (frame.Parts e start count) = 2
owned (frame.ClassPrototype k) = 1
owned (frame.Charged which count) = count
owned frame.Made = 1
owned (frame.ModuleBody n at o) = 1
owned (frame.ModuleEnds n at) = 1
owned (frame.SlotCharged which count) = count
owned _ = 0

-- it goes on with an answer that is no value
abbrev pub takes_answers : Frame → Bool
takes_answers frame.HasSet = true
takes_answers frame.HasDeleted = true
takes_answers frame.SuperHome = true
takes_answers (frame.Global n soft) = true
takes_answers (frame.SetGlobal n e) = true
takes_answers (frame.CallSuperHome args) = true
takes_answers (frame.SuperParent args) = true
takes_answers frame.Told = true
takes_answers frame.Inherits = true
takes_answers _ = false

-- it goes on with a value or an answer alone
abbrev pub takes_values : Frame → Bool
takes_values (frame.ScopeExit s) = false
takes_values (frame.Turned t) = false
takes_values (frame.Label l) = false
takes_values (frame.Guarded g) = false
takes_values (frame.Handled g s) = false
takes_values frame.Decides = false
takes_values frame.Called = false
takes_values (frame.Constructed o) = false
takes_values frame.Derived = false
takes_values frame.Built = false
takes_values frame.Paid = false
takes_values (frame.Charged which count) = false
takes_values frame.Made = false
takes_values (frame.ModuleBody n at o) = false
takes_values (frame.ModuleEnds n at) = false
takes_values (frame.SlotCharged which count) = false
takes_values (frame.Refused b) = false
takes_values _ = true

-- the values that are not a frame's own
abbrev pub rest_of : Frame → Values → Values
rest_of f vs = drop (owned f) vs

abbrev pub turns_of : Tables → TurnRow → Turns
turns_of c t = record { labels = labels_of c (term_at c) t; test = term_at c t.test; update = option_map (term_at c) t.update; body = term_at c t.body }

abbrev pub turns_at : Tables → ℕ → Turns
turns_at c t = turns_of c (get_or c.turns t no_turn_row)

abbrev pub guarded_at : Tables → ℕ → GuardedRow
guarded_at c g = get_or c.guarded g no_guarded_row

abbrev pub handler_of : Tables → ℕ → Option Term
handler_of c g = option_map (term_at c) (guarded_at c g).handler

abbrev pub finalizer_of : Tables → ℕ → Option Term
finalizer_of c g = option_map (term_at c) (guarded_at c g).finalizer

-- the objects on which parts are defined, where these values are the newest
abbrev pub holding_on : (enumerable : Bool) → Values → Holding
holding_on e vs = record { instance = reference_in (top (below vs)); constructor = reference_in (top vs); enumerable = e }

-- a native runs with its operands, and does what it does once it is charged. They are opened where a proof is about them alone: each native has its line there
unfoldable pub native_on : Naming Ref MadeSymbol → Shared → Native → List (Value Ref MadeSymbol) → Party Ref MadeSymbol → Act Ref MadeSymbol
native_on names shared which args p = runs_native names shared which args p

unfoldable pub native_after : Naming Ref MadeSymbol → Shared → Native → List (Value Ref MadeSymbol) → Next Ref MadeSymbol
native_after names shared which args = Then (λ d p. native_acts names shared which args p)

-- what arguments are for goes on with them
abbrev pub applied : Naming Ref MadeSymbol → Shared → Purpose → Values → List (Value Ref MadeSymbol) → Party Ref MadeSymbol → Act Ref MadeSymbol
applied names shared purpose.Call vs args p = calls names shared (top vs) (top (below vs)) args p (with_value give)
applied names shared purpose.SuperCall vs args p = with_this names p (λ this q. calls names shared (top vs) this args q (with_value give))
applied names shared purpose.New vs args p = constructs_itself names shared (top vs) args p
applied names shared purpose.SuperNew vs args p = super_constructs names shared (running p).new_target (top vs) args p
applied names shared (purpose.Native which) vs args p = native_on names shared which args p

-- a method of `super` is called with these arguments
abbrev pub super_method : Naming Ref MadeSymbol → Shared → Arguments → Value Ref MadeSymbol → Party Ref MadeSymbol → Act Ref MadeSymbol
super_method names shared args f p = argument_values names shared args p (applied names shared purpose.SuperCall (f ∷ []))

-- what constructs in a `super` call does so with these arguments
abbrev pub super_parent : Naming Ref MadeSymbol → Shared → Arguments → Option Ref → Party Ref MadeSymbol → Act Ref MadeSymbol
super_parent names shared args o p = argument_values names shared args p (applied names shared purpose.SuperNew (parent_value names shared o ∷ []))

-- the object that a value on the stack is
abbrev pub object_on : Value Ref MadeSymbol → Ref
object_on (value.Ref r) = r
object_on v = reference.Common (record { 0 = 0 })

-- CONVERSIONS OF OBJECTS

-- an object that becomes what is wanted is asked for the methods of a text first
abbrev pub as_text : Goal → Bool
as_text (goal.Operand x) = becomes_key x
as_text (goal.Key k) = true
as_text (goal.Part e at left) = true

-- the first or the last of the methods that are tried
-- ECMA-262 OrdinaryToPrimitive, steps 1 and 2
abbrev pub method_at : (last as_text : Bool) → List ℕ
method_at false false = codes "valueOf"
method_at false true = codes "toString"
method_at true false = codes "toString"
method_at true true = codes "valueOf"

-- those that are tried after it
abbrev pub methods_behind : (last as_text : Bool) → List (List ℕ)
methods_behind false t = method_at true t ∷ []
methods_behind true t = []

-- and with it
abbrev pub methods_from : (last as_text : Bool) → List (List ℕ)
methods_from last t = method_at last t ∷ methods_behind last t

module _ (names : Naming Ref MadeSymbol) (shared : Shared) where
  -- whether a property was deleted comes
  abbrev pub has_deleted : Next Ref MadeSymbol
  has_deleted = with_flag (λ done p. if done then give (value.Bool true) p else faults names fault.CannotDelete p)

module _ (names : Naming Ref MadeSymbol) (shared : Shared) (c : Tables) where
  -- what a property of `super` is for: its value, or a call with these arguments
  abbrev pub super_next : Option ℕ → Next Ref MadeSymbol
  super_next None = with_value give
  super_next (Some args) = with_value (super_method names shared (arguments_at c (term_at c) args))

  -- what a property key is for goes on with it
  abbrev pub key_deed : KeyGoal → Values → Key MadeSymbol → Party Ref MadeSymbol → Act Ref MadeSymbol
  key_deed key_goal.Get vs k p = asks_value names (top vs) (ask.Get k (top vs)) p (with_value give)
  key_deed key_goal.Put vs k p = asks_value names (top (below vs)) (ask.Set k (top vs) (top (below vs))) p (has_set names (top vs))
  key_deed key_goal.Delete vs k p = asks_value names (top vs) (ask.Delete k) p (has_deleted names shared)
  key_deed (key_goal.Method args) vs k p = asks_value names (top vs) (ask.Get k (top vs)) p (with_value (calls_with names shared (top vs) (arguments_at c (term_at c) args)))
  key_deed (key_goal.Super call) vs k p = with_this names p (λ this q. asks names (object_on (top vs)) (ask.Get k this) q (super_next call))

  -- what a primitive value is for goes on with it
  abbrev pub goal_deed : Goal → Values → Value Ref MadeSymbol → Party Ref MadeSymbol → Act Ref MadeSymbol
  goal_deed (goal.Operand x) vs v p = rest_deed names shared x (top vs) v p
  goal_deed (goal.Key k) vs v p = primitive_to_key names shared (asks names) v p (key_deed k vs)
  goal_deed (goal.Part e at left) vs v p = primitive_to_key names shared (asks names) v p (part_keyed names shared c (holding_on e vs) at left (part_at c at))

  -- an object becomes a primitive value by these methods
  abbrev pub becomes : List (List ℕ) → Ref → Goal → Values → Party Ref MadeSymbol → Act Ref MadeSymbol
  becomes ns r g vs p = ordinary_to_primitive names shared (asks names) ns r p (goal_deed g vs)

  -- what a method gave
  abbrev pub method_gave : (last : Bool) → Ref → Goal → Values → Value Ref MadeSymbol → Party Ref MadeSymbol → Act Ref MadeSymbol
  method_gave last r g vs v p = primitive_or names shared (asks names) v p (λ q. becomes (methods_behind last (as_text g)) r g vs q) (goal_deed g vs)

  -- a method, which is called where it is one
  abbrev pub method_got : (last : Bool) → Ref → Goal → Values → Value Ref MadeSymbol → Party Ref MadeSymbol → Act Ref MadeSymbol
  method_got last r g vs f p = method_called names shared (asks names) f r p (λ q. becomes (methods_behind last (as_text g)) r g vs q) (with_value (method_gave last r g vs))

-- a text that is kept as a value
abbrev pub text_of : Value Ref MadeSymbol → List ℕ
text_of (value.Text t) = t
text_of v = []

-- a module that has not begun, by its path and the place of its template
abbrev pub loaded_from : Tables → (path : Value Ref MadeSymbol) → (at : ℕ) → Loaded
loaded_from c v at = record { path = text_of v; template = template_at c (term_at c) at; begun = None }

module _ (names : Naming Ref MadeSymbol) (shared : Shared) (c : Tables) where
  -- what a frame of parts and of classes goes on with
  unfoldable pub next_part_of : Frame → Values → Next Ref MadeSymbol
  next_part_of (frame.Define start count) vs = with_value (define_on names shared (parts_of c (term_at c) start count))
  next_part_of (frame.Part e at left) vs = with_value (part_comes names shared c (holding_on e vs) at left (part_at c at))
  next_part_of (frame.PartValue e at left) vs = with_value (part_valued names shared c (holding_on e (below vs)) at left (top vs))
  next_part_of (frame.Parts e start count) vs = with_value (λ v p. parts_go names shared c (holding_on e vs) start count p)
  next_part_of (frame.ClassParent k) vs = with_value (parent_comes names shared c k)
  next_part_of (frame.ClassPrototype k) vs = with_value (prototype_comes names shared c k (reference_in (top vs)))
  next_part_of f vs = with_value give

  -- what a frame of a native that asks a `Slot` goes on with
  unfoldable pub next_slot_of : Frame → Values → Next Ref MadeSymbol
  next_slot_of (frame.SlotCharged which count) vs = Then (λ d p. asks_first names shared which (args_on count vs) p)
  next_slot_of (frame.Refused b) vs = Then (λ d p. faults names (refusal b) p)
  next_slot_of f vs = with_value give

  -- what a frame goes on with
  abbrev pub next_of : Frame → Values → Next Ref MadeSymbol
  next_of (frame.SetLocal h s constant) vs = with_value (set_slot names h s constant)
  next_of (frame.Init h s) vs = with_value (init_slot names h s)
  next_of (frame.Unary o) vs = with_value (unary_value names shared o)
  next_of (frame.BinaryLeft o b) vs = with_value (binary_left names shared o (term_at c b))
  next_of (frame.BinaryRight o) vs = with_value (binary_value names shared o (top vs))
  next_of (frame.ShortLeft o b) vs = with_value (short_left names shared o (term_at c b))
  next_of (frame.If a) vs = with_value (if_test names shared (term_at c a) None)
  next_of (frame.IfElse a b) vs = with_value (if_test names shared (term_at c a) (Some (term_at c b)))
  next_of (frame.Seq start count) vs = with_value (λ v p. in_order (terms_of c (term_at c) start count) p)
  next_of (frame.ScopeExit s) vs = left_to s Give
  next_of (frame.Tested t) vs = Tested (turns_at c t)
  next_of (frame.Turned t) vs = Turned (turns_at c t)
  next_of (frame.Updated t) vs = Updated (turns_at c t)
  next_of (frame.Label l) vs = Then (label_ends (text_at c l))
  next_of frame.Return vs = with_value returns
  next_of frame.Throw vs = with_value throws
  next_of (frame.Guarded g) vs = Then (try_ends (option_map (term_at c) (guarded_at c g).handler) (option_map (term_at c) (guarded_at c g).finalizer))
  next_of (frame.Handled g s) vs = left_to s (finishes (option_map (term_at c) (guarded_at c g).finalizer))
  next_of (frame.Finally m) vs = Then (finally_ends (completion_with c m (top vs)))
  next_of frame.Given vs = with_value give
  next_of (frame.GetObject k) vs = with_value (get_object names shared (term_at c k))
  next_of frame.GetKey vs = with_value (get_key names shared (top vs))
  next_of (frame.PutObject k e) vs = with_value (put_object names shared (term_at c k) (term_at c e))
  next_of (frame.PutKey e) vs = with_value (put_key names shared (term_at c e) (top vs))
  next_of frame.PutValue vs = with_value (put_property names shared (top (below vs)) (top vs))
  next_of (frame.DeleteObject k) vs = with_value (delete_object names shared (term_at c k))
  next_of frame.DeleteKey vs = with_value (delete_property names shared (top vs))
  next_of frame.HasSet vs = has_set names (top vs)
  next_of frame.HasDeleted vs = with_flag (λ done p. if done then give (value.Bool true) p else faults names fault.CannotDelete p)
  next_of frame.SuperKey vs = with_value (super_key names shared)
  next_of frame.SuperHome vs = with_prototype (λ o p. get_above names shared (top vs) o p (with_value give))
  next_of (frame.Global n soft) vs = with_flag (λ there p. if there then get_global names (key.Text (text_at c n)) p else missing_global names (text_at c n) soft p)
  next_of (frame.SetGlobal n e) vs = with_flag (λ there p. Evaluate (term_at c e) p (with_value (λ v q. put_global names (text_at c n) there v q)))
  next_of (frame.PutGlobal n there) vs = with_value (λ v p. put_global names (text_at c n) there v p)
  next_of frame.Decides vs = as_it_is
  next_of frame.Called vs = Then (λ d p. returned d (closed p) give)
  next_of (frame.Constructed o) vs = Then (λ d p. returned d (closed p) (constructed names shared (value.Ref (names.own o))))
  next_of frame.Derived vs = Then (λ d p. returned d (closed p) (derived_constructed names shared (this_of p.bodies)))
  next_of frame.Built vs = Then (λ d p. returned d (closed p) (built names shared))
  next_of (frame.Arguments k done start left) vs = with_value (λ v p. all_values (terms_of c (term_at c) start left) (args_on done vs ++ v ∷ []) p (applied names shared k (drop done vs)))
  next_of (frame.ArgumentsOf k) vs = with_value (λ v p. applied names shared k vs (listed names shared v p) p)
  next_of (frame.Callee args) vs = with_value (calls_with names shared value.Undefined (arguments_at c (term_at c) args))
  next_of (frame.NewCallee args) vs = with_value (new_callee names shared (arguments_at c (term_at c) args))
  next_of (frame.CallObject k args) vs = with_value (call_on_object names shared (term_at c k) (arguments_at c (term_at c) args))
  next_of (frame.CallMethod args) vs = with_value (calls_with names shared (top vs) (arguments_at c (term_at c) args))
  next_of (frame.CallKey args) vs = with_value (call_on_key names shared (arguments_at c (term_at c) args) (top vs))
  next_of (frame.CallSuperKey args) vs = with_value (call_super_key names shared (arguments_at c (term_at c) args))
  next_of (frame.CallSuperHome args) vs = with_prototype (λ o p. get_above names shared (top vs) o p (with_value (super_method names shared (arguments_at c (term_at c) args))))
  next_of (frame.CallSuperMethod args) vs = with_value (super_method names shared (arguments_at c (term_at c) args))
  next_of (frame.SuperParent args) vs = with_prototype (super_parent names shared (arguments_at c (term_at c) args))
  next_of frame.BindThis vs = with_value (λ v p. binds_this names shared (running p).this v p)
  next_of frame.Paid vs = Then (λ d p. give (top vs) p)
  next_of frame.Told vs = with_flag (λ b p. give (value.Bool b) p)
  next_of frame.InstanceOf vs = with_value (prototype_inherited names shared (object_on (top vs)))
  next_of frame.Inherits vs = Inherits (object_on (top vs))
  next_of (frame.MethodGot last g) vs = with_value (method_got names shared c last (object_on (top vs)) g (below vs))
  next_of (frame.MethodCalled last g) vs = with_value (method_gave names shared c last (object_on (top vs)) g (below vs))
  next_of (frame.Define start count) vs = next_part_of (frame.Define start count) vs
  next_of (frame.Part e at left) vs = next_part_of (frame.Part e at left) vs
  next_of (frame.PartValue e at left) vs = next_part_of (frame.PartValue e at left) vs
  next_of (frame.Parts e start count) vs = next_part_of (frame.Parts e start count) vs
  next_of (frame.ClassParent k) vs = next_part_of (frame.ClassParent k) vs
  next_of (frame.ClassPrototype k) vs = next_part_of (frame.ClassPrototype k) vs
  next_of (frame.Charged which count) vs = native_after names shared which (args_on count vs)
  next_of frame.Made vs = Then (λ d p. give (top vs) p)
  next_of (frame.ModuleBody n at o) vs = Then (λ d p. module_ends names n (loaded_from c (top vs) at) o d p)
  next_of (frame.ModuleEnds n at) vs = Then (λ d p. module_closes names n (loaded_from c (top vs) at) d p)
  next_of (frame.SlotCharged which count) vs = next_slot_of (frame.SlotCharged which count) vs
  next_of (frame.Refused b) vs = next_slot_of (frame.Refused b) vs

  -- what a proxy's decision, or the number that a decision wants, goes on with
  unfoldable pub next_of_want : Wait → Next Ref MadeSymbol
  next_of_want (wait.Proxy n) = Proxy_decides n
  next_of_want (wait.MethodGot o last k) = with_value (number_method_got names shared last o k)
  next_of_want (wait.MethodCalled o last k) = with_value (number_method_gave names shared last o k)
  next_of_want (wait.SlotTold which n) = Closes (Native_decides which (waits_as n))
  next_of_want w = with_value give

  -- what waits goes on with its answer
  abbrev pub next_of_wait : Wait → Next Ref MadeSymbol
  next_of_wait (wait.Object me n) = Decides_on me n
  next_of_wait (wait.Construct k args) = with_value (constructs_made names shared (template_at c (term_at c) k.at) k args)
  next_of_wait (wait.Native which n) = Native_decides which (waits_as n)
  next_of_wait wait.Exports = with_value give
  next_of_wait (wait.Proxy n) = next_of_want (wait.Proxy n)
  next_of_wait (wait.MethodGot o last k) = next_of_want (wait.MethodGot o last k)
  next_of_wait (wait.MethodCalled o last k) = next_of_want (wait.MethodCalled o last k)
  next_of_wait (wait.SlotTold which n) = next_of_want (wait.SlotTold which n)

  -- what a frame goes on with where it has something that waits. What decides is open meanwhile
  abbrev pub next_over : Frame → Values → Waits → Next Ref MadeSymbol
  next_over f vs ws = if has_wait f then Closes (next_of_wait (first_wait ws)) else next_of f vs

  abbrev pub nexts_of : List Frame → Values → Waits → List (Next Ref MadeSymbol)
  nexts_of [] vs ws = []
  nexts_of (f ∷ fs) vs ws = next_over f vs ws ∷ nexts_of fs (rest_of f vs) (waits_under f ws)

-- the left operand is the value of a logical operator
abbrev pub keeps_left : LogicalOperator → Value Ref MadeSymbol → Bool
keeps_left logical.And v = not (to_boolean v)
keeps_left logical.Or v = to_boolean v
keeps_left logical.Coalesce v = not (is_nullish v)

-- the scopes with a value in a slot so many hops outwards from where the body stands
abbrev pub with_local : View → (hops slot : ℕ) → Value Ref MadeSymbol → List (Scope Ref MadeSymbol)
with_local w h i v = with_slot w.scopes (outwards w.scopes h (scope_of w.bodies)) i v

-- a completion
abbrev pub is_completion : Mode → Bool
is_completion (mode.Eval at) = false
is_completion mode.Ask = false
is_completion mode.Answer = false
is_completion (mode.End h) = false
is_completion (mode.Pay n) = false
is_completion (mode.Serve n) = false
is_completion mode.Import = false
is_completion mode.Outside = false
is_completion _ = true

-- so much is due
abbrev pub is_due : Mode → Bool
is_due (mode.Pay n) = true
is_due _ = false

-- what is handed to a frame: a completion, or an answer that is no value
abbrev pub is_handed : Mode → Bool
is_handed (mode.Eval at) = false
is_handed mode.Ask = false
is_handed (mode.End h) = false
is_handed (mode.Pay n) = false
is_handed (mode.Serve n) = false
is_handed mode.Import = false
is_handed mode.Outside = false
is_handed _ = true

-- the body that runs stands in a new scope
abbrev pub with_scope : List (Option (Value Ref MadeSymbol)) → View → View
with_scope slots w = record w { scopes = w.scopes ++ record { outer = scope_of w.bodies; slots = slots } ∷ []; bodies = stood_in (length w.scopes) w.bodies }

-- it stands in a copy of the scope where it stood
abbrev pub with_copy : View → View
with_copy w = record w { scopes = w.scopes ++ scope_at w.scopes (scope_of w.bodies) ∷ []; bodies = stood_in (length w.scopes) w.bodies }

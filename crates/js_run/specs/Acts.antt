-- What is to be done next, and what follows it. The driver knows Acts, and no form.
use Rattle.std.specs.Prelude.{ℕ, Bool, true, false, ◌||◌, List, [], ◌∷◌, Option, Some, None, if◌then◌else◌}
use Rattle.lava_base.specs.declared.marks.Marks.{Marks}
use Rattle.js_text.specs.Naming.{Naming, Origin, Own, Common, Foreign}
use Rattle.js_text.specs.declared.native.Native.{Native}
use Rattle.js_text.specs.Texts.{same_units}
use Rattle.js_text.specs.declared.value.Key.{Key}
use Rattle.js_text.specs.declared.value.Value as v
use Rattle.js_text.specs.declared.value.Value.TheVariants as value
use Rattle.js_desc.specs.declared.ask.Ask as a
use Rattle.js_desc.specs.declared.ask.Ask.TheVariants as ask
use Rattle.js_desc.specs.declared.reply.Reply.TheVariants as reply
use Rattle.js_object_natives.specs.js_conversions.declared.next.Next.{Next as ConversionNext}
use Rattle.js_exotic.specs.declared.next.Next.{Next as ExoticNext}
use Rattle.js_maker_natives.specs.declared.next.Next.{Next as MakerNext}
use Rattle.js_object_natives.specs.declared.next.Next.{Next as ObjectNext}
use Rattle.js_maker_natives.specs.js_slot_natives.declared.next.Next.{Next as SlotNext}
use Rattle.js_term.specs.declared.term.Term.{Term}
use Rattle.js_proxy.specs.js_traps.declared.next.Next.{Next as ProxyNext}
use Rattle.js_run.specs.Completions.{Completion, Replied, Breaks, Continues, Halt}
use Rattle.js_run.specs.Outside.{OutsideCall, OutsideAnswer}
use Rattle.js_run.specs.Parties.{Party}

-- what a loop does each turn
-- ECMA-262 Iteration Statements
pub record Turns : Type 0 where
  pub labels : List (List ℕ)
  pub test : Term
  pub update : Option Term
  pub body : Term

-- what a native waits for: those on objects, those that make objects, those on collections, and conversions
pub data NativeNext (R S : Type 0) : Type 0 where
  Of_object : ObjectNext R S → NativeNext R S
  Of_maker : MakerNext R → NativeNext R S
  Of_slot : SlotNext → NativeNext R S
  Of_conversion : ConversionNext R → NativeNext R S

mutual
  pub data Act (R S : Type 0) : Type 0 where
    -- the form is over
    Give : Completion R S → Party R S → Act R S
    -- evaluate a term in the body that runs, and then go on; costs one
    Evaluate : Term → Party R S → Next R S → Act R S
    -- evaluate a term in the place of this one; costs one
    Become : Term → Party R S → Act R S
    -- an own object, one of the common part or a primitive value decides; costs one
    Decide : v.Value R S → a.Ask R S → Party R S → Next R S → Act R S
    -- costs so much and one
    Pay : ℕ → Party R S → Next R S → Act R S
    -- send an ask at a foreign object, and go on with its reply; costs nothing
    Send : R → a.Ask R S → Party R S → Next R S → Act R S
    -- make a party with these globals and modules, and go on with its reply
    Make : List (Key S × v.Value R S) → List (List ℕ × v.Value R S) → Party R S → Next R S → Act R S
    -- import over a link, and go on with the reply; where the party's row denies the link, the other act instead
    Import : (link path : List ℕ) → (denied : Act R S) → Party R S → Next R S → Act R S
    -- look at the marks of a foreign object; costs nothing
    Look : R → (Marks → Act R S) → Act R S
    -- the outside answers the last of these calls. The host alone does this
    Call_outside : List OutsideCall → (OutsideAnswer → Act R S) → Act R S
    -- the run ends
    End : Halt → Act R S

  pub data Next (R S : Type 0) : Type 0 where
    Then : (Completion R S → Party R S → Act R S) → Next R S
    -- what comes is the test of a loop's next turn
    Tested : Turns → Next R S
    -- a turn of a loop is over
    Turned : Turns → Next R S
    -- what a loop does after a turn is done
    Updated : Turns → Next R S
    -- the prototype of an object comes, where another object is looked for
    Inherits : R → Next R S
    -- an object's decision has its answer, and goes on
    Decides_on : R → ExoticNext R S → Next R S
    -- a proxy's decision has its answer, and goes on
    Proxy_decides : ProxyNext R S → Next R S
    -- a native has its answer, and goes on
    Native_decides : Native → NativeNext R S → Next R S
    -- what waited is open no longer
    Closes : Next R S → Next R S

abbrev pub give : {R S : Type 0} → v.Value R S → Party R S → Act R S
give v p = Give (Replied (reply.Value v)) p

abbrev pub throws : {R S : Type 0} → v.Value R S → Party R S → Act R S
throws v p = Give (Replied (reply.Throw v)) p

-- with the value; what is none passes
-- ECMA-262 ReturnIfAbrupt
abbrev pub on_value : {R S : Type 0} → Completion R S → Party R S → (v.Value R S → Party R S → Act R S) → Act R S
on_value (Replied (reply.Value v)) p go = go v p
on_value c p go = Give c p

abbrev pub with_value : {R S : Type 0} → (v.Value R S → Party R S → Act R S) → Next R S
with_value go = Then (λ c p. on_value c p go)

-- with the truth value
abbrev pub on_flag : {R S : Type 0} → Completion R S → Party R S → (Bool → Party R S → Act R S) → Act R S
on_flag (Replied (reply.Flag b)) p go = go b p
on_flag c p go = Give c p

abbrev pub with_flag : {R S : Type 0} → (Bool → Party R S → Act R S) → Next R S
with_flag go = Then (λ c p. on_flag c p go)

-- with the prototype
abbrev pub on_prototype : {R S : Type 0} → Completion R S → Party R S → (Option R → Party R S → Act R S) → Act R S
on_prototype (Replied (reply.Proto o)) p go = go o p
on_prototype c p go = Give c p

abbrev pub with_prototype : {R S : Type 0} → (Option R → Party R S → Act R S) → Next R S
with_prototype go = Then (λ c p. on_prototype c p go)

-- with nothing more to do
abbrev pub as_it_is : {R S : Type 0} → Next R S
as_it_is = Then (λ c p. Give c p)

-- LOOPS

-- one of these labels
abbrev pub is_label : List ℕ → List (List ℕ) → Bool
is_label l [] = false
is_label l (m ∷ ms) = same_units l m || is_label l ms

-- what follows a turn
abbrev pub next_turn : {R S : Type 0} → Turns → Option Term → Party R S → Act R S
next_turn l None p = Evaluate l.test p (Tested l)
next_turn l (Some u) p = Evaluate u p (Updated l)

-- ECMA-262 LoopContinues
abbrev pub after_turn : {R S : Type 0} → Turns → Completion R S → Party R S → Act R S
after_turn l (Replied (reply.Value v)) p = next_turn l l.update p
after_turn l (Continues label) p = if is_label label l.labels then next_turn l l.update p else Give (Continues label) p
after_turn l (Breaks label) p = if is_label label l.labels then give value.Undefined p else Give (Breaks label) p
after_turn l c p = Give c p

-- ASKS

-- an ask at an object: an own one or one of the common part decides, a foreign one is sent the ask
abbrev pub ask_there : {R S : Type 0} → Origin → R → a.Ask R S → Party R S → Next R S → Act R S
ask_there (Own i) o x p k = Decide (value.Ref o) x p k
ask_there (Common c) o x p k = Decide (value.Ref o) x p k
ask_there Foreign o x p k = Send o x p k

abbrev pub asks : {R S : Type 0} → Naming R S → R → a.Ask R S → Party R S → Next R S → Act R S
asks names o x p k = ask_there (names.origin o) o x p k

-- an ask at a value: a primitive one decides for itself
abbrev pub asks_value : {R S : Type 0} → Naming R S → v.Value R S → a.Ask R S → Party R S → Next R S → Act R S
asks_value names (value.Ref o) x p k = asks names o x p k
asks_value names v x p k = Decide v x p k

-- the prototype is the object that is looked for, or is asked for its own
-- ECMA-262 OrdinaryHasInstance, step 6
abbrev pub inherits_from : {R S : Type 0} → Naming R S → (sought : R) → Option R → Party R S → Act R S
inherits_from names sought None p = give (value.Bool false) p
inherits_from names sought (Some r) p = if names.same sought r then give (value.Bool true) p else asks names r ask.GetPrototypeOf p (Inherits sought)

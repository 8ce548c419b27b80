-- Classes.
use Rattle.std.proofs.Common.{◌≡◌, ℕ, Bool, true, false, List, [], ◌∷◌, ◌++◌, length, map, Option, Some, None, refl, sym, ap, ◌∙◌, subst, Result, Ok, Err, IfOk, if◌then◌else◌}
use Rattle.std.specs.Option.{option_map, unwrap_or}
use Rattle.lava_base.specs.declared.ids.MadeSymbol.{MadeSymbol}
use Rattle.lava_base.specs.declared.ids.Ref.{Ref}
use Rattle.lava_base.specs.declared.ids.Ref.TheVariants as reference
use Rattle.lava_base.specs.declared.marks.Marks.{Marks}
use Rattle.js_text.specs.Naming.{naming_of}
use Rattle.js_text.specs.declared.value.Key.{Key}
use Rattle.js_text.specs.declared.value.Value.{Value}
use Rattle.js_text.specs.declared.value.Value.TheVariants as value
use Rattle.js_desc.specs.declared.ask.Ask.TheVariants as ask
use Rattle.js_desc.specs.declared.fault.FaultText.TheVariants as fault
use Rattle.js_code.specs.Decoded.{template_at, term_at, text_at}
use Rattle.js_code.specs.declared.node.ClassRow.{ClassRow}
use Rattle.js_machine.specs.js_operations.Names.{proto_value}
use Rattle.js_machine.specs.js_run.Acts.{asks, with_value}
use Rattle.js_machine.specs.js_run.Faults.{faults}
use Rattle.js_machine.specs.js_run.Functions.{prototype_key}
use Rattle.js_machine.specs.js_run.Parts.{class_defined, class_made, class_value}
use Rattle.js_machine.specs.js_run.declared.intrinsics.TheConstants.{FUNCTION_PROTOTYPE, OBJECT_PROTOTYPE}
use Rattle.js_machine.specs.Classes.{class_parts, class_row, constructor_of, parent_comes, prototype_comes}
use Rattle.js_machine.specs.Constructors.{IsTemplateOf, class_holding, class_instance, class_prototype, object_or_null, with_class}
use Rattle.js_machine.specs.Looks.{marks_in}
use Rattle.js_machine.specs.Made.{function_of, next_own, row_of, second_own}
use Rattle.js_machine.specs.Parts.{parts_go, reference_in}
use Rattle.js_machine.specs.Steps.{Deed, LeadsTo, Waits, WaitsFor, deed_with, settles, under, with_top, without_top}
use Rattle.js_machine.specs.Views.{Around, View, below, fitting, next_part_of, party_of, top}
use Rattle.js_machine.specs.declared.frame.Frame.TheVariants as frame
use Rattle.js_machine.specs.declared.frame.Mode.{Mode}
use Rattle.js_machine.specs.declared.holding.Holding.{Holding}
use Rattle.js_machine.proofs.Created.{number, one_more}
use Rattle.js_machine.proofs.Looked.{looked}
use Rattle.js_machine_classes.proofs.Parted.{Goes, led_moved}

-- a class that is made is that of the definitions
class_is : (at : ℕ) (above : Option Ref) (over : Ref) (old : View) (a : Around)
    → party_of (fitting old a) (with_class at above over old) ≡ class_made (naming_of old.me) (fitting old a).shared (template_at old.code (term_at old.code) at) above over (party_of (fitting old a) old)
class_is at above over old a = λ i. record (party_of (fitting old a) old) {
  objects = (old.objects ++ class_instance above (second_own old) ∷ []) ++ function_of (number a at old i) (row_of old at) (Some over) (Some (next_own old)) (class_prototype (next_own old) ∷ []) old ∷ [];
  templates = one_more a at old i;
}

module _ (row : ClassRow) (derived : Bool) (above : Option Ref) (over : Ref) where
  abbrev Defined : View → Deed
  Defined w = λ a. class_defined (naming_of w.me) a.shared (text_at w.code row.name) derived (constructor_of w.code row) (class_parts w.code row) above over (party_of a w)

  pub class_led : {E : Type 0} (r : Result Mode E) (at : ℕ) (h : Holding) (old mid new : View) → IsTemplateOf row derived at old → h ≡ class_holding old → mid ≡ with_class at above over old
      → IfOk r (LeadsTo (Goes h row.start row.count mid) mid new) → IfOk r (LeadsTo (Defined old) old new)
  class_led r at h old mid new t s q w =
      let made = with_class at above over old in
      led_moved r (Goes h row.start row.count) (Defined old) old mid new made.objects made.templates q
      (λ a. (let b = fitting old a in
      let names = naming_of old.me in
      ap (λ x. parts_go names b.shared old.code (class_holding old) row.start row.count (class_made names b.shared x above over (party_of b old))) (sym (t b))
      ∙ ap (λ p. parts_go names b.shared old.code (class_holding old) row.start row.count p) (sym (class_is at above over old a))
      ∙ ap (λ x. parts_go names b.shared old.code x row.start row.count (party_of b made)) (sym s)
      ∙ ap (λ x. Goes h row.start row.count x b) (sym q)))
      w

-- WHAT IS ABOVE

abbrev FUNCTION : Ref
FUNCTION = reference.Common (record { 0 = FUNCTION_PROTOTYPE })

abbrev OBJECT : Ref
OBJECT = reference.Common (record { 0 = OBJECT_PROTOTYPE })

abbrev Above : ℕ → Ref → Value Ref MadeSymbol → View → Deed
Above k parent v w = λ a. prototype_comes (naming_of w.me) a.shared w.code k parent v (party_of a w)

abbrev Parent : ℕ → Value Ref MadeSymbol → View → Deed
Parent k v w = λ a. parent_comes (naming_of w.me) a.shared w.code k v (party_of a w)

is_given : (v : Value Ref MadeSymbol) (o : Option Ref) → object_or_null v ≡ Some o → v ≡ proto_value o
is_given (value.Ref r) o e = ap (λ x. proto_value (unwrap_or x (Some r))) e
is_given value.Null o e = ap (λ x. proto_value (unwrap_or x None)) e
is_given v o e = cc

given : (v : Value Ref MadeSymbol) (g : Option (Option Ref)) (o : Option Ref) → g ≡ object_or_null v → g ≡ Some o → v ≡ proto_value o
given v g o e s = is_given v o (sym e ∙ s)

above_led : (k : ℕ) (parent : Ref) (o : Option Ref) (old new : View) (m : Mode) → LeadsTo (Defined (class_row old.code k) true o parent old) old new m → LeadsTo (Above k parent (proto_value o) old) old new m
above_led k parent None old new m w = record { leads = λ a. w.leads a; keeps = w.keeps }
above_led k parent (Some r) old new m w = record { leads = λ a. w.leads a; keeps = w.keeps }

pub above_given : {E : Type 0} (r : Result Mode E) (k : ℕ) (row : ClassRow) (parent : Ref) (v : Value Ref MadeSymbol) (g : Option (Option Ref)) (o : Option Ref) (old new : View) → row ≡ class_row old.code k → g ≡ object_or_null v → g ≡ Some o
    → IfOk r (LeadsTo (Defined row true o parent old) old new) → IfOk r (LeadsTo (Above k parent v old) old new)
above_given (Ok m) k row parent v g o old new e f s w =
    let x = above_led k parent o old new m (subst (λ y. LeadsTo (Defined y true o parent old) old new m) e w) in
    subst (λ y. LeadsTo (Above k parent y old) old new m) (sym (given v g o f s)) x
above_given (Err x) k row parent v g o old new e f s w = tt

pub above_other : {E : Type 0} (r : Result Mode E) (k : ℕ) (parent : Ref) (v : Value Ref MadeSymbol) (g : Option (Option Ref)) (old new : View) → g ≡ object_or_null v → g ≡ None → IfOk r (LeadsTo (λ a. faults (naming_of old.me) fault.NotAnObject (party_of a old)) old new)
    → IfOk r (LeadsTo (Above k parent v old) old new)
above_other r k parent (value.Ref o) g old new e s w = cc
above_other r k parent value.Null g old new e s w = cc
above_other r k parent v g old new e s w = w

pub parent_null : {E : Type 0} (r : Result Mode E) (k : ℕ) (row : ClassRow) (old new : View) → row ≡ class_row old.code k → IfOk r (LeadsTo (Defined row true None FUNCTION old) old new) → IfOk r (LeadsTo (Parent k value.Null old) old new)
parent_null r k row old new e w = subst (λ y. IfOk r (LeadsTo (Defined y true None FUNCTION old) old new)) e w

pub parent_given : {E : Type 0} (r : Result Mode E) (k : ℕ) (v : Value Ref MadeSymbol) (g : Option (Option Ref)) (o : Option Ref) (old new : View) → g ≡ object_or_null v → g ≡ Some o → IfOk r (LeadsTo (Parent k (proto_value o) old) old new) → IfOk r (LeadsTo (Parent k v old) old new)
parent_given r k v g o old new f s w = subst (λ y. IfOk r (LeadsTo (Parent k y old) old new)) (sym (given v g o f s)) w

pub parent_other : {E : Type 0} (r : Result Mode E) (k : ℕ) (v : Value Ref MadeSymbol) (g : Option (Option Ref)) (old new : View) → g ≡ object_or_null v → g ≡ None → IfOk r (LeadsTo (λ a. faults (naming_of old.me) fault.NotAConstructor (party_of a old)) old new)
    → IfOk r (LeadsTo (Parent k v old) old new)
parent_other r k (value.Ref o) g old new e s w = cc
parent_other r k value.Null g old new e s w = cc
parent_other r k v g old new e s w = w

pub parent_is : {E : Type 0} (r : Result Mode E) (k : ℕ) (p o : Option Ref) (old new : View) → p ≡ o → IfOk r (LeadsTo (Parent k (proto_value o) old) old new) → IfOk r (LeadsTo (Parent k (proto_value p) old) old new)
parent_is r k p o old new e w = subst (λ y. IfOk r (LeadsTo (Parent k (proto_value y) old) old new)) (sym e) w

-- what a parent's marks say
abbrev Over : Bool → ℕ → Ref → View → Deed
Over c k o w = λ a. if c then asks (naming_of w.me) o (ask.Get prototype_key (value.Ref o)) (party_of a w) (with_value (prototype_comes (naming_of w.me) a.shared w.code k o)) else faults (naming_of w.me) fault.NotAConstructor (party_of a w)

by_marks : {E : Type 0} (r : Result Mode E) (k : ℕ) (o : Ref) (old new : View) → IfOk r (LeadsTo (Over (marks_in old o).constructor k o old) old new) → IfOk r (LeadsTo (Parent k (value.Ref o) old) old new)
by_marks (Ok m) k o old new w =
    record {
      leads = λ a. (let b = fitting old a in
          w.leads a
          ∙ ap (λ x. settles b old old.values x)
          (sym (looked o old a (λ (n : Marks). if n.constructor then asks (naming_of old.me) o (ask.Get prototype_key (value.Ref o)) (party_of b old) (with_value (prototype_comes (naming_of old.me) b.shared old.code k o)) else faults (naming_of old.me) fault.NotAConstructor (party_of b old)))));
      keeps = w.keeps;
    }
by_marks (Err x) k o old new w = tt

pub over_refused : {E : Type 0} (r : Result Mode E) (n : Marks) (k : ℕ) (o : Ref) (old new : View) → n ≡ marks_in old o → n.constructor ≡ false → IfOk r (LeadsTo (λ a. faults (naming_of old.me) fault.NotAConstructor (party_of a old)) old new) → IfOk r (LeadsTo (Parent k (value.Ref o) old) old new)
over_refused r n k o old new e f w = by_marks r k o old new (subst (λ c. IfOk r (LeadsTo (Over c k o old) old new)) (sym f ∙ ap (λ (x : Marks). x.constructor) e) w)

pub prototype_asked : {E : Type 0} (r : Result Mode E) (k : ℕ) (o : Ref) (n : Key MadeSymbol) (old mid new : View) → n ≡ prototype_key → mid ≡ with_top (value.Ref o) old → IfOk r (WaitsFor (frame.ClassPrototype k) o (ask.Get n (value.Ref o)) mid new)
    → IfOk r (LeadsTo (Over true k o old) old new)
unfolding next_part_of
prototype_asked (Ok m) k o n old mid new e q w =
    let x = subst (λ y. WaitsFor (frame.ClassPrototype k) o (ask.Get n (value.Ref o)) y new m) q w in
    let y = subst (λ i. WaitsFor (frame.ClassPrototype k) o (ask.Get i (value.Ref o)) (with_top (value.Ref o) old) new m) e x in
    record { leads = λ a. y.leads a; keeps = y.keeps }
prototype_asked (Err x) k o n old mid new e q w = tt

pub over_asked : {E : Type 0} (r : Result Mode E) (n : Marks) (k : ℕ) (o : Ref) (old new : View) → n ≡ marks_in old o → n.constructor ≡ true → IfOk r (LeadsTo (Over true k o old) old new) → IfOk r (LeadsTo (Parent k (value.Ref o) old) old new)
over_asked r n k o old new e f w = by_marks r k o old new (subst (λ c. IfOk r (LeadsTo (Over c k o old) old new)) (sym f ∙ ap (λ (x : Marks). x.constructor) e) w)

pub above_frame : {E : Type 0} (r : Result Mode E) (k : ℕ) (p : Ref) (u v : Value Ref MadeSymbol) (old mid new : View) → u ≡ top old.values → p ≡ reference_in u → mid ≡ record old { values = below old.values }
    → IfOk r (LeadsTo (Above k p v mid) mid new) → IfOk r (LeadsTo (deed_with (frame.ClassPrototype k) v old) (under (frame.ClassPrototype k) old) new)
unfolding next_part_of
above_frame (Ok m) k p u v old mid new t s q w =
    let x = subst (λ y. LeadsTo (Above k p v y) y new m) q w in
    let z = subst (λ y. LeadsTo (Above k y v (without_top old)) (without_top old) new m) (s ∙ ap reference_in t) x in
    record { leads = λ a. z.leads a; keeps = z.keeps }
above_frame (Err x) k p u v old mid new t s q w = tt

-- A CLASS BEGINS

abbrev Begins : ℕ → Option ℕ → ClassRow → View → Deed
Begins k parent row w = λ a. class_value (naming_of w.me) a.shared (text_at w.code row.name) (option_map (term_at w.code) parent) (constructor_of w.code row) (class_parts w.code row) (party_of a w)

pub parent_waits : {E : Type 0} (r : Result Mode E) (k at : ℕ) (row : ClassRow) (old new : View) → row ≡ class_row old.code k → row.parent ≡ Some at → IfOk r (Waits (frame.ClassParent k) at old new)
    → IfOk r (LeadsTo (Begins k (class_row old.code k).parent (class_row old.code k) old) old new)
unfolding next_part_of
parent_waits (Ok m) k at row old new e s w =
    let z : LeadsTo (Begins k (Some at) (class_row old.code k) old) old new m = record { leads = λ a. w.leads a; keeps = w.keeps } in
    subst (λ o. LeadsTo (Begins k o (class_row old.code k) old) old new m) (sym s ∙ ap (λ (x : ClassRow). x.parent) e) z
parent_waits (Err x) k at row old new e s w = tt

pub class_alone : {E : Type 0} (r : Result Mode E) (k : ℕ) (row : ClassRow) (above : Option Ref) (over : Ref) (old new : View) → row ≡ class_row old.code k → row.parent ≡ None → above ≡ Some OBJECT → over ≡ FUNCTION
    → IfOk r (LeadsTo (Defined row false above over old) old new) → IfOk r (LeadsTo (Begins k (class_row old.code k).parent (class_row old.code k) old) old new)
class_alone r k row above over old new e s t u w =
    let x = subst (λ y. IfOk r (LeadsTo (Defined y false above over old) old new)) e w in
    let y = subst (λ o. IfOk r (LeadsTo (Defined (class_row old.code k) false o over old) old new)) t x in
    let z = subst (λ o. IfOk r (LeadsTo (Defined (class_row old.code k) false (Some OBJECT) o old) old new)) u y in
    subst (λ o. IfOk r (LeadsTo (Begins k o (class_row old.code k) old) old new)) (sym s ∙ ap (λ (q : ClassRow). q.parent) e) z

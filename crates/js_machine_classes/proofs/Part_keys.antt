-- The keys of parts that are objects.
use Rattle.std.proofs.Common.{◌≡◌, ℕ, Bool, true, drop, Option, Some, None, refl, sym, ◌∙◌, subst, Result, Ok, Err, IfOk}
use Rattle.lava_base.specs.declared.ids.MadeSymbol.{MadeSymbol}
use Rattle.lava_base.specs.declared.ids.Ref.{Ref}
use Rattle.js_text.specs.Naming.{Naming, naming_of}
use Rattle.js_text.specs.declared.value.Key.{Key}
use Rattle.js_text.specs.declared.value.Value.{Value}
use Rattle.js_text.specs.declared.value.Value.TheVariants as value
use Rattle.js_code.specs.Tables.{Tables}
use Rattle.js_code.specs.declared.node.PartRow.{PartRow}
use Rattle.js_code.specs.declared.node.PartRow.TheVariants as part_row
use Rattle.js_desc.specs.declared.fault.FaultText.TheVariants as fault
use Rattle.js_machine.specs.js_run.Acts.{Act, asks}
use Rattle.js_machine.specs.js_run.Conversions.{primitive_to_key, to_primitive}
use Rattle.js_machine.specs.js_run.Faults.{faults}
use Rattle.js_machine.specs.js_run.Parties.{Party, Shared}
use Rattle.js_machine.specs.js_run.Properties.{to_key}
use Rattle.js_machine.specs.Conversions.{Converts, Reaches}
use Rattle.js_machine.specs.Decisions.{object_of_value}
use Rattle.js_machine.specs.Definitions.{with_held}
use Rattle.js_machine.specs.Parts.{has_key, part_at, part_comes, part_keyed}
use Rattle.js_machine.specs.Steps.{Deed, LeadsTo}
use Rattle.js_machine.specs.Views.{View, fitting, goal_deed, holding_on, party_of}
use Rattle.js_machine.specs.declared.frame.Goal.TheVariants as goal
use Rattle.js_machine.specs.declared.frame.Mode.{Mode}
use Rattle.js_machine.specs.declared.holding.Holding.{Holding}
use Rattle.js_machine.proofs.Followed.{is_object}
use Rattle.js_machine.proofs.Referenced.{same_deed}

abbrev V : Type 0
V = Value Ref MadeSymbol

module _ (names : Naming Ref MadeSymbol) (shared : Shared) (c : Tables) (h : Holding) (at left : ℕ) where
  primitive_so : (v : V) (p : Party Ref MadeSymbol) (go : Key MadeSymbol → Party Ref MadeSymbol → Act Ref MadeSymbol) → object_of_value v ≡ None → primitive_to_key names shared (asks names) v p go ≡ to_key names shared v p go
  primitive_so (value.Ref r) p go e = cc
  primitive_so v p go e = refl

  -- a key that is no object
  keyed_so : (row : PartRow) (v : V) (p : Party Ref MadeSymbol) → has_key row ≡ true → object_of_value v ≡ None → primitive_to_key names shared (asks names) v p (part_keyed names shared c h at left row) ≡ part_comes names shared c h at left row v p
  unfolding part_keyed
  keyed_so (part_row.Data k e) v p f g = primitive_so v p (part_keyed names shared c h at left (part_row.Data k e)) g
  keyed_so (part_row.Method s k t) v p f g = primitive_so v p (part_keyed names shared c h at left (part_row.Method s k t)) g
  keyed_so (part_row.Getter s k t) v p f g = primitive_so v p (part_keyed names shared c h at left (part_row.Getter s k t)) g
  keyed_so (part_row.Setter s k t) v p f g = primitive_so v p (part_keyed names shared c h at left (part_row.Setter s k t)) g
  keyed_so row v p f g = cc

  -- and one that is
  objects_so : (row : PartRow) (o : Ref) (p : Party Ref MadeSymbol) → has_key row ≡ true
      → part_comes names shared c h at left row (value.Ref o) p ≡ to_primitive names shared (asks names) true (value.Ref o) p (λ v q. primitive_to_key names shared (asks names) v q (part_keyed names shared c h at left row))
  unfolding part_keyed
  objects_so (part_row.Data k e) o p f = refl
  objects_so (part_row.Method s k t) o p f = refl
  objects_so (part_row.Getter s k t) o p f = refl
  objects_so (part_row.Setter s k t) o p f = refl
  objects_so row o p f = cc

abbrev Comes : Holding → (at left : ℕ) → V → View → Deed
Comes h at left v w = λ a. part_comes (naming_of w.me) a.shared w.code h at left (part_at w.code at) v (party_of a w)

pub part_converts : {E : Type 0} (r : Result Mode E) (h : Holding) (at left : ℕ) (o : Ref) (old mid new : View) → has_key (part_at old.code at) ≡ true → mid ≡ with_held h old → IfOk r (Converts o (goal.Part h.enumerable at left) mid new)
    → IfOk r (LeadsTo (Comes h at left (value.Ref o) old) old new)
part_converts (Ok m) h at left o old mid new k s w =
    let x = subst (λ (y : View). Converts o (goal.Part h.enumerable at left) y new m) s w in
    let made : LeadsTo (λ a. to_primitive (naming_of old.me) a.shared (asks (naming_of old.me)) true (value.Ref o) (party_of a old) (goal_deed (naming_of old.me) a.shared old.code (goal.Part h.enumerable at left) (with_held h old).values)) old new m = record { leads = λ a. x.leads a; keeps = x.keeps } in
    same_deed {E = ℕ} (Ok m) (λ a. to_primitive (naming_of old.me) a.shared (asks (naming_of old.me)) true (value.Ref o) (party_of a old) (goal_deed (naming_of old.me) a.shared old.code (goal.Part h.enumerable at left) (with_held h old).values)) (Comes h at left (value.Ref o) old) old new
    (λ a. (let b = fitting old a in objects_so (naming_of old.me) b.shared old.code h at left (part_at old.code at) o (party_of b old) k)) made
part_converts (Err x) h at left o old mid new k s w = tt

pub part_object : {E : Type 0} (r : Result Mode E) (h : Holding) (at left : ℕ) (x : Option Ref) (v : V) (o : Ref) (old new : View) → x ≡ object_of_value v → x ≡ Some o → IfOk r (LeadsTo (Comes h at left (value.Ref o) old) old new) → IfOk r (LeadsTo (Comes h at left v old) old new)
part_object r h at left x v o old new e s w = subst (λ y. IfOk r (LeadsTo (Comes h at left y old) old new)) (sym (is_object v o (sym e ∙ s))) w

pub part_reached : {E : Type 0} (r : Result Mode E) (e : Bool) (at left : ℕ) (h : Holding) (v : V) (old mid new : View) → has_key (part_at old.code at) ≡ true → object_of_value v ≡ None → h ≡ holding_on e old.values → mid ≡ record old { values = drop 2 old.values }
    → IfOk r (LeadsTo (Comes h at left v mid) mid new) → IfOk r (Reaches (goal.Part e at left) v old new)
part_reached (Ok m) e at left h v old mid new k n s q w =
    let low = record old { values = drop 2 old.values } in
    let x = subst (λ (y : View). LeadsTo (Comes h at left v y) y new m) q w in
    let z = subst (λ y. LeadsTo (Comes y at left v low) low new m) s x in
    same_deed {E = ℕ} (Ok m) (Comes (holding_on e old.values) at left v low) (λ a. goal_deed (naming_of old.me) a.shared old.code (goal.Part e at left) old.values v (party_of a old)) low new
    (λ a. (let b = fitting old a in keyed_so (naming_of old.me) b.shared old.code (holding_on e old.values) at left (part_at old.code at) v (party_of b old) k n)) z
part_reached (Err x) e at left h v old mid new k n s q w = tt

pub part_faults : {E : Type 0} (r : Result Mode E) (e : Bool) (at left : ℕ) (x : Option Ref) (v : V) (o : Ref) (old mid new : View) → x ≡ object_of_value v → x ≡ Some o → mid ≡ record old { values = drop 2 old.values } → IfOk r (LeadsTo (λ a. faults (naming_of mid.me) fault.CannotConvert (party_of a mid)) mid new)
    → IfOk r (Reaches (goal.Part e at left) v old new)
part_faults (Ok m) e at left x v o old mid new f s q w =
    let y = subst (λ (z : View). LeadsTo (λ a. faults (naming_of z.me) fault.CannotConvert (party_of a z)) z new m) q w in
    subst (λ u. Reaches (goal.Part e at left) u old new m) (sym (is_object v o (sym f ∙ s))) (record { leads = λ a. y.leads a; keeps = y.keeps })
part_faults (Err z) e at left x v o old mid new f s q w = tt

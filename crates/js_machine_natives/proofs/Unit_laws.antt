-- The items of `fromUnits` become units.
use Rattle.std.proofs.Common.{◌≡◌, ℕ, zero, suc, ◌<◌, Bool, true, false, List, [], ◌∷◌, ◌++◌, length, drop, get_or, Option, Some, None, refl, sym, ap, ◌∙◌, subst, arith, pos, Result, Ok, Err, IfOk}
use Rattle.std.specs.Prelude.{ℤ}
use Rattle.lava_base.specs.declared.ids.MadeSymbol.{MadeSymbol}
use Rattle.lava_base.specs.declared.ids.Ref.{Ref}
use Rattle.js_text.specs.Naming.{Naming, naming_of}
use Rattle.js_text.specs.declared.value.Value.{Value}
use Rattle.js_text.specs.declared.value.Value.TheVariants as value
use Rattle.js_machine.specs.js_conversions.Primitives as primitives
use Rattle.js_machine.specs.js_conversions.Primitives.{Conversion, ReadsNumbers, to_number}
use Rattle.js_machine.specs.js_run.Acts.{Act}
use Rattle.js_machine.specs.js_run.Asking.{waits_for}
use Rattle.js_machine.specs.js_run.Conversions as conversions
use Rattle.js_machine.specs.js_run.Natives.{from_units, gives_units, unit_of_number, units_of}
use Rattle.js_machine.specs.js_run.Parties.{Party, Shared}
use Rattle.js_machine.specs.js_run.Runs.{answered}
use Rattle.js_machine.specs.Decisions.{object_of_value}
use Rattle.js_machine.specs.Steps.{LeadsTo, settles}
use Rattle.js_machine.specs.Views.{View, args_on, fitting, next_of_wait, party_of}
use Rattle.js_machine.specs.declared.frame.Mode.{Mode}
use Rattle.js_machine_natives.specs.Units.{goes_after, item_of_conversion, item_read, read_on, units_read}
use Rattle.js_machine_natives.specs.declared.units.ItemRead.{ItemRead}
use Rattle.js_machine_natives.specs.declared.units.ItemRead.TheVariants as item
use Rattle.js_machine_natives.specs.declared.units.Reading.{Reading}
use Rattle.js_machine_natives.specs.declared.units.Reading.TheVariants as reading
use Rattle.js_text.specs.declared.value.Key.TheVariants as key
use Rattle.js_desc.specs.declared.ask.Ask.TheVariants as ask
use Rattle.js_desc.specs.declared.fault.FaultText.TheVariants as fault
use Rattle.js_machine.specs.js_conversions.Conversions.{method_name}
use Rattle.js_machine.specs.js_conversions.declared.next.Wanted.TheVariants as wanted
use Rattle.js_machine.specs.js_run.Faults.{faults}
use Rattle.js_machine.specs.js_run.NativeTurns.{given_items}
use Rattle.js_machine.specs.Wanting.{goes_with}
use Rattle.js_machine.specs.declared.asked.NumberFor.TheVariants as number_for
use Rattle.js_machine.specs.declared.asked.Wait.TheVariants as wait
use Rattle.js_machine_natives.proofs.Wanted_numbers.{Begins, begins_object}

abbrev V : Type 0
V = Value Ref MadeSymbol

-- LISTS

behind : (xs : List V) (n : ℕ) (x : V) (rest : List V) → drop n xs ≡ x ∷ rest → drop (suc n) xs ≡ rest
behind [] zero x rest e = cc
behind [] (suc n) x rest e = cc
behind (y ∷ ys) zero x rest e = cc
behind (y ∷ ys) (suc n) x rest e = behind ys n x rest e

first : (i : ℕ) (vs : List V) (d : V) → i < length vs → drop i vs ≡ get_or vs i d ∷ drop (suc i) vs
first i [] d l = absurd (omega (arith, l))
first zero (v ∷ vs) d l = refl
first (suc i) (v ∷ vs) d l = first i vs d (omega (arith, l))

-- WHAT IS GIVEN

module _ (names : Naming Ref MadeSymbol) (s : Shared) (p : Party Ref MadeSymbol) (items : List V) where
  abbrev after : Reading × List ℕ → Act Ref MadeSymbol
  after x = goes_after names s p items x

  -- what is done with the items that are left is what is done after they have been read
  units_so : (vs : List V) (n : ℕ) (us : List ℕ) → drop n items ≡ vs → gives_units names s vs us p ≡ after (units_read s.number_of vs n us)
  units_so [] n us e = refl
  units_so (value.Undefined ∷ vs) n us e = refl
  units_so (value.Null ∷ vs) n us e = units_so vs (suc n) (us ++ unit_of_number (pos 0) ∷ []) (behind items n value.Null vs e)
  units_so (value.Bool true ∷ vs) n us e = units_so vs (suc n) (us ++ unit_of_number (pos 1) ∷ []) (behind items n (value.Bool true) vs e)
  units_so (value.Bool false ∷ vs) n us e = units_so vs (suc n) (us ++ unit_of_number (pos 0) ∷ []) (behind items n (value.Bool false) vs e)
  units_so (value.Int i ∷ vs) n us e = units_so vs (suc n) (us ++ unit_of_number i ∷ []) (behind items n (value.Int i) vs e)
  units_so (value.Text t ∷ vs) n us e = read_so (s.number_of t) (λ i. units_so vs (suc n) (us ++ unit_of_number i ∷ []) (behind items n (value.Text t) vs e))
    where
      read_so : (o : Option ℤ) → ((i : ℤ) → gives_units names s vs (us ++ unit_of_number i ∷ []) p ≡ after (units_read s.number_of vs (suc n) (us ++ unit_of_number i ∷ [])))
          → conversions.number_read names s (waits_for names) o p (λ i q. gives_units names s vs (us ++ unit_of_number i ∷ []) q)
          ≡ after (read_on (item_of_conversion (primitives.number_read o)) us (λ u. units_read s.number_of vs (suc n) (us ++ u ∷ [])))
      read_so None further = refl
      read_so (Some i) further = further i
  units_so (value.Symbol k ∷ vs) n us e = refl
  units_so (value.Ref r ∷ vs) n us e =
      ap (λ ws. conversions.to_number names s (waits_for names) (value.Ref r) p (λ i q. gives_units names s ws (us ++ unit_of_number i ∷ []) q)) (sym (behind items n (value.Ref r) vs e))

pub goes_on : {E : Type 0} (r : Result Mode E) (seen items : List V) (n : ℕ) (us more : List ℕ) (d : Reading) (old new : View) → seen ≡ items
    → ((read : List ℕ → Option ℤ) → ReadsNumbers read → (d, more) ≡ units_read read (drop n seen) n us)
    → IfOk r (LeadsTo (λ a. goes_after (naming_of old.me) a.shared (party_of a old) items (d, more)) old new)
    → IfOk r (LeadsTo (λ a. gives_units (naming_of old.me) a.shared (drop n items) us (party_of a old)) old new)
goes_on (Ok m) seen items n us more d old new s e h =
    record {
      leads = λ a. (
          let b = fitting old a in
          let names = naming_of old.me in
          h.leads a
          ∙ ap (λ act. settles b old old.values (answered names b.env act))
          (ap (λ x. goes_after names b.shared (party_of b old) items x) (e b.shared.number_of b.numbers ∙ ap (λ ys. units_read b.shared.number_of (drop n ys) n us) s) ∙ sym (units_so names b.shared (party_of b old) items (drop n items) n us refl)));
      keeps = h.keeps;
    }
goes_on (Err x) seen items n us more d old new s e h = tt

-- what is done after items have been read, by how far they have been
abbrev After : List V → Reading × List ℕ → View → View → Mode → Type 0
After items x old new m = LeadsTo (λ a. goes_after (naming_of old.me) a.shared (party_of a old) items x) old new m

after_by : {E : Type 0} (r : Result Mode E) (items : List V) (us : List ℕ) (d e : Reading) (old new : View) → d ≡ e → IfOk r (After items (e, us) old new) → IfOk r (After items (d, us) old new)
after_by r items us d e old new f h = subst (λ x. IfOk r (After items (x, us) old new)) (sym f) h

begun : {E : Type 0} (r : Result Mode E) (items : List V) (us : List ℕ) (o : Ref) (n : ℕ) (old new : View) → IfOk r (Begins (number_for.Units us items n) (value.Ref o) old new) → IfOk r (After items (reading.Object o n, us) old new)
unfolding goes_with
begun r items us o n old new h = h

-- an object is to become a number
pub after_object : {E : Type 0} (r : Result Mode E) (items : List V) (us : List ℕ) (d : Reading) (o : Ref) (n : ℕ) (old new : View) → d ≡ reading.Object o n
    → IfOk r (LeadsTo (λ a. waits_for (naming_of old.me) o (ask.Get (key.Text (method_name wanted.Number false)) (value.Ref o)) (party_of a old) (next_of_wait (naming_of old.me) a.shared old.code (wait.MethodGot o false (number_for.Units us items n)))) old new)
    → IfOk r (After items (d, us) old new)
after_object r items us d o n old new e h =
    after_by r items us d (reading.Object o n) old new e (begun r items us o n old new (begins_object r (Some o) (value.Ref o) o (number_for.Units us items n) old new refl refl h))

-- and has become one
pub came : {E : Type 0} {x : ℤ} (r : Result Mode E) (items : List V) (us more : List ℕ) (n : ℕ) (i : ℤ) (u : ℕ) (old new : View) → x ≡ i → u ≡ unit_of_number x → more ≡ us ++ u ∷ []
    → IfOk r (LeadsTo (λ a. gives_units (naming_of old.me) a.shared (drop n items) more (party_of a old)) old new)
    → IfOk r (LeadsTo (λ a. goes_with (naming_of old.me) a.shared (number_for.Units us items n) i (party_of a old)) old new)
unfolding goes_with
came r items us more n i u old new q e s h =
    subst (λ ks. IfOk r (LeadsTo (λ a. gives_units (naming_of old.me) a.shared (drop n items) ks (party_of a old)) old new)) (s ∙ ap (λ k. us ++ k ∷ []) (e ∙ ap unit_of_number q)) h

-- THE OPERANDS

abbrev pub Given : V → View → View → Mode → Type 0
Given v old new m = LeadsTo (λ a. units_of (naming_of old.me) a.shared (given_items (naming_of old.me) a.shared (party_of a old) v) (party_of a old)) old new m

abbrev rest_after : ℕ → View → View
rest_after n w = record w { values = drop n w.values }

abbrev pub Units : ℕ → View → View → Mode → Type 0
Units n old new m = LeadsTo (λ a. from_units (naming_of old.me) a.shared (args_on n old.values) (party_of a old)) (rest_after n old) new m

abbrev From : List V → View → View → Mode → Type 0
From vs old new m = LeadsTo (λ a. from_units (naming_of old.me) a.shared vs (party_of a old)) old new m

operated : {E : Type 0} (r : Result Mode E) (n : ℕ) (args vs : List V) (old mid new : View) → args ≡ args_on n old.values → mid ≡ rest_after n old → args ≡ vs → IfOk r (From vs mid new) → IfOk r (Units n old new)
operated (Ok m) n args vs old mid new s e f h =
    let w = subst (λ (x : View). From vs x new m) e h in
    let u = subst (λ xs. LeadsTo (λ a. from_units (naming_of old.me) a.shared xs (party_of a (rest_after n old))) (rest_after n old) new m) (sym f ∙ s) w in
    record { leads = λ a. u.leads a; keeps = u.keeps }
operated (Err x) n args vs old mid new s e f h = tt

one_item : (vs : List V) (v : V) → length vs ≡ 1 → v ≡ get_or vs 0 v → vs ≡ v ∷ []
one_item [] v l e = absurd (omega (arith, l))
one_item (w ∷ []) v l e = ap (λ x. x ∷ []) (sym e)
one_item (w ∷ x ∷ vs) v l e = absurd (omega (arith, l))

pub on_list : {E : Type 0} (r : Result Mode E) (k n : ℕ) (args : List V) (v : V) (old mid new : View) → args ≡ args_on n old.values → mid ≡ rest_after n old → k ≡ length args → k ≡ 1 → v ≡ get_or args 0 v
    → IfOk r (Given v mid new) → IfOk r (Units n old new)
on_list r k n args v old mid new s e l m f h = operated r n args (v ∷ []) old mid new s e (one_item args v (sym l ∙ m) f) h

others : {E : Type 0} (r : Result Mode E) (vs : List V) (old new : View) → (length vs ≡ 1 → ⊥) → IfOk r (LeadsTo (λ a. faults (naming_of old.me) fault.WrongKind (party_of a old)) old new) → IfOk r (From vs old new)
others r [] old new f h = h
others r (v ∷ []) old new f h = absurd (f refl)
others r (v ∷ w ∷ vs) old new f h = h

pub on_others : {E : Type 0} (r : Result Mode E) (k n : ℕ) (args : List V) (old mid new : View) → args ≡ args_on n old.values → mid ≡ rest_after n old → k ≡ length args → (k ≡ 1 → ⊥)
    → IfOk r (LeadsTo (λ a. faults (naming_of mid.me) fault.WrongKind (party_of a mid)) mid new) → IfOk r (Units n old new)
on_others r k n args old mid new s e l f h = operated r n args args old mid new s e refl (others r args mid new (λ m. f (l ∙ m)) h)

-- READING

-- what is no object is converted
pub item_other : (read : List ℕ → Option ℤ) (n : ℕ) (v : V) (x : ItemRead) (d : Conversion Ref MadeSymbol) (o : Option Ref) → o ≡ object_of_value v → o ≡ None → d ≡ to_number read v → x ≡ item_of_conversion d
    → x ≡ item_read read n v
item_other read n (value.Ref r) x d o e f g h = cc
item_other read n v x d o e f g h = h ∙ ap item_of_conversion g

module _ (read : List ℕ → Option ℤ) (items : List V) where
  -- the items from a place on, where the first of them is known
  here : (at next : ℕ) (v : V) (us : List ℕ) → at < length items → v ≡ get_or items at v → next ≡ suc at
      → units_read read (drop at items) at us ≡ read_on (item_read read next v) us (λ u. units_read read (drop next items) next (us ++ u ∷ []))
  here at next v us l e n =
      ap (λ ys. units_read read ys at us) (first at items v l)
      ∙ ap (λ y. read_on (item_read read (suc at) y) us (λ u. units_read read (drop (suc at) items) (suc at) (us ++ u ∷ []))) (sym e)
      ∙ ap (λ k. read_on (item_read read k v) us (λ u. units_read read (drop k items) k (us ++ u ∷ []))) (sym n)

  pub unit_next : (from at next : ℕ) (v : V) (old us more : List ℕ) (x : ItemRead) (u : ℕ) → next ≡ suc at → at < length items → v ≡ get_or items at v
      → units_read read (drop from items) from old ≡ units_read read (drop at items) at us → x ≡ item_read read next v → x ≡ item.Unit u → more ≡ us ++ u ∷ []
      → units_read read (drop from items) from old ≡ units_read read (drop next items) next more
  unit_next from at next v old us more x u n l e g s t m =
      g ∙ here at next v us l e n
      ∙ ap (λ y. read_on y us (λ k. units_read read (drop next items) next (us ++ k ∷ []))) (sym s ∙ t)
      ∙ ap (λ ks. units_read read (drop next items) next ks) (sym m)

  pub unit_stops : (from at next : ℕ) (v : V) (old us : List ℕ) (x : ItemRead) (d : Reading) → next ≡ suc at → at < length items → v ≡ get_or items at v
      → units_read read (drop from items) from old ≡ units_read read (drop at items) at us → x ≡ item_read read next v → x ≡ item.Stop d
      → (d, us) ≡ units_read read (drop from items) from old
  unit_stops from at next v old us x d n l e g s t =
      sym (g ∙ here at next v us l e n ∙ ap (λ y. read_on y us (λ k. units_read read (drop next items) next (us ++ k ∷ []))) (sym s ∙ t))

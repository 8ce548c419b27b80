-- A term fits where it keeps its own rule and what stands inside it fits.
use Rattle.std.proofs.Common.{◌&&◌, ◌≡◌, ℕ, Bool, true, List, [], ◌∷◌, ◌++◌, map, length, Option, Some, None, refl, ap, sym, ◌∙◌, subst}
use Rattle.std.proofs.lemmas.Bool.{and_from}
use Rattle.js_text.specs.declared.native.Native.{Native}
use Rattle.js_tree.specs.declared.operator.BinaryOperator.{BinaryOperator}
use Rattle.js_tree.specs.declared.operator.LogicalOperator.{LogicalOperator}
use Rattle.js_tree.specs.declared.operator.UnaryOperator.{UnaryOperator}
use Rattle.js_term.specs.Layers.{PartLayer, TermLayer}
use Rattle.js_term.specs.declared.term.Arguments.{Arguments}
use Rattle.js_term.specs.declared.term.Arguments.TheOpen.{Part-F, Term-F}
use Rattle.js_term.specs.declared.term.Arguments.TheVariants as args
use Rattle.js_term.specs.declared.term.Jump.TheVariants as jumps
use Rattle.js_term.specs.declared.term.Literal.{Literal}
use Rattle.js_term.specs.declared.term.Part.{Part, out-Part}
use Rattle.js_term.specs.declared.term.Part.TheVariants as parts
use Rattle.js_term.specs.declared.term.Template.{Template}
use Rattle.js_term.specs.declared.term.Term.{Term, out-Term}
use Rattle.js_term.specs.declared.term.Term.TheVariants as form
use Rattle.js_valid.specs.Inner as inner
use Rattle.js_valid.specs.Inner.{Inner, Item, OneTerm, entered, inside, inside_part, inside_term}
use Rattle.js_valid.specs.Surroundings.{Place, Round, BreakTarget, ContinueTarget, FreshScope, SuperCall, SuperProperty, InHandler, InLabel, InLoop, InScope, first_answer, is_slot}
use Rattle.js_valid.specs.Valid.{Everywhere, has_operands, here, jump_targeted, literal_fits, nowhere, stands, term_fits, term_targeted}

abbrev pub Fit : Place → Term → Type 0
Fit p t = Everywhere stands p (inner.term t ∷ [])

abbrev pub FitAll : Place → List Term → Type 0
FitAll p ts = Everywhere stands p (map inner.term ts)

abbrev pub FitPart : Place → Part → Type 0
FitPart p q = Everywhere stands p (inner.part q ∷ [])

abbrev pub FitParts : Place → List Part → Type 0
FitParts p qs = Everywhere stands p (map inner.part qs)

abbrev pub FitTemplate : Place → Template → Type 0
FitTemplate p t = Everywhere stands p (inner.template t ∷ [])

abbrev pub FitArguments : Place → Arguments → Type 0
FitArguments p a = Everywhere stands p (inner.arguments a)

-- LISTS

pub join : (p : Place) (a b : List Inner) → Everywhere stands p a → Everywhere stands p b → Everywhere stands p (a ++ b)
join p [] b (nowhere _) y = y
join p (i ∷ is) b (here _ _ _ own under rest) y = here p i (is ++ b) own under (join p is b rest y)

pub also : (p : Place) (t : Term) (ts : List Term) → Fit p t → FitAll p ts → FitAll p (t ∷ ts)
also p t ts x y = join p (inner.term t ∷ []) (map inner.term ts) x y

pub two : (p : Place) (a b : Term) → Fit p a → Fit p b → FitAll p (a ∷ b ∷ [])
two p a b x y = also p a (b ∷ []) x y

pub three : (p : Place) (a b c : Term) → Fit p a → Fit p b → Fit p c → FitAll p (a ∷ b ∷ c ∷ [])
three p a b c x y z = also p a (b ∷ c ∷ []) x (two p b c y z)

pub joined : (p : Place) (a b : List Term) → FitAll p a → FitAll p b → FitAll p (a ++ b)
joined p [] b x y = y
joined p (t ∷ ts) b (here _ _ _ own under rest) y = here p (inner.term t) (map inner.term (ts ++ b)) own under (joined p ts b rest y)

pub parts_joined : (p : Place) (a b : List Part) → FitParts p a → FitParts p b → FitParts p (a ++ b)
parts_joined p [] b x y = y
parts_joined p (q ∷ qs) b (here _ _ _ own under rest) y = here p (inner.part q) (map inner.part (qs ++ b)) own under (parts_joined p qs b rest y)

pub also_part : (p : Place) (q : Part) (qs : List Part) → FitPart p q → FitParts p qs → FitParts p (q ∷ qs)
also_part p q qs x y = join p (inner.part q ∷ []) (map inner.part qs) x y

-- what stands in something more
pub entering : (p : Place) (r : Round) (t : Term) → Fit (r ∷ p) t → Everywhere stands p (inner.term_within r t ∷ [])
entering p r t (here _ _ _ own under _) = here p (inner.term_within r t) [] own under (nowhere p)

pub maybe_fit : (p : Place) (o : Option Term) → ((t : Term) → o ≡ Some t → Fit p t) → Everywhere stands p (inner.maybe_term o)
maybe_fit p None f = nowhere p
maybe_fit p (Some t) f = f t refl

pub maybe_entering : (p : Place) (r : Round) (o : Option Term) → ((t : Term) → o ≡ Some t → Fit (r ∷ p) t) → Everywhere stands p (inner.maybe_within r o)
maybe_entering p r None f = nowhere p
maybe_entering p r (Some t) f = entering p r t (f t refl)

-- FORMS

pub of_layer : (p : Place) (t : Term) (l : TermLayer) → out-Term t ≡ l → (term_fits p l && term_targeted p l) ≡ true → Everywhere stands p (inside_term l) → Fit p t
of_layer p t l is own under = here p (inner.term t) [] (ap (λ k. term_fits p k && term_targeted p k) is ∙ own) (subst (λ k. Everywhere stands p (inside_term k)) (sym is) under) (nowhere p)

pub fit_lit : (p : Place) (v : Literal) → literal_fits v ≡ true → Fit p (form.Lit v)
fit_lit p v own = of_layer p (form.Lit v) (Term-F.Lit v) (form.outs-Lit v) (and_from (literal_fits v) true own refl) (nowhere p)

pub fit_outside : (p : Place) → Fit p form.Outside
fit_outside p = of_layer p form.Outside Term-F.Outside form.outs-Outside refl (nowhere p)

pub fit_this : (p : Place) → Fit p form.This
fit_this p = of_layer p form.This Term-F.This form.outs-This refl (nowhere p)

pub fit_new_target : (p : Place) → Fit p form.NewTarget
fit_new_target p = of_layer p form.NewTarget Term-F.NewTarget form.outs-NewTarget refl (nowhere p)

pub fit_local : (p : Place) (h s : ℕ) → is_slot p h s ≡ true → Fit p (form.Local h s)
fit_local p h s own = of_layer p (form.Local h s) (Term-F.Local h s) (form.outs-Local h s) (and_from (is_slot p h s) true own refl) (nowhere p)

pub fit_global : (p : Place) (n : List ℕ) (soft : Bool) → Fit p (form.Global n soft)
fit_global p n soft = of_layer p (form.Global n soft) (Term-F.Global n soft) (form.outs-Global n soft) refl (nowhere p)

pub fit_set_local : (p : Place) (h s : ℕ) (c : Bool) (t : Term) → is_slot p h s ≡ true → Fit p t → Fit p (form.SetLocal h s c t)
fit_set_local p h s c t own x = of_layer p (form.SetLocal h s c t) (Term-F.SetLocal h s c t) (form.outs-SetLocal h s c t) (and_from (is_slot p h s) true own refl) x

pub fit_set_global : (p : Place) (n : List ℕ) (t : Term) → Fit p t → Fit p (form.SetGlobal n t)
fit_set_global p n t x = of_layer p (form.SetGlobal n t) (Term-F.SetGlobal n t) (form.outs-SetGlobal n t) refl x

pub fit_init : (p : Place) (h s : ℕ) (t : Term) → is_slot p h s ≡ true → Fit p t → Fit p (form.Init h s t)
fit_init p h s t own x = of_layer p (form.Init h s t) (Term-F.Init h s t) (form.outs-Init h s t) (and_from (is_slot p h s) true own refl) x

pub fit_get : (p : Place) (o k : Term) → Fit p o → Fit p k → Fit p (form.Get o k)
fit_get p o k x y = of_layer p (form.Get o k) (Term-F.Get o k) (form.outs-Get o k) refl (two p o k x y)

pub fit_put : (p : Place) (o k v : Term) → Fit p o → Fit p k → Fit p v → Fit p (form.Put o k v)
fit_put p o k v x y z = of_layer p (form.Put o k v) (Term-F.Put o k v) (form.outs-Put o k v) refl (three p o k v x y z)

pub fit_delete : (p : Place) (o k : Term) → Fit p o → Fit p k → Fit p (form.Delete o k)
fit_delete p o k x y = of_layer p (form.Delete o k) (Term-F.Delete o k) (form.outs-Delete o k) refl (two p o k x y)

pub fit_super_get : (p : Place) (k : Term) → first_answer SuperProperty p ≡ true → Fit p k → Fit p (form.SuperGet k)
fit_super_get p k own x = of_layer p (form.SuperGet k) (Term-F.SuperGet k) (form.outs-SuperGet k) own x

pub fit_listed : (p : Place) (l : List Term) → FitAll p l → FitArguments p (args.Listed l)
fit_listed p l x = subst (λ k. Everywhere stands p (inner.arguments_at k)) (sym (args.outs-Listed l)) x

pub fit_of : (p : Place) (t : Term) → Fit p t → FitArguments p (args.Of t)
fit_of p t x = subst (λ k. Everywhere stands p (inner.arguments_at k)) (sym (args.outs-Of t)) x

pub fit_call : (p : Place) (f : Term) (a : Arguments) → Fit p f → FitArguments p a → Fit p (form.Call f a)
fit_call p f a x y = of_layer p (form.Call f a) (Term-F.Call f a) (form.outs-Call f a) refl (join p (inner.term f ∷ []) (inner.arguments a) x y)

pub fit_call_on : (p : Place) (o k : Term) (a : Arguments) → Fit p o → Fit p k → FitArguments p a → Fit p (form.CallOn o k a)
fit_call_on p o k a x y z =
    of_layer p (form.CallOn o k a) (Term-F.CallOn o k a) (form.outs-CallOn o k a) refl (join p (inner.term o ∷ inner.term k ∷ []) (inner.arguments a) (two p o k x y) z)

pub fit_call_super : (p : Place) (k : Term) (a : Arguments) → first_answer SuperProperty p ≡ true → Fit p k → FitArguments p a → Fit p (form.CallSuper k a)
fit_call_super p k a own x y = of_layer p (form.CallSuper k a) (Term-F.CallSuper k a) (form.outs-CallSuper k a) own (join p (inner.term k ∷ []) (inner.arguments a) x y)

pub fit_new : (p : Place) (f : Term) (a : Arguments) → Fit p f → FitArguments p a → Fit p (form.New f a)
fit_new p f a x y = of_layer p (form.New f a) (Term-F.New f a) (form.outs-New f a) refl (join p (inner.term f ∷ []) (inner.arguments a) x y)

pub fit_super_new : (p : Place) (a : Arguments) → first_answer SuperCall p ≡ true → FitArguments p a → Fit p (form.SuperNew a)
fit_super_new p a own x = of_layer p (form.SuperNew a) (Term-F.SuperNew a) (form.outs-SuperNew a) own x

pub fit_unary : (p : Place) (o : UnaryOperator) (t : Term) → Fit p t → Fit p (form.Unary o t)
fit_unary p o t x = of_layer p (form.Unary o t) (Term-F.Unary o t) (form.outs-Unary o t) refl x

pub fit_binary : (p : Place) (o : BinaryOperator) (a b : Term) → Fit p a → Fit p b → Fit p (form.Binary o a b)
fit_binary p o a b x y = of_layer p (form.Binary o a b) (Term-F.Binary o a b) (form.outs-Binary o a b) refl (two p a b x y)

pub fit_short : (p : Place) (o : LogicalOperator) (a b : Term) → Fit p a → Fit p b → Fit p (form.Short o a b)
fit_short p o a b x y = of_layer p (form.Short o a b) (Term-F.Short o a b) (form.outs-Short o a b) refl (two p a b x y)

pub fit_if : (p : Place) (t a : Term) (b : Option Term) → Fit p t → Fit p a → Everywhere stands p (inner.maybe_term b) → Fit p (form.If t a b)
fit_if p t a b x y z = of_layer p (form.If t a b) (Term-F.If t a b) (form.outs-If t a b) refl (join p (inner.term t ∷ inner.term a ∷ []) (inner.maybe_term b) (two p t a x y) z)

pub fit_func : (p : Place) (t : Template) → FitTemplate p t → Fit p (form.Func t)
fit_func p t x = of_layer p (form.Func t) (Term-F.Func t) (form.outs-Func t) refl x

pub fit_define : (p : Place) (o : Term) (l : List Part) → Fit p o → FitParts p l → Fit p (form.Define o l)
fit_define p o l x y = of_layer p (form.Define o l) (Term-F.Define o l) (form.outs-Define o l) refl (join p (inner.term o ∷ []) (map inner.part l) x y)

pub fit_class : (p : Place) (n : List ℕ) (h : Option Term) (c : Option Template) (l : List Part) → Everywhere stands p (inner.maybe_term h)
    → Everywhere stands p (inner.maybe_template c) → FitParts p l → Fit p (form.Class n h c l)
fit_class p n h c l x y z =
    of_layer p (form.Class n h c l) (Term-F.Class n h c l) (form.outs-Class n h c l) refl
    (join p (inner.maybe_term h) (inner.maybe_template c ++ map inner.part l) x (join p (inner.maybe_template c) (map inner.part l) y z))

pub fit_native : (p : Place) (n : Native) (l : List Term) → has_operands n (length l) ≡ true → FitAll p l → Fit p (form.Native n l)
fit_native p n l own x = of_layer p (form.Native n l) (Term-F.Native n l) (form.outs-Native n l) (and_from (has_operands n (length l)) true own refl) x

pub fit_seq : (p : Place) (l : List Term) → FitAll p l → Fit p (form.Seq l)
fit_seq p l x = of_layer p (form.Seq l) (Term-F.Seq l) (form.outs-Seq l) refl x

pub fit_scope : (p : Place) (n : ℕ) (t : Term) → Fit (InScope n ∷ p) t → Fit p (form.Scope n t)
fit_scope p n t x = of_layer p (form.Scope n t) (Term-F.Scope n t) (form.outs-Scope n t) refl (entering p (InScope n) t x)

pub fit_fresh : (p : Place) → first_answer FreshScope p ≡ true → Fit p form.Fresh
fit_fresh p own = of_layer p form.Fresh Term-F.Fresh form.outs-Fresh (and_from (first_answer FreshScope p) true own refl) (nowhere p)

pub fit_loop : (p : Place) (ls : List (List ℕ)) (first : Bool) (t : Term) (u : Option Term) (b : Term) → Fit (InLoop ls ∷ p) t
    → Everywhere stands p (inner.maybe_within (InLoop ls) u) → Fit (InLoop ls ∷ p) b → Fit p (form.Loop ls first t u b)
fit_loop p ls first t u b x y z =
    of_layer p (form.Loop ls first t u b) (Term-F.Loop ls first t u b) (form.outs-Loop ls first t u b) refl
    (join p (inner.term_within (InLoop ls) t ∷ []) (inner.maybe_within (InLoop ls) u ++ inner.term_within (InLoop ls) b ∷ []) (entering p (InLoop ls) t x)
    (join p (inner.maybe_within (InLoop ls) u) (inner.term_within (InLoop ls) b ∷ []) y (entering p (InLoop ls) b z)))

pub fit_label : (p : Place) (l : List ℕ) (t : Term) → Fit (InLabel l ∷ p) t → Fit p (form.Label l t)
fit_label p l t x = of_layer p (form.Label l t) (Term-F.Label l t) (form.outs-Label l t) refl (entering p (InLabel l) t x)

pub fit_break : (p : Place) (l : List ℕ) → first_answer (BreakTarget l) p ≡ true → Fit p (form.Jump (jumps.Break l))
fit_break p l own =
    of_layer p (form.Jump (jumps.Break l)) (Term-F.Jump (jumps.Break l)) (form.outs-Jump (jumps.Break l)) (ap (λ j. jump_targeted p j) (jumps.outs-Break l) ∙ own)
    (subst (λ j. Everywhere stands p (inner.jump_at j)) (sym (jumps.outs-Break l)) (nowhere p))

pub fit_continue : (p : Place) (l : List ℕ) → first_answer (ContinueTarget l) p ≡ true → Fit p (form.Jump (jumps.Continue l))
fit_continue p l own =
    of_layer p (form.Jump (jumps.Continue l)) (Term-F.Jump (jumps.Continue l)) (form.outs-Jump (jumps.Continue l)) (ap (λ j. jump_targeted p j) (jumps.outs-Continue l) ∙ own)
    (subst (λ j. Everywhere stands p (inner.jump_at j)) (sym (jumps.outs-Continue l)) (nowhere p))

pub fit_return : (p : Place) (v : Option Term) → Everywhere stands p (inner.maybe_term v) → Fit p (form.Jump (jumps.Return v))
fit_return p v x =
    of_layer p (form.Jump (jumps.Return v)) (Term-F.Jump (jumps.Return v)) (form.outs-Jump (jumps.Return v)) (ap (λ j. jump_targeted p j) (jumps.outs-Return v))
    (subst (λ j. Everywhere stands p (inner.jump_at j)) (sym (jumps.outs-Return v)) x)

pub fit_throw : (p : Place) (t : Term) → Fit p t → Fit p (form.Throw t)
fit_throw p t x = of_layer p (form.Throw t) (Term-F.Throw t) (form.outs-Throw t) refl x

pub fit_try : (p : Place) (b : Term) (h f : Option Term) → Fit p b → Everywhere stands p (inner.maybe_within InHandler h) → Everywhere stands p (inner.maybe_term f)
    → Fit p (form.Try b h f)
fit_try p b h f x y z =
    of_layer p (form.Try b h f) (Term-F.Try b h f) (form.outs-Try b h f) refl
    (join p (inner.term b ∷ []) (inner.maybe_within InHandler h ++ inner.maybe_term f) x (join p (inner.maybe_within InHandler h) (inner.maybe_term f) y z))

-- PARTS AND TEMPLATES

pub of_part : (p : Place) (q : Part) (l : PartLayer) → out-Part q ≡ l → Everywhere stands p (inside_part l) → FitPart p q
of_part p q l is under = here p (inner.part q) [] refl (subst (λ k. Everywhere stands p (inside_part k)) (sym is) under) (nowhere p)

pub fit_data : (p : Place) (k v : Term) → Fit p k → Fit p v → FitPart p (parts.Data k v)
fit_data p k v x y = of_part p (parts.Data k v) (Part-F.Data k v) (parts.outs-Data k v) (two p k v x y)

pub fit_method : (p : Place) (s : Bool) (k : Term) (t : Template) → Fit p k → FitTemplate p t → FitPart p (parts.Method s k t)
fit_method p s k t x y = of_part p (parts.Method s k t) (Part-F.Method s k t) (parts.outs-Method s k t) (join p (inner.term k ∷ []) (inner.template t ∷ []) x y)

pub fit_getter : (p : Place) (s : Bool) (k : Term) (t : Template) → Fit p k → FitTemplate p t → FitPart p (parts.Getter s k t)
fit_getter p s k t x y = of_part p (parts.Getter s k t) (Part-F.Getter s k t) (parts.outs-Getter s k t) (join p (inner.term k ∷ []) (inner.template t ∷ []) x y)

pub fit_setter : (p : Place) (s : Bool) (k : Term) (t : Template) → Fit p k → FitTemplate p t → FitPart p (parts.Setter s k t)
fit_setter p s k t x y = of_part p (parts.Setter s k t) (Part-F.Setter s k t) (parts.outs-Setter s k t) (join p (inner.term k ∷ []) (inner.template t ∷ []) x y)

pub fit_spread : (p : Place) (t : Term) → Fit p t → FitPart p (parts.Spread t)
fit_spread p t x = of_part p (parts.Spread t) (Part-F.Spread t) (parts.outs-Spread t) x

pub fit_item : (p : Place) (t : Term) → Fit p t → FitPart p (parts.Item t)
fit_item p t x = of_part p (parts.Item t) (Part-F.Item t) (parts.outs-Item t) x

pub fit_hole : (p : Place) → FitPart p parts.Hole
fit_hole p = of_part p parts.Hole Part-F.Hole parts.outs-Hole (nowhere p)

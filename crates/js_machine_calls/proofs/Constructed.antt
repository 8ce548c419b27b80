-- Objects that are constructed.
use Rattle.std.proofs.Common.{◌≡◌, ℕ, [], ◌++◌, length, drop, reverse, Some, refl, sym, ap, ◌∙◌, subst, Result, Ok, Err, IfOk}
use Rattle.std.proofs.lemmas.List.{length-reverse, reverse-reverse}
use Rattle.lava_base.specs.declared.ids.MadeSymbol.{MadeSymbol}
use Rattle.lava_base.specs.declared.ids.Ref.{Ref}
use Rattle.js_text.specs.Naming.{naming_of}
use Rattle.js_text.specs.declared.value.Key.{Key}
use Rattle.js_text.specs.declared.value.Value.{Value}
use Rattle.js_text.specs.declared.value.Value.TheVariants as value
use Rattle.js_desc.specs.declared.ask.Ask.TheVariants as ask
use Rattle.js_desc.specs.declared.reply.Reply.{Reply}
use Rattle.js_term.specs.declared.term.Template.{out-Template}
use Rattle.js_machine.specs.js_run.Asking.{waits_for}
use Rattle.js_machine.specs.js_run.Bodies.{base_constructs, body_of, constructed, prepared, prototype_or, returned, runs_body}
use Rattle.js_machine.specs.js_run.Functions.{ordinary, prototype_key}
use Rattle.js_machine.specs.js_run.Parties as parties
use Rattle.js_machine.specs.js_run.Parties.{Shared, made}
use Rattle.js_machine.specs.Bodies.{running_of}
use Rattle.js_machine.specs.Constructions.{constructing_body, constructs_made, prototype_given}
use Rattle.js_machine.specs.Made.{row_of, with_object}
use Rattle.js_machine.specs.Opened.{runs, template_of}
use Rattle.js_machine.specs.Steps.{Deed, LeadsTo, Wakes, over, under}
use Rattle.js_machine.specs.Views.{Values, View, args_on, fitting, next_of_wait, party_of}
use Rattle.js_machine.specs.declared.asked.Construction.{Construction}
use Rattle.js_machine.specs.declared.asked.Wait.{Wait}
use Rattle.js_machine.specs.declared.asked.Wait.TheVariants as wait
use Rattle.js_machine.specs.declared.body.Body.{Body}
use Rattle.js_machine.specs.declared.frame.Frame.TheVariants as frame
use Rattle.js_machine.specs.declared.frame.Mode.{Mode}
use Rattle.js_machine.proofs.Closed.{drop_front, take_front}
use Rattle.js_machine.proofs.Referenced.{same_deed}

-- THE PROTOTYPE IS ASKED FOR

pub base_waits : {E : Type 0} (r : Result Mode E) (k : Construction) (n : ℕ) (args : Values) (name : Key MadeSymbol) (old mid new : View) → args ≡ args_on n old.values → mid ≡ record old { values = drop n old.values } → name ≡ prototype_key
    → IfOk r (LeadsTo (λ a. waits_for (naming_of mid.me) k.target (ask.Get name (value.Ref k.target)) (party_of a mid) (next_of_wait (naming_of mid.me) a.shared mid.code (wait.Construct k args))) mid new)
    → IfOk r (LeadsTo (λ a. base_constructs (naming_of old.me) a.shared k.function (template_of old k.at) k.outer k.home k.target (args_on n old.values) (party_of a old)) (record old { values = drop n old.values }) new)
base_waits (Ok m) k n args name old mid new s e d h =
    let rest = record old { values = drop n old.values } in
    let w = subst (λ (x : View). LeadsTo (λ a. waits_for (naming_of x.me) k.target (ask.Get name (value.Ref k.target)) (party_of a x) (next_of_wait (naming_of x.me) a.shared x.code (wait.Construct k args))) x new m) e h in
    let u = subst (λ xs. LeadsTo (λ a. waits_for (naming_of old.me) k.target (ask.Get name (value.Ref k.target)) (party_of a rest) (next_of_wait (naming_of old.me) a.shared old.code (wait.Construct k xs))) rest new m) s w in
    let v = subst (λ y. LeadsTo (λ a. waits_for (naming_of old.me) k.target (ask.Get y (value.Ref k.target)) (party_of a rest) (next_of_wait (naming_of old.me) a.shared old.code (wait.Construct k (args_on n old.values)))) rest new m) d u in
    record { leads = λ a. v.leads a; keeps = v.keeps }
base_waits (Err x) k n args name old mid new s e d h = tt

-- THE BODY RUNS

same_prototype : (me : ℕ) (shared : Shared) (v : Value Ref MadeSymbol) → prototype_or (naming_of me) shared v ≡ prototype_given v
same_prototype me shared (value.Ref r) = refl
same_prototype me shared v = refl

module _ (k : Construction) (args : Values) (old : View) where
  -- the object that is made
  abbrev this : Ref
  this = (naming_of old.me).own (length old.objects)

  -- the body runs with an object of this prototype
  abbrev Does : Ref → Deed
  Does p a =
      let names = naming_of old.me in
      let t = template_of old k.at in
      let q = made (party_of a old) (ordinary (Some p) []) in
      runs_body names a.shared t (body_of names a.shared t q (Some (value.Ref this)) (Some k.target) (Some k.function) k.home) (prepared names a.shared t k.outer args q) (λ c after m. returned c m (constructed names a.shared (value.Ref this)))

  -- the machine with the object and the arguments
  abbrev Ready : Ref → View
  Ready p = record (with_object (ordinary (Some p) []) old) { values = reverse args ++ old.values }

  -- what `run_body` leads to
  abbrev Runs : (body : parties.Body Ref MadeSymbol) (id n : ℕ) (w new : View) → Mode → Type 0
  Runs body id n w new m =
      LeadsTo (λ a. runs (out-Template (template_of w k.at)).body body (prepared (naming_of w.me) a.shared (template_of w k.at) k.outer (args_on n w.values) (party_of a w)) (over (frame.Constructed id) (record w { values = drop n w.values }) a)) (under (frame.Constructed id) (record w { values = drop n w.values })) new m

  runs_so : (p : Ref) (n : ℕ) (new : View) (m : Mode) → n ≡ length args → Runs (constructing_body (length old.scopes) (row_of old k.at).kind k this) (length old.objects) n (Ready p) new m → LeadsTo (Does p) old new m
  runs_so p n new m e h =
      let count = e ∙ sym (length-reverse args) in
      let there : args_on n (Ready p).values ≡ args = ap (λ xs. reverse xs) (take_front n (reverse args) old.values count) ∙ reverse-reverse args in
      let body = constructing_body (length old.scopes) (row_of old k.at).kind k this in
      let w = Ready p in
      let g = subst (λ xs. LeadsTo (λ a. runs (out-Template (template_of old k.at)).body body (prepared (naming_of old.me) a.shared (template_of old k.at) k.outer xs (party_of a w)) (over (frame.Constructed (length old.objects)) (record w { values = drop n w.values }) a)) (record w { values = drop n w.values }) new m) there h in
      let g = subst (λ vs. LeadsTo (λ a. runs (out-Template (template_of old k.at)).body body (prepared (naming_of old.me) a.shared (template_of old k.at) k.outer args (party_of a w)) (over (frame.Constructed (length old.objects)) (record w { values = vs }) a)) (record w { values = vs }) new m) (drop_front n (reverse args) old.values count) g in
      record { leads = λ a. g.leads a; keeps = g.keeps }

  pub construct_runs : {E : Type 0} (r : Result Mode E) (v : Value Ref MadeSymbol) (p o : Ref) (id n : ℕ) (body : Body) (first mid new : View) → p ≡ prototype_given v → id ≡ length old.objects → first ≡ with_object (ordinary (Some p) []) old → n ≡ length args
      → mid ≡ record first { values = reverse args ++ first.values } → o ≡ (naming_of mid.me).own id → running_of 0 (Some body) ≡ constructing_body 0 (row_of mid k.at).kind k o
      → IfOk r (Runs (running_of (length mid.scopes) (Some body)) id n mid new)
      → IfOk r (LeadsTo (λ a. constructs_made (naming_of old.me) a.shared (template_of old k.at) k args v (party_of a old)) old new)
  construct_runs (Ok m) v p o id n body first mid new q i f c e t b h =
      let ready : mid ≡ Ready (prototype_given v) = e ∙ (λ j. record (f j) { values = reverse args ++ (f j).values }) ∙ ap Ready q in
      let object : o ≡ this = t ∙ (λ j. (naming_of (ready j).me).own (i j)) in
      let same = b ∙ (λ j. constructing_body 0 (row_of (ready j) k.at).kind k (object j)) in
      let opened = ap (λ (x : parties.Body Ref MadeSymbol). record x { scope = length old.scopes }) same in
      let g = subst (λ w. Runs (running_of (length w.scopes) (Some body)) id n w new m) ready h in
      let g = subst (λ x. Runs (running_of (length old.scopes) (Some body)) x n (Ready (prototype_given v)) new m) i g in
      let g = subst (λ x. Runs x (length old.objects) n (Ready (prototype_given v)) new m) opened g in
      let d = runs_so (prototype_given v) n new m c g in
      same_deed {E = ℕ} (Ok m) (Does (prototype_given v)) (λ a. constructs_made (naming_of old.me) a.shared (template_of old k.at) k args v (party_of a old)) old new (λ a. ap (λ x. Does x (fitting old a)) (same_prototype old.me (fitting old a).shared v)) d
  construct_runs (Err x) v p o id n body first mid new q i f c e t b h = tt

-- WHAT WAITS

pub woken_as : {E : Type 0} (r : Result Mode E) (w k : Wait) (y : Reply Ref MadeSymbol) (old new : View) → w ≡ k → IfOk r (Wakes k y old new) → IfOk r (Wakes w y old new)
woken_as r w k y old new e h = subst (λ x. IfOk r (Wakes x y old new)) (sym e) h

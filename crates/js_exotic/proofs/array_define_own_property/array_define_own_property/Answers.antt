use Rattle.std.proofs.Common.{◌≡◌, ◌⊎◌, inl, inr, refl, sym, subst}
use Rattle.std.specs.Result.{IfOk}
use Rattle.js_text.specs.Length.{is_length}
use Rattle.js_text.specs.Naming.{Naming, naming_of}
use Rattle.js_text.specs.declared.text.Text.{Text}
use Rattle.js_text.specs.declared.value.Key.{Key}
use Rattle.js_text.specs.declared.value.Key.TheVariants as key
use Rattle.js_text.specs.declared.value.Symbol.{Symbol}
use Rattle.js_desc.specs.declared.descriptor.PartialDescriptor.{PartialDescriptor}
use Rattle.js_store.specs.Objects.{Object}
use Rattle.js_ordinary.specs.Targets.{object_seen}
use Rattle.js_exotic.specs.ArrayDefineOwnProperty.{array_define_own_property, define_named}
use Rattle.js_exotic.specs.Targets.{verdict_at}
use Rattle.js_exotic.proofs.array_define_own_property.array_define_own_property.Goals as goal

-- a key that is no index names the length or another property
named : {R S : Type 0} (names : Naming R S) (me : R) (o : Object R S) (k : Key S) (d : PartialDescriptor R S) → ((t : Text) × k ≡ key.Text t) ⊎ ((s : Symbol S) × k ≡ key.Symbol s) → define_named names me o k d (is_length k) ≡ array_define_own_property names me o k d
named names me o k d (inl e) = subst (λ k. define_named names me o k d (is_length k) ≡ array_define_own_property names me o k d) (sym e.1) refl
named names me o k d (inr e) = subst (λ k. define_named names me o k d (is_length k) ≡ array_define_own_property names me o k d) (sym e.1) refl

pub returns-in-Text-clause-ok : goal.returns-in-Text-clause-ok
returns-in-Text-clause-ok g c =
    let names = naming_of (g.S.Store.owner c.args.store.now).0 in
    let o = object_seen (g.S.Store.objects c.args.store.now) c.args.common.now c.args.target in
    subst (λ v. IfOk c.define_named.result (λ d. (d, g.S.Store.objects c.define_named.new.store) ≡ verdict_at (g.S.Store.objects c.args.store.now) c.args.target v))
    (named names c.args.me o c.args.key.now c.args.descriptor.now c.in-Text.is) c.define_named.ensures.ok

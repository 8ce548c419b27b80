use Rattle.std.proofs.Common.{◌≡◌, ◌++◌, ◌∷◌, length, ◌∙◌}
use Rattle.lava_start.specs.Grants.{builtin_objects, builtin_value, granted_global, global_supply, supplied_objects}
use Rattle.lava_start.proofs.Supply_laws.{builtin_given, builtin_made}
use Rattle.lava_start.proofs.grants.package_store.Goals as goal

pub returns-clause-objects : goal.returns-clause-objects
returns-clause-objects c =
    let p = c.args.party.0 in
    let gs = c.args.globals.now in
    let bs = c.args.builtins.now in
    let a = c.in_ok-objects.objects.objects in
    let b = c.put_builtin.new.objects.objects in
    let first : a ≡ granted_global p gs ∷ supplied_objects (global_supply p) 1 gs = c.in_ok-objects.ensures.objects ∙ (λ j. granted_global p (c.as_slice.ensures j) ∷ supplied_objects (global_supply p) 1 (c.as_slice.ensures j)) in
    let next : b ≡ a ++ builtin_objects bs = c.in_ok-builtin.ensures.objects ∙ (λ j. a ++ builtin_objects (c.as_slice-2.ensures j)) in
    builtin_made p gs bs a b first next

pub returns-clause-builtin : goal.returns-clause-builtin
returns-clause-builtin c =
    let p = c.args.party.0 in
    let gs = c.args.globals.now in
    let bs = c.args.builtins.now in
    let a = c.in_ok-objects.objects.objects in
    let first : a ≡ granted_global p gs ∷ supplied_objects (global_supply p) 1 gs = c.in_ok-objects.ensures.objects ∙ (λ j. granted_global p (c.as_slice.ensures j) ∷ supplied_objects (global_supply p) 1 (c.as_slice.ensures j)) in
    c.in_ok-builtin.ensures.value ∙ (λ j. builtin_value (c.in_ok-objects.ensures.party j).0 (length a) (c.as_slice-2.ensures j)) ∙ builtin_given p gs bs a first

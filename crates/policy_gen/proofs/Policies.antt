-- Generated rows are a policy.
use Rattle.std.proofs.Common.{◌≡◌, ℕ, List, [], ◌∷◌, Bool, true, false, not, cond, Option, Some, None, Result, Ok, Err, fold, refl, sym, ap, ◌∙◌}
use Rattle.std.specs.List.{list_all}
use Rattle.pkg_graph.specs.declared.graph.Package.{Package}
use Rattle.pkg_load.specs.Applications.{Application as App}
use Rattle.pkg_load.specs.Requirements.{package_at}
use Rattle.pkg_source.specs.declared.code.ModuleCode.{ModuleCode}
use Rattle.policy_row.specs.Reading.{policy_of}
use Rattle.policy_row.specs.Rows.{Entries, Rows, at_name, is_write, raised_grade, is_in_order, are_kept, is_kept}
use Rattle.policy_row.specs.declared.fault.PolicyFault.{PolicyFault}
use Rattle.policy_row.specs.declared.grade.Grade.{Grade}
use Rattle.policy_row.specs.declared.grade.Grade.TheVariants.{No, Yes, Write}
use Rattle.policy_row.specs.declared.grade.Kind.TheVariants.{Builtin as BuiltinKind, Globals, Packages}
use Rattle.policy_gen.specs.Generated.{whole_builtin, builtin_entries, with_package, package_entries, generated, generated_row, with_row, other_places}
use Rattle.policy_gen.specs.Imports.{Imports, imports_of}
use Rattle.policy_gen.specs.Kept.{kept_key, with_kept, kept_keys}
use Rattle.policy_gen.specs.Laws.{owner_name, It_is_a_policy, Its_text_is_read_as_it}
use Rattle.policy_gen.specs.Uses.{used_keys}
use Rattle.policy_gen.specs.declared.imports.Import.{Import}
use Rattle.policy_gen.specs.declared.imports.Import.TheVariants.{Builtin, Linked}
use Rattle.policy_gen.proofs.Anys.{and_both, all_always, all_at, clash, unwrapped}
use Rattle.policy_gen.proofs.Puts.{found_among, order_put, values_put}

-- GLOBALS

kept_order : (keys es done : Entries) → is_in_order done ≡ true → is_in_order (fold (with_kept keys) done es) ≡ true
kept_order keys [] done h = h
kept_order keys (e ∷ es) done h = kept_order keys es (with_kept keys done e) (order_put (kept_key keys e.0) (raised_grade (at_name (kept_key keys e.0) done) e.1) done h)

pub globals_kept : (es : Entries) → is_in_order es ≡ true → are_kept Globals es ≡ true
globals_kept es order = and_both (is_in_order es) _ order (all_always es)

-- BUILTIN

pub builtin_kept : (b : Bool) → are_kept BuiltinKind (cond b whole_builtin []) ≡ true
builtin_kept true = refl
builtin_kept false = refl

-- PACKAGES

package_order : (packages : List Package) (es : Entries) (import : Import) → is_in_order es ≡ true → is_in_order (with_package packages es import) ≡ true
package_order packages es Builtin h = h
package_order packages es (Linked to) h = order_put (package_at packages to).name (raised_grade (at_name (package_at packages to).name es) Yes) es h

packages_order : (packages : List Package) (imports : Imports) (es : Entries) → is_in_order es ≡ true → is_in_order (fold (λ es (e : List ℕ × Import). with_package packages es e.1) es imports) ≡ true
packages_order packages [] es h = h
packages_order packages (e ∷ imports) es h = packages_order packages imports (with_package packages es e.1) (package_order packages es e.1 h)

abbrev reads : Grade → Bool
reads grade = not (is_write grade)

raised_reads : (o : Option Grade) → ((g : Grade) → o ≡ Some g → reads g ≡ true) → reads (raised_grade o Yes) ≡ true
raised_reads None h = refl
raised_reads (Some No) h = refl
raised_reads (Some Yes) h = refl
raised_reads (Some Write) h = clash (sym (h Write refl))

package_reads : (packages : List Package) (es : Entries) (import : Import) → list_all (λ e. reads e.1) es ≡ true → list_all (λ e. reads e.1) (with_package packages es import) ≡ true
package_reads packages es Builtin all = all
package_reads packages es (Linked to) all =
    let n = (package_at packages to).name in
    values_put reads n (raised_grade (at_name n es) Yes) es
    (raised_reads (at_name n es) (λ g is. all_at (λ (e : List ℕ × Grade). reads e.1) es (n, g) all (λ q here. found_among n g q es is here))) all

packages_read : (packages : List Package) (imports : Imports) (es : Entries) → list_all (λ e. reads e.1) es ≡ true → list_all (λ e. reads e.1) (fold (λ es (e : List ℕ × Import). with_package packages es e.1) es imports) ≡ true
packages_read packages [] es all = all
packages_read packages (e ∷ imports) es all = packages_read packages imports (with_package packages es e.1) (package_reads packages es e.1 all)

pub packages_kept : (packages : List Package) (imports : Imports) → are_kept Packages (package_entries packages imports) ≡ true
packages_kept packages imports =
    and_both (is_in_order (package_entries packages imports)) _ (packages_order packages imports [] refl) (packages_read packages imports [] refl)

-- ROWS

module _ (app : App ModuleCode) where
  row_kept : (owner : ℕ) → is_kept (generated_row app owner) ≡ true
  row_kept owner =
      and_both (are_kept BuiltinKind (builtin_entries (imports_of app owner))) _ (builtin_kept _)
      (and_both (are_kept Globals (kept_keys (used_keys app owner))) _ (globals_kept (kept_keys (used_keys app owner)) (kept_order (used_keys app owner) (used_keys app owner) [] refl))
      (packages_kept app.packages (imports_of app owner)))

  rows_order : (os : List ℕ) (rows : Rows) → is_in_order rows ≡ true → is_in_order (fold (with_row app) rows os) ≡ true
  rows_order [] rows h = h
  rows_order (o ∷ os) rows h = rows_order os (with_row app rows o) (order_put (owner_name app o) (generated_row app o) rows h)

  rows_kept : (os : List ℕ) (rows : Rows) → list_all (λ r. is_kept r.1) rows ≡ true → list_all (λ r. is_kept r.1) (fold (with_row app) rows os) ≡ true
  rows_kept [] rows all = all
  rows_kept (o ∷ os) rows all = rows_kept os (with_row app rows o) (values_put is_kept (owner_name app o) (generated_row app o) rows (row_kept o) all)

pub it_is_a_policy : It_is_a_policy
it_is_a_policy app = and_both (is_in_order (generated app)) _ (rows_order app (other_places app.packages) [] refl) (rows_kept app (other_places app.packages) [] refl)

-- TEXTS

abbrev Answer : Type 0
Answer = Result Rows PolicyFault

abbrev ok_or : Rows → Answer → Rows
ok_or other (Ok rows) = rows
ok_or other (Err fault) = other

pub its_text_is_read_as_it : Its_text_is_read_as_it
its_text_is_read_as_it app file bytes rows is other =
    let same : is.0 ≡ other.0 = unwrapped is.0 other.0 (sym (is.1.1) ∙ other.1.1) in
    let read : policy_of file other.0 ≡ Ok (generated app) = ap (policy_of file) (sym same) ∙ is.2 in
    ap (ok_or rows) (sym (other.2) ∙ read)

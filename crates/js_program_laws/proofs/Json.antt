-- The template of a module whose source is JSON is a valid one.
use Rattle.std.proofs.Common.{◌≡◌, ◌&&◌, ℕ, true, false, nat_le, List, [], ◌∷◌, codes, refl, sym, subst}
use Rattle.js_text.specs.CommonPaths.{common_paths}
use Rattle.js_term.specs.declared.term.Arguments.{Arguments}
use Rattle.js_term.specs.declared.term.Arguments.TheOpen.{Template-F}
use Rattle.js_term.specs.declared.term.Arguments.TheVariants as args
use Rattle.js_term.specs.declared.term.Jump.{Jump}
use Rattle.js_term.specs.declared.term.Literal.TheVariants as literal
use Rattle.js_term.specs.declared.term.Part.{Part}
use Rattle.js_term.specs.declared.term.Template.{Template, out-Template, out-roll-Template}
use Rattle.js_term.specs.declared.term.TemplateKind.TheVariants as kind
use Rattle.js_term.specs.declared.term.Term.{Term}
use Rattle.js_term.specs.declared.term.Term.TheVariants as term
use Rattle.js_lower_table.specs.Entries.{Below}
use Rattle.js_lower_table.specs.Templates.{json_template}
use Rattle.js_lower_table.specs.Values.{call_common, common_term, text}
use Rattle.js_lower_table.specs.declared.commons.TheConstants.{JSON_PARSE}
use Rattle.js_valid.specs.Inner as inner
use Rattle.js_valid.specs.Surroundings.{Place, InTemplate}
use Rattle.js_valid.specs.Valid.{Everywhere, IsValid, all_below, here, least_slots, literal_fits, nowhere, rest_parameters, stands}
use Rattle.js_lower_laws.proofs.Forms.{Fit, also, entering, fit_call, fit_listed, fit_lit, fit_local, fit_put}

json_parse_fits : literal_fits (literal.Common (record { 0 = JSON_PARSE })) ≡ true
unfolding common_paths
json_parse_fits = refl

fit_text : (p : Place) (t : List ℕ) → Fit p (text t)
fit_text p t = fit_lit p (literal.Text t) refl

-- what `exports` is set to
fit_parsed : (p : Place) (t : List ℕ) → Fit p (call_common JSON_PARSE (text t ∷ []))
fit_parsed p t =
    fit_call p (common_term JSON_PARSE) (args.Listed (text t ∷ [])) (fit_lit p (literal.Common (record { 0 = JSON_PARSE })) json_parse_fits)
    (fit_listed p (text t ∷ []) (also p (text t) [] (fit_text p t) (nowhere p)))

pub json_valid : (b : Below) (t : List ℕ) → IsValid (json_template b t)
json_valid b t =
    let set : Term = term.Put (term.Local 0 2) (text (codes "exports")) (call_common JSON_PARSE (text t ∷ [])) in
    let r : Template = record { kind = kind.Module; name = []; length = 0; params = 0; rest = false; slots = 3; undefined = []; body = set } in
    let layer : Template-F Arguments Jump Part Term Template = record { kind = kind.Module; name = []; length = 0; params = 0; rest = false; slots = 3; undefined = []; body = set } in
    let is : out-Template r ≡ layer = out-roll-Template layer in
    let q : Place = InTemplate kind.Module 3 ∷ [] in
    here [] (inner.template r) []
    (subst (λ t. ((nat_le t.params t.slots && (nat_le (rest_parameters t.rest) t.params && (nat_le (least_slots t.kind) t.slots && all_below t.slots t.undefined))) && true) ≡ true) (sym is) refl)
    (subst (λ t. Everywhere stands [] (inner.term_within (InTemplate t.kind t.slots) t.body ∷ [])) (sym is)
    (entering [] (InTemplate kind.Module 3) set
    (fit_put q (term.Local 0 2) (text (codes "exports")) (call_common JSON_PARSE (text t ∷ [])) (fit_local q 0 2 refl) (fit_text q (codes "exports")) (fit_parsed q t))))
    (nowhere [])

-- Strings and templates are taken exactly.
use Rattle.std.proofs.Common.{◌≡◌, ◌↔◌, inl, inr, ℕ, Bool, true, false, List, ◌∷◌, Ok, Err, refl, sym, ap, subst, ◌∙◌}
use Rattle.js_lexer.specs.declared.element.Element.{Element}
use Rattle.js_lexer.specs.declared.element.Element.TheVariants as elements
use Rattle.js_lexer.specs.declared.quoted.End.{End}
use Rattle.js_lexer.specs.declared.quoted.End.TheVariants as the_ends
use Rattle.js_lexer.specs.declared.quoted.Quote.{Quote}
use Rattle.js_lexer.specs.declared.quoted.Quote.TheVariants as quotes
use Rattle.js_lexer.specs.declared.token.TemplatePart.{TemplatePart}
use Rattle.js_lexer.specs.declared.token.TemplatePart.TheVariants as templates
use Rattle.js_lexer.specs.Elements.{Stands}
use Rattle.js_lexer.specs.Machines.{Reading, run}
use Rattle.js_lexer.specs.Quoted.{quoted_step, quoted_stop, opened}
use Rattle.js_lexer.specs.Rules.{Leads}
use Rattle.js_lexer.specs.Scanning.{string_taken, template_taken, part_of}
use Rattle.js_lexer.proofs.Beginnings.{strings, template_parts}
use Rattle.js_lexer.proofs.Exactly.{Exactly, Only, in_family, no_form, of_only, none_shows, at_double, at_single, at_accent, at_brace}
use Rattle.js_lexer.proofs.Tests.{differ, same_ok, not_ok}
use Rattle.js_lexer.proofs.Quoted_laws.{body, quoted_exact, same_end}

abbrev pub reading : Quote → List ℕ → Reading End
reading q xs = run quoted_step quoted_stop (opened q) xs

same_one : (o k : End) → same_end o k ≡ true → o ≡ k
same_one the_ends.Closed the_ends.Closed h = refl
same_one the_ends.Closed the_ends.Substitution h = absurd (cc)
same_one the_ends.Substitution the_ends.Closed h = absurd (cc)
same_one the_ends.Substitution the_ends.Substitution h = refl

itself : (k : End) → same_end k k ≡ true
itself the_ends.Closed = refl
itself the_ends.Substitution = refl

-- the machine's reading of a text with this end
pub leads_reading : (q : Quote) (k : End) (xs ys : List ℕ) → Leads (body q k) xs ys → reading q xs ≡ Ok (k, ys)
leads_reading q k xs ys h =
    let r : (o : End) × (reading q xs ≡ Ok (o, ys)) × (same_end o k ≡ true) = (quoted_exact q k xs ys).0 h in
    r.1 ∙ ap (λ z. Ok (z, ys)) (same_one r.0 k r.2)

pub reading_leads : (q : Quote) (k : End) (xs ys : List ℕ) → reading q xs ≡ Ok (k, ys) → Leads (body q k) xs ys
reading_leads q k xs ys e = (quoted_exact q k xs ys).1 (k, e, itself k)

-- strings

abbrev mark_of : Quote → ℕ
mark_of quotes.Double = 34
mark_of quotes.Single = 39
mark_of quotes.Template = 96

abbrev StringsAt : Bool → Quote → List ℕ → Type 0
StringsAt inside q cs = Only inside (mark_of q) cs (in_family strings) no_form

-- the string between these quotes
abbrev IsString : Quote → Type 0
IsString q = (inside : Bool) (cs ys : List ℕ) → Stands inside elements.String (mark_of q ∷ cs) ys ↔ Leads (body q the_ends.Closed) cs ys

string_read : (q : Quote) → IsString q → (inside : Bool) (cs : List ℕ) → StringsAt inside q cs → (e : Element) (ys : List ℕ) → Stands inside e (mark_of q ∷ cs) ys → (e ≡ elements.String) × (reading q cs ≡ Ok (the_ends.Closed, ys))
string_read q is inside cs o e ys h =
    let same : e ≡ elements.String = of_only inside strings (mark_of q) cs no_form o e ys h in
    (same, leads_reading q the_ends.Closed cs ys ((is inside cs ys).0 (subst (λ z. Stands inside z (mark_of q ∷ cs) ys) same h)))

exactly_string : (q : Quote) → IsString q → ((cs ys : List ℕ) → Leads (body q the_ends.Substitution) cs ys → ⊥) → (inside : Bool) (cs : List ℕ) → StringsAt inside q cs →
    (r : Reading End) → reading q cs ≡ r → Exactly inside (mark_of q ∷ cs) (string_taken r)
exactly_string q is never inside cs o (Ok (the_ends.Closed, zs)) e = (
  (is inside cs zs).1 (reading_leads q the_ends.Closed cs zs e),
  λ f ys h.
      let k : (f ≡ elements.String) × (reading q cs ≡ Ok (the_ends.Closed, ys)) = string_read q is inside cs o f ys h in
      (k.0, ap (λ z. z.1) (same_ok (reading q cs) (the_ends.Closed, ys) (the_ends.Closed, zs) k.1 e)),
  none_shows inside (mark_of q) cs (in_family strings) o,
)
exactly_string q is never inside cs o (Ok (the_ends.Substitution, zs)) e = absurd (never cs zs (reading_leads q the_ends.Substitution cs zs e))
exactly_string q is never inside cs o (Err stop) e = (
  λ f ys h. not_ok (reading q cs) (the_ends.Closed, ys) stop e (string_read q is inside cs o f ys h).1,
  none_shows inside (mark_of q) cs (in_family strings) o,
)

double_is : IsString quotes.Double
double_is inside cs ys = (λ h. read h, λ h. inl (cs, (refl, refl), h))
  where
    read : Stands inside elements.String (34 ∷ cs) ys → Leads (body quotes.Double the_ends.Closed) cs ys
    read (inl l) = subst (λ z. Leads (body quotes.Double the_ends.Closed) z ys) (sym l.1.1) l.2
    read (inr l) = absurd (differ false refl l.1.0)

single_is : IsString quotes.Single
single_is inside cs ys = (λ h. read h, λ h. inr (cs, (refl, refl), h))
  where
    read : Stands inside elements.String (39 ∷ cs) ys → Leads (body quotes.Single the_ends.Closed) cs ys
    read (inr l) = subst (λ z. Leads (body quotes.Single the_ends.Closed) z ys) (sym l.1.1) l.2
    read (inl l) = absurd (differ false refl l.1.0)

pub exactly_double : (inside : Bool) (cs : List ℕ) (r : Reading End) → reading quotes.Double cs ≡ r → Exactly inside (34 ∷ cs) (string_taken r)
exactly_double inside cs = exactly_string quotes.Double double_is (λ cs ys h. h.2) inside cs (at_double inside cs)

pub exactly_single : (inside : Bool) (cs : List ℕ) (r : Reading End) → reading quotes.Single cs ≡ r → Exactly inside (39 ∷ cs) (string_taken r)
exactly_single inside cs = exactly_string quotes.Single single_is (λ cs ys h. h.2) inside cs (at_single inside cs)

-- templates: the part that closes one and the part that goes on with a substitution, behind a character

abbrev TemplatesAt : Bool → ℕ → List ℕ → Type 0
TemplatesAt inside c cs = Only inside c cs (in_family template_parts) no_form

-- the parts that begin with the character
abbrev IsPart : Bool → ℕ → TemplatePart → TemplatePart → List ℕ → Type 0
IsPart inside c closed goes_on cs =
    ((part : TemplatePart) (ys : List ℕ) → Stands inside (elements.Template part) (c ∷ cs) ys → (k : End) × (part ≡ part_of closed goes_on k) × Leads (body quotes.Template k) cs ys)
    × ((k : End) (ys : List ℕ) → Leads (body quotes.Template k) cs ys → Stands inside (elements.Template (part_of closed goes_on k)) (c ∷ cs) ys)

part_read : (inside : Bool) (c : ℕ) (closed goes_on : TemplatePart) (cs : List ℕ) → IsPart inside c closed goes_on cs → TemplatesAt inside c cs → (e : Element) (ys : List ℕ) → Stands inside e (c ∷ cs) ys →
    (k : End) × (e ≡ elements.Template (part_of closed goes_on k)) × (reading quotes.Template cs ≡ Ok (k, ys))
part_read inside c closed goes_on cs is o e ys h =
    let same : (part : TemplatePart) × (e ≡ elements.Template part) = of_only inside template_parts c cs no_form o e ys h in
    let r : (k : End) × (same.0 ≡ part_of closed goes_on k) × Leads (body quotes.Template k) cs ys = is.0 same.0 ys (subst (λ z. Stands inside z (c ∷ cs) ys) same.1 h) in
    (r.0, same.1 ∙ ap elements.Template r.1, leads_reading quotes.Template r.0 cs ys r.2)

exactly_part : (inside : Bool) (c : ℕ) (closed goes_on : TemplatePart) (cs : List ℕ) → IsPart inside c closed goes_on cs → TemplatesAt inside c cs →
    (r : Reading End) → reading quotes.Template cs ≡ r → Exactly inside (c ∷ cs) (template_taken closed goes_on r)
exactly_part inside c closed goes_on cs is o (Ok (k, zs)) e = (
  is.1 k zs (reading_leads quotes.Template k cs zs e),
  λ f ys h.
      let r : (j : End) × (f ≡ elements.Template (part_of closed goes_on j)) × (reading quotes.Template cs ≡ Ok (j, ys)) = part_read inside c closed goes_on cs is o f ys h in
      let s : (r.0, ys) ≡ (k, zs) = same_ok (reading quotes.Template cs) (r.0, ys) (k, zs) r.2 e in
      (r.1 ∙ ap (λ z. elements.Template (part_of closed goes_on z.0)) s, ap (λ z. z.1) s),
  none_shows inside c cs (in_family template_parts) o,
)
exactly_part inside c closed goes_on cs is o (Err stop) e = (
  λ f ys h.
      let r : (j : End) × (f ≡ elements.Template (part_of closed goes_on j)) × (reading quotes.Template cs ≡ Ok (j, ys)) = part_read inside c closed goes_on cs is o f ys h in
      not_ok (reading quotes.Template cs) (r.0, ys) stop e r.2,
  none_shows inside c cs (in_family template_parts) o,
)

-- what stands behind the first character
behind : (k : End) (cs ms ys : List ℕ) → cs ≡ ms → Leads (body quotes.Template k) ms ys → Leads (body quotes.Template k) cs ys
behind k cs ms ys e h = subst (λ z. Leads (body quotes.Template k) z ys) (sym e) h

pub exactly_accent : (inside : Bool) (cs : List ℕ) (r : Reading End) → reading quotes.Template cs ≡ r → Exactly inside (96 ∷ cs) (template_taken templates.Whole templates.Head r)
exactly_accent inside cs = exactly_part inside 96 templates.Whole templates.Head cs (parts, stands) (at_accent inside cs)
  where
    parts : (part : TemplatePart) (ys : List ℕ) → Stands inside (elements.Template part) (96 ∷ cs) ys → (k : End) × (part ≡ part_of templates.Whole templates.Head k) × Leads (body quotes.Template k) cs ys
    parts templates.Whole ys (ms, l, m) = (the_ends.Closed, refl, behind the_ends.Closed cs ms ys l.1 m)
    parts templates.Head ys (ms, l, m) = (the_ends.Substitution, refl, behind the_ends.Substitution cs ms ys l.1 m)
    parts templates.Middle ys (i, (ms, l, m)) = absurd (differ false refl l.0)
    parts templates.Tail ys (i, (ms, l, m)) = absurd (differ false refl l.0)

    stands : (k : End) (ys : List ℕ) → Leads (body quotes.Template k) cs ys → Stands inside (elements.Template (part_of templates.Whole templates.Head k)) (96 ∷ cs) ys
    stands the_ends.Closed ys h = (cs, (refl, refl), h)
    stands the_ends.Substitution ys h = (cs, (refl, refl), h)

pub exactly_brace : (cs : List ℕ) (r : Reading End) → reading quotes.Template cs ≡ r → Exactly true (125 ∷ cs) (template_taken templates.Tail templates.Middle r)
exactly_brace cs = exactly_part true 125 templates.Tail templates.Middle cs (parts, stands) (at_brace cs)
  where
    parts : (part : TemplatePart) (ys : List ℕ) → Stands true (elements.Template part) (125 ∷ cs) ys → (k : End) × (part ≡ part_of templates.Tail templates.Middle k) × Leads (body quotes.Template k) cs ys
    parts templates.Whole ys (ms, l, m) = absurd (differ false refl l.0)
    parts templates.Head ys (ms, l, m) = absurd (differ false refl l.0)
    parts templates.Middle ys (i, (ms, l, m)) = (the_ends.Substitution, refl, behind the_ends.Substitution cs ms ys l.1 m)
    parts templates.Tail ys (i, (ms, l, m)) = (the_ends.Closed, refl, behind the_ends.Closed cs ms ys l.1 m)

    stands : (k : End) (ys : List ℕ) → Leads (body quotes.Template k) cs ys → Stands true (elements.Template (part_of templates.Tail templates.Middle k)) (125 ∷ cs) ys
    stands the_ends.Closed ys h = (refl, (cs, (refl, refl), h))
    stands the_ends.Substitution ys h = (refl, (cs, (refl, refl), h))

-- At each character the next element is taken exactly: what stands there is taken, and nothing else stands there.
use Rattle.std.proofs.Common.{◌≡◌, ℕ, ◌&&◌, ◌||◌, Bool, true, false, not, List, [], ◌∷◌, map, Ok, Err, refl}
use Rattle.unicode_ident.proofs.Computing.{unicode_ident}
use Rattle.js_lexer.specs.declared.element.Element.{Element}
use Rattle.js_lexer.specs.declared.element.Element.TheVariants as elements
use Rattle.js_lexer.specs.declared.element.Form.{Form}
use Rattle.js_lexer.specs.declared.element.Form.TheVariants as forms
use Rattle.js_lexer.specs.declared.element.NoElement.TheVariants.{Stopped, LeftOut}
use Rattle.js_lexer.specs.declared.punctuators.Punctuator.{Punctuator}
use Rattle.js_lexer.specs.declared.token.TemplatePart.{TemplatePart}
use Rattle.js_lexer.specs.Characters.{is_name_start}
use Rattle.js_lexer.specs.Elements.{Stands, Shows, StandsNone}
use Rattle.js_lexer.specs.Scanning.{Taking}
use Rattle.js_lexer.proofs.Beginnings.{Family, gaps, words, numbers, strings, template_parts, marks, no_family, family_of, may_begin, form_begins, begins, form_begins_so}
use Rattle.js_lexer.proofs.Tests.{differ}

-- what a taking says of the text is so, and says all
abbrev pub Exactly : Bool → List ℕ → Taking → Type 0
Exactly inside xs (Ok r) = Stands inside r.0 xs r.1 × ((e : Element) (ys : List ℕ) → Stands inside e xs ys → (e ≡ r.0) × (ys ≡ r.1)) × ((form : Form) → Shows form xs → ⊥)
Exactly inside xs (Err (Stopped stop)) = StandsNone inside xs
Exactly inside xs (Err (LeftOut form)) = Shows form xs × ((other : Form) → Shows other xs → other ≡ form)

-- which families and forms are meant

abbrev pub in_family : Family → Family → Bool
in_family gaps gaps = true
in_family words words = true
in_family numbers numbers = true
in_family strings strings = true
in_family template_parts template_parts = true
in_family marks marks = true
in_family _ _ = false

abbrev pub is_form : Form → Form → Bool
is_form forms.BigInt forms.BigInt = true
is_form forms.Separator forms.Separator = true
is_form forms.Escape forms.Escape = true
is_form forms.Private forms.Private = true
is_form forms.Decorator forms.Decorator = true
is_form _ _ = false

abbrev pub no_form : Form → Bool
no_form form = false

abbrev pub number_form : Form → Bool
number_form form = is_form forms.BigInt form || is_form forms.Separator form

-- elements of no other family, and no other forms, begin with the character
abbrev pub Only : Bool → ℕ → List ℕ → (Family → Bool) → (Form → Bool) → Type 0
Only inside c cs p q = Others (λ f. not (p f) && may_begin inside f c cs) × OtherForms (λ f. not (q f) && form_begins f c cs)
  where
    Others : (Family → Bool) → Type 0
    Others r = map r (gaps ∷ words ∷ numbers ∷ strings ∷ template_parts ∷ marks ∷ no_family ∷ []) ≡ false ∷ false ∷ false ∷ false ∷ false ∷ false ∷ false ∷ []

    OtherForms : (Form → Bool) → Type 0
    OtherForms r = map r (forms.BigInt ∷ forms.Separator ∷ forms.Escape ∷ forms.Private ∷ forms.Decorator ∷ []) ≡ false ∷ false ∷ false ∷ false ∷ false ∷ []

settled : (a b : Bool) → (not a && b) ≡ false → b ≡ true → a ≡ true
settled true b h k = refl
settled false b h k = absurd (differ b h k)

pub only : (inside : Bool) (c : ℕ) (cs : List ℕ) (p : Family → Bool) (q : Form → Bool) → Only inside c cs p q → (e : Element) (ys : List ℕ) → Stands inside e (c ∷ cs) ys → p (family_of e) ≡ true
only inside c cs p q o e ys h = settled (p (family_of e)) (may_begin inside (family_of e) c cs) (each (λ f. not (p f) && may_begin inside f c cs) o.0 (family_of e)) (begins inside e c cs ys h)
  where
    each : (r : Family → Bool) → map r (gaps ∷ words ∷ numbers ∷ strings ∷ template_parts ∷ marks ∷ no_family ∷ []) ≡ false ∷ false ∷ false ∷ false ∷ false ∷ false ∷ false ∷ [] → (f : Family) → r f ≡ false
    each r e gaps = cc
    each r e words = cc
    each r e numbers = cc
    each r e strings = cc
    each r e template_parts = cc
    each r e marks = cc
    each r e no_family = cc

pub only_form : (inside : Bool) (c : ℕ) (cs : List ℕ) (p : Family → Bool) (q : Form → Bool) → Only inside c cs p q → (form : Form) → Shows form (c ∷ cs) → q form ≡ true
only_form inside c cs p q o form h = settled (q form) (form_begins form c cs) (each (λ f. not (q f) && form_begins f c cs) o.1 form) (form_begins_so form c cs h)
  where
    each : (r : Form → Bool) → map r (forms.BigInt ∷ forms.Separator ∷ forms.Escape ∷ forms.Private ∷ forms.Decorator ∷ []) ≡ false ∷ false ∷ false ∷ false ∷ false ∷ [] → (f : Form) → r f ≡ false
    each r e forms.BigInt = cc
    each r e forms.Separator = cc
    each r e forms.Escape = cc
    each r e forms.Private = cc
    each r e forms.Decorator = cc

-- an element of the family
abbrev pub IsOf : Family → Element → Type 0
IsOf gaps e = e ≡ elements.Gap
IsOf words e = e ≡ elements.Word
IsOf numbers e = e ≡ elements.Number
IsOf strings e = e ≡ elements.String
IsOf template_parts e = (part : TemplatePart) × (e ≡ elements.Template part)
IsOf marks e = (p : Punctuator) × (e ≡ elements.Punctuator p)
IsOf no_family e = ⊥

is_of : (f : Family) (e : Element) → in_family f (family_of e) ≡ true → IsOf f e
is_of gaps elements.Gap h = refl
is_of words elements.Word h = refl
is_of numbers elements.Number h = refl
is_of strings elements.String h = refl
is_of template_parts (elements.Template part) h = (part, refl)
is_of marks (elements.Punctuator p) h = (p, refl)
is_of _ _ h = absurd (cc)

pub of_only : (inside : Bool) (f : Family) (c : ℕ) (cs : List ℕ) (q : Form → Bool) → Only inside c cs (in_family f) q → (e : Element) (ys : List ℕ) → Stands inside e (c ∷ cs) ys → IsOf f e
of_only inside f c cs q o e ys h = is_of f e (only inside c cs (in_family f) q o e ys h)

pub none_shows : (inside : Bool) (c : ℕ) (cs : List ℕ) (p : Family → Bool) → Only inside c cs p no_form → (form : Form) → Shows form (c ∷ cs) → ⊥
none_shows inside c cs p o form h = differ false refl (only_form inside c cs p no_form o form h)

the_form : (g form : Form) → is_form g form ≡ true → form ≡ g
the_form forms.BigInt forms.BigInt h = refl
the_form forms.Separator forms.Separator h = refl
the_form forms.Escape forms.Escape h = refl
the_form forms.Private forms.Private h = refl
the_form forms.Decorator forms.Decorator h = refl
the_form _ _ h = absurd (cc)

pub one_shows : (inside : Bool) (c : ℕ) (cs : List ℕ) (p : Family → Bool) (g : Form) → Only inside c cs p (is_form g) → (form : Form) → Shows form (c ∷ cs) → form ≡ g
one_shows inside c cs p g o form h = the_form g form (only_form inside c cs p (is_form g) o form h)

-- what begins with certain characters

pub at_double : (inside : Bool) (cs : List ℕ) → Only inside 34 cs (in_family strings) no_form
unfolding is_name_start unicode_ident
at_double inside cs = (refl, refl)

pub at_single : (inside : Bool) (cs : List ℕ) → Only inside 39 cs (in_family strings) no_form
unfolding is_name_start unicode_ident
at_single inside cs = (refl, refl)

pub at_accent : (inside : Bool) (cs : List ℕ) → Only inside 96 cs (in_family template_parts) no_form
unfolding is_name_start unicode_ident
at_accent inside cs = (refl, refl)

pub at_brace : (cs : List ℕ) → Only true 125 cs (in_family template_parts) no_form
unfolding is_name_start unicode_ident
at_brace cs = (refl, refl)

pub at_backslash : (inside : Bool) (cs : List ℕ) → Only inside 92 cs (in_family no_family) (is_form forms.Escape)
unfolding is_name_start unicode_ident
at_backslash inside cs = (refl, refl)

pub at_hash : (inside : Bool) (cs : List ℕ) → Only inside 35 cs (in_family no_family) (is_form forms.Private)
unfolding is_name_start unicode_ident
at_hash inside cs = (refl, refl)

pub at_sign : (inside : Bool) (cs : List ℕ) → Only inside 64 cs (in_family no_family) (is_form forms.Decorator)
unfolding is_name_start unicode_ident
at_sign inside cs = (refl, refl)

-- a comment or a punctuator, a number or a punctuator

pub at_slash : (inside : Bool) (cs : List ℕ) → Only inside 47 cs (λ f. in_family gaps f || in_family marks f) no_form
unfolding is_name_start unicode_ident
at_slash inside cs = (refl, refl)

pub at_point : (inside : Bool) (cs : List ℕ) → Only inside 46 cs (λ f. in_family numbers f || in_family marks f) number_form
unfolding is_name_start unicode_ident
at_point inside cs = (refl, refl)

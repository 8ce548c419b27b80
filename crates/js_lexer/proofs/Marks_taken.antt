-- Punctuators, white space and comments are taken exactly.
use Rattle.std.proofs.Common.{◌≡◌, inl, inr, ℕ, ◌==◌, ◌&&◌, ◌||◌, Bool, true, false, cond, List, [], ◌∷◌, ◌++◌, Option, Some, None, Ok, Err, refl, sym, ap, subst, ◌∙◌}
use Rattle.unicode_ident.proofs.Computing.{unicode_ident}
use Rattle.js_lexer.specs.declared.comments.Comment.TheVariants as comments
use Rattle.js_lexer.specs.declared.element.Element.{Element}
use Rattle.js_lexer.specs.declared.element.Element.TheVariants as elements
use Rattle.js_lexer.specs.declared.element.Form.{Form}
use Rattle.js_lexer.specs.declared.punctuators.Punctuator.{Punctuator}
use Rattle.js_lexer.specs.Characters.{is_name_start}
use Rattle.js_lexer.specs.Comments.{comment_step, comment_stop}
use Rattle.js_lexer.specs.Elements.{gap, Stands, Shows, MayStand}
use Rattle.js_lexer.specs.Grammar.{char, in_line, rest_of_line, rest_of_comment}
use Rattle.js_lexer.specs.Machines.{Reading, run}
use Rattle.js_lexer.specs.Punctuators.{punctuator_of, text_of, IsPunctuator}
use Rattle.js_lexer.specs.Rules.{Leads, begins_with}
use Rattle.js_lexer.specs.Scanning.{mark_taken, mark_of, gap_taken, slash_taken}
use Rattle.js_lexer.specs.Skipping.{skip}
use Rattle.js_lexer.proofs.Beginnings.{is_comment_second, gaps, marks, family_of}
use Rattle.js_lexer.proofs.Comments_laws.{comment_exact, skip_exact}
use Rattle.js_lexer.proofs.Exactly.{Exactly, Only, in_family, no_form, only, of_only, none_shows, at_slash}
use Rattle.js_lexer.proofs.Punctuator_laws.{punctuator_exact}
use Rattle.js_lexer.proofs.Tests.{differ, equal, both_true, same_some, no_some, same_ok, not_ok}

-- punctuators

abbrev pub MarksAt : Bool → ℕ → List ℕ → Type 0
MarksAt inside c cs = Only inside c cs (in_family marks) no_form

mark_read : (inside : Bool) (c : ℕ) (cs : List ℕ) → MarksAt inside c cs → (e : Element) (ys : List ℕ) → Stands inside e (c ∷ cs) ys → (p : Punctuator) × (e ≡ elements.Punctuator p) × (punctuator_of (c ∷ cs) ≡ Some (p, ys))
mark_read inside c cs o e ys h =
    let same : (p : Punctuator) × (e ≡ elements.Punctuator p) = of_only inside marks c cs no_form o e ys h in
    let s : Stands inside (elements.Punctuator same.0) (c ∷ cs) ys = subst (λ z. Stands inside z (c ∷ cs) ys) same.1 h in
    (same.0, same.1, (punctuator_exact same.0 (c ∷ cs) ys).0 s.0)

may_stand : (inside : Bool) (c : ℕ) (cs : List ℕ) (p : Punctuator) (ys : List ℕ) → (c == 125 && inside) ≡ false → IsPunctuator p (c ∷ cs) ys → MayStand inside p
may_stand inside c cs p ys h k i e =
    let f : c ∷ cs ≡ 125 ∷ ys = k.0.0 ∙ ap (λ z. text_of z ++ ys) e in
    let g : c ≡ 125 = cc in
    differ (c == 125 && inside) h (both_true (c == 125) inside (subst (λ z. (z == 125) ≡ true) (sym g) refl) i)

pub exactly_mark : (inside : Bool) (c : ℕ) (cs : List ℕ) → MarksAt inside c cs → (c == 125 && inside) ≡ false →
    (o : Option (Punctuator × List ℕ)) → punctuator_of (c ∷ cs) ≡ o → Exactly inside (c ∷ cs) (mark_taken o)
exactly_mark inside c cs m b None e = (
  λ f ys h.
      let k : (p : Punctuator) × (f ≡ elements.Punctuator p) × (punctuator_of (c ∷ cs) ≡ Some (p, ys)) = mark_read inside c cs m f ys h in
      no_some (punctuator_of (c ∷ cs)) (k.0, ys) e k.2,
  none_shows inside c cs (in_family marks) m,
)
exactly_mark inside c cs m b (Some (p, zs)) e =
    let stands : IsPunctuator p (c ∷ cs) zs = (punctuator_exact p (c ∷ cs) zs).1 e in (
      (stands, may_stand inside c cs p zs b stands),
      λ f ys h.
          let k : (p : Punctuator) × (f ≡ elements.Punctuator p) × (punctuator_of (c ∷ cs) ≡ Some (p, ys)) = mark_read inside c cs m f ys h in
          let s : (k.0, ys) ≡ (p, zs) = same_some (punctuator_of (c ∷ cs)) (k.0, ys) (p, zs) k.2 e in
          (k.1 ∙ ap (λ z. elements.Punctuator z.0) s, ap (λ z. z.1) s),
      none_shows inside c cs (in_family marks) m,
    )

-- comments

slash_marks : (inside : Bool) (cs : List ℕ) → begins_with is_comment_second cs ≡ false → MarksAt inside 47 cs
unfolding is_name_start unicode_ident
slash_marks inside cs n = (rw n refl, refl)

slash_mark : (inside : Bool) (cs : List ℕ) → begins_with is_comment_second cs ≡ false → Exactly inside (47 ∷ cs) (mark_of (47 ∷ cs))
slash_mark inside cs n = exactly_mark inside 47 cs (slash_marks inside cs n) refl (punctuator_of (47 ∷ cs)) refl

slash_form : (inside : Bool) (cs : List ℕ) (form : Form) → Shows form (47 ∷ cs) → ⊥
slash_form inside cs = none_shows inside 47 cs (λ f. in_family gaps f || in_family marks f) (at_slash inside cs)

-- no punctuator stands where a comment begins
no_slash : (p : Punctuator) (c : ℕ) (cs ys : List ℕ) → is_comment_second c ≡ true → IsPunctuator p (47 ∷ c ∷ cs) ys → ⊥
no_slash p c cs ys h k = no_some (punctuator_of (47 ∷ c ∷ cs)) (p, ys) (rw h refl) ((punctuator_exact p (47 ∷ c ∷ cs) ys).0 k)

gap_only : (inside : Bool) (c : ℕ) (cs : List ℕ) → is_comment_second c ≡ true → (e : Element) (ys : List ℕ) → Stands inside e (47 ∷ c ∷ cs) ys → e ≡ elements.Gap
gap_only inside c cs s e ys h = by_element e h (only inside 47 (c ∷ cs) (λ f. in_family gaps f || in_family marks f) no_form (at_slash inside (c ∷ cs)) e ys h)
  where
    by_element : (e : Element) → Stands inside e (47 ∷ c ∷ cs) ys → (in_family gaps (family_of e) || in_family marks (family_of e)) ≡ true → e ≡ elements.Gap
    by_element elements.Gap h k = refl
    by_element (elements.Punctuator p) h k = absurd (no_slash p c cs ys s h.0)
    by_element _ h k = absurd (differ false refl k)

-- what is behind a character that is known
behind : (n c : ℕ) (cs ms ns : List ℕ) → c ∷ cs ≡ ms → Leads (char n) ms ns → ((c == n) ≡ true) × (cs ≡ ns)
behind n c cs [] ns e k = absurd k
behind n c cs (x ∷ xs) ns e k =
    let f : c ≡ x = cc in
    let g : cs ≡ xs = cc in
    (subst (λ z. (z == n) ≡ true) (sym f) k.0, g ∙ k.1)

-- a gap that begins with `/` is a comment
line_gap : (cs ys : List ℕ) → Leads gap (47 ∷ 47 ∷ cs) ys → ys ≡ skip in_line cs
line_gap cs ys (inl h) = absurd (differ false refl h.0)
line_gap cs ys (inr (inl h)) = absurd (differ false refl h.0)
line_gap cs ys (inr (inr (inl (ms, h, (ns, k, l))))) = (skip_exact in_line cs ys).0 (subst (λ z. Leads rest_of_line z ys) (sym (behind 47 47 cs ms ns h.1 k).1) l)
line_gap cs ys (inr (inr (inr (ms, h, (ns, k, l))))) = absurd (differ false refl (behind 42 47 cs ms ns h.1 k).0)

block_gap : (cs ys : List ℕ) → Leads gap (47 ∷ 42 ∷ cs) ys → Leads rest_of_comment cs ys
block_gap cs ys (inl h) = absurd (differ false refl h.0)
block_gap cs ys (inr (inl h)) = absurd (differ false refl h.0)
block_gap cs ys (inr (inr (inl (ms, h, (ns, k, l))))) = absurd (differ false refl (behind 47 42 cs ms ns h.1 k).0)
block_gap cs ys (inr (inr (inr (ms, h, (ns, k, l))))) = subst (λ z. Leads rest_of_comment z ys) (sym (behind 42 42 cs ms ns h.1 k).1) l

line_exactly : (inside : Bool) (cs : List ℕ) → Exactly inside (47 ∷ 47 ∷ cs) (Ok (elements.Gap, skip in_line cs))
line_exactly inside cs = (
  inr (inr (inl (47 ∷ cs, (refl, refl), (cs, (refl, refl), (skip_exact in_line cs (skip in_line cs)).1 refl)))),
  λ e ys h.
      let same : e ≡ elements.Gap = gap_only inside 47 cs refl e ys h in
      (same, line_gap cs ys (subst (λ z. Stands inside z (47 ∷ 47 ∷ cs) ys) same h)),
  slash_form inside (47 ∷ cs),
)

abbrev block_reading : List ℕ → Reading (Unit {0})
block_reading cs = run comment_step comment_stop comments.Inside cs

block_only : (inside : Bool) (cs : List ℕ) (e : Element) (ys : List ℕ) → Stands inside e (47 ∷ 42 ∷ cs) ys → (e ≡ elements.Gap) × (block_reading cs ≡ Ok (tt, ys))
block_only inside cs e ys h =
    let same : e ≡ elements.Gap = gap_only inside 42 cs refl e ys h in
    (same, (comment_exact cs ys).0 (block_gap cs ys (subst (λ z. Stands inside z (47 ∷ 42 ∷ cs) ys) same h)))

block_exactly : (inside : Bool) (cs : List ℕ) (r : Reading (Unit {0})) → block_reading cs ≡ r → Exactly inside (47 ∷ 42 ∷ cs) (gap_taken r)
block_exactly inside cs (Ok (u, zs)) e = (
  inr (inr (inr (42 ∷ cs, (refl, refl), (cs, (refl, refl), (comment_exact cs zs).1 e)))),
  λ f ys h.
      let k : (f ≡ elements.Gap) × (block_reading cs ≡ Ok (tt, ys)) = block_only inside cs f ys h in
      (k.0, ap (λ z. z.1) (same_ok (block_reading cs) (tt, ys) (u, zs) k.1 e)),
  slash_form inside (42 ∷ cs),
)
block_exactly inside cs (Err stop) e = (λ f ys h. not_ok (block_reading cs) (tt, ys) stop e (block_only inside cs f ys h).1, slash_form inside (42 ∷ cs))

pub exactly_slash : (inside : Bool) (cs : List ℕ) → Exactly inside (47 ∷ cs) (slash_taken (47 ∷ cs) cs)
exactly_slash inside [] = slash_mark inside [] refl
exactly_slash inside (c ∷ cs) = by_second (c == 47) (c == 42) refl refl
  where
    by_second : (a b : Bool) → (c == 47) ≡ a → (c == 42) ≡ b →
        Exactly inside (47 ∷ c ∷ cs) (cond a (Ok (elements.Gap, skip in_line cs)) (cond b (gap_taken (run comment_step comment_stop comments.Inside cs)) (mark_of (47 ∷ c ∷ cs))))
    by_second true b e f = subst (λ z. Exactly inside (47 ∷ z ∷ cs) (Ok (elements.Gap, skip in_line cs))) (sym (equal c 47 e)) (line_exactly inside cs)
    by_second false true e f = subst (λ z. Exactly inside (47 ∷ z ∷ cs) (gap_taken (run comment_step comment_stop comments.Inside cs))) (sym (equal c 42 f)) (block_exactly inside cs (block_reading cs) refl)
    by_second false false e f = slash_mark inside (c ∷ cs) (rw (e, f) refl)

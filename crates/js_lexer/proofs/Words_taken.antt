-- Names are taken exactly, and the forms that are left out of them.
use Rattle.std.proofs.Common.{◌≡◌, inl, inr, ℕ, ◌==◌, ◌||◌, Bool, true, false, cond, List, [], ◌∷◌, Ok, Err, refl, sym, ap, subst, ◌∙◌, arith}
use Rattle.js_lexer.specs.declared.element.Element.{Element}
use Rattle.js_lexer.specs.declared.element.Element.TheVariants as elements
use Rattle.js_lexer.specs.declared.element.Form.{Form}
use Rattle.js_lexer.specs.declared.element.Form.TheVariants as forms
use Rattle.js_lexer.specs.declared.escapes.Escape.TheVariants as escapes
use Rattle.js_lexer.specs.Characters.{is_name_start, is_name_part, is_digit, is_white_space, is_line_terminator}
use Rattle.js_lexer.specs.Elements.{Stands, Shows, StandsNone}
use Rattle.js_lexer.specs.Grammar.{char, name, name_rest, unicode_escape}
use Rattle.js_lexer.specs.Machines.{Reading}
use Rattle.js_lexer.specs.declared.element.NoElement.TheVariants.{LeftOut}
use Rattle.js_lexer.specs.declared.machine.Stop.TheVariants as stops
use Rattle.unicode_ident.specs.Ident.{is_xid_continue}
use Rattle.unicode_ident.proofs.IdentLemmas.{is_xid_continue-ascii}
use Rattle.js_lexer.specs.Rules.{Or, One, Then, Many, Leads}
use Rattle.js_lexer.specs.Scanning.{word_ending, word_unless, escape_reading, left_out, private_taken, refused}
use Rattle.js_lexer.specs.Skipping.{skip}
use Rattle.js_lexer.proofs.Beginnings.{words, no_family}
use Rattle.js_lexer.proofs.Comments_laws.{skip_exact}
use Rattle.js_lexer.proofs.Escapes_laws.{escape_exact}
use Rattle.js_lexer.proofs.Exactly.{Exactly, Only, in_family, is_form, of_only, one_shows, at_backslash, at_hash, at_sign}
use Rattle.js_lexer.proofs.Firsts.{signs, sign_no_start, space_no_start, digit_no_start, start_no_mark}
use Rattle.js_lexer.proofs.Tests.{apart, differ, equal, not_true, not_ok, is_one_of}

start_no_space : (c : ℕ) → is_name_start c ≡ true → (is_white_space c || is_line_terminator c) ≡ false
start_no_space c h = not_true (is_white_space c || is_line_terminator c) (λ k. differ (is_name_start c) (space_no_start c k) h)

start_no_digit : (c : ℕ) → is_name_start c ≡ true → is_digit c ≡ false
start_no_digit c h = not_true (is_digit c) (λ k. differ (is_name_start c) (digit_no_start c k) h)

abbrev WordAt : Bool → ℕ → List ℕ → Type 0
WordAt inside c cs = Only inside c cs (in_family words) (is_form forms.Escape)

at_word : (inside : Bool) (c : ℕ) (cs : List ℕ) → is_name_start c ≡ true → WordAt inside c cs
at_word inside c cs s = (
  rw (start_no_mark c s) (simp (start_no_space c s, start_no_digit c s, no_start 34, no_start 39, no_start 46, no_start 47, no_start 96, no_start 125)),
  simp (start_no_digit c s, no_start 35, no_start 46, no_start 64),
)
  where
    no_start : (n : ℕ) → is_one_of signs n ≡ true → (c == n) ≡ false
    no_start n h = apart is_name_start c n s (sign_no_start n h)

-- escapes

abbrev Read : List ℕ → List ℕ → Type 0
Read xs ys = escape_reading xs ≡ Ok (tt, ys)

to_read : (xs ys : List ℕ) → Leads unicode_escape xs ys → Read xs ys
to_read xs ys h = let r : (u : Unit {0}) × (escape_reading xs ≡ Ok (u, ys)) × (true ≡ true) = (escape_exact escapes.Backslash xs ys).0 h in r.1

from_read : (xs ys : List ℕ) → Read xs ys → Leads unicode_escape xs ys
from_read xs ys e = (escape_exact escapes.Backslash xs ys).1 (tt, e, refl)

-- names

part_is : (c : ℕ) → is_name_part c ≡ (c == 36 || is_xid_continue c)
unfolding is_name_part
part_is c = refl

backslash_no_part : is_name_part 92 ≡ false
backslash_no_part = part_is 92 ∙ is_xid_continue-ascii 92 (omega arith)

word_behind : (c : ℕ) (cs ys : List ℕ) → Leads name (c ∷ cs) ys → ys ≡ skip is_name_part cs
word_behind c cs ys (ms, h, k) = (skip_exact is_name_part cs ys).0 (subst (λ z. Leads name_rest z ys) (sym h.1) k)

-- an escape behind the parts of a name is what is left behind them
escape_behind : (c : ℕ) (cs : List ℕ) → is_name_start c ≡ true → Shows forms.Escape (c ∷ cs) → (ds : List ℕ) × (ys : List ℕ) × (skip is_name_part cs ≡ 92 ∷ ds) × Read ds ys
escape_behind c cs s (ys, (ms, inr e, (ns, h, k))) = absurd (at_backslash ms e h)
  where
    at_backslash : (ms : List ℕ) → c ∷ cs ≡ ms → Leads (char 92) ms ns → ⊥
    at_backslash [] e h = h
    at_backslash (x ∷ xs) e h = let same : c ≡ x = cc in differ (c == 92) (apart is_name_start c 92 s (sign_no_start 92 refl)) (subst (λ z. (z == 92) ≡ true) (sym same) h.0)
escape_behind c cs s (ys, (ms, inl (zs, h, l), (ns, b, k))) = (ns, ys, parts ms b l, to_read ns ys k)
  where
    equal_back : (x : ℕ) → (x == 92) ≡ true → x ≡ 92
    equal_back x h = equal x 92 h

    parts : (ms : List ℕ) → Leads (char 92) ms ns → Leads (Many (One is_name_part)) zs ms → skip is_name_part cs ≡ 92 ∷ ns
    parts [] b l = absurd b
    parts (x ∷ xs) b l =
        let at : x ≡ 92 = equal_back x b.0 in
        let apart : is_name_part x ≡ false = subst (λ z. is_name_part z ≡ false) (sym at) backslash_no_part in
        let all : x ∷ xs ≡ skip is_name_part zs = (skip_exact is_name_part zs (x ∷ xs)).0 (x ∷ xs, l, (refl, apart)) in
        ap (λ z. skip is_name_part z) h.1 ∙ sym all ∙ ap (λ z. z ∷ xs) at ∙ ap (λ z. 92 ∷ z) b.1

shows_escape : (c : ℕ) (cs ds ys : List ℕ) → is_name_start c ≡ true → skip is_name_part cs ≡ 92 ∷ ds → Read ds ys → Shows forms.Escape (c ∷ cs)
shows_escape c cs ds ys s e r =
    let parts : Leads name_rest cs (92 ∷ ds) = (skip_exact is_name_part cs (92 ∷ ds)).1 (sym e) in
    (ys, (92 ∷ ds, inl (cs, (s, refl), subst (λ z. Leads (Many (One is_name_part)) cs z) parts.2.0 parts.1), (ds, (refl, refl), from_read ds ys r)))

word_only : (inside : Bool) (c : ℕ) (cs : List ℕ) → is_name_start c ≡ true → (e : Element) (ys : List ℕ) → Stands inside e (c ∷ cs) ys → (e ≡ elements.Word) × (ys ≡ skip is_name_part cs)
word_only inside c cs s e ys h =
    let same : e ≡ elements.Word = of_only inside words c cs (is_form forms.Escape) (at_word inside c cs s) e ys h in
    (same, word_behind c cs ys (subst (λ z. Stands inside z (c ∷ cs) ys) same h))

word_taken : (inside : Bool) (c : ℕ) (cs zs : List ℕ) → is_name_start c ≡ true → skip is_name_part cs ≡ zs → (Shows forms.Escape (c ∷ cs) → ⊥) → Exactly inside (c ∷ cs) (Ok (elements.Word, zs))
word_taken inside c cs zs s e none = (
  (cs, (s, refl), (skip_exact is_name_part cs zs).1 (sym e)),
  λ f ys h. let k : (f ≡ elements.Word) × (ys ≡ skip is_name_part cs) = word_only inside c cs s f ys h in (k.0, k.1 ∙ e),
  λ form h. none (subst (λ z. Shows z (c ∷ cs)) (one_shows inside c cs (in_family words) forms.Escape (at_word inside c cs s) form h) h),
)

escape_taken : (inside : Bool) (c : ℕ) (cs ds : List ℕ) → is_name_start c ≡ true → skip is_name_part cs ≡ 92 ∷ ds → (r : Reading (Unit {0})) → escape_reading ds ≡ r → Exactly inside (c ∷ cs) (word_unless (92 ∷ ds) r)
escape_taken inside c cs ds s e (Ok (u, ys)) f = (shows_escape c cs ds ys s e f, λ other h. one_shows inside c cs (in_family words) forms.Escape (at_word inside c cs s) other h)
escape_taken inside c cs ds s e (Err stop) f =
    word_taken inside c cs (92 ∷ ds) s e (λ h.
    let k : (es : List ℕ) × (ys : List ℕ) × (skip is_name_part cs ≡ 92 ∷ es) × Read es ys = escape_behind c cs s h in
    let same : k.0 ≡ ds = tails k.0 ds (sym k.2 ∙ e) in
    not_ok (escape_reading ds) (tt, k.1) stop f (subst (λ z. Read z k.1) same k.3))
  where
    tails : (xs ys : List ℕ) → 92 ∷ xs ≡ 92 ∷ ys → xs ≡ ys
    tails xs ys h = cc

by_ending : (inside : Bool) (c : ℕ) (cs zs : List ℕ) → is_name_start c ≡ true → skip is_name_part cs ≡ zs → Exactly inside (c ∷ cs) (word_ending zs)
by_ending inside c cs [] s e = word_taken inside c cs [] s e (λ h.
    let k : (es : List ℕ) × (ys : List ℕ) × (skip is_name_part cs ≡ 92 ∷ es) × Read es ys = escape_behind c cs s h in no_text k.0 (sym k.2 ∙ e))
  where
    no_text : (xs : List ℕ) → 92 ∷ xs ≡ [] → ⊥
    no_text xs h = cc
by_ending inside c cs (d ∷ ds) s e = by_backslash (d == 92) refl
  where
    heads : (xs : List ℕ) → 92 ∷ xs ≡ d ∷ ds → 92 ≡ d
    heads xs h = cc

    by_backslash : (b : Bool) → (d == 92) ≡ b → Exactly inside (c ∷ cs) (cond b (word_unless (d ∷ ds) (escape_reading ds)) (Ok (elements.Word, d ∷ ds)))
    by_backslash true f = subst (λ z. Exactly inside (c ∷ cs) (word_unless (z ∷ ds) (escape_reading ds))) (sym (equal d 92 f)) (escape_taken inside c cs ds s (e ∙ ap (λ z. z ∷ ds) (equal d 92 f)) (escape_reading ds) refl)
    by_backslash false f = word_taken inside c cs (d ∷ ds) s e (λ h.
        let k : (es : List ℕ) × (ys : List ℕ) × (skip is_name_part cs ≡ 92 ∷ es) × Read es ys = escape_behind c cs s h in
        differ (d == 92) f (subst (λ z. (z == 92) ≡ true) (heads k.0 (sym k.2 ∙ e)) refl))

pub exactly_word : (inside : Bool) (c : ℕ) (cs : List ℕ) → is_name_start c ≡ true → Exactly inside (c ∷ cs) (word_ending (skip is_name_part cs))
exactly_word inside c cs s = by_ending inside c cs (skip is_name_part cs) s refl

-- a backslash

backslash_reads : (cs : List ℕ) → Shows forms.Escape (92 ∷ cs) → (ys : List ℕ) × Read cs ys
backslash_reads cs (ys, (ms, inl (zs, h, l), k)) = absurd (differ (is_name_start 92) (sign_no_start 92 refl) h.0)
backslash_reads cs (ys, (ms, inr e, (ns, h, k))) = (ys, to_read cs ys (subst (λ z. Leads unicode_escape z ys) (sym (tails ms e h)) k))
  where
    tails : (ms : List ℕ) → 92 ∷ cs ≡ ms → Leads (char 92) ms ns → cs ≡ ns
    tails [] e h = absurd h
    tails (x ∷ xs) e h = let f : cs ≡ xs = cc in f ∙ h.1

-- no element begins with these
backslash_form : (inside : Bool) (cs : List ℕ) (form : Form) → Shows form (92 ∷ cs) → form ≡ forms.Escape
backslash_form inside cs = one_shows inside 92 cs (in_family no_family) forms.Escape (at_backslash inside cs)

hash_form : (inside : Bool) (cs : List ℕ) (form : Form) → Shows form (35 ∷ cs) → form ≡ forms.Private
hash_form inside cs = one_shows inside 35 cs (in_family no_family) forms.Private (at_hash inside cs)

pub exactly_backslash : (inside : Bool) (cs : List ℕ) (r : Reading (Unit {0})) → escape_reading cs ≡ r → Exactly inside (92 ∷ cs) (left_out forms.Escape r)
exactly_backslash inside cs (Ok (u, ys)) e = ((ys, (92 ∷ cs, inr refl, (cs, (refl, refl), from_read cs ys e))), backslash_form inside cs)
exactly_backslash inside cs (Err stop) e = (
  of_only inside no_family 92 cs (is_form forms.Escape) (at_backslash inside cs),
  λ form h.
      let k : (ys : List ℕ) × Read cs ys = backslash_reads cs (subst (λ z. Shows z (92 ∷ cs)) (backslash_form inside cs form h) h) in
      not_ok (escape_reading cs) (tt, k.0) stop e k.1,
)

-- private names

abbrev PrivateBehind : List ℕ → List ℕ → Type 0
PrivateBehind cs ys = Leads (Or (One is_name_start) (Then (char 92) unicode_escape)) cs ys

private_behind : (cs : List ℕ) → Shows forms.Private (35 ∷ cs) → (ys : List ℕ) × PrivateBehind cs ys
private_behind cs (ys, (ms, h, k)) = (ys, subst (λ z. PrivateBehind z ys) (sym h.1) k)

private_none : (inside : Bool) (cs : List ℕ) → ((ys : List ℕ) → PrivateBehind cs ys → ⊥) → StandsNone inside (35 ∷ cs)
private_none inside cs none = (
  of_only inside no_family 35 cs (is_form forms.Private) (at_hash inside cs),
  λ form h.
      let k : (ys : List ℕ) × PrivateBehind cs ys = private_behind cs (subst (λ z. Shows z (35 ∷ cs)) (hash_form inside cs form h) h) in
      none k.0 k.1,
)

private_there : (cs ys : List ℕ) → PrivateBehind cs ys → Shows forms.Private (35 ∷ cs)
private_there cs ys h = (ys, (cs, (refl, refl), h))

private_escape : (inside : Bool) (ds : List ℕ) (r : Reading (Unit {0})) → escape_reading ds ≡ r → Exactly inside (35 ∷ 92 ∷ ds) (left_out forms.Private r)
private_escape inside ds (Ok (u, ys)) e = (private_there (92 ∷ ds) ys (inr (ds, (refl, refl), from_read ds ys e)), hash_form inside (92 ∷ ds))
private_escape inside ds (Err stop) e = private_none inside (92 ∷ ds) none
  where
    none : (ys : List ℕ) → PrivateBehind (92 ∷ ds) ys → ⊥
    none ys (inl h) = differ (is_name_start 92) (sign_no_start 92 refl) h.0
    none ys (inr (ns, h, k)) = not_ok (escape_reading ds) (tt, ys) stop e (to_read ds ys (subst (λ z. Leads unicode_escape z ys) (sym h.1) k))

pub exactly_hash : (inside : Bool) (cs : List ℕ) → Exactly inside (35 ∷ cs) (private_taken cs)
exactly_hash inside [] = private_none inside [] none
  where
    none : (ys : List ℕ) → PrivateBehind [] ys → ⊥
    none ys (inl h) = h
    none ys (inr (ns, h, k)) = h
exactly_hash inside (c ∷ ds) = by_second (c == 92) (is_name_start c) refl refl
  where
    by_second : (a b : Bool) → (c == 92) ≡ a → is_name_start c ≡ b →
        Exactly inside (35 ∷ c ∷ ds) (cond a (left_out forms.Private (escape_reading ds)) (cond b (Err (LeftOut forms.Private)) (refused stops.Bad)))
    by_second true b e f = subst (λ z. Exactly inside (35 ∷ z ∷ ds) (left_out forms.Private (escape_reading ds))) (sym (equal c 92 e)) (private_escape inside ds (escape_reading ds) refl)
    by_second false true e f = (private_there (c ∷ ds) ds (inl (f, refl)), hash_form inside (c ∷ ds))
    by_second false false e f = private_none inside (c ∷ ds) none
      where
        none : (ys : List ℕ) → PrivateBehind (c ∷ ds) ys → ⊥
        none ys (inl h) = differ (is_name_start c) f h.0
        none ys (inr (ns, h, k)) = differ (c == 92) e h.0

pub exactly_at : (inside : Bool) (cs : List ℕ) → Exactly inside (64 ∷ cs) (Err (LeftOut forms.Decorator))
exactly_at inside cs = ((cs, (refl, refl)), one_shows inside 64 cs (in_family no_family) forms.Decorator (at_sign inside cs))

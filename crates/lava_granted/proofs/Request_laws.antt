-- A request as units, of which a call of `require` takes its link, and as UTF-8, as a module is loaded by it.
use Rattle.std.proofs.Common.{◌≡◌, ◌⊎◌, ℕ, ◌==◌, ◌&&◌, ◌||◌, Bool, true, false, cond, not, List, [], ◌∷◌, ◌++◌, length, refl, ap, ◌∙◌, sym, subst, inl, inr, ⊎_elim, arith, append_assoc, true≢false}
use Rattle.std.proofs.lemmas.Bool.{and_left, and_right, cases_Bool, cond-true, cond-false, eqb-true, false_from_ne_true, or_cases, or_from}
use Rattle.std.proofs.lemmas.Slice.Eq.{bytes_eq-Decides}
use Rattle.std.specs.List.{list_any}
use Rattle.std.specs.Prelude.{bytes_eq, codes}
use Rattle.js_text.specs.Texts.{same_units, utf8_of}
use Rattle.lava_packages.specs.lava_start.js_run.Requests as run
use Rattle.lava_packages.specs.lava_start.js_run.Requests.{is_scope, joined_parts, link_of, parts_of}
use Rattle.pkg_graph.specs.PackageNames.{is_package_name}
use Rattle.pkg_load.specs.Requests.{is_builtin, is_relative, is_scoped, package_request, request_kind, scoped_link}
use Rattle.pkg_load.specs.Slashes.{after_slash, before_slash, is_slash}
use Rattle.pkg_load.specs.declared.module_path.TheConstants.{HERE, ABOVE}
use Rattle.pkg_load.specs.declared.request.TheConstants.{BUILTIN, NODE_BUILTIN}
use Rattle.pkg_load.specs.declared.request.PackageRequest.{PackageRequest}
use Rattle.pkg_load.specs.declared.request.RequestKind.TheVariants.{Relative, Builtin, Package}
use Rattle.lava_granted.proofs.Cut_laws.{Cut, NoSlash, after_cut, before_cut, before_none, cut, first_part, has_one, not_cut, one_part, same_back, same_front}
use Rattle.lava_granted.proofs.Name_laws.{IsPart, IsPlain, IsScoped, named}
use Rattle.lava_granted.proofs.Text_laws.{AllAscii, ascii_bytes, ascii_front}

-- BYTES

not_dots : (u : ℕ) (us : List ℕ) → (u == 46) ≡ false → (bytes_eq (u ∷ us) HERE.now || bytes_eq (u ∷ us) ABOVE.now) ≡ false
not_dots u us e = or_from (bytes_eq (u ∷ us) HERE.now) (bytes_eq (u ∷ us) ABOVE.now) (and_left (u == 46) _ e) (and_left (u == 46) _ e)

no_path : (bs : List ℕ) (u : ℕ) (us : List ℕ) → before_slash bs ≡ u ∷ us → (u == 46) ≡ false → is_relative bs ≡ false
no_path bs u us at e = ap (λ part. bytes_eq part HERE.now || bytes_eq part ABOVE.now) at ∙ not_dots u us e

no_word : (x y word : List ℕ) → list_any is_slash word ≡ false → bytes_eq (x ++ 47 ∷ y) word ≡ false
no_word x y word none = false_from_ne_true (bytes_eq (x ++ 47 ∷ y) word)
    (λ e. true≢false (sym (has_one x y) ∙ ap (list_any is_slash) ((bytes_eq-Decides (x ++ 47 ∷ y) word).0 e) ∙ none))

no_builtin : (x y : List ℕ) → is_builtin (x ++ 47 ∷ y) ≡ false
no_builtin x y = or_from (bytes_eq (x ++ 47 ∷ y) BUILTIN.now) (bytes_eq (x ++ 47 ∷ y) NODE_BUILTIN.now) (no_word x y BUILTIN.now refl) (no_word x y NODE_BUILTIN.now refl)

plain_link : (bs l : List ℕ) → before_slash bs ≡ l → is_scoped bs ≡ false → (package_request bs).link ≡ l
plain_link bs l at f = ap (λ (r : PackageRequest). r.link) (cond-false (is_scoped bs) _ _ f) ∙ at

scoped_of : (bs x y : List ℕ) → before_slash bs ≡ x → before_slash (after_slash bs) ≡ y → is_scoped bs ≡ true → (package_request bs).link ≡ x ++ 47 ∷ y
scoped_of bs x y front back e =
    ap (λ (r : PackageRequest). r.link) (cond-true (is_scoped bs) _ _ e) ∙ ap (λ z. scoped_link z (before_slash (after_slash bs))) front ∙ ap (scoped_link x) back ∙ append_assoc x (47 ∷ []) y

not_scoped : (bs : List ℕ) (u : ℕ) (us : List ℕ) → bs ≡ u ∷ us → (u == 64) ≡ false → is_scoped bs ≡ false
not_scoped bs u us is e = ap is_scoped is ∙ and_right (not (length (u ∷ us) == 0)) (u == 64) e

is_scoped_text : (r : List ℕ) → is_scoped (64 ∷ r) ≡ true
is_scoped_text r =
    let some : (length (64 ∷ r) == 0) ≡ false = false_from_ne_true (length (64 ∷ r) == 0) (λ d. let none = eqb-true (length (64 ∷ r)) 0 d in absurd (omega (arith, none))) in
    ap (λ b. not b && true) some

-- BOTH FORMS

-- a request whose link is a package's name is no path, has the same link in UTF-8, and is the built-in module in both forms or in none
pub record Bridges (text l : List ℕ) : Type 0 where
  pub path : is_relative (utf8_of text) ≡ false
  pub link : (package_request (utf8_of text)).link ≡ l
  pub builtin : run.is_builtin text ≡ false → is_builtin (utf8_of text) ≡ false

-- a plain name alone
plain_alone : (l : List ℕ) → IsPlain l → Bridges l l
plain_alone l h =
    let same = ascii_bytes l h.part.ascii in
    let before : before_slash (utf8_of l) ≡ l = ap before_slash same ∙ before_none l h.part.whole in
    record {
      path = no_path (utf8_of l) h.head h.tail (before ∙ h.is) h.no_dot;
      link = plain_link (utf8_of l) l before (not_scoped (utf8_of l) h.head h.tail (same ∙ h.is) h.no_scope);
      builtin = λ f. ap is_builtin same ∙ f;
    }

in_utf8 : (x y : List ℕ) → AllAscii x → utf8_of (x ++ 47 ∷ y) ≡ x ++ 47 ∷ utf8_of y
in_utf8 x y h = ascii_front x (47 ∷ y) h ∙ ap (λ t. x ++ t) (ascii_front (47 ∷ []) y (omega arith, tt))

-- a plain name before a slash
plain_before : (l y : List ℕ) → IsPlain l → Bridges (l ++ 47 ∷ y) l
plain_before l y h =
    let same = in_utf8 l y h.part.ascii in
    let before : before_slash (utf8_of (l ++ 47 ∷ y)) ≡ l = ap before_slash same ∙ before_cut l (utf8_of y) h.part.whole in
    record {
      path = no_path (utf8_of (l ++ 47 ∷ y)) h.head h.tail (before ∙ h.is) h.no_dot;
      link = plain_link (utf8_of (l ++ 47 ∷ y)) l before
          (not_scoped (utf8_of (l ++ 47 ∷ y)) h.head (h.tail ++ 47 ∷ utf8_of y) (same ∙ ap (λ z. z ++ 47 ∷ utf8_of y) h.is) h.no_scope);
      builtin = λ f. ap is_builtin same ∙ no_builtin l (utf8_of y);
    }

-- a text is this, or begins with it and a slash
abbrev Follows : (y z : List ℕ) → Type 0
Follows y z = (y ≡ z) ⊎ ((w : List ℕ) × (y ≡ z ++ 47 ∷ w))

before_in_utf8 : (y z : List ℕ) → IsPart z → Follows y z → before_slash (utf8_of y) ≡ z
before_in_utf8 y z h (inl e) = ap (λ t. before_slash (utf8_of t)) e ∙ ap before_slash (ascii_bytes z h.ascii) ∙ before_none z h.whole
before_in_utf8 y z h (inr e) = ap (λ t. before_slash (utf8_of t)) e.1 ∙ ap before_slash (in_utf8 z e.0 h.ascii) ∙ before_cut z (utf8_of e.0) h.whole

-- a name of two parts
scoped_before : (x y z : List ℕ) → IsPart (64 ∷ x) → IsPart z → Follows y z → Bridges ((64 ∷ x) ++ 47 ∷ y) ((64 ∷ x) ++ 47 ∷ z)
scoped_before x y z h k f =
    let text : List ℕ = (64 ∷ x) ++ 47 ∷ y in
    let same = in_utf8 (64 ∷ x) y h.ascii in
    let front : before_slash (utf8_of text) ≡ 64 ∷ x = ap before_slash same ∙ before_cut (64 ∷ x) (utf8_of y) h.whole in
    let behind : after_slash (utf8_of text) ≡ utf8_of y = ap after_slash same ∙ after_cut (64 ∷ x) (utf8_of y) h.whole in
    record {
      path = no_path (utf8_of text) 64 x front refl;
      link = scoped_of (utf8_of text) (64 ∷ x) z front (ap before_slash behind ∙ before_in_utf8 y z k f) (ap is_scoped same ∙ is_scoped_text (x ++ 47 ∷ utf8_of y));
      builtin = λ f. ap is_builtin same ∙ no_builtin (64 ∷ x) (utf8_of y);
    }

-- REQUESTS

record IsSecond (y z : List ℕ) : Type 0 where
  front : NoSlash z
  more : List (List ℕ)
  parts : parts_of y ≡ z ∷ more
  follows : Follows y z

second : (y : List ℕ) → Cut y → (z : List ℕ) × IsSecond y z
second y (inl h) = (y, record { front = h; more = []; parts = one_part y h; follows = inl refl })
second y (inr c) = (
  c.0,
  record {
    front = c.2.front;
    more = parts_of c.1;
    parts = ap parts_of c.2.is ∙ first_part c.0 c.1 c.2.front;
    follows = inr (c.1, c.2.is);
  },
)

bridge_alone : (text l : List ℕ) → NoSlash text → (link_of (parts_of text)).0 ≡ l → IsPlain l ⊎ IsScoped l → Bridges text l
bridge_alone text l h e n =
    let same : text ≡ l = sym (ap (λ ps. (link_of ps).0) (one_part text h)) ∙ e in
    ⊎_elim
    (λ (p : IsPlain l). subst (λ t. Bridges t l) (sym same) (plain_alone l p))
    (λ (s : IsScoped l). absurd (not_cut text (64 ∷ s.scope) s.name h (same ∙ s.is)))
    n

taken : (x z sub other : List ℕ) (b : Bool) → (cond {A = List ℕ × List ℕ} b (x ++ 47 ∷ z, sub) (x, other)).0 ≡ cond b (x ++ 47 ∷ z) x
taken x z sub other true = refl
taken x z sub other false = refl

link_cut : (x y z : List ℕ) → NoSlash x → (s : IsSecond y z) → (link_of (parts_of (x ++ 47 ∷ y))).0 ≡ cond (is_scope x) (x ++ 47 ∷ z) x
link_cut x y z h s =
    ap (λ ps. (link_of ps).0) (first_part x y h) ∙ ap (λ ps. (link_of (x ∷ ps)).0) s.parts ∙ taken x z (joined_parts s.more) (joined_parts (z ∷ s.more)) (is_scope x)

bridge_scope : (x y z l : List ℕ) → NoSlash x → IsSecond y z → x ++ 47 ∷ z ≡ l → IsPlain l ⊎ IsScoped l → Bridges (x ++ 47 ∷ y) l
bridge_scope x y z l h s e (inl p) = absurd (not_cut l x z p.part.whole (sym e))
bridge_scope x y z l h s e (inr n) =
    let whole = e ∙ n.is in
    let front : x ≡ 64 ∷ n.scope = same_front x z (64 ∷ n.scope) n.name h n.front.whole whole in
    let back : z ≡ n.name = same_back x z (64 ∷ n.scope) n.name h n.front.whole whole in
    let follows : Follows y n.name = subst (Follows y) back s.follows in
    subst (λ t. Bridges (t ++ 47 ∷ y) l) (sym front) (subst (Bridges ((64 ∷ n.scope) ++ 47 ∷ y)) (sym n.is) (scoped_before n.scope y n.name n.front n.back follows))

bridge_plain : (x y l : List ℕ) → NoSlash x → x ≡ l → IsPlain l ⊎ IsScoped l → Bridges (x ++ 47 ∷ y) l
bridge_plain x y l h e (inl p) = subst (λ t. Bridges (t ++ 47 ∷ y) l) (sym e) (plain_before l y p)
bridge_plain x y l h e (inr n) = absurd (not_cut x (64 ∷ n.scope) n.name h (e ∙ n.is))

bridge_cut : (x y z l : List ℕ) → NoSlash x → IsSecond y z → (link_of (parts_of (x ++ 47 ∷ y))).0 ≡ l → IsPlain l ⊎ IsScoped l → Bridges (x ++ 47 ∷ y) l
bridge_cut x y z l h s e n =
    let link = sym (link_cut x y z h s) ∙ e in
    ⊎_elim
    (λ b. bridge_scope x y z l h s (sym (cond-true (is_scope x) (x ++ 47 ∷ z) x b) ∙ link) n)
    (λ b. bridge_plain x y l h (sym (cond-false (is_scope x) (x ++ 47 ∷ z) x b) ∙ link) n)
    (cases_Bool (is_scope x))

bridge_by : (text l : List ℕ) → (link_of (parts_of text)).0 ≡ l → IsPlain l ⊎ IsScoped l → Cut text → Bridges text l
bridge_by text l e n (inl h) = bridge_alone text l h e n
bridge_by text l e n (inr c) =
    let next = second c.1 (cut c.1) in
    subst (λ t. Bridges t l) (sym c.2.is) (bridge_cut c.0 c.1 next.0 l c.2.front next.1 (sym (ap (λ t. (link_of (parts_of t)).0) c.2.is) ∙ e) n)

pub bridge : (text l : List ℕ) → (link_of (parts_of text)).0 ≡ l → is_package_name l ≡ true → Bridges text l
bridge text l e n = bridge_by text l e (named l n) (cut text)

-- KINDS

pub of_package : (text l : List ℕ) → Bridges text l → run.is_builtin text ≡ false → request_kind (utf8_of text) ≡ Package
of_package text l b f =
    cond-false (is_relative (utf8_of text)) Relative (cond (is_builtin (utf8_of text)) Builtin Package) b.path
    ∙ cond-false (is_builtin (utf8_of text)) Builtin Package (b.builtin f)

pub of_builtin : (text : List ℕ) → run.is_builtin text ≡ true → request_kind (utf8_of text) ≡ Builtin
of_builtin text is =
    ⊎_elim
    (λ e. ap (λ t. request_kind (utf8_of t)) ((bytes_eq-Decides text (codes "fs")).0 e) ∙ ap request_kind (ascii_bytes (codes "fs") (omega arith, (omega arith, tt))))
    (λ e. ap (λ t. request_kind (utf8_of t)) ((bytes_eq-Decides text (codes "node:fs")).0 e) ∙ ap request_kind (ascii_bytes (codes "node:fs") (omega arith, (omega arith, (omega arith, (omega arith, (omega arith, (omega arith, (omega arith, tt)))))))))
    (or_cases (same_units text (codes "fs")) (same_units text (codes "node:fs")) is)

-- Values, keys, globals and modules, one behind the other, are read back.
use Rattle.std.proofs.Common.{◌≡◌, ℕ, suc, ◌<◌, ◌≤◌, ◌^◌, ◌==◌, Bool, true, false, not, cond, List, [], ◌∷◌, ◌++◌, codes, decimal, length, get_or, map, refl, ap, ◌∙◌, sym, subst, arith, length-append}
use Rattle.std.proofs.lemmas.Bool.{and_from, and_right}
use Rattle.std.proofs.lemmas.List.{append_assoc}
use Rattle.std.specs.List.{AllByRecursion, flat_map}
use Rattle.lava_base.specs.declared.ids.MadeSymbol.{MadeSymbol}
use Rattle.lava_base.specs.declared.ids.Ref.{Ref}
use Rattle.js_text.specs.declared.value.Key.{Key}
use Rattle.js_text.specs.declared.value.Key.TheVariants as key
use Rattle.js_text.specs.declared.value.Symbol.TheVariants as symbol
use Rattle.js_text.specs.declared.value.Value.{Value}
use Rattle.lava_journal.specs.Bodies.{Pieces, all_spaced, global_items, key_pieces, keys_pieces, module_items, plain, spaced, value_pieces}
use Rattle.lava_journal.specs.Quotes.{quoted}
use Rattle.lava_journal.specs.Sheets.{Plain, TraceNames}
use Rattle.lava_trace.specs.Items.{behind_space, global_at, globals_at, is_left, key_at, key_begins, keys_at, module_at, modules_at, parted_key_at, parted_keys_at, spaced_key_at, spaced_text_at, spaced_value_at, text_at, value_at, values_at}
use Rattle.lava_trace.specs.Left.{Got, Left, number_at, skipped}
use Rattle.lava_trace.specs.Many.{many}
use Rattle.lava_trace_laws.specs.Sound.{IsText, Sound_global, Sound_key, Sound_module, Sound_value}
use Rattle.lava_trace_laws.specs.Spelled.{Closed, HaveNames, Listed, Place, Reads, at, passed, spelled}
use Rattle.lava_trace_laws.proofs.Name_laws.{closed_digit, number_read}
use Rattle.lava_trace_laws.proofs.Sequence_laws.{Last, Starts, StartsLast, behind_one, both, passed_append, reads_as, rest_names, spelled_append}
use Rattle.lava_trace_laws.proofs.Text_laws.{OneRead, many_reads, run, some, text_read}
use Rattle.lava_trace_laws.proofs.Value_laws.{key_reads, value_reads}

-- behind a space
pub spaced_value_reads : (v : Value Ref MadeSymbol) → Sound_value v → Reads spaced_value_at (spaced (value_pieces v)) v
unfolding spaced spaced_value_at
spaced_value_reads v o = behind_one value_at (value_pieces v) v (value_reads v o)

pub spaced_key_reads : (k : Key MadeSymbol) → Sound_key k → Reads spaced_key_at (spaced (key_pieces k)) k
unfolding spaced spaced_key_at
spaced_key_reads k o = behind_one key_at (key_pieces k) k (key_reads k o)

pub text_reads : (t : List ℕ) → IsText t → Reads text_at (plain (quoted t)) t
text_reads t o listed c q h e = text_read t (spelled c.names listed q) c.marks c.named o

pub spaced_text_reads : (t : List ℕ) → IsText t → Reads spaced_text_at (spaced (plain (quoted t))) t
unfolding spaced spaced_text_at
spaced_text_reads t o = behind_one text_at (plain (quoted t)) t (text_reads t o)

pub number_reads : (n : ℕ) → n < 2 ^ 64 → Reads (λ l. number_at (skipped 1 l)) (spaced (plain (decimal n))) n
unfolding spaced
number_reads n o listed c q h e = number_read n (spelled c.names listed q) c.marks c.named o (closed_digit (get_or (spelled c.names listed q) 0 0) e)

-- things behind spaces are closed in front
pub all_start : (ps : List (Pieces Ref MadeSymbol)) → Starts (all_spaced ps)
unfolding all_spaced spaced
all_start [] listed c q e = e
all_start (p ∷ ps) listed c q e = refl

pub all_start_last : (ps : List (Pieces Ref MadeSymbol)) → StartsLast (all_spaced ps)
unfolding all_spaced spaced
all_start_last [] listed names = refl
all_start_last (p ∷ ps) listed names = refl

-- VALUES UP TO THE END OF THE LINE

abbrev spaced_values : List (Value Ref MadeSymbol) → Pieces Ref MadeSymbol
spaced_values vs = all_spaced (map value_pieces vs)

values_long : (listed : Listed) (c : Place) (vs : List (Value Ref MadeSymbol)) → length vs ≤ length (spelled c.names listed (spaced_values vs))
unfolding all_spaced spaced
values_long listed c [] = omega arith
values_long listed c (v ∷ vs) =
    let d = passed listed c (value_pieces v) in
    let cut = ap length (spelled_append listed c (value_pieces v) (spaced_values vs)) in
    let joined = length-append (spelled c.names listed (value_pieces v)) (spelled d.names listed (spaced_values vs)) in
    let more = values_long listed d vs in
    omega (arith, cut, joined, more)

values_run : (listed : Listed) (c : Place) (vs : List (Value Ref MadeSymbol)) → run (λ (d : Place) v. passed listed d (value_pieces v)) c vs ≡ passed listed c (spaced_values vs)
unfolding all_spaced spaced
values_run listed c [] = refl
values_run listed c (v ∷ vs) = values_run listed (passed listed c (value_pieces v)) vs ∙ sym (passed_append listed c (value_pieces v) (spaced_values vs))

pub values_read : (vs : List (Value Ref MadeSymbol)) → AllByRecursion Sound_value vs → Last values_at (spaced_values vs) vs
unfolding values_at all_spaced spaced
values_read vs o listed c h =
    many_reads is_left spaced_value_at (λ d ws. at listed d (spaced_values ws)) (λ d v. passed listed d (value_pieces v)) (λ d ws. HaveNames d.names (spaced_values ws) × AllByRecursion Sound_value ws)
    (λ d v ws ok. record {
      begun = some _;
      is_read = spaced_value_reads v ok.1.0 listed d (spaced_values ws) ok.0 (all_start_last (map value_pieces ws) listed (passed listed d (value_pieces v)).names);
      others = (rest_names listed d (spaced (value_pieces v)) (spaced_values ws) ok.0, ok.1.1);
    })
    (λ d ok. refl)
    (length (spelled c.names listed (spaced_values vs))) c vs (values_long listed c vs) (h, o)
    ∙ ap (λ (d : Place). (vs, at listed d [])) (values_run listed c vs)

-- AS MANY AS A NUMBER SAYS

many_exact : {X C : Type 0} (begins : Left → Bool) (thing : Left → Got X) (st : C → List X → Left) (next : C → X → C) (ok : C → List X → Type 0)
    → ((c : C) (x : X) (xs : List X) → ok c (x ∷ xs) → OneRead begins thing st next ok c x xs)
    → (c : C) (xs : List X) → ok c xs → many begins thing (length xs) (st c xs) ≡ (xs, st (run next c xs) [])
unfolding many
many_exact begins thing st next ok one c [] o = refl
many_exact {X = X} begins thing st next ok one c (x ∷ xs) o =
    let first = one c x xs o in
    let l = st c (x ∷ xs) in
    let n = length xs in
    ap (λ t. cond t ((thing l).0 ∷ (many begins thing n (thing l).1).0, (many begins thing n (thing l).1).1) ([], l)) first.begun
    ∙ ap (λ (g : Got X). (g.0 ∷ (many begins thing n g.1).0, (many begins thing n g.1).1)) first.is_read
    ∙ ap (λ (g : Got (List X)). (x ∷ g.0, g.1)) (many_exact begins thing st next ok one (next c x) xs first.others)

-- things, each behind a space
abbrev each_spaced : {X : Type 0} → (X → Pieces Ref MadeSymbol) → List X → Pieces Ref MadeSymbol
each_spaced body xs = flat_map (λ x. Plain (codes " ") ∷ body x) xs

each_starts : {X : Type 0} (body : X → Pieces Ref MadeSymbol) (xs : List X) → Starts (each_spaced body xs)
each_starts body [] listed c q e = e
each_starts body (x ∷ xs) listed c q e = refl

each_run : {X : Type 0} (body : X → Pieces Ref MadeSymbol) (listed : Listed) (c : Place) (xs : List X) → run (λ (d : Place) x. passed listed d (body x)) c xs ≡ passed listed c (each_spaced body xs)
each_run body listed c [] = refl
each_run body listed c (x ∷ xs) = each_run body listed (passed listed c (body x)) xs ∙ sym (passed_append listed c (body x) (each_spaced body xs))

abbrev counted : {X : Type 0} → (Left → Got X) → Left → Got (List X)
counted thing l = many is_left thing (number_at (skipped 1 l)).0 (number_at (skipped 1 l)).1

counted_reads : {X : Type 0} (thing : Left → Got X) (body : X → Pieces Ref MadeSymbol) (sound : X → Type 0)
    → ((x : X) → sound x → Reads thing (Plain (codes " ") ∷ body x) x)
    → (xs : List X) → length xs < 2 ^ 64 → AllByRecursion sound xs
    → Reads (counted thing) (spaced (plain (decimal (length xs))) ++ each_spaced body xs) xs
unfolding spaced
counted_reads {X = X} thing body sound each xs few o listed c q h e =
    let digits : Pieces Ref MadeSymbol = spaced (plain (decimal (length xs))) in
    let closed = each_starts body xs listed c q e in
    ap (λ (g : Got ℕ). many is_left thing g.0 g.1) (number_reads (length xs) few listed c (each_spaced body xs ++ q) h closed)
    ∙ many_exact is_left thing (λ d ys. at listed d (each_spaced body ys ++ q)) (λ (d : Place) x. passed listed d (body x))
    (λ d ys. HaveNames d.names (each_spaced body ys ++ q) × AllByRecursion sound ys × Closed (spelled (passed listed d (each_spaced body ys)).names listed q))
    (λ d x ys ok.
    let one : Pieces Ref MadeSymbol = Plain (codes " ") ∷ body x in
    let names = subst (λ ps. HaveNames d.names ps) (append_assoc one (each_spaced body ys) q) ok.0 in
    let behind = subst (λ (k : Place). Closed (spelled k.names listed q)) (passed_append listed d one (each_spaced body ys)) ok.2 in
    record {
      begun = some _;
      is_read = ap (λ ps. thing (at listed d ps)) (append_assoc one (each_spaced body ys) q)
          ∙ each x ok.1.0 listed d (each_spaced body ys ++ q) names (each_starts body ys listed (passed listed d one) q behind);
      others = (rest_names listed d one (each_spaced body ys ++ q) names, ok.1.1, behind);
    })
    c xs (rest_names listed c digits (each_spaced body xs ++ q) h, o, e)
    ∙ ap (λ (d : Place). (xs, at listed d q)) (each_run body listed c xs)

-- GLOBALS AND MODULES

abbrev pair_body : {X : Type 0} → (first second : X → Pieces Ref MadeSymbol) → X → Pieces Ref MadeSymbol
pair_body first second x = first x ++ (Plain (codes " ") ∷ second x)

one_starts : (ps : Pieces Ref MadeSymbol) → Starts (spaced ps)
unfolding spaced
one_starts ps listed c q e = refl

global_reads : (g : Key MadeSymbol × Value Ref MadeSymbol) → Sound_global g → Reads global_at (Plain (codes " ") ∷ pair_body (λ e. key_pieces e.0) (λ e. value_pieces e.1) g) g
unfolding global_at spaced
global_reads g o = both (λ k v. (k, v)) spaced_key_at spaced_value_at (spaced (key_pieces g.0)) (spaced (value_pieces g.1)) g.0 g.1 (spaced_key_reads g.0 o.0) (spaced_value_reads g.1 o.1) (one_starts (value_pieces g.1))

module_reads : (m : List ℕ × Value Ref MadeSymbol) → Sound_module m → Reads module_at (Plain (codes " ") ∷ pair_body (λ e. plain (quoted e.0)) (λ e. value_pieces e.1) m) m
unfolding module_at spaced
module_reads m o = both (λ k v. (k, v)) spaced_text_at spaced_value_at (spaced (plain (quoted m.0))) (spaced (value_pieces m.1)) m.0 m.1 (spaced_text_reads m.0 o.0) (spaced_value_reads m.1 o.1) (one_starts (value_pieces m.1))

paired : {X : Type 0} (first second : X → Pieces Ref MadeSymbol) (xs : List X) → each_spaced (pair_body first second) xs ≡ all_spaced (flat_map (λ x. first x ∷ second x ∷ []) xs)
unfolding all_spaced spaced
paired first second [] = refl
paired first second (x ∷ xs) =
    append_assoc (Plain (codes " ") ∷ first x) (Plain (codes " ") ∷ second x) (each_spaced (pair_body first second) xs)
    ∙ ap (λ l. (Plain (codes " ") ∷ first x) ++ ((Plain (codes " ") ∷ second x) ++ l)) (paired first second xs)

pub globals_read : (gs : List (Key MadeSymbol × Value Ref MadeSymbol)) → length gs < 2 ^ 64 → AllByRecursion Sound_global gs
    → Reads globals_at (spaced (plain (decimal (length gs))) ++ all_spaced (flat_map global_items gs)) gs
unfolding globals_at
globals_read gs few o =
    reads_as (counted global_at) _ _ gs (ap (λ l. spaced (plain (decimal (length gs))) ++ l) (paired (λ e. key_pieces e.0) (λ e. value_pieces e.1) gs))
    (counted_reads global_at (pair_body (λ e. key_pieces e.0) (λ e. value_pieces e.1)) Sound_global global_reads gs few o)

pub modules_read : (ms : List (List ℕ × Value Ref MadeSymbol)) → length ms < 2 ^ 64 → AllByRecursion Sound_module ms
    → Reads modules_at (spaced (plain (decimal (length ms))) ++ all_spaced (flat_map module_items ms)) ms
unfolding modules_at
modules_read ms few o =
    reads_as (counted module_at) _ _ ms (ap (λ l. spaced (plain (decimal (length ms))) ++ l) (paired (λ e. plain (quoted e.0)) (λ e. value_pieces e.1) ms))
    (counted_reads module_at (pair_body (λ e. plain (quoted e.0)) (λ e. value_pieces e.1)) Sound_module module_reads ms few o)

-- KEYS BETWEEN BRACKETS

key_first : (k : Key MadeSymbol) (listed : Listed) (c : Place) (q : Pieces Ref MadeSymbol) → key_begins (at listed c (key_pieces k ++ q)) ≡ true
key_first (key.Index n) listed c q = and_from _ _ (some _) refl
key_first (key.Text t) listed c q = and_from _ _ (some _) refl
key_first (key.Symbol symbol.Iterator) listed c q = and_from _ _ (some _) refl
key_first (key.Symbol (symbol.Registered t)) listed c q = and_from _ _ (some _) refl
key_first (key.Symbol (symbol.Made s)) listed c q = and_from _ _ (some _) refl

no_space : (k : Key MadeSymbol) (listed : Listed) (c : Place) (q : Pieces Ref MadeSymbol) → behind_space (at listed c (key_pieces k ++ q)) ≡ at listed c (key_pieces k ++ q)
unfolding behind_space
no_space (key.Index n) listed c q = refl
no_space (key.Text t) listed c q = refl
no_space (key.Symbol symbol.Iterator) listed c q = refl
no_space (key.Symbol (symbol.Registered t)) listed c q = refl
no_space (key.Symbol (symbol.Made s)) listed c q = refl

abbrev bracket : Pieces Ref MadeSymbol
bracket = plain (codes "]")

abbrev spaced_keys : List (Key MadeSymbol) → Pieces Ref MadeSymbol
spaced_keys ks = all_spaced (map key_pieces ks)

keys_long : (listed : Listed) (c : Place) (ks : List (Key MadeSymbol)) (q : Pieces Ref MadeSymbol) → length ks ≤ length (spelled c.names listed (spaced_keys ks ++ q))
unfolding all_spaced spaced
keys_long listed c [] q = omega arith
keys_long listed c (k ∷ ks) q =
    let d = passed listed c (key_pieces k) in
    let assoc = ap (λ ps. length (spelled c.names listed ps)) (append_assoc (key_pieces k) (spaced_keys ks) q) in
    let cut = ap length (spelled_append listed c (key_pieces k) (spaced_keys ks ++ q)) in
    let joined = length-append (spelled c.names listed (key_pieces k)) (spelled d.names listed (spaced_keys ks ++ q)) in
    let more = keys_long listed d ks q in
    omega (arith, assoc, cut, joined, more)

keys_run : (listed : Listed) (c : Place) (ks : List (Key MadeSymbol)) → run (λ (d : Place) k. passed listed d (key_pieces k)) c ks ≡ passed listed c (spaced_keys ks)
unfolding all_spaced spaced
keys_run listed c [] = refl
keys_run listed c (k ∷ ks) = keys_run listed (passed listed c (key_pieces k)) ks ∙ sym (passed_append listed c (key_pieces k) (spaced_keys ks))

behind_keys : (ks : List (Key MadeSymbol)) (q : Pieces Ref MadeSymbol) (listed : Listed) (names : TraceNames) → Closed (spelled names listed (spaced_keys ks ++ (bracket ++ q)))
unfolding all_spaced spaced
behind_keys [] q listed names = refl
behind_keys (k ∷ ks) q listed names = refl

-- keys behind spaces, up to the bracket
keys_left : (ks : List (Key MadeSymbol)) → AllByRecursion Sound_key ks → (listed : Listed) (c : Place) (q : Pieces Ref MadeSymbol) (n : ℕ) → length ks ≤ n
    → HaveNames c.names (spaced_keys ks ++ (bracket ++ q))
    → many key_begins parted_key_at n (at listed c (spaced_keys ks ++ (bracket ++ q))) ≡ (ks, at listed (passed listed c (spaced_keys ks)) (bracket ++ q))
unfolding all_spaced spaced parted_key_at behind_space
keys_left ks o listed c q n l h =
    many_reads key_begins parted_key_at (λ d js. at listed d (spaced_keys js ++ (bracket ++ q))) (λ (d : Place) k. passed listed d (key_pieces k))
    (λ d js. HaveNames d.names (spaced_keys js ++ (bracket ++ q)) × AllByRecursion Sound_key js)
    (λ d k js ok.
    let names = subst (λ ps. HaveNames d.names ps) (append_assoc (spaced (key_pieces k)) (spaced_keys js) (bracket ++ q)) ok.0 in
    record {
      begun = and_from _ _ (some _) refl;
      is_read = ap (λ ps. parted_key_at (at listed d ps)) (append_assoc (spaced (key_pieces k)) (spaced_keys js) (bracket ++ q))
          ∙ key_reads k ok.1.0 listed d (spaced_keys js ++ (bracket ++ q)) names.1 (behind_keys js q listed (passed listed d (key_pieces k)).names);
      others = (rest_names listed d (spaced (key_pieces k)) (spaced_keys js ++ (bracket ++ q)) names, ok.1.1);
    })
    (λ d ok. and_right (not (length (93 ∷ spelled d.names listed q) == 0)) false refl)
    n c ks l (h, o)
    ∙ ap (λ (d : Place). (ks, at listed d (bracket ++ q))) (keys_run listed c ks)

first_key : (k : Key MadeSymbol) → Sound_key k → Reads parted_key_at (key_pieces k) k
unfolding parted_key_at
first_key k o listed c q h e = ap (λ l. key_at l) (no_space k listed c q) ∙ key_reads k o listed c q h e

-- the keys at a place, by whether one begins there
abbrev keys_by : ℕ → Left → Bool → Got (List (Key MadeSymbol))
keys_by m l t = cond t ((parted_key_at l).0 ∷ (many key_begins parted_key_at m (parted_key_at l).1).0, (many key_begins parted_key_at m (parted_key_at l).1).1) ([], l)

abbrev closed_up : Got (List (Key MadeSymbol)) → Got (List (Key MadeSymbol))
closed_up g = (g.0, skipped 1 g.1)

pub keys_read : (ks : List (Key MadeSymbol)) → AllByRecursion Sound_key ks → Reads keys_at (keys_pieces ks) ks
unfolding keys_at parted_keys_at many
keys_read [] o listed c q h e =
    ap (λ (t : Bool). closed_up (keys_by (suc (length (spelled c.names listed q))) (at listed c (bracket ++ q)) t))
    (and_right (not (length (93 ∷ spelled c.names listed q) == 0)) false refl)
keys_read (k ∷ js) o listed c q h e =
    let tail = spaced_keys js ++ (bracket ++ q) in
    let ps = key_pieces k ++ tail in
    let assoc : ((key_pieces k ++ spaced_keys js) ++ bracket) ++ q ≡ ps =
    append_assoc (key_pieces k ++ spaced_keys js) bracket q ∙ append_assoc (key_pieces k) (spaced_keys js) (bracket ++ q) in
    let names = subst (λ (x : Pieces Ref MadeSymbol). HaveNames c.names x) assoc h.1 in
    let d = passed listed c (key_pieces k) in
    let m = length (spelled c.names listed ps) in
    let long : length js ≤ m = omega (arith, ap length (spelled_append listed c (key_pieces k) tail), length-append (spelled c.names listed (key_pieces k)) (spelled d.names listed tail), keys_long listed d js (bracket ++ q)) in
    ap (λ (x : Pieces Ref MadeSymbol). keys_at (at listed c (Plain (codes "[") ∷ x))) assoc
    ∙ ap (λ (t : Bool). closed_up (keys_by m (at listed c ps) t)) (key_first k listed c tail)
    ∙ ap (λ (g : Got (Key MadeSymbol)). (g.0 ∷ (many key_begins parted_key_at m g.1).0, skipped 1 (many key_begins parted_key_at m g.1).1))
    (first_key k o.0 listed c tail names (behind_keys js q listed d.names))
    ∙ ap (λ (g : Got (List (Key MadeSymbol))). (k ∷ g.0, skipped 1 g.1))
    (keys_left js o.1 listed d q m long (rest_names listed c (key_pieces k) tail names))
    ∙ ap (λ (x : Place). (k ∷ js, at listed x q))
    (sym (passed_append listed c (key_pieces k ++ spaced_keys js) bracket ∙ passed_append listed c (key_pieces k) (spaced_keys js)))

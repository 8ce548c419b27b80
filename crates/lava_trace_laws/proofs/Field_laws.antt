-- The fields of a descriptor, present or not, are read back.
use Rattle.std.proofs.Common.{◌≡◌, ℕ, ◌==◌, Bool, true, false, not, cond, is_some, List, [], ◌∷◌, ◌++◌, codes, length, get_or, Option, Some, None, IfSome, nat_eq, eq-eqb, refl, ap, ◌∙◌, sym, subst, arith}
use Rattle.std.proofs.lemmas.Bool.{and_left, and_from}
use Rattle.std.proofs.lemmas.Bool.Decides.{nat_tests}
use Rattle.std.proofs.lemmas.List.{append_assoc, append-nil, drop_at}
use Rattle.std.specs.Bool.{⊤}
use Rattle.std.specs.List.{starts_with}
use Rattle.lava_base.specs.declared.ids.MadeSymbol.{MadeSymbol}
use Rattle.lava_base.specs.declared.ids.Ref.{Ref}
use Rattle.js_text.specs.declared.value.Value.{Value}
use Rattle.lava_journal.specs.Bodies.{Pieces, all_fields, all_spaced, field, fields_pieces, object_or_undefined, parted, plain, property_pieces, spaced, truth_pieces, value_pieces}
use Rattle.js_desc.specs.Descriptors.{complete_property_descriptor, fields_of}
use Rattle.js_desc.specs.declared.descriptor.Descriptor.{Descriptor}
use Rattle.js_desc.specs.declared.descriptor.Descriptor.TheVariants.{Accessor, Data}
use Rattle.js_desc.specs.declared.descriptor.PartialDescriptor.{PartialDescriptor}
use Rattle.lava_journal.specs.Sheets.{Plain, TraceNames}
use Rattle.lava_trace.specs.Items.{behind_space, fields_at, flag_at, function_at, mark_at, object_or_word_at, property_at, truth_at, value_at, value_field_at}
use Rattle.lava_trace.specs.Left.{Got, Left, skipped}
use Rattle.lava_trace_laws.specs.Sound.{Sound_partial, Sound_property, Sound_value}
use Rattle.lava_trace_laws.specs.Spelled.{Closed, HaveNames, Listed, Place, Reads, at, passed, spelled}
use Rattle.lava_trace_laws.proofs.Name_laws.{left}
use Rattle.lava_trace_laws.proofs.Sequence_laws.{passed_append, rest_names}
use Rattle.lava_trace_laws.proofs.Value_laws.{truth_reads, undefined_reads, value_reads}

abbrev Fields : Type 0
Fields = List (Pieces Ref MadeSymbol)

-- the fields that are left, and what stands behind them
abbrev behind : Bool → Fields → Pieces Ref MadeSymbol → Pieces Ref MadeSymbol
behind any fs q = parted any fs ++ (Plain (codes "}") ∷ q)

-- no such byte is the first of these fields, nor of what stands behind them
abbrev pub BeginsNot : ℕ → Fields → Type 0
BeginsNot b fs = (listed : Listed) (c : Place) (q : Pieces Ref MadeSymbol) → (b == get_or (spelled c.names listed (behind false fs q)) 0 0) ≡ false

none_begins : (b : ℕ) → (b == 125) ≡ false → BeginsNot b []
none_begins b h listed c q = h

field_begins : {X : Type 0} (b first : ℕ) (word : List ℕ) (pieces : X → Pieces Ref MadeSymbol) (x : Option X) (rest : Fields)
    → (b == first) ≡ false → BeginsNot b rest → BeginsNot b (field (first ∷ word) pieces x ++ rest)
field_begins b first word pieces None rest h k listed c q = k listed c q
field_begins b first word pieces (Some x) rest h k listed c q = h

-- a word that does not stand there
no_word : (first : ℕ) (word bs : List ℕ) (m d : Listed) → (first == get_or bs 0 0) ≡ false → mark_at (first ∷ word) (left bs m d) ≡ (false, left bs m d)
unfolding mark_at
no_word first word [] m d h = refl
no_word first word (b ∷ bs) m d h =
    ap (λ t. cond t (true, skipped (length (first ∷ word)) (left (b ∷ bs) m d)) (false, left (b ∷ bs) m d)) (and_left (first == b) _ h)

stands : (w rest : List ℕ) → starts_with nat_eq (w ++ rest) w ≡ true
stands [] rest = refl
stands (b ∷ w) rest = and_from (nat_eq b b) _ (eq-eqb b b refl) (stands w rest)

-- a word that stands there
this_word : (w rest : List ℕ) (m d : Listed) → mark_at w (left (w ++ rest) m d) ≡ (true, left rest m d)
unfolding mark_at
this_word w rest m d =
    ap (λ t. cond t (true, skipped (length w) (left (w ++ rest) m d)) (false, left (w ++ rest) m d)) (stands w rest)
    ∙ ap (λ bs. (true, left bs m d)) (drop_at w rest (length w) refl)

other_way : (a b : ℕ) → (a == b) ≡ false → (b == a) ≡ false
other_way a b h = grind (arith, nat_tests)

-- a space is passed over
space_passed : (any : Bool) (fs : Fields) (listed : Listed) (c : Place) (q : Pieces Ref MadeSymbol) → BeginsNot 32 fs
    → behind_space (at listed c (behind any fs q)) ≡ at listed c (behind false fs q)
unfolding behind_space all_spaced spaced
space_passed true [] listed c q h = refl
space_passed true (f ∷ fs) listed c q h = refl
space_passed false fs listed c q h =
    let l = at listed c (behind false fs q) in
    ap (λ t. cond t (skipped 1 l) l) (other_way 32 (get_or l.bytes 0 0) (h listed c q))

-- A FIELD

-- what stands there of a field
abbrev pub present : {X : Type 0} → List ℕ → (X → Pieces Ref MadeSymbol) → Option X → Pieces Ref MadeSymbol
present name pieces None = []
present name pieces (Some x) = Plain name ∷ pieces x

abbrev by_mark : {X : Type 0} → (Left → Got X) → Got Bool → Got (Option X)
by_mark thing found = cond found.0 (Some (thing found.1).0, (thing found.1).1) (None, found.1)

behind_closed : (fs : Fields) (q : Pieces Ref MadeSymbol) (listed : Listed) (names : TraceNames) → Closed (spelled names listed (behind true fs q))
unfolding all_spaced spaced
behind_closed [] q listed names = refl
behind_closed (f ∷ fs) q listed names = refl

-- the first of some fields, if it is there, and the others
field_parts : {X : Type 0} (name : List ℕ) (pieces : X → Pieces Ref MadeSymbol) (x : Option X) (rest : Fields) (q : Pieces Ref MadeSymbol)
    → behind false (field name pieces x ++ rest) q ≡ present name pieces x ++ behind (is_some x) rest q
field_parts name pieces None rest q = refl
field_parts name pieces (Some x) rest q = append_assoc (Plain name ∷ pieces x) (all_spaced rest) (Plain (codes "}") ∷ q)

unspaced_names : (any : Bool) (fs : Fields) (q : Pieces Ref MadeSymbol) (names : TraceNames) → HaveNames names (behind any fs q) → HaveNames names (behind false fs q)
unfolding all_spaced spaced
unspaced_names true [] q names h = h
unspaced_names true (f ∷ fs) q names h = h.1
unspaced_names false fs q names h = h

next_names : {X : Type 0} (name : List ℕ) (pieces : X → Pieces Ref MadeSymbol) (x : Option X) (rest : Fields) (listed : Listed) (c : Place) (q : Pieces Ref MadeSymbol)
    → HaveNames c.names (behind false (field name pieces x ++ rest) q) → HaveNames (passed listed c (present name pieces x)).names (behind false rest q)
next_names name pieces x rest listed c q h =
    unspaced_names (is_some x) rest q (passed listed c (present name pieces x)).names
    (rest_names listed c (present name pieces x) (behind (is_some x) rest q) (subst (λ (ps : Pieces Ref MadeSymbol). HaveNames c.names ps) (field_parts name pieces x rest q) h))

-- the field is read where it stands, and else none is
first_field : {X : Type 0} (thing : Left → Got X) (first : ℕ) (word : List ℕ) (pieces : X → Pieces Ref MadeSymbol) (sound : X → Type 0) (x : Option X) (rest : Fields)
    → ((v : X) → sound v → Reads thing (pieces v) v) → IfSome x sound → BeginsNot first rest
    → (listed : Listed) (c : Place) (q : Pieces Ref MadeSymbol) → HaveNames c.names (behind false (field (first ∷ word) pieces x ++ rest) q)
    → by_mark thing (mark_at (first ∷ word) (at listed c (behind false (field (first ∷ word) pieces x ++ rest) q)))
    ≡ (x, at listed (passed listed c (present (first ∷ word) pieces x)) (behind (is_some x) rest q))
first_field thing first word pieces sound None rest each o not listed c q h =
    ap (by_mark thing) (no_word first word (spelled c.names listed (behind false rest q)) c.marks c.named (not listed c q))
first_field {X = X} thing first word pieces sound (Some v) rest each o not listed c q h =
    let parts = field_parts (first ∷ word) pieces (Some v) rest q in
    let names = subst (λ (ps : Pieces Ref MadeSymbol). HaveNames c.names ps) parts h in
    ap (λ (ps : Pieces Ref MadeSymbol). by_mark thing (mark_at (first ∷ word) (at listed c ps))) parts
    ∙ ap (by_mark thing) (this_word (first ∷ word) (spelled c.names listed (pieces v ++ behind true rest q)) c.marks c.named)
    ∙ ap (λ (g : Got X). (Some g.0, g.1)) (each v o listed c (behind true rest q) names.1 (behind_closed rest q listed (passed listed c (pieces v)).names))

-- the same behind a space, if one stands there
next_field : {X : Type 0} (thing : Left → Got X) (first : ℕ) (word : List ℕ) (pieces : X → Pieces Ref MadeSymbol) (sound : X → Type 0) (x : Option X) (rest : Fields)
    → ((v : X) → sound v → Reads thing (pieces v) v) → IfSome x sound → BeginsNot first rest → BeginsNot 32 rest → (32 == first) ≡ false
    → (any : Bool) (listed : Listed) (c : Place) (q : Pieces Ref MadeSymbol) → HaveNames c.names (behind false (field (first ∷ word) pieces x ++ rest) q)
    → by_mark thing (mark_at (first ∷ word) (behind_space (at listed c (behind any (field (first ∷ word) pieces x ++ rest) q))))
    ≡ (x, at listed (passed listed c (present (first ∷ word) pieces x)) (behind (is_some x) rest q))
next_field thing first word pieces sound x rest each o not blank letter any listed c q h =
    ap (λ l. by_mark thing (mark_at (first ∷ word) l)) (space_passed any (field (first ∷ word) pieces x ++ rest) listed c q (field_begins 32 first word pieces x rest letter blank))
    ∙ first_field thing first word pieces sound x rest each o not listed c q h

-- what is passed over with some fields
unspaced_passed : (any : Bool) (fs : Fields) (listed : Listed) (c : Place) → passed listed c (parted any fs) ≡ passed listed c (parted false fs)
unfolding all_spaced spaced
unspaced_passed true [] listed c = refl
unspaced_passed true (f ∷ fs) listed c = refl
unspaced_passed false fs listed c = refl

passed_field : {X : Type 0} (name : List ℕ) (pieces : X → Pieces Ref MadeSymbol) (x : Option X) (rest : Fields) (listed : Listed) (c : Place)
    → passed listed c (parted false (field name pieces x ++ rest)) ≡ passed listed (passed listed c (present name pieces x)) (parted false rest)
passed_field name pieces None rest listed c = refl
passed_field name pieces (Some x) rest listed c =
    passed_append listed c (Plain name ∷ pieces x) (all_spaced rest) ∙ unspaced_passed true rest listed (passed listed c (Plain name ∷ pieces x))

-- ALL FIELDS

if_anything : {X : Type 0} (x : Option X) → IfSome x (λ v. ⊤)
if_anything None = tt
if_anything (Some v) = tt

abbrev Flag : Type 0
Flag = Option Bool

abbrev Function : Type 0
Function = Option (Option Ref)

abbrev Property : Type 0
Property = PartialDescriptor Ref MadeSymbol

-- the fields from each of them on
abbrev from_configurable : Property → Fields
from_configurable d = field (codes "configurable=") truth_pieces d.configurable ++ []

abbrev from_enumerable : Property → Fields
from_enumerable d = field (codes "enumerable=") truth_pieces d.enumerable ++ from_configurable d

abbrev from_writable : Property → Fields
from_writable d = field (codes "writable=") truth_pieces d.writable ++ from_enumerable d

abbrev from_set : Property → Fields
from_set d = field (codes "set=") object_or_undefined d.set ++ from_writable d

abbrev from_get : Property → Fields
from_get d = field (codes "get=") object_or_undefined d.get ++ from_set d

abbrev from_value : Property → Fields
from_value d = field (codes "value=") value_pieces d.value ++ from_get d

in_order : (d : Property) → all_fields d ≡ from_value d
in_order d =
    let g : Fields = field (codes "get=") object_or_undefined d.get in
    let s : Fields = field (codes "set=") object_or_undefined d.set in
    let w : Fields = field (codes "writable=") truth_pieces d.writable in
    let e : Fields = field (codes "enumerable=") truth_pieces d.enumerable in
    let f : Fields = field (codes "configurable=") truth_pieces d.configurable in
    ap (λ l. field (codes "value=") value_pieces d.value ++ l)
    (append_assoc g s (w ++ (e ++ f)) ∙ ap (λ l. g ++ (s ++ (w ++ (e ++ l)))) (sym (append-nil f)))

-- a byte that is the first of no field from here on
no_configurable : (b : ℕ) (d : Property) → (b == 125) ≡ false → (b == 99) ≡ false → BeginsNot b (from_configurable d)
no_configurable b d z f = field_begins b 99 (codes "onfigurable=") truth_pieces d.configurable [] f (none_begins b z)

no_enumerable : (b : ℕ) (d : Property) → (b == 125) ≡ false → (b == 99) ≡ false → (b == 101) ≡ false → BeginsNot b (from_enumerable d)
no_enumerable b d z f e = field_begins b 101 (codes "numerable=") truth_pieces d.enumerable (from_configurable d) e (no_configurable b d z f)

no_writable : (b : ℕ) (d : Property) → (b == 125) ≡ false → (b == 99) ≡ false → (b == 101) ≡ false → (b == 119) ≡ false → BeginsNot b (from_writable d)
no_writable b d z f e w = field_begins b 119 (codes "ritable=") truth_pieces d.writable (from_enumerable d) w (no_enumerable b d z f e)

no_set : (b : ℕ) (d : Property) → (b == 125) ≡ false → (b == 99) ≡ false → (b == 101) ≡ false → (b == 119) ≡ false → (b == 115) ≡ false → BeginsNot b (from_set d)
no_set b d z f e w s = field_begins b 115 (codes "et=") object_or_undefined d.set (from_writable d) s (no_writable b d z f e w)

no_get : (b : ℕ) (d : Property) → (b == 125) ≡ false → (b == 99) ≡ false → (b == 101) ≡ false → (b == 119) ≡ false → (b == 115) ≡ false → (b == 103) ≡ false → BeginsNot b (from_get d)
no_get b d z f e w s g = field_begins b 103 (codes "et=") object_or_undefined d.get (from_set d) g (no_set b d z f e w s)

nothing_left : (any : Bool) (listed : Listed) (c : Place) (q : Pieces Ref MadeSymbol) → at listed c (behind any [] q) ≡ at listed c (Plain (codes "}") ∷ q)
unfolding all_spaced
nothing_left true listed c q = refl
nothing_left false listed c q = refl

abbrev made_of : Option (Value Ref MadeSymbol) → Function → Function → Flag → Flag → Got Flag → Got Property
made_of v g s w e x = (record { value = v; writable = w; get = g; set = s; enumerable = e; configurable = x.0 }, skipped 1 x.1)

abbrev made_4 : Option (Value Ref MadeSymbol) → Function → Function → Flag → Got Flag → Got Property
made_4 v g s w x = made_of v g s w x.0 (flag_at (codes "configurable=") x.1)

abbrev made_3 : Option (Value Ref MadeSymbol) → Function → Function → Got Flag → Got Property
made_3 v g s x = made_4 v g s x.0 (flag_at (codes "enumerable=") x.1)

abbrev made_2 : Option (Value Ref MadeSymbol) → Function → Got Function → Got Property
made_2 v g x = made_3 v g x.0 (flag_at (codes "writable=") x.1)

abbrev made_1 : Option (Value Ref MadeSymbol) → Got Function → Got Property
made_1 v x = made_2 v x.0 (function_at (codes "set=") x.1)

abbrev made_0 : Got (Option (Value Ref MadeSymbol)) → Got Property
made_0 x = made_1 x.0 (function_at (codes "get=") x.1)

pub fields_read : (d : Property) → Sound_partial d → Reads fields_at (fields_pieces d) d
unfolding fields_at value_field_at function_at flag_at
fields_read d o listed c q h e =
    let order : (parted false (all_fields d) ++ plain (codes "}")) ++ q ≡ behind false (from_value d) q =
    append_assoc (parted false (all_fields d)) (plain (codes "}")) q ∙ ap (λ (l : Fields). behind false l q) (in_order d) in
    let n0 = subst (λ (ps : Pieces Ref MadeSymbol). HaveNames c.names ps) order h.1 in
    let c1 = passed listed c (present (codes "value=") value_pieces d.value) in
    let n1 = next_names (codes "value=") value_pieces d.value (from_get d) listed c q n0 in
    let c2 = passed listed c1 (present (codes "get=") object_or_undefined d.get) in
    let n2 = next_names (codes "get=") object_or_undefined d.get (from_set d) listed c1 q n1 in
    let c3 = passed listed c2 (present (codes "set=") object_or_undefined d.set) in
    let n3 = next_names (codes "set=") object_or_undefined d.set (from_writable d) listed c2 q n2 in
    let c4 = passed listed c3 (present (codes "writable=") truth_pieces d.writable) in
    let n4 = next_names (codes "writable=") truth_pieces d.writable (from_enumerable d) listed c3 q n3 in
    let c5 = passed listed c4 (present (codes "enumerable=") truth_pieces d.enumerable) in
    let n5 = next_names (codes "enumerable=") truth_pieces d.enumerable (from_configurable d) listed c4 q n4 in
    let c6 = passed listed c5 (present (codes "configurable=") truth_pieces d.configurable) in
    ap (λ (ps : Pieces Ref MadeSymbol). fields_at (at listed c (Plain (codes "{") ∷ ps))) order
    ∙ ap made_0 (first_field value_at 118 (codes "alue=") value_pieces Sound_value d.value (from_get d) value_reads o (no_get 118 d refl refl refl refl refl refl) listed c q n0)
    ∙ ap (made_1 d.value) (next_field (object_or_word_at 9) 103 (codes "et=") object_or_undefined (λ v. ⊤) d.get (from_set d) (λ v t. undefined_reads v) (if_anything d.get)
    (no_set 103 d refl refl refl refl refl) (no_set 32 d refl refl refl refl refl) refl (is_some d.value) listed c1 q n1)
    ∙ ap (made_2 d.value d.get) (next_field (object_or_word_at 9) 115 (codes "et=") object_or_undefined (λ v. ⊤) d.set (from_writable d) (λ v t. undefined_reads v) (if_anything d.set)
    (no_writable 115 d refl refl refl refl) (no_writable 32 d refl refl refl refl) refl (is_some d.get) listed c2 q n2)
    ∙ ap (made_3 d.value d.get d.set) (next_field truth_at 119 (codes "ritable=") truth_pieces (λ v. ⊤) d.writable (from_enumerable d) (λ v t. truth_reads v) (if_anything d.writable)
    (no_enumerable 119 d refl refl refl) (no_enumerable 32 d refl refl refl) refl (is_some d.set) listed c3 q n3)
    ∙ ap (made_4 d.value d.get d.set d.writable) (next_field truth_at 101 (codes "numerable=") truth_pieces (λ v. ⊤) d.enumerable (from_configurable d) (λ v t. truth_reads v) (if_anything d.enumerable)
    (no_configurable 101 d refl refl) (no_configurable 32 d refl refl) refl (is_some d.writable) listed c4 q n4)
    ∙ ap (made_of d.value d.get d.set d.writable d.enumerable) (next_field truth_at 99 (codes "onfigurable=") truth_pieces (λ v. ⊤) d.configurable [] (λ v t. truth_reads v) (if_anything d.configurable)
    (none_begins 99 refl) (none_begins 32 refl) refl (is_some d.enumerable) listed c5 q n5)
    ∙ ap (λ l. (d, skipped 1 l)) (nothing_left (is_some d.configurable) listed c6 q)
    ∙ ap (λ (k : Place). (d, at listed k q)) (sym
    (passed_append listed c (parted false (all_fields d)) (plain (codes "}")) ∙ ap (λ (l : Fields). passed listed c (parted false l)) (in_order d)
    ∙ passed_field (codes "value=") value_pieces d.value (from_get d) listed c
    ∙ passed_field (codes "get=") object_or_undefined d.get (from_set d) listed c1
    ∙ passed_field (codes "set=") object_or_undefined d.set (from_writable d) listed c2
    ∙ passed_field (codes "writable=") truth_pieces d.writable (from_enumerable d) listed c3
    ∙ passed_field (codes "enumerable=") truth_pieces d.enumerable (from_configurable d) listed c4
    ∙ passed_field (codes "configurable=") truth_pieces d.configurable [] listed c5))

completed : (d : Descriptor Ref MadeSymbol) → complete_property_descriptor (fields_of d) ≡ d
completed (Data v w e f) = refl
completed (Accessor g s e f) = refl

pub property_reads : (d : Option (Descriptor Ref MadeSymbol)) → Sound_property d → Reads property_at (property_pieces d) d
unfolding property_at
property_reads None o listed c q h e = refl
property_reads (Some d) o listed c q h e =
    ap (λ (g : Got Property). (Some (complete_property_descriptor g.0), g.1)) (fields_read (fields_of d) o listed c q h e)
    ∙ ap (λ (x : Descriptor Ref MadeSymbol). (Some x, at listed (passed listed c (fields_pieces (fields_of d))) q)) (completed d)

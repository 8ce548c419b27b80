-- Rows that are added.
use Rattle.std.proofs.Common.{◌≡◌, ℕ, ◌+◌, ◌<◌, ◌≤◌, Bool, List, [], ◌∷◌, ◌++◌, map, length, get_or, take, drop, Result, Ok, Err, IfOk, refl, sym, ap, ◌∙◌, subst, ⊎_elim, length-append, arith}
use Rattle.std.proofs.lemmas.Bool.{cases_lt}
use Rattle.std.proofs.lemmas.List.{get_or-append-add, append-nil}
use Rattle.js_code.specs.Tables.{Tables, node_at, part_of}
use Rattle.js_code.specs.Decoded.{arguments_at, arguments_of, class_at, class_of, layer_of, loop_at, loop_of, no_argument_row, no_class_row, no_guarded_row, no_template_row, no_turn_row, part_of_row, parts_of, template_at, template_of, term_at, text_at, try_at, try_of}
use Rattle.js_code.specs.Settled.{Added, AddedRows, Extends, Grows, HasTerm, Holds, IsFounded, IsFront, IsSettled, Reading}
use Rattle.js_code.specs.declared.node.ArgumentRow.{ArgumentRow}
use Rattle.js_code.specs.declared.node.ClassRow.{ClassRow}
use Rattle.js_code.specs.declared.node.GuardedRow.{GuardedRow}
use Rattle.js_code.specs.declared.node.Node.{Node}
use Rattle.js_code.specs.declared.node.Node.TheVariants as node
use Rattle.js_code.specs.declared.node.PartRow.{PartRow}
use Rattle.js_code.specs.declared.node.TemplateRow.{TemplateRow}
use Rattle.js_code.specs.declared.node.TurnRow.{TurnRow}
use Rattle.js_code.proofs.Fronts.{front_fewer, front_part, front_reads, nodes_grow, texts_grow, numbers_grow, arguments_grow, parts_grow, templates_grow, classes_grow, turns_grow, guarded_grow}
use Rattle.js_code.proofs.Founded.{extended, founded_more, rolled, settled_grown}
use Rattle.js_term.specs.Layers.{TermLayer}
use Rattle.js_term.specs.declared.term.Term.{Term, roll-Term}

module _ {A E : Type 0} where
  pub added_front : (xs ys : List A) (x : A) (r : Result ℕ E) → Added xs ys x r → IsFront xs ys
  added_front xs ys x (Ok at) a = record { rest = x ∷ []; is = a.ok }
  added_front xs ys x (Err e) a = record { rest = []; is = a.err ∙ sym (append-nil xs) }

  pub added_rows_front : (xs ys rows : List A) (r : Result (ℕ × ℕ) E) → AddedRows xs ys rows r → IsFront xs ys
  added_rows_front xs ys rows (Ok at) a = record { rest = rows; is = a.ok }
  added_rows_front xs ys rows (Err e) a = record { rest = []; is = a.err ∙ sym (append-nil xs) }

module _ {A : Type 0} where
  pub new_row : (xs ys : List A) (x d : A) (at : ℕ) → ys ≡ xs ++ x ∷ [] → at ≡ length xs → get_or ys at d ≡ x
  new_row xs ys x d at e l = ap (λ l. get_or l at d) e ∙ (ap (λ n. get_or (xs ++ x ∷ []) n d) (l ∙ omega arith) ∙ get_or-append-add xs (x ∷ []) 0 d)

  pub new_within : (xs ys : List A) (x : A) (at : ℕ) → ys ≡ xs ++ x ∷ [] → at ≡ length xs → at < length ys
  new_within xs ys x at e l = omega (arith, l, ap length e, length-append xs (x ∷ []))

  all_taken : (rows : List A) → take (length rows) rows ≡ rows
  all_taken [] = refl
  all_taken (x ∷ rows) = ap (λ l. x ∷ l) (all_taken rows)

  all_dropped : (xs rows : List A) → drop (length xs) (xs ++ rows) ≡ rows
  all_dropped [] rows = refl
  all_dropped (x ∷ xs) rows = all_dropped xs rows

  pub new_rows : (xs ys rows : List A) (start count : ℕ) → ys ≡ xs ++ rows → start ≡ length xs → count ≡ length rows → part_of start count ys ≡ rows
  new_rows xs ys rows start count e s n =
      (λ i. part_of (s i) (n i) (e i)) ∙ (ap (take (length rows)) (all_dropped xs rows) ∙ all_taken rows)

  pub new_rows_within : (xs ys rows : List A) (start count : ℕ) → ys ≡ xs ++ rows → start ≡ length xs → count ≡ length rows → start + count ≤ length ys
  new_rows_within xs ys rows start count e s n = omega (arith, s, n, ap length e, length-append xs rows)

-- A ROW OF ANY TABLE

module _ {R A E : Type 0} (table : Tables → List R) (front : (c d : Tables) → Grows c d → IsFront (table c) (table d)) where
  pub row_pushed : (none : R) (read : Tables → (ℕ → Term) → R → A) (c d : Tables) (row : R) (r : Result ℕ E)
      → Extends c d → Added (table c) (table d) row r → IsSettled (λ b low. read b low row) c (length c.nodes)
      → IfOk r (λ at. Holds (λ b low. read b low (get_or (table b) at none)) d (read c (term_at c) row))
  row_pushed none read c d row (Err e) extends added settled = tt
  row_pushed none read c d row (Ok at) extends added settled =
      let same : get_or (table d) at none ≡ row = new_row (table c) (table d) row none at added.ok added.place in
      let within : at < length (table d) = new_within (table c) (table d) row at added.ok added.place in
      let later : IsSettled (λ b low. read b low row) d (length d.nodes) = settled_grown (λ b low. read b low row) c d (length c.nodes) (length d.nodes) extends.grows (front_fewer extends.grows.nodes) settled in
      record {
        settled = λ e grows f g agree.
            ap (read e f) (front_reads (front d e grows) none at within ∙ same)
            ∙ (later e grows f g agree ∙ sym (ap (read d g) same));
        is = ap (read d (term_at d)) same ∙ settled d extends.grows (term_at d) (term_at c) extends.terms;
      }

  pub rows_pushed : (read : Tables → (ℕ → Term) → List R → A) (c d : Tables) (rows : List R) (r : Result (ℕ × ℕ) E)
      → Extends c d → AddedRows (table c) (table d) rows r → IsSettled (λ b low. read b low rows) c (length c.nodes)
      → IfOk r (λ at. Holds (λ b low. read b low (part_of at.0 at.1 (table b))) d (read c (term_at c) rows))
  rows_pushed read c d rows (Err e) extends added settled = tt
  rows_pushed read c d rows (Ok at) extends added settled =
      let same : part_of at.0 at.1 (table d) ≡ rows = new_rows (table c) (table d) rows at.0 at.1 added.ok added.start added.count in
      let within : at.0 + at.1 ≤ length (table d) = new_rows_within (table c) (table d) rows at.0 at.1 added.ok added.start added.count in
      let later : IsSettled (λ b low. read b low rows) d (length d.nodes) = settled_grown (λ b low. read b low rows) c d (length c.nodes) (length d.nodes) extends.grows (front_fewer extends.grows.nodes) settled in
      record {
        settled = λ e grows f g agree.
            ap (read e f) (front_part (front d e grows) at.0 at.1 within ∙ same)
            ∙ (later e grows f g agree ∙ sym (ap (read d g) same));
        is = ap (read d (term_at d)) same ∙ settled d extends.grows (term_at d) (term_at c) extends.terms;
      }

-- A NODE

abbrev layer : (k : ℕ) → Reading TermLayer
layer k d low = layer_of d low (node_at d k)

-- a settled row at a place settles the place
place_settled : (c d : Tables) (row : Node) (k : ℕ) → Grows c d → k < length d.nodes → node_at d k ≡ row → k ≤ k → IsSettled (λ b low. layer_of b low row) d k → IsSettled (layer k) d k
place_settled c d row k grows within same l settled e more f g agree =
    ap (layer_of e f) (front_reads more.nodes node.Outside k within ∙ same)
    ∙ (settled e more f g agree ∙ sym (ap (layer_of d g) same))

node_founded_at : (c d : Tables) (row : Node) → IsFounded c → IsSettled (λ b low. layer_of b low row) c (length c.nodes) → Grows c d → d.nodes ≡ c.nodes ++ row ∷ [] → (k : ℕ) → k < length d.nodes → IsSettled (layer k) d k
node_founded_at c d row founded fits grows e k l =
    ⊎_elim
    (λ (b : k < length c.nodes). settled_grown (layer k) c d k k grows (omega arith) (founded.nodes k b))
    (λ (b : length c.nodes ≤ k).
    let last : k ≡ length c.nodes = omega (arith, b, l, ap length e, length-append c.nodes (row ∷ [])) in
    place_settled c d row k grows l (new_row c.nodes d.nodes row node.Outside k e last) (omega arith)
    (settled_grown (λ b low. layer_of b low row) c d (length c.nodes) k grows (omega (arith, last)) fits))
    (cases_lt k (length c.nodes))

node_founded : (c d : Tables) (row : Node) → IsFounded c → IsSettled (λ b low. layer_of b low row) c (length c.nodes) → Grows c d → d.templates ≡ c.templates → d.nodes ≡ c.nodes ++ row ∷ [] → IsFounded d
node_founded c d row founded fits grows same e = record {
  nodes = node_founded_at c d row founded fits grows e;
  templates = λ k l. let b : k < length c.templates = omega (arith, l, ap length same) in
      settled_grown (λ b low. template_at b low k) c d (length c.nodes) (length d.nodes) grows (front_fewer grows.nodes) (founded.templates k b);
}

-- A TEMPLATE

template_row_settled : (c d : Tables) (row : TemplateRow) → Grows c d → d.templates ≡ c.templates ++ row ∷ [] → IsSettled (λ b low. template_of b low row) d (length d.nodes) → (k : ℕ) → k < length d.templates → k ≡ length c.templates
    → IsSettled (λ b low. template_at b low k) d (length d.nodes)
template_row_settled c d row grows e settled k l last a more f g agree =
    let same = new_row c.templates d.templates row no_template_row k e last in
    ap (template_of a f) (front_reads more.templates no_template_row k l ∙ same)
    ∙ (settled a more f g agree ∙ sym (ap (template_of d g) same))

template_founded : (c d : Tables) (row : TemplateRow) → IsFounded c → IsSettled (λ b low. template_of b low row) c (length c.nodes) → Grows c d → d.nodes ≡ c.nodes → d.templates ≡ c.templates ++ row ∷ [] → IsFounded d
template_founded c d row founded fits grows same e = record {
  nodes = λ k l. let b : k < length c.nodes = omega (arith, l, ap length same) in settled_grown (layer k) c d k k grows (omega arith) (founded.nodes k b);
  templates = λ k l.
      ⊎_elim
      (λ (b : k < length c.templates). settled_grown (λ b low. template_at b low k) c d (length c.nodes) (length d.nodes) grows (front_fewer grows.nodes) (founded.templates k b))
      (λ (b : length c.templates ≤ k).
      template_row_settled c d row grows e (settled_grown (λ b low. template_of b low row) c d (length c.nodes) (length d.nodes) grows (front_fewer grows.nodes) fits) k l (omega (arith, b, l, ap length e, length-append c.templates (row ∷ []))))
      (cases_lt k (length c.templates));
}

-- WHAT A PUSH GIVES

pub record Pushed {X E : Type 0} (c d : Tables) (r : Result X E) (P : X → Type 0) : Type 0 where
  pub founded : IsFounded d
  pub extends : Extends c d
  pub ok : IfOk r P

module _ {E : Type 0} where
  pub node_pushed : (c old : Tables) → c ≡ old → IsFounded c → (items : List Node) (row : Node) (r : Result ℕ E) → IsSettled (λ b low. layer_of b low row) old (length old.nodes) → Added c.nodes items row r
      → Pushed old (record c { nodes = items }) r (λ at. HasTerm (record c { nodes = items }) at (roll-Term (layer_of old (term_at old) row)))
  node_pushed c old e founded items row (Err x) fits added =
      let r : Result ℕ E = Err x in
      let d : Tables = record c { nodes = items } in
      let grows : Grows c d = nodes_grow c items (added_front c.nodes items row r added) in
      subst (λ o. Pushed o d r (λ at. HasTerm d at (roll-Term (layer_of o (term_at o) row)))) e
      (record { founded = founded_more c d founded grows added.err refl; extends = extended c d founded grows; ok = tt })
  node_pushed c old e founded items row (Ok at) fits added =
      let r : Result ℕ E = Ok at in
      let d : Tables = record c { nodes = items } in
      let grows : Grows c d = nodes_grow c items (added_front c.nodes items row r added) in
      let fit : IsSettled (λ b low. layer_of b low row) c (length c.nodes) = subst (λ o. IsSettled (λ b low. layer_of b low row) o (length o.nodes)) (sym e) fits in
      let after : IsFounded d = node_founded c d row founded fit grows refl added.ok in
      let extends : Extends c d = extended c d founded grows in
      subst (λ o. Pushed o d r (λ k. HasTerm d k (roll-Term (layer_of o (term_at o) row)))) e
      (record {
        founded = after;
        extends = extends;
        ok = record {
          within = new_within c.nodes items row at added.ok added.place;
          is = rolled d after at
              ∙ ap roll-Term (ap (layer_of d (term_at d)) (new_row c.nodes items row node.Outside at added.ok added.place)
              ∙ fit d grows (term_at d) (term_at c) extends.terms);
        };
      })

  template_more : (c : Tables) (items : List TemplateRow) (row : TemplateRow) (r : Result ℕ E) → IsFounded c → IsSettled (λ b low. template_of b low row) c (length c.nodes) → Added c.templates items row r
      → Grows c (record c { templates = items }) → IsFounded (record c { templates = items })
  template_more c items row (Err e) founded fits added grows = founded_more c (record c { templates = items }) founded grows refl added.err
  template_more c items row (Ok at) founded fits added grows = template_founded c (record c { templates = items }) row founded fits grows refl added.ok

  template_within : (c : Tables) (items : List TemplateRow) (row : TemplateRow) (r : Result ℕ E) → Added c.templates items row r → IfOk r (λ at. at < length items)
  template_within c items row (Err e) added = tt
  template_within c items row (Ok at) added = new_within c.templates items row at added.ok added.place

  pub text_within : (xs ys : List (List ℕ)) (row : List ℕ) (r : Result ℕ E) → Added xs ys row r → IfOk r (λ at. at < length ys)
  text_within xs ys row (Err e) added = tt
  text_within xs ys row (Ok at) added = new_within xs ys row at added.ok added.place

  pub text_pushed : (c old : Tables) → c ≡ old → IsFounded c → (items : List (List ℕ)) (row : (List ℕ)) (r : Result ℕ E) → IsSettled (λ b low. row) old (length old.nodes) → Added c.texts items row r
      → Pushed old (record c { texts = items }) r (λ at. Holds (λ b low. text_at b at) (record c { texts = items }) (row))
  text_pushed c old e founded items row r fits added =
      let d : Tables = record c { texts = items } in
      let grows : Grows c d = texts_grow c items (added_front c.texts items row r added) in
      let fit : IsSettled (λ b low. row) c (length c.nodes) = subst (λ o. IsSettled (λ b low. row) o (length o.nodes)) (sym e) fits in
      let extends : Extends c d = extended c d founded grows in
      subst (λ old. Pushed old d r (λ at. Holds (λ b low. text_at b at) d (row))) e
      (record {
        founded = founded_more c d founded grows refl refl;
        extends = extends;
        ok = row_pushed (λ b. b.texts) (λ a b g. g.texts) [] (λ b low row. row) c d row r extends added fit;
      })

  pub argument_pushed : (c old : Tables) → c ≡ old → IsFounded c → (items : List ArgumentRow) (row : ArgumentRow) (r : Result ℕ E) → IsSettled (λ b low. arguments_of b low row) old (length old.nodes) → Added c.arguments items row r
      → Pushed old (record c { arguments = items }) r (λ at. Holds (λ b low. arguments_at b low at) (record c { arguments = items }) (arguments_of old (term_at old) row))
  argument_pushed c old e founded items row r fits added =
      let d : Tables = record c { arguments = items } in
      let grows : Grows c d = arguments_grow c items (added_front c.arguments items row r added) in
      let fit : IsSettled (λ b low. arguments_of b low row) c (length c.nodes) = subst (λ o. IsSettled (λ b low. arguments_of b low row) o (length o.nodes)) (sym e) fits in
      let extends : Extends c d = extended c d founded grows in
      subst (λ old. Pushed old d r (λ at. Holds (λ b low. arguments_at b low at) d (arguments_of old (term_at old) row))) e
      (record {
        founded = founded_more c d founded grows refl refl;
        extends = extends;
        ok = row_pushed (λ b. b.arguments) (λ a b g. g.arguments) no_argument_row (λ b low row. arguments_of b low row) c d row r extends added fit;
      })

  pub template_pushed : (c old : Tables) → c ≡ old → IsFounded c → (items : List TemplateRow) (row : TemplateRow) (r : Result ℕ E) → IsSettled (λ b low. template_of b low row) old (length old.nodes) → Added c.templates items row r
      → Pushed old (record c { templates = items }) r (λ at. Holds (λ b low. template_at b low at) (record c { templates = items }) (template_of old (term_at old) row))
  template_pushed c old e founded items row r fits added =
      let d : Tables = record c { templates = items } in
      let grows : Grows c d = templates_grow c items (added_front c.templates items row r added) in
      let fit : IsSettled (λ b low. template_of b low row) c (length c.nodes) = subst (λ o. IsSettled (λ b low. template_of b low row) o (length o.nodes)) (sym e) fits in
      let extends : Extends c d = extended c d founded grows in
      subst (λ old. Pushed old d r (λ at. Holds (λ b low. template_at b low at) d (template_of old (term_at old) row))) e
      (record {
        founded = template_more c items row r founded fit added grows;
        extends = extends;
        ok = row_pushed (λ b. b.templates) (λ a b g. g.templates) no_template_row (λ b low row. template_of b low row) c d row r extends added fit;
      })

  pub class_pushed : (c old : Tables) → c ≡ old → IsFounded c → (items : List ClassRow) (row : ClassRow) (r : Result ℕ E) → IsSettled (λ b low. class_of b low row) old (length old.nodes) → Added c.classes items row r
      → Pushed old (record c { classes = items }) r (λ at. Holds (λ b low. class_at b low at) (record c { classes = items }) (class_of old (term_at old) row))
  class_pushed c old e founded items row r fits added =
      let d : Tables = record c { classes = items } in
      let grows : Grows c d = classes_grow c items (added_front c.classes items row r added) in
      let fit : IsSettled (λ b low. class_of b low row) c (length c.nodes) = subst (λ o. IsSettled (λ b low. class_of b low row) o (length o.nodes)) (sym e) fits in
      let extends : Extends c d = extended c d founded grows in
      subst (λ old. Pushed old d r (λ at. Holds (λ b low. class_at b low at) d (class_of old (term_at old) row))) e
      (record {
        founded = founded_more c d founded grows refl refl;
        extends = extends;
        ok = row_pushed (λ b. b.classes) (λ a b g. g.classes) no_class_row (λ b low row. class_of b low row) c d row r extends added fit;
      })

  pub guarded_pushed : (c old : Tables) → c ≡ old → IsFounded c → (items : List GuardedRow) (row : GuardedRow) (r : Result ℕ E) → IsSettled (λ b low. try_of b low row) old (length old.nodes) → Added c.guarded items row r
      → Pushed old (record c { guarded = items }) r (λ at. Holds (λ b low. try_at b low at) (record c { guarded = items }) (try_of old (term_at old) row))
  guarded_pushed c old e founded items row r fits added =
      let d : Tables = record c { guarded = items } in
      let grows : Grows c d = guarded_grow c items (added_front c.guarded items row r added) in
      let fit : IsSettled (λ b low. try_of b low row) c (length c.nodes) = subst (λ o. IsSettled (λ b low. try_of b low row) o (length o.nodes)) (sym e) fits in
      let extends : Extends c d = extended c d founded grows in
      subst (λ old. Pushed old d r (λ at. Holds (λ b low. try_at b low at) d (try_of old (term_at old) row))) e
      (record {
        founded = founded_more c d founded grows refl refl;
        extends = extends;
        ok = row_pushed (λ b. b.guarded) (λ a b g. g.guarded) no_guarded_row (λ b low row. try_of b low row) c d row r extends added fit;
      })

  pub turn_pushed : (first : Bool) (c old : Tables) → c ≡ old → IsFounded c → (items : List TurnRow) (row : TurnRow) (r : Result ℕ E) → IsSettled (λ b low. loop_of b low first row) old (length old.nodes) → Added c.turns items row r
      → Pushed old (record c { turns = items }) r (λ at. Holds (λ b low. loop_at b low first at) (record c { turns = items }) (loop_of old (term_at old) first row))
  turn_pushed first c old e founded items row r fits added =
      let d : Tables = record c { turns = items } in
      let grows : Grows c d = turns_grow c items (added_front c.turns items row r added) in
      let fit : IsSettled (λ b low. loop_of b low first row) c (length c.nodes) = subst (λ o. IsSettled (λ b low. loop_of b low first row) o (length o.nodes)) (sym e) fits in
      let extends : Extends c d = extended c d founded grows in
      subst (λ old. Pushed old d r (λ at. Holds (λ b low. loop_at b low first at) d (loop_of old (term_at old) first row))) e
      (record {
        founded = founded_more c d founded grows refl refl;
        extends = extends;
        ok = row_pushed (λ b. b.turns) (λ a b g. g.turns) no_turn_row (λ b low row. loop_of b low first row) c d row r extends added fit;
      })

  -- rows of a table that no place rests on
  pub numbers_pushed : {A : Type 0} (read : Tables → (ℕ → Term) → List ℕ → A) (c old : Tables) → c ≡ old → IsFounded c → (items rows : List ℕ) (r : Result (ℕ × ℕ) E) → IsSettled (λ b low. read b low rows) old (length old.nodes) → AddedRows c.numbers items rows r
      → Pushed old (record c { numbers = items }) r (λ at. Holds (λ b low. read b low (part_of at.0 at.1 b.numbers)) (record c { numbers = items }) (read old (term_at old) rows))
  numbers_pushed read c old e founded items rows r fits added =
      let d : Tables = record c { numbers = items } in
      let grows : Grows c d = numbers_grow c items (added_rows_front c.numbers items rows r added) in
      let fit : IsSettled (λ b low. read b low rows) c (length c.nodes) = subst (λ o. IsSettled (λ b low. read b low rows) o (length o.nodes)) (sym e) fits in
      let extends : Extends c d = extended c d founded grows in
      subst (λ old. Pushed old d r (λ at. Holds (λ b low. read b low (part_of at.0 at.1 b.numbers)) d (read old (term_at old) rows))) e
      (record { founded = founded_more c d founded grows refl refl; extends = extends; ok = rows_pushed (λ b. b.numbers) (λ a b g. g.numbers) read c d rows r extends added fit })

  pub parts_pushed : (c old : Tables) → c ≡ old → IsFounded c → (items rows : List PartRow) (r : Result (ℕ × ℕ) E) → IsSettled (λ b low. map (part_of_row b low) rows) old (length old.nodes) → AddedRows c.parts items rows r
      → Pushed old (record c { parts = items }) r (λ at. Holds (λ b low. parts_of b low at.0 at.1) (record c { parts = items }) (map (part_of_row old (term_at old)) rows))
  parts_pushed c old e founded items rows r fits added =
      let d : Tables = record c { parts = items } in
      let grows : Grows c d = parts_grow c items (added_rows_front c.parts items rows r added) in
      let fit : IsSettled (λ b low. map (part_of_row b low) rows) c (length c.nodes) = subst (λ o. IsSettled (λ b low. map (part_of_row b low) rows) o (length o.nodes)) (sym e) fits in
      let extends : Extends c d = extended c d founded grows in
      subst (λ old. Pushed old d r (λ at. Holds (λ b low. parts_of b low at.0 at.1) d (map (part_of_row old (term_at old)) rows))) e
      (record { founded = founded_more c d founded grows refl refl; extends = extends; ok = rows_pushed (λ b. b.parts) (λ a b g. g.parts) (λ b low rows. map (part_of_row b low) rows) c d rows r extends added fit })

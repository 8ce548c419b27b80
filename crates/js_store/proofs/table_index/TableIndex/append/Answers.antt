use Rattle.std.proofs.Common.{◌≡◌, ◌++◌, [], ◌∷◌, Some, ap, cond, length, take, ◌∙◌, arith}
use Rattle.js_store.proofs.Index_laws.{alike, append_kept, first_ones, live_within, unchanged_kept}
use Rattle.js_store.proofs.table_index.TableIndex.append.Goals as goal
use Rattle.js_store.proofs.table_index.TableIndex.append.Goals.{in-Ok, in-Err}
use Rattle.js_store.specs.Indexed.{noted}
use Rattle.js_store.specs.declared.table_index.TableIndex.{TableIndex}

pub overflow_add-self : goal.overflow_add-self
overflow_add-self c =
    let few = live_within c.args.self.now c.args.entries.now c.requires.kept in
    let len = c.len-at.ensures in
    let room = c.if-at.false in
    omega (arith, few, len, room)

pub returns-clause-kept : goal.returns-clause-kept
returns-clause-kept c = elim c.match-insert.branch [
  | in-Ok w ↦
      let fits = c.if-at.false in
      let len : c.len-at.result ≡ length c.args.entries.now = c.len-at.ensures in
      append_kept c.args.self.now c.args.entries.now c.requires.kept c.args.key.0 c.args.value c.in_ok-live_place.field-0 c.match-insert.entries (w.entries-is ∙ c.in_ok-push.ensures.ok) c.in_ok-live_place.ensures c.requires.missing (omega (arith, len, fits))
      c.match-insert.self (λ q. ap (λ (s : TableIndex). noted s q) w.self-is ∙ w.in-Ok.ensures.updates.0 (record { 0 = q }) ∙ ap (λ n. cond (alike c.args.key.0 q) (Some n) (noted c.args.self.now q)) len) (ap (λ (s : TableIndex). s.live) w.self-is)
  | in-Err w ↦
      unchanged_kept c.args.self.now c.args.entries.now c.requires.kept c.match-insert.self (ap (λ (s : TableIndex). s.places.entries) w.self-is ∙ w.in-Err.ensures.err) (ap (λ (s : TableIndex). s.live) w.self-is)
      c.match-insert.entries (w.entries-is ∙ w.truncate.ensures ∙ ap (take c.len-at.result) c.in_ok-push.ensures.ok ∙ ap (λ n. take n (c.args.entries.now ++ c.in_ok-live_place.field-0 ∷ [])) c.len-at.ensures ∙ first_ones c.args.entries.now c.in_ok-live_place.field-0)
]

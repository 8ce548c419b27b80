-- A new object goes last, and its party has one number more.
use Rattle.std.proofs.Common.{◌≡◌, ◌++◌, ◌∷◌, [], None, ap, subst, sym, ◌∙◌}
use Rattle.std.specs.Map.{lookup}
use Rattle.indexmap.specs.IndexMap.{insert_entry}
use Rattle.lava_base.specs.Ids.{same_ref}
use Rattle.lava_base.specs.declared.ids.Ref.TheVariants.{Own}
use Rattle.lava_journal.specs.Counts.{Counts}
use Rattle.lava_journal.specs.Sheets.{count_of, known_object, number_at_start}
use Rattle.lava_journal.proofs.Count_laws.{goes_last, object_counted, second_none}
use Rattle.lava_journal.proofs.numbers.Numbers.add_object.Goals as goal

entries : (c : goal.In_ok-insert) → c.insert.new.self.entries ≡ c.self.inside.objects.entries ++ (Own c.args.party c.args.id, c.in_ok-number.number) ∷ []
entries c =
    let r = Own c.args.party c.args.id in
    let none = second_none (number_at_start c.args.party.0 c.args.id.0) (lookup (same_ref r) c.self.inside.objects.entries)
    (subst (λ v. known_object v c.args.party c.args.id ≡ None) (sym c.self.view_is) c.requires) in
    c.in_ok-insert.ensures.entries ∙ ap (λ l. insert_entry same_ref l r c.in_ok-number.number) c.in_ok-reserve.ensures.entries
    ∙ goes_last same_ref r c.in_ok-number.number c.self.inside.objects.entries none

pub invariant_of-self-2 : goal.invariant_of-self-2
invariant_of-self-2 c =
    subst (λ l. Counts c.take_number.new.counts.entries l c.self.inside.symbols.entries) (sym (entries c))
    (object_counted c.self.inside.counts.entries c.take_number.new.counts.entries c.self.inside.objects.entries c.self.inside.symbols.entries
    c.args.party c.args.id c.in_ok-number.number c.self.invariant c.in_ok-number.ensures.counts)

pub returns-clause-names : goal.returns-clause-names
returns-clause-names c =
    let e = entries c in
    let n = c.in_ok-number.ensures.number ∙ c.self.invariant.right c.args.party.0 in
    subst (λ v. record { objects = c.insert.new.self.entries; symbols = c.self.inside.symbols.entries; shown = c.self.inside.shown.keys }
    ≡ record { objects = v.objects ++ (Own c.args.party c.args.id, count_of v c.args.party.0) ∷ []; symbols = v.symbols; shown = v.shown }) c.self.view_is
    (λ k. record { objects = (e ∙ ap (λ m. c.self.inside.objects.entries ++ (Own c.args.party c.args.id, m) ∷ []) n) k; symbols = c.self.inside.symbols.entries; shown = c.self.inside.shown.keys })

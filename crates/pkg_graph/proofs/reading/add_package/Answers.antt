use Rattle.std.proofs.Common.{◌≡◌, [], ◌∷◌, ◌++◌, map, string_bytes, rules, bytes_eq, ap, ◌∙◌}
use Rattle.std.specs.List.{list_any}
use Rattle.pkg_graph.specs.Reading.{Reading, with_package}
use Rattle.pkg_graph.proofs.ReadingLemmas.{texts_more}
use Rattle.pkg_graph.proofs.reading.add_package.Goals as goal

pub returns : goal.returns
returns c =
    let was = c.reading.inside in
    let new = ap (λ (r : Reading). list_any (bytes_eq c.args.dir) r.dirs) c.reading.view_is ∙ c.requires in
    let text : string_bytes c.in_ok-from_str.field-0 ≡ c.args.dir = search rules in
    let dirs : map string_bytes c.insert.new.self.keys ≡ map string_bytes was.dirs.keys ++ c.args.dir ∷ [] =
    texts_more was.dirs.keys c.insert.new.self.keys c.in_ok-from_str.field-0 c.args.dir c.in_ok-insert.ensures.keys text new in
    let mains : c.push.new.self ≡ was.mains ++ c.args.manifest.main ∷ [] = search rules in
    let waiting : c.push_back.new.self.items ≡ was.waiting.items ++ record { dir = c.args.dir; names = c.args.manifest.names } ∷ [] = search rules in
    let view : Reading = record { dirs = map string_bytes was.dirs.keys; mains = was.mains; waiting = was.waiting.items; links = was.links } in
    let more : record { dirs = map string_bytes c.insert.new.self.keys; mains = c.push.new.self; waiting = c.push_back.new.self.items; links = was.links } ≡ with_package view c.args.dir c.args.manifest =
    λ i. record { dirs = dirs i; mains = mains i; waiting = waiting i; links = was.links } in
    more ∙ ap (λ (r : Reading). with_package r c.args.dir c.args.manifest) c.reading.view_is

use Rattle.std.proofs.Common.{◌∙◌, sym, ap}
use Rattle.js_text.specs.Naming.{naming_of}
use Rattle.js_ordinary.specs.Targets.{object_seen}
use Rattle.js_machine.specs.js_run.Functions.{items_from, length_read, own_data}
use Rattle.js_machine_calls.proofs.listed_arguments.item_count.Goals as goal

pub returns : goal.returns
returns g c =
    let names = naming_of c.args.machine.now.me in
    let o = object_seen c.args.machine.now.objects c.args.machine.now.common c.args.target in
    let count = c.length_read-count.ensures ∙ ap length_read (c.in_ok-length.ensures ∙ ap (own_data names o) c.in_ok-key.ensures) in
    ap (items_from names o 0) (sym count)

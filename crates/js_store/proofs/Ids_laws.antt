-- Ids keep their meaning.
use Rattle.std.proofs.Common.{ℕ, ◌<◌, List, [], ◌∷◌, ◌++◌, length}
use Rattle.std.proofs.Math.Seq.{get_or-append_seam}
use Rattle.std.proofs.lemmas.List.{length-set, length_push, get_or-set_same, get_or-set_other, get_or_append_left}
use Rattle.js_store.specs.Laws.{IsOneChanged, IsOneMore}
use Rattle.js_store.specs.Objects.{Object, object_at, at_place}

pub one_changed : {R S : Type 0} (objects : List (Object R S)) (id : ℕ) (f : Object R S → Object R S) → id < length objects → IsOneChanged objects (at_place objects id f) id f
one_changed objects id f lt = record {
  count = length-set objects id (f (object_at objects id));
  changed = get_or-set_same objects id (f (object_at objects id)) _ lt;
  others = λ other apart. get_or-set_other objects id other (f (object_at objects id)) _ apart;
}

pub one_more : {R S : Type 0} (objects : List (Object R S)) (o : Object R S) → IsOneMore objects (objects ++ o ∷ []) o
one_more objects o = record {
  count = length_push objects o;
  made = get_or-append_seam objects o [] _;
  others = λ other lt. get_or_append_left objects (o ∷ []) _ other lt;
}

-- One more step of reading a list or a map: what was read goes before what is left.
use Rattle.std.proofs.Common.{◌≡◌, ℕ, List, [], ◌∷◌, ◌++◌, Ok, Err, refl, sym, ap, ◌∙◌, append_assoc}
use Rattle.serde_json.specs.Data.{Data, Members, member}
use Rattle.flow_model.specs.Mapping.{map_values}
use Rattle.flow_model.proofs.Conversions.{joined}
use Rattle.plan_documents.specs.Parts.{Reading, and_then, map_read, within, pairs_read, pair_members}

-- one before a list, and others before that
map_read-before : {A : Type 0} (done : List A) (a : A) (left : Reading (List A)) → map_read (λ xs. done ++ xs) (map_read (λ xs. a ∷ xs) left) ≡ map_read (λ xs. (done ++ a ∷ []) ++ xs) left
map_read-before done a (Ok xs) = ap Ok (sym (append_assoc done (a ∷ []) xs))
map_read-before done a (Err path) = refl

pub pair_step : {A : Type 0} (of : Data → Reading A) (done : List (List ℕ × A)) (k : List ℕ) (a : A) (d : Data) (left : Members) (all : Reading (List (List ℕ × A)))
    → map_read (λ ps. done ++ ps) (pairs_read of (member k d left)) ≡ all → within k (of d) ≡ Ok a → map_read (λ ps. (done ++ (k, a) ∷ []) ++ ps) (pairs_read of left) ≡ all
pair_step {A} of done k a d left all e h =
    let rest = pairs_read of left in
    sym (map_read-before done (k, a) rest)
    ∙ ap (λ (r : Reading A). map_read (λ ps. done ++ ps) (and_then (λ b. map_read (λ ps. (k, b) ∷ ps) rest) r)) (sym h) ∙ e

-- the members of an object of pairs
pub joined-map_values : {A : Type 0} (write : A → Data) (ps : List (List ℕ × A)) → joined (map_values write ps) ≡ pair_members write ps
joined-map_values write [] = refl
joined-map_values write (p ∷ ps) = ap (member p.0 (write p.1)) (joined-map_values write ps)

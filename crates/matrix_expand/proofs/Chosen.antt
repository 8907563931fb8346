-- A choice, variable by variable.
use Rattle.std.proofs.Common.{◌≡◌, ◌∙◌, ◌<◌, ◌+◌, ◌/◌, ◌%◌, ◌++◌, ℕ, Bool, true, false, List, [], ◌∷◌, drop, Option, Some, length, get_or, refl, ap, sym, cond, append_assoc}
use Rattle.std.proofs.lemmas.List.{drop_more}
use Rattle.std.proofs.lemmas.Option.{get_or_from_slice_get, slice_get_read}
use Rattle.std.proofs.lemmas.Map.Text.{is_eq-slice_cmp}
use Rattle.std.specs.Borrow.{Bor}
use Rattle.std.specs.Str.{bytes_eq}
use Rattle.flow_model.specs.Mapping.{Ascends, keys_of, value_at}
use Rattle.flow_model.specs.Plain.{Plain, null}
use Rattle.matrix_expand.specs.Choices.{choice, row_pairs}
use Rattle.matrix_expand.specs.Combos.{Pairs, Variables}
use Rattle.matrix_expand.specs.Expands.{size}

at_front : (name : List ℕ) (k : List ℕ) (x : Plain) (c : Pairs) (b : Bool) → bytes_eq name k ≡ b → value_at name ((k, x) ∷ c) ≡ cond b (Some x) (value_at name c)
at_front name k x c b e = ap (λ t. cond t (Some x) (value_at name c)) (is_eq-slice_cmp name k ∙ e)

-- the value that was read at a place
pub read_at : (xs v : List Plain) (i j : ℕ) (x : Plain) → xs ≡ v → i ≡ j → j < length v → x ≡ get_or xs i x → x ≡ get_or v j null
read_at xs v i j x s p h e =
    let read : x ≡ get_or v j x = e ∙ ap (λ (l : List Plain). get_or l i x) s ∙ ap (λ n. get_or v n x) p in
    sym (get_or_from_slice_get v j x null (slice_get_read v (length v) j x refl h read))

-- a name and a value that are referred to
abbrev pub Named : Type 0
Named = Bor (List ℕ) × Bor Plain

pub first_left : (row : List Named) (i : ℕ) (p : Named) → i < length row → p ≡ get_or row i p → drop i row ≡ p ∷ drop (i + 1) row
first_left row i p w e = drop_more row i p w ∙ ap (λ (x : Named). x ∷ drop (i + 1) row) (sym e)

-- the value of the first pair that is left, where it has the name
pub found_here : (name : List ℕ) (row : List Named) (i : ℕ) (p : Named) (all : Option Plain) → i < length row → p ≡ get_or row i p → bytes_eq name p.0.now ≡ true
    → value_at name (row_pairs (drop i row)) ≡ all → Some p.1.now ≡ all
found_here name row i p all w e s k =
    sym (at_front name p.0.now p.1.now (row_pairs (drop (i + 1) row)) true s) ∙ ap (λ (r : List Named). value_at name (row_pairs r)) (sym (first_left row i p w e)) ∙ k

-- and where it has another
pub passed_here : (name : List ℕ) (row : List Named) (i : ℕ) (p : Named) (all : Option Plain) → i < length row → p ≡ get_or row i p → bytes_eq name p.0.now ≡ false
    → value_at name (row_pairs (drop i row)) ≡ all → value_at name (row_pairs (drop (i + 1) row)) ≡ all
passed_here name row i p all w e s k =
    sym (at_front name p.0.now p.1.now (row_pairs (drop (i + 1) row)) false s) ∙ ap (λ (r : List Named). value_at name (row_pairs r)) (sym (first_left row i p w e)) ∙ k

-- one pair more of a row
pub row_next : (row : List Named) (p : Named) → row_pairs (row ++ p ∷ []) ≡ row_pairs row ++ (p.0.now, p.1.now) ∷ []
row_next [] p = refl
row_next (q ∷ row) p = ap (λ (c : Pairs). (q.0.now, q.1.now) ∷ c) (row_next row p)

keys_of-choice : (vs : Variables) (n : ℕ) → keys_of (choice vs n) ≡ keys_of vs
keys_of-choice [] n = refl
keys_of-choice (v ∷ vs) n = ap (λ (ks : List (List ℕ)). v.0 ∷ ks) (keys_of-choice vs (n % size vs))

-- the names of a choice ascend, as those of the variables do
pub Ascends-choice : (vs : Variables) (n : ℕ) (c : Pairs) → c ≡ choice vs n → Ascends vs → Ascends c
Ascends-choice vs n c e h = rw (e, keys_of-choice vs n) h

-- one pair more of a choice
pub chosen_next : (done : Pairs) (k : List ℕ) (v : List Plain) (x : Plain) (vs : Variables) (rest r : ℕ) (all : Pairs) → x ≡ get_or v (rest / size vs) null → r ≡ rest % size vs
    → done ++ choice ((k, v) ∷ vs) rest ≡ all → (done ++ (k, x) ∷ []) ++ choice vs r ≡ all
chosen_next done k v x vs rest r all e q h =
    rw (append_assoc done ((k, x) ∷ []) (choice vs r), e, q) h

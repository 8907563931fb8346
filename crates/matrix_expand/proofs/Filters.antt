-- A filter over a list, element by element.
use Rattle.std.proofs.Common.{◌≡◌, ◌∙◌, ◌<◌, ◌≤◌, ◌+◌, ◌++◌, ℕ, Bool, true, false, List, [], ◌∷◌, length, get_or, drop, refl, ap, sym, arith, append_assoc, append-nil}
use Rattle.std.proofs.lemmas.List.{drop_more, drop_all, length-append}
use Rattle.std.specs.List.{filter}
use Rattle.matrix_expand.specs.Combos.{Pairs}

-- the next that passes
pub kept : (test : Pairs → Bool) (done : List Pairs) (i : ℕ) (cs os : List Pairs) (c : Pairs) → i < length cs → get_or cs i [] ≡ c → test c ≡ true
    → done ++ filter test (drop i cs) ≡ os → (done ++ c ∷ []) ++ filter test (drop (i + 1) cs) ≡ os
kept test done i cs os c h e t k =
    let next : drop i cs ≡ c ∷ drop (i + 1) cs = drop_more cs i [] h ∙ ap (λ (x : Pairs). x ∷ drop (i + 1) cs) e in
    let here : filter test (c ∷ drop (i + 1) cs) ≡ c ∷ filter test (drop (i + 1) cs) = rw t refl in
    append_assoc done (c ∷ []) (filter test (drop (i + 1) cs))
    ∙ ap (λ (l : List Pairs). done ++ l) (sym here ∙ ap (filter test) (sym next)) ∙ k

-- the next that does not
pub passed : (test : Pairs → Bool) (done : List Pairs) (i : ℕ) (cs os : List Pairs) (c : Pairs) → i < length cs → get_or cs i [] ≡ c → test c ≡ false
    → done ++ filter test (drop i cs) ≡ os → done ++ filter test (drop (i + 1) cs) ≡ os
passed test done i cs os c h e t k =
    let next : drop i cs ≡ c ∷ drop (i + 1) cs = drop_more cs i [] h ∙ ap (λ (x : Pairs). x ∷ drop (i + 1) cs) e in
    let here : filter test (c ∷ drop (i + 1) cs) ≡ filter test (drop (i + 1) cs) = rw t refl in
    ap (λ (l : List Pairs). done ++ l) (sym here ∙ ap (filter test) (sym next)) ∙ k

-- one more than there is room for
pub over : (test : Pairs → Bool) (done : List Pairs) (i : ℕ) (cs os : List Pairs) (c : Pairs) → i < length cs → get_or cs i [] ≡ c → test c ≡ true
    → done ++ filter test (drop i cs) ≡ os → length done < length os
over test done i cs os c h e t k =
    let whole = kept test done i cs os c h e t k in
    let long : length (done ++ c ∷ []) ≡ length done + 1 = length-append done (c ∷ []) in
    let all : length (done ++ c ∷ []) + length (filter test (drop (i + 1) cs)) ≡ length os =
    sym (length-append (done ++ c ∷ []) (filter test (drop (i + 1) cs))) ∙ ap length whole in
    omega arith

-- none is left
pub finished : (test : Pairs → Bool) (done : List Pairs) (i : ℕ) (cs os : List Pairs) → length cs ≤ i → done ++ filter test (drop i cs) ≡ os → done ≡ os
finished test done i cs os h k =
    sym (append-nil done) ∙ ap (λ (l : List Pairs). done ++ filter test l) (sym (drop_all i cs h)) ∙ k

-- Marks in a text.
use Rattle.std.proofs.Common.{◌≡◌, ℕ, zero, suc, ◌+◌, ◌<◌, ◌≤◌, Bool, true, false, cond, not, ◌&&◌, ◌||◌, nat_eq, nat_lt, Option, Some, None, List, [], ◌∷◌, ◌++◌, length, get_or, take, drop, refl, sym, ap, subst, ◌∙◌, length-append, arith}
use Rattle.std.proofs.Math.Seq.{drop-cons, drop-append_seam}
use Rattle.std.proofs.lemmas.Bool.{cond-true, cond-false, eqb-true}
use Rattle.std.proofs.lemmas.Bool.Decides.{nat_tests}
use Rattle.std.proofs.lemmas.List.{length-take, length-drop}
use Rattle.std.proofs.lemmas.Str.{IsCharBoundary-end, IsCharBoundary-before_ascii, IsCharBoundary-after_ascii}
use Rattle.std.specs.Option.{option_map}
use Rattle.std.specs.Str.{IsUtf8, IsCharBoundary}
use Rattle.std.specs.Prelude.{codes}
use Rattle.expr_reader.specs.Template.{begins_mark, has_marker, HoldsMarker, begins_end, open_after, end_place, EndsPlain}
use Rattle.expr_reader.specs.TemplateReading.{mark_place}
use Rattle.expr_reader.proofs.Runs.{if_holds}

and_left : (a b : Bool) → (a && b) ≡ true → a ≡ true
and_left true b h = refl
and_left false b h = cc

and_right : (a b : Bool) → (a && b) ≡ true → b ≡ true
and_right true b h = h
and_right false b h = cc

pub or_left : (a b : Bool) → (a || b) ≡ false → a ≡ false
or_left true b h = cc
or_left false b h = refl

or_right : (a b : Bool) → (a || b) ≡ false → b ≡ false
or_right true b h = cc
or_right false b h = h

-- A text that begins with the mark is the mark and the rest.
pub mark_front : (bs : List ℕ) → begins_mark bs ≡ true → bs ≡ codes "${{" ++ drop 3 bs
mark_front [] h = cc
mark_front (a ∷ []) h = absurd (cc (and_right (nat_eq 36 a) false h))
mark_front (a ∷ b ∷ []) h = absurd (cc (and_right (nat_eq 123 b) false (and_right (nat_eq 36 a) (nat_eq 123 b && false) h)))
mark_front (a ∷ b ∷ c ∷ bs) h =
    let tail : (nat_eq 123 b && (nat_eq 123 c && true)) ≡ true = and_right (nat_eq 36 a) (nat_eq 123 b && (nat_eq 123 c && true)) h in
    let x : 36 ≡ a = eqb-true 36 a (and_left (nat_eq 36 a) (nat_eq 123 b && (nat_eq 123 c && true)) h) in
    let y : 123 ≡ b = eqb-true 123 b (and_left (nat_eq 123 b) (nat_eq 123 c && true) tail) in
    let z : 123 ≡ c = eqb-true 123 c (and_left (nat_eq 123 c) true (and_right (nat_eq 123 b) (nat_eq 123 c && true) tail)) in
    cc

-- The test finds a mark.
marker_at : (b : ℕ) (bs : List ℕ) (t : Bool) → begins_mark (b ∷ bs) ≡ t → (t || has_marker bs) ≡ true → (has_marker bs ≡ true → HoldsMarker bs) → HoldsMarker (b ∷ bs)
marker_at b bs true here h later = record { before = []; after = drop 3 (b ∷ bs); same = mark_front (b ∷ bs) here }
marker_at b bs false here h later = let found = later h in record { before = b ∷ found.before; after = found.after; same = ap (λ (z : List ℕ). b ∷ z) found.same }

pub marker_found : (text : List ℕ) → has_marker text ≡ true → HoldsMarker text
marker_found [] h = cc
marker_found (b ∷ bs) h = marker_at b bs (begins_mark (b ∷ bs)) refl h (marker_found bs)

or_true : (t : Bool) → (t || true) ≡ true
or_true true = refl
or_true false = refl

marker_there : (before after : List ℕ) → has_marker (before ++ (codes "${{" ++ after)) ≡ true
marker_there [] after = refl
marker_there (b ∷ before) after =
    let text : List ℕ = before ++ (codes "${{" ++ after) in
    ap (λ (t : Bool). begins_mark (b ∷ text) || t) (marker_there before after) ∙ or_true (begins_mark (b ∷ text))

pub marker_held : (text : List ℕ) → HoldsMarker text → has_marker text ≡ true
marker_held text h = ap has_marker h.same ∙ marker_there h.before h.after

-- No mark begins across the end of plain text.
pub no_mark_over : (b : ℕ) (p rest : List ℕ) → begins_mark (b ∷ p) ≡ false → EndsPlain rest → begins_mark ((b ∷ p) ++ rest) ≡ false
no_mark_over b [] [] h ends = h
no_mark_over b [] (c ∷ rest) h ends = subst (λ (r : List ℕ). begins_mark (b ∷ r) ≡ false) (sym (mark_front (c ∷ rest) ends)) (and_false (nat_eq 36 b))
  where
    and_false : (t : Bool) → (t && false) ≡ false
    and_false true = refl
    and_false false = refl
no_mark_over b (c ∷ []) [] h ends = h
no_mark_over b (c ∷ []) (d ∷ rest) h ends = subst (λ (r : List ℕ). begins_mark (b ∷ c ∷ r) ≡ false) (sym (mark_front (d ∷ rest) ends)) (and_false (nat_eq 36 b) (nat_eq 123 c))
  where
    and_false : (t u : Bool) → (t && (u && false)) ≡ false
    and_false true true = refl
    and_false true false = refl
    and_false false u = refl
no_mark_over b (c ∷ d ∷ p) rest h ends = h

ends_place : (rest : List ℕ) → EndsPlain rest → mark_place rest ≡ 0
ends_place [] ends = refl
ends_place (b ∷ bs) ends = cond-true (begins_mark (b ∷ bs)) 0 (suc (mark_place bs)) ends

-- Plain text reaches to the first mark.
pub plain_place : (p rest : List ℕ) → has_marker p ≡ false → EndsPlain rest → mark_place (p ++ rest) ≡ length p
plain_place [] rest unmarked ends = ends_place rest ends
plain_place (b ∷ p) rest unmarked ends =
    cond-false (begins_mark ((b ∷ p) ++ rest)) 0 (suc (mark_place (p ++ rest))) (no_mark_over b p rest (or_left (begins_mark (b ∷ p)) (has_marker p) unmarked) ends)
    ∙ ap suc (plain_place p rest (or_right (begins_mark (b ∷ p)) (has_marker p) unmarked) ends)

-- What stands before the first mark, and what follows.
pub record Parts (bs : List ℕ) : Type 0 where
  pub within : mark_place bs ≤ length bs
  pub unmarked : has_marker (take (mark_place bs) bs) ≡ false
  pub ends : EndsPlain (drop (mark_place bs) bs)

-- A front has no mark that the whole has not.
front_unmarked : (b : ℕ) (bs : List ℕ) (n : ℕ) → begins_mark (b ∷ bs) ≡ false → begins_mark (b ∷ take n bs) ≡ false
front_unmarked b bs zero h = short (nat_eq 36 b)
  where
    short : (t : Bool) → (t && false) ≡ false
    short true = refl
    short false = refl
front_unmarked b [] (suc n) h = h
front_unmarked b (c ∷ bs) (suc zero) h = short (nat_eq 36 b) (nat_eq 123 c)
  where
    short : (t u : Bool) → (t && (u && false)) ≡ false
    short true true = refl
    short true false = refl
    short false u = refl
front_unmarked b (c ∷ []) (suc (suc n)) h = h
front_unmarked b (c ∷ d ∷ bs) (suc (suc n)) h = h

parts_by : (b : ℕ) (bs : List ℕ) (t : Bool) → begins_mark (b ∷ bs) ≡ t → Parts bs → (cond t 0 (suc (mark_place bs)) ≤ suc (length bs)) × (has_marker (take (cond t 0 (suc (mark_place bs))) (b ∷ bs)) ≡ false) × EndsPlain (drop (cond t 0 (suc (mark_place bs))) (b ∷ bs))
parts_by b bs true test h = (omega arith, refl, test)
parts_by b bs false test h = (omega (arith, h.within), ap (λ (t : Bool). t || has_marker (take (mark_place bs) bs)) (front_unmarked b bs (mark_place bs) test) ∙ h.unmarked, h.ends)

pub parts : (bs : List ℕ) → Parts bs
parts [] = record { within = omega arith; unmarked = refl; ends = tt }
parts (b ∷ bs) = let h = parts_by b bs (begins_mark (b ∷ bs)) refl (parts bs) in record { within = h.0; unmarked = h.1; ends = h.2 }

-- Where the end's place is, }} stands.
abbrev pub EndsThere : List ℕ → Option ℕ → Type 0
EndsThere bs None = Unit {0}
EndsThere bs (Some n) = bs ≡ take n bs ++ (codes "}}" ++ drop (n + 2) bs)

ends_later : (b : ℕ) (bs : List ℕ) (o : Option ℕ) → EndsThere bs o → EndsThere (b ∷ bs) (option_map suc o)
ends_later b bs None h = tt
ends_later b bs (Some n) h = let more : suc n + 2 ≡ suc (n + 2) = omega arith in ap (λ (z : List ℕ). b ∷ z) h ∙ ap (λ (k : ℕ). b ∷ (take n bs ++ (codes "}}" ++ drop k (b ∷ bs)))) (sym more)

end_front : (bs : List ℕ) → begins_end bs ≡ true → bs ≡ codes "}}" ++ drop 2 bs
end_front [] h = cc
end_front (a ∷ []) h = absurd (cc (and_right (nat_eq 125 a) false h))
end_front (a ∷ b ∷ bs) h =
    let x : 125 ≡ a = eqb-true 125 a (and_left (nat_eq 125 a) (nat_eq 125 b && true) h) in
    let y : 125 ≡ b = eqb-true 125 b (and_left (nat_eq 125 b) true (and_right (nat_eq 125 a) (nat_eq 125 b && true) h)) in
    cc

pub end_there : (quoted : Bool) (bs : List ℕ) → EndsThere bs (end_place quoted bs)
end_there quoted [] = tt
end_there quoted (b ∷ bs) =
    if_holds (EndsThere (b ∷ bs)) (not quoted && begins_end (b ∷ bs)) (Some 0) (option_map suc (end_place (open_after quoted b) bs))
    (λ both. end_front (b ∷ bs) (and_right (not quoted) (begins_end (b ∷ bs)) both))
    (λ other. ends_later b bs (end_place (open_after quoted b) bs) (end_there (open_after quoted b) bs))

-- A place behind a front of i bytes.
abbrev pub further : ℕ → Option ℕ → Option ℕ
further i None = None
further i (Some n) = Some (i + n)

further_suc : (i : ℕ) (o : Option ℕ) → further i (option_map suc o) ≡ further (i + 1) o
further_suc i None = refl
further_suc i (Some n) = let same : i + suc n ≡ i + 1 + n = omega arith in ap Some same

further_none : (o : Option ℕ) → further 0 o ≡ o
further_none None = refl
further_none (Some n) = let same : 0 + n ≡ n = omega arith in ap Some same

pub end_begin : (bs : List ℕ) → further 0 (end_place false bs) ≡ end_place false bs
end_begin bs = further_none (end_place false bs)

-- The end is here.
pub end_here : (i : ℕ) (quoted : Bool) (bs : List ℕ) → i < length bs → quoted ≡ false → begins_end (drop i bs) ≡ true → further i (end_place quoted (drop i bs)) ≡ Some i
end_here i quoted bs inside plain h =
    let at = drop-cons bs i 0 inside in
    let rest : List ℕ = drop (suc i) bs in
    let here : i + 0 ≡ i = omega arith in
    let both : (not quoted && begins_end (get_or bs i 0 ∷ rest)) ≡ true = ap (λ (q : Bool). not q && begins_end (get_or bs i 0 ∷ rest)) plain ∙ ap begins_end (sym at) ∙ h in
    ap (λ (z : List ℕ). further i (end_place quoted z)) at
    ∙ ap (further i) (cond-true (not quoted && begins_end (get_or bs i 0 ∷ rest)) (Some 0) (option_map suc (end_place (open_after quoted (get_or bs i 0)) rest)) both)
    ∙ ap Some here

both_false : (quoted t : Bool) → (quoted ≡ false → t ≡ false) → (not quoted && t) ≡ false
both_false true t h = refl
both_false false t h = h refl

-- The end is further on.
pub end_further : (i : ℕ) (quoted : Bool) (bs : List ℕ) → i < length bs → (quoted ≡ false → begins_end (drop i bs) ≡ false) → further i (end_place quoted (drop i bs)) ≡ further (i + 1) (end_place (open_after quoted (get_or bs i 0)) (drop (i + 1) bs))
end_further i quoted bs inside h =
    let at = drop-cons bs i 0 inside in
    let rest : List ℕ = drop (suc i) bs in
    let more : suc i ≡ i + 1 = omega arith in
    ap (λ (z : List ℕ). further i (end_place quoted z)) at
    ∙ ap (further i) (cond-false (not quoted && begins_end (get_or bs i 0 ∷ rest)) (Some 0) (option_map suc (end_place (open_after quoted (get_or bs i 0)) rest)) (both_false quoted (begins_end (get_or bs i 0 ∷ rest)) (λ plain. ap begins_end (sym at) ∙ h plain)))
    ∙ further_suc i (end_place (open_after quoted (get_or bs i 0)) rest)
    ∙ ap (λ (k : ℕ). further (i + 1) (end_place (open_after quoted (get_or bs i 0)) (drop k bs))) more

-- The first mark: here, or further on.
pub mark_here : (i : ℕ) (bs : List ℕ) → i < length bs → begins_mark (drop i bs) ≡ true → mark_place (drop i bs) ≡ 0
mark_here i bs inside h =
    let at = drop-cons bs i 0 inside in
    let rest : List ℕ = drop (suc i) bs in
    ap mark_place at ∙ cond-true (begins_mark (get_or bs i 0 ∷ rest)) 0 (suc (mark_place rest)) (ap begins_mark (sym at) ∙ h)

pub mark_further : (i : ℕ) (bs : List ℕ) → i < length bs → begins_mark (drop i bs) ≡ false → mark_place (drop i bs) ≡ suc (mark_place (drop (i + 1) bs))
mark_further i bs inside h =
    let at = drop-cons bs i 0 inside in
    let more : suc i ≡ i + 1 = omega arith in
    let rest : List ℕ = drop (suc i) bs in
    ap mark_place at ∙ cond-false (begins_mark (get_or bs i 0 ∷ rest)) 0 (suc (mark_place rest)) (ap begins_mark (sym at) ∙ h)
    ∙ ap (λ (k : ℕ). suc (mark_place (drop k bs))) more

mark_boundary_at : (bs : List ℕ) (n : ℕ) → n ≤ length bs → EndsPlain (drop n bs) → IsCharBoundary bs n
mark_boundary_at bs n within ends = by_rest bs n (drop n bs) refl within ends
  where
    by_rest : (bs : List ℕ) (n : ℕ) (rest : List ℕ) → drop n bs ≡ rest → n ≤ length bs → EndsPlain rest → IsCharBoundary bs n
    by_rest bs n [] at within ends =
        let last : n ≡ length bs = omega (arith, ap length at, length-drop n bs) in
        subst (IsCharBoundary bs) (sym last) (IsCharBoundary-end bs)
    by_rest bs n (b ∷ rest) at within ends =
        let inside : n < length bs = omega (arith, ap length at, length-drop n bs) in
        let front : drop n bs ≡ codes "${{" ++ drop 3 (b ∷ rest) = at ∙ mark_front (b ∷ rest) ends in
        let first : get_or bs n 0 ≡ 36 = cc (drop-cons bs n 0 inside, front) in
        IsCharBoundary-before_ascii bs n inside (omega (arith, first))

-- A text may be cut at its first mark.
pub mark_boundary : (bs : List ℕ) → IsCharBoundary bs (mark_place bs)
mark_boundary bs = let h = parts bs in mark_boundary_at bs (mark_place bs) h.within h.ends

end_at : (bs : List ℕ) (n : ℕ) → end_place false bs ≡ Some n → bs ≡ take n bs ++ (codes "}}" ++ drop (n + 2) bs)
end_at bs n h = subst (EndsThere bs) h (end_there false bs)

end_size : (bs : List ℕ) (n : ℕ) → end_place false bs ≡ Some n → n + 2 ≤ length bs
end_size bs n h = omega (arith, ap length (end_at bs n h), length-append (take n bs) (codes "}}" ++ drop (n + 2) bs), length-take n bs, length-drop (n + 2) bs)

pub end_dropped : (bs : List ℕ) (n : ℕ) → end_place false bs ≡ Some n → drop n bs ≡ codes "}}" ++ drop (n + 2) bs
end_dropped bs n h =
    let size = end_size bs n h in
    let front : length (take n bs) ≡ n = omega (arith, length-take n bs) in
    ap (drop n) (end_at bs n h) ∙ ap (λ (k : ℕ). drop k (take n bs ++ (codes "}}" ++ drop (n + 2) bs))) (sym front) ∙ drop-append_seam (take n bs) (codes "}}" ++ drop (n + 2) bs)

-- A text may be cut before the }} that closes a mark, and what follows may be cut after it.
pub end_boundary : (bs : List ℕ) (n : ℕ) → IsUtf8 bs → end_place false bs ≡ Some n → IsCharBoundary bs n
end_boundary bs n utf8 h =
    let size = end_size bs n h in
    let inside : n < length bs = omega arith in
    let same : drop n bs ≡ codes "}}" ++ drop (n + 2) bs = end_dropped bs n h in
    let first : get_or bs n 0 ≡ 125 = cc (drop-cons bs n 0 inside, same) in
    IsCharBoundary-before_ascii bs n inside (omega (arith, first))

-- So it is where the text is cut already.
pub end_past : (bs rest : List ℕ) (n : ℕ) → rest ≡ drop n bs → IsUtf8 rest → end_place false bs ≡ Some n → IsCharBoundary rest 2
end_past bs rest n at utf8 h =
    let same : rest ≡ 125 ∷ 125 ∷ drop (n + 2) bs = at ∙ end_dropped bs n h in
    subst (λ (z : List ℕ). IsUtf8 z → IsCharBoundary z 2) (sym same) (λ u. IsCharBoundary-after_ascii (125 ∷ 125 ∷ drop (n + 2) bs) 1 u (omega arith) (omega arith)) utf8

-- A text that begins with a mark may be cut after it.
pub mark_cut : (bs : List ℕ) → IsUtf8 bs → begins_mark bs ≡ true → IsCharBoundary bs 3
mark_cut bs utf8 h =
    subst (λ (z : List ℕ). IsUtf8 z → IsCharBoundary z 3) (sym (mark_front bs h)) (λ u. IsCharBoundary-after_ascii (36 ∷ 123 ∷ 123 ∷ drop 3 bs) 2 u (omega arith) (omega arith)) utf8

has_mark_by : (t : Bool) (n m : ℕ) (h : Bool) → h ≡ nat_lt n m → (t || h) ≡ nat_lt (cond t 0 (suc n)) (suc m)
has_mark_by true n m h e = let test : nat_lt 0 (suc m) ≡ true = grind (arith, nat_tests) in sym test
has_mark_by false n m h e = e ∙ grind (arith, nat_tests)

-- Some mark stands in a text where the first is before the end.
pub has_marker_by_place : (bs : List ℕ) → has_marker bs ≡ nat_lt (mark_place bs) (length bs)
has_marker_by_place [] = refl
has_marker_by_place (b ∷ bs) = has_mark_by (begins_mark (b ∷ bs)) (mark_place bs) (length bs) (has_marker bs) (has_marker_by_place bs)

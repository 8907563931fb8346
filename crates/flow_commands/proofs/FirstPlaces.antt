-- A text that is split at the first place of a mark.
use Rattle.std.proofs.Common.{◌≡◌, ℕ, suc, ◌<◌, ◌≤◌, Bool, true, false, cond, nat_eq, Option, Some, None, List, [], ◌∷◌, ◌++◌, length, take, drop, refl, sym, ap, ◌∙◌, arith, length-append}
use Rattle.std.proofs.Math.Seq.{take-append_seam, drop-append_seam}
use Rattle.std.proofs.lemmas.Bool.Decides.{Decides-eqb}
use Rattle.std.proofs.lemmas.Slice.Eq.{starts_is}
use Rattle.std.specs.List.{starts_with}
use Rattle.flow_commands.specs.Laws.{Lacks, IsCutFirst}
use Rattle.flow_commands.specs.Splits.{split_first, onto_front}
use Rattle.flow_commands.proofs.Standing.{front_parts}

-- texts that begin alike go on alike
pub later_same : (b c : ℕ) (text other : List ℕ) → b ∷ text ≡ c ∷ other → text ≡ other
later_same b c text other h = cc

-- a text that is a front and a rest begins with the front
pub begins : (text front rest : List ℕ) → text ≡ front ++ rest → starts_with nat_eq text front ≡ true
begins text front rest h = (starts_is Decides-eqb text front (starts_with nat_eq text front) refl).1 rest h

-- a text that is split is cut at the first place of the mark
pub split_cuts : (mark text front rest : List ℕ) → split_first mark text ≡ Some (front, rest) → IsCutFirst mark text front rest
split_cuts mark [] front rest h = cc
split_cuts mark (b ∷ text) front rest h =
    by_test (starts_with nat_eq (b ∷ text) mark) refl h (λ k. later (split_first mark text) refl k (λ x is. split_cuts mark text x.0 x.1 is))
  where
    later : (o : Option (List ℕ × List ℕ)) → split_first mark text ≡ o → onto_front b o ≡ Some (front, rest)
        → ((x : List ℕ × List ℕ) → split_first mark text ≡ Some (x.0, x.1) → IsCutFirst mark text x.0 x.1)
        → starts_with nat_eq (b ∷ text) mark ≡ false → IsCutFirst mark (b ∷ text) front rest
    later None is k more none = cc
    later (Some x) is k more none =
        let cut = more x is in
        let p : (b ∷ x.0, x.1) ≡ (front, rest) = cc in
        let front_is : b ∷ x.0 ≡ front = ap (λ (y : List ℕ × List ℕ). y.0) p in
        let rest_is : x.1 ≡ rest = ap (λ (y : List ℕ × List ℕ). y.1) p in
        record {
          cut = ap (λ (t : List ℕ). b ∷ t) cut.cut ∙ ap (λ (t : List ℕ). t ++ (mark ++ x.1)) front_is ∙ ap (λ (t : List ℕ). front ++ (mark ++ t)) rest_is;
          first = by_before (ap length front_is) cut.first none;
        }
      where
        by_before : suc (length x.0) ≡ length front → ((before after : List ℕ) → text ≡ before ++ (mark ++ after) → length x.0 ≤ length before)
            → starts_with nat_eq (b ∷ text) mark ≡ false → (before after : List ℕ) → b ∷ text ≡ before ++ (mark ++ after) → length front ≤ length before
        by_before size first none [] after at = absurd (cc (begins (b ∷ text) mark after at))
        by_before size first none (c ∷ before) after at =
            let less = first before after (later_same b c text (before ++ (mark ++ after)) at) in omega (arith, size, less)

    by_test : (t : Bool) → starts_with nat_eq (b ∷ text) mark ≡ t
        → cond t (Some ([], drop (length mark) (b ∷ text))) (onto_front b (split_first mark text)) ≡ Some (front, rest)
        → (onto_front b (split_first mark text) ≡ Some (front, rest) → starts_with nat_eq (b ∷ text) mark ≡ false → IsCutFirst mark (b ∷ text) front rest)
        → IsCutFirst mark (b ∷ text) front rest
    by_test true is k more =
        let p : ◌≡◌ {A = List ℕ × List ℕ} ([], drop (length mark) (b ∷ text)) (front, rest) = cc in
        let none : ◌≡◌ {A = List ℕ} [] front = ap (λ (y : List ℕ × List ℕ). y.0) p in
        let size : 0 ≡ length front = ap length none in
        record {
          cut = front_parts (b ∷ text) mark is ∙ ap (λ (y : List ℕ × List ℕ). y.0 ++ (mark ++ y.1)) p;
          first = λ before after at. omega (arith, size);
        }
    by_test false is k more = more k is

-- one that is not split lacks it
pub unsplit_lacks : (mark text : List ℕ) → 0 < length mark → split_first mark text ≡ None → Lacks mark text
unsplit_lacks mark [] some h before after at =
    let size : 0 ≡ length (before ++ (mark ++ after)) = ap length at in
    omega (arith, size, some, length-append before (mark ++ after), length-append mark after)
unsplit_lacks mark (b ∷ text) some h before after at =
    by_test (starts_with nat_eq (b ∷ text) mark) refl h
    (λ k is. by_before before (later (split_first mark text) refl k (λ none. unsplit_lacks mark text some none)) is at)
  where
    later : (o : Option (List ℕ × List ℕ)) → split_first mark text ≡ o → onto_front b o ≡ None → (split_first mark text ≡ None → Lacks mark text) → Lacks mark text
    later None is k more = more is
    later (Some x) is k more = cc

    by_before : (bs : List ℕ) → Lacks mark text → starts_with nat_eq (b ∷ text) mark ≡ false → b ∷ text ≡ bs ++ (mark ++ after) → ⊥
    by_before [] lacks none at = cc (begins (b ∷ text) mark after at)
    by_before (c ∷ bs) lacks none at = lacks bs after (later_same b c text (bs ++ (mark ++ after)) at)

    by_test : (t : Bool) → starts_with nat_eq (b ∷ text) mark ≡ t
        → cond t (Some ([], drop (length mark) (b ∷ text))) (onto_front b (split_first mark text)) ≡ None
        → (onto_front b (split_first mark text) ≡ None → starts_with nat_eq (b ∷ text) mark ≡ false → ⊥) → ⊥
    by_test true is k more = cc
    by_test false is k more = more k is

-- a text that lacks a mark is not split at it
pub lacks_unsplit : (mark text : List ℕ) → Lacks mark text → split_first mark text ≡ None
lacks_unsplit mark text lacks = by_split (split_first mark text) refl
  where
    by_split : (o : Option (List ℕ × List ℕ)) → split_first mark text ≡ o → o ≡ None
    by_split None is = refl
    by_split (Some x) is = absurd (lacks x.0 x.1 (split_cuts mark text x.0 x.1 is).cut)

-- a text is cut at one first place
same_cut : (mark text front rest other left : List ℕ) → IsCutFirst mark text front rest → IsCutFirst mark text other left → (other ≡ front) × (left ≡ rest)
same_cut mark text front rest other left h k =
    let size : length front ≡ length other = omega (arith, h.first other left k.cut, k.first front rest h.cut) in
    let same : front ++ (mark ++ rest) ≡ other ++ (mark ++ left) = sym h.cut ∙ k.cut in
    let front_same : front ≡ other =
    sym (take-append_seam front (mark ++ rest)) ∙ ap (take (length front)) same ∙ ap (λ (n : ℕ). take n (other ++ (mark ++ left))) size
    ∙ take-append_seam other (mark ++ left) in
    let behind : mark ++ rest ≡ mark ++ left =
    sym (drop-append_seam front (mark ++ rest)) ∙ ap (drop (length front)) same ∙ ap (λ (n : ℕ). drop n (other ++ (mark ++ left))) size
    ∙ drop-append_seam other (mark ++ left) in
    let rest_same : rest ≡ left =
    sym (drop-append_seam mark rest) ∙ ap (drop (length mark)) behind ∙ drop-append_seam mark left in
    (sym front_same, sym rest_same)

-- one that is cut at its first place is split there
pub cut_splits : (mark text front rest : List ℕ) → 0 < length mark → IsCutFirst mark text front rest → split_first mark text ≡ Some (front, rest)
cut_splits mark text front rest some h = by_split (split_first mark text) refl
  where
    by_split : (o : Option (List ℕ × List ℕ)) → split_first mark text ≡ o → o ≡ Some (front, rest)
    by_split None is = absurd (unsplit_lacks mark text some is front rest h.cut)
    by_split (Some x) is =
        let same = same_cut mark text front rest x.0 x.1 h (split_cuts mark text x.0 x.1 is) in
        ap (λ (f : List ℕ). Some (f, x.1)) same.0 ∙ ap (λ (r : List ℕ). Some (front, r)) same.1

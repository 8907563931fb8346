-- Going over files that are read one after the other.
use Rattle.std.proofs.Common.{◌≡◌, ◌∙◌, ◌<◌, ◌≤◌, ◌+◌, ℕ, suc, List, [], ◌∷◌, ◌++◌, map, length, take, drop, get_or, set, Err, ap, sym, subst, inl, inr, arith, append-nil, append_assoc}
use Rattle.std.proofs.lemmas.List.{drop_more, drop_all, drop-set-lt, map-append, set_split, take_all, take_more_set, length-set}
use Rattle.command_io.specs.Files.{File, Content, IsContent, AreContents, IsCutShort}
use Rattle.command_io.specs.Stream.{IsRead}
use Rattle.command_io.specs.declared.stream.SourceFault.{SourceFault}

-- The first i files were read: what the others come to is what all come to.
pub record GoingFiles {X : Type 0} (seen : X → File) (xs ys : List X) (i : ℕ) (contents : List Content) : Type 0 where
  pub long : length ys ≡ length xs
  pub same : drop i ys ≡ drop i xs
  pub made : (news : List File) (more : List Content) → AreContents (map seen (drop i xs)) news more → AreContents (map seen xs) (map seen (take i ys) ++ news) (contents ++ more)
  pub cut : (news : List File) (fault : SourceFault) → IsCutShort (map seen (drop i xs)) news fault → IsCutShort (map seen xs) (map seen (take i ys) ++ news) fault

-- the files that are left begin with this one, before and now
left_at : {X : Type 0} (xs ys : List X) (i : ℕ) (y d : X) → i < length ys → y ≡ get_or ys i d → drop i ys ≡ drop i xs → drop i xs ≡ y ∷ drop (i + 1) ys
left_at xs ys i y d h at same = sym same ∙ drop_more ys i d h ∙ ap (λ z. z ∷ drop (i + 1) ys) (sym at)

pub read_more : {X : Type 0} (seen : X → File) (xs ys : List X) (i : ℕ) (contents : List Content) (y y' d : X) (content : Content) → i < length ys → y ≡ get_or ys i d
    → IsContent (seen y) (seen y') content → GoingFiles seen xs ys i contents → GoingFiles seen xs (set ys i y') (i + 1) (contents ++ content ∷ [])
read_more seen xs ys i contents y y' d content h at is g =
    let within : i < length xs = omega (arith, h, g.long) in
    let left = left_at xs ys i y d h at g.same in
    let more_left : drop i xs ≡ get_or xs i y ∷ drop (i + 1) xs = drop_more xs i y within in
    let rest : drop (i + 1) ys ≡ drop (i + 1) xs = cc (left, more_left) in
    let all_left : map seen (drop i xs) ≡ seen y ∷ map seen (drop (i + 1) xs) = ap (map seen) (left ∙ ap (λ l. y ∷ l) rest) in
    let past : i < i + 1 = omega arith in
    let gone : (news : List File) → map seen (take i ys) ++ seen y' ∷ news ≡ map seen (take (i + 1) (set ys i y')) ++ news =
    λ news. sym (ap (λ (l : List _). map seen l ++ news) (take_more_set ys i y' h) ∙ ap (λ (l : List File). l ++ news) (map-append seen (take i ys) (y' ∷ [])) ∙ append_assoc (map seen (take i ys)) (seen y' ∷ []) news) in
    record {
      long = length-set ys i y' ∙ g.long;
      same = drop-set-lt (i + 1) ys i y' past ∙ rest;
      made = λ news more w.
          subst (λ (l : List Content). AreContents (map seen xs) (map seen (take (i + 1) (set ys i y')) ++ news) l) (sym (append_assoc contents (content ∷ []) more))
          (subst (λ (l : List File). AreContents (map seen xs) l (contents ++ content ∷ more)) (gone news)
          (g.made (seen y' ∷ news) (content ∷ more) (subst (λ (l : List File). AreContents l (seen y' ∷ news) (content ∷ more)) (sym all_left) (is, w))));
      cut = λ news fault w.
          subst (λ (l : List File). IsCutShort (map seen xs) l fault) (gone news)
          (g.cut (seen y' ∷ news) fault (subst (λ (l : List File). IsCutShort l (seen y' ∷ news) fault) (sym all_left) (inr (content, is, w))));
    }

-- one that is not read to its end cuts all of it short
pub cut_there : {X : Type 0} (seen : X → File) (xs ys : List X) (i : ℕ) (contents : List Content) (y y' d : X) (fault : SourceFault) → i < length ys → y ≡ get_or ys i d
    → IsRead (seen y).source (seen y').source (Err fault) → GoingFiles seen xs ys i contents → IsCutShort (map seen xs) (map seen (set ys i y')) fault
cut_there seen xs ys i contents y y' d fault h at is g =
    let left = left_at xs ys i y d h at g.same in
    let whole : map seen (take i ys) ++ seen y' ∷ map seen (drop (suc i) ys) ≡ map seen (set ys i y') =
    sym (ap (map seen) (set_split ys i y' h) ∙ map-append seen (take i ys) (y' ∷ drop (suc i) ys)) in
    subst (λ (l : List File). IsCutShort (map seen xs) l fault) whole
    (g.cut (seen y' ∷ map seen (drop (suc i) ys)) fault
    (subst (λ (l : List File). IsCutShort l (seen y' ∷ map seen (drop (suc i) ys)) fault) (sym (ap (map seen) left)) (inl is)))

pub all_read : {X : Type 0} (seen : X → File) (xs ys : List X) (i : ℕ) (contents : List Content) → length ys ≤ i → GoingFiles seen xs ys i contents → AreContents (map seen xs) (map seen ys) contents
all_read seen xs ys i contents past g =
    let none : map seen (drop i xs) ≡ [] = ap (map seen) (sym g.same ∙ drop_all i ys past) in
    subst (λ (l : List Content). AreContents (map seen xs) (map seen ys) l) (append-nil contents)
    (subst (λ (l : List File). AreContents (map seen xs) l (contents ++ [])) (append-nil (map seen (take i ys)) ∙ ap (map seen) (take_all i ys past))
    (g.made [] [] (subst (λ (l : List File). AreContents l [] []) (sym none) tt)))

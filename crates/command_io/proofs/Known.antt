-- Texts that are appended to known bytes one after the other.
use Rattle.std.proofs.Common.{◌≡◌, ℕ, Bool, true, false, refl, suc, ◌-◌, ◌<◌, List, [], ◌++◌, take, drop, length, get_or, flat_map, Option, Some, None, sym, ap, ◌∙◌, append_assoc, append-nil, take-append-drop}
use Rattle.std.proofs.Math.Seq.{drop-cons}
use Rattle.std.proofs.lemmas.Grind.{flat_map-append}
use Rattle.std.proofs.lemmas.List.{take_rest}
use Rattle.command_io.specs.Stream.{Stream, IsWritten, IsCutOff, Puts}
use Rattle.std.specs.Io.KnownBytes.{Appends, Keeps}

pub Appends-nothing : (known : Option (List ℕ)) → Appends known known []
Appends-nothing None = tt
Appends-nothing (Some held) = sym (append-nil held)

pub Appends-then : (a b c : Option (List ℕ)) (x y : List ℕ) → Appends a b x → Appends b c y → Appends a c (x ++ y)
Appends-then None b c x y first next = tt
Appends-then (Some held) (Some more) (Some most) x y first next = next ∙ ap (λ (l : List ℕ). l ++ y) first ∙ append_assoc held x y
Appends-then (Some held) (Some more) None x y first next = next
Appends-then (Some held) None c x y first next = absurd first

pub Appends-kept : (a b c : Option (List ℕ)) (x : List ℕ) → Appends a b x → Keeps b c → Appends a c x
Appends-kept None b c x first kept = tt
Appends-kept (Some held) (Some more) (Some most) x first kept = kept ∙ first
Appends-kept (Some held) (Some more) None x first kept = kept
Appends-kept (Some held) None c x first kept = absurd first

-- a text of which a part was written, after one more piece
pub piece_more : (text done rest : List ℕ) (n : ℕ) → text ≡ done ++ rest → text ≡ (done ++ take n rest) ++ take (length rest - n) (drop n rest)
piece_more text done rest n whole =
    whole ∙ ap (λ (l : List ℕ). done ++ l) (sym (take-append-drop n rest)) ∙ sym (append_assoc done (take n rest) (drop n rest))
    ∙ ap (λ (l : List ℕ). (done ++ take n rest) ++ l) (sym (take_rest rest n))

-- where the writing of a text is cut off after another, that of both is
pub cut_off_after : (a b c : Stream) (x y : List ℕ) → IsWritten a b x → IsCutOff b c y → IsCutOff a c (x ++ y)
cut_off_after a b c x y written cut =
    let (kept, failed) = cut in
    let whole : y ≡ kept.part ++ kept.rest = kept.whole in (
      record {
        part = x ++ kept.part;
        rest = kept.rest;
        whole = ap (λ (l : List ℕ). x ++ l) whole ∙ sym (append_assoc x kept.part kept.rest);
        appended = Appends-then _ _ _ x kept.part written.0 kept.appended;
      },
      failed,
    )

-- the texts of parts are those of the first i, of the next, and of the others
flat_map-at : {X : Type 0} (f : X → List ℕ) (xs : List X) (i : ℕ) (d : X) → i < length xs
    → flat_map f xs ≡ flat_map f (take i xs) ++ (f (get_or xs i d) ++ flat_map f (drop (suc i) xs))
flat_map-at f xs i d within =
    ap (flat_map f) (sym (take-append-drop i xs)) ∙ flat_map-append f (take i xs) (drop i xs)
    ∙ ap (λ ys. flat_map f (take i xs) ++ flat_map f ys) (drop-cons xs i d within)

-- where the writing of a part is cut off after others, that of all of them is
pub part_cut_off : {X : Type 0} (f : X → List ℕ) (xs : List X) (i : ℕ) (d : X) (a b c : Stream) (piece : List ℕ) → i < length xs
    → IsWritten a b (flat_map f (take i xs)) → piece ≡ f (get_or xs i d) → IsCutOff b c piece → IsCutOff a c (flat_map f xs)
part_cut_off f xs i d a b c piece within written is cut =
    let (kept, failed) = cut in
    let before = flat_map f (take i xs) in
    let after = flat_map f (drop (suc i) xs) in
    let whole : piece ≡ kept.part ++ kept.rest = kept.whole in
    let all : flat_map f xs ≡ (before ++ kept.part) ++ (kept.rest ++ after) =
    flat_map-at f xs i d within ∙ ap (λ (l : List ℕ). before ++ (l ++ after)) (sym is ∙ whole)
    ∙ ap (λ (l : List ℕ). before ++ l) (append_assoc kept.part kept.rest after) ∙ sym (append_assoc before kept.part (kept.rest ++ after)) in
    (record { part = before ++ kept.part; rest = kept.rest ++ after; whole = all; appended = Appends-then _ _ _ before kept.part written.0 kept.appended }, failed)

-- a piece that is cut off after what was written cuts off a text of which more would follow
pub cut_within : (a b c : Stream) (done piece after whole : List ℕ) → IsWritten a b done → whole ≡ done ++ (piece ++ after) → IsCutOff b c piece → IsCutOff a c whole
cut_within a b c done piece after whole written is cut =
    let (kept, failed) = cut_off_after a b c done piece written cut in (
      record {
        part = kept.part;
        rest = kept.rest ++ after;
        whole = is ∙ sym (append_assoc done piece after) ∙ ap (λ (l : List ℕ). l ++ after) kept.whole ∙ append_assoc kept.part kept.rest after;
        appended = kept.appended;
      },
      failed,
    )

-- a piece that is written after others
pub written_more : (a b c : Stream) (done piece : List ℕ) → IsWritten a b done → IsWritten b c piece → IsWritten a c (done ++ piece)
written_more a b c done piece first next = (Appends-then _ _ _ done piece first.0 next.0, next.1 ∙ first.1)

-- a text whose beginning could not be written whole
pub cut_at_first : (a b : Stream) (piece after : List ℕ) → IsCutOff a b piece → IsCutOff a b (piece ++ after)
cut_at_first a b piece after cut = cut_within a a b [] piece after (piece ++ after) (Appends-nothing a.bytes, refl) refl cut

-- a piece, and what is put after it
pub puts_more : (a b c : Stream) (piece after : List ℕ) (whole : Bool) → IsWritten a b piece → Puts b c after whole → Puts a c (piece ++ after) whole
puts_more a b c piece after true written put = written_more a b c piece after written put
puts_more a b c piece after false written put = cut_off_after a b c piece after written put

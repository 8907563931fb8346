-- Values that are the same are equal.
use Rattle.std.proofs.Common.{◌≡◌, ◌↔◌, Bool, true, false, ◌&&◌, refl, ap, subst}
use Rattle.std.specs.Str.{bytes_eq}
use Rattle.std.proofs.lemmas.Bool.Decides.{Decides-int_eq}
use Rattle.std.proofs.lemmas.Slice.Eq.{bytes_eq-Decides}
use Rattle.flow_model.specs.Plain as plain
use Rattle.matrix_expand.specs.Same.{same_truth, is_same, same_items, same_members}

both_true : (a b : Bool) → (a && b) ≡ true → (a ≡ true) × (b ≡ true)
both_true true b e = (refl, e)
both_true false b e = absurd (cc)

join_true : (a b : Bool) → a ≡ true → b ≡ true → (a && b) ≡ true
join_true true b e f = f
join_true false b e f = absurd (cc)

truth_equal : (a b : Bool) → same_truth a b ≡ true → a ≡ b
truth_equal true true e = refl
truth_equal true false e = absurd (cc)
truth_equal false true e = absurd (cc)
truth_equal false false e = refl

truth_same : (b : Bool) → same_truth b b ≡ true
truth_same true = refl
truth_same false = refl

mutual
  pub same_equal : (v w : plain.Plain) → is_same v w ≡ true → v ≡ w
  same_equal plain.null plain.null e = refl
  same_equal (plain.truth a) (plain.truth b) e = ap plain.truth (truth_equal a b e)
  same_equal (plain.whole a) (plain.whole b) e = ap plain.whole ((Decides-int_eq a b).0 e)
  same_equal (plain.text a) (plain.text b) e = ap plain.text ((bytes_eq-Decides a b).0 e)
  same_equal (plain.list vs) (plain.list ws) e = ap plain.list (items_equal vs ws e)
  same_equal (plain.map ms) (plain.map ns) e = ap plain.map (members_equal ms ns e)
  same_equal v w e = absurd (cc)

  items_equal : (vs ws : plain.Items) → same_items vs ws ≡ true → vs ≡ ws
  items_equal plain.no_items plain.no_items e = refl
  items_equal (plain.item v vs) (plain.item w ws) e =
      let parts = both_true (is_same v w) (same_items vs ws) e in
      λ i. plain.item (same_equal v w parts.0 i) (items_equal vs ws parts.1 i)
  items_equal vs ws e = absurd (cc)

  members_equal : (ms ns : plain.Members) → same_members ms ns ≡ true → ms ≡ ns
  members_equal plain.no_members plain.no_members e = refl
  members_equal (plain.member j v ms) (plain.member k w ns) e =
      let first = both_true (bytes_eq j k) (is_same v w && same_members ms ns) e in
      let parts = both_true (is_same v w) (same_members ms ns) first.1 in
      let key : j ≡ k = (bytes_eq-Decides j k).0 first.0 in
      λ i. plain.member (key i) (same_equal v w parts.0 i) (members_equal ms ns parts.1 i)
  members_equal ms ns e = absurd (cc)

mutual
  equal_same : (v : plain.Plain) → is_same v v ≡ true
  equal_same plain.null = refl
  equal_same (plain.truth b) = truth_same b
  equal_same (plain.whole z) = (Decides-int_eq z z).1 refl
  equal_same (plain.text bs) = (bytes_eq-Decides bs bs).1 refl
  equal_same (plain.list vs) = equal_items vs
  equal_same (plain.map ms) = equal_members ms

  equal_items : (vs : plain.Items) → same_items vs vs ≡ true
  equal_items plain.no_items = refl
  equal_items (plain.item v vs) = join_true (is_same v v) (same_items vs vs) (equal_same v) (equal_items vs)

  equal_members : (ms : plain.Members) → same_members ms ms ≡ true
  equal_members plain.no_members = refl
  equal_members (plain.member k v ms) =
      join_true (bytes_eq k k) (is_same v v && same_members ms ms) ((bytes_eq-Decides k k).1 refl)
      (join_true (is_same v v) (same_members ms ms) (equal_same v) (equal_members ms))

pub same_is_equal : (v w : plain.Plain) → (is_same v w ≡ true) ↔ (v ≡ w)
same_is_equal v w = (same_equal v w, λ e. subst (λ (x : plain.Plain). is_same v x ≡ true) e (equal_same v))

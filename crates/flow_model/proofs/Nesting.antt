-- A value is within some depth exactly where it nests no deeper, and its numbers are in range.
use Rattle.std.proofs.Common.{◌≤◌, ◌-◌, ℕ, IsTrue, nat_lt, refl, arith}
use Rattle.flow_model.specs.Json.{is_in_range, items_in_range, members_in_range}
use Rattle.flow_model.specs.Plain.{Plain, null, truth, whole, text, list, map, Items, no_items, item, Members, no_members, member}
use Rattle.flow_model.specs.Rules.{is_within, items_within, members_within}
use Rattle.flow_model.specs.Sound.{IsWithin, nesting, items_nesting, members_nesting}
use Rattle.flow_model.proofs.Conversions.{is_within-in_range}
use Rattle.flow_model.proofs.Tests.{both, pair, from_lt, to_lt}

mutual
  nests : (n : ℕ) (v : Plain) → IsTrue (is_within n v) → nesting v ≤ n
  nests n null h = omega arith
  nests n (truth b) h = omega arith
  nests n (whole z) h = omega arith
  nests n (text t) h = omega arith
  nests n (list vs) h =
      let hs = both (nat_lt 0 n) (items_within (n - 1) vs) h in
      omega (arith, from_lt 0 n hs.0, items_nest (n - 1) vs hs.1)
  nests n (map ms) h =
      let hs = both (nat_lt 0 n) (members_within (n - 1) ms) h in
      omega (arith, from_lt 0 n hs.0, members_nest (n - 1) ms hs.1)

  items_nest : (n : ℕ) (vs : Items) → IsTrue (items_within n vs) → items_nesting vs ≤ n
  items_nest n no_items h = omega arith
  items_nest n (item v vs) h =
      let hs = both (is_within n v) (items_within n vs) h in
      omega (arith, nests n v hs.0, items_nest n vs hs.1)

  members_nest : (n : ℕ) (ms : Members) → IsTrue (members_within n ms) → members_nesting ms ≤ n
  members_nest n no_members h = omega arith
  members_nest n (member key v ms) h =
      let hs = both (is_within n v) (members_within n ms) h in
      omega (arith, nests n v hs.0, members_nest n ms hs.1)

mutual
  within_again : (n : ℕ) (v : Plain) → nesting v ≤ n → IsTrue (is_in_range v) → IsTrue (is_within n v)
  within_again n null low h = refl
  within_again n (truth b) low h = refl
  within_again n (whole z) low h = h
  within_again n (text t) low h = refl
  within_again n (list vs) low h =
      pair (nat_lt 0 n) (items_within (n - 1) vs) (to_lt 0 n (omega (arith, low))) (items_within_again (n - 1) vs (omega (arith, low)) h)
  within_again n (map ms) low h =
      pair (nat_lt 0 n) (members_within (n - 1) ms) (to_lt 0 n (omega (arith, low))) (members_within_again (n - 1) ms (omega (arith, low)) h)

  items_within_again : (n : ℕ) (vs : Items) → items_nesting vs ≤ n → IsTrue (items_in_range vs) → IsTrue (items_within n vs)
  items_within_again n no_items low h = refl
  items_within_again n (item v vs) low h =
      let hs = both (is_in_range v) (items_in_range vs) h in
      pair (is_within n v) (items_within n vs) (within_again n v (omega (arith, low)) hs.0) (items_within_again n vs (omega (arith, low)) hs.1)

  members_within_again : (n : ℕ) (ms : Members) → members_nesting ms ≤ n → IsTrue (members_in_range ms) → IsTrue (members_within n ms)
  members_within_again n no_members low h = refl
  members_within_again n (member key v ms) low h =
      let hs = both (is_in_range v) (members_in_range ms) h in
      pair (is_within n v) (members_within n ms) (within_again n v (omega (arith, low)) hs.0) (members_within_again n ms (omega (arith, low)) hs.1)

pub is_within-nests : (n : ℕ) (v : Plain) → IsTrue (is_within n v) → IsWithin n v
is_within-nests n v h = (nests n v h, is_within-in_range n v h)

pub nests-is_within : (n : ℕ) (v : Plain) → IsWithin n v → IsTrue (is_within n v)
nests-is_within n v h = within_again n v h.0 h.1

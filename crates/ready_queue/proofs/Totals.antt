-- Sums over the records of all passes.
use Rattle.std.proofs.Common.{◌≡◌, ◌≢◌, ℕ, zero, suc, ◌+◌, ◌≤◌, List, [], ◌∷◌, ◌++◌, length, set, refl, sym, ap, arith}
use mathlib.Core.Option.{some, some-injective, some-ne-none}
use lib.ListN.{get_elem?}
use Rattle.ready_queue.specs.Names.{Name, keeps}
use Rattle.ready_queue.specs.Bags.{weigh}
use Rattle.ready_queue.specs.Records.{Each, all_put, all_taken, tickets, keepers}
use Rattle.ready_queue.specs.Rule.{total}
use Rattle.ready_queue.specs.declared.record.Record.{Record}
use Rattle.ready_queue.proofs.Naming.{keeps_own}

-- ---- one pass of all

-- The sum after a change of one pass.
pub total_set : (f : List Record → ℕ) (views : List (List Record)) (port : ℕ) (v w : List Record) → get_elem? views port ≡ some v → total f (set views port w) + f v ≡ total f views + f w
total_set f [] port v w e = absurd (some-ne-none v (sym e))
total_set f (x ∷ xs) zero v w e = let same : f x ≡ f v = ap f (some-injective x v e) in omega arith
total_set f (x ∷ xs) (suc port) v w e = let more = total_set f xs port v w e in omega arith

-- The sum with one pass more.
pub total_snoc : (f : List Record → ℕ) (views : List (List Record)) (v : List Record) → total f (views ++ v ∷ []) ≡ total f views + f v
total_snoc f [] v = omega arith
total_snoc f (x ∷ xs) v = let more = total_snoc f xs v in omega arith

-- One pass is a part of the sum.
pub one_part : (f : List Record → ℕ) (views : List (List Record)) (i : ℕ) (v : List Record) → get_elem? views i ≡ some v → f v ≤ total f views
one_part f [] i v e = absurd (some-ne-none v (sym e))
one_part f (x ∷ xs) zero v e = let same : f x ≡ f v = ap f (some-injective x v e) in omega arith
one_part f (x ∷ xs) (suc i) v e = let more = one_part f xs i v e in omega arith

-- Two passes are a part of the sum.
pub two_parts : (f : List Record → ℕ) (views : List (List Record)) (i j : ℕ) (v u : List Record) → j ≢ i → get_elem? views i ≡ some v → get_elem? views j ≡ some u → f v + f u ≤ total f views
two_parts f [] i j v u apart e d = absurd (some-ne-none v (sym e))
two_parts f (x ∷ xs) zero zero v u apart e d = absurd (apart refl)
two_parts f (x ∷ xs) zero (suc j) v u apart e d = let same : f x ≡ f v = ap f (some-injective x v e) in let more = one_part f xs j u d in omega arith
two_parts f (x ∷ xs) (suc i) zero v u apart e d = let same : f x ≡ f u = ap f (some-injective x u d) in let more = one_part f xs i v e in omega arith
two_parts f (x ∷ xs) (suc i) (suc j) v u apart e d = let more = two_parts f xs i j v u (λ (p : j ≡ i). apart (ap suc p)) e d in omega arith

-- ---- all others

-- The records of all passes.
abbrev pub all_of : List (List Record) → List Record
all_of [] = []
all_of (v ∷ vs) = v ++ all_of vs

-- The records of all passes but one.
abbrev pub others_of : List (List Record) → ℕ → List Record
others_of [] port = []
others_of (v ∷ vs) zero = all_of vs
others_of (v ∷ vs) (suc port) = v ++ others_of vs port

-- Such a number of two lists of records together is the sum of theirs.
pub record IsSum (f : List Record → ℕ) : Type 0 where
  pub none : f [] ≡ 0
  pub both : (v w : List Record) → f (v ++ w) ≡ f v + f w

pub total_all : (f : List Record → ℕ) → IsSum f → (views : List (List Record)) → f (all_of views) ≡ total f views
total_all f s [] = s.none
total_all f s (v ∷ vs) = let more = total_all f s vs in let two = s.both v (all_of vs) in omega arith

pub total_others : (f : List Record → ℕ) → IsSum f → (views : List (List Record)) (port : ℕ) (v : List Record) → get_elem? views port ≡ some v → f (v ++ others_of views port) ≡ total f views
total_others f s [] port v e = absurd (some-ne-none v (sym e))
total_others f s (x ∷ xs) zero v e = let same : f x ≡ f v = ap f (some-injective x v e) in let more = total_all f s xs in let two = s.both v (all_of xs) in omega arith
total_others f s (x ∷ xs) (suc port) v e =
    let more = total_others f s xs port v e in
    let two = s.both v (x ++ others_of xs port) in
    let here = s.both x (others_of xs port) in
    let there = s.both v (others_of xs port) in
    omega arith

-- ---- such numbers

pub weigh_append : (weight : ℕ → ℕ) (xs ys : List ℕ) → weigh weight (xs ++ ys) ≡ weigh weight xs + weigh weight ys
weigh_append weight [] ys = omega arith
weigh_append weight (x ∷ xs) ys = let more = weigh_append weight xs ys in omega arith

pub weigh_length : (xs : List ℕ) → weigh (λ _. 1) xs ≡ length xs
weigh_length [] = refl
weigh_length (x ∷ xs) = let more = weigh_length xs in omega arith

pub keepers_append : (name : Name) (v w : List Record) → keepers name (v ++ w) ≡ keepers name v + keepers name w
keepers_append name [] w = omega arith
keepers_append name (r ∷ rs) w = let more = keepers_append name rs w in omega arith

pub put_append : (weight : ℕ → ℕ) (v w : List Record) → weigh weight (all_put (v ++ w)) ≡ weigh weight (all_put v) + weigh weight (all_put w)
put_append weight [] w = omega arith
put_append weight (r ∷ rs) w =
    let more = put_append weight rs w in
    let one = weigh_append weight r.put (all_put (rs ++ w)) in
    let two = weigh_append weight r.put (all_put rs) in
    omega arith

pub taken_append : (weight : ℕ → ℕ) (v w : List Record) → weigh weight (all_taken (v ++ w)) ≡ weigh weight (all_taken v) + weigh weight (all_taken w)
taken_append weight [] w = omega arith
taken_append weight (r ∷ rs) w =
    let more = taken_append weight rs w in
    let one = weigh_append weight (tickets r.taken) (all_taken (rs ++ w)) in
    let two = weigh_append weight (tickets r.taken) (all_taken rs) in
    omega arith

pub tickets_append : (a b : List (ℕ × Name)) → tickets (a ++ b) ≡ tickets a ++ tickets b
tickets_append [] b = refl
tickets_append (e ∷ es) b = ap (λ l. e.0 ∷ l) (tickets_append es b)

pub length_tickets : (puts : List (ℕ × Name)) → length (tickets puts) ≡ length puts
length_tickets [] = refl
length_tickets (e ∷ es) = ap suc (length_tickets es)

pub sum_of_keepers : (name : Name) → IsSum (keepers name)
sum_of_keepers name = record { none = refl; both = keepers_append name }

pub sum_of_put : (weight : ℕ → ℕ) → IsSum (λ v. weigh weight (all_put v))
sum_of_put weight = record { none = refl; both = put_append weight }

pub sum_of_taken : (weight : ℕ → ℕ) → IsSum (λ v. weigh weight (all_taken v))
sum_of_taken weight = record { none = refl; both = taken_append weight }

-- Records that keep no name are none.
pub nobody : (rs : List Record) → ((name : Name) → keepers name rs ≡ 0) → rs ≡ []
nobody [] none = refl
nobody (r ∷ rs) none = let own = keeps_own r.name r.splits in let no = none r.name in absurd (omega arith)

-- ---- each of them

pub each_map : (P Q : Record → Type 0) → ((r : Record) → P r → Q r) → (rs : List Record) → Each P rs → Each Q rs
each_map P Q f [] h = tt
each_map P Q f (r ∷ rs) h = (f r h.0, each_map P Q f rs h.1)

-- What holds of each that does not keep a name.
pub each_apart : (P Q : Record → Type 0) (name : Name) → ((r : Record) → keeps r.name r.splits name ≡ 0 → P r → Q r) → (rs : List Record) → keepers name rs ≡ 0 → Each P rs → Each Q rs
each_apart P Q name f [] none h = tt
each_apart P Q name f (r ∷ rs) none h = (f r (omega arith) h.0, each_apart P Q name f rs (omega arith) h.1)

pub each_append : (P : Record → Type 0) (v w : List Record) → Each P v → Each P w → Each P (v ++ w)
each_append P [] w h k = k
each_append P (r ∷ rs) w h k = (h.0, each_append P rs w h.1 k)

-- What is so of the records under each pass is so of all of them.
each_all : (P : Record → Type 0) (views : List (List Record)) → ((j : ℕ) (u : List Record) → get_elem? views j ≡ some u → Each P u) → Each P (all_of views)
each_all P [] h = tt
each_all P (v ∷ vs) h = each_append P v (all_of vs) (h zero v refl) (each_all P vs (λ j u e. h (suc j) u e))

pub each_others : (P : Record → Type 0) (views : List (List Record)) (port : ℕ) → ((j : ℕ) (u : List Record) → get_elem? views j ≡ some u → Each P u) → Each P (others_of views port)
each_others P [] port h = tt
each_others P (v ∷ vs) zero h = each_all P vs (λ j u e. h (suc j) u e)
each_others P (v ∷ vs) (suc port) h = each_append P v (others_of vs port) (h zero v refl) (each_others P vs port (λ j u e. h (suc j) u e))

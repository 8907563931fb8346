-- Records that fit one history: each name has its part, and each pass took of each in the order of the puts.
use Rattle.std.proofs.Common.{◌≡◌, ℕ, Bool, true, false, List, [], ◌∷◌, ◌++◌, refl, sym, ap, ◌∙◌, subst, zero, suc, ◌+◌, inl, inr, ⊎_elim, arith, ◌<◌, ◌⊎◌, append-nil}
use Rattle.std.specs.Prelude.{if◌then◌else◌}
use Rattle.ready_queue.specs.Names.{Name, same_name, keeps, under}
use Rattle.ready_queue.specs.Bags.{InOrder}
use Rattle.ready_queue.specs.Records.{Each, TakesInOrder, AllInOrder, keepers, put_by, taken_by}
use Rattle.ready_queue.specs.History.{Put, puts_of}
use Rattle.ready_queue.specs.Rule.{Fits}
use Rattle.ready_queue.specs.declared.record.Record.{Record}
use Rattle.ready_queue.proofs.Naming.{same_refl, same_is, keeps_own}
use Rattle.ready_queue.proofs.Totals.{each_map}

in_more : (xs ys : List ℕ) (y : ℕ) → InOrder xs ys → InOrder xs (y ∷ ys)
in_more [] ys y h = tt
in_more (x ∷ xs) ys y h = inr h

-- In the history each pass took of each in the order of the puts.
pub in_history : (m n : Name) (done : List (Put × Name)) (queued : List Put) → InOrder (under m (under n done)) (under m (puts_of done queued))
in_history m n [] queued = tt
in_history m n (e ∷ es) queued =
    let more = in_history m n es queued in
    let took : List ℕ = under m (under n es) in
    let put : List ℕ = under m (puts_of es queued) in
    elim (same_name n e.1) as (λ b. InOrder (under m (if b then e.0 ∷ under n es else under n es)) (if same_name m e.0.1 then e.0.0 ∷ put else put)) [
      | true ↦ elim (same_name m e.0.1) as (λ c. InOrder (if c then e.0.0 ∷ took else took) (if c then e.0.0 ∷ put else put)) [ true ↦ inl (refl, more) | false ↦ more ]
      | false ↦ elim (same_name m e.0.1) as (λ c. InOrder took (if c then e.0.0 ∷ put else put)) [ true ↦ in_more took put e.0.0 more | false ↦ more ]
    ]

-- The history has of a pass what its record says.
own_put : (done : List (Put × Name)) (queued : List Put) (r : Record) → Fits done queued r → under r.name (puts_of done queued) ≡ r.put
own_put done queued r fits = let own = keeps_own r.name r.splits in rw (same_refl r.name) at ((fits r.name (omega arith)).0)

own_taken : (done : List (Put × Name)) (queued : List Put) (r : Record) → Fits done queued r → under r.name done ≡ r.taken
own_taken done queued r fits = let own = keeps_own r.name r.splits in rw (same_refl r.name) at ((fits r.name (omega arith)).1)

takes_in_order : (done : List (Put × Name)) (queued : List Put) (taker putter : Record) → Fits done queued taker → Fits done queued putter → TakesInOrder taker putter
takes_in_order done queued taker putter h k =
    let a = own_taken done queued taker h in
    let b = own_put done queued putter k in
    subst (λ (y : List (ℕ × Name) × List ℕ). InOrder (under putter.name y.0) y.1) (λ i. (a i, b i)) (in_history putter.name taker.name done queued)

-- Records that fit one history are in order.
pub all_in_order : (done : List (Put × Name)) (queued : List Put) (rs : List Record) → Each (Fits done queued) rs → AllInOrder rs
all_in_order done queued rs fit =
    each_map (Fits done queued) (λ taker. Each (TakesInOrder taker) rs)
    (λ taker h. each_map (Fits done queued) (TakesInOrder taker) (λ putter k. takes_in_order done queued taker putter h k) rs fit)
    rs fit

-- ---- the part of each name

not_same : (name : Name) (r : Record) → keeps r.name r.splits name ≡ 0 → (b : Bool) → same_name name r.name ≡ b → b ≡ false
not_same name r none true e =
    let own = keeps_own r.name r.splits in
    let same : keeps r.name r.splits name ≡ keeps r.name r.splits r.name = ap (keeps r.name r.splits) (same_is name r.name e) in
    absurd (omega arith)
not_same name r none false e = refl

not_own : (name : Name) (r : Record) → keeps r.name r.splits name ≡ 0 → same_name name r.name ≡ false
not_own name r none = not_same name r none (same_name name r.name) refl

-- Under a name that they do not keep there is nothing.
by_none : (name : Name) (rs : List Record) → keepers name rs ≡ 0 → (put_by name rs ≡ []) × (taken_by name rs ≡ [])
by_none name [] none = (refl, refl)
by_none name (r ∷ rs) none =
    let here : same_name name r.name ≡ false = not_own name r (omega arith) in
    let more = by_none name rs (omega arith) in
    (rw here more.0, rw here more.1)

only_here : {X : Type 0} (b : Bool) (xs more : List X) → more ≡ [] → (if b then xs ++ more else more) ≡ (if b then xs else [])
only_here true xs more e = ap (λ l. xs ++ l) e ∙ append-nil xs
only_here false xs more e = e

none_or_some : (n : ℕ) → (n ≡ 0) ⊎ (0 < n)
none_or_some zero = inl refl
none_or_some (suc n) = inr (omega arith)

-- Under a name that one of them keeps there is its part of the history.
pub by_one : (done : List (Put × Name)) (queued : List Put) (name : Name) (rs : List Record) → keepers name rs ≡ 1 → Each (Fits done queued) rs → (put_by name rs ≡ under name (puts_of done queued)) × (taken_by name rs ≡ under name done)
by_one done queued name [] one fit = absurd (omega arith)
by_one done queued name (r ∷ rs) one fit =
    ⊎_elim
    (λ (none : keeps r.name r.splits name ≡ 0).
    let here : same_name name r.name ≡ false = not_own name r none in
    let more = by_one done queued name rs (omega arith) fit.1 in
    (rw here more.0, rw here more.1))
    (λ (has : 0 < keeps r.name r.splits name).
    let rest = by_none name rs (let all : keeps r.name r.splits name + keepers name rs ≡ 1 = one in omega arith) in
    let h = fit.0 name has in
    (only_here (same_name name r.name) r.put (put_by name rs) rest.0 ∙ sym h.0, only_here (same_name name r.name) r.taken (taken_by name rs) rest.1 ∙ sym h.1))
    (none_or_some (keeps r.name r.splits name))

-- What the only pass that takes knows, and the only one that puts.
use Rattle.std.proofs.Common.{◌≡◌, ℕ, ◌+◌, ◌<◌, ◌⊎◌, List, [], ◌∷◌, ◌++◌, length, set, refl, ap, subst, inl, inr, ⊎_elim, arith}
use mathlib.Core.Option.{some}
use lib.ListN.{get_elem?}
use Rattle.crossbeam_queue.proofs.Lists.{at_set, at_snoc}
use Rattle.ready_queue.specs.Names.{Name, keeps}
use Rattle.ready_queue.specs.Bags.{weigh}
use Rattle.ready_queue.specs.Records.{Each, all_put, all_taken, keepers}
use Rattle.ready_queue.specs.Rule.{KeepsRule}
use Rattle.ready_queue.specs.Steps.{with_put, with_taken, after_split, split_off}
use Rattle.ready_queue.specs.House.{Leads}
use Rattle.ready_queue.specs.Laws.{TakerKnows, PutterKnows, TakerStays, PutterStays}
use Rattle.ready_queue.specs.declared.record.Record.{Record}
use Rattle.ready_queue.proofs.Naming.{keeps_own}
use Rattle.ready_queue.proofs.Totals.{others_of, total_others, keepers_append, put_append, taken_append, sum_of_keepers, sum_of_put, sum_of_taken, weigh_length, each_append, each_others}

-- ---- what they know

-- A record that keeps no name of another is not of that name.
not_named : (name : Name) (r : Record) → keeps r.name r.splits name ≡ 0 → r.name ≡ name → ⊥
not_named name r none is =
    let own = keeps_own r.name r.splits in
    let same : keeps r.name r.splits r.name ≡ keeps r.name r.splits name = ap (keeps r.name r.splits) is in
    omega arith

-- Who does not keep the name has taken nothing, or put nothing.
none_taken : (name : Name) (u : List Record) → keepers name u ≡ 0 → Each (λ r. (r.name ≡ name) ⊎ (r.taken ≡ [])) u → all_taken u ≡ []
none_taken name [] none only = refl
none_taken name (r ∷ rs) none only =
    let here : r.taken ≡ [] = ⊎_elim (λ is. absurd (not_named name r (omega arith) is)) (λ e. e) only.0 in
    let more = none_taken name rs (omega arith) only.1 in
    rw (here, more) refl

none_put : (name : Name) (u : List Record) → keepers name u ≡ 0 → Each (λ r. (r.name ≡ name) ⊎ (r.put ≡ [])) u → all_put u ≡ []
none_put name [] none only = refl
none_put name (r ∷ rs) none only =
    let here : r.put ≡ [] = ⊎_elim (λ is. absurd (not_named name r (omega arith) is)) (λ e. e) only.0 in
    let more = none_put name rs (omega arith) only.1 in
    rw (here, more) refl

-- The others do not keep the name.
others_keep_none : (name : Name) (items : List ℕ) (views : List (List Record)) (port : ℕ) (v : List Record) → get_elem? views port ≡ some v → KeepsRule items views → 0 < keepers name v → keepers name (others_of views port) ≡ 0
others_keep_none name items views port v at kept has =
    let all = total_others (keepers name) (sum_of_keepers name) views port v at in
    let once = kept.once name in
    let parts = keepers_append name v (others_of views port) in
    omega arith

-- What was put by the pass and by others is what was taken by the pass and by others, and what the queue holds.
all_told : (items : List ℕ) (views : List (List Record)) (port : ℕ) (v : List Record) → get_elem? views port ≡ some v → KeepsRule items views
    → length (all_put v) + length (all_put (others_of views port)) ≡ length (all_taken v) + length (all_taken (others_of views port)) + length items
all_told items views port v at kept =
    let others = others_of views port in
    let put = total_others (λ u. weigh (λ _. 1) (all_put u)) (sum_of_put (λ _. 1)) views port v at in
    let taken = total_others (λ u. weigh (λ _. 1) (all_taken u)) (sum_of_taken (λ _. 1)) views port v at in
    let puts = put_append (λ _. 1) v others in
    let takes = taken_append (λ _. 1) v others in
    let bag = kept.bag (λ _. 1) in
    let a = weigh_length (all_put v) in
    let b = weigh_length (all_put others) in
    let c = weigh_length (all_taken v) in
    let d = weigh_length (all_taken others) in
    let e = weigh_length items in
    omega arith

pub taker_knows : TakerKnows
taker_knows name v has (views, port, at, kept, only) =
    let none = none_taken name (others_of views port) (others_keep_none name [] views port v at kept has) (each_others (λ r. (r.name ≡ name) ⊎ (r.taken ≡ [])) views port only) in
    let few = ap length none in
    let told = all_told [] views port v at kept in
    omega arith

pub putter_knows : PutterKnows
putter_knows name capacity v has (items, full, (views, port, at, kept, only)) =
    let none = none_put name (others_of views port) (others_keep_none name items views port v at kept has) (each_others (λ r. (r.name ≡ name) ⊎ (r.put ≡ [])) views port only) in
    let few = ap length none in
    let told = all_told items views port v at kept in
    omega arith

-- ---- their rules stay

-- What is so of the records under each pass stays so when it is so of one pass after its step.
each_set : (P : Record → Type 0) (views : List (List Record)) (port : ℕ) (w : List Record) → ((j : ℕ) (u : List Record) → get_elem? views j ≡ some u → Each P u) → Each P w
    → (j : ℕ) (u : List Record) → get_elem? (set views port w) j ≡ some u → Each P u
each_set P views port w all here j u e = ⊎_elim (λ t. subst (Each P) t.1 here) (λ t. all j u t.1) (at_set views port j w u e)

each_fork : (P : Record → Type 0) (views : List (List Record)) (port : ℕ) (w x : List Record) → ((j : ℕ) (u : List Record) → get_elem? views j ≡ some u → Each P u) → Each P w → Each P x
    → (j : ℕ) (u : List Record) → get_elem? (set views port w ++ x ∷ []) j ≡ some u → Each P u
each_fork P views port w x all here new j u e = ⊎_elim (each_set P views port w all here j u) (λ (is : x ≡ u). subst (Each P) is new) (at_snoc (set views port w) x u j e)

each_merge : (P : Record → Type 0) (views : List (List Record)) (port : ℕ) (v : List Record) (other : ℕ) (w : List Record) → ((j : ℕ) (u : List Record) → get_elem? views j ≡ some u → Each P u)
    → get_elem? views port ≡ some v → (other ≡ port → ⊥) → get_elem? (set views port (v ++ w)) other ≡ some w
    → (j : ℕ) (u : List Record) → get_elem? (set (set views port (v ++ w)) other []) j ≡ some u → Each P u
each_merge P views port v other w all at two at' =
    let was : get_elem? views other ≡ some w = ⊎_elim (λ t. absurd (two t.0)) (λ t. t.1) (at_set views port other (v ++ w) w at') in
    each_set P (set views port (v ++ w)) other [] (each_set P views port (v ++ w) all (each_append P v w (all port v at) (all other w was))) tt

taker_puts : (name : Name) (v : List Record) (x : ℕ) → Each (λ r. (r.name ≡ name) ⊎ (r.taken ≡ [])) v → Each (λ r. (r.name ≡ name) ⊎ (r.taken ≡ [])) (with_put x v)
taker_puts name [] x h = tt
taker_puts name (own ∷ rest) x h = h

taker_takes : (name : Name) (v : List Record) (x : ℕ) (by : Name) → Leads name v → Each (λ r. (r.name ≡ name) ⊎ (r.taken ≡ [])) v → Each (λ r. (r.name ≡ name) ⊎ (r.taken ≡ [])) (with_taken x by v)
taker_takes name [] x by leads h = tt
taker_takes name (own ∷ rest) x by leads h = (inl leads, h.1)

taker_left : (name : Name) (v : List Record) → Each (λ r. (r.name ≡ name) ⊎ (r.taken ≡ [])) v → Each (λ r. (r.name ≡ name) ⊎ (r.taken ≡ [])) (after_split v)
taker_left name [] h = tt
taker_left name (own ∷ rest) h = h

taker_right : (name : Name) (v : List Record) → Each (λ r. (r.name ≡ name) ⊎ (r.taken ≡ [])) (split_off v)
taker_right name [] = tt
taker_right name (own ∷ rest) = (inr refl, tt)

pub taker_stays : TakerStays
taker_stays name v =
    let P : Record → Type 0 = λ r. (r.name ≡ name) ⊎ (r.taken ≡ []) in (
      (λ capacity ticket items views port room all at. each_set P views port (with_put ticket v) all (taker_puts name v ticket (all port v at))),
      (λ leads ticket putter items views port all at. each_set P views port (with_taken ticket putter v) all (taker_takes name v ticket putter leads (all port v at))),
      (λ port items views all at. each_fork P views port (after_split v) (split_off v) all (taker_left name v (all port v at)) (taker_right name v)),
      (λ w port other items views all at two at'. each_merge P views port v other w all at two at'),
    )

putter_puts : (name : Name) (v : List Record) (x : ℕ) → Leads name v → Each (λ r. (r.name ≡ name) ⊎ (r.put ≡ [])) v → Each (λ r. (r.name ≡ name) ⊎ (r.put ≡ [])) (with_put x v)
putter_puts name [] x leads h = tt
putter_puts name (own ∷ rest) x leads h = (inl leads, h.1)

putter_takes : (name : Name) (v : List Record) (x : ℕ) (by : Name) → Each (λ r. (r.name ≡ name) ⊎ (r.put ≡ [])) v → Each (λ r. (r.name ≡ name) ⊎ (r.put ≡ [])) (with_taken x by v)
putter_takes name [] x by h = tt
putter_takes name (own ∷ rest) x by h = h

putter_left : (name : Name) (v : List Record) → Each (λ r. (r.name ≡ name) ⊎ (r.put ≡ [])) v → Each (λ r. (r.name ≡ name) ⊎ (r.put ≡ [])) (after_split v)
putter_left name [] h = tt
putter_left name (own ∷ rest) h = h

putter_right : (name : Name) (v : List Record) → Each (λ r. (r.name ≡ name) ⊎ (r.put ≡ [])) (split_off v)
putter_right name [] = tt
putter_right name (own ∷ rest) = (inr refl, tt)

pub putter_stays : PutterStays
putter_stays name v =
    let P : Record → Type 0 = λ r. (r.name ≡ name) ⊎ (r.put ≡ []) in (
      (λ leads capacity ticket items views port room all at. each_set P views port (with_put ticket v) all (putter_puts name v ticket leads (all port v at))),
      (λ ticket putter items views port all at. each_set P views port (with_taken ticket putter v) all (putter_takes name v ticket putter (all port v at))),
      (λ port items views all at. each_fork P views port (after_split v) (split_off v) all (putter_left name v (all port v at)) (putter_right name v)),
      (λ w port other items views all at two at'. each_merge P views port v other w all at two at'),
    )

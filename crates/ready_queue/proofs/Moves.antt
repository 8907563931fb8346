-- Each step of a pass keeps the rule of the queue.
use Rattle.std.proofs.Common.{◌≡◌, ◌≢◌, ℕ, zero, suc, ◌+◌, ◌<◌, ◌^◌, Bool, true, false, List, [], ◌∷◌, ◌++◌, length, map, set, refl, sym, ap, ◌∙◌, subst, ⊎_elim, arith, length-append, append_assoc, append-nil}
use Rattle.std.specs.Prelude.{if◌then◌else◌}
use mathlib.Core.Option.{some, some-injective, some-ne-none}
use lib.ListN.{get_elem?}
use Rattle.crossbeam_queue.specs.Fifo.{Pushes, Pops, Forks, Merges, Learns}
use Rattle.crossbeam_queue.proofs.Lists.{at_set, at_snoc}
use Rattle.ready_queue.specs.Names.{Name, same_name, keeps, under}
use Rattle.ready_queue.specs.Bags.{weigh}
use Rattle.ready_queue.specs.Records.{newcomer, Each, all_put, all_taken, tickets, keepers, IsWhole, AllInOrder}
use Rattle.ready_queue.specs.History.{Put, puts_of, IsMoment, GoesWith}
use Rattle.ready_queue.specs.Rule.{Fits, total, KeepsRule}
use Rattle.ready_queue.specs.Steps.{Puts, Takes, after_split, split_off, joined, Closes}
use Rattle.ready_queue.specs.declared.record.Record.{Record}
use Rattle.ready_queue.proofs.Naming.{keeps_own, keeps_all, keeps_split, under_append, under_own, under_other, not_kept, same_is}
use Rattle.ready_queue.proofs.Totals.{total_set, total_snoc, one_part, two_parts, others_of, total_others, weigh_append, keepers_append, put_append, taken_append, tickets_append, sum_of_keepers, sum_of_put, sum_of_taken, each_apart, each_append, each_others, length_tickets}
use Rattle.ready_queue.proofs.Orders.{all_in_order, by_one}

-- ---- what the rule tells

-- What a pass knows of one moment.
moment : (items : List ℕ) (views : List (List Record)) (port : ℕ) (v : List Record) → (kept : KeepsRule items views) → get_elem? views port ≡ some v → IsMoment v kept.queued
moment items views port v kept at =
    let others = others_of views port in
    let whole : IsWhole (v ++ others) = λ name. total_others (keepers name) (sum_of_keepers name) views port v at ∙ kept.once name in
    let fit : Each (Fits kept.done kept.queued) (v ++ others) = each_append (Fits kept.done kept.queued) v others (kept.fits port v at) (each_others (Fits kept.done kept.queued) views port kept.fits) in
    record {
      others = others;
      done = kept.done;
      whole = whole;
      puts = λ name. (by_one kept.done kept.queued name (v ++ others) (whole name) fit).0;
      takes = λ name. (by_one kept.done kept.queued name (v ++ others) (whole name) fit).1;
      bag =
          λ weight.
          let put = total_others (λ u. weigh weight (all_put u)) (sum_of_put weight) views port v at in
          let taken = total_others (λ u. weigh weight (all_taken u)) (sum_of_taken weight) views port v at in
          let bag = kept.bag weight in
          let both = weigh_append weight (all_taken (v ++ others)) (tickets kept.queued) in
          let held : weigh weight (tickets kept.queued) ≡ weigh weight items = ap (weigh weight) kept.held in
          omega arith;
    }

pub goes : (port : ℕ) (v : List Record) → Learns KeepsRule port v (λ items. GoesWith v items)
goes port v items views kept at = (kept.queued, kept.held, moment items views port v kept at)

pub closes : (port : ℕ) (v : List Record) → Learns KeepsRule port v (Closes v)
closes port v items views kept at = (goes port v items views kept at, kept.few)

pub orders : (port : ℕ) (v : List Record) → Learns KeepsRule port v (λ items. AllInOrder v)
orders port v items views kept at = all_in_order kept.done kept.queued v (kept.fits port v at)

-- ---- the first pass

none_either : {X : Type 0} (b : Bool) → let none : List X = [] in none ≡ (if b then none else none)
none_either true = refl
none_either false = refl

fits_newcomer : (done : List (Put × Name)) (queued : List Put) (own name : Name) → under name (puts_of done queued) ≡ [] → under name done ≡ [] → (under name (puts_of done queued) ≡ (if same_name name own then [] else [])) × (under name done ≡ (if same_name name own then [] else []))
fits_newcomer done queued own name p t = (p ∙ none_either (same_name name own), t ∙ none_either (same_name name own))

fits_first : Fits [] [] (newcomer [])
fits_first name has = fits_newcomer [] [] [] name refl refl

alone : (v u : List Record) (port : ℕ) → get_elem? (v ∷ []) port ≡ some u → v ≡ u
alone v u zero e = some-injective v u e
alone v u (suc port) e = absurd (some-ne-none u (sym e))

pub begins : KeepsRule [] ((newcomer [] ∷ []) ∷ [])
begins = record {
  done = [];
  queued = [];
  held = refl;
  few = omega arith;
  once = λ name. let all = keeps_all name in omega arith;
  bag = λ weight. refl;
  fits = λ port v at. subst (Each (Fits [] [])) (alone (newcomer [] ∷ []) v port at) (fits_first, tt);
}

-- ---- names of one pass

-- The others under a pass, and all other passes, do not keep its own name.
rest_keeps_none : (own : Record) (rest : List Record) (views : List (List Record)) (port : ℕ) → get_elem? views port ≡ some (own ∷ rest) → total (keepers own.name) views ≡ 1 → keepers own.name rest ≡ 0
rest_keeps_none own rest views port at once =
    let mine = keeps_own own.name own.splits in
    let part = one_part (keepers own.name) views port (own ∷ rest) at in
    omega arith

other_keeps_none : (own : Record) (rest : List Record) (views : List (List Record)) (port j : ℕ) (u : List Record) → get_elem? views port ≡ some (own ∷ rest) → total (keepers own.name) views ≡ 1 → j ≢ port → get_elem? views j ≡ some u → keepers own.name u ≡ 0
other_keeps_none own rest views port j u at once other e =
    let mine = keeps_own own.name own.splits in
    let parts = two_parts (keepers own.name) views port j (own ∷ rest) u other at e in
    omega arith

-- ---- a put

-- The puts with one more.
puts_more : (done : List (Put × Name)) (queued : List Put) (name : Name) (p : Put) → under name (puts_of done (queued ++ p ∷ [])) ≡ under name (puts_of done queued) ++ under name (p ∷ [])
puts_more done queued name p = ap (under name) (sym (append_assoc (map (λ e. e.0) done) queued (p ∷ []))) ∙ under_append name (puts_of done queued) (p ∷ [])

fits_put : (done : List (Put × Name)) (queued : List Put) (own : Record) (x : ℕ) → Fits done queued own → Fits done (queued ++ (x, own.name) ∷ []) (record own { put = own.put ++ x ∷ [] })
fits_put done queued own x fits name has =
    let h = fits name has in
    (puts_more done queued name (x, own.name) ∙ (ap (λ l. l ++ under name ((x, own.name) ∷ [])) h.0 ∙ under_own name own.name own.put x), h.1)

fits_put_other : (done : List (Put × Name)) (queued : List Put) (by : Name) (x : ℕ) (r : Record) → keeps r.name r.splits by ≡ 0 → Fits done queued r → Fits done (queued ++ (x, by) ∷ []) r
fits_put_other done queued by x r none fits name has =
    let h = fits name has in
    let away = under_other name by x (not_kept r.name r.splits name by has none) in
    (puts_more done queued name (x, by) ∙ (ap (λ l. under name (puts_of done queued) ++ l) away ∙ (append-nil (under name (puts_of done queued)) ∙ h.0)), h.1)

pub puts : (n port : ℕ) (v : List Record) (x : ℕ) → 0 < length v → n < 2 ^ 64 → Pushes KeepsRule n port v x (Puts n v x)
puts n port [] x live small items views room kept at = absurd (omega arith)
puts n port (own ∷ rest) x live small items views room kept at =
    let mine : Record = record own { put = own.put ++ x ∷ [] } in
    let w : List Record = mine ∷ rest in
    let queued : List Put = kept.queued ++ (x, own.name) ∷ [] in
    let fit = kept.fits port (own ∷ rest) at in
    let once = kept.once own.name in (
      w,
      record {
        done = kept.done;
        queued = queued;
        held = tickets_append kept.queued ((x, own.name) ∷ []) ∙ ap (λ l. l ++ x ∷ []) kept.held;
        few = let len = length-append items (x ∷ []) in omega arith;
        once = λ name. let s = total_set (keepers name) views port (own ∷ rest) w at in let t = kept.once name in omega arith;
        bag =
            λ weight.
            let put = total_set (λ u. weigh weight (all_put u)) views port (own ∷ rest) w at in
            let taken = total_set (λ u. weigh weight (all_taken u)) views port (own ∷ rest) w at in
            let before = weigh_append weight own.put (all_put rest) in
            let after = weigh_append weight (own.put ++ x ∷ []) (all_put rest) in
            let one = weigh_append weight own.put (x ∷ []) in
            let held = weigh_append weight items (x ∷ []) in
            let bag = kept.bag weight in
            omega arith;
        fits =
            λ j u e.
            ⊎_elim
            (λ t. subst (Each (Fits kept.done queued)) t.1 (fits_put kept.done kept.queued own x fit.0, each_apart (Fits kept.done kept.queued) (Fits kept.done queued) own.name (fits_put_other kept.done kept.queued own.name x) rest (rest_keeps_none own rest views port at once) fit.1))
            (λ t. each_apart (Fits kept.done kept.queued) (Fits kept.done queued) own.name (fits_put_other kept.done kept.queued own.name x) u (other_keeps_none own rest views port j u at once t.0 t.1) (kept.fits j u t.1))
            (at_set views port j w u e);
      },
      (refl, (kept.queued, rw (sym (length_tickets kept.queued) ∙ ap length kept.held) room, moment items views port (own ∷ rest) kept at)),
    )

-- ---- a take

-- A take changes nothing of the puts.
puts_same : (done : List (Put × Name)) (queued : List Put) (p : Put) (by : Name) → puts_of (done ++ (p, by) ∷ []) queued ≡ puts_of done (p ∷ queued)
puts_same [] queued p by = refl
puts_same (e ∷ es) queued p by = ap (λ l. e.0 ∷ l) (puts_same es queued p by)

fits_take : (done : List (Put × Name)) (queued : List Put) (p : Put) (own : Record) → Fits done (p ∷ queued) own → Fits (done ++ (p, own.name) ∷ []) queued (record own { taken = own.taken ++ p ∷ [] })
fits_take done queued p own fits name has =
    let h = fits name has in
    (ap (under name) (puts_same done queued p own.name) ∙ h.0, under_append name done ((p, own.name) ∷ []) ∙ (ap (λ l. l ++ under name ((p, own.name) ∷ [])) h.1 ∙ under_own name own.name own.taken p))

fits_take_other : (done : List (Put × Name)) (queued : List Put) (p : Put) (by : Name) (r : Record) → keeps r.name r.splits by ≡ 0 → Fits done (p ∷ queued) r → Fits (done ++ (p, by) ∷ []) queued r
fits_take_other done queued p by r none fits name has =
    let h = fits name has in
    let away = under_other name by p (not_kept r.name r.splits name by has none) in
    (ap (under name) (puts_same done queued p by) ∙ h.0, under_append name done ((p, by) ∷ []) ∙ (ap (λ l. under name done ++ l) away ∙ (append-nil (under name done) ∙ h.1)))

took : (port : ℕ) (own : Record) (rest : List Record) (p : Put) (queued : List Put) (items : List ℕ) (views : List (List Record)) (done : List (Put × Name))
    → tickets queued ≡ items → length (p.0 ∷ items) < 2 ^ 64 → ((name : Name) → total (keepers name) views ≡ 1)
    → ((weight : ℕ → ℕ) → total (λ v. weigh weight (all_put v)) views ≡ total (λ v. weigh weight (all_taken v)) views + weigh weight (p.0 ∷ items))
    → ((j : ℕ) (u : List Record) → get_elem? views j ≡ some u → Each (Fits done (p ∷ queued)) u)
    → get_elem? views port ≡ some (own ∷ rest)
    → (w : List Record) × KeepsRule items (set views port w) × Takes (own ∷ rest) p.0 w
took port own rest p queued items views done held few once bag fits at =
    let before : KeepsRule (p.0 ∷ items) views = record { done = done; queued = p ∷ queued; held = ap (λ l. p.0 ∷ l) held; few = few; once = once; bag = bag; fits = fits } in
    let mine : Record = record own { taken = own.taken ++ p ∷ [] } in
    let w : List Record = mine ∷ rest in
    let done' : List (Put × Name) = done ++ (p, own.name) ∷ [] in
    let fit = fits port (own ∷ rest) at in
    let other = fits_take_other done queued p own.name in
    let fit' : Each (Fits done' queued) w = (fits_take done queued p own fit.0, each_apart (Fits done (p ∷ queued)) (Fits done' queued) own.name other rest (rest_keeps_none own rest views port at (once own.name)) fit.1) in (
      w,
      record {
        done = done';
        queued = queued;
        held = held;
        few = omega arith;
        once = λ name. let s = total_set (keepers name) views port (own ∷ rest) w at in let t = once name in omega arith;
        bag =
            λ weight.
            let put = total_set (λ u. weigh weight (all_put u)) views port (own ∷ rest) w at in
            let taken = total_set (λ u. weigh weight (all_taken u)) views port (own ∷ rest) w at in
            let before = weigh_append weight (tickets own.taken) (all_taken rest) in
            let after = weigh_append weight (tickets (own.taken ++ p ∷ [])) (all_taken rest) in
            let more = ap (weigh weight) (tickets_append own.taken (p ∷ [])) in
            let one = weigh_append weight (tickets own.taken) (p.0 ∷ []) in
            let all = bag weight in
            omega arith;
        fits =
            λ j u e.
            ⊎_elim
            (λ t. subst (Each (Fits done' queued)) t.1 fit')
            (λ t. each_apart (Fits done (p ∷ queued)) (Fits done' queued) own.name other u (other_keeps_none own rest views port j u at (once own.name) t.0 t.1) (fits j u t.1))
            (at_set views port j w u e);
      },
      (p.1, queued, refl, moment (p.0 ∷ items) views port (own ∷ rest) before at, all_in_order done' queued w fit'),
    )

-- The first of the tickets in the queue is that of the first put that is not taken.
first_put : (port : ℕ) (own : Record) (rest : List Record) (x : ℕ) (items : List ℕ) (views : List (List Record)) (done : List (Put × Name)) (queued : List Put)
    → tickets queued ≡ x ∷ items → length (x ∷ items) < 2 ^ 64 → ((name : Name) → total (keepers name) views ≡ 1)
    → ((weight : ℕ → ℕ) → total (λ v. weigh weight (all_put v)) views ≡ total (λ v. weigh weight (all_taken v)) views + weigh weight (x ∷ items))
    → ((j : ℕ) (u : List Record) → get_elem? views j ≡ some u → Each (Fits done queued) u)
    → get_elem? views port ≡ some (own ∷ rest)
    → (w : List Record) × KeepsRule items (set views port w) × Takes (own ∷ rest) x w
first_put port own rest x items views done [] held few once bag fits at = cc
first_put port own rest x items views done (p ∷ queued) held few once bag fits at =
    let same : p.0 ≡ x = cc in
    let behind : tickets queued ≡ items = cc in
    subst (λ (y : ℕ). length (y ∷ items) < 2 ^ 64 → ((weight : ℕ → ℕ) → total (λ v. weigh weight (all_put v)) views ≡ total (λ v. weigh weight (all_taken v)) views + weigh weight (y ∷ items)) → (w : List Record) × KeepsRule items (set views port w) × Takes (own ∷ rest) y w) same
    (λ f b. took port own rest p queued items views done behind f once b fits at) few bag

pub takes : (port : ℕ) (v : List Record) → 0 < length v → Pops KeepsRule port v (Takes v)
takes port [] live x items views kept at = absurd (omega arith)
takes port (own ∷ rest) live x items views kept at = first_put port own rest x items views kept.done kept.queued kept.held kept.few kept.once kept.bag kept.fits at

-- ---- a split

-- What is split off keeps none of the names that were given.
new_keeps_none : (own : Record) → keeps (own.name ++ own.splits ∷ []) 0 own.name ≡ 0
new_keeps_none own =
    let before = keeps_own own.name own.splits in
    let after = keeps_own own.name (own.splits + 1) in
    let both = keeps_split own.name own.splits own.name in
    omega arith

fits_left : (done : List (Put × Name)) (queued : List Put) (own : Record) → Fits done queued own → Fits done queued (record own { splits = own.splits + 1 })
fits_left done queued own fits name has = let both = keeps_split own.name own.splits name in fits name (omega arith)

given_none : {X : Type 0} (own : Record) (name : Name) (xs ys : List X) → 0 < keeps (own.name ++ own.splits ∷ []) 0 name → (b : Bool) → same_name name own.name ≡ b → xs ≡ (if b then ys else []) → xs ≡ []
given_none own name xs ys has true same e =
    let none = new_keeps_none own in
    let kept : keeps (own.name ++ own.splits ∷ []) 0 name ≡ keeps (own.name ++ own.splits ∷ []) 0 own.name = ap (keeps (own.name ++ own.splits ∷ []) 0) (same_is name own.name same) in
    absurd (omega arith)
given_none own name xs ys has false same e = e

fits_right : (done : List (Put × Name)) (queued : List Put) (own : Record) → Fits done queued own → Fits done queued (newcomer (own.name ++ own.splits ∷ []))
fits_right done queued own fits name has =
    let both = keeps_split own.name own.splits name in
    let h = fits name (omega arith) in
    fits_newcomer done queued (own.name ++ own.splits ∷ []) name
    (given_none own name (under name (puts_of done queued)) own.put has (same_name name own.name) refl h.0)
    (given_none own name (under name done) own.taken has (same_name name own.name) refl h.1)

pub splits : (port : ℕ) (v : List Record) → 0 < length v → Forks KeepsRule port v (after_split v) (split_off v)
splits port [] live items views kept at = absurd (omega arith)
splits port (own ∷ rest) live items views kept at =
    let left : List Record = after_split (own ∷ rest) in
    let right : List Record = split_off (own ∷ rest) in
    let vs : List (List Record) = set views port left in
    let fit = kept.fits port (own ∷ rest) at in
    let fit' : Each (Fits kept.done kept.queued) left = (fits_left kept.done kept.queued own fit.0, fit.1) in
    record {
      done = kept.done;
      queued = kept.queued;
      held = kept.held;
      few = kept.few;
      once =
          λ name.
          let s = total_set (keepers name) views port (own ∷ rest) left at in
          let more = total_snoc (keepers name) vs right in
          let both = keeps_split own.name own.splits name in
          let t = kept.once name in
          omega arith;
      bag =
          λ weight.
          let put = total_set (λ u. weigh weight (all_put u)) views port (own ∷ rest) left at in
          let taken = total_set (λ u. weigh weight (all_taken u)) views port (own ∷ rest) left at in
          let put' = total_snoc (λ u. weigh weight (all_put u)) vs right in
          let taken' = total_snoc (λ u. weigh weight (all_taken u)) vs right in
          let all = kept.bag weight in
          omega arith;
      fits =
          λ j u e.
          ⊎_elim
          (λ old. ⊎_elim (λ t. subst (Each (Fits kept.done kept.queued)) t.1 fit') (λ t. kept.fits j u t.1) (at_set views port j left u old))
          (λ (is : right ≡ u). subst (Each (Fits kept.done kept.queued)) is (fits_right kept.done kept.queued own fit.0, tt))
          (at_snoc vs right u j e);
    }

-- ---- a join

pub joins : (port : ℕ) (v : List Record) (other : ℕ) (w : List Record) → Merges KeepsRule port v other w (joined v w) []
joins port v other w items views kept at two at' =
    let both : List Record = joined v w in
    let vs : List (List Record) = set views port both in
    let was : get_elem? views other ≡ some w = ⊎_elim (λ t. absurd (two t.0)) (λ t. t.1) (at_set views port other both w at') in
    let fit' : Each (Fits kept.done kept.queued) both = each_append (Fits kept.done kept.queued) v w (kept.fits port v at) (kept.fits other w was) in
    record {
      done = kept.done;
      queued = kept.queued;
      held = kept.held;
      few = kept.few;
      once =
          λ name.
          let s = total_set (keepers name) views port v both at in
          let s' = total_set (keepers name) vs other w [] at' in
          let sum = keepers_append name v w in
          let t = kept.once name in
          omega arith;
      bag =
          λ weight.
          let put = total_set (λ u. weigh weight (all_put u)) views port v both at in
          let put' = total_set (λ u. weigh weight (all_put u)) vs other w [] at' in
          let taken = total_set (λ u. weigh weight (all_taken u)) views port v both at in
          let taken' = total_set (λ u. weigh weight (all_taken u)) vs other w [] at' in
          let sum = put_append weight v w in
          let sum' = taken_append weight v w in
          let all = kept.bag weight in
          omega arith;
      fits =
          λ j u e.
          ⊎_elim
          (λ t. subst (Each (Fits kept.done kept.queued)) t.1 tt)
          (λ t. ⊎_elim (λ s. subst (Each (Fits kept.done kept.queued)) s.1 fit') (λ s. kept.fits j u s.1) (at_set views port j both u t.1))
          (at_set vs other j [] u e);
    }

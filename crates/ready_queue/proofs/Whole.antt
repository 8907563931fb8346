-- What a pass knows when no other pass is out.
use Rattle.std.proofs.Common.{◌≡◌, ℕ, ◌+◌, Bool, true, false, true≢false, List, [], ◌∷◌, ◌++◌, length, map, refl, sym, ap, ◌∙◌, subst, arith, length-append, append-nil}
use Rattle.std.specs.Prelude.{if◌then◌else◌}
use Rattle.ready_queue.specs.Names.{Name, same_name, under}
use Rattle.ready_queue.specs.Bags.{SameBag}
use Rattle.ready_queue.specs.Records.{all_put, all_taken, put_by, taken_by, tickets, IsWhole}
use Rattle.ready_queue.specs.History.{Put, puts_of, IsMoment}
use Rattle.ready_queue.specs.declared.record.Record.{Record}
use Rattle.ready_queue.proofs.Naming.{same_refl, same_is}
use Rattle.ready_queue.proofs.Totals.{keepers_append, nobody, weigh_length, length_tickets, tickets_append}

no_others : (v : List Record) (queued : List Put) (moment : IsMoment v queued) → IsWhole v → moment.others ≡ []
no_others v queued moment whole =
    nobody moment.others (λ name. let a = whole name in let b = moment.whole name in let c = keepers_append name v moment.others in omega arith)

-- What was put is what was taken and what the queue holds.
pub whole_bag : (v : List Record) (queued : List Put) → IsMoment v queued → IsWhole v → SameBag (all_put v) (all_taken v ++ tickets queued)
whole_bag v queued moment whole =
    subst (λ (rs : List Record). SameBag (all_put rs) (all_taken rs ++ tickets queued)) (ap (λ l. v ++ l) (no_others v queued moment whole) ∙ append-nil v) moment.bag

-- One bag has one length.
bag_length : (xs ys : List ℕ) → SameBag xs ys → length xs ≡ length ys
bag_length xs ys bag = let a = bag (λ _. 1) in let b = weigh_length xs in let c = weigh_length ys in omega arith

pub whole_length : (v : List Record) (queued : List Put) → IsMoment v queued → IsWhole v → length (all_put v) ≡ length (all_taken v) + length queued
whole_length v queued moment whole =
    let bag = bag_length (all_put v) (all_taken v ++ tickets queued) (whole_bag v queued moment whole) in
    let parts = length-append (all_taken v) (tickets queued) in
    let same = length_tickets queued in
    omega arith

-- ---- the only pass

not_back : (a b : Name) → same_name a b ≡ false → (c : Bool) → same_name b a ≡ c → c ≡ false
not_back a b differ true e = let same : same_name a b ≡ true = ap (same_name a) (same_is b a e) ∙ same_refl a in absurd (true≢false (sym same ∙ differ))
not_back a b differ false e = refl

all_of_more : {X : Type 0} (n : Name) (e : X × Name) (es : List (X × Name)) → ((name : Name) → same_name name n ≡ false → under name (e ∷ es) ≡ [])
    → (((name : Name) → same_name name n ≡ false → under name es ≡ []) → map (λ p. p.0) es ≡ under n es)
    → (b : Bool) → same_name n e.1 ≡ b → e.0 ∷ map (λ p. p.0) es ≡ (if b then e.0 ∷ under n es else under n es)
all_of_more n e es none more true is =
    let same : n ≡ e.1 = same_is n e.1 is in
    ap (λ l. e.0 ∷ l) (more (λ name differ. rw (ap (same_name name) (sym same) ∙ differ) at (none name differ)))
all_of_more n e es none more false is =
    let gone = none e.1 (not_back n e.1 is (same_name e.1 n) refl) in
    let there = rw (same_refl e.1) at gone in
    cc

-- Where nothing stands beside another name, all stands beside this.
all_of_one : {X : Type 0} (n : Name) (es : List (X × Name)) → ((name : Name) → same_name name n ≡ false → under name es ≡ []) → map (λ p. p.0) es ≡ under n es
all_of_one n [] none = refl
all_of_one n (e ∷ es) none = all_of_more n e es none (all_of_one n es) (same_name n e.1) refl

pub alone_in_order : (own : Record) (queued : List Put) → IsWhole (own ∷ []) → IsMoment (own ∷ []) queued → own.put ≡ tickets own.taken ++ tickets queued
alone_in_order own queued whole moment =
    let none = no_others (own ∷ []) queued moment whole in
    let all = puts_of moment.done queued in
    let puts : (name : Name) → put_by name (own ∷ []) ≡ under name all = subst (λ l. (name : Name) → put_by name (own ∷ l) ≡ under name (puts_of moment.done queued)) none moment.puts in
    let takes : (name : Name) → taken_by name (own ∷ []) ≡ under name moment.done = subst (λ l. (name : Name) → taken_by name (own ∷ l) ≡ under name moment.done) none moment.takes in
    let put : tickets all ≡ own.put ++ [] =
    all_of_one own.name all (λ name differ. sym (puts name) ∙ ap (λ b. if b then own.put ++ [] else []) differ) ∙ (sym (puts own.name) ∙ ap (λ b. if b then own.put ++ [] else []) (same_refl own.name)) in
    let taken : map (λ p. p.0) moment.done ≡ own.taken ++ [] =
    all_of_one own.name moment.done (λ name differ. sym (takes name) ∙ ap (λ b. if b then own.taken ++ [] else []) differ) ∙ (sym (takes own.name) ∙ ap (λ b. if b then own.taken ++ [] else []) (same_refl own.name)) in
    sym (append-nil own.put) ∙ (sym put ∙ (tickets_append (map (λ p. p.0) moment.done) queued ∙ ap (λ l. tickets l ++ tickets queued) (taken ∙ append-nil own.taken)))

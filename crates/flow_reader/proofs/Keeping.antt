-- What is read passes a test, where its parts pass theirs.
use Rattle.std.proofs.Common.{◌≡◌, ℕ, suc, List, [], ◌∷◌, ◌++◌, Bool, true, false, ◌&&◌, IsTrue, cond, Option, Some, None, Ok, Err, refl, subst, decimal}
use Rattle.std.specs.List.{list_all}
use Rattle.serde_json.specs.Data.{Data, null, boolean, number, string, array, object, Items, no_items, item, Members, no_members, member}
use Rattle.serde_json.specs.Find.{get}
use Rattle.flow_model.specs.Rules.{all_there}
use Rattle.flow_model.proofs.Tests.{pair}
use Rattle.flow_reader.specs.Checked.{Checked, bad, both, made, under, optional, optional_at, defaulted, defaulted_at, required, required_at, spelled, spelled_at, spelled_in, is_expression, in_object, of_members, items_checked, list_of, pairs_checked}
use Rattle.flow_reader.specs.declared.fault.FlowFault.{FlowFault}

abbrev pub Keeps : {A : Type 0} → (A → Bool) → Checked A → Type 0
Keeps {A} test m = (x : A) → m ≡ Ok x → IsTrue (test x)

-- what is read is what was read
same_Ok : {A : Type 0} (m : Checked A) (a x : A) → m ≡ Ok a → m ≡ Ok x → a ≡ x
same_Ok m a x h e = cc

pub keeps_here : {A : Type 0} (test : A → Bool) (a : A) → IsTrue (test a) → Keeps test (Ok a)
keeps_here test a h x e = subst (λ y. IsTrue (test y)) (same_Ok (Ok a) a x refl e) h

not_Ok : {A : Type 0} (m : Checked A) (fs : List FlowFault) (x : A) → m ≡ Err fs → m ≡ Ok x → ⊥
not_Ok m fs x h e = cc

pub keeps_none : {A : Type 0} (test : A → Bool) (fs : List FlowFault) → Keeps test (Err fs)
keeps_none test fs x e = absurd (not_Ok (Err fs) fs x refl e)

pub keeps_bad : {A : Type 0} (test : A → Bool) (f : FlowFault) → Keeps test (bad f)
unfolding bad
keeps_bad test f = keeps_none test (f ∷ [])

pub keeps_any : {A : Type 0} (m : Checked A) → Keeps (λ _. true) m
keeps_any m x e = refl

pub keeps_weaker : {A : Type 0} (p q : A → Bool) (m : Checked A) → ((x : A) → IsTrue (p x) → IsTrue (q x)) → Keeps p m → Keeps q m
keeps_weaker p q m tells h x e = tells x (h x e)

pub keeps_both : {A B : Type 0} (p : A → Bool) (q : B → Bool) (a : Checked A) (b : Checked B) → Keeps p a → Keeps q b → Keeps (λ x. p x.0 && q x.1) (both a b)
unfolding both
keeps_both p q (Ok a) (Ok b) h k = keeps_here (λ x. p x.0 && q x.1) (a, b) (pair (p a) (q b) (h a refl) (k b refl))
keeps_both p q (Ok a) (Err gs) h k = keeps_none (λ x. p x.0 && q x.1) gs
keeps_both p q (Err fs) (Ok b) h k = keeps_none (λ x. p x.0 && q x.1) fs
keeps_both p q (Err fs) (Err gs) h k = keeps_none (λ x. p x.0 && q x.1) (fs ++ gs)

pub keeps_made : {A B : Type 0} (m : A → B) (q : B → Bool) (a : Checked A) → Keeps (λ x. q (m x)) a → Keeps q (made m a)
unfolding made
keeps_made m q (Ok a) h = keeps_here q (m a) (h a refl)
keeps_made m q (Err fs) h = keeps_none q fs

pub keeps_under : {A : Type 0} (p : A → Bool) (key : List ℕ) (a : Checked A) → Keeps p a → Keeps p (under key a)
unfolding under
keeps_under p key (Ok a) h = h
keeps_under p key (Err fs) h = keeps_none p _

-- one of two, by a test
pub keeps_if : {A : Type 0} (p : A → Bool) (b : Bool) (t e : Checked A) → (b ≡ true → Keeps p t) → (b ≡ false → Keeps p e) → Keeps p (cond b t e)
keeps_if p true t e h k = h refl
keeps_if p false t e h k = k refl

-- ---- keys of an object

keeps_optional_at : {A : Type 0} (p : A → Bool) (of : Data → Checked A) (key : List ℕ) (o : Option Data) → ((d : Data) → Keeps p (of d)) → Keeps (all_there p) (optional_at of key o)
unfolding optional_at
keeps_optional_at p of key None h = keeps_here (all_there p) None refl
keeps_optional_at p of key (Some d) h = keeps_made Some (all_there p) (under key (of d)) (keeps_under p key (of d) (h d))

pub keeps_optional : {A : Type 0} (p : A → Bool) (of : Data → Checked A) (key : List ℕ) (d : Data) → ((d : Data) → Keeps p (of d)) → Keeps (all_there p) (optional of key d)
keeps_optional p of key d h = keeps_optional_at p of key (get key d) h

keeps_defaulted_at : {A : Type 0} (p : A → Bool) (default : A) (of : Data → Checked A) (key : List ℕ) (o : Option Data) → IsTrue (p default) → ((d : Data) → Keeps p (of d)) → Keeps p (defaulted_at default of key o)
unfolding defaulted_at
keeps_defaulted_at p default of key None k h = keeps_here p default k
keeps_defaulted_at p default of key (Some d) k h = keeps_under p key (of d) (h d)

pub keeps_defaulted : {A : Type 0} (p : A → Bool) (default : A) (of : Data → Checked A) (key : List ℕ) (d : Data) → IsTrue (p default) → ((d : Data) → Keeps p (of d)) → Keeps p (defaulted default of key d)
keeps_defaulted p default of key d k h = keeps_defaulted_at p default of key (get key d) k h

keeps_required_at : {A : Type 0} (p : A → Bool) (of : Data → Checked A) (key : List ℕ) (o : Option Data) → ((d : Data) → Keeps p (of d)) → Keeps p (required_at of key o)
unfolding required_at
keeps_required_at p of key None h = keeps_bad p _
keeps_required_at p of key (Some d) h = keeps_under p key (of d) (h d)

pub keeps_required : {A : Type 0} (p : A → Bool) (of : Data → Checked A) (key : List ℕ) (d : Data) → ((d : Data) → Keeps p (of d)) → Keeps p (required of key d)
keeps_required p of key d h = keeps_required_at p of key (get key d) h

pub keeps_spelled_in : {A : Type 0} (p : A → Bool) (of : Data → Checked A) (key : List ℕ) (d : Data) → Keeps p (of d) → Keeps p (spelled_in of key d)
unfolding spelled_in
keeps_spelled_in p of key d h = keeps_if p (is_expression d) (bad _) (under key (of d)) (λ _. keeps_bad p _) (λ _. keeps_under p key (of d) h)

keeps_spelled_at : {A : Type 0} (p : A → Bool) (of : Data → Checked A) (key : List ℕ) (o : Option Data) → ((d : Data) → Keeps p (of d)) → Keeps (all_there p) (spelled_at of key o)
unfolding spelled_at
keeps_spelled_at p of key None h = keeps_here (all_there p) None refl
keeps_spelled_at p of key (Some d) h = keeps_made Some (all_there p) (spelled_in of key d) (keeps_spelled_in p of key d (h d))

pub keeps_spelled : {A : Type 0} (p : A → Bool) (of : Data → Checked A) (key : List ℕ) (d : Data) → ((d : Data) → Keeps p (of d)) → Keeps (all_there p) (spelled of key d)
keeps_spelled p of key d h = keeps_spelled_at p of key (get key d) h

-- ---- objects and lists

pub keeps_in_object : {A : Type 0} (p : A → Bool) (of : Data → Checked A) (d : Data) → ((o : Data) → Keeps p (of o)) → Keeps p (in_object of d)
unfolding in_object
keeps_in_object p of null h = keeps_bad p _
keeps_in_object p of (boolean b) h = keeps_bad p _
keeps_in_object p of (number n) h = keeps_bad p _
keeps_in_object p of (string bytes) h = keeps_bad p _
keeps_in_object p of (array ds) h = keeps_bad p _
keeps_in_object p of (object ms) h = h (object ms)

pub keeps_of_members : {A : Type 0} (p : A → Bool) (of : Members → Checked A) (d : Data) → ((ms : Members) → Keeps p (of ms)) → Keeps p (of_members of d)
unfolding of_members
keeps_of_members p of null h = keeps_bad p _
keeps_of_members p of (boolean b) h = keeps_bad p _
keeps_of_members p of (number n) h = keeps_bad p _
keeps_of_members p of (string bytes) h = keeps_bad p _
keeps_of_members p of (array ds) h = keeps_bad p _
keeps_of_members p of (object ms) h = h ms

keeps_items : {A : Type 0} (p : A → Bool) (of : Data → Checked A) → ((d : Data) → Keeps p (of d)) → (n : ℕ) (ds : Items) → Keeps (list_all p) (items_checked of n ds)
keeps_items p of h n no_items = keeps_here (list_all p) [] refl
keeps_items p of h n (item d ds) =
    keeps_made (λ x. x.0 ∷ x.1) (list_all p) (both (under (decimal n) (of d)) (items_checked of (suc n) ds))
    (keeps_both p (list_all p) (under (decimal n) (of d)) (items_checked of (suc n) ds) (keeps_under p (decimal n) (of d) (h d)) (keeps_items p of h (suc n) ds))

pub keeps_list : {A : Type 0} (p : A → Bool) (of : Data → Checked A) (d : Data) → ((d : Data) → Keeps p (of d)) → Keeps (list_all p) (list_of of d)
unfolding list_of
keeps_list p of null h = keeps_bad (list_all p) _
keeps_list p of (boolean b) h = keeps_bad (list_all p) _
keeps_list p of (number n) h = keeps_bad (list_all p) _
keeps_list p of (string bytes) h = keeps_bad (list_all p) _
keeps_list p of (array ds) h = keeps_items p of h 0 ds
keeps_list p of (object ms) h = keeps_bad (list_all p) _

pub keeps_pairs : {A : Type 0} (p : List ℕ × A → Bool) (counts : List ℕ → Bool) (of : List ℕ → Data → Checked A) → ((k : List ℕ) (d : Data) → counts k ≡ true → Keeps (λ v. p (k, v)) (of k d))
    → (ms : Members) → Keeps (list_all p) (pairs_checked counts of ms)
keeps_pairs p counts of h no_members = keeps_here (list_all p) [] refl
keeps_pairs p counts of h (member k d ms) =
    keeps_if (list_all p) (counts k) _ _
    (λ c. keeps_made (λ x. (k, x.0) ∷ x.1) (list_all p) (both (of k d) (pairs_checked counts of ms))
    (keeps_both (λ v. p (k, v)) (list_all p) (of k d) (pairs_checked counts of ms) (h k d c) (keeps_pairs p counts of h ms)))
    (λ c. keeps_pairs p counts of h ms)

-- What a place sees of what was made agrees, on what a template names, with all that the place sees.
use Rattle.std.proofs.Common.{◌≡◌, Bool, true, false, cond, ◌||◌, Option, Some, None, List, [], ◌∷◌, map, refl, sym, ap, ◌∙◌}
use Rattle.std.specs.List.{list_any}
use Rattle.expr_reader.specs.Names.{context_name}
use Rattle.expr_reader.specs.declared.tree.Context.{Context}
use Rattle.expr_value.specs.Context.{Contexts, or_empty}
use Rattle.expr_value.specs.Named.{is_same_context, AgreeOn}
use Rattle.flow_model.specs.Mapping.{value_at}
use Rattle.flow_model.specs.Plain.{Plain}
use Rattle.flow_model.specs.Plain as plain
use Rattle.plan_values.specs.Known.{value_made, made_all, with_context, contexts_by, contexts_made}
use Rattle.plan_values.specs.Laws.{PlaceGivesWhatItSees}
use Rattle.plan_values.specs.Places.{seen_at}
use Rattle.plan_values.specs.Values.{Values, contexts_at}
use Rattle.plan_values.specs.declared.known.Known.{Known}
use Rattle.plan_values.specs.declared.place.TextPlace.{TextPlace}
use Rattle.plan_values.proofs.Names.{same_is}
use Rattle.plan_values.proofs.Making.{Agrees, all_holds}

there_by : (f : Context → Option Plain) (x y : Context) (o : Option Plain) (rest : Contexts) (b c : Bool) → is_same_context x y ≡ b → f y ≡ o → value_at (context_name x) rest ≡ cond c (f x) None
    → value_at (context_name x) (with_context y o rest) ≡ cond (b || c) (f x) None
there_by f x y (Some v) rest true c same is found =
    ap (λ (t : Bool). cond t (Some v) (value_at (context_name x) rest)) same ∙ sym is ∙ ap f (sym (same_is x y same))
there_by f x y (Some v) rest false c same is found =
    ap (λ (t : Bool). cond t (Some v) (value_at (context_name x) rest)) same ∙ found
there_by f x y None rest false c same is found = found
there_by f x y None rest true false same is found = found ∙ sym is ∙ ap f (sym (same_is x y same))
there_by f x y None rest true true same is found = found

-- A context is found where it is among those that have a value.
pub there : (f : Context → Option Plain) (x : Context) (xs : List Context) → value_at (context_name x) (contexts_by f xs) ≡ cond (list_any (is_same_context x) xs) (f x) None
there f x [] = refl
there f x (y ∷ ys) = there_by f x y (f y) (contexts_by f ys) (is_same_context x y) (list_any (is_same_context x) ys) refl refl (there f x ys)

mapped : (values : Values) (xs : List Context) → map (λ x. (context_name x, values x)) xs ≡ contexts_by (λ x. Some (values x)) xs
mapped values [] = refl
mapped values (x ∷ xs) = ap (λ (rest : Contexts). (context_name x, values x) ∷ rest) (mapped values xs)

there_at : (values : Values) (place : TextPlace) (x : Context) → value_at (context_name x) (contexts_at place values) ≡ cond (list_any (is_same_context x) (seen_at place)) (Some (values x)) None
unfolding contexts_at
there_at values place x = ap (value_at (context_name x)) (mapped values (seen_at place)) ∙ there (λ y. Some (values y)) x (seen_at place)

there_made : (place : TextPlace) (k : Known) (x : Context) → value_at (context_name x) (contexts_made place k) ≡ cond (list_any (is_same_context x) (seen_at place)) (value_made k x) None
unfolding contexts_made
there_made place k x = there (value_made k) x (seen_at place)

seen_by : (v : Plain) (b : Bool) → or_empty (cond b (Some v) None) ≡ cond b v (plain.map plain.no_members)
seen_by v true = refl
seen_by v false = refl

-- A place gives a context its value where it sees it.
pub seen_value : PlaceGivesWhatItSees
seen_value place values x = ap or_empty (there_at values place x) ∙ seen_by (values x) (list_any (is_same_context x) (seen_at place))

alike_by : (a : Option Plain) (b : Option Plain) (c : Bool) → (c ≡ true → a ≡ b) → or_empty (cond c a None) ≡ or_empty (cond c b None)
alike_by a b true h = ap or_empty (h refl)
alike_by a b false h = refl

-- What was made of the contexts that pass a test agrees on them with all that the place sees.
pub made_agree : (named : Context → Bool) (values : Values) (place : TextPlace) (k : Known) → Agrees values k → AgreeOn named (contexts_made place (made_all named values (seen_at place) k)) (contexts_at place values)
made_agree named values place k h =
    λ x is. ap or_empty (there_made place (made_all named values (seen_at place) k) x)
    ∙ alike_by (value_made (made_all named values (seen_at place) k) x) (Some (values x)) (list_any (is_same_context x) (seen_at place)) (λ among. all_holds named values x (seen_at place) k h among is)
    ∙ sym (ap or_empty (there_at values place x))

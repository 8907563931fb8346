-- What stands in a place stands behind the place's path.
use Rattle.std.proofs.Common.{refl, ◌≡◌, ◌∙◌, ℕ, List, ◌∷◌, codes, decimal, Some, ap, sym, subst, option_and_then}
use Rattle.serde_json.specs.Data.{Data}
use Rattle.serde_json.specs.Find.{get, at}
use Rattle.flow_lint.specs.Keys.{kind_at}
use Rattle.flow_lint.specs.Kinds.{level_in}
use Rattle.flow_lint.specs.Places.{FilePlace, StandsAt, Way, key, item, follow, below, inner, kind_of, level_of, Repeats, IsRepeated}
use Rattle.flow_lint.specs.declared.kind.NodeKind.{NodeKind}
use Rattle.flow_lint.specs.declared.kind.NodeKind.TheVariants as kinds

level_inside : (name : List ℕ) (p : FilePlace) (ways : List Way) → p.kind ≡ kind_of ways → p.level ≡ level_of ways
    → level_in (kind_at p.kind name) p.level ≡ level_in (kind_at (kind_of ways) name) (level_of ways)
level_inside name p ways is_kind is_level =
    ap (λ (k : NodeKind). level_in (kind_at k name) p.level) is_kind ∙ ap (level_in (kind_at (kind_of ways) name)) is_level

member_inside : (root : Data) (path name : List ℕ) (p : FilePlace) (e : Data) → StandsAt root path p → get name p.value ≡ Some e
    → StandsAt root (below path name) (inner p name e)
member_inside root path name p e s h = record {
  ways = key name ∷ s.ways;
  is_path = ap (λ (front : List ℕ). below front name) s.is_path;
  is_around = s.is_kind;
  is_kind = ap (λ (k : NodeKind). kind_at k name) s.is_kind;
  is_level = level_inside name p s.ways s.is_kind s.is_level;
  is_last = refl;
  stands = ap (option_and_then (follow (key name))) s.stands ∙ h;
}

pub member_stands : (root : Data) (path name : List ℕ) (p : FilePlace) (e : Data) (path' : List ℕ) (p' : FilePlace) (last : List ℕ)
    → StandsAt root path p → get name p.value ≡ Some e → last ≡ name → path' ≡ below path last → p' ≡ inner p last e
    → StandsAt root path' p'
member_stands root path name p e path' p' last s h is_last is_path is_place =
    subst (λ (q : FilePlace). StandsAt root path' q) (sym (is_place ∙ ap (λ (key' : List ℕ). inner p key' e) is_last))
    (subst (λ (front : List ℕ). StandsAt root front (inner p name e))
    (sym (is_path ∙ ap (below path) is_last)) (member_inside root path name p e s h))

item_inside : (root : Data) (path : List ℕ) (place : ℕ) (p : FilePlace) (e : Data) → StandsAt root path p → at place p.value ≡ Some e
    → StandsAt root (below path (decimal place)) (inner p (decimal place) e)
item_inside root path place p e s h = record {
  ways = item place ∷ s.ways;
  is_path = ap (λ (front : List ℕ). below front (decimal place)) s.is_path;
  is_around = s.is_kind;
  is_kind = ap (λ (k : NodeKind). kind_at k (decimal place)) s.is_kind;
  is_level = level_inside (decimal place) p s.ways s.is_kind s.is_level;
  is_last = refl;
  stands = ap (option_and_then (follow (item place))) s.stands ∙ h;
}

pub item_stands : (root : Data) (path : List ℕ) (place : ℕ) (p : FilePlace) (e : Data) (path' : List ℕ) (p' : FilePlace) (last : List ℕ)
    → StandsAt root path p → at place p.value ≡ Some e → last ≡ decimal place → path' ≡ below path last → p' ≡ inner p last e
    → StandsAt root path' p'
item_stands root path place p e path' p' last s h is_last is_path is_place =
    subst (λ (q : FilePlace). StandsAt root path' q) (sym (is_place ∙ ap (λ (name : List ℕ). inner p name e) is_last))
    (subst (λ (front : List ℕ). StandsAt root front (inner p (decimal place) e))
    (sym (is_path ∙ ap (below path) is_last)) (item_inside root path place p e s h))

-- the id of a step that an earlier step has is at the path behind that of the steps
pub is_repeated : (root : Data) (path : List ℕ) (p : FilePlace) (name : List ℕ) (later : ℕ) (path' : List ℕ) → StandsAt root path p
    → p.kind ≡ kinds.Steps → Repeats p.value name later → path' ≡ below (below path (decimal later)) (codes "id")
    → IsRepeated root name path'
is_repeated root path p name later path' s are_steps repeats is_path = record {
  ways = s.ways;
  steps = p.value;
  are_steps = sym s.is_kind ∙ are_steps;
  stand = s.stands;
  later = later;
  repeats = repeats;
  is_path = is_path ∙ ap (λ (front : List ℕ). below (below front (decimal later)) (codes "id")) s.is_path;
}

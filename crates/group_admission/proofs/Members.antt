-- Members that are compared.
use Rattle.std.proofs.Common.{◌≡◌, ◌≢◌, ℕ, ◌==◌, Bool, true, false, Some, refl, ap, sym, ◌∙◌, arith}
use Rattle.std.proofs.lemmas.Bool.{false≢true}
use Rattle.flow_model.specs.declared.event.Member.{Member}
use Rattle.flow_model.specs.declared.event.Member.TheVariants as member
use Rattle.group_admission.specs.Content.{same_member}

same_number : (a b : ℕ) → (a == b) ≡ true → a ≡ b
same_number a b h = grind (arith, h)

number_itself : (a : ℕ) → (a == a) ≡ true
number_itself a = grind arith

-- a member is itself
pub member_itself : (m : Member) → same_member m m ≡ true
member_itself (member.Run a) = number_itself a
member_itself (member.Leg a) = number_itself a

-- what is the same is one
pub one_member : (a b : Member) → same_member a b ≡ true → a ≡ b
one_member (member.Run a) (member.Run b) h = ap (λ (n : ℕ). member.Run n) (same_number a b h)
one_member (member.Run a) (member.Leg b) h = absurd (false≢true h)
one_member (member.Leg a) (member.Run b) h = absurd (false≢true h)
one_member (member.Leg a) (member.Leg b) h = ap (λ (n : ℕ). member.Leg n) (same_number a b h)

same_some : (a b : Member) → Some a ≡ Some b → b ≡ a
same_some a b e = cc

-- what is there is the member
pub there : (m other : Member) → Some other ≡ Some m → same_member m other ≡ true
there m other e = ap (same_member m) (sym (same_some other m e) ∙ refl) ∙ member_itself m

-- what is another is not the member
pub another : (m other : Member) → Some other ≢ Some m → same_member m other ≡ false
another m other differs = go (same_member m other) refl
  where
    go : (b : Bool) → same_member m other ≡ b → b ≡ false
    go false is = refl
    go true is = absurd (differs (ap (λ (x : Member). Some x) (sym (one_member m other is))))

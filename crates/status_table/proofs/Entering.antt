-- What entering a group and leaving it make of a lawful board.
use Rattle.std.proofs.Common.{◌≡◌, ◌≢◌, ◌⊎◌, inl, inr, ℕ, ◌<◌, ◌≤◌, Bool, true, false, List, Option, Some, None, Ok, Err, if◌then◌else◌, ap, subst, sym, refl, ◌∙◌, arith}
use Rattle.std.specs.Str.{bytes_eq}
use Rattle.std.proofs.lemmas.Slice.Eq.{bytes_eq-Decides}
use Rattle.status_table.specs.Words.{Board, Done, Entrance, Lawful, Member, OneHolder, Plan, Row, Standing, Stays, admitted, apart, cancelled, displaced, enters, enters_held, holder, holding, is_own, leaves, moved, passed_on, stop_told, stopped, told, waiter, waiters, waiting, waits}
use Rattle.status_table.specs.Groups.{holds_name}
use Rattle.status_table.specs.Lawful.{NeedsEnded}
use Rattle.status_table.specs.Members.{holders}
use Rattle.status_table.proofs.Rank.{rank}
use Rattle.status_table.proofs.Counts.{one}
use Rattle.status_table.proofs.Ended.{stays-then}
use Rattle.status_table.proofs.Steps.{standing, Step}
use Rattle.status_table.proofs.Turnover.{displaced_step, passed_step, stopped_step, no_holder, no_waiter, a_holder, a_waiter}

-- A later board: it is lawful, what had ended is as it was, and fewer entries are to come.
pub record Follows (p : Plan) (old new : Board) : Type 0 where
  pub lawful : Lawful p new
  pub stays : Stays old new
  pub fewer : rank new < rank old

-- A row leads from a lawful board to such a one, if it is accepted.
abbrev pub Leads : Plan → Board → Row → Type 0
Leads p b (Ok x) = Lawful p b → Follows p b x.0
Leads p b (Err f) = Unit {0}

-- ---- one change after the other

pub follows : (p : Plan) (a b : Board) (m : Member) (s t : Standing) → Lawful p a → Step p a m s t 1 b → OneHolder b → Follows p a b
follows p a b m s t lawful step one' = record {
  lawful = record { one = one'; fits = step.fits; needs = step.needs lawful.needs };
  stays = step.stays;
  fewer = let low = step.lower in omega (arith, low);
}

pub follows_then : (p : Plan) (a b c : Board) (m : Member) (s t : Standing) → NeedsEnded p b → Stays a b → rank b < rank a → Step p b m s t 0 c → OneHolder c → Follows p a c
follows_then p a b c m s t needs stays less step one' = record {
  lawful = record { one = one'; fits = step.fits; needs = step.needs needs };
  stays = stays-then a b c stays step.stays;
  fewer = let low = step.lower in omega (arith, low, less);
}

one_at : (b : Board) → ((k : List ℕ) → (holders b k ≤ 1) × (waiters b k ≤ holders b k)) → OneHolder b
one_at b h = record { holder = λ k. (h k).0; waiter = λ k. (h k).1 }

name-or : (k n : List ℕ) → ((k ≡ n) × (bytes_eq k n ≡ true)) ⊎ (bytes_eq k n ≡ false)
name-or k n = by (bytes_eq k n) refl
  where
    by : (c : Bool) → bytes_eq k n ≡ c → ((k ≡ n) × (bytes_eq k n ≡ true)) ⊎ (bytes_eq k n ≡ false)
    by true is = inl ((bytes_eq-Decides k n).0 is, is)
    by false is = inr is

-- who stands otherwise is another
other : (b : Board) (x y : Member) (s t : Standing) → standing b x ≡ Some s → standing b y ≡ Some t → (s ≡ t → ⊥) → x ≢ y
other b x y s t hx hy differ e = differ (same (sym hx ∙ ap (standing b) e ∙ hy))
  where
    same : Some s ≡ Some t → s ≡ t
    same h = cc

apart-waiting : (n : Option (List ℕ)) → apart ≡ waiting n → ⊥
apart-waiting n e = cc

apart-holding : (n : Option (List ℕ)) → apart ≡ holding n → ⊥
apart-holding n e = cc

holding-waiting : (n m : Option (List ℕ)) → holding n ≡ waiting m → ⊥
holding-waiting n m e = cc

-- ---- entering

-- what a member has to be that enters
pub record Asker (p : Plan) (b : Board) (m : Member) (own : Option ℕ) : Type 0 where
  pub admit : (name : Option (List ℕ)) → Step p b m apart (holding name) 1 (admitted b name m)
  pub wait : (n : List ℕ) (h : Member) → holder b n ≡ Some h → is_own own h ≡ false → Step p b m apart (waiting (Some n)) 1 (waits b n m)
  pub refuse : Leads p b (Ok (cancelled b m, moved))

pub leads-if : (p : Plan) (b : Board) (c : Bool) (r s : Row) → (c ≡ true → Leads p b r) → (c ≡ false → Leads p b s) → Leads p b (if c then r else s)
leads-if p b true r s f g = f refl
leads-if p b false r s f g = g refl

pub lawfully : (p : Plan) (b : Board) (r : Row) → (Lawful p b → Leads p b r) → Leads p b r
lawfully p b (Ok x) f = λ lawful. f lawful lawful
lawfully p b (Err e) f = tt

leads-either : (p : Plan) (b : Board) (c : Bool) (x y : Done) → (c ≡ true → Leads p b (Ok x)) → (c ≡ false → Leads p b (Ok y)) → Leads p b (Ok (if c then x else y))
leads-either p b true x y f g = f refl
leads-either p b false x y f g = g refl

module _ (p : Plan) (b : Board) (m : Member) (own : Option ℕ) (asker : Asker p b m own) where
  admit_one : OneHolder b → (n : List ℕ) → holders b n ≡ 0 → OneHolder (admitted b (Some n) m)
  admit_one h n free = one_at (admitted b (Some n) m) (λ k.
      let step = asker.admit (Some n) in
      elim (name-or k n) as (λ _. (holders (admitted b (Some n) m) k ≤ 1) × (waiters (admitted b (Some n) m) k ≤ holders (admitted b (Some n) m) k)) [
        | inl e ↦ let c : one (bytes_eq k n) ≡ 1 = ap one e.1 in
            let hk = step.holds k in let wk = step.waits k in let f = ap (holders b) e.0 ∙ free in let one' = h.waiter k in
            (omega (arith, c, hk, f), omega (arith, c, hk, wk, f, one'))
        | inr e ↦ let c : one (bytes_eq k n) ≡ 0 = ap one e in
            let hk = step.holds k in let wk = step.waits k in let one' = h.waiter k in let one'' = h.holder k in
            (omega (arith, c, hk, one''), omega (arith, c, hk, wk, one'))
      ])

  admit_none : OneHolder b → OneHolder (admitted b None m)
  admit_none h = one_at (admitted b None m) (λ k.
      let step = asker.admit None in let hk = step.holds k in let wk = step.waits k in let one' = h.waiter k in let one'' = h.holder k in
      (omega (arith, hk, one''), omega (arith, hk, wk, one')))

  -- nobody waits yet
  wait_first : (n : List ℕ) (cancel : Bool) (h : Member) → Lawful p b → holder b n ≡ Some h → waiter b n ≡ None → is_own own h ≡ false → Follows p b (stopped (waits b n m) cancel h)
  wait_first n cancel h lawful held none not_own =
      let step = asker.wait n h held not_own in
      let holds = a_holder b n h held in
      let free = no_waiter b n none in
      let stop = stopped_step p (waits b n m) cancel h (Some n) step.fits
      (step.others h (other b h m (holding (Some n)) apart holds.0 step.was (λ e. apart-holding (Some n) (sym e))) ∙ holds.0) in
      let low = step.lower in
      follows_then p b (waits b n m) (stopped (waits b n m) cancel h) h (holding (Some n)) (holding (Some n)) (step.needs lawful.needs) step.stays (omega (arith, low)) stop
      (one_at (stopped (waits b n m) cancel h) (λ k.
      let sh = stop.holds k in let sw = stop.waits k in let one' = lawful.one.waiter k in let one'' = lawful.one.holder k in
      elim (name-or k n) as (λ _. (holders (stopped (waits b n m) cancel h) k ≤ 1) × (waiters (stopped (waits b n m) cancel h) k ≤ holders (stopped (waits b n m) cancel h) k)) [
        | inl e ↦ let c : one (bytes_eq k n) ≡ 1 = ap one e.1 in
            let hk = step.holds k in let wk = step.waits k in let f = ap (waiters b) e.0 ∙ free in let g = subst (λ x. 1 ≤ holders b x) (sym e.0) holds.1 in
            (omega (arith, c, hk, sh, one''), omega (arith, c, hk, wk, sh, sw, f, g))
        | inr e ↦ let c : one (bytes_eq k n) ≡ 0 = ap one e in
            let hk = step.holds k in let wk = step.waits k in
            (omega (arith, c, hk, sh, one''), omega (arith, c, hk, wk, sh, sw, one'))
      ]))

  -- who waits is displaced
  wait_after : (n : List ℕ) (cancel : Bool) (h w : Member) → Lawful p b → holder b n ≡ Some h → waiter b n ≡ Some w → is_own own h ≡ false
      → Follows p b (stopped (displaced (waits b n m) (Some w)) cancel h)
  wait_after n cancel h w lawful held waited not_own =
      let b1 = waits b n m in
      let b2 = displaced b1 (Some w) in
      let b3 = stopped b2 cancel h in
      let step = asker.wait n h held not_own in
      let holds = a_holder b n h held in
      let waits = a_waiter b n w waited in
      let h1 : standing b1 h ≡ Some (holding (Some n)) = step.others h (other b h m (holding (Some n)) apart holds.0 step.was (λ e. apart-holding (Some n) (sym e))) ∙ holds.0 in
      let w1 : standing b1 w ≡ Some (waiting (Some n)) = step.others w (other b w m (waiting (Some n)) apart waits.0 step.was (λ e. apart-waiting (Some n) (sym e))) ∙ waits.0 in
      let out = displaced_step p b1 w (Some n) step.fits w1 in
      let h2 : standing b2 h ≡ Some (holding (Some n)) = out.others h (other b1 h w (holding (Some n)) (waiting (Some n)) h1 w1 (holding-waiting (Some n) (Some n))) ∙ h1 in
      let stop = stopped_step p b2 cancel h (Some n) out.fits h2 in
      let low = step.lower in
      let low' = out.lower in
      follows_then p b b2 b3 h (holding (Some n)) (holding (Some n)) (out.needs (step.needs lawful.needs)) (stays-then b b1 b2 step.stays out.stays) (omega (arith, low, low')) stop
      (one_at b3 (λ k.
      let sh = stop.holds k in let sw = stop.waits k in let one' = lawful.one.waiter k in let one'' = lawful.one.holder k in
      elim (name-or k n) as (λ _. (holders b3 k ≤ 1) × (waiters b3 k ≤ holders b3 k)) [
        | inl e ↦ let c : one (bytes_eq k n) ≡ 1 = ap one e.1 in
            let hk = step.holds k in let wk = step.waits k in let oh = out.holds k in let ow = out.waits k in
            (omega (arith, c, hk, sh, oh, one''), omega (arith, c, hk, wk, sh, sw, oh, ow, one'))
        | inr e ↦ let c : one (bytes_eq k n) ≡ 0 = ap one e in
            let hk = step.holds k in let wk = step.waits k in let oh = out.holds k in let ow = out.waits k in
            (omega (arith, c, hk, sh, oh, one''), omega (arith, c, hk, wk, sh, sw, oh, ow, one'))
      ]))

  held_leads : (group : Entrance) (h w : Option Member) → holder b group.name ≡ h → waiter b group.name ≡ w → Leads p b (Ok (enters_held b m own group h w))
  held_leads group None w is_h is_w = λ lawful.
      follows p b (admitted b (Some group.name) m) m apart (holding (Some group.name)) lawful (asker.admit (Some group.name))
      (admit_one lawful.one group.name (no_holder b group.name is_h))
  held_leads group (Some h) None is_h is_w =
      leads-either p b (is_own own h) (cancelled b m, moved) (stopped (waits b group.name m) group.cancel h, told None None (stop_told group.cancel h)) (λ _. asker.refuse)
      (λ not_own lawful. wait_first group.name group.cancel h lawful is_h is_w not_own)
  held_leads group (Some h) (Some w) is_h is_w =
      leads-either p b (is_own own h) (cancelled b m, moved) (stopped (displaced (waits b group.name m) (Some w)) group.cancel h, told None (Some w) (stop_told group.cancel h))
      (λ _. asker.refuse) (λ not_own lawful. wait_after group.name group.cancel h w lawful is_h is_w not_own)

  pub enters_leads : (group : Option Entrance) → Leads p b (Ok (enters b m own group))
  enters_leads None = λ lawful. follows p b (admitted b None m) m apart (holding None) lawful (asker.admit None) (admit_none lawful.one)
  enters_leads (Some group) = held_leads group (holder b group.name) (waiter b group.name) refl refl

-- ---- leaving

module _ (p : Plan) (b after : Board) (m : Member) where
  -- one that held nothing
  unheld : (s : Standing) → Step p b m s apart 1 after → ((k : List ℕ) → one (holds_name k s) ≡ 0) → Lawful p b → Follows p b after
  unheld s step none lawful = follows p b after m s apart lawful step (one_at after (λ k.
      let hk = step.holds k in let wk = step.waits k in let z = none k in let one' = lawful.one.waiter k in let one'' = lawful.one.holder k in
      (omega (arith, hk, z, one''), omega (arith, hk, wk, z, one'))))

  released : (n : List ℕ) (w : Option Member) → waiter b n ≡ w → Step p b m (holding (Some n)) apart 1 after → Lawful p b → Follows p b (passed_on after w)
  released n None is step lawful = follows p b after m (holding (Some n)) apart lawful step (one_at after (λ k.
      let one' = lawful.one.waiter k in let one'' = lawful.one.holder k in
      elim (name-or k n) as (λ _. (holders after k ≤ 1) × (waiters after k ≤ holders after k)) [
        | inl e ↦ let c : one (bytes_eq k n) ≡ 1 = ap one e.1 in
            let hk = step.holds k in let wk = step.waits k in let f = ap (waiters b) e.0 ∙ no_waiter b n is in
            (omega (arith, c, hk, one''), omega (arith, c, hk, wk, f))
        | inr e ↦ let c : one (bytes_eq k n) ≡ 0 = ap one e in
            let hk = step.holds k in let wk = step.waits k in
            (omega (arith, c, hk, one''), omega (arith, c, hk, wk, one'))
      ]))
  released n (Some w) is step lawful =
      let waits = a_waiter b n w is in
      let w1 : standing after w ≡ Some (waiting (Some n)) = step.others w (other b w m (waiting (Some n)) (holding (Some n)) waits.0 step.was (λ e. holding-waiting (Some n) (Some n) (sym e))) ∙ waits.0 in
      let next = passed_step p after w (Some n) step.fits w1 in
      let low = step.lower in
      let b2 = passed_on after (Some w) in
      follows_then p b after b2 w (waiting (Some n)) (holding (Some n)) (step.needs lawful.needs) step.stays (omega (arith, low)) next
      (one_at b2 (λ k.
      let one' = lawful.one.waiter k in let one'' = lawful.one.holder k in
      elim (name-or k n) as (λ _. (holders b2 k ≤ 1) × (waiters b2 k ≤ holders b2 k)) [
        | inl e ↦ let c : one (bytes_eq k n) ≡ 1 = ap one e.1 in
            let hk = step.holds k in let wk = step.waits k in let nh = next.holds k in let nw = next.waits k in
            (omega (arith, c, hk, nh, one''), omega (arith, c, hk, wk, nh, nw, one'))
        | inr e ↦ let c : one (bytes_eq k n) ≡ 0 = ap one e in
            let hk = step.holds k in let wk = step.waits k in let nh = next.holds k in let nw = next.waits k in
            (omega (arith, c, hk, nh, one''), omega (arith, c, hk, wk, nh, nw, one'))
      ]))

  pub leaves_leads : (s : Standing) → (Lawful p b → Step p b m s apart 1 after) → Leads p b (Ok (leaves b s after))
  leaves_leads apart step = λ lawful. unheld apart (step lawful) (λ k. refl) lawful
  leaves_leads (waiting name) step = λ lawful. unheld (waiting name) (step lawful) (λ k. refl) lawful
  leaves_leads (holding None) step = λ lawful. unheld (holding None) (step lawful) (λ k. refl) lawful
  leaves_leads (holding (Some n)) step = λ lawful. released n (waiter b n) refl (step lawful) lawful

  -- one that was apart has ended
  pub ends_apart : (Lawful p b → Step p b m apart apart 1 after) → Leads p b (Ok (after, moved))
  ends_apart step = λ lawful. unheld apart (step lawful) (λ k. refl) lawful

  -- one that stands as it stood
  pub stands_still : (s : Standing) → Step p b m s s 1 after → Lawful p b → Follows p b after
  stands_still s step lawful = follows p b after m s s lawful step (one_at after (λ k.
      let hk = step.holds k in let wk = step.waits k in let one' = lawful.one.waiter k in let one'' = lawful.one.holder k in
      (omega (arith, hk, one''), omega (arith, hk, wk, one'))))

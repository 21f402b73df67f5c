-- What a roster shows, and what a change of it makes of that.
use Rattle.std.proofs.Common.{◌≡◌, ℕ, ◌^◌, ◌<◌, ◌≤◌, Bool, true, false, cond, not, ◌&&◌, ◌||◌, eqb, List, is_some, Some, None, sym, refl, ap, subst, ◌∙◌, ◌⊎◌, inl, inr, arith}
use Rattle.std.proofs.lemmas.Bool.{cases_Bool, eqb-true}
use Rattle.sets.specs.declared.set.BoxSet.{BoxSet}
use Rattle.sets.specs.Masks.{member, set_of}
use Rattle.sets.proofs.BitLemmas.{bit_high, mask_below, set_ext}
use Rattle.sets.proofs.MemberLemmas.{entering, member_only, none_member, set_kept}
use Rattle.wire.specs.declared.roster.Roster.{Roster}
use Rattle.wire.specs.WireState.{WireState, falling_set, posted_set, on_close}
use Rattle.wire.specs.Rosters.{some_if, roster_state}

-- meanings with the same parts are the same
pub meaning_ext : (a b : WireState) → a.n ≡ b.n → a.up ≡ b.up → ((q : ℕ) → a.lost q ≡ b.lost q) → ((q : ℕ) → a.posted q ≡ b.posted q)
    → a ≡ b
meaning_ext a b n up lost posted = λ i. record { n = n i; up = up i; lost = λ q. lost q i; posted = λ q. posted q i }

is_some_if : {X : Type 0} (b : Bool) (x : X) → is_some (some_if b x) ≡ b
is_some_if true x = refl
is_some_if false x = refl

-- where a set is empty there is nothing
pub none_if : {X : Type 0} (s : BoxSet) → s ≡ set_of (λ _. false) → (q : ℕ) (x : X) → some_if (member s q) x ≡ None
none_if s e q x = ap (λ b. some_if b x) (none_member s e q)

pub absent : {A : Type 0} (s : BoxSet) → s ≡ set_of (λ _. false) → (q : ℕ) → member s q ≡ true → A
absent s e q t = let f = none_member s e q in absurd (grind arith)

-- where box q enters a set of a company
module _ (n q : ℕ) (s t : BoxSet) (few : n ≤ 32) (h : s.mask < 2 ^ n) (l : q < n) (e : t ≡ set_of (λ i. member s i || eqb i q)) where
  -- if what is said of it is x, then that is what is there for it, and for the others what was there, if the same is said of those of s
  pub entered : {X : Type 0} (f g : ℕ → X) (x : X) → g q ≡ x → ((i : ℕ) → eqb i q ≡ false → member s i ≡ true → g i ≡ f i)
      → (i : ℕ) → some_if (member t i) (g i) ≡ cond (eqb i q) (Some x) (some_if (member s i) (f i))
  entered {X} f g x now before i = go (cases_Bool (eqb i q)) (entering n q s t few h l e i)
    where
      go : (eqb i q ≡ true) ⊎ (eqb i q ≡ false) → member t i ≡ (member s i || eqb i q)
          → some_if (member t i) (g i) ≡ cond (eqb i q) (Some x) (some_if (member s i) (f i))
      go (inl y) k = let here : g i ≡ g q = ap g (eqb-true i q y) in grind (arith, now)
      go (inr y) k = let b = before i y in grind (arith, b)

  -- what holds of each box of s holds of each of t, if it holds of q and what is said of the others is what was said
  pub kept_more : {X : Type 0} (P : ℕ → X → Type 0) (f g : ℕ → X) → P q (g q) → ((i : ℕ) → eqb i q ≡ false → member s i ≡ true → g i ≡ f i)
      → ((i : ℕ) → member s i ≡ true → P i (f i)) → (i : ℕ) → member t i ≡ true → P i (g i)
  kept_more P f g new before old i m = go (cases_Bool (eqb i q)) (entering n q s t few h l e i)
    where
      go : (eqb i q ≡ true) ⊎ (eqb i q ≡ false) → member t i ≡ (member s i || eqb i q) → P i (g i)
      go (inl y) b = subst (λ j. P j (g j)) (sym (eqb-true i q y)) new
      go (inr y) b = let k : member s i ≡ true = grind arith in subst (P i) (sym (before i y k)) (old i k)

module _ (r : Roster) where
  -- only boxes of the company are falling
  pub falling_within : r.falling.mask < 2 ^ r.n
  falling_within =
      (mask_below r.n r.falling.mask).1 (λ i l.
      let h = bit_high r.n r.up.mask i r.up_within l in
      let f : member r.falling i ≡ true → member r.up i ≡ true = λ t. (r.losing i t).0 in
      grind arith)

  module _ (frames : ℕ → List ℕ) where
    pub falling_shown : r.falling ≡ falling_set (roster_state r frames)
    falling_shown = set_kept r.n r.falling _ r.few falling_within (λ i. sym (is_some_if (member r.falling i) _))

    pub posted_shown : r.posted ≡ posted_set (roster_state r frames)
    posted_shown = set_kept r.n r.posted _ r.few r.posted_within (λ i. sym (is_some_if (member r.posted i) _))

    -- the boxes up that are not falling
    pub up_shown : set_of (λ i. member r.up i && not (member r.falling i)) ≡ (on_close (roster_state r frames)).up
    up_shown = set_ext _ _ (λ i _. ap (λ b. member r.up i && not b) (sym (is_some_if (member r.falling i) _)))

    pub staying_within : (s : BoxSet) → s ≡ (on_close (roster_state r frames)).up → s.mask < 2 ^ r.n
    staying_within s e =
        (mask_below r.n s.mask).1 (λ i l.
        member_only (λ k. member r.up k && not (member r.falling k)) (member r.up) s (e ∙ sym up_shown) (λ k t. grind arith) i
        (bit_high r.n r.up.mask i r.up_within l))

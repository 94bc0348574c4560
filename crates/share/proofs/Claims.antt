-- Document 02, F-14 (specs/Claims), of every outcome of `share::shares`.
use mathlib.Core.Path.{◌≡◌, refl, ap, sym, subst, ◌∙◌}
use mathlib.Core.Bool.{Bool, true, false, ◌||◌, cond, or-true, true≢false}
use mathlib.Core.List.{List, [], ◌∷◌}
use mathlib.Core.Option.{Option, none, some}
use Prim.Native.Nat.{ℕ, zero, suc, ◌*◌, ◌/◌, min, ◌≤◌, ◌<◌}
use native.Mathlib.Omega.{arith}
use native.Mathlib.Nat.{eq-one_of_dvd-one, mul-div_cancel', mul_assoc, mul_comm, mul_right_comm, eq_of_mul-eq-mul_right}
use borrow.Author.Tests.{eq-eqb, eqb-true, ltb-true, ltb-false}
use lib.Dec.{ltb, eqb}
use lib.ListN.{length, length-take, get_or-eq_default}
use Rattle.reading.specs.Table.{Answer, answered, refused, max_text}
use Rattle.std.specs.Prelude.{Result}
use Rattle.share.specs.Answers.{told}
use Rattle.share.specs.Claims.{All, all_trivia, all_bytes, Lowest, Ordered, Out, listed, Answered, Refused, too_many as more_texts, wrong_text, Claimed}
use Rattle.share.specs.Shares.{Fraction, Shares, max_texts, texts, trivia_of, length_of, wrong, or_else, first_wrong, sum, gcd, share, ahead, ranked, result, pooled, largest, shares}
use Rattle.share.specs.declared.SharesError.{SharesError}
use Rattle.share.specs.declared.SharesFound.{SharesFound}
use Rattle.share.proofs.Divisors.{Gcd, gcd_known, gcd_positive, reduced_lowest, lowest_one, none_of, share_none, share_some, some_left}
use Rattle.share.proofs.Order.{ranked_ordered, ranked_has, take_ordered, out_behind, behind_smaller}
use Rattle.share.proofs.Ranks.{ranked_length, ranked_before, take_all}
use Rattle.share.proofs.Tests.{too_many, some_wrong, none_wrong}

-- The fraction ----------------------------------------------------------------

-- x is a over b in lowest terms
record LowestOf (a b : ℕ) (x : Fraction) : Type 0 where
  equal : x.numerator * b ≡ a * x.denominator
  lowest : Lowest x.numerator x.denominator
  positive : 0 < x.denominator

none_reduced : (a b : ℕ) → a ≡ 0 → LowestOf a b (record { numerator = 0; denominator = 1 })
none_reduced a b e = record { equal = omega (arith, e); lowest = λ d h k. eq-one_of_dvd-one k; positive = omega arith }

some_reduced : (a b g : ℕ) → 0 < b → 0 < g → Gcd a b g → LowestOf a b (record { numerator = a / g; denominator = b / g })
some_reduced a b g h p u =
    let l : g * (a / g) ≡ a = mul-div_cancel' g u.left in
    let r : g * (b / g) ≡ b = mul-div_cancel' g u.right in
    record {
      equal = ap (λ (k : ℕ). a / g * k) (sym r) ∙ sym (mul_assoc (a / g) g (b / g)) ∙ ap (λ (k : ℕ). k * (b / g)) (mul_comm (a / g) g ∙ l);
      lowest = reduced_lowest a b g p u;
      positive = quotient g (b / g) b r h;
    }
  where
    quotient : (g q b : ℕ) → g * q ≡ b → 0 < b → 0 < q
    quotient g zero b e h = omega (arith, e)
    quotient g (suc q) b e h = omega arith

none_there : (a b : ℕ) → a ≤ b → none_of a b ≡ true → a ≡ 0
none_there a b h e = go (eqb a 0) (eqb b 0) refl refl e
  where
    go : (x y : Bool) → eqb a 0 ≡ x → eqb b 0 ≡ y → x || y ≡ true → a ≡ 0
    go true y p q e = eqb-true a 0 p
    go false true p q e = omega (arith, eqb-true b 0 q)
    go false false p q e = absurd (true≢false (sym e))

share_reduced : (a b : ℕ) → a ≤ b → LowestOf a b (share a b)
share_reduced a b h = go (none_of a b) refl
  where
    go : (n : Bool) → none_of a b ≡ n → LowestOf a b (share a b)
    go true e = subst (λ (x : Fraction). LowestOf a b x) (share_none a b e) (none_reduced a b (none_there a b h e))
    go false e =
        let p : 0 < a = some_left a b e in
        subst (λ (x : Fraction). LowestOf a b x) (share_some a b (gcd a b) e refl) (some_reduced a b (gcd a b) (omega arith) (gcd_positive p (gcd_known a b p)) (gcd_known a b p))

no_bytes_share : (a b : ℕ) → b ≡ 0 → ((share a b).numerator ≡ 0) × ((share a b).denominator ≡ 1)
no_bytes_share a b e =
    let u : record { numerator = 0; denominator = 1 } ≡ share a b = share_none a b (rw (eq-eqb b 0 e) (or-true (eqb a 0))) in
    (ap (λ (x : Fraction). x.numerator) (sym u), ap (λ (x : Fraction). x.denominator) (sym u))

-- two fractions of one value in lowest terms
only_one : (a b : ℕ) (x : Fraction) → LowestOf a b x → 0 < b → (p q : ℕ) → p * b ≡ a * q → Lowest p q → (p ≡ x.numerator) × (q ≡ x.denominator)
only_one a b x u h p q e l = lowest_one x.numerator x.denominator p q u.positive u.lowest l (eq_of_mul-eq-mul_right b h _ _ cross)
  where
    cross : x.numerator * q * b ≡ p * x.denominator * b
    cross =
        mul_right_comm x.numerator q b ∙ ap (λ (k : ℕ). k * q) u.equal ∙ mul_right_comm a x.denominator q ∙ ap (λ (k : ℕ). k * x.denominator) (sym e)
        ∙ mul_right_comm p b x.denominator

-- Texts that are not wrong ----------------------------------------------------

right : (t l : ℕ) → wrong t l ≡ false → t ≤ l
right t l e = go (ltb l t) refl e
  where
    go : (b : Bool) → ltb l t ≡ b → b || ltb max_text l ≡ false → t ≤ l
    go true q e = absurd (true≢false e)
    go false q e = ltb-false l t q

module _ (w : List ℕ) where
  abbrev wrong_at : ℕ → Bool
  wrong_at i = wrong (trivia_of w i) (length_of w i)

  -- the last of them, and those before it
  last_right : (n : ℕ) → first_wrong w (suc n) ≡ none → (first_wrong w n ≡ none) × (wrong_at n ≡ false)
  unfolding first_wrong
  last_right n e = go (first_wrong w n) (wrong_at n) e
    where
      go : (o : Option ℕ) (b : Bool) → or_else o (cond b (some n) none) ≡ none → (o ≡ none) × (b ≡ false)
      go none false e = (refl, refl)
      go none true e = absurd (let z : ◌≡◌ {A = ℕ} 0 1 = cc in omega arith)
      go (some i) b e = absurd (let z : ◌≡◌ {A = ℕ} 0 1 = cc in omega arith)

  trivia_less : (n : ℕ) → first_wrong w n ≡ none → sum (trivia_of w) n ≤ sum (length_of w) n
  unfolding sum
  trivia_less zero e = omega arith
  trivia_less (suc n) e =
      let u = last_right n e in
      omega (arith, trivia_less n u.0, right (trivia_of w n) (length_of w n) u.1)

  all_right : (n : ℕ) → first_wrong w n ≡ none → (j : ℕ) → j < n → wrong_at j ≡ false
  all_right zero e j h = absurd (let z : ⊥ = omega arith in z)
  all_right (suc n) e j h = go (ltb j n) refl (last_right n e) (λ u l. all_right n u j l)
    where
      go : (b : Bool) → ltb j n ≡ b → (first_wrong w n ≡ none) × (wrong_at n ≡ false) → (first_wrong w n ≡ none → j < n → wrong_at j ≡ false) → wrong_at j ≡ false
      go true q u f = f u.0 (ltb-true j n q)
      go false q u f = subst (λ (k : ℕ). wrong_at k ≡ false) (let v : n ≡ j = omega (arith, ltb-false j n q) in v) u.1

  -- the first one that is wrong
  record First (n i : ℕ) : Type 0 where
    inside : i < n
    is_wrong : wrong_at i ≡ true
    before : (j : ℕ) → j < i → wrong_at j ≡ false

  first_one : (n i : ℕ) → first_wrong w n ≡ some i → First n i
  unfolding first_wrong
  first_one zero i e = absurd (let z : ◌≡◌ {A = ℕ} 0 1 = cc in omega arith)
  first_one (suc n) i e = go (first_wrong w n) refl (wrong_at n) refl e (λ h. first_one n i h)
    where
      go : (o : Option ℕ) → first_wrong w n ≡ o → (b : Bool) → wrong_at n ≡ b → or_else o (cond b (some n) none) ≡ some i → (first_wrong w n ≡ some i → First n i) → First (suc n) i
      go none p false q e f = absurd (let z : ◌≡◌ {A = ℕ} 0 1 = cc in omega arith)
      go none p true q e f =
          subst (λ (k : ℕ). First (suc n) k) (let v : n ≡ i = cc in v) (record { inside = omega arith; is_wrong = q; before = λ j h. all_right n p j h })
      go (some k) p b q e f =
          let u = f (p ∙ e) in
          record { inside = omega (arith, u.inside); is_wrong = u.is_wrong; before = u.before }

-- An answer -------------------------------------------------------------------

as_listed : (x : Fraction) (js : List ℕ) → length js ≤ 3 → listed (result x js) ≡ js
as_listed x [] h = refl
as_listed x (a ∷ []) h = refl
as_listed x (a ∷ b ∷ []) h = refl
as_listed x (a ∷ b ∷ c ∷ []) h = refl
as_listed x (a ∷ b ∷ c ∷ d ∷ js) h = absurd (let z : ⊥ = omega arith in z)

module _ (w : List ℕ) where
  abbrev answer : Shares
  answer = result (pooled w) (largest w)

  answer_claims : texts w ≤ max_texts → first_wrong w (texts w) ≡ none → Answered w answer
  answer_claims few e =
      let u : LowestOf (all_trivia w) (all_bytes w) (pooled w) = share_reduced (all_trivia w) (all_bytes w) (trivia_less w (texts w) e) in
      let n : length (largest w) ≡ min 3 (texts w) = length-take 3 (ranked w (texts w)) ∙ ap (λ (k : ℕ). min 3 k) (ranked_length w (texts w)) in
      let l : listed answer ≡ largest w = as_listed (pooled w) (largest w) (omega (arith, n)) in
      let o : Ordered w (ranked w (texts w)) = ranked_ordered w (texts w) in
      let f : (i : ℕ) → i < texts w → Out i (listed answer) → All (λ j. ahead w j i ≡ true) (listed answer) =
      λ i h k.
      subst (λ (js : List ℕ). All (λ j. ahead w j i ≡ true) js) (sym l)
      (out_behind w 3 i (ranked w (texts w)) o (ranked_has w (texts w) i h) (subst (λ (js : List ℕ). Out i js) l k))
      in
      record {
        few = few;
        right = all_right w (texts w) e;
        equal = u.equal;
        lowest = u.lowest;
        only = only_one (all_trivia w) (all_bytes w) (pooled w) u;
        no_bytes = no_bytes_share (all_trivia w) (all_bytes w);
        count = n;
        indexes = subst (λ (js : List ℕ). All (λ i. i < texts w) js) (sym l) (take_all 3 (ranked w (texts w)) (ranked_before w (texts w)));
        no_first = λ h. get_or-eq_default (largest w) 0 h;
        no_second = λ h. get_or-eq_default (largest w) 0 h;
        no_third = λ h. get_or-eq_default (largest w) 0 h;
        ordered = subst (λ (js : List ℕ). Ordered w js) (sym l) (take_ordered w 3 (ranked w (texts w)) o);
        behind = f;
        no_larger = λ i h k. behind_smaller w i (listed answer) (f i h k);
      }

  -- each outcome, by the tests that led to it
  pub claimed : Claimed w (shares w)
  claimed = go (ltb max_texts (texts w)) refl (first_wrong w (texts w)) refl
    where
      go : (b : Bool) → ltb max_texts (texts w) ≡ b → (o : Option ℕ) → first_wrong w (texts w) ≡ o → Claimed w (shares w)
      go true p o q = subst (λ (a : Answer Shares). Claimed w a) (too_many w (ltb-true max_texts (texts w) p)) (more_texts (ltb-true max_texts (texts w) p))
      go false p (some i) q =
          let few : texts w ≤ max_texts = ltb-false max_texts (texts w) p in
          let f = first_one w (texts w) i q in
          subst (λ (a : Answer Shares). Claimed w a) (some_wrong w few i q) (wrong_text few f.inside f.is_wrong f.before)
      go false p none q =
          let few : texts w ≤ max_texts = ltb-false max_texts (texts w) p in
          subst (λ (a : Answer Shares). Claimed w a) (none_wrong w few q) (answer_claims few q)

-- any call that meets its contract
pub shares_claims : (w : List ℕ) (r : Result SharesFound SharesError) → told r ≡ shares w → Claimed w (told r)
shares_claims w r m = subst (λ (a : Answer Shares). Claimed w a) (sym m) (claimed w)

-- a list to which neither 27 nor 28 applies is answered, by any call that the page holds of
pub right_answered : (w : List ℕ) (a : Answer Shares) → Claimed w a → texts w ≤ max_texts
    → ((i : ℕ) → i < texts w → wrong (trivia_of w i) (length_of w i) ≡ false) → (s : Shares) × (a ≡ answered s)
right_answered w (answered s) c h r = (s, refl)
right_answered w (refused k g) c h r = absurd (go c)
  where
    go : {k g : ℕ} → Refused w k g → ⊥
    go (more_texts l) = omega (arith, h, l)
    go (wrong_text l i q f) = true≢false (sym q ∙ r _ i)

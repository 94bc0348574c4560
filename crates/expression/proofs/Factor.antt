-- A factor: its first alternative, and where that misses its second, which begins with a sign.
use mathlib.Core.Path.{◌≡◌, refl, ap, ap₂, sym, subst, ◌∙◌}
use mathlib.Core.Bool.{Bool, true, false, ◌||◌, or-false, or_assoc, or_self}
use mathlib.Core.List.{List, [], ◌∷◌, ◌++◌}
use Prim.Native.Nat.{ℕ, ◌+◌, ◌*◌, ◌-◌, ◌≤◌, max}
use native.Mathlib.Omega.{arith}
use lib.ListN.{length}
use Rattle.reading.specs.Kind.{factorᵏ}
use Rattle.reading.specs.Grammar.{Rows, Input, Rule, Parser, ◌▸◌, ◌or◌, node, under}
use Rattle.reading.specs.Rules.{opt, trivia, flags}
use Rattle.reading.specs.Rules.{expression_factor_inner, factor_body, expression_factor}
use Rattle.reading.specs.Summary.{Summary, fits, fails, more, thenˢ, elseˢ, withˢ, Scan, scan}
use Rattle.reading.proofs.Summaries.{Yields}
use Rattle.cursor.specs.Text.{here, cursor, skip, Skips}
use Rattle.cursor.specs.Agree.{full, Reading, Reads, Leafs}
use Rattle.cursor.specs.declared.Cursor.{Cursor}
use Rattle.cursor.specs.declared.Skip.{Skip}
use Rattle.cursor.specs.Read.{Read}
use Rattle.cursor.proofs.Agree.{found, found_here, lost, got_miss, miss_deep, agrees_is, agrees_err}
use Rattle.cursor.proofs.Laws.{lies, stepped, reading_is, seq_got, opt_miss, opt_first}
use Rattle.lexis.specs.Spaced.{spaced}
use Rattle.lexis.specs.Around.{Finished}
use Rattle.expression.specs.Sign.{signs, signed_factor, Missed, Maybe}
use Rattle.expression.proofs.Facts.{mark_solid, inner_solid, opt_mark_quiet, signs_quiet}
use Rattle.expression.proofs.Flags.{Head, Sign, flags_none, flags_signed, inner_head, sign_row}
use Rattle.expression.proofs.Steps.{row_out, row_got, else_first, else_miss, missed, missed_on}
use Rattle.cursor.specs.declared.Stop.{Stop}
use Rattle.cursor.specs.declared.Stop.TheVariants.{Miss, Deep}
use Rattle.std.specs.Prelude.{Ok, Err, IsErr, is_err}

-- What was met before ----------------------------------------------------------

noted_twice : (m b x : Bool) → x ≡ m || b → x ≡ x || b
noted_twice m b x e = e ∙ ap (m ||◌) (sym (or_self b)) ∙ sym (or_assoc m b b) ∙ ap (◌|| b) (sym e)

noted_on : (m b c d x y : Bool) → x ≡ m || c → y ≡ x || d → m ≡ m || b → y ≡ y || b
noted_on true b c d x y e f g = let z : y ≡ true = f ∙ ap (◌|| d) e in z ∙ sym (ap (◌|| b) z)
noted_on false b c d x y e f g = sym (ap (y ||◌) (sym g) ∙ or-false y)

-- Two alternatives behind the same trivia ------------------------------------

met_twice : (b c d : Bool) → b || (c || d) ≡ (b || c) || (b || d)
met_twice true c d = refl
met_twice false c d = refl

more_twice : {A : Type 0} (b c : Bool) (k j : ℕ) (o : Summary A) → more b k (more c j o) ≡ more (b || c) (max k j) (more b k o)
more_twice b c k j (fits v q d i) = ap₂ (fits v q) (met_twice b c d) (let z : max k (max j i) ≡ max (max k j) (max k i) = omega arith in z)
more_twice b c k j (fails d i) = ap₂ fails (met_twice b c d) (let z : max k (max j i) ≡ max (max k j) (max k i) = omega arith in z)

row_then : (b : Bool) (k : ℕ) (o : Summary Rows) (f : Rows → Input → Rows)
    → thenˢ (more b k o) (λ v q. fits (f v q) q false 0) ≡ more b k (thenˢ o λ v q. fits (f v q) q false 0)
row_then b k (fits v q c j) f = ap₂ (fits (f v q) q) (or_assoc b c false) (let z : max (max k j) 0 ≡ max k (max j 0) = omega arith in z)
row_then b k (fails c j) f = refl

-- the row around what was read, and the end
abbrev rowed : ℕ → (Rows → ℕ) → Input → Input → Rows → Input → Summary Rows
rowed k f p q v r = fits (under k (f v) p.at q.at r.at v) r false 0

-- the trivia and the row once, around both alternatives, or around each
module _ (k : ℕ) (f : Rows → ℕ) (p : Input) where
  split_in : (b : Bool) (j : ℕ) (q : Input) (x y : Summary Rows)
      → more b j (thenˢ (elseˢ x λ _. y) (rowed k f p q)) ≡ elseˢ (more b j (thenˢ x (rowed k f p q))) λ _. more b j (thenˢ y (rowed k f p q))
  split_in b j q (fits v r c i) y = refl
  split_in b j q (fails c i) y =
      ap (more b j) (row_then c i y λ v r. under k (f v) p.at q.at r.at v) ∙ more_twice b c j i (thenˢ y (rowed k f p q))

  split_at : (o : Summary Rows) (m n : Input → Summary Rows)
      → thenˢ o (λ _ q. thenˢ (elseˢ (m q) λ _. n q) (rowed k f p q))
      ≡ elseˢ (thenˢ o λ _ q. thenˢ (m q) (rowed k f p q)) λ _. thenˢ o λ _ q. thenˢ (n q) (rowed k f p q)
  split_at (fits a q b j) m n = split_in b j q (m q) (n q)
  split_at (fails b j) m n = ap₂ fails (sym (or_self b)) (let z : j ≡ max j j = omega arith in z)

split : (τ : Rule → Scan Rows) (k : ℕ) (f : Rows → ℕ) (t m n : Parser) (l : ℕ) (p : Input)
    → scan τ (node k f t (m or n)) l p ≡ scan τ (node k f t m or node k f t n) l p
split τ k f t m n l p = split_at k f p (scan τ t l p) (λ q. scan τ m l q) (λ q. scan τ n l q)

-- a factor is one by its first alternative, or one by its second
factor_split : {s : List ℕ} {c : Cursor} {left : ℕ} {t t' : List ℕ} {r : Read}
    → Reads (node factorᵏ flags trivia expression_factor_inner or signed_factor) s c left t t' r → Reads expression_factor s c left t t' r
unfolding expression_factor factor_body signed_factor signs
factor_split {s} {c} a =
    record { reading = λ l. reading_is (split (full s) factorᵏ flags trivia expression_factor_inner signs l (here s c.at.0)) (a.reading l) }

module _ {s : List ℕ} (c : Cursor) {k : Skip} (skips : Skips trivia s c.at.0 c.met k) {left : ℕ} {t t₁ : List ℕ} {r₁ : Read}
    (a : Reads expression_factor_inner s (cursor k.at.0 c.count.0 k.met) left t t₁ r₁) where
  pub factor_got : {d : Cursor} → r₁ ≡ Ok d → {t' : List ℕ} {z : Cursor} → Finished factorᵏ 0 c k.at.0 d t₁ t' z
      → Reads expression_factor s c left t t' (Ok z)
  factor_got {d} e {t'} {z} b =
      factor_split (else_first
      (row_got skips a.reading inner_solid.quieted d e 0
      (λ l v x j p. sym (flags_none v (subst (Yields λ v q. Head v) p (inner_head (full s) l (here s k.at.0))).holds)) b)
      λ x q. got_miss _ x q)

  pub factor_deep : r₁ ≡ Err Deep → Reads expression_factor s c left t t₁ (Err Deep)
  factor_deep e =
      factor_split (subst (Reads (node factorᵏ flags trivia expression_factor_inner or signed_factor) s c left t t₁) e
      (else_first (row_out skips a.reading (ap is_err e)) λ x q. miss_deep x (sym q ∙ e)))

  module _ {z : Stop Bool} {x : Bool} (is : r₁ ≡ Err z) (q : z ≡ Miss x) where
    miss : r₁ ≡ Err (Miss x)
    miss = is ∙ ap Err q

    pub factor_miss : {t' : List ℕ} {r : Read} → Reads signed_factor s (cursor c.at.0 c.count.0 x) left t₁ t' r → Reads expression_factor s c left t t' r
    factor_miss b = factor_split (else_miss (row_out skips a.reading (ap is_err is)) is q b)

    -- what the second alternative starts from
    pub factor_after : (b : Bool) × (x ≡ c.met || b)
    factor_after = missed_on c.met (skips.open?, skips.noted) (missed a x miss)

    pub factor_missed : {k' : Skip} {s' : List ℕ} → s' ≡ s → k' ≡ skip k.at.0 (x || k.met) → Missed s' k' left
    factor_missed {k'} f g =
        subst (λ (s : List ℕ). Missed s k' left) (sym f) (subst (λ (k : Skip). Missed s k left) (sym (g ∙ ap (skip k.at.0) same)) record {
          again = λ l n t.
              let y = lost (l + left) k.met c.count.0 (scan (full s) expression_factor_inner l (here s k.at.0)) x (sym miss ∙ (a.reading l).agrees.answer) in
              record { agrees = agrees_is y.is (agrees_err (l + left) x n [] t y.b y.k x y.low (noted_twice k.met y.b x y.noted)) };
        })
      where
        twice : (m b : Bool) → (m || b) || m ≡ m || b
        twice true b = refl
        twice false true = refl
        twice false false = refl

        same : x || k.met ≡ x
        same = let y = missed a x miss in ap (◌|| k.met) y.1 ∙ twice k.met y.0 ∙ sym y.1

-- Signs ----------------------------------------------------------------------

-- the character, or nothing
module _ {b : ℕ} {s : List ℕ} {c : Cursor} {t t' : List ℕ} {r : Read} (a : Leafs (spaced b) s c t t' r) where
  pub maybe_got : c.at.0 ≤ length s → (d : Cursor) → r ≡ Ok d → Maybe b s c t t' d
  maybe_got h d e =
      let st = stepped (mark_solid b) d h (a.reading 0 0) e in
      let f = found 0 c.met c.count.0 (scan (full s) (spaced b) 0 (here s c.at.0)) d (sym e ∙ (a.reading 0 0).agrees.answer) in
      record {
        leafs = subst (Leafs (opt (spaced b)) s c t t') e (record { reading = λ l lim. opt_first (a.reading l lim) λ x q. got_miss d x (sym e ∙ q) });
        grown = omega (arith, st.grown);
        one = omega (
          arith,
          f.count,
          sign_one f.v
              (subst (Yields λ v q. Sign b v) (ap (λ o. elseˢ o λ _. fits [] (here s c.at.0) false 0) f.is) (sign_row (full s) b 0 (here s c.at.0))).holds,
        );
        none = λ z. absurd (let y : ⊥ = omega (arith, st.grown) in y);
        ready = λ w. record { small = w.small; within = st.within; few = omega (arith, st.rows, w.few) };
      }
    where
      sign_one : (v : Rows) → Sign b v → length v ≤ 1
      sign_one [] h = omega arith
      sign_one (r ∷ []) h = omega arith
      sign_one (r ∷ (s ∷ v)) h = absurd h

  pub maybe_miss : {z : Stop Bool} {x : Bool} → r ≡ Err z → z ≡ Miss x → Maybe b s c t t' (cursor c.at.0 c.count.0 x)
  maybe_miss {x = x} e q =
      record {
        leafs = record { reading = λ l lim. opt_miss (a.reading l lim) x (e ∙ ap Err q) };
        grown = omega arith;
        one = omega arith;
        none = λ z. refl;
        ready = λ w. record { small = w.small; within = w.within; few = w.few };
      }

-- what the signs add to the flags is how many rows they have
signs_flags : (s : List ℕ) (l i m n : ℕ) (q r : Input) (a b v w : Rows) (x y z u : Bool) (e f g h : ℕ)
    → scan (full s) (opt (spaced 33)) l (here s i) ≡ fits a (here s m) x e → scan (full s) (opt (spaced 45)) l (here s m) ≡ fits b (here s n) y f
    → scan (full s) expression_factor_inner l (here s n) ≡ fits v q z g → scan (full s) signs l (here s i) ≡ fits w r u h
    → length a + 2 * length b ≡ flags w
unfolding signs
signs_flags s l i m n q r a b v w x y z u e f g h first second third whole =
    let o = ap (λ o. thenˢ o λ a q. withˢ (a ++◌) (thenˢ (scan (full s) (opt (spaced 45)) l q) λ a q. withˢ (a ++◌) (scan (full s) expression_factor_inner l q))) first
    ∙ ap (λ o. more x e (withˢ (a ++◌) (thenˢ o λ a q. withˢ (a ++◌) (scan (full s) expression_factor_inner l q)))) second
    ∙ ap (λ o. more x e (withˢ (a ++◌) (more y f (withˢ (b ++◌) o)))) third in
    flags_signed a b v (subst (Yields λ v q. Sign 33 v) first (sign_row (full s) 33 l (here s i))).holds
    (subst (Yields λ v q. Sign 45 v) second (sign_row (full s) 45 l (here s m))).holds
    (subst (Yields λ v q. Head v) third (inner_head (full s) l (here s n))).holds
    ∙ ap flags (fits_rows (sym o ∙ whole))
  where
    fits_rows : {v w : Rows} {q r : Input} {x y : Bool} {k j : ℕ} → ◌≡◌ {A = Summary Rows} (fits v q x k) (fits w r y j) → v ≡ w
    fits_rows e = cc

-- a factor by its second alternative: the signs, and what stands behind them
module _ {s : List ℕ} (c : Cursor) {k : Skip} (skips : Skips trivia s c.at.0 c.met k) {t t₁ t₂ : List ℕ} {p q : Cursor}
    (x : Maybe 33 s (cursor k.at.0 c.count.0 k.met) t t₁ p) (y : Maybe 45 s p t₁ t₂ q) (left : ℕ) where
  signs_on : {t' : List ℕ} {r : Read} → ((l : ℕ) → Reading expression_factor_inner s l (l + left) q.at.0 q.met q.count.0 t₂ t' r)
      → (l : ℕ) → Reading signs s l (l + left) k.at.0 k.met c.count.0 t t' r
  unfolding signs
  signs_on a l =
      seq_got (x.leafs.reading l (l + left)) (opt (spaced 45) ▸ expression_factor_inner) (opt_mark_quiet 33) p refl
      (seq_got (y.leafs.reading l (l + left)) expression_factor_inner (opt_mark_quiet 45) q refl (a l))

  -- no sign: the same would not fit again
  pub signed_none : Missed s k left → q.count.0 ≡ c.count.0 → Reads signed_factor s c left t t₂ (Err (Miss q.met))
  unfolding signed_factor
  signed_none h z = row_out skips (signs_on missed) refl
    where
      at : q.at.0 ≡ k.at.0
      at = let same : p.count.0 ≡ c.count.0 = omega (arith, x.grown, y.grown) in y.none (z ∙ sym same) ∙ x.none same

      missed : (l : ℕ) → Reading expression_factor_inner s l (l + left) q.at.0 q.met q.count.0 t₂ t₂ (Err (Miss q.met))
      missed l =
          let o = scan (full s) expression_factor_inner l (here s k.at.0) in
          let i = lost (l + left) k.met 0 o k.met (h.again l 0 t₂).agrees.answer in
          let f = found (l + left) k.met c.count.0 (scan (full s) (opt (spaced 33)) l (here s k.at.0)) p (x.leafs.reading l (l + left)).agrees.answer in
          let g = found (l + left) p.met p.count.0 (scan (full s) (opt (spaced 45)) l (here s p.at.0)) q (y.leafs.reading l (l + left)).agrees.answer in
          subst (λ (n : ℕ). Reading expression_factor_inner s l (l + left) n q.met q.count.0 t₂ t₂ (Err (Miss q.met))) (sym at)
          (record {
            agrees = agrees_is i.is (agrees_err (l + left) q.met q.count.0 [] t₂ i.b i.k q.met i.low
                (noted_on k.met i.b f.b g.b p.met q.met f.noted g.noted i.noted));
          })

  module _ {t₃ : List ℕ} {r₃ : Read} (a : Reads expression_factor_inner s q left t₂ t₃ r₃) where
    pub signed_out : IsErr r₃ → Reads signed_factor s c left t t₃ r₃
    unfolding signed_factor
    signed_out h = row_out skips (signs_on a.reading) h

    -- what the signs add to the flags is how many rows they have
    pub signed_got : (d : Cursor) → r₃ ≡ Ok d → {t' : List ℕ} {z : Cursor}
        → Finished factorᵏ (p.count.0 - c.count.0 + 2 * (q.count.0 - p.count.0)) c k.at.0 d t₃ t' z → Reads signed_factor s c left t t' (Ok z)
    unfolding signed_factor
    signed_got d e b = row_got skips (signs_on a.reading) signs_quiet d e (p.count.0 - c.count.0 + 2 * (q.count.0 - p.count.0)) detail b
      where
        detail : (l : ℕ) (v : Rows) (u : Bool) (j : ℕ) → scan (full s) signs l (here s k.at.0) ≡ fits v (here s d.at.0) u j
            → p.count.0 - c.count.0 + 2 * (q.count.0 - p.count.0) ≡ flags v
        detail l v u j w =
            let o = scan (full s) (opt (spaced 33)) l (here s k.at.0) in
            let o' = scan (full s) (opt (spaced 45)) l (here s p.at.0) in
            let f = found (l + left) k.met c.count.0 o p (x.leafs.reading l (l + left)).agrees.answer in
            let g = found (l + left) p.met p.count.0 o' q (y.leafs.reading l (l + left)).agrees.answer in
            let i = found (l + left) q.met q.count.0 (scan (full s) expression_factor_inner l (here s q.at.0)) d (sym e ∙ (a.reading l).agrees.answer) in
            let n : p.count.0 - c.count.0 + 2 * (q.count.0 - p.count.0) ≡ length f.v + 2 * length g.v = omega (arith, f.count, g.count) in
            n ∙ signs_flags s l k.at.0 p.at.0 q.at.0 i.q (here s d.at.0) f.v g.v i.v v f.b g.b i.b u f.k g.k i.k j
            (found_here s (lies s (opt (spaced 33)) (opt_mark_quiet 33) l k.at.0) f) (found_here s (lies s (opt (spaced 45)) (opt_mark_quiet 45) l p.at.0) g)
            i.is w

-- The forms of an operand, each from what its parts answered.
use mathlib.Core.Path.{◌≡◌, refl, ap, sym, subst, ◌∙◌}
use mathlib.Core.Bool.{Bool, true, false, ◌||◌, or_assoc, or-false, false≢true}
use mathlib.Core.List.{List, [], ◌∷◌, ◌++◌}
use mathlib.Core.Option.{some}
use Prim.Native.Nat.{ℕ, suc, ◌+◌, max}
use borrow.Author.Tests.{eqb-true}
use lib.Dec.{eqb}
use lib.ListN.{drop}
use Rattle.reading.specs.Byte.{is, begins, given}
use Rattle.reading.specs.Kind.{operandᵏ, charᵏ}
use Rattle.reading.specs.Grammar.{Rows, Input, one, ◌▸◌, ◌or◌, never, leaf, bracket, under, first_low, always}
use Rattle.reading.specs.Rules.{byte, char, trivia, expression}
use Rattle.reading.specs.Rules.{register_suffix, optional_suffix, am_imm, am_ind, am_outer_ind, am_abs}
use Rattle.reading.specs.Summary.{Summary, fits, fails, more, thenˢ, elseˢ, scan}
use Rattle.reading.proofs.Verdict.{first}
use Rattle.cursor.specs.Text.{here, cursor, skip, Skips}
use Rattle.cursor.specs.Agree.{full, Reads, Leafs}
use Rattle.cursor.specs.declared.Cursor.{Cursor}
use Rattle.cursor.specs.declared.Skip.{Skip}
use Rattle.cursor.specs.Read.{Read}
use Rattle.cursor.proofs.Agree.{found, found_here, lost, got_miss, miss_deep, not_got}
use Rattle.cursor.proofs.Lows.{low_first, low_node, first_bracket}
use Rattle.cursor.proofs.Places.{leaf_no}
use Rattle.cursor.proofs.Laws.{lies, reads_leaf, leaf_deep, reading_is, seq_out, seq_got, never_miss, flat_no}
use Rattle.trivia.proofs.Pieces.{one_begins}
use Rattle.lexis.proofs.Solids.{char_solid, suffix_quiet}
use Rattle.expression.proofs.Facts.{expression_solid}
use Rattle.expression.proofs.Steps.{else_first, else_miss, inside_out}
use Rattle.expression.proofs.Terms.{low_expression}
use Rattle.operand.specs.Parts.{addressed, closing_of}
use Rattle.lexis.specs.Around.{Finished}
use Rattle.operand.proofs.Facts.{opened_solid, closing_quiet, closed_quiet, trying_quiet, tried_quiet}
use Rattle.operand.proofs.Paren.{fits_fails, tried, expression_fails, closing_fails}
use Rattle.operand.proofs.Steps.{skips_kept, over_misses, over_done, reads_empty, behind_misses, behind_goes}
use Rattle.cursor.specs.declared.Stop.{Stop}
use Rattle.cursor.specs.declared.Stop.TheVariants.{Miss, Deep}
use Rattle.std.specs.Prelude.{Ok, Err, IsErr, is_err}

-- Immediate ------------------------------------------------------------------

pub imm_done : {s : List ℕ} {c : Cursor} {k : Skip} → Skips trivia s c.at.0 c.met k → {left : ℕ} {t t₁ : List ℕ} {d : Cursor} → Leafs (char "#") s c t t₁ (Ok d)
    → {t₂ : List ℕ} {r₂ : Read} → Reads expression s d left t₁ t₂ r₂ → {x : Cursor} → r₂ ≡ Ok x → {t' : List ℕ} {z : Cursor}
    → Finished operandᵏ 2 c k.at.0 x t₂ t' z → Reads am_imm s c left t t' (Ok z)
unfolding am_imm
imm_done gap {left} a b q f =
    over_done (reads_leaf left a) (char_solid false 35).quieted refl b expression_solid.quieted q
    (λ l. low_first (low_node charᵏ gap l (always 35) (leaf (one (is 35))))) f

-- Plain ----------------------------------------------------------------------

pub abs_done : {s : List ℕ} {c : Cursor} {k : Skip} → Skips trivia s c.at.0 c.met k → {left : ℕ} {t t₁ : List ℕ} {d : Cursor} → Reads expression s c left t t₁ (Ok d)
    → {t₂ : List ℕ} {r₂ : Read} → Leafs optional_suffix s d t₁ t₂ r₂ → {x : Cursor} → r₂ ≡ Ok x → {t' : List ℕ} {z : Cursor}
    → Finished operandᵏ 1 c k.at.0 x t₂ t' z → Reads am_abs s c left t t' (Ok z)
unfolding am_abs
abs_done gap {left} a b q f = over_done a expression_solid.quieted refl (reads_leaf left b) suffix_quiet q (λ l. low_first (low_expression gap l)) f

-- no `(` stands there: am_ind and am_outer_ind miss at once
module _ {s : List ℕ} {c : Cursor} (left low : ℕ) (gap : Skips trivia s c.at.0 c.met (skip low c.met))
    (e : begins (40 ∷ []) (drop low s) ≡ false) (t : List ℕ) where
  no_paren : Leafs (char "(") s c t t (Err (Miss c.met))
  no_paren =
      record {
        reading = λ l lim. flat_no charᵏ (always 40) gap lim c.count.0 t
            (leaf_no (full s) l (one (is 40)) s low (one_begins 40 (drop low s) ∙ ap (λ x. given x 1) e));
      }

  ind_misses : Reads am_ind s c left t t (Err (Miss c.met))
  unfolding am_ind
  ind_misses = over_misses (inside_out no_paren refl) refl

  outer_misses : Reads am_outer_ind s c left t t (Err (Miss c.met))
  unfolding am_outer_ind
  outer_misses = over_misses (inside_out no_paren refl) refl

  pub plain : {t' : List ℕ} {r : Read} → Reads am_abs s c left t t' r → Reads addressed s c left t t' r
  unfolding addressed
  plain a = else_miss ind_misses refl refl (else_miss outer_misses refl refl a)

-- In parentheses -------------------------------------------------------------

byte_first : (b : ℕ) (t : List ℕ) → begins (b ∷ []) t ≡ true → first t ≡ some b
byte_first b [] e = absurd (false≢true e)
byte_first b (x ∷ t) e = go (eqb b x) refl e
  where
    go : (y : Bool) → eqb b x ≡ y → elim y [ true ↦ true | false ↦ false ] ≡ true → some x ≡ some b
    go true h f = ap some (sym (eqb-true b x h))
    go false h f = absurd (false≢true f)

-- a suffix may be missing, so that it always fits
opt_fits : (o : Summary Rows) (p : Input) (b : Bool) (k : ℕ) → elseˢ o (λ _. fits [] p false 0) ≡ fails b k → ⊥
opt_fits (fits v q d j) p b k e = fits_fails e
opt_fits (fails d j) p b k e = fits_fails e

pub suffix_fits : {s : List ℕ} {c : Cursor} {t t₁ : List ℕ} {r₁ : Read} → Leafs optional_suffix s c t t₁ r₁ → IsErr r₁ → ⊥
unfolding optional_suffix
suffix_fits {s} {c} {r₁ = r₁} a h = go r₁ refl
  where
    go : (r : Read) → r₁ ≡ r → ⊥
    go (Ok d) e = not_got e h
    go (Err (Miss m)) e =
        let o = scan (full s) (register_suffix "x" 1 or register_suffix "y" 2) 0 (here s c.at.0) in
        let y = lost 0 c.met c.count.0 (elseˢ o λ _. fits [] (here s c.at.0) false 0) m (sym e ∙ (a.reading 0 0).agrees.answer) in
        opt_fits o (here s c.at.0) y.b y.k y.is
    go (Err Deep) e = leaf_deep a e

-- `)`, with a suffix before it or not
module _ {s : List ℕ} {c : Cursor} {t t₁ : List ℕ} {r₁ : Read} (suffix : Bool) where
  pub closing_plain : suffix ≡ false → Leafs (char ")") s c t t₁ r₁ → Leafs (closing_of suffix) s c t t₁ r₁
  unfolding closing_of
  closing_plain e a = subst (λ x. Leafs (closing_of x) s c t t₁ r₁) (sym e) a

  pub closing_misses : suffix ≡ true → Leafs optional_suffix s c t t₁ r₁ → IsErr r₁ → Leafs (closing_of suffix) s c t t₁ r₁
  unfolding closing_of
  closing_misses e a h =
      subst (λ x. Leafs (closing_of x) s c t t₁ r₁) (sym e) (record { reading = λ l lim. seq_out (a.reading l lim) (char ")") h })

  pub closing_goes : suffix ≡ true → Leafs optional_suffix s c t t₁ r₁ → (d : Cursor) → r₁ ≡ Ok d → {t' : List ℕ} {r : Read} → Leafs (char ")") s d t₁ t' r
      → Leafs (closing_of suffix) s c t t' r
  unfolding closing_of
  closing_goes e a d q {t'} {r} b =
      subst (λ x. Leafs (closing_of x) s c t t' r) (sym e)
      (record { reading = λ l lim. seq_got (a.reading l lim) (char ")") suffix_quiet d q (b.reading l lim) })

module _ {s : List ℕ} {c : Cursor} {k : Skip} (gap : Skips trivia s c.at.0 c.met k) (stands : begins (40 ∷ []) (drop k.at.0 s) ≡ true)
    {left : ℕ} {t t₁ : List ℕ} {r₁ : Read} (a : Reads (bracket trivia 40 expression) s c left t t₁ r₁) where
  open_byte : first (drop k.at.0 s) ≡ some 40
  open_byte = byte_first 40 (drop k.at.0 s) stands

  opened_deep : r₁ ≡ Err Deep → Reads addressed s c left t t₁ r₁
  unfolding addressed am_ind
  opened_deep e =
      let h : IsErr r₁ = ap is_err e in
      else_first (over_misses (behind_misses a _ h) h) λ x q. miss_deep x (sym q ∙ e)

  opened_misses : (m : Bool) → r₁ ≡ Err (Miss m) → Reads addressed s c left t t₁ r₁
  opened_misses m e =
      record {
        reading = λ l.
            let o = scan (full s) (bracket trivia 40 expression) l (here s c.at.0) in
            let y = lost (l + left) c.met c.count.0 o m (sym e ∙ (a.reading l).agrees.answer) in
            reading_is (expression_fails gap open_byte l y.b y.k y.is) (a.reading l);
      }

  -- too deep, or no expression
  pub opened_out : IsErr r₁ → Reads addressed s c left t t₁ r₁
  opened_out h = go r₁ refl
    where
      go : (r : Read) → r₁ ≡ r → Reads addressed s c left t t₁ r₁
      go (Ok d) e = absurd (not_got e h)
      go (Err (Miss m)) e = opened_misses m e
      go (Err Deep) e = opened_deep e

  module _ (d : Cursor) (e : r₁ ≡ Ok d) {t₂ : List ℕ} {r₂ : Read} (b : Leafs (closing_of false) s d t₁ t₂ r₂) where
    -- `)` follows
    pub indirect : {x : Cursor} → r₂ ≡ Ok x → {t₃ : List ℕ} {r₃ : Read} → Leafs optional_suffix s x t₂ t₃ r₃ → {y : Cursor} → r₃ ≡ Ok y
        → {t' : List ℕ} {z : Cursor} → Finished operandᵏ 5 c k.at.0 y t₃ t' z → Reads addressed s c left t t' (Ok z)
    unfolding addressed am_ind closing_of
    indirect q i w {z = z} f =
        else_first (over_done (behind_goes a _ opened_solid.quieted e b) closed_quiet q (reads_leaf left i)
        suffix_quiet w (λ l. first_bracket 40 (expression ▸ char ")") closing_quiet gap l) f)
        λ m. got_miss z m

    -- `)` does not follow
    module _ {z : Stop Bool} {m : Bool} (is : r₂ ≡ Err z) (n : z ≡ Miss m) where
      missed : r₂ ≡ Err (Miss m)
      missed = is ∙ ap Err n

      retried : {t' : List ℕ} {r : Read} → Reads tried s c left t t' r → Reads addressed s c left t t' r
      unfolding closing_of
      retried i =
          record {
            reading = λ l.
                let o = scan (full s) (bracket trivia 40 expression) l (here s c.at.0) in
                let x = found (l + left) c.met c.count.0 o d (sym e ∙ (a.reading l).agrees.answer) in
                let p = scan (full s) (char ")") (suc l) (here s d.at.0) in
                let y = lost (l + left) d.met d.count.0 p m (sym missed ∙ (b.reading (suc l) (l + left)).agrees.answer) in
                let place = found_here s (lies s (bracket trivia 40 expression) opened_solid.quieted l c.at.0) x in
                reading_is (closing_fails gap open_byte l x.v (here s d.at.0) x.b y.b x.k y.k place y.is) (i.reading l);
          }

      module _ {t₃ : List ℕ} {r₃ : Read} (i : Leafs (closing_of true) s (cursor d.at.0 d.count.0 m) t₂ t₃ r₃) where
        tried_inside : Reads (bracket trivia 40 (expression ▸ (never (char ")") ▸ (optional_suffix ▸ char ")")))) s c left t t₃ r₃
        unfolding closing_of
        tried_inside =
            behind_goes a _ opened_solid.quieted e
            (record {
              reading = λ l lim. seq_got (never_miss (b.reading l lim) m missed) (optional_suffix ▸ char ")") (char_solid false 41).quieted
                  (cursor d.at.0 d.count.0 m) refl (i.reading l lim);
            })

        pub outer_lacks : IsErr r₃ → Reads addressed s c left t t₃ r₃
        outer_lacks h = retried (over_misses tried_inside h)

        pub outer_done : {y : Cursor} → r₃ ≡ Ok y → {t' : List ℕ} {z : Cursor} → Finished operandᵏ 4 c k.at.0 y t₃ t' z
            → Reads addressed s c left t t' (Ok z)
        outer_done {y} w f =
            retried (over_done tried_inside tried_quiet w (reads_empty s y left t₃) tt refl
            (λ l. first_bracket 40 (expression ▸ (never (char ")") ▸ (optional_suffix ▸ char ")"))) trying_quiet gap l) f)

-- The whole ------------------------------------------------------------------

-- what was noted before a failure is noted
or_again : (o d f : Bool) → (o || d) || f ≡ ((o || d) || f) || o
or_again true d f = refl
or_again false d f = sym (or-false (d || f))

two : (o d : Bool) → o || d ≡ (o || d) || o
two true d = refl
two false d = sym (or-false d)

first_noted : (o : Bool) (x : Summary Rows) (g : Rows → Input → Summary Rows) (b : Bool) (k : ℕ) → thenˢ (more o 0 x) g ≡ fails b k → b ≡ b || o
first_noted o (fits v q d j) g b k e = go (g v q) e
  where
    go : (y : Summary Rows) → more (o || d) (max 0 j) y ≡ fails b k → b ≡ b || o
    go (fits w r f i) e = absurd (fits_fails e)
    go (fails f i) e = let z : b ≡ (o || d) || f = cc in z ∙ or_again o d f ∙ ap (◌|| o) (sym z)
first_noted o (fails d j) g b k e = let z : b ≡ o || d = cc in z ∙ two o d ∙ ap (◌|| o) (sym z)

module _ {s : List ℕ} {c : Cursor} {left : ℕ} {t t₁ : List ℕ} {r₁ : Read} (a : Reads am_imm s c left t t₁ r₁) where
  -- the trivia is noted, and need not be read again
  pub imm_gap : {k : Skip} → Skips trivia s c.at.0 c.met k → {z : Stop Bool} {m : Bool} → r₁ ≡ Err z → z ≡ Miss m → Skips trivia s c.at.0 m (skip k.at.0 m)
  unfolding am_imm
  imm_gap {k} gap {m = m} e n =
      let i = c.at.0 in
      let rest : Rows → Input → Summary Rows =
      λ u q. thenˢ (scan (full s) expression 0 q) λ v r. fits (under operandᵏ 2 i (first_low u) r.at (u ++ v)) r false 0 in
      let mark : Input → Summary Rows =
      λ q. thenˢ (scan (full s) (byte "#") 0 q) λ v r. fits (under charᵏ 35 i q.at r.at v) r false 0 in
      let y = lost (0 + left) c.met c.count.0 (scan (full s) am_imm 0 (here s i)) m (sym (e ∙ ap Err n) ∙ (a.reading 0).agrees.answer) in
      let same : scan (full s) am_imm 0 (here s i) ≡ thenˢ (more gap.open? 0 (mark (here s k.at.0))) rest =
      ap (λ o. thenˢ (thenˢ o λ _ q. mark q) rest) (gap.is (full s) 0) in
      let z = first_noted gap.open? (mark (here s k.at.0)) rest y.b y.k (sym same ∙ y.is) in
      skips_kept gap m (y.noted ∙ ap (c.met ||◌) z ∙ sym (or_assoc c.met y.b gap.open?) ∙ ap (◌|| gap.open?) (sym y.noted))

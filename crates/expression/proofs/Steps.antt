-- The laws of agreement for whole functions: at every level, with `left` more levels to go.
use mathlib.Core.Path.{◌≡◌, refl, ap, sym, subst, ◌∙◌}
use mathlib.Core.Bool.{Bool, ◌||◌, or_assoc}
use mathlib.Core.List.{List}
use Prim.Native.Nat.{ℕ, suc, ◌+◌, ◌-◌, ◌≤◌}
use native.Mathlib.Omega.{arith}
use lib.Dec.{T}
use lib.ListN.{length}
use Rattle.reading.specs.Byte.{is}
use Rattle.reading.specs.Grammar.{Rows, one, Rule, Parser, empty, ◌▸◌, ◌or◌, leaf, rule, node, bracket, always}
use Rattle.reading.specs.Kind.{charᵏ}
use Rattle.reading.specs.Reading.{rule_of}
use Rattle.reading.specs.Summary.{fits, scan}
use Rattle.reading.proofs.Tests.{quiet, quiet_rule}
use Rattle.cursor.specs.Text.{here, cursor, Skips}
use Rattle.cursor.specs.Agree.{full, Reading, Reads, Leafs, Ready}
use Rattle.cursor.specs.declared.Cursor.{Cursor}
use Rattle.cursor.specs.declared.Skip.{Skip}
use Rattle.cursor.specs.Read.{Read}
use Rattle.cursor.proofs.Agree.{lost}
use Rattle.cursor.proofs.Laws.{Solid, Stepped, stepped, ready_on, rule_is, reading_is, reading_to, reads_leaf, leaf_deep, skips_empty, seq_out, seq_got, or_miss, or_first, node_out, node_got}
use Rattle.cursor.proofs.Laws.{bracket_out, bracket_none, bracket_in}
use Rattle.lexis.specs.Around.{Spans, Finished}
use Rattle.cursor.specs.declared.Stop.{Stop}
use Rattle.cursor.specs.declared.Stop.TheVariants.{Miss, Deep}
use Rattle.std.specs.Prelude.{Ok, Err, IsErr}

-- Where the next is called ---------------------------------------------------

-- with another note of open comments
pub ready_met : {n : ℕ} {s : List ℕ} {c : Cursor} → Ready n s c → (x : Bool) → Ready n s (cursor c.at.0 c.count.0 x)
ready_met h x = record { small = h.small; within = h.within; few = h.few }

-- behind trivia
pub ready_skip : {n : ℕ} {s : List ℕ} {c : Cursor} {g : Parser} {k : Skip} → Ready n s c → Skips g s c.at.0 c.met k
    → Ready n s (cursor k.at.0 c.count.0 k.met)
ready_skip h x = record { small = h.small; within = x.within; few = omega (arith, h.few, x.on) }

-- behind what was read
pub ready_step : {n : ℕ} {s : List ℕ} {c d : Cursor} → Ready n s c → Stepped s c.at.0 c.count.0 d → Ready n s d
ready_step h st = record { small = h.small; within = st.within; few = omega (arith, st.rows, h.few) }

-- what `around` asks for
pub around_fits : {s : List ℕ} {c d : Cursor} → Ready 8 s c → Ready 8 s d → c.count.0 ≤ d.count.0 → (low : ℕ) → low ≤ length s
    → Spans c low d
around_fits h i g low e =
    let small = h.small in
    let near = h.within in
    let far = i.within in
    let few = i.few in
    record { grown = g; few = omega arith; start = omega arith; body = omega arith; end = omega arith }

-- behind what pays for its rows
module _ {n : ℕ} {g : Parser} (ok : Solid g) {s : List ℕ} {c : Cursor} (h : Ready n s c) {t t' : List ℕ} {d : Cursor} where
  pub reads_ready : {left : ℕ} → Reads g s c left t t' (Ok d) → Ready n s d
  reads_ready a = ready_on ok d h a refl

  pub leaf_ready : Leafs g s c t t' (Ok d) → Ready n s d
  leaf_ready a = reads_ready (reads_leaf 0 a)

-- a match says in two steps that a leaf went too deep, which none does
pub leaf_not_deep : {g : Parser} {s : List ℕ} {c : Cursor} {t t' : List ℕ} {r : Read} → Leafs g s c t t' r → {z : Stop Bool} → r ≡ Err z → z ≡ Deep
    → {A : Type 0} → A
leaf_not_deep a e q = absurd (leaf_deep a (e ∙ ap Err q))

-- One after the other, one or the other ----------------------------------------

module _ {m n : Parser} {s : List ℕ} {c : Cursor} {left : ℕ} {t t₁ : List ℕ} {r₁ : Read} (a : Reads m s c left t t₁ r₁) where
  pub then_out : IsErr r₁ → Reads (m ▸ n) s c left t t₁ r₁
  then_out h = record { reading = λ l. seq_out (a.reading l) n h }

  pub then_got : T (quiet m) → {d : Cursor} → r₁ ≡ Ok d → {t' : List ℕ} {r : Read} → Reads n s d left t₁ t' r → Reads (m ▸ n) s c left t t' r
  then_got u {d} e b = record { reading = λ l. seq_got (a.reading l) n u d e (b.reading l) }

  pub else_first : ((x : Bool) → r₁ ≡ Err (Miss x) → ⊥) → Reads (m or n) s c left t t₁ r₁
  else_first h = record { reading = λ l. or_first (a.reading l) n h }

  -- a match says in two steps that the first attempt was a miss
  pub else_miss : {z : Stop Bool} {x : Bool} → r₁ ≡ Err z → z ≡ Miss x → {t' : List ℕ} {r : Read} → Reads n s (cursor c.at.0 c.count.0 x) left t₁ t' r
      → Reads (m or n) s c left t t' r
  else_miss {x = x} e q b = record { reading = λ l. or_miss (a.reading l) n x (e ∙ ap Err q) (b.reading l) }

-- a rule behind a byte
pub rule_reads : (x : Rule) → T (quiet_rule x) → {s : List ℕ} {c : Cursor} {left : ℕ} {t t₁ : List ℕ} {r₁ : Read} → 1 ≤ c.at.0 → c.at.0 ≤ length s
    → Reads (rule_of x) s c left t t₁ r₁ → Reads (rule x) s c left t t₁ r₁
rule_reads x u {s} {c} h k a = record { reading = λ l. reading_is (rule_is x u s l c.at.0 h k) (a.reading l) }

-- Nodes ----------------------------------------------------------------------

-- the row around what was read is pushed last
module _ {k : ℕ} {f : Rows → ℕ} {w : Parser} {s : List ℕ} {c : Cursor} {x : Skip} (skips : Skips w s c.at.0 c.met x) {m : Parser} where
  row_at : {l lim : ℕ} {t t₁ : List ℕ} {r₁ : Read} → Reading m s l lim x.at.0 x.met c.count.0 t t₁ r₁
      → T (quiet m) → (d : Cursor) → r₁ ≡ Ok d → (e : ℕ)
      → ((v : Rows) (b : Bool) (j : ℕ) → scan (full s) m l (here s x.at.0) ≡ fits v (here s d.at.0) b j → e ≡ f v)
      → {t' : List ℕ} {z : Cursor} → Finished k e c x.at.0 d t₁ t' z → Reading (node k f w m) s l lim c.at.0 c.met c.count.0 t t' (Ok z)
  row_at {l} {lim} {t} a u d q e detail {t'} b =
      subst (λ (z : Cursor). Reading (node k f w m) s l lim c.at.0 c.met c.count.0 t t' (Ok z)) (sym b.is)
      (reading_to b.table (node_got k f skips a u d q b.size e b.counts detail))

  module _ {left : ℕ} {t t₁ : List ℕ} {r₁ : Read} (a : (l : ℕ) → Reading m s l (l + left) x.at.0 x.met c.count.0 t t₁ r₁) where
    pub row_out : IsErr r₁ → Reads (node k f w m) s c left t t₁ r₁
    row_out h = record { reading = λ l. node_out k f skips (a l) h }

    pub row_got : T (quiet m) → (d : Cursor) → r₁ ≡ Ok d → (e : ℕ)
        → ((l : ℕ) (v : Rows) (b : Bool) (j : ℕ) → scan (full s) m l (here s x.at.0) ≡ fits v (here s d.at.0) b j → e ≡ f v)
        → {t' : List ℕ} {z : Cursor} → Finished k e c x.at.0 d t₁ t' z → Reads (node k f w m) s c left t t' (Ok z)
    row_got u d q e detail b = record { reading = λ l. row_at (a l) u d q e (detail l) b }

-- it has room for its columns
pub row_spans : {m : Parser} → Solid m → {w : Parser} {s : List ℕ} {c : Cursor} → Ready 8 s c → {x : Skip} → Skips w s c.at.0 c.met x
    → {left : ℕ} {t t₁ : List ℕ} {r₁ : Read} → Reads m s (cursor x.at.0 c.count.0 x.met) left t t₁ r₁ → {d : Cursor} → r₁ ≡ Ok d → Spans c x.at.0 d
row_spans ok h skips a {d} e =
    let st = stepped ok d skips.within (a.reading 0) e in
    around_fits h (ready_step (ready_skip h skips) st) (omega (arith, st.grown)) _ skips.within

-- a row around what begins here
module _ {k e : ℕ} {s : List ℕ} {c : Cursor} (h : c.at.0 ≤ length s) {m : Parser} {t t₁ : List ℕ} {r₁ : Read} where
  pub whole_out : {left : ℕ} → Reads m s c left t t₁ r₁ → IsErr r₁ → Reads (node k (always e) empty m) s c left t t₁ r₁
  whole_out a g = row_out (skips_empty s c.at.0 c.met h) a.reading g

  pub whole_got : T (quiet m) → {left : ℕ} → Reads m s c left t t₁ r₁ → {d : Cursor} → r₁ ≡ Ok d
      → {t' : List ℕ} {z : Cursor} → Finished k e c c.at.0 d t₁ t' z → Reads (node k (always e) empty m) s c left t t' (Ok z)
  whole_got u a {d} q b = row_got (skips_empty s c.at.0 c.met h) a.reading u d q e (λ l v x j p. refl) b

  -- the same where no level is entered
  pub leaf_out : Leafs m s c t t₁ r₁ → IsErr r₁ → Leafs (node k (always e) empty m) s c t t₁ r₁
  leaf_out a g = record { reading = λ l lim. node_out k (always e) (skips_empty s c.at.0 c.met h) (a.reading l lim) g }

  pub leaf_got : T (quiet m) → Leafs m s c t t₁ r₁ → {d : Cursor} → r₁ ≡ Ok d
      → {t' : List ℕ} {z : Cursor} → Finished k e c c.at.0 d t₁ t' z → Leafs (node k (always e) empty m) s c t t' (Ok z)
  leaf_got u a {d} q b = record { reading = λ l lim. row_at (skips_empty s c.at.0 c.met h) (a.reading l lim) u d q e (λ v x j p. refl) b }

pub whole_spans : {m : Parser} → Solid m → {s : List ℕ} {c : Cursor} → Ready 8 s c → {left : ℕ} {t t₁ : List ℕ} {r₁ : Read} → Reads m s c left t t₁ r₁
    → {d : Cursor} → r₁ ≡ Ok d → Spans c c.at.0 d
whole_spans ok {s} {c} h a e = row_spans ok h (skips_empty s c.at.0 c.met h.within) a e

-- Brackets -------------------------------------------------------------------

-- the opening character, and what is inside, one level deeper
module _ {w m : Parser} {left b : ℕ} {s : List ℕ} {c : Cursor} {t t₁ : List ℕ} {r₁ : Read}
    (a : Leafs (node charᵏ (always b) w (leaf (one (is b)))) s c t t₁ r₁) where
  pub inside_out : IsErr r₁ → Reads (bracket w b m) s c left t t₁ r₁
  inside_out h = record { reading = λ l. bracket_out m left (a.reading l (l + left)) h }

  module _ (u : T (quiet w)) {d : Cursor} (e : r₁ ≡ Ok d) where
    pub inside_none : left ≡ 0 → Reads (bracket w b m) s c left t t₁ (Err Deep)
    inside_none z = record { reading = λ l. bracket_none m left (a.reading l (l + left)) u d e z }

    pub inside_on : (left ≡ 0 → ⊥) → {t' : List ℕ} {r : Read} → Reads m s d (left - 1) t₁ t' r → Reads (bracket w b m) s c left t t' r
    inside_on z x = record { reading = λ l. bracket_in m left (a.reading l (l + left)) u d e z (x.reading (suc l)) }

-- Other names for text and start ----------------------------------------------

pub reads_told : {g : Parser} {s s' : List ℕ} {c c' : Cursor} {left : ℕ} {t t' : List ℕ} {r : Read} → s' ≡ s → c' ≡ c → Reads g s' c' left t t' r
    → Reads g s c left t t' r
reads_told {g} {s' = s'} {c} {left = left} {t} {t'} {r} e f a =
    subst (λ (s : List ℕ). Reads g s c left t t' r) e (subst (λ (c : Cursor). Reads g s' c left t t' r) f a)

pub skips_told : {g : Parser} {s s' : List ℕ} {c c' : Cursor} {k : Skip} → s' ≡ s → c' ≡ c → Skips g s' c'.at.0 c'.met k → Skips g s c.at.0 c.met k
skips_told {g} {s' = s'} {c} {k = k} e f x =
    subst (λ (s : List ℕ). Skips g s c.at.0 c.met k) e (subst (λ (c : Cursor). Skips g s' c.at.0 c.met k) f x)

-- an expression behind its trivia, as a place of its own
pub expressed : {g : Parser} {s s' s'' : List ℕ} {c c' c'' : Cursor} {k : Skip} {left : ℕ} {t t' : List ℕ} {r : Read} → s' ≡ s → c' ≡ c
    → s'' ≡ s' → c'' ≡ cursor k.at.0 c'.count.0 k.met → Reads g s'' c'' left t t' r → Reads g s (cursor k.at.0 c.count.0 k.met) left t t' r
expressed {k = k} e f g h a = reads_told (g ∙ e) (h ∙ ap (λ (c : Cursor). cursor k.at.0 c.count.0 k.met) f) a

-- What was met before ---------------------------------------------------------

-- what `after` asks for
pub missed : {g : Parser} {s : List ℕ} {c : Cursor} {left : ℕ} {t t₁ : List ℕ} {r₁ : Read} → Reads g s c left t t₁ r₁ → (x : Bool) → r₁ ≡ Err (Miss x)
    → (b : Bool) × (x ≡ c.met || b)
missed {g} {s} {c} {left} a x e =
    let y = lost (0 + left) c.met c.count.0 (scan (full s) g 0 (here s c.at.0)) x (sym e ∙ (a.reading 0).agrees.answer) in
    (y.b, y.noted)

pub missed_on : (m : Bool) {n o : Bool} → (b : Bool) × (n ≡ m || b) → (b : Bool) × (o ≡ n || b) → (b : Bool) × (o ≡ m || b)
missed_on m x y = (x.0 || y.0, y.1 ∙ ap (◌|| y.0) x.1 ∙ or_assoc m x.0 y.0)

-- Agreement with a parser: a law for each way of making parsers, from what the callees answered.
use mathlib.Core.Path.{◌≡◌, refl, ap, ap₂, sym, subst, ◌∙◌}
use mathlib.Core.Bool.{Bool, false, ◌||◌, and-true, or-false}
use mathlib.Core.List.{List, [], ◌∷◌, ◌++◌}
use mathlib.Core.Option.{Option, none, some}
use Prim.Native.Nat.{ℕ, suc, ◌+◌, ◌*◌, ◌-◌, ◌≤◌, ◌<◌, max}
use native.Mathlib.Omega.{arith}
use lib.Dec.{T, leb→le}
use lib.ListN.{length, drop, length-append, length-drop}
use lib.Seq.{drop-drop}
use Rattle.reading.specs.Byte.{is}
use Rattle.reading.specs.Kind.{charᵏ}
use Rattle.reading.specs.Grammar.{Row, Rows, Input, Leaf, one, Rule, Parser, empty, ◌▸◌, ◌or◌, never, leaf, rule, node, pick, over, argument, bracket}
use Rattle.reading.specs.Grammar.{always, taken, behind, under, first_low, placed}
use Rattle.reading.specs.Reading.{rule_of}
use Rattle.reading.specs.Rules.{opt}
use Rattle.reading.specs.Summary.{Summary, fits, fails, more, thenˢ, elseˢ, withˢ, turnedˢ, pickedˢ, pick_wordˢ, scan}
use Rattle.reading.specs.Table.{row_width}
use Rattle.reading.proofs.Ahead.{Ahead}
use Rattle.reading.proofs.Tests.{quiet, quiet_rule}
use Rattle.reading.proofs.Cost.{Cost, cost, slim, paid, Fit, placed_length}
use Rattle.reading.proofs.Summaries.{Holds, Yields, scan_on, scan_slim, scan_solves, rooted, Rooted, scan_rooted}
use Rattle.table.specs.Words.{pushed, replaced, row_record}
use Rattle.cursor.specs.Text.{here, cursor, skip, Skips}
use Rattle.cursor.specs.Word.{word_or, first_word}
use Rattle.cursor.specs.Agree.{full, peak_of, Agrees, Reading, Reads, Leafs, Ready}
use Rattle.cursor.specs.declared.Cursor.{Cursor}
use Rattle.cursor.specs.declared.Skip.{Skip}
use Rattle.cursor.specs.Read.{Read}
use Rattle.cursor.proofs.Agree.{Found, found, lost, deep, agrees_deep, agrees_is, agrees_more, agrees_ok, agrees_err, agrees_push, agrees_place}
use Rattle.cursor.proofs.Agree.{agrees_with, peak_more, Lies, agrees_got, agrees_out, agrees_or, agrees_first}
use Rattle.cursor.proofs.Places.{behind_here}
use Rattle.cursor.proofs.Lows.{First}
use Rattle.cursor.specs.declared.Stop.TheVariants.{Miss, Deep}
use Rattle.std.specs.Prelude.{Ok, Err, IsErr}

-- What is known of every reading ---------------------------------------------

lies_at : (s : List ℕ) (i : ℕ) (o : Summary Rows) → Holds (λ v q. Ahead (here s i) q) o → Lies s o
lies_at s i (fits v q b k) h =
    ap {B = Input} (λ (t : List ℕ). record { at = q.at; left = t })
    (h.rest ∙ drop-drop (q.at - i) i s ∙ ap (λ n. drop n s) (let z : i + (q.at - i) ≡ q.at = omega (arith, h.on) in z))
lies_at s i (fails b k) h = tt

-- it ends at a place of the text
pub lies : (s : List ℕ) (g : Parser) → T (quiet g) → (l i : ℕ) → Lies s (scan (full s) g l (here s i))
unfolding full
lies s g u l i = lies_at s i (scan (full s) g l (here s i)) (scan_on (length s) g u l (here s i)).holds

-- where it has a row, the last one ends where it ends
pub rooted_at : (s : List ℕ) (g : Parser) → T (rooted g) → (l i : ℕ) {v : Rows} {q : Input} {b : Bool} {k : ℕ}
    → scan (full s) g l (here s i) ≡ fits v q b k → Rooted v q
unfolding full
rooted_at s g u l i e = (subst (Yields Rooted) e (scan_rooted (length s) g u l (here s i))).holds

-- it goes on, and its bytes pay for its rows
pub record Moved (c : Cost) (s : List ℕ) (i n : ℕ) (d : Cursor) : Type 0 where
  pub on : i ≤ d.at.0
  pub within : d.at.0 ≤ length s
  pub grown : n ≤ d.count.0
  pub rows : d.count.0 + c.gain + 4 * i ≤ 4 * d.at.0 + c.debt + n

pub moved : (g : Parser) → T (quiet g) → T (slim g) → {s : List ℕ} {l i lim : ℕ} {met : Bool} {n : ℕ} {t t' : List ℕ} {r : Read} (d : Cursor)
    → i ≤ length s → Reading g s l lim i met n t t' r → r ≡ Ok d → Moved (cost g) s i n d
unfolding full
moved g u w {s} {l} {i} {lim} {met} {n} d h a e = go (found lim met n (scan (full s) g l (here s i)) d (sym e ∙ a.agrees.answer))
  where
    go : Found (scan (full s) g l (here s i)) lim met n d → Moved (cost g) s i n d
    go x =
        let y = (subst (Yields λ v q. Ahead (here s i) q) x.is (scan_on (length s) g u l (here s i))).holds in
        let z = (subst (Yields λ v q. Fit (length v) (cost g) (here s i) q) x.is (scan_slim (length s) g u w l (here s i))).holds in
        record {
          on = omega (arith, x.at, y.on);
          within = omega (arith, x.at, y.sum, length-drop i s);
          grown = omega (arith, x.count);
          rows = omega (arith, x.at, x.count, z.rows);
        }

-- a parser that pays for its rows, and whose last row ends where it ends
pub record Solid (g : Parser) : Type 0 where
  pub quieted : T (quiet g)
  pub slimmed : T (slim g)
  pub rooting : T (rooted g)
  pub paying : T (paid (cost g))

-- what pays for itself and has a row has read a byte
pub record Stepped (s : List ℕ) (i n : ℕ) (d : Cursor) : Type 0 where
  pub on : i < d.at.0
  pub within : d.at.0 ≤ length s
  pub grown : n < d.count.0
  pub rows : d.count.0 + 4 * i ≤ 4 * d.at.0 + n

pub stepped : {g : Parser} → Solid g → {s : List ℕ} {l i lim : ℕ} {met : Bool} {n : ℕ} {t t' : List ℕ} {r : Read} (d : Cursor)
    → i ≤ length s → Reading g s l lim i met n t t' r → r ≡ Ok d → Stepped s i n d
stepped {g} c {s} {l} {i} {lim} {met} {n} d h a e =
    let m = moved g c.quieted c.slimmed d h a e in
    let f = found lim met n (scan (full s) g l (here s i)) d (sym e ∙ a.agrees.answer) in
    let z = rooted_at s g c.rooting l i f.is in
    let p = leb→le (cost g).debt (cost g).gain c.paying in
    let q : n < d.count.0 = omega (arith, z.some, f.count) in
    record { on = omega (arith, m.rows, q, p); within = m.within; grown = q; rows = omega (arith, m.rows, p) }

-- so the next reader may be called where this one ended
pub ready_on : {g : Parser} → Solid g → {s : List ℕ} {c : Cursor} {left : ℕ} {t t' : List ℕ} {r : Read} (d : Cursor) {k : ℕ}
    → Ready k s c → Reads g s c left t t' r → r ≡ Ok d → Ready k s d
ready_on ok d h a e =
    let x = stepped ok d h.within (a.reading 0) e in
    record { small = h.small; within = x.within; few = omega (arith, x.rows, h.few) }

-- a rule that is called behind a byte is its parser
pub rule_is : (x : Rule) → T (quiet_rule x) → (s : List ℕ) (l i : ℕ) → 1 ≤ i → i ≤ length s
    → scan (full s) (rule x) l (here s i) ≡ scan (full s) (rule_of x) l (here s i)
unfolding full
rule_is x u s l i h k = scan_solves (length s) x u l (here s i) (omega (arith, length-drop i s))

-- a table or a parser that is equal to another
pub reading_to : {g : Parser} {s : List ℕ} {l lim i : ℕ} {met : Bool} {base : ℕ} {t t₁ t' : List ℕ} {r : Read}
    → t₁ ≡ t' → Reading g s l lim i met base t t' r → Reading g s l lim i met base t t₁ r
reading_to {g} {s} {l} {lim} {i} {met} {base} {t} {t₁} {t'} {r} e a = subst (λ (x : List ℕ). Reading g s l lim i met base t x r) (sym e) a

pub reading_is : {g m : Parser} {s : List ℕ} {l lim i : ℕ} {met : Bool} {base : ℕ} {t t' : List ℕ} {r : Read}
    → scan (full s) g l (here s i) ≡ scan (full s) m l (here s i) → Reading m s l lim i met base t t' r → Reading g s l lim i met base t t' r
reading_is e a = record { agrees = agrees_is e a.agrees }

-- Leaves ---------------------------------------------------------------------

-- a leaf is read at any level, and is never too deep
pub reads_leaf : {g : Parser} {s : List ℕ} {c : Cursor} {t t' : List ℕ} {r : Read} (left : ℕ) → Leafs g s c t t' r → Reads g s c left t t' r
reads_leaf left a = record { reading = λ l. a.reading l (l + left) }

pub leaf_deep : {g : Parser} {s : List ℕ} {c : Cursor} {t t' : List ℕ} {r : Read} → Leafs g s c t t' r → r ≡ Err Deep → ⊥
leaf_deep {g} {s} {c} a e =
    let o = scan (full s) g 0 (here s c.at.0) in
    let z = deep (peak_of o) c.met c.count.0 o (sym e ∙ (a.reading 0 (peak_of o)).agrees.answer) in
    let y : ⊥ = omega (arith, z) in
    y

-- what has no rows, from its summary
module _ (g : Parser) (s : List ℕ) (l lim i : ℕ) (met : Bool) (base : ℕ) (t : List ℕ) (b : Bool) (m : Bool) (h : m ≡ met || b) where
  pub bare_got : (e : ℕ) → scan (full s) g l (here s i) ≡ fits [] (here s e) b 0 → Reading g s l lim i met base t t (Ok (cursor e base m))
  bare_got e p = record { agrees = agrees_is p (agrees_ok [] (here s e) lim met base t b 0 base m (omega arith) (omega arith) h) }

  pub bare_no : scan (full s) g l (here s i) ≡ fails b 0 → Reading g s l lim i met base t t (Err (Miss m))
  bare_no p = record { agrees = agrees_is p (agrees_err lim met base [] t b 0 m (omega arith) h) }

pub empty_is : (s : List ℕ) (l lim i : ℕ) (met : Bool) (base : ℕ) (t : List ℕ) → Reading empty s l lim i met base t t (Ok (cursor i base met))
empty_is s l lim i met base t = bare_got empty s l lim i met base t false met (sym (or-false met)) i refl

-- Sequence and alternatives --------------------------------------------------

module _ {m : Parser} {s : List ℕ} {l lim i : ℕ} {met : Bool} {base : ℕ} {t t₁ : List ℕ} {r₁ : Read}
    (a : Reading m s l lim i met base t t₁ r₁) (n : Parser) where
  pub seq_out : IsErr r₁ → Reading (m ▸ n) s l lim i met base t t₁ r₁
  seq_out h = record { agrees = agrees_out [] (λ v q. withˢ (v ++◌) (scan (full s) n l q)) (omega arith) a.agrees h }

  pub seq_got : T (quiet m) → (d : Cursor) → r₁ ≡ Ok d → {t' : List ℕ} {r : Read}
      → Reading n s l lim d.at.0 d.met d.count.0 t₁ t' r → Reading (m ▸ n) s l lim i met base t t' r
  seq_got u d e b =
      record {
        agrees = agrees_got s [] d (λ v q. withˢ (v ++◌) (scan (full s) n l q)) (omega arith) (lies s m u l i) a.agrees e
            λ v x k p c. agrees_with (scan (full s) n l (here s d.at.0)) v c b.agrees;
      }

  pub or_miss : (x : Bool) → r₁ ≡ Err (Miss x) → {t' : List ℕ} {r : Read}
      → Reading n s l lim i x base t₁ t' r → Reading (m or n) s l lim i met base t t' r
  or_miss x e b = record { agrees = agrees_or (λ u. scan (full s) n l (here s i)) [] x (omega arith) a.agrees e b.agrees }

  pub or_first : ((x : Bool) → r₁ ≡ Err (Miss x) → ⊥) → Reading (m or n) s l lim i met base t t₁ r₁
  or_first h = record { agrees = agrees_first (λ u. scan (full s) n l (here s i)) a.agrees h }

-- one or none
module _ {m : Parser} {s : List ℕ} {l lim i : ℕ} {met : Bool} {base : ℕ} {t t₁ : List ℕ} {r₁ : Read} (a : Reading m s l lim i met base t t₁ r₁) where
  pub opt_miss : (x : Bool) → r₁ ≡ Err (Miss x) → Reading (opt m) s l lim i met base t t₁ (Ok (cursor i base x))
  opt_miss x e = or_miss a empty x e (empty_is s l lim i x base t₁)

  pub opt_first : ((x : Bool) → r₁ ≡ Err (Miss x) → ⊥) → Reading (opt m) s l lim i met base t t₁ r₁
  opt_first h = or_first a empty h

-- not
turned_peak : (p : Input) (o : Summary Rows) → peak_of (turnedˢ p o) ≡ peak_of o
unfolding peak_of
turned_peak p (fits v q b k) = refl
turned_peak p (fails b k) = refl

module _ {m : Parser} {s : List ℕ} {l lim i : ℕ} {met : Bool} {base : ℕ} {t t₁ : List ℕ} {r₁ : Read} (a : Reading m s l lim i met base t t₁ r₁) where
  pub never_got : T (quiet m) → (d : Cursor) → r₁ ≡ Ok d → Reading (never m) s l lim i met base t t₁ (Err (Miss d.met))
  never_got u d e =
      let x = found lim met base (scan (full s) m l (here s i)) d (sym e ∙ a.agrees.answer) in
      let same : ◌≡◌ {A = Summary Rows} (fails x.b x.k) (fails (x.b || false) (max x.k 0)) =
      ap₂ fails (sym (or-false x.b)) (let z : x.k ≡ max x.k 0 = omega arith in z) in
      record {
        agrees = agrees_is (ap (turnedˢ (here s i)) x.is ∙ same ∙ sym (ap (λ o. thenˢ o λ _ _. fails false 0) x.is))
            (agrees_got s [] d (λ _ _. fails false 0) (omega arith) (lies s m u l i) a.agrees e
            λ v b k p c. agrees_err lim d.met base v t₁ false 0 d.met (omega arith) (sym (or-false d.met)));
      }

  pub never_miss : (x : Bool) → r₁ ≡ Err (Miss x) → Reading (never m) s l lim i met base t t₁ (Ok (cursor i base x))
  never_miss x e =
      let y = lost lim met base (scan (full s) m l (here s i)) x (sym e ∙ a.agrees.answer) in
      let same : fits [] (here s i) y.b y.k ≡ fits [] (here s i) (y.b || false) (max y.k 0) =
      ap₂ (fits [] (here s i)) (sym (or-false y.b)) (let z : y.k ≡ max y.k 0 = omega arith in z) in
      record {
        agrees = agrees_is (ap (turnedˢ (here s i)) y.is ∙ same ∙ sym (ap (λ o. elseˢ o λ _. fits [] (here s i) false 0) y.is))
            (opt_miss a x e).agrees;
      }

  pub never_deep : r₁ ≡ Err Deep → Reading (never m) s l lim i met base t t₁ (Err Deep)
  never_deep e =
      let o = scan (full s) m l (here s i) in
      let h = deep lim met base o (sym e ∙ a.agrees.answer) in
      record { agrees = agrees_deep lim met base (turnedˢ (here s i) o) (omega (arith, h, turned_peak (here s i) o)) }

-- Behind trivia --------------------------------------------------------------

pub skips_empty : (s : List ℕ) (i : ℕ) (met : Bool) → i ≤ length s → Skips empty s i met (skip i met)
skips_empty s i met h = record { open? = false; is = λ τ l. refl; noted = sym (or-false met); on = omega arith; within = h }

-- what was skipped is read, and the rest goes on behind it
agrees_skip : {w : Parser} {s : List ℕ} {i : ℕ} {met : Bool} {x : Skip} → Skips w s i met x → (l : ℕ) (f : Rows → Input → Summary Rows)
    {lim base : ℕ} {t t' : List ℕ} {r : Read}
    → Agrees (f [] (here s x.at.0)) lim x.met base [] t t' r → Agrees (thenˢ (scan (full s) w l (here s i)) f) lim met base [] t t' r
agrees_skip {s = s} {x = x} k l f {lim} {base} {t} {t'} {r} a =
    let o = f [] (here s x.at.0) in
    agrees_is (ap (λ o. thenˢ o f) (k.is (full s) l))
    (agrees_more o k.open? 0 (omega arith) (subst (λ (y : Bool). Agrees o lim y base [] t t' r) k.noted a))

pub seq_skip : {w : Parser} {s : List ℕ} {i : ℕ} {met : Bool} {x : Skip} → Skips w s i met x → {n : Parser} {l lim base : ℕ} {t t' : List ℕ} {r : Read}
    → Reading n s l lim x.at.0 x.met base t t' r → Reading (w ▸ n) s l lim i met base t t' r
seq_skip {s = s} {x = x} k {n} {l} a =
    record {
      agrees = agrees_skip k l (λ v q. withˢ (v ++◌) (scan (full s) n l q)) (agrees_with (scan (full s) n l (here s x.at.0)) [] (omega arith) a.agrees);
    }

-- Nodes ----------------------------------------------------------------------

-- the row around the rows v is pushed, and ends the reading; y rows in all
row_pushed : (k i j e : ℕ) (v : Rows) (s : List ℕ) (d : Cursor) (lim base : ℕ) (t : List ℕ) (y : ℕ)
    → d.count.0 ≡ base + length v → y + base ≡ d.count.0 + 1
    → Agrees (fits (under k e i j d.at.0 v) (here s d.at.0) false 0) lim d.met base v t
    (pushed row_width t d.count.0 (row_record k y i j d.at.0 e)) (Ok (cursor d.at.0 (d.count.0 + 1) d.met))
row_pushed k i j e v s d lim base t y c z =
    let n = d.count.0 in
    let x : Row = record { kind = k; size = suc (length v); tlow = i; low = j; high = d.at.0; detail = e } in
    let table = pushed row_width t n (row_record k (suc (length v)) i j d.at.0 e) in
    let same : suc (length v) ≡ y = omega arith in
    agrees_push v t n x c
    (subst (λ (m : ℕ). Agrees (fits (v ++ (x ∷ [])) (here s d.at.0) false 0) lim d.met base (v ++ (x ∷ [])) table
    (pushed row_width t n (row_record k m i j d.at.0 e)) (Ok (cursor d.at.0 (n + 1) d.met))) same
    (agrees_ok (v ++ (x ∷ [])) (here s d.at.0) lim d.met base table false 0 (n + 1) d.met
    (omega arith) (omega (arith, length-append v (x ∷ []))) (sym (or-false d.met))))

abbrev row_around : ℕ → (Rows → ℕ) → ℕ → ℕ → Rows → Input → Summary Rows
row_around k f i j v r = fits (under k (f v) i j r.at v) r false 0

-- what was skipped, and what is in the node
module _ (k : ℕ) (f : Rows → ℕ) {w : Parser} {s : List ℕ} {i : ℕ} {met : Bool} {x : Skip} (skip : Skips w s i met x) where
  node_in : {m : Parser} {l lim base : ℕ} {t t' : List ℕ} {r : Read}
      → Agrees (thenˢ (scan (full s) m l (here s x.at.0)) (row_around k f i x.at.0)) lim x.met base [] t t' r
      → Reading (node k f w m) s l lim i met base t t' r
  node_in {m} {l} a = record { agrees = agrees_skip skip l (λ _ q. thenˢ (scan (full s) m l q) (row_around k f i q.at)) a }

  module _ {m : Parser} {l lim base : ℕ} {t t₁ : List ℕ} {r₁ : Read} (a : Reading m s l lim x.at.0 x.met base t t₁ r₁) where
    pub node_out : IsErr r₁ → Reading (node k f w m) s l lim i met base t t₁ r₁
    node_out h = node_in (agrees_out [] (row_around k f i x.at.0) (omega arith) a.agrees h)

    -- y rows in all; the detail e is what f says of the rows
    pub node_got : T (quiet m) → (d : Cursor) → r₁ ≡ Ok d → (y e : ℕ) → y + base ≡ d.count.0 + 1
        → ((v : Rows) (b : Bool) (j : ℕ) → scan (full s) m l (here s x.at.0) ≡ fits v (here s d.at.0) b j → e ≡ f v)
        → Reading (node k f w m) s l lim i met base t (pushed row_width t₁ d.count.0 (row_record k y i x.at.0 d.at.0 e))
        (Ok (cursor d.at.0 (d.count.0 + 1) d.met))
    node_got u d q y e z detail =
        let t' = pushed row_width t₁ d.count.0 (row_record k y i x.at.0 d.at.0 e) in
        let r = Ok (cursor d.at.0 (d.count.0 + 1) d.met) in
        node_in (agrees_got s [] d (row_around k f i x.at.0) (omega arith) (lies s m u l x.at.0) a.agrees q
        λ v b j p c.
        subst (λ (n : ℕ). Agrees (fits (under k n i x.at.0 d.at.0 v) (here s d.at.0) false 0) lim d.met base v t₁ t' r) (detail v b j p)
        (row_pushed k i x.at.0 e v s d lim base t₁ y c z))

  -- what is in it has no rows
  module _ {m : Parser} {l : ℕ} (lim base : ℕ) (t : List ℕ) where
    pub flat_got : (e : ℕ) → scan (full s) m l (here s x.at.0) ≡ fits [] (here s e) false 0
        → Reading (node k f w m) s l lim i met base t (pushed row_width t base (row_record k 1 i x.at.0 e (f []))) (Ok (cursor e (base + 1) x.met))
    flat_got e p =
        node_in (agrees_is (ap (λ o. thenˢ o (row_around k f i x.at.0)) p)
        (row_pushed k i x.at.0 (f []) [] s (cursor e base x.met) lim base t 1 (omega arith) (omega arith)))

    pub flat_no : scan (full s) m l (here s x.at.0) ≡ fails false 0 → Reading (node k f w m) s l lim i met base t t (Err (Miss x.met))
    flat_no p =
        node_in (agrees_is (ap (λ o. thenˢ o (row_around k f i x.at.0)) p)
        (agrees_err lim x.met base [] t false 0 x.met (omega arith) (sym (or-false x.met))))

-- Words ----------------------------------------------------------------------

abbrev word_row : ℕ → ℕ → Input → Option (ℕ × ℕ) → Summary Rows
word_row k i p none = fails false 0
word_row k i p (some w) = fits (under k w.1 i p.at (p.at + w.0) []) (behind w.0 p) false 0

pick_is : (k i : ℕ) (xs : List (Leaf × ℕ)) (p : Input) → pick_wordˢ k i xs p ≡ word_row k i p (first_word xs p.left)
unfolding first_word
pick_is k i [] p = refl
pick_is k i (x ∷ xs) p = go (taken x.0 p.left) (first_word xs p.left) (pick_is k i xs p)
  where
    go : (o : Option ℕ) (later : Option (ℕ × ℕ)) {a : Summary Rows}
        → a ≡ word_row k i p later → pickedˢ k i x.1 o p a ≡ word_row k i p (word_or x.1 o later)
    go none later h = h
    go (some n) later h = refl

-- what was skipped, and the first word that fits
module _ (k : ℕ) {w : Parser} {s : List ℕ} {i : ℕ} {met : Bool} {x : Skip} (skip : Skips w s i met x) (xs : List (Leaf × ℕ)) (l lim base : ℕ) (t : List ℕ) where
  pick_in : {o : Option (ℕ × ℕ)} {t' : List ℕ} {r : Read} → first_word xs (drop x.at.0 s) ≡ o
      → Agrees (word_row k i (here s x.at.0) o) lim x.met base [] t t' r → Reading (pick k w xs) s l lim i met base t t' r
  pick_in e a =
      record {
        agrees = agrees_skip skip l (λ _ q. pick_wordˢ k i xs q)
            (agrees_is (pick_is k i xs (here s x.at.0) ∙ ap (word_row k i (here s x.at.0)) e) a);
      }

  pub pick_got : (n d : ℕ) → first_word xs (drop x.at.0 s) ≡ some (n, d)
      → Reading (pick k w xs) s l lim i met base t (pushed row_width t base (row_record k 1 i x.at.0 (x.at.0 + n) d))
      (Ok (cursor (x.at.0 + n) (base + 1) x.met))
  pick_got n d e =
      pick_in e (agrees_is (ap (λ q. fits (under k d i x.at.0 (x.at.0 + n) []) q false 0) (behind_here s x.at.0 n))
      (row_pushed k i x.at.0 d [] s (cursor (x.at.0 + n) base x.met) lim base t 1 (omega arith) (omega arith)))

  pub pick_no : first_word xs (drop x.at.0 s) ≡ none → Reading (pick k w xs) s l lim i met base t t (Err (Miss x.met))
  pick_no e = pick_in e (agrees_err lim x.met base [] t false 0 x.met (omega arith) (sym (or-false x.met)))

-- Rows with no span of their own ---------------------------------------------

module _ (k dt : ℕ) {m : Parser} (n : Parser) {s : List ℕ} {l lim i : ℕ} {met : Bool} {base : ℕ} {t t₁ : List ℕ} {r₁ : Read}
    (a : Reading m s l lim i met base t t₁ r₁) where
  abbrev over_rows : Rows → Rows → Input → Summary Rows
  over_rows v u r = fits (under k dt i (first_low v) r.at (v ++ u)) r false 0

  abbrev over_rest : Rows → Input → Summary Rows
  over_rest v q = thenˢ (scan (full s) n l q) (over_rows v)

  -- the first child does not fit, or is too deep
  pub over_out : IsErr r₁ → Reading (over k dt m n) s l lim i met base t t₁ r₁
  over_out h = record { agrees = agrees_out [] over_rest (omega arith) a.agrees h }

  module _ (q₁ : T (quiet m)) (d : Cursor) (e : r₁ ≡ Ok d) {t₂ : List ℕ} {r₂ : Read} (b : Reading n s l lim d.at.0 d.met d.count.0 t₁ t₂ r₂) where
    -- the others do not fit, or are too deep
    pub over_no : IsErr r₂ → Reading (over k dt m n) s l lim i met base t t₂ r₂
    over_no h =
        record {
          agrees = agrees_got s [] d over_rest (omega arith) (lies s m q₁ l i) a.agrees e
              λ v x j p c. agrees_out v (over_rows v) c b.agrees h;
        }

    -- y rows in all, from the low of the first child
    pub over_got : T (quiet n) → (c : Cursor) → r₂ ≡ Ok c → (y low : ℕ) → y + base ≡ c.count.0 + 1
        → Yields (First low) (scan (full s) m l (here s i))
        → Reading (over k dt m n) s l lim i met base t (pushed row_width t₂ c.count.0 (row_record k y i low c.at.0 dt))
        (Ok (cursor c.at.0 (c.count.0 + 1) c.met))
    over_got q₂ c e₂ y low z lows =
        let t' = pushed row_width t₂ c.count.0 (row_record k y i low c.at.0 dt) in
        let r = Ok (cursor c.at.0 (c.count.0 + 1) c.met) in
        record {
          agrees = agrees_got s [] d over_rest (omega arith) (lies s m q₁ l i) a.agrees e
              λ v x j p o.
              agrees_got s v c (over_rows v) o (lies s n q₂ l d.at.0) b.agrees e₂
              λ u x' j' p' o'.
              subst (λ (n : ℕ). Agrees (fits (under k dt i n c.at.0 (v ++ u)) (here s c.at.0) false 0) lim c.met base (v ++ u) t₂ t' r)
              (sym (subst (Yields (First low)) p lows).holds)
              (row_pushed k i low dt (v ++ u) s c lim base t₂ y o' z);
        }

-- Arguments ------------------------------------------------------------------

abbrev placed_at : ℕ → ℕ → Rows → Input → Summary Rows
placed_at i j v r = fits (placed i j r.at v) r false 0

-- what was skipped, and the expression, whose root takes the argument's places
module _ {w : Parser} {s : List ℕ} {i : ℕ} {met : Bool} {x : Skip} (skip : Skips w s i met x) where
  argument_in : {m : Parser} {l lim base : ℕ} {t t' : List ℕ} {r : Read}
      → Agrees (thenˢ (scan (full s) m l (here s x.at.0)) (placed_at i x.at.0)) lim x.met base [] t t' r
      → Reading (argument w m) s l lim i met base t t' r
  argument_in {m} {l} a = record { agrees = agrees_skip skip l (λ _ q. thenˢ (scan (full s) m l q) (placed_at i q.at)) a }

  module _ {m : Parser} {l lim base : ℕ} {t t₁ : List ℕ} {r₁ : Read} (a : Reading m s l lim x.at.0 x.met base t t₁ r₁) where
    pub argument_out : IsErr r₁ → Reading (argument w m) s l lim i met base t t₁ r₁
    argument_out h = argument_in (agrees_out [] (placed_at i x.at.0) (omega arith) a.agrees h)

    pub argument_got : T (quiet m) → T (rooted m) → (d : Cursor) → r₁ ≡ Ok d → (n : ℕ) → n + 1 ≡ d.count.0
        → Reading (argument w m) s l lim i met base t (replaced t₁ n i x.at.0 d.at.0) (Ok d)
    argument_got u y d q n z =
        argument_in (agrees_got s [] d (placed_at i x.at.0) (omega arith) (lies s m u l x.at.0) a.agrees q
        λ v b j p c.
        let h = rooted_at s m y l x.at.0 p in
        agrees_place v t₁ n i x.at.0 d.at.0 h.some (omega arith)
        (agrees_ok (placed i x.at.0 d.at.0 v) (here s d.at.0) lim d.met base (replaced t₁ n i x.at.0 d.at.0) false 0 d.count.0 d.met
        (omega arith) (omega (arith, placed_length i x.at.0 d.at.0 v)) (sym (or-false d.met))))

-- Brackets -------------------------------------------------------------------

-- the opening character, and what is inside, one level deeper
module _ (m : Parser) (left : ℕ) {w : Parser} {b : ℕ} {s : List ℕ} {l i : ℕ} {met : Bool} {base : ℕ} {t t₁ : List ℕ} {r₁ : Read}
    (a : Reading (node charᵏ (always b) w (leaf (one (is b)))) s l (l + left) i met base t t₁ r₁) where
  abbrev inside : Rows → Input → Summary Rows
  inside v q = more false (suc l) (withˢ (v ++◌) (scan (full s) m (suc l) q))

  pub bracket_out : IsErr r₁ → Reading (bracket w b m) s l (l + left) i met base t t₁ r₁
  bracket_out h = record { agrees = agrees_out [] inside (omega arith) a.agrees h }

  module _ (u : T (quiet w)) (d : Cursor) (e : r₁ ≡ Ok d) where
    open_lies : Lies s (scan (full s) (node charᵏ (always b) w (leaf (one (is b)))) l (here s i))
    open_lies = lies s (node charᵏ (always b) w (leaf (one (is b)))) (subst T (sym (and-true (quiet w))) u) l i

    -- no level is left
    pub bracket_none : left ≡ 0 → Reading (bracket w b m) s l (l + left) i met base t t₁ (Err Deep)
    bracket_none z =
        record {
          agrees = agrees_got s [] d inside (omega arith) open_lies a.agrees e
              λ v x k p c. agrees_deep (l + left) d.met base (inside v (here s d.at.0))
              (omega (arith, peak_more false (suc l) (withˢ (v ++◌) (scan (full s) m (suc l) (here s d.at.0)))));
        }

    pub bracket_in : (left ≡ 0 → ⊥) → {t' : List ℕ} {r : Read}
        → Reading m s (suc l) (suc l + (left - 1)) d.at.0 d.met d.count.0 t₁ t' r → Reading (bracket w b m) s l (l + left) i met base t t' r
    bracket_in z {t'} {r} c =
        let h : suc l + (left - 1) ≡ l + left = omega arith in
        let o = scan (full s) m (suc l) (here s d.at.0) in
        record {
          agrees = agrees_got s [] d inside (omega arith) open_lies a.agrees e
              λ v x k p y. agrees_more (withˢ (v ++◌) o) false (suc l) (omega arith)
              (subst (λ (m : Bool). Agrees (withˢ (v ++◌) o) (l + left) m base v t₁ t' r) (sym (or-false d.met))
              (agrees_with o v y (subst (λ (n : ℕ). Agrees o n d.met d.count.0 [] t₁ t' r) h c.agrees)));
        }

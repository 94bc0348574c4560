-- Numbers. The byte behind the trivia decides between the alternatives: each other one misses there, after its own look at the same trivia.
use mathlib.Core.Bool.{Bool, true, false, ◌||◌, or-false, or_assoc, or_self, true≢false}
use mathlib.Core.List.{List, [], ◌∷◌, ◌++◌}
use mathlib.Core.Option.{none}
use mathlib.Core.Path.{◌≡◌, refl, ap, ap₂, sym, subst, ◌∙◌}
use Prim.Native.Nat.{ℕ, ◌+◌, ◌≤◌, max}
use native.Mathlib.Omega.{arith}
use borrow.Author.Tests.{eqb-true}
use lib.Dec.{eqb}
use lib.ListN.{length, drop}
use Rattle.reading.specs.Byte.{bytes, is, begins, digit, given}
use Rattle.reading.specs.Grammar.{Rows, Input, Leaf, one, run1, tag_no_case, Parser, ◌▸◌, ◌or◌, leaf, under, taken, always}
use Rattle.reading.specs.Kind.{numberᵏ, number_typeᵏ, number_textᵏ}
use Rattle.reading.specs.Rules.{ws, word, trivia, decimal, number, all_rules}
use Rattle.reading.specs.Summary.{Summary, fits, fails, more, thenˢ, elseˢ, withˢ, takeˢ, scan}
use Rattle.trivia.specs.Class.{member}
use Rattle.trivia.proofs.Pieces.{one_begins}
use Rattle.table.specs.declared.Pos.{Pos}
use Rattle.cursor.proofs.Agree.{lost, got_miss, miss_deep}
use Rattle.cursor.proofs.Laws.{Stepped, stepped, bare_no, empty_is, seq_got, or_miss, or_first, skips_empty, reading_is, reading_to, node_out, node_got}
use Rattle.cursor.proofs.Places.{leaf_no}
use Rattle.cursor.specs.Agree.{full, Reading, Leafs, Ready}
use Rattle.cursor.specs.Text.{here, cursor, skip, Skips}
use Rattle.cursor.specs.declared.Cursor.{Cursor}
use Rattle.cursor.specs.Read.{Read}
use Rattle.cursor.specs.declared.Skip.{Skip}
use Rattle.lexis.specs.Behind.{Rowed}
use Rattle.lexis.specs.Around.{Spans, Finished}
use Rattle.lexis.specs.Finds.{read_of, Finds}
use Rattle.lexis.proofs.Ends.{byte_at, end_in}
use Rattle.lexis.proofs.Marks.{Placed, skips_again, behind_got, behind_found}
use Rattle.literal.specs.Parts.{radix, numeral, decimals, value}
use Rattle.literal.proofs.Solids.{value_solid}
use Rattle.std.specs.Prelude.{Some, None, Ok, Err, IsErr}
use Rattle.cursor.specs.declared.Stop.TheVariants.{Miss, Deep}

-- Leaves ---------------------------------------------------------------------

-- what is not found fails, and notes nothing
finds_fails : {g : Parser} {s : List ℕ} {i : ℕ} → Finds g s i None → (l : ℕ) → scan (full s) g l (here s i) ≡ fails false 0
unfolding read_of
finds_fails {g} {s} {i} a l =
    let x = lost 0 false 0 (scan (full s) g l (here s i)) false (a.reading l 0 false 0 []).agrees.answer in
    x.is ∙ ap₂ fails (sym x.noted) (let z : x.k ≡ 0 = omega (arith, x.low) in z)

-- a leaf that never begins with the byte b
abbrev Apart : ℕ → Leaf → Type 0
Apart b f = (u : List ℕ) → taken f (b ∷ u) ≡ none

apart : (b : ℕ) (f : Leaf) (t : List ℕ) → Apart b f → begins (b ∷ []) t ≡ true → taken f t ≡ none
apart b f [] h e = absurd (true≢false (sym e))
apart b f (a ∷ u) h e = go (eqb b a) refl e
  where
    go : (x : Bool) → eqb b a ≡ x → elim x [ true ↦ true | false ↦ false ] ≡ true → taken f (a ∷ u) ≡ none
    go true p q = subst (λ (a : ℕ). taken f (a ∷ u) ≡ none) (eqb-true b a p) (h u)
    go false p q = absurd (true≢false (sym q))

-- no numeral begins with the byte b
numeral_fails : (s : List ℕ) (i b : ℕ) → Apart b (run1 digit) → Apart b (tag_no_case (bytes "true")) → Apart b (tag_no_case (bytes "false"))
    → begins (b ∷ []) (drop i s) ≡ true → (l : ℕ) → scan (full s) numeral l (here s i) ≡ fails false 0
numeral_fails s i b h j k e l =
    ap₂ (λ a b. elseˢ a λ _. b) (leaf_no (full s) l (run1 digit) s i (apart b (run1 digit) (drop i s) h e))
    (ap₂ (λ a b. elseˢ a λ _. b) (leaf_no (full s) l (tag_no_case (bytes "true")) s i (apart b (tag_no_case (bytes "true")) (drop i s) j e))
    (leaf_no (full s) l (tag_no_case (bytes "false")) s i (apart b (tag_no_case (bytes "false")) (drop i s) k e)))

-- Alternatives that miss -----------------------------------------------------

or_twice : (a b c : Bool) → (a || b) || (a || (c || false)) ≡ a || ((b || c) || false)
or_twice true b c = refl
or_twice false true c = refl
or_twice false false c = refl

or_once : (a b c : Bool) → (a || b) || (a || c) ≡ a || (b || c)
or_once true b c = refl
or_once false b c = refl

low : (n : ℕ) → max 0 (max 0 n) ≡ n
low n = omega arith

high : (n : ℕ) → max 0 (max 0 (max n 0)) ≡ n
high n = omega arith

-- behind trivia
module _ {s : List ℕ} {i : ℕ} {met : Bool} {k : Skip} (x : Skips trivia s i met k) (l : ℕ) where
  node_fails : (kind d : ℕ) (m : Parser) → scan (full s) m l (here s k.at.0) ≡ fails false 0 → scan (full s) (ws kind d m) l (here s i) ≡ fails x.open? 0
  node_fails kind d m e =
      let row : ℕ → Rows → Input → Summary Rows = λ a v r. fits (under kind d i a r.at v) r false 0 in
      ap (λ o. thenˢ o λ _ q. thenˢ (scan (full s) m l q) (row q.at)) (x.is (full s) l)
      ∙ ap (λ o. more x.open? 0 (thenˢ o (row k.at.0))) e
      ∙ ap (λ (b : Bool). fails b 0) (or-false x.open?)

  -- no mark
  radix_fails : (mark ty class : ℕ) → taken (one (is mark)) (drop k.at.0 s) ≡ none → scan (full s) (radix mark ty class) l (here s i) ≡ fails x.open? 0
  radix_fails mark ty class e =
      ap (λ o. thenˢ o λ v q. withˢ (v ++◌) (scan (full s) (ws number_textᵏ 0 (leaf (run1 (member class)))) l q))
      (node_fails number_typeᵏ ty (leaf (one (is mark))) (leaf_no (full s) l (one (is mark)) s k.at.0 e))

  -- the type, and what is read behind the trivia
  abbrev framed : Summary Rows → Summary Rows
  framed o =
      more false 0 (withˢ (under number_typeᵏ 2 i i i [] ++◌) (more x.open? 0 (thenˢ o λ v r. fits (under number_textᵏ 0 i k.at.0 r.at v) r false 0)))

  text_is : (m : Parser) → scan (full s) (decimal ▸ ws number_textᵏ 0 m) l (here s i) ≡ framed (scan (full s) m l (here s k.at.0))
  unfolding decimal
  text_is m =
      ap (λ o. more false 0 (withˢ (under number_typeᵏ 2 i i i [] ++◌) (thenˢ o λ _ q. thenˢ (scan (full s) m l q)
      λ v r. fits (under number_textᵏ 0 i q.at r.at v) r false 0))) (x.is (full s) l)

  framed_or : (a b : Summary Rows) → elseˢ (framed a) (λ _. framed b) ≡ framed (elseˢ a λ _. b)
  framed_or (fits v q c j) b = refl
  framed_or (fails c j) (fits v q d n) =
      ap₂ (fits (under number_typeᵏ 2 i i i [] ++ under number_textᵏ 0 i k.at.0 q.at v) q) (or_twice x.open? c d)
      (ap₂ max (low j) (high n) ∙ sym (high (max j n)))
  framed_or (fails c j) (fails d n) = ap₂ fails (or_once x.open? c d) (ap₂ max (low j) (low n) ∙ sym (low (max j n)))

  -- two attempts behind the same trivia are one
  text_or : (m n : Parser) → scan (full s) ((decimal ▸ ws number_textᵏ 0 m) or (decimal ▸ ws number_textᵏ 0 n)) l (here s i)
      ≡ scan (full s) (decimal ▸ ws number_textᵏ 0 (m or n)) l (here s i)
  text_or m n =
      ap₂ (λ a b. elseˢ a λ _. b) (text_is m) (text_is n)
      ∙ framed_or (scan (full s) m l (here s k.at.0)) (scan (full s) n l (here s k.at.0))
      ∙ sym (text_is (m or n))

  decimals_is : scan (full s) decimals l (here s i) ≡ scan (full s) (decimal ▸ ws number_textᵏ 0 numeral) l (here s i)
  decimals_is =
      ap (λ o. elseˢ (scan (full s) (decimal ▸ ws number_textᵏ 0 (leaf (run1 digit))) l (here s i)) λ _. o) (text_or (word "true") (word "false"))
      ∙ text_or (leaf (run1 digit)) (word "true" or word "false")

  -- no numeral
  decimals_fails : scan (full s) numeral l (here s k.at.0) ≡ fails false 0 → scan (full s) decimals l (here s i) ≡ fails x.open? 0
  decimals_fails e = decimals_is ∙ text_is numeral ∙ ap framed e ∙ ap (λ (b : Bool). fails b 0) (or-false x.open?)

-- Alternatives that are read -------------------------------------------------

-- the cursor behind a row
behind_row : {kind d : ℕ} {c : Cursor} {k : Skip} {high : ℕ} {t t' : List ℕ} {r : Read} (e : Cursor) → Rowed kind d c k high t t' r → r ≡ Ok e
    → e ≡ cursor high (c.count.0 + 1) k.met
behind_row {c = c} {k = k} {high = high} e a p = go (sym p ∙ a.answer)
  where
    go : ◌≡◌ {A = Read} (Ok e) (Ok (cursor high (c.count.0 + 1) k.met)) → e ≡ cursor high (c.count.0 + 1) k.met
    go h = cc

-- a byte that stands at a place is in the text
pub byte_in : (b : ℕ) (s : List ℕ) (i : ℕ) → i ≤ length s → begins (b ∷ []) (drop i s) ≡ true → i + 1 ≤ length s
byte_in b s i h e = (end_in tt tt h (byte_at b s i e (record { 0 = i + 1 }) refl)).within

-- a numeral ends in the text
pub numeral_in : {s : List ℕ} {i : ℕ} {p : Pos} → i ≤ length s → Finds numeral s i (Some p) → p.0 ≤ length s
numeral_in h f = (end_in tt tt h f).within

module _ {s : List ℕ} {c : Cursor} {k : Skip} (x : Skips trivia s c.at.0 c.met k) where
  -- behind the mark the digits may be read
  pub radix_ready : {n : ℕ} (mark : ℕ) {ty : ℕ} {d : Cursor} {t t₁ : List ℕ} {r₁ : Read} → Ready n s c → begins (mark ∷ []) (drop k.at.0 s) ≡ true
      → Rowed number_typeᵏ ty c k (k.at.0 + 1) t t₁ r₁ → r₁ ≡ Ok d → Ready n s d
  radix_ready {n} mark {d = d} h e a p =
      subst (Ready n s) (sym (behind_row d a p))
      (record { small = h.small; within = byte_in mark s k.at.0 x.within e; few = omega (arith, h.few, x.on) })

  pub radix_leafs : (mark ty class : ℕ) → begins (mark ∷ []) (drop k.at.0 s) ≡ true → {d : Cursor} {t t₁ t' : List ℕ} {r₁ r : Read}
      → Rowed number_typeᵏ ty c k (k.at.0 + 1) t t₁ r₁ → r₁ ≡ Ok d
      → Leafs (ws number_textᵏ 0 (leaf (run1 (member class)))) s d t₁ t' r → Leafs (radix mark ty class) s c t t' r
  unfolding all_rules
  radix_leafs mark ty class e {d} a p b =
      record {
        reading = λ l lim.
            seq_got ((behind_found x number_typeᵏ ty tt (byte_at mark s k.at.0 e (record { 0 = k.at.0 + 1 }) refl) a).reading l lim)
            (ws number_textᵏ 0 (leaf (run1 (member class)))) tt d p (b.reading l lim);
      }

  pub decimal_leafs : {p : Pos} → Finds numeral s k.at.0 (Some p) → {d : Cursor} {t t₁ t' : List ℕ} {r₁ r : Read} → c.at.0 ≤ length s
      → {ty : ℕ} → ty ≡ 2 → Rowed number_typeᵏ ty c (skip c.at.0 c.met) c.at.0 t t₁ r₁ → r₁ ≡ Ok d → Rowed number_textᵏ 0 d k p.0 t₁ t' r
      → Leafs decimals s c t t' r
  unfolding decimal
  decimal_leafs {p} f {d} {t} {t₁} {t'} {r₁} {r} h w a e b =
      record {
        reading = λ l lim. reading_is (decimals_is x l)
            (seq_got (type.reading l lim) (ws number_textᵏ 0 numeral) tt d e (text l lim));
      }
    where
      type : Leafs decimal s c t t₁ r₁
      type = behind_got (skips_empty s c.at.0 c.met h) number_typeᵏ 2 tt c.at.0 c.met (λ l lim. empty_is s l lim c.at.0 c.met c.count.0 t)
          (subst (λ (n : ℕ). Rowed number_typeᵏ n c (skip c.at.0 c.met) c.at.0 t t₁ r₁) w a)

      text : (l lim : ℕ) → Reading (ws number_textᵏ 0 numeral) s l lim d.at.0 d.met d.count.0 t₁ t' r
      text l lim =
          (behind_found (subst (λ (d : Cursor). Skips trivia s d.at.0 d.met k) (sym (behind_row d a e)) x) number_textᵏ 0 tt f b).reading l lim

  -- behind the type the text's row may be pushed
  pub decimal_placed : {d : Cursor} {t t₁ : List ℕ} {r₁ : Read} → Ready 8 s c
      → {ty : ℕ} → Rowed number_typeᵏ ty c (skip c.at.0 c.met) c.at.0 t t₁ r₁ → r₁ ≡ Ok d → Placed s d k
  decimal_placed {d} h a e =
      subst (λ (d : Cursor). Placed s d k) (sym (behind_row d a e))
      (record { ready = record { small = h.small; within = h.within; few = omega (arith, h.few) }; on = x.on; within = x.within })

  pub decimal_none : {r : Read} → r ≡ Err (Miss k.met) → Finds numeral s k.at.0 None → (t : List ℕ) → Leafs decimals s c t t r
  decimal_none e f t =
      subst (λ (r : Read). Leafs decimals s c t t r) (sym e) record {
        reading = λ l lim. bare_no decimals s l lim c.at.0 c.met c.count.0 t x.open? k.met x.noted
            (decimals_fails x l (finds_fails f l));
      }

-- The alternatives together --------------------------------------------------

abbrev met_of : Summary Rows → Bool
met_of (fits v q b k) = b
met_of (fails b k) = b

met_more : (k : ℕ) (o : Summary Rows) → met_of (more true k o) ≡ true
met_more k (fits v q b j) = refl
met_more k (fails b j) = refl

met_then : (o : Summary Rows) (g : Rows → Input → Summary Rows) → met_of (thenˢ (more true 0 o) g) ≡ true
met_then (fits v q b k) g = met_more (max 0 k) (g v q)
met_then (fails b k) g = refl

-- an open comment that was met first is met
counted : (a : Bool) (o : Summary Rows) (g : Rows → Input → Summary Rows) (b : Bool) (k : ℕ) → thenˢ (more a 0 o) g ≡ fails b k → b ≡ b || a
counted false o g b k e = sym (or-false b)
counted true o g b k e = let h : b ≡ true = sym (ap met_of e) ∙ met_then o g in h ∙ ap (λ (b : Bool). b || true) (sym h)

-- so a look at the same trivia after a number that misses adds nothing
radix_miss : {s : List ℕ} {i : ℕ} {met : Bool} {k : Skip} (x : Skips trivia s i met k) (mark ty class : ℕ) {l lim base : ℕ} {t t' : List ℕ} {r : Read}
    → Reading (radix mark ty class) s l lim i met base t t' r → (y : Bool) → r ≡ Err (Miss y) → y ≡ y || x.open?
radix_miss {s} {i} {met} {k} x mark ty class {l} {lim} {base} a y p =
    let z = lost lim met base (scan (full s) (radix mark ty class) l (here s i)) y (sym p ∙ a.agrees.answer) in
    let row : Input → Summary Rows = λ q. thenˢ (takeˢ (taken (one (is mark)) q.left) q) λ v r. fits (under number_typeᵏ ty i q.at r.at v) r false 0 in
    let digits : Rows → Input → Summary Rows = λ v q. withˢ (v ++◌) (scan (full s) (ws number_textᵏ 0 (leaf (run1 (member class)))) l q) in
    let h = counted x.open? (row (here s k.at.0)) digits z.b z.k (sym (ap (λ o. thenˢ (thenˢ o λ _ q. row q) digits) (x.is (full s) l)) ∙ z.is) in
    z.noted ∙ ap (λ (b : Bool). met || b) h ∙ sym (or_assoc met z.b x.open?) ∙ ap (λ (b : Bool). b || x.open?) (sym z.noted)

-- no mark behind the trivia
radix_none : {s : List ℕ} {i : ℕ} {met : Bool} {k : Skip} (x : Skips trivia s i met k) (mark ty class : ℕ) → begins (mark ∷ []) (drop k.at.0 s) ≡ false
    → (l lim base : ℕ) (t : List ℕ) → Reading (radix mark ty class) s l lim i met base t t (Err (Miss k.met))
radix_none {s} {i} {met} {k} x mark ty class e l lim base t =
    bare_no (radix mark ty class) s l lim i met base t x.open? k.met x.noted
    (radix_fails x l mark ty class (one_begins mark (drop k.at.0 s) ∙ ap (λ (b : Bool). given b 1) e))

-- the other alternatives fail, and add nothing
or_last : {m n : Parser} {s : List ℕ} {l lim i : ℕ} {met : Bool} {base : ℕ} {t t' : List ℕ} {r : Read} (b : Bool)
    → Reading m s l lim i met base t t' r → ((y : Bool) → r ≡ Err (Miss y) → y ≡ y || b) → scan (full s) n l (here s i) ≡ fails b 0
    → Reading (m or n) s l lim i met base t t' r
or_last {m} {n} {s} {l} {lim} {i} {met} {base} {t} {t'} {r} b a h e = go r refl
  where
    go : (q : Read) → r ≡ q → Reading (m or n) s l lim i met base t t' r
    go (Ok d) p = or_first a n λ y z. got_miss d y (sym p ∙ z)
    go (Err (Miss y)) p =
        subst (λ (q : Read). Reading (m or n) s l lim i met base t t' q) (sym p)
        (or_miss a n y p (bare_no n s l lim i y base t' b y (h y p) e))
    go (Err Deep) p = or_first a n λ y z. miss_deep y (sym z ∙ p)

module _ {s : List ℕ} {c : Cursor} {k : Skip} (x : Skips trivia s c.at.0 c.met k) where
  -- behind the trivia stands `$`
  pub at_hex : begins (36 ∷ []) (drop k.at.0 s) ≡ true → {t t' : List ℕ} {r : Read} → Leafs (radix 36 1 3) s c t t' r → Leafs value s c t t' r
  at_hex e a =
      record {
        reading = λ l lim. or_last x.open? (a.reading l lim) (radix_miss x 36 1 3 (a.reading l lim))
            (ap₂ (λ a b. elseˢ a λ _. b) (radix_fails x l 37 3 4 (apart 36 (one (is 37)) (drop k.at.0 s) (λ u. refl) e))
            (decimals_fails x l (numeral_fails s k.at.0 36 (λ u. refl) (λ u. refl) (λ u. refl) e l))
            ∙ ap (λ (b : Bool). fails b 0) (or_self x.open?));
      }

  module _ (no-hex : begins (36 ∷ []) (drop k.at.0 s) ≡ false) where
    -- `%`
    pub at_binary : begins (37 ∷ []) (drop k.at.0 s) ≡ true → {t t' : List ℕ} {r : Read}
        → Leafs (radix 37 3 4) s (cursor c.at.0 c.count.0 k.met) t t' r → Leafs value s c t t' r
    at_binary e {t} a =
        record {
          reading = λ l lim. or_miss (radix_none x 36 1 3 no-hex l lim c.count.0 t) (radix 37 3 4 or decimals) k.met refl
              (or_last (skips_again x).open? (a.reading l lim) (radix_miss (skips_again x) 37 3 4 (a.reading l lim))
              (decimals_fails (skips_again x) l (numeral_fails s k.at.0 37 (λ u. refl) (λ u. refl) (λ u. refl) e l)));
        }

    -- something else
    pub at_decimal : begins (37 ∷ []) (drop k.at.0 s) ≡ false → {t t' : List ℕ} {r : Read}
        → Leafs decimals s (cursor c.at.0 c.count.0 k.met) t t' r → Leafs value s c t t' r
    at_decimal e {t} a =
        record {
          reading = λ l lim. or_miss (radix_none x 36 1 3 no-hex l lim c.count.0 t) (radix 37 3 4 or decimals) k.met refl
              (or_miss (radix_none (skips_again x) 37 3 4 e l lim c.count.0 t) decimals k.met refl (a.reading l lim));
        }

-- The row around both --------------------------------------------------------

module _ {s : List ℕ} {c : Cursor} (h : c.at.0 ≤ length s) {t t₁ : List ℕ} {r₁ : Read} (a : Leafs value s c t t₁ r₁) where
  pub number_out : IsErr r₁ → Leafs number s c t t₁ r₁
  unfolding number
  number_out e = record { reading = λ l lim. node_out numberᵏ (always 0) (skips_empty s c.at.0 c.met h) (a.reading l lim) e }

  module _ (d : Cursor) (e : r₁ ≡ Ok d) where
    pub number_got : {t' : List ℕ} {z : Cursor} → Finished numberᵏ 0 c c.at.0 d t₁ t' z → Leafs number s c t t' (Ok z)
    unfolding number
    number_got {t'} f =
        subst (λ (z : Cursor). Leafs number s c t t' (Ok z)) (sym f.is)
        (record {
          reading = λ l lim. reading_to f.table
              (node_got numberᵏ (always 0) (skips_empty s c.at.0 c.met h) (a.reading l lim) value_solid.quieted d e f.size 0 f.counts λ v b j q. refl);
        })

    pub number_spans : Ready 8 s c → Spans c c.at.0 d
    number_spans r =
        let x : Stepped s c.at.0 c.count.0 d = stepped value_solid d h (a.reading 0 0) e in
        let small = r.small in
        let few = r.few in
        let within = r.within in
        let end = x.within in
        let grown = x.grown in
        let rows = x.rows in
        record { grown = omega arith; few = omega arith; start = omega arith; body = omega arith; end = omega arith }

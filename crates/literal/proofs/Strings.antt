-- Strings: paths in braces, the loop over the items, and the row from the opening quote to the closing one.
use mathlib.Core.Bool.{Bool, true, false}
use mathlib.Core.List.{List, [], ◌∷◌}
use mathlib.Core.Path.{◌≡◌, refl, sym, subst}
use Prim.Native.Nat.{ℕ, ◌+◌, ◌≤◌}
use native.Mathlib.Omega.{arith}
use lib.Dec.{T}
use lib.ListN.{length, drop}
use Rattle.reading.proofs.Cost.{slim}
use Rattle.reading.proofs.Tests.{quiet}
use Rattle.reading.specs.Byte.{is, begins}
use Rattle.reading.specs.Grammar.{one, run1, Parser, empty, ◌▸◌, many0, leaf, always, node}
use Rattle.reading.specs.Kind.{charᵏ, pieceᵏ, pathᵏ, stringᵏ}
use Rattle.reading.specs.Rules.{byte, char, located', trivia, identifier_path, piece, interpolation, quoted, interpolated_string, quoted_string, all_rules}
use Rattle.trivia.specs.Class.{among}
use Rattle.cursor.proofs.Laws.{moved, Stepped, stepped, reading_to, seq_out, seq_got, or_miss, or_first, over_out, over_no, over_got}
use Rattle.cursor.proofs.Loops.{Repeatable}
use Rattle.cursor.proofs.Lows.{low_first, low_node}
use Rattle.cursor.specs.Agree.{Reading, Leafs, Ready}
use Rattle.cursor.specs.Text.{cursor, Skips}
use Rattle.cursor.specs.declared.Cursor.{Cursor}
use Rattle.cursor.specs.Read.{Read}
use Rattle.cursor.specs.declared.Skip.{Skip}
use Rattle.lexis.specs.Around.{Spans, Finished}
use Rattle.lexis.specs.Finds.{read_of}
use Rattle.lexis.proofs.Ends.{byte_at, byte_no}
use Rattle.lexis.proofs.Solids.{char_solid}
use Rattle.literal.specs.Parts.{item_of, string_of}
use Rattle.literal.proofs.Numbers.{byte_in}
use Rattle.cursor.specs.declared.Stop.TheVariants.{Miss}
use Rattle.std.specs.Prelude.{Ok, Err, IsErr}

-- Paths in braces ------------------------------------------------------------

abbrev inner : Parser
inner = located' pathᵏ 0 identifier_path

inner_quiet : T (quiet inner)
unfolding all_rules
inner_quiet = tt

module _ {s : List ℕ} {c : Cursor} where
  -- no brace
  pub interpolation_no : begins (123 ∷ []) (drop c.at.0 s) ≡ false → (t : List ℕ) → Leafs interpolation s c t t (Err (Miss c.met))
  unfolding interpolation read_of
  interpolation_no e t =
      record {
        reading = λ l lim. seq_out ((byte_no 123 s c.at.0 e).reading l lim c.met c.count.0 t) (inner ▸ byte "}") refl;
      }

  module _ (h : Ready 8 s c) (e : begins (123 ∷ []) (drop c.at.0 s) ≡ true) where
    -- behind it the path may be read
    pub inner_ready : Ready 8 s (cursor (c.at.0 + 1) c.count.0 c.met)
    inner_ready = record { small = h.small; within = byte_in 123 s c.at.0 h.within e; few = omega (arith, h.few) }

    module _ {t t₁ : List ℕ} {r₁ : Read}
        (a : Leafs inner s (cursor (c.at.0 + 1) c.count.0 c.met) t t₁ r₁) where
      inside : (l lim : ℕ) → Reading inner s l lim (c.at.0 + 1) c.met c.count.0 t t₁ r₁
      inside l lim = a.reading l lim

      braced : {t' : List ℕ} {r : Read} → ((l lim : ℕ) → Reading (inner ▸ byte "}") s l lim (c.at.0 + 1) c.met c.count.0 t t' r)
          → Leafs interpolation s c t t' r
      unfolding interpolation read_of
      braced b =
          record {
            reading = λ l lim. seq_got ((byte_at 123 s c.at.0 e (record { 0 = c.at.0 + 1 }) refl).reading l lim c.met c.count.0 t) (inner ▸ byte "}") tt
                (cursor (c.at.0 + 1) c.count.0 c.met) refl (b l lim);
          }

      -- no path
      pub interpolation_out : IsErr r₁ → Leafs interpolation s c t t₁ r₁
      interpolation_out z = braced λ l lim. seq_out (inside l lim) (byte "}") z

      module _ (d : Cursor) (p : r₁ ≡ Ok d) where
        -- no closing brace, or one
        pub interpolation_open : begins (125 ∷ []) (drop d.at.0 s) ≡ false → Leafs interpolation s c t t₁ (Err (Miss d.met))
        unfolding read_of
        interpolation_open z =
            braced λ l lim. seq_got (inside l lim) (byte "}") inner_quiet d p ((byte_no 125 s d.at.0 z).reading l lim d.met d.count.0 t₁)

        pub interpolation_got : begins (125 ∷ []) (drop d.at.0 s) ≡ true → Leafs interpolation s c t t₁ (Ok (cursor (d.at.0 + 1) d.count.0 d.met))
        unfolding read_of
        interpolation_got z =
            braced λ l lim. seq_got (inside l lim) (byte "}") inner_quiet d p
            ((byte_at 125 s d.at.0 z (record { 0 = d.at.0 + 1 }) refl).reading l lim d.met d.count.0 t₁)

-- Items ----------------------------------------------------------------------

module _ {s : List ℕ} {c : Cursor} {t t₁ : List ℕ} {r₁ : Read}
    (a : Leafs (node pieceᵏ (always 0) empty (leaf (run1 (among 6 false)))) s c t t₁ r₁) where
  piece_leafs : Leafs piece s c t t₁ r₁
  unfolding piece
  piece_leafs = a

  -- a piece
  pub item_first : (b : Bool) → ((y : Bool) → r₁ ≡ Err (Miss y) → ⊥) → Leafs (item_of b) s c t t₁ r₁
  item_first true z = record { reading = λ l lim. or_first (piece_leafs.reading l lim) interpolation z }
  item_first false z = piece_leafs

  -- none, and the string is not interpolated, or it is
  pub item_plain : (b : Bool) → b ≡ false → (y : Bool) → r₁ ≡ Err (Miss y) → Leafs (item_of b) s c t t₁ (Err (Miss y))
  item_plain b e y p =
      subst (λ (b : Bool). Leafs (item_of b) s c t t₁ (Err (Miss y))) (sym e) (subst (λ (r : Read). Leafs piece s c t t₁ r) p piece_leafs)

  pub item_second : (b : Bool) → b ≡ true → (y : Bool) → r₁ ≡ Err (Miss y) → {t' : List ℕ} {r : Read}
      → Leafs interpolation s (cursor c.at.0 c.count.0 y) t₁ t' r → Leafs (item_of b) s c t t' r
  item_second b e y p {t'} {r} g =
      subst (λ (b : Bool). Leafs (item_of b) s c t t' r) (sym e)
      (record { reading = λ l lim. or_miss (piece_leafs.reading l lim) interpolation y p (g.reading l lim) })

-- The loop -------------------------------------------------------------------

pub item_repeats : (b : Bool) → Repeatable (item_of b)
unfolding all_rules
item_repeats true = record { quieted = tt; slimmed = tt; moving = tt; paying = tt }
item_repeats false = record { quieted = tt; slimmed = tt; moving = tt; paying = tt }

items_slim : (b : Bool) → T (slim (many0 (item_of b)))
unfolding all_rules
items_slim true = tt
items_slim false = tt

-- Strings --------------------------------------------------------------------

abbrev rest : Bool → Parser
rest b = many0 (item_of b) ▸ byte "\""

rest_quiet : (b : Bool) → T (quiet (rest b))
unfolding all_rules
rest_quiet true = tt
rest_quiet false = tt

string_is : (b : Bool) {s : List ℕ} {c : Cursor} {t t' : List ℕ} {r : Read} → Leafs (quoted (item_of b)) s c t t' r → Leafs (string_of b) s c t t' r
unfolding interpolated_string quoted_string
string_is true a = a
string_is false a = a

char_quiet : T (quiet (char "\""))
unfolding all_rules
char_quiet = tt

module _ (b : Bool) {s : List ℕ} {c : Cursor} {k : Skip} (x : Skips trivia s c.at.0 c.met k) {t t₁ : List ℕ} {r₁ : Read}
    (a : Leafs (char "\"") s c t t₁ r₁) where
  quote : (l lim : ℕ) → Reading (char "\"") s l lim c.at.0 c.met c.count.0 t t₁ r₁
  quote l lim = a.reading l lim

  -- no opening quote
  pub string_out : IsErr r₁ → Leafs (string_of b) s c t t₁ r₁
  string_out z = string_is b (record { reading = λ l lim. over_out stringᵏ 0 (rest b) (quote l lim) z })

  module _ (d : Cursor) (e : r₁ ≡ Ok d) where
    quote_step : c.at.0 ≤ length s → Stepped s c.at.0 c.count.0 d
    quote_step h = stepped (char_solid false 34) d h (quote 0 0) e

    -- behind it the items may be read
    pub quote_ready : {n : ℕ} → Ready n s c → Ready n s d
    quote_ready h = let y = quote_step h.within in record { small = h.small; within = y.within; few = omega (arith, h.few, y.rows) }

    module _ {t₂ : List ℕ} {r₂ : Read} (g : Leafs (many0 (item_of b)) s d t₁ t₂ r₂) where
      pub string_no : IsErr r₂ → Leafs (string_of b) s c t t₂ r₂
      string_no z =
          string_is b (record { reading = λ l lim. over_no stringᵏ 0 (rest b) (quote l lim) char_quiet d e (seq_out (g.reading l lim) (byte "\"") z) z })

      module _ (n : Cursor) (p : r₂ ≡ Ok n) where
        -- the row around it fits
        pub string_spans : Ready 8 s c → Spans c k.at.0 (cursor (n.at.0 + 1) n.count.0 n.met)
        string_spans h =
            let y = quote_step h.within in
            let m = moved (many0 (item_of b)) (item_repeats b).quieted (items_slim b) n y.within (g.reading 0 0) p in
            record {
              grown = omega (arith, y.grown, m.grown);
              few = omega (arith, h.small, h.few, y.rows, m.rows, m.within);
              start = omega (arith, h.small, h.within);
              body = omega (arith, h.small, x.within);
              end = omega (arith, h.small, m.within);
            }

        -- no closing quote, or one
        pub string_open : begins (34 ∷ []) (drop n.at.0 s) ≡ false → Leafs (string_of b) s c t t₂ (Err (Miss n.met))
        unfolding read_of
        string_open z =
            string_is b (record {
              reading = λ l lim. over_no stringᵏ 0 (rest b) (quote l lim) char_quiet d e
                  (seq_got (g.reading l lim) (byte "\"") (item_repeats b).quieted n p ((byte_no 34 s n.at.0 z).reading l lim n.met n.count.0 t₂)) refl;
            })

        pub string_got : begins (34 ∷ []) (drop n.at.0 s) ≡ true → {t' : List ℕ} {z : Cursor}
            → Finished stringᵏ 0 c k.at.0 (cursor (n.at.0 + 1) n.count.0 n.met) t₂ t' z → Leafs (string_of b) s c t t' (Ok z)
        unfolding read_of
        string_got i {t'} f =
            subst (λ (z : Cursor). Leafs (string_of b) s c t t' (Ok z)) (sym f.is)
            (string_is b (record {
              reading = λ l lim. reading_to f.table
                  (over_got stringᵏ 0 (rest b) (quote l lim) char_quiet d e
                  (seq_got (g.reading l lim) (byte "\"") (item_repeats b).quieted n p
                  ((byte_at 34 s n.at.0 i (record { 0 = n.at.0 + 1 }) refl).reading l lim n.met n.count.0 t₂))
                  (rest_quiet b) (cursor (n.at.0 + 1) n.count.0 n.met) refl f.size k.at.0 f.counts
                  (low_first (low_node charᵏ x l (always 34) (leaf (one (is 34))))));
            }))

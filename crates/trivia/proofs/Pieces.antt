-- What starts at a place, by the bytes that stand there: one case for each kind of item, and one for none.
use mathlib.Core.Path.{◌≡◌, refl, ap, ap₂, sym, ◌∙◌}
use mathlib.Core.Bool.{Bool, true, false, ◌||◌, ◌&&◌, not}
use mathlib.Core.List.{List, [], ◌∷◌}
use mathlib.Core.Option.{Option, none, some}
use Prim.Native.Nat.{ℕ, ◌+◌, ◌≤◌, ◌<◌}
use native.Mathlib.Omega.{arith}
use borrow.Author.Tests.{eqb-true, eqb-false, eq-eqb, ne_eqb, ltb-true, not-true}
use lib.Dec.{eqb, ltb}
use lib.ListN.{length, get_or, drop}
use lib.Seq.{drop-drop}
use Rattle.reading.specs.Byte.{is, blank, begins, run, given, comment}
use Rattle.reading.specs.Grammar.{Rows, Rule, Parser, one, run1, tag, comment_rest, ◌▸◌, leaf, unterminated, one_of}
use Rattle.reading.specs.Rules.{exactly, cpp_comment, c_comment, trivia_impl, new_line}
use Rattle.reading.specs.Summary.{Summary, fits, fails, Scan, scan, scans}
use Rattle.reading.specs.Items.{kinds, item_or, item}
use Rattle.cursor.specs.Text.{here}
use Rattle.cursor.proofs.Places.{behind_here, end_here, leaf_within, one_of_is, one_of_end, run_end, run_stop, run_go, run_within, at_least_one_is, begins_end, begins_at}
use Rattle.table.specs.declared.Pos.{Pos}
use Rattle.trivia.specs.Class.{in_line}
use Rattle.trivia.specs.Piece.{close_of, closed, item_of, summary_of, item_for, kept, Bounded, Starts}
use Rattle.std.specs.Prelude.{Option as Optional, Some, None}
use Rattle.std.proofs.lemmas.Option.{same_Some, none-some}
use Rattle.trivia.specs.Kind.{item_number}
use Rattle.trivia.specs.declared.Item.{Item}
use Rattle.trivia.specs.declared.kind.ItemKind.{ItemKind}
use Rattle.trivia.specs.declared.kind.ItemKind.TheVariants.{Whitespace, Newline, BlockComment, LineComment, Unterminated}

pub both : (a b : Bool) → a && b ≡ true → (a ≡ true) × (b ≡ true)
both true b e = (refl, e)
both false b e = absurd (let z : ◌≡◌ {A = ℕ} 0 1 = cc in let y : ⊥ = omega arith in y)

abbrev Scanned : List ℕ → ℕ → Parser → Summary Rows → Type 0
Scanned s i g o = (τ : Rule → Scan Rows) (l : ℕ) → scan τ g l (here s i) ≡ o

-- Each alternative ---------------------------------------------------------

module _ (s : List ℕ) (i : ℕ) where
  blanks_no : run blank (drop i s) ≡ 0 → Scanned s i (leaf (run1 blank)) (fails false 0)
  blanks_no e τ l = rw e

  blanks_are : (n : ℕ) → run blank (drop i s) ≡ n → 1 ≤ n → Scanned s i (leaf (run1 blank)) (fits [] (here s (i + n)) false 0)
  blanks_are n e h τ l = rw (e, at_least_one_is n h, behind_here s i n)

  module _ (e : begins (47 ∷ 42 ∷ []) (drop i s) ≡ false) where
    closing_no : Scanned s i (exactly "/*" ▸ leaf comment_rest) (fails false 0)
    closing_no τ l = rw e

    opening_no : Scanned s i (exactly "/*" ▸ unterminated) (fails false 0)
    opening_no τ l = rw e

    block_no : Scanned s i c_comment (fails false 0)
    unfolding c_comment
    block_no τ l = rw e

  module _ (e : begins (47 ∷ 42 ∷ []) (drop i s) ≡ true) where
    module _ (n : ℕ) (f : comment 0 0 (drop (i + 2) s) ≡ some n) where
      closing_is : Scanned s i (exactly "/*" ▸ leaf comment_rest) (fits [] (here s (i + 2 + n)) false 0)
      closing_is τ l = rw (e, drop-drop 2 i s, f, behind_here s (i + 2) n)

      block_closed : Scanned s i c_comment (fits [] (here s (i + 2 + n)) false 0)
      unfolding c_comment
      block_closed τ l = rw (e, drop-drop 2 i s, f, behind_here s (i + 2) n)

    module _ (f : comment 0 0 (drop (i + 2) s) ≡ none) where
      closing_none : Scanned s i (exactly "/*" ▸ leaf comment_rest) (fails false 0)
      closing_none τ l = rw (e, drop-drop 2 i s, f)

      module _ (h : i + 2 ≤ length s) where
        opening_is : Scanned s i (exactly "/*" ▸ unterminated) (fits [] (here s (length s)) true 0)
        opening_is τ l = rw (e, drop-drop 2 i s, end_here s (i + 2) h)

        block_open : Scanned s i c_comment (fits [] (here s (length s)) true 0)
        unfolding c_comment
        block_open τ l = rw (e, drop-drop 2 i s, f, end_here s (i + 2) h)

  line_no : begins (47 ∷ 47 ∷ []) (drop i s) ≡ false → Scanned s i cpp_comment (fails false 0)
  unfolding cpp_comment
  line_no e τ l = rw e

  module _ (e : begins (47 ∷ 47 ∷ []) (drop i s) ≡ true) (n : ℕ) (f : run in_line (drop (i + 2) s) ≡ n) where
    line_bare : n ≡ 0 → Scanned s i cpp_comment (fails false 0)
    unfolding cpp_comment
    line_bare h τ l = rw (e, drop-drop 2 i s, f, h)

    line_is : 1 ≤ n → Scanned s i cpp_comment (fits [] (here s (i + 2 + n)) false 0)
    unfolding cpp_comment
    line_is h τ l = rw (e, drop-drop 2 i s, f, at_least_one_is n h, behind_here s (i + 2) n)

  module _ (e : one_of (is 13) (drop i s) ≡ none) where
    feed_no : one_of (is 10) (drop i s) ≡ none → Scanned s i new_line (fails false 0)
    unfolding new_line
    feed_no f τ l = rw (e, f)

    feed_is : one_of (is 10) (drop i s) ≡ some 1 → Scanned s i new_line (fits [] (here s (i + 1)) false 0)
    unfolding new_line
    feed_is f τ l = rw (e, f, behind_here s i 1)

  module _ (e : one_of (is 13) (drop i s) ≡ some 1) where
    return_no : one_of (is 10) (drop (i + 1) s) ≡ none → Scanned s i new_line (fails false 0)
    unfolding new_line
    return_no f τ l = rw (e, drop-drop 1 i s, f)

    return_is : one_of (is 10) (drop (i + 1) s) ≡ some 1 → Scanned s i new_line (fits [] (here s (i + 2)) false 0)
    unfolding new_line
    return_is f τ l = rw (e, drop-drop 1 i s, f, behind_here s (i + 1) 1) (ap (λ j. fits [] (here s j) false 0) (let z : i + 1 + 1 ≡ i + 2 = omega arith in z))

-- What starts here ---------------------------------------------------------

abbrev pub an : ItemKind → Pos → Optional Item
an k e = Some (record { kind = k; end = e })

-- an item of one line, which is of any kind but a newline
starts_item : (s : List ℕ) (i : ℕ) (k : ItemKind) (e : Pos) → eqb (item_number k) 2 ≡ false → item (here s i) ≡ some (item_number k, here s e.0)
    → Scanned s i trivia_impl (fits [] (here s e.0) (eqb (item_number k) 5) 0) → i < e.0 → e.0 ≤ length s → Starts s i (an k e)
unfolding item_of summary_of kept Bounded
starts_item s i k e n f g h w = record { listed = f; scanned = go; bounded = (h, w) }
  where
    go : (lines : Bool) → Scanned s i (item_for lines) (summary_of s (kept lines (an k e)))
    go true τ l = rw (g τ l)
    go false τ l = rw n (g τ l)

-- nothing on one line: what a newline gives is left
module _ (s : List ℕ) (i : ℕ) (b : run blank (drop i s) ≡ 0) (c : begins (47 ∷ 42 ∷ []) (drop i s) ≡ false) (m : Scanned s i cpp_comment (fails false 0)) where
  impl_no : Scanned s i trivia_impl (fails false 0)
  unfolding trivia_impl
  impl_no τ l = rw (blanks_no s i b τ l, block_no s i c τ l, m τ l)

  item_left : {n : Summary Rows} → Scanned s i new_line n → item (here s i) ≡ item_or 2 n none
  unfolding item kinds
  item_left n = rw (blanks_no s i b (scans 0) 0, closing_no s i c (scans 0) 0, opening_no s i c (scans 0) 0, m (scans 0) 0, n (scans 0) 0)

  starts_none : Scanned s i new_line (fails false 0) → Starts s i None
  unfolding item_of summary_of kept Bounded
  starts_none n = record { listed = item_left n; scanned = go; bounded = tt }
    where
      go : (lines : Bool) → Scanned s i (item_for lines) (summary_of s (kept lines None))
      go true τ l = rw (impl_no τ l, n τ l)
      go false τ l = impl_no τ l

  starts_newline : (e : Pos) → Scanned s i new_line (fits [] (here s e.0) false 0) → i < e.0 → e.0 ≤ length s → Starts s i (an Newline e)
  unfolding item_of summary_of kept Bounded
  starts_newline e n h w = record { listed = item_left n; scanned = go; bounded = (h, w) }
    where
      go : (lines : Bool) → Scanned s i (item_for lines) (summary_of s (kept lines (an Newline e)))
      go true τ l = rw (impl_no τ l, n τ l)
      go false τ l = impl_no τ l

-- the text's end
pub starts_end : (s : List ℕ) (i : ℕ) → length s ≤ i → Starts s i None
starts_end s i h =
    starts_none s i (omega (arith, run_end blank s i h)) (begins_end 47 (42 ∷ []) s i h) (line_no s i (begins_end 47 (47 ∷ []) s i h))
    (feed_no s i (one_of_end (is 13) s i h) (one_of_end (is 10) s i h))

pub one_begins : (c : ℕ) (t : List ℕ) → one_of (is c) t ≡ given (begins (c ∷ []) t) 1
one_begins c [] = refl
one_begins c (b ∷ t) = go (eqb c b) refl
  where
    go : (x : Bool) → eqb c b ≡ x → given (eqb b c) 1 ≡ given (elim x [ true ↦ true | false ↦ false ]) 1
    go true e = ap (λ y. given y 1) (eq-eqb b c (sym (eqb-true c b e)))
    go false e = ap (λ y. given y 1) (ne_eqb b c λ q. eqb-false c b e (sym q))

-- by the first byte
-- no byte above the space is a blank
pub above_blank : (b : ℕ) → 32 < b → blank b ≡ false
above_blank b h = ap₂ ◌||◌ (ne_eqb b 32 λ q. omega (arith, q, h)) (ne_eqb b 9 λ q. omega (arith, q, h))

module _ (s : List ℕ) (i : ℕ) (h : i < length s) where
  no_blank : blank (get_or s i 0) ≡ false → run blank (drop i s) ≡ 0
  no_blank e = omega (arith, run_stop blank s i h e)

  no_slash : eqb 47 (get_or s i 0) ≡ false → (w : List ℕ) → begins (47 ∷ w) (drop i s) ≡ false
  no_slash e w = begins_at 47 w s i h ∙ ap (◌&& begins w (drop (i + 1) s)) e

  byte_at : (c : ℕ) (x : Bool) → eqb (get_or s i 0) c ≡ x → one_of (is c) (drop i s) ≡ given x 1
  byte_at c x e = one_of_is (is c) s i x h e

  -- no blank and no slash
  module _ (b : blank (get_or s i 0) ≡ false) (c : eqb 47 (get_or s i 0) ≡ false) where
    plain_none : Scanned s i new_line (fails false 0) → Starts s i None
    plain_none = starts_none s i (no_blank b) (no_slash c (42 ∷ [])) (line_no s i (no_slash c (47 ∷ [])))

    plain_newline : (e : Pos) → Scanned s i new_line (fits [] (here s e.0) false 0) → i < e.0 → e.0 ≤ length s → Starts s i (an Newline e)
    plain_newline = starts_newline s i (no_blank b) (no_slash c (42 ∷ [])) (line_no s i (no_slash c (47 ∷ [])))

  pub starts_blank : blank (get_or s i 0) ≡ true → (e : Pos) → e.0 ≡ (i + 1) + run blank (drop (i + 1) s) → Starts s i (an Whitespace e)
  unfolding item kinds trivia_impl
  starts_blank b e q =
      let n : ℕ = run blank (drop i s) in
      let p : e.0 ≡ i + n = q ∙ sym (run_go blank s i h b) in
      let a : Scanned s i (leaf (run1 blank)) (fits [] (here s (i + n)) false 0) = blanks_are s i n refl (omega arith) in
      starts_item s i Whitespace e refl (rw (a (scans 0) 0, p)) (λ τ l. rw (a τ l, p)) (omega arith) (rw p (run_within blank s i (omega arith)))

  pub starts_feed : get_or s i 0 ≡ 10 → Starts s i (an Newline (record { 0 = i + 1 }))
  starts_feed q =
      plain_newline (ap blank q) (ap (eqb 47) q) (record { 0 = i + 1 })
      (feed_is s i (byte_at 13 false (ap (is 13) q)) (byte_at 10 true (ap (is 10) q))) (omega arith) (omega arith)

  module _ (q : get_or s i 0 ≡ 13) {x : Bool} (f : begins (10 ∷ []) (drop (i + 1) s) ≡ x) where
    behind : one_of (is 10) (drop (i + 1) s) ≡ given x 1
    behind = one_begins 10 (drop (i + 1) s) ∙ ap (λ y. given y 1) f

    pub starts_return : x ≡ true → Starts s i (an Newline (record { 0 = i + 2 }))
    starts_return e =
        plain_newline (ap blank q) (ap (eqb 47) q) (record { 0 = i + 2 })
        (return_is s i (byte_at 13 true (ap (is 13) q)) (behind ∙ ap (λ y. given y 1) e)) (omega arith)
        (omega (arith, leaf_within (one (is 10)) s (i + 1) 1 (omega arith) (behind ∙ ap (λ y. given y 1) e)))

    pub starts_lone_return : x ≡ false → Starts s i None
    starts_lone_return e = plain_none (ap blank q) (ap (eqb 47) q) (return_no s i (byte_at 13 true (ap (is 13) q)) (behind ∙ ap (λ y. given y 1) e))

  -- a byte that starts nothing
  pub starts_other : blank (get_or s i 0) ≡ false → (get_or s i 0 ≡ 10 → ⊥) → (get_or s i 0 ≡ 13 → ⊥) → (get_or s i 0 ≡ 47 → ⊥) → Starts s i None
  starts_other a b c d =
      plain_none a (ne_eqb 47 (get_or s i 0) λ e. d (sym e))
      (feed_no s i (byte_at 13 false (ne_eqb (get_or s i 0) 13 c)) (byte_at 10 false (ne_eqb (get_or s i 0) 10 b)))

  -- a byte above the space that is no slash
  pub starts_plain : ltb 32 (get_or s i 0) && not (eqb (get_or s i 0) 47) ≡ true → Starts s i None
  starts_plain e =
      let z = both (ltb 32 (get_or s i 0)) (not (eqb (get_or s i 0) 47)) e in
      let above : 32 < get_or s i 0 = ltb-true 32 (get_or s i 0) z.0 in
      starts_other (above_blank (get_or s i 0) above) (λ q. omega (arith, q, above)) (λ q. omega (arith, q, above)) (eqb-false (get_or s i 0) 47 (not-true (eqb (get_or s i 0) 47) z.1))

  -- a slash
  module _ (q : get_or s i 0 ≡ 47) where
    no_blanks : Scanned s i (leaf (run1 blank)) (fails false 0)
    no_blanks = blanks_no s i (no_blank (ap blank q))

    no_newline : Scanned s i new_line (fails false 0)
    no_newline = feed_no s i (byte_at 13 false (ap (is 13) q)) (byte_at 10 false (ap (is 10) q))

    module _ (b : begins (47 ∷ 42 ∷ []) (drop i s) ≡ true) {r : Optional Pos} (f : r ≡ closed s (i + 2)) where
      room : i + 2 ≤ length s
      room = leaf_within (tag (47 ∷ 42 ∷ [])) s i 2 (omega arith) (ap (λ x. given x 2) b)

      pub starts_closed : (e : Pos) → r ≡ Some e → Starts s i (an BlockComment e)
      unfolding closed item kinds trivia_impl
      starts_closed e g = go (comment 0 0 (drop (i + 2) s)) refl
        where
          go : (o : Option ℕ) → comment 0 0 (drop (i + 2) s) ≡ o → Starts s i (an BlockComment e)
          go none w = absurd (none-some e (sym (sym g ∙ f ∙ ap (close_of (i + 2)) w)))
          go (some n) w =
              let y : e.0 ≡ i + 2 + n = ap (λ (p : Pos). p.0) (same_Some e (record { 0 = i + 2 + n }) (sym g ∙ f ∙ ap (close_of (i + 2)) w)) in
              let a : Scanned s i (exactly "/*" ▸ leaf comment_rest) (fits [] (here s e.0) false 0) = λ τ l. closing_is s i b n w τ l ∙ ap (λ j. fits [] (here s j) false 0) (sym y) in
              starts_item s i BlockComment e refl (rw (no_blanks (scans 0) 0, a (scans 0) 0)) (λ τ l. rw (no_blanks τ l, block_closed s i b n w τ l, y)) (omega arith)
              (rw y (leaf_within comment_rest s (i + 2) n room w))

      pub starts_open : r ≡ None → Starts s i (an Unterminated (record { 0 = length s }))
      unfolding closed item kinds trivia_impl
      starts_open g = go (comment 0 0 (drop (i + 2) s)) refl
        where
          go : (o : Option ℕ) → comment 0 0 (drop (i + 2) s) ≡ o → Starts s i (an Unterminated (record { 0 = length s }))
          go none w =
              starts_item s i Unterminated (record { 0 = length s }) refl (rw (no_blanks (scans 0) 0, closing_none s i b w (scans 0) 0, opening_is s i b w room (scans 0) 0))
              (λ τ l. rw (no_blanks τ l, block_open s i b w room τ l)) (omega (arith, room)) (omega arith)
          go (some n) w =
              absurd (none-some (record { 0 = i + 2 + n }) (sym g ∙ f ∙ ap (close_of (i + 2)) w))

    module _ (b : begins (47 ∷ 42 ∷ []) (drop i s) ≡ false) where
      pub starts_slash : begins (47 ∷ 47 ∷ []) (drop i s) ≡ false → Starts s i None
      starts_slash d = starts_none s i (no_blank (ap blank q)) b (line_no s i d) no_newline

      module _ (d : begins (47 ∷ 47 ∷ []) (drop i s) ≡ true) (e : Pos) (f : e.0 ≡ i + 2 + run in_line (drop (i + 2) s)) where
        pub starts_bare : e.0 ≤ i + 2 → Starts s i None
        starts_bare g = starts_none s i (no_blank (ap blank q)) b (line_bare s i d (run in_line (drop (i + 2) s)) refl (omega arith)) no_newline

        pub starts_line : i + 2 < e.0 → Starts s i (an LineComment e)
        unfolding item kinds trivia_impl
        starts_line g =
            let n : ℕ = run in_line (drop (i + 2) s) in
            let a : Scanned s i cpp_comment (fits [] (here s e.0) false 0) = λ τ l. line_is s i d n refl (omega arith) τ l ∙ ap (λ j. fits [] (here s j) false 0) (sym f) in
            starts_item s i LineComment e refl (rw (no_blanks (scans 0) 0, closing_no s i b (scans 0) 0, opening_no s i b (scans 0) 0, a (scans 0) 0))
            (λ τ l. rw (no_blanks τ l, block_no s i b τ l, a τ l)) (omega arith)
            (rw f (run_within in_line s (i + 2) (leaf_within (tag (47 ∷ 47 ∷ [])) s i 2 (omega arith) (ap (λ x. given x 2) d))))

-- Blocks: the opening brace, the items a level up, the closing brace or what block() supplies, and the block's row.
use mathlib.Core.Path.{◌≡◌, refl, ap, sym, subst, ◌∙◌}
use mathlib.Core.Bool.{Bool, true, false}
use mathlib.Core.List.{List, [], ◌∷◌, ◌++◌}
use mathlib.Core.Option.{Option, none, some}
use Prim.Native.Nat.{ℕ, suc, ◌+◌, ◌-◌, ◌≤◌}
use native.Mathlib.Omega.{arith}
use lib.ListN.{length, length-drop}
use Rattle.reading.specs.Byte.{is, given}
use Rattle.reading.specs.Kind.{blockᵏ, charᵏ}
use Rattle.reading.specs.Grammar.{Row, Rows, State, Input, Reply, ok, err, one, Parser, empty, leaf, many0, over, braced, reported, raised, error_at, root, joined, under}
use Rattle.reading.specs.Grammar.{first_low, mended, always, one_of, take, parse, then, else, with, rounds, closed}
use Rattle.reading.specs.Rules.{multiline_trivia, block_item, block}
use Rattle.reading.specs.Table.{row_width}
use Rattle.reading.proofs.Ahead.{Ahead, On, closed_on, ahead}
use Rattle.reading.proofs.Fuel.{reads_on}
use Rattle.reading.proofs.Meters.{brace}
use Rattle.reading.proofs.Trees.{Below, no_rows, below_append, first_one, Each, sound, reads_sound, closed_sound, reported_peak}
use Rattle.table.specs.Words.{pushed, row_record}
use Rattle.cursor.specs.Text.{here, cursor, Skips}
use Rattle.cursor.specs.declared.Cursor.{Cursor}
use Rattle.cursor.specs.declared.Skip.{Skip}
use Rattle.state.specs.declared.State.{State as Counts}
use Rattle.state.specs.Done.{Done}
use Rattle.state.specs.Acts.{counts, log, Tables, tables, rules, state_after, Acts, Acting, Does, TellsLeaf, opening, Closes, Reported}
use Rattle.state.proofs.Agree.{found, Rises, peak_then, peak_else, acts_is, acts_ok, acts_push, acts_told, acts_with, acts_deep, acts_got, acts_or, acts_out}
use Rattle.state.proofs.Agree.{acts_first}
use Rattle.state.proofs.Reports.{told_counts, told_logged}
use Rattle.state.proofs.Lift.{acting_from}
use Rattle.state.proofs.Laws.{lies, rises, rises_with, told_rises, seq_empty}
use Rattle.state.proofs.Rows.{Starts, line_quiet, starts_node, starts_over, over_out, over_got}
use Rattle.state.proofs.Bounds.{some_state, some_counts}
use Rattle.cursor.specs.declared.Stop.TheVariants.{Miss, Deep}
use Rattle.std.specs.Prelude.{Ok, Err, IsErr}

-- A brace ------------------------------------------------------------------

-- its row
abbrev mark_row : ℕ → ℕ → ℕ → Row
mark_row b i low = record { kind = charᵏ; size = 1; tlow = i; low = low; high = low + 1; detail = b }

-- that row alone, and the place behind it
record Marked (b i : ℕ) (v : Rows) (q : Input) : Type 0 where
  pub low : ℕ
  pub at : q.at ≡ low + 1
  pub is : v ≡ mark_row b i low ∷ []

abbrev pub One : Option ℕ → Type 0
One none = Unit {0}
One (some n) = n ≡ 1

given_one : (b : Bool) → One (given b 1)
given_one true = refl
given_one false = tt

pub one_one : (f : ℕ → Bool) (t : List ℕ) → One (one_of f t)
one_one f [] = tt
one_one f (b ∷ t) = given_one (f b)

abbrev EachAt : (Rows → Input → Type 0) → Reply Rows → Type 0
EachAt P (ok v q u) = P v q
EachAt P (err u) = Unit {0}

marked : (s : List ℕ) (b : ℕ) (t : Parser) (l : ℕ) (p : Input) (w : State) → EachAt (Marked b p.at) (parse (rules s) (brace b t) l p w)
marked s b t l p w = go (parse (rules s) t l p w)
  where
    byte : (r : Input) (x : State) (o : Option ℕ) → One o
        → EachAt (Marked b p.at) (then (take o r x) λ a j u. ok (under charᵏ b p.at r.at j.at a) j u)
    byte r x none h = tt
    byte r x (some n) h = record { low = r.at; at = ap (r.at +◌) h; is = ap (λ n. under charᵏ b p.at r.at (r.at + n) []) h }

    go : (o : Reply Rows) → EachAt (Marked b p.at) (then o λ _ r x. then (take (one_of (is b) r.left) r x) λ a j u. ok (under charᵏ b p.at r.at j.at a) j u)
    go (ok a r x) = byte r x (one_of (is b) r.left) (one_one (is b) r.left)
    go (err x) = tt

mark_is : (s : List ℕ) (b : ℕ) (t : Parser) (l : ℕ) (p : Input) (w : State) {v : Rows} {q : Input} {u : State}
    → parse (rules s) (brace b t) l p w ≡ ok v q u → Marked b p.at v q
mark_is s b t l p w e = subst (EachAt (Marked b p.at)) e (marked s b t l p w)

-- The end ------------------------------------------------------------------

-- where the brace is missing
abbrev missing : Row → ℕ → List ℕ → State → Reply Rows
missing o i s v = ok (mended o) (here s i) (reported (error_at 5 i) v)

module _ (w : Parser) (o : Row) {s : List ℕ} {c : Cursor} {st : Counts} {t t₁ e e₁ : List ℕ} {r₁ : Done} (a : TellsLeaf (brace 125 w) s c st t t₁ e e₁ r₁) where
  -- the brace is there
  pub close_first : ((x : Counts) → r₁ ≡ Err (Miss x) → ⊥) → Closes w o s c st t t₁ e e₁ r₁
  close_first h =
      record {
        doing = λ l left q. record {
          acts = λ v p k. acts_first (missing o c.at.0 s) (λ u. told_rises (error_at 5 c.at.0) (mended o) (here s c.at.0) u)
              (((a.does left q).acting l).doing.acts v p k) h;
        };
      }

  -- it is missing: a copy of the opening one, and report 5
  pub close_missing : (x : Counts) → r₁ ≡ Err (Miss x) → {y : Counts} {e₂ : List ℕ} → Reported (error_at 5 c.at.0) x y e₁ e₂
      → {t₂ : List ℕ} → t₂ ≡ pushed row_width t₁ c.count.0 (row_record charᵏ 1 o.tlow o.low o.high 125)
      → Closes w o s c st t t₂ e e₂ (Ok (cursor c.at.0 (c.count.0 + 1) false, y))
  close_missing x is {y} {e₂} report {t₂} row =
      let er = error_at 5 c.at.0 in
      let r = Ok (cursor c.at.0 (c.count.0 + 1) false, y) in
      record {
        doing = λ l left q. record {
          acts = λ v p k. acts_or [] x (missing o c.at.0 s) (omega arith) (((a.does left q).acting l).doing.acts v p k) is
              λ u n low. acts_push [] (tables t₁ e₁ q) c.count.0 (root (mended o)) (omega arith)
              (subst (λ f. Acts (missing o c.at.0 s u) (l + left) c.count.0 (mended o) (log u) (tables f e₁ q) (tables t₂ e₂ q) r) row
              (acts_told e₂ q (told_logged er u n report)
              (acts_ok (mended o) (here s c.at.0) (reported er u) (l + left) c.count.0 (tables t₂ e₂ q) (cursor c.at.0 (c.count.0 + 1) false) y
              (omega (arith, reported_peak er u)) refl (omega arith) refl (told_counts er u n report))));
        };
      }

-- the place and the one row of an end
pub record Ended (s : List ℕ) (c d : Cursor) : Type 0 where
  pub on : c.at.0 ≤ d.at.0
  pub within : d.at.0 ≤ length s
  pub count : d.count.0 ≡ c.count.0 + 1

pub ended : {w : Parser} {o : Row} {s : List ℕ} {c : Cursor} {st : Counts} {t t' e e' : List ℕ} {r : Done}
    → c.at.0 ≤ length s → Closes w o s c st t t' e e' r → (d : Cursor) (x : Counts) → r ≡ Ok (d, x) → Ended s c d
unfolding rules
ended {w} {o} {s} {c} {st} h a d x q =
    let p = here s c.at.0 in
    let v = some_state st in
    let b = parse (rules s) w 0 p v in
    let f = found (0 + 0) c.count.0 (closed o p b) d x (sym q ∙ ((a.doing 0 0 []).acts v (some_counts st) (omega arith)).answer) in
    let y : Ahead p f.q = subst (On p) f.is (closed_on o p b (ahead (rules s) (reads_on (length s)) w 0 p v)) in
    let n : length f.v ≡ 1 = subst (EachAt (λ v q. length v ≡ 1)) f.is (single p (parse (rules s) (brace 125 w) 0 p v) (marked s 125 w 0 p v)) in
    record { on = omega (arith, f.at, y.on); within = omega (arith, f.at, y.sum, length-drop c.at.0 s); count = omega (arith, f.count, n) }
  where
    single : (p : Input) (b : Reply Rows) → EachAt (Marked 125 p.at) b
        → EachAt (λ v q. length v ≡ 1) (else b λ v. ok (mended o) p (reported (error_at 5 p.at) v))
    single p (ok v q u) m = ap length m.is
    single p (err u) m = refl

-- The block ----------------------------------------------------------------

module _ (t m : Parser) (s : List ℕ) (l : ℕ) where
  -- behind the items a, of a block that began with the brace's row v
  abbrev end_of : Rows → Rows → Input → State → Reply Rows
  end_of v a r u = with (λ c. v ++ a ++ c) (closed (root v) r (parse (rules s) t (suc l) r u))

  -- behind the brace
  abbrev inside : Rows → Input → State → Reply Rows
  inside v q u = then (parse (rules s) (many0 m) (suc l) q (raised (suc l) u)) (end_of v)

  braced_is : (p : Input) (w : State) → parse (rules s) (braced t m) l p w ≡ then (parse (rules s) (brace 123 t) l p w) inside
  braced_is p w =
      ap (λ (g : Rows → Input → State → Reply Rows). then (parse (rules s) (brace 123 t) l p w) g)
      (λ i v q u. joins v (rounds (parse (rules s) m) q.left (suc l) q (raised (suc l) u)) i)
    where
      joins : (v : Rows) (o : Reply (List Rows)) → then o (λ rs r u. end_of v (joined rs) r u) ≡ then (with joined o) (end_of v)
      joins v (ok rs r u) = refl
      joins v (err u) = refl

  closed_rises : (o : Row) (r : Input) (u : State) → u.peak ≤ (state_after (closed o r (parse (rules s) t (suc l) r u))).peak
  closed_rises o r u =
      omega (
        arith,
        rises s (brace 125 t) (suc l) r u,
        peak_else (parse (rules s) (brace 125 t) (suc l) r u) (λ v. ok (mended o) r (reported (error_at 5 r.at) v)) (λ v. told_rises (error_at 5 r.at) (mended o) r v),
      )

  end_rises : (v : Rows) → Rises (end_of v)
  end_rises v a r u = rises_with (λ c. v ++ a ++ c) u.peak (closed (root v) r (parse (rules s) t (suc l) r u)) (closed_rises (root v) r u)

  inside_high : (v : Rows) (q : Input) (u : State) → suc l ≤ (state_after (inside v q u)).peak
  inside_high v q u =
      let w = raised (suc l) u in
      omega (arith, rises s (many0 m) (suc l) q w, peak_then (parse (rules s) (many0 m) (suc l) q w) (end_of v) (end_rises v))

  inside_rises : Rises inside
  inside_rises v q u =
      let w = raised (suc l) u in
      omega (arith, rises s (many0 m) (suc l) q w, peak_then (parse (rules s) (many0 m) (suc l) q w) (end_of v) (end_rises v))

  -- the first tree of a block's rows is its brace
  starts_braced : {lim i : ℕ} {st : Counts} {low : ℕ} → Starts (brace 123 t) s l lim i st low → Starts (braced t m) s l lim i st low
  unfolding rules
  starts_braced {lim} {i} {st} {low} a =
      record {
        first = λ w p k. subst (Each (λ v. first_low v ≡ low)) (sym (braced_is (here s i) w))
            (brace_first (parse (rules s) (brace 123 t) l (here s i) w) (marked s 123 t l (here s i) w) (a.first w p k));
      }
    where
      rows_first : (v a c : Rows) (q : Input) → Marked 123 i v q → first_low v ≡ low → Below 0 a → Below 0 c → first_low (v ++ a ++ c) ≡ low
      rows_first v a c q k e x y =
          let r = mark_row 123 i k.low in
          ap (λ (z : Rows). first_low (z ++ a ++ c)) k.is ∙ first_one r (a ++ c) refl (below_append x y)
          ∙ sym (first_one r [] refl no_rows) ∙ sym (ap first_low k.is) ∙ e

      end_first : (v a : Rows) (q : Input) (o : Reply Rows) → Marked 123 i v q → first_low v ≡ low → Below 0 a → Each (Below 0) o
          → Each (λ v. first_low v ≡ low) (with (λ c. v ++ a ++ c) o)
      end_first v a q (ok c r u) k e x y = rows_first v a c q k e x y
      end_first v a q (err u) k e x y = tt

      items_first : (v : Rows) (q : Input) (o : Reply Rows) → Marked 123 i v q → first_low v ≡ low → Each (Below 0) o → Each (λ v. first_low v ≡ low) (then o (end_of v))
      items_first v q (ok a r u) k e x =
          end_first v a q (closed (root v) r (parse (rules s) t (suc l) r u)) k e x
          (closed_sound (root v) r (sound (rules s) (reads_sound (length s)) t (suc l) r u)).value
      items_first v q (err u) k e x = tt

      brace_first : (o : Reply Rows) → EachAt (Marked 123 i) o → Each (λ v. first_low v ≡ low) o → Each (λ v. first_low v ≡ low) (then o inside)
      brace_first (ok v q u) k e =
          items_first v q (parse (rules s) (many0 m) (suc l) q (raised (suc l) u)) k e
          (sound (rules s) (reads_sound (length s)) (many0 m) (suc l) q (raised (suc l) u)).value
      brace_first (err u) k e = tt

pub starts_block : {s : List ℕ} {l lim i : ℕ} {st : Counts} {met : Bool} {x : Skip} → Skips multiline_trivia s i met x → Starts block s l lim i st x.at.0
unfolding block
starts_block {s} {l} skip =
    starts_over blockᵏ 0 empty (starts_braced multiline_trivia block_item s l (starts_node charᵏ (always 123) (leaf (one (is 123))) line_quiet skip))

-- a brace begins a byte before its end
starts_mark : {b : ℕ} {t : Parser} {s : List ℕ} {l lim i base : ℕ} {st : Counts} {T T₁ : Tables} {r₁ : Done} → Acting (brace b t) s l lim i base st T T₁ r₁
    → (d : Cursor) (x : Counts) → r₁ ≡ Ok (d, x) → (low : ℕ) → low + 1 ≡ d.at.0 → Starts (brace b t) s l lim i st low
starts_mark {b} {t} {s} {l} {lim} {i} {base} a d x q low e =
    record {
      first = λ w p k.
          let o = parse (rules s) (brace b t) l (here s i) w in
          let f = found lim base o d x (sym q ∙ (a.doing.acts w p k).answer) in
          let n = mark_is s b t l (here s i) w f.is in
          subst (Each (λ v. first_low v ≡ low)) (sym f.is)
          (ap first_low n.is ∙ first_one (mark_row b i n.low) [] refl no_rows ∙ (let z : n.low ≡ low = omega (arith, n.at, f.at, e) in z));
    }

module _ {t : Parser} (m : Parser) (k dt : ℕ) {left : ℕ} {s : List ℕ} {c : Cursor} {st : Counts} {T T₁ : Tables} {r₁ : Done} (a : Does (brace 123 t) s c st left T T₁ r₁) where
  abbrev block_of : Parser
  block_of = over k dt (braced t m) empty

  opens : (l : ℕ) (w : State) → counts w ≡ st → w.peak ≤ l + left
      → Acts (parse (rules s) (brace 123 t) l (here s c.at.0) w) (l + left) c.count.0 [] (log w) T T₁ r₁
  opens l w p j = (a.acting l).doing.acts w p j

  braced_from : {T' : Tables} {r : Done} (l : ℕ)
      → ((w : State) → counts w ≡ st → w.peak ≤ l + left
      → Acts (then (parse (rules s) (brace 123 t) l (here s c.at.0) w) (inside t m s l)) (l + left) c.count.0 [] (log w) T T' r)
      → Acting (braced t m) s l (l + left) c.at.0 c.count.0 st T T' r
  braced_from l f = acting_from λ w p j. acts_is (braced_is t m s l (here s c.at.0) w) (f w p j)

  -- no brace
  pub block_out : IsErr r₁ → Does block_of s c st left T T₁ r₁
  block_out h =
      record {
        acting = λ l. over_out
            (seq_empty (braced_from l λ w p j. acts_out [] (inside t m s l) (inside_rises t m s l) (omega arith) (opens l w p j) h)) k dt h;
      }

  module _ (d : Cursor) (x : Counts) (q : r₁ ≡ Ok (d, x)) where
    -- the brace was read, and the rest goes on behind it
    behind_brace : {T' : Tables} {r : Done} (l : ℕ)
        → ((v : Rows) (u : State) → Marked 123 c.at.0 v (here s d.at.0) → d.count.0 ≡ c.count.0 + length v → counts u ≡ x → u.peak ≤ l + left
        → Acts (inside t m s l v (here s d.at.0) u) (l + left) c.count.0 v (log u) T₁ T' r)
        → Acting (braced t m) s l (l + left) c.at.0 c.count.0 st T T' r
    behind_brace l f =
        braced_from l λ w p j. acts_got s [] d x (inside t m s l) (omega arith) (lies s (brace 123 t) l c.at.0 w) (opens l w p j) q
        λ v u e n met o i. f v u (mark_is s 123 t l (here s c.at.0) w e) n o i

    -- no level is left
    pub block_none : {T' : Tables} → left ≡ 0 → Does block_of s c st left T T' (Err Deep)
    block_none z =
        record {
          acting = λ l. over_out
              (seq_empty (behind_brace l λ v u mark n o i. acts_deep (l + left) c.count.0 (inside t m s l v (here s d.at.0) u)
              (omega (arith, z, inside_high t m s l v (here s d.at.0) u)))) k dt refl;
        }

    module _ (some : left ≡ 0 → ⊥) {T₂ : Tables} {r₂ : Done} (b : Does (many0 m) s d x (left - 1) T₁ T₂ r₂) where
      reads_items : (l : ℕ) (u : State) → counts u ≡ x → u.peak ≤ l + left
          → Acts (parse (rules s) (many0 m) (suc l) (here s d.at.0) (raised (suc l) u)) (l + left) d.count.0 [] (log u) T₁ T₂ r₂
      reads_items l u o f =
          subst (λ n. Acts (parse (rules s) (many0 m) (suc l) (here s d.at.0) (raised (suc l) u)) n d.count.0 [] (log u) T₁ T₂ r₂)
          (let z : suc l + (left - 1) ≡ l + left = omega arith in z) ((b.acting (suc l)).doing.acts (raised (suc l) u) o (omega arith))

      -- the items go too deep
      pub block_items : IsErr r₂ → Does block_of s c st left T T₂ r₂
      block_items h =
          record {
            acting = λ l. over_out
                (seq_empty (behind_brace l λ v u mark n o i. acts_out v (end_of t m s l v) (end_rises t m s l v) n (reads_items l u o i) h)) k dt h;
          }

      module _ (low : ℕ) (at : low + 1 ≡ d.at.0) (g : Cursor) (y : Counts) (q₂ : r₂ ≡ Ok (g, y)) {t₃ e₃ : List ℕ} {r₃ : Done}
          (e : Closes t (opening c.at.0 low) s g y T₂.rows t₃ T₂.errors e₃ r₃) where
        abbrev T₃ : Tables
        T₃ = tables t₃ e₃ T₂.requests

        in_braces : (l : ℕ) → Acting (braced t m) s l (l + left) c.at.0 c.count.0 st T T₃ r₃
        in_braces l =
            let o = opening c.at.0 low in
            let r = here s g.at.0 in
            behind_brace l λ v u mark n i f.
            acts_got s v g y (end_of t m s l v) n (lies s (many0 m) (suc l) d.at.0 (raised (suc l) u)) (reads_items l u i f) q₂
            λ v₂ u₂ z₂ n₂ met₂ i₂ f₂.
            let is : root v ≡ o = ap root mark.is ∙ ap (opening c.at.0) (let j : mark.low ≡ low = omega (arith, mark.at, at) in j) in
            acts_is (ap (λ (o : Row). with (λ c. v ++ v₂ ++ c) (closed o r (parse (rules s) t (suc l) r u₂))) is)
            (acts_with (closed o r (parse (rules s) t (suc l) r u₂)) (v ++ v₂) n₂
            (subst (λ n. Acts (closed o r (parse (rules s) t (suc l) r u₂)) n g.count.0 [] (log u₂) T₂ T₃ r₃)
            (let j : suc l + (left - 1) ≡ l + left = omega arith in j) ((e.doing (suc l) (left - 1) T₂.requests).acts u₂ i₂ (omega arith))))

        -- the end does not answer
        pub block_end : IsErr r₃ → Does block_of s c st left T T₃ r₃
        block_end h = record { acting = λ l. over_out (seq_empty (in_braces l)) k dt h }

        -- the block is read: its row of n rows in all
        pub block_got : (h : Cursor) (z : Counts) → r₃ ≡ Ok (h, z) → (n : ℕ) → n + c.count.0 ≡ h.count.0 + 1
            → {f : List ℕ} → f ≡ pushed row_width t₃ h.count.0 (row_record k n c.at.0 low h.at.0 dt)
            → Does block_of s c st left T (tables f e₃ T₂.requests) (Ok (cursor h.at.0 (h.count.0 + 1) false, z))
        block_got h z q₃ n size is =
            record {
              acting = λ l.
                  over_got (seq_empty (in_braces l)) (starts_braced t m s l (starts_mark (a.acting l) d x q low at)) k h z q₃ n size dt is;
            }

-- The loops of the reader: chains of operators and parts, lists with commas, and many0.
use mathlib.Core.Path.{◌≡◌, refl, ap, ap₂, sym, subst, ◌∙◌}
use mathlib.Core.Bool.{Bool, true, false, ◌||◌, or_assoc, or-false, or_self}
use mathlib.Core.List.{List, [], ◌∷◌, ◌++◌, append-nil, append_assoc}
use Prim.Native.Nat.{ℕ, suc, ◌+◌, ◌*◌, ◌≤◌, ◌<◌, max}
use native.Mathlib.Omega.{arith}
use lib.Dec.{T, leb→le}
use lib.ListN.{length, drop, length-append}
use Rattle.reading.specs.Kind.{binaryᵏ}
use Rattle.reading.specs.Grammar.{Row, Rows, Input, Parser, ◌▸◌, many0, chain, root, binary, folded, joined}
use Rattle.reading.specs.Reading.{start, reads}
use Rattle.reading.specs.Summary.{Summary, fits, fails, applied, more, thenˢ, withˢ, roundsˢ, scan, scans}
use Rattle.reading.specs.Table.{row_width}
use Rattle.reading.proofs.Tests.{quiet}
use Rattle.reading.proofs.Fuel.{reads_on}
use Rattle.reading.proofs.Quiet.{parse_quiet}
use Rattle.reading.proofs.Cost.{cost, slim, paid}
use Rattle.reading.proofs.Moves.{moves, Past, moving, reads_moving}
use Rattle.reading.proofs.Summaries.{Holds, Yields}
use Rattle.table.specs.Words.{pushed, row_record}
use Rattle.cursor.specs.Text.{here, cursor}
use Rattle.cursor.specs.Agree.{full, Agrees, Reading, Reads, Leafs}
use Rattle.cursor.specs.declared.Cursor.{Cursor}
use Rattle.cursor.specs.Read.{Read}
use Rattle.cursor.proofs.Agree.{found, found_here, lost, agrees_is, agrees_more, agrees_ok, agrees_err, agrees_push, agrees_got, agrees_found, not_got}
use Rattle.cursor.proofs.Agree.{kept, agrees_kept, agrees_out}
use Rattle.cursor.proofs.Lows.{Low, low_root, root_under}
use Rattle.cursor.proofs.Laws.{lies, rooted_at, moved, Solid, Stepped, stepped, seq_out, seq_got}
use Rattle.cursor.proofs.Rounds.{with_is, Loop, left_of, left_stop, Going, going_start, Joined, going_more, going_stop, going_deep}
use Rattle.cursor.proofs.Rounds.{Progress, progress_none, progress_on}
use Rattle.cursor.specs.declared.Stop.TheVariants.{Miss, Deep}
use Rattle.std.specs.Prelude.{Ok, Err, IsErr}

-- Chains ---------------------------------------------------------------------

-- the root of the rows so far begins at `low`
abbrev pub chain_loop : Parser → Parser → ℕ → Loop
chain_loop o m low =
    record {
      round = o ▸ m;
      end = λ s l acc vs q. fits (folded acc vs) q false 0;
      grow = binary;
      joins = λ s l acc v vs q. refl;
      Keeps = λ acc. (root acc).low ≡ low;
    }

-- the loop of a chain stands at `at`; it began behind the first part, whose rows are acc₀, at at₀ with count₀ rows
pub record Chained (o m : Parser) (s : List ℕ) (base low left at₀ count₀ : ℕ) (met₀ : Bool) (t₀ : List ℕ) (at count : ℕ) (met : Bool) (t : List ℕ) : Type 0 where
  pub progress : Progress s at₀ count₀ t₀ at count t
  pub grown : base < count
  pub carries : (l : ℕ) (acc₀ : Rows) → count₀ ≡ base + length acc₀ → (root acc₀).low ≡ low
      → Going (chain_loop o m low) s l (l + left) base at₀ met₀ t₀ acc₀ at count met t

pub chained_none : (o m : Parser) (s : List ℕ) (base low left at count : ℕ) (met : Bool) (t : List ℕ) → at ≤ length s → base < count
    → Chained o m s base low left at count met t at count met t
chained_none o m s base low left at count met t h g =
    record {
      progress = progress_none s at count t h;
      grown = g;
      carries = λ l acc e x. going_start (chain_loop o m low) s l (l + left) base at count met t acc e x;
    }

-- what is left of the chain agrees, whatever the rows of the first part are
abbrev pub ChainLeft : (o m : Parser) (s : List ℕ) (base low left at₀ count₀ : ℕ) (met₀ : Bool) (t₀ t' : List ℕ) → Read → Type 0
ChainLeft o m s base low left at₀ count₀ met₀ t₀ t' r =
    (l : ℕ) (acc₀ : Rows) → count₀ ≡ base + length acc₀ → (root acc₀).low ≡ low
    → Agrees (left_of (chain_loop o m low) s l (drop at₀ s) acc₀ at₀) (l + left) met₀ base acc₀ t₀ t' r

module _ {o m : Parser} (ok : Solid (o ▸ m)) {s : List ℕ} {base low left at₀ count₀ : ℕ} {met₀ : Bool} {t₀ : List ℕ} {at count : ℕ} {met : Bool} {t : List ℕ}
    (u : Chained o m s base low left at₀ count₀ met₀ t₀ at count met t) {t₁ : List ℕ} {r₁ : Read} (a : Reads (o ▸ m) s (cursor at count met) left t t₁ r₁) where
  pub chain_step : (d : Cursor) → r₁ ≡ Ok d → Stepped s at count d
  chain_step d e = stepped ok d u.progress.within (a.reading 0) e

  -- one part more, and the row of the pair; its bytes pay for that too
  pub chain_more : (cost (o ▸ m)).debt + 1 ≤ (cost (o ▸ m)).gain → (d : Cursor) → r₁ ≡ Ok d → (y : ℕ) → y + base ≡ d.count.0 + 1
      → length t₁ ≡ length t → {t₂ : List ℕ} → t₂ ≡ pushed row_width t₁ d.count.0 (row_record binaryᵏ y low low d.at.0 0) → length t₂ ≡ length t₁
      → Chained o m s base low left at₀ count₀ met₀ t₀ d.at.0 (d.count.0 + 1) d.met t₂
  chain_more pair d e y z same {t₂} eq same₂ =
      let st = chain_step d e in
      let mv = moved (o ▸ m) ok.quieted ok.slimmed d u.progress.within (a.reading 0) e in
      record {
        progress = progress_on u.progress (omega (arith, st.on)) st.within (omega (arith, mv.rows, pair)) (same₂ ∙ same);
        grown = omega (arith, u.grown, st.grown);
        carries = λ l acc₀ e₀ x₀. on l (u.carries l acc₀ e₀ x₀);
      }
    where
      on : (l : ℕ) {acc₀ : Rows} → Going (chain_loop o m low) s l (l + left) base at₀ met₀ t₀ acc₀ at count met t
          → Going (chain_loop o m low) s l (l + left) base at₀ met₀ t₀ acc₀ d.at.0 (d.count.0 + 1) d.met t₂
      on l g =
          let st = chain_step d e in
          going_more g (a.reading l) ok.quieted d e st.on st.within (d.count.0 + 1) t₂ λ v b k p c.
          let rt = rooted_at s (o ▸ m) ok.rooting l at p in
          pair_joins g.acc v c g.keeps rt.high
        where
          pair_joins : (acc v : Rows) → d.count.0 ≡ base + length (acc ++ v) → (root acc).low ≡ low → (root v).high ≡ d.at.0
              → Joined (chain_loop o m low) base acc v t₁ (d.count.0 + 1) t₂
          pair_joins acc v c h i =
              let x : Row = record { kind = binaryᵏ; size = suc (length (acc ++ v)); tlow = (root acc).low; low = (root acc).low; high = (root v).high; detail = 0 } in
              let n : y ≡ suc (length (acc ++ v)) = omega arith in
              let rec : row_record binaryᵏ y low low d.at.0 0 ≡ row_record binaryᵏ (suc (length (acc ++ v))) (root acc).low (root acc).low (root v).high 0 =
              ap₂ (λ (y h : ℕ). row_record binaryᵏ y low low h 0) n (sym i) ∙ ap (λ (a : ℕ). row_record binaryᵏ (suc (length (acc ++ v))) a a (root v).high 0) (sym h) in
              record {
                rows = omega (arith, length-append (acc ++ v) (x ∷ []));
                keeps = root_under binaryᵏ 0 (root acc).low (root acc).low (root v).high (acc ++ v) ∙ h;
                back = λ {o} {lim} {met} {t'} {r} w. agrees_push (acc ++ v) t₁ d.count.0 x c
                    (subst (λ (t₂ : List ℕ). Agrees o lim met base (binary acc v) t₂ t' r) (eq ∙ ap (pushed row_width t₁ d.count.0) rec) w);
              }

  -- no part more
  pub chain_end : (x : Bool) → r₁ ≡ Err (Miss x) → ChainLeft o m s base low left at₀ count₀ met₀ t₀ t₁ (Ok (cursor at count x))
  chain_end x e l acc₀ e₀ x₀ =
      let g = u.carries l acc₀ e₀ x₀ in
      going_stop g (a.reading l) x e (agrees_ok g.acc (here s at) (l + left) x base t₁ false 0 count x (omega arith) g.rows (sym (or-false x)))

  -- a part was too deep
  pub chain_deep : r₁ ≡ Err Deep → ChainLeft o m s base low left at₀ count₀ met₀ t₀ t₁ (Err Deep)
  chain_deep e l acc₀ e₀ x₀ = going_deep (u.carries l acc₀ e₀ x₀) (a.reading l) e

-- the whole of a chain
module _ (o m : Parser) {s : List ℕ} {c : Cursor} {left : ℕ} {t t₁ : List ℕ} {r₁ : Read} (a : Reads m s c left t t₁ r₁) where
  abbrev chain_rest : ℕ → Rows → Input → Summary Rows
  chain_rest l v q = withˢ (folded v) (roundsˢ (scan (full s) (o ▸ m)) q.left l q)

  pub chain_out : IsErr r₁ → Reads (chain o m) s c left t t₁ r₁
  chain_out h = record { reading = λ l. record { agrees = agrees_out [] (chain_rest l) (omega arith) (a.reading l).agrees h } }

  pub chain_got : T (quiet m) → (low : ℕ) → ((l : ℕ) → Yields (Low low) (scan (full s) m l (here s c.at.0))) → (d : Cursor) → r₁ ≡ Ok d
      → {t' : List ℕ} {r : Read} → ChainLeft o m s c.count.0 low left d.at.0 d.count.0 d.met t₁ t' r → Reads (chain o m) s c left t t' r
  unfolding left_of
  chain_got u low lows d e f =
      record {
        reading = λ l. record {
          agrees = agrees_got s [] d (chain_rest l) (omega arith) (lies s m u l c.at.0) (a.reading l).agrees e
              λ v b k p n. agrees_is (with_is (folded v) (roundsˢ (scan (full s) (o ▸ m)) (drop d.at.0 s) l (here s d.at.0))) (f l v n (low_root (lows l) p));
        };
      }

-- Lists ----------------------------------------------------------------------

pub with_same : (f g : Rows → Rows) (o : Summary Rows) → ((v : Rows) → f v ≡ g v) → withˢ f o ≡ withˢ g o
with_same f g (fits v q b k) h = ap (λ v. fits v q b k) (h v)
with_same f g (fails b k) h = refl

-- items with commas, and one more item, which was tried with a comma before
abbrev pub list_loop : Parser → Parser → Loop
list_loop m c =
    record {
      round = m ▸ c;
      end = λ s l acc vs q. withˢ (λ v. acc ++ (joined vs ++ v)) (scan (full s) m l q);
      grow = ◌++◌;
      joins = λ s l acc v vs q. with_same (λ u. acc ++ ((v ++ joined vs) ++ u)) (λ u. (acc ++ v) ++ (joined vs ++ u)) (scan (full s) m l q)
          λ u. ap (acc ++◌) (append_assoc v (joined vs) u) ∙ sym (append_assoc acc v (joined vs ++ u));
      Keeps = λ acc. Unit {0};
    }

then_with : {A B : Type 0} (f : A → B) (o : Summary A) (g : B → Input → Summary Rows) → thenˢ (withˢ f o) g ≡ thenˢ o λ a q. g (f a) q
then_with f (fits a q b k) g = refl
then_with f (fails b k) g = refl

list_all : (m c : Parser) (s : List ℕ) (l i : ℕ) → scan (full s) (many0 (m ▸ c) ▸ m) l (here s i) ≡ left_of (list_loop m c) s l (drop i s) [] i
unfolding left_of
list_all m c s l i = then_with joined (roundsˢ (scan (full s) (m ▸ c)) (drop i s) l (here s i)) (λ a q. withˢ (a ++◌) (scan (full s) m l q))

or_again : (m b x : Bool) → x ≡ m || b → x ≡ x || b
or_again m b x e = e ∙ ap (λ (y : Bool). m || y) (sym (or_self b)) ∙ sym (or_assoc m b b) ∙ ap (λ (y : Bool). y || b) (sym e)

or_first_again : (a b : Bool) → (a || b) || a ≡ a || (b || false)
or_first_again true b = refl
or_first_again false b = refl

-- the item fits and the comma does not: the item, once
list_last_is : (m c : Parser) (s : List ℕ) (l : ℕ) (f : List ℕ) (acc v : Rows) (i j : ℕ) (b d : Bool) (k n : ℕ)
    → scan (full s) m l (here s i) ≡ fits v (here s j) b k → scan (full s) c l (here s j) ≡ fails d n
    → left_of (list_loop m c) s l f acc i ≡ more b k (more d n (fits (acc ++ v) (here s j) false 0))
list_last_is m c s l f acc v i j b d k n e g =
    left_stop (list_loop m c) s l f acc i (b || d) (max k n)
    (ap (λ o. thenˢ o λ a q. withˢ (a ++◌) (scan (full s) c l q)) e ∙ ap (λ o. more b k (withˢ (v ++◌) o)) g)
    ∙ ap (λ o. more (b || d) (max k n) (withˢ (λ v. acc ++ v) o)) e
    ∙ ap₂ (fits (acc ++ v) (here s j)) (or_first_again b d) (let z : max (max k n) k ≡ max k (max n 0) = omega arith in z)

-- the loop of a list stands at `at`
pub record Listed (m c : Parser) (s : List ℕ) (left at₀ count₀ : ℕ) (met₀ : Bool) (t₀ : List ℕ) (at count : ℕ) (met : Bool) (t : List ℕ) : Type 0 where
  pub progress : Progress s at₀ count₀ t₀ at count t
  pub carries : (l : ℕ) → Going (list_loop m c) s l (l + left) count₀ at₀ met₀ t₀ [] at count met t

pub listed_none : (m c : Parser) (s : List ℕ) (left at count : ℕ) (met : Bool) (t : List ℕ) → at ≤ length s
    → Listed m c s left at count met t at count met t
listed_none m c s left at count met t h =
    record { progress = progress_none s at count t h; carries = λ l. going_start (list_loop m c) s l (l + left) count at count met t [] (omega arith) tt }

module _ {m c : Parser} {s : List ℕ} {left at₀ count₀ : ℕ} {met₀ : Bool} {t₀ : List ℕ} {at count : ℕ} {met : Bool} {t : List ℕ}
    (u : Listed m c s left at₀ count₀ met₀ t₀ at count met t) {t₁ : List ℕ} {r₁ : Read} (a : Reads m s (cursor at count met) left t t₁ r₁) where
  list_whole : {t' : List ℕ} {r : Read} → ((l : ℕ) → Agrees (left_of (list_loop m c) s l (drop at₀ s) [] at₀) (l + left) met₀ count₀ [] t₀ t' r)
      → Reads (many0 (m ▸ c) ▸ m) s (cursor at₀ count₀ met₀) left t₀ t' r
  list_whole f = record { reading = λ l. record { agrees = agrees_is (list_all m c s l at₀) (f l) } }

  -- an item does not fit, or is too deep
  pub list_out : IsErr r₁ → Reads (many0 (m ▸ c) ▸ m) s (cursor at₀ count₀ met₀) left t₀ t₁ r₁
  list_out h = list_whole λ l. go l (u.carries l) r₁ refl
    where
      go : (l : ℕ) → Going (list_loop m c) s l (l + left) count₀ at₀ met₀ t₀ [] at count met t → (r : Read) → r₁ ≡ r
          → Agrees (left_of (list_loop m c) s l (drop at₀ s) [] at₀) (l + left) met₀ count₀ [] t₀ t₁ r
      go l g (Ok d) e = absurd (not_got e h)
      go l g (Err (Miss x)) e =
          let y = lost (l + left) met count (scan (full s) m l (here s at)) x (sym e ∙ (a.reading l).agrees.answer) in
          going_stop g (seq_out (a.reading l) c h) x e
          (agrees_is (ap (withˢ λ v. g.acc ++ v) y.is) (agrees_err (l + left) x count₀ g.acc t₁ y.b y.k x y.low (or_again met y.b x y.noted)))
      go l g (Err Deep) e = going_deep g (seq_out (a.reading l) c h) e

  module _ (ok : Solid m) (d : Cursor) (e : r₁ ≡ Ok d) where
    pub list_step : Stepped s at count d
    list_step = stepped ok d u.progress.within (a.reading 0) e

    module _ {t₂ : List ℕ} {r₂ : Read} (b : Leafs c s d t₁ t₂ r₂) where
      -- the last item
      pub list_last : (x : Bool) → r₂ ≡ Err (Miss x) → Reads (many0 (m ▸ c) ▸ m) s (cursor at₀ count₀ met₀) left t₀ t₂ (Ok (cursor d.at.0 d.count.0 x))
      list_last x q = list_whole λ l. go l (u.carries l)
        where
          go : (l : ℕ) → Going (list_loop m c) s l (l + left) count₀ at₀ met₀ t₀ [] at count met t
              → Agrees (left_of (list_loop m c) s l (drop at₀ s) [] at₀) (l + left) met₀ count₀ [] t₀ t₂ (Ok (cursor d.at.0 d.count.0 x))
          go l g =
              let y = (a.reading l).agrees in
              let z = (b.reading l (l + left)).agrees in
              let lie = lies s m ok.quieted l at in
              let f = found (l + left) met count (scan (full s) m l (here s at)) d (sym e ∙ y.answer) in
              let h = lost (l + left) d.met d.count.0 (scan (full s) c l (here s d.at.0)) x (sym q ∙ z.answer) in
              let v = g.acc ++ f.v in
              let n : d.count.0 ≡ count₀ + length v = omega (arith, f.count, g.rows, length-append g.acc f.v) in
              let o = fits v (here s d.at.0) false 0 in
              let r = Ok (cursor d.at.0 d.count.0 x) in
              g.back t₂ r
              (agrees_is (list_last_is m c s l g.fuel g.acc f.v at d.at.0 f.b h.b f.k h.k (found_here s lie f) h.is
              ∙ sym (ap (λ z. thenˢ z λ _ _. more h.b h.k o) (found_here s lie f)))
              (agrees_found s g.acc (λ _ _. more h.b h.k o) g.rows lie y f
              (agrees_kept v (kept v x n z q)
              (agrees_more o h.b h.k h.low
              (subst (λ (m : Bool). Agrees o (l + left) m count₀ v t₂ t₂ r) h.noted
              (agrees_ok v (here s d.at.0) (l + left) x count₀ t₂ false 0 d.count.0 x (omega arith) n (sym (or-false x))))))))

      -- and there is another
      pub list_more : Solid (m ▸ c) → (n : Cursor) → r₂ ≡ Ok n → length t₁ ≡ length t → length t₂ ≡ length t₁
          → Listed m c s left at₀ count₀ met₀ t₀ n.at.0 n.count.0 n.met t₂
      list_more pair n q same same₂ =
          let st = stepped pair n u.progress.within (both 0) q in
          record {
            progress = progress_on u.progress (omega (arith, st.on)) st.within st.rows (same₂ ∙ same);
            carries = λ l.
                going_more (u.carries l) (both l) pair.quieted n q st.on st.within n.count.0 t₂ λ v b k p i.
                record { rows = i; keeps = tt; back = λ w. w };
          }
        where
          both : (l : ℕ) → Reading (m ▸ c) s l (l + left) at met count t t₂ r₂
          both l = seq_got (a.reading l) c ok.quieted d e (b.reading l (l + left))

-- many0 ----------------------------------------------------------------------

abbrev pub many_loop : Parser → Loop
many_loop m =
    record {
      round = m;
      end = λ s l acc vs q. fits (acc ++ joined vs) q false 0;
      grow = ◌++◌;
      joins = λ s l acc v vs q. ap (λ v. fits v q false 0) (sym (append_assoc acc v (joined vs)));
      Keeps = λ acc. Unit {0};
    }

many_all : (m : Parser) (s : List ℕ) (l i : ℕ) → scan (full s) (many0 m) l (here s i) ≡ left_of (many_loop m) s l (drop i s) [] i
unfolding left_of
many_all m s l i = with_is joined (roundsˢ (scan (full s) m) (drop i s) l (here s i))

-- what moves reads a byte
scan_moves : (n : ℕ) (m : Parser) → T (quiet m) → T (moves m) → (l : ℕ) (p : Input) → Yields (λ v q. p.at < q.at) (scan (scans n) m l p)
scan_moves n m u w l p =
    let e = p.at + length p.left in
    record {
      holds = turn e (scan (scans n) m l p)
          (subst (Past p) (parse_quiet e n m u l p (start 0 false) refl) (moving (reads n) (reads_on n) (reads_moving n) m w l p (start 0 false)));
    }
  where
    turn : (e : ℕ) (o : Summary Rows) → Past p (applied e o (start 0 false)) → Holds (λ v q. p.at < q.at) o
    turn e (fits v q b k) h = h
    turn e (fails b k) h = tt

pub record Repeatable (m : Parser) : Type 0 where
  pub quieted : T (quiet m)
  pub slimmed : T (slim m)
  pub moving : T (moves m)
  pub paying : T (paid (cost m))

-- a round reads a byte, and its bytes pay for its rows
pub record Round (s : List ℕ) (i n : ℕ) (d : Cursor) : Type 0 where
  pub on : i < d.at.0
  pub within : d.at.0 ≤ length s
  pub rows : d.count.0 + 4 * i ≤ 4 * d.at.0 + n

-- The loop of many0 stands at `at`. It is said of all levels l and of the limits `lims l j`: l + left where levels are entered (Reads), and j
-- where none are (Leafs).
pub record Looped (lims : ℕ → ℕ → ℕ) (m : Parser) (s : List ℕ) (at₀ count₀ : ℕ) (met₀ : Bool) (t₀ : List ℕ) (at count : ℕ) (met : Bool) (t : List ℕ) : Type 0 where
  pub progress : Progress s at₀ count₀ t₀ at count t
  pub carries : (l j : ℕ) → Going (many_loop m) s l (lims l j) count₀ at₀ met₀ t₀ [] at count met t

pub looped_none : (lims : ℕ → ℕ → ℕ) (m : Parser) (s : List ℕ) (at count : ℕ) (met : Bool) (t : List ℕ) → at ≤ length s
    → Looped lims m s at count met t at count met t
looped_none lims m s at count met t h =
    record { progress = progress_none s at count t h; carries = λ l j. going_start (many_loop m) s l (lims l j) count at count met t [] (omega arith) tt }

module _ {lims : ℕ → ℕ → ℕ} {m : Parser} {s : List ℕ} {at₀ count₀ : ℕ} {met₀ : Bool} {t₀ : List ℕ} {at count : ℕ} {met : Bool} {t : List ℕ}
    (u : Looped lims m s at₀ count₀ met₀ t₀ at count met t) {t₁ : List ℕ} {r₁ : Read} (a : (l j : ℕ) → Reading m s l (lims l j) at met count t t₁ r₁) where
  pub many_step : Repeatable m → (d : Cursor) → r₁ ≡ Ok d → Round s at count d
  unfolding full
  many_step ok d e =
      let f = found (lims 0 0) met count (scan (full s) m 0 (here s at)) d (sym e ∙ (a 0 0).agrees.answer) in
      let fwd = (subst (Yields λ v q. at < q.at) f.is (scan_moves (length s) m ok.quieted ok.moving 0 (here s at))).holds in
      let mv = moved m ok.quieted ok.slimmed d u.progress.within (a 0 0) e in
      record { on = omega (arith, f.at, fwd); within = mv.within; rows = omega (arith, mv.rows, leb→le (cost m).debt (cost m).gain ok.paying) }

  -- one round more
  pub many_more : Repeatable m → (d : Cursor) → r₁ ≡ Ok d → length t₁ ≡ length t
      → Looped lims m s at₀ count₀ met₀ t₀ d.at.0 d.count.0 d.met t₁
  many_more ok d e same =
      let st = many_step ok d e in
      record {
        progress = progress_on u.progress (omega (arith, st.on)) st.within st.rows same;
        carries = λ l j.
            going_more (u.carries l j) (a l j) ok.quieted d e st.on st.within d.count.0 t₁ λ v b k p i.
            record { rows = i; keeps = tt; back = λ w. w };
      }

  many_whole : (l j : ℕ) {r : Read} → Agrees (left_of (many_loop m) s l (drop at₀ s) [] at₀) (lims l j) met₀ count₀ [] t₀ t₁ r
      → Reading (many0 m) s l (lims l j) at₀ met₀ count₀ t₀ t₁ r
  many_whole l j b = record { agrees = agrees_is (many_all m s l at₀) b }

  -- no round more
  pub many_end : (x : Bool) → r₁ ≡ Err (Miss x) → (l j : ℕ) → Reading (many0 m) s l (lims l j) at₀ met₀ count₀ t₀ t₁ (Ok (cursor at count x))
  many_end x e l j =
      let g = u.carries l j in
      many_whole l j (going_stop g (a l j) x e
      (agrees_is (ap (λ v. fits v (here s at) false 0) (append-nil g.acc))
      (agrees_ok g.acc (here s at) (lims l j) x count₀ t₁ false 0 count x (omega arith) g.rows (sym (or-false x)))))

  -- a round was too deep
  pub many_deep : r₁ ≡ Err Deep → (l j : ℕ) → Reading (many0 m) s l (lims l j) at₀ met₀ count₀ t₀ t₁ (Err Deep)
  many_deep e l j = many_whole l j (going_deep (u.carries l j) (a l j) e)

-- The request of an import, from the rows of its file name: from the opening quote to the last piece, which ends where the closing quote begins.
use mathlib.Core.Path.{◌≡◌, refl, ap, ap₂, ◌∙◌}
use mathlib.Core.Bool.{Bool, true, false}
use mathlib.Core.List.{List, [], ◌∷◌, ◌++◌, append-nil}
use mathlib.Core.Option.{Option, none, some}
use Prim.Native.Nat.{ℕ, ◌+◌, ◌-◌, ◌≤◌}
use native.Mathlib.Omega.{arith}
use lib.Dec.{T as Passes, ltb}
use lib.ListN.{length}
use Rattle.reading.specs.Byte.{is}
use Rattle.reading.specs.Kind.{charᵏ, stringᵏ}
use Rattle.reading.specs.Grammar.{Row, Rows, State, Request, Input, ok, ◌▸◌, many0, no_row, root_or, root, joined, all_but_last, request_of, one_of, always, parse}
use Rattle.reading.specs.Rules.{char, byte, trivia, piece, quoted_string, all_rules}
use Rattle.reading.specs.Summary.{Summary, fits, fails, thenˢ, withˢ, gateˢ, last_roundˢ, next_roundˢ, Scan, roundsˢ, takeˢ, scan}
use Rattle.reading.proofs.Summaries.{Yields, Rooted, rooted, scan_rooted, more_yields, then_yields, with_yields}
use Rattle.reading.proofs.Tests.{quiet}
use Rattle.cursor.specs.Text.{here, Skips}
use Rattle.cursor.specs.Agree.{full}
use Rattle.cursor.specs.declared.Skip.{Skip}
use Rattle.cursor.proofs.Lows.{Low, low_first, low_node, low_over}
use Rattle.state.specs.Acts.{rules}
use Rattle.state.proofs.Laws.{quiet_yields}
use Rattle.state.proofs.Blocks.{One, one_one}

-- Rows ---------------------------------------------------------------------

root_behind : (r : Row) (a b : Rows) → 1 ≤ length a → root_or r (a ++ b) ≡ root_or (root a) b
root_behind r [] b h = absurd (let z : ⊥ = omega arith in z)
root_behind r (x ∷ []) b h = refl
root_behind r (x ∷ (y ∷ a)) b h = root_behind x (y ∷ a) b (omega arith)

but_last : (v : Rows) (r : Row) → all_but_last (v ++ (r ∷ [])) ≡ v
but_last [] r = refl
but_last (x ∷ []) r = refl
but_last (x ∷ (y ∷ v)) r = ap (x ∷◌) (but_last (y ∷ v) r)

-- Pieces -------------------------------------------------------------------

-- behind a row that ends at i, the last row of v ends n bytes before q
abbrev Follows : ℕ → ℕ → Rows → Input → Type 0
Follows i n v q = (r : Row) → r.high ≡ i → (root_or r v).high + n ≡ q.at

abbrev FollowAll : ℕ → List Rows → Input → Type 0
FollowAll i vs q = Follows i 0 (joined vs) q

gate_yields : {A : Type 0} {P : A → Input → Type 0} (b : Bool) (f : Unit {0} → Summary A) → Yields P (f tt) → Yields P (gateˢ b f)
gate_yields true f h = h
gate_yields false f h = record { holds = tt }

last_follows : (p : Input) (o : Summary Rows) → Yields (FollowAll p.at) (last_roundˢ p o)
last_follows p (fits a q b k) = record { holds = tt }
last_follows p (fails b k) = record { holds = λ r e. omega arith }

next_follows : (p : Input) (o : Summary Rows) (f : Input → Summary (List Rows)) → Yields Rooted o → ((q : Input) → Yields (FollowAll q.at) (f q))
    → Yields (FollowAll p.at) (next_roundˢ p o f)
next_follows p (fits a q b k) f h e =
    more_yields b k (gate_yields (ltb p.at q.at) (λ t. thenˢ (f q) λ rest r. fits (a ∷ rest) r false 0)
    (then_yields (e q) λ vs r g. record { holds = λ x i. ap (λ (y : Row). y.high + 0) (root_behind x a (joined vs) h.holds.some) ∙ g (root a) h.holds.high }))
next_follows p (fails b k) f h e = record { holds = λ r e. omega arith }

rounds_follow : (m : Scan Rows) → ((l : ℕ) (p : Input) → Yields Rooted (m l p)) → (f : List ℕ) (l : ℕ) (p : Input) → Yields (FollowAll p.at) (roundsˢ m f l p)
rounds_follow m h [] l p = last_follows p (m l p)
rounds_follow m h (b ∷ f) l p = next_follows p (m l p) (λ q. roundsˢ m f l q) (h l p) λ q. rounds_follow m h f l q

-- a closing byte
byte_behind : (o : Option ℕ) (p : Input) → One o → Yields (λ v q. (v ≡ []) × (q.at ≡ p.at + 1)) (takeˢ o p)
byte_behind none p h = record { holds = tt }
byte_behind (some n) p h = record { holds = (refl, ap (p.at +◌) h) }

-- The file name ------------------------------------------------------------

piece_rooted : Passes (rooted piece)
unfolding piece
piece_rooted = tt

quoted_quiet : Passes (quiet quoted_string)
unfolding all_rules
quoted_quiet = tt

pieces_follow : (s : List ℕ) (l : ℕ) (p : Input) → Yields (Follows p.at 1) (scan (full s) (many0 piece ▸ byte "\"") l p)
unfolding full
pieces_follow s l p =
    let pieces : Yields (Follows p.at 0) (scan (full s) (many0 piece) l p) =
    with_yields joined (rounds_follow (scan (full s) piece) (scan_rooted (length s) piece piece_rooted) p.left l p) λ vs q g. g in
    then_yields {f = λ a q. withˢ (a ++◌) (scan (full s) (byte "\"") l q)} pieces
    λ a q g. with_yields (a ++◌) (byte_behind (one_of (is 34) q.left) q (one_one (is 34) q.left))
    λ b r h x e. ap (λ (v : Rows). (root_or x v).high + 1) (ap (a ++◌) h.0 ∙ append-nil a)
    ∙ (let y : (root_or x a).high + 1 ≡ r.at = omega (arith, g x e, h.1) in y)

module _ {s : List ℕ} {i : ℕ} {met : Bool} {x : Skip} (skip : Skips trivia s i met x) (l : ℕ) where
  string_high : Yields (λ v q. (root (all_but_last v)).high + 1 ≡ q.at) (scan (full s) quoted_string l (here s i))
  unfolding quoted_string full
  string_high =
      then_yields (scan_rooted (length s) (char "\"") tt l (here s i)) λ a q h. then_yields (pieces_follow s l q)
      λ b r g. record {
        holds = ap (λ (v : Rows). (root v).high + 1) (but_last (a ++ b) _) ∙ ap (λ (y : Row). y.high + 1) (root_behind no_row a b h.some)
            ∙ g (root a) h.high;
      }

  string_low : Yields (Low x.at.0) (scan (full s) quoted_string l (here s i))
  unfolding quoted_string
  string_low = low_over stringᵏ 0 (char "\"") (many0 piece ▸ byte "\"") s l i (low_first (low_node charᵏ skip l (always 34) (byte "\"")))

  pub request_is : i ≤ length s → (w : State) (v : Rows) (e : ℕ) (u : State) → parse (rules s) quoted_string l (here s i) w ≡ ok v (here s e) u
      → request_of v ≡ record { low = x.at.0; high = e - 1 }
  request_is h w v e u z =
      let high = quiet_yields s quoted_string l i quoted_quiet h string_high w v (here s e) u z in
      let low = (quiet_yields s quoted_string l i quoted_quiet h string_low w v (here s e) u z).root_low in
      ap₂ {C = Request} (λ a b. record { low = a; high = b }) low (let y : (root (all_but_last v)).high ≡ e - 1 = omega arith in y)

-- What the shared parts of statements do: a quiet reader's answer with the state, the row around a statement, what stands behind its head.
use Rattle.std.specs.Prelude.{Bool, true, false, List, ◌≡◌, ℕ, ◌+◌, ◌-◌, ◌≤◌, Ok, Err}
use Rattle.reading.specs.Byte.{is}
use Rattle.reading.specs.Kind.{charᵏ, errorᵏ, importᵏ}
use Rattle.reading.specs.Grammar.{Rows, State, Input, ok, run1, one, Parser, ◌▸◌, leaf, over, scoped, complain, error_at, first_low, parse}
use Rattle.reading.specs.Rules.{opt, mws, directive, block}
use Rattle.reading.specs.Table.{row_width, request_width}
use Rattle.table.specs.Words.{pushed, row_record, request_record}
use Rattle.trivia.specs.Class.{among}
use Rattle.cursor.specs.Text.{here, cursor}
use Rattle.cursor.specs.declared.Cursor.{Cursor}
use Rattle.cursor.specs.declared.Skip.{Skip}
use Rattle.cursor.specs.Read.{Read}
use Rattle.state.specs.declared.State.{State as Counts}
use Rattle.state.specs.Done.{Done}
use Rattle.state.specs.Acts.{Tables, rules, Does, Noted, Reported, Fit}
use Rattle.statement.specs.declared.Body.{Body}
use Rattle.statement.specs.declared.Body.TheVariants.{Maybe, Block, Branches}
use Rattle.cursor.specs.declared.Stop.TheVariants.{Miss, Deep}

-- Parsers over a byte or a class -------------------------------------------

unfoldable pub mark_of : ℕ → Parser
mark_of b = mws charᵏ b (leaf (one (is b)))

unfoldable pub error_of : ℕ → Parser
error_of class = complain (mws errorᵏ 0 (leaf (run1 (among class false))))

-- Quiet readers ------------------------------------------------------------

abbrev pub met_of : Read → Bool
met_of (Ok d) = d.met
met_of (Err (Miss m)) = m
met_of (Err Deep) = false

abbrev pub done_from : Read → Counts → Done
done_from (Ok d) x = Ok (cursor d.at.0 d.count.0 false, x)
done_from (Err (Miss m)) x = Err (Miss x)
done_from (Err Deep) x = Err Deep

-- f with the state st, in a text that ends at n
pub record Lifted (n : ℕ) (f : Read) (st : Counts) (e e' : List ℕ) (r : Done) : Type 0 where
  pub x : Counts
  pub noted : Noted n (met_of f) st x e e'
  pub answer : r ≡ done_from f x

-- What may be missing ------------------------------------------------------

-- what was tried from c on may be missing
unfoldable pub optional : Cursor → Done → Done
optional c (Ok a) = Ok a
optional c (Err (Miss x)) = Ok (cursor c.at.0 c.count.0 false, x)
optional c (Err Deep) = Err Deep

-- an answer stays as it is; at a miss the report of this code is made at c, and what stands behind is read from there
pub record Expected (code : ℕ) (c : Cursor) (h : Done) (e e' : List ℕ) (r : Done) : Type 0 where
  pub kept : ((x : Counts) → h ≡ Err (Miss x) → ⊥) → (r ≡ h) × (e' ≡ e)
  pub missing : (x : Counts) → h ≡ Err (Miss x) → (y : Counts) × Reported (error_at code c.at.0) x y e e' × (r ≡ Ok (cursor c.at.0 c.count.0 false, y))

-- The row around a statement -----------------------------------------------

abbrev pub closing : Bool → ℕ → Parser → Parser → Parser
closing true k m n = scoped k m n
closing false k m n = over k 0 m n

abbrev pub closed_detail : Bool → Counts → ℕ
closed_detail true st = st.scope + 1
closed_detail false st = 0

abbrev pub closed_state : Bool → Counts → Counts
closed_state true st = record { scope = st.scope + 1; swallow = st.swallow; errors = st.errors; requests = st.requests }
closed_state false st = st

abbrev pub closed_rows : ℕ → ℕ → Cursor → Skip → Cursor → List ℕ → List ℕ
closed_rows kind detail c k d t =
    pushed row_width t d.count.0 (row_record kind (d.count.0 + 1 - c.count.0) c.at.0 k.at.0 d.at.0 detail)

pub record Closed (scope : Bool) (kind : ℕ) (c : Cursor) (k : Skip) (d : Cursor) (st : Counts) (t t' : List ℕ) (r : Done) : Type 0 where
  pub table : t' ≡ closed_rows kind (closed_detail scope st) c k d t
  pub answer : r ≡ Ok (cursor d.at.0 (d.count.0 + 1) false, closed_state scope st)

abbrev pub imported_state : Counts → Counts
imported_state st = record { scope = st.scope + 1; swallow = st.swallow; errors = st.errors; requests = st.requests + 1 }

pub record Imported (low high : ℕ) (c : Cursor) (k : Skip) (d : Cursor) (st : Counts) (t t' q q' : List ℕ) (r : Done) : Type 0 where
  pub rows : t' ≡ closed_rows importᵏ (st.scope + 1) c k d t
  pub requests : q' ≡ pushed request_width q st.requests (request_record low high)
  pub answer : r ≡ Ok (cursor d.at.0 (d.count.0 + 1) false, imported_state st)

-- Behind a head ------------------------------------------------------------

unfoldable pub body_of : Body → Parser
body_of Maybe = opt block
body_of Block = block
body_of Branches = block ▸ opt (directive "else" ▸ block)

-- wherever m fits at the place i, its first tree begins at low
pub record Begins (m : Parser) (s : List ℕ) (i low : ℕ) : Type 0 where
  pub first : (l : ℕ) (w : State) (v : Rows) (q : Input) (u : State) → parse (rules s) m l (here s i) w ≡ ok v q u → first_low v ≡ low

-- a head has answered h, and where it fits what follows may be read
pub record Headed (s : List ℕ) (c : Cursor) (h : Done) : Type 0 where
  pub fit : (d : Cursor) (x : Counts) → h ≡ Ok (d, x) → Fit 0 s d x
  pub grown : (d : Cursor) (x : Counts) → h ≡ Ok (d, x) → c.count.0 ≤ d.count.0

-- the rest of a statement, whatever its head m ▸ n was
pub record Ends (b : Body) (scope : Bool) (kind : ℕ) (s : List ℕ) (c : Cursor) (k : Skip) (h : Done) (left : ℕ) (T T' : Tables) (r : Done) : Type 0 where
  pub does : (m n : Parser) (st : Counts) (T₀ : Tables) → Begins m s c.at.0 k.at.0 → Does (m ▸ n) s c st left T₀ T h
      → Does (closing scope kind m (n ▸ body_of b)) s c st left T₀ T' r

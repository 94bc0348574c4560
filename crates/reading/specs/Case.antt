-- A text, the state that it is read from, and what its reading is.
use Rattle.std.specs.Prelude.{Bool, false, List, [], ◌∷◌, ◌≡◌, ℕ}
use Rattle.std.proofs.Math.Option.{Option, none, some}
use Rattle.reading.specs.Grammar.{Rows, Error, Request, State, Reply, ok, err}
use Rattle.reading.specs.Reading.{written}
use Rattle.reading.specs.Table.{columns}

pub record Case : Type 0 where
  pub text : List ℕ
  pub scope : ℕ
  pub flag : Bool
  pub rows : List (List ℕ)
  pub end : State

-- the words of each row
abbrev pub told : List ℕ → Rows → List (List ℕ)
told text [] = []
told text (x ∷ xs) = columns text x ∷ told text xs

-- a reading's rows and end state
abbrev pub answer : List ℕ → Reply Rows → Option (List (List ℕ) × State)
answer text (ok v q w) = some (told text v, w)
answer text (err w) = none

-- what the written reading gives for each case, and what the case says
abbrev pub read : List Case → List (Option (List (List ℕ) × State))
read [] = []
read (c ∷ cs) = answer c.text (written c.text c.scope c.flag) ∷ read cs

abbrev pub said : List Case → List (Option (List (List ℕ) × State))
said [] = []
said (c ∷ cs) = some (c.rows, c.end) ∷ said cs

-- the claim across a table
abbrev pub Hold : List Case → Type 0
Hold cs = read cs ≡ said cs

-- how a row's words, an error, a request and an end state (scope, flag, errors, requests, highest level) are written in a table
abbrev pub r : ℕ → ℕ → ℕ → ℕ → ℕ → ℕ → ℕ → List ℕ
r k s t a z d l = k ∷ s ∷ t ∷ a ∷ z ∷ d ∷ l ∷ []

abbrev pub e : ℕ → ℕ → ℕ → Error
e c a z = record { code = c; low = a; high = z }

abbrev pub q : ℕ → ℕ → Request
q a z = record { low = a; high = z }

abbrev pub w : ℕ → Bool → List Error → List Request → ℕ → State
w n f es qs k = record { scope = n; swallow = f; errors = es; requests = qs; peak = k }

-- a case from the starting state of the listing program: text, rows, end state
abbrev pub case : List ℕ → List (List ℕ) → State → Case
case t rs v = record { text = t; scope = 0; flag = false; rows = rs; end = v }

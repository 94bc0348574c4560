-- There is one proof at most that something was skipped: a spot keeps it as a fact.
use Rattle.std.specs.Prelude.{Bool, ◌||◌, List, [], ◌≡◌, ℕ, ◌≤◌, length}
use Rattle.std.specs.Coded.{codes}
use Rattle.std.proofs.Common.{sym, ◌∙◌, ap, subst}
use Rattle.std.proofs.Props.{props}
use Rattle.reading.specs.Grammar.{Rows, Rule, Input, Parser}
use Rattle.reading.specs.Summary.{Summary, fits, Scan, scan}
use Rattle.cursor.specs.Agree.{full}
use Rattle.cursor.specs.Text.{here, Skips}
use Rattle.cursor.specs.declared.Skip.{Skip}

-- all but the flag of what was skipped
abbrev Rest : Parser → List ℕ → ℕ → Bool → Skip → Bool → Type 0
Rest g s i met r o =
    ((τ : Rule → Scan Rows) (l : ℕ) → scan τ g l (here s i) ≡ fits [] (here s r.at.0) o 0) × (r.met ≡ met || o) × (i ≤ r.at.0) × (r.at.0 ≤ length s)

abbrev whole : (g : Parser) (s : List ℕ) (i : ℕ) (met : Bool) (r : Skip) (o : Bool) → Rest g s i met r o → Skips g s i met r
whole g s i met r o a = record { open? = o; is = a.0; noted = a.1; on = a.2; within = a.3 }

rest_prop : (g : Parser) (s : List ℕ) (i : ℕ) (met : Bool) (r : Skip) (o : Bool) → IsProp (Rest g s i met r o)
rest_prop g s i met r o = Prim.hlevel (props, codes)

flag : {q : Input} {a b : Bool} → ◌≡◌ {A = Summary Rows} (fits [] q a 0) (fits [] q b 0) → a ≡ b
flag e = cc

pub skips_once : (g : Parser) (s : List ℕ) (i : ℕ) (met : Bool) (r : Skip) → IsProp (Skips g s i met r)
skips_once g s i met r x y =
    go y.open? (flag (sym (x.is (full s) 0) ∙ y.is (full s) 0)) (y.is, y.noted, y.on, y.within)
  where
    go : (o : Bool) → x.open? ≡ o → (b : Rest g s i met r o) → x ≡ whole g s i met r o b
    go o e = let P : Bool → Type 0 = λ o. (b : Rest g s i met r o) → x ≡ whole g s i met r o b in
        subst P e λ b. ap (whole g s i met r x.open?) (rest_prop g s i met r x.open? (x.is, x.noted, x.on, x.within) b)
